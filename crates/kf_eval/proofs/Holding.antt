-- What rows, tuples and stores hold.
use Rattle.std.proofs.Common.{◌≡◌, ℕ, ◌<◌, List, [], ◌∷◌, length, map, get_or, slice_get, zero, suc, Some, IfOk, Result, sym, ap, ◌∙◌, subst, Bool, true, false, arith}
use Rattle.std.specs.Prelude.{slice_index, None, IsTrue}
use Rattle.std.specs.List.{list_all}
use Rattle.std.proofs.lemmas.Bool.{and_parts}
use Rattle.std.specs.Option.{option_map}
use Rattle.std.proofs.lemmas.Option.{slice_get-map, slice_get-get_or, slice_get_within, get_or_from_slice_get}
use Rattle.std.proofs.lemmas.List.{length-map}
use Rattle.std.proofs.lemmas.List.Elements.{recursion_from_All}
use Rattle.kf_value.specs.Values.{ValueTree, Truth, Tuple, parts}
use Rattle.kf_value.specs.Kinds.{TupleKind, kind_parts}
use Rattle.kf_value.specs.Forms.{HasKind}
use Rattle.kf_value.specs.Types.{TypeTree, count, product, values}
use Rattle.kf_value.specs.Sizes.{fault_of, well_formed, HasSize}
use Rattle.kf_value.specs.TypeViews.{type_tree}
use Rattle.kf_value.specs.Shapes.{shape_types, shape_sizes}
use Rattle.kf_value.specs.Numbers.{IsStore}
use Rattle.kf_value.specs.Views.{value_tree, value_items, value_trees, type_items, type_trees}
use Rattle.kf_value.specs.declared.shape.Shape.{Shape}
use Rattle.kf_value.specs.declared.ty.Ty.{Ty}
use Rattle.kf_value.specs.declared.ty.TyList.{TyList}
use Rattle.kf_value.specs.declared.value.Value.{Value}
use Rattle.kf_value.specs.declared.value.Value.TheVariants as value
use Rattle.kf_value.specs.declared.value.ValueList.{ValueList}
use Rattle.kf_value.proofs.ListLemmas.{each_at, mapped_read}
use Rattle.kf_value.proofs.Trees.{parts_list-parts, value_tree-Tuple}
use Rattle.kf_ops.specs.Places.{IsRow}
use Rattle.kf_ops.specs.Rows.{Row, operators, unary}
use Rattle.kf_ops.specs.declared.row.Op.{Op}
use Rattle.kf_ops.specs.declared.row.Pat.TheVariants as pat
use Rattle.kf_core.specs.Runs.{store_at}
use Rattle.kf_core.specs.Evaluation.{operator_at, part_of}
use Rattle.kf_core.proofs.Keeping.{kinds_length}
use Rattle.kf_core.proofs.Stores.{store_is}
use Rattle.kf_eval.specs.Kinds.{HasPart}

pub code_found : (row : ℕ) (code : Op) → ((r : Row) → IsRow row r → r.code ≡ code) → row < length operators → operator_at row ≡ Some code
code_found row code known within =
    let r = get_or operators row (unary [] 0 pat.Nothing pat.Nothing code) in
    let here : slice_get operators row ≡ Some r = slice_get-get_or operators row (unary [] 0 pat.Nothing pat.Nothing code) within in
    ap (option_map (λ t. t.code)) here ∙ ap (λ c. Some c) (known r here)

-- ---- parts of a tuple

module _ (v : Value) (vs : ValueList) (k : ℕ) (is : v ≡ value.Tuple vs) where
  shown : value_tree v ≡ Tuple (parts (value_trees vs))
  shown = ap value_tree is ∙ value_tree-Tuple vs

  pub part_within : HasPart (value_tree v) k → k < length (value_items vs)
  part_within has =
      let tuple = subst (λ t. HasKind t (TupleKind (kind_parts has.0))) shown has.2 in
      let inside = slice_get_within has.0 k has.1 has.3 in
      let same = kinds_length (value_trees vs) has.0 tuple in
      let long = length-map (value_items vs) value_tree in
      omega arith

  pub part_found : (x : Value) → k < length (value_items vs) → x ≡ get_or (value_items vs) k x → part_of k (value_tree v) ≡ value_tree x
  part_found x within read =
      ap (part_of k) shown
      ∙ (ap (λ ws. get_or ws k (Truth false)) (parts_list-parts (value_trees vs))
      ∙ get_or_from_slice_get (value_trees vs) k (value_tree x) (Truth false) (mapped_read value_tree (value_items vs) k x within read))

-- ---- variables of a store

pub types_length : (shape : Shape) (list : TyList) (read : List Ty) → type_trees list ≡ shape_types shape → read ≡ type_items list → length read ≡ length (shape_types shape)
types_length shape list read same is = sym (length-map read type_tree) ∙ ap length (ap (map type_tree) is ∙ same)

all_at : {X : Type 0} (p : X → Bool) (xs : List X) (i : ℕ) (x : X) → list_all p xs ≡ true → slice_get xs i ≡ Some x → p x ≡ true
all_at p [] i x all at = (cc)
all_at p (y ∷ xs) zero x all at =
    let same : y ≡ x = (cc) in
    subst (λ z. p z ≡ true) same (and_parts (p y) (list_all p xs) all).0
all_at p (y ∷ xs) (suc i) x all at = all_at p xs i x (and_parts (p y) (list_all p xs) all).1 at

module _ (shape : Shape) (list : TyList) (read : List Ty) (i : ℕ) (x : Ty) (same : type_trees list ≡ shape_types shape) (is : read ≡ type_items list)
    (within : i < length (shape_types shape)) (at : x ≡ get_or read i x) where
  pub type_at : slice_get (shape_types shape) i ≡ Some (type_tree x)
  type_at =
      let listed : map type_tree read ≡ shape_types shape = ap (map type_tree) is ∙ same in
      let long : i < length read = rw (← length-map read type_tree, listed) within in
      ap (λ ts. slice_get ts i) (sym listed) ∙ mapped_read type_tree read i x long at

  pub type_sized : HasSize (type_tree x)
  type_sized = each_at (λ t. fault_of t ≡ None) (shape_types shape) i (type_tree x) (recursion_from_All (λ t. fault_of t ≡ None) (shape_types shape) shape.sized) type_at

  pub type_formed : IsTrue (well_formed (type_tree x))
  type_formed = all_at well_formed (shape_types shape) i (type_tree x) shape.formed type_at

  pub size_at : slice_index (shape_sizes shape) i ≡ count (type_tree x)
  size_at = get_or_from_slice_get (shape_sizes shape) i (count (type_tree x)) 0
      (slice_get-map count (shape_types shape) i ∙ ap (option_map count) type_at)

  pub digit_found : (n k : ℕ) → n < product (shape_sizes shape)
      → ((t : TypeTree) (s : List ValueTree) → slice_get (shape_types shape) i ≡ Some t → IsStore (shape_types shape) n s → slice_get s i ≡ slice_get (values t) k)
      → slice_get (store_at (shape_types shape) n) i ≡ slice_get (values (type_tree x)) k
  digit_found n k below digit = digit (type_tree x) (store_at (shape_types shape) n) type_at (store_is (shape_types shape) n below)

  pub value_found : {E : Type 0} (n k : ℕ) (r : Result Value E) → n < product (shape_sizes shape)
      → ((t : TypeTree) (s : List ValueTree) → slice_get (shape_types shape) i ≡ Some t → IsStore (shape_types shape) n s → slice_get s i ≡ slice_get (values t) k)
      → IfOk r (λ v. slice_get (values (type_tree x)) k ≡ Some (value_tree v)) → IfOk r (λ v. slice_get (store_at (shape_types shape) n) i ≡ Some (value_tree v))
  value_found n k r below digit found = subst (λ o. IfOk r (λ v. o ≡ Some (value_tree v))) (sym (digit_found n k below digit)) found
