-- What is written of values, part by part.
use Rattle.std.proofs.Common.{◌≡◌, ◌==◌, ℕ, ℤ, suc, ◌+◌, ◌<◌, ◌≤◌, Bool, true, false, List, [], ◌∷◌, ◌++◌, length, map, take, drop, get_or, Result, Ok, Err, IfOk, refl, sym, ap, ◌∙◌, subst, arith}
use Rattle.std.proofs.lemmas.Bool.{eqb-true}
use Rattle.std.proofs.lemmas.List.{append-nil, length-map, map-append, take_all, take_more}
use Rattle.std.proofs.lemmas.Option.{get_or_from_slice_get}
use Rattle.std.specs.Prelude.{IsOkAnd}
use Rattle.std.specs.List.{AllByRecursion as Each}
use Rattle.kf_value.specs.Sizes.{HasNumber}
use Rattle.kf_value.specs.Values.{ValueTree, Truth, elements, whole}
use Rattle.kf_value.specs.Types.{TypeTree, Range, TupleOf, SetOf, type_parts, values as values_of}
use Rattle.kf_value.specs.TypeViews.{type_tree}
use Rattle.kf_value.specs.Views.{value_tree, value_trees}
use Rattle.kf_value.specs.declared.ty.Ty.{Ty}
use Rattle.kf_value.specs.declared.value.Value.{Value}
use Rattle.kf_value.specs.declared.value.Value.TheVariants as value
use Rattle.kf_value.specs.declared.value.ValueList.{ValueList}
use Rattle.kf_value.proofs.Trees.{constructors, parts_list-parts, value_tree-Tuple, value_tree-Set}
use Rattle.kf_value.proofs.ListLemmas.{left_step, left_end}
use Rattle.kf_ops.specs.Places.{number_of}
use Rattle.kf_ops.specs.declared.row.Op.TheVariants as op
use Rattle.kf_ast.specs.Exprs.{ExprTree, expr_at, exprs, Apply}
use Rattle.kf_ast.specs.Exprs as form
use Rattle.kf_ast.specs.Views.{expr_tree}
use Rattle.kf_ast.specs.declared.expr.Expr.{Expr}
use Rattle.kf_prior.specs.FullSources.{literal, only, part_literals, parts_of, set_literal}
use Rattle.kf_prior.specs.Literals.{IsBase, IsShort, HasLiteral, HaveLiterals, least_of}
use Rattle.kf_prior.proofs.Turns.{pushed}

pub parts_of-Tuple : (vs : ValueList) → parts_of (value_tree (value.Tuple vs)) ≡ value_trees vs
parts_of-Tuple vs = ap parts_of (value_tree-Tuple vs) ∙ parts_list-parts (value_trees vs)

pub elements-Set : (vs : ValueList) → elements (value_tree (value.Set vs)) ≡ value_trees vs
elements-Set vs = ap elements (value_tree-Set vs) ∙ parts_list-parts (value_trees vs)

pub ruleset readings = (constructors, parts_of-Tuple, elements-Set)

pub tuple_literals : (t : TypeTree) (ts : List TypeTree) (v : ValueTree) (vs : List ValueTree) → t ≡ TupleOf (type_parts ts) → vs ≡ parts_of v → HasLiteral t v
    → HaveLiterals (type_parts ts) vs
tuple_literals t ts v vs type are h =
    let known = subst (λ u. HasLiteral u v) type h in
    let same : vs ≡ known.0 = are ∙ (ap parts_of known.1 ∙ parts_list-parts known.0) in
    subst (HaveLiterals (type_parts ts)) (sym same) known.3

pub set_literals : (t base : TypeTree) (v : ValueTree) (vs : List ValueTree) → t ≡ SetOf base → vs ≡ elements v → HasLiteral t v
    → IsBase base × (HasLiteral base (least_of base) × Each (HasLiteral base) vs)
set_literals t base v vs type are h =
    let known = subst (λ u. HasLiteral u v) type h in
    let same : vs ≡ known.0 = are ∙ (ap elements known.1 ∙ parts_list-parts known.0) in
    (known.3, (known.4, subst (Each (HasLiteral base)) (sym same) known.5))

have_length : (ts : List TypeTree) (vs : List ValueTree) → HaveLiterals (type_parts ts) vs → length ts ≡ length vs
have_length [] [] h = refl
have_length [] (v ∷ vs) h = absurd h
have_length (t ∷ ts) [] h = absurd h
have_length (t ∷ ts) (v ∷ vs) h = ap suc (have_length ts vs h.1)

-- so far, and what is left, are all parts
pub record PartsGoOn (at : ℕ) (types : List Ty) (values : List Value) (i : ℕ) (done : List Expr) : Type 0 where
  pub long : length types ≡ length values
  pub left : HaveLiterals (type_parts (map type_tree (drop i types))) (map value_tree (drop i values))
  pub whole :
      map expr_tree done ++ part_literals at (type_parts (map type_tree (drop i types))) (map value_tree (drop i values))
      ≡ part_literals at (type_parts (map type_tree types)) (map value_tree values)

module _ (at : ℕ) (types : List Ty) (values : List Value) where
  pub parts_start : HaveLiterals (type_parts (map type_tree types)) (map value_tree values) → PartsGoOn at types values 0 []
  parts_start h =
      let same = have_length (map type_tree types) (map value_tree values) h in
      let first = length-map types type_tree in
      let second = length-map values value_tree in
      record { long = omega arith; left = h; whole = refl }

  module _ (i : ℕ) (done : List Expr) (before : PartsGoOn at types values i done) where
    parts_left : (t : Ty) (v : Value) → i < length types → t ≡ get_or types i t → v ≡ get_or values i v
        → (map type_tree (drop i types) ≡ type_tree t ∷ map type_tree (drop (i + 1) types)) × (map value_tree (drop i values) ≡ value_tree v ∷ map value_tree (drop (i + 1) values))
    parts_left t v within is are = (left_step type_tree types i t within is, left_step value_tree values i v (let long = before.long in omega arith) are)

    pub part_here : (t : Ty) (v : Value) → i < length types → t ≡ get_or types i t → v ≡ get_or values i v → HasLiteral (type_tree t) (value_tree v)
    part_here t v within is are =
        let left = parts_left t v within is are in
        (rw (left.0, left.1) at before.left).0

    pub parts_turn : (t : Ty) (v : Value) (x : Expr) → i < length types → t ≡ get_or types i t → v ≡ get_or values i v → expr_tree x ≡ literal at (type_tree t) (value_tree v)
        → PartsGoOn at types values (i + 1) (done ++ x ∷ [])
    parts_turn t v x within is are written =
        let left = parts_left t v within is are in
        let rest = part_literals at (type_parts (map type_tree (drop (i + 1) types))) (map value_tree (drop (i + 1) values)) in
        record {
          long = before.long;
          left = (rw (left.0, left.1) at before.left).1;
          whole = pushed expr_tree done x rest ∙ (ap (λ y. map expr_tree done ++ y ∷ rest) written ∙ (rw (left.0, left.1) at before.whole));
        }

    pub parts_all : length types ≤ i → map expr_tree done ≡ part_literals at (type_parts (map type_tree types)) (map value_tree values)
    parts_all past = sym (append-nil (map expr_tree done)) ∙ (rw (left_end type_tree types i past) at before.whole)

-- a whole number of a range
pub short_whole : (t : TypeTree) (lo hi : ℤ) (v : ValueTree) → t ≡ Range lo hi → HasLiteral t v → IsShort (whole v)
short_whole t lo hi v type h =
    let known = subst (λ u. HasLiteral u v) type h in
    subst (λ (w : ValueTree). IsShort (whole w)) (sym known.1) known.2

-- a value with the number 0 is the least
least_is : (t : TypeTree) (v : ValueTree) → HasNumber t v 0 → least_of t ≡ v
least_is t v here = get_or_from_slice_get (values_of t) 0 v (Truth false) here

pub least_written : (t : TypeTree) (v : ValueTree) → HasNumber t v 0 → HasLiteral t (least_of t) → HasLiteral t v
least_written t v here least = subst (HasLiteral t) (least_is t v here) least

-- one member more
pub member_written : (at : ℕ) (t : TypeTree) (vs : List Value) (i : ℕ) (v : Value) (members : List Expr) (x : Expr) → i < length vs → v ≡ get_or vs i v → expr_tree x ≡ literal at t (value_tree v)
    → map expr_tree members ≡ map (literal at t) (map value_tree (take i vs)) → map expr_tree (members ++ x ∷ []) ≡ map (literal at t) (map value_tree (take (i + 1) vs))
member_written at t vs i v members x within is written had =
    let longer : take (i + 1) vs ≡ take i vs ++ v ∷ [] = take_more vs i v within ∙ ap (λ w. take i vs ++ w ∷ []) (sym is) in
    map-append expr_tree members (x ∷ [])
    ∙ ((λ k. had k ++ written k ∷ [])
    ∙ sym (ap (λ ws. map (literal at t) (map value_tree ws)) longer ∙ (ap (map (literal at t)) (map-append value_tree (take i vs) (v ∷ [])) ∙ map-append (literal at t) (map value_tree (take i vs)) (value_tree v ∷ []))))

-- all members, of which there is one at least
pub members_written : (at : ℕ) (t : TypeTree) (vs : List Value) (i : ℕ) (b : Bool) (members : List Expr) (x : Expr) → b ≡ (length vs == 0) → b ≡ false → length vs ≤ i
    → map expr_tree members ≡ map (literal at t) (map value_tree (take i vs)) → expr_tree x ≡ expr_at at (form.SetOf (exprs (map expr_tree members)))
    → expr_tree x ≡ set_literal at (literal at t (least_of t)) (map (literal at t) (map value_tree vs))
members_written at t [] i b members x is some past had written = absurd (cc)
members_written at t (v ∷ vs) i b members x is some past had written =
    written ∙ ap (λ xs. expr_at at (form.SetOf (exprs xs))) (had ∙ ap (λ ws. map (literal at t) (map value_tree ws)) (take_all i (v ∷ vs) past))

-- the set of one expression, where that was written
pub only_written : {E : Type 0} (at : ℕ) (y : ExprTree) (member result : Result Expr E) (x : Expr) → result ≡ Ok x
    → IfOk result (λ s. IsOkAnd member (λ m. expr_tree s ≡ only at (expr_tree m))) → IfOk member (λ m. expr_tree m ≡ y) → expr_tree x ≡ only at y
only_written at y (Ok m) result x is made written = subst (λ r. IfOk r (λ s. expr_tree s ≡ only at (expr_tree m))) is made ∙ ap (only at) written
only_written at y (Err e) result x is made written = absurd (subst (λ r. IfOk r (λ s. ⊥)) is made)

-- where there is none, the least value's set less itself
pub nothing_written : (at : ℕ) (t : TypeTree) (vs : List Value) (b : Bool) (least : ValueTree) (first second x : Expr) (args : List Expr) → b ≡ (length vs == 0) → b ≡ true → HasNumber t least 0
    → expr_tree first ≡ only at (literal at t least) → expr_tree second ≡ only at (literal at t least) → args ≡ first ∷ second ∷ []
    → expr_tree x ≡ expr_at at (Apply (number_of op.Without) (exprs (map expr_tree args)))
    → expr_tree x ≡ set_literal at (literal at t (least_of t)) (map (literal at t) (map value_tree vs))
nothing_written at t (v ∷ vs) b least first second x args is none here one two are written =
    let zero : length (v ∷ vs) ≡ 0 = eqb-true (length (v ∷ vs)) 0 (sym is ∙ none) in absurd (omega arith)
nothing_written at t [] b least first second x args is none here one two are written =
    let same = sym (least_is t least here) in
    written ∙ (ap (λ xs. expr_at at (Apply (number_of op.Without) (exprs (map expr_tree xs)))) are
    ∙ ((λ k. expr_at at (Apply (number_of op.Without) (exprs (one k ∷ two k ∷ []))))
    ∙ ap (λ l. expr_at at (Apply (number_of op.Without) (exprs (only at (literal at t l) ∷ only at (literal at t l) ∷ [])))) same))
