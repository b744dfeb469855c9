-- For bodies: what a checked program is: each node has its kind, and its lists agree with its shape.
use Rattle.std.specs.Prelude.{◌≡◌, ℕ, pos, ◌+◌, ◌<◌, ◌≤◌, ◌↔◌, Bool, List, [], ◌∷◌, length, map, take, slice_get, Some, IsTrue}
use Rattle.kf_value.specs.Values.{Truth, Whole}
use Rattle.kf_value.specs.Types.{TypeTree}
use Rattle.kf_value.specs.Targets.{Item}
use Rattle.kf_value.specs.Kinds.{KindTree, TruthKind, WholeKind, TupleKind, SetKind, kind_parts, kind_of}
use Rattle.kf_ops.specs.Rows.{Row}
use Rattle.kf_ops.specs.Places.{IsRow, pattern_kind}
use Rattle.kf_core.specs.Exs.{ExTree, Const, Slot, Apply, Tuple, SetOf, Part}
use Rattle.kf_core.specs.Dxs.{DxTree, dx_at, DxCaseTree, case_of, Sure, UniformSet, UniformRange, Choose, Flip}
use Rattle.kf_core.specs.Sts.{StTree, Skip, Assign, Observe, If, While, sts}
use Rattle.kf_core.specs.Programs.{ProgramTree}
use Rattle.kf_core.specs.Each.{exs}

mutual
  -- where variables have these kinds, the expression has this one
  pub data Kinded (ks : List KindTree) : ExTree → KindTree → Type 0 where
    truth : (b : Bool) → Kinded ks (Const (Truth b)) TruthKind
    whole : (n : ℕ) → Kinded ks (Const (Whole (pos n))) WholeKind
    slot : (i : ℕ) {k : KindTree} → slice_get ks i ≡ Some k → Kinded ks (Slot i) k
    apply : (row : ℕ) (r : Row) (any : KindTree) {xs : List ExTree} → IsRow row r
        → EachKinded ks xs (map (pattern_kind any) (take r.arity r.args))
        → Kinded ks (Apply row (exs xs)) (pattern_kind any r.result)
    tuple : {xs : List ExTree} {js : List KindTree} → EachKinded ks xs js → 2 ≤ length xs
        → Kinded ks (Tuple (exs xs)) (TupleKind (kind_parts js))
    set : {xs : List ExTree} {k : KindTree} → AllKinded ks xs k → 1 ≤ length xs → Kinded ks (SetOf (exs xs)) (SetKind k)
    part : {x : ExTree} (n : ℕ) (js : List KindTree) {k : KindTree} → Kinded ks x (TupleKind (kind_parts js)) → slice_get js n ≡ Some k
        → Kinded ks (Part x n) k

  -- expressions that have these kinds, one by one
  pub data EachKinded (ks : List KindTree) : List ExTree → List KindTree → Type 0 where
    none : EachKinded ks [] []
    more : {x : ExTree} {xs : List ExTree} {j : KindTree} {js : List KindTree} → Kinded ks x j → EachKinded ks xs js
        → EachKinded ks (x ∷ xs) (j ∷ js)

  -- expressions that all have this kind
  pub data AllKinded (ks : List KindTree) : List ExTree → KindTree → Type 0 where
    no_more : {k : KindTree} → AllKinded ks [] k
    and_more : {x : ExTree} {xs : List ExTree} {k : KindTree} → Kinded ks x k → AllKinded ks xs k → AllKinded ks (x ∷ xs) k

-- cases with values of this kind
pub data CasesKinded (ks : List KindTree) : List DxCaseTree → KindTree → Type 0 where
  none : {k : KindTree} → CasesKinded ks [] k
  more : {x y : ExTree} {cs : List DxCaseTree} {k : KindTree} → Kinded ks x k → Kinded ks y WholeKind → CasesKinded ks cs k
      → CasesKinded ks (case_of x y ∷ cs) k

-- a distribution on values of this kind
pub data DistKinded (ks : List KindTree) : DxTree → KindTree → Type 0 where
  sure : (at : ℕ) {x : ExTree} {k : KindTree} → Kinded ks x k → DistKinded ks (dx_at at (Sure x)) k
  uniform_set : (at : ℕ) {x : ExTree} {k : KindTree} → Kinded ks x (SetKind k) → DistKinded ks (dx_at at (UniformSet x)) k
  uniform_range : (at : ℕ) {x y : ExTree} → Kinded ks x WholeKind → Kinded ks y WholeKind
      → DistKinded ks (dx_at at (UniformRange x y)) WholeKind
  choose : (at : ℕ) {cs : List DxCaseTree} {k : KindTree} → CasesKinded ks cs k → 1 ≤ length cs → DistKinded ks (dx_at at (Choose cs)) k
  flip : (at num den : ℕ) → 1 ≤ den → num ≤ den → DistKinded ks (dx_at at (Flip num den)) TruthKind

mutual
  -- where variables have these kinds, each node of the statement has the kind that is asked of it
  pub data IsSound (ks : List KindTree) : StTree → Type 0 where
    skip : IsSound ks Skip
    assign : (slot : ℕ) {d : DxTree} {k : KindTree} {shown : Bool} → slice_get ks slot ≡ Some k → DistKinded ks d k
        → IsSound ks (Assign slot d shown)
    observe : {d : DxTree} {k : KindTree} → DistKinded ks d k → IsSound ks (Observe d)
    if_else : {d : DxTree} {xs ys : List StTree} → DistKinded ks d TruthKind → AreSound ks xs → AreSound ks ys
        → IsSound ks (If d (sts xs) (sts ys))
    while : {d : DxTree} {xs : List StTree} → DistKinded ks d TruthKind → AreSound ks xs → IsSound ks (While d (sts xs))

  pub data AreSound (ks : List KindTree) : List StTree → Type 0 where
    none : AreSound ks []
    more : {x : StTree} {xs : List StTree} → IsSound ks x → AreSound ks xs → AreSound ks (x ∷ xs)

-- the kinds of the declared variables
abbrev pub declared_kinds : ProgramTree → List KindTree
declared_kinds p = map kind_of (take (length p.decls) p.types)

-- an item of the target is read from a variable of its type, which is a carried copy where the item is the value behind the declarations
pub record IsReadFrom (p : ProgramTree) (item : Item) (slot : ℕ) : Type 0 where
  pub type_is : slice_get p.types slot ≡ Some item.ty
  pub carried : IsTrue item.initial ↔ (length p.decls ≤ slot)

pub record IsChecked (p : ProgramTree) : Type 0 where
  -- each variable is declared or a carried copy
  pub counted : length p.decls + length p.copies ≡ length p.types
  -- a declared variable's distribution knows the variables before it, and is of its kind
  pub declared : (i : ℕ) (d : DxTree) (t : TypeTree) → slice_get p.decls i ≡ Some d → slice_get p.types i ≡ Some t
      → DistKinded (map kind_of (take i p.types)) d (kind_of t)
  -- a carried copy has the type of a declared variable
  pub copied : (j c : ℕ) → slice_get p.copies j ≡ Some c
      → (c < length p.decls) × (slice_get p.types (length p.decls + j) ≡ slice_get p.types c)
  pub sound : AreSound (declared_kinds p) p.body
  pub targeted : length p.target ≡ length p.target_slots
  pub read : (j slot : ℕ) (item : Item) → slice_get p.target j ≡ Some item → slice_get p.target_slots j ≡ Some slot
      → IsReadFrom p item slot
  -- no two items of the target are read from one variable
  pub apart : (j k slot : ℕ) → slice_get p.target_slots j ≡ Some slot → slice_get p.target_slots k ≡ Some slot → j ≡ k
