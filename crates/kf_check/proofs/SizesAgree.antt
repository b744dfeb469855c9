-- The rules of types say of a type what is said of its size.
use Rattle.std.specs.Prelude.{if◌then◌else◌}
use Rattle.std.proofs.Common.{◌≡◌, ℕ, ℤ, ◌≤◌, Bool, true, false, List, [], ◌∷◌, Option, Some, None, Ok, Err, Result, nat_le, refl, sym, ap, ◌∙◌, subst, arith, inl, inr}
use Rattle.std.proofs.lemmas.Bool.Decides.{nat_tests}
use Rattle.kf_value.specs.declared.ty.TyFault.{TyFault}
use Rattle.kf_value.specs.declared.ty.TyFault.TheVariants as fault
use Rattle.kf_value.specs.Types.{TypeTree, TypeTrees, Boolean, Range, TupleOf, SetOf, more_types, type_parts, count, in_bounds}
use Rattle.kf_value.specs.Sizes.{crowded, crowded_after, first_of, fault_within, first_fault}
use Rattle.kf_ast.specs.TypeForms.{TypeForm, TypeShape, TypeForms, type_at, no_types}
use Rattle.kf_ast.specs.TypeForms as form
use Rattle.kf_check.specs.declared.errors.TypeError.{TypeError}
use Rattle.kf_check.specs.Judgements.{Is, After}
use Rattle.kf_check.specs.Types.{greatest_size, Sized, JudgesType, JudgesTypeShape, JudgesTypes}
use Rattle.kf_check.specs.Laws.{plain_type, plain_shape, plain_types, IsFault, SizesAgree}
use Rattle.kf_check.specs.Variables.{greatest_base}

-- what is found is this, and has no fault; or this is its first fault
abbrev pub Same : {A : Type 0} → Option TyFault → A → Result A TypeError → Type 0
Same o x (Ok y) = (y ≡ x) × (o ≡ None)
Same o x (Err e) = (f : TyFault) × IsFault e f × (o ≡ Some f)

not_crowded : (limit n : ℕ) → n ≤ limit → crowded limit n ≡ None
not_crowded limit n low = let fits : nat_le n limit ≡ true = grind (arith, nat_tests) in ap (λ b. if b then None else Some fault.TooManyValues) fits

is_crowded : (limit n : ℕ) → (n ≤ limit → ⊥) → crowded limit n ≡ Some fault.TooManyValues
is_crowded limit n high = let large : nat_le n limit ≡ false = grind (arith, nat_tests) in ap (λ b. if b then None else Some fault.TooManyValues) large

sized_same : (limit at : ℕ) (t : TypeTree) (r : Result TypeTree TypeError) → Sized limit at t r → Same (crowded limit (count t)) t r
sized_same limit at t (Ok u) h = (h.1, not_crowded limit (count t) h.0)
sized_same limit at t (Err e) h = (fault.TooManyValues, subst (λ e. IsFault e fault.TooManyValues) (sym h.1) tt, is_crowded limit (count t) (λ low. h.0 t (low, refl)))

-- behind parts without a fault
after_none : (limit at : ℕ) (t u : TypeTree) (o : Option TyFault) (r : Result TypeTree TypeError) → o ≡ None → u ≡ t → Sized limit at u r → Same (crowded_after o limit t) t r
after_none limit at t u o r none same h =
    subst (λ p. Same (crowded_after p limit t) t r) (sym none) (sized_same limit at t r (subst (λ v. Sized limit at v r) same h))

after_some : (limit : ℕ) (t : TypeTree) (o : Option TyFault) (e : TypeError) (f : TyFault) → IsFault e f → o ≡ Some f → Same (crowded_after o limit t) t (Err e)
after_some limit t o e f is some = (f, is, ap (λ p. crowded_after p limit t) some)

ranged_same : (limit at : ℕ) (lo hi : ℤ) (r : Result TypeTree TypeError) → in_bounds lo hi ≡ true → Sized limit at (Range lo hi) r → Same (if in_bounds lo hi then crowded limit (count (Range lo hi)) else Some fault.BadRange) (Range lo hi) r
ranged_same limit at lo hi r inside h = subst (λ b. Same (if b then crowded limit (count (Range lo hi)) else Some fault.BadRange) (Range lo hi) r) (sym inside) (sized_same limit at (Range lo hi) r h)

outside : (b : Bool) → (b ≡ true → ⊥) → b ≡ false
outside true n = absurd (n refl)
outside false n = refl

-- the same of parts
abbrev SameParts : Option TyFault → TypeTrees → Result (List TypeTree) TypeError → Type 0
SameParts o ts (Ok us) = (type_parts us ≡ ts) × (o ≡ None)
SameParts o ts (Err e) = (f : TyFault) × IsFault e f × (o ≡ Some f)

-- a fault in a part behind the first
later : (x : TypeForm) (xs : TypeForms) (t : TypeTree) (e : TypeError) → fault_within 65536 (plain_type x) ≡ None → ((r : Result (List TypeTree) TypeError) → JudgesTypes xs r → SameParts (first_fault (plain_types xs)) (plain_types xs) r)
    → After (JudgesTypes xs) (λ ts. Is (t ∷ ts)) (Err e) → SameParts (first_fault (plain_types (form.more_types x xs))) (plain_types (form.more_types x xs)) (Err e)
later x xs t e none rest (inl h) = let ours = rest (Err e) h in (ours.0, ours.1, ap (λ o. first_of o (first_fault (plain_types xs))) none ∙ ours.2)
later x xs t e none rest (inr h) = let both : Err e ≡ Ok (t ∷ h.0) = h.2 in absurd (cc)

abbrev size_from : ℕ → Option TyFault → Result ℕ TyFault
size_from n o = elim o [ None ↦ Ok n | Some f ↦ Err f ]

mutual
  pub type_same : (limit : ℕ) → 2 ≤ limit → (x : TypeForm) (r : Result TypeTree TypeError) → JudgesType limit x r → Same (fault_within limit (plain_type x)) (plain_type x) r
  type_same limit two (type_at at shape) r h = shape_same limit two at shape r h

  shape_same : (limit : ℕ) → 2 ≤ limit → (at : ℕ) (shape : TypeShape) (r : Result TypeTree TypeError) → JudgesTypeShape limit at shape r → Same (fault_within limit (plain_shape shape)) (plain_shape shape) r
  shape_same limit two at form.Boolean (Ok u) h = let same : u ≡ Boolean = cc in (same, not_crowded limit 2 two)
  shape_same limit two at form.Boolean (Err e) h = absurd (cc)
  shape_same limit two at (form.Range lo hi) (Ok u) h = ranged_same limit at lo hi (Ok u) h.1.0 (subst (λ v. Sized limit at v (Ok u)) h.1.1 h.2)
  shape_same limit two at (form.Range lo hi) (Err e) (inl h) =
      let out : in_bounds lo hi ≡ false = outside (in_bounds lo hi) (λ inside. h.0 (Range lo hi) (inside, refl)) in
      (fault.BadRange, subst (λ e. IsFault e fault.BadRange) (sym h.1) tt, ap (λ b. if b then crowded limit (count (Range lo hi)) else Some fault.BadRange) out)
  shape_same limit two at (form.Range lo hi) (Err e) (inr h) = ranged_same limit at lo hi (Err e) h.1.0 (subst (λ v. Sized limit at v (Err e)) h.1.1 h.2)
  shape_same limit two at (form.TupleOf xs) (Ok u) h =
      let parts = types_same xs (Ok h.0) h.1 in after_none limit at (TupleOf (plain_types xs)) (TupleOf (type_parts h.0)) (first_fault (plain_types xs)) (Ok u) parts.1 (ap TupleOf parts.0) h.2
  shape_same limit two at (form.TupleOf xs) (Err e) (inl h) = let parts = types_same xs (Err e) h in after_some limit (TupleOf (plain_types xs)) (first_fault (plain_types xs)) e parts.0 parts.1 parts.2
  shape_same limit two at (form.TupleOf xs) (Err e) (inr h) =
      let parts = types_same xs (Ok h.0) h.1 in after_none limit at (TupleOf (plain_types xs)) (TupleOf (type_parts h.0)) (first_fault (plain_types xs)) (Err e) parts.1 (ap TupleOf parts.0) h.2
  shape_same limit two at (form.SetOf x) (Ok u) h =
      let base = type_same greatest_base (omega arith) x (Ok h.0) h.1 in after_none limit at (SetOf (plain_type x)) (SetOf h.0) (fault_within 16 (plain_type x)) (Ok u) base.1 (ap SetOf base.0) h.2
  shape_same limit two at (form.SetOf x) (Err e) (inl h) = let base = type_same greatest_base (omega arith) x (Err e) h in after_some limit (SetOf (plain_type x)) (fault_within 16 (plain_type x)) e base.0 base.1 base.2
  shape_same limit two at (form.SetOf x) (Err e) (inr h) =
      let base = type_same greatest_base (omega arith) x (Ok h.0) h.1 in after_none limit at (SetOf (plain_type x)) (SetOf h.0) (fault_within 16 (plain_type x)) (Err e) base.1 (ap SetOf base.0) h.2

  -- the parts of a tuple
  types_same : (xs : TypeForms) (r : Result (List TypeTree) TypeError) → JudgesTypes xs r → SameParts (first_fault (plain_types xs)) (plain_types xs) r
  types_same no_types (Ok ts) h = let same : ts ≡ [] = cc in (ap type_parts same, refl)
  types_same no_types (Err e) h = absurd (cc)
  types_same (form.more_types x xs) (Ok us) h =
      let first = type_same greatest_size (omega arith) x (Ok h.0) h.1 in
      let rest = types_same xs (Ok h.2.0) h.2.1 in
      let same : us ≡ h.0 ∷ h.2.0 = (let both : Ok us ≡ Ok (h.0 ∷ h.2.0) = h.2.2 in cc) in (
        ap type_parts same ∙ ap (λ t. more_types t (type_parts h.2.0)) first.0 ∙ ap (λ ts. more_types (plain_type x) ts) rest.0,
        ap (λ o. first_of o (first_fault (plain_types xs))) first.1 ∙ rest.1,
      )
  types_same (form.more_types x xs) (Err e) (inl h) =
      let first = type_same greatest_size (omega arith) x (Err e) h in (first.0, first.1, ap (λ o. first_of o (first_fault (plain_types xs))) first.2)
  types_same (form.more_types x xs) (Err e) (inr h) = later x xs h.0 e (type_same greatest_size (omega arith) x (Ok h.0) h.1).1 (types_same xs) h.2

pub sizes_agree : SizesAgree
sizes_agree x (Ok u) h = let same = type_same greatest_size (omega arith) x (Ok u) h in (same.0, ap (size_from (count (plain_type x))) same.1)
sizes_agree x (Err e) h = let same = type_same greatest_size (omega arith) x (Err e) h in (same.0, same.1, ap (size_from (count (plain_type x))) same.2)
