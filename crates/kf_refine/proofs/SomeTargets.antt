-- Two targets are the same, or they aren't.
use Rattle.std.proofs.Common.{◌≡◌, refl, ap, arith, ◌⊎◌, ⊎_elim, inl, inr, List, [], ◌∷◌, Bool, true, false}
use Rattle.std.proofs.Math.IntN.{ℤ, pos, negsuc}
use Rattle.std.proofs.lemmas.Int.{ints}
use Rattle.std.proofs.lemmas.Bool.{cases_eq}
use Rattle.kf_value.specs.Targets.{Item}
use Rattle.kf_value.specs.Types.{TypeTree, TypeTrees, Boolean, Range, TupleOf, SetOf, no_type, more_types}

-- it holds, or it doesn't
abbrev pub Decided : Type 0 → Type 0
Decided P = P ⊎ (P → ⊥)

-- as another fact is decided that holds where this one does
pub decided_by : {P Q : Type 0} → (P → Q) → (Q → P) → Decided P → Decided Q
decided_by to back d = ⊎_elim (λ h. inl (to h)) (λ no'. inr (λ q. no' (back q))) d

pub decided_both : {P Q : Type 0} → Decided P → Decided Q → Decided (P × Q)
decided_both d e =
    ⊎_elim (λ h. ⊎_elim (λ k. inl (h, k)) (λ no'. inr (λ both. no' both.1)) e) (λ no'. inr (λ both. no' both.0)) d

pub decided_not : {P : Type 0} → Decided P → Decided (P → ⊥)
decided_not d = ⊎_elim (λ h. inr (λ no'. no' h)) (λ no'. inl no') d

pub decided_if : {P Q : Type 0} → Decided P → Decided Q → Decided (P → Q)
decided_if d e =
    ⊎_elim (λ h. ⊎_elim (λ k. inl (λ _. k)) (λ no'. inr (λ f. no' (f h))) e) (λ no'. inl (λ p. absurd (no' p))) d

same_bool : (a b : Bool) → Decided (a ≡ b)
same_bool true true = inl refl
same_bool true false = inr (λ e. absurd (cc))
same_bool false true = inr (λ e. absurd (cc))
same_bool false false = inl refl

pub same_number : (a b : ℤ) → Decided (a ≡ b)
same_number (pos m) (pos n) = decided_by (λ e. ap pos e) (λ e. omega (arith, ints)) (cases_eq m n)
same_number (pos m) (negsuc n) = inr (λ e. omega (arith, ints))
same_number (negsuc m) (pos n) = inr (λ e. omega (arith, ints))
same_number (negsuc m) (negsuc n) = decided_by (λ e. ap negsuc e) (λ e. omega (arith, ints)) (cases_eq m n)

same_list : {X : Type 0} → ((x y : X) → Decided (x ≡ y)) → (xs ys : List X) → Decided (xs ≡ ys)
same_list decide [] [] = inl refl
same_list decide [] (y ∷ ys) = inr (λ e. absurd (cc))
same_list decide (x ∷ xs) [] = inr (λ e. absurd (cc))
same_list decide (x ∷ xs) (y ∷ ys) =
    decided_by (λ (both : (x ≡ y) × (xs ≡ ys)). λ i. both.0 i ∷ both.1 i) (λ e. ((cc), (cc))) (decided_both (decide x y) (same_list decide xs ys))

mutual
  same_type : (t u : TypeTree) → Decided (t ≡ u)
  same_type Boolean Boolean = inl refl
  same_type Boolean (Range lo hi) = inr (λ e. absurd (cc))
  same_type Boolean (TupleOf us) = inr (λ e. absurd (cc))
  same_type Boolean (SetOf u) = inr (λ e. absurd (cc))
  same_type (Range lo hi) Boolean = inr (λ e. absurd (cc))
  same_type (Range lo hi) (Range low high) =
      decided_by (λ (both : (lo ≡ low) × (hi ≡ high)). λ i. Range (both.0 i) (both.1 i)) (λ e. ((cc), (cc)))
      (decided_both (same_number lo low) (same_number hi high))
  same_type (Range lo hi) (TupleOf us) = inr (λ e. absurd (cc))
  same_type (Range lo hi) (SetOf u) = inr (λ e. absurd (cc))
  same_type (TupleOf ts) Boolean = inr (λ e. absurd (cc))
  same_type (TupleOf ts) (Range lo hi) = inr (λ e. absurd (cc))
  same_type (TupleOf ts) (TupleOf us) = decided_by (λ e. ap TupleOf e) (λ e. (cc)) (same_types ts us)
  same_type (TupleOf ts) (SetOf u) = inr (λ e. absurd (cc))
  same_type (SetOf t) Boolean = inr (λ e. absurd (cc))
  same_type (SetOf t) (Range lo hi) = inr (λ e. absurd (cc))
  same_type (SetOf t) (TupleOf us) = inr (λ e. absurd (cc))
  same_type (SetOf t) (SetOf u) = decided_by (λ e. ap SetOf e) (λ e. (cc)) (same_type t u)

  same_types : (ts us : TypeTrees) → Decided (ts ≡ us)
  same_types no_type no_type = inl refl
  same_types no_type (more_types u us) = inr (λ e. absurd (cc))
  same_types (more_types t ts) no_type = inr (λ e. absurd (cc))
  same_types (more_types t ts) (more_types u us) =
      decided_by (λ (both : (t ≡ u) × (ts ≡ us)). λ i. more_types (both.0 i) (both.1 i)) (λ e. ((cc), (cc)))
      (decided_both (same_type t u) (same_types ts us))

same_item : (a b : Item) → Decided (a ≡ b)
same_item a b =
    decided_by
    (λ (all : (a.initial ≡ b.initial) × ((a.name ≡ b.name) × (a.ty ≡ b.ty))). λ i. record { initial = all.0 i; name = all.1.0 i; ty = all.1.1 i })
    (λ e. ((ap (λ (x : Item). x.initial) e), ((ap (λ (x : Item). x.name) e), (ap (λ (x : Item). x.ty) e))))
    (decided_both (same_bool a.initial b.initial) (decided_both (same_list cases_eq a.name b.name) (same_type a.ty b.ty)))

pub same_targets : (a b : List Item) → Decided (a ≡ b)
same_targets = same_list same_item
