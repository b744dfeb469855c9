-- A joint has at most one list of rows.
use Rattle.std.proofs.Common.{◌≡◌, ◌↔◌, ℕ, ◌+◌, List, [], ◌∷◌, All, map, Contains, refl, sym, ◌∙◌, ap, subst, arith, ⊎_elim, inl, inr, suc, zero, add-one}
use Rattle.std.specs.declared.cmp.Ordering.{Ordering}
use Rattle.std.specs.declared.cmp.Ordering.TheVariants.{Less}
use Rattle.std.specs.List.{AllByRecursion}
use Rattle.std.specs.List.Sorted.{IsStrictlySortedBy}
use Rattle.std.proofs.lemmas.List.Elements.{All-head, All-tail}
use Rattle.kf_value.specs.Values.{ValueTree, Tuple, parts, parts_list, order}
use Rattle.kf_value.proofs.Orders.{tuples_order, not_both_less}
use Rattle.kf_column.specs.Columns.{IsColumn, weight_at}
use Rattle.kf_column.specs.Traces.{Row, trace_order}
use Rattle.kf_column.proofs.AtMostOne.{In, Ordered, same_lists}
use Rattle.kf_column.proofs.Weights.{above_column, same_column}
use Rattle.kf_core.specs.Joint.{Cell, weight_of}
use Rattle.kf_core.specs.JointLaws.{RowsAreOne}

-- ---- lists in strict order with the same elements

pub in_from_contains : {X : Type 0} (xs : List X) (x : X) → Contains xs x → In x xs
in_from_contains [] x has = absurd (omega (arith, has.1))
in_from_contains (y ∷ ys) x (zero, within, is) = inl (sym is)
in_from_contains (y ∷ ys) x (suc k, within, is) = inr (in_from_contains ys x (k, omega arith, is))

pub contains_from_in : {X : Type 0} (xs : List X) (x : X) → In x xs → Contains xs x
contains_from_in [] x has = absurd has
contains_from_in (y ∷ ys) x has = ⊎_elim (λ (e : x ≡ y). (0, omega arith, sym e)) (λ h. let c = contains_from_in ys x h in (c.0 + 1, omega (arith, c.1), rw add-one c.2)) has

module _ {X : Type 0} (compared : X → X → Ordering) (not_both : (x y : X) → compared x y ≡ Less → compared y x ≡ Less → ⊥) where
  abbrev IsBefore : X → X → Type 0
  IsBefore x y = compared x y ≡ Less

  later : (x : X) (ys : List X) → AllByRecursion (λ (y : X). IsBefore x y) ys → (y : X) → In y ys → IsBefore x y
  later x [] all y here = absurd here
  later x (z ∷ zs) all y here = ⊎_elim (λ (e : y ≡ z). subst (IsBefore x) (sym e) all.0) (λ h. later x zs all.1 y h) here

  ordered : (xs : List X) → IsStrictlySortedBy compared xs → Ordered IsBefore not_both xs
  unfolding IsStrictlySortedBy
  ordered [] sorted = tt
  ordered (x ∷ xs) sorted = (later x xs sorted.0, ordered xs sorted.1)

  pub one_list : (xs ys : List X) → IsStrictlySortedBy compared xs → IsStrictlySortedBy compared ys → ((x : X) → Contains xs x ↔ Contains ys x) → xs ≡ ys
  one_list xs ys p q same = same_lists IsBefore not_both xs ys (ordered xs p) (ordered ys q)
      (λ x h. in_from_contains ys x ((same x).0 (contains_from_in xs x h)))
      (λ x h. in_from_contains xs x ((same x).1 (contains_from_in ys x h)))

-- ---- the rows of a joint

pub listed_parts : (vs : List ValueTree) → parts_list (parts vs) ≡ vs
listed_parts [] = refl
listed_parts (v ∷ vs) = ap (λ ws. v ∷ ws) (listed_parts vs)

pub as_tuples : (t u : List ValueTree) → order (Tuple (parts t)) (Tuple (parts u)) ≡ trace_order t u
as_tuples t u = tuples_order (parts t) (parts u) ∙ (λ i. trace_order (listed_parts t i) (listed_parts u i))

pub not_both_traces : (t u : List ValueTree) → trace_order t u ≡ Less → trace_order u t ≡ Less → ⊥
not_both_traces t u p q = not_both_less (Tuple (parts t)) (Tuple (parts u)) (as_tuples t u ∙ p) (as_tuples u t ∙ q)

abbrev HasWeights : List Cell → Row → Type 0
HasWeights joint r = (x : ℕ) → weight_at r.column x ≡ weight_of joint r.trace x

one_row : (joint : List Cell) (r s : Row) → r.trace ≡ s.trace → IsColumn r.column → IsColumn s.column → HasWeights joint r → HasWeights joint s → r ≡ s
one_row joint r s trace p q of_r of_s =
    let column : r.column ≡ s.column = same_column 0 r.column s.column (above_column r.column p) (above_column s.column q)
    (λ x. of_r x ∙ ap (λ t. weight_of joint t x) trace ∙ sym (of_s x)) in
    λ i. record { trace = trace i; column = column i }

same_rows : (joint : List Cell) (rs ss : List Row) → map (λ (r : Row). r.trace) rs ≡ map (λ (r : Row). r.trace) ss → All (λ (r : Row). IsColumn r.column) rs → All (λ (r : Row). IsColumn r.column) ss
    → All (HasWeights joint) rs → All (HasWeights joint) ss → rs ≡ ss
same_rows joint [] [] traces p q of_r of_s = refl
same_rows joint [] (s ∷ ss) traces p q of_r of_s = absurd (cc)
same_rows joint (r ∷ rs) [] traces p q of_r of_s = absurd (cc)
same_rows joint (r ∷ rs) (s ∷ ss) traces p q of_r of_s =
    let first : r.trace ≡ s.trace = cc in
    let others : map (λ (r : Row). r.trace) rs ≡ map (λ (r : Row). r.trace) ss = cc in
    let head : r ≡ s = one_row joint r s first (All-head (λ (r : Row). IsColumn r.column) r rs p) (All-head (λ (r : Row). IsColumn r.column) s ss q) (All-head (HasWeights joint) r rs of_r) (All-head (HasWeights joint) s ss of_s) in
    let rest = same_rows joint rs ss others (All-tail (λ (r : Row). IsColumn r.column) r rs p) (All-tail (λ (r : Row). IsColumn r.column) s ss q) (All-tail (HasWeights joint) r rs of_r) (All-tail (HasWeights joint) s ss of_s) in
    λ i. head i ∷ rest i

pub one_table : RowsAreOne
one_table joint rs ss p q =
    let traces = one_list trace_order not_both_traces (map (λ (r : Row). r.trace) rs) (map (λ (r : Row). r.trace) ss) p.ascending q.ascending
    (λ t. (λ h. (q.all t).1 ((p.all t).0 h), λ h. (p.all t).1 ((q.all t).0 h))) in
    same_rows joint rs ss traces p.columns q.columns p.weights q.weights
