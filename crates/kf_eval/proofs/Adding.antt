-- A weight more in an ascending list: where it is put, and that what comes of all is what is gathered.
use Rattle.std.proofs.Common.{◌≡◌, ℕ, ◌+◌, ◌<◌, Bool, true, false, List, [], ◌∷◌, ◌++◌, map, refl, sym, ap, subst, ◌∙◌, arith, cond}
use Rattle.std.specs.declared.cmp.Ordering.{Ordering}
use Rattle.std.specs.declared.cmp.Ordering.TheVariants.{Less, Equal, Greater}
use Rattle.std.specs.Ordering.{is_eq, match_ordering}
use Rattle.std.specs.List.{AllByRecursion as Each}
use Rattle.std.specs.List.Sorted.{IsStrictlySortedBy}
use Rattle.std.proofs.lemmas.List.Sums.{sum_by-cons}
use Rattle.kf_value.specs.Values.{ValueTree, order, is_equal}
use Rattle.kf_value.proofs.ListLemmas.{each_weaker}
use Rattle.kf_value.proofs.Orders.{goes_on, same, order-itself}
use Rattle.kf_value.proofs.Sorting.{sorted-nil, sorted-head, sorted-tail}
use Rattle.kf_ops.specs.Values.{inserted}
use Rattle.kf_core.specs.Choices.{Weighted, weight_in, gathered, total}
use Rattle.kf_core.specs.Evaluation.{set_of}
use Rattle.kf_core.proofs.SetLiterals.{inserted_ascends, set_of_ascends}
use Rattle.kf_core.proofs.Shares.{weight_in-cons, weighty, with_weights, gathered_share, gathered_positive}
use Rattle.kf_eval.specs.Gathering.{added}
use Rattle.kf_eval.proofs.Inserting.{turned}

abbrev pub values_in : List Weighted → List ValueTree
values_in ws = map (λ w. w.value) ws

abbrev pub WeightsAscend : List Weighted → Type 0
WeightsAscend ws = IsStrictlySortedBy order (values_in ws)

abbrev pub ArePositive : List Weighted → Type 0
ArePositive ws = Each (λ w. 0 < w.weight) ws

abbrev portion : Bool → ℕ → ℕ
portion b n = cond b n 0

portion_sum : (b : Bool) (n m : ℕ) → portion b (n + m) ≡ portion b n + portion b m
portion_sum true n m = refl
portion_sum false n m = refl

-- ---- what the added weight changes

picked : {X Y : Type 0} (f : X → Y) (o : Ordering) (a b c : X) → f (match_ordering o a b c) ≡ match_ordering o (f a) (f b) (f c)
picked f Less a b c = refl
picked f Equal a b c = refl
picked f Greater a b c = refl

-- what holds in each of three cases
each_case : {X : Type 0} (P : X → Type 0) (o : Ordering) (a b c : X) → P a → (o ≡ Equal → P b) → P c → P (match_ordering o a b c)
each_case P Less a b c ha hb hc = ha
each_case P Equal a b c ha hb hc = hb refl
each_case P Greater a b c ha hb hc = hc

module _ (w : Weighted) where
  abbrev more : Weighted → Weighted
  more u = record { value = u.value; weight = u.weight + w.weight }

  added_values : (us : List Weighted) → values_in (added w us) ≡ inserted w.value (values_in us)
  added_values [] = refl
  added_values (u ∷ us) =
      picked values_in (order w.value u.value) (w ∷ u ∷ us) (more u ∷ us) (u ∷ added w us)
      ∙ ap (λ vs. match_ordering (order w.value u.value) (w.value ∷ u.value ∷ values_in us) (u.value ∷ values_in us) (u.value ∷ vs)) (added_values us)

  added_ascends : (us : List Weighted) → WeightsAscend us → WeightsAscend (added w us)
  added_ascends us h = rw (added_values us) (inserted_ascends w.value (values_in us) h)

  added_positive : (us : List Weighted) → 0 < w.weight → ArePositive us → ArePositive (added w us)
  added_positive [] some h = (some, tt)
  added_positive (u ∷ us) some h =
      each_case ArePositive (order w.value u.value) (w ∷ u ∷ us) (more u ∷ us) (u ∷ added w us) (some, h) (λ e. (omega (arith, h.0), h.1)) (h.0, added_positive us some h.1)

  pub added_total : (us : List Weighted) → total (added w us) ≡ w.weight + total us
  added_total [] = sum_by-cons (λ u. u.weight) w []
  added_total (u ∷ us) =
      let all = sum_by-cons (λ u. u.weight) u us in
      each_case (λ ws. total ws ≡ w.weight + total (u ∷ us)) (order w.value u.value) (w ∷ u ∷ us) (more u ∷ us) (u ∷ added w us)
      (sum_by-cons (λ u. u.weight) w (u ∷ us))
      (λ e. omega (arith, all, sum_by-cons (λ u. u.weight) (more u) us))
      (omega (arith, all, sum_by-cons (λ u. u.weight) u (added w us), added_total us))

  added_weight : (us : List Weighted) (v : ValueTree) → weight_in (added w us) v ≡ portion (is_equal v w.value) w.weight + weight_in us v
  added_weight [] v = weight_in-cons w [] v
  added_weight (u ∷ us) v =
      let all = weight_in-cons u us v in
      each_case (λ ws. weight_in ws v ≡ portion (is_equal v w.value) w.weight + weight_in (u ∷ us) v) (order w.value u.value) (w ∷ u ∷ us) (more u ∷ us) (u ∷ added w us)
      (weight_in-cons w (u ∷ us) v)
      (λ e.
      let alike : portion (is_equal v w.value) w.weight ≡ portion (is_equal v u.value) w.weight = ap (λ x. portion (is_equal v x) w.weight) (same w.value u.value e) in
      let both = portion_sum (is_equal v u.value) u.weight w.weight in
      omega (arith, all, alike, both, weight_in-cons (more u) us v))
      (omega (arith, all, weight_in-cons u (added w us) v, added_weight us v))

  last_weight : (ls : List Weighted) (v : ValueTree) → weight_in (ls ++ w ∷ []) v ≡ portion (is_equal v w.value) w.weight + weight_in ls v
  last_weight [] v = weight_in-cons w [] v
  last_weight (u ∷ ls) v = omega (arith, weight_in-cons u ls v, weight_in-cons u (ls ++ w ∷ []) v, last_weight ls v)

-- ---- what is gathered from a list

-- distinct values in ascending order, and each has all the weight that it has in the list
pub record Gathers (ls gs : List Weighted) : Type 0 where
  pub ascending : WeightsAscend gs
  pub positive : ArePositive gs
  pub share : (v : ValueTree) → weight_in gs v ≡ weight_in ls v

pub gathers_none : Gathers [] []
gathers_none = record { ascending = sorted-nil order; positive = tt; share = λ v. refl }

pub gathers_more : (w : Weighted) (ls gs : List Weighted) → 0 < w.weight → Gathers ls gs → Gathers (ls ++ w ∷ []) (added w gs)
gathers_more w ls gs some before = record {
  ascending = added_ascends w gs before.ascending;
  positive = added_positive w gs some before.positive;
  share = λ v. omega (arith, added_weight w gs v, last_weight w ls v, before.share v);
}

-- a value before all of the list
absent : (v : ValueTree) (us : List Weighted) → Each (λ x. order v x ≡ Less) (values_in us) → weight_in us v ≡ 0
absent v [] h = refl
absent v (u ∷ us) h =
    let none : portion (is_equal v u.value) u.weight ≡ 0 = ap (λ o. portion (is_eq o) u.weight) h.0 in
    omega (arith, weight_in-cons u us v, none, absent v us h.1)

own_weight : (u : Weighted) (us : List Weighted) → weight_in (u ∷ us) u.value ≡ u.weight + weight_in us u.value
own_weight u us =
    let own : portion (is_equal u.value u.value) u.weight ≡ u.weight = ap (λ o. portion (is_eq o) u.weight) (order-itself u.value) in
    omega (arith, weight_in-cons u us u.value, own)

weighted_same : (u v : Weighted) → u.value ≡ v.value → u.weight ≡ v.weight → u ≡ v
weighted_same u v e f = ap (λ x. record { value = x; weight = u.weight }) e ∙ ap (λ n. record { value = v.value; weight = n }) f

module _ (u v : Weighted) (us vs : List Weighted) where
  -- the lesser of two first values has no weight in the other list
  no_less : order u.value v.value ≡ Less → WeightsAscend (v ∷ vs) → 0 < u.weight → weight_in (u ∷ us) u.value ≡ weight_in (v ∷ vs) u.value → ⊥
  no_less less ascends some share =
      let later : Each (λ x. order u.value x ≡ Less) (values_in vs) =
      each_weaker (λ x. order v.value x ≡ Less) (λ x. order u.value x ≡ Less) (λ x next. goes_on u.value v.value x less next) (values_in vs) (sorted-head order v.value (values_in vs) ascends) in
      omega (arith, share, own_weight u us, absent u.value (v ∷ vs) (less, later), some)

  heads_same : order u.value v.value ≡ Equal → WeightsAscend (u ∷ us) → WeightsAscend (v ∷ vs)
      → ((x : ValueTree) → weight_in (u ∷ us) x ≡ weight_in (v ∷ vs) x) → u ≡ v
  heads_same equal first second share =
      let alike = same u.value v.value equal in
      let ours = absent u.value us (sorted-head order u.value (values_in us) first) in
      let theirs : weight_in vs u.value ≡ 0 = subst (λ x. weight_in vs x ≡ 0) (sym alike) (absent v.value vs (sorted-head order v.value (values_in vs) second)) in
      let own : weight_in (v ∷ vs) u.value ≡ v.weight + weight_in vs u.value =
      subst (λ x. weight_in (v ∷ vs) x ≡ v.weight + weight_in vs x) (sym alike) (own_weight v vs) in
      weighted_same u v alike (omega (arith, share u.value, own_weight u us, ours, theirs, own))

  rest_same : u ≡ v → ((x : ValueTree) → weight_in (u ∷ us) x ≡ weight_in (v ∷ vs) x) → (x : ValueTree) → weight_in us x ≡ weight_in vs x
  rest_same e share x =
      let alike : portion (is_equal x u.value) u.weight ≡ portion (is_equal x v.value) v.weight = ap (λ y. portion (is_equal x y.value) y.weight) e in
      omega (arith, share x, weight_in-cons u us x, weight_in-cons v vs x, alike)

both_same : (u v : Weighted) (us vs : List Weighted) (o : Ordering) → order u.value v.value ≡ o → WeightsAscend (u ∷ us) → WeightsAscend (v ∷ vs) → 0 < u.weight → 0 < v.weight
    → ((x : ValueTree) → weight_in (u ∷ us) x ≡ weight_in (v ∷ vs) x) → (((x : ValueTree) → weight_in us x ≡ weight_in vs x) → us ≡ vs) → u ∷ us ≡ v ∷ vs
both_same u v us vs Less e first second p q share next = absurd (no_less u v us vs e second p (share u.value))
both_same u v us vs Greater e first second p q share next =
    absurd (no_less v u vs us (turned u.value v.value Greater e) first q (sym (share v.value)))
both_same u v us vs Equal e first second p q share next =
    let head = heads_same u v us vs e first second share in
    ap (λ x. x ∷ us) head ∙ ap (λ xs. v ∷ xs) (next (rest_same u v us vs head share))

-- ascending lists that give each value the same positive weight are the same
same_weights : (us vs : List Weighted) → WeightsAscend us → WeightsAscend vs → ArePositive us → ArePositive vs → ((x : ValueTree) → weight_in us x ≡ weight_in vs x) → us ≡ vs
same_weights [] [] first second p q share = refl
same_weights [] (v ∷ vs) first second p q share = absurd (omega (arith, share v.value, own_weight v vs, q.0))
same_weights (u ∷ us) [] first second p q share = absurd (omega (arith, share u.value, own_weight u us, p.0))
same_weights (u ∷ us) (v ∷ vs) first second p q share =
    both_same u v us vs (order u.value v.value) refl first second p.0 q.0 share
    (same_weights us vs (sorted-tail order u.value (values_in us) first) (sorted-tail order v.value (values_in vs) second) p.1 q.1)

values_with : (f : ValueTree → ℕ) (us : List ValueTree) → values_in (with_weights f us) ≡ us
values_with f [] = refl
values_with f (u ∷ us) = ap (λ vs. u ∷ vs) (values_with f us)

gathered_ascends : (ls : List Weighted) → WeightsAscend (gathered ls)
gathered_ascends ls = rw (values_with (weight_in ls) (set_of (weighty ls))) (set_of_ascends (weighty ls))

pub gathered_is : (ls gs : List Weighted) → Gathers ls gs → gs ≡ gathered ls
gathered_is ls gs is =
    same_weights gs (gathered ls) is.ascending (gathered_ascends ls) is.positive (gathered_positive ls) (λ v. is.share v ∙ sym (gathered_share ls v))

-- nothing is gathered only from a list of no weight
pub none_gathered : (w : Weighted) (ls : List Weighted) → 0 < w.weight → Gathers (w ∷ ls) [] → ⊥
none_gathered w ls some is = omega (arith, is.share w.value, own_weight w ls, some)
