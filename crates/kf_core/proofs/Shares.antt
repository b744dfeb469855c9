-- Gathered weights: what a value has in the list is what it has among the gathered.
use Rattle.std.proofs.Common.{◌≡◌, ℕ, zero, suc, ◌+◌, ◌*◌, ◌/◌, ◌<◌, Bool, true, false, List, [], ◌∷◌, ◌⊎◌, inl, inr, ⊎_elim, map, refl, sym, ap, subst, ◌∙◌, arith, cond}
use Rattle.std.specs.Prelude.{nat_lt, filter, sum_by}
use Rattle.std.specs.Ordering.{is_eq, match_ordering, ordering_reverse}
use Rattle.std.specs.declared.cmp.Ordering.{Ordering}
use Rattle.std.specs.declared.cmp.Ordering.TheVariants.{Less, Equal, Greater}
use Rattle.std.specs.List.{AllByRecursion as Each}
use Rattle.std.specs.List.Sorted.{IsStrictlySortedBy}
use Rattle.std.proofs.Math.Nat.{mul-div_cancel'}
use Rattle.std.proofs.lemmas.List.Sums.{sum_by-cons}
use Rattle.std.proofs.lemmas.Bool.Decides.{nat_tests}
use Rattle.kf_value.specs.Values.{ValueTree, order, is_equal}
use Rattle.kf_value.specs.Laws.{IsIn}
use Rattle.kf_value.proofs.ListLemmas.{each_map, each_weaker}
use Rattle.kf_value.proofs.Orders.{flip, same, order-itself}
use Rattle.kf_value.proofs.Sorting.{sorted-head, sorted-tail}
use Rattle.kf_ops.specs.Values.{inserted}
use Rattle.kf_core.specs.Evaluation.{set_of}
use Rattle.kf_core.specs.Choices.{Weighted, weight_in, gathered, common_factor, lowest}
use Rattle.kf_core.proofs.Gcds.{over, AreMultiples, factor_divides}
use Rattle.kf_core.proofs.SetLiterals.{each_set_of, set_of_ascends}

-- ---- one value more

abbrev portion : Bool → ℕ → ℕ
portion b n = cond b n 0

portioned : (b : Bool) (w : Weighted) (ws : List Weighted) → sum_by (λ u. u.weight) (cond b (w ∷ ws) ws) ≡ portion b w.weight + sum_by (λ u. u.weight) ws
portioned true w ws = sum_by-cons (λ u. u.weight) w ws
portioned false w ws = omega arith

pub weight_in-cons : (w : Weighted) (ws : List Weighted) (v : ValueTree) → weight_in (w ∷ ws) v ≡ portion (is_equal v w.value) w.weight + weight_in ws v
weight_in-cons w ws v = portioned (is_equal v w.value) w (filter (λ u. is_equal v u.value) ws)

portion_over : (b : Bool) (g n q : ℕ) → g * q ≡ n → g * portion b q ≡ portion b n
portion_over true g n q e = e
portion_over false g n q e = omega arith

-- the weights over a number, times it
pub weight_over : (g : ℕ) (ws : List Weighted) (v : ValueTree) → AreMultiples g ws → g * weight_in (over g ws) v ≡ weight_in ws v
weight_over g [] v h = omega arith
weight_over g (w ∷ ws) v h =
    let one = weight_in-cons (record { value = w.value; weight = w.weight / g }) (over g ws) v in
    let here = portion_over (is_equal v w.value) g w.weight (w.weight / g) (mul-div_cancel' g h.0) in
    let rest = weight_over g ws v h.1 in
    ap (λ n. g * n) one ∙ (omega (arith, here, rest) ∙ sym (weight_in-cons w ws v))

-- ---- values of a list

pub each_in : (P : ValueTree → Type 0) (us : List ValueTree) (v : ValueTree) → Each P us → IsIn v us → P v
each_in P [] v h i = absurd i
each_in P (u ∷ us) v h (inl e) = subst P (sym e) h.0
each_in P (u ∷ us) v h (inr i) = each_in P us v h.1 i

placed_in : (o : Ordering) (v u : ValueTree) (us ws : List ValueTree) → (o ≡ Equal → v ≡ u) → IsIn v ws → IsIn v (match_ordering o (v ∷ u ∷ us) (u ∷ us) (u ∷ ws))
placed_in Less v u us ws e h = inl refl
placed_in Equal v u us ws e h = inl (e refl)
placed_in Greater v u us ws e h = inr h

inserted_in : (v : ValueTree) (us : List ValueTree) → IsIn v (inserted v us)
inserted_in v [] = inl refl
inserted_in v (u ∷ us) = placed_in (order v u) v u us (inserted v us) (same v u) (inserted_in v us)

placed_kept : (o : Ordering) (x v u : ValueTree) (us ws : List ValueTree) → IsIn x (u ∷ us) → (IsIn x us → IsIn x ws)
    → IsIn x (match_ordering o (v ∷ u ∷ us) (u ∷ us) (u ∷ ws))
placed_kept Less x v u us ws h go = inr h
placed_kept Equal x v u us ws h go = h
placed_kept Greater x v u us ws (inl e) go = inl e
placed_kept Greater x v u us ws (inr i) go = inr (go i)

inserted_keeps : (x v : ValueTree) (us : List ValueTree) → IsIn x us → IsIn x (inserted v us)
inserted_keeps x v [] h = absurd h
inserted_keeps x v (u ∷ us) h = placed_kept (order v u) x v u us (inserted v us) h (inserted_keeps x v us)

pub set_of_in : (x : ValueTree) (vs : List ValueTree) → IsIn x vs → IsIn x (set_of vs)
set_of_in x [] i = absurd i
set_of_in x (v ∷ vs) (inl e) = subst (λ y. IsIn y (inserted v (set_of vs))) (sym e) (inserted_in v (set_of vs))
set_of_in x (v ∷ vs) (inr i) = inserted_keeps x v (set_of vs) (set_of_in x vs i)

-- ---- values of some weight

abbrev pub weighty : List Weighted → List ValueTree
weighty ls = map (λ w. w.value) (filter (λ w. nat_lt 0 w.weight) ls)

weighty_each : (P : ValueTree → Type 0) (b : Bool) (w : Weighted) (ws : List Weighted) → (b ≡ true → P w.value) → Each P (map (λ u. u.value) ws)
    → Each P (map (λ u. u.value) (cond b (w ∷ ws) ws))
weighty_each P true w ws here h = (here refl, h)
weighty_each P false w ws here h = h

is_equal-itself : (v : ValueTree) → is_equal v v ≡ true
is_equal-itself v = ap is_eq (order-itself v)

own_portion : (v : ValueTree) (n : ℕ) → portion (is_equal v v) n ≡ n
own_portion v n = ap (λ b. portion b n) (is_equal-itself v)

positive_test : (n : ℕ) → nat_lt 0 n ≡ true → 0 < n
positive_test n h = grind (arith, nat_tests)

pub weighty_weighs : (ls : List Weighted) → Each (λ v. 0 < weight_in ls v) (weighty ls)
weighty_weighs [] = tt
weighty_weighs (w ∷ ls) =
    weighty_each (λ v. 0 < weight_in (w ∷ ls) v) (nat_lt 0 w.weight) w (filter (λ u. nat_lt 0 u.weight) ls)
    (λ t. let some = positive_test w.weight t in
    omega (arith, weight_in-cons w ls w.value, own_portion w.value w.weight))
    (each_weaker (λ v. 0 < weight_in ls v) (λ v. 0 < weight_in (w ∷ ls) v) (λ v h. omega (arith, weight_in-cons w ls v)) (weighty ls) (weighty_weighs ls))

weighty_kept : (b : Bool) (v : ValueTree) (w : Weighted) (ws : List Weighted) → IsIn v (map (λ u. u.value) ws) → IsIn v (map (λ u. u.value) (cond b (w ∷ ws) ws))
weighty_kept true v w ws h = inr h
weighty_kept false v w ws h = h

put_first : (b : Bool) (v : ValueTree) (w : Weighted) (ws : List Weighted) → b ≡ true → v ≡ w.value → IsIn v (map (λ u. u.value) (cond b (w ∷ ws) ws))
put_first true v w ws t e = inl e
put_first false v w ws t e = (cc)

pub passes_test : (n : ℕ) → 0 < n → nat_lt 0 n ≡ true
passes_test n h = grind (arith, nat_tests)

weighty_here : (o : Ordering) (n : ℕ) (v : ValueTree) (w : Weighted) (ws : List Weighted) → (o ≡ Equal → v ≡ w.value) → 0 < portion (is_eq o) n
    → IsIn v (map (λ u. u.value) (cond (nat_lt 0 n) (w ∷ ws) ws))
weighty_here Less n v w ws e h = absurd (omega arith)
weighty_here Greater n v w ws e h = absurd (omega arith)
weighty_here Equal n v w ws e h = put_first (nat_lt 0 n) v w ws (passes_test n h) (e refl)

either_positive : (a b : ℕ) → 0 < a + b → (0 < a) ⊎ (0 < b)
either_positive zero b h = inr (omega arith)
either_positive (suc a) b h = inl (omega arith)

pub weighs_in : (ls : List Weighted) (v : ValueTree) → 0 < weight_in ls v → IsIn v (weighty ls)
weighs_in [] v h = absurd (omega arith)
weighs_in (w ∷ ls) v h =
    let split : 0 < portion (is_equal v w.value) w.weight + weight_in ls v = rw (weight_in-cons w ls v) at h in
    let rest = filter (λ u. nat_lt 0 u.weight) ls in
    ⊎_elim
    (λ (here : 0 < portion (is_equal v w.value) w.weight). weighty_here (order v w.value) w.weight v w rest (same v w.value) here)
    (λ (there : 0 < weight_in ls v). weighty_kept (nat_lt 0 w.weight) v w rest (weighs_in ls v there))
    (either_positive (portion (is_equal v w.value) w.weight) (weight_in ls v) split)

-- ---- one weight for each value

abbrev pub with_weights : (ValueTree → ℕ) → List ValueTree → List Weighted
with_weights f us = map (λ v. record { value = v; weight = f v }) us

others_weigh_nothing : (f : ValueTree → ℕ) (us : List ValueTree) (v : ValueTree) → Each (λ u. is_equal v u ≡ false) us → weight_in (with_weights f us) v ≡ 0
others_weigh_nothing f [] v h = refl
others_weigh_nothing f (u ∷ us) v h =
    let no_portion : portion (is_equal v u) (f u) ≡ 0 = ap (λ b. portion b (f u)) h.0 in
    omega (arith, weight_in-cons (record { value = u; weight = f u }) (with_weights f us) v, no_portion, others_weigh_nothing f us v h.1)

greater : (u v : ValueTree) → order u v ≡ Less → is_equal v u ≡ false
greater u v less = ap is_eq (flip v u ∙ ap ordering_reverse less)

pub weighs_once : (f : ValueTree → ℕ) (us : List ValueTree) (v : ValueTree) → IsStrictlySortedBy order us → IsIn v us → weight_in (with_weights f us) v ≡ f v
weighs_once f [] v h i = absurd i
weighs_once f (u ∷ us) v h (inl e) =
    let later : Each (λ x. is_equal u x ≡ false) us =
    each_weaker (λ x. order u x ≡ Less) (λ x. is_equal u x ≡ false) (λ x less. ap is_eq less) us (sorted-head order u us h) in
    let own = weight_in-cons (record { value = u; weight = f u }) (with_weights f us) u in
    let at_u : weight_in (with_weights f (u ∷ us)) u ≡ f u = omega (arith, own, own_portion u (f u), others_weigh_nothing f us u later) in
    subst (λ x. weight_in (with_weights f (u ∷ us)) x ≡ f x) (sym e) at_u
weighs_once f (u ∷ us) v h (inr i) =
    let less : order u v ≡ Less = each_in (λ x. order u x ≡ Less) us v (sorted-head order u us h) i in
    let no_portion : portion (is_equal v u) (f u) ≡ 0 = ap (λ b. portion b (f u)) (greater u v less) in
    omega (arith, weight_in-cons (record { value = u; weight = f u }) (with_weights f us) v, no_portion, weighs_once f us v (sorted-tail order u us h) i)

-- ---- gathered

unequal : (o : Ordering) → (o ≡ Equal → ⊥) → is_eq o ≡ false
unequal Less h = refl
unequal Equal h = absurd (h refl)
unequal Greater h = refl

apart : (ls : List Weighted) (v : ValueTree) → weight_in ls v ≡ 0 → (u : ValueTree) → 0 < weight_in ls u → is_equal v u ≡ false
apart ls v none u some =
    unequal (order v u) (λ e. let alike : weight_in ls v ≡ weight_in ls u = ap (weight_in ls) (same v u e) in omega (arith, none, alike))

pub gathered_weigh : (ls : List Weighted) → Each (λ v. 0 < weight_in ls v) (set_of (weighty ls))
gathered_weigh ls = each_set_of (λ v. 0 < weight_in ls v) (weighty ls) (weighty_weighs ls)

gathered_by : (ls : List Weighted) (v : ValueTree) (n : ℕ) → weight_in ls v ≡ n → weight_in (gathered ls) v ≡ n
gathered_by ls v zero e =
    others_weigh_nothing (weight_in ls) (set_of (weighty ls)) v
    (each_weaker (λ u. 0 < weight_in ls u) (λ u. is_equal v u ≡ false) (apart ls v e) (set_of (weighty ls)) (gathered_weigh ls))
gathered_by ls v (suc n) e =
    let some : 0 < weight_in ls v = omega (arith, e) in
    weighs_once (weight_in ls) (set_of (weighty ls)) v (set_of_ascends (weighty ls)) (set_of_in v (weighty ls) (weighs_in ls v some)) ∙ e

-- a value has all its weight there
pub gathered_share : (ls : List Weighted) (v : ValueTree) → weight_in (gathered ls) v ≡ weight_in ls v
gathered_share ls v = gathered_by ls v (weight_in ls v) refl

pub gathered_positive : (ls : List Weighted) → Each (λ w. 0 < w.weight) (gathered ls)
gathered_positive ls = each_map (λ w. 0 < w.weight) (λ v. record { value = v; weight = weight_in ls v }) (set_of (weighty ls)) (gathered_weigh ls)

-- the values of weights in lowest terms
pub values_over : (g : ℕ) (f : ValueTree → ℕ) (us : List ValueTree) → map (λ w. w.value) (over g (with_weights f us)) ≡ us
values_over g f [] = refl
values_over g f (u ∷ us) = ap (λ vs. u ∷ vs) (values_over g f us)

-- times the common factor, a value's weight in lowest terms is all that it has
pub lowest_share : (ls : List Weighted) (v : ValueTree) → common_factor (gathered ls) * weight_in (lowest (gathered ls)) v ≡ weight_in ls v
lowest_share ls v =
    weight_over (common_factor (gathered ls)) (gathered ls) v (factor_divides (gathered ls)) ∙ gathered_share ls v
