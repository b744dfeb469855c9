-- Choices are the listed values in lowest terms, and those of a checked distribution are values of its kind.
use Rattle.std.proofs.Common.{◌≡◌, ℕ, zero, suc, ℤ, pos, negsuc, ◌+◌, ◌-◌, ◌/◌, ◌<◌, ◌≤◌, ◌+ℤ◌, ◌-ℤ◌, Bool, true, false, List, [], ◌∷◌, ◌++◌, length, map, Ok, Err, refl, ap, subst, arith, cond}
use Rattle.std.specs.Prelude.{nat_lt, filter, IfOk, if◌then◌else◌}
use Rattle.std.specs.Ordering.{match_ordering}
use Rattle.std.specs.declared.cmp.Ordering.{Ordering}
use Rattle.std.specs.declared.cmp.Ordering.TheVariants.{Less, Equal, Greater}
use Rattle.std.specs.List.{All, AllByRecursion as Each, range_with_len}
use Rattle.std.proofs.lemmas.List.Elements.{All-from_recursion}
use Rattle.kf_value.specs.Values.{ValueTree, ValueTrees, Truth, Whole, Tuple, Set, no_value, more_values, parts_list, order, whole, elements}
use Rattle.kf_value.specs.Forms.{IsWellFormed, EachWellFormed, HasKind, AllHaveKind}
use Rattle.kf_value.specs.Kinds.{KindTree, WholeKind, SetKind}
use Rattle.kf_value.specs.Types.{Range, values, counted}
use Rattle.kf_value.proofs.ListLemmas.{each_append, each_any, each_map, each_weaker}
use Rattle.kf_ops.specs.Rows.{operators}
use Rattle.kf_ops.specs.Laws.{KeepsKinds as RowKeepsKinds}
use Rattle.kf_ops.specs.Values.{inserted}
use Rattle.kf_core.specs.Checked.{DistKinded, CasesKinded, sure, uniform_set, uniform_range, choose, flip, none, more}
use Rattle.kf_core.specs.ChoiceLaws.{AreChoices, ChoicesAreShares, ChoicesKeepKinds}
use Rattle.kf_core.specs.Results.{then_ok}
use Rattle.kf_core.specs.Choices.{Weighted, Chosen, ChoiceFault, RangeLong, with_value, once, some_of, each_from, weighed, case_listed, listed, weight_in, gathered, common_factor, lowest}
use Rattle.kf_core.specs.Dxs.{DxCaseTree, case_of, DxShape, dx_at}
use Rattle.kf_core.specs.Evaluation.{Evaluated, ev, set_of}
use Rattle.kf_core.specs.Laws.{AreOfKinds, GivesKind}
use Rattle.kf_core.proofs.Gcds.{over, factor_divides, lowest_factor, over_positive}
use Rattle.kf_core.proofs.Keeping.{keeps}
use Rattle.kf_core.proofs.SetLiterals.{each_set_of, set_of_ascends}
use Rattle.kf_core.proofs.Shares.{weighty, with_weights, passes_test, gathered_positive, values_over, lowest_share}
use Rattle.kf_core.specs.Each.{cases_listed}

-- ---- shares

length-over : (g : ℕ) (ws : List Weighted) → length (over g ws) ≡ length ws
length-over g [] = refl
length-over g (w ∷ ws) = ap suc (length-over g ws)

length-with_weights : (f : ValueTree → ℕ) (us : List ValueTree) → length (with_weights f us) ≡ length us
length-with_weights f [] = refl
length-with_weights f (u ∷ us) = ap suc (length-with_weights f us)

pub are_choices : (ls : List Weighted) → AreChoices ls (lowest (gathered ls))
are_choices ls =
    let us = set_of (weighty ls) in
    let g = common_factor (gathered ls) in
    record {
      ascending = rw (values_over g (weight_in ls) us) (set_of_ascends (weighty ls));
      positive = All-from_recursion (λ w. 0 < w.weight) (lowest (gathered ls)) (over_positive g (gathered ls) (factor_divides (gathered ls)) (gathered_positive ls));
      lowest = λ some. lowest_factor (gathered ls) (gathered_positive ls) (rw (length-over g (gathered ls)) at some);
      share = (g, lowest_share ls);
    }

chosen_from : (r : Chosen) (ls ws : List Weighted) → r ≡ Ok ls → then_ok r (λ us. Ok (lowest (gathered us))) ≡ Ok ws → lowest (gathered ls) ≡ ws
chosen_from (Ok us) ls ws e h = (cc)
chosen_from (Err f) ls ws e h = (cc)

pub choices_are_shares : ChoicesAreShares
choices_are_shares s d ls ws e h = subst (AreChoices ls) (chosen_from (listed s d) ls ws e h) (are_choices ls)

-- ---- kinds

-- well-formed values of the kind
abbrev AreOf : KindTree → List Weighted → Type 0
AreOf k ls = Each (λ w. HasKind w.value k × IsWellFormed w.value) ls

-- one of them has some weight
abbrev HasSome : List Weighted → Type 0
HasSome ls = 1 ≤ length (weighty ls)

abbrev Lists : KindTree → Chosen → Type 0
Lists k r = IfOk r (λ ls. HasSome ls × AreOf k ls)

module _ (P : List Weighted → Type 0) where
  valued : (k : KindTree) (e : Evaluated) (next : ValueTree → Chosen) → GivesKind k e → ((v : ValueTree) → HasKind v k × IsWellFormed v → IfOk (next v) P)
      → IfOk (with_value e next) P
  valued k (Ok v) next h go = go v h
  valued k (Err f) next h go = tt

  listing : (Q : List Weighted → Type 0) (r : Chosen) (next : List Weighted → Chosen) → IfOk r Q → ((ws : List Weighted) → Q ws → IfOk (next ws) P)
      → IfOk (then_ok r next) P
  listing Q (Ok ws) next h go = go ws h
  listing Q (Err f) next h go = tt

first_kept : (b : Bool) (w : Weighted) (ws : List Weighted) → b ≡ true → 1 ≤ length (map (λ u. u.value) (cond b (w ∷ ws) ws))
first_kept true w ws t = omega arith
first_kept false w ws t = (cc)

some_first : (w : Weighted) (ws : List Weighted) → 0 < w.weight → HasSome (w ∷ ws)
some_first w ws h = first_kept (nat_lt 0 w.weight) w (filter (λ u. nat_lt 0 u.weight) ws) (passes_test w.weight h)

-- all have some weight, and there are some
some_listed : (k : KindTree) (ws : List Weighted) → Each (λ w. (0 < w.weight) × (HasKind w.value k × IsWellFormed w.value)) ws → Lists k (some_of ws)
some_listed k [] h = tt
some_listed k (w ∷ ws) h =
    (some_first w ws h.0.0, each_weaker (λ u. (0 < u.weight) × (HasKind u.value k × IsWellFormed u.value)) (λ u. HasKind u.value k × IsWellFormed u.value) (λ u both. both.1) (w ∷ ws) h)

once_each : (k : KindTree) (vs : List ValueTree) → Each (λ v. HasKind v k × IsWellFormed v) vs → Lists k (some_of (map once vs))
once_each k vs h =
    some_listed k (map once vs) (each_map (λ w. (0 < w.weight) × (HasKind w.value k × IsWellFormed w.value)) once vs
    (each_weaker (λ v. HasKind v k × IsWellFormed v) (λ v. (0 < 1) × (HasKind v k × IsWellFormed v)) (λ v both. (omega arith, both)) vs h))

members : (k : KindTree) (vs : ValueTrees) → AllHaveKind vs k → EachWellFormed vs → Each (λ v. HasKind v k × IsWellFormed v) (parts_list vs)
members k no_value h formed = tt
members k (more_values v vs) h formed = ((h.0, formed.0), members k vs h.1 formed.1)

elements_kind : (k : KindTree) (v : ValueTree) → HasKind v (SetKind k) → IsWellFormed v → Each (λ u. HasKind u k × IsWellFormed u) (elements v)
elements_kind k (Truth b) h formed = absurd h
elements_kind k (Whole i) h formed = absurd h
elements_kind k (Tuple vs) h formed = absurd h
elements_kind k (Set vs) h formed = members k vs h formed.1

wholes : (a b : ℤ) → Each (λ v. HasKind v WholeKind × IsWellFormed v) (values (Range a b))
unfolding values
wholes a b =
    each_map (λ v. HasKind v WholeKind × IsWellFormed v) (λ n. Whole (a +ℤ pos n)) (range_with_len 0 (counted (b -ℤ a)))
    (each_any (λ n. HasKind (Whole (a +ℤ pos n)) WholeKind × IsWellFormed (Whole (a +ℤ pos n))) (λ n. (tt, tt)) (range_with_len 0 (counted (b -ℤ a))))

unless : (long : Bool) (f : ChoiceFault) (k : KindTree) (r : Chosen) → Lists k r → Lists k (if long then Err f else r)
unless true f k r h = tt
unless false f k r h = h

from_range : (a b : ℤ) → Lists WholeKind (each_from a b)
from_range a b = unless (nat_lt 65536 (counted (b -ℤ a))) RangeLong WholeKind (some_of (map once (values (Range a b)))) (once_each WholeKind (values (Range a b)) (wholes a b))

-- listed cases: each value has some weight
abbrev AreWeighed : KindTree → List Weighted → Type 0
AreWeighed k ws = Each (λ w. (0 < w.weight) × (HasKind w.value k × IsWellFormed w.value)) ws

weighed_one : (k : KindTree) (e : Evaluated) (z : ℤ) → GivesKind k e → IfOk (weighed e z) (AreWeighed k)
weighed_one k e (negsuc n) h = tt
weighed_one k e (pos zero) h = tt
weighed_one k e (pos (suc n)) h = valued (AreWeighed k) k e (λ v. Ok (record { value = v; weight = n + 1 } ∷ [])) h (λ v both. ((omega arith, both), tt))

flip_some : (num den : ℕ) → 1 ≤ den → HasSome (record { value = Truth true; weight = num } ∷ record { value = Truth false; weight = den - num } ∷ [])
flip_some zero den h = some_first (record { value = Truth false; weight = den - 0 }) [] (omega arith)
flip_some (suc n) den h = some_first (record { value = Truth true; weight = suc n }) (record { value = Truth false; weight = den - suc n } ∷ []) (omega arith)

module _ (rows : All RowKeepsKinds operators) (ks : List KindTree) (s : List ValueTree) (are : AreOfKinds ks s) where
  cases_weighed : {cs : List DxCaseTree} {k : KindTree} → CasesKinded ks cs k → IfOk (cases_listed s cs) (AreWeighed k)
  cases_weighed none = tt
  cases_weighed (more {x} {y} {cs} {k} of_x of_y others) =
      listing (AreWeighed k) (AreWeighed k) (case_listed s (case_of x y)) (λ ws. then_ok (cases_listed s cs) (λ us. Ok (ws ++ us)))
      (valued (AreWeighed k) WholeKind (ev s y) (λ w. weighed (ev s x) (whole w)) (keeps rows ks s are of_y) (λ w both. weighed_one k (ev s x) (whole w) (keeps rows ks s are of_x)))
      (λ ws first. listing (AreWeighed k) (AreWeighed k) (cases_listed s cs) (λ us. Ok (ws ++ us)) (cases_weighed others)
      (λ us rest. each_append (λ w. (0 < w.weight) × (HasKind w.value k × IsWellFormed w.value)) ws us first rest))

  listed_kinds : {at : ℕ} {d : DxShape} {k : KindTree} → DistKinded ks (dx_at at d) k → Lists k (listed s d)
  listed_kinds (sure at {x} {k} of) =
      valued (λ ls. HasSome ls × AreOf k ls) k (ev s x) (λ v. Ok (once v ∷ [])) (keeps rows ks s are of) (λ v both. (some_first (once v) [] (omega arith), (both, tt)))
  listed_kinds (uniform_set at {x} {k} of) =
      valued (λ ls. HasSome ls × AreOf k ls) (SetKind k) (ev s x) (λ v. some_of (map once (elements v))) (keeps rows ks s are of)
      (λ v both. once_each k (elements v) (elements_kind k v both.0 both.1))
  listed_kinds (uniform_range at {x} {y} of_x of_y) =
      valued (λ ls. HasSome ls × AreOf WholeKind ls) WholeKind (ev s x) (λ a. with_value (ev s y) (λ b. each_from (whole a) (whole b))) (keeps rows ks s are of_x)
      (λ a any. valued (λ ls. HasSome ls × AreOf WholeKind ls) WholeKind (ev s y) (λ b. each_from (whole a) (whole b)) (keeps rows ks s are of_y)
      (λ b other. from_range (whole a) (whole b)))
  listed_kinds (choose at {cs} {k} of some) =
      listing (λ ls. HasSome ls × AreOf k ls) (AreWeighed k) (cases_listed s cs) some_of (cases_weighed of) (some_listed k)
  listed_kinds (flip at num den some within) = (flip_some num den some, ((tt, tt), ((tt, tt), tt)))

placed_some : (o : Ordering) (v u : ValueTree) (us ws : List ValueTree) → 1 ≤ length (match_ordering o (v ∷ u ∷ us) (u ∷ us) (u ∷ ws))
placed_some Less v u us ws = omega arith
placed_some Equal v u us ws = omega arith
placed_some Greater v u us ws = omega arith

inserted_some : (v : ValueTree) (us : List ValueTree) → 1 ≤ length (inserted v us)
inserted_some v [] = omega arith
inserted_some v (u ∷ us) = placed_some (order v u) v u us (inserted v us)

set_of_some : (vs : List ValueTree) → 1 ≤ length vs → 1 ≤ length (set_of vs)
set_of_some [] h = h
set_of_some (v ∷ vs) h = inserted_some v (set_of vs)

filtered : (P : Weighted → Type 0) (b : Bool) (w : Weighted) (ws : List Weighted) → P w → Each P ws → Each P (cond b (w ∷ ws) ws)
filtered P true w ws here h = (here, h)
filtered P false w ws here h = h

each_filter : (P : Weighted → Type 0) (test : Weighted → Bool) (ws : List Weighted) → Each P ws → Each P (filter test ws)
each_filter P test [] h = tt
each_filter P test (w ∷ ws) h = filtered P (test w) w (filter test ws) h.0 (each_filter P test ws h.1)

chosen_kinds : (k : KindTree) (ls : List Weighted) → HasSome ls × AreOf k ls
    → (1 ≤ length (lowest (gathered ls))) × All (λ w. HasKind w.value k × IsWellFormed w.value) (lowest (gathered ls))
chosen_kinds k ls h =
    let IsOf : ValueTree → Type 0 = λ v. HasKind v k × IsWellFormed v in
    let us = set_of (weighty ls) in
    let g = common_factor (gathered ls) in
    let long : 1 ≤ length us = set_of_some (weighty ls) h.0 in
    let values = each_set_of IsOf (weighty ls) (each_map IsOf (λ w. w.value) (filter (λ w. nat_lt 0 w.weight) ls)
    (each_filter (λ w. IsOf w.value) (λ w. nat_lt 0 w.weight) ls h.1)) in (
      rw (length-over g (gathered ls), length-with_weights (weight_in ls) us) long,
      All-from_recursion (λ w. IsOf w.value) (lowest (gathered ls)) (each_map (λ w. IsOf w.value) (λ w. record { value = w.value; weight = w.weight / g }) (gathered ls)
          (each_map (λ w. IsOf w.value) (λ v. record { value = v; weight = weight_in ls v }) us values)),
    )

pub choices_keep_kinds : All RowKeepsKinds operators → ChoicesKeepKinds
choices_keep_kinds rows ks s at d k are kinded =
    listing (λ ws. (1 ≤ length ws) × All (λ w. HasKind w.value k × IsWellFormed w.value) ws) (λ ls. HasSome ls × AreOf k ls)
    (listed s d) (λ ls. Ok (lowest (gathered ls))) (listed_kinds rows ks s are kinded) (chosen_kinds k)
