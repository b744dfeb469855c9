-- Columns pushed through a guard: on each side through its branch, and then put together.
use Rattle.std.proofs.Common.{◌≡◌, ℕ, ◌+◌, ◌*◌, Bool, true, false, cond, List, [], ◌∷◌, ◌++◌, All, map, Ok, Err, ◌⊎◌, inl, inr, refl, sym, ap, subst, ◌∙◌, arith, append-nil, true≢false}
use Rattle.std.specs.Prelude.{if◌then◌else◌}
use Rattle.std.specs.List.{flat_map}
use Rattle.std.specs.declared.cmp.Ordering.TheVariants.{Less}
use Rattle.std.specs.Ordering.{ordering_then}
use Rattle.std.proofs.Math.Nat.{mul-one}
use Rattle.std.proofs.lemmas.Grind.{flat_map-append}
use Rattle.kf_value.specs.Values.{ValueTree, Truth, Whole, Tuple, Set, truth, order, lexicographic}
use Rattle.kf_value.proofs.ListLemmas.{each_any}
use Rattle.kf_column.proofs.AtMostOne.{In}
use Rattle.kf_column.specs.Columns.{IsColumn}
use Rattle.kf_column.specs.Merged.{AreMerged}
use Rattle.kf_column.specs.Traces.{trace_order}
use Rattle.kf_core.specs.Choices.{Weighted, total}
use Rattle.kf_core.specs.Joint.{Cell, cell_of, cells, weight_of}
use Rattle.kf_core.specs.Ready.{IsPushed}
use Rattle.kf_core.specs.Runs.{Run, Tried, LoopBound, joined, chain, choice_run, branched, stay, stopped, guarded}
use Rattle.kf_core.proofs.OneTable.{in_from_contains, contains_from_in}
use Rattle.kf_core.proofs.Sums.{adds, adds_joined, adds_mapped, adds_flat, adds_both, sum_filtered, each_is}
use Rattle.kf_core.specs.Leaks.{shown}
use Rattle.kf_core.specs.Each.{onward, is_cell_at}
use Rattle.kf_push.specs.Following.{side}
use Rattle.kf_column.proofs.Beliefs.{some_merged}
use Rattle.kf_push.proofs.Carrying.{Runner, Matrix, ComeBefore, AreAlike, some_pushed, one_pushed, pushed_columns, pushed_beside, pushed_alike}
use Rattle.kf_push.proofs.Joining.{both_columns, merged_across, merged_turned}
use Rattle.kf_push.proofs.Members.{Picks, branched_picks, in_either}

-- where the guard's value passes this test, it is leaked and the runs go on so; other runs are not followed
abbrev pub kept : (ValueTree → Bool) → (ℕ → Tried) → Runner → Runner
kept test guard next n = branched shown n (λ v. if test v then next n else []) (guard n)

-- the runs where the value is the wanted one, and else none
abbrev pub where_wanted : Bool → List Run → Bool → List Run
where_wanted wanted rs b = if b then (if wanted then rs else []) else (if wanted then [] else rs)

-- behind one side of the guard
abbrev pub on : Bool → (ℕ → Tried) → Runner → Runner
on wanted guard next n = branched shown n (λ v. where_wanted wanted (next n) (truth v)) (guard n)

abbrev pub both : Runner → Runner → Runner
both from next n = from n ++ next n

-- ---- a side, and then its branch

module _ (n k : ℕ) (c : Weighted) where
  abbrev chosen : Run
  chosen = choice_run shown n k c

  abbrev still : Run
  still = record { trace = []; end = Ok n; weight = 1; scale = 1 }

  passed_on : (q : Run) → joined (joined chosen still) q ≡ joined chosen q
  passed_on q =
      let weights = mul-one c.weight in
      let scales = mul-one k in
      λ i. record { trace = c.value ∷ q.trace; end = q.end; weight = weights i * q.weight; scale = scales i * q.scale }

  all_passed_on : (qs : List Run) → map (joined (joined chosen still)) qs ≡ map (joined chosen) qs
  all_passed_on [] = refl
  all_passed_on (q ∷ qs) = let head = passed_on q in let tail = all_passed_on qs in λ i. head i ∷ tail i

  module _ (next : Runner) where
    stays_on : chain (map (joined chosen) (stay n)) next ≡ map (joined chosen) (next n)
    stays_on = append-nil (map (joined (joined chosen still)) (next n)) ∙ all_passed_on (next n)

    sides_on : (b wanted : Bool) → chain (map (joined chosen) (where_wanted wanted (stay n) b)) next ≡ map (joined chosen) (where_wanted wanted (next n) b)
    sides_on true true = stays_on
    sides_on true false = refl
    sides_on false true = refl
    sides_on false false = stays_on

module _ (wanted : Bool) (guard : ℕ → Tried) (next : Runner) where
  abbrev to : Runner → ℕ → ValueTree → List Run
  to from n v = where_wanted wanted (from n) (truth v)

  -- the runs behind one choice
  abbrev step : Runner → (n k : ℕ) → Weighted → List Run
  step from n k c = map (joined (choice_run shown n k c)) (to from n c.value)

  choices_on : (n k : ℕ) (cs : List Weighted) → chain (flat_map (step stay n k) cs) next ≡ flat_map (step next n k) cs
  choices_on n k [] = refl
  choices_on n k (c ∷ cs) =
      let head = sides_on n k c next (truth c.value) wanted in
      let tail = choices_on n k cs in
      flat_map-append (λ r. onward next r r.end) (step stay n k c) (flat_map (step stay n k) cs) ∙ (λ i. head i ++ tail i)

  guard_on : (n : ℕ) (g : Tried) → chain (branched shown n (to stay n) g) next ≡ branched shown n (to next n) g
  guard_on n (Ok ws) = choices_on n (total ws) ws
  guard_on n (Err f) = refl

  pub chain_side : (n : ℕ) → chain (side wanted guard n) next ≡ on wanted guard next n
  chain_side n = guard_on n (guard n)

-- ---- the weights that runs bring

module _ (w : ℕ) (t : List ValueTree) (x : ℕ) where
  abbrev there : Cell → ℕ
  there c = cond (is_cell_at t x c) c.weight 0

  -- what one run brings to the trace and the store
  abbrev pub brought : Run → ℕ
  brought r = adds there (cell_of (λ n. n) w r)

  pub brought_is : (rs : List Run) → weight_of (cells (λ n. n) w rs) t x ≡ adds brought rs
  brought_is rs =
      sum_filtered (λ (c : Cell). c.weight) (is_cell_at t x) (cells (λ n. n) w rs) ∙ adds_flat there (cell_of (λ n. n) w) rs

  -- the sum over the choices of what is brought behind each
  abbrev behind : (ℕ → Weighted → ℕ) → Tried → ℕ
  behind f (Ok ws) = adds (f (total ws)) ws
  behind f (Err e) = 0

  behind_sum : (f g h : ℕ → Weighted → ℕ) → ((k : ℕ) (c : Weighted) → f k c ≡ g k c + h k c) → (tries : Tried)
      → behind f tries ≡ behind g tries + behind h tries
  behind_sum f g h each (Ok ws) =
      adds_both (g (total ws)) (h (total ws)) (f (total ws)) ws (each_any (λ c. f (total ws) c ≡ g (total ws) c + h (total ws) c) (each (total ws)) ws)
  behind_sum f g h each (Err e) = refl

  module _ (n : ℕ) where
    abbrev through : (ValueTree → List Run) → ℕ → Weighted → ℕ
    through next k c = adds (λ q. brought (joined (choice_run shown n k c) q)) (next c.value)

    branched_brings : (next : ValueTree → List Run) (g : Tried) → adds brought (branched shown n next g) ≡ behind (through next) g
    branched_brings next (Ok ws) =
        let step : Weighted → List Run = λ c. map (joined (choice_run shown n (total ws) c)) (next c.value) in
        adds_flat brought step ws
        ∙ each_is (λ c. adds brought (step c)) (through next (total ws))
        (λ c. adds_mapped brought (joined (choice_run shown n (total ws) c)) (next c.value)) ws
    branched_brings next (Err f) = refl

    -- where what stands behind each value is split in two, so is the whole
    both_bring : (next one other : ValueTree → List Run) (g : Tried) → ((f : Run → ℕ) (v : ValueTree) → adds f (next v) ≡ adds f (one v) + adds f (other v))
        → adds brought (branched shown n next g) ≡ adds brought (branched shown n one g ++ branched shown n other g)
    both_bring next one other g parts =
        branched_brings next g
        ∙ behind_sum (through next) (through one) (through other) (λ k c. parts (λ q. brought (joined (choice_run shown n k c) q)) c.value) g
        ∙ (λ i. sym (branched_brings one g) i + sym (branched_brings other g) i)
        ∙ sym (adds_joined brought (branched shown n one g) (branched shown n other g))

pub alike_by : (from other : Runner)
    → ((w : ℕ) (t : List ValueTree) (x n : ℕ) → adds (brought w t x) (from n) ≡ adds (brought w t x) (other n)) → AreAlike from other
alike_by from other same n w t x = brought_is w t x (from n) ∙ same w t x n ∙ sym (brought_is w t x (other n))

-- ---- the guard's values in their order

-- false comes first, then true, and then what no checked guard comes to
abbrev is_false : ValueTree → Bool
is_false (Truth true) = false
is_false (Truth false) = true
is_false other = false

abbrev is_other : ValueTree → Bool
is_other (Truth b) = false
is_other other = true

module _ (f : Run → ℕ) where
  -- a value on the side of false is false, or no Boolean
  false_parts : (left : List Run) (v : ValueTree)
      → adds f (if truth v then [] else left) ≡ adds f (if is_false v then left else []) + adds f (if is_other v then left else [])
  false_parts left (Truth true) = refl
  false_parts left (Truth false) = omega arith
  false_parts left (Whole z) = omega arith
  false_parts left (Tuple vs) = omega arith
  false_parts left (Set vs) = omega arith

  guard_parts : (taken left : List Run) (b : Bool) → adds f (if b then taken else left) ≡ adds f (if b then taken else []) + adds f (if b then [] else left)
  guard_parts taken left true = omega arith
  guard_parts taken left false = omega arith

module _ (test other : ValueTree → Bool) (less : (v u : ValueTree) → test v ≡ true → other u ≡ true → order v u ≡ Less)
    (guard : ℕ → Tried) (from next : Runner) where
  passes : (b : Bool) (q : Run) (rs : List Run) → In q (if b then rs else []) → b ≡ true
  passes true q rs has = refl
  passes false q rs has = absurd has

  picks_before : (n m : ℕ) (r q : Run) → Picks shown n (λ v. if test v then from n else []) (guard n) r
      → Picks shown m (λ v. if other v then next m else []) (guard m) q → trace_order r.trace q.trace ≡ Less
  picks_before n m r q a b =
      let first = less a.choice.value b.choice.value
      (passes (test a.choice.value) a.second (from n) a.has_second) (passes (other b.choice.value) b.second (next m) b.has_second) in
      (λ i. trace_order (a.is i).trace (b.is i).trace)
      ∙ ap (λ o. ordering_then o (lexicographic (map order a.second.trace) b.second.trace)) first

  pub kept_before : ComeBefore (kept test guard from) (kept other guard next)
  kept_before n m r q has is ends stops =
      picks_before n m r q
      (branched_picks shown n (λ v. if test v then from n else []) (guard n) r ends (in_from_contains (kept test guard from n) r has))
      (branched_picks shown m (λ v. if other v then next m else []) (guard m) q stops (in_from_contains (kept other guard next m) q is))

false_true : (v u : ValueTree) → is_false v ≡ true → truth u ≡ true → order v u ≡ Less
false_true (Truth true) u p q = absurd (true≢false (sym p))
false_true (Truth false) (Truth true) p q = refl
false_true (Truth false) (Truth false) p q = absurd (true≢false (sym q))
false_true (Truth false) (Whole z) p q = refl
false_true (Truth false) (Tuple vs) p q = refl
false_true (Truth false) (Set vs) p q = refl
false_true (Whole z) u p q = absurd (true≢false (sym p))
false_true (Tuple vs) u p q = absurd (true≢false (sym p))
false_true (Set vs) u p q = absurd (true≢false (sym p))

truth_other : (b : Bool) (u : ValueTree) → is_other u ≡ true → order (Truth b) u ≡ Less
truth_other b (Truth c) q = absurd (true≢false (sym q))
truth_other b (Whole z) q = refl
truth_other b (Tuple vs) q = refl
truth_other b (Set vs) q = refl

false_other : (v u : ValueTree) → is_false v ≡ true → is_other u ≡ true → order v u ≡ Less
false_other (Truth b) u p q = truth_other b u q
false_other (Whole z) u p q = absurd (true≢false (sym p))
false_other (Tuple vs) u p q = absurd (true≢false (sym p))
false_other (Set vs) u p q = absurd (true≢false (sym p))

true_other : (v u : ValueTree) → truth v ≡ true → is_other u ≡ true → order v u ≡ Less
true_other (Truth b) u p q = truth_other b u q
true_other (Whole z) u p q = absurd (true≢false (sym p))
true_other (Tuple vs) u p q = absurd (true≢false (sym p))
true_other (Set vs) u p q = absurd (true≢false (sym p))

-- ---- the sides together

module _ (guard : ℕ → Tried) (taken left : Runner) where
  abbrev falses : Runner
  falses = kept is_false guard left

  abbrev others : Runner
  others = kept is_other guard left

  falses_first : ComeBefore falses (both (on true guard taken) others)
  falses_first n m r q has is ends stops = at (in_either q (on true guard taken m) (others m) (in_from_contains (both (on true guard taken) others m) q is))
    where
      at : In q (on true guard taken m) ⊎ In q (others m) → trace_order r.trace q.trace ≡ Less
      at (inl h) = kept_before is_false truth false_true guard left taken n m r q has (contains_from_in (on true guard taken m) q h) ends stops
      at (inr h) = kept_before is_false is_other false_other guard left left n m r q has (contains_from_in (others m) q h) ends stops

  module _ (w : ℕ) (t : List ValueTree) (x n : ℕ) where
    abbrev bring : Run → ℕ
    bring = brought w t x

    left_brings : adds bring (on false guard left n) ≡ adds bring (falses n ++ others n)
    left_brings =
        both_bring w t x n (λ v. if truth v then [] else left n) (λ v. if is_false v then left n else []) (λ v. if is_other v then left n else []) (guard n)
        (λ f v. false_parts f (left n) v)

    sides_bring : adds bring (guarded guard taken left n) ≡ adds bring (on true guard taken n ++ on false guard left n)
    sides_bring =
        both_bring w t x n (λ v. if truth v then taken n else left n) (λ v. if truth v then taken n else []) (λ v. if truth v then [] else left n) (guard n)
        (λ f v. guard_parts f (taken n) (left n) (truth v))

    whole_brings : adds bring (falses n ++ (on true guard taken n ++ others n)) ≡ adds bring (guarded guard taken left n)
    whole_brings =
        omega (
          arith,
          left_brings,
          sides_bring,
          adds_joined bring (on true guard taken n) (on false guard left n),
          adds_joined bring (falses n) (others n),
          adds_joined bring (falses n) (on true guard taken n ++ others n),
          adds_joined bring (on true guard taken n) (others n),
        )

  left_alike : AreAlike (both falses others) (on false guard left)
  left_alike = alike_by (both falses others) (on false guard left) (λ w t x n. sym (left_brings w t x n))

  whole_alike : AreAlike (both falses (both (on true guard taken) others)) (guarded guard taken left)
  whole_alike = alike_by (both falses (both (on true guard taken) others)) (guarded guard taken left) whole_brings

  -- what both sides come to, merged, is what the whole comes to
  pub sides_joined : (columns one other after : Matrix) → All IsColumn columns
      → IsPushed (on true guard taken) columns one → IsPushed (on false guard left) columns other → AreMerged (one ++ other) after
      → IsPushed (guarded guard taken left) columns after
  sides_joined columns one other after are p q m =
      let a = some_pushed falses columns in
      let c = some_pushed others columns in
      let of_one = pushed_columns (on true guard taken) columns one p in
      let of_other = pushed_columns (on false guard left) columns other q in
      let of_a = pushed_columns falses columns a.0 a.1 in
      let of_c = pushed_columns others columns c.0 c.1 in
      let ac = some_merged (a.0 ++ c.0) (both_columns a.0 c.0 of_a of_c) in
      let is_ac = pushed_alike (both falses others) (on false guard left) columns ac.0 left_alike
      (pushed_beside falses others columns a.0 c.0 ac.0 (kept_before is_false is_other false_other guard left left) are a.1 c.1 ac.1) in
      let same : ac.0 ≡ other = one_pushed (on false guard left) columns ac.0 other is_ac q in
      let oc = some_merged (one ++ c.0) (both_columns one c.0 of_one of_c) in
      let is_oc = pushed_beside (on true guard taken) others columns one c.0 oc.0 (kept_before truth is_other true_other guard taken left) are p c.1 oc.1 in
      let parts : AreMerged (a.0 ++ c.0) other = subst (λ (cs : Matrix). AreMerged (a.0 ++ c.0) cs) same ac.1 in
      let whole : AreMerged (a.0 ++ oc.0) after = merged_turned oc.0 a.0 after (pushed_columns (both (on true guard taken) others) columns oc.0 is_oc) of_a
      (merged_across one a.0 c.0 oc.0 other after of_one of_a of_c oc.1 parts m) in
      pushed_alike (both falses (both (on true guard taken) others)) (guarded guard taken left) columns after whole_alike
      (pushed_beside falses (both (on true guard taken) others) columns a.0 oc.0 after falses_first are a.1 is_oc whole)

-- ---- behind the last turn of a loop

module _ (w : ℕ) (t : List ValueTree) (x n at : ℕ) where
  abbrev leaving : ValueTree → List Run
  leaving v = if truth v then [] else stay n

  abbrev ending : ValueTree → List Run
  ending v = if truth v then stopped LoopBound at else stay n

  stops_bring : (k : ℕ) (c : Weighted) (b : Bool)
      → adds (λ q. brought w t x (joined (choice_run shown n k c) q)) (if b then [] else stay n)
      ≡ adds (λ q. brought w t x (joined (choice_run shown n k c) q)) (if b then stopped LoopBound at else stay n)
  stops_bring k c true = refl
  stops_bring k c false = refl

  last_brings : (g : Tried) → adds (brought w t x) (branched shown n leaving g) ≡ adds (brought w t x) (branched shown n ending g)
  last_brings (Ok ws) =
      branched_brings w t x n leaving (Ok ws)
      ∙ each_is (through w t x n leaving (total ws)) (through w t x n ending (total ws)) (λ c. stops_bring (total ws) c (truth c.value)) ws
      ∙ sym (branched_brings w t x n ending (Ok ws))
  last_brings (Err f) = refl

-- no run ends there but on the side of false
pub last_alike : (guard : ℕ → Tried) (at : ℕ) → AreAlike (side false guard) (guarded guard (λ n. stopped LoopBound at) stay)
last_alike guard at = alike_by (side false guard) (guarded guard (λ n. stopped LoopBound at) stay) (λ w t x n. last_brings w t x n at (guard n))
