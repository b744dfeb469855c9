-- One step from all stores, store by store.
use Rattle.std.proofs.Common.{◌≡◌, ℕ, zero, suc, ◌+◌, ◌*◌, ◌<◌, ◌≤◌, Bool, true, false, List, [], ◌∷◌, Option, Some, Ok, Err, ◌++◌, refl, sym, ap, ◌∙◌, subst, arith, if◌then◌else◌, append_assoc, append-nil, length, get_or, set, take, drop, map}
use Rattle.std.proofs.lemmas.List.{take_all, take_more_set, drop_all, drop_more, drop-set-lt}
use Rattle.kf_value.specs.Types.{TypeTree}
use Rattle.kf_core.specs.Choices.{Weighted, total}
use Rattle.kf_core.specs.Runs.{LoopBound, Tried, tried, place, replaced}
use Rattle.kf_core.specs.Results.{then_ok}
use Rattle.kf_core.specs.Support.{Passed, can_be, bounded}
use Rattle.kf_core.specs.Each.{each_moved}
use Rattle.kf_core.specs.Dxs.{DxTree}
use Rattle.kf_support.specs.declared.faults.Halt.{Halt}
use Rattle.kf_support.specs.declared.faults.Halt.TheVariants as halt
use Rattle.kf_support.specs.Answers.{AreWays, IsHaltOf, ways_to}
use Rattle.kf_support.specs.Carried.{Reached, Lead, capped, with_all, with_ways, carry_step, staying, guard_lead, last_lead, assign_lead}
use Rattle.kf_support.proofs.Adding.{IsWay, IsScale, capped_scale, first_way}
use Rattle.kf_support.proofs.Settling.{made_more, one_more_way}

pub passed_value : {A B : Type 0} (r : Passed A) (f : A → B) (y : B) → then_ok r (λ x. Ok (f x)) ≡ Ok y → (x : A) × (r ≡ Ok x) × (y ≡ f x)
passed_value (Ok x) f y e = let same : y ≡ f x = (cc) in (x, refl, same)
passed_value (Err g) f y e = absurd (cc)

-- ---- where the choices in a store lead

-- the moves that are left, behind those that are made
pub record MovesOn (at scale size : ℕ) (left : List (Option ℕ)) (whole : Passed Reached) (made : Reached) : Type 0 where
  pub all : then_ok (each_moved at left) (λ ms. Ok (made ++ ways_to ms scale)) ≡ whole
  pub ways : AreWays size made

way_first : (r : Passed (List ℕ)) (made : Reached) (m scale : ℕ)
    → then_ok {B = Reached} (then_ok {B = List ℕ} r (λ others. Ok (m ∷ others))) (λ ms. Ok (made ++ ways_to ms scale)) ≡ then_ok {B = Reached} r (λ ms. Ok ((made ++ (m, scale) ∷ []) ++ ways_to ms scale))
way_first (Ok ms) made m scale = let joined = append_assoc made ((m, scale) ∷ []) (ways_to ms scale) in λ i. Ok (sym joined i)
way_first (Err f) made m scale = refl

module _ (at scale size : ℕ) (whole : Passed Reached) (made : Reached) where
  pub moves_step : (m : ℕ) (ms left : List (Option ℕ)) → left ≡ Some m ∷ ms → m < size → IsScale scale → MovesOn at scale size left whole made
      → MovesOn at scale size ms whole (made ++ (m, scale) ∷ [])
  moves_step m ms left next below is had = record {
    all = sym (way_first (each_moved at ms) made m scale) ∙ (ap (λ l. then_ok (each_moved at l) (λ ks. Ok (made ++ ways_to ks scale))) (sym next) ∙ had.all);
    ways = one_more_way size m scale made below is had.ways;
  }

  pub moves_end : (left : List (Option ℕ)) → left ≡ [] → MovesOn at scale size left whole made → whole ≡ Ok made
  moves_end left none had =
      let all : then_ok (each_moved at []) (λ ms. Ok (made ++ ways_to ms scale)) ≡ whole = ap (λ l. then_ok (each_moved at l) (λ ms. Ok (made ++ ways_to ms scale))) (sym none) ∙ had.all in
      sym all ∙ (let e = append-nil made in λ i. Ok (e i))

-- ---- the stores that are left, and the ways that others lead to

pub record CarriesOn (lead : Lead) (size : ℕ) (left : Reached) (whole : Passed Reached) (made : Reached) : Type 0 where
  pub all : carry_step lead (with_all [] made) left ≡ whole
  pub ways : AreWays size made
  pub rest : AreWays size left

-- a store's scale, times that of its choices
pub grown_scale : (scale n : ℕ) → 1 ≤ scale → 1 ≤ n → IsScale (capped (scale * n))
grown_scale scale n some more = capped_scale (scale * n) (some_product scale n some more)
  where
    some_product : (a b : ℕ) → 1 ≤ a → 1 ≤ b → 1 ≤ a * b
    some_product zero b p q = absurd (omega arith)
    some_product (suc a) zero p q = absurd (omega arith)
    some_product (suc a) (suc b) p q = omega arith

module _ (lead : Lead) (size : ℕ) (whole : Passed Reached) (made : Reached) (e : ℕ × ℕ) (es left : Reached) (next : left ≡ e ∷ es) (had : CarriesOn lead size left whole made) where
  pub here : IsWay size e
  here = (first_way size e es left next had.rest).0

  opened : carry_step lead (with_all [] made) (e ∷ es) ≡ whole
  opened = ap (carry_step lead (with_all [] made)) (sym next) ∙ had.all

  pub carries_step : (to : List ℕ) (n : ℕ) (after : Reached) → lead e.0 ≡ Ok (to, n) → after ≡ made ++ ways_to to (capped (e.1 * n)) → AreWays size after
      → CarriesOn lead size es whole after
  carries_step to n after leads is ways = record {
    all = ap (λ l. carry_step lead l es) (ap (with_all []) is ∙ made_more made to (capped (e.1 * n)))
        ∙ (ap (λ (r : Passed (List ℕ × ℕ)). then_ok r (λ k. carry_step lead (with_ways (with_all [] made) k.0 (capped (e.1 * k.1))) es)) (sym leads) ∙ opened);
    ways = ways;
    rest = (first_way size e es left next had.rest).1;
  }

  -- the first fault
  pub carries_fault : (h : Halt) → IsHaltOf (lead e.0) h → IsHaltOf whole h
  carries_fault (halt.Fault kind at) is = sym opened ∙ ap (λ (r : Passed (List ℕ × ℕ)). then_ok r (λ k. carry_step lead (with_ways (with_all [] made) k.0 (capped (e.1 * k.1))) es)) is
  carries_fault halt.Scale is = is
  carries_fault halt.Mem is = tt

-- a list that is gone along by its places
module _ (lead : Lead) (size : ℕ) (whole : Passed Reached) (made from : Reached) (i : ℕ) (had : CarriesOn lead size (drop i from) whole made) where
  pub way_at : i < length from → IsWay size (get_or from i (0, 0))
  way_at within = here lead size whole made (get_or from i (0, 0)) (drop (i + 1) from) (drop i from) (drop_more from i (0, 0) within) had

  pub fault_at : i < length from → (h : Halt) → IsHaltOf (lead (get_or from i (0, 0)).0) h → IsHaltOf whole h
  fault_at within = carries_fault lead size whole made (get_or from i (0, 0)) (drop (i + 1) from) (drop i from) (drop_more from i (0, 0) within) had

  pub ways_end : length from ≤ i → whole ≡ Ok (with_all [] made)
  ways_end past = sym had.all ∙ ap (carry_step lead (with_all [] made)) (drop_all i from past)

-- other ways that lead to the same
pub carries_same : (lead : Lead) (size : ℕ) (left : Reached) (whole : Passed Reached) (made others : Reached) → with_all [] others ≡ with_all [] made → AreWays size others → CarriesOn lead size left whole made
    → CarriesOn lead size left whole others
carries_same lead size left whole made others same ways had = record {
  all = ap (λ es. carry_step lead es left) same ∙ had.all;
  ways = ways;
  rest = had.rest;
}

-- ---- a fault of what comes first

pub then_fault : {A B : Type 0} (r : Passed A) (next : A → Passed B) (h : Halt) → IsHaltOf r h → IsHaltOf (then_ok r next) h
then_fault r next (halt.Fault kind at) is = ap (λ r. then_ok r next) is
then_fault r next halt.Scale is = is
then_fault r next halt.Mem is = tt

pub guard_fault : (b : Bool) (guard : ℕ → Tried) (n : ℕ) (h : Halt) → IsHaltOf (guard n) h → IsHaltOf (guard_lead b guard n) h
guard_fault b guard n h is = then_fault (guard n) (λ ws. Ok (if can_be b (Ok ws) then n ∷ [] else [], total ws)) h is

pub assign_fault : (ts : List TypeTree) (i : ℕ) (d : DxTree) (n : ℕ) (h : Halt) → IsHaltOf (tried ts d n) h → IsHaltOf (assign_lead ts i d n) h
assign_fault ts i d n h is =
    then_fault (tried ts d n) (λ ws. then_ok (each_moved (place d) (map (λ w. replaced ts i w.value n) ws)) (λ ms. Ok (ms, total ws))) h is

pub last_fault : (at : ℕ) (guard : ℕ → Tried) (n : ℕ) (h : Halt) → IsHaltOf (guard n) h → IsHaltOf (last_lead at guard n) h
last_fault at guard n (halt.Fault kind place) is = ap (λ r. then_ok (bounded at n r) (λ _. guard_lead false guard n)) is
last_fault at guard n halt.Scale is = is
last_fault at guard n halt.Mem is = tt

pub then_value : {A B : Type 0} (r : Passed A) (next : A → Passed B) (x : A) → r ≡ Ok x → then_ok r next ≡ next x
then_value r next x is = ap (λ r. then_ok r next) is

pub fault_same : {A : Type 0} (r s : Passed A) (h : Halt) → r ≡ s → IsHaltOf s h → IsHaltOf r h
fault_same r s h same is = subst (λ t. IsHaltOf t h) (sym same) is

-- ---- a store that leads to itself

-- to these stores, by this scale
abbrev pub led : List ℕ → ℕ → Passed (List ℕ × ℕ)
led to n = Ok (to, n)

pub same_value : (r : Passed (List Weighted)) (ws : List Weighted) (to : List Weighted → List ℕ) (n : ℕ) → r ≡ Ok ws → n ≡ total ws
    → then_ok {B = List ℕ × ℕ} r (λ ws. Ok (to ws, total ws)) ≡ led (to ws) n
same_value r ws to n is sum = then_value {B = List ℕ × ℕ} r (λ ws. Ok (to ws, total ws)) ws is ∙ ap (led (to ws)) (sym sum)

-- where something is chosen, a store stays
pub stays : (n : ℕ) (ws : List Weighted) → 1 ≤ total ws → staying n ws ≡ n ∷ []
stays n [] some = absurd (omega (arith, some))
stays n (w ∷ ws) some = refl

-- ---- a store that leads to those behind its choices

module _ (r : Passed (List Weighted)) (moves : List Weighted → Passed (List ℕ)) (ws : List Weighted) (is : r ≡ Ok ws) where
  abbrev lead_of : Passed (List Weighted) → Passed (List ℕ × ℕ)
  lead_of r = then_ok {B = List ℕ × ℕ} r (λ ws. then_ok {B = List ℕ × ℕ} (moves ws) (λ ms. Ok (ms, total ws)))

  pub moved_value : (ms : List ℕ) (n : ℕ) → moves ws ≡ Ok ms → n ≡ total ws → lead_of r ≡ led ms n
  moved_value ms n all sum =
      ap lead_of is ∙ (ap (λ q. then_ok {B = List ℕ × ℕ} q (λ ms. Ok (ms, total ws))) all ∙ ap (led ms) (sym sum))

  pub moved_fault : (h : Halt) → IsHaltOf (moves ws) h → IsHaltOf (lead_of r) h
  moved_fault h fault = fault_same (lead_of r) (lead_of (Ok ws)) h (ap lead_of is) (then_fault (moves ws) (λ ms. led ms (total ws)) h fault)

pub self_added : (size n scale : ℕ) (b : Bool) (made after : Reached) → n < size → IsScale scale → after ≡ made ++ ways_to (if b then n ∷ [] else []) scale → AreWays size made → AreWays size after
self_added size n scale true made after below is same ways = subst (AreWays size) (sym same) (one_more_way size n scale made below is ways)
self_added size n scale false made after below is same ways = subst (AreWays size) (sym (same ∙ append-nil made)) ways

module _ (b : Bool) (guard : ℕ → Tried) (size : ℕ) (whole : Passed Reached) (made : Reached) (e : ℕ × ℕ) (es left : Reached) (next : left ≡ e ∷ es)
    (had : CarriesOn (guard_lead b guard) size left whole made) (ws : List Weighted) (n : ℕ) (is : guard e.0 ≡ Ok ws) (sum : n ≡ total ws) (some : 1 ≤ n) where
  pub guard_step : (there : Bool) (after : Reached) → there ≡ can_be b (Ok ws) → after ≡ made ++ ways_to (if there then e.0 ∷ [] else []) (capped (e.1 * n))
      → CarriesOn (guard_lead b guard) size es whole after
  guard_step there after test same =
      let way = (first_way size e es left next had.rest).0 in
      let to : List Weighted → List ℕ = λ ws. if can_be b (Ok ws) then e.0 ∷ [] else [] in
      let known : after ≡ made ++ ways_to (to ws) (capped (e.1 * n)) = same ∙ ap (λ (t : Bool). made ++ ways_to (if t then e.0 ∷ [] else []) (capped (e.1 * n))) test in
      carries_step (guard_lead b guard) size whole made e es left next had (to ws) n after (same_value (guard e.0) ws to n is sum) known
      (self_added size e.0 (capped (e.1 * n)) there made after way.0 (grown_scale e.1 n way.1.0 some) same had.ways)

-- ---- a guard that must be false

abbrev stop : ℕ → ℕ → Bool → Passed (List ℕ)
stop at n true = Err (record { cause = LoopBound; at = at })
stop at n false = Ok (n ∷ [])

bounded_is : (at n : ℕ) (ws : List Weighted) (t : Bool) → can_be true (Ok ws) ≡ t → bounded at n (Ok ws) ≡ stop at n t
bounded_is at n ws t test = ap (stop at n) test

module _ (at : ℕ) (guard : ℕ → Tried) (n : ℕ) where
  last_leaves : (ws : List Weighted) → guard n ≡ Ok ws → can_be true (Ok ws) ≡ false → last_lead at guard n ≡ guard_lead false guard n
  last_leaves ws is test = ap (λ r. then_ok r (λ _. guard_lead false guard n)) (ap (bounded at n) is ∙ bounded_is at n ws false test)

module _ (at : ℕ) (guard : ℕ → Tried) (size : ℕ) (whole : Passed Reached) (made : Reached) (e : ℕ × ℕ) (es left : Reached) (next : left ≡ e ∷ es)
    (had : CarriesOn (last_lead at guard) size left whole made) (ws : List Weighted) (n : ℕ) (is : guard e.0 ≡ Ok ws) (sum : n ≡ total ws) (some : 1 ≤ n)
    (never : can_be true (Ok ws) ≡ false) where
  pub last_step : (there : Bool) (after : Reached) → there ≡ can_be false (Ok ws) → after ≡ made ++ ways_to (if there then e.0 ∷ [] else []) (capped (e.1 * n))
      → CarriesOn (last_lead at guard) size es whole after
  last_step there after test same =
      let way = (first_way size e es left next had.rest).0 in
      let to : List Weighted → List ℕ = λ ws. if can_be false (Ok ws) then e.0 ∷ [] else [] in
      let known : after ≡ made ++ ways_to (to ws) (capped (e.1 * n)) = same ∙ ap (λ (t : Bool). made ++ ways_to (if t then e.0 ∷ [] else []) (capped (e.1 * n))) test in
      carries_step (last_lead at guard) size whole made e es left next had (to ws) n after (last_leaves at guard e.0 ws is never ∙ same_value (guard e.0) ws to n is sum) known
      (self_added size e.0 (capped (e.1 * n)) there made after way.0 (grown_scale e.1 n way.1.0 some) same had.ways)

-- ---- a scale that stays

pub same_scale : (s : ℕ) → IsScale s → s ≡ capped (s * 1)
same_scale s is = omega (arith, is.0, is.1)

-- ---- a list whose ways are changed in place

-- the first so many ways are made already, the others are left
abbrev pub PartCarried : Lead → ℕ → Passed Reached → ℕ → Reached → Type 0
PartCarried lead size whole i now = CarriesOn lead size (drop i now) whole (take i now)

module _ (lead : Lead) (size : ℕ) (whole : Passed Reached) (now : Reached) (i : ℕ) where
  pub part_end : length now ≤ i → PartCarried lead size whole i now → (whole ≡ Ok (with_all [] now)) × AreWays size now
  part_end past had =
      let made : take i now ≡ now = take_all i now past in
      let all : carry_step lead (with_all [] now) [] ≡ whole =
      subst (λ es. carry_step lead (with_all [] es) [] ≡ whole) made (subst (λ es. carry_step lead (with_all [] (take i now)) es ≡ whole) (drop_all i now past) had.all) in
      (sym all, subst (AreWays size) made had.ways)

  module _ (e : ℕ × ℕ) (read : e ≡ get_or now i e) (within : i < length now) (had : PartCarried lead size whole i now) where
    part_next : drop i now ≡ e ∷ drop (i + 1) now
    part_next = drop_more now i e within ∙ ap (λ (f : ℕ × ℕ). f ∷ drop (i + 1) now) (sym read)

    pub part_way : IsWay size e
    part_way = (first_way size e (drop (i + 1) now) (drop i now) part_next had.rest).0

    pub part_step : (m n : ℕ) (after : Reached) → lead e.0 ≡ led (m ∷ []) n → m < size → 1 ≤ n → after ≡ set now i (m, capped (e.1 * n))
        → PartCarried lead size whole (i + 1) after
    part_step m n after leads below some is =
        let s = capped (e.1 * n) in
        let made : take (i + 1) after ≡ take i now ++ (m, s) ∷ [] = ap (take (i + 1)) is ∙ take_more_set now i (m, s) within in
        let left : drop (i + 1) after ≡ drop (i + 1) now = ap (drop (i + 1)) is ∙ drop-set-lt (i + 1) now i (m, s) (omega arith) in
        let ways : AreWays size (take (i + 1) after) =
        subst (AreWays size) (sym made) (one_more_way size m s (take i now) below (grown_scale e.1 n part_way.1.0 some) had.ways) in
        subst (λ es. CarriesOn lead size es whole (take (i + 1) after)) (sym left)
        (carries_step lead size whole (take i now) e (drop (i + 1) now) (drop i now) part_next had (m ∷ []) n (take (i + 1) after) leads made ways)
