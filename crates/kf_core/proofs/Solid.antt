-- A checked distribution that has no fault chooses something; and so all runs of a checked program have some weight.
use Rattle.std.proofs.Common.{◌≡◌, ℕ, zero, suc, ℤ, pos, negsuc, ◌+◌, ◌-◌, ◌/◌, ◌<◌, ◌≤◌, ◌-ℤ◌, Bool, true, false, cond, List, [], ◌∷◌, ◌++◌, length, map, get_or, slice_get, Option, Some, None, Result, Ok, Err, refl, arith}
use Rattle.std.specs.Prelude.{nat_lt, filter, if◌then◌else◌}
use Rattle.std.specs.Ordering.{match_ordering}
use Rattle.std.specs.declared.cmp.Ordering.{Ordering}
use Rattle.std.specs.declared.cmp.Ordering.TheVariants.{Less, Equal, Greater}
use Rattle.std.specs.List.{AllByRecursion as Each}
use Rattle.std.proofs.lemmas.Option.{slice_get_within, slice_get-get_or}
use Rattle.kf_frac.proofs.CommonMultiples.{product_positive}
use Rattle.kf_value.specs.Kinds.{KindTree}
use Rattle.kf_value.specs.Types.{TypeTree, Boolean, Range, values, counted}
use Rattle.kf_value.specs.Values.{ValueTree, Truth, order, truth, whole, elements}
use Rattle.kf_value.proofs.ListLemmas.{each_any, each_flat_map, each_map, each_weaker, each_append}
use Rattle.kf_ops.specs.Values.{inserted}
use Rattle.kf_core.specs.Checked.{DistKinded, sure, uniform_set, uniform_range, choose, flip, IsSound, AreSound, skip, assign, observe, if_else, while, none, more, IsChecked}
use Rattle.kf_core.specs.ChoiceLaws.{ChoicesAreShares}
use Rattle.kf_core.specs.Results.{then_ok}
use Rattle.kf_core.specs.Choices.{Weighted, Chosen, ChoiceFault, RangeLong, with_value, once, some_of, each_from, weighed, case_listed, listed, gathered, common_factor, lowest, total, weight_in}
use Rattle.kf_core.specs.Dxs.{DxTree, DxCaseTree, case_of, DxShape, dx_at}
use Rattle.kf_core.specs.Evaluation.{Evaluated, ev, set_of}
use Rattle.kf_core.specs.Programs.{ProgramTree}
use Rattle.kf_core.specs.Sts.{StTree, StTrees, Skip, Assign, Observe, If, While, no_sts, more_sts, sts}
use Rattle.kf_core.specs.Runs.{Run, Halted, Tried, tried, store_at, place, LoopBound, ended, stay, stopped, joined, chain, choice_run, branched, replaced, assigned, guarded, looped, runs, all_runs, declared, copied, program_runs, leaks}
use Rattle.kf_core.proofs.Shares.{passes_test}
use Rattle.kf_core.proofs.Scales.{Weighty, weighty}
use Rattle.kf_core.proofs.Measures.{Full}
use Rattle.kf_core.proofs.Filled.{Filled, Solid, AllSolid, DeclsSolid}
use Rattle.kf_core.specs.Each.{cases_listed, placed_at, moved, onward}
use Rattle.kf_core.specs.Leaks.{silent, shown}

-- ---- what is listed has some weight

abbrev values_of : List Weighted → List ValueTree
values_of ls = map (λ w. w.value) (filter (λ w. nat_lt 0 w.weight) ls)

abbrev Lists : Chosen → Type 0
Lists (Ok ls) = Full (values_of ls)
Lists (Err f) = Unit {0}

first_kept : (b : Bool) (w : Weighted) (ws : List Weighted) → b ≡ true → Full (map (λ (u : Weighted). u.value) (cond b (w ∷ ws) ws))
first_kept true w ws t = tt
first_kept false w ws t = (cc)

some_first : (w : Weighted) (ws : List Weighted) → 0 < w.weight → Full (values_of (w ∷ ws))
some_first w ws h = first_kept (nat_lt 0 w.weight) w (filter (λ u. nat_lt 0 u.weight) ws) (passes_test w.weight h)

abbrev Weigh : List Weighted → Type 0
Weigh ws = Each (λ w. 0 < w.weight) ws

some_listed : (ws : List Weighted) → Weigh ws → Lists (some_of ws)
some_listed [] h = tt
some_listed (w ∷ ws) h = some_first w ws h.0

once_each : (vs : List ValueTree) → Lists (some_of (map once vs))
once_each vs = some_listed (map once vs) (each_map (λ w. 0 < w.weight) once vs (each_any (λ v. 0 < 1) (λ v. omega arith) vs))

unless : (long : Bool) (f : ChoiceFault) (r : Chosen) → Lists r → Lists (if long then Err f else r)
unless true f r h = tt
unless false f r h = h

valued : (e : Evaluated) (next : ValueTree → Chosen) → ((v : ValueTree) → Lists (next v)) → Lists (with_value e next)
valued (Ok v) next h = h v
valued (Err f) next h = tt

abbrev AllWeigh : Chosen → Type 0
AllWeigh (Ok ws) = Weigh ws
AllWeigh (Err f) = Unit {0}

weighed_one : (e : Evaluated) (z : ℤ) → AllWeigh (weighed e z)
weighed_one e (negsuc n) = tt
weighed_one e (pos zero) = tt
weighed_one (Ok v) (pos (suc n)) = (omega arith, tt)
weighed_one (Err f) (pos (suc n)) = tt

case_weighs : (x w : Evaluated) → AllWeigh (with_value w (λ u. weighed x (whole u)))
case_weighs x (Ok u) = weighed_one x (whole u)
case_weighs x (Err f) = tt

both_weigh : (one other : Chosen) → AllWeigh one → AllWeigh other → AllWeigh (then_ok one (λ ws. then_ok other (λ us. Ok (ws ++ us))))
both_weigh (Ok ws) (Ok us) h k = each_append (λ w. 0 < w.weight) ws us h k
both_weigh (Ok ws) (Err f) h k = tt
both_weigh (Err f) other h k = tt

cases_weigh : (s : List ValueTree) (cs : List DxCaseTree) → AllWeigh (cases_listed s cs)
cases_weigh s [] = tt
cases_weigh s (case_of x y ∷ cs) = both_weigh (case_listed s (case_of x y)) (cases_listed s cs) (case_weighs (ev s x) (ev s y)) (cases_weigh s cs)

chosen_some : (r : Chosen) → AllWeigh r → Lists (then_ok r some_of)
chosen_some (Ok ws) h = some_listed ws h
chosen_some (Err f) h = tt

flip_some : (num den : ℕ) → 1 ≤ den → Full (values_of (record { value = Truth true; weight = num } ∷ record { value = Truth false; weight = den - num } ∷ []))
flip_some zero den h = some_first (record { value = Truth false; weight = den - 0 }) [] (omega arith)
flip_some (suc n) den h = some_first (record { value = Truth true; weight = suc n }) (record { value = Truth false; weight = den - suc n } ∷ []) (omega arith)

lists : {ks : List KindTree} {at : ℕ} {d : DxShape} {k : KindTree} (s : List ValueTree) → DistKinded ks (dx_at at d) k → Lists (listed s d)
lists s (sure at {x} of_x) = valued (ev s x) (λ v. Ok (once v ∷ [])) (λ v. some_first (once v) [] (omega arith))
lists s (uniform_set at {x} of_x) = valued (ev s x) (λ v. some_of (map once (elements v))) (λ v. once_each (elements v))
lists s (uniform_range at {x} {y} of_x of_y) =
    valued (ev s x) (λ a. with_value (ev s y) (λ b. each_from (whole a) (whole b)))
    (λ a. valued (ev s y) (λ b. each_from (whole a) (whole b))
    (λ b. unless (nat_lt 65536 (counted (whole b -ℤ whole a))) RangeLong (some_of (map once (values (Range (whole a) (whole b))))) (once_each (values (Range (whole a) (whole b))))))
lists s (choose at {cs} of_cs some) = chosen_some (cases_listed s cs) (cases_weigh s cs)
lists s (flip at num den some within) = flip_some num den some

-- ---- and so has what is chosen

full_mapped : {X Y : Type 0} (f : X → Y) (xs : List X) → Full xs → Full (map f xs)
full_mapped f [] h = absurd h
full_mapped f (x ∷ xs) h = tt

inserted_full_at : (r : Ordering) (v w : ValueTree) (ws : List ValueTree) → Full (match_ordering r (v ∷ w ∷ ws) (w ∷ ws) (w ∷ inserted v ws))
inserted_full_at Less v w ws = tt
inserted_full_at Equal v w ws = tt
inserted_full_at Greater v w ws = tt

inserted_full : (v : ValueTree) (ws : List ValueTree) → Full (inserted v ws)
inserted_full v [] = tt
inserted_full v (w ∷ ws) = inserted_full_at (order v w) v w ws

set_full : (vs : List ValueTree) → Full vs → Full (set_of vs)
set_full [] h = absurd h
set_full (v ∷ vs) h = inserted_full v (set_of vs)

placed_filled : (at : ℕ) (r : Chosen) → Lists r → Filled (placed_at at (then_ok r (λ ws. Ok (lowest (gathered ws)))))
placed_filled at (Ok ls) h =
    full_mapped (λ (w : Weighted). record { value = w.value; weight = w.weight / common_factor (gathered ls) }) (gathered ls)
    (full_mapped (λ v. record { value = v; weight = weight_in ls v }) (set_of (values_of ls)) (set_full (values_of ls) h))
placed_filled at (Err f) h = tt

pub dist_filled : {ks : List KindTree} {k : KindTree} (ts : List TypeTree) (d : DxTree) → DistKinded ks d k → (n : ℕ) → Filled (tried ts d n)
dist_filled ts (dx_at at d) kinded n = placed_filled at (listed (store_at ts n) d) (lists (store_at ts n) kinded)

-- ---- statements and programs

module _ (ts : List TypeTree) (ks : List KindTree) where
  mutual
    pub solid : {x : StTree} → IsSound ks x → Solid ts x
    solid skip = tt
    solid (assign slot at kinded) = dist_filled ts _ kinded
    solid (observe kinded) = dist_filled ts _ kinded
    solid (if_else kinded one other) = (dist_filled ts _ kinded, all_solid one, all_solid other)
    solid (while kinded body) = (dist_filled ts _ kinded, all_solid body)

    pub all_solid : {xs : List StTree} → AreSound ks xs → AllSolid ts (sts xs)
    all_solid none = tt
    all_solid (more one others) = (solid one, all_solid others)

each_by_place : {X : Type 0} (P : X → Type 0) (xs : List X) → ((i : ℕ) (x : X) → slice_get xs i ≡ Some x → P x) → Each P xs
each_by_place P [] h = tt
each_by_place P (x ∷ xs) h = (h 0 x refl, each_by_place P xs (λ i y is. h (suc i) y is))

pub decls_solid : (p : ProgramTree) → IsChecked p → DeclsSolid p.types p.decls
decls_solid p checked =
    each_by_place (λ (d : DxTree). (n : ℕ) → Filled (tried p.types d n)) p.decls
    (λ i d is.
    let within : i < length p.decls = slice_get_within p.decls i d is in
    let counted : length p.decls + length p.copies ≡ length p.types = checked.counted in
    dist_filled p.types d (checked.declared i d (get_or p.types i Boolean) is (slice_get-get_or p.types i Boolean (omega (arith, within, counted)))))

-- ---- runs have some weight

abbrev Heavy : List Run → Type 0
Heavy rs = Each (λ r. 0 < r.weight) rs

joined_heavy : (r : Run) (qs : List Run) → 0 < r.weight → Heavy qs → Heavy (map (joined r) qs)
joined_heavy r qs p h =
    each_map (λ q. 0 < q.weight) (joined r) qs (each_weaker (λ q. 0 < q.weight) (λ q. 0 < (joined r q).weight) (λ q k. product_positive r.weight q.weight p k) qs h)

module _ (next : ℕ → List Run) (heavy : (n : ℕ) → Heavy (next n)) where
  onward_heavy : (r : Run) (x : Result ℕ Halted) → 0 < r.weight → Heavy (onward next r x)
  onward_heavy r (Ok n) p = joined_heavy r (next n) p (heavy n)
  onward_heavy r (Err f) p = (p, tt)

  chain_heavy : (rs : List Run) → Heavy rs → Heavy (chain rs next)
  chain_heavy rs h =
      each_flat_map (λ r. 0 < r.weight) (λ r. onward next r r.end) rs (each_weaker (λ r. 0 < r.weight) (λ r. Heavy (onward next r r.end)) (λ r p. onward_heavy r r.end p) rs h)

ended_heavy : (e : Result ℕ Halted) → Heavy (ended e)
ended_heavy e = (omega arith, tt)

module _ (leak : ValueTree → List ValueTree) (n : ℕ) (next : ValueTree → List Run) (heavy : (v : ValueTree) → Heavy (next v)) where
  branched_heavy : (g : Tried) → Weighty g → Heavy (branched leak n next g)
  branched_heavy (Ok ws) h =
      each_flat_map (λ r. 0 < r.weight) (λ u. map (joined (choice_run leak n (total ws) u)) (next u.value)) ws
      (each_weaker (λ (u : Weighted). 0 < u.weight) (λ u. Heavy (map (joined (choice_run leak n (total ws) u)) (next u.value)))
      (λ u p. joined_heavy (choice_run leak n (total ws) u) (next u.value) p (heavy u.value)) ws h)
  branched_heavy (Err f) h = ended_heavy (Err f)

moved_heavy : (at : ℕ) (x : Option ℕ) → Heavy (moved at x)
moved_heavy at (Some n) = (omega arith, tt)
moved_heavy at None = (omega arith, tt)

side_heavy : (b : Bool) (xs ys : List Run) → Heavy xs → Heavy ys → Heavy (if b then xs else ys)
side_heavy true xs ys h k = h
side_heavy false xs ys h k = k

module _ (guard : ℕ → Tried) (weights : (n : ℕ) → Weighty (guard n)) where
  guarded_heavy : (a b : ℕ → List Run) → ((n : ℕ) → Heavy (a n)) → ((n : ℕ) → Heavy (b n)) → (n : ℕ) → Heavy (guarded guard a b n)
  guarded_heavy a b h k n = branched_heavy shown n (λ v. if truth v then a n else b n) (λ v. side_heavy (truth v) (a n) (b n) (h n) (k n)) (guard n) (weights n)

  looped_heavy : (k at : ℕ) (body : ℕ → List Run) → ((n : ℕ) → Heavy (body n)) → (n : ℕ) → Heavy (looped k guard at body n)
  looped_heavy zero at body h n = guarded_heavy (λ m. stopped LoopBound at) stay (λ m. ended_heavy (Err (record { cause = LoopBound; at = at }))) (λ m. ended_heavy (Ok m)) n
  looped_heavy (suc k) at body h n =
      guarded_heavy (λ m. chain (body m) (looped k guard at body)) stay (λ m. chain_heavy (looped k guard at body) (looped_heavy k at body h) (body m) (h m)) (λ m. ended_heavy (Ok m)) n

module _ (shares : ChoicesAreShares) where
  assigned_heavy : (leak : ValueTree → List ValueTree) (ts : List TypeTree) (i : ℕ) (d : DxTree) (n : ℕ) → Heavy (assigned leak ts i d n)
  assigned_heavy leak ts i d n = branched_heavy leak n (λ v. moved (place d) (replaced ts i v n)) (λ v. moved_heavy (place d) (replaced ts i v n)) (tried ts d n) (weighty shares ts d n)

  module _ (ts : List TypeTree) (turns : ℕ) where
    mutual
      runs_heavy : (x : StTree) (n : ℕ) → Heavy (runs ts turns x n)
      runs_heavy Skip n = ended_heavy (Ok n)
      runs_heavy (Assign i d visible) n = assigned_heavy (leaks visible) ts i d n
      runs_heavy (Observe d) n = branched_heavy shown n (λ v. stay n) (λ v. ended_heavy (Ok n)) (tried ts d n) (weighty shares ts d n)
      runs_heavy (If d xs ys) n = guarded_heavy (tried ts d) (weighty shares ts d) (all_runs ts turns xs) (all_runs ts turns ys) (all_heavy xs) (all_heavy ys) n
      runs_heavy (While d xs) n = looped_heavy (tried ts d) (weighty shares ts d) turns (place d) (all_runs ts turns xs) (all_heavy xs) n

      all_heavy : (xs : StTrees) (n : ℕ) → Heavy (all_runs ts turns xs n)
      all_heavy no_sts n = ended_heavy (Ok n)
      all_heavy (more_sts x xs) n = chain_heavy (all_runs ts turns xs) (all_heavy xs) (runs ts turns x n) (runs_heavy x n)

  declared_heavy : (ts : List TypeTree) (i : ℕ) (ds : List DxTree) (n : ℕ) → Heavy (declared ts i ds n)
  declared_heavy ts i [] n = ended_heavy (Ok n)
  declared_heavy ts i (d ∷ ds) n = chain_heavy (declared ts (suc i) ds) (declared_heavy ts (suc i) ds) (assigned silent ts i d n) (assigned_heavy silent ts i d n)

  pub program_heavy : (turns : ℕ) (p : ProgramTree) → Each (λ r. 0 < r.weight) (program_runs turns p)
  program_heavy turns p =
      chain_heavy (λ n. all_runs p.types turns (sts p.body) (copied p n)) (λ n. all_heavy p.types turns (sts p.body) (copied p n))
      (declared p.types 0 p.decls 0) (declared_heavy p.types 0 p.decls 0)
