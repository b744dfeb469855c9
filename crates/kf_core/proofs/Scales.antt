-- The scales of runs are positive, and their common scale is the least number that all of them divide.
use Rattle.std.proofs.Common.{◌≡◌, ℕ, zero, suc, ◌%◌, ◌<◌, ◌≤◌, List, [], ◌∷◌, map, get_or, Result, Ok, Err, Option, Some, None, refl, ap, arith, Bool, true, false}
use Rattle.std.specs.Prelude.{if◌then◌else◌, ⊤}
use Rattle.std.specs.List.{All, AllByRecursion as Each}
use Rattle.std.specs.Int.{◌∣◌}
use Rattle.std.proofs.Math.Nat.{dvd-mod_iff, mod-lt, one-dvd}
use Rattle.std.proofs.lemmas.List.Elements.{All-from_recursion, recursion_from_All, All-cons, All-nil, All-head, All-tail}
use Rattle.std.proofs.lemmas.List.Sums.{sum_by-cons}
use Rattle.std.proofs.lemmas.Nat.Gcd.{dvd_trans, dvd_of_mod-eq-zero, le_of_dvd}
use Rattle.kf_frac.specs.Divisors.{lcm_of}
use Rattle.kf_frac.specs.Laws.{IsLcm}
use Rattle.kf_frac.proofs.CommonMultiples.{lcm_is, product_positive}
use Rattle.kf_value.specs.Types.{TypeTree}
use Rattle.kf_value.specs.Values.{ValueTree, truth}
use Rattle.kf_value.proofs.ListLemmas.{each_any, each_flat_map, each_map, each_weaker}
use Rattle.kf_core.specs.Results.{then_ok}
use Rattle.kf_core.specs.Choices.{Weighted, Chosen, listed, gathered, lowest, total}
use Rattle.kf_core.specs.ChoiceLaws.{ChoicesAreShares}
use Rattle.kf_core.specs.Dxs.{DxTree, DxShape, dx_at}
use Rattle.kf_core.specs.Sts.{StTree, StTrees, Skip, Assign, Observe, If, While, no_sts, more_sts, sts}
use Rattle.kf_core.specs.Runs.{Run, Halted, Tried, LoopBound, tried, store_at, place, ended, stay, stopped, joined, chain, choice_run, branched, replaced, assigned, guarded, looped, runs, all_runs, declared, copied, program_runs, leaks}
use Rattle.kf_core.specs.SupportLaws.{CommonScaleIsLeast, ScalesArePositive}
use Rattle.kf_core.specs.Each.{placed_at, moved, common_scale, onward}
use Rattle.kf_core.specs.Leaks.{silent, shown}

abbrev Scaled : List Run → Type 0
Scaled rs = Each (λ r. 0 < r.scale) rs

-- ---- the common scale

-- it divides each number that all scales divide
pub record DividesMultiples (ks : List ℕ) (m : ℕ) : Type 0 where
  pub positive : 0 < m
  pub multiple : All (λ k. k ∣ m) ks
  pub divides : (n : ℕ) → 0 < n → All (λ k. k ∣ n) ks → m ∣ n

remainder_zero : (m n r : ℕ) → 0 < m → r < m → (0 < r → m ≤ r) → r ≡ 0
remainder_zero m n zero p low least = refl
remainder_zero m n (suc r) p low least = absurd (omega (arith, least (omega arith)))

-- the least common multiple divides the others
pub lcm_divides : (a b m n : ℕ) → IsLcm a b m → a ∣ n → b ∣ n → m ∣ n
lcm_divides a b m n is l r =
    let low : n % m < m = mod-lt n is.positive in
    let least : 0 < n % m → m ≤ n % m = λ h. is.least (n % m) h ((dvd-mod_iff a {m = n} {n = m} is.left).1 l) ((dvd-mod_iff b {m = n} {n = m} is.right).1 r) in
    dvd_of_mod-eq-zero m (remainder_zero m n (n % m) is.positive low least)

pub scales_divide : (rs : List Run) → Each (λ r. 0 < r.scale) rs → DividesMultiples (map (λ r. r.scale) rs) (common_scale rs)
scales_divide [] h = record { positive = omega arith; multiple = All-nil (λ k. k ∣ 1); divides = λ n p all. one-dvd n }
scales_divide (r ∷ rs) h =
    let k = r.scale in
    let ks = map (λ (q : Run). q.scale) rs in
    let c = common_scale rs in
    let others = scales_divide rs h.1 in
    let is : IsLcm k c (lcm_of k c) = lcm_is k c h.0 others.positive in
    record {
      positive = is.positive;
      multiple = All-cons (λ j. j ∣ lcm_of k c) k ks is.left (λ i d within. dvd_trans (get_or ks i d) (others.multiple i d within) is.right);
      divides = λ n p all. lcm_divides k c (lcm_of k c) n is (All-head (λ j. j ∣ n) k ks all) (others.divides n p (All-tail (λ j. j ∣ n) k ks all));
    }

pub common_scale_is_least : CommonScaleIsLeast
common_scale_is_least rs h =
    let d = scales_divide rs (recursion_from_All (λ r. 0 < r.scale) rs h) in
    record { positive = d.positive; multiple = d.multiple; least = λ n p all. le_of_dvd p (d.divides n p all) }

-- ---- scales are positive, for each way in which runs are made of others

ended_scaled : (e : Result ℕ Halted) → Scaled (ended e)
ended_scaled e = (omega arith, tt)

joined_scaled : (r : Run) (qs : List Run) → 0 < r.scale → Scaled qs → Scaled (map (joined r) qs)
joined_scaled r qs p h =
    each_map (λ q. 0 < q.scale) (joined r) qs (each_weaker (λ q. 0 < q.scale) (λ q. 0 < (joined r q).scale) (λ q k. product_positive r.scale q.scale p k) qs h)

module _ (next : ℕ → List Run) (scaled : (n : ℕ) → Scaled (next n)) where
  onward_scaled : (r : Run) (x : Result ℕ Halted) → 0 < r.scale → Scaled (onward next r x)
  onward_scaled r (Ok n) p = joined_scaled r (next n) p (scaled n)
  onward_scaled r (Err f) p = (p, tt)

  chain_scaled : (rs : List Run) → Scaled rs → Scaled (chain rs next)
  chain_scaled rs h =
      each_flat_map (λ r. 0 < r.scale) (λ r. onward next r r.end) rs
      (each_weaker (λ r. 0 < r.scale) (λ r. Scaled (onward next r r.end)) (λ r p. onward_scaled r r.end p) rs h)

-- choices of positive weight
abbrev pub Weighty : Tried → Type 0
Weighty (Ok ws) = Each (λ w. 0 < w.weight) ws
Weighty (Err f) = ⊤

module _ (leak : ValueTree → List ValueTree) (n : ℕ) (next : ValueTree → List Run) (scaled : (v : ValueTree) → Scaled (next v)) where
  branched_scaled : (g : Tried) → Weighty g → Scaled (branched leak n next g)
  branched_scaled (Ok []) h = tt
  branched_scaled (Ok (w ∷ ws)) h =
      let head : 0 < w.weight = h.0 in
      let scale : ℕ = total (w ∷ ws) in
      let some : 0 < scale = omega (arith, sum_by-cons (λ (u : Weighted). u.weight) w ws) in
      each_flat_map (λ r. 0 < r.scale) (λ u. map (joined (choice_run leak n scale u)) (next u.value)) (w ∷ ws)
      (each_any (λ u. Scaled (map (joined (choice_run leak n scale u)) (next u.value)))
      (λ u. joined_scaled (choice_run leak n scale u) (next u.value) some (scaled u.value)) (w ∷ ws))
  branched_scaled (Err f) h = ended_scaled (Err f)

moved_scaled : (at : ℕ) (x : Option ℕ) → Scaled (moved at x)
moved_scaled at (Some n) = ended_scaled (Ok n)
moved_scaled at None = (omega arith, tt)

side_scaled : (b : Bool) (xs ys : List Run) → Scaled xs → Scaled ys → Scaled (if b then xs else ys)
side_scaled true xs ys h k = h
side_scaled false xs ys h k = k

module _ (guard : ℕ → Tried) (weighty : (n : ℕ) → Weighty (guard n)) where
  guarded_scaled : (taken left : ℕ → List Run) → ((n : ℕ) → Scaled (taken n)) → ((n : ℕ) → Scaled (left n)) → (n : ℕ) → Scaled (guarded guard taken left n)
  guarded_scaled taken left h k n =
      branched_scaled shown n (λ v. if truth v then taken n else left n) (λ v. side_scaled (truth v) (taken n) (left n) (h n) (k n)) (guard n) (weighty n)

  looped_scaled : (k at : ℕ) (body : ℕ → List Run) → ((n : ℕ) → Scaled (body n)) → (n : ℕ) → Scaled (looped k guard at body n)
  looped_scaled zero at body h n =
      guarded_scaled (λ _. stopped LoopBound at) stay (λ _. ended_scaled (Err (record { cause = LoopBound; at = at }))) (λ m. ended_scaled (Ok m)) n
  looped_scaled (suc k) at body h n =
      guarded_scaled (λ m. chain (body m) (looped k guard at body)) stay
      (λ m. chain_scaled (looped k guard at body) (looped_scaled k at body h) (body m) (h m)) (λ m. ended_scaled (Ok m)) n

-- ---- and so of statements, where choices have positive weights

module _ (shares : ChoicesAreShares) where
  listed_weighty : (s : List ValueTree) (at : ℕ) (d : DxShape) (x : Chosen) → listed s d ≡ x → Weighty (placed_at at (then_ok x (λ ws. Ok (lowest (gathered ws)))))
  listed_weighty s at d (Ok ls) is =
      recursion_from_All (λ w. 0 < w.weight) (lowest (gathered ls))
      (shares s d ls (lowest (gathered ls)) is (ap (λ (x : Chosen). then_ok x (λ ws. Ok (lowest (gathered ws)))) is)).positive
  listed_weighty s at d (Err f) is = tt

  pub weighty : (ts : List TypeTree) (d : DxTree) (n : ℕ) → Weighty (tried ts d n)
  weighty ts (dx_at at d) n = listed_weighty (store_at ts n) at d (listed (store_at ts n) d) refl

  assigned_scaled : (leak : ValueTree → List ValueTree) (ts : List TypeTree) (i : ℕ) (d : DxTree) (n : ℕ) → Scaled (assigned leak ts i d n)
  assigned_scaled leak ts i d n =
      branched_scaled leak n (λ v. moved (place d) (replaced ts i v n)) (λ v. moved_scaled (place d) (replaced ts i v n)) (tried ts d n) (weighty ts d n)

  module _ (ts : List TypeTree) (turns : ℕ) where
    mutual
      runs_scaled : (x : StTree) (n : ℕ) → Scaled (runs ts turns x n)
      runs_scaled Skip n = ended_scaled (Ok n)
      runs_scaled (Assign i d visible) n = assigned_scaled (leaks visible) ts i d n
      runs_scaled (Observe d) n = branched_scaled shown n (λ v. stay n) (λ v. ended_scaled (Ok n)) (tried ts d n) (weighty ts d n)
      runs_scaled (If d xs ys) n = guarded_scaled (tried ts d) (weighty ts d) (all_runs ts turns xs) (all_runs ts turns ys) (all_scaled xs) (all_scaled ys) n
      runs_scaled (While d xs) n = looped_scaled (tried ts d) (weighty ts d) turns (place d) (all_runs ts turns xs) (all_scaled xs) n

      all_scaled : (xs : StTrees) (n : ℕ) → Scaled (all_runs ts turns xs n)
      all_scaled no_sts n = ended_scaled (Ok n)
      all_scaled (more_sts x xs) n = chain_scaled (all_runs ts turns xs) (all_scaled xs) (runs ts turns x n) (runs_scaled x n)

  declared_scaled : (ts : List TypeTree) (i : ℕ) (ds : List DxTree) (n : ℕ) → Scaled (declared ts i ds n)
  declared_scaled ts i [] n = ended_scaled (Ok n)
  declared_scaled ts i (d ∷ ds) n = chain_scaled (declared ts (suc i) ds) (declared_scaled ts (suc i) ds) (assigned silent ts i d n) (assigned_scaled silent ts i d n)

  pub scales_positive : ScalesArePositive
  scales_positive turns p =
      All-from_recursion (λ r. 0 < r.scale) (program_runs turns p)
      (chain_scaled (λ n. all_runs p.types turns (sts p.body) (copied p n)) (λ n. all_scaled p.types turns (sts p.body) (copied p n))
      (declared p.types 0 p.decls 0) (declared_scaled p.types 0 p.decls 0))
