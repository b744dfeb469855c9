-- Runs that all end, on one scale.
use Rattle.std.proofs.Common.{◌≡◌, ℕ, ◌*◌, ◌<◌, ◌≤◌, true≢false, List, [], ◌∷◌, map, Result, Ok, Err, refl, sym, ap, subst, ◌∙◌, arith}
use Rattle.std.specs.Prelude.{IsOk}
use Rattle.std.specs.List.{All, AllByRecursion as Each}
use Rattle.std.specs.Int.{◌∣◌}
use Rattle.std.proofs.lemmas.List.Elements.{All-from_recursion, All-head}
use Rattle.std.proofs.lemmas.Nat.Gcd.{dvd_refl, le_of_dvd}
use Rattle.kf_value.specs.Values.{ValueTree}
use Rattle.kf_value.proofs.ListLemmas.{each_flat_map, each_map, each_weaker}
use Rattle.kf_core.specs.Choices.{Weighted, total}
use Rattle.kf_core.specs.Runs.{Run, Halted, joined, chain, choice_run, branched, stay}
use Rattle.kf_core.specs.SupportLaws.{AllEnd, CommonScaleIsLeast}
use Rattle.kf_core.proofs.Measures.{Full}
use Rattle.kf_core.proofs.Filled.{chain_full, branched_full}
use Rattle.kf_core.specs.Each.{common_scale, onward}

-- the run ends in a store, and this is its scale
abbrev EndsOn : ℕ → Run → Type 0
EndsOn k r = IsOk r.end × (r.scale ≡ k)

-- there are runs, and each ends on this scale
pub record AllEndOn (k : ℕ) (rs : List Run) : Type 0 where
  pub each : Each (EndsOn k) rs
  pub full : Full rs

pub stay_ends : (n : ℕ) → AllEndOn 1 (stay n)
stay_ends n = record { each = ((refl, refl), tt); full = tt }

module _ (j k m : ℕ) (product : j * k ≡ m) where
  joined_ends : (r : Run) (qs : List Run) → r.scale ≡ j → Each (EndsOn k) qs → Each (EndsOn m) (map (joined r) qs)
  joined_ends r qs scale h =
      each_map (EndsOn m) (joined r) qs
      (each_weaker (EndsOn k) (λ q. EndsOn m (joined r q)) (λ q e. (e.0, ap (λ s. s * q.scale) scale ∙ (ap (λ s. j * s) e.1 ∙ product))) qs h)

  module _ (next : ℕ → List Run) (ends : (n : ℕ) → AllEndOn k (next n)) where
    onward_ends : (r : Run) (x : Result ℕ Halted) → IsOk x → r.scale ≡ j → Each (EndsOn m) (onward next r x)
    onward_ends r (Ok n) ok scale = joined_ends r (next n) scale (ends n).each
    onward_ends r (Err f) ok scale = absurd (true≢false (sym ok))

    pub chain_ends : (rs : List Run) → AllEndOn j rs → AllEndOn m (chain rs next)
    chain_ends rs h = record {
      each = each_flat_map (EndsOn m) (λ r. onward next r r.end) rs
          (each_weaker (EndsOn j) (λ r. Each (EndsOn m) (onward next r r.end)) (λ r e. onward_ends r r.end e.0 e.1) rs h.each);
      full = chain_full next (λ n. (ends n).full) rs h.full;
    }

  module _ (leak : ValueTree → List ValueTree) (n : ℕ) (next : ValueTree → List Run) (full : (v : ValueTree) → Full (next v)) where
    pub branched_ends : (ws : List Weighted) → total ws ≡ j → Full ws → Each (λ w. AllEndOn k (next w.value)) ws
        → AllEndOn m (branched leak n next (Ok ws))
    branched_ends ws weight some h = record {
      each = each_flat_map (EndsOn m) (λ w. map (joined (choice_run leak n (total ws) w)) (next w.value)) ws
          (each_weaker (λ w. AllEndOn k (next w.value)) (λ w. Each (EndsOn m) (map (joined (choice_run leak n (total ws) w)) (next w.value)))
          (λ w e. joined_ends (choice_run leak n (total ws) w) (next w.value) weight e.each) ws h);
      full = branched_full leak n next full (Ok ws) some;
    }

-- ---- in the words of contracts

pub all_end : (k : ℕ) (rs : List Run) → AllEndOn k rs → AllEnd rs
all_end k rs h = All-from_recursion (λ r. IsOk r.end) rs (each_weaker (EndsOn k) (λ r. IsOk r.end) (λ r e. e.0) rs h.each)

first_divides : (k m : ℕ) (rs : List Run) → Full rs → Each (EndsOn k) rs → All (λ s. s ∣ m) (map (λ r. r.scale) rs) → k ∣ m
first_divides k m [] some h all = absurd some
first_divides k m (r ∷ rs) some h all = subst (λ s. s ∣ m) h.0.1 (All-head (λ s. s ∣ m) r.scale (map (λ (q : Run). q.scale) rs) all)

pub one_scale : CommonScaleIsLeast → (k : ℕ) (rs : List Run) → 0 < k → AllEndOn k rs → common_scale rs ≡ k
one_scale common k rs positive h =
    let scaled : Each (λ r. 0 < r.scale) rs =
    each_weaker (EndsOn k) (λ r. 0 < r.scale) (λ r e. subst (λ s. 0 < s) (sym e.1) positive) rs h.each in
    let divide : Each (λ r. r.scale ∣ k) rs =
    each_weaker (EndsOn k) (λ r. r.scale ∣ k) (λ r e. subst (λ s. s ∣ k) (sym e.1) (dvd_refl k)) rs h.each in
    let least = common rs (All-from_recursion (λ r. 0 < r.scale) rs scaled) in
    let high : k ≤ common_scale rs = le_of_dvd least.positive (first_divides k (common_scale rs) rs h.full h.each least.multiple) in
    let low : common_scale rs ≤ k =
    least.least k positive (All-from_recursion (λ s. s ∣ k) (map (λ r. r.scale) rs) (each_map (λ s. s ∣ k) (λ r. r.scale) rs divide)) in
    omega arith
