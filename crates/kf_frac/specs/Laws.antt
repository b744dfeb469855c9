-- For bodies: what a least common multiple is, and how one of many numbers is gathered.
use Rattle.std.specs.Prelude.{ℕ, ◌<◌, ◌≤◌, List, [], ◌∷◌}
use Rattle.std.specs.Int.{◌∣◌}
use Rattle.kf_frac.specs.Divisors.{lcm_of}

-- m is the least positive number that both a and b divide
pub record IsLcm (a b m : ℕ) : Type 0 where
  pub positive : 0 < m
  pub left : a ∣ m
  pub right : b ∣ m
  pub least : (k : ℕ) → 0 < k → a ∣ k → b ∣ k → m ≤ k

-- the least common multiple of `start` and all these, gathered from the first on
abbrev pub multiple_from : ℕ → List ℕ → ℕ
multiple_from start [] = start
multiple_from start (d ∷ ds) = multiple_from (lcm_of d start) ds
