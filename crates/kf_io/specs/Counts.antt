-- For bodies: what a call does to counts of faults.
use Rattle.std.specs.Prelude.{◌≡◌, ℕ, ◌≤◌, List, Result, OnOk, OnErr, ◌+◌, ◌-◌, ◌^◌, min}
use Rattle.kf_io.specs.Faults.{Rose}

-- a call on one name: no name's count falls, a fault raises the count of this name, and without one each count stays
pub record CountsFaults {T E : Type 0} (name : List ℕ) (before now : List ℕ → ℕ) (result : Result T E) : Type 0 where
  pub later : (n : List ℕ) → before n ≤ now n
  pub failed : OnErr result (Rose (before name) (now name))
  pub same : OnOk result (now ≡ before)

-- the same for a single count
pub record CountsFault {T E : Type 0} (before now : ℕ) (result : Result T E) : Type 0 where
  pub later : before ≤ now
  pub failed : OnErr result (Rose before now)
  pub same : OnOk result (now ≡ before)

-- the count after one more: it ends at 2^64 - 1 and stays there
abbrev pub raised : ℕ → ℕ
raised count = min (count + 1) (2 ^ 64 - 1)
