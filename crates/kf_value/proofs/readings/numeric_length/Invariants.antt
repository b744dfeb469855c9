use Rattle.std.proofs.Common.{◌≡◌, ℕ, ◌≤◌, true, List, ◌++◌, length}
use Rattle.std.specs.List.{list_all}
use Rattle.kf_value.specs.Readings.{is_numeric, Stops}
use Rattle.kf_value.proofs.readings.numeric_length.Given as goal

abbrev pub invariant-loop-i : goal.invariant-loop-i
invariant-loop-i l = (ds r : List ℕ) → list_all is_numeric ds ≡ true → Stops r → l.bytes ≡ ds ++ r → l.i ≤ length ds
