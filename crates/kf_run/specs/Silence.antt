-- For bodies: one silent statement, by where it stands.
use Rattle.std.specs.Prelude.{ℕ, Bool, false, List, Option, None, Some}
use Rattle.std.specs.Borrow.{Bor}
use Rattle.kf_silent.specs.Silent.{Path}
use Rattle.kf_silent.specs.Paths.{only}

-- the one statement at this path, or none
abbrev pub silent_at : Option (Bor (List ℕ)) → Path → Bool
silent_at None path = false
silent_at (Some at) path = only at.now path
