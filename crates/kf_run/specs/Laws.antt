-- For bodies: laws of trails.
use Rattle.std.specs.Prelude.{◌≡◌, ℕ, List}
use Rattle.kf_core.specs.Programs.{ProgramTree}
use Rattle.kf_core.specs.Pushing.{IsTrail}

-- every program has a trail
abbrev pub SomeTrail : Type 0
SomeTrail = (turns : ℕ) (p : ProgramTree) → (counts : List ℕ) × IsTrail turns p counts

-- and only one
abbrev pub OnlyOneTrail : Type 0
OnlyOneTrail = (turns : ℕ) (p : ProgramTree) (counts others : List ℕ) → IsTrail turns p counts → IsTrail turns p others → counts ≡ others
