-- For bodies: what a cleared program shows of itself.
use Rattle.std.specs.Prelude.{ℕ}
use Rattle.kf_core.specs.declared.program.Program.{Program}
use Rattle.kf_support.specs.declared.cleared.Cleared.{Cleared}

abbrev pub program_of : Cleared → Program
program_of c = c.program

abbrev pub turns_of : Cleared → ℕ
turns_of c = c.turns

abbrev pub whole_scale : Cleared → ℕ
whole_scale c = c.scale
