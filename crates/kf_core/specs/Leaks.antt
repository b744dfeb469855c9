-- For bodies: what leaks and what doesn't, by names of their own.
use Rattle.std.specs.Prelude.{List, true, false}
use Rattle.kf_value.specs.Values.{ValueTree}
use Rattle.kf_core.specs.Runs.{leaks}

abbrev pub silent : ValueTree → List ValueTree
silent = leaks false

abbrev pub shown : ValueTree → List ValueTree
shown = leaks true
