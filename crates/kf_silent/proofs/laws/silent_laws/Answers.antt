use Rattle.kf_silent.proofs.Ranges.{nothing_silent, one_quiet, silent_quiet}
use Rattle.kf_silent.proofs.Retracing.{left_of_traces}
use Rattle.kf_silent.proofs.SilentGoes.{no_trace_goes_on}
use Rattle.kf_silent.proofs.laws.silent_laws.Goals as goal

pub returns : goal.returns
returns c = record { nothing = nothing_silent; quiet = silent_quiet; one = one_quiet; splits = no_trace_goes_on; left = left_of_traces }
