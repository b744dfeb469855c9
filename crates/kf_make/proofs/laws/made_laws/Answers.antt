use Rattle.kf_make.proofs.Clearing.{made_is_clear, made_scale}
use Rattle.kf_make.proofs.Reading.{made_is_parsed}
use Rattle.kf_make.proofs.Typing.{made_is_typed}
use Rattle.kf_make.proofs.laws.made_laws.Goals as goal

pub returns : goal.returns
returns c = record {
  parsed = made_is_parsed;
  typed = made_is_typed;
  clear = made_is_clear c.run_laws.ensures.program;
  scale = made_scale c.run_laws.ensures.least;
}
