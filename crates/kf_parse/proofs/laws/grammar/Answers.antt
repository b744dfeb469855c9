use Rattle.kf_parse.proofs.Places.{stands_first}
use Rattle.kf_parse.proofs.TakesOne.{one_program}
use Rattle.kf_parse.proofs.Built.{only_built}
use Rattle.kf_parse.proofs.Closing.{closes_all}
use Rattle.kf_parse.proofs.KindsPrograms.{kinds_alone}
use Rattle.kf_parse.proofs.laws.grammar.Goals as goal

pub returns : goal.returns
returns c = record { one = one_program; kinds = kinds_alone; built = only_built; closes = closes_all; places = stands_first }
