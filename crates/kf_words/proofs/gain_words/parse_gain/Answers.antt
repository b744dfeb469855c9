use Rattle.std.proofs.Common.{sym}
use Rattle.kf_words.proofs.GainNames.{no_gain}
use Rattle.kf_words.proofs.gain_words.parse_gain.Goals as goal

pub returns-in-None : goal.returns-in-None
returns-in-None c = no_gain c.args.word.now (sym c.if-eq.ensures) (sym c.if-eq-2.ensures) c.in_default.ensures.cases c.in-None.ensures.cases
