use Rattle.std.proofs.Common.{◌∙◌, Some, None}
use Rattle.clap.specs.Words.{found_of}
use Rattle.kf_words.proofs.Matches.{is_set_by}
use Rattle.kf_words.proofs.arguments.is_set.Goals as goal

pub returns-in-Some : goal.returns-in-Some
returns-in-Some c = c.eq.ensures ∙ is_set_by c.args.flag.now (found_of c.args.matches.now) (Some c.in-Some.text.now) c.in-Some.ensures

pub returns-in-None : goal.returns-in-None
returns-in-None c = is_set_by c.args.flag.now (found_of c.args.matches.now) None c.in-None.ensures
