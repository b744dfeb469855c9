use Rattle.std.proofs.lemmas.Str.Pattern.{starts_text}
use Rattle.kf_lex.proofs.SignSearch.{cut_there}
use Rattle.kf_lex.proofs.cuts.begins_with.Goals as goal

pub returns-clause-value : goal.returns-clause-value
returns-clause-value c = starts_text _ _ _ c.starts_with.ensures.cases

pub returns-clause-cut : goal.returns-clause-cut
returns-clause-cut c = cut_there _ c.args.front.now c.args.text.now c.starts_with.ensures.cases
