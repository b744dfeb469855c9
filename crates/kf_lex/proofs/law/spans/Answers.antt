use Rattle.kf_lex.proofs.Spanning.{HasName-holds, HasSpans-holds}
use Rattle.kf_lex.proofs.law.spans.Goals as goal

pub returns : goal.returns
returns c = record { spans = HasSpans-holds; names = HasName-holds }
