use Rattle.std.proofs.Common.{sym, ◌∙◌}
use Rattle.kf_lex.proofs.Cutting.{starting}
use Rattle.kf_lex.proofs.cuts.first_piece.Goals as goal

pub cut_at-requires : goal.cut_at-requires
cut_at-requires c = starting c.args.text.now _ _ c.utf8.text (sym c.chars.ensures.rest ∙ c.in_ok-first.ensures.steps.0)
