use Rattle.std.proofs.Common.{length, ap, sym, subst, take, ◌∙◌}
use Rattle.std.specs.Str.{IsCharBoundary}
use Rattle.std.proofs.lemmas.Str.{IsUtf8-drop}
use Rattle.kf_lex.proofs.Cutting.{beginning_boundary, cut_whole, first_char, made}
use Rattle.kf_lex.proofs.LongestCuts.{cut_other, cut_sign}
use Rattle.kf_lex.proofs.cuts.cut_sign.Goals as goal

pub split_at-requires-in-None : goal.split_at-requires-in-None
split_at-requires-in-None c = beginning_boundary c.args.first _ c.args.text.now c.len_utf8.ensures.value c.utf8.text c.requires.beginning

pub returns-in-Some : goal.returns-in-Some
returns-in-Some c =
    let text = c.args.text.now in
    let n = length c.text.result.now in
    made _ _ _ _ _ c.behind.ensures.piece (c.behind.ensures.text ∙ c.split_at.ensures.front) (c.behind.ensures.rest ∙ c.split_at.ensures.back)
    (cut_whole n text)
    (IsUtf8-drop text n c.utf8.text (subst (λ t. IsCharBoundary text (length t)) (sym c.text.ensures) c.in-Some.ensures.cut))
    (cut_sign text (take n text) _ c.in-Some.sign (sym c.in-Some.ensures.first) (ap (λ t. take (length t) text) c.text.ensures) (cut_whole n text))

pub returns-in-None : goal.returns-in-None
returns-in-None c =
    let text = c.args.text.now in
    let n = c.len_utf8.result in
    let cut = c.behind-in-None.ensures in
    made _ _ _ _ _ cut.piece (cut.text ∙ c.split_at-in-None.ensures.front) (cut.rest ∙ c.split_at-in-None.ensures.back)
    (cut_whole n text)
    (IsUtf8-drop text n c.utf8.text (beginning_boundary c.args.first n text c.len_utf8.ensures.value c.utf8.text c.requires.beginning))
    (cut_other c.args.first text _ _ c.requires.beginning c.requires.no_separator c.requires.no_comment c.requires.no_digit c.requires.no_name
    c.in-None.ensures.first (first_char c.args.first n text c.requires.beginning c.len_utf8.ensures.value) (cut_whole n text))
