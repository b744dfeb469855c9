use Rattle.std.proofs.Common.{sym, subst, ◌∙◌}
use Rattle.std.proofs.lemmas.Str.{IsUtf8-drop}
use Rattle.kf_lex.specs.Cuts.{IsBeginning}
use Rattle.kf_lex.proofs.Cutting.{separator_boundary, cut_comment, cut_separator, cut_whole, made}
use Rattle.kf_lex.proofs.LongestCuts.{cut_number, cut_word}
use Rattle.kf_lex.proofs.cuts.cut_at.Goals as goal

pub split_at-requires : goal.split_at-requires
split_at-requires c = separator_boundary c.args.first c.args.text.now c.utf8.text c.requires (sym c.if-is_separator.ensures)

pub returns-then-is_separator : goal.returns-then-is_separator
returns-then-is_separator c =
    let text = c.args.text.now in
    made _ _ _ _ _ c.behind.ensures.piece (c.behind.ensures.text ∙ c.split_at.ensures.front) (c.behind.ensures.rest ∙ c.split_at.ensures.back)
    (cut_whole 1 text)
    (IsUtf8-drop text 1 c.utf8.text (separator_boundary c.args.first text c.utf8.text c.requires (sym c.if-is_separator.ensures)))
    (cut_separator c.args.first text c.requires (sym c.if-is_separator.ensures))

pub returns-then-first-eq35 : goal.returns-then-first-eq35
returns-then-first-eq35 c =
    let text = c.args.text.now in
    let cut = c.behind-then-first-eq35.ensures in
    made _ _ _ _ _ cut.piece cut.text cut.rest c.split_line.ensures.whole c.split_line.ensures.utf8
    (cut_comment text _ _ (subst (λ b. IsBeginning b text) c.if-first-eq35.true c.requires) c.split_line.ensures)

pub returns-then-is_ascii_digit : goal.returns-then-is_ascii_digit
returns-then-is_ascii_digit c =
    let text = c.args.text.now in
    let cut = c.behind-then-is_ascii_digit.ensures in
    made _ _ _ _ _ cut.piece cut.text cut.rest c.split_digits.ensures.whole c.split_digits.ensures.utf8
    (cut_number c.args.first text _ _ c.requires (sym c.if-is_ascii_digit.ensures.value) c.split_digits.ensures)

pub returns-then-begins_name : goal.returns-then-begins_name
returns-then-begins_name c =
    let text = c.args.text.now in
    let cut = c.behind-then-begins_name.ensures in
    made _ _ _ _ _ cut.piece cut.text cut.rest c.split_word.ensures.whole c.split_word.ensures.utf8
    (cut_word c.args.first text _ _ c.requires (sym c.if-begins_name.ensures) c.split_word.ensures)
