use Rattle.std.proofs.Common.{ℕ, List, ◌++◌, IsUtf8, sym, ap, ◌∙◌, subst}
use Rattle.kf_value.specs.Targets.{target_value_text}
use Rattle.kf_value.specs.Views.{items_of}
use Rattle.kf_cert.proofs.PlainTexts.{target_value_utf8}
use Rattle.kf_cert.proofs.writer.value_text.Goals as goal

-- a value's text is UTF-8
pub unwrap-requires : goal.unwrap-requires
unwrap-requires c =
    let target = items_of c.args.target.now in
    let text : List ℕ = target_value_text target c.args.number in
    c.from_utf8.ensures.succeeds
    (subst IsUtf8 (sym (c.in_ok-print_target.ensures.printed ∙ ap (λ (bytes : List ℕ). bytes ++ text) c.new-bytes.ensures.items)) (target_value_utf8 target c.args.number))
