use Rattle.std.proofs.Common.{drop, sym, ap, ◌∙◌, ⊎_elim}
use Rattle.kf_value.proofs.ReadingNumbers.{truth_text, begun, not_begun_true, not_begun_false}
use Rattle.kf_value.proofs.readings.read_truth.Goals as goal

pub returns-in_err-strip_prefix-in-None : goal.returns-in_err-strip_prefix-in-None
returns-in_err-strip_prefix-in-None c = λ n v r place stops whole.
    ⊎_elim
    (λ h. absurd (not_begun_true c.args.bytes.now r c.in-None.ensures.cases h.1))
    (λ h. absurd (not_begun_false c.args.bytes.now r c.in_err-strip_prefix-in-None.ensures.cases h.1))
    (truth_text n v r c.args.bytes.now place whole)

pub returns-in-Some : goal.returns-in-Some
returns-in-Some c = λ n v r place stops whole.
    ⊎_elim
    (λ h. (sym h.0, c.in-Some.ensures.cases.1 ∙ ap (drop 4) h.1))
    (λ h. absurd (begun c.args.bytes.now r c.in-Some.ensures.cases.0 h.1))
    (truth_text n v r c.args.bytes.now place whole)

pub returns-in_ok-strip_prefix-in-None : goal.returns-in_ok-strip_prefix-in-None
returns-in_ok-strip_prefix-in-None c = λ n v r place stops whole.
    ⊎_elim
    (λ h. absurd (not_begun_true c.args.bytes.now r c.in-None.ensures.cases h.1))
    (λ h. (sym h.0, c.in_ok-strip_prefix-in-None.ensures.cases.1 ∙ ap (drop 5) h.1))
    (truth_text n v r c.args.bytes.now place whole)
