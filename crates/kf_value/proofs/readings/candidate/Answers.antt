use Rattle.std.proofs.Common.{[], drop, Some, ap, ◌∙◌}
use Rattle.kf_value.specs.Readings.{row}
use Rattle.kf_value.proofs.ReadingNumbers.{not_begun_with}
use Rattle.kf_value.proofs.ReadingTargets.{one_item, many_items}
use Rattle.kf_value.proofs.readings.candidate.Goals as goal

pub returns-in_err-read_value : goal.returns-in_err-read_value
returns-in_err-read_value c = λ n below same.
    let value = one_item c.args.items.now c.index-items-0.result n c.args.bytes.now c.if-items-eq1.true below same in
    absurd (c.in_err-read_value.ensures n value.0 [] value.1 tt value.2)

pub returns-in_err-strip_prefix : goal.returns-in_err-strip_prefix
returns-in_err-strip_prefix c = λ n below same.
    let row_of = many_items c.args.items.now n c.args.bytes.now c.if-items-eq1.false below same in
    absurd (not_begun_with 40 c.args.bytes.now (row row_of.0 41 []) c.in_err-strip_prefix.ensures.cases row_of.2)

pub returns-in_err-n : goal.returns-in_err-n
returns-in_err-n c = λ n below same.
    let row_of = many_items c.args.items.now n c.args.bytes.now c.if-items-eq1.false below same in
    absurd (c.in_err-n.ensures n row_of.0 [] row_of.1 (c.in_ok-strip_prefix.ensures.cases.1 ∙ ap (drop 1) row_of.2))

pub returns-in_ok-read_value : goal.returns-in_ok-read_value
returns-in_ok-read_value c = λ n below same.
    let value = one_item c.args.items.now c.index-items-0.result n c.args.bytes.now c.if-items-eq1.true below same in
    ap (λ k. Some k) (c.in_ok-read_value.ensures n value.0 [] value.1 tt value.2).0

pub returns-in_ok-n : goal.returns-in_ok-n
returns-in_ok-n c = λ n below same.
    let row_of = many_items c.args.items.now n c.args.bytes.now c.if-items-eq1.false below same in
    ap (λ k. Some k) (c.in_ok-n.ensures n row_of.0 [] row_of.1 (c.in_ok-strip_prefix.ensures.cases.1 ∙ ap (drop 1) row_of.2)).0
