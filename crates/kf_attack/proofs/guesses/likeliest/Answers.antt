use Rattle.std.proofs.Common.{◌∙◌, pos, ap, arith}
use Rattle.kf_frac.specs.Parts.{IsFraction}
use Rattle.kf_column.specs.Columns.{total}
use Rattle.kf_column.proofs.Scaling.{total_positive}
use Rattle.kf_attack.proofs.Taking.{front_within, likeliest_shown}
use Rattle.kf_attack.proofs.guesses.likeliest.Goals as goal

pub sum-requires : goal.sum-requires
sum-requires c =
    let taken = c.as_slice-guesses.ensures.value ∙ c.truncate.ensures.items in
    let within = front_within c.args.entries.now c.in_ok-guesses.guesses.items c.in_ok-guesses.ensures c.args.count in
    omega (arith, ap total taken, within, c.requires.fits)

pub share-worth-requires-clause-within : goal.share-worth-requires-clause-within
share-worth-requires-clause-within c =
    let taken = c.as_slice-guesses.ensures.value ∙ c.truncate.ensures.items in
    let within = front_within c.args.entries.now c.in_ok-guesses.guesses.items c.in_ok-guesses.ensures c.args.count in
    omega (arith, ap total taken, within, c.sum.ensures, c.sum-whole.ensures)

pub share-worth-requires-clause-some : goal.share-worth-requires-clause-some
share-worth-requires-clause-some c = omega (arith, total_positive c.args.entries.now c.requires.column, c.sum-whole.ensures)

pub weighed-requires-clause-part : goal.weighed-requires-clause-part
weighed-requires-clause-part c =
    let taken = c.as_slice-guesses.ensures.value ∙ c.truncate.ensures.items in
    let within = front_within c.args.entries.now c.in_ok-guesses.guesses.items c.in_ok-guesses.ensures c.args.count in
    omega (arith, ap total taken, within, c.sum-whole.ensures)

pub weighed-requires-clause-some : goal.weighed-requires-clause-some
weighed-requires-clause-some c = omega (arith, total_positive c.args.entries.now c.requires.column, c.sum-whole.ensures)

pub returns : goal.returns
returns c =
    let taken = c.as_slice-guesses.ensures.value ∙ c.truncate.ensures.items in
    let worth : IsFraction c.share-worth.result (pos c.sum.result) c.sum-whole.result =
    record { num = c.share-worth.ensures.num; den = c.share-worth.ensures.den } in
    likeliest_shown c.args.entries.now c.in_ok-guesses.guesses.items c.in_ok-guesses.ensures c.requires.column c.sum-whole.result c.sum-whole.ensures
    c.as_slice-guesses.result.now c.sum.result c.share-worth.result c.in_ok-values.values worth c.in_ok-values.ensures c.args.count taken c.sum.ensures
