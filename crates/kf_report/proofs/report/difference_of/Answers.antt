use Rattle.std.proofs.Common.{neg_ℤ}
use Rattle.kf_report.proofs.Crossing.{is_over, minus_over}
use Rattle.kf_report.proofs.Sums.{sum_fits, sum_is}
use Rattle.kf_report.proofs.report.difference_of.Goals as goal

pub unwrap-requires : goal.unwrap-requires
unwrap-requires c =
    let l = c.requires.0 in
    let narrow = c.requires.1 in
    let pair = c.requires.2 in
    c.add.ensures.fits.1
    (sum_fits c.args.posterior c.negated.result l.posterior (neg_ℤ l.prior) l.whole narrow.some (is_over c.args.posterior l.posterior l.whole pair.posterior)
    (minus_over c.args.prior c.negated.result l.prior l.whole c.negated.ensures.num c.negated.ensures.den (is_over c.args.prior l.prior l.whole pair.prior))
    narrow.whole narrow.difference)

pub returns : goal.returns
returns c l narrow pair =
    sum_is c.args.posterior c.negated.result l.posterior (neg_ℤ l.prior) l.whole narrow.some (is_over c.args.posterior l.posterior l.whole pair.posterior)
    (minus_over c.args.prior c.negated.result l.prior l.whole c.negated.ensures.num c.negated.ensures.den (is_over c.args.prior l.prior l.whole pair.prior))
    c.unwrap.result (rw c.unwrap.ensures at c.add.ensures.num) (rw c.unwrap.ensures at c.add.ensures.den)
