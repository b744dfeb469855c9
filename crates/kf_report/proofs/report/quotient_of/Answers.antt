use Rattle.std.proofs.Common.{sym, arith, rules}
use Rattle.std.proofs.lemmas.Int.{ints}
use Rattle.kf_report.proofs.Crossing.{is_over, positive, not_positive}
use Rattle.kf_report.proofs.Ratios.{ratio_fits, ratio_is}
use Rattle.kf_report.proofs.report.quotient_of.Goals as goal

pub returns-then-num-le0 : goal.returns-then-num-le0
returns-then-num-le0 c l narrow pair =
    let over = is_over c.args.prior l.prior l.whole pair.prior in
    not_positive l.prior (λ up.
    let above = positive l.prior c.args.prior.num c.args.prior.den l.whole c.args.prior.positive narrow.some (sym over.cross) up in
    let same = c.num.ensures in
    let test = c.if-num-le0.true in
    omega (arith, ints))

pub unwrap-requires : goal.unwrap-requires
unwrap-requires c =
    let l = c.requires.0 in
    let narrow = c.requires.1 in
    let pair = c.requires.2 in
    let over = is_over c.args.prior l.prior l.whole pair.prior in
    let up = positive c.args.prior.num l.prior l.whole c.args.prior.den narrow.some c.args.prior.positive over.cross (search rules) in
    c.mul.ensures.fits.1
    (ratio_fits c.args.prior c.args.posterior c.inverse.result l.prior l.posterior l.whole narrow.some up over (is_over c.args.posterior l.posterior l.whole pair.posterior)
    c.inverse.ensures.num c.inverse.ensures.den narrow.prior narrow.posterior)

pub returns : goal.returns
returns c l narrow pair =
    let over = is_over c.args.prior l.prior l.whole pair.prior in
    let up = positive c.args.prior.num l.prior l.whole c.args.prior.den narrow.some c.args.prior.positive over.cross (let test = c.if-num-le0.false in search rules) in (
      up,
      ratio_is c.args.prior c.args.posterior c.inverse.result l.prior l.posterior l.whole narrow.some up over (is_over c.args.posterior l.posterior l.whole pair.posterior)
          c.inverse.ensures.num c.inverse.ensures.den c.unwrap.result (rw c.unwrap.ensures at c.mul.ensures.num) (rw c.unwrap.ensures at c.mul.ensures.den),
    )
