use Rattle.std.proofs.Common.{◌∙◌}
use Rattle.kf_report.proofs.Lowest.{lowest_fit, lowest_num, lowest_den, minus_read, minus_fits, minus_apart}
use Rattle.kf_report.proofs.report.negated.Goals as goal

pub unwrap-requires : goal.unwrap-requires
unwrap-requires c =
    c.make.ensures.fits.1
    (lowest_fit _ _ _ _ (minus_read c.num.result c.args.f.num c.num.ensures c.args.f.num_fits) c.den.ensures (minus_fits c.args.f.num c.args.f.num_fits) c.args.f.den_fits)

pub returns-clause-num : goal.returns-clause-num
returns-clause-num c =
    let made = rw c.unwrap.ensures at c.make.ensures.num in
    made
    ∙ lowest_num _ _ _ _ (minus_read c.num.result c.args.f.num c.num.ensures c.args.f.num_fits) c.den.ensures (minus_apart c.args.f.num c.args.f.den c.args.f.reduced)

pub returns-clause-den : goal.returns-clause-den
returns-clause-den c =
    let made = rw c.unwrap.ensures at c.make.ensures.den in
    made
    ∙ lowest_den _ _ _ _ (minus_read c.num.result c.args.f.num c.num.ensures c.args.f.num_fits) c.den.ensures (minus_apart c.args.f.num c.args.f.den c.args.f.reduced)
