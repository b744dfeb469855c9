use Rattle.std.proofs.Common.{◌∙◌}
use Rattle.kf_report.proofs.Lowest.{lowest_fit, lowest_num, lowest_den, size_read, den_read, turned_apart}
use Rattle.kf_report.proofs.report.inverse.Goals as goal

pub unwrap-requires : goal.unwrap-requires
unwrap-requires c =
    c.make.ensures.fits.1
    (lowest_fit _ _ _ _ (den_read c.den.result c.args.f.den c.den.ensures c.args.f.den_fits)
    (size_read c.num.result c.args.f.num c.unsigned_abs.result c.num.ensures c.args.f.num_fits c.unsigned_abs.ensures.value) c.args.f.den_fits c.args.f.num_fits)

pub returns-clause-num : goal.returns-clause-num
returns-clause-num c =
    let made = rw c.unwrap.ensures at c.make.ensures.num in
    made
    ∙ lowest_num _ _ _ _ (den_read c.den.result c.args.f.den c.den.ensures c.args.f.den_fits)
    (size_read c.num.result c.args.f.num c.unsigned_abs.result c.num.ensures c.args.f.num_fits c.unsigned_abs.ensures.value) (turned_apart c.args.f.num c.args.f.den c.args.f.reduced)

pub returns-clause-den : goal.returns-clause-den
returns-clause-den c =
    let made = rw c.unwrap.ensures at c.make.ensures.den in
    made
    ∙ lowest_den _ _ _ _ (den_read c.den.result c.args.f.den c.den.ensures c.args.f.den_fits)
    (size_read c.num.result c.args.f.num c.unsigned_abs.result c.num.ensures c.args.f.num_fits c.unsigned_abs.ensures.value) (turned_apart c.args.f.num c.args.f.den c.args.f.reduced)
