use Rattle.std.proofs.Common.{refl}
use Rattle.kf_hyper.specs.Views.{inners_of, scale_of}
use Rattle.kf_report.proofs.Leaks.{leakage, narrow_leakage}
use Rattle.kf_report.proofs.report.report_of.Goals as goal

pub whole_report-requires : goal.whole_report-requires
whole_report-requires c =
    let before = c.in_ok-prior.ensures.is in
    let after = c.in_ok-posterior.ensures.is in
    let width = c.in_ok-prior.ensures.narrow in (
      leakage c.args.g.now (scale_of c.args.h.now) before.0 after.0,
      narrow_leakage c.gain_laws.ensures.width c.args.g.now _ (scale_of c.args.h.now) width.0 (inners_of c.args.h.now) before.0 after.0 c.has_shape.ensures width.1 width.2 before.1 after.1,
      record { prior = before.2; posterior = after.2 },
    )

pub returns-clause-is : goal.returns-clause-is
returns-clause-is c =
    let before = c.in_ok-prior.ensures.is in
    let after = c.in_ok-posterior.ensures.is in
    let width = c.in_ok-prior.ensures.narrow in
    let l = leakage c.args.g.now (scale_of c.args.h.now) before.0 after.0 in (
      l,
      record { prior = before.1; posterior = after.1; whole = refl },
      c.whole_report.ensures l
          (narrow_leakage c.gain_laws.ensures.width c.args.g.now _ (scale_of c.args.h.now) width.0 (inners_of c.args.h.now) before.0 after.0 c.has_shape.ensures width.1 width.2 before.1 after.1)
          (record { prior = before.2; posterior = after.2 }),
    )
