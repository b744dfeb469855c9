use Rattle.std.proofs.Common.{arith, length, get_or}
use Rattle.std.proofs.lemmas.List.{get_or_default}
use Rattle.kf_frac.specs.Fractions.{limit}
use Rattle.kf_column.specs.Columns.{total}
use Rattle.kf_hyper.specs.Sums.{summed}
use Rattle.kf_hyper.specs.Views.{inners_of}
use Rattle.kf_refine.specs.Views.{hyper_tree}
use Rattle.kf_cert.specs.declared.matrix_rules.shares.Share.{Share}
use Rattle.kf_cert.proofs.Carrying.{weight_more, total_more, more_fits, row_inside}
use Rattle.kf_cert.proofs.matrix_rules.cells.column_sums.Goals as goal

abbrev none : Share
none = record { row = 0; column = 0; amount = 0 }

pub add_inner-requires-clause-inner : goal.add_inner-requires-clause-inner
add_inner-requires-clause-inner c =
    row_inside (hyper_tree c.args.a.now) c.args.column.now c.loop-share.share-index (get_or c.args.column.now c.loop-share.share-index none) c.loop-share-test.true (get_or_default c.args.column.now c.loop-share.share-index none _ c.loop-share-test.true) (length (inners_of c.args.a.now)) c.requires.inside

pub add_inner-requires-clause-fits : goal.add_inner-requires-clause-fits
add_inner-requires-clause-fits c =
    let fits =
    more_fits (hyper_tree c.args.a.now) c.args.column.now c.loop-share.share-index (get_or c.args.column.now c.loop-share.share-index none) c.loop-share-test.true (get_or_default c.args.column.now c.loop-share.share-index none _ c.loop-share-test.true) (total (summed c.loop-share.sums.entries)) limit
    c.loop-share.invariant.total c.requires.fits in
    omega (arith, fits)

pub loop-share-preserved : goal.loop-share-preserved
loop-share-preserved c = record {
  weights = λ x.
      weight_more (hyper_tree c.args.a.now) c.args.column.now c.loop-share.share-index (get_or c.args.column.now c.loop-share.share-index none) c.loop-share-test.true (get_or_default c.args.column.now c.loop-share.share-index none _ c.loop-share-test.true) x _ _
      (c.loop-share.invariant.weights x) (c.in_ok-add_inner.ensures.gains.weights x);
  total = total_more (hyper_tree c.args.a.now) c.args.column.now c.loop-share.share-index (get_or c.args.column.now c.loop-share.share-index none) c.loop-share-test.true (get_or_default c.args.column.now c.loop-share.share-index none _ c.loop-share-test.true) _ _
      c.loop-share.invariant.total c.in_ok-add_inner.ensures.gains.total;
  positive = c.in_ok-add_inner.ensures.positive c.loop-share.invariant.positive;
}
