use Rattle.std.proofs.Common.{map, refl, sym, true≢false}
use Rattle.kf_value.specs.Views.{kind_tree}
use Rattle.kf_check.proofs.RowRules.{few_taken, row_gives, row_takes_none, row_there}
use Rattle.kf_check.proofs.rows.result_kind.Goals as goal

pub bounds-operators-row : goal.bounds-operators-row
bounds-operators-row c = row_there c.args.row _ c.requires

pub shared_ref_as_front-patterns : goal.shared_ref_as_front-patterns
shared_ref_as_front-patterns c = few_taken c.args.row _ c.requires

pub returns-in_ok-kind_of_pattern-clause-ok : goal.returns-in_ok-kind_of_pattern-clause-ok
returns-in_ok-kind_of_pattern-clause-ok c =
    row_gives c.operators.result c.args.row _ _ c.operators.ensures c.requires (map kind_tree c.args.kinds.now) (kind_tree c.in_ok-any.any) _ (c.if-fits.ensures.0 refl) c.in_ok-kind_of_pattern.ensures

pub returns-else-fits-clause-err : goal.returns-else-fits-clause-err
returns-else-fits-clause-err c other = (
  refl,
  row_takes_none c.operators.result c.args.row _ _ c.operators.ensures c.requires (map kind_tree c.args.kinds.now) (kind_tree c.in_ok-any.any) c.in_ok-any.ensures
      (λ fit. true≢false (sym (c.if-fits.ensures.1 fit))),
)
