use Rattle.std.proofs.Common.{Some, refl, sym, ap, ◌∙◌, arith}
use Rattle.std.proofs.lemmas.Option.{slice_get-get_or, slice_get_past}
use Rattle.kf_value.specs.Views.{kind_tree}
use Rattle.kf_check.proofs.Nodes.{kind_tree-is_tuple}
use Rattle.kf_check.proofs.PickRules.{part_found, part_past}
use Rattle.kf_check.proofs.picks.part_kind.Goals as goal

pub returns-in_ok-copy-in-Some-clause-ok : goal.returns-in_ok-copy-in-Some-clause-ok
returns-in_ok-copy-in-Some-clause-ok c =
    part_found (kind_tree c.args.kind.now) c.as_slice.result.now c.args.k c.in-Some.part.now c.in_ok-copy-in-Some.field-0
    (kind_tree-is_tuple c.args.kind.now c.in-Tuple.parts c.as_slice.result.now c.in-Tuple.is c.as_slice.ensures) (slice_get-get_or c.as_slice.result.now c.args.k c.in-Some.part.now (omega (arith, c.in-Some.ensures.lookup.3.0)) ∙ ap (λ j. Some j) (sym c.in-Some.ensures.lookup.1)) c.in_ok-copy-in-Some.ensures

pub returns-in-None-clause-err : goal.returns-in-None-clause-err
returns-in-None-clause-err c =
    λ e. (
      refl,
      part_past (kind_tree c.args.kind.now) c.as_slice.result.now c.args.k
          (kind_tree-is_tuple c.args.kind.now c.in-Tuple.parts c.as_slice.result.now c.in-Tuple.is c.as_slice.ensures) (slice_get_past c.as_slice.result.now c.args.k c.in-None.ensures.lookup.3),
    )
