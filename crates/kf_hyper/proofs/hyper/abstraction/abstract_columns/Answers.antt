use Rattle.std.proofs.Common.{map, subst, List}
use Rattle.kf_value.specs.Numbers.{target_size}
use Rattle.kf_value.specs.TypeViews.{item_of}
use Rattle.kf_hyper.specs.declared.column.Column.{Column}
use Rattle.kf_column.specs.Hypers.{IsHyper}
use Rattle.kf_hyper.specs.ClassViews.{inner_of}
use Rattle.kf_hyper.proofs.Made.{hyper_made, shape_made}
use Rattle.kf_hyper.proofs.hyper.abstraction.abstract_columns.Goals as goal

pub invariant_of-result : goal.invariant_of-result
invariant_of-result c = record {
  shape =
      let scale = c.into_parts-scale.ensures.scale in
      let columns = c.into_parts-scale.ensures.columns in
      shape_made c.into_parts-scale.result.1.items c.in_ok-classes.classes.items c.in_ok-classes.ensures.classes c.in_ok-classes.ensures.ordered (target_size (map item_of c.args.target.items))
      c.into_parts-scale.result.0 (rw (scale, columns) c.into_parts-scale.ensures.joint) (rw (scale, columns) c.requires.whole) (rw columns c.requires.within);
}

pub returns-clause-hyper : goal.returns-clause-hyper
returns-clause-hyper c =
    subst (λ (cs : List Column). IsHyper cs (map inner_of c.in_ok-classes.classes.items)) c.into_parts-scale.ensures.columns
    (hyper_made c.into_parts-scale.result.1.items c.in_ok-classes.classes.items c.in_ok-classes.ensures.classes c.in_ok-classes.ensures.ordered)
