use Rattle.std.proofs.Common.{◌≡◌, ◌∙◌, ap, subst, map, List}
use Rattle.kf_hyper.specs.declared.column.Column.{Column}
use Rattle.kf_hyper.specs.ClassViews.{class_of}
use Rattle.kf_column.specs.Joint.{Joint}
use Rattle.kf_column.specs.Merged.{AreMerged}
use Rattle.kf_hyper.proofs.Made.{merged_made, joint_made}
use Rattle.kf_column.proofs.ClassSums.{all_whole}
use Rattle.kf_column.proofs.Ordered.{ordered}
use Rattle.kf_hyper.proofs.posteriors.merge_owned.Goals as goal

pub returns-then-is_alone-clause-merged : goal.returns-then-is_alone-clause-merged
returns-then-is_alone-clause-merged c =
    let same : c.as_slice.result.now ≡ c.args.columns.columns = c.as_slice.ensures.value ∙ c.into_parts-scale.ensures.columns in
    let out : c.new-then-is_alone.result.columns ≡ c.args.columns.columns = ap (λ (j : Joint). j.columns) c.new-then-is_alone.ensures ∙ c.new.ensures ∙ c.into_parts-scale.ensures.columns in
    rw out (subst (λ (cs : List Column). AreMerged cs cs) same (c.is_alone.ensures c.if-is_alone.true))

pub summed-requires : goal.summed-requires
summed-requires c =
    all_whole c.into_parts-scale.result.1.items (map class_of c.in_ok-classes.classes.items) c.in_ok-classes.ensures.classes
    (ordered (map class_of c.in_ok-classes.classes.items) c.in_ok-classes.ensures.ordered)

pub new-requires-3 : goal.new-requires-3
new-requires-3 c =
    rw c.new-2.ensures
    (joint_made c.into_parts-scale.result.1.items c.in_ok-merged.merged.items c.into_parts-scale.result.0 c.in_ok-classes.classes.items
    (rw (c.into_parts-scale.ensures.scale, c.into_parts-scale.ensures.columns) c.into_parts-scale.ensures.joint) c.in_ok-classes.ensures.classes c.in_ok-classes.ensures.ordered c.in_ok-merged.ensures)

pub returns-clause-merged : goal.returns-clause-merged
returns-clause-merged c =
    rw (ap (λ (j : Joint). j.columns) c.new-3.ensures, c.new-2.ensures)
    (subst (λ (cs : List Column). AreMerged cs c.in_ok-merged.merged.items) c.into_parts-scale.ensures.columns
    (merged_made c.into_parts-scale.result.1.items c.in_ok-merged.merged.items c.into_parts-scale.result.0 c.in_ok-classes.classes.items
    (rw (c.into_parts-scale.ensures.scale, c.into_parts-scale.ensures.columns) c.into_parts-scale.ensures.joint) c.in_ok-classes.ensures.classes c.in_ok-classes.ensures.ordered c.in_ok-merged.ensures))
