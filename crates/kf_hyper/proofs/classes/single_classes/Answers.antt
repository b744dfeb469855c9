use Rattle.std.proofs.Common.{◌++◌, ◌∷◌, [], ◌∙◌, ap, sym, append_assoc}
use Rattle.std.specs.Vec.Iter.{into_iter_items}
use Rattle.kf_hyper.proofs.Made.{classes_pushed}
use Rattle.kf_hyper.proofs.classes.single_classes.Goals as goal

pub loop-column-preserved : goal.loop-column-preserved
loop-column-preserved c = record {
  classes = rw c.in_ok-push.ensures.items
      (classes_pushed c.loop-column.yielded c.in-Some.column c.reduced.result c.loop-column.classes.items c.reduced.ensures.inner c.reduced.ensures.total c.loop-column.invariant.classes);
  whole = append_assoc c.loop-column.yielded (c.in-Some.column ∷ []) (into_iter_items c.next.new.self) ∙ ap (λ l. c.loop-column.yielded ++ l) (sym c.in-Some.ensures.steps.0) ∙ c.loop-column.invariant.whole;
}
