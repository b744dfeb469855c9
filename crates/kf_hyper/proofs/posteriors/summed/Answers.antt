use Rattle.std.proofs.Common.{List, [], ◌∷◌, ◌++◌, All, map, ap, sym, subst, ◌∙◌, append_assoc}
use Rattle.std.specs.Vec.Iter.{into_iter_items}
use Rattle.std.proofs.lemmas.List.Elements.{All-head, All-tail}
use Rattle.kf_hyper.specs.declared.class.Class.{Class}
use Rattle.kf_column.specs.declared.entry.Entry.{Entry}
use Rattle.kf_column.specs.Averages.{joint_column}
use Rattle.kf_hyper.specs.ClassViews.{inner_of, class_of}
use Rattle.kf_column.specs.Classes.{IsWhole}
use Rattle.kf_hyper.proofs.posteriors.summed.Goals as goal

abbrev sums : List Class → List (List Entry)
sums cs = map joint_column (map inner_of cs)

pub multiplied-requires : goal.multiplied-requires
multiplied-requires c =
    All-head IsWhole (class_of c.in-Some.class) (map class_of (into_iter_items c.next.new.self))
    (subst (λ (cs : List Class). All IsWhole (map class_of cs)) c.in-Some.ensures.steps.0 c.loop-class.invariant.whole)

pub loop-class-preserved : goal.loop-class-preserved
loop-class-preserved c = record {
  whole = All-tail IsWhole (class_of c.in-Some.class) (map class_of (into_iter_items c.next.new.self))
      (subst (λ (cs : List Class). All IsWhole (map class_of cs)) c.in-Some.ensures.steps.0 c.loop-class.invariant.whole);
  summed = ap (λ (l : List (List Entry)). l ++ sums (into_iter_items c.next.new.self)) c.in_ok-push.ensures.items
      ∙ append_assoc c.loop-class.columns.items (c.multiplied.result ∷ []) (sums (into_iter_items c.next.new.self))
      ∙ ap (λ (column : List Entry). c.loop-class.columns.items ++ column ∷ sums (into_iter_items c.next.new.self)) c.multiplied.ensures
      ∙ ap (λ (cs : List Class). c.loop-class.columns.items ++ sums cs) (sym c.in-Some.ensures.steps.0) ∙ c.loop-class.invariant.summed;
}
