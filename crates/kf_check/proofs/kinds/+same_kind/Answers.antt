use Rattle.std.proofs.Common.{map, sym, ap, ◌∙◌, true≢false, arith}
use Rattle.kf_value.specs.Views.{kind_tree}
use Rattle.kf_check.proofs.Nodes.{kind_tree-Bool, kind_tree-Int, kind_tree-Tuple, kind_tree-Set, kind_tree-is_tuple}
use Rattle.kf_check.proofs.KindLists.{tuples_same, kind_tree-is_set, sets_same, are_same, are_apart, no_truth, no_whole, no_tuple, no_set}
use Rattle.kf_check.proofs.Each.{apart}
use Rattle.kf_check.proofs.kinds.+same_kind.Goals as goal

pub same_kind-returns-in-Tuple-b : goal.same_kind-returns-in-Tuple-b
same_kind-returns-in-Tuple-b t c =
    tuples_same c.same_kinds.result (kind_tree c.args.a.now) (kind_tree c.args.b.now) (map kind_tree c.as_slice.result.now) (map kind_tree c.as_slice-in-Tuple-b.result.now)
    (kind_tree-is_tuple c.args.a.now c.in-Tuple.xs c.as_slice.result.now c.in-Tuple.is c.as_slice.ensures)
    (kind_tree-is_tuple c.args.b.now c.in-Tuple-b.ys c.as_slice-in-Tuple-b.result.now c.in-Tuple-b.is c.as_slice-in-Tuple-b.ensures) c.same_kinds.ensures

pub same_kinds-returns-then-not-same_kind : goal.same_kinds-returns-then-not-same_kind
same_kinds-returns-then-not-same_kind t c = (
  λ yes. absurd (true≢false (sym yes)),
  λ same. absurd (apart kind_tree kind_tree c.args.xs.now c.args.ys.now c.loop-i.i c.index-xs-i.result c.index-ys-i.result (omega arith) c.index-xs-i.is (omega arith) c.index-ys-i.is
      (λ alike. true≢false (sym (c.same_kind.ensures.1 alike) ∙ c.if-not-same_kind.true)) same),
)

pub same_kind-returns-in-Bool-matches : goal.same_kind-returns-in-Bool-matches
same_kind-returns-in-Bool-matches t c = are_same _ _ (ap kind_tree (c.in-Bool.is ∙ sym c.in-Bool-matches.is))

pub same_kind-returns-in_default : goal.same_kind-returns-in_default
same_kind-returns-in_default t c = are_apart _ _ (λ same. no_truth c.args.b.now c.in_default.not-Bool (sym same ∙ (ap kind_tree c.in-Bool.is ∙ kind_tree-Bool)))

pub same_kind-returns-in-Int-matches : goal.same_kind-returns-in-Int-matches
same_kind-returns-in-Int-matches t c = are_same _ _ (ap kind_tree (c.in-Int.is ∙ sym c.in-Int-matches.is))

pub same_kind-returns-in_default-matches : goal.same_kind-returns-in_default-matches
same_kind-returns-in_default-matches t c = are_apart _ _ (λ same. no_whole c.args.b.now c.in_default-matches.not-Int (sym same ∙ (ap kind_tree c.in-Int.is ∙ kind_tree-Int)))

pub same_kind-returns-in_default-b : goal.same_kind-returns-in_default-b
same_kind-returns-in_default-b t c = are_apart _ _ (λ same. no_tuple c.args.b.now _ c.in_default-b.not-Tuple (sym same ∙ (ap kind_tree c.in-Tuple.is ∙ kind_tree-Tuple c.in-Tuple.xs)))

pub same_kind-returns-in-Set-b : goal.same_kind-returns-in-Set-b
same_kind-returns-in-Set-b t c =
    sets_same c.same_kind.result (kind_tree c.args.a.now) (kind_tree c.args.b.now) (kind_tree c.deref.result.now) (kind_tree c.deref-in-Set-b.result.now)
    (kind_tree-is_set c.args.a.now c.in-Set.x c.deref.result.now c.in-Set.is c.deref.ensures)
    (kind_tree-is_set c.args.b.now c.in-Set-b.y c.deref-in-Set-b.result.now c.in-Set-b.is c.deref-in-Set-b.ensures) c.same_kind.ensures

pub same_kind-returns-in_default-b-2 : goal.same_kind-returns-in_default-b-2
same_kind-returns-in_default-b-2 t c = are_apart _ _ (λ same. no_set c.args.b.now _ c.in_default-b-2.not-Set (sym same ∙ (ap kind_tree c.in-Set.is ∙ kind_tree-Set c.in-Set.x)))
