use Rattle.std.proofs.Common.{refl, ap, ◌∙◌}
use Rattle.kf_value.specs.Views.{kind_tree}
use Rattle.kf_check.proofs.Nodes.{kind_tree-Bool, kind_tree-Int}
use Rattle.kf_check.proofs.KindLists.{kind_tree-is_set, sets_same, are_same, are_apart, no_truth, no_whole, no_set}
use Rattle.kf_check.proofs.RowRules.{other_pattern}
use Rattle.kf_check.proofs.rows.is_pattern.Goals as goal

pub returns-in-Bool-matches : goal.returns-in-Bool-matches
returns-in-Bool-matches c = rw c.in-Bool.is (are_same _ _ (ap kind_tree c.in-Bool-matches.is ∙ kind_tree-Bool))

pub returns-in_default-matches : goal.returns-in_default-matches
returns-in_default-matches c = rw c.in-Bool.is (are_apart _ _ (no_truth c.args.kind.now c.in_default-matches.not-Bool))

pub returns-in-Int-matches : goal.returns-in-Int-matches
returns-in-Int-matches c = rw c.in-Int.is (are_same _ _ (ap kind_tree c.in-Int-matches.is ∙ kind_tree-Int))

pub returns-in_default-matches-2 : goal.returns-in_default-matches-2
returns-in_default-matches-2 c = rw c.in-Int.is (are_apart _ _ (no_whole c.args.kind.now c.in_default-matches-2.not-Int))

pub returns-in-Set : goal.returns-in-Set
returns-in-Set c =
    rw c.in-SetOfAny.is
    (sets_same c.same_kind.result (kind_tree c.args.kind.now) _ (kind_tree c.deref.result.now) (kind_tree c.args.any.now) (kind_tree-is_set c.args.kind.now c.in-Set.element c.deref.result.now c.in-Set.is c.deref.ensures) refl
    c.same_kind.ensures)

pub returns-in_default-kind : goal.returns-in_default-kind
returns-in_default-kind c = rw c.in-SetOfAny.is (are_apart _ _ (no_set c.args.kind.now _ c.in_default-kind.not-Set))

pub returns-in_default : goal.returns-in_default
returns-in_default c = rw (other_pattern c.args.pattern (kind_tree c.args.any.now) c.in_default.not-Bool c.in_default.not-Int c.in_default.not-SetOfAny) c.same_kind-in_default.ensures
