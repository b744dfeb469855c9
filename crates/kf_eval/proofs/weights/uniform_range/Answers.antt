use Rattle.std.proofs.Common.{◌≡◌, ◌+◌, ◌-◌, ◌+ℤ◌, pos, FitsSigned, to_z, of_z, w64, rules, map, sym, ap, subst, ◌∙◌}
use Rattle.std.proofs.lemmas.Int.{to_z-of_z}
use Rattle.kf_value.specs.Types.{Range, values}
use Rattle.kf_value.specs.Values.{Whole}
use Rattle.kf_value.specs.Shapes.{shape_types}
use Rattle.kf_core.specs.Runs.{store_at}
use Rattle.kf_core.specs.Choices.{Chosen, once, some_of}
use Rattle.kf_core.specs.Views.{ex_tree}
use Rattle.kf_eval.specs.Gathering.{AnswersWeights}
use Rattle.kf_eval.proofs.Weighing.{finished, range_chosen, from_none, from_short, reads_less, reads_short, reads_span}
use Rattle.kf_eval.proofs.weights.uniform_range.Goals as goal

pub returns-then-first-last : goal.returns-then-first-last
returns-then-first-last c =
    let s = store_at (shape_types c.args.shape.now) c.args.store in
    let a = c.in_ok-first.first in
    let b = c.in_ok-last.last in
    let first : to_z w64 (of_z w64 a) ≡ a = let ranged : FitsSigned w64 a = search rules in to_z-of_z w64 a ranged in
    let last : to_z w64 (of_z w64 b) ≡ b = let ranged : FitsSigned w64 b = search rules in to_z-of_z w64 b ranged in
    range_chosen s (ex_tree c.args.x.now) (ex_tree c.args.y.now) (Whole a) (Whole b) c.in_ok-first.ensures c.in_ok-last.ensures ∙ from_none a b (reads_less _ _ a b first last c.if-first-last.true)

pub returns-else-span-ge65536 : goal.returns-else-span-ge65536
returns-else-span-ge65536 c =
    let s = store_at (shape_types c.args.shape.now) c.args.store in
    let a = c.in_ok-first.first in
    let b = c.in_ok-last.last in
    let first : to_z w64 (of_z w64 a) ≡ a = let ranged : FitsSigned w64 a = search rules in to_z-of_z w64 a ranged in
    let last : to_z w64 (of_z w64 b) ≡ b = let ranged : FitsSigned w64 b = search rules in to_z-of_z w64 b ranged in
    let is = range_chosen s (ex_tree c.args.x.now) (ex_tree c.args.y.now) (Whole a) (Whole b) c.in_ok-first.ensures c.in_ok-last.ensures in
    let near = reads_short _ _ a b first last c.abs_diff-span.result c.abs_diff-span.ensures c.if-first-last.false c.if-span-ge65536.false in
    let span = reads_span _ _ a b first last c.abs_diff-span.result c.abs_diff-span.ensures c.if-first-last.false in
    let ranges : finished (some_of (map once (values (Range (to_z w64 (of_z w64 a)) (to_z w64 (of_z w64 a) +ℤ pos (c.abs_diff-span.result + 1 - 1)))))) ≡ finished (some_of (map once (values (Range a b)))) =
    ap (λ z. finished (some_of (map once (values (Range (to_z w64 (of_z w64 a)) z))))) span ∙ ap (λ z. finished (some_of (map once (values (Range z b))))) first in
    subst (λ (r : Chosen). AnswersWeights c.each_number.result r) (sym (is ∙ (from_short a b near ∙ sym ranges))) c.each_number.ensures
