use Rattle.std.proofs.Common.{◌∙◌, to_z, of_z, w64, ap, map, arith}
use Rattle.std.proofs.lemmas.Int.{ints, to_z-of_z}
use Rattle.kf_core.specs.Choices.{once}
use Rattle.kf_eval.proofs.Weighing.{number_pushed, number_weights, numbers_from}
use Rattle.kf_eval.proofs.weights.each_number.Goals as goal

pub loop-k-preserved : goal.loop-k-preserved
loop-k-preserved c =
    let first = to_z-of_z w64 c.args.first c.ranges.first in
    number_pushed (to_z w64 (of_z w64 c.args.first)) c.loop-k.k c.loop-k.items.items c.push.new.self.items _ (omega (arith, ints, c.from.ensures)) c.loop-k.invariant c.in_ok-push.ensures.items

pub returns : goal.returns
returns c =
    let first = to_z-of_z w64 c.args.first c.ranges.first in
    number_weights c.args.first c.args.count c.loop-k.items.items c.requires.some (omega arith)
    (c.loop-k.invariant ∙ (ap (λ a. map once (numbers_from a c.loop-k.k)) first ∙ ap (λ n. map once (numbers_from c.args.first n)) (omega arith)))
