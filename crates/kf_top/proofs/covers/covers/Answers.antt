use Rattle.std.proofs.Common.{[], ◌∷◌}
use Rattle.kf_load.specs.Views.{texts_in}
use Rattle.kf_top.proofs.Commands.{texts_answer, texts_stop}
use Rattle.kf_top.proofs.Readings.{counts_next, lift_counts, stop_counts_as}
use Rattle.kf_top.specs.Stops.{lifted}
use Rattle.kf_top.proofs.covers.covers.Goals as goal

pub returns-in-Ok-clause-answer : goal.returns-in-Ok-clause-answer
returns-in-Ok-clause-answer g c =
    texts_answer _ _ _ c.args.turns c.args.first.now c.args.second.now c.as_str-one.result.now c.as_str-two.result.now c.as_str-one.ensures c.as_str-two.ensures
    (texts_in c.as_str-one.result.now c.as_str-two.result.now c.in-Ok.texts) c.texts_covers.result c.in-Ok.ensures.answer c.texts_covers.ensures.answer

pub returns-in-Ok-clause-counts : goal.returns-in-Ok-clause-counts
returns-in-Ok-clause-counts g c = counts_next (c.args.first.now ∷ c.args.second.now ∷ []) _ _ c.texts_covers.result c.in-Ok.ensures.counts c.texts_covers.ensures.read

pub returns-in-Err-clause-answer : goal.returns-in-Err-clause-answer
returns-in-Err-clause-answer g c =
    rw c.lift.ensures (texts_stop _ _ _ c.args.turns c.args.first.now c.args.second.now c.as_str-one.result.now c.as_str-two.result.now
    c.as_str-one.ensures c.as_str-two.ensures c.in-Err.stop c.in-Err.ensures.answer)

pub returns-in-Err-clause-counts : goal.returns-in-Err-clause-counts
returns-in-Err-clause-counts g c =
    let same = c.as_str-one.ensures in
    let same_too = c.as_str-two.ensures in
    rw c.lift.ensures (stop_counts_as _ _ (c.args.first.now ∷ c.args.second.now ∷ []) (c.as_str-one.result.now ∷ c.as_str-two.result.now ∷ []) (λ i. same i ∷ same_too i ∷ []) (lifted c.in-Err.stop)
    (lift_counts (c.as_str-one.result.now ∷ c.as_str-two.result.now ∷ []) _ _ c.in-Err.stop c.in-Err.ensures.counts))
