use Rattle.std.proofs.Common.{◌∙◌, rules, tests}
use Rattle.std.proofs.lemmas.Iterator.{YieldsList-from_slice}
use Rattle.std.proofs.lemmas.Iterator.Search.{any_from_yields_List}
use Rattle.kf_support.proofs.Weighing.{is_alike, can_be_any}
use Rattle.kf_support.proofs.steps.can_be.Goals as goal

pub returns : goal.returns
returns c =
    any_from_yields_List (is_alike c.args.truth) _ _ _ c.any.ensures.ran (YieldsList-from_slice c.args.choices.now cc) (λ x b q k. search (rules, tests))
    ∙ can_be_any c.args.truth c.args.choices.now
