use Rattle.std.proofs.Common.{All, subst, ◌∙◌}
use Rattle.std.specs.Int.{◌∣◌}
use Rattle.kf_capacity.proofs.beliefs.whole_of.Goals as goal

pub returns-in-Some-clause-multiple : goal.returns-in-Some-clause-multiple
returns-in-Some-clause-multiple c = subst (All (λ e. e.weight ∣ c.in_ok-n.n)) (c.as_slice-entries.ensures ∙ c.entries.ensures.kept) c.in_ok-n.ensures.multiple
