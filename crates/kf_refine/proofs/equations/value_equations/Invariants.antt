use Rattle.std.proofs.Common.{◌*◌}
use Rattle.kf_refine.specs.Refinements.{count}
use Rattle.kf_refine.specs.Built.{AreBuilt, whole}
use Rattle.kf_refine.specs.Views.{hyper_tree}
use Rattle.kf_refine.proofs.equations.value_equations.Given as goal

-- the equations of the first q values are made
abbrev pub invariant-loop-q : goal.invariant-loop-q
invariant-loop-q l =
    AreBuilt (count (hyper_tree l.a)) (count (hyper_tree l.b)) l.kept (whole (hyper_tree l.a) l.scaling.a_divisor l.scaling.a_factor)
    (whole (hyper_tree l.b) l.scaling.b_divisor l.scaling.b_factor) (l.q * count (hyper_tree l.b)) l.rows.items
