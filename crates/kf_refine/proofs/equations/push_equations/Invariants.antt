use Rattle.std.proofs.Common.{◌+◌, ◌*◌}
use Rattle.kf_refine.specs.Refinements.{count}
use Rattle.kf_refine.specs.Built.{AreBuilt, whole}
use Rattle.kf_refine.specs.Views.{hyper_tree}
use Rattle.kf_refine.proofs.equations.push_equations.Given as goal

-- and those of the value and the first j inners
abbrev pub invariant-loop-j : goal.invariant-loop-j
invariant-loop-j l =
    AreBuilt (count (hyper_tree l.a)) (count (hyper_tree l.b)) l.kept (whole (hyper_tree l.a) l.scaling.a_divisor l.scaling.a_factor)
    (whole (hyper_tree l.b) l.scaling.b_divisor l.scaling.b_factor) (l.q * count (hyper_tree l.b) + l.j) l.rows.items
