use Rattle.std.proofs.Common.{◌+◌, ◌*◌, length}
use Rattle.kf_refine.specs.Refinements.{count}
use Rattle.kf_refine.specs.Built.{AreBuilt, whole}
use Rattle.kf_refine.specs.Views.{hyper_tree}
use Rattle.kf_refine.proofs.equations.all_equations.Given as goal

-- the equations of values are made, and those of the first p inners
abbrev pub invariant-loop-p : goal.invariant-loop-p
invariant-loop-p l =
    AreBuilt (count (hyper_tree l.a)) (count (hyper_tree l.b)) l.kept (whole (hyper_tree l.a) l.scaling.a_divisor l.scaling.a_factor)
    (whole (hyper_tree l.b) l.scaling.b_divisor l.scaling.b_factor) (length l.kept * count (hyper_tree l.b) + l.p) l.rows.items
