use Rattle.std.proofs.Common.{arith, ◌∙◌, length-take, length-drop}
use Rattle.kf_io.proofs.Taking.{took_more}
use Rattle.kf_io.proofs.writing.write_all.Goals as goal

pub pieces-preserved : goal.pieces-preserved
pieces-preserved g c = record {
  within = grind (arith, c.in_ok-count.ensures.bound, length-take, length-drop);
  took = took_more _ _ _ _ _ _ c.pieces.invariant.took c.in_ok-count.ensures.took;
  same = c.in_ok-count.ensures.cause.same ∙ c.pieces.invariant.same;
  left = omega (arith, c.in_ok-count.ensures.left, c.pieces.invariant.left);
}
