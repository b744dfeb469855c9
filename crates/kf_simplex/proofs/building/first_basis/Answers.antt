use Rattle.std.proofs.Common.{arith}
use Rattle.kf_simplex.proofs.FlatBuild.{basis_more}
use Rattle.kf_simplex.proofs.building.first_basis.Goals as goal

pub loop-k-preserved : goal.loop-k-preserved
loop-k-preserved c =
    let so_far = c.loop-k.invariant in
    record {
      len = omega (arith, c.in_ok-push.ensures.len, so_far.len);
      artificial = basis_more c.loop-k.basis.items c.push.new.self.items c.args.unknowns c.loop-k.k so_far.len so_far.artificial c.in_ok-push.ensures.items;
    }
