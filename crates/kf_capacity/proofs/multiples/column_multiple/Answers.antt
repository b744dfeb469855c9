use Rattle.std.proofs.Common.{◌≤◌, ◌+◌, map, drop, sym, ◌∙◌, ap, arith, subst}
use Rattle.kf_channel.specs.Views.{row_at, secrets_of}
use Rattle.kf_frac.specs.Divisors.{lcm_of}
use Rattle.kf_frac.specs.Fractions.{limit}
use Rattle.kf_frac.specs.Laws.{multiple_from}
use Rattle.kf_capacity.specs.Grids.{cell_den}
use Rattle.kf_capacity.specs.Views.{channel_tree}
use Rattle.kf_capacity.proofs.Channels.{channel_weighs}
use Rattle.kf_capacity.proofs.Denominators.{cell_more, cell_wide}
use Rattle.kf_capacity.proofs.multiples.column_multiple.Goals as goal

pub returns-in_err-multiple-clause-exact : goal.returns-in_err-multiple-clause-exact
returns-in_err-multiple-clause-exact c =
    rw c.from_residual.ensures (λ small.
    let here = cell_wide (channel_tree c.args.c.now) (channel_weighs c.args.c.now) (row_at c.args.c.now c.args.j)
    c.loop-i.i c.loop-i.multiple (omega arith) limit c.loop-i.invariant.some (subst (λ n. n ≤ limit) (sym c.loop-i.invariant.same) small) in
    c.in_err-multiple.ensures.exact (subst (λ d. lcm_of d c.loop-i.multiple ≤ limit) (sym (c.den.ensures ∙ c.cell.ensures.den)) here))

pub loop-i-preserved : goal.loop-i-preserved
loop-i-preserved c =
    let t = channel_tree c.args.c.now in
    let row = row_at c.args.c.now c.args.j in
    let here = c.in_ok-multiple.ensures.exact.1 ∙ ap (λ d. lcm_of d c.loop-i.multiple) (c.den.ensures ∙ c.cell.ensures.den) in
    record {
      same = ap (λ n. multiple_from n (map (cell_den t row) (drop (c.loop-i.i + 1) (secrets_of c.args.c.now)))) here
          ∙ sym (cell_more t (channel_weighs c.args.c.now) row c.loop-i.i c.loop-i.multiple (omega arith)) ∙ c.loop-i.invariant.same;
      some = c.in_ok-multiple.ensures.least.positive;
      narrow = subst (λ n. n ≤ limit) (sym c.in_ok-multiple.ensures.exact.1) c.in_ok-multiple.ensures.exact.0;
    }
