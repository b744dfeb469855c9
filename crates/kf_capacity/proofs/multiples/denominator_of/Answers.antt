use Rattle.std.proofs.Common.{◌≤◌, ◌+◌, [], drop, sym, ◌∙◌, ap, arith, subst}
use Rattle.kf_channel.specs.Views.{rows_of}
use Rattle.kf_frac.specs.Fractions.{limit}
use Rattle.kf_frac.specs.Laws.{multiple_from}
use Rattle.kf_column.specs.Traces.{Row}
use Rattle.kf_capacity.specs.Dens.{dens}
use Rattle.kf_capacity.specs.Views.{channel_tree}
use Rattle.kf_capacity.proofs.Channels.{channel_weighs}
use Rattle.kf_capacity.proofs.Denominators.{denominator_is, column_more, column_wide}
use Rattle.kf_capacity.proofs.multiples.denominator_of.Goals as goal

pub loop-j-init : goal.loop-j-init
loop-j-init c = record { same = denominator_is (channel_tree c.args.c.now) (channel_weighs c.args.c.now); some = omega arith; narrow = omega arith }

pub returns-in_err-multiple-clause-exact : goal.returns-in_err-multiple-clause-exact
returns-in_err-multiple-clause-exact c =
    let none : Row = record { trace = []; column = [] } in
    rw c.from_residual.ensures (λ small. c.in_err-multiple.ensures.exact
    (column_wide (channel_tree c.args.c.now) (channel_weighs c.args.c.now) c.loop-j.j c.loop-j.multiple none (omega arith) limit c.loop-j.invariant.some
    (subst (λ n. n ≤ limit) (sym c.loop-j.invariant.same) small)))

pub loop-j-preserved : goal.loop-j-preserved
loop-j-preserved c =
    let none : Row = record { trace = []; column = [] } in
    let t = channel_tree c.args.c.now in
    record {
      same = ap (λ n. multiple_from n (dens t (drop (c.loop-j.j + 1) (rows_of c.args.c.now)))) c.in_ok-multiple.ensures.exact.1
          ∙ sym (column_more t (channel_weighs c.args.c.now) c.loop-j.j c.loop-j.multiple none (omega arith)) ∙ c.loop-j.invariant.same;
      some = c.in_ok-multiple.ensures.positive;
      narrow = subst (λ n. n ≤ limit) (sym c.in_ok-multiple.ensures.exact.1) c.in_ok-multiple.ensures.exact.0;
    }
