use Rattle.std.proofs.Common.{◌≡◌, ℕ, ◌+◌, [], ◌∷◌, arith, sym, subst, ap, ◌∙◌, length, length-append}
use Rattle.std.specs.Vec.Iter.{into_iter_items}
use Rattle.kf_simplex.specs.Building.{Built}
use Rattle.kf_simplex.specs.Entries.{number_in}
use Rattle.kf_simplex.specs.Views.{sparse_number}
use Rattle.kf_simplex.proofs.Equations.{is_next, number_of, sparse_narrow}
use Rattle.kf_simplex.proofs.FlatBuild.{built_none, built_more, sums_small}
use Rattle.kf_simplex.proofs.building.equation_rows.Goals as goal

pub loop-equation-init : goal.loop-equation-init
loop-equation-init c = record {
  built = built_none c.args.unknowns (length c.args.list.items) (sparse_number c.args.unknowns c.args.list.items) c.in_ok-rows.rows.items c.args.sums.now c.in_ok-rows.ensures.items c.requires.len c.requires.empty;
  rest = rw c.in_ok-rows.ensures.items (sym c.into_iter-equation-iterator.ensures.into_iter_gives.0);
  count = (let none = ap length c.in_ok-rows.ensures.items in let all = ap length c.into_iter-equation-iterator.ensures.into_iter_gives.0 in omega (arith, none, all));
  long = omega (arith, c.into_iter-equation-iterator.result.rest.ok);
}

pub add_row-requires-clause-narrow : goal.add_row-requires-clause-narrow
add_row-requires-clause-narrow c =
    let next = is_next c.args.list.items (length c.loop-equation.rows.items) c.in-Some.equation (into_iter_items c.next.new.self) (c.loop-equation.invariant.rest ∙ c.in-Some.ensures.steps.0) in
    let own : (x : ℕ) → number_in c.in_ok-row.row.entries.items x ≡ sparse_number c.args.unknowns c.args.list.items (length c.loop-equation.rows.items) x = λ x.
    c.in_ok-row.ensures.numbers x
    ∙ number_of c.args.unknowns c.len-equations.result c.len.result c.args.list.items (length c.loop-equation.rows.items) c.in-Some.equation (into_iter_items c.next.new.self) x next
    (c.len-equations.ensures ∙ c.args.list.ok.0) (c.len.ensures ∙ c.loop-equation.rows.ok.0) in
    λ x. rw (own x) (sparse_narrow c.args.unknowns c.args.list.items (length c.loop-equation.rows.items) x)

pub add_row-requires-clause-sums : goal.add_row-requires-clause-sums
add_row-requires-clause-sums c =
    let next = is_next c.args.list.items (length c.loop-equation.rows.items) c.in-Some.equation (into_iter_items c.next.new.self) (c.loop-equation.invariant.rest ∙ c.in-Some.ensures.steps.0) in
    λ x.
    sums_small c.args.unknowns (length c.args.list.items) (sparse_number c.args.unknowns c.args.list.items) c.loop-equation.rows.items c.loop-equation.sums (length c.loop-equation.rows.items) x
    (sparse_narrow c.args.unknowns c.args.list.items) next.inside (omega (arith, c.requires.small, c.requires.len)) c.loop-equation.invariant.built

pub loop-equation-preserved : goal.loop-equation-preserved
loop-equation-preserved c =
    let next = is_next c.args.list.items (length c.loop-equation.rows.items) c.in-Some.equation (into_iter_items c.next.new.self) (c.loop-equation.invariant.rest ∙ c.in-Some.ensures.steps.0) in
    let own : (x : ℕ) → number_in c.in_ok-row.row.entries.items x ≡ sparse_number c.args.unknowns c.args.list.items (length c.loop-equation.rows.items) x = λ x.
    c.in_ok-row.ensures.numbers x
    ∙ number_of c.args.unknowns c.len-equations.result c.len.result c.args.list.items (length c.loop-equation.rows.items) c.in-Some.equation (into_iter_items c.next.new.self) x next
    (c.len-equations.ensures ∙ c.args.list.ok.0) (c.len.ensures ∙ c.loop-equation.rows.ok.0) in
    let more : length c.push.new.self.items ≡ length c.loop-equation.rows.items + 1 = ap length c.in_ok-push.ensures.items ∙ length-append c.loop-equation.rows.items (c.in_ok-row.row ∷ []) in
    let short = ap length c.in-Some.ensures.steps.0 in
    record {
      built = rw more
          (built_more c.args.unknowns (length c.args.list.items) (sparse_number c.args.unknowns c.args.list.items) c.loop-equation.rows.items c.push.new.self.items c.loop-equation.sums c.add_row.new.sums c.in_ok-row.row
          c.loop-equation.invariant.built c.in_ok-push.ensures.items own c.add_row.auto.sums c.add_row.ensures);
      rest = rw more next.after;
      count = omega (arith, more, short, c.loop-equation.invariant.count);
      long = omega (arith, short, c.in-Some.ensures.steps.1, c.loop-equation.invariant.long);
    }

pub returns : goal.returns
returns c =
    let all : length c.loop-equation.rows.items ≡ length c.args.list.items = omega (arith, c.loop-equation.invariant.count, c.loop-equation.invariant.long, c.in-None.ensures.steps.0) in
    subst (λ (k : ℕ). Built c.args.unknowns (length c.args.list.items) (sparse_number c.args.unknowns c.args.list.items) c.loop-equation.rows.items c.loop-equation.sums k) all
    c.loop-equation.invariant.built
