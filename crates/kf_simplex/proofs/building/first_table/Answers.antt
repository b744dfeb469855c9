use Rattle.std.proofs.Common.{◌≡◌, ℕ, ℤ, List, length, ◌+◌, ap, ◌∙◌}
use Rattle.kf_simplex.specs.Base.{at}
use Rattle.kf_simplex.specs.Entries.{number_in}
use Rattle.kf_simplex.specs.Views.{sparse_number}
use Rattle.kf_simplex.proofs.Equations.{sparse_is_system, sparse_past}
use Rattle.kf_simplex.proofs.FlatBuild.{narrow_width, whole_part, first_within, first_in_run}
use Rattle.kf_simplex.proofs.building.first_table.Goals as goal

pub equation_rows-requires-clause-len : goal.equation_rows-requires-clause-len
equation_rows-requires-clause-len c = rw c.deref_mut.ensures.value (c.in_ok-sums.ensures.len ∙ ap (λ (n : ℕ). c.args.s.unknowns + n + 1) (c.len-equations.ensures ∙ c.args.s.rows.ok.0))

pub equation_rows-requires-clause-small : goal.equation_rows-requires-clause-small
equation_rows-requires-clause-small c =
    let w = narrow_width c.args.s.unknowns (length c.args.s.rows.items) c.requires in
    rw (c.deref_mut.ensures.value, c.in_ok-sums.ensures.len, c.len-equations.ensures ∙ c.args.s.rows.ok.0) w

pub equation_rows-requires-clause-within : goal.equation_rows-requires-clause-within
equation_rows-requires-clause-within c = c.args.s.within

pub equation_rows-requires-clause-empty : goal.equation_rows-requires-clause-empty
equation_rows-requires-clause-empty c = rw c.deref_mut.ensures.value c.in_ok-sums.ensures.zero

pub returns-clause-within : goal.returns-clause-within
returns-clause-within c =
    let v = c.args.s.unknowns in
    let e = length c.args.s.rows.items in
    let same = c.equation_rows.auto.sums ∙ c.deref_mut.ensures.len ∙ c.in_ok-sums.sums.ok.0 in
    let whole = whole_part c.in_ok-sums.sums.len c.equation_rows.new.sums c.in_ok-sums.sums.items c.in_ok-sums.sums.ok.0 same in
    let last : (x : ℕ) → number_in c.in_ok-objective.objective.entries.items x ≡ at c.equation_rows.new.sums x = λ x.
    c.in_ok-objective.ensures x ∙ ap (λ (xs : List ℤ). at xs x) (c.deref.ensures.value ∙ whole) in
    rw (c.len-equations.ensures ∙ c.args.s.rows.ok.0)
    (first_within v e (sparse_number v c.args.s.rows.items) c.in_ok-rows.rows.items c.push.new.self.items c.equation_rows.new.sums c.in_ok-objective.objective c.in_ok-push.ensures.items
    c.in_ok-rows.ensures last (sparse_past v c.args.s.rows.items))

pub returns-clause-first : goal.returns-clause-first
returns-clause-first c =
    let v = c.args.s.unknowns in
    let e = length c.args.s.rows.items in
    let same = c.equation_rows.auto.sums ∙ c.deref_mut.ensures.len ∙ c.in_ok-sums.sums.ok.0 in
    let whole = whole_part c.in_ok-sums.sums.len c.equation_rows.new.sums c.in_ok-sums.sums.items c.in_ok-sums.sums.ok.0 same in
    let last : (x : ℕ) → number_in c.in_ok-objective.objective.entries.items x ≡ at c.equation_rows.new.sums x = λ x.
    c.in_ok-objective.ensures x ∙ ap (λ (xs : List ℤ). at xs x) (c.deref.ensures.value ∙ whole) in
    λ limit.
    first_in_run v e (sparse_number v c.args.s.rows.items) c.in_ok-rows.rows.items c.push.new.self.items c.equation_rows.new.sums c.in_ok-objective.objective c.in_ok-push.ensures.items
    c.in_ok-rows.ensures last c.in_ok-basis.basis.items limit (sparse_is_system v c.args.s.rows.items) (rw (c.len-equations.ensures ∙ c.args.s.rows.ok.0) at c.in_ok-basis.ensures.artificial)
