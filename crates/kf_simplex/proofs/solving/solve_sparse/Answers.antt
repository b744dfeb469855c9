use Rattle.std.proofs.Common.{length, arith, sym, ◌∙◌}
use Rattle.kf_simplex.specs.Runs.{EndsAt, wide, solution, multipliers, budget}
use Rattle.kf_simplex.specs.Flat.{cell, tableau_of}
use Rattle.kf_simplex.specs.Views.{sparse, sparse_number}
use Rattle.kf_simplex.proofs.Equations.{sparse_is_system}
use Rattle.kf_simplex.proofs.Endings.{ended, good_end, spent, narrow_cells, positive_entries, distinct_columns, solution_read, multipliers_read}
use Rattle.kf_simplex.proofs.Outcomes.{solution_is_right, multipliers_are_right, budget_left}
use Rattle.kf_simplex.proofs.Reducing.{past_rows}
use Rattle.kf_simplex.proofs.solving.solve_sparse.Goals as goal

pub returns-in-Wide-clause-run : goal.returns-in-Wide-clause-run
returns-in-Wide-clause-run c =
    let end : EndsAt (sparse c.args.s) c.args.pivots c.in_ok-ending.ending.pivots (tableau_of (sparse c.args.s) (cell c.run.new.self.rows.items) c.run.new.self.basis.items) wide =
    ended c.args.s.unknowns (length c.args.s.rows.items) c.in_ok-table.table.unknowns c.in_ok-table.table.equations (sparse_number c.args.s.unknowns c.args.s.rows.items) c.args.pivots c.in_ok-ending.ending.pivots (cell c.in_ok-table.table.rows.items) (cell c.run.new.self.rows.items)
    c.in_ok-table.table.basis.items c.run.new.self.basis.items wide c.in_ok-table.ensures.shape.0 c.in_ok-table.ensures.shape.1 (sparse_is_system c.args.s.unknowns c.args.s.rows.items)
    (c.in_ok-table.ensures.first c.args.pivots) (c.in_ok-ending.ensures.runs (sparse_number c.args.s.unknowns c.args.s.rows.items)) (rw c.in-Wide.is at (c.in_ok-ending.ensures.ends (sparse_number c.args.s.unknowns c.args.s.rows.items))) in
    (_, end)

pub returns-in-Budget-clause-run : goal.returns-in-Budget-clause-run
returns-in-Budget-clause-run c =
    let end : EndsAt (sparse c.args.s) c.args.pivots c.in_ok-ending.ending.pivots (tableau_of (sparse c.args.s) (cell c.run.new.self.rows.items) c.run.new.self.basis.items) budget =
    ended c.args.s.unknowns (length c.args.s.rows.items) c.in_ok-table.table.unknowns c.in_ok-table.table.equations (sparse_number c.args.s.unknowns c.args.s.rows.items) c.args.pivots c.in_ok-ending.ending.pivots (cell c.in_ok-table.table.rows.items) (cell c.run.new.self.rows.items)
    c.in_ok-table.table.basis.items c.run.new.self.basis.items budget c.in_ok-table.ensures.shape.0 c.in_ok-table.ensures.shape.1 (sparse_is_system c.args.s.unknowns c.args.s.rows.items)
    (c.in_ok-table.ensures.first c.args.pivots) (c.in_ok-ending.ensures.runs (sparse_number c.args.s.unknowns c.args.s.rows.items)) (rw c.in-Budget.is at (c.in_ok-ending.ensures.ends (sparse_number c.args.s.unknowns c.args.s.rows.items))) in
    spent (sparse c.args.s) c.args.pivots c.in_ok-ending.ending.pivots _ end

pub returns-in-Budget-clause-enough : goal.returns-in-Budget-clause-enough
returns-in-Budget-clause-enough c =
    let end : EndsAt (sparse c.args.s) c.args.pivots c.in_ok-ending.ending.pivots (tableau_of (sparse c.args.s) (cell c.run.new.self.rows.items) c.run.new.self.basis.items) budget =
    ended c.args.s.unknowns (length c.args.s.rows.items) c.in_ok-table.table.unknowns c.in_ok-table.table.equations (sparse_number c.args.s.unknowns c.args.s.rows.items) c.args.pivots c.in_ok-ending.ending.pivots (cell c.in_ok-table.table.rows.items) (cell c.run.new.self.rows.items)
    c.in_ok-table.table.basis.items c.run.new.self.basis.items budget c.in_ok-table.ensures.shape.0 c.in_ok-table.ensures.shape.1 (sparse_is_system c.args.s.unknowns c.args.s.rows.items)
    (c.in_ok-table.ensures.first c.args.pivots) (c.in_ok-ending.ensures.runs (sparse_number c.args.s.unknowns c.args.s.rows.items)) (rw c.in-Budget.is at (c.in_ok-ending.ensures.ends (sparse_number c.args.s.unknowns c.args.s.rows.items))) in
    λ few same. budget_left (sparse c.args.s) c.args.pivots (sparse_is_system c.args.s.unknowns c.args.s.rows.items) few
    (spent (sparse c.args.s) c.args.pivots c.in_ok-ending.ending.pivots _ end)

pub solution-requires-clause-narrow : goal.solution-requires-clause-narrow
solution-requires-clause-narrow c =
    let end : EndsAt (sparse c.args.s) c.args.pivots c.in_ok-ending.ending.pivots (tableau_of (sparse c.args.s) (cell c.run.new.self.rows.items) c.run.new.self.basis.items) solution =
    ended c.args.s.unknowns (length c.args.s.rows.items) c.in_ok-table.table.unknowns c.in_ok-table.table.equations (sparse_number c.args.s.unknowns c.args.s.rows.items) c.args.pivots c.in_ok-ending.ending.pivots (cell c.in_ok-table.table.rows.items) (cell c.run.new.self.rows.items)
    c.in_ok-table.table.basis.items c.run.new.self.basis.items solution c.in_ok-table.ensures.shape.0 c.in_ok-table.ensures.shape.1 (sparse_is_system c.args.s.unknowns c.args.s.rows.items)
    (c.in_ok-table.ensures.first c.args.pivots) (c.in_ok-ending.ensures.runs (sparse_number c.args.s.unknowns c.args.s.rows.items)) (rw c.in-Solution.is at (c.in_ok-ending.ensures.ends (sparse_number c.args.s.unknowns c.args.s.rows.items))) in
    let v = c.in_ok-ending.ensures.shape.0 ∙ c.in_ok-table.ensures.shape.0 in
    let e = c.in_ok-ending.ensures.shape.1 ∙ c.in_ok-table.ensures.shape.1 in
    narrow_cells c.args.s.unknowns (length c.args.s.rows.items) c.run.new.self.unknowns c.run.new.self.equations (sparse_number c.args.s.unknowns c.args.s.rows.items) (cell c.run.new.self.rows.items) c.run.new.self.basis.items v e (rw (sym c.in_ok-ending.ensures.shape.0, sym c.in_ok-ending.ensures.shape.1) at c.in_ok-ending.ensures.within) (λ i x l. past_rows _ i x (omega (arith, c.run.new.self.rows_len, l))) end.ends.0

pub solution-requires-clause-positive : goal.solution-requires-clause-positive
solution-requires-clause-positive c =
    let end : EndsAt (sparse c.args.s) c.args.pivots c.in_ok-ending.ending.pivots (tableau_of (sparse c.args.s) (cell c.run.new.self.rows.items) c.run.new.self.basis.items) solution =
    ended c.args.s.unknowns (length c.args.s.rows.items) c.in_ok-table.table.unknowns c.in_ok-table.table.equations (sparse_number c.args.s.unknowns c.args.s.rows.items) c.args.pivots c.in_ok-ending.ending.pivots (cell c.in_ok-table.table.rows.items) (cell c.run.new.self.rows.items)
    c.in_ok-table.table.basis.items c.run.new.self.basis.items solution c.in_ok-table.ensures.shape.0 c.in_ok-table.ensures.shape.1 (sparse_is_system c.args.s.unknowns c.args.s.rows.items)
    (c.in_ok-table.ensures.first c.args.pivots) (c.in_ok-ending.ensures.runs (sparse_number c.args.s.unknowns c.args.s.rows.items)) (rw c.in-Solution.is at (c.in_ok-ending.ensures.ends (sparse_number c.args.s.unknowns c.args.s.rows.items))) in
    let good = good_end (sparse c.args.s) c.args.pivots c.in_ok-ending.ending.pivots _ solution (sparse_is_system c.args.s.unknowns c.args.s.rows.items) end in
    let v = c.in_ok-ending.ensures.shape.0 ∙ c.in_ok-table.ensures.shape.0 in
    let e = c.in_ok-ending.ensures.shape.1 ∙ c.in_ok-table.ensures.shape.1 in
    positive_entries c.args.s.unknowns (length c.args.s.rows.items) c.run.new.self.unknowns c.run.new.self.equations (sparse_number c.args.s.unknowns c.args.s.rows.items) (cell c.run.new.self.rows.items) c.run.new.self.basis.items v e good

pub solution-requires-clause-distinct : goal.solution-requires-clause-distinct
solution-requires-clause-distinct c =
    let end : EndsAt (sparse c.args.s) c.args.pivots c.in_ok-ending.ending.pivots (tableau_of (sparse c.args.s) (cell c.run.new.self.rows.items) c.run.new.self.basis.items) solution =
    ended c.args.s.unknowns (length c.args.s.rows.items) c.in_ok-table.table.unknowns c.in_ok-table.table.equations (sparse_number c.args.s.unknowns c.args.s.rows.items) c.args.pivots c.in_ok-ending.ending.pivots (cell c.in_ok-table.table.rows.items) (cell c.run.new.self.rows.items)
    c.in_ok-table.table.basis.items c.run.new.self.basis.items solution c.in_ok-table.ensures.shape.0 c.in_ok-table.ensures.shape.1 (sparse_is_system c.args.s.unknowns c.args.s.rows.items)
    (c.in_ok-table.ensures.first c.args.pivots) (c.in_ok-ending.ensures.runs (sparse_number c.args.s.unknowns c.args.s.rows.items)) (rw c.in-Solution.is at (c.in_ok-ending.ensures.ends (sparse_number c.args.s.unknowns c.args.s.rows.items))) in
    let good = good_end (sparse c.args.s) c.args.pivots c.in_ok-ending.ending.pivots _ solution (sparse_is_system c.args.s.unknowns c.args.s.rows.items) end in
    let v = c.in_ok-ending.ensures.shape.0 ∙ c.in_ok-table.ensures.shape.0 in
    let e = c.in_ok-ending.ensures.shape.1 ∙ c.in_ok-table.ensures.shape.1 in
    distinct_columns c.args.s.unknowns (length c.args.s.rows.items) c.run.new.self.equations (sparse_number c.args.s.unknowns c.args.s.rows.items) (cell c.run.new.self.rows.items) c.run.new.self.basis.items e good

pub returns-in-Solution-clause-run : goal.returns-in-Solution-clause-run
returns-in-Solution-clause-run c =
    let end : EndsAt (sparse c.args.s) c.args.pivots c.in_ok-ending.ending.pivots (tableau_of (sparse c.args.s) (cell c.run.new.self.rows.items) c.run.new.self.basis.items) solution =
    ended c.args.s.unknowns (length c.args.s.rows.items) c.in_ok-table.table.unknowns c.in_ok-table.table.equations (sparse_number c.args.s.unknowns c.args.s.rows.items) c.args.pivots c.in_ok-ending.ending.pivots (cell c.in_ok-table.table.rows.items) (cell c.run.new.self.rows.items)
    c.in_ok-table.table.basis.items c.run.new.self.basis.items solution c.in_ok-table.ensures.shape.0 c.in_ok-table.ensures.shape.1 (sparse_is_system c.args.s.unknowns c.args.s.rows.items)
    (c.in_ok-table.ensures.first c.args.pivots) (c.in_ok-ending.ensures.runs (sparse_number c.args.s.unknowns c.args.s.rows.items)) (rw c.in-Solution.is at (c.in_ok-ending.ensures.ends (sparse_number c.args.s.unknowns c.args.s.rows.items))) in
    let v = c.in_ok-ending.ensures.shape.0 ∙ c.in_ok-table.ensures.shape.0 in
    let e = c.in_ok-ending.ensures.shape.1 ∙ c.in_ok-table.ensures.shape.1 in
    (_, _, end, solution_read c.args.s.unknowns (length c.args.s.rows.items) c.run.new.self.unknowns c.run.new.self.equations (sparse_number c.args.s.unknowns c.args.s.rows.items) (cell c.run.new.self.rows.items) c.run.new.self.basis.items c.in_ok-solution-in-Solution.field-0 v e c.in_ok-solution-in-Solution.ensures)

pub returns-in-Solution-clause-right : goal.returns-in-Solution-clause-right
returns-in-Solution-clause-right c =
    let end : EndsAt (sparse c.args.s) c.args.pivots c.in_ok-ending.ending.pivots (tableau_of (sparse c.args.s) (cell c.run.new.self.rows.items) c.run.new.self.basis.items) solution =
    ended c.args.s.unknowns (length c.args.s.rows.items) c.in_ok-table.table.unknowns c.in_ok-table.table.equations (sparse_number c.args.s.unknowns c.args.s.rows.items) c.args.pivots c.in_ok-ending.ending.pivots (cell c.in_ok-table.table.rows.items) (cell c.run.new.self.rows.items)
    c.in_ok-table.table.basis.items c.run.new.self.basis.items solution c.in_ok-table.ensures.shape.0 c.in_ok-table.ensures.shape.1 (sparse_is_system c.args.s.unknowns c.args.s.rows.items)
    (c.in_ok-table.ensures.first c.args.pivots) (c.in_ok-ending.ensures.runs (sparse_number c.args.s.unknowns c.args.s.rows.items)) (rw c.in-Solution.is at (c.in_ok-ending.ensures.ends (sparse_number c.args.s.unknowns c.args.s.rows.items))) in
    let good = good_end (sparse c.args.s) c.args.pivots c.in_ok-ending.ending.pivots _ solution (sparse_is_system c.args.s.unknowns c.args.s.rows.items) end in
    let v = c.in_ok-ending.ensures.shape.0 ∙ c.in_ok-table.ensures.shape.0 in
    let e = c.in_ok-ending.ensures.shape.1 ∙ c.in_ok-table.ensures.shape.1 in
    solution_is_right (sparse c.args.s) _ c.in_ok-solution-in-Solution.field-0 good end.ends.1
    (solution_read c.args.s.unknowns (length c.args.s.rows.items) c.run.new.self.unknowns c.run.new.self.equations (sparse_number c.args.s.unknowns c.args.s.rows.items) (cell c.run.new.self.rows.items) c.run.new.self.basis.items c.in_ok-solution-in-Solution.field-0 v e c.in_ok-solution-in-Solution.ensures)

pub multipliers-requires : goal.multipliers-requires
multipliers-requires c =
    let end : EndsAt (sparse c.args.s) c.args.pivots c.in_ok-ending.ending.pivots (tableau_of (sparse c.args.s) (cell c.run.new.self.rows.items) c.run.new.self.basis.items) multipliers =
    ended c.args.s.unknowns (length c.args.s.rows.items) c.in_ok-table.table.unknowns c.in_ok-table.table.equations (sparse_number c.args.s.unknowns c.args.s.rows.items) c.args.pivots c.in_ok-ending.ending.pivots (cell c.in_ok-table.table.rows.items) (cell c.run.new.self.rows.items)
    c.in_ok-table.table.basis.items c.run.new.self.basis.items multipliers c.in_ok-table.ensures.shape.0 c.in_ok-table.ensures.shape.1 (sparse_is_system c.args.s.unknowns c.args.s.rows.items)
    (c.in_ok-table.ensures.first c.args.pivots) (c.in_ok-ending.ensures.runs (sparse_number c.args.s.unknowns c.args.s.rows.items)) (rw c.in-Multipliers.is at (c.in_ok-ending.ensures.ends (sparse_number c.args.s.unknowns c.args.s.rows.items))) in
    let v = c.in_ok-ending.ensures.shape.0 ∙ c.in_ok-table.ensures.shape.0 in
    let e = c.in_ok-ending.ensures.shape.1 ∙ c.in_ok-table.ensures.shape.1 in
    narrow_cells c.args.s.unknowns (length c.args.s.rows.items) c.run.new.self.unknowns c.run.new.self.equations (sparse_number c.args.s.unknowns c.args.s.rows.items) (cell c.run.new.self.rows.items) c.run.new.self.basis.items v e (rw (sym c.in_ok-ending.ensures.shape.0, sym c.in_ok-ending.ensures.shape.1) at c.in_ok-ending.ensures.within) (λ i x l. past_rows _ i x (omega (arith, c.run.new.self.rows_len, l))) end.ends.0

pub returns-clause-run : goal.returns-clause-run
returns-clause-run c =
    let end : EndsAt (sparse c.args.s) c.args.pivots c.in_ok-ending.ending.pivots (tableau_of (sparse c.args.s) (cell c.run.new.self.rows.items) c.run.new.self.basis.items) multipliers =
    ended c.args.s.unknowns (length c.args.s.rows.items) c.in_ok-table.table.unknowns c.in_ok-table.table.equations (sparse_number c.args.s.unknowns c.args.s.rows.items) c.args.pivots c.in_ok-ending.ending.pivots (cell c.in_ok-table.table.rows.items) (cell c.run.new.self.rows.items)
    c.in_ok-table.table.basis.items c.run.new.self.basis.items multipliers c.in_ok-table.ensures.shape.0 c.in_ok-table.ensures.shape.1 (sparse_is_system c.args.s.unknowns c.args.s.rows.items)
    (c.in_ok-table.ensures.first c.args.pivots) (c.in_ok-ending.ensures.runs (sparse_number c.args.s.unknowns c.args.s.rows.items)) (rw c.in-Multipliers.is at (c.in_ok-ending.ensures.ends (sparse_number c.args.s.unknowns c.args.s.rows.items))) in
    let v = c.in_ok-ending.ensures.shape.0 ∙ c.in_ok-table.ensures.shape.0 in
    let e = c.in_ok-ending.ensures.shape.1 ∙ c.in_ok-table.ensures.shape.1 in
    (_, _, end, multipliers_read c.args.s.unknowns (length c.args.s.rows.items) c.run.new.self.unknowns c.run.new.self.equations (sparse_number c.args.s.unknowns c.args.s.rows.items) (cell c.run.new.self.rows.items) c.run.new.self.basis.items c.in_ok-multipliers-in-Multipliers.field-0 v e c.in_ok-multipliers-in-Multipliers.ensures)

pub returns-clause-right : goal.returns-clause-right
returns-clause-right c =
    let end : EndsAt (sparse c.args.s) c.args.pivots c.in_ok-ending.ending.pivots (tableau_of (sparse c.args.s) (cell c.run.new.self.rows.items) c.run.new.self.basis.items) multipliers =
    ended c.args.s.unknowns (length c.args.s.rows.items) c.in_ok-table.table.unknowns c.in_ok-table.table.equations (sparse_number c.args.s.unknowns c.args.s.rows.items) c.args.pivots c.in_ok-ending.ending.pivots (cell c.in_ok-table.table.rows.items) (cell c.run.new.self.rows.items)
    c.in_ok-table.table.basis.items c.run.new.self.basis.items multipliers c.in_ok-table.ensures.shape.0 c.in_ok-table.ensures.shape.1 (sparse_is_system c.args.s.unknowns c.args.s.rows.items)
    (c.in_ok-table.ensures.first c.args.pivots) (c.in_ok-ending.ensures.runs (sparse_number c.args.s.unknowns c.args.s.rows.items)) (rw c.in-Multipliers.is at (c.in_ok-ending.ensures.ends (sparse_number c.args.s.unknowns c.args.s.rows.items))) in
    let good = good_end (sparse c.args.s) c.args.pivots c.in_ok-ending.ending.pivots _ multipliers (sparse_is_system c.args.s.unknowns c.args.s.rows.items) end in
    let v = c.in_ok-ending.ensures.shape.0 ∙ c.in_ok-table.ensures.shape.0 in
    let e = c.in_ok-ending.ensures.shape.1 ∙ c.in_ok-table.ensures.shape.1 in
    multipliers_are_right (sparse c.args.s) _ c.in_ok-multipliers-in-Multipliers.field-0 good end.ends.1 end.ends.2
    (multipliers_read c.args.s.unknowns (length c.args.s.rows.items) c.run.new.self.unknowns c.run.new.self.equations (sparse_number c.args.s.unknowns c.args.s.rows.items) (cell c.run.new.self.rows.items) c.run.new.self.basis.items c.in_ok-multipliers-in-Multipliers.field-0 v e c.in_ok-multipliers-in-Multipliers.ensures)
