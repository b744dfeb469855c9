use Rattle.std.proofs.Common.{◌≡◌, pos, refl, arith, ◌∙◌}
use Rattle.kf_simplex.specs.Flat.{cell}
use Rattle.kf_simplex.specs.Turns.{system}
use Rattle.kf_simplex.proofs.FlatTurns.{yes_of, not_of, all_narrow_of, never, goes_on}
use Rattle.kf_simplex.proofs.Reducing.{past_rows}
use Rattle.kf_simplex.proofs.table.Table.turn.Goals as goal

pub returns-then-not-narrow-clause-judges : goal.returns-then-not-narrow-clause-judges
returns-then-not-narrow-clause-judges c = λ number y r n.
    not_of c.args.narrow c.if-not-narrow.true
    (c.requires.narrow.1
    (all_narrow_of (system c.args.self.now.unknowns c.args.self.now.equations number) (cell c.args.self.now.rows.items) c.args.self.now.basis.items c.requires.within
    (λ i x l. past_rows c.args.self.now.rows.items i x (omega (arith, c.args.self.now.rows_len, l))) n))

pub returns-in-None-clause-judges : goal.returns-in-None-clause-judges
returns-in-None-clause-judges c = λ number y r.
    absurd (never (system c.args.self.now.unknowns c.args.self.now.equations number) c.args.limit c.args.made (cell c.args.self.now.rows.items) c.args.self.now.basis.items c.in-Some.column y r
    (rw c.in-Some.is at c.entering.ensures) (rw c.in-None.is at c.leaving.ensures))

pub returns-in-Some-leaving-clause-inside : goal.returns-in-Some-leaving-clause-inside
returns-in-Some-leaving-clause-inside c = (
  (rw c.in-Some-leaving.is at c.leaving.ensures).0,
  (rw c.in-Some.is at c.entering.ensures).0,
  c.requires.narrow.0 (yes_of c.args.narrow c.if-not-narrow.false),
)

pub returns-in-Some-leaving-clause-judges : goal.returns-in-Some-leaving-clause-judges
returns-in-Some-leaving-clause-judges c = λ number y r.
    goes_on (system c.args.self.now.unknowns c.args.self.now.equations number) c.args.limit c.args.made (cell c.args.self.now.rows.items) c.args.self.now.basis.items c.in-Some.column c.in-Some-leaving.row y r
    (c.requires.narrow.0 (yes_of c.args.narrow c.if-not-narrow.false))
    (λ q. c.if-objective_right-eq0.false (let z : c.objective_right.result ≡ pos 0 = c.objective_right.ensures ∙ q in rw z refl))
    c.if-made-limit.false
    (rw c.in-Some.is at c.entering.ensures) (rw c.in-Some-leaving.is at c.leaving.ensures)
