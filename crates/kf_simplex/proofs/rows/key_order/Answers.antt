use Rattle.std.proofs.Common.{ℕ, FitsSigned, rules, refl, arith, ◌*ℤ◌}
use Rattle.std.proofs.lemmas.Int.{to_z-of_z}
use mir.Syntax.{w128}
use Rattle.kf_simplex.specs.Entries.{number_in}
use Rattle.kf_simplex.proofs.Tails.{right_first}
use Rattle.kf_simplex.proofs.rows.key_order.Goals as goal
use Rattle.kf_simplex.specs.Columns.{deciding}

pub returns-in-Less : goal.returns-in-Less
returns-in-Less c =
    let p : FitsSigned w128 c.number_at-p.result = search rules in
    let q : FitsSigned w128 c.number_at-q.result = search rules in
    let x : FitsSigned w128 c.number_at.result = search rules in
    let y : FitsSigned w128 c.number_at-2.result = search rules in
    let h = rw (c.number_at-p.ensures, c.number_at-q.ensures, c.number_at.ensures, c.number_at-2.ensures) at (simp to_z-of_z at (c.in-Less.ensures.less refl)) in
    let room = c.requires.right in
    (0, omega arith, (λ k l. absurd (omega arith)), h)

pub returns-in-Greater : goal.returns-in-Greater
returns-in-Greater c =
    let p : FitsSigned w128 c.number_at-p.result = search rules in
    let q : FitsSigned w128 c.number_at-q.result = search rules in
    let x : FitsSigned w128 c.number_at.result = search rules in
    let y : FitsSigned w128 c.number_at-2.result = search rules in
    let h = rw (c.number_at-p.ensures, c.number_at-q.ensures, c.number_at.ensures, c.number_at-2.ensures) at (simp to_z-of_z at (c.in-Greater.ensures.greater refl)) in
    let room = c.requires.right in
    (0, omega arith, (λ k l. absurd (omega arith)), h)

pub returns-in-Equal : goal.returns-in-Equal
returns-in-Equal c =
    let p : FitsSigned w128 c.number_at-p.result = search rules in
    let q : FitsSigned w128 c.number_at-q.result = search rules in
    let x : FitsSigned w128 c.number_at.result = search rules in
    let y : FitsSigned w128 c.number_at-2.result = search rules in
    let h = rw (c.number_at-p.ensures, c.number_at-q.ensures, c.number_at.ensures, c.number_at-2.ensures) at (simp to_z-of_z at (c.in-Equal.ensures.equal refl)) in
    right_first (λ (m : ℕ). number_in c.args.a.now.entries.items (deciding c.args.unknowns c.args.right m) *ℤ number_in c.args.b.now.entries.items c.args.column)
    (λ (m : ℕ). number_in c.args.b.now.entries.items (deciding c.args.unknowns c.args.right m) *ℤ number_in c.args.a.now.entries.items c.args.column)
    c.args.unknowns c.args.right c.tail_order.result c.requires.right h
    (rw (c.number_at-p.ensures, c.number_at-q.ensures) at (simp to_z-of_z at c.tail_order.ensures))
