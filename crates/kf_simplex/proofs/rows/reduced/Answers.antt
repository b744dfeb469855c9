use Rattle.std.proofs.Common.{FitsSigned, rules, refl}
use Rattle.std.proofs.lemmas.Int.{to_z-of_z}
use mir.Syntax.{w128}
use Rattle.kf_simplex.specs.Entries.{number_in}
use Rattle.kf_simplex.proofs.FlatRows.{narrow_share}
use Rattle.kf_simplex.proofs.Reducing.{if_ok, reduced_row_along, reduced_row_scaled}
use Rattle.kf_simplex.proofs.rows.reduced.Goals as goal

pub quotient-requires-clause-divides : goal.quotient-requires-clause-divides
quotient-requires-clause-divides c =
    let u : FitsSigned w128 c.number_at-p.result = search rules in
    let d : FitsSigned w128 c.shared-shared.result = search rules in
    simp to_z-of_z (simp to_z-of_z at c.shared-shared.ensures.first)

pub quotient-requires-2-clause-divides : goal.quotient-requires-2-clause-divides
quotient-requires-2-clause-divides c =
    let u : FitsSigned w128 c.number_at-a.result = search rules in
    let d : FitsSigned w128 c.shared-shared.result = search rules in
    simp to_z-of_z (simp to_z-of_z at c.shared-shared.ensures.second)

pub cross_row-requires-clause-p : goal.cross_row-requires-clause-p
cross_row-requires-clause-p c =
    let u : FitsSigned w128 c.number_at-p.result = search rules in
    let d : FitsSigned w128 c.shared-shared.result = search rules in
    let p : FitsSigned w128 c.quotient.result = search rules in
    simp to_z-of_z (narrow_share c.shared-shared.result c.quotient.result c.number_at-p.result c.shared-shared.ensures.positive
    (simp to_z-of_z at c.quotient.ensures) (rw c.number_at-p.ensures (c.requires.chosen c.args.c)))

pub cross_row-requires-clause-a : goal.cross_row-requires-clause-a
cross_row-requires-clause-a c =
    let u : FitsSigned w128 c.number_at-a.result = search rules in
    let d : FitsSigned w128 c.shared-shared.result = search rules in
    let p : FitsSigned w128 c.quotient-2.result = search rules in
    simp to_z-of_z (narrow_share c.shared-shared.result c.quotient-2.result c.number_at-a.result c.shared-shared.ensures.positive
    (simp to_z-of_z at c.quotient-2.ensures) (rw c.number_at-a.ensures (c.requires.row c.args.c)))

pub returns : goal.returns
returns c =
    let u : FitsSigned w128 c.number_at-p.result = search rules in
    let v : FitsSigned w128 c.number_at-a.result = search rules in
    let d : FitsSigned w128 c.shared-shared.result = search rules in
    let p : FitsSigned w128 c.quotient.result = search rules in
    let a : FitsSigned w128 c.quotient-2.result = search rules in
    let first = simp to_z-of_z at c.quotient.ensures in
    let second = simp to_z-of_z at c.quotient-2.ensures in
    let value = simp to_z-of_z at c.in_ok-crossed.ensures.value in
    if_ok _ _ c.primitive.result
    (λ new h. reduced_row_scaled c.shared-shared.result _ _ c.quotient.result c.quotient-2.result (number_in c.args.row.now.entries.items)
    (number_in c.args.chosen.now.entries.items) (number_in new.entries.items) c.shared-shared.ensures.positive
    (rw c.number_at-p.ensures at first) (rw c.number_at-a.ensures at second)
    (reduced_row_along _ _ _ _ value (λ k. refl) h))
    c.primitive.ensures
