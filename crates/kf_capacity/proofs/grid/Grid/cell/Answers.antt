use Rattle.std.proofs.Common.{◌≡◌, ℕ, ◌<◌, All, List, length, Some, subst, sym}
use Rattle.kf_capacity.specs.Composing.{columns_with}
use Rattle.kf_capacity.specs.Views.{grid_tree}
use Rattle.kf_capacity.specs.declared.grid.Grid.{Grid}
use Rattle.kf_capacity.proofs.Paired.{IsPlace, place_is}
use Rattle.kf_capacity.proofs.grid.Grid.cell.Goals as goal

place : (g : Grid) (others : List (List ℕ)) (i j : ℕ) → g.others ≡ Some others → i < g.rows → j < length (grid_tree g).columns
    → IsPlace others g.columns i j
place g others i j is inside within =
    place_is others g.columns g.rows i j (subst (λ o. All (λ column. length column ≡ g.rows) (columns_with g.columns o)) is g.grid.stochastic.long) inside
    (subst (λ o. j < length (columns_with g.columns o)) is within)

pub nonzero_div-j : goal.nonzero_div-j
nonzero_div-j c =
    let at = place c.args.self.now c.in-Some.others c.args.i c.args.j c.in-Some.is c.requires.secret c.requires.column in
    rw (c.as_slice-others.ensures) at.some

pub number_at-requires-clause-column : goal.number_at-requires-clause-column
number_at-requires-clause-column c =
    let at = place c.args.self.now c.in-Some.others c.args.i c.args.j c.in-Some.is c.requires.secret c.requires.column in
    rw (c.as_slice-others.ensures, c.as_slice-columns.ensures) at.first

pub number_at-requires-clause-secret : goal.number_at-requires-clause-secret
number_at-requires-clause-secret c =
    let at = place c.args.self.now c.in-Some.others c.args.i c.args.j c.in-Some.is c.requires.secret c.requires.column in
    rw (c.as_slice-others.ensures, c.as_slice-columns.ensures) at.left

pub nonzero_rem-j : goal.nonzero_rem-j
nonzero_rem-j c =
    let at = place c.args.self.now c.in-Some.others c.args.i c.args.j c.in-Some.is c.requires.secret c.requires.column in
    rw (c.as_slice-others.ensures) at.some

pub number_at-requires-in-Some-clause-column : goal.number_at-requires-in-Some-clause-column
number_at-requires-in-Some-clause-column c =
    let at = place c.args.self.now c.in-Some.others c.args.i c.args.j c.in-Some.is c.requires.secret c.requires.column in
    rw (c.as_slice-others.ensures) at.second

pub number_at-requires-in-Some-clause-secret : goal.number_at-requires-in-Some-clause-secret
number_at-requires-in-Some-clause-secret c =
    let at = place c.args.self.now c.in-Some.others c.args.i c.args.j c.in-Some.is c.requires.secret c.requires.column in
    rw (c.as_slice-others.ensures) at.right

pub returns-in-Some : goal.returns-in-Some
returns-in-Some c =
    let at = place c.args.self.now c.in-Some.others c.args.i c.args.j c.in-Some.is c.requires.secret c.requires.column in
    rw (c.in-Some.is, c.number_at.ensures, c.number_at-in-Some.ensures, c.as_slice-others.ensures, c.as_slice-columns.ensures) (sym at.number)
