-- For bodies: what the matrix of a yes says of every prior. A pair is the value of a target over twice the declared variables: the x-th
-- initial store, and the y-th store behind the statements, make the pair x times the number of stores plus y.
use Rattle.std.specs.Prelude.{◌≡◌, ℕ, ◌*◌, ◌/◌, ◌<◌, ℤ, pos, ◌*ℤ◌, List}
use Rattle.kf_simplex.specs.Base.{total}
use Rattle.kf_refine.specs.Refinements.{HyperTree, Fraction, count, joint, IsOver}
use Rattle.kf_refine.specs.Verdicts.{VerdictTree, Yes, No}

-- where the x-th initial store weighs p x, what each pair z and inner j of b weigh together is the sum, over the inners of a, of what the
-- pair and that inner weigh together times the entry at that inner and j; weights are over the scales
abbrev pub CarriesPriorWeights : ℕ → HyperTree → HyperTree → ℕ → (ℕ → ℕ → ℤ) → Type 0
CarriesPriorWeights stores a b d r =
    (p : ℕ → ℕ) (z j : ℕ) → j < count b
    → pos b.scale *ℤ total (count a) (λ i. pos (p (z / stores) * joint a z i) *ℤ r i j)
    ≡ pos (a.scale * d) *ℤ pos (p (z / stores) * joint b z j)

-- the matrix, whose entries are the numbers over one, carries the weights of the one to the other at every prior
pub record CarriesAtEachPrior (stores : ℕ) (a b : HyperTree) (rows : List (List Fraction)) : Type 0 where
  pub over : ℕ
  pub number : ℕ → ℕ → ℤ
  pub is_over : IsOver (count a) (count b) rows over number
  pub carries : CarriesPriorWeights stores a b over number

-- the matrix of a yes does so
abbrev pub HoldsAtEachPrior : ℕ → HyperTree → HyperTree → VerdictTree → Type 0
HoldsAtEachPrior stores a b (Yes rows) = CarriesAtEachPrior stores a b rows
HoldsAtEachPrior stores a b (No t) = Unit {0}
