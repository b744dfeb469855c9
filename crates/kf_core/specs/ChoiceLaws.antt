-- For bodies: what holds of choices, in words of their own: which values there are, in which order, and how the weights compare.
use Rattle.std.specs.Prelude.{◌≡◌, ℕ, ◌*◌, ◌<◌, ◌≤◌, List, length, map, Ok, IfOk}
use Rattle.std.specs.List.{All}
use Rattle.std.specs.List.Sorted.{IsStrictlySortedBy}
use Rattle.kf_value.specs.Values.{ValueTree, order}
use Rattle.kf_value.specs.Kinds.{KindTree}
use Rattle.kf_value.specs.Forms.{HasKind, IsWellFormed}
use Rattle.kf_core.specs.Checked.{DistKinded}
use Rattle.kf_core.specs.Dxs.{DxShape, dx_at}
use Rattle.kf_core.specs.Laws.{AreOfKinds}
use Rattle.kf_core.specs.Choices.{Weighted, listed, weight_in, common_factor, choices}

-- Distinct values in ascending order, each of positive weight, no number above 1 dividing all weights; and a value's weight is its
-- share of what was listed: times one and the same number it is all the weight that the value has there.
pub record AreChoices (ls ws : List Weighted) : Type 0 where
  pub ascending : IsStrictlySortedBy order (map (λ w. w.value) ws)
  pub positive : All (λ w. 0 < w.weight) ws
  pub lowest : 1 ≤ length ws → common_factor ws ≡ 1
  pub share : (k : ℕ) × ((v : ValueTree) → k * weight_in ws v ≡ weight_in ls v)

abbrev pub ChoicesAreShares : Type 0
ChoicesAreShares = (s : List ValueTree) (d : DxShape) (ls ws : List Weighted) → listed s d ≡ Ok ls → choices s d ≡ Ok ws → AreChoices ls ws

-- a checked distribution that has no fault chooses something, and each choice is of its kind
abbrev pub ChoicesKeepKinds : Type 0
ChoicesKeepKinds = (ks : List KindTree) (s : List ValueTree) (at : ℕ) (d : DxShape) (k : KindTree)
    → AreOfKinds ks s → DistKinded ks (dx_at at d) k
    → IfOk (choices s d) (λ ws. (1 ≤ length ws) × All (λ w. HasKind w.value k × IsWellFormed w.value) ws)
