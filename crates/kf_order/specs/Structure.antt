-- For bodies: whether one channel leaks no more than another doesn't depend on the prior (Alvim et al. 2020, refinement of channels).
use Rattle.std.specs.Prelude.{◌≡◌, ℕ, ◌*◌, List, IsPermutation}
use Rattle.kf_column.specs.Traces.{value_weight}
use Rattle.kf_core.specs.Joint.{Cell}
use Rattle.kf_core.specs.Rows.{AreRowsOf, IsHyperOf}
use Rattle.kf_channel.specs.Channels.{AreSecrets}
use Rattle.kf_gain.specs.Gains.{TableTree}
use Rattle.kf_capacity.specs.Grids.{ChannelTree, channel_grid}
use Rattle.kf_refine.specs.Laws.{Refines}
use Rattle.kf_refine.specs.Refinements.{HyperTree, Separates}
use Rattle.kf_refine.specs.Views.{IsProper}

-- the channel and the hyper of one joint, over the hyper's scale
pub record AreShown (joint : List Cell) (c : ChannelTree) (h : HyperTree) : Type 0 where
  pub rows : AreRowsOf joint c.rows
  pub secrets : AreSecrets c.rows c.secrets
  pub hyper : IsHyperOf joint h.inners
  pub proper : IsProper h

-- one matrix about the same secrets: the same columns over one denominator, whatever their traces are and in whatever order
pub record HaveOneMatrix (c d : ChannelTree) : Type 0 where
  pub secrets : c.secrets ≡ d.secrets
  pub over : (channel_grid c).over ≡ (channel_grid d).over
  pub columns : IsPermutation (channel_grid c).columns (channel_grid d).columns

-- one prior: each value weighs as much in the one, over the scale m, as in the other, over the scale n
abbrev pub HaveOnePrior : ℕ → ChannelTree → ℕ → ChannelTree → Type 0
HaveOnePrior m c n d = (x : ℕ) → value_weight c.rows x * n ≡ value_weight d.rows x * m

-- refinement is structural: where some matrix carries a to b, no gain table separates a' and b', the hypers that the same two channels have
-- at another prior of the same secrets
abbrev pub IsStructural : Type 0
IsStructural = (a b a' b' : HyperTree) (c d c' d' : ChannelTree) (of_a of_b of_a' of_b' : List Cell)
    → AreShown of_a c a → AreShown of_b d b → AreShown of_a' c' a' → AreShown of_b' d' b'
    → HaveOneMatrix c c' → HaveOneMatrix d d' → HaveOnePrior a.scale c b.scale d → HaveOnePrior a'.scale c' b'.scale d'
    → Refines a b → (t : TableTree) → Separates t a' b' → ⊥
