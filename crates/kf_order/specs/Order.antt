-- For bodies: laws of refinement: what it promises of every gain, and that it orders hypers (Alvim et al. 2020).
use Rattle.std.specs.Prelude.{◌≡◌, ℕ, ◌*◌, ℤ, pos, ◌*ℤ◌, map}
use Rattle.kf_column.specs.Hypers.{Inner}
use Rattle.kf_gain.specs.Gains.{GainOf, TableTree}
use Rattle.kf_gain.specs.Vulnerabilities.{IsPosterior}
use Rattle.kf_gain.specs.Worth.{NoBetter}
use Rattle.kf_refine.specs.Laws.{Refines}
use Rattle.kf_refine.specs.Refinements.{HyperTree}
use Rattle.kf_refine.specs.Views.{IsProper}

-- whatever the adversary wants, by a table, by guesses at once or by guesses in turn, a refinement leaks no more, each over its scale
abbrev pub RefinementLeaksNoMore : Type 0
RefinementLeaksNoMore = (a b : HyperTree) (g : GainOf TableTree) (y z : ℤ) → IsProper a → IsProper b → Refines a b
    → IsPosterior g b.inners y → IsPosterior g a.inners z → NoBetter g (y *ℤ pos a.scale) (z *ℤ pos b.scale)

-- an inner whose total is over so many times the scale
abbrev pub over_more : ℕ → Inner → Inner
over_more times i = record { entries = i.entries; total = times * i.total }

-- hypers that refine each other are the same: their inners in their order, each with its outer, over both scales
abbrev pub IsAntisymmetric : Type 0
IsAntisymmetric = (a b : HyperTree) → IsProper a → IsProper b → Refines a b → Refines b a
    → map (over_more b.scale) a.inners ≡ map (over_more a.scale) b.inners
