-- For bodies: a law of silent statements that stands above refinement.
use Rattle.std.specs.Prelude.{ℕ, Bool, List}
use Rattle.kf_column.specs.Hypers.{Inner}
use Rattle.kf_core.specs.Programs.{ProgramTree}
use Rattle.kf_core.specs.Rows.{IsHyperOf}
use Rattle.kf_core.specs.Scale.{scale_of}
use Rattle.kf_refine.specs.Laws.{Refines}
use Rattle.kf_refine.specs.Refinements.{HyperTree}
use Rattle.kf_silent.specs.Laws.{AreSilentToo}
use Rattle.kf_silent.specs.Silent.{Path, silent_joint}

-- a program's inners as a hyper about its target, over its scale
abbrev pub as_hyper : ℕ → ProgramTree → List Inner → HyperTree
as_hyper turns p inners = record { target = p.target; scale = scale_of turns p; inners = inners }

-- where more is silent, the hyper is refined: some matrix carries the hyper where less is silent to it
abbrev pub SilentRefines : Type 0
SilentRefines = (silent more : Path → Bool) (turns : ℕ) (p : ProgramTree) (all left : List Inner)
    → AreSilentToo p silent more → IsHyperOf (silent_joint silent turns p) all → IsHyperOf (silent_joint more turns p) left
    → Refines (as_hyper turns p all) (as_hyper turns p left)
