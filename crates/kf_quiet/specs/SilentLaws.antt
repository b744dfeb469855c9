-- For bodies: what silent statements leave of gains.
use Rattle.std.specs.Prelude.{◌↔◌, ℕ, ℤ, Bool, List}
use Rattle.kf_column.specs.Hypers.{Inner}
use Rattle.kf_core.specs.Joint.{joint_of}
use Rattle.kf_core.specs.Programs.{ProgramTree}
use Rattle.kf_core.specs.Rows.{IsHyperOf}
use Rattle.kf_gain.specs.Gains.{GainOf, TableTree}
use Rattle.kf_gain.specs.Vulnerabilities.{IsPosterior, IsWidth}
use Rattle.kf_gain.specs.Worth.{NoBetter}
use Rattle.kf_silent.specs.Silent.{Path, silent_joint}
use Rattle.kf_silent.specs.Laws.{AreSilentToo}

-- whatever the adversary wants, no more is leaked where more is silent
abbrev pub SilentLeaksNoMore : Type 0
SilentLeaksNoMore = (silent more : Path → Bool) (turns : ℕ) (p : ProgramTree) (g : GainOf TableTree) (all left : List Inner) (y z : ℤ)
    → AreSilentToo p silent more → IsHyperOf (silent_joint silent turns p) all → IsHyperOf (silent_joint more turns p) left
    → IsPosterior g left y → IsPosterior g all z → NoBetter g y z

-- so no silent statement leaves more than the whole program leaks
abbrev pub NoneLeaksMore : Type 0
NoneLeaksMore = (silent : Path → Bool) (turns : ℕ) (p : ProgramTree) (g : GainOf TableTree) (all left : List Inner) (y z : ℤ)
    → IsHyperOf (joint_of turns p) all → IsHyperOf (silent_joint silent turns p) left
    → IsPosterior g left y → IsPosterior g all z → NoBetter g y z

-- a gain is as wide on the one hyper as on the other
abbrev pub SilentWidth : Type 0
SilentWidth = (silent : Path → Bool) (turns : ℕ) (p : ProgramTree) (g : GainOf TableTree) (all left : List Inner) (m : ℕ)
    → IsHyperOf (joint_of turns p) all → IsHyperOf (silent_joint silent turns p) left → IsWidth g all m ↔ IsWidth g left m
