-- Believed: how much is seen of a program, and how much is left where one of its statements alone is silent.
use Rattle.std.specs.Prelude.{◌≡◌, ℕ, List}
use Rattle.std.specs.List.{AllZip}
use Rattle.std.specs.Str.{bytes_eq}
use Rattle.kf_ast.specs.Sources.{SourceTree}
use Rattle.kf_core.specs.Joint.{joint_of}
use Rattle.kf_core.specs.Programs.{ProgramTree}
use Rattle.kf_gain.specs.Gains.{GainOf, TableTree}
use Rattle.kf_lines.specs.Sites.{Site, program_sites}
use Rattle.kf_silent.specs.Silent.{silent_joint}
use Rattle.kf_quiet.specs.Summaries.{SummaryTree, IsSummary}

-- the byte at which a statement begins, and what is left where it is silent
pub record LineTree : Type 0 where
  pub at : ℕ
  pub left : SummaryTree

-- those of a site, where its statement alone is silent
pub record IsLine (g : GainOf TableTree) (turns : ℕ) (p : ProgramTree) (site : Site) (l : LineTree) : Type 0 where
  pub at : l.at ≡ site.at
  pub left : IsSummary g (silent_joint (bytes_eq site.path) turns p) l.left

-- what is seen of the whole program, and its lines
pub record LinesTree : Type 0 where
  pub all : SummaryTree
  pub lines : List LineTree

-- those of a program and its source: a line for each statement that may show something
pub record AreLines (g : GainOf TableTree) (turns : ℕ) (tree : SourceTree) (p : ProgramTree) (l : LinesTree) : Type 0 where
  pub whole : IsSummary g (joint_of turns p) l.all
  pub each : AllZip (IsLine g turns p) (program_sites tree p) l.lines
