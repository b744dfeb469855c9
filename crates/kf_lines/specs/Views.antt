-- For bodies: what the code's values show.
use Rattle.std.specs.Prelude.{◌≡◌, ◌≤◌, ◌<◌, ◌*◌, ◌++◌, ℕ, List, codes, decimal, flat_map, ◌∷◌}
use Rattle.std.specs.List.{AllZip}
use Rattle.kf_ast.specs.Sources.{SourceTree}
use Rattle.kf_column.specs.Hypers.{Inner}
use Rattle.kf_core.specs.Joint.{Cell, joint_of}
use Rattle.kf_core.specs.Programs.{ProgramTree}
use Rattle.kf_core.specs.Rows.{IsHyperOf}
use Rattle.kf_core.specs.Scale.{scale_of}
use Rattle.kf_frac.specs.Fractions.{limit}
use Rattle.kf_frac.specs.Parts.{IsFraction}
use Rattle.kf_gain.specs.Gains.{GainOf, TableTree, over_of}
use Rattle.kf_gain.specs.Vulnerabilities.{IsWidth}
use Rattle.kf_load.specs.Views.{program_in}
use Rattle.kf_load.specs.Place.{line_at, column_at}
use Rattle.kf_silent.specs.Silent.{Path}
use Rattle.kf_support.specs.Cleared.{turns_of, whole_scale}
use Rattle.kf_support.specs.declared.cleared.Cleared.{Cleared}
use Rattle.kf_text.specs.Texts.{line}
use Rattle.kf_text.specs.Views.{own_text}
use Rattle.kf_lines.specs.LineTexts.{lines_text}
use Rattle.kf_lines.specs.Sites as spec
use Rattle.kf_lines.specs.Summaries.{AreLines, IsLine, LineTree, LinesTree}
use Rattle.kf_lines.specs.declared.site.Site.{Site}
use Rattle.kf_lines.specs.declared.summary.Line.{Line}
use Rattle.kf_lines.specs.declared.summary.Summary.{Summary}
use Rattle.kf_quiet.specs.Summaries.{SummaryTree}

-- ---- sites

abbrev pub site_of : Site → spec.Site
site_of site = record { path = site.path; at = site.at }

-- the same site, where this path leads to what its own begins in
abbrev pub behind : Path → spec.Site → spec.Site
behind path site = record { path = path ++ site.path; at = site.at }

-- ---- summaries

-- it has these numbers, the vulnerability as a fraction of the whole
pub record ShowsSummary (whole : ℕ) (tree : SummaryTree) (s : Summary) : Type 0 where
  pub inners : s.inners ≡ tree.inners
  pub posterior : IsFraction s.posterior tree.posterior whole

pub record ShowsLine (whole : ℕ) (tree : LineTree) (l : Line) : Type 0 where
  pub at : l.at ≡ tree.at
  pub left : ShowsSummary whole tree.left l.left

abbrev pub ShowLines : ℕ → List LineTree → List Line → Type 0
ShowLines whole trees lines = AllZip (ShowsLine whole) trees lines

-- it is the line of a site of a cleared program
abbrev pub IsLineIn : Cleared → GainOf TableTree → spec.Site → Line → Type 0
IsLineIn cleared g site l =
    (tree : LineTree) × IsLine g (turns_of cleared) (program_in cleared) site tree × ShowsLine (whole_scale cleared * over_of g) tree l

-- they are the lines of these sites
abbrev pub AreLinesIn : Cleared → GainOf TableTree → List spec.Site → List Line → Type 0
AreLinesIn cleared g sites lines = AllZip (IsLineIn cleared g) sites lines

-- how wide a gain is on the hyper of a joint
pub record HasWidth (joint : List Cell) (g : GainOf TableTree) (m : ℕ) : Type 0 where
  pub inners : List Inner
  pub is_hyper : IsHyperOf joint inners
  pub is_width : IsWidth g inners m

-- the scale times the gain's width is at most 2^127 - 1
abbrev pub IsNarrowIn : Cleared → GainOf TableTree → Type 0
IsNarrowIn cleared g = (m : ℕ) × HasWidth (joint_of (turns_of cleared) (program_in cleared)) g m × (whole_scale cleared * m ≤ limit)

-- it is more
abbrev pub IsWideIn : Cleared → GainOf TableTree → Type 0
IsWideIn cleared g = (m : ℕ) × HasWidth (joint_of (turns_of cleared) (program_in cleared)) g m × (limit < whole_scale cleared * m)

-- ---- texts

-- a line's text, by its own fraction
abbrev pub own_line : List ℕ → Summary → List ℕ
own_line name s = line (name ++ (codes " inners " ++ (decimal s.inners ++ (codes " posterior " ++ own_text s.posterior))))

-- the line and the column of a byte
abbrev pub place_text : List ℕ → ℕ → List ℕ
place_text bytes at = decimal (line_at bytes at) ++ 58 ∷ decimal (column_at bytes at)

abbrev pub own_text_of : List ℕ → Line → List ℕ
own_text_of bytes l = own_line (place_text bytes l.at) l.left

abbrev pub own_lines : List ℕ → Summary → List Line → List ℕ
own_lines bytes all lines = own_line (codes "all") all ++ flat_map (own_text_of bytes) lines

-- ---- answers

-- those of each site
abbrev pub AreSiteLines : GainOf TableTree → ℕ → ProgramTree → List spec.Site → List LineTree → Type 0
AreSiteLines g turns p sites lines = AllZip (IsLine g turns p) sites lines

-- it is the text of the lines of a cleared program and its source
abbrev pub IsTextOfLines : Cleared → List ℕ → SourceTree → GainOf TableTree → List ℕ → Type 0
IsTextOfLines cleared bytes tree g text =
    (l : LinesTree) × AreLines g (turns_of cleared) tree (program_in cleared) l
    × (text ≡ lines_text bytes (scale_of (turns_of cleared) (program_in cleared) * over_of g) l)
