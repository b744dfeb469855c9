-- Believed: the statements of a program that get a line, each with its path and the byte at which it begins.
use Rattle.std.specs.Prelude.{ℕ, ◌+◌, List, [], ◌∷◌, ◌++◌, Bool, true, false, map, if◌then◌else◌}
use Rattle.kf_ast.specs.Sources.{SourceTree, source}
use Rattle.kf_ast.specs.Stmts.{StmtTree, StmtShape, StmtTrees, stmt_at, more_stmts, stmts}
use Rattle.kf_ast.specs.Stmts as text
use Rattle.kf_core.specs.Programs.{ProgramTree}
use Rattle.kf_core.specs.Sts.{StTree, StTrees, Skip, Assign, If, While, more_sts, sts}
use Rattle.kf_silent.specs.Silent.{Path}

-- where a statement stands, and the byte of the text at which it begins
pub record Site : Type 0 where
  pub path : Path
  pub at : ℕ

-- the same, where the path begins with this number
abbrev pub under : ℕ → Site → Site
under i site = record { path = i ∷ site.path; at = site.at }

-- whether a statement may show something itself: an observation, a conditional, a loop or a shown assignment
abbrev pub may_show : StTree → Bool
may_show Skip = false
may_show (Assign i d visible) = visible
may_show s = true

-- the site of a statement that begins at this byte, where it may show something
abbrev pub own_sites : ℕ → StTree → List Site
own_sites at s = if may_show s then record { path = []; at = at } ∷ [] else []

-- the sites of a statement, of what stands in it, and of a block whose first statement has this place, in the order of the text: its
-- statement has the byte, and the checked program's beside it has what is shown
abbrev mutual
  pub sites : StmtTree → StTree → List Site
  sites (stmt_at at shape) s = own_sites at s ++ inner_sites shape s

  pub inner_sites : StmtShape → StTree → List Site
  inner_sites (text.If d xs ys) (If e us vs) = map (under 0) (block_sites 0 xs us) ++ map (under 1) (block_sites 0 ys vs)
  inner_sites (text.While d xs) (While e us) = map (under 0) (block_sites 0 xs us)
  inner_sites shape s = []

  pub block_sites : ℕ → StmtTrees → StTrees → List Site
  block_sites i (more_stmts x xs) (more_sts s ss) = map (under i) (sites x s) ++ block_sites (i + 1) xs ss
  block_sites i xs ss = []

-- the sites of a program, by its source
abbrev pub program_sites : SourceTree → ProgramTree → List Site
program_sites (source decls items body) p = block_sites 0 (stmts body) (sts p.body)
