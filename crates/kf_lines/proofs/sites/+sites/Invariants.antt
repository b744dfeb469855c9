use Rattle.std.proofs.Common.{◌≡◌, ◌++◌, map}
use Rattle.kf_ast.specs.Stmts.{stmts as block_of_text}
use Rattle.kf_ast.specs.Views.{stmt_tree}
use Rattle.kf_core.specs.Sts.{sts as block_of}
use Rattle.kf_core.specs.Views.{st_tree}
use Rattle.kf_lines.specs.Sites.{block_sites}
use Rattle.kf_lines.specs.Views.{behind, site_of}
use Rattle.kf_lines.proofs.Walking.{left_sites}
use Rattle.kf_lines.proofs.sites.+sites.Given as goal

abbrev pub invariant-add_block-loop-i : goal.invariant-add_block-loop-i
invariant-add_block-loop-i l =
    map site_of l.out.items ++ map (behind l.path) (left_sites l.i l.stmts l.sts)
    ≡ map site_of l.initial.out.items ++ map (behind l.path) (block_sites 0 (block_of_text (map stmt_tree l.stmts)) (block_of (map st_tree l.sts)))
