use Rattle.std.proofs.Common.{◌≡◌, ◌++◌, map, drop}
use Rattle.kf_value.specs.Shapes.{shape_types}
use Rattle.kf_ast.specs.Views.{decl_tree}
use Rattle.kf_prior.proofs.declarations.full_decls.Given as goal
use Rattle.kf_prior.specs.Literals.{full_decls}

abbrev pub invariant-loop-i : goal.invariant-loop-i
invariant-loop-i l =
    map decl_tree l.full.items ++ full_decls (drop l.i (shape_types l.shape)) (map decl_tree (drop l.i l.decls))
    ≡ full_decls (shape_types l.shape) (map decl_tree l.decls)
