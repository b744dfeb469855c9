use Rattle.std.proofs.Common.{map, drop}
use Rattle.kf_ast.specs.Views.{decl_tree}
use Rattle.kf_core.specs.Views.{dx_tree}
use Rattle.kf_check.specs.Views.{known_in, flags_in}
use Rattle.kf_check.specs.Variables.{variable_of}
use Rattle.kf_check.proofs.DeclTurns.{DeclaredBefore}
use Rattle.kf_check.proofs.decls.check_decls.Given as goal

abbrev pub invariant-loop-decl : goal.invariant-loop-decl
invariant-loop-decl l = DeclaredBefore (map decl_tree l.decls) (map decl_tree (drop l.decl-index l.decls)) (map variable_of l.declared.variables.items) (map dx_tree l.declared.dists.items) (known_in l.declared.names) (flags_in l.declared.names) l.declared.stores
