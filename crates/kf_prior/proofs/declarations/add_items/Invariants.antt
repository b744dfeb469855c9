use Rattle.std.proofs.Common.{◌≡◌, ◌++◌, map, take}
use Rattle.kf_ast.specs.Views.{decl_tree, item_tree}
use Rattle.kf_prior.specs.FullSources.{item_for}
use Rattle.kf_prior.proofs.declarations.add_items.Given as goal

abbrev pub invariant-loop-decl : goal.invariant-loop-decl
invariant-loop-decl l = map item_tree l.items.items ≡ map item_tree l.initial.items.items ++ map (item_for l.initial') (map decl_tree (take l.decl-index l.decls))
