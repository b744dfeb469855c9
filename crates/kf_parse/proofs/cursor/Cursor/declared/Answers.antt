use Rattle.std.proofs.lemmas.Result.{err_from_is_err_and}
use Rattle.kf_ast.specs.Views.{decl_tree, name_tree}
use Rattle.kf_parse.specs.Views.{trimmed_of, all_of}
use Rattle.kf_parse.specs.Trimmed.{trimmed}
use Rattle.kf_parse.proofs.Failing.{made_of}
use Rattle.kf_parse.proofs.cursor.Cursor.declared.Goals as goal

pub returns-in_err-ty-clause-reads : goal.returns-in_err-ty-clause-reads
returns-in_err-ty-clause-reads c =
    let h = c.in_err-ty.ensures.reads (trimmed.push_declaration (trimmed_of (all_of decl_tree) c.args.decls) c.args.visible (name_tree c.args.name)) in
    let p = err_from_is_err_and c.from_residual.result c.from_residual.ensures.1 in
    rw (p.1, p.2) h

pub returns-clause-reads : goal.returns-clause-reads
returns-clause-reads c =
    made_of (trimmed_of (all_of decl_tree)) _ _ c.push_declaration.result c.type_and_dist.new.self.rest.now
    (c.in_ok-ty.ensures.reads (trimmed.push_declaration (trimmed_of (all_of decl_tree) c.args.decls) c.args.visible (name_tree c.args.name))) c.push_declaration.ensures
