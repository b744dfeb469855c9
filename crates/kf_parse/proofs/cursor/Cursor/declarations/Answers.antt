use Rattle.std.proofs.Common.{rules, arith, sym, ◌∙◌}
use Rattle.std.proofs.lemmas.Grind.{common_steps}
use Rattle.kf_ast.specs.Views.{decl_tree}
use Rattle.kf_lex.specs.declared.token.Tok.TheVariants as tok
use Rattle.kf_lex.specs.declared.token.Word.TheVariants as word
use Rattle.kf_parse.specs.Begins.{begins_declaration}
use Rattle.kf_parse.specs.Tokens.{is}
use Rattle.kf_parse.specs.Views.{trimmed_of, all_of}
use Rattle.kf_parse.specs.Reading as r
use Rattle.kf_parse.specs.Trimmed.{trimmed}
use Rattle.kf_parse.proofs.Shrinks.{declaration_steps}
use Rattle.kf_parse.proofs.Turns.{marked_stops, marked_stuck, marked_deep, marked_got, marked_shorter}
use Rattle.kf_parse.proofs.cursor.Cursor.declarations.Goals as goal

pub decls-smaller : goal.decls-smaller
decls-smaller c =
    marked_shorter begins_declaration (is (tok.Word word.VisWord)) (r.declaration trimmed c.args.self.now.src.now c.args.depth) (trimmed_of (all_of decl_tree) c.decls.list) c.skip.new.self.rest.now (declaration_steps trimmed c.args.self.now.src.now c.args.depth) c.decls.self.rest.now c.declaration.new.self.rest.now (trimmed_of (all_of decl_tree) c.in_ok-list.list)
    c.skip.ensures.rest (sym c.at_declaration.ensures ∙ c.decls-test.true) (rw (c.skip.ensures.source, c.decls.invariant.source, c.at-visible.ensures) at c.in_ok-list.ensures.reads)

pub decls-preserved : goal.decls-preserved
decls-preserved c =
    let same = marked_got begins_declaration (is (tok.Word word.VisWord)) (r.declaration trimmed c.args.self.now.src.now c.args.depth) (trimmed_of (all_of decl_tree) c.decls.list) c.skip.new.self.rest.now (declaration_steps trimmed c.args.self.now.src.now c.args.depth) c.decls.self.rest.now c.declaration.new.self.rest.now (trimmed_of (all_of decl_tree) c.in_ok-list.list)
    c.skip.ensures.rest (sym c.at_declaration.ensures ∙ c.decls-test.true) (rw (c.skip.ensures.source, c.decls.invariant.source, c.at-visible.ensures) at c.in_ok-list.ensures.reads) in
    record { source = search rules; rest = c.decls.invariant.rest ∙ same }

pub returns-in_err-list-clause-reads : goal.returns-in_err-list-clause-reads
returns-in_err-list-clause-reads c =
    let same = c.skip.ensures.source ∙ c.decls.invariant.source in
    let a = marked_stuck begins_declaration (is (tok.Word word.VisWord)) (r.declaration trimmed c.args.self.now.src.now c.args.depth) (trimmed_of (all_of decl_tree) c.decls.list) c.skip.new.self.rest.now c.decls.self.rest.now c.declaration.new.self.rest.now c.skip.ensures.rest (sym c.at_declaration.ensures ∙ c.decls-test.true) in
    let b = marked_deep begins_declaration (is (tok.Word word.VisWord)) (r.declaration trimmed c.args.self.now.src.now c.args.depth) (trimmed_of (all_of decl_tree) c.decls.list) c.skip.new.self.rest.now c.decls.self.rest.now c.skip.ensures.rest (sym c.at_declaration.ensures ∙ c.decls-test.true) in
    let i = c.decls.invariant.rest in
    first_of (search (rules, a, b), grind (arith, common_steps, a, b))

pub returns-clause-reads : goal.returns-clause-reads
returns-clause-reads c = c.decls.invariant.rest ∙ marked_stops begins_declaration (is (tok.Word word.VisWord)) (r.declaration trimmed c.args.self.now.src.now c.args.depth) (trimmed_of (all_of decl_tree) c.decls.list) c.decls.self.rest.now (sym c.at_declaration.ensures ∙ c.decls-test.false)
