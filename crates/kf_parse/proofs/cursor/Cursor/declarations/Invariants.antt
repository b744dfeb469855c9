use Rattle.std.proofs.Common.{◌≡◌, length}
use Rattle.kf_ast.specs.Views.{decl_tree}
use Rattle.kf_lex.specs.declared.token.Tok.TheVariants as tok
use Rattle.kf_lex.specs.declared.token.Word.TheVariants as word
use Rattle.kf_parse.specs.Begins.{begins_declaration}
use Rattle.kf_parse.specs.Tokens.{is}
use Rattle.kf_parse.specs.Views.{trimmed_of, all_of}
use Rattle.kf_parse.specs.Outcomes.{repeat}
use Rattle.kf_parse.specs.Reading as r
use Rattle.kf_parse.specs.Trimmed.{trimmed}
use Rattle.kf_parse.proofs.Turns.{marking}
use Rattle.kf_parse.proofs.cursor.Cursor.declarations.Given as goal

abbrev pub invariant-decls : goal.invariant-decls
invariant-decls l = record {
  source : l.self.src.now ≡ l.fn.self.src.now;
  rest : r.declarations trimmed l.fn.self.src.now l.depth l.fn.self.rest.now
      ≡ repeat (marking begins_declaration (is (tok.Word word.VisWord)) (r.declaration trimmed l.fn.self.src.now l.depth) (trimmed_of (all_of decl_tree) l.list)) (trimmed_of (all_of decl_tree) l.list) l.self.rest.now;
}

abbrev pub decreases-decls : goal.decreases-decls
decreases-decls l = length l.self.rest.now
