use Rattle.kf_ast.specs.Names.{NameTree}
use Rattle.kf_ast.specs.Views.{name_tree, decl_tree}
use Rattle.kf_lex.specs.declared.token.Tok.TheVariants as tok
use Rattle.kf_lex.specs.declared.token.Sign.TheVariants as sign
use Rattle.kf_parse.specs.Views.{trimmed_of, all_of}
use Rattle.kf_parse.specs.Grammar.{named}
use Rattle.kf_parse.specs.Outcomes.{◌>>=◌, pure, expect}
use Rattle.kf_parse.specs.Reading as r
use Rattle.kf_parse.specs.Tokens.{is}
use Rattle.kf_parse.specs.Trimmed.{trimmed}
use Rattle.kf_parse.proofs.Behind.{expect_got}
use Rattle.kf_parse.proofs.cursor.Cursor.declaration.Goals as goal

pub returns-clause-reads : goal.returns-clause-reads
unfolding r.declaration
returns-clause-reads c =
    rw (expect_got (is tok.Name) (named c.args.self.now.src.now) (λ (n : NameTree). expect (is (tok.Sign sign.Colon)) (λ u. r.type c.args.depth >>= (λ y. expect (is (tok.Sign sign.Assign)) (λ g. r.dist trimmed c.args.self.now.src.now c.args.depth >>= (λ x. expect (is (tok.Sign sign.Semi)) (λ e. pure (trimmed.push_declaration (trimmed_of (all_of decl_tree) c.args.decls) c.args.visible n y x)))))))
    c.args.self.now.rest.now c.name.new.self.rest.now (name_tree c.in_ok-name.name) c.in_ok-name.ensures.reads) (rw c.name.ensures.source at c.declared.ensures.reads)
