use Rattle.kf_ast.specs.Names.{NameTree}
use Rattle.kf_ast.specs.Views.{name_tree}
use Rattle.kf_ast.specs.Sources.{item}
use Rattle.kf_lex.specs.declared.token.Tok.TheVariants as tok
use Rattle.kf_parse.specs.Grammar.{named}
use Rattle.kf_parse.specs.Outcomes.{pure}
use Rattle.kf_parse.specs.Tokens.{is}
use Rattle.kf_parse.proofs.Behind.{expect_got}
use Rattle.kf_parse.proofs.cursor.Cursor.named_item.Goals as goal

pub returns-clause-reads : goal.returns-clause-reads
returns-clause-reads c = expect_got (is tok.Name) (named c.args.self.now.src.now) (λ (n : NameTree). pure (item c.args.initial n)) c.args.self.now.rest.now c.name.new.self.rest.now (name_tree c.in_ok-name.name) c.in_ok-name.ensures.reads
