use Rattle.kf_ast.specs.Views.{stmt_tree, dist_tree}
use Rattle.kf_lex.specs.declared.token.Tok.TheVariants as tok
use Rattle.kf_lex.specs.declared.token.Sign.TheVariants as sign
use Rattle.kf_parse.specs.Tokens.{is}
use Rattle.kf_parse.specs.Views.{trimmed_of}
use Rattle.kf_parse.specs.Reading as r
use Rattle.kf_parse.specs.Trimmed.{trimmed}
use Rattle.kf_parse.proofs.Followed.{read_followed}
use Rattle.kf_parse.proofs.cursor.Cursor.observe.Goals as goal

pub returns-clause-reads : goal.returns-clause-reads
unfolding r.observe
returns-clause-reads c =
    read_followed (trimmed_of stmt_tree) (r.dist trimmed c.args.self.now.src.now c.args.depth c.args.self.now.rest.now) (is (tok.Sign sign.Semi)) (trimmed.observe c.args.o.start) (trimmed_of dist_tree c.in_ok-dist.dist) c.dist.new.self.rest.now
    c.observe.result c.followed_by.result c.followed_by.new.self.rest.now c.in_ok-dist.ensures.reads c.observe.ensures c.followed_by.ensures.reads
