use Rattle.kf_lex.specs.declared.token.Token.{Token}
use Rattle.kf_parse.specs.Tokens.{is}
use Rattle.kf_parse.specs.Outcomes.{pure}
use Rattle.kf_parse.proofs.Behind.{expect_got}
use Rattle.kf_parse.proofs.cursor.Cursor.followed_by.Goals as goal

pub returns-clause-reads : goal.returns-clause-reads
returns-clause-reads g c = expect_got (is c.args.kind) (λ (o : Token). o) (λ (o : Token). pure c.args.x) c.args.self.now.rest.now c.expect.new.self.rest.now c.in_ok-expect.field-0 c.in_ok-expect.ensures.reads
