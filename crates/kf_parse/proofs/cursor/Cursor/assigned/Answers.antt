use Rattle.std.proofs.Common.{Err, ap, ◌∙◌}
use Rattle.std.proofs.lemmas.Result.{err_from_is_err_and}
use Rattle.kf_ast.specs.declared.decl.Ident.{Ident}
use Rattle.kf_ast.specs.Views.{stmt_tree, dist_tree, name_tree}
use Rattle.kf_lex.specs.declared.token.Token.{Token}
use Rattle.kf_lex.specs.declared.token.Tok.TheVariants as tok
use Rattle.kf_lex.specs.declared.token.Sign.TheVariants as sign
use Rattle.kf_parse.specs.Tokens.{is}
use Rattle.kf_parse.specs.Views.{trimmed_of}
use Rattle.kf_parse.specs.Outcomes.{Parser, and_then, pure, expect}
use Rattle.kf_parse.specs.Reading as r
use Rattle.kf_parse.specs.Trimmed.{trimmed}
use Rattle.kf_parse.proofs.Failing.{fails}
use Rattle.kf_parse.proofs.Followed.{read_as, stopped_as, read_same, expect_then, read_followed}
use Rattle.kf_parse.proofs.cursor.Cursor.assigned.Goals as goal

-- what stands behind the distribution
abbrev ended : Ident → trimmed.Di → Parser trimmed.St
ended n x = expect (is (tok.Sign sign.Semi)) (λ e. pure (trimmed.assign n.at (name_tree n) x))

pub returns-in_err-name-clause-reads : goal.returns-in_err-name-clause-reads
returns-in_err-name-clause-reads c =
    let dist = λ (g : Token). r.dist trimmed c.args.self.now.src.now c.args.depth in
    let given = expect (is (tok.Sign sign.Assign)) dist c.args.self.now.rest.now in
    let h = stopped_as (trimmed_of dist_tree) given c.given.result c.given.new.self.rest.now c.given.ensures.reads c.in_err-name.field-0.0 c.in_err-name.ensures.stopped in
    let p = err_from_is_err_and c.from_residual.result c.from_residual.ensures.1 in
    rw (p.1, p.2) (read_same (trimmed_of stmt_tree) _ (and_then given (ended c.args.name)) (Err c.in_err-name.field-0.0) c.given.new.self.rest.now (expect_then (is (tok.Sign sign.Assign)) dist (ended c.args.name) c.args.self.now.rest.now)
    (fails (trimmed_of dist_tree) (trimmed_of stmt_tree) given (ended c.args.name) c.in_err-name.field-0.0 c.given.new.self.rest.now h))

pub returns-clause-reads : goal.returns-clause-reads
returns-clause-reads c =
    let dist = λ (g : Token). r.dist trimmed c.args.self.now.src.now c.args.depth in
    let given = expect (is (tok.Sign sign.Assign)) dist c.args.self.now.rest.now in
    let e = read_as (trimmed_of dist_tree) given c.given.result c.given.new.self.rest.now c.given.ensures.reads c.in_ok-name.dist c.in_ok-name.ensures.read.1 in
    let same = c.assign.ensures ∙ ap (λ (n : Ident). trimmed.assign n.at (name_tree n) (trimmed_of dist_tree c.in_ok-name.dist)) c.in_ok-name.ensures.read.0 in
    read_same (trimmed_of stmt_tree) _ (and_then given (ended c.args.name)) c.followed_by.result c.followed_by.new.self.rest.now (expect_then (is (tok.Sign sign.Assign)) dist (ended c.args.name) c.args.self.now.rest.now)
    (read_followed (trimmed_of stmt_tree) given (is (tok.Sign sign.Semi)) (trimmed.assign c.args.name.at (name_tree c.args.name)) (trimmed_of dist_tree c.in_ok-name.dist) c.given.new.self.rest.now c.assign.result c.followed_by.result c.followed_by.new.self.rest.now
    e same c.followed_by.ensures.reads)
