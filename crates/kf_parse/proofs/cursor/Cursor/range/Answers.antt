use Rattle.std.proofs.Common.{Err}
use Rattle.std.proofs.lemmas.Result.{err_from_is_err_and}
use Rattle.kf_ast.specs.Views.{type_form}
use Rattle.kf_lex.specs.declared.token.Tok.TheVariants as tok
use Rattle.kf_lex.specs.declared.token.Sign.TheVariants as sign
use Rattle.kf_parse.specs.Reading as r
use Rattle.kf_parse.specs.Tokens.{is}
use Rattle.kf_parse.proofs.Failing.{fails}
use Rattle.kf_parse.proofs.Followed.{read_behind, not_there}
use Rattle.kf_parse.proofs.cursor.Cursor.range.Goals as goal

pub returns-in_err-expect-clause-reads : goal.returns-in_err-expect-clause-reads
unfolding r.range
returns-in_err-expect-clause-reads c =
    let p = err_from_is_err_and c.from_residual.result c.from_residual.ensures.1 in
    rw (p.1, p.2) (not_there type_form (is (tok.Sign sign.Range)) _ c.args.self.now.rest.now c.in_err-expect.field-0.0 c.expect.new.self.rest.now
    c.in_err-expect.ensures.reads)

pub returns-in_err-hi-clause-reads : goal.returns-in_err-hi-clause-reads
unfolding r.range
returns-in_err-hi-clause-reads c =
    let p = err_from_is_err_and c.from_residual-in_err-hi.result c.from_residual-in_err-hi.ensures.1 in
    rw (p.1, p.2) (read_behind type_form (is (tok.Sign sign.Range)) _ c.args.self.now.rest.now c.expect.new.self.rest.now c.in_ok-expect.field-0
    (Err c.in_err-hi.field-0.0) c.whole.new.self.rest.now c.in_ok-expect.ensures.reads
    (fails (λ k. k) type_form _ _ c.in_err-hi.field-0.0 c.whole.new.self.rest.now c.in_err-hi.ensures.reads))
