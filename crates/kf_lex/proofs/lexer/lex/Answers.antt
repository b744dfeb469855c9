use Rattle.std.proofs.Common.{subst, sym}
use Rattle.std.proofs.lemmas.Result.{err_from_is_err_and}
use Rattle.kf_lex.specs.Readings.{IsTokens}
use Rattle.kf_lex.proofs.Judging.{tokens_of_whole, utf8_fault, wrong_fault}
use Rattle.kf_lex.proofs.lexer.lex.Goals as goal

pub returns-in_err-tokens-clause-fault : goal.returns-in_err-tokens-clause-fault
returns-in_err-tokens-clause-fault c =
    let same = err_from_is_err_and c.from_residual.result c.from_residual.ensures.1 in
    rw (same.1, same.2) (wrong_fault c.args.src.now _ _ c.valid_front-text.ensures.value c.in_err-tokens.ensures.err)

pub returns-then-text-src-clause-fault : goal.returns-then-text-src-clause-fault
returns-then-text-src-clause-fault c =
    let front = c.valid_front-text.ensures in
    utf8_fault c.args.src.now _ _ front.value (front.longest c.if-text-src.true) c.in_ok-tokens.ensures.ok

pub returns-clause-tokens : goal.returns-clause-tokens
returns-clause-tokens c =
    let front = c.valid_front-text.ensures in
    subst (IsTokens c.args.src.now) (sym c.new.ensures)
    (tokens_of_whole c.args.src.now _ _ front.value c.if-text-src.false c.valid_front-text.utf8 c.in_ok-tokens.ensures.ok)
