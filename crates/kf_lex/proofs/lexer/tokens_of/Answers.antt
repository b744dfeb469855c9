use Rattle.std.proofs.Common.{ap, arith, length, length-append}
use Rattle.std.proofs.lemmas.Result.{err_from_is_err_and}
use Rattle.kf_lex.proofs.Going.{cut_length, first_wrong, goes_on, reads_all}
use Rattle.kf_lex.proofs.lexer.tokens_of.Goals as goal

pub loop-cut-smaller : goal.loop-cut-smaller
loop-cut-smaller c =
    let cut = c.in-Some.ensures in
    omega (arith, cut_length c.loop-cut.left.now c.in-Some.cut cut, ap length cut.whole, length-append c.in-Some.cut.text.now c.in-Some.cut.rest.now)

pub loop-cut-preserved : goal.loop-cut-preserved
loop-cut-preserved c =
    let cut = c.in-Some.ensures in
    record {
      utf8 = cut.utf8;
      place = omega (arith, c.in_ok-at.ensures.ok.0, ap length cut.whole, length-append c.in-Some.cut.text.now c.in-Some.cut.rest.now, c.loop-cut.invariant.place);
      goes = goes_on c.args.text.now c.loop-cut.left.now c.in-Some.cut c.loop-cut.at _ _ _ c.loop-cut.invariant.goes cut.whole c.in_ok-at.ensures.ok;
    }

pub returns-clause-ok : goal.returns-clause-ok
returns-clause-ok c = reads_all c.args.text.now c.loop-cut.left.now c.loop-cut.at _ c.loop-cut.invariant.goes c.in_default.ensures

pub returns-in_err-at-clause-err : goal.returns-in_err-at-clause-err
returns-in_err-at-clause-err c =
    let same = err_from_is_err_and c.from_residual.result c.from_residual.ensures.1 in
    rw (same.1, same.2) (first_wrong c.args.text.now c.loop-cut.left.now c.in-Some.cut c.loop-cut.at _ _ c.loop-cut.invariant.goes c.in-Some.ensures.whole c.in_err-at.ensures.err)
