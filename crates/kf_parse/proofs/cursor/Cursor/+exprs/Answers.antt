use Rattle.std.proofs.Common.{arith, ℕ, List, Err, subst, ◌≡◌, ◌-◌, ◌+◌, ◌∷◌, refl, ◌∙◌, sym, ap}
use Rattle.std.proofs.lemmas.Result.{err_from_is_err_and}
use Rattle.kf_parse.specs.Views.{cut_of, cuts_of}
use Rattle.kf_parse.specs.OperatorTokens.{infix_op}
use Rattle.kf_parse.specs.Reading as r
use Rattle.kf_parse.specs.Reads.{Reads}
use Rattle.kf_parse.specs.Outcomes.{got, ◌>>=◌, pure, expect}
use Rattle.kf_parse.specs.Trimmed.{trimmed}
use Rattle.kf_parse.specs.Tokens.{is}
use Rattle.kf_lex.specs.declared.token.Tok.TheVariants as tok
use Rattle.kf_lex.specs.declared.token.Sign.TheVariants as sign
use Rattle.kf_parse.proofs.Failing.{fails, got_value, made_of, only_memory}
use Rattle.kf_parse.proofs.Followed.{read_as, stopped_as, read_on, read_behind, not_there, read_same, followed, read_followed}
use Rattle.kf_parse.proofs.ExprTurns.{other_turn, other_halts, other_stops, climb_turn, climb_halts, climb_stops, climb_ends, argument_turn, no_comma, no_argument, no_more, call_closes, no_close, expr_goes, level_lowest, level_goes, parens_close, parens_go_on, two_of, compared_goes, compared_stops, prefix_goes, prefix_passes}
use Rattle.kf_parse.proofs.cursor.Cursor.+exprs.Goals as goal

pub others-returns-in_err-x-clause-reads : goal.others-returns-in_err-x-clause-reads
others-returns-in_err-x-clause-reads t c =
    let h = other_halts c.args.self.now.src.now c.args.depth (cuts_of c.commas.list) c.commas.self.rest.now c.skip.new.self.rest.now
    c.expr.new.self.rest.now c.skip.ensures.rest (sym c.at.ensures ∙ c.commas-test.true) cut_of cuts_of c.in_err-x.field-0.0
    (stopped_as _ _ _ _ (rw (c.skip.ensures.source, c.commas.invariant.source) at c.expr.ensures.reads) _ c.in_err-x.was) in
    let p = err_from_is_err_and c.from_residual.result c.from_residual.ensures.1 in
    rw (c.commas.invariant.same, p.1, p.2) h

pub others-commas-smaller : goal.others-commas-smaller
others-commas-smaller t c =
    (other_turn c.args.self.now.src.now c.args.depth (cuts_of c.commas.list) c.commas.self.rest.now c.skip.new.self.rest.now
    c.expr.new.self.rest.now c.skip.ensures.rest (sym c.at.ensures ∙ c.commas-test.true) (cut_of c.in_ok-x.x)
    (rw (c.skip.ensures.source, c.commas.invariant.source) at c.in_ok-x.ensures.reads)).shorter

pub others-commas-preserved : goal.others-commas-preserved
others-commas-preserved t c =
    let turn = other_turn c.args.self.now.src.now c.args.depth (cuts_of c.commas.list) c.commas.self.rest.now c.skip.new.self.rest.now
    c.expr.new.self.rest.now c.skip.ensures.rest (sym c.at.ensures ∙ c.commas-test.true) (cut_of c.in_ok-x.x)
    (rw (c.skip.ensures.source, c.commas.invariant.source) at c.in_ok-x.ensures.reads) in
    record {
      source = c.expr.ensures.source ∙ c.skip.ensures.source ∙ c.commas.invariant.source;
      same = c.commas.invariant.same ∙ turn.same ∙ ap (λ z. r.others trimmed c.args.self.now.src.now (r.expr trimmed c.args.self.now.src.now c.args.depth) z c.expr.new.self.rest.now) (got_value c.in_ok-list.ensures);
    }

pub others-returns-clause-reads : goal.others-returns-clause-reads
others-returns-clause-reads t c = c.commas.invariant.same ∙ other_stops c.args.self.now.src.now c.args.depth (cuts_of c.commas.list) c.commas.self.rest.now (sym c.at.ensures ∙ c.commas-test.false)

pub climb-returns-in_default-clause-reads : goal.climb-returns-in_default-clause-reads
climb-returns-in_default-clause-reads t c = c.operators.invariant.same ∙ climb_ends c.args.self.now.src.now c.args.depth (c.args.height - 1)
    (8 - c.args.height) (cut_of c.operators.left) c.operators.self.rest.now c.in_default.ensures

pub climb-returns-then-not-binds_at-clause-reads : goal.climb-returns-then-not-binds_at-clause-reads
climb-returns-then-not-binds_at-clause-reads t c = c.operators.invariant.same ∙ climb_stops c.args.self.now.src.now c.args.depth
    (c.args.height - 1) (8 - c.args.height) (cut_of c.operators.left) c.in-Some.o c.operators.self.rest.now _ c.in-Some.ensures
    (sym (c.binds_at.ensures ∙ ap (r.binds_at (8 - c.args.height)) c.infix-op.ensures) ∙ c.if-not-binds_at.true)

pub climb-returns-in_err-right-clause-reads : goal.climb-returns-in_err-right-clause-reads
climb-returns-in_err-right-clause-reads t c =
    let h = climb_halts c.args.self.now.src.now c.args.depth (c.args.height - 1) (8 - c.args.height) (cut_of c.operators.left) c.in-Some.o c.operators.self.rest.now c.skip.new.self.rest.now
    (c.in-Some.ensures ∙ ap (λ z. c.in-Some.o ∷ z) (sym c.skip.ensures.rest)) c.level.new.self.rest.now cut_of cut_of c.in_err-right.field-0.0
    (sym (c.binds_at.ensures ∙ ap (r.binds_at (8 - c.args.height)) c.infix-op.ensures) ∙ c.if-not-binds_at.false)
    (stopped_as _ _ _ _ (rw (c.skip.ensures.source, c.operators.invariant.source) at c.level.ensures.reads) _ c.in_err-right.was) in
    let p = err_from_is_err_and c.from_residual.result c.from_residual.ensures.1 in
    rw (c.operators.invariant.same, p.1, p.2) h

pub climb-operators-smaller : goal.climb-operators-smaller
climb-operators-smaller t c =
    (climb_turn c.args.self.now.src.now c.args.depth (c.args.height - 1) (8 - c.args.height) (cut_of c.operators.left) c.in-Some.o c.operators.self.rest.now c.skip.new.self.rest.now
    (c.in-Some.ensures ∙ ap (λ z. c.in-Some.o ∷ z) (sym c.skip.ensures.rest)) (cut_of c.in_ok-right.right) c.level.new.self.rest.now
    (sym (c.binds_at.ensures ∙ ap (r.binds_at (8 - c.args.height)) c.infix-op.ensures) ∙ c.if-not-binds_at.false)
    (rw (c.skip.ensures.source, c.operators.invariant.source) at c.in_ok-right.ensures.reads)).shorter

pub climb-operators-preserved : goal.climb-operators-preserved
climb-operators-preserved t c =
    let turn = climb_turn c.args.self.now.src.now c.args.depth (c.args.height - 1) (8 - c.args.height) (cut_of c.operators.left) c.in-Some.o c.operators.self.rest.now c.skip.new.self.rest.now
    (c.in-Some.ensures ∙ ap (λ z. c.in-Some.o ∷ z) (sym c.skip.ensures.rest)) (cut_of c.in_ok-right.right) c.level.new.self.rest.now
    (sym (c.binds_at.ensures ∙ ap (r.binds_at (8 - c.args.height)) c.infix-op.ensures) ∙ c.if-not-binds_at.false)
    (rw (c.skip.ensures.source, c.operators.invariant.source) at c.in_ok-right.ensures.reads) in
    let row : r.row_in (infix_op c.in-Some.o.kind) ≡ c.row_in.result = sym (c.row_in.ensures ∙ ap r.row_in c.infix-op.ensures) in
    record {
      source = c.level.ensures.source ∙ c.skip.ensures.source ∙ c.operators.invariant.source;
      same = c.operators.invariant.same ∙ turn.same ∙ ap (λ z. r.climb trimmed c.args.self.now.src.now (r.level trimmed c.args.self.now.src.now (r.expr trimmed c.args.self.now.src.now c.args.depth) (c.args.height - 1)) (8 - c.args.height) z c.level.new.self.rest.now)
          (ap (λ n. trimmed.join n (cut_of c.operators.left) (cut_of c.in_ok-right.right)) row ∙ got_value c.in_ok-left.ensures);
    }

pub call-returns-in_err-expect-2-clause-reads : goal.call-returns-in_err-expect-2-clause-reads
call-returns-in_err-expect-2-clause-reads t c =
    let h = no_close c.args.self.now.src.now c.args.depth (c.arity.result - 1) c.args.word c.in_ok-expect.field-0 c.args.op c.args.self.now.rest.now c.expect.new.self.rest.now c.expr.new.self.rest.now c.arguments.new.self.rest.now
    (cut_of c.in_ok-first.first) (cuts_of c.in_ok-all.all) c.in_ok-expect.ensures.reads (rw c.expect.ensures.source at c.in_ok-first.ensures.reads)
    (ap (λ n. n - 1) c.arity.ensures)
    (rw (c.expr.ensures.source, c.expect.ensures.source, ← got_value c.in_ok-begun.ensures) at c.in_ok-all.ensures.reads)
    c.expect-2.new.self.rest.now (λ o. o) cut_of c.in_err-expect-2.field-0.0 c.in_err-expect-2.ensures.reads in
    let p = err_from_is_err_and c.from_residual-in_err-expect-2.result c.from_residual-in_err-expect-2.ensures.1 in
    rw (p.1, p.2) h

pub call-returns-clause-reads : goal.call-returns-clause-reads
call-returns-clause-reads t c =
    let h = call_closes c.args.self.now.src.now c.args.depth (c.arity.result - 1) c.args.word c.in_ok-expect.field-0 c.args.op c.args.self.now.rest.now c.expect.new.self.rest.now c.expr.new.self.rest.now c.arguments.new.self.rest.now
    (cut_of c.in_ok-first.first) (cuts_of c.in_ok-all.all) c.in_ok-expect.ensures.reads (rw c.expect.ensures.source at c.in_ok-first.ensures.reads)
    (ap (λ n. n - 1) c.arity.ensures)
    (rw (c.expr.ensures.source, c.expect.ensures.source, ← got_value c.in_ok-begun.ensures) at c.in_ok-all.ensures.reads) c.in_ok-expect-2.field-0
    c.expect-2.new.self.rest.now c.in_ok-expect-2.ensures.reads in
    h ∙ ap (λ z. got z c.expect-2.new.self.rest.now) (ap (λ n. trimmed.apply c.args.word.start n (cuts_of c.in_ok-all.all)) (sym c.row.ensures) ∙ sym c.apply.ensures)

pub expr-returns-clause-reads : goal.expr-returns-clause-reads
expr-returns-clause-reads t c = rw (expr_goes c.args.self.now.src.now c.args.depth c.args.self.now.rest.now (omega arith)) c.level.ensures.reads

pub level-returns-then-height-eq0-clause-reads : goal.level-returns-then-height-eq0-clause-reads
level-returns-then-height-eq0-clause-reads t c = rw (level_lowest c.args.self.now.src.now c.args.depth c.args.height c.args.self.now.rest.now (omega arith)) c.postfix.ensures.reads

pub level-returns-else-height-eq0-clause-reads : goal.level-returns-else-height-eq0-clause-reads
level-returns-else-height-eq0-clause-reads t c = rw (level_goes c.args.self.now.src.now c.args.depth c.args.height c.args.self.now.rest.now (omega arith) (omega arith)) c.prefixed.ensures.reads

pub arguments-returns-in_err-expect-clause-reads : goal.arguments-returns-in_err-expect-clause-reads
arguments-returns-in_err-expect-clause-reads t c =
    let h = no_comma c.args.self.now.src.now c.args.depth (c.args.count - c.loop-argument._argument) (cuts_of c.loop-argument.list) c.loop-argument.self.rest.now (c.args.count - (c.loop-argument._argument + 1)) c.expect.new.self.rest.now (λ o. o) cuts_of c.in_err-expect.field-0.0 (omega arith) c.in_err-expect.ensures.reads in
    let p = err_from_is_err_and c.from_residual.result c.from_residual.ensures.1 in
    rw (c.loop-argument.invariant.same, p.1, p.2) h

pub arguments-returns-in_err-x-clause-reads : goal.arguments-returns-in_err-x-clause-reads
arguments-returns-in_err-x-clause-reads t c =
    let h = no_argument c.args.self.now.src.now c.args.depth (c.args.count - c.loop-argument._argument) (cuts_of c.loop-argument.list)
    c.loop-argument.self.rest.now (c.args.count - (c.loop-argument._argument + 1)) c.in_ok-expect.field-0 c.expect.new.self.rest.now
    c.expr.new.self.rest.now cut_of cuts_of c.in_err-x.field-0.0 (omega arith) c.in_ok-expect.ensures.reads
    (stopped_as _ _ _ _ (rw (c.expect.ensures.source, c.loop-argument.invariant.source) at c.expr.ensures.reads) _ c.in_err-x.was) in
    let p = err_from_is_err_and c.from_residual-in_err-x.result c.from_residual-in_err-x.ensures.1 in
    rw (c.loop-argument.invariant.same, p.1, p.2) h

pub arguments-loop-argument-preserved : goal.arguments-loop-argument-preserved
arguments-loop-argument-preserved t c =
    let h = argument_turn c.args.self.now.src.now c.args.depth (c.args.count - c.loop-argument._argument) (cuts_of c.loop-argument.list)
    c.loop-argument.self.rest.now (c.args.count - (c.loop-argument._argument + 1)) c.in_ok-expect.field-0 c.expect.new.self.rest.now
    c.expr.new.self.rest.now (cut_of c.in_ok-x.x) (omega arith) c.in_ok-expect.ensures.reads
    (rw (c.expect.ensures.source, c.loop-argument.invariant.source) at c.in_ok-x.ensures.reads) in
    record {
      source = c.expr.ensures.source ∙ c.expect.ensures.source ∙ c.loop-argument.invariant.source;
      same = c.loop-argument.invariant.same ∙ h ∙ ap (λ z. r.arguments trimmed c.args.self.now.src.now (r.expr trimmed c.args.self.now.src.now c.args.depth) (c.args.count - (c.loop-argument._argument + 1)) z c.expr.new.self.rest.now) (got_value c.in_ok-list.ensures);
    }

pub arguments-returns-clause-reads : goal.arguments-returns-clause-reads
arguments-returns-clause-reads t c = c.loop-argument.invariant.same ∙ no_more c.args.self.now.src.now c.args.depth (c.args.count - c.loop-argument._argument) (cuts_of c.loop-argument.list) c.loop-argument.self.rest.now (omega arith)

pub in_parens-returns-then-not-at-clause-reads : goal.in_parens-returns-then-not-at-clause-reads
unfolding r.in_parens
in_parens-returns-then-not-at-clause-reads t c =
    let src = c.args.self.now.src.now in
    let h = followed cut_of (is (tok.Sign sign.ParenClose)) c.moved.result (trimmed.moved c.args.opener.start (cut_of c.in_ok-x.x)) c.expr.new.self.rest.now c.followed_by.result c.followed_by.new.self.rest.now c.moved.ensures c.followed_by.ensures.reads in
    read_on cut_of (r.expr trimmed src c.args.depth c.args.self.now.rest.now) _ (cut_of c.in_ok-x.x) c.expr.new.self.rest.now c.followed_by.result c.followed_by.new.self.rest.now c.in_ok-x.ensures.reads
    (read_same cut_of _ _ c.followed_by.result c.followed_by.new.self.rest.now (parens_close src (r.expr trimmed src c.args.depth) c.args.opener (cut_of c.in_ok-x.x) c.expr.new.self.rest.now (sym c.at.ensures ∙ c.if-not-at.true)) h)

pub in_parens-returns-clause-reads : goal.in_parens-returns-clause-reads
unfolding r.in_parens
in_parens-returns-clause-reads t c =
    let src = c.args.self.now.src.now in
    read_on cut_of (r.expr trimmed src c.args.depth c.args.self.now.rest.now) _ (cut_of c.in_ok-x.x) c.expr.new.self.rest.now c.tuple.result c.tuple.new.self.rest.now c.in_ok-x.ensures.reads
    (read_same cut_of _ _ c.tuple.result c.tuple.new.self.rest.now (parens_go_on src (r.expr trimmed src c.args.depth) c.args.opener (cut_of c.in_ok-x.x) c.expr.new.self.rest.now c.skip.new.self.rest.now c.skip.ensures.rest (sym c.at.ensures ∙ c.if-not-at.false))
    (rw (c.skip.ensures.source, c.expr.ensures.source) at c.tuple.ensures.reads))

pub tuple-returns-in_err-list-clause-reads : goal.tuple-returns-in_err-list-clause-reads
unfolding r.tuple
tuple-returns-in_err-list-clause-reads t c =
    let first = r.expr trimmed c.args.self.now.src.now c.args.depth c.args.self.now.rest.now in
    let h = stopped_as cut_of first c.expr.result c.expr.new.self.rest.now c.expr.ensures.reads c.in_err-list.field-0.0 c.in_err-list.ensures.stopped in
    let p = err_from_is_err_and c.from_residual-in_err-list.result c.from_residual-in_err-list.ensures.1 in
    rw (p.1, p.2) (fails cut_of cut_of first _ c.in_err-list.field-0.0 c.expr.new.self.rest.now h)

pub tuple-returns-in_err-all-clause-reads : goal.tuple-returns-in_err-all-clause-reads
unfolding r.tuple
tuple-returns-in_err-all-clause-reads t c =
    let src = c.args.self.now.src.now in
    let e = r.expr trimmed src c.args.depth in
    let second = read_as cut_of (e c.args.self.now.rest.now) c.expr.result c.expr.new.self.rest.now c.expr.ensures.reads c.in_ok-list.second c.in_ok-list.ensures.read.1 in
    let two = two_of (cut_of c.args.first) (cut_of c.in_ok-list.second) (cuts_of c.in_ok-begun.begun) (cuts_of c.in_ok-list.list) (cuts_of c.in_ok-two.two) (got_value c.in_ok-begun.ensures) (ap cuts_of (sym c.in_ok-list.ensures.read.0)) (got_value c.in_ok-two.ensures) in
    let p = err_from_is_err_and c.from_residual-in_err-all.result c.from_residual-in_err-all.ensures.1 in
    let P : List ℕ → Type 0 = λ text. Reads cuts_of (r.others trimmed text (r.expr trimmed text c.args.depth) (cuts_of c.in_ok-two.two) c.expr.new.self.rest.now) (Err c.in_err-all.field-0.0) c.others.new.self.rest.now in
    let ended = λ (xs : trimmed.Exs). expect (is (tok.Sign sign.ParenClose)) (λ q. pure (trimmed.tuple c.args.opener.start xs)) in
    let goes = λ (y : trimmed.Ex). r.others trimmed src e (trimmed.push (trimmed.one (cut_of c.args.first)) y) >>= ended in
    rw (p.1, p.2) (read_on cut_of (e c.args.self.now.rest.now) goes (cut_of c.in_ok-list.second) c.expr.new.self.rest.now (Err c.in_err-all.field-0.0) c.others.new.self.rest.now second
    (fails cuts_of cut_of (r.others trimmed src e (trimmed.push (trimmed.one (cut_of c.args.first)) (cut_of c.in_ok-list.second)) c.expr.new.self.rest.now) ended c.in_err-all.field-0.0 c.others.new.self.rest.now
    (read_same cuts_of _ _ (Err c.in_err-all.field-0.0) c.others.new.self.rest.now (ap (λ (xs : trimmed.Exs). r.others trimmed src e xs c.expr.new.self.rest.now) two) (subst P c.expr.ensures.source c.in_err-all.ensures.reads))))

pub tuple-returns-clause-reads : goal.tuple-returns-clause-reads
unfolding r.tuple
tuple-returns-clause-reads t c =
    let src = c.args.self.now.src.now in
    let e = r.expr trimmed src c.args.depth in
    let second = read_as cut_of (e c.args.self.now.rest.now) c.expr.result c.expr.new.self.rest.now c.expr.ensures.reads c.in_ok-list.second c.in_ok-list.ensures.read.1 in
    let two = two_of (cut_of c.args.first) (cut_of c.in_ok-list.second) (cuts_of c.in_ok-begun.begun) (cuts_of c.in_ok-list.list) (cuts_of c.in_ok-two.two) (got_value c.in_ok-begun.ensures) (ap cuts_of (sym c.in_ok-list.ensures.read.0)) (got_value c.in_ok-two.ensures) in
    let all = ap (λ (xs : trimmed.Exs). r.others trimmed src e xs c.expr.new.self.rest.now) two ∙ (rw c.expr.ensures.source at c.in_ok-all.ensures.reads) in
    read_on cut_of (e c.args.self.now.rest.now) _ (cut_of c.in_ok-list.second) c.expr.new.self.rest.now c.followed_by.result c.followed_by.new.self.rest.now second
    (read_followed cut_of _ (is (tok.Sign sign.ParenClose)) (trimmed.tuple c.args.opener.start) (cuts_of c.in_ok-all.all) c.others.new.self.rest.now c.tuple.result c.followed_by.result c.followed_by.new.self.rest.now all c.tuple.ensures c.followed_by.ensures.reads)

pub in_braces-returns-clause-reads : goal.in_braces-returns-clause-reads
unfolding r.in_braces
in_braces-returns-clause-reads t c =
    let src = c.args.self.now.src.now in
    let e = r.expr trimmed src c.args.depth in
    let all = ap (λ (xs : trimmed.Exs). r.others trimmed src e xs c.expr.new.self.rest.now) (got_value c.in_ok-begun.ensures) ∙ (rw c.expr.ensures.source at c.in_ok-all.ensures.reads) in
    read_on cut_of (e c.args.self.now.rest.now) _ (cut_of c.in_ok-first.first) c.expr.new.self.rest.now c.followed_by.result c.followed_by.new.self.rest.now c.in_ok-first.ensures.reads
    (read_followed cut_of _ (is (tok.Sign sign.BraceClose)) (trimmed.set_of c.args.opener.start) (cuts_of c.in_ok-all.all) c.others.new.self.rest.now c.set_of.result c.followed_by.result c.followed_by.new.self.rest.now all c.set_of.ensures c.followed_by.ensures.reads)

pub others-returns-in_err-list-clause-reads : goal.others-returns-in_err-list-clause-reads
others-returns-in_err-list-clause-reads t c =
    let p = err_from_is_err_and c.from_residual-in_err-list.result c.from_residual-in_err-list.ensures.1 in
    rw (p.1, p.2) (only_memory cuts_of _ cuts_of _ c.in_err-list.field-0.0 _ c.in_err-list.ensures)

pub arguments-returns-in_err-list-clause-reads : goal.arguments-returns-in_err-list-clause-reads
arguments-returns-in_err-list-clause-reads t c =
    let p = err_from_is_err_and c.from_residual-in_err-list.result c.from_residual-in_err-list.ensures.1 in
    rw (p.1, p.2) (only_memory cuts_of _ cuts_of _ c.in_err-list.field-0.0 _ c.in_err-list.ensures)

pub in_braces-returns-in_err-begun-clause-reads : goal.in_braces-returns-in_err-begun-clause-reads
in_braces-returns-in_err-begun-clause-reads t c =
    let p = err_from_is_err_and c.from_residual-in_err-begun.result c.from_residual-in_err-begun.ensures.1 in
    rw (p.1, p.2) (only_memory cuts_of _ cut_of _ c.in_err-begun.field-0.0 _ c.in_err-begun.ensures)

pub call-returns-in_err-begun-clause-reads : goal.call-returns-in_err-begun-clause-reads
call-returns-in_err-begun-clause-reads t c =
    let p = err_from_is_err_and c.from_residual-in_err-begun.result c.from_residual-in_err-begun.ensures.1 in
    rw (p.1, p.2) (only_memory cuts_of _ cut_of _ c.in_err-begun.field-0.0 _ c.in_err-begun.ensures)

pub tuple-returns-in_err-begun-clause-reads : goal.tuple-returns-in_err-begun-clause-reads
tuple-returns-in_err-begun-clause-reads t c =
    let p = err_from_is_err_and c.from_residual.result c.from_residual.ensures.1 in
    rw (p.1, p.2) (only_memory cuts_of _ cut_of _ c.in_err-begun.field-0.0 _ c.in_err-begun.ensures)

pub tuple-returns-in_err-two-clause-reads : goal.tuple-returns-in_err-two-clause-reads
tuple-returns-in_err-two-clause-reads t c =
    let p = err_from_is_err_and c.from_residual-in_err-two.result c.from_residual-in_err-two.ensures.1 in
    rw (p.1, p.2) (only_memory cuts_of _ cut_of _ c.in_err-two.field-0.0 _ c.in_err-two.ensures)

pub climb-returns-in_err-left-clause-reads : goal.climb-returns-in_err-left-clause-reads
climb-returns-in_err-left-clause-reads t c =
    let p = err_from_is_err_and c.from_residual-in_err-left.result c.from_residual-in_err-left.ensures.1 in
    rw (p.1, p.2) (only_memory cut_of _ cut_of _ c.in_err-left.field-0.0 _ c.in_err-left.ensures)

pub prefixed-returns-in_err-one-clause-reads : goal.prefixed-returns-in_err-one-clause-reads
prefixed-returns-in_err-one-clause-reads t c =
    let p = err_from_is_err_and c.from_residual-in_err-one.result c.from_residual-in_err-one.ensures.1 in
    rw (p.1, p.2) (only_memory cuts_of _ cut_of _ c.in_err-one.field-0.0 _ c.in_err-one.ensures)

pub postfix-returns-in_err-x-clause-reads : goal.postfix-returns-in_err-x-clause-reads
unfolding r.postfix
postfix-returns-in_err-x-clause-reads t c =
    let p = err_from_is_err_and c.from_residual.result c.from_residual.ensures.1 in
    rw (p.1, p.2) (fails cut_of cut_of _ _ c.in_err-x.field-0.0 c.operand.new.self.rest.now c.in_err-x.ensures.reads)

pub postfix-returns-clause-reads : goal.postfix-returns-clause-reads
unfolding r.postfix
postfix-returns-clause-reads t c =
    read_on cut_of _ _ (cut_of c.in_ok-x.x) c.operand.new.self.rest.now c.parts.result c.parts.new.self.rest.now c.in_ok-x.ensures.reads
    (rw c.operand.ensures.source at c.parts.ensures.reads)

pub infixed-returns-in_err-left-clause-reads : goal.infixed-returns-in_err-left-clause-reads
unfolding r.infixed
infixed-returns-in_err-left-clause-reads t c =
    let p = err_from_is_err_and c.from_residual.result c.from_residual.ensures.1 in
    rw (p.1, p.2) (fails cut_of cut_of _ _ c.in_err-left.field-0.0 c.level.new.self.rest.now c.in_err-left.ensures.reads)

pub in_parens-returns-in_err-x-clause-reads : goal.in_parens-returns-in_err-x-clause-reads
unfolding r.in_parens
in_parens-returns-in_err-x-clause-reads t c =
    let p = err_from_is_err_and c.from_residual.result c.from_residual.ensures.1 in
    rw (p.1, p.2) (fails cut_of cut_of _ _ c.in_err-x.field-0.0 c.expr.new.self.rest.now c.in_err-x.ensures.reads)

pub in_braces-returns-in_err-first-clause-reads : goal.in_braces-returns-in_err-first-clause-reads
unfolding r.in_braces
in_braces-returns-in_err-first-clause-reads t c =
    let p = err_from_is_err_and c.from_residual.result c.from_residual.ensures.1 in
    rw (p.1, p.2) (fails cut_of cut_of _ _ c.in_err-first.field-0.0 c.expr.new.self.rest.now c.in_err-first.ensures.reads)

pub in_braces-returns-in_err-all-clause-reads : goal.in_braces-returns-in_err-all-clause-reads
unfolding r.in_braces
in_braces-returns-in_err-all-clause-reads t c =
    let h = stopped_as _ _ _ _ (rw (c.expr.ensures.source, ← got_value c.in_ok-begun.ensures) at c.others.ensures.reads) _ c.in_err-all.was in
    let p = err_from_is_err_and c.from_residual-in_err-all.result c.from_residual-in_err-all.ensures.1 in
    rw (p.1, p.2) (read_on cut_of _ _ (cut_of c.in_ok-first.first) c.expr.new.self.rest.now (Err c.in_err-all.field-0.0) c.others.new.self.rest.now
    c.in_ok-first.ensures.reads
    (fails cuts_of cut_of _ _ c.in_err-all.field-0.0 c.others.new.self.rest.now h))

pub call-returns-in_err-expect-clause-reads : goal.call-returns-in_err-expect-clause-reads
unfolding r.call
call-returns-in_err-expect-clause-reads t c =
    let p = err_from_is_err_and c.from_residual.result c.from_residual.ensures.1 in
    rw (p.1, p.2) (not_there cut_of (is (tok.Sign sign.ParenOpen)) _ c.args.self.now.rest.now c.in_err-expect.field-0.0 c.expect.new.self.rest.now
    c.in_err-expect.ensures.reads)

pub call-returns-in_err-first-clause-reads : goal.call-returns-in_err-first-clause-reads
unfolding r.call
call-returns-in_err-first-clause-reads t c =
    let h = stopped_as _ _ _ _ (rw c.expect.ensures.source at c.expr.ensures.reads) _ c.in_err-first.was in
    let p = err_from_is_err_and c.from_residual-in_err-first.result c.from_residual-in_err-first.ensures.1 in
    rw (p.1, p.2) (read_behind cut_of (is (tok.Sign sign.ParenOpen)) _ c.args.self.now.rest.now c.expect.new.self.rest.now c.in_ok-expect.field-0
    (Err c.in_err-first.field-0.0) c.expr.new.self.rest.now c.in_ok-expect.ensures.reads
    (fails cut_of cut_of _ _ c.in_err-first.field-0.0 c.expr.new.self.rest.now h))

pub call-returns-in_err-all-clause-reads : goal.call-returns-in_err-all-clause-reads
unfolding r.call
call-returns-in_err-all-clause-reads t c =
    let first = rw c.expect.ensures.source at c.in_ok-first.ensures.reads in
    let h = stopped_as _ _ _ _ (rw (c.expr.ensures.source, c.expect.ensures.source, ← got_value c.in_ok-begun.ensures, c.arity.ensures)
    at c.arguments.ensures.reads) _ c.in_err-all.was in
    let p = err_from_is_err_and c.from_residual-in_err-all.result c.from_residual-in_err-all.ensures.1 in
    rw (p.1, p.2) (read_behind cut_of (is (tok.Sign sign.ParenOpen)) _ c.args.self.now.rest.now c.expect.new.self.rest.now c.in_ok-expect.field-0
    (Err c.in_err-all.field-0.0) c.arguments.new.self.rest.now c.in_ok-expect.ensures.reads
    (read_on cut_of _ _ (cut_of c.in_ok-first.first) c.expr.new.self.rest.now (Err c.in_err-all.field-0.0) c.arguments.new.self.rest.now first
    (fails cuts_of cut_of _ _ c.in_err-all.field-0.0 c.arguments.new.self.rest.now h)))

pub compared-returns-then-not-binds_at-clause-reads : goal.compared-returns-then-not-binds_at-clause-reads
compared-returns-then-not-binds_at-clause-reads t c =
    compared_stops c.args.self.now.src.now c.args.depth 3 0 c.in-Some.o c.args.self.now.rest.now _ c.in-Some.ensures (cut_of c.args.left)
    (sym (c.binds_at.ensures ∙ ap (r.binds_at 4) c.infix-op.ensures) ∙ c.if-not-binds_at.true)

pub compared-returns-in_err-right-clause-reads : goal.compared-returns-in_err-right-clause-reads
compared-returns-in_err-right-clause-reads t c =
    let h = stopped_as _ _ _ _ (rw c.skip.ensures.source at c.level.ensures.reads) _ c.in_err-right.was in
    let goes = compared_goes c.args.self.now.src.now c.args.depth 3 0 c.in-Some.o c.args.self.now.rest.now c.skip.new.self.rest.now
    (c.in-Some.ensures ∙ ap (λ z. c.in-Some.o ∷ z) (sym c.skip.ensures.rest)) (cut_of c.args.left)
    (sym (c.binds_at.ensures ∙ ap (r.binds_at 4) c.infix-op.ensures) ∙ c.if-not-binds_at.false) in
    let p = err_from_is_err_and c.from_residual.result c.from_residual.ensures.1 in
    rw (p.1, p.2) (read_same cut_of _ _ (Err c.in_err-right.field-0.0) c.level.new.self.rest.now goes
    (fails cut_of cut_of _ _ c.in_err-right.field-0.0 c.level.new.self.rest.now h))

pub compared-returns-clause-reads : goal.compared-returns-clause-reads
compared-returns-clause-reads t c =
    let right = rw c.skip.ensures.source at c.in_ok-right.ensures.reads in
    let goes = compared_goes c.args.self.now.src.now c.args.depth 3 0 c.in-Some.o c.args.self.now.rest.now c.skip.new.self.rest.now
    (c.in-Some.ensures ∙ ap (λ z. c.in-Some.o ∷ z) (sym c.skip.ensures.rest)) (cut_of c.args.left)
    (sym (c.binds_at.ensures ∙ ap (r.binds_at 4) c.infix-op.ensures) ∙ c.if-not-binds_at.false) in
    let row = c.row_in.ensures ∙ ap r.row_in c.infix-op.ensures in
    read_same cut_of _ _ c.join.result c.level.new.self.rest.now goes
    (read_on cut_of _ _ (cut_of c.in_ok-right.right) c.level.new.self.rest.now c.join.result c.level.new.self.rest.now right
    (made_of cut_of _ _ c.join.result c.level.new.self.rest.now refl (rw row at c.join.ensures)))

pub prefixed-returns-then-not-binds_at-clause-reads : goal.prefixed-returns-then-not-binds_at-clause-reads
prefixed-returns-then-not-binds_at-clause-reads t c =
    rw (prefix_passes c.args.self.now.src.now c.args.depth (c.args.height - 1) (8 - c.args.height) c.in-Some.o c.args.self.now.rest.now _
    c.in-Some.ensures (sym (c.binds_at.ensures ∙ ap (r.binds_at (8 - c.args.height)) c.prefix-op.ensures) ∙ c.if-not-binds_at.true))
    c.infixed-then-not-binds_at.ensures.reads

pub prefixed-returns-in_err-x-clause-reads : goal.prefixed-returns-in_err-x-clause-reads
prefixed-returns-in_err-x-clause-reads t c =
    let h = stopped_as _ _ _ _ (rw c.skip.ensures.source at c.level.ensures.reads) _ c.in_err-x.was in
    let goes = prefix_goes c.args.self.now.src.now c.args.depth (c.args.height - 1) (8 - c.args.height) c.in-Some.o c.args.self.now.rest.now
    c.skip.new.self.rest.now (c.in-Some.ensures ∙ ap (λ z. c.in-Some.o ∷ z) (sym c.skip.ensures.rest))
    (sym (c.binds_at.ensures ∙ ap (r.binds_at (8 - c.args.height)) c.prefix-op.ensures) ∙ c.if-not-binds_at.false) in
    let p = err_from_is_err_and c.from_residual.result c.from_residual.ensures.1 in
    rw (p.1, p.2) (read_same cut_of _ _ (Err c.in_err-x.field-0.0) c.level.new.self.rest.now goes
    (fails cut_of cut_of _ _ c.in_err-x.field-0.0 c.level.new.self.rest.now h))

pub prefixed-returns-clause-reads : goal.prefixed-returns-clause-reads
prefixed-returns-clause-reads t c =
    let x = rw c.skip.ensures.source at c.in_ok-x.ensures.reads in
    let goes = prefix_goes c.args.self.now.src.now c.args.depth (c.args.height - 1) (8 - c.args.height) c.in-Some.o c.args.self.now.rest.now
    c.skip.new.self.rest.now (c.in-Some.ensures ∙ ap (λ z. c.in-Some.o ∷ z) (sym c.skip.ensures.rest))
    (sym (c.binds_at.ensures ∙ ap (r.binds_at (8 - c.args.height)) c.prefix-op.ensures) ∙ c.if-not-binds_at.false) in
    let row = c.row_in.ensures ∙ ap r.row_in c.prefix-op.ensures in
    goes ∙ rw (x, ← row) (ap (λ (z : trimmed.Exs). got (trimmed.apply c.in-Some.o.start c.row_in.result z) c.level.new.self.rest.now)
    (got_value c.in_ok-one.ensures)
    ∙ ap (λ z. got z c.level.new.self.rest.now) (sym c.apply.ensures))
