use Rattle.std.proofs.Common.{rules, arith, ℕ, Err, List, Vec, ◌≡◌, ◌-◌, refl, sym, ◌∙◌, ap}
use Rattle.std.proofs.lemmas.Grind.{common_steps}
use Rattle.std.proofs.lemmas.Result.{err_from_is_err_and}
use Rattle.std.specs.declared.alloc.Global.{Global}
use Rattle.kf_ast.specs.declared.dist.Dist.{Dist}
use Rattle.kf_ast.specs.declared.stmt.Stmt.{Stmt}
use Rattle.kf_ast.specs.Views.{stmt_tree, dist_tree}
use Rattle.kf_parse.specs.Views.{trimmed_of, all_of}
use Rattle.kf_lex.specs.declared.token.Token.{Token}
use Rattle.kf_lex.specs.declared.token.Tok.TheVariants as tok
use Rattle.kf_lex.specs.declared.token.Word.TheVariants as word
use Rattle.kf_lex.specs.declared.token.Sign.TheVariants as sign
use Rattle.kf_parse.specs.declared.kept.Trimmed.{Trimmed}
use Rattle.kf_parse.specs.Tokens.{is}
use Rattle.kf_parse.specs.Outcomes.{got, Parser, ◌>>=◌, and_then, pure, expect}
use Rattle.kf_parse.specs.Reading as r
use Rattle.kf_parse.specs.Trimmed.{trimmed}
use Rattle.kf_parse.proofs.Depths.{statements_step}
use Rattle.kf_parse.proofs.Behind.{expect_got}
use Rattle.kf_parse.proofs.Failing.{expected, fails, got_value, only_memory}
use Rattle.kf_parse.proofs.Followed.{read_as, stopped_as, read_on, read_behind, not_there, read_same, fails_behind, not_followed, read_followed}
use Rattle.kf_parse.proofs.Runs.{run_stops, run_stuck, run_deep, run_got, run_shorter}
use Rattle.kf_parse.proofs.Shrinks.{statements_shrinks}
use Rattle.kf_parse.proofs.cursor.Cursor.+stmts.Goals as goal

pub statements-returns-then-depth-eq0-clause-reads : goal.statements-returns-then-depth-eq0-clause-reads
unfolding r.statements
statements-returns-then-depth-eq0-clause-reads t c = search rules

pub statements-returns-clause-reads : goal.statements-returns-clause-reads
statements-returns-clause-reads t c = rw (statements_step trimmed c.args.self.now.src.now c.args.depth c.args.self.now.rest.now c.if-depth-eq0.false) c.all_statements.ensures.reads

abbrev Guard : Type 0
Guard = Trimmed Dist

-- a guard and a block
abbrev Read : Type 0
Read = Guard × Trimmed (Vec Stmt Global)

module _ (src : List ℕ) (d : ℕ) where
  abbrev block : Parser trimmed.Ss
  block = r.block trimmed src (r.statements trimmed src (d - 1)) d

  -- what is made of the block behind `else`
  abbrev other : (trimmed.Ss → trimmed.St) → Parser trimmed.St
  other made = block >>= (λ ys. pure (made ys))

  -- what is made of the blocks of a conditional
  abbrev branch : (trimmed.Ss → trimmed.Ss → trimmed.St) → trimmed.Ss → Parser trimmed.St
  branch made xs = expect (is (tok.Word word.ElseWord)) (λ e. other (made xs))

  past_else : (i : Token) (ts us vs ws : List Token) (x : Guard) (p q : Read) → r.dist trimmed src d ts ≡ got (trimmed_of dist_tree x) us → p.0 ≡ x → block us ≡ got (trimmed_of (all_of stmt_tree) p.1) vs
      → expect (is (tok.Word word.ElseWord)) (λ e. pure p) vs ≡ got q ws → r.if_else trimmed src (r.statements trimmed src (d - 1)) d i ts ≡ other (trimmed.if_else i.start (trimmed_of dist_tree q.0) (trimmed_of (all_of stmt_tree) q.1)) ws
  unfolding r.if_else
  past_else i ts us vs ws x p q dist same first half =
      rw (dist, first) (ap (λ (g : Guard). branch (trimmed.if_else i.start (trimmed_of dist_tree g)) (trimmed_of (all_of stmt_tree) p.1) vs) (sym same)
      ∙ expect_got (is (tok.Word word.ElseWord)) (λ (e : Token). p) (λ (z : Read). other (trimmed.if_else i.start (trimmed_of dist_tree z.0) (trimmed_of (all_of stmt_tree) z.1))) vs ws q half)

pub block-returns-clause-reads : goal.block-returns-clause-reads
unfolding r.block
block-returns-clause-reads t c =
    let view = trimmed_of (all_of stmt_tree) in
    let inner = r.statements trimmed c.args.self.now.src.now (c.args.depth - 1) in
    let goes = λ (p : Token). inner >>= (λ (xs : trimmed.Ss). expect (is (tok.Sign sign.BraceClose)) (λ q. pure xs)) in
    read_same view _ _ c.followed_by.result c.followed_by.new.self.rest.now (expected (is (tok.Sign sign.BraceOpen)) goes c.args.self.now.rest.now)
    (read_on view _ goes c.in_ok-expect.field-0 c.expect.new.self.rest.now c.followed_by.result c.followed_by.new.self.rest.now c.in_ok-expect.ensures.reads
    (read_followed view _ (is (tok.Sign sign.BraceClose)) (λ xs. xs) (view c.in_ok-list.list) c.statements.new.self.rest.now c.in_ok-list.list c.followed_by.result c.followed_by.new.self.rest.now
    (rw c.expect.ensures.source at c.in_ok-list.ensures.reads) refl c.followed_by.ensures.reads))

pub if_else-returns-in_err-begun-clause-reads : goal.if_else-returns-in_err-begun-clause-reads
unfolding r.if_else
if_else-returns-in_err-begun-clause-reads t c =
    let src = c.args.self.now.src.now in
    let d = c.args.depth in
    let h = stopped_as (trimmed_of (all_of stmt_tree)) (block src d c.dist.new.self.rest.now) c.block.result c.block.new.self.rest.now (rw c.dist.ensures.source at c.block.ensures.reads) c.in_err-begun.field-0.0 c.in_err-begun.ensures.stopped in
    let p = err_from_is_err_and c.from_residual-in_err-begun.result c.from_residual-in_err-begun.ensures.1 in
    rw (p.1, p.2) (fails_behind (trimmed_of (all_of stmt_tree)) (trimmed_of stmt_tree) (r.dist trimmed src d c.args.self.now.rest.now) (block src d) (λ x. branch src d (trimmed.if_else c.args.i.start x))
    (trimmed_of dist_tree c.in_ok-test.test) c.dist.new.self.rest.now c.in_err-begun.field-0.0 c.block.new.self.rest.now c.in_ok-test.ensures.reads h)

pub if_else-returns-in_err-half-clause-reads : goal.if_else-returns-in_err-half-clause-reads
unfolding r.if_else
if_else-returns-in_err-half-clause-reads t c =
    let src = c.args.self.now.src.now in
    let d = c.args.depth in
    let view = trimmed_of (all_of stmt_tree) in
    let made = trimmed.if_else c.args.i.start (trimmed_of dist_tree c.in_ok-test.test) in
    let first = read_as view (block src d c.dist.new.self.rest.now) c.block.result c.block.new.self.rest.now (rw c.dist.ensures.source at c.block.ensures.reads) c.in_ok-begun.begun.1 c.in_ok-begun.ensures.read.1 in
    let h = not_followed (trimmed_of stmt_tree) (is (tok.Word word.ElseWord)) (λ (q : Read). other src d (made (view q.1))) c.in_ok-begun.begun c.block.new.self.rest.now c.in_err-half.field-0.0 c.followed_by.new.self.rest.now c.in_err-half.ensures.reads in
    let p = err_from_is_err_and c.from_residual-in_err-half.result c.from_residual-in_err-half.ensures.1 in
    rw (p.1, p.2) (read_on (trimmed_of stmt_tree) (r.dist trimmed src d c.args.self.now.rest.now) (λ (x : trimmed.Di). block src d >>= branch src d (trimmed.if_else c.args.i.start x)) (trimmed_of dist_tree c.in_ok-test.test) c.dist.new.self.rest.now (Err c.in_err-half.field-0.0) c.followed_by.new.self.rest.now c.in_ok-test.ensures.reads
    (read_on (trimmed_of stmt_tree) (block src d c.dist.new.self.rest.now) (branch src d made) (view c.in_ok-begun.begun.1) c.block.new.self.rest.now (Err c.in_err-half.field-0.0) c.followed_by.new.self.rest.now first h))

pub if_else-returns-in_err-guard-clause-reads : goal.if_else-returns-in_err-guard-clause-reads
if_else-returns-in_err-guard-clause-reads t c =
    let src = c.args.self.now.src.now in
    let d = c.args.depth in
    let view = trimmed_of (all_of stmt_tree) in
    let first = read_as view (block src d c.dist.new.self.rest.now) c.block.result c.block.new.self.rest.now (rw c.dist.ensures.source at c.block.ensures.reads) c.in_ok-begun.begun.1 c.in_ok-begun.ensures.read.1 in
    let same = past_else src d c.args.i c.args.self.now.rest.now c.dist.new.self.rest.now c.block.new.self.rest.now c.followed_by.new.self.rest.now c.in_ok-test.test c.in_ok-begun.begun c.in_ok-half.half c.in_ok-test.ensures.reads c.in_ok-begun.ensures.read.0 first c.in_ok-half.ensures.reads in
    let h = stopped_as view (block src d c.followed_by.new.self.rest.now) c.block-2.result c.block-2.new.self.rest.now (rw (c.followed_by.ensures.source, c.block.ensures.source, c.dist.ensures.source) at c.block-2.ensures.reads) c.in_err-guard.field-0.0 c.in_err-guard.ensures.stopped in
    let p = err_from_is_err_and c.from_residual-in_err-guard.result c.from_residual-in_err-guard.ensures.1 in
    rw (p.1, p.2) (read_same (trimmed_of stmt_tree) _ _ (Err c.in_err-guard.field-0.0) c.block-2.new.self.rest.now same
    (fails view (trimmed_of stmt_tree) (block src d c.followed_by.new.self.rest.now) (λ ys. pure (trimmed.if_else c.args.i.start (trimmed_of dist_tree c.in_ok-half.half.0) (view c.in_ok-half.half.1) ys)) c.in_err-guard.field-0.0 c.block-2.new.self.rest.now h))

pub if_else-returns-clause-reads : goal.if_else-returns-clause-reads
if_else-returns-clause-reads t c =
    let src = c.args.self.now.src.now in
    let d = c.args.depth in
    let view = trimmed_of (all_of stmt_tree) in
    let first = read_as view (block src d c.dist.new.self.rest.now) c.block.result c.block.new.self.rest.now (rw c.dist.ensures.source at c.block.ensures.reads) c.in_ok-begun.begun.1 c.in_ok-begun.ensures.read.1 in
    let same = past_else src d c.args.i c.args.self.now.rest.now c.dist.new.self.rest.now c.block.new.self.rest.now c.followed_by.new.self.rest.now c.in_ok-test.test c.in_ok-begun.begun c.in_ok-half.half c.in_ok-test.ensures.reads c.in_ok-begun.ensures.read.0 first c.in_ok-half.ensures.reads in
    let second = read_as view (block src d c.followed_by.new.self.rest.now) c.block-2.result c.block-2.new.self.rest.now (rw (c.followed_by.ensures.source, c.block.ensures.source, c.dist.ensures.source) at c.block-2.ensures.reads) c.in_ok-guard.no c.in_ok-guard.ensures.read.1 in
    let made = ap (λ (q : Read). trimmed.if_else c.args.i.start (trimmed_of dist_tree q.0) (view q.1) (view c.in_ok-guard.no)) (sym c.in_ok-guard.ensures.read.0) ∙ sym c.if_else.ensures in
    same ∙ ap (λ o. and_then o (λ ys. pure (trimmed.if_else c.args.i.start (trimmed_of dist_tree c.in_ok-half.half.0) (view c.in_ok-half.half.1) ys))) second ∙ ap (λ (z : trimmed.St). got z c.block-2.new.self.rest.now) made

pub while_loop-returns-in_err-test-clause-reads : goal.while_loop-returns-in_err-test-clause-reads
unfolding r.while
while_loop-returns-in_err-test-clause-reads t c =
    let src = c.args.self.now.src.now in
    let d = c.args.depth in
    let p = err_from_is_err_and c.from_residual.result c.from_residual.ensures.1 in
    rw (p.1, p.2) (fails (trimmed_of dist_tree) (trimmed_of stmt_tree) (r.dist trimmed src d c.args.self.now.rest.now) (λ (x : trimmed.Di). block src d >>= (λ xs. pure (trimmed.while c.args.o.start x xs))) c.in_err-test.field-0.0 c.dist.new.self.rest.now c.in_err-test.ensures.reads)

pub while_loop-returns-in_err-guard-clause-reads : goal.while_loop-returns-in_err-guard-clause-reads
unfolding r.while
while_loop-returns-in_err-guard-clause-reads t c =
    let src = c.args.self.now.src.now in
    let d = c.args.depth in
    let h = stopped_as (trimmed_of (all_of stmt_tree)) (block src d c.dist.new.self.rest.now) c.block.result c.block.new.self.rest.now (rw c.dist.ensures.source at c.block.ensures.reads) c.in_err-guard.field-0.0 c.in_err-guard.ensures.stopped in
    let p = err_from_is_err_and c.from_residual-in_err-guard.result c.from_residual-in_err-guard.ensures.1 in
    rw (p.1, p.2) (fails_behind (trimmed_of (all_of stmt_tree)) (trimmed_of stmt_tree) (r.dist trimmed src d c.args.self.now.rest.now) (block src d) (λ x. λ xs. pure (trimmed.while c.args.o.start x xs))
    (trimmed_of dist_tree c.in_ok-test.test) c.dist.new.self.rest.now c.in_err-guard.field-0.0 c.block.new.self.rest.now c.in_ok-test.ensures.reads h)

pub while_loop-returns-clause-reads : goal.while_loop-returns-clause-reads
unfolding r.while
while_loop-returns-clause-reads t c =
    let src = c.args.self.now.src.now in
    let d = c.args.depth in
    let view = trimmed_of (all_of stmt_tree) in
    let body = read_as view (block src d c.dist.new.self.rest.now) c.block.result c.block.new.self.rest.now (rw c.dist.ensures.source at c.block.ensures.reads) c.in_ok-guard.body c.in_ok-guard.ensures.read.1 in
    let same = ap (λ (g : Guard). trimmed.while c.args.o.start (trimmed_of dist_tree g) (view c.in_ok-guard.body)) (sym c.in_ok-guard.ensures.read.0) ∙ sym c.while_loop.ensures in
    rw (c.in_ok-test.ensures.reads, body) (ap (λ (z : trimmed.St). got z c.block.new.self.rest.now) same)

pub all_statements-statements-smaller : goal.all_statements-statements-smaller
all_statements-statements-smaller t c =
    run_shorter trimmed c.args.self.now.src.now (r.statements trimmed c.args.self.now.src.now (c.args.depth - 1)) c.args.depth (trimmed_of (all_of stmt_tree) c.statements.list)
    (statements_shrinks trimmed c.args.self.now.src.now (c.args.depth - 1)) c.statement.new.self.rest.now (trimmed_of stmt_tree c.in_ok-next.next) c.statements.self.rest.now
    (sym c.at_statement.ensures ∙ c.statements-test.true) (rw c.statements.invariant.source at c.in_ok-next.ensures.reads)

pub all_statements-statements-preserved : goal.all_statements-statements-preserved
unfolding r.all_statements
all_statements-statements-preserved t c =
    let same = run_got trimmed c.args.self.now.src.now (r.statements trimmed c.args.self.now.src.now (c.args.depth - 1)) c.args.depth (trimmed_of (all_of stmt_tree) c.statements.list)
    (statements_shrinks trimmed c.args.self.now.src.now (c.args.depth - 1)) c.statement.new.self.rest.now (trimmed_of stmt_tree c.in_ok-next.next) c.statements.self.rest.now
    (sym c.at_statement.ensures ∙ c.statements-test.true) (rw c.statements.invariant.source at c.in_ok-next.ensures.reads) in
    let i = c.statements.invariant.rest in
    let l : trimmed.push_statement (trimmed_of (all_of stmt_tree) c.statements.list) (trimmed_of stmt_tree c.in_ok-next.next) ≡ trimmed_of (all_of stmt_tree) c.in_ok-list.list = got_value c.in_ok-list.ensures in
    record { source = search rules; rest = rw (← l) (i ∙ same) }

pub all_statements-returns-in_err-next-clause-reads : goal.all_statements-returns-in_err-next-clause-reads
all_statements-returns-in_err-next-clause-reads t c =
    let source = c.statements.invariant.source in
    let a = run_stuck trimmed c.args.self.now.src.now (r.statements trimmed c.args.self.now.src.now (c.args.depth - 1)) c.args.depth (trimmed_of (all_of stmt_tree) c.statements.list) c.statements.self.rest.now c.statement.new.self.rest.now (sym c.at_statement.ensures ∙ c.statements-test.true) in
    let b = run_deep trimmed c.args.self.now.src.now (r.statements trimmed c.args.self.now.src.now (c.args.depth - 1)) c.args.depth (trimmed_of (all_of stmt_tree) c.statements.list) c.statements.self.rest.now (sym c.at_statement.ensures ∙ c.statements-test.true) in
    let i = c.statements.invariant.rest in
    first_of (search (rules, a, b), grind (arith, common_steps, a, b))

pub all_statements-returns-clause-reads : goal.all_statements-returns-clause-reads
all_statements-returns-clause-reads t c =
    c.statements.invariant.rest ∙ run_stops trimmed c.args.self.now.src.now (r.statements trimmed c.args.self.now.src.now (c.args.depth - 1)) c.args.depth (trimmed_of (all_of stmt_tree) c.statements.list) c.statements.self.rest.now (sym c.at_statement.ensures ∙ c.statements-test.false)

pub block-returns-in_err-expect-clause-reads : goal.block-returns-in_err-expect-clause-reads
unfolding r.block
block-returns-in_err-expect-clause-reads t c =
    let p = err_from_is_err_and c.from_residual.result c.from_residual.ensures.1 in
    rw (p.1, p.2) (not_there (trimmed_of (all_of stmt_tree)) (is (tok.Sign sign.BraceOpen)) _ c.args.self.now.rest.now c.in_err-expect.field-0.0
    c.expect.new.self.rest.now c.in_err-expect.ensures.reads)

pub block-returns-in_err-list-clause-reads : goal.block-returns-in_err-list-clause-reads
unfolding r.block
block-returns-in_err-list-clause-reads t c =
    let h = stopped_as _ _ _ _ (rw c.expect.ensures.source at c.statements.ensures.reads) _ c.in_err-list.was in
    let p = err_from_is_err_and c.from_residual-in_err-list.result c.from_residual-in_err-list.ensures.1 in
    rw (p.1, p.2) (read_behind (trimmed_of (all_of stmt_tree)) (is (tok.Sign sign.BraceOpen)) _ c.args.self.now.rest.now c.expect.new.self.rest.now
    c.in_ok-expect.field-0 (Err c.in_err-list.field-0.0) c.statements.new.self.rest.now c.in_ok-expect.ensures.reads
    (fails (trimmed_of (all_of stmt_tree)) (trimmed_of (all_of stmt_tree)) _ _ c.in_err-list.field-0.0 c.statements.new.self.rest.now h))

pub if_else-returns-in_err-test-clause-reads : goal.if_else-returns-in_err-test-clause-reads
unfolding r.if_else
if_else-returns-in_err-test-clause-reads t c =
    let p = err_from_is_err_and c.from_residual.result c.from_residual.ensures.1 in
    rw (p.1, p.2) (fails (trimmed_of dist_tree) (trimmed_of stmt_tree) _ _ c.in_err-test.field-0.0 c.dist.new.self.rest.now
    c.in_err-test.ensures.reads)

pub all_statements-returns-in_err-list-clause-reads : goal.all_statements-returns-in_err-list-clause-reads
all_statements-returns-in_err-list-clause-reads t c =
    let p = err_from_is_err_and c.from_residual-in_err-list.result c.from_residual-in_err-list.ensures.1 in
    rw (p.1, p.2) (only_memory (trimmed_of (all_of stmt_tree)) _ (trimmed_of (all_of stmt_tree)) _ c.in_err-list.field-0.0 _ c.in_err-list.ensures)
