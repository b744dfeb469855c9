use Rattle.std.proofs.Common.{Ok, Err, sym, ap}
use Rattle.std.proofs.lemmas.Result.{err_from_is_err_and}
use Rattle.kf_ast.specs.Views.{case_tree, dist_tree}
use Rattle.kf_lex.specs.declared.token.Tok.TheVariants as tok
use Rattle.kf_lex.specs.declared.token.Sign.TheVariants as sign
use Rattle.kf_parse.specs.Outcomes.{got}
use Rattle.kf_parse.specs.Reading as r
use Rattle.kf_parse.specs.Tokens.{is}
use Rattle.kf_parse.specs.Views.{trimmed_of, all_of}
use Rattle.kf_parse.proofs.Failing.{fails}
use Rattle.kf_parse.proofs.Followed.{stopped_as, read_on, read_behind, not_there}
use Rattle.kf_parse.proofs.cursor.Cursor.choose.Goals as goal

pub returns-in_err-expect-clause-reads : goal.returns-in_err-expect-clause-reads
unfolding r.choose
returns-in_err-expect-clause-reads c =
    let p = err_from_is_err_and c.from_residual.result c.from_residual.ensures.1 in
    rw (p.1, p.2) (not_there (trimmed_of dist_tree) (is (tok.Sign sign.BraceOpen)) _ c.args.self.now.rest.now c.in_err-expect.field-0.0
    c.expect.new.self.rest.now c.in_err-expect.ensures.reads)

pub returns-in_err-first-clause-reads : goal.returns-in_err-first-clause-reads
unfolding r.choose
returns-in_err-first-clause-reads c =
    let p = err_from_is_err_and c.from_residual-in_err-first.result c.from_residual-in_err-first.ensures.1 in
    let h = stopped_as _ _ _ _ (rw (c.expect.ensures.source, c.new.ensures.items) at c.weighted.ensures.reads) _ c.in_err-first.was in
    rw (p.1, p.2) (read_behind (trimmed_of dist_tree) (is (tok.Sign sign.BraceOpen)) _ c.args.self.now.rest.now c.expect.new.self.rest.now
    c.in_ok-expect.field-0 (Err c.in_err-first.field-0.0) c.weighted.new.self.rest.now c.in_ok-expect.ensures.reads
    (fails (trimmed_of (all_of case_tree)) (trimmed_of dist_tree) _ _ c.in_err-first.field-0.0 c.weighted.new.self.rest.now h))

pub returns-in_err-cases-clause-reads : goal.returns-in_err-cases-clause-reads
unfolding r.choose
returns-in_err-cases-clause-reads c =
    let p = err_from_is_err_and c.from_residual-in_err-cases.result c.from_residual-in_err-cases.ensures.1 in
    let first = rw (c.expect.ensures.source, c.new.ensures.items) at c.in_ok-first.ensures.reads in
    let h = stopped_as _ _ _ _ (rw (c.weighted.ensures.source, c.expect.ensures.source) at c.cases.ensures.reads) _ c.in_err-cases.was in
    rw (p.1, p.2) (read_behind (trimmed_of dist_tree) (is (tok.Sign sign.BraceOpen)) _ c.args.self.now.rest.now c.expect.new.self.rest.now
    c.in_ok-expect.field-0 (Err c.in_err-cases.field-0.0) c.cases.new.self.rest.now c.in_ok-expect.ensures.reads
    (read_on (trimmed_of dist_tree) _ _ (trimmed_of (all_of case_tree) c.in_ok-first.first) c.weighted.new.self.rest.now
    (Err c.in_err-cases.field-0.0) c.cases.new.self.rest.now first
    (fails (trimmed_of (all_of case_tree)) (trimmed_of dist_tree) _ _ c.in_err-cases.field-0.0 c.cases.new.self.rest.now h)))

pub returns-in_err-expect-2-clause-reads : goal.returns-in_err-expect-2-clause-reads
unfolding r.choose
returns-in_err-expect-2-clause-reads c =
    let p = err_from_is_err_and c.from_residual-in_err-expect-2.result c.from_residual-in_err-expect-2.ensures.1 in
    let first = rw (c.expect.ensures.source, c.new.ensures.items) at c.in_ok-first.ensures.reads in
    let cases = rw (c.weighted.ensures.source, c.expect.ensures.source) at c.in_ok-cases.ensures.reads in
    rw (p.1, p.2) (read_behind (trimmed_of dist_tree) (is (tok.Sign sign.BraceOpen)) _ c.args.self.now.rest.now c.expect.new.self.rest.now
    c.in_ok-expect.field-0 (Err c.in_err-expect-2.field-0.0) c.expect-2.new.self.rest.now c.in_ok-expect.ensures.reads
    (read_on (trimmed_of dist_tree) _ _ (trimmed_of (all_of case_tree) c.in_ok-first.first) c.weighted.new.self.rest.now
    (Err c.in_err-expect-2.field-0.0) c.expect-2.new.self.rest.now first
    (read_on (trimmed_of dist_tree) _ _ (trimmed_of (all_of case_tree) c.in_ok-cases.cases) c.cases.new.self.rest.now
    (Err c.in_err-expect-2.field-0.0) c.expect-2.new.self.rest.now cases
    (not_there (trimmed_of dist_tree) (is (tok.Sign sign.BraceClose)) _ c.cases.new.self.rest.now c.in_err-expect-2.field-0.0
    c.expect-2.new.self.rest.now c.in_err-expect-2.ensures.reads))))

pub returns-clause-reads : goal.returns-clause-reads
unfolding r.choose
returns-clause-reads c =
    let first = rw (c.expect.ensures.source, c.new.ensures.items) at c.in_ok-first.ensures.reads in
    let cases = rw (c.weighted.ensures.source, c.expect.ensures.source) at c.in_ok-cases.ensures.reads in
    read_behind (trimmed_of dist_tree) (is (tok.Sign sign.BraceOpen)) _ c.args.self.now.rest.now c.expect.new.self.rest.now c.in_ok-expect.field-0
    (Ok c.choose.result) c.expect-2.new.self.rest.now c.in_ok-expect.ensures.reads
    (read_on (trimmed_of dist_tree) _ _ (trimmed_of (all_of case_tree) c.in_ok-first.first) c.weighted.new.self.rest.now (Ok c.choose.result)
    c.expect-2.new.self.rest.now first
    (read_on (trimmed_of dist_tree) _ _ (trimmed_of (all_of case_tree) c.in_ok-cases.cases) c.cases.new.self.rest.now (Ok c.choose.result)
    c.expect-2.new.self.rest.now cases
    (read_behind (trimmed_of dist_tree) (is (tok.Sign sign.BraceClose)) _ c.cases.new.self.rest.now c.expect-2.new.self.rest.now
    c.in_ok-expect-2.field-0 (Ok c.choose.result) c.expect-2.new.self.rest.now c.in_ok-expect-2.ensures.reads
    (ap (λ z. got z c.expect-2.new.self.rest.now) (sym c.choose.ensures)))))
