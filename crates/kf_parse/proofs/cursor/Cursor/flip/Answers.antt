use Rattle.std.proofs.Common.{ℕ, Ok, Err, sym, ap}
use Rattle.std.proofs.lemmas.Result.{err_from_is_err_and}
use Rattle.kf_ast.specs.Views.{dist_tree}
use Rattle.kf_lex.specs.declared.token.Tok.TheVariants as tok
use Rattle.kf_lex.specs.declared.token.Sign.TheVariants as sign
use Rattle.kf_parse.specs.Outcomes.{got}
use Rattle.kf_parse.specs.Reading as r
use Rattle.kf_parse.specs.Tokens.{is}
use Rattle.kf_parse.specs.Views.{trimmed_of}
use Rattle.kf_parse.proofs.Failing.{fails}
use Rattle.kf_parse.proofs.Followed.{read_on, read_behind, not_there}
use Rattle.kf_parse.proofs.cursor.Cursor.flip.Goals as goal

pub returns-in_err-expect-clause-reads : goal.returns-in_err-expect-clause-reads
unfolding r.flip
returns-in_err-expect-clause-reads c =
    let p = err_from_is_err_and c.from_residual-in_err-expect.result c.from_residual-in_err-expect.ensures.1 in
    rw (p.1, p.2) (read_on (trimmed_of dist_tree) _ _ c.in_ok-num.num c.number.new.self.rest.now (Err c.in_err-expect.field-0.0)
    c.expect.new.self.rest.now c.in_ok-num.ensures.reads
    (not_there (trimmed_of dist_tree) (is (tok.Sign sign.Slash)) _ c.number.new.self.rest.now c.in_err-expect.field-0.0 c.expect.new.self.rest.now
    c.in_err-expect.ensures.reads))

pub returns-in_err-den-clause-reads : goal.returns-in_err-den-clause-reads
unfolding r.flip
returns-in_err-den-clause-reads c =
    let p = err_from_is_err_and c.from_residual-in_err-den.result c.from_residual-in_err-den.ensures.1 in
    rw (p.1, p.2) (read_on (trimmed_of dist_tree) _ _ c.in_ok-num.num c.number.new.self.rest.now (Err c.in_err-den.field-0.0)
    c.number-2.new.self.rest.now c.in_ok-num.ensures.reads
    (read_behind (trimmed_of dist_tree) (is (tok.Sign sign.Slash)) _ c.number.new.self.rest.now c.expect.new.self.rest.now c.in_ok-expect.field-0
    (Err c.in_err-den.field-0.0) c.number-2.new.self.rest.now c.in_ok-expect.ensures.reads
    (fails (λ (k : ℕ). k) (trimmed_of dist_tree) _ _ c.in_err-den.field-0.0 c.number-2.new.self.rest.now c.in_err-den.ensures.reads)))

pub returns-clause-reads : goal.returns-clause-reads
unfolding r.flip
returns-clause-reads c =
    read_on (trimmed_of dist_tree) _ _ c.in_ok-num.num c.number.new.self.rest.now (Ok c.flip.result) c.number-2.new.self.rest.now
    c.in_ok-num.ensures.reads
    (read_behind (trimmed_of dist_tree) (is (tok.Sign sign.Slash)) _ c.number.new.self.rest.now c.expect.new.self.rest.now c.in_ok-expect.field-0
    (Ok c.flip.result) c.number-2.new.self.rest.now c.in_ok-expect.ensures.reads
    (rw c.in_ok-den.ensures.reads (ap (λ z. got z c.number-2.new.self.rest.now) (sym c.flip.ensures))))
