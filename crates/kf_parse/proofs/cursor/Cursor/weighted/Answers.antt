use Rattle.std.proofs.Common.{◌≡◌, Err, ℕ, List, Vec, ap, sym, ◌∙◌}
use Rattle.std.proofs.lemmas.Result.{err_from_is_err_and}
use Rattle.std.specs.declared.alloc.Global.{Global}
use Rattle.kf_ast.specs.declared.dist.Case.{Case}
use Rattle.kf_ast.specs.Views.{case_tree}
use Rattle.kf_lex.specs.declared.token.Token.{Token}
use Rattle.kf_lex.specs.declared.token.Tok.TheVariants as tok
use Rattle.kf_lex.specs.declared.token.Sign.TheVariants as sign
use Rattle.kf_parse.specs.declared.kept.Built.{Built}
use Rattle.kf_parse.specs.declared.kept.Trimmed.{Trimmed}
use Rattle.kf_parse.specs.Tokens.{is}
use Rattle.kf_parse.specs.Views.{cut_of, trimmed_of, all_of}
use Rattle.kf_parse.specs.Outcomes.{got, Parser, ◌>>=◌, pure, expect}
use Rattle.kf_parse.specs.Reading as r
use Rattle.kf_parse.specs.Trimmed.{trimmed}
use Rattle.kf_parse.proofs.Failing.{fails, made_of}
use Rattle.kf_parse.proofs.Behind.{expect_got}
use Rattle.kf_parse.proofs.Followed.{read_as, stopped_as, read_on, read_same, not_followed}
use Rattle.kf_parse.proofs.cursor.Cursor.weighted.Goals as goal

abbrev CaseVec : Type 0
CaseVec = Trimmed (Vec Case Global)

-- the cases and a value
abbrev Read : Type 0
Read = CaseVec × Built

module _ (e : Parser trimmed.Ex) where
  abbrev weigh : trimmed.Cs → trimmed.Ex → Parser trimmed.Cs
  weigh cs x = e >>= (λ y. pure (trimmed.push_case cs x y))

  abbrev behind : trimmed.Cs → trimmed.Ex → Parser trimmed.Cs
  behind cs x = expect (is (tok.Sign sign.Colon)) (λ c. weigh cs x)

module _ (src : List ℕ) (d : ℕ) where
  past_colon : (cases : CaseVec) (p q : Read) (ts us vs : List Token) → r.expr trimmed src d ts ≡ got (cut_of p.1) us → p.0 ≡ cases → expect (is (tok.Sign sign.Colon)) (λ c. pure p) us ≡ got q vs
      → r.weighted trimmed src (r.expr trimmed src d) (trimmed_of (all_of case_tree) cases) ts ≡ weigh (r.expr trimmed src d) (trimmed_of (all_of case_tree) q.0) (cut_of q.1) vs
  unfolding r.weighted
  past_colon cases p q ts us vs x same half =
      rw x (ap (λ (cs : CaseVec). behind (r.expr trimmed src d) (trimmed_of (all_of case_tree) cs) (cut_of p.1) us) (sym same)
      ∙ expect_got (is (tok.Sign sign.Colon)) (λ (o : Token). p) (λ (z : Read). weigh (r.expr trimmed src d) (trimmed_of (all_of case_tree) z.0) (cut_of z.1)) us vs q half)

pub returns-in_err-begun-clause-reads : goal.returns-in_err-begun-clause-reads
unfolding r.weighted
returns-in_err-begun-clause-reads c =
    let e = r.expr trimmed c.args.self.now.src.now c.args.depth in
    let h = stopped_as cut_of (e c.args.self.now.rest.now) c.expr.result c.expr.new.self.rest.now c.expr.ensures.reads c.in_err-begun.field-0.0 c.in_err-begun.ensures.stopped in
    let p = err_from_is_err_and c.from_residual.result c.from_residual.ensures.1 in
    rw (p.1, p.2) (fails cut_of (trimmed_of (all_of case_tree)) (e c.args.self.now.rest.now) (behind e (trimmed_of (all_of case_tree) c.args.cases)) c.in_err-begun.field-0.0 c.expr.new.self.rest.now h)

pub returns-in_err-half-clause-reads : goal.returns-in_err-half-clause-reads
unfolding r.weighted
returns-in_err-half-clause-reads c =
    let e = r.expr trimmed c.args.self.now.src.now c.args.depth in
    let cs = trimmed_of (all_of case_tree) c.args.cases in
    let x = read_as cut_of (e c.args.self.now.rest.now) c.expr.result c.expr.new.self.rest.now c.expr.ensures.reads c.in_ok-begun.begun.1 c.in_ok-begun.ensures.read.1 in
    let h = not_followed (trimmed_of (all_of case_tree)) (is (tok.Sign sign.Colon)) (λ (q : Read). weigh e cs (cut_of q.1)) c.in_ok-begun.begun c.expr.new.self.rest.now c.in_err-half.field-0.0 c.followed_by.new.self.rest.now c.in_err-half.ensures.reads in
    let p = err_from_is_err_and c.from_residual-in_err-half.result c.from_residual-in_err-half.ensures.1 in
    rw (p.1, p.2) (read_on (trimmed_of (all_of case_tree)) (e c.args.self.now.rest.now) (behind e cs) (cut_of c.in_ok-begun.begun.1) c.expr.new.self.rest.now (Err c.in_err-half.field-0.0) c.followed_by.new.self.rest.now x h)

pub returns-in_err-cases-clause-reads : goal.returns-in_err-cases-clause-reads
returns-in_err-cases-clause-reads c =
    let e = r.expr trimmed c.args.self.now.src.now c.args.depth in
    let x = read_as cut_of (e c.args.self.now.rest.now) c.expr.result c.expr.new.self.rest.now c.expr.ensures.reads c.in_ok-begun.begun.1 c.in_ok-begun.ensures.read.1 in
    let goes = past_colon c.args.self.now.src.now c.args.depth c.args.cases c.in_ok-begun.begun c.in_ok-half.half c.args.self.now.rest.now c.expr.new.self.rest.now c.followed_by.new.self.rest.now x c.in_ok-begun.ensures.read.0 c.in_ok-half.ensures.reads in
    let h = stopped_as cut_of (e c.followed_by.new.self.rest.now) c.expr-2.result c.expr-2.new.self.rest.now (rw (c.followed_by.ensures.source, c.expr.ensures.source) at c.expr-2.ensures.reads) c.in_err-cases.field-0.0 c.in_err-cases.ensures.stopped in
    let p = err_from_is_err_and c.from_residual-in_err-cases.result c.from_residual-in_err-cases.ensures.1 in
    rw (p.1, p.2) (read_same (trimmed_of (all_of case_tree)) _ _ (Err c.in_err-cases.field-0.0) c.expr-2.new.self.rest.now goes (fails cut_of (trimmed_of (all_of case_tree)) (e c.followed_by.new.self.rest.now) (λ y. pure (trimmed.push_case (trimmed_of (all_of case_tree) c.in_ok-half.half.0) (cut_of c.in_ok-half.half.1) y))
    c.in_err-cases.field-0.0 c.expr-2.new.self.rest.now h))

pub returns-clause-reads : goal.returns-clause-reads
returns-clause-reads c =
    let e = r.expr trimmed c.args.self.now.src.now c.args.depth in
    let x = read_as cut_of (e c.args.self.now.rest.now) c.expr.result c.expr.new.self.rest.now c.expr.ensures.reads c.in_ok-begun.begun.1 c.in_ok-begun.ensures.read.1 in
    let goes = past_colon c.args.self.now.src.now c.args.depth c.args.cases c.in_ok-begun.begun c.in_ok-half.half c.args.self.now.rest.now c.expr.new.self.rest.now c.followed_by.new.self.rest.now x c.in_ok-begun.ensures.read.0 c.in_ok-half.ensures.reads in
    let y = read_as cut_of (e c.followed_by.new.self.rest.now) c.expr-2.result c.expr-2.new.self.rest.now (rw (c.followed_by.ensures.source, c.expr.ensures.source) at c.expr-2.ensures.reads) c.in_ok-cases.weight c.in_ok-cases.ensures.read.1 in
    made_of (trimmed_of (all_of case_tree)) _ _ c.push_case.result c.expr-2.new.self.rest.now
    (goes ∙ rw y (ap (λ (q : Read). got (trimmed.push_case (trimmed_of (all_of case_tree) q.0) (cut_of q.1) (cut_of c.in_ok-cases.weight)) c.expr-2.new.self.rest.now) (sym c.in_ok-cases.ensures.read.0))) c.push_case.ensures
