use Rattle.std.proofs.Common.{◌≡◌, ℕ, List, ap, ◌∙◌}
use Rattle.std.proofs.lemmas.Result.{err_from_is_err_and}
use Rattle.kf_ast.specs.declared.dist.Dist.{Dist}
use Rattle.kf_ast.specs.declared.ty_tree.TyTree.{TyTree}
use Rattle.kf_ast.specs.Views.{dist_tree, type_form}
use Rattle.kf_ast.specs.TypeForms.{TypeForm}
use Rattle.kf_lex.specs.declared.token.Token.{Token}
use Rattle.kf_lex.specs.declared.token.Tok.TheVariants as tok
use Rattle.kf_lex.specs.declared.token.Sign.TheVariants as sign
use Rattle.kf_parse.specs.declared.kept.Trimmed.{Trimmed}
use Rattle.kf_parse.specs.Views.{trimmed_of}
use Rattle.kf_parse.specs.Outcomes.{got, Parser, and_then, pure, expect}
use Rattle.kf_parse.specs.Reading as r
use Rattle.kf_parse.specs.Tokens.{is}
use Rattle.kf_parse.specs.Trimmed.{trimmed}
use Rattle.kf_parse.proofs.Behind.{expect_got}
use Rattle.kf_parse.proofs.Failing.{fails, fails_as}
use Rattle.kf_parse.proofs.Followed.{read_as, stopped_as, read_same, expect_then, read_followed}
use Rattle.kf_parse.proofs.cursor.Cursor.type_and_dist.Goals as goal

module _ (src : List ℕ) (d : ℕ) (made : TypeForm → trimmed.Di → trimmed.Ds) where
  -- what stands behind the distribution, the type and the name
  abbrev ended : TypeForm → trimmed.Di → Parser trimmed.Ds
  ended y x = expect (is (tok.Sign sign.Semi)) (λ e. pure (made y x))

  abbrev given : TypeForm → Parser trimmed.Ds
  given y = expect (is (tok.Sign sign.Assign)) (λ g. λ us. and_then (r.dist trimmed src d us) (ended y))

  abbrev typed : Parser trimmed.Ds
  typed = expect (is (tok.Sign sign.Colon)) (λ c. λ us. and_then (r.type d us) given)

  past_type : (ts us vs : List Token) (o : Token) (y : TypeForm) → expect (is (tok.Sign sign.Colon)) pure ts ≡ got o us → r.type d us ≡ got y vs → typed ts ≡ given y vs
  past_type ts us vs o y e f = expect_got (is (tok.Sign sign.Colon)) (λ u. u) (λ c. λ ws. and_then (r.type d ws) given) ts us o e ∙ ap (λ v. and_then v given) f

pub returns-in_err-read-clause-reads : goal.returns-in_err-read-clause-reads
returns-in_err-read-clause-reads c made =
    let src = c.args.self.now.src.now in
    let d = c.args.depth in
    let ty = type_form c.in_ok-ty.ty in
    let dist = λ (g : Token). r.dist trimmed src d in
    let behind = expect (is (tok.Sign sign.Assign)) dist c.type_tree.new.self.rest.now in
    let y = past_type src d made c.args.self.now.rest.now c.expect.new.self.rest.now c.type_tree.new.self.rest.now c.in_ok-expect.field-0 ty c.in_ok-expect.ensures.reads c.in_ok-ty.ensures.reads in
    let g = stopped_as (trimmed_of dist_tree) behind c.given.result c.given.new.self.rest.now (rw (c.type_tree.ensures.source, c.expect.ensures.source) at c.given.ensures.reads) c.in_err-read.field-0.0 c.in_err-read.ensures.stopped in
    let p = err_from_is_err_and c.from_residual-in_err-read.result c.from_residual-in_err-read.ensures.1 in
    rw (p.1, p.2) (fails_as (λ (x : trimmed.Ds). x) (typed src d made c.args.self.now.rest.now) (and_then behind (ended src d made ty)) c.in_err-read.field-0.0 c.given.new.self.rest.now
    (y ∙ expect_then (is (tok.Sign sign.Assign)) dist (ended src d made ty) c.type_tree.new.self.rest.now)
    (fails (trimmed_of dist_tree) (λ (x : trimmed.Ds). x) behind (ended src d made ty) c.in_err-read.field-0.0 c.given.new.self.rest.now g))

pub returns-clause-reads : goal.returns-clause-reads
returns-clause-reads c made =
    let src = c.args.self.now.src.now in
    let d = c.args.depth in
    let ty = type_form c.in_ok-ty.ty in
    let dist = λ (g : Token). r.dist trimmed src d in
    let behind = expect (is (tok.Sign sign.Assign)) dist c.type_tree.new.self.rest.now in
    let view = λ (q : TyTree × Trimmed Dist). made (type_form q.0) (trimmed_of dist_tree q.1) in
    let y = past_type src d made c.args.self.now.rest.now c.expect.new.self.rest.now c.type_tree.new.self.rest.now c.in_ok-expect.field-0 ty c.in_ok-expect.ensures.reads c.in_ok-ty.ensures.reads in
    let e = read_as (trimmed_of dist_tree) behind c.given.result c.given.new.self.rest.now (rw (c.type_tree.ensures.source, c.expect.ensures.source) at c.given.ensures.reads) c.in_ok-read.read.1 c.in_ok-read.ensures.read.1 in
    let same = ap (λ (z : TyTree). made (type_form z) (trimmed_of dist_tree c.in_ok-read.read.1)) c.in_ok-read.ensures.read.0 in
    read_same view (typed src d made c.args.self.now.rest.now) (and_then behind (ended src d made ty)) c.followed_by.result c.followed_by.new.self.rest.now
    (y ∙ expect_then (is (tok.Sign sign.Assign)) dist (ended src d made ty) c.type_tree.new.self.rest.now)
    (read_followed view behind (is (tok.Sign sign.Semi)) (made ty) (trimmed_of dist_tree c.in_ok-read.read.1) c.given.new.self.rest.now c.in_ok-read.read c.followed_by.result c.followed_by.new.self.rest.now e same c.followed_by.ensures.reads)
