-- Each function of reading leaves an end of the tokens that it was given, and so does each step of its loops.
use Rattle.std.proofs.Common.{ℕ, List, [], ◌∷◌, ◌++◌, arith, Bool, true, false, Option, Some, None}
use Rattle.kf_lex.specs.declared.token.Token.{Token}
use Rattle.kf_lex.specs.declared.token.Tok.TheVariants as t
use Rattle.kf_lex.specs.declared.token.Word.TheVariants as w
use Rattle.kf_lex.specs.declared.token.Sign.TheVariants as s
use Rattle.kf_ast.specs.TypeForms.{TypeForm}
use Rattle.kf_ast.specs.Sources.{ItemTree}
use Rattle.kf_parse.specs.Tokens.{is}
use Rattle.kf_parse.specs.Outcomes.{Parser, ◌>>=◌, pure, too_deep, where_true}
use Rattle.kf_parse.specs.Begins.{begins_declaration}
use Rattle.kf_parse.specs.Builders.{Builder}
use Rattle.kf_parse.specs.Reading as r
use Rattle.kf_parse.proofs.Loops.{Shrinks, ShrinksWhere, pure_shrinks, refuse_shrinks, then_shrinks, first_or_shrinks, repeat_shrinks}
use Rattle.kf_parse.proofs.Closed.{Closed, Started}
use Rattle.kf_parse.proofs.ClosedForms as forms

abbrev Left : {A : Type 0} → Parser A → Parser A → Type 0
Left p q = Shrinks p

started : {A : Type 0} (v v' : Option (Parser A)) → Started Left v v' → ShrinksWhere v
started (Some p) (Some q) h = h
started None None h = tt
started (Some p) None h = absurd h
started None (Some q) h = absurd h

deep_shrinks : (A : Type 0) → Shrinks {A = A} too_deep
deep_shrinks A ts = tt

abbrev shrinking : Closed
shrinking = record {
  R = Left;
  by_pure = pure_shrinks;
  by_refuse = refuse_shrinks;
  by_deep = deep_shrinks;
  by_deeper = λ q h ts. tt;
  by_then = λ p q f g h k. then_shrinks p f h k;
  by_first_or = λ f g p q k h. first_or_shrinks f p (λ o. started (f o) (g o) (k o)) h;
  by_repeat = λ step step' k st. repeat_shrinks step (λ o x. started (step o x) (step' o x) (k o x)) st;
}

where_shrinks : {A : Type 0} (b : Bool) (p : Parser A) → Shrinks p → ShrinksWhere (where_true b p)
where_shrinks true p h = h
where_shrinks false p h = tt

-- a part and what is made of it, behind a token that is tested
made_shrinks : {A B : Type 0} (b : Bool) (p : Parser A) (f : A → B) → Shrinks p → ShrinksWhere (where_true b (p >>= (λ a. pure (f a))))
made_shrinks b p f h = where_shrinks b (p >>= (λ a. pure (f a))) (then_shrinks p (λ a. pure (f a)) h (λ a. pure_shrinks (f a)))

pub number_shrinks : Shrinks r.number
number_shrinks = forms.number_kept shrinking

pub whole_shrinks : Shrinks r.whole
whole_shrinks = forms.whole_kept shrinking

pub type_shrinks : (d : ℕ) → Shrinks (r.type d)
type_shrinks d = forms.type_kept shrinking d d (omega arith)

-- each step of a loop over types behind commas
pub other_types_steps : (type : Parser TypeForm) → Shrinks type → (c : Token) (xs : List TypeForm) → ShrinksWhere (where_true (is (t.Sign s.Comma) c.kind) (type >>= (λ y. pure (xs ++ y ∷ []))))
other_types_steps type h c xs = made_shrinks (is (t.Sign s.Comma) c.kind) type (λ y. xs ++ y ∷ []) h

module _ (B : Builder) (src : List ℕ) where
  pub expr_shrinks : (d : ℕ) → Shrinks (r.expr B src d)
  expr_shrinks d = forms.expr_kept shrinking B src d d (omega arith)

  pub level_shrinks : (d h : ℕ) → Shrinks (r.level B src (r.expr B src d) h)
  level_shrinks d h = forms.level_kept shrinking B src (r.expr B src d) (r.expr B src d) (expr_shrinks d) h

  pub dist_shrinks : (d : ℕ) → Shrinks (r.dist B src d)
  dist_shrinks d = forms.dist_kept shrinking B src d d (omega arith)

  pub statements_shrinks : (d : ℕ) → Shrinks (r.statements B src d)
  statements_shrinks d = forms.statements_kept shrinking B src d d (omega arith)

  pub declaration_shrinks : (d : ℕ) (visible : Bool) (ds : B.Ds) → Shrinks (r.declaration B src d visible ds)
  declaration_shrinks d visible ds = forms.declaration_kept shrinking B src d d (omega arith) visible ds

  pub one_item_shrinks : Shrinks (r.one_item B src)
  one_item_shrinks = forms.one_item_kept shrinking B src

  pub program_shrinks : (d : ℕ) → Shrinks (r.program B src d)
  program_shrinks d = forms.program_kept shrinking B src d d (omega arith)

  -- each step of the other loops, in the order of the functions of reading
  pub parts_steps : (d : Token) (x : B.Ex) → ShrinksWhere (where_true (is (t.Sign s.Dot) d.kind) (r.number >>= (λ k. pure (B.part x k))))
  parts_steps d x = made_shrinks (is (t.Sign s.Dot) d.kind) r.number (λ k. B.part x k) number_shrinks

  pub operation_steps : (next : Parser B.Ex) → Shrinks next → (l : ℕ) (o : Token) (x : B.Ex) → ShrinksWhere (r.operation B src next l o x)
  operation_steps next h l o x = started _ _ (forms.operation_kept shrinking B src next next h l o x)

  pub others_steps : (expr : Parser B.Ex) → Shrinks expr → (c : Token) (xs : B.Exs) → ShrinksWhere (where_true (is (t.Sign s.Comma) c.kind) (expr >>= (λ y. pure (B.push xs y))))
  others_steps expr h c xs = made_shrinks (is (t.Sign s.Comma) c.kind) expr (λ y. B.push xs y) h

  pub cases_steps : (e : Parser B.Ex) → Shrinks e → (c : Token) (cs : B.Cs) → ShrinksWhere (where_true (is (t.Sign s.Comma) c.kind) (r.weighted B src e cs))
  cases_steps e h c cs = where_shrinks (is (t.Sign s.Comma) c.kind) (r.weighted B src e cs) (forms.weighted_kept shrinking B src e e h cs)

  pub statement_steps : (ss : Parser B.Ss) → Shrinks ss → (d : ℕ) (o : Token) (xs : B.Ss) → ShrinksWhere (r.pushed B src ss d xs (r.statement_by B src ss d o o.kind))
  statement_steps ss h d o xs = started _ _ (forms.pushed_kept shrinking B src ss ss h d d (omega arith) xs (r.statement_by B src ss d o o.kind) (r.statement_by B src ss d o o.kind)
      (forms.statement_by_kept shrinking B src ss ss h d d (omega arith) o o.kind))

  pub declaration_steps : (d : ℕ) (v : Token) (ds : B.Ds) → ShrinksWhere (where_true (begins_declaration v.kind) (r.declaration B src d (is (t.Word w.VisWord) v.kind) ds))
  declaration_steps d v ds = where_shrinks (begins_declaration v.kind) (r.declaration B src d (is (t.Word w.VisWord) v.kind) ds) (declaration_shrinks d (is (t.Word w.VisWord) v.kind) ds)

  pub other_items_steps : (c : Token) (xs : List ItemTree) → ShrinksWhere (where_true (is (t.Sign s.Comma) c.kind) (r.one_item B src >>= (λ y. pure (xs ++ y ∷ []))))
  other_items_steps c xs = made_shrinks (is (t.Sign s.Comma) c.kind) (r.one_item B src) (λ y. xs ++ y ∷ []) one_item_shrinks
