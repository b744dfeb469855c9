-- Readers of types, distributions, statements and programs leave the count of open brackets, and give up only where it is high.
use Rattle.std.proofs.Common.{◌≡◌, ℕ, zero, suc, ◌+◌, ◌≤◌, true, false, ℤ, pos, neg_ℤ, List, [], ◌∷◌, ◌++◌, refl, ap, subst, arith, IfSome, Bool}
use Rattle.kf_lex.specs.declared.token.Token.{Token}
use Rattle.kf_lex.specs.declared.token.Tok.{Tok}
use Rattle.kf_lex.specs.declared.token.Tok.TheVariants as t
use Rattle.kf_lex.specs.declared.token.Word.TheVariants as w
use Rattle.kf_lex.specs.declared.token.Sign.TheVariants as s
use Rattle.kf_ast.specs.TypeForms.{TypeForm, type_at, Boolean, Range, TupleOf, SetOf, types}
use Rattle.kf_ast.specs.Sources.{ItemTree, item}
use Rattle.kf_parse.specs.Grammar.{named}
use Rattle.kf_parse.specs.Depth.{opened, depth, IsShallow}
use Rattle.kf_parse.specs.Tokens.{is}
use Rattle.kf_parse.specs.Outcomes.{deep, Parser, ◌>>=◌, pure, too_deep, expect, where_true}
use Rattle.kf_parse.specs.Begins.{begins_declaration}
use Rattle.kf_parse.specs.Builders.{Builder}
use Rattle.kf_parse.specs.Reading as r
use Rattle.kf_parse.proofs.Told.{where_true_some}
use Rattle.kf_parse.proofs.ToldTokens.{is_same}
use Rattle.kf_parse.proofs.Sinks.{opens, Sunk, Leveled, Balanced, Behind, moves_as, pure_balanced, deep_balanced, then_balanced, behind_token, first_or_balanced, first_balanced, if_first_balanced, expect_balanced, repeat_balanced}
use Rattle.kf_parse.proofs.SinksExprs.{past, last, opening, closing, number_balanced, expr_balanced}

whole_balanced : (e : ℕ) → Balanced 0 0 e r.whole
unfolding r.whole
whole_balanced e = first_balanced 0 0 e (λ o. r.whole_by o o.kind) (λ o. by_kind o o.kind refl)
  where
    by_kind : (o : Token) (k : Tok) → o.kind ≡ k → IfSome (r.whole_by o k) (λ p. Behind 0 0 e o p)
    by_kind o (t.Number k) h = last 0 e o (pos k) h (λ n. refl)
    by_kind o (t.Sign s.Minus) h = past 0 0 e o _ h (λ n. refl) (then_balanced 0 0 e r.number _ (number_balanced e) (λ k. pure_balanced e (neg_ℤ (pos k))))
    by_kind o _ h = tt

range_balanced : (e : ℕ) (o : Token) (lo : ℤ) → Balanced 0 0 e (r.range o lo)
unfolding r.range
range_balanced e o lo = expect_balanced 0 0 e (is (t.Sign s.Range)) _ (λ u k.
    past 0 0 e u _ (is_same (t.Sign s.Range) u.kind k) (λ n. refl) (then_balanced 0 0 e r.whole _ (whole_balanced e) (λ hi. pure_balanced e (type_at o.start (Range lo hi)))))

module _ (d : ℕ) (type : Parser TypeForm) (h : Balanced 0 0 d type) where
  other_types_balanced : (xs : List TypeForm) → Balanced 0 0 d (r.other_types type xs)
  unfolding r.other_types
  other_types_balanced xs = repeat_balanced d _
      (λ c ys. where_true_some (is (t.Sign s.Comma) c.kind) _ _
      (λ k. past 0 0 d c _ (is_same (t.Sign s.Comma) c.kind k) (λ n. refl) (then_balanced 0 0 d type _ h (λ y. pure_balanced d (ys ++ y ∷ []))))) xs

  tuple_type_balanced : (p : Token) → Balanced 1 0 (suc d) (r.tuple_type type p)
  unfolding r.tuple_type
  tuple_type_balanced p =
      then_balanced 1 0 d type _ h (λ x.
      expect_balanced 1 0 (suc d) (is (t.Sign s.Comma)) _ (λ c k.
      past 1 0 (suc d) c _ (is_same (t.Sign s.Comma) c.kind k) (λ n. refl) (
      then_balanced 1 0 d type _ h (λ y.
      then_balanced 1 0 d (r.other_types type (x ∷ y ∷ [])) _ (other_types_balanced (x ∷ y ∷ [])) (λ xs.
      expect_balanced 1 0 (suc d) (is (t.Sign s.ParenClose)) _ (λ q l. closing (suc d) q (type_at p.start (TupleOf (types xs))) (is_same (t.Sign s.ParenClose) q.kind l) (λ n. refl)))))))

  base_by_balanced : (m : ℕ) (o : Token) (k : Tok) → o.kind ≡ k → IfSome (r.base_by type o k) (λ p. Behind 0 m (suc d) o p)
  base_by_balanced m o (t.Word w.BoolWord) e = last m (suc d) o (type_at o.start Boolean) e (λ n. refl)
  base_by_balanced m o (t.Number k) e = past 0 m (suc d) o (r.range o (pos k)) e (λ n. refl) (range_balanced (suc d) o (pos k))
  base_by_balanced m o (t.Sign s.Minus) e = past 0 m (suc d) o _ e (λ n. refl) (then_balanced 0 0 (suc d) r.number _ (number_balanced (suc d)) (λ k. range_balanced (suc d) o (neg_ℤ (pos k))))
  base_by_balanced m o (t.Sign s.ParenOpen) e = opening m (suc d) o (r.tuple_type type o) e (λ n. refl) (tuple_type_balanced o)
  base_by_balanced m o _ e = tt

  -- so many words `of` stand before it, and no more than so many sets of sets can follow
  sets_balanced : (n m : ℕ) → m + n ≡ suc d → Balanced 0 m (suc d) (r.sets type n)
  unfolding r.sets
  sets_balanced zero m e = subst (λ k. Balanced {A = TypeForm} 0 m k too_deep) (let same : m ≡ suc d = omega arith in same) (deep_balanced m)
  sets_balanced (suc n) m e = if_first_balanced 0 m (suc d) (is (t.Word w.SetWord)) _ _
      (λ o k. behind_token 0 m 0 m (suc d) o _ (moves_as o 0 m 0 m (is_same (t.Word w.SetWord) o.kind k) (λ i. refl)) (
      expect_balanced 0 m (suc d) (is (t.Word w.OfWord)) _ (λ f l.
      behind_token 0 m 0 (suc m) (suc d) f _ (moves_as f 0 m 0 (suc m) (is_same (t.Word w.OfWord) f.kind l) (λ i. ap (opens i) (omega arith))) (
      then_balanced 0 (suc m) (suc d) (r.sets type n) _ (sets_balanced n (suc m) (omega arith)) (λ x. pure_balanced (suc d) (type_at o.start (SetOf x)))))))
      (first_balanced 0 m (suc d) (λ o. r.base_by type o o.kind) (λ o. base_by_balanced m o o.kind refl))

type_balanced : (d : ℕ) → Balanced 0 0 d (r.type d)
unfolding r.type
type_balanced zero = deep_balanced 0
type_balanced (suc d) = sets_balanced d (r.type d) (type_balanced d) (suc d) 0 (omega arith)

module _ (B : Builder) (src : List ℕ) where
  module _ (d : ℕ) (e : Parser B.Ex) (h : Balanced 0 0 d e) where
    weighted_balanced : (cs : B.Cs) → Balanced 0 0 d (r.weighted B src e cs)
    unfolding r.weighted
    weighted_balanced cs = then_balanced 0 0 d e _ h (λ x. expect_balanced 0 0 d (is (t.Sign s.Colon)) _ (λ c k.
        past 0 0 d c _ (is_same (t.Sign s.Colon) c.kind k) (λ n. refl) (then_balanced 0 0 d e _ h (λ y. pure_balanced d (B.push_case cs x y)))))

    cases_balanced : (cs : B.Cs) → Balanced 0 0 d (r.cases B src e cs)
    unfolding r.cases
    cases_balanced cs = repeat_balanced d _
        (λ c ds. where_true_some (is (t.Sign s.Comma) c.kind) _ _ (λ k. past 0 0 d c _ (is_same (t.Sign s.Comma) c.kind k) (λ n. refl) (weighted_balanced ds))) cs

    choose_balanced : (c : Token) → Balanced 0 0 (suc d) (r.choose B src e c)
    unfolding r.choose
    choose_balanced c = expect_balanced 0 0 (suc d) (is (t.Sign s.BraceOpen)) _ (λ p k.
        opening 0 (suc d) p _ (is_same (t.Sign s.BraceOpen) p.kind k) (λ n. refl) (
        then_balanced 1 0 d (r.weighted B src e B.no_cases) _ (weighted_balanced B.no_cases) (λ x.
        then_balanced 1 0 d (r.cases B src e x) _ (cases_balanced x) (λ cs.
        expect_balanced 1 0 (suc d) (is (t.Sign s.BraceClose)) _ (λ q l. closing (suc d) q (B.choose c.start cs) (is_same (t.Sign s.BraceClose) q.kind l) (λ n. refl))))))

    uniform_balanced : (u : Token) → Balanced 0 0 d (r.uniform B src e u)
    unfolding r.uniform
    uniform_balanced u = then_balanced 0 0 d e _ h (λ x. if_first_balanced 0 0 d (is (t.Sign s.Range)) _ _
        (λ o k. past 0 0 d o _ (is_same (t.Sign s.Range) o.kind k) (λ n. refl) (then_balanced 0 0 d e _ h (λ y. pure_balanced d (B.uniform_range u.start x y))))
        (pure_balanced d (B.uniform_set u.start x)))

  flip_balanced : (d : ℕ) (f : Token) → Balanced 0 0 d (r.flip B src f)
  unfolding r.flip
  flip_balanced d f = then_balanced 0 0 d r.number _ (number_balanced d) (λ j. expect_balanced 0 0 d (is (t.Sign s.Slash)) _ (λ o k.
      past 0 0 d o _ (is_same (t.Sign s.Slash) o.kind k) (λ n. refl) (then_balanced 0 0 d r.number _ (number_balanced d) (λ i. pure_balanced d (B.flip f.start j i)))))

  dist_by_balanced : (d : ℕ) (o : Token) (k : Tok) → o.kind ≡ k → IfSome (r.dist_by B src d o k) (λ p. Behind 0 0 (suc d) o p)
  dist_by_balanced d o (t.Word w.UniformWord) e = past 0 0 (suc d) o (r.uniform B src (r.expr B src (suc d)) o) e (λ n. refl) (uniform_balanced (suc d) (r.expr B src (suc d)) (expr_balanced B src (suc d)) o)
  dist_by_balanced d o (t.Word w.ChooseWord) e = past 0 0 (suc d) o (r.choose B src (r.expr B src d) o) e (λ n. refl) (choose_balanced d (r.expr B src d) (expr_balanced B src d) o)
  dist_by_balanced d o (t.Word w.FlipWord) e = past 0 0 (suc d) o (r.flip B src o) e (λ n. refl) (flip_balanced (suc d) o)
  dist_by_balanced d o _ e = tt

  dist_balanced : (d : ℕ) → Balanced 0 0 d (r.dist B src d)
  unfolding r.dist
  dist_balanced zero = deep_balanced 0
  dist_balanced (suc d) = first_or_balanced 0 0 (suc d) (λ o. r.dist_by B src d o o.kind) _ (λ o. dist_by_balanced d o o.kind refl)
      (then_balanced 0 0 (suc d) (r.expr B src (suc d)) _ (expr_balanced B src (suc d)) (λ x. pure_balanced (suc d) (B.sure x)))

  -- the statements of a block are those of one depth less
  module _ (d : ℕ) (statements : Parser B.Ss) (h : Balanced 0 0 d statements) where
    block_balanced : Balanced 0 0 (suc d) (r.block B src statements (suc d))
    unfolding r.block
    block_balanced = expect_balanced 0 0 (suc d) (is (t.Sign s.BraceOpen)) _ (λ p k.
        opening 0 (suc d) p _ (is_same (t.Sign s.BraceOpen) p.kind k) (λ n. refl) (
        then_balanced 1 0 d statements _ h (λ xs.
        expect_balanced 1 0 (suc d) (is (t.Sign s.BraceClose)) _ (λ q l. closing (suc d) q xs (is_same (t.Sign s.BraceClose) q.kind l) (λ n. refl)))))

    semicolon_balanced : {A : Type 0} (a : A) → Balanced 0 0 (suc d) (expect (is (t.Sign s.Semi)) (λ e. pure a))
    semicolon_balanced a = expect_balanced 0 0 (suc d) (is (t.Sign s.Semi)) _ (λ o k. last 0 (suc d) o a (is_same (t.Sign s.Semi) o.kind k) (λ n. refl))

    assign_balanced : (n : Token) → Balanced 0 0 (suc d) (r.assign B src statements (suc d) n)
    unfolding r.assign
    assign_balanced n = expect_balanced 0 0 (suc d) (is (t.Sign s.Assign)) _ (λ u k.
        past 0 0 (suc d) u _ (is_same (t.Sign s.Assign) u.kind k) (λ i. refl) (then_balanced 0 0 (suc d) (r.dist B src (suc d)) _ (dist_balanced (suc d)) (λ x. semicolon_balanced (B.assign n.start (named src n) x))))

    observe_balanced : (o : Token) → Balanced 0 0 (suc d) (r.observe B src statements (suc d) o)
    unfolding r.observe
    observe_balanced o = then_balanced 0 0 (suc d) (r.dist B src (suc d)) _ (dist_balanced (suc d)) (λ x. semicolon_balanced (B.observe o.start x))

    if_else_balanced : (i : Token) → Balanced 0 0 (suc d) (r.if_else B src statements (suc d) i)
    unfolding r.if_else
    if_else_balanced i =
        then_balanced 0 0 (suc d) (r.dist B src (suc d)) _ (dist_balanced (suc d)) (λ x.
        then_balanced 0 0 (suc d) (r.block B src statements (suc d)) _ block_balanced (λ xs.
        expect_balanced 0 0 (suc d) (is (t.Word w.ElseWord)) _ (λ e k.
        past 0 0 (suc d) e _ (is_same (t.Word w.ElseWord) e.kind k) (λ n. refl) (
        then_balanced 0 0 (suc d) (r.block B src statements (suc d)) _ block_balanced (λ ys. pure_balanced (suc d) (B.if_else i.start x xs ys))))))

    while_balanced : (o : Token) → Balanced 0 0 (suc d) (r.while B src statements (suc d) o)
    unfolding r.while
    while_balanced o =
        then_balanced 0 0 (suc d) (r.dist B src (suc d)) _ (dist_balanced (suc d)) (λ x.
        then_balanced 0 0 (suc d) (r.block B src statements (suc d)) _ block_balanced (λ xs. pure_balanced (suc d) (B.while o.start x xs)))

    -- the statement behind its first token, put to those before it
    pushed_behind : (xs : B.Ss) (o : Token) {k : Tok} (p : Parser B.St) → o.kind ≡ k → ((n : ℕ) → opened (opens n 0) k ≡ opens n 0) → Balanced 0 0 (suc d) p
        → Behind 0 0 (suc d) o (p >>= (λ x. pure (B.push_statement xs x)))
    pushed_behind xs o p e flat k = past 0 0 (suc d) o _ e flat (then_balanced 0 0 (suc d) p _ k (λ x. pure_balanced (suc d) (B.push_statement xs x)))

    pushed_balanced : (xs : B.Ss) (o : Token) (k : Tok) → o.kind ≡ k → IfSome (r.pushed B src statements (suc d) xs (r.statement_by B src statements (suc d) o k)) (λ p. Behind 0 0 (suc d) o p)
    pushed_balanced xs o (t.Word w.SkipWord) e = pushed_behind xs o _ e (λ n. refl) (semicolon_balanced (B.skip o.start))
    pushed_balanced xs o t.Name e = pushed_behind xs o _ e (λ n. refl) (assign_balanced o)
    pushed_balanced xs o (t.Word w.ObserveWord) e = pushed_behind xs o _ e (λ n. refl) (observe_balanced o)
    pushed_balanced xs o (t.Word w.IfWord) e = pushed_behind xs o _ e (λ n. refl) (if_else_balanced o)
    pushed_balanced xs o (t.Word w.WhileWord) e = pushed_behind xs o _ e (λ n. refl) (while_balanced o)
    pushed_balanced xs o _ e = tt

    all_statements_balanced : Balanced 0 0 (suc d) (r.all_statements B src statements (suc d))
    unfolding r.all_statements
    all_statements_balanced = repeat_balanced (suc d) _ (λ o xs. pushed_balanced xs o o.kind refl) B.no_statements

  statements_balanced : (d : ℕ) → Balanced 0 0 d (r.statements B src d)
  unfolding r.statements
  statements_balanced zero = deep_balanced 0
  statements_balanced (suc d) = all_statements_balanced d (r.statements B src d) (statements_balanced d)

  declaration_balanced : (d : ℕ) (visible : Bool) (ds : B.Ds) → Balanced 0 0 d (r.declaration B src d visible ds)
  unfolding r.declaration
  declaration_balanced d visible ds =
      expect_balanced 0 0 d (is t.Name) _ (λ n hn. past 0 0 d n _ (is_same t.Name n.kind hn) (λ i. refl) (
      expect_balanced 0 0 d (is (t.Sign s.Colon)) _ (λ c hc. past 0 0 d c _ (is_same (t.Sign s.Colon) c.kind hc) (λ i. refl) (
      then_balanced 0 0 d (r.type d) _ (type_balanced d) (λ y.
      expect_balanced 0 0 d (is (t.Sign s.Assign)) _ (λ u hu. past 0 0 d u _ (is_same (t.Sign s.Assign) u.kind hu) (λ i. refl) (
      then_balanced 0 0 d (r.dist B src d) _ (dist_balanced d) (λ x.
      expect_balanced 0 0 d (is (t.Sign s.Semi)) _ (λ e he. last 0 d e (B.push_declaration ds visible (named src n) y x) (is_same (t.Sign s.Semi) e.kind he) (λ i. refl))))))))))

  declarations_balanced : (d : ℕ) → Balanced 0 0 d (r.declarations B src d)
  unfolding r.declarations
  declarations_balanced d = repeat_balanced d _ (λ v ds. by_kind v v.kind ds refl) B.no_declarations
    where
      by_kind : (v : Token) (k : Tok) (ds : B.Ds) → v.kind ≡ k → IfSome (where_true (begins_declaration k) (r.declaration B src d (is (t.Word w.VisWord) k) ds)) (λ p. Behind 0 0 d v p)
      by_kind v (t.Word w.VarWord) ds e = past 0 0 d v _ e (λ n. refl) (declaration_balanced d false ds)
      by_kind v (t.Word w.VisWord) ds e = past 0 0 d v _ e (λ n. refl) (declaration_balanced d true ds)
      by_kind v _ ds e = tt

  one_item_balanced : (d : ℕ) → Balanced 0 0 d (r.one_item B src)
  unfolding r.one_item
  one_item_balanced d = first_balanced 0 0 d (λ o. r.item_by B src o o.kind) (λ o. by_kind o o.kind refl)
    where
      by_kind : (o : Token) (k : Tok) → o.kind ≡ k → IfSome (r.item_by B src o k) (λ p. Behind 0 0 d o p)
      by_kind o t.Name e = last 0 d o (item false (named src o)) e (λ n. refl)
      by_kind o (t.Word w.OldWord) e = past 0 0 d o _ e (λ n. refl) (
          expect_balanced 0 0 d (is t.Name) _ (λ n hn. last 0 d n (item true (named src n)) (is_same t.Name n.kind hn) (λ i. refl)))
      by_kind o _ e = tt

  other_items_balanced : (d : ℕ) (xs : List ItemTree) → Balanced 0 0 d (r.other_items B src xs)
  unfolding r.other_items
  other_items_balanced d xs = repeat_balanced d _
      (λ c ys. where_true_some (is (t.Sign s.Comma) c.kind) _ _
      (λ k. past 0 0 d c _ (is_same (t.Sign s.Comma) c.kind k) (λ n. refl) (then_balanced 0 0 d (r.one_item B src) _ (one_item_balanced d) (λ y. pure_balanced d (ys ++ y ∷ []))))) xs

  target_balanced : (d : ℕ) → Balanced 0 0 d (r.target B src)
  unfolding r.target r.items
  target_balanced d = if_first_balanced 0 0 d (is (t.Word w.AboutWord)) (λ o. r.items B src) (pure [])
      (λ o k. past 0 0 d o (r.items B src) (is_same (t.Word w.AboutWord) o.kind k) (λ n. refl) (
      then_balanced 0 0 d (r.one_item B src) _ (one_item_balanced d) (λ x.
      then_balanced 0 0 d (r.other_items B src (x ∷ [])) _ (other_items_balanced d (x ∷ [])) (λ xs.
      expect_balanced 0 0 d (is (t.Sign s.Semi)) _ (λ e he. last 0 d e xs (is_same (t.Sign s.Semi) e.kind he) (λ n. refl))))))
      (pure_balanced d [])

  pub program_balanced : (d : ℕ) → Balanced 0 0 d (r.program B src d)
  unfolding r.program
  program_balanced d =
      then_balanced 0 0 d (r.declarations B src d) _ (declarations_balanced d) (λ ds.
      then_balanced 0 0 d (r.target B src) _ (target_balanced d) (λ xs.
      then_balanced 0 0 d (r.statements B src d) _ (statements_balanced d) (λ ss. pure_balanced d (B.source ds xs ss))))

  -- where reading gives up, as many stand open as it was to go deep
  pub gives_up : (d : ℕ) (ts : List Token) → r.program B src d ts ≡ deep → (front : List Token) × (rest : List Token) × (ts ≡ front ++ rest) × (d ≤ depth front)
  gives_up d ts e =
      let sunk : Sunk 0 0 d ts = subst (λ o. Leveled 0 0 d ts o) e ((program_balanced d).leveled ts) in
      (sunk.front, sunk.rest, sunk.whole, let h = sunk.stands 0 in omega arith)

  -- so that it reads all tokens of which no more than 64 stand open
  pub not_deep : (ts : List Token) → IsShallow ts → r.program B src 65 ts ≡ deep → ⊥
  not_deep ts shallow e =
      let sunk = gives_up 65 ts e in
      let low = shallow sunk.0 sunk.1 sunk.2 in
      let high = sunk.3 in
      omega arith
