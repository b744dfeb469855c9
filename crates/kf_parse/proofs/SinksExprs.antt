-- Readers of expressions and distributions leave the count of open brackets, and give up only where it is high.
use Rattle.std.proofs.Common.{◌≡◌, ℕ, zero, suc, ◌+◌, ◌-◌, ◌==◌, Bool, true, false, if◌then◌else◌, List, refl, ◌∙◌, ap, arith, Option, Some, None, IfSome}
use Rattle.kf_ops.specs.declared.row.Op.{Op}
use Rattle.kf_lex.specs.declared.token.Token.{Token}
use Rattle.kf_lex.specs.declared.token.Tok.{Tok}
use Rattle.kf_lex.specs.declared.token.Tok.TheVariants as t
use Rattle.kf_lex.specs.declared.token.Word.TheVariants as w
use Rattle.kf_lex.specs.declared.token.Sign.TheVariants as s
use Rattle.kf_parse.specs.Operators.{arity_of}
use Rattle.kf_parse.specs.OperatorTokens.{infix_op, prefix_op, called_op, row_of}
use Rattle.kf_parse.specs.Grammar.{named}
use Rattle.kf_parse.specs.Depth.{opened}
use Rattle.kf_parse.specs.Tokens.{is}
use Rattle.kf_parse.specs.Outcomes.{Parser, pure}
use Rattle.kf_parse.specs.Builders.{Builder}
use Rattle.kf_parse.specs.Reading as r
use Rattle.kf_parse.proofs.Told.{where_true_some}
use Rattle.kf_parse.proofs.ToldTokens.{is_same}
use Rattle.kf_parse.proofs.Sinks.{opens, above, Balanced, Behind, moves_as, pure_balanced, deep_balanced, then_balanced, behind_token, first_or_balanced, first_balanced, expect_balanced, repeat_balanced}

-- a token that is no bracket and neither `set` nor `of`
pub past : {A : Type 0} (i m e : ℕ) (o : Token) {k : Tok} (p : Parser A) → o.kind ≡ k → ((n : ℕ) → opened (opens (above i n) m) k ≡ opens (above i n) 0) → Balanced i 0 e p → Behind i m e o p
past i m e o p is_kind flat h = behind_token i m i 0 e o p (moves_as o i m i 0 is_kind flat) h

-- the last of one by itself
pub last : {A : Type 0} (m e : ℕ) (o : Token) {k : Tok} (a : A) → o.kind ≡ k → ((n : ℕ) → opened (opens n m) k ≡ opens n 0) → Behind 0 m e o (pure a)
last m e o a is_kind flat = past 0 m e o (pure a) is_kind flat (pure_balanced e a)

pub opening : {A : Type 0} (m e : ℕ) (o : Token) {k : Tok} (p : Parser A) → o.kind ≡ k → ((n : ℕ) → opened (opens n m) k ≡ opens (n + 1) 0) → Balanced 1 0 e p → Behind 0 m e o p
opening m e o p is_kind opens_one h = behind_token 0 m 1 0 e o p (moves_as o 0 m 1 0 is_kind (λ n. opens_one n ∙ ap (λ b. opens b 0) (omega arith))) h

pub closing : {A : Type 0} (e : ℕ) (o : Token) {k : Tok} (a : A) → o.kind ≡ k → ((n : ℕ) → opened (opens n 0) k ≡ opens (n - 1) 0) → Behind 1 0 e o (pure a)
closing e o a is_kind closes_one = behind_token 1 0 0 0 e o (pure a) (moves_as o 1 0 0 0 is_kind (λ n. closes_one (suc n) ∙ ap (λ b. opens b 0) (omega arith))) (pure_balanced e a)

infix_flat : (k : Tok) (l : ℕ) → r.binds_at l (infix_op k) ≡ true → (n : ℕ) → opened (opens n 0) k ≡ opens n 0
infix_flat (t.Sign s.ParenOpen) l e n = absurd (let no : false ≡ true = e in cc)
infix_flat (t.Sign s.BraceOpen) l e n = absurd (let no : false ≡ true = e in cc)
infix_flat (t.Sign s.ParenClose) l e n = absurd (let no : false ≡ true = e in cc)
infix_flat (t.Sign s.BraceClose) l e n = absurd (let no : false ≡ true = e in cc)
infix_flat (t.Word w.OfWord) l e n = absurd (let no : false ≡ true = e in cc)
infix_flat _ l e n = refl

prefix_flat : (k : Tok) (l : ℕ) → r.binds_at l (prefix_op k) ≡ true → (n : ℕ) → opened (opens n 0) k ≡ opens n 0
prefix_flat (t.Sign s.ParenOpen) l e n = absurd (let no : false ≡ true = e in cc)
prefix_flat (t.Sign s.BraceOpen) l e n = absurd (let no : false ≡ true = e in cc)
prefix_flat (t.Sign s.ParenClose) l e n = absurd (let no : false ≡ true = e in cc)
prefix_flat (t.Sign s.BraceClose) l e n = absurd (let no : false ≡ true = e in cc)
prefix_flat (t.Word w.OfWord) l e n = absurd (let no : false ≡ true = e in cc)
prefix_flat _ l e n = refl

called_flat : (k : Tok) (op : Op) → called_op k ≡ Some op → (n : ℕ) → opened (opens n 0) k ≡ opens n 0
called_flat (t.Sign s.ParenOpen) op e n = absurd (let none : None ≡ Some op = e in cc)
called_flat (t.Sign s.BraceOpen) op e n = absurd (let none : None ≡ Some op = e in cc)
called_flat (t.Sign s.ParenClose) op e n = absurd (let none : None ≡ Some op = e in cc)
called_flat (t.Sign s.BraceClose) op e n = absurd (let none : None ≡ Some op = e in cc)
called_flat (t.Word w.OfWord) op e n = absurd (let none : None ≡ Some op = e in cc)
called_flat _ op e n = refl

pub number_balanced : (e : ℕ) → Balanced 0 0 e r.number
unfolding r.number
number_balanced e = first_balanced 0 0 e (λ o. r.number_by o.kind) (λ o. by_kind o o.kind refl)
  where
    by_kind : (o : Token) (k : Tok) → o.kind ≡ k → IfSome (r.number_by k) (λ p. Behind 0 0 e o p)
    by_kind o (t.Number k) is_kind = last 0 e o k is_kind (λ n. refl)
    by_kind o _ is_kind = tt

module _ (B : Builder) (src : List ℕ) where
  parts_balanced : (e : ℕ) (x : B.Ex) → Balanced 0 0 e (r.parts B src x)
  unfolding r.parts
  parts_balanced e x = repeat_balanced e _
      (λ d y. where_true_some (is (t.Sign s.Dot) d.kind) _ _
      (λ h. past 0 0 e d _ (is_same (t.Sign s.Dot) d.kind h) (λ n. refl)
      (then_balanced 0 0 e r.number (λ k. pure (B.part y k)) (number_balanced e) (λ k. pure_balanced e (B.part y k))))) x

  module _ (e : ℕ) (next : Parser B.Ex) (h : Balanced 0 0 e next) where
    operation_balanced : (l : ℕ) (o : Token) (x : B.Ex) → IfSome (r.operation B src next l o x) (λ p. Behind 0 0 e o p)
    operation_balanced l o x = where_true_some (r.binds_at l (infix_op o.kind)) _ _
        (λ k. past 0 0 e o _ refl (infix_flat o.kind l k) (then_balanced 0 0 e next _ h (λ y. pure_balanced e _)))

    operations_balanced : (l : ℕ) (x : B.Ex) → Balanced 0 0 e (r.operations B src next l x)
    unfolding r.operations r.climb r.compared
    operations_balanced l x = by_test (l == 4)
      where
        climb_balanced : Balanced 0 0 e (r.climb B src next l x)
        climb_balanced = repeat_balanced e (r.operation B src next l) (λ o y. operation_balanced l o y) x

        compared_balanced : Balanced 0 0 e (r.compared B src next x)
        compared_balanced = first_or_balanced 0 0 e (λ o. r.operation B src next 4 o x) (pure x) (λ o. operation_balanced 4 o x) (pure_balanced e x)

        by_test : (b : Bool) → Balanced 0 0 e (if b then r.compared B src next x else r.climb B src next l x)
        by_test true = compared_balanced
        by_test false = climb_balanced

    prefixed_balanced : (l : ℕ) → Balanced 0 0 e (r.prefixed B src next l)
    unfolding r.prefixed r.infixed
    prefixed_balanced l = first_or_balanced 0 0 e _ (r.infixed B src next l)
        (λ o. where_true_some (r.binds_at l (prefix_op o.kind)) _ _
        (λ k. past 0 0 e o _ refl (prefix_flat o.kind l k) (then_balanced 0 0 e next _ h (λ x. pure_balanced e _))))
        (then_balanced 0 0 e next (r.operations B src next l) h (operations_balanced l))

  -- in brackets one less deep
  module _ (d : ℕ) (expr : Parser B.Ex) (h : Balanced 0 0 d expr) where
    others_balanced : (xs : B.Exs) → Balanced 0 0 d (r.others B src expr xs)
    unfolding r.others
    others_balanced xs = repeat_balanced d _
        (λ c ys. where_true_some (is (t.Sign s.Comma) c.kind) _ _
        (λ k. past 0 0 d c _ (is_same (t.Sign s.Comma) c.kind k) (λ n. refl) (then_balanced 0 0 d expr _ h (λ y. pure_balanced d (B.push ys y))))) xs

    tuple_balanced : (p : Token) (x : B.Ex) → Balanced 1 0 (suc d) (r.tuple B src expr p x)
    unfolding r.tuple
    tuple_balanced p x =
        then_balanced 1 0 d expr _ h (λ y.
        then_balanced 1 0 d (r.others B src expr (B.push (B.one x) y)) _ (others_balanced (B.push (B.one x) y)) (λ xs.
        expect_balanced 1 0 (suc d) (is (t.Sign s.ParenClose)) _ (λ q k. closing (suc d) q (B.tuple p.start xs) (is_same (t.Sign s.ParenClose) q.kind k) (λ n. refl))))

    in_parens_balanced : (p : Token) → Balanced 1 0 (suc d) (r.in_parens B src expr p)
    unfolding r.in_parens
    in_parens_balanced p = then_balanced 1 0 d expr _ h (λ x. first_balanced 1 0 (suc d) _ (λ o. by_kind x o o.kind refl))
      where
        by_kind : (x : B.Ex) (o : Token) (k : Tok) → o.kind ≡ k → IfSome (r.in_parens_by B src expr p x k) (λ q. Behind 1 0 (suc d) o q)
        by_kind x o (t.Sign s.ParenClose) e = closing (suc d) o (B.moved p.start x) e (λ n. refl)
        by_kind x o (t.Sign s.Comma) e = past 1 0 (suc d) o (r.tuple B src expr p x) e (λ n. refl) (tuple_balanced p x)
        by_kind x o _ e = tt

    in_braces_balanced : (p : Token) → Balanced 1 0 (suc d) (r.in_braces B src expr p)
    unfolding r.in_braces
    in_braces_balanced p =
        then_balanced 1 0 d expr _ h (λ x.
        then_balanced 1 0 d (r.others B src expr (B.one x)) _ (others_balanced (B.one x)) (λ xs.
        expect_balanced 1 0 (suc d) (is (t.Sign s.BraceClose)) _ (λ q k. closing (suc d) q (B.set_of p.start xs) (is_same (t.Sign s.BraceClose) q.kind k) (λ n. refl))))

    arguments_balanced : (n : ℕ) (xs : B.Exs) → Balanced 0 0 d (r.arguments B src expr n xs)
    unfolding r.arguments
    arguments_balanced zero xs = pure_balanced d xs
    arguments_balanced (suc n) xs = expect_balanced 0 0 d (is (t.Sign s.Comma)) _ (λ c k.
        past 0 0 d c _ (is_same (t.Sign s.Comma) c.kind k) (λ i. refl) (then_balanced 0 0 d expr _ h (λ y. arguments_balanced n (B.push xs y))))

    call_balanced : (f : Token) (op : Op) → Balanced 0 0 (suc d) (r.call B src expr f op)
    unfolding r.call
    call_balanced f op = expect_balanced 0 0 (suc d) (is (t.Sign s.ParenOpen)) _ (λ p k.
        opening 0 (suc d) p _ (is_same (t.Sign s.ParenOpen) p.kind k) (λ n. refl) (
        then_balanced 1 0 d expr _ h (λ x.
        then_balanced 1 0 d (r.arguments B src expr (arity_of op - 1) (B.one x)) _ (arguments_balanced (arity_of op - 1) (B.one x)) (λ xs.
        expect_balanced 1 0 (suc d) (is (t.Sign s.ParenClose)) _ (λ q c. closing (suc d) q (B.apply f.start (row_of op) xs) (is_same (t.Sign s.ParenClose) q.kind c) (λ n. refl))))))

    called_balanced : (o : Token) (k : Tok) → o.kind ≡ k → (v : Option Op) → called_op k ≡ v → IfSome (r.called B src expr o v) (λ p. Behind 0 0 (suc d) o p)
    called_balanced o k e (Some op) h = past 0 0 (suc d) o _ e (called_flat k op h) (call_balanced o op)
    called_balanced o k e None h = tt

    operand_by_balanced : (o : Token) (k : Tok) → o.kind ≡ k → IfSome (r.operand_by B src expr o k) (λ p. Behind 0 0 (suc d) o p)
    operand_by_balanced o (t.Number k) e = last 0 (suc d) o (B.number o.start k) e (λ n. refl)
    operand_by_balanced o t.Name e = last 0 (suc d) o (B.variable (named src o)) e (λ n. refl)
    operand_by_balanced o (t.Word w.TrueWord) e = last 0 (suc d) o (B.truth o.start true) e (λ n. refl)
    operand_by_balanced o (t.Word w.FalseWord) e = last 0 (suc d) o (B.truth o.start false) e (λ n. refl)
    operand_by_balanced o (t.Sign s.ParenOpen) e = opening 0 (suc d) o (r.in_parens B src expr o) e (λ n. refl) (in_parens_balanced o)
    operand_by_balanced o (t.Sign s.BraceOpen) e = opening 0 (suc d) o (r.in_braces B src expr o) e (λ n. refl) (in_braces_balanced o)
    operand_by_balanced o k e = called_balanced o k e (called_op k) refl

    postfix_balanced : Balanced 0 0 (suc d) (r.postfix B src expr)
    unfolding r.postfix r.operand
    postfix_balanced = then_balanced 0 0 (suc d) (r.operand B src expr) (r.parts B src)
        (first_balanced 0 0 (suc d) (λ o. r.operand_by B src expr o o.kind) (λ o. operand_by_balanced o o.kind refl)) (parts_balanced (suc d))

    level_balanced : (h : ℕ) → Balanced 0 0 (suc d) (r.level B src expr h)
    unfolding r.level
    level_balanced zero = postfix_balanced
    level_balanced (suc h) = prefixed_balanced (suc d) (r.level B src expr h) (level_balanced h) (7 - h)

  pub expr_balanced : (d : ℕ) → Balanced 0 0 d (r.expr B src d)
  unfolding r.expr
  expr_balanced zero = deep_balanced 0
  expr_balanced (suc d) = level_balanced d (r.expr B src d) (expr_balanced d) 7
