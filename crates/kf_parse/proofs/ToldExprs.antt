-- Each reader of expressions reads its form.
use Rattle.std.proofs.Common.{◌≡◌, ℕ, zero, suc, ◌+◌, ◌-◌, ◌==◌, Bool, true, false, if◌then◌else◌, List, [], ◌∷◌, ◌++◌, length, length-append, refl, sym, ◌∙◌, ap, subst, append_assoc, arith, Option, Some, None, IfSome}
use Rattle.std.proofs.lemmas.List.{append-nil}
use Rattle.std.proofs.lemmas.Bool.{eqb-true, eq-eqb}
use Rattle.kf_ops.specs.declared.row.Op.{Op}
use Rattle.kf_ops.specs.declared.row.Op.TheVariants as op
use Rattle.kf_lex.specs.declared.token.Token.{Token}
use Rattle.kf_lex.specs.declared.token.Tok.{Tok}
use Rattle.kf_lex.specs.declared.token.Tok.TheVariants as t
use Rattle.kf_lex.specs.declared.token.Word.TheVariants as w
use Rattle.kf_lex.specs.declared.token.Sign.TheVariants as s
use Rattle.kf_ast.specs.Exprs.{ExprTree, expr_at, Number, Truth, Name, Apply, Tuple, SetOf, exprs, place, placed}
use Rattle.kf_parse.specs.Operators.{level_of, arity_of}
use Rattle.kf_parse.specs.OperatorTokens.{infix_op, prefix_op, called_op, row_of, IsPrefix, IsCalled, prefixed, part_of}
use Rattle.kf_parse.specs.Grammar as g
use Rattle.kf_parse.specs.Grammar.{IsSign, IsWord, IsNumber, IsName, IsInfix, named, joined, Parts, E, Chain, Operand, Others}
use Rattle.kf_parse.specs.Tokens.{is}
use Rattle.kf_parse.specs.Outcomes.{Parser, ◌>>=◌, pure, where_true}
use Rattle.kf_parse.specs.Plain.{whole_trees}
use Rattle.kf_parse.specs.Reading as r
use Rattle.kf_parse.proofs.OperatorTokens.{before_told, between_told, calling_told}
use Rattle.kf_parse.proofs.Told.{Some_of, After, Reader, then_reads, deep_reads, pure_reads, done_reads, reads_as, first_or_reads, first_reads, where_true_some, token_of, expect_reads, repeat_reads}
use Rattle.kf_parse.proofs.ToldTokens.{is_same}

-- a number, alone
data OneNumber : List Token → ℕ → Type 0 where
  one_number : (n : Token) {k : ℕ} → IsNumber k n → OneNumber (n ∷ []) k

abbrev nought : List Token
nought = token_of (t.Number 0) ∷ []

number_reads : Reader OneNumber r.number
unfolding r.number
number_reads = first_reads OneNumber (λ o. r.number_by o.kind) (token_of (t.Number 0)) _ refl (λ o. by_kind o o.kind refl)
  where
    by_kind : (o : Token) (k : Tok) → o.kind ≡ k → IfSome (r.number_by k) (λ p. Reader (After (o ∷ []) OneNumber) p)
    by_kind o (t.Number k) e = pure_reads (After (o ∷ []) OneNumber) k (one_number o e)
    by_kind o _ e = tt

pub number_then : {A : Type 0} (G : List Token → A → Type 0) (f : ℕ → Parser A) → ((n : Token) (k : ℕ) → IsNumber k n → Reader (After (n ∷ []) G) (f k)) → Reader G (r.number >>= f)
number_then G f go = then_reads OneNumber G r.number f number_reads (λ front k h. behind h)
  where
    behind : {front : List Token} {k : ℕ} → OneNumber front k → Reader (After front G) (f k)
    behind {k = k} (one_number n h) = go n k h

-- an expression of the next level is one of this
up : (src : List ℕ) (l : ℕ) {ts : List Token} {x : ExprTree} → (l ≡ 4 → ⊥) → E src (suc l) ts x → E src l ts x
up src l {ts = ts} ne e = g.chain ne e g.unchained (sym (append-nil ts))

pub some_expr : (src : List ℕ) → Some_of (E src 1)
some_expr src = record {
  tokens = nought;
  value = expr_at 0 (Number 0);
  tells = up src 1 (λ e. cc) (up src 2 (λ e. cc) (up src 3 (λ e. cc) (g.alone (up src 5 (λ e. cc) (up src 6 (λ e. cc) (up src 7 (λ e. cc) (g.parts (g.number (token_of (t.Number 0)) refl) g.no_part refl)))))));
}

module _ (src : List ℕ) where
  parts_reads : (x : ExprTree) → Reader (Parts x) (r.parts whole_trees src x)
  unfolding r.parts
  parts_reads x = repeat_reads (Parts x) (λ d y. where_true (is (t.Sign s.Dot) d.kind) (r.number >>= (λ k. pure (part_of y k)))) keeps x g.no_part
    where
      keeps : (front : List Token) (y : ExprTree) → Parts x front y → (d : Token) → IfSome (where_true (is (t.Sign s.Dot) d.kind) (r.number >>= (λ k. pure (part_of y k)))) (λ p. Reader (After (d ∷ []) (After front (Parts x))) p)
      keeps front y h d = where_true_some (is (t.Sign s.Dot) d.kind) _ _
          (λ e. number_then (After (d ∷ []) (After front (Parts x))) (λ k. pure (part_of y k)) (λ n k hn. pure_reads _ (part_of y k) (g.part d n h (is_same (t.Sign s.Dot) d.kind e) hn refl)))

  -- an operator and its right side, and what is made of them
  module _ (next : Parser ExprTree) (l : ℕ) (reads : Reader (E src (suc l)) next) where
    operation_reads : (G : List Token → ExprTree → Type 0) (o : Token) (x : ExprTree) → ((b : List Token) (y : ExprTree) (op : Op) → IsInfix l op o → E src (suc l) b y → G (o ∷ b) (joined op x y))
        → IfSome (r.operation whole_trees src next l o x) (λ p. Reader (After (o ∷ []) G) p)
    operation_reads G o x made = by_op (infix_op o.kind) refl
      where
        by_op : (w : Option Op) → infix_op o.kind ≡ w → IfSome (where_true (r.binds_at l w) (next >>= (λ y. pure (expr_at (place x) (Apply (r.row_in w) (exprs (x ∷ y ∷ []))))))) (λ p. Reader (After (o ∷ []) G) p)
        by_op (Some op) e = where_true_some (level_of op == l) _ _ (λ h. then_reads (E src (suc l)) (After (o ∷ []) G) next (λ y. pure (joined op x y)) reads
            (λ b y k. done_reads (After (o ∷ []) G) b (joined op x y) (made b y op ((between_told o.kind op).0 e, eqb-true (level_of op) l h) k)))
        by_op None e = tt

    climb_reads : (x : ExprTree) → Reader (Chain src l x) (r.climb whole_trees src next l x)
    unfolding r.climb
    climb_reads x = repeat_reads (Chain src l x) (r.operation whole_trees src next l)
        (λ front y c o. operation_reads (After front (Chain src l x)) o y (λ b z op i e. g.chained o op c i e refl)) x g.unchained

  compared_reads : (next : Parser ExprTree) → Reader (E src 5) next → (front : List Token) (x : ExprTree) → E src 5 front x → Reader (After front (E src 4)) (r.compared whole_trees src next x)
  unfolding r.compared
  compared_reads next reads front x e = first_or_reads (After front (E src 4)) (λ o. r.operation whole_trees src next 4 o x) (pure x)
      (λ o. operation_reads next 4 reads (After front (E src 4)) o x (λ b y op i h. g.compare o op e i h refl))
      (done_reads (E src 4) front x (g.alone e))

  module _ (next : Parser ExprTree) (l : ℕ) (reads : Reader (E src (suc l)) next) where
    operations_reads : (front : List Token) (x : ExprTree) → E src (suc l) front x → Reader (After front (E src l)) (r.operations whole_trees src next l x)
    unfolding r.operations
    operations_reads front x e = by_test (l == 4) refl
      where
        Compared : ℕ → Type 0
        Compared n = Reader (E src (suc n)) next → E src (suc n) front x → Reader (After front (E src n)) (r.compared whole_trees src next x)

        by_test : (b : Bool) → (l == 4) ≡ b → Reader (After front (E src l)) (if b then r.compared whole_trees src next x else r.climb whole_trees src next l x)
        by_test true h = subst Compared (sym (eqb-true l 4 h)) (λ k f. compared_reads next k front x f) reads e
        by_test false h = reads_as (Chain src l x) (After front (E src l)) (r.climb whole_trees src next l x) (λ us z c. g.chain (λ is. cc (eq-eqb l 4 is)) e c refl) (climb_reads next l reads x)

    infixed_reads : Reader (E src l) (r.infixed whole_trees src next l)
    unfolding r.infixed
    infixed_reads = then_reads (E src (suc l)) (E src l) next (r.operations whole_trees src next l) reads operations_reads

    prefixed_reads : Reader (E src l) (r.prefixed whole_trees src next l)
    unfolding r.prefixed
    prefixed_reads = first_or_reads (E src l) _ (r.infixed whole_trees src next l) (λ o. by_op o (prefix_op o.kind) refl) infixed_reads
      where
        by_op : (o : Token) (w : Option Op) → prefix_op o.kind ≡ w
            → IfSome (where_true (r.binds_at l w) (next >>= (λ x. pure (expr_at o.start (Apply (r.row_in w) (exprs (x ∷ []))))))) (λ p. Reader (After (o ∷ []) (E src l)) p)
        by_op o (Some op) e = where_true_some (level_of op == l) _ _ (λ h. then_reads (E src (suc l)) (After (o ∷ []) (E src l)) next (λ x. pure (prefixed o op x)) reads
            (λ b x k. done_reads (After (o ∷ []) (E src l)) b (prefixed o op x) (g.prefix o op ((before_told o.kind op).0 e, eqb-true (level_of op) l h) k)))
        by_op o None e = tt

  module _ (expr : Parser ExprTree) (reads : Reader (E src 1) expr) where
    others_reads : (xs : List ExprTree) → Reader (Others src xs) (r.others whole_trees src expr xs)
    unfolding r.others
    others_reads xs = repeat_reads (Others src xs) _
        (λ front ys h c. where_true_some (is (t.Sign s.Comma) c.kind) _ _
        (λ e. then_reads (E src 1) (After (c ∷ []) (After front (Others src xs))) expr (λ y. pure (ys ++ y ∷ [])) reads
        (λ b y k. done_reads (After (c ∷ []) (After front (Others src xs))) b (ys ++ y ∷ []) (g.other c h (is_same (t.Sign s.Comma) c.kind e) k refl))))
        xs g.no_other

    tuple_reads : (p c : Token) (a : List Token) (x : ExprTree) → IsSign s.ParenOpen p → E src 1 a x → IsSign s.Comma c → Reader (After (c ∷ []) (After a (After (p ∷ []) (Operand src)))) (r.tuple whole_trees src expr p x)
    unfolding r.tuple
    tuple_reads p c a x op ea comma =
        then_reads (E src 1) _ expr _ reads (λ b y eb.
        then_reads (Others src (x ∷ y ∷ [])) _ (r.others whole_trees src expr (x ∷ y ∷ [])) _ (others_reads (x ∷ y ∷ [])) (λ d xs h.
        expect_reads _ (is (t.Sign s.ParenClose)) (λ q. pure (expr_at p.start (Tuple (exprs xs)))) (t.Sign s.ParenClose) refl (λ q e.
        pure_reads _ (expr_at p.start (Tuple (exprs xs))) (g.tuple p c q op ea comma eb h (is_same (t.Sign s.ParenClose) q.kind e) refl))))

    in_parens_reads : (p : Token) → IsSign s.ParenOpen p → Reader (After (p ∷ []) (Operand src)) (r.in_parens whole_trees src expr p)
    unfolding r.in_parens
    in_parens_reads p op = then_reads (E src 1) _ expr _ reads (λ a x e.
        first_reads _ (λ o. r.in_parens_by whole_trees src expr p x o.kind) (token_of (t.Sign s.ParenClose)) _ refl (λ o. by_kind a x e o o.kind refl))
      where
        by_kind : (a : List Token) (x : ExprTree) → E src 1 a x → (o : Token) (k : Tok) → o.kind ≡ k → IfSome (r.in_parens_by whole_trees src expr p x k) (λ w. Reader (After (o ∷ []) (After a (After (p ∷ []) (Operand src)))) w)
        by_kind a x e o (t.Sign s.ParenClose) is = pure_reads _ (placed p.start x) (g.parens p o op e is refl)
        by_kind a x e o (t.Sign s.Comma) is = tuple_reads p o a x op e is
        by_kind a x e o _ is = tt

    in_braces_reads : (p : Token) → IsSign s.BraceOpen p → Reader (After (p ∷ []) (Operand src)) (r.in_braces whole_trees src expr p)
    unfolding r.in_braces
    in_braces_reads p op =
        then_reads (E src 1) _ expr _ reads (λ a x e.
        then_reads (Others src (x ∷ [])) _ (r.others whole_trees src expr (x ∷ [])) _ (others_reads (x ∷ [])) (λ b xs h.
        expect_reads _ (is (t.Sign s.BraceClose)) (λ q. pure (expr_at p.start (SetOf (exprs xs)))) (t.Sign s.BraceClose) refl (λ q cl.
        pure_reads _ (expr_at p.start (SetOf (exprs xs))) (g.set p q op e h (is_same (t.Sign s.BraceClose) q.kind cl) refl))))

    -- so many more expressions after a front
    module _ (start : List ExprTree) where
      abbrev More : ℕ → List Token → List ExprTree → List Token → List ExprTree → Type 0
      More n front xs ts ys = Others src start (front ++ ts) ys × (length ys ≡ length xs + n)

      arguments_reads : (n : ℕ) (front : List Token) (xs : List ExprTree) → Others src start front xs → Reader (More n front xs) (r.arguments whole_trees src expr n xs)
      unfolding r.arguments
      arguments_reads zero front xs h = pure_reads (More zero front xs) xs (rw append-nil h, omega arith)
      arguments_reads (suc n) front xs h = expect_reads (More (suc n) front xs) (is (t.Sign s.Comma)) _ (t.Sign s.Comma) refl (λ c e.
          then_reads (E src 1) (After (c ∷ []) (More (suc n) front xs)) expr _ reads (λ b y k.
          reads_as (More n (front ++ c ∷ b) (xs ++ y ∷ [])) (After b (After (c ∷ []) (More (suc n) front xs))) _
          (λ us ys m. (rw (← append_assoc front (c ∷ b) us) m.0, m.1 ∙ ap (λ i. i + n) (length-append xs (y ∷ [])) ∙ (omega arith)))
          (arguments_reads n (front ++ c ∷ b) (xs ++ y ∷ []) (g.other c h (is_same (t.Sign s.Comma) c.kind e) k refl))))

    call_reads : (f : Token) (u : Op) → called_op f.kind ≡ Some u → Reader (After (f ∷ []) (Operand src)) (r.call whole_trees src expr f u)
    unfolding r.call
    call_reads f u c =
        expect_reads _ (is (t.Sign s.ParenOpen)) _ (t.Sign s.ParenOpen) refl (λ p o.
        then_reads (E src 1) _ expr _ reads (λ a x e.
        then_reads (More (x ∷ []) (arity_of u - 1) [] (x ∷ [])) _ (r.arguments whole_trees src expr (arity_of u - 1) (x ∷ [])) _ (arguments_reads (x ∷ []) (arity_of u - 1) [] (x ∷ []) g.no_other) (λ b xs m.
        expect_reads _ (is (t.Sign s.ParenClose)) (λ q. pure (expr_at f.start (Apply (row_of u) (exprs xs)))) (t.Sign s.ParenClose) refl (λ q cl.
        pure_reads _ (expr_at f.start (Apply (row_of u) (exprs xs)))
        (g.call f p q u ((calling_told f.kind u).0 c, refl) (is_same (t.Sign s.ParenOpen) p.kind o) e m.0 (m.1 ∙ whole u) (is_same (t.Sign s.ParenClose) q.kind cl) refl)))))
      where
        whole : (u : Op) → 1 + (arity_of u - 1) ≡ arity_of u
        whole op.Or = refl
        whole _ = refl

    called_reads : (o : Token) (k : Tok) → o.kind ≡ k → (v : Option Op) → called_op k ≡ v → IfSome (r.called whole_trees src expr o v) (λ p. Reader (After (o ∷ []) (Operand src)) p)
    called_reads o k is (Some u) h = call_reads o u (ap called_op is ∙ h)
    called_reads o k is None h = tt

    operand_by_reads : (o : Token) (k : Tok) → o.kind ≡ k → IfSome (r.operand_by whole_trees src expr o k) (λ p. Reader (After (o ∷ []) (Operand src)) p)
    operand_by_reads o (t.Number k) is = pure_reads _ (expr_at o.start (Number k)) (g.number o is)
    operand_by_reads o t.Name is = pure_reads _ (expr_at o.start (Name (named src o))) (g.variable o is)
    operand_by_reads o (t.Word w.TrueWord) is = pure_reads _ (expr_at o.start (Truth true)) (g.truth o is)
    operand_by_reads o (t.Word w.FalseWord) is = pure_reads _ (expr_at o.start (Truth false)) (g.untruth o is)
    operand_by_reads o (t.Sign s.ParenOpen) is = in_parens_reads o is
    operand_by_reads o (t.Sign s.BraceOpen) is = in_braces_reads o is
    operand_by_reads o k is = called_reads o k is (called_op k) refl

    operand_reads : Reader (Operand src) (r.operand whole_trees src expr)
    unfolding r.operand
    operand_reads = first_reads (Operand src) (λ o. r.operand_by whole_trees src expr o o.kind) (token_of (t.Number 0)) _ refl (λ o. operand_by_reads o o.kind refl)

    postfix_reads : Reader (E src 8) (r.postfix whole_trees src expr)
    unfolding r.postfix
    postfix_reads = then_reads (Operand src) (E src 8) (r.operand whole_trees src expr) (r.parts whole_trees src) operand_reads
        (λ front x h. reads_as (Parts x) (After front (E src 8)) (r.parts whole_trees src x) (λ us y p. g.parts h p refl) (parts_reads x))

    level_reads : (h l : ℕ) → l + h ≡ 8 → Reader (E src l) (r.level whole_trees src expr h)
    unfolding r.level
    level_reads zero l e = subst (λ n. Reader (E src n) (r.postfix whole_trees src expr)) (let q : 8 ≡ l = omega arith in q) postfix_reads
    level_reads (suc h) l e =
        let q : l ≡ 7 - h = omega arith in
        subst (λ n. Reader (E src l) (r.prefixed whole_trees src (r.level whole_trees src expr h) n)) q (prefixed_reads (r.level whole_trees src expr h) l (level_reads h (suc l) (omega arith)))

  pub expr_reads : (d : ℕ) → Reader (E src 1) (r.expr whole_trees src d)
  unfolding r.expr
  expr_reads zero = deep_reads (E src 1) (some_expr src)
  expr_reads (suc d) = level_reads (r.expr whole_trees src d) (expr_reads d) 7 1 refl
