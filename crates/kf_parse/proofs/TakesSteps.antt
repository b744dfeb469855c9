-- What each reader of expressions makes of the tokens that it takes.
use Rattle.std.proofs.Common.{◌≡◌, ℕ, suc, ◌+◌, ◌-◌, ◌==◌, if◌then◌else◌, Bool, true, false, List, [], ◌∷◌, ◌++◌, refl, ◌∙◌, ap, arith, Option, Some, None}
use Rattle.std.proofs.lemmas.Bool.{eqb-true, eq-eqb}
use Rattle.kf_ops.specs.declared.row.Op.{Op}
use Rattle.kf_lex.specs.declared.token.Token.{Token}
use Rattle.kf_lex.specs.declared.token.Tok.{Tok}
use Rattle.kf_lex.specs.declared.token.Tok.TheVariants as t
use Rattle.kf_lex.specs.declared.token.Word.TheVariants as w
use Rattle.kf_lex.specs.declared.token.Sign.TheVariants as s
use Rattle.kf_ast.specs.Exprs.{ExprTree, expr_at, Number, Truth, Name, Apply, Tuple, SetOf, exprs, placed}
use Rattle.kf_parse.specs.Operators.{level_of, arity_of}
use Rattle.kf_parse.specs.OperatorTokens.{infix_op, prefix_op, called_op, row_of, IsPrefix, prefixed, part_of}
use Rattle.kf_parse.specs.Tokens.{is}
use Rattle.kf_parse.specs.Grammar.{IsSign, IsWord, IsNumber, IsName, IsInfix, named, joined}
use Rattle.kf_parse.specs.Outcomes.{got, Parser, and_then, behind, where_true, pure, refuse, ◌>>=◌, repeat}
use Rattle.kf_parse.specs.Plain.{whole_trees}
use Rattle.kf_parse.specs.Reading as r
use Rattle.kf_parse.proofs.OperatorTokens.{infix_known, prefix_known}

pub no_eqb : (a b : ℕ) → (a ≡ b → ⊥) → (a == b) ≡ false
no_eqb a b ne = go (a == b) refl
  where
    go : (v : Bool) → (a == b) ≡ v → v ≡ false
    go true e = absurd (ne (eqb-true a b e))
    go false e = refl

-- the operators of a level
infix_at : (l : ℕ) (op : Op) (k : Tok) → infix_op k ≡ Some op → level_of op ≡ l → r.binds_at l (infix_op k) ≡ true
infix_at l op k e h = ap (r.binds_at l) e ∙ eq-eqb (level_of op) l h

prefix_at : (l : ℕ) (op : Op) (k : Tok) → prefix_op k ≡ Some op → level_of op ≡ l → r.binds_at l (prefix_op k) ≡ true
prefix_at l op k e h = ap (r.binds_at l) e ∙ eq-eqb (level_of op) l h

module _ (src : List ℕ) where
  -- an operator's step
  pub operation_goes : (next : Parser ExprTree) (l : ℕ) (o : Token) (op : Op) (x : ExprTree) → IsInfix l op o → r.operation whole_trees src next l o x ≡ Some (next >>= (λ y. pure (joined op x y)))
  operation_goes next l o op x i = ap (λ b. where_true b (next >>= (λ y. pure (whole_trees.join (r.row_in (infix_op o.kind)) x y)))) (infix_at l op o.kind (infix_known o.kind op i.0) i.1) ∙ ap (λ v. Some (next >>= (λ y. pure (whole_trees.join (r.row_in v) x y)))) (infix_known o.kind op i.0)

  pub operation_ends : (next : Parser ExprTree) (l : ℕ) (o : Token) (x : ExprTree) → r.binds_at l (infix_op o.kind) ≡ false → r.operation whole_trees src next l o x ≡ None
  operation_ends next l o x off = ap (λ b. where_true b (next >>= (λ y. pure (whole_trees.join (r.row_in (infix_op o.kind)) x y)))) off

  pub compared_goes : (next : Parser ExprTree) (o : Token) (op : Op) (x y : ExprTree) (us rest : List Token) → IsInfix 4 op o → next us ≡ got y rest → r.compared whole_trees src next x (o ∷ us) ≡ got (joined op x y) rest
  unfolding r.compared
  compared_goes next o op x y us rest i e = ap (λ v. behind v (pure x) o us) (operation_goes next 4 o op x i) ∙ ap (λ v. and_then v (λ y'. pure (joined op x y'))) e

  pub compared_ends : (next : Parser ExprTree) (o : Token) (x : ExprTree) (us : List Token) → r.binds_at 4 (infix_op o.kind) ≡ false → r.compared whole_trees src next x (o ∷ us) ≡ got x (o ∷ us)
  unfolding r.compared
  compared_ends next o x us off = ap (λ v. behind v (pure x) o us) (operation_ends next 4 o x off)

  pub compared_at_end : (next : Parser ExprTree) (x : ExprTree) → r.compared whole_trees src next x [] ≡ got x []
  unfolding r.compared
  compared_at_end next x = refl

  pub operations_climb : (next : Parser ExprTree) (l : ℕ) (x : ExprTree) → (l ≡ 4 → ⊥) → r.operations whole_trees src next l x ≡ repeat (r.operation whole_trees src next l) x
  unfolding r.operations r.climb
  operations_climb next l x ne = ap (λ b. if b then r.compared whole_trees src next x else r.climb whole_trees src next l x) (no_eqb l 4 ne)

  pub operations_compare : (next : Parser ExprTree) (x : ExprTree) → r.operations whole_trees src next 4 x ≡ r.compared whole_trees src next x
  unfolding r.operations
  operations_compare next x = refl

  pub prefixed_goes : (next : Parser ExprTree) (l : ℕ) (o : Token) (op : Op) (x : ExprTree) (us rest : List Token) → IsPrefix l op o → next us ≡ got x rest → r.prefixed whole_trees src next l (o ∷ us) ≡ got (prefixed o op x) rest
  unfolding r.prefixed
  prefixed_goes next l o op x us rest i e =
      ap (λ b. behind (where_true b (next >>= (λ x'. pure (whole_trees.apply o.start (r.row_in (prefix_op o.kind)) (whole_trees.one x'))))) (r.infixed whole_trees src next l) o us) (prefix_at l op o.kind (prefix_known o.kind op i.0) i.1)
      ∙ ap (λ v. and_then v (λ x'. pure (whole_trees.apply o.start (r.row_in (prefix_op o.kind)) (whole_trees.one x')))) e
      ∙ ap (λ v. got (whole_trees.apply o.start (r.row_in v) (whole_trees.one x)) rest) (prefix_known o.kind op i.0)

  pub prefixed_infix : (next : Parser ExprTree) (l : ℕ) (o : Token) (x : ExprTree) (us rest : List Token) → r.binds_at l (prefix_op o.kind) ≡ false → next (o ∷ us) ≡ got x rest → r.prefixed whole_trees src next l (o ∷ us) ≡ r.operations whole_trees src next l x rest
  unfolding r.prefixed r.infixed
  prefixed_infix next l o x us rest off e =
      ap (λ b. behind (where_true b (next >>= (λ x'. pure (whole_trees.apply o.start (r.row_in (prefix_op o.kind)) (whole_trees.one x'))))) (r.infixed whole_trees src next l) o us) off
      ∙ ap (λ v. and_then v (r.operations whole_trees src next l)) e

  -- a part's step
  abbrev pub part_step : Token → ExprTree → Option (Parser ExprTree)
  part_step d x = where_true (is (t.Sign s.Dot) d.kind) (r.number >>= (λ k. pure (part_of x k)))

  pub number_goes : (n : Token) (k : ℕ) (rest : List Token) → IsNumber k n → r.number (n ∷ rest) ≡ got k rest
  unfolding r.number
  number_goes n k rest e = rw e refl

  pub postfix_goes : (expr : Parser ExprTree) (x z : ExprTree) (ts us rest : List Token) → r.operand whole_trees src expr ts ≡ got x us → repeat part_step x us ≡ got z rest → r.postfix whole_trees src expr ts ≡ got z rest
  unfolding r.postfix r.parts
  postfix_goes expr x z ts us rest e h = ap (λ v. and_then v (repeat part_step)) e ∙ h

  pub level_above : (expr : Parser ExprTree) (h l : ℕ) (ts : List Token) → l + suc h ≡ 8 → r.level whole_trees src expr (suc h) ts ≡ r.prefixed whole_trees src (r.level whole_trees src expr h) l ts
  unfolding r.level
  level_above expr h l ts e = let q : 7 - h ≡ l = omega arith in ap (λ n. r.prefixed whole_trees src (r.level whole_trees src expr h) n ts) q

  pub level_lowest : (expr : Parser ExprTree) (h : ℕ) (ts : List Token) → 8 + h ≡ 8 → r.level whole_trees src expr h ts ≡ r.postfix whole_trees src expr ts
  unfolding r.level
  level_lowest expr h ts e = let z : h ≡ 0 = omega arith in ap (λ n. r.level whole_trees src expr n ts) z

  pub expr_level : (d : ℕ) (ts : List Token) → r.expr whole_trees src (suc d) ts ≡ r.level whole_trees src (r.expr whole_trees src d) 7 ts
  unfolding r.expr
  expr_level d ts = refl

  module _ (expr : Parser ExprTree) where
    -- the step of a list
    abbrev pub other_step : Token → List ExprTree → Option (Parser (List ExprTree))
    other_step c xs = where_true (is (t.Sign s.Comma) c.kind) (expr >>= (λ y. pure (xs ++ y ∷ [])))

    pub operand_number : (o : Token) (k : ℕ) (us : List Token) → IsNumber k o → r.operand whole_trees src expr (o ∷ us) ≡ got (expr_at o.start (Number k)) us
    unfolding r.operand
    operand_number o k us e = rw e refl

    pub operand_name : (o : Token) (us : List Token) → IsName o → r.operand whole_trees src expr (o ∷ us) ≡ got (expr_at o.start (Name (named src o))) us
    unfolding r.operand
    operand_name o us e = rw e refl

    pub operand_true : (o : Token) (us : List Token) → IsWord w.TrueWord o → r.operand whole_trees src expr (o ∷ us) ≡ got (expr_at o.start (Truth true)) us
    unfolding r.operand
    operand_true o us e = rw e refl

    pub operand_false : (o : Token) (us : List Token) → IsWord w.FalseWord o → r.operand whole_trees src expr (o ∷ us) ≡ got (expr_at o.start (Truth false)) us
    unfolding r.operand
    operand_false o us e = rw e refl

    pub operand_parens : (o q : Token) (x : ExprTree) (us rest : List Token) → IsSign s.ParenOpen o → expr us ≡ got x (q ∷ rest) → IsSign s.ParenClose q → r.operand whole_trees src expr (o ∷ us) ≡ got (placed o.start x) rest
    unfolding r.operand r.in_parens
    operand_parens o q x us rest e h i = rw (e, h, i) refl

    pub operand_tuple : (o c q : Token) (x y : ExprTree) (xs : List ExprTree) (us vs zs rest : List Token) → IsSign s.ParenOpen o → expr us ≡ got x (c ∷ vs) → IsSign s.Comma c → expr vs ≡ got y zs
        → repeat other_step (x ∷ y ∷ []) zs ≡ got xs (q ∷ rest) → IsSign s.ParenClose q → r.operand whole_trees src expr (o ∷ us) ≡ got (expr_at o.start (Tuple (exprs xs))) rest
    unfolding r.operand r.in_parens r.tuple r.others
    operand_tuple o c q x y xs us vs zs rest e h i j l m = rw (e, h, i, j, l, m) refl

    pub operand_set : (o q : Token) (x : ExprTree) (xs : List ExprTree) (us vs rest : List Token) → IsSign s.BraceOpen o → expr us ≡ got x vs → repeat other_step (x ∷ []) vs ≡ got xs (q ∷ rest) → IsSign s.BraceClose q
        → r.operand whole_trees src expr (o ∷ us) ≡ got (expr_at o.start (SetOf (exprs xs))) rest
    unfolding r.operand r.in_braces r.others
    operand_set o q x xs us vs rest e h i j = rw (e, h, i, j) refl

    pub arguments_go : (n : ℕ) (c : Token) (xs : List ExprTree) (y : ExprTree) (us rest : List Token) → IsSign s.Comma c → expr us ≡ got y rest → r.arguments whole_trees src expr (suc n) xs (c ∷ us) ≡ r.arguments whole_trees src expr n (xs ++ y ∷ []) rest
    unfolding r.arguments
    arguments_go n c xs y us rest e h = rw (e, h) refl

    pub arguments_end : (xs : List ExprTree) (us : List Token) → r.arguments whole_trees src expr 0 xs us ≡ got xs us
    unfolding r.arguments
    arguments_end xs us = refl

    pub operand_called : (o : Token) (op : Op) (us : List Token) → called_op o.kind ≡ Some op → r.operand whole_trees src expr (o ∷ us) ≡ r.call whole_trees src expr o op us
    unfolding r.operand
    operand_called o op us e = ap (λ v. behind v refuse o us) (by_kind o.kind e)
      where
        by_kind : (k : Tok) → called_op k ≡ Some op → r.operand_by whole_trees src expr o k ≡ Some (r.call whole_trees src expr o op)
        by_kind (t.Number n) i = absurd (let none : None ≡ Some op = i in cc)
        by_kind t.Name i = absurd (let none : None ≡ Some op = i in cc)
        by_kind (t.Word w.TrueWord) i = absurd (let none : None ≡ Some op = i in cc)
        by_kind (t.Word w.FalseWord) i = absurd (let none : None ≡ Some op = i in cc)
        by_kind (t.Sign s.ParenOpen) i = absurd (let none : None ≡ Some op = i in cc)
        by_kind (t.Sign s.BraceOpen) i = absurd (let none : None ≡ Some op = i in cc)
        by_kind k i = ap (r.called whole_trees src expr o) i

    pub call_goes : (o : Token) (op : Op) (p q : Token) (x : ExprTree) (xs : List ExprTree) (us vs rest : List Token) → IsSign s.ParenOpen p → expr us ≡ got x vs → r.arguments whole_trees src expr (arity_of op - 1) (x ∷ []) vs ≡ got xs (q ∷ rest) → IsSign s.ParenClose q
        → r.call whole_trees src expr o op (p ∷ us) ≡ got (expr_at o.start (Apply (row_of op) (exprs xs))) rest
    unfolding r.call
    call_goes o op p q x xs us vs rest e h i j = rw (e, h, i, j) refl
