-- Believed: the grammar of expressions, types and distributions: which tokens make which tree, by cases. The premises of a rule stand in
-- the order of its tokens, and then how they are put together.
use Rattle.std.specs.Prelude.{◌≡◌, ℕ, suc, ℤ, pos, neg_ℤ, true, false, List, [], ◌∷◌, ◌++◌, length, slice_range}
use Rattle.kf_lex.specs.declared.token.Token.{Token}
use Rattle.kf_lex.specs.declared.token.Tok.TheVariants as t
use Rattle.kf_lex.specs.declared.token.Word.{Word}
use Rattle.kf_lex.specs.declared.token.Word.TheVariants as w
use Rattle.kf_lex.specs.declared.token.Sign.{Sign}
use Rattle.kf_lex.specs.declared.token.Sign.TheVariants as s
use Rattle.kf_ops.specs.declared.row.Op.{Op}
use Rattle.kf_ops.specs.Places.{number_of}
use Rattle.kf_ast.specs.Names.{NameTree, name}
use Rattle.kf_ast.specs.TypeForms.{TypeForm, type_at, Boolean, Range, TupleOf, types}
use Rattle.kf_ast.specs.TypeForms as of_type
use Rattle.kf_ast.specs.Exprs.{ExprTree, expr_at, Number, Truth, Name, Apply, Tuple, SetOf, Part, exprs, place, placed}
use Rattle.kf_ast.specs.Dists.{CaseTree, case_of, DistTree, dist_at, Sure, UniformSet, UniformRange, Choose, Flip}
use Rattle.kf_parse.specs.Operators.{IsBetween, IsBefore, IsCalling, level_of, arity_of}

abbrev pub IsSign : Sign → Token → Type 0
IsSign sign o = o.kind ≡ t.Sign sign

abbrev pub IsWord : Word → Token → Type 0
IsWord word o = o.kind ≡ t.Word word

abbrev pub IsNumber : ℕ → Token → Type 0
IsNumber k o = o.kind ≡ t.Number k

abbrev pub IsName : Token → Type 0
IsName o = o.kind ≡ t.Name

-- a token is an operator of a level between two operands
abbrev pub IsInfix : ℕ → Op → Token → Type 0
IsInfix l op o = IsBetween o.kind op × (level_of op ≡ l)

-- the name whose text is the token's slice of the source
abbrev pub named : List ℕ → Token → NameTree
named src n = name (slice_range src n.start n.end) n.start

-- an operator between two expressions stands where its left side does
abbrev pub joined : Op → ExprTree → ExprTree → ExprTree
joined op x y = expr_at (place x) (Apply (number_of op) (exprs (x ∷ y ∷ [])))

-- numbers of parts behind an expression
pub data Parts : ExprTree → List Token → ExprTree → Type 0 where
  no_part : {x : ExprTree} → Parts x [] x
  part : {a ts : List Token} (d n : Token) {k : ℕ} {x y : ExprTree}
      → Parts x a y → IsSign s.Dot d → IsNumber k n → ts ≡ a ++ d ∷ n ∷ [] → Parts x ts (expr_at (place y) (Part y k))

-- members, each behind a comma, that go on with a list
pub data Listed {A : Type 0} (One : List Token → A → Type 0) : List A → List Token → List A → Type 0 where
  no_more : {xs : List A} → Listed One xs [] xs
  one_more : {a b ts : List Token} (c : Token) {xs ys : List A} {y : A}
      → Listed One xs a ys → IsSign s.Comma c → One b y → ts ≡ a ++ c ∷ b → Listed One xs ts (ys ++ y ∷ [])

-- a whole number and its place
pub data Whole : List Token → ℕ → ℤ → Type 0 where
  plain : (n : Token) {k : ℕ} → IsNumber k n → Whole (n ∷ []) n.start (pos k)
  minus : (m n : Token) {k : ℕ} → IsSign s.Minus m → IsNumber k n → Whole (m ∷ n ∷ []) m.start (neg_ℤ (pos k))

mutual
  pub data TypeOf : List Token → TypeForm → Type 0 where
    boolean : (b : Token) → IsWord w.BoolWord b → TypeOf (b ∷ []) (type_at b.start Boolean)
    range : {a b ts : List Token} (r : Token) {at at' : ℕ} {lo hi : ℤ}
        → Whole a at lo → IsSign s.Range r → Whole b at' hi → ts ≡ a ++ r ∷ b → TypeOf ts (type_at at (Range lo hi))
    tuple_type : {a b d ts : List Token} (p c q : Token) {x y : TypeForm} {xs : List TypeForm}
        → IsSign s.ParenOpen p → TypeOf a x → IsSign s.Comma c → TypeOf b y → OtherTypes (x ∷ y ∷ []) d xs → IsSign s.ParenClose q
        → ts ≡ a ++ c ∷ (b ++ (d ++ q ∷ [])) → TypeOf (p ∷ ts) (type_at p.start (TupleOf (types xs)))
    set_type : {ts : List Token} (o f : Token) {x : TypeForm}
        → IsWord w.SetWord o → IsWord w.OfWord f → TypeOf ts x → TypeOf (o ∷ f ∷ ts) (type_at o.start (of_type.SetOf x))

  -- types, each behind a comma, that go on with a list
  pub data OtherTypes : List TypeForm → List Token → List TypeForm → Type 0 where
    no_other_type : {xs : List TypeForm} → OtherTypes xs [] xs
    other_type : {a b ts : List Token} (c : Token) {xs ys : List TypeForm} {y : TypeForm}
        → OtherTypes xs a ys → IsSign s.Comma c → TypeOf b y → ts ≡ a ++ c ∷ b → OtherTypes xs ts (ys ++ y ∷ [])

-- in the tokens of this source
module _ (src : List ℕ) where
  mutual
    -- an expression of a level from 1 to 8
    pub data E : ℕ → List Token → ExprTree → Type 0 where
      -- an operand of the next level, and operators of this level after it
      chain : {l : ℕ} {a b ts : List Token} {x z : ExprTree} → (l ≡ 4 → ⊥)
          → E (suc l) a x → Chain l x b z → ts ≡ a ++ b → E l ts z
      -- a comparison doesn't go on
      alone : {ts : List Token} {x : ExprTree} → E 5 ts x → E 4 ts x
      compare : {a b ts : List Token} (o : Token) (op : Op) {x y : ExprTree}
          → E 5 a x → IsInfix 4 op o → E 5 b y → ts ≡ a ++ o ∷ b → E 4 ts (joined op x y)
      prefix : {l : ℕ} {ts : List Token} (o : Token) (op : Op) {x : ExprTree}
          → IsBefore o.kind op × (level_of op ≡ l) → E (suc l) ts x
          → E l (o ∷ ts) (expr_at o.start (Apply (number_of op) (exprs (x ∷ []))))
      -- an operand, and parts of it
      parts : {a b ts : List Token} {x z : ExprTree} → Operand a x → Parts x b z → ts ≡ a ++ b → E 8 ts z

    -- operators of a level with their right sides, which group to the left behind an expression
    pub data Chain : ℕ → ExprTree → List Token → ExprTree → Type 0 where
      unchained : {l : ℕ} {x : ExprTree} → Chain l x [] x
      chained : {l : ℕ} {a b ts : List Token} (o : Token) (op : Op) {x y z : ExprTree}
          → Chain l x a y → IsInfix l op o → E (suc l) b z → ts ≡ a ++ o ∷ b → Chain l x ts (joined op y z)

    pub data Operand : List Token → ExprTree → Type 0 where
      number : (n : Token) {k : ℕ} → IsNumber k n → Operand (n ∷ []) (expr_at n.start (Number k))
      truth : (o : Token) → IsWord w.TrueWord o → Operand (o ∷ []) (expr_at o.start (Truth true))
      untruth : (o : Token) → IsWord w.FalseWord o → Operand (o ∷ []) (expr_at o.start (Truth false))
      variable : (n : Token) → IsName n → Operand (n ∷ []) (expr_at n.start (Name (named src n)))
      parens : {a ts : List Token} (p q : Token) {x : ExprTree}
          → IsSign s.ParenOpen p → E 1 a x → IsSign s.ParenClose q
          → ts ≡ a ++ q ∷ [] → Operand (p ∷ ts) (placed p.start x)
      tuple : {a b d ts : List Token} (p c q : Token) {x y : ExprTree} {xs : List ExprTree}
          → IsSign s.ParenOpen p → E 1 a x → IsSign s.Comma c → E 1 b y → Others (x ∷ y ∷ []) d xs → IsSign s.ParenClose q
          → ts ≡ a ++ c ∷ (b ++ (d ++ q ∷ [])) → Operand (p ∷ ts) (expr_at p.start (Tuple (exprs xs)))
      set : {a b ts : List Token} (p q : Token) {x : ExprTree} {xs : List ExprTree}
          → IsSign s.BraceOpen p → E 1 a x → Others (x ∷ []) b xs → IsSign s.BraceClose q
          → ts ≡ a ++ (b ++ q ∷ []) → Operand (p ∷ ts) (expr_at p.start (SetOf (exprs xs)))
      call : {a b ts : List Token} (f p q : Token) {arity : ℕ} (op : Op) {x : ExprTree} {xs : List ExprTree}
          → IsCalling f.kind op × (arity_of op ≡ arity) → IsSign s.ParenOpen p
          → E 1 a x → Others (x ∷ []) b xs → length xs ≡ arity → IsSign s.ParenClose q
          → ts ≡ a ++ (b ++ q ∷ []) → Operand (f ∷ p ∷ ts) (expr_at f.start (Apply (number_of op) (exprs xs)))

    -- expressions, each behind a comma, that go on with a list
    pub data Others : List ExprTree → List Token → List ExprTree → Type 0 where
      no_other : {xs : List ExprTree} → Others xs [] xs
      other : {a b ts : List Token} (c : Token) {xs ys : List ExprTree} {y : ExprTree}
          → Others xs a ys → IsSign s.Comma c → E 1 b y → ts ≡ a ++ c ∷ b → Others xs ts (ys ++ y ∷ [])

  -- a value and its weight
  pub data Case : List Token → CaseTree → Type 0 where
    weighted : {a b ts : List Token} (c : Token) {x y : ExprTree}
        → E 1 a x → IsSign s.Colon c → E 1 b y → ts ≡ a ++ c ∷ b → Case ts (case_of x y)

  pub data Dist : List Token → DistTree → Type 0 where
    sure : {ts : List Token} {x : ExprTree} → E 1 ts x → Dist ts (dist_at (place x) (Sure x))
    uniform_set : {ts : List Token} (u : Token) {x : ExprTree}
        → IsWord w.UniformWord u → E 1 ts x → Dist (u ∷ ts) (dist_at u.start (UniformSet x))
    uniform_range : {a b ts : List Token} (u r : Token) {x y : ExprTree}
        → IsWord w.UniformWord u → E 1 a x → IsSign s.Range r → E 1 b y
        → ts ≡ a ++ r ∷ b → Dist (u ∷ ts) (dist_at u.start (UniformRange x y))
    choose : {a b ts : List Token} (c p q : Token) {x : CaseTree} {xs : List CaseTree}
        → IsWord w.ChooseWord c → IsSign s.BraceOpen p → Case a x → Listed Case (x ∷ []) b xs → IsSign s.BraceClose q
        → ts ≡ a ++ (b ++ q ∷ []) → Dist (c ∷ p ∷ ts) (dist_at c.start (Choose xs))
    flip : (f n d m : Token) {j k : ℕ}
        → IsWord w.FlipWord f → IsNumber j n → IsSign s.Slash d → IsNumber k m
        → Dist (f ∷ n ∷ d ∷ m ∷ []) (dist_at f.start (Flip j k))
