-- For bodies: reading a program from left to right, one token ahead.
use Rattle.std.specs.Prelude.{ℕ, zero, suc, ◌-◌, ℤ, pos, neg_ℤ, Bool, true, false, if◌then◌else◌, ◌==◌, List, [], ◌∷◌, ◌++◌, Option, Some, None}
use Rattle.kf_ops.specs.declared.row.Op.{Op}
use Rattle.kf_lex.specs.declared.token.Token.{Token}
use Rattle.kf_lex.specs.declared.token.Tok.{Tok}
use Rattle.kf_lex.specs.declared.token.Tok.TheVariants as t
use Rattle.kf_lex.specs.declared.token.Word.TheVariants as w
use Rattle.kf_lex.specs.declared.token.Sign.TheVariants as s
use Rattle.kf_ast.specs.TypeForms.{TypeForm, type_at, Boolean, Range, TupleOf, SetOf, types}
use Rattle.kf_ast.specs.Sources.{ItemTree, item}
use Rattle.kf_parse.specs.Operators.{level_of, arity_of}
use Rattle.kf_parse.specs.OperatorTokens.{infix_op, prefix_op, called_op, row_of}
use Rattle.kf_parse.specs.Grammar.{named}
use Rattle.kf_parse.specs.Tokens.{is}
use Rattle.kf_parse.specs.Outcomes.{Parser, ◌>>=◌, pure, too_deep, first_or, first, where_true, expect, if_first, repeat}
use Rattle.kf_parse.specs.Builders.{Builder}
use Rattle.kf_parse.specs.Begins.{begins_declaration}

-- an operator's level and row, where there is one
abbrev pub binds_at : ℕ → Option Op → Bool
binds_at l (Some op) = level_of op == l
binds_at l None = false

abbrev pub row_in : Option Op → ℕ
row_in (Some op) = row_of op
row_in None = 0

abbrev pub number_by : Tok → Option (Parser ℕ)
number_by (t.Number k) = Some (pure k)
number_by _ = None

unfoldable pub number : Parser ℕ
number = first (λ o. number_by o.kind)

module _ (B : Builder) (src : List ℕ) where
  -- numbers of parts
  unfoldable pub parts : B.Ex → Parser B.Ex
  parts = repeat (λ d x. where_true (is (t.Sign s.Dot) d.kind) (number >>= (λ k. pure (B.part x k))))

  -- an operator between an expression and the next
  abbrev pub operation : Parser B.Ex → ℕ → Token → B.Ex → Option (Parser B.Ex)
  operation next l o x = where_true (binds_at l (infix_op o.kind)) (next >>= (λ y. pure (B.join (row_in (infix_op o.kind)) x y)))

  unfoldable pub climb : Parser B.Ex → ℕ → B.Ex → Parser B.Ex
  climb next l = repeat (operation next l)

  -- at most one comparison
  unfoldable pub compared : Parser B.Ex → B.Ex → Parser B.Ex
  compared next x = first_or (λ o. operation next 4 o x) (pure x)

  unfoldable pub operations : Parser B.Ex → ℕ → B.Ex → Parser B.Ex
  operations next l x = if l == 4 then compared next x else climb next l x

  unfoldable pub infixed : Parser B.Ex → ℕ → Parser B.Ex
  infixed next l = next >>= operations next l

  unfoldable pub prefixed : Parser B.Ex → ℕ → Parser B.Ex
  prefixed next l = first_or (λ o. where_true (binds_at l (prefix_op o.kind))
      (next >>= (λ x. pure (B.apply o.start (row_in (prefix_op o.kind)) (B.one x))))) (infixed next l)

  -- what is made of the expressions in brackets
  module _ (expr : Parser B.Ex) where
    -- expressions, each behind a comma
    unfoldable pub others : B.Exs → Parser B.Exs
    others = repeat (λ c xs. where_true (is (t.Sign s.Comma) c.kind) (expr >>= (λ y. pure (B.push xs y))))

    unfoldable pub tuple : Token → B.Ex → Parser B.Ex
    tuple p x = expr >>= (λ y. others (B.push (B.one x) y) >>= (λ xs.
        expect (is (t.Sign s.ParenClose)) (λ q. pure (B.tuple p.start xs))))

    abbrev pub in_parens_by : Token → B.Ex → Tok → Option (Parser B.Ex)
    in_parens_by p x (t.Sign s.ParenClose) = Some (pure (B.moved p.start x))
    in_parens_by p x (t.Sign s.Comma) = Some (tuple p x)
    in_parens_by p x _ = None

    unfoldable pub in_parens : Token → Parser B.Ex
    in_parens p = expr >>= (λ x. first (λ o. in_parens_by p x o.kind))

    unfoldable pub in_braces : Token → Parser B.Ex
    in_braces p = expr >>= (λ x. others (B.one x) >>= (λ xs. expect (is (t.Sign s.BraceClose)) (λ q. pure (B.set_of p.start xs))))

    -- so many arguments, each behind a comma
    unfoldable pub arguments : ℕ → B.Exs → Parser B.Exs
    arguments zero xs = pure xs
    arguments (suc n) xs = expect (is (t.Sign s.Comma)) (λ c. expr >>= (λ y. arguments n (B.push xs y)))

    unfoldable pub call : Token → Op → Parser B.Ex
    call f op = expect (is (t.Sign s.ParenOpen)) (λ p. expr >>= (λ x. arguments (arity_of op - 1) (B.one x) >>= (λ xs.
        expect (is (t.Sign s.ParenClose)) (λ q. pure (B.apply f.start (row_of op) xs)))))

    abbrev pub called : Token → Option Op → Option (Parser B.Ex)
    called f (Some op) = Some (call f op)
    called f None = None

    abbrev pub operand_by : Token → Tok → Option (Parser B.Ex)
    operand_by o (t.Number k) = Some (pure (B.number o.start k))
    operand_by o t.Name = Some (pure (B.variable (named src o)))
    operand_by o (t.Word w.TrueWord) = Some (pure (B.truth o.start true))
    operand_by o (t.Word w.FalseWord) = Some (pure (B.truth o.start false))
    operand_by o (t.Sign s.ParenOpen) = Some (in_parens o)
    operand_by o (t.Sign s.BraceOpen) = Some (in_braces o)
    operand_by o k = called o (called_op k)

    unfoldable pub operand : Parser B.Ex
    operand = first (λ o. operand_by o o.kind)

    unfoldable pub postfix : Parser B.Ex
    postfix = operand >>= parts

    -- an expression of a level, so many below that of the parts
    unfoldable pub level : ℕ → Parser B.Ex
    level zero = postfix
    level (suc h) = prefixed (level h) (7 - h)

  -- an expression in which brackets nest less deep than the number
  unfoldable pub expr : ℕ → Parser B.Ex
  expr zero = too_deep
  expr (suc d) = level (expr d) 7

  -- a value and its weight, of expressions in braces
  unfoldable pub weighted : Parser B.Ex → B.Cs → Parser B.Cs
  weighted e cs = e >>= (λ x. expect (is (t.Sign s.Colon)) (λ c. e >>= (λ y. pure (B.push_case cs x y))))

  unfoldable pub cases : Parser B.Ex → B.Cs → Parser B.Cs
  cases e = repeat (λ c cs. where_true (is (t.Sign s.Comma) c.kind) (weighted e cs))

  unfoldable pub choose : Parser B.Ex → Token → Parser B.Di
  choose e c = expect (is (t.Sign s.BraceOpen)) (λ p. weighted e B.no_cases >>= (λ x. cases e x >>= (λ cs.
      expect (is (t.Sign s.BraceClose)) (λ q. pure (B.choose c.start cs)))))

  unfoldable pub uniform : Parser B.Ex → Token → Parser B.Di
  uniform e u = e >>= (λ x. if_first (is (t.Sign s.Range))
      (λ r. e >>= (λ y. pure (B.uniform_range u.start x y))) (pure (B.uniform_set u.start x)))

  unfoldable pub flip : Token → Parser B.Di
  flip f = number >>= (λ j. expect (is (t.Sign s.Slash)) (λ d. number >>= (λ k. pure (B.flip f.start j k))))

  -- the word that begins a distribution; without one it is an expression
  abbrev pub dist_by : ℕ → Token → Tok → Option (Parser B.Di)
  dist_by d o (t.Word w.UniformWord) = Some (uniform (expr (suc d)) o)
  dist_by d o (t.Word w.ChooseWord) = Some (choose (expr d) o)
  dist_by d o (t.Word w.FlipWord) = Some (flip o)
  dist_by d o _ = None

  unfoldable pub dist : ℕ → Parser B.Di
  dist zero = too_deep
  dist (suc d) = first_or (λ o. dist_by d o o.kind) (expr (suc d) >>= (λ x. pure (B.sure x)))

  -- a statement after its first token; the block is that of the next depth
  module _ (statements : Parser B.Ss) (d : ℕ) where
    unfoldable pub block : Parser B.Ss
    block = expect (is (t.Sign s.BraceOpen)) (λ p. statements >>= (λ xs. expect (is (t.Sign s.BraceClose)) (λ q. pure xs)))

    unfoldable pub assign : Token → Parser B.St
    assign n = expect (is (t.Sign s.Assign)) (λ g. dist d >>= (λ x.
        expect (is (t.Sign s.Semi)) (λ e. pure (B.assign n.start (named src n) x))))

    unfoldable pub observe : Token → Parser B.St
    observe o = dist d >>= (λ x. expect (is (t.Sign s.Semi)) (λ e. pure (B.observe o.start x)))

    unfoldable pub if_else : Token → Parser B.St
    if_else i = dist d >>= (λ x. block >>= (λ xs.
        expect (is (t.Word w.ElseWord)) (λ e. block >>= (λ ys. pure (B.if_else i.start x xs ys)))))

    unfoldable pub while : Token → Parser B.St
    while o = dist d >>= (λ x. block >>= (λ xs. pure (B.while o.start x xs)))

    abbrev pub statement_by : Token → Tok → Option (Parser B.St)
    statement_by o (t.Word w.SkipWord) = Some (expect (is (t.Sign s.Semi)) (λ e. pure (B.skip o.start)))
    statement_by o t.Name = Some (assign o)
    statement_by o (t.Word w.ObserveWord) = Some (observe o)
    statement_by o (t.Word w.IfWord) = Some (if_else o)
    statement_by o (t.Word w.WhileWord) = Some (while o)
    statement_by o _ = None

    abbrev pub pushed : B.Ss → Option (Parser B.St) → Option (Parser B.Ss)
    pushed xs (Some p) = Some (p >>= (λ x. pure (B.push_statement xs x)))
    pushed xs None = None

    unfoldable pub all_statements : Parser B.Ss
    all_statements = repeat (λ o xs. pushed xs (statement_by o o.kind)) B.no_statements

  unfoldable pub statements : ℕ → Parser B.Ss
  statements zero = too_deep
  statements (suc d) = all_statements (statements d) (suc d)

-- a whole number behind the token with its place
abbrev pub whole_by : Token → Tok → Option (Parser ℤ)
whole_by o (t.Number k) = Some (pure (pos k))
whole_by o (t.Sign s.Minus) = Some (number >>= (λ k. pure (neg_ℤ (pos k))))
whole_by o _ = None

unfoldable pub whole : Parser ℤ
whole = first (λ o. whole_by o o.kind)

unfoldable pub range : Token → ℤ → Parser TypeForm
range o lo = expect (is (t.Sign s.Range)) (λ r. whole >>= (λ hi. pure (type_at o.start (Range lo hi))))

module _ (type : Parser TypeForm) where
  unfoldable pub other_types : List TypeForm → Parser (List TypeForm)
  other_types = repeat (λ c xs. where_true (is (t.Sign s.Comma) c.kind) (type >>= (λ y. pure (xs ++ y ∷ []))))

  unfoldable pub tuple_type : Token → Parser TypeForm
  tuple_type p = type >>= (λ x. expect (is (t.Sign s.Comma)) (λ c. type >>= (λ y. other_types (x ∷ y ∷ []) >>= (λ xs.
      expect (is (t.Sign s.ParenClose)) (λ q. pure (type_at p.start (TupleOf (types xs))))))))

  abbrev pub base_by : Token → Tok → Option (Parser TypeForm)
  base_by o (t.Word w.BoolWord) = Some (pure (type_at o.start Boolean))
  base_by o (t.Number k) = Some (range o (pos k))
  base_by o (t.Sign s.Minus) = Some (number >>= (λ k. range o (neg_ℤ (pos k))))
  base_by o (t.Sign s.ParenOpen) = Some (tuple_type o)
  base_by o _ = None

  -- a type with fewer sets of sets than the number
  unfoldable pub sets : ℕ → Parser TypeForm
  sets zero = too_deep
  sets (suc n) = if_first (is (t.Word w.SetWord))
      (λ o. expect (is (t.Word w.OfWord)) (λ f. sets n >>= (λ x. pure (type_at o.start (SetOf x))))) (first (λ o. base_by o o.kind))

-- a type in which brackets nest less deep than the number
unfoldable pub type : ℕ → Parser TypeForm
type zero = too_deep
type (suc d) = sets (type d) (suc d)

module _ (B : Builder) (src : List ℕ) where
  -- a declaration behind its word, which says whether the variable is visible
  unfoldable pub declaration : ℕ → Bool → B.Ds → Parser B.Ds
  declaration d visible ds = expect (is t.Name) (λ n. expect (is (t.Sign s.Colon)) (λ c. type d >>= (λ y.
      expect (is (t.Sign s.Assign)) (λ g. dist B src d >>= (λ x.
      expect (is (t.Sign s.Semi)) (λ e. pure (B.push_declaration ds visible (named src n) y x)))))))

  unfoldable pub declarations : ℕ → Parser B.Ds
  declarations d = repeat (λ v ds. where_true (begins_declaration v.kind) (declaration d (is (t.Word w.VisWord) v.kind) ds)) B.no_declarations

  abbrev pub item_by : Token → Tok → Option (Parser ItemTree)
  item_by o t.Name = Some (pure (item false (named src o)))
  item_by o (t.Word w.OldWord) = Some (expect (is t.Name) (λ n. pure (item true (named src n))))
  item_by o _ = None

  unfoldable pub one_item : Parser ItemTree
  one_item = first (λ o. item_by o o.kind)

  unfoldable pub other_items : List ItemTree → Parser (List ItemTree)
  other_items = repeat (λ c xs. where_true (is (t.Sign s.Comma) c.kind) (one_item >>= (λ y. pure (xs ++ y ∷ []))))

  unfoldable pub items : Parser (List ItemTree)
  items = one_item >>= (λ x. other_items (x ∷ []) >>= (λ xs. expect (is (t.Sign s.Semi)) (λ e. pure xs)))

  unfoldable pub target : Parser (List ItemTree)
  target = if_first (is (t.Word w.AboutWord)) (λ o. items) (pure [])

  -- a program in which brackets nest less deep than the number
  unfoldable pub program : ℕ → Parser B.So
  program d = declarations d >>= (λ ds. target >>= (λ xs. statements B src d >>= (λ ss. pure (B.source ds xs ss))))
