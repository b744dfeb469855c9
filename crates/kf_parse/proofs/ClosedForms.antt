-- A relation that is kept by the steps of reading holds of each function of reading, at one depth and a greater one.
use Rattle.std.proofs.Common.{ℕ, zero, suc, ◌-◌, ◌≤◌, ◌==◌, List, [], ◌∷◌, ◌++◌, arith, true, false, Option, Some, None, Bool}
use Rattle.std.specs.Prelude.{ℤ, pos, neg_ℤ}
use Rattle.kf_ops.specs.declared.row.Op.{Op}
use Rattle.kf_lex.specs.declared.token.Token.{Token}
use Rattle.kf_lex.specs.declared.token.Tok.{Tok}
use Rattle.kf_lex.specs.declared.token.Tok.TheVariants as t
use Rattle.kf_lex.specs.declared.token.Word.TheVariants as w
use Rattle.kf_lex.specs.declared.token.Sign.TheVariants as s
use Rattle.kf_ast.specs.TypeForms.{TypeForm}
use Rattle.kf_ast.specs.Sources.{ItemTree}
use Rattle.kf_parse.specs.Operators.{arity_of}
use Rattle.kf_parse.specs.OperatorTokens.{infix_op, prefix_op, called_op, row_of}
use Rattle.kf_parse.specs.Grammar.{named}
use Rattle.kf_parse.specs.Tokens.{is}
use Rattle.kf_parse.specs.Outcomes.{Parser, pure}
use Rattle.kf_parse.specs.Begins.{begins_declaration}
use Rattle.kf_parse.specs.Builders.{Builder}
use Rattle.kf_parse.specs.Reading as r
use Rattle.kf_parse.proofs.Closed.{Closed, Started, then_kept, first_kept, where_kept, if_first_kept, expect_kept, repeat_kept, if_kept}

module _ (K : Closed) where
  number_by_kept : (k : Tok) → Started K.R (r.number_by k) (r.number_by k)
  number_by_kept (t.Number k) = K.by_pure k
  number_by_kept _ = tt

  pub number_kept : K.R r.number r.number
  unfolding r.number
  number_kept = first_kept K (λ o. r.number_by o.kind) (λ o. r.number_by o.kind) (λ o. number_by_kept o.kind)

module _ (K : Closed) (B : Builder) (src : List ℕ) where
  parts_kept : (x : B.Ex) → K.R (r.parts B src x) (r.parts B src x)
  unfolding r.parts
  parts_kept x = repeat_kept K (λ o. is (t.Sign s.Dot) o.kind) (λ o y. then_kept K (number_kept K) (λ k. K.by_pure (B.part y k))) x

  module _ (next next' : Parser B.Ex) (h : K.R next next') where
    pub operation_kept : (l : ℕ) (o : Token) (x : B.Ex) → Started K.R (r.operation B src next l o x) (r.operation B src next' l o x)
    operation_kept l o x = where_kept K (r.binds_at l (infix_op o.kind)) (then_kept K h (λ y. K.by_pure (B.join (r.row_in (infix_op o.kind)) x y)))

    climb_kept : (l : ℕ) (x : B.Ex) → K.R (r.climb B src next l x) (r.climb B src next' l x)
    unfolding r.climb
    climb_kept l x = K.by_repeat (r.operation B src next l) (r.operation B src next' l) (operation_kept l) x

    compared_kept : (x : B.Ex) → K.R (r.compared B src next x) (r.compared B src next' x)
    unfolding r.compared
    compared_kept x = K.by_first_or (λ o. r.operation B src next 4 o x) (λ o. r.operation B src next' 4 o x) (pure x) (pure x) (λ o. operation_kept 4 o x) (K.by_pure x)

    operations_kept : (l : ℕ) (x : B.Ex) → K.R (r.operations B src next l x) (r.operations B src next' l x)
    unfolding r.operations
    operations_kept l x = if_kept K (l == 4) (compared_kept x) (climb_kept l x)

    infixed_kept : (l : ℕ) → K.R (r.infixed B src next l) (r.infixed B src next' l)
    unfolding r.infixed
    infixed_kept l = then_kept K h (operations_kept l)

    prefixed_kept : (l : ℕ) → K.R (r.prefixed B src next l) (r.prefixed B src next' l)
    unfolding r.prefixed
    prefixed_kept l = K.by_first_or _ _ (r.infixed B src next l) (r.infixed B src next' l)
        (λ o. where_kept K (r.binds_at l (prefix_op o.kind)) (then_kept K h (λ x. K.by_pure (B.apply o.start (r.row_in (prefix_op o.kind)) (B.one x)))))
        (infixed_kept l)

  module _ (expr expr' : Parser B.Ex) (h : K.R expr expr') where
    others_kept : (xs : B.Exs) → K.R (r.others B src expr xs) (r.others B src expr' xs)
    unfolding r.others
    others_kept xs = repeat_kept K (λ o. is (t.Sign s.Comma) o.kind) (λ o ys. then_kept K h (λ y. K.by_pure (B.push ys y))) xs

    tuple_kept : (p : Token) (x : B.Ex) → K.R (r.tuple B src expr p x) (r.tuple B src expr' p x)
    unfolding r.tuple
    tuple_kept p x = then_kept K h (λ y. then_kept K (others_kept (B.push (B.one x) y)) (λ xs. expect_kept K (is (t.Sign s.ParenClose)) (λ q. K.by_pure (B.tuple p.start xs))))

    in_parens_by_kept : (p : Token) (x : B.Ex) (k : Tok) → Started K.R (r.in_parens_by B src expr p x k) (r.in_parens_by B src expr' p x k)
    in_parens_by_kept p x (t.Sign s.ParenClose) = K.by_pure (B.moved p.start x)
    in_parens_by_kept p x (t.Sign s.Comma) = tuple_kept p x
    in_parens_by_kept p x _ = tt

    in_parens_kept : (p : Token) → K.R (r.in_parens B src expr p) (r.in_parens B src expr' p)
    unfolding r.in_parens
    in_parens_kept p = then_kept K h (λ x. first_kept K (λ o. r.in_parens_by B src expr p x o.kind) (λ o. r.in_parens_by B src expr' p x o.kind) (λ o. in_parens_by_kept p x o.kind))

    in_braces_kept : (p : Token) → K.R (r.in_braces B src expr p) (r.in_braces B src expr' p)
    unfolding r.in_braces
    in_braces_kept p = then_kept K h (λ x. then_kept K (others_kept (B.one x)) (λ xs. expect_kept K (is (t.Sign s.BraceClose)) (λ q. K.by_pure (B.set_of p.start xs))))

    arguments_kept : (n : ℕ) (xs : B.Exs) → K.R (r.arguments B src expr n xs) (r.arguments B src expr' n xs)
    unfolding r.arguments
    arguments_kept zero xs = K.by_pure xs
    arguments_kept (suc n) xs = expect_kept K (is (t.Sign s.Comma)) (λ c. then_kept K h (λ y. arguments_kept n (B.push xs y)))

    call_kept : (f : Token) (op : Op) → K.R (r.call B src expr f op) (r.call B src expr' f op)
    unfolding r.call
    call_kept f op = expect_kept K (is (t.Sign s.ParenOpen)) (λ p. then_kept K h (λ x. then_kept K (arguments_kept (arity_of op - 1) (B.one x)) (λ xs. expect_kept K (is (t.Sign s.ParenClose)) (λ q. K.by_pure (B.apply f.start (row_of op) xs)))))

    called_kept : (f : Token) (v : Option Op) → Started K.R (r.called B src expr f v) (r.called B src expr' f v)
    called_kept f (Some op) = call_kept f op
    called_kept f None = tt

    operand_by_kept : (o : Token) (k : Tok) → Started K.R (r.operand_by B src expr o k) (r.operand_by B src expr' o k)
    operand_by_kept o (t.Number k) = K.by_pure (B.number o.start k)
    operand_by_kept o t.Name = K.by_pure _
    operand_by_kept o (t.Word w.TrueWord) = K.by_pure (B.truth o.start true)
    operand_by_kept o (t.Word w.FalseWord) = K.by_pure (B.truth o.start false)
    operand_by_kept o (t.Sign s.ParenOpen) = in_parens_kept o
    operand_by_kept o (t.Sign s.BraceOpen) = in_braces_kept o
    operand_by_kept o k = called_kept o (called_op k)

    operand_kept : K.R (r.operand B src expr) (r.operand B src expr')
    unfolding r.operand
    operand_kept = first_kept K (λ o. r.operand_by B src expr o o.kind) (λ o. r.operand_by B src expr' o o.kind) (λ o. operand_by_kept o o.kind)

    postfix_kept : K.R (r.postfix B src expr) (r.postfix B src expr')
    unfolding r.postfix
    postfix_kept = then_kept K operand_kept parts_kept

    pub level_kept : (n : ℕ) → K.R (r.level B src expr n) (r.level B src expr' n)
    unfolding r.level
    level_kept zero = postfix_kept
    level_kept (suc n) = prefixed_kept (r.level B src expr n) (r.level B src expr' n) (level_kept n) (7 - n)

  expr_same : (d : ℕ) → K.R (r.expr B src d) (r.expr B src d)
  unfolding r.expr
  expr_same zero = K.by_deep B.Ex
  expr_same (suc d) = level_kept (r.expr B src d) (r.expr B src d) (expr_same d) 7

  pub expr_kept : (d e : ℕ) → d ≤ e → K.R (r.expr B src d) (r.expr B src e)
  unfolding r.expr
  expr_kept zero e low = K.by_deeper _ (expr_same e)
  expr_kept (suc d) zero low = absurd (omega arith)
  expr_kept (suc d) (suc e) low = level_kept (r.expr B src d) (r.expr B src e) (expr_kept d e (omega arith)) 7

  pub weighted_kept : (e e' : Parser B.Ex) → K.R e e' → (cs : B.Cs) → K.R (r.weighted B src e cs) (r.weighted B src e' cs)
  unfolding r.weighted
  weighted_kept e e' h cs = then_kept K h (λ x. expect_kept K (is (t.Sign s.Colon)) (λ c. then_kept K h (λ y. K.by_pure (B.push_case cs x y))))

  cases_kept : (e e' : Parser B.Ex) → K.R e e' → (cs : B.Cs) → K.R (r.cases B src e cs) (r.cases B src e' cs)
  unfolding r.cases
  cases_kept e e' h cs = repeat_kept K (λ o. is (t.Sign s.Comma) o.kind) (λ o xs. weighted_kept e e' h xs) cs

  choose_kept : (e e' : Parser B.Ex) → K.R e e' → (c : Token) → K.R (r.choose B src e c) (r.choose B src e' c)
  unfolding r.choose
  choose_kept e e' h c = expect_kept K (is (t.Sign s.BraceOpen)) (λ p. then_kept K (weighted_kept e e' h B.no_cases) (λ x. then_kept K (cases_kept e e' h x) (λ cs. expect_kept K (is (t.Sign s.BraceClose)) (λ q. K.by_pure (B.choose c.start cs)))))

  uniform_kept : (e e' : Parser B.Ex) → K.R e e' → (u : Token) → K.R (r.uniform B src e u) (r.uniform B src e' u)
  unfolding r.uniform
  uniform_kept e e' h u = then_kept K h (λ x. if_first_kept K (is (t.Sign s.Range)) (λ r. then_kept K h (λ y. K.by_pure (B.uniform_range u.start x y))) (K.by_pure (B.uniform_set u.start x)))

  flip_kept : (f : Token) → K.R (r.flip B src f) (r.flip B src f)
  unfolding r.flip
  flip_kept f = then_kept K (number_kept K) (λ j. expect_kept K (is (t.Sign s.Slash)) (λ d. then_kept K (number_kept K) (λ k. K.by_pure (B.flip f.start j k))))

  dist_by_kept : (d e : ℕ) → d ≤ e → (o : Token) (k : Tok) → Started K.R (r.dist_by B src d o k) (r.dist_by B src e o k)
  dist_by_kept d e low o (t.Word w.UniformWord) = uniform_kept (r.expr B src (suc d)) (r.expr B src (suc e)) (expr_kept (suc d) (suc e) (omega arith)) o
  dist_by_kept d e low o (t.Word w.ChooseWord) = choose_kept (r.expr B src d) (r.expr B src e) (expr_kept d e low) o
  dist_by_kept d e low o (t.Word w.FlipWord) = flip_kept o
  dist_by_kept d e low o _ = tt

  dist_above : (d e : ℕ) → d ≤ e → K.R (r.dist B src (suc d)) (r.dist B src (suc e))
  unfolding r.dist
  dist_above d e low = K.by_first_or (λ o. r.dist_by B src d o o.kind) (λ o. r.dist_by B src e o o.kind) _ _ (λ o. dist_by_kept d e low o o.kind) (then_kept K (expr_kept (suc d) (suc e) (omega arith)) (λ x. K.by_pure (B.sure x)))

  dist_same : (d : ℕ) → K.R (r.dist B src d) (r.dist B src d)
  unfolding r.dist
  dist_same zero = K.by_deep B.Di
  dist_same (suc d) = dist_above d d (omega arith)

  pub dist_kept : (d e : ℕ) → d ≤ e → K.R (r.dist B src d) (r.dist B src e)
  unfolding r.dist
  dist_kept zero e low = K.by_deeper _ (dist_same e)
  dist_kept (suc d) zero low = absurd (omega arith)
  dist_kept (suc d) (suc e) low = dist_above d e (omega arith)

  module _ (ss ss' : Parser B.Ss) (h : K.R ss ss') (d e : ℕ) (low : d ≤ e) where
    block_kept : K.R (r.block B src ss d) (r.block B src ss' e)
    unfolding r.block
    block_kept = expect_kept K (is (t.Sign s.BraceOpen)) (λ p. then_kept K h (λ xs. expect_kept K (is (t.Sign s.BraceClose)) (λ q. K.by_pure xs)))

    assign_kept : (n : Token) → K.R (r.assign B src ss d n) (r.assign B src ss' e n)
    unfolding r.assign
    assign_kept n = expect_kept K (is (t.Sign s.Assign)) (λ g. then_kept K (dist_kept d e low) (λ x. expect_kept K (is (t.Sign s.Semi)) (λ q. K.by_pure (B.assign n.start (named src n) x))))

    observe_kept : (o : Token) → K.R (r.observe B src ss d o) (r.observe B src ss' e o)
    unfolding r.observe
    observe_kept o = then_kept K (dist_kept d e low) (λ x. expect_kept K (is (t.Sign s.Semi)) (λ q. K.by_pure (B.observe o.start x)))

    if_else_kept : (i : Token) → K.R (r.if_else B src ss d i) (r.if_else B src ss' e i)
    unfolding r.if_else
    if_else_kept i = then_kept K (dist_kept d e low) (λ x. then_kept K block_kept (λ xs. expect_kept K (is (t.Word w.ElseWord)) (λ q. then_kept K block_kept (λ ys. K.by_pure (B.if_else i.start x xs ys)))))

    while_kept : (o : Token) → K.R (r.while B src ss d o) (r.while B src ss' e o)
    unfolding r.while
    while_kept o = then_kept K (dist_kept d e low) (λ x. then_kept K block_kept (λ xs. K.by_pure (B.while o.start x xs)))

    pub statement_by_kept : (o : Token) (k : Tok) → Started K.R (r.statement_by B src ss d o k) (r.statement_by B src ss' e o k)
    statement_by_kept o (t.Word w.SkipWord) = expect_kept K (is (t.Sign s.Semi)) (λ q. K.by_pure (B.skip o.start))
    statement_by_kept o t.Name = assign_kept o
    statement_by_kept o (t.Word w.ObserveWord) = observe_kept o
    statement_by_kept o (t.Word w.IfWord) = if_else_kept o
    statement_by_kept o (t.Word w.WhileWord) = while_kept o
    statement_by_kept o _ = tt

    pub pushed_kept : (xs : B.Ss) (v v' : Option (Parser B.St)) → Started K.R v v' → Started K.R (r.pushed B src ss d xs v) (r.pushed B src ss' e xs v')
    pushed_kept xs (Some p) (Some q) k = then_kept K k (λ x. K.by_pure (B.push_statement xs x))
    pushed_kept xs None None k = tt
    pushed_kept xs (Some p) None k = k
    pushed_kept xs None (Some q) k = k

    all_statements_kept : K.R (r.all_statements B src ss d) (r.all_statements B src ss' e)
    unfolding r.all_statements
    all_statements_kept = K.by_repeat (λ o xs. r.pushed B src ss d xs (r.statement_by B src ss d o o.kind)) (λ o xs. r.pushed B src ss' e xs (r.statement_by B src ss' e o o.kind))
        (λ o xs. pushed_kept xs (r.statement_by B src ss d o o.kind) (r.statement_by B src ss' e o o.kind) (statement_by_kept o o.kind)) B.no_statements

  statements_same : (d : ℕ) → K.R (r.statements B src d) (r.statements B src d)
  unfolding r.statements
  statements_same zero = K.by_deep B.Ss
  statements_same (suc d) = all_statements_kept (r.statements B src d) (r.statements B src d) (statements_same d) (suc d) (suc d) (omega arith)

  pub statements_kept : (d e : ℕ) → d ≤ e → K.R (r.statements B src d) (r.statements B src e)
  unfolding r.statements
  statements_kept zero e low = K.by_deeper _ (statements_same e)
  statements_kept (suc d) zero low = absurd (omega arith)
  statements_kept (suc d) (suc e) low = all_statements_kept (r.statements B src d) (r.statements B src e) (statements_kept d e (omega arith)) (suc d) (suc e) (omega arith)

module _ (K : Closed) where
  whole_by_kept : (o : Token) (k : Tok) → Started K.R (r.whole_by o k) (r.whole_by o k)
  whole_by_kept o (t.Number k) = K.by_pure (pos k)
  whole_by_kept o (t.Sign s.Minus) = then_kept K (number_kept K) (λ k. K.by_pure (neg_ℤ (pos k)))
  whole_by_kept o _ = tt

  pub whole_kept : K.R r.whole r.whole
  unfolding r.whole
  whole_kept = first_kept K (λ o. r.whole_by o o.kind) (λ o. r.whole_by o o.kind) (λ o. whole_by_kept o o.kind)

  range_kept : (o : Token) (lo : ℤ) → K.R (r.range o lo) (r.range o lo)
  unfolding r.range
  range_kept o lo = expect_kept K (is (t.Sign s.Range)) (λ q. then_kept K whole_kept (λ hi. K.by_pure _))

  module _ (type type' : Parser TypeForm) (h : K.R type type') where
    other_types_kept : (xs : List TypeForm) → K.R (r.other_types type xs) (r.other_types type' xs)
    unfolding r.other_types
    other_types_kept xs = repeat_kept K (λ o. is (t.Sign s.Comma) o.kind) (λ o ys. then_kept K h (λ y. K.by_pure (ys ++ y ∷ []))) xs

    tuple_type_kept : (p : Token) → K.R (r.tuple_type type p) (r.tuple_type type' p)
    unfolding r.tuple_type
    tuple_type_kept p = then_kept K h (λ x. expect_kept K (is (t.Sign s.Comma)) (λ c. then_kept K h (λ y. then_kept K (other_types_kept (x ∷ y ∷ [])) (λ xs. expect_kept K (is (t.Sign s.ParenClose)) (λ q. K.by_pure _)))))

    base_by_kept : (o : Token) (k : Tok) → Started K.R (r.base_by type o k) (r.base_by type' o k)
    base_by_kept o (t.Word w.BoolWord) = K.by_pure _
    base_by_kept o (t.Number k) = range_kept o (pos k)
    base_by_kept o (t.Sign s.Minus) = then_kept K (number_kept K) (λ k. range_kept o (neg_ℤ (pos k)))
    base_by_kept o (t.Sign s.ParenOpen) = tuple_type_kept o
    base_by_kept o _ = tt

    sets_above : (n m : ℕ) → K.R (r.sets type n) (r.sets type' m) → K.R (r.sets type (suc n)) (r.sets type' (suc m))
    unfolding r.sets
    sets_above n m ih = if_first_kept K (is (t.Word w.SetWord)) (λ o. expect_kept K (is (t.Word w.OfWord)) (λ f. then_kept K ih (λ x. K.by_pure _))) (first_kept K (λ o. r.base_by type o o.kind) (λ o. r.base_by type' o o.kind) (λ o. base_by_kept o o.kind))

  sets_same : (type : Parser TypeForm) → K.R type type → (n : ℕ) → K.R (r.sets type n) (r.sets type n)
  unfolding r.sets
  sets_same type h zero = K.by_deep TypeForm
  sets_same type h (suc n) = sets_above type type h n n (sets_same type h n)

  sets_kept : (type type' : Parser TypeForm) → K.R type type' → K.R type' type' → (n m : ℕ) → n ≤ m → K.R (r.sets type n) (r.sets type' m)
  unfolding r.sets
  sets_kept type type' h k zero m low = K.by_deeper _ (sets_same type' k m)
  sets_kept type type' h k (suc n) zero low = absurd (omega arith)
  sets_kept type type' h k (suc n) (suc m) low = sets_above type type' h n m (sets_kept type type' h k n m (omega arith))

  type_same : (d : ℕ) → K.R (r.type d) (r.type d)
  unfolding r.type
  type_same zero = K.by_deep TypeForm
  type_same (suc d) = sets_same (r.type d) (type_same d) (suc d)

  pub type_kept : (d e : ℕ) → d ≤ e → K.R (r.type d) (r.type e)
  unfolding r.type
  type_kept zero e low = K.by_deeper _ (type_same e)
  type_kept (suc d) zero low = absurd (omega arith)
  type_kept (suc d) (suc e) low = sets_kept (r.type d) (r.type e) (type_kept d e (omega arith)) (type_same e) (suc d) (suc e) (omega arith)

module _ (K : Closed) (B : Builder) (src : List ℕ) where
  pub declaration_kept : (d e : ℕ) → d ≤ e → (visible : Bool) (ds : B.Ds) → K.R (r.declaration B src d visible ds) (r.declaration B src e visible ds)
  unfolding r.declaration
  declaration_kept d e low visible ds = expect_kept K (is t.Name) (λ n. expect_kept K (is (t.Sign s.Colon)) (λ c. then_kept K (type_kept K d e low) (λ y. expect_kept K (is (t.Sign s.Assign))
      (λ g. then_kept K (dist_kept K B src d e low) (λ x. expect_kept K (is (t.Sign s.Semi)) (λ q. K.by_pure (B.push_declaration ds visible (named src n) y x)))))))

  declarations_kept : (d e : ℕ) → d ≤ e → K.R (r.declarations B src d) (r.declarations B src e)
  unfolding r.declarations
  declarations_kept d e low = repeat_kept K (λ o. begins_declaration o.kind) (λ o ds. declaration_kept d e low (is (t.Word w.VisWord) o.kind) ds) B.no_declarations

  item_by_kept : (o : Token) (k : Tok) → Started K.R (r.item_by B src o k) (r.item_by B src o k)
  item_by_kept o t.Name = K.by_pure _
  item_by_kept o (t.Word w.OldWord) = expect_kept K (is t.Name) (λ n. K.by_pure _)
  item_by_kept o _ = tt

  pub one_item_kept : K.R (r.one_item B src) (r.one_item B src)
  unfolding r.one_item
  one_item_kept = first_kept K (λ o. r.item_by B src o o.kind) (λ o. r.item_by B src o o.kind) (λ o. item_by_kept o o.kind)

  other_items_kept : (xs : List ItemTree) → K.R (r.other_items B src xs) (r.other_items B src xs)
  unfolding r.other_items
  other_items_kept xs = repeat_kept K (λ o. is (t.Sign s.Comma) o.kind) (λ o ys. then_kept K one_item_kept (λ y. K.by_pure (ys ++ y ∷ []))) xs

  items_kept : K.R (r.items B src) (r.items B src)
  unfolding r.items
  items_kept = then_kept K one_item_kept (λ x. then_kept K (other_items_kept (x ∷ [])) (λ xs. expect_kept K (is (t.Sign s.Semi)) (λ q. K.by_pure xs)))

  target_kept : K.R (r.target B src) (r.target B src)
  unfolding r.target
  target_kept = if_first_kept K (is (t.Word w.AboutWord)) (λ o. items_kept) (K.by_pure [])

  pub program_kept : (d e : ℕ) → d ≤ e → K.R (r.program B src d) (r.program B src e)
  unfolding r.program
  program_kept d e low = then_kept K (declarations_kept d e low) (λ ds. then_kept K target_kept (λ xs. then_kept K (statements_kept K B src d e low) (λ ss. K.by_pure (B.source ds xs ss))))
