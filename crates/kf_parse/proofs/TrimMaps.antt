-- Maps between two builders that respect what they build: every reader carries them.
use Rattle.std.proofs.Common.{◌≡◌, ℕ, zero, suc, ◌-◌, ◌==◌, if◌then◌else◌, Bool, true, false, List, refl, ◌∙◌, ap, Option, Some, None}
use Rattle.kf_ops.specs.declared.row.Op.{Op}
use Rattle.kf_lex.specs.declared.token.Token.{Token}
use Rattle.kf_lex.specs.declared.token.Tok.{Tok}
use Rattle.kf_lex.specs.declared.token.Tok.TheVariants as t
use Rattle.kf_lex.specs.declared.token.Word.TheVariants as w
use Rattle.kf_lex.specs.declared.token.Sign.TheVariants as s
use Rattle.kf_ast.specs.Names.{NameTree}
use Rattle.kf_ast.specs.TypeForms.{TypeForm}
use Rattle.kf_ast.specs.Sources.{ItemTree}
use Rattle.kf_parse.specs.OperatorTokens.{prefix_op, called_op}
use Rattle.kf_parse.specs.Grammar.{named}
use Rattle.kf_parse.specs.Tokens.{is}
use Rattle.kf_parse.specs.Outcomes.{Parser, ◌>>=◌, pure, expect}
use Rattle.kf_parse.specs.Builders.{Builder}
use Rattle.kf_parse.specs.Reading as r
use Rattle.kf_parse.proofs.TrimSteps.{Carries, CarriesStart, both, neither, pure_carries, deep_carries, then_carries, after_carries, first_or_carries, first_carries, test_carries, expect_carries, if_first_carries, repeat_carries}

pub record Maps (A B : Builder) : Type 0 where
  pub ex : A.Ex → B.Ex
  pub exs : A.Exs → B.Exs
  pub cs : A.Cs → B.Cs
  pub di : A.Di → B.Di
  pub st : A.St → B.St
  pub ss : A.Ss → B.Ss
  pub ds : A.Ds → B.Ds
  pub so : A.So → B.So
  pub number : (at k : ℕ) → ex (A.number at k) ≡ B.number at k
  pub truth : (at : ℕ) (b : Bool) → ex (A.truth at b) ≡ B.truth at b
  pub variable : (n : NameTree) → ex (A.variable n) ≡ B.variable n
  pub moved : (at : ℕ) (x : A.Ex) → ex (A.moved at x) ≡ B.moved at (ex x)
  pub one : (x : A.Ex) → exs (A.one x) ≡ B.one (ex x)
  pub push : (xs : A.Exs) (x : A.Ex) → exs (A.push xs x) ≡ B.push (exs xs) (ex x)
  pub apply : (at row : ℕ) (xs : A.Exs) → ex (A.apply at row xs) ≡ B.apply at row (exs xs)
  pub tuple : (at : ℕ) (xs : A.Exs) → ex (A.tuple at xs) ≡ B.tuple at (exs xs)
  pub set_of : (at : ℕ) (xs : A.Exs) → ex (A.set_of at xs) ≡ B.set_of at (exs xs)
  pub join : (row : ℕ) (x y : A.Ex) → ex (A.join row x y) ≡ B.join row (ex x) (ex y)
  pub part : (x : A.Ex) (k : ℕ) → ex (A.part x k) ≡ B.part (ex x) k
  pub sure : (x : A.Ex) → di (A.sure x) ≡ B.sure (ex x)
  pub uniform_set : (at : ℕ) (x : A.Ex) → di (A.uniform_set at x) ≡ B.uniform_set at (ex x)
  pub uniform_range : (at : ℕ) (x y : A.Ex) → di (A.uniform_range at x y) ≡ B.uniform_range at (ex x) (ex y)
  pub no_cases : cs A.no_cases ≡ B.no_cases
  pub push_case : (zs : A.Cs) (x y : A.Ex) → cs (A.push_case zs x y) ≡ B.push_case (cs zs) (ex x) (ex y)
  pub choose : (at : ℕ) (zs : A.Cs) → di (A.choose at zs) ≡ B.choose at (cs zs)
  pub flip : (at j k : ℕ) → di (A.flip at j k) ≡ B.flip at j k
  pub skip : (at : ℕ) → st (A.skip at) ≡ B.skip at
  pub assign : (at : ℕ) (n : NameTree) (d : A.Di) → st (A.assign at n d) ≡ B.assign at n (di d)
  pub observe : (at : ℕ) (d : A.Di) → st (A.observe at d) ≡ B.observe at (di d)
  pub if_else : (at : ℕ) (d : A.Di) (xs ys : A.Ss) → st (A.if_else at d xs ys) ≡ B.if_else at (di d) (ss xs) (ss ys)
  pub while : (at : ℕ) (d : A.Di) (xs : A.Ss) → st (A.while at d xs) ≡ B.while at (di d) (ss xs)
  pub no_statements : ss A.no_statements ≡ B.no_statements
  pub push_statement : (xs : A.Ss) (x : A.St) → ss (A.push_statement xs x) ≡ B.push_statement (ss xs) (st x)
  pub no_declarations : ds A.no_declarations ≡ B.no_declarations
  pub push_declaration : (zs : A.Ds) (visible : Bool) (n : NameTree) (y : TypeForm) (d : A.Di) → ds (A.push_declaration zs visible n y d) ≡ B.push_declaration (ds zs) visible n y (di d)
  pub source : (zs : A.Ds) (is : List ItemTree) (xs : A.Ss) → so (A.source zs is xs) ≡ B.source (ds zs) is (ss xs)

module _ (A B : Builder) (M : Maps A B) (src : List ℕ) where
  parts_maps : (x : A.Ex) → Carries M.ex (r.parts A src x) (r.parts B src (M.ex x))
  unfolding r.parts
  parts_maps x = repeat_carries M.ex _ _ (λ d y. test_carries M.ex _ _ _ (after_carries M.ex _ _ _ (λ k. pure_carries M.ex _ _ (M.part y k)))) x _ refl

  module _ (next : Parser A.Ex) (next' : Parser B.Ex) (c : Carries M.ex next next') where
    operation_maps : (l : ℕ) (o : Token) (x : A.Ex) → CarriesStart M.ex (r.operation A src next l o x) (r.operation B src next' l o (M.ex x))
    operation_maps l o x = test_carries M.ex _ _ _ (then_carries M.ex M.ex _ _ (λ y. pure_carries M.ex _ _ (M.join _ x y)) next next' c)

    climb_maps : (l : ℕ) (x : A.Ex) → Carries M.ex (r.climb A src next l x) (r.climb B src next' l (M.ex x))
    unfolding r.climb
    climb_maps l x = repeat_carries M.ex _ _ (operation_maps l) x _ refl

    compared_maps : (x : A.Ex) → Carries M.ex (r.compared A src next x) (r.compared B src next' (M.ex x))
    unfolding r.compared
    compared_maps x = first_or_carries M.ex _ _ (pure x) _ (λ o. operation_maps 4 o x) (pure_carries M.ex _ _ refl)

    operations_maps : (l : ℕ) (x : A.Ex) → Carries M.ex (r.operations A src next l x) (r.operations B src next' l (M.ex x))
    unfolding r.operations
    operations_maps l x = by_test (l == 4)
      where
        by_test : (b : Bool) → Carries M.ex (if b then r.compared A src next x else r.climb A src next l x) (if b then r.compared B src next' (M.ex x) else r.climb B src next' l (M.ex x))
        by_test true = compared_maps x
        by_test false = climb_maps l x

    infixed_maps : (l : ℕ) → Carries M.ex (r.infixed A src next l) (r.infixed B src next' l)
    unfolding r.infixed
    infixed_maps l = then_carries M.ex M.ex _ _ (operations_maps l) next next' c

    prefixed_maps : (l : ℕ) → Carries M.ex (r.prefixed A src next l) (r.prefixed B src next' l)
    unfolding r.prefixed
    prefixed_maps l = first_or_carries M.ex _ _ _ _ (λ o. test_carries M.ex _ _ _ (applied o (r.row_in (prefix_op o.kind)))) (infixed_maps l)
      where
        applied : (o : Token) (row : ℕ) → Carries M.ex (next >>= (λ x. pure (A.apply o.start row (A.one x)))) (next' >>= (λ x. pure (B.apply o.start row (B.one x))))
        applied o row = then_carries M.ex M.ex _ _ (λ x. pure_carries M.ex _ _ (M.apply o.start row (A.one x) ∙ ap (B.apply o.start row) (M.one x))) next next' c

  module _ (e : Parser A.Ex) (e' : Parser B.Ex) (c : Carries M.ex e e') where
    others_maps : (xs : A.Exs) (ys : B.Exs) → M.exs xs ≡ ys → Carries M.exs (r.others A src e xs) (r.others B src e' ys)
    unfolding r.others
    others_maps = repeat_carries M.exs _ _ (λ o xs. test_carries M.exs _ _ _ (then_carries M.ex M.exs _ _ (λ y. pure_carries M.exs _ _ (M.push xs y)) e e' c))

    tuple_maps : (p : Token) (x : A.Ex) → Carries M.ex (r.tuple A src e p x) (r.tuple B src e' p (M.ex x))
    unfolding r.tuple
    tuple_maps p x = then_carries M.ex M.ex _ _ (λ y. then_carries M.exs M.ex _ _ (λ xs. expect_carries M.ex _ _ _ (λ q. pure_carries M.ex _ _ (M.tuple _ xs))) _ _
        (others_maps _ _ (M.push _ y ∙ ap (λ z. B.push z (M.ex y)) (M.one x)))) e e' c

    in_parens_by_maps : (p : Token) (x : A.Ex) (k : Tok) → CarriesStart M.ex (r.in_parens_by A src e p x k) (r.in_parens_by B src e' p (M.ex x) k)
    in_parens_by_maps p x (t.Sign s.ParenClose) = both (pure_carries M.ex _ _ (M.moved _ x))
    in_parens_by_maps p x (t.Sign s.Comma) = both (tuple_maps p x)
    in_parens_by_maps p x _ = neither

    in_parens_maps : (p : Token) → Carries M.ex (r.in_parens A src e p) (r.in_parens B src e' p)
    unfolding r.in_parens
    in_parens_maps p = then_carries M.ex M.ex _ _ (λ x. first_carries M.ex _ _ (λ o. in_parens_by_maps p x o.kind)) e e' c

    in_braces_maps : (p : Token) → Carries M.ex (r.in_braces A src e p) (r.in_braces B src e' p)
    unfolding r.in_braces
    in_braces_maps p = then_carries M.ex M.ex _ _ (λ x. then_carries M.exs M.ex _ _ (λ xs. expect_carries M.ex _ _ _ (λ q. pure_carries M.ex _ _ (M.set_of _ xs))) _ _ (others_maps _ _ (M.one x))) e e' c

    arguments_maps : (n : ℕ) (xs : A.Exs) (ys : B.Exs) → M.exs xs ≡ ys → Carries M.exs (r.arguments A src e n xs) (r.arguments B src e' n ys)
    unfolding r.arguments
    arguments_maps zero xs ys same = pure_carries M.exs _ _ same
    arguments_maps (suc n) xs ys same = expect_carries M.exs _ _ _ (λ o. then_carries M.ex M.exs _ _ (λ y. arguments_maps n _ _ (M.push xs y ∙ ap (λ z. B.push z (M.ex y)) same)) e e' c)

    call_maps : (f : Token) (op : Op) → Carries M.ex (r.call A src e f op) (r.call B src e' f op)
    unfolding r.call
    call_maps f op = expect_carries M.ex _ _ _ (λ p. then_carries M.ex M.ex _ _ (λ x. then_carries M.exs M.ex _ _ (λ xs. expect_carries M.ex _ _ _ (λ q. pure_carries M.ex _ _ (M.apply _ _ xs))) _ _
        (arguments_maps _ _ _ (M.one x))) e e' c)

    called_maps : (f : Token) (v : Option Op) → CarriesStart M.ex (r.called A src e f v) (r.called B src e' f v)
    called_maps f (Some op) = both (call_maps f op)
    called_maps f None = neither

    operand_by_maps : (o : Token) (k : Tok) → CarriesStart M.ex (r.operand_by A src e o k) (r.operand_by B src e' o k)
    operand_by_maps o (t.Number k) = both (pure_carries M.ex _ _ (M.number _ k))
    operand_by_maps o t.Name = both (pure_carries M.ex _ _ (M.variable _))
    operand_by_maps o (t.Word w.TrueWord) = both (pure_carries M.ex _ _ (M.truth _ true))
    operand_by_maps o (t.Word w.FalseWord) = both (pure_carries M.ex _ _ (M.truth _ false))
    operand_by_maps o (t.Sign s.ParenOpen) = both (in_parens_maps o)
    operand_by_maps o (t.Sign s.BraceOpen) = both (in_braces_maps o)
    operand_by_maps o k = called_maps o (called_op k)

    operand_maps : Carries M.ex (r.operand A src e) (r.operand B src e')
    unfolding r.operand
    operand_maps = first_carries M.ex _ _ (λ o. operand_by_maps o o.kind)

    postfix_maps : Carries M.ex (r.postfix A src e) (r.postfix B src e')
    unfolding r.postfix
    postfix_maps = then_carries M.ex M.ex _ _ parts_maps _ _ operand_maps

    level_maps : (h : ℕ) → Carries M.ex (r.level A src e h) (r.level B src e' h)
    unfolding r.level
    level_maps zero = postfix_maps
    level_maps (suc h) = prefixed_maps _ _ (level_maps h) (7 - h)

  expr_maps : (d : ℕ) → Carries M.ex (r.expr A src d) (r.expr B src d)
  unfolding r.expr
  expr_maps zero = deep_carries M.ex
  expr_maps (suc d) = level_maps _ _ (expr_maps d) 7

  module _ (e : Parser A.Ex) (e' : Parser B.Ex) (c : Carries M.ex e e') where
    weighted_maps : (zs : A.Cs) (ys : B.Cs) → M.cs zs ≡ ys → Carries M.cs (r.weighted A src e zs) (r.weighted B src e' ys)
    unfolding r.weighted
    weighted_maps zs ys same = then_carries M.ex M.cs _ _ (λ x. expect_carries M.cs _ _ _ (λ o. then_carries M.ex M.cs _ _ (λ y. pure_carries M.cs _ _ (M.push_case zs x y ∙ ap (λ z. B.push_case z (M.ex x) (M.ex y)) same)) e e' c)) e e' c

    cases_maps : (zs : A.Cs) → Carries M.cs (r.cases A src e zs) (r.cases B src e' (M.cs zs))
    unfolding r.cases
    cases_maps zs = repeat_carries M.cs _ _ (λ o ys. test_carries M.cs _ _ _ (weighted_maps ys _ refl)) zs _ refl

    choose_maps : (o : Token) → Carries M.di (r.choose A src e o) (r.choose B src e' o)
    unfolding r.choose
    choose_maps o = expect_carries M.di _ _ _ (λ p. then_carries M.cs M.di _ _ (λ z. then_carries M.cs M.di _ _ (λ zs. expect_carries M.di _ _ _ (λ q. pure_carries M.di _ _ (M.choose _ zs))) _ _ (cases_maps z)) _ _ (weighted_maps _ _ M.no_cases))

    uniform_maps : (u : Token) → Carries M.di (r.uniform A src e u) (r.uniform B src e' u)
    unfolding r.uniform
    uniform_maps u = then_carries M.ex M.di _ _ (λ x. if_first_carries M.di _ _ _ (pure (A.uniform_set u.start x)) _ (λ o. then_carries M.ex M.di (λ y. pure (A.uniform_range u.start x y)) _ (λ y. pure_carries M.di _ _ (M.uniform_range _ x y)) e e' c) (pure_carries M.di _ _ (M.uniform_set _ x))) e e' c

  flip_maps : (f : Token) → Carries M.di (r.flip A src f) (r.flip B src f)
  unfolding r.flip
  flip_maps f = after_carries M.di _ _ r.number (λ j. expect_carries M.di (is (t.Sign s.Slash)) (λ d. r.number >>= (λ k. pure (A.flip f.start j k))) _ (λ d. after_carries M.di (λ k. pure (A.flip f.start j k)) _ r.number (λ k. pure_carries M.di _ _ (M.flip f.start j k))))

  dist_by_maps : (d : ℕ) (o : Token) (k : Tok) → CarriesStart M.di (r.dist_by A src d o k) (r.dist_by B src d o k)
  dist_by_maps d o (t.Word w.UniformWord) = both (uniform_maps _ _ (expr_maps (suc d)) o)
  dist_by_maps d o (t.Word w.ChooseWord) = both (choose_maps _ _ (expr_maps d) o)
  dist_by_maps d o (t.Word w.FlipWord) = both (flip_maps o)
  dist_by_maps d o _ = neither

  dist_maps : (d : ℕ) → Carries M.di (r.dist A src d) (r.dist B src d)
  unfolding r.dist
  dist_maps zero = deep_carries M.di
  dist_maps (suc d) = first_or_carries M.di _ _ _ _ (λ o. dist_by_maps d o o.kind) (then_carries M.ex M.di _ _ (λ x. pure_carries M.di _ _ (M.sure x)) _ _ (expr_maps (suc d)))

  module _ (e : Parser A.Ss) (e' : Parser B.Ss) (c : Carries M.ss e e') (d : ℕ) where
    block_maps : Carries M.ss (r.block A src e d) (r.block B src e' d)
    unfolding r.block
    block_maps = expect_carries M.ss _ _ _ (λ p. then_carries M.ss M.ss _ _ (λ xs. expect_carries M.ss _ _ _ (λ q. pure_carries M.ss _ _ refl)) e e' c)

    assign_maps : (n : Token) → Carries M.st (r.assign A src e d n) (r.assign B src e' d n)
    unfolding r.assign
    assign_maps n = expect_carries M.st _ _ _ (λ g. then_carries M.di M.st _ _ (λ x. expect_carries M.st _ _ _ (λ q. pure_carries M.st _ _ (M.assign _ _ x))) _ _ (dist_maps d))

    observe_maps : (o : Token) → Carries M.st (r.observe A src e d o) (r.observe B src e' d o)
    unfolding r.observe
    observe_maps o = then_carries M.di M.st _ _ (λ x. expect_carries M.st _ _ _ (λ q. pure_carries M.st _ _ (M.observe _ x))) _ _ (dist_maps d)

    if_else_maps : (i : Token) → Carries M.st (r.if_else A src e d i) (r.if_else B src e' d i)
    unfolding r.if_else
    if_else_maps i = then_carries M.di M.st _ _ (λ x. then_carries M.ss M.st _ _ (λ xs. expect_carries M.st _ _ _ (λ q. then_carries M.ss M.st _ _ (λ ys. pure_carries M.st _ _ (M.if_else _ x xs ys)) _ _ block_maps)) _ _ block_maps) _ _ (dist_maps d)

    while_maps : (o : Token) → Carries M.st (r.while A src e d o) (r.while B src e' d o)
    unfolding r.while
    while_maps o = then_carries M.di M.st _ _ (λ x. then_carries M.ss M.st _ _ (λ xs. pure_carries M.st _ _ (M.while _ x xs)) _ _ block_maps) _ _ (dist_maps d)

    statement_by_maps : (o : Token) (k : Tok) → CarriesStart M.st (r.statement_by A src e d o k) (r.statement_by B src e' d o k)
    statement_by_maps o (t.Word w.SkipWord) = both (expect_carries M.st _ _ _ (λ q. pure_carries M.st _ _ (M.skip _)))
    statement_by_maps o t.Name = both (assign_maps o)
    statement_by_maps o (t.Word w.ObserveWord) = both (observe_maps o)
    statement_by_maps o (t.Word w.IfWord) = both (if_else_maps o)
    statement_by_maps o (t.Word w.WhileWord) = both (while_maps o)
    statement_by_maps o _ = neither

    pushed_maps : (xs : A.Ss) {v : Option (Parser A.St)} {v' : Option (Parser B.St)} → CarriesStart M.st v v' → CarriesStart M.ss (r.pushed A src e d xs v) (r.pushed B src e' d (M.ss xs) v')
    pushed_maps xs (both {p = p} {q = q} h) = both (then_carries M.st M.ss _ _ (λ x. pure_carries M.ss _ _ (M.push_statement xs x)) p q h)
    pushed_maps xs neither = neither

    all_statements_maps : Carries M.ss (r.all_statements A src e d) (r.all_statements B src e' d)
    unfolding r.all_statements
    all_statements_maps = repeat_carries M.ss _ _ (λ o xs. pushed_maps xs (statement_by_maps o o.kind)) _ _ M.no_statements

  statements_maps : (d : ℕ) → Carries M.ss (r.statements A src d) (r.statements B src d)
  unfolding r.statements
  statements_maps zero = deep_carries M.ss
  statements_maps (suc d) = all_statements_maps _ _ (statements_maps d) (suc d)

  declared_maps : (d : ℕ) (visible : Bool) (zs : A.Ds) (n : NameTree) (y : TypeForm)
      → Carries M.ds (r.dist A src d >>= (λ x. expect (is (t.Sign s.Semi)) (λ e. pure (A.push_declaration zs visible n y x)))) (r.dist B src d >>= (λ x. expect (is (t.Sign s.Semi)) (λ e. pure (B.push_declaration (M.ds zs) visible n y x))))
  declared_maps d visible zs n y = then_carries M.di M.ds _ _ (λ x. expect_carries M.ds _ _ _ (λ q. pure_carries M.ds _ _ (M.push_declaration zs visible n y x))) _ _ (dist_maps d)

  declaration_maps : (d : ℕ) (visible : Bool) (zs : A.Ds) → Carries M.ds (r.declaration A src d visible zs) (r.declaration B src d visible (M.ds zs))
  unfolding r.declaration
  declaration_maps d visible zs = expect_carries M.ds _ _ _ (λ n. expect_carries M.ds (is (t.Sign s.Colon)) _ _ (λ o. after_carries M.ds _ _ (r.type d) (λ y. expect_carries M.ds (is (t.Sign s.Assign)) _ _ (λ g. declared_maps d visible zs (named src n) y))))

  declarations_maps : (d : ℕ) → Carries M.ds (r.declarations A src d) (r.declarations B src d)
  unfolding r.declarations
  declarations_maps d = repeat_carries M.ds _ _ (λ v zs. test_carries M.ds _ _ _ (declaration_maps d (is (t.Word w.VisWord) v.kind) zs)) _ _ M.no_declarations

  same_target : r.target A src ≡ r.target B src
  unfolding r.target r.items r.other_items r.one_item
  same_target = refl

  -- a program that one builder reads is what the other one reads
  pub program_maps : (d : ℕ) → Carries M.so (r.program A src d) (r.program B src d)
  unfolding r.program
  program_maps d = rw same_target (then_carries M.ds M.so _ _ (λ zs. after_carries M.so _ _ _ (λ is. then_carries M.ss M.so _ _ (λ xs. pure_carries M.so _ _ (M.source zs is xs)) _ _ (statements_maps d))) _ _ (declarations_maps d))
