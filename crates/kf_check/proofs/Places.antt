-- A broken rule has a place: want of memory is none.
use Rattle.std.proofs.Common.{◌≡◌, ℕ, ◌*◌, ◌^◌, ◌<◌, ◌≤◌, List, [], ◌∷◌, ◌++◌, Bool, true, false, Err, length, map, Contains, ⊎_elim, sym, ◌∙◌}
use Rattle.kf_value.specs.Kinds.{KindTree, TruthKind, WholeKind, TupleKind, SetKind, kind_parts, kind_of}
use Rattle.kf_value.specs.Types.{TypeTree, Boolean, Range, TupleOf, SetOf, type_parts, in_bounds, count, product}
use Rattle.kf_ast.specs.Names.{name}
use Rattle.kf_ast.specs.TypeForms.{TypeForm, TypeShape, TypeForms, type_at, no_types, more_types}
use Rattle.kf_ast.specs.TypeForms as form
use Rattle.kf_ast.specs.Exprs.{ExprTree, ExprShape, ExprTrees, expr_at, no_exprs, more_exprs, place}
use Rattle.kf_ast.specs.Exprs as expr
use Rattle.kf_ast.specs.Dists.{CaseTree, case_of, DistTree, DistShape, dist_at, Sure, UniformSet, UniformRange, Choose, Flip}
use Rattle.kf_ast.specs.Stmts.{StmtTree, StmtShape, StmtTrees, stmt_at, Skip, Assign, Observe, If, While, no_stmts, more_stmts, stmts}
use Rattle.kf_ast.specs.Sources.{DeclTree, declared, ItemTree, item, SourceTree, source}
use Rattle.kf_check.specs.declared.errors.TypeError.{TypeError}
use Rattle.kf_check.specs.declared.errors.TypeError.TheVariants as broken
use Rattle.kf_check.specs.Judgements.{Judgement, Is, Picks, Where, After}
use Rattle.kf_check.specs.Types.{greatest_size, Sized, JudgesType, JudgesTypeShape, JudgesTypes}
use Rattle.kf_check.specs.Kinds.{Known, HasName, IsResult, IsCommon, IsPart, Judges, JudgesShape, JudgesAll, Asks, JudgesPair, JudgesCases, JudgesDist, dist_place, AsksDist}
use Rattle.kf_check.specs.Statements.{JudgesStmt, JudgesStmtShape, JudgesStmts}
use Rattle.kf_check.specs.Sources.{Variable, types_of, known_of, Grows, JudgesDecl, JudgesDecls, JudgesItem, JudgesItems, JudgesWhole, JudgesSource}
use Rattle.kf_check.specs.Laws.{BrokenIsTold}
use Rattle.kf_check.specs.Variables.{IsUnknown, greatest_base, Carries}

abbrev IsTold : {A : Type 0} → Judgement A → Type 0
IsTold j = (e : TypeError) → j (Err e) → e ≡ broken.Mem → ⊥

told_is : {A : Type 0} (x : A) → IsTold (Is x)
told_is x e h mem = absurd (cc)

-- the rule that is broken has a place
told_picks : {A : Type 0} (P : A → Type 0) (f : TypeError) → (f ≡ broken.Mem → ⊥) → IsTold (Picks P f)
told_picks P f placed e h mem = placed (sym h.1 ∙ mem)

told_where : {A : Type 0} (P : Type 0) (x : A) (f : TypeError) → (f ≡ broken.Mem → ⊥) → IsTold (Where P x f)
told_where P x f placed = told_picks (λ y. P × (y ≡ x)) f placed

told_after : {A B : Type 0} (first : Judgement A) (next : A → Judgement B) → IsTold first → ((x : A) → IsTold (next x)) → IsTold (After first next)
told_after first next one each e h mem = ⊎_elim (λ (g : first (Err e)). one e g mem) (λ g. each g.0 e g.2 mem) h

no_variable : (at : ℕ) → broken.NoVariable at ≡ broken.Mem → ⊥
no_variable at m = cc

twice : (at : ℕ) → broken.Twice at ≡ broken.Mem → ⊥
twice at m = cc

unknown : (at : ℕ) → broken.Unknown at ≡ broken.Mem → ⊥
unknown at m = cc

clash : (at : ℕ) → broken.Clash at ≡ broken.Mem → ⊥
clash at m = cc

bad_range : (at : ℕ) → broken.BadRange at ≡ broken.Mem → ⊥
bad_range at m = cc

too_large : (at : ℕ) → broken.TypeTooLarge at ≡ broken.Mem → ⊥
too_large at m = cc

too_many : (at : ℕ) → broken.TooManyVariables at ≡ broken.Mem → ⊥
too_many at m = cc

too_wide : (at : ℕ) → broken.StoreTooWide at ≡ broken.Mem → ⊥
too_wide at m = cc

bad_flip : (at : ℕ) → broken.BadFlip at ≡ broken.Mem → ⊥
bad_flip at m = cc

told_sized : (limit at : ℕ) (t : TypeTree) → IsTold (Sized limit at t)
told_sized limit at t = told_where (count t ≤ limit) t (broken.TypeTooLarge at) (too_large at)

mutual
  told_type : (limit : ℕ) (x : TypeForm) → IsTold (JudgesType limit x)
  told_type limit (type_at at shape) = told_type_shape limit at shape

  told_type_shape : (limit at : ℕ) (x : TypeShape) → IsTold (JudgesTypeShape limit at x)
  told_type_shape limit at form.Boolean = told_is Boolean
  told_type_shape limit at (form.Range lo hi) =
      told_after (Where (in_bounds lo hi ≡ true) (Range lo hi) (broken.BadRange at)) (Sized limit at) (told_where (in_bounds lo hi ≡ true) (Range lo hi) (broken.BadRange at) (bad_range at))
      (λ t. told_sized limit at t)
  told_type_shape limit at (form.TupleOf xs) = told_after (JudgesTypes xs) (λ ts. Sized limit at (TupleOf (type_parts ts))) (told_types xs) (λ ts. told_sized limit at (TupleOf (type_parts ts)))
  told_type_shape limit at (form.SetOf x) = told_after (JudgesType greatest_base x) (λ t. Sized limit at (SetOf t)) (told_type greatest_base x) (λ t. told_sized limit at (SetOf t))

  told_types : (xs : TypeForms) → IsTold (JudgesTypes xs)
  told_types no_types = told_is []
  told_types (more_types x xs) =
      told_after (JudgesType greatest_size x) (λ t. After (JudgesTypes xs) (λ ts. Is (t ∷ ts))) (told_type greatest_size x)
      (λ t. told_after (JudgesTypes xs) (λ ts. Is (t ∷ ts)) (told_types xs) (λ ts. told_is (t ∷ ts)))

module _ (known : List Known) where
  mutual
    told_expr : (x : ExprTree) → IsTold (Judges known x)
    told_expr (expr_at at shape) = told_shape at shape

    told_shape : (at : ℕ) (x : ExprShape) → IsTold (JudgesShape known at x)
    told_shape at (expr.Number n) = told_is WholeKind
    told_shape at (expr.Truth b) = told_is TruthKind
    told_shape at (expr.Name (name n at')) = told_picks (HasName known n) (broken.Unknown at') (unknown at')
    told_shape at (expr.Apply row xs) = told_after (JudgesAll known xs) (λ ks. Picks (IsResult row ks) (broken.Clash at)) (told_all xs) (λ ks. told_picks (IsResult row ks) (broken.Clash at) (clash at))
    told_shape at (expr.Tuple xs) = told_after (JudgesAll known xs) (λ ks. Is (TupleKind (kind_parts ks))) (told_all xs) (λ ks. told_is (TupleKind (kind_parts ks)))
    told_shape at (expr.SetOf xs) =
        told_after (JudgesAll known xs) (λ ks. After (Picks (IsCommon ks) (broken.Clash at)) (λ k. Is (SetKind k))) (told_all xs)
        (λ ks. told_after (Picks (IsCommon ks) (broken.Clash at)) (λ k. Is (SetKind k)) (told_picks (IsCommon ks) (broken.Clash at) (clash at)) (λ k. told_is (SetKind k)))
    told_shape at (expr.Part x n) = told_after (Judges known x) (λ j. Picks (IsPart j n) (broken.Clash at)) (told_expr x) (λ j. told_picks (IsPart j n) (broken.Clash at) (clash at))

    told_all : (xs : ExprTrees) → IsTold (JudgesAll known xs)
    told_all no_exprs = told_is []
    told_all (more_exprs x xs) =
        told_after (Judges known x) (λ k. After (JudgesAll known xs) (λ ks. Is (k ∷ ks))) (told_expr x)
        (λ k. told_after (JudgesAll known xs) (λ ks. Is (k ∷ ks)) (told_all xs) (λ ks. told_is (k ∷ ks)))

  told_asks : (at : ℕ) (j k : KindTree) → IsTold (Asks at j k)
  told_asks at j k = told_where (j ≡ k) k (broken.Clash at) (clash at)

  told_pair : (k : KindTree) (x y : ExprTree) → IsTold (JudgesPair known k x y)
  told_pair k x y =
      told_after (Judges known x) (λ j. After (Judges known y) (λ i. After (Asks (place x) j k) (λ _. After (Asks (place y) i WholeKind) (λ _. Is k)))) (told_expr x)
      (λ j. told_after (Judges known y) (λ i. After (Asks (place x) j k) (λ _. After (Asks (place y) i WholeKind) (λ _. Is k))) (told_expr y)
      (λ i. told_after (Asks (place x) j k) (λ _. After (Asks (place y) i WholeKind) (λ _. Is k)) (told_asks (place x) j k)
      (λ _. told_after (Asks (place y) i WholeKind) (λ _. Is k) (told_asks (place y) i WholeKind) (λ _. told_is k))))

  told_cases : (k : KindTree) (cs : List CaseTree) → IsTold (JudgesCases known k cs)
  told_cases k [] = told_is k
  told_cases k (case_of x y ∷ cs) = told_after (JudgesPair known k x y) (λ _. JudgesCases known k cs) (told_pair k x y) (λ _. told_cases k cs)

  told_dist_shape : (at : ℕ) (d : DistShape) → IsTold (JudgesDist known (dist_at at d))
  told_dist_shape at (Sure x) = told_expr x
  told_dist_shape at (UniformSet x) =
      told_after (Judges known x) (λ j. Picks (λ k. j ≡ SetKind k) (broken.Clash (place x))) (told_expr x) (λ j. told_picks (λ k. j ≡ SetKind k) (broken.Clash (place x)) (clash (place x)))
  told_dist_shape at (UniformRange x y) = told_pair WholeKind x y
  told_dist_shape at (Choose []) = λ e h mem. h
  told_dist_shape at (Choose (case_of x y ∷ cs)) = told_after (Judges known x) (λ k. JudgesCases known k (case_of x y ∷ cs)) (told_expr x) (λ k. told_cases k (case_of x y ∷ cs))
  told_dist_shape at (Flip num den) = told_where ((1 ≤ den) × (num ≤ den)) TruthKind (broken.BadFlip at) (bad_flip at)

  told_dist : (d : DistTree) → IsTold (JudgesDist known d)
  told_dist (dist_at at shape) = told_dist_shape at shape

  told_asked : (k : KindTree) (d : DistTree) → IsTold (AsksDist known k d)
  told_asked k d = told_after (JudgesDist known d) (λ j. Asks (dist_place d) j k) (told_dist d) (λ j. told_asks (dist_place d) j k)

  mutual
    told_stmt : (x : StmtTree) → IsTold (JudgesStmt known x)
    told_stmt (stmt_at at shape) = told_stmt_shape shape

    told_stmt_shape : (x : StmtShape) → IsTold (JudgesStmtShape known x)
    told_stmt_shape Skip = told_is tt
    told_stmt_shape (Assign (name n at) d) =
        told_after (Picks (HasName known n) (broken.Unknown at)) (λ k. After (AsksDist known k d) (λ _. Is tt)) (told_picks (HasName known n) (broken.Unknown at) (unknown at))
        (λ k. told_after (AsksDist known k d) (λ _. Is tt) (told_asked k d) (λ _. told_is tt))
    told_stmt_shape (Observe d) = told_after (JudgesDist known d) (λ _. Is tt) (told_dist d) (λ _. told_is tt)
    told_stmt_shape (If d xs ys) =
        told_after (AsksDist known TruthKind d) (λ _. After (JudgesStmts known xs) (λ _. JudgesStmts known ys)) (told_asked TruthKind d)
        (λ _. told_after (JudgesStmts known xs) (λ _. JudgesStmts known ys) (told_stmts xs) (λ _. told_stmts ys))
    told_stmt_shape (While d xs) = told_after (AsksDist known TruthKind d) (λ _. JudgesStmts known xs) (told_asked TruthKind d) (λ _. told_stmts xs)

    told_stmts : (xs : StmtTrees) → IsTold (JudgesStmts known xs)
    told_stmts no_stmts = told_is tt
    told_stmts (more_stmts x xs) = told_after (JudgesStmt known x) (λ _. JudgesStmts known xs) (told_stmt x) (λ _. told_stmts xs)

told_grows : (ts : List TypeTree) (t : TypeTree) (at : ℕ) → IsTold (Grows ts t at)
told_grows ts t at =
    told_after (Where (length ts < 32) t (broken.TooManyVariables at)) (λ _. Where (product (map count ts) * count t ≤ 2 ^ 63) t (broken.StoreTooWide at))
    (told_where (length ts < 32) t (broken.TooManyVariables at) (too_many at)) (λ _. told_where (product (map count ts) * count t ≤ 2 ^ 63) t (broken.StoreTooWide at) (too_wide at))

told_decl : (vs : List Variable) (d : DeclTree) → IsTold (JudgesDecl vs d)
told_decl vs (declared visible (name n at) y d) =
    let found : TypeTree → Variable = λ t. record { name = n; type = t } in
    told_after (Where (IsUnknown (known_of vs) n) n (broken.Twice at)) (λ _. After (JudgesType greatest_size y) (λ t. After (Grows (types_of vs) t at) (λ _. After (AsksDist (known_of vs) (kind_of t) d) (λ _. Is (found t)))))
    (told_where (IsUnknown (known_of vs) n) n (broken.Twice at) (twice at))
    (λ _. told_after (JudgesType greatest_size y) (λ t. After (Grows (types_of vs) t at) (λ _. After (AsksDist (known_of vs) (kind_of t) d) (λ _. Is (found t)))) (told_type greatest_size y)
    (λ t. told_after (Grows (types_of vs) t at) (λ _. After (AsksDist (known_of vs) (kind_of t) d) (λ _. Is (found t))) (told_grows (types_of vs) t at)
    (λ _. told_after (AsksDist (known_of vs) (kind_of t) d) (λ _. Is (found t)) (told_asked (known_of vs) (kind_of t) d) (λ _. told_is (found t)))))

told_decls : (vs : List Variable) (ds : List DeclTree) → IsTold (JudgesDecls vs ds)
told_decls vs [] = told_is vs
told_decls vs (d ∷ ds) = told_after (JudgesDecl vs d) (λ v. JudgesDecls (vs ++ v ∷ []) ds) (told_decl vs d) (λ v. told_decls (vs ++ v ∷ []) ds)

told_carries : (old : Bool) (ts : List TypeTree) (t : TypeTree) (at : ℕ) → IsTold (Carries old ts t at)
told_carries false ts t at = told_is ts
told_carries true ts t at = told_after (Grows ts t at) (λ _. Is (ts ++ t ∷ [])) (told_grows ts t at) (λ _. told_is (ts ++ t ∷ []))

told_item : (vs : List Variable) (stood : List ItemTree) (ts : List TypeTree) (i : ItemTree) → IsTold (JudgesItem vs stood ts i)
told_item vs stood ts (item old (name n at)) =
    let Fresh : Type 0 = (at' : ℕ) → ¬ Contains stood (item old (name n at')) in
    let Named : TypeTree → Type 0 = λ t. Contains vs (record { name = n; type = t }) in
    told_after (Picks Named (broken.Unknown at)) (λ t. After (Where Fresh t (broken.Twice at)) (λ _. Carries old ts t at)) (told_picks Named (broken.Unknown at) (unknown at))
    (λ t. told_after (Where Fresh t (broken.Twice at)) (λ _. Carries old ts t at) (told_where Fresh t (broken.Twice at) (twice at)) (λ _. told_carries old ts t at))

told_items : (vs : List Variable) (stood : List ItemTree) (ts : List TypeTree) (is : List ItemTree) → IsTold (JudgesItems vs stood ts is)
told_items vs stood ts [] = told_is ts
told_items vs stood ts (i ∷ others) = told_after (JudgesItem vs stood ts i) (λ us. JudgesItems vs (i ∷ stood) us others) (told_item vs stood ts i) (λ us. told_items vs (i ∷ stood) us others)

told_whole : (s : SourceTree) → IsTold (JudgesWhole s)
told_whole (source ds is xs) =
    told_after (Where (1 ≤ length ds) ds (broken.NoVariable 0)) (λ _. After (JudgesDecls [] ds) (λ vs. After (JudgesItems vs [] (types_of vs) is) (λ _. JudgesStmts (known_of vs) (stmts xs))))
    (told_where (1 ≤ length ds) ds (broken.NoVariable 0) (no_variable 0))
    (λ _. told_after (JudgesDecls [] ds) (λ vs. After (JudgesItems vs [] (types_of vs) is) (λ _. JudgesStmts (known_of vs) (stmts xs))) (told_decls [] ds)
    (λ vs. told_after (JudgesItems vs [] (types_of vs) is) (λ _. JudgesStmts (known_of vs) (stmts xs)) (told_items vs [] (types_of vs) is) (λ _. told_stmts (known_of vs) (stmts xs))))

pub broken_is_told : BrokenIsTold
unfolding JudgesSource
broken_is_told s e is = told_whole s e is
