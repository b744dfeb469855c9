-- The rules judge in one way at most.
use Rattle.std.proofs.Common.{◌≡◌, ℕ, ◌*◌, ◌^◌, ◌<◌, ◌≤◌, Bool, true, false, List, [], ◌∷◌, ◌++◌, length, map, slice_get, Some, None, Ok, Err, Result, refl, sym, ap, ◌∙◌, subst, inl, inr, Contains}
use Rattle.kf_value.specs.Kinds.{KindTree, TruthKind, WholeKind, TupleKind, SetKind, kind_parts, kind_of}
use Rattle.kf_value.specs.Types.{TypeTree, Range, TupleOf, SetOf, type_parts, in_bounds, count, product}
use Rattle.kf_ast.specs.Names.{name}
use Rattle.kf_ast.specs.TypeForms.{TypeForm, TypeShape, TypeForms, type_at, no_types, more_types}
use Rattle.kf_ast.specs.TypeForms as form
use Rattle.kf_ast.specs.Exprs.{ExprTree, ExprShape, ExprTrees, expr_at, no_exprs, more_exprs, place}
use Rattle.kf_ast.specs.Exprs as expr
use Rattle.kf_ast.specs.Dists.{CaseTree, case_of, DistTree, DistShape, dist_at, Sure, UniformSet, UniformRange, Choose, Flip}
use Rattle.kf_ast.specs.Stmts.{StmtTree, StmtShape, StmtTrees, stmt_at, Skip, Assign, Observe, If, While, no_stmts, more_stmts, stmts}
use Rattle.kf_ast.specs.Sources.{DeclTree, declared, ItemTree, item, SourceTree, source}
use Rattle.kf_ops.specs.Places.{pattern_kind}
use Rattle.kf_check.specs.declared.errors.TypeError.{TypeError}
use Rattle.kf_check.specs.declared.errors.TypeError.TheVariants as broken
use Rattle.kf_check.specs.Judgements.{Judgement, Is, Picks, Where, After}
use Rattle.kf_check.specs.Types.{greatest_size, Sized, JudgesType, JudgesTypeShape, JudgesTypes}
use Rattle.kf_check.specs.Kinds.{Known, HasName, IsResult, IsCommon, IsPart, Judges, JudgesShape, JudgesAll, Asks, JudgesPair, JudgesCases, JudgesDist, dist_place, AsksDist}
use Rattle.kf_check.specs.Statements.{JudgesStmt, JudgesStmtShape, JudgesStmts}
use Rattle.kf_check.specs.Sources.{Variable, types_of, known_of, Grows, JudgesDecl, JudgesDecls, JudgesItem, JudgesItems, JudgesWhole, JudgesSource}
use Rattle.kf_check.specs.Translation.{names_of}
use Rattle.kf_check.specs.Laws.{OneJudgement}
use Rattle.kf_check.specs.Picks.{names_in, Fit}
use Rattle.kf_check.proofs.Kinding.{Differ}
use Rattle.kf_check.proofs.Declared.{none_differ, differ-declared, variables_differ, known_differ}
use Rattle.kf_check.proofs.LawsFits.{gives_one}
use Rattle.kf_check.proofs.LawsKinds.{one_known, kind_list, kind_list-kind_parts}
use Rattle.kf_check.proofs.LawsItems.{in_at, one_type}
use Rattle.kf_check.specs.Variables.{IsUnknown, greatest_base, Carries}

abbrev pub HasOne : {A : Type 0} → Judgement A → Type 0
HasOne {A} j = (r q : Result A TypeError) → j r → j q → r ≡ q

one_is : {A : Type 0} (x : A) → HasOne (Is x)
one_is x r q h g = h ∙ sym g

one_picks : {A : Type 0} (P : A → Type 0) (e : TypeError) → ((x y : A) → P x → P y → x ≡ y) → HasOne (Picks P e)
one_picks P e one (Ok x) (Ok y) h g = ap Ok (one x y h g)
one_picks P e one (Ok x) (Err f) h g = absurd (g.0 x h)
one_picks P e one (Err f) (Ok y) h g = absurd (h.0 y g)
one_picks P e one (Err f) (Err f') h g = ap Err (h.1 ∙ sym g.1)

one_where : {A : Type 0} (P : Type 0) (x : A) (e : TypeError) → HasOne (Where P x e)
one_where P x e = one_picks (λ y. P × (y ≡ x)) e (λ y z h g. h.1 ∙ sym g.1)

module _ {A B : Type 0} (first : Judgement A) (next : A → Judgement B) (one : HasOne first) (each : (x : A) → first (Ok x) → HasOne (next x)) where
  one_next : (x y : A) (r q : Result B TypeError) → first (Ok x) → next x r → first (Ok y) → next y q → r ≡ q
  one_next x y r q a h b g =
      let both : Ok y ≡ Ok x = one (Ok y) (Ok x) b a in
      let same : y ≡ x = cc in
      each x a r q h (subst (λ z. next z q) same g)

  clash : (x : A) (e : TypeError) → first (Ok x) → first (Err e) → ⊥
  clash x e h g = let both : Ok x ≡ Err e = one (Ok x) (Err e) h g in cc

  pub one_after : HasOne (After first next)
  one_after (Ok y) (Ok z) h g = one_next h.0 g.0 (Ok y) (Ok z) h.1 h.2 g.1 g.2
  one_after (Ok y) (Err f) h (inl g) = absurd (clash h.0 f h.1 g)
  one_after (Ok y) (Err f) h (inr g) = one_next h.0 g.0 (Ok y) (Err f) h.1 h.2 g.1 g.2
  one_after (Err e) (Ok z) (inl h) g = absurd (clash g.0 e g.1 h)
  one_after (Err e) (Ok z) (inr h) g = one_next h.0 g.0 (Err e) (Ok z) h.1 h.2 g.1 g.2
  one_after (Err e) (Err f) (inl h) (inl g) = let both : Err e ≡ Err f = one (Err e) (Err f) h g in let same : e ≡ f = cc in ap Err same
  one_after (Err e) (Err f) (inl h) (inr g) = absurd (clash g.0 e g.1 h)
  one_after (Err e) (Err f) (inr h) (inl g) = absurd (clash h.0 f h.1 g)
  one_after (Err e) (Err f) (inr h) (inr g) = one_next h.0 g.0 (Err e) (Err f) h.1 h.2 g.1 g.2

-- ---- types

one_sized : (limit at : ℕ) (t : TypeTree) → HasOne (Sized limit at t)
one_sized limit at t = one_where (count t ≤ limit) t (broken.TypeTooLarge at)

mutual
  pub one_written : (limit : ℕ) (x : TypeForm) → HasOne (JudgesType limit x)
  one_written limit (type_at at shape) = one_shape limit at shape

  one_shape : (limit at : ℕ) (shape : TypeShape) → HasOne (JudgesTypeShape limit at shape)
  one_shape limit at form.Boolean = one_is _
  one_shape limit at (form.Range lo hi) =
      one_after (Where (in_bounds lo hi ≡ true) (Range lo hi) (broken.BadRange at)) (Sized limit at) (one_where (in_bounds lo hi ≡ true) (Range lo hi) (broken.BadRange at)) (λ t h. one_sized limit at t)
  one_shape limit at (form.TupleOf xs) = one_after (JudgesTypes xs) (λ ts. Sized limit at (TupleOf (type_parts ts))) (one_parts xs) (λ ts h. one_sized limit at (TupleOf (type_parts ts)))
  one_shape limit at (form.SetOf x) = one_after (JudgesType greatest_base x) (λ t. Sized limit at (SetOf t)) (one_written greatest_base x) (λ t h. one_sized limit at (SetOf t))

  one_parts : (xs : TypeForms) → HasOne (JudgesTypes xs)
  one_parts no_types = one_is []
  one_parts (more_types x xs) =
      one_after (JudgesType greatest_size x) (λ t. After (JudgesTypes xs) (λ ts. Is (t ∷ ts))) (one_written greatest_size x)
      (λ t h. one_after (JudgesTypes xs) (λ ts. Is (t ∷ ts)) (one_parts xs) (λ ts g. one_is (t ∷ ts)))

-- ---- expressions

one_result : (row : ℕ) (ks : List KindTree) (j k : KindTree) → IsResult row ks j → IsResult row ks k → j ≡ k
one_result row ks j k h g =
    let both : Some g.0 ≡ Some h.0 = sym g.2 ∙ h.2 in
    let same : g.0 ≡ h.0 = cc in
    h.4 ∙ gives_one row h.0 ks h.1 g.1 h.2 h.3 (subst (λ r. Fit r g.1 ks) same g.3) ∙ ap (λ r. pattern_kind g.1 r.result) (sym same) ∙ sym g.4

one_common : (ks : List KindTree) (j k : KindTree) → IsCommon ks j → IsCommon ks k → j ≡ k
one_common [] j k h g = absurd h
one_common (i ∷ is) j k h g = sym h.0 ∙ g.0

one_part : (whole : KindTree) (n : ℕ) (j k : KindTree) → IsPart whole n j → IsPart whole n k → j ≡ k
one_part whole n j k h g =
    let both : TupleKind (kind_parts h.0) ≡ TupleKind (kind_parts g.0) = sym h.1 ∙ g.1 in
    let parts : kind_parts h.0 ≡ kind_parts g.0 = cc in
    let same : h.0 ≡ g.0 = sym (kind_list-kind_parts h.0) ∙ ap kind_list parts ∙ kind_list-kind_parts g.0 in
    let found : Some j ≡ Some k = sym h.2 ∙ ap (λ ks. slice_get ks n) same ∙ g.2 in
    cc

module _ (known : List Known) (apart : Differ (names_in known)) where
  one_name : (n : List ℕ) (at : ℕ) → HasOne (Picks (HasName known n) (broken.Unknown at))
  one_name n at = one_picks (HasName known n) (broken.Unknown at) (λ j k h g. one_known known apart n h.0 g.0 j k h.1 g.1)

  mutual
    pub one_kind : (x : ExprTree) → HasOne (Judges known x)
    one_kind (expr_at at shape) = one_node at shape

    one_node : (at : ℕ) (shape : ExprShape) → HasOne (JudgesShape known at shape)
    one_node at (expr.Number n) = one_is WholeKind
    one_node at (expr.Truth b) = one_is TruthKind
    one_node at (expr.Name (name n at')) = one_name n at'
    one_node at (expr.Apply row xs) =
        one_after (JudgesAll known xs) (λ ks. Picks (IsResult row ks) (broken.Clash at)) (one_kinds xs) (λ ks h. one_picks (IsResult row ks) (broken.Clash at) (one_result row ks))
    one_node at (expr.Tuple xs) = one_after (JudgesAll known xs) (λ ks. Is (TupleKind (kind_parts ks))) (one_kinds xs) (λ ks h. one_is (TupleKind (kind_parts ks)))
    one_node at (expr.SetOf xs) =
        one_after (JudgesAll known xs) (λ ks. After (Picks (IsCommon ks) (broken.Clash at)) (λ k. Is (SetKind k))) (one_kinds xs)
        (λ ks h. one_after (Picks (IsCommon ks) (broken.Clash at)) (λ k. Is (SetKind k)) (one_picks (IsCommon ks) (broken.Clash at) (one_common ks)) (λ k g. one_is (SetKind k)))
    one_node at (expr.Part x n) = one_after (Judges known x) (λ j. Picks (IsPart j n) (broken.Clash at)) (one_kind x) (λ j h. one_picks (IsPart j n) (broken.Clash at) (one_part j n))

    one_kinds : (xs : ExprTrees) → HasOne (JudgesAll known xs)
    one_kinds no_exprs = one_is []
    one_kinds (more_exprs x xs) =
        one_after (Judges known x) (λ k. After (JudgesAll known xs) (λ ks. Is (k ∷ ks))) (one_kind x)
        (λ k h. one_after (JudgesAll known xs) (λ ks. Is (k ∷ ks)) (one_kinds xs) (λ ks g. one_is (k ∷ ks)))

  -- ---- distributions

  one_ask : (at : ℕ) (j k : KindTree) → HasOne (Asks at j k)
  one_ask at j k = one_where (j ≡ k) k (broken.Clash at)

  one_pair : (k : KindTree) (x y : ExprTree) → HasOne (JudgesPair known k x y)
  one_pair k x y =
      one_after (Judges known x) (λ j. After (Judges known y) (λ i. After (Asks (place x) j k) (λ _. After (Asks (place y) i WholeKind) (λ _. Is k)))) (one_kind x)
      (λ j a. one_after (Judges known y) (λ i. After (Asks (place x) j k) (λ _. After (Asks (place y) i WholeKind) (λ _. Is k))) (one_kind y)
      (λ i b. one_after (Asks (place x) j k) (λ _. After (Asks (place y) i WholeKind) (λ _. Is k)) (one_ask (place x) j k)
      (λ z c. one_after (Asks (place y) i WholeKind) (λ _. Is k) (one_ask (place y) i WholeKind) (λ w d. one_is k))))

  one_cases : (k : KindTree) (cs : List CaseTree) → HasOne (JudgesCases known k cs)
  one_cases k [] = one_is k
  one_cases k (case_of x y ∷ cs) = one_after (JudgesPair known k x y) (λ _. JudgesCases known k cs) (one_pair k x y) (λ _ h. one_cases k cs)

  one_drawn : (at : ℕ) (shape : DistShape) → HasOne (JudgesDist known (dist_at at shape))
  one_drawn at (Sure x) = one_kind x
  one_drawn at (UniformSet x) =
      one_after (Judges known x) (λ j. Picks (λ k. j ≡ SetKind k) (broken.Clash (place x))) (one_kind x) (λ j h. one_picks (λ k. j ≡ SetKind k) (broken.Clash (place x)) (one_element j))
    where
      one_element : (j k i : KindTree) → j ≡ SetKind k → j ≡ SetKind i → k ≡ i
      one_element j k i h g = let both : SetKind k ≡ SetKind i = sym h ∙ g in cc
  one_drawn at (UniformRange x y) = one_pair WholeKind x y
  one_drawn at (Choose []) = λ r q h g. absurd h
  one_drawn at (Choose (case_of x y ∷ cs)) = one_after (Judges known x) (λ k. JudgesCases known k (case_of x y ∷ cs)) (one_kind x) (λ k h. one_cases k (case_of x y ∷ cs))
  one_drawn at (Flip num den) = one_where ((1 ≤ den) × (num ≤ den)) TruthKind (broken.BadFlip at)

  one_dist : (d : DistTree) → HasOne (JudgesDist known d)
  one_dist (dist_at at shape) = one_drawn at shape

  pub one_asked : (k : KindTree) (d : DistTree) → HasOne (AsksDist known k d)
  one_asked k d = one_after (JudgesDist known d) (λ j. Asks (dist_place d) j k) (one_dist d) (λ j h. one_ask (dist_place d) j k)

  -- ---- statements

  mutual
    one_stmt : (x : StmtTree) → HasOne (JudgesStmt known x)
    one_stmt (stmt_at at shape) = one_step shape

    one_step : (shape : StmtShape) → HasOne (JudgesStmtShape known shape)
    one_step Skip = one_is tt
    one_step (Assign (name n at) d) =
        one_after (Picks (HasName known n) (broken.Unknown at)) (λ k. After (AsksDist known k d) (λ _. Is tt)) (one_name n at)
        (λ k h. one_after (AsksDist known k d) (λ _. Is tt) (one_asked k d) (λ _ g. one_is tt))
    one_step (Observe d) = one_after (JudgesDist known d) (λ _. Is tt) (one_dist d) (λ _ h. one_is tt)
    one_step (If d xs ys) =
        one_after (AsksDist known TruthKind d) (λ _. After (JudgesStmts known xs) (λ _. JudgesStmts known ys)) (one_asked TruthKind d)
        (λ _ h. one_after (JudgesStmts known xs) (λ _. JudgesStmts known ys) (one_stmts xs) (λ _ g. one_stmts ys))
    one_step (While d xs) = one_after (AsksDist known TruthKind d) (λ _. JudgesStmts known xs) (one_asked TruthKind d) (λ _ h. one_stmts xs)

    pub one_stmts : (xs : StmtTrees) → HasOne (JudgesStmts known xs)
    one_stmts no_stmts = one_is tt
    one_stmts (more_stmts x xs) = one_after (JudgesStmt known x) (λ _. JudgesStmts known xs) (one_stmt x) (λ _ h. one_stmts xs)

-- ---- declarations

one_grows : (ts : List TypeTree) (t : TypeTree) (at : ℕ) → HasOne (Grows ts t at)
one_grows ts t at =
    one_after (Where (length ts < 32) t (broken.TooManyVariables at)) (λ _. Where (product (map count ts) * count t ≤ 2 ^ 63) t (broken.StoreTooWide at)) (one_where (length ts < 32) t (broken.TooManyVariables at))
    (λ _ h. one_where (product (map count ts) * count t ≤ 2 ^ 63) t (broken.StoreTooWide at))

module _ (vs : List Variable) (apart : Differ (names_of vs)) where
  one_decl : (d : DeclTree) → HasOne (JudgesDecl vs d)
  one_decl (declared visible (name n at) y d) =
      one_after (Where (IsUnknown (known_of vs) n) n (broken.Twice at)) _ (one_where (IsUnknown (known_of vs) n) n (broken.Twice at))
      (λ _ h. one_after (JudgesType greatest_size y) (λ t. After (Grows (types_of vs) t at) (λ _. After (AsksDist (known_of vs) (kind_of t) d) (λ _. Is (record { name = n; type = t })))) (one_written greatest_size y)
      (λ t a. one_after (Grows (types_of vs) t at) (λ _. After (AsksDist (known_of vs) (kind_of t) d) (λ _. Is (record { name = n; type = t }))) (one_grows (types_of vs) t at)
      (λ _ b. one_after (AsksDist (known_of vs) (kind_of t) d) (λ _. Is (record { name = n; type = t })) (one_asked (known_of vs) (known_differ vs apart) (kind_of t) d)
      (λ _ c. one_is (record { name = n; type = t })))))

pub one_decls : (vs : List Variable) → Differ (names_of vs) → (ds : List DeclTree) → HasOne (JudgesDecls vs ds)
one_decls vs apart [] = one_is vs
one_decls vs apart (d ∷ ds) =
    one_after (JudgesDecl vs d) (λ v. JudgesDecls (vs ++ v ∷ []) ds) (one_decl vs apart d) (λ v h. one_decls (vs ++ v ∷ []) (differ-declared vs (vs ++ v ∷ []) (d ∷ []) (v, h, refl) apart) ds)

-- ---- targets

module _ (vs : List Variable) (apart : Differ (names_of vs)) where
  one_declared : (n : List ℕ) (t u : TypeTree) → Contains vs (record { name = n; type = t }) → Contains vs (record { name = n; type = u }) → t ≡ u
  one_declared n t u h g =
      let first = in_at vs (record { name = n; type = t }) h in
      let second = in_at vs (record { name = n; type = u }) g in
      one_type vs apart n first.0 second.0 t u first.1 second.1

  one_carries : (old : Bool) (ts : List TypeTree) (t : TypeTree) (at : ℕ) → HasOne (Carries old ts t at)
  one_carries false ts t at = one_is ts
  one_carries true ts t at = one_after (Grows ts t at) (λ _. Is (ts ++ t ∷ [])) (one_grows ts t at) (λ _ h. one_is (ts ++ t ∷ []))

  one_item : (stood : List ItemTree) (ts : List TypeTree) (i : ItemTree) → HasOne (JudgesItem vs stood ts i)
  one_item stood ts (item old (name n at)) =
      one_after (Picks (λ t. Contains vs (record { name = n; type = t })) (broken.Unknown at)) (λ t. After (Where ((at' : ℕ) → ¬ Contains stood (item old (name n at'))) t (broken.Twice at)) (λ _. Carries old ts t at))
      (one_picks (λ t. Contains vs (record { name = n; type = t })) (broken.Unknown at) (one_declared n))
      (λ t h. one_after (Where ((at' : ℕ) → ¬ Contains stood (item old (name n at'))) t (broken.Twice at)) (λ _. Carries old ts t at) (one_where ((at' : ℕ) → ¬ Contains stood (item old (name n at'))) t (broken.Twice at))
      (λ _ g. one_carries old ts t at))

  pub one_items : (stood : List ItemTree) (ts : List TypeTree) (is : List ItemTree) → HasOne (JudgesItems vs stood ts is)
  one_items stood ts [] = one_is ts
  one_items stood ts (i ∷ others) = one_after (JudgesItem vs stood ts i) (λ us. JudgesItems vs (i ∷ stood) us others) (one_item stood ts i) (λ us h. one_items (i ∷ stood) us others)

-- ---- whole sources

one_whole : (s : SourceTree) → HasOne (JudgesWhole s)
one_whole (source ds is xs) =
    one_after (Where (1 ≤ length ds) ds (broken.NoVariable 0)) (λ _. After (JudgesDecls [] ds) (λ vs. After (JudgesItems vs [] (types_of vs) is) (λ _. JudgesStmts (known_of vs) (stmts xs)))) (one_where (1 ≤ length ds) ds (broken.NoVariable 0))
    (λ _ h. one_after (JudgesDecls [] ds) (λ vs. After (JudgesItems vs [] (types_of vs) is) (λ _. JudgesStmts (known_of vs) (stmts xs))) (one_decls [] none_differ ds)
    (λ vs a. let apart = variables_differ vs ds a in one_after (JudgesItems vs [] (types_of vs) is) (λ _. JudgesStmts (known_of vs) (stmts xs)) (one_items vs apart [] (types_of vs) is)
    (λ _ b. one_stmts (known_of vs) (known_differ vs apart) (stmts xs))))

pub one_judgement : OneJudgement
unfolding JudgesSource
one_judgement s None None j l = refl
one_judgement s None (Some e) j l = let both : Ok tt ≡ Err e = one_whole s (Ok tt) (Err e) j l in absurd (cc)
one_judgement s (Some e) None j l = let both : Ok tt ≡ Err e = one_whole s (Ok tt) (Err e) l j in absurd (cc)
one_judgement s (Some e) (Some f) j l = let both : Err e ≡ Err f = one_whole s (Err e) (Err f) j l in let same : e ≡ f = cc in ap Some same
