-- The rules judge everything in some way, but for a choice among no cases.
use Rattle.std.proofs.Common.{◌≡◌, ℕ, suc, ◌*◌, ◌^◌, ◌<◌, ◌≤◌, Bool, true, false, List, [], ◌∷◌, ◌++◌, length, map, slice_get, Option, Some, None, Ok, Err, Result, refl, sym, ap, ◌∙◌, subst, arith, ◌⊎◌, inl, inr, Contains}
use Rattle.std.specs.List.{All}
use Rattle.kf_value.specs.Kinds.{KindTree, TruthKind, WholeKind, TupleKind, SetKind, kind_parts, kind_of}
use Rattle.kf_value.specs.Types.{TypeTree, Range, TupleOf, SetOf, type_parts, in_bounds, count, product}
use Rattle.kf_ops.specs.Rows.{Row, operators}
use Rattle.kf_ops.specs.Fitting.{Takes}
use Rattle.kf_ops.specs.Places.{IsRow, pattern_kind}
use Rattle.kf_ast.specs.Names.{name}
use Rattle.kf_ast.specs.TypeForms.{TypeForm, TypeShape, TypeForms, type_at, no_types, more_types}
use Rattle.kf_ast.specs.TypeForms as form
use Rattle.kf_ast.specs.Exprs.{ExprTree, ExprShape, ExprTrees, expr_at, no_exprs, more_exprs, place}
use Rattle.kf_ast.specs.Exprs as expr
use Rattle.kf_ast.specs.Dists.{CaseTree, case_of, DistTree, dist_at, Sure, UniformSet, UniformRange, Choose, Flip}
use Rattle.kf_ast.specs.Stmts.{StmtTree, StmtShape, StmtTrees, stmt_at, Skip, Assign, Observe, If, While, no_stmts, more_stmts}
use Rattle.kf_ast.specs.Sources.{DeclTree, declared, ItemTree, item}
use Rattle.kf_ast.specs.Built.{IsDistBuilt, IsStmtBuilt, IsStmtShapeBuilt, AreStmtsBuilt, AreDeclsBuilt}
use Rattle.kf_check.specs.declared.errors.TypeError.{TypeError}
use Rattle.kf_check.specs.declared.errors.TypeError.TheVariants as broken
use Rattle.kf_check.specs.Judgements.{Judgement, Is, Picks, Where, After}
use Rattle.kf_check.specs.Types.{greatest_size, Sized, JudgesType, JudgesTypeShape, JudgesTypes}
use Rattle.kf_check.specs.Kinds.{Known, HasName, IsResult, IsCommon, IsPart, Judges, JudgesShape, JudgesAll, Asks, JudgesPair, JudgesCases, JudgesDist, dist_place, AsksDist}
use Rattle.kf_check.specs.Picks.{Fit}
use Rattle.kf_check.specs.Statements.{JudgesStmt, JudgesStmtShape, JudgesStmts}
use Rattle.kf_check.specs.Sources.{Variable, types_of, known_of, Grows, JudgesDecl, JudgesDecls, JudgesItem, JudgesItems}
use Rattle.kf_check.proofs.Judging.{past}
use Rattle.kf_check.proofs.LawsChoices.{both, at_most, same_kind, all_or_not}
use Rattle.kf_check.proofs.LawsFits.{Fitting, fitting}
use Rattle.kf_check.proofs.LawsKinds.{Finding, finding, not_unknown, kind_list, kind_list-kind_parts, kind_parts-kind_list}
use Rattle.kf_check.proofs.LawsItems.{Declared, declared_or_not, known_at, in_at, at_in, Stands, standing}
use Rattle.kf_check.specs.Variables.{IsUnknown, greatest_base, Carries}

abbrev pub HasSome : {A : Type 0} → Judgement A → Type 0
HasSome {A} j = (r : Result A TypeError) × j r

-- what has this property, or that nothing has it
abbrev Seeks : {A : Type 0} → (A → Type 0) → Type 0
Seeks {A} P = ((x : A) × P x) ⊎ ((x : A) → ¬ P x)

some_is : {A : Type 0} (x : A) → HasSome (Is x)
some_is x = (Ok x, refl)

some_picks : {A : Type 0} (P : A → Type 0) (e : TypeError) → Seeks P → HasSome (Picks P e)
some_picks P e (inl h) = (Ok h.0, h.1)
some_picks P e (inr n) = (Err e, (n, refl))

some_where : {A : Type 0} (P : Type 0) (x : A) (e : TypeError) → Dec P → HasSome (Where P x e)
some_where P x e (yes h) = (Ok x, (h, refl))
some_where P x e (no n) = (Err e, (λ y h. n h.0, refl))

some_after : {A B : Type 0} (first : Judgement A) (next : A → Judgement B) → HasSome first → ((x : A) → first (Ok x) → HasSome (next x)) → HasSome (After first next)
some_after {A} {B} first next some each = by some.0 some.1
  where
    by : (r : Result A TypeError) → first r → HasSome (After first next)
    by (Ok x) h = let g = each x h in (g.0, past first next x g.0 h g.1)
    by (Err e) h = (Err e, inl h)

-- ---- types

same_bool : (b : Bool) → Dec (b ≡ true)
same_bool true = yes refl
same_bool false = no (λ e. cc)

some_sized : (limit at : ℕ) (t : TypeTree) → HasSome (Sized limit at t)
some_sized limit at t = some_where (count t ≤ limit) t (broken.TypeTooLarge at) (at_most (count t) limit)

mutual
  some_type : (limit : ℕ) (x : TypeForm) → HasSome (JudgesType limit x)
  some_type limit (type_at at shape) = some_shape limit at shape

  some_shape : (limit at : ℕ) (shape : TypeShape) → HasSome (JudgesTypeShape limit at shape)
  some_shape limit at form.Boolean = some_is _
  some_shape limit at (form.Range lo hi) =
      some_after (Where (in_bounds lo hi ≡ true) (Range lo hi) (broken.BadRange at)) (Sized limit at) (some_where (in_bounds lo hi ≡ true) (Range lo hi) (broken.BadRange at) (same_bool (in_bounds lo hi))) (λ t h. some_sized limit at t)
  some_shape limit at (form.TupleOf xs) = some_after (JudgesTypes xs) (λ ts. Sized limit at (TupleOf (type_parts ts))) (some_types xs) (λ ts h. some_sized limit at (TupleOf (type_parts ts)))
  some_shape limit at (form.SetOf x) = some_after (JudgesType greatest_base x) (λ t. Sized limit at (SetOf t)) (some_type greatest_base x) (λ t h. some_sized limit at (SetOf t))

  some_types : (xs : TypeForms) → HasSome (JudgesTypes xs)
  some_types no_types = some_is []
  some_types (more_types x xs) =
      some_after (JudgesType greatest_size x) (λ t. After (JudgesTypes xs) (λ ts. Is (t ∷ ts))) (some_type greatest_size x) (λ t h. some_after (JudgesTypes xs) (λ ts. Is (t ∷ ts)) (some_types xs) (λ ts g. some_is (t ∷ ts)))

-- ---- expressions

seek_name : (known : List Known) (n : List ℕ) → Seeks (HasName known n)
seek_name known n = by (finding known n)
  where
    by : Finding known n → Seeks (HasName known n)
    by (inl h) = inl (h.1, (h.0, h.2))
    by (inr u) = inr (λ k h. not_unknown known n h.0 k h.1 u)

seek_result : (row : ℕ) (ks : List KindTree) → Seeks (IsResult row ks)
seek_result row ks = by (slice_get operators row) refl
  where
    fit : (r : Row) → IsRow row r → Fitting r ks → Seeks (IsResult row ks)
    fit r here (inl h) = inl (pattern_kind h.0 r.result, (r, h.0, here, h.1, refl))
    fit r here (inr n) = inr (λ k h.
        let other : Some h.0 ≡ Some r = sym h.2 ∙ here in
        let same : h.0 ≡ r = cc in
        n h.1 (subst (λ q. Fit q h.1 ks) same h.3))

    by : (o : Option Row) → slice_get operators row ≡ o → Seeks (IsResult row ks)
    by None e = inr (λ k h. let other : None ≡ Some h.0 = sym e ∙ h.2 in cc)
    by (Some r) e = fit r e (fitting r ks)

seek_common : (ks : List KindTree) → Seeks (IsCommon ks)
seek_common [] = inr (λ k h. h)
seek_common (j ∷ js) = by (all_or_not (λ i. i ≡ j) (λ i. same_kind i j) js)
  where
    by : Dec (All (λ i. i ≡ j) js) → Seeks (IsCommon (j ∷ js))
    by (yes h) = inl (j, (refl, h))
    by (no n) = inr (λ k h. n h.1)

seek_part : (j : KindTree) (n : ℕ) → Seeks (IsPart j n)
seek_part TruthKind n = inr (λ k h. let is = h.1 in cc)
seek_part WholeKind n = inr (λ k h. let is = h.1 in cc)
seek_part (SetKind j) n = inr (λ k h. let is = h.1 in cc)
seek_part (TupleKind js) n = by (slice_get (kind_list js) n) refl
  where
    by : (o : Option KindTree) → slice_get (kind_list js) n ≡ o → Seeks (IsPart (TupleKind js) n)
    by (Some k) e = inl (k, (kind_list js, ap TupleKind (sym (kind_parts-kind_list js)), e))
    by None e = inr (λ k h.
        let is : TupleKind js ≡ TupleKind (kind_parts h.0) = h.1 in
        let inner : js ≡ kind_parts h.0 = cc in
        let found : None ≡ Some k = sym e ∙ ap (λ ls. slice_get (kind_list ls) n) inner ∙ ap (λ ls. slice_get ls n) (kind_list-kind_parts h.0) ∙ h.2 in
        cc)

seek_element : (j : KindTree) → Seeks (λ k. j ≡ SetKind k)
seek_element TruthKind = inr (λ k e. cc)
seek_element WholeKind = inr (λ k e. cc)
seek_element (TupleKind ks) = inr (λ k e. cc)
seek_element (SetKind j) = inl (j, refl)

module _ (known : List Known) where
  some_name : (n : List ℕ) (at : ℕ) → HasSome (Picks (HasName known n) (broken.Unknown at))
  some_name n at = some_picks (HasName known n) (broken.Unknown at) (seek_name known n)

  mutual
    some_kind : (x : ExprTree) → HasSome (Judges known x)
    some_kind (expr_at at shape) = some_node at shape

    some_node : (at : ℕ) (shape : ExprShape) → HasSome (JudgesShape known at shape)
    some_node at (expr.Number n) = some_is WholeKind
    some_node at (expr.Truth b) = some_is TruthKind
    some_node at (expr.Name (name n at')) = some_name n at'
    some_node at (expr.Apply row xs) =
        some_after (JudgesAll known xs) (λ ks. Picks (IsResult row ks) (broken.Clash at)) (some_kinds xs) (λ ks h. some_picks (IsResult row ks) (broken.Clash at) (seek_result row ks))
    some_node at (expr.Tuple xs) = some_after (JudgesAll known xs) (λ ks. Is (TupleKind (kind_parts ks))) (some_kinds xs) (λ ks h. some_is (TupleKind (kind_parts ks)))
    some_node at (expr.SetOf xs) =
        some_after (JudgesAll known xs) (λ ks. After (Picks (IsCommon ks) (broken.Clash at)) (λ k. Is (SetKind k))) (some_kinds xs)
        (λ ks h. some_after (Picks (IsCommon ks) (broken.Clash at)) (λ k. Is (SetKind k)) (some_picks (IsCommon ks) (broken.Clash at) (seek_common ks)) (λ k g. some_is (SetKind k)))
    some_node at (expr.Part x n) = some_after (Judges known x) (λ j. Picks (IsPart j n) (broken.Clash at)) (some_kind x) (λ j h. some_picks (IsPart j n) (broken.Clash at) (seek_part j n))

    some_kinds : (xs : ExprTrees) → HasSome (JudgesAll known xs)
    some_kinds no_exprs = some_is []
    some_kinds (more_exprs x xs) =
        some_after (Judges known x) (λ k. After (JudgesAll known xs) (λ ks. Is (k ∷ ks))) (some_kind x) (λ k h. some_after (JudgesAll known xs) (λ ks. Is (k ∷ ks)) (some_kinds xs) (λ ks g. some_is (k ∷ ks)))

  -- ---- distributions

  some_ask : (at : ℕ) (j k : KindTree) → HasSome (Asks at j k)
  some_ask at j k = some_where (j ≡ k) k (broken.Clash at) (same_kind j k)

  some_pair : (k : KindTree) (x y : ExprTree) → HasSome (JudgesPair known k x y)
  some_pair k x y =
      some_after (Judges known x) (λ j. After (Judges known y) (λ i. After (Asks (place x) j k) (λ _. After (Asks (place y) i WholeKind) (λ _. Is k)))) (some_kind x)
      (λ j a. some_after (Judges known y) (λ i. After (Asks (place x) j k) (λ _. After (Asks (place y) i WholeKind) (λ _. Is k))) (some_kind y)
      (λ i b. some_after (Asks (place x) j k) (λ _. After (Asks (place y) i WholeKind) (λ _. Is k)) (some_ask (place x) j k)
      (λ z c. some_after (Asks (place y) i WholeKind) (λ _. Is k) (some_ask (place y) i WholeKind) (λ w d. some_is k))))

  some_cases : (k : KindTree) (cs : List CaseTree) → HasSome (JudgesCases known k cs)
  some_cases k [] = some_is k
  some_cases k (case_of x y ∷ cs) = some_after (JudgesPair known k x y) (λ _. JudgesCases known k cs) (some_pair k x y) (λ _ h. some_cases k cs)

  some_dist : (d : DistTree) → IsDistBuilt Takes d → HasSome (JudgesDist known d)
  some_dist (dist_at at (Sure x)) b = some_kind x
  some_dist (dist_at at (UniformSet x)) b =
      some_after (Judges known x) (λ j. Picks (λ k. j ≡ SetKind k) (broken.Clash (place x))) (some_kind x) (λ j h. some_picks (λ k. j ≡ SetKind k) (broken.Clash (place x)) (seek_element j))
  some_dist (dist_at at (UniformRange x y)) b = some_pair WholeKind x y
  some_dist (dist_at at (Choose [])) b = absurd (let some = b.0 in omega arith)
  some_dist (dist_at at (Choose (case_of x y ∷ cs))) b = some_after (Judges known x) (λ k. JudgesCases known k (case_of x y ∷ cs)) (some_kind x) (λ k h. some_cases k (case_of x y ∷ cs))
  some_dist (dist_at at (Flip num den)) b =
      some_where ((1 ≤ den) × (num ≤ den)) TruthKind (broken.BadFlip at) (both (at_most 1 den) (at_most num den) (λ h g. (h, g)) (λ h. h.0) (λ h. h.1))

  some_asked : (k : KindTree) (d : DistTree) → IsDistBuilt Takes d → HasSome (AsksDist known k d)
  some_asked k d b = some_after (JudgesDist known d) (λ j. Asks (dist_place d) j k) (some_dist d b) (λ j h. some_ask (dist_place d) j k)

  -- ---- statements

  mutual
    some_stmt : (x : StmtTree) → IsStmtBuilt Takes x → HasSome (JudgesStmt known x)
    some_stmt (stmt_at at shape) b = some_step shape b

    some_step : (shape : StmtShape) → IsStmtShapeBuilt Takes shape → HasSome (JudgesStmtShape known shape)
    some_step Skip b = some_is tt
    some_step (Assign (name n at) d) b =
        some_after (Picks (HasName known n) (broken.Unknown at)) (λ k. After (AsksDist known k d) (λ _. Is tt)) (some_name n at) (λ k h. some_after (AsksDist known k d) (λ _. Is tt) (some_asked k d b) (λ _ g. some_is tt))
    some_step (Observe d) b = some_after (JudgesDist known d) (λ _. Is tt) (some_dist d b) (λ _ h. some_is tt)
    some_step (If d xs ys) b =
        some_after (AsksDist known TruthKind d) (λ _. After (JudgesStmts known xs) (λ _. JudgesStmts known ys)) (some_asked TruthKind d b.0)
        (λ _ h. some_after (JudgesStmts known xs) (λ _. JudgesStmts known ys) (some_stmts xs b.1) (λ _ g. some_stmts ys b.2))
    some_step (While d xs) b = some_after (AsksDist known TruthKind d) (λ _. JudgesStmts known xs) (some_asked TruthKind d b.0) (λ _ h. some_stmts xs b.1)

    pub some_stmts : (xs : StmtTrees) → AreStmtsBuilt Takes xs → HasSome (JudgesStmts known xs)
    some_stmts no_stmts b = some_is tt
    some_stmts (more_stmts x xs) b = some_after (JudgesStmt known x) (λ _. JudgesStmts known xs) (some_stmt x b.0) (λ _ h. some_stmts xs b.1)

-- ---- declarations

some_grows : (ts : List TypeTree) (t : TypeTree) (at : ℕ) → HasSome (Grows ts t at)
some_grows ts t at =
    some_after (Where (length ts < 32) t (broken.TooManyVariables at)) (λ _. Where (product (map count ts) * count t ≤ 2 ^ 63) t (broken.StoreTooWide at))
    (some_where (length ts < 32) t (broken.TooManyVariables at) (below (at_most (suc (length ts)) 32)))
    (λ _ h. some_where (product (map count ts) * count t ≤ 2 ^ 63) t (broken.StoreTooWide at) (at_most (product (map count ts) * count t) (2 ^ 63)))
  where
    below : Dec (suc (length ts) ≤ 32) → Dec (length ts < 32)
    below (yes h) = yes (omega arith)
    below (no n) = no (λ h. n (omega arith))

unheard : (known : List Known) (n : List ℕ) → Dec (IsUnknown known n)
unheard known n = by (finding known n)
  where
    by : Finding known n → Dec (IsUnknown known n)
    by (inl h) = no (λ u. not_unknown known n h.0 h.1 h.2 u)
    by (inr u) = yes u

some_decl : (vs : List Variable) (d : DeclTree) → AreDeclsBuilt Takes (d ∷ []) → HasSome (JudgesDecl vs d)
some_decl vs (declared visible (name n at) y d) b =
    some_after (Where (IsUnknown (known_of vs) n) n (broken.Twice at)) _ (some_where (IsUnknown (known_of vs) n) n (broken.Twice at) (unheard (known_of vs) n))
    (λ _ h. some_after (JudgesType greatest_size y) (λ t. After (Grows (types_of vs) t at) (λ _. After (AsksDist (known_of vs) (kind_of t) d) (λ _. Is (record { name = n; type = t })))) (some_type greatest_size y)
    (λ t a. some_after (Grows (types_of vs) t at) (λ _. After (AsksDist (known_of vs) (kind_of t) d) (λ _. Is (record { name = n; type = t }))) (some_grows (types_of vs) t at)
    (λ _ c. some_after (AsksDist (known_of vs) (kind_of t) d) (λ _. Is (record { name = n; type = t })) (some_asked (known_of vs) (kind_of t) d b.1)
    (λ _ e. some_is (record { name = n; type = t })))))

first_built : (d : DeclTree) (ds : List DeclTree) → AreDeclsBuilt Takes (d ∷ ds) → AreDeclsBuilt Takes (d ∷ []) × AreDeclsBuilt Takes ds
first_built (declared visible n y d) ds b = ((b.0, b.1, tt), b.2)

pub some_decls : (vs : List Variable) (ds : List DeclTree) → AreDeclsBuilt Takes ds → HasSome (JudgesDecls vs ds)
some_decls vs [] b = some_is vs
some_decls vs (d ∷ ds) b =
    let built = first_built d ds b in some_after (JudgesDecl vs d) (λ v. JudgesDecls (vs ++ v ∷ []) ds) (some_decl vs d built.0) (λ v h. some_decls (vs ++ v ∷ []) ds built.1)

-- ---- targets

module _ (vs : List Variable) where
  seek_declared : (n : List ℕ) → Seeks (λ t. Contains vs (record { name = n; type = t }))
  seek_declared n = by (declared_or_not vs n)
    where
      by : Declared vs n → Seeks (λ t. Contains vs (record { name = n; type = t }))
      by (inl h) = inl (h.1, at_in vs (record { name = n; type = h.1 }) h.0 h.2)
      by (inr u) = inr (λ t h.
          let found = in_at vs (record { name = n; type = t }) h in
          not_unknown (known_of vs) n found.0 (kind_of t) (known_at vs n found.0 t found.1) u)

  fresh : (stood : List ItemTree) (old : Bool) (n : List ℕ) → Dec ((at : ℕ) → ¬ Contains stood (item old (name n at)))
  fresh stood old n = by (standing stood old n)
    where
      by : Dec (Stands stood old n) → Dec ((at : ℕ) → ¬ Contains stood (item old (name n at)))
      by (yes s) = no (λ f. f s.0 s.1)
      by (no n) = yes (λ at h. n (at, h))

  some_carries : (old : Bool) (ts : List TypeTree) (t : TypeTree) (at : ℕ) → HasSome (Carries old ts t at)
  some_carries false ts t at = some_is ts
  some_carries true ts t at = some_after (Grows ts t at) (λ _. Is (ts ++ t ∷ [])) (some_grows ts t at) (λ _ h. some_is (ts ++ t ∷ []))

  some_item : (stood : List ItemTree) (ts : List TypeTree) (i : ItemTree) → HasSome (JudgesItem vs stood ts i)
  some_item stood ts (item old (name n at)) =
      some_after (Picks (λ t. Contains vs (record { name = n; type = t })) (broken.Unknown at)) (λ t. After (Where ((at' : ℕ) → ¬ Contains stood (item old (name n at'))) t (broken.Twice at)) (λ _. Carries old ts t at))
      (some_picks (λ t. Contains vs (record { name = n; type = t })) (broken.Unknown at) (seek_declared n))
      (λ t h. some_after (Where ((at' : ℕ) → ¬ Contains stood (item old (name n at'))) t (broken.Twice at)) (λ _. Carries old ts t at) (some_where ((at' : ℕ) → ¬ Contains stood (item old (name n at'))) t (broken.Twice at) (fresh stood old n))
      (λ _ g. some_carries old ts t at))

  pub some_items : (stood : List ItemTree) (ts : List TypeTree) (is : List ItemTree) → HasSome (JudgesItems vs stood ts is)
  some_items stood ts [] = some_is ts
  some_items stood ts (i ∷ others) = some_after (JudgesItem vs stood ts i) (λ us. JudgesItems vs (i ∷ stood) us others) (some_item stood ts i) (λ us h. some_items (i ∷ stood) us others)
