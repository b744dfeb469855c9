-- A node that breaks no rule has its kind in the program.
use Rattle.std.proofs.Common.{◌≡◌, ℕ, suc, zero, ◌<◌, ◌≤◌, Bool, true, false, List, [], ◌∷◌, map, length, slice_get, All, Result, Some, Ok, refl, sym, ap, ◌∙◌, subst, arith, true≢false}
use Rattle.std.specs.Prelude.{if◌then◌else◌}
use Rattle.std.specs.Str.{bytes_eq}
use Rattle.std.proofs.lemmas.Slice.Eq.{bytes_eq-Decides}
use Rattle.std.proofs.lemmas.List.Elements.{All-head, All-tail}
use Rattle.std.proofs.lemmas.Option.{slice_get-map}
use Rattle.std.specs.Option.{option_map}
use Rattle.kf_value.specs.Kinds.{KindTree, TruthKind, WholeKind, TupleKind, SetKind, kind_parts}
use Rattle.kf_ops.specs.Fitting.{Takes}
use Rattle.kf_ast.specs.Names.{name}
use Rattle.kf_ast.specs.Exprs.{ExprTree, ExprShape, ExprTrees, expr_at, no_exprs, more_exprs}
use Rattle.kf_ast.specs.Exprs as expr
use Rattle.kf_ast.specs.Dists.{CaseTree, case_of, DistTree, dist_at, Sure, UniformSet, UniformRange, Choose, Flip}
use Rattle.kf_ast.specs.Stmts.{StmtTree, StmtShape, StmtTrees, stmt_at, Skip, Assign, Observe, If, While, no_stmts, more_stmts, stmts}
use Rattle.kf_ast.specs.Built.{expr_count, IsBuilt, IsShapeBuilt, AreBuilt, AreCasesBuilt, IsDistBuilt, IsStmtBuilt, IsStmtShapeBuilt, AreStmtsBuilt}
use Rattle.kf_core.specs.Exs.{ExTree, ExTrees, no_exs, more_exs}
use Rattle.kf_core.specs.Views.{exs_list, sts_list}
use Rattle.kf_core.specs.Exs as ex
use Rattle.kf_core.specs.Sts.{StTree, StTrees, no_sts, more_sts, sts}
use Rattle.kf_core.specs.Sts as st
use Rattle.kf_core.specs.Checked.{Kinded, EachKinded, AllKinded, CasesKinded, DistKinded, IsSound, AreSound}
use Rattle.kf_ops.specs.Places.{pattern_kind}
use Rattle.kf_core.specs.Checked as has
use Rattle.kf_core.specs.Each.{exs}
use Rattle.kf_check.specs.declared.errors.TypeError.{TypeError}
use Rattle.kf_check.specs.Kinds.{Known, IsCommon, Judges, JudgesShape, JudgesAll, JudgesPair, JudgesCases, JudgesDist, AsksDist}
use Rattle.kf_check.specs.Picks.{names_in}
use Rattle.kf_check.specs.Statements.{JudgesStmt, JudgesStmtShape, JudgesStmts}
use Rattle.kf_check.specs.Translation.{place_of, ex_of, ex_of_shape, exs_of, dx_case_of, dx_of, st_of, st_of_shape, sts_of}
use Rattle.kf_check.specs.Variables.{IsKnown}

abbrev pub kinds_in : List Known → List KindTree
kinds_in known = map (λ v. v.kind) known

-- the variable of this name has this number
abbrev pub IsVariable : List (List ℕ) → List ℕ → ℕ → Type 0
IsVariable names n i = slice_get names i ≡ Some n

-- no name stands twice
abbrev pub Differ : List (List ℕ) → Type 0
Differ names = (n : List ℕ) (i j : ℕ) → IsVariable names n i → IsVariable names n j → i ≡ j

pub slice_get-some : {A B : Type 0} (f : A → B) (xs : List A) (i : ℕ) (x : A) → slice_get xs i ≡ Some x → slice_get (map f xs) i ≡ Some (f x)
slice_get-some f xs i x h = slice_get-map f xs i ∙ ap (option_map f) h

pub exs-exs_list : (ys : ExTrees) → exs (exs_list ys) ≡ ys
exs-exs_list no_exs = refl
exs-exs_list (more_exs y ys) = ap (λ zs. more_exs y zs) (exs-exs_list ys)

pub sts-sts_list : (ys : StTrees) → sts (sts_list ys) ≡ ys
sts-sts_list no_sts = refl
sts-sts_list (more_sts y ys) = ap (λ zs. more_sts y zs) (sts-sts_list ys)

pub sts_list-sts : (ys : List StTree) → sts_list (sts ys) ≡ ys
sts_list-sts [] = refl
sts_list-sts (y ∷ ys) = ap (λ zs. y ∷ zs) (sts_list-sts ys)

-- the statements one by one
pub sts_of_all : (names : List (List ℕ)) (flags : List Bool) (xs : List StmtTree) → sts (map (st_of names flags) xs) ≡ sts_of names flags (stmts xs)
sts_of_all names flags [] = refl
sts_of_all names flags (x ∷ xs) = ap (λ ys. more_sts (st_of names flags x) ys) (sts_of_all names flags xs)

-- where a name stands at all, it stands at its place
pub stands_at : (names : List (List ℕ)) (n : List ℕ) (i : ℕ) → IsVariable names n i → IsVariable names n (place_of names n)
stands_at [] n i h = absurd (cc)
stands_at (m ∷ names) n i h = by (bytes_eq m n) refl i h (stands_at names n)
  where
    by : (b : Bool) → bytes_eq m n ≡ b → (i : ℕ) → IsVariable (m ∷ names) n i → ((j : ℕ) → IsVariable names n j → IsVariable names n (place_of names n)) → IsVariable (m ∷ names) n (if b then 0 else suc (place_of names n))
    by true is i h rest = ap Some ((bytes_eq-Decides m n).0 is)
    by false is zero h rest = let same : m ≡ n = cc in absurd (true≢false (sym ((bytes_eq-Decides m n).1 same) ∙ is))
    by false is (suc j) h rest = rest j h

-- the first place where it stands is its place
pub place_first : (names : List (List ℕ)) (n : List ℕ) (i : ℕ) → IsVariable names n i → ((k : ℕ) → k < i → IsVariable names n k → ⊥) → place_of names n ≡ i
place_first [] n i h f = absurd (cc)
place_first (m ∷ names) n i h f = by (bytes_eq m n) refl i h f (place_first names n)
  where
    by : (b : Bool) → bytes_eq m n ≡ b → (i : ℕ) → IsVariable (m ∷ names) n i → ((k : ℕ) → k < i → IsVariable (m ∷ names) n k → ⊥)
        → ((j : ℕ) → IsVariable names n j → ((k : ℕ) → k < j → IsVariable names n k → ⊥) → place_of names n ≡ j) → (if b then 0 else suc (place_of names n)) ≡ i
    by true is zero h f rest = refl
    by true is (suc j) h f rest = absurd (f 0 (omega arith) (ap Some ((bytes_eq-Decides m n).0 is)))
    by false is zero h f rest = let same : m ≡ n = cc in absurd (true≢false (sym ((bytes_eq-Decides m n).1 same) ∙ is))
    by false is (suc j) h f rest = ap suc (rest j h (λ k low e. f (suc k) (omega arith) e))

-- so that is its place where names differ
pub place_found : (names : List (List ℕ)) → Differ names → (n : List ℕ) (i : ℕ) → IsVariable names n i → place_of names n ≡ i
place_found names apart n i h = apart n (place_of names n) i (stands_at names n i h) h

pub same_ok : {A : Type 0} (x y : A) → ◌≡◌ {A = Result A TypeError} (Ok x) (Ok y) → x ≡ y
same_ok x y h = (cc)

all_kinded : {ks : List KindTree} {xs : List ExTree} {js : List KindTree} (k : KindTree) → EachKinded ks xs js → All (λ j. j ≡ k) js → AllKinded ks xs k
all_kinded k has.none same = has.no_more
all_kinded {ks} k (has.more {x = x} {j = j} {js = js} h hs) same = has.and_more (subst (λ i. Kinded ks x i) (All-head (λ j. j ≡ k) j js same) h) (all_kinded k hs (All-tail (λ j. j ≡ k) j js same))

set_kinded : {ks : List KindTree} {xs : List ExTree} {js : List KindTree} (k : KindTree) → EachKinded ks xs (k ∷ js) → All (λ j. j ≡ k) js → AllKinded ks xs k
set_kinded k (has.more h hs) same = has.and_more h (all_kinded k hs same)

common_kinded : {ks : List KindTree} {xs : List ExTree} (js : List KindTree) (k : KindTree) → IsCommon js k → EachKinded ks xs js → AllKinded ks xs k
common_kinded [] k c h = absurd c
common_kinded {ks} {xs} (j ∷ js) k c h = subst (AllKinded ks xs) c.0 (set_kinded j h c.1)

-- the variable that a known name stands for has the known kind
abbrev pub Agree : List Known → List (List ℕ) → List KindTree → Type 0
Agree known names ks = (n : List ℕ) (i : ℕ) (k : KindTree) → IsKnown known n i k → slice_get ks (place_of names n) ≡ Some k

-- so it is where the names are those of the known variables, and differ
pub agree : (known : List Known) → Differ (names_in known) → Agree known (names_in known) (kinds_in known)
agree known apart n i k h =
    let same = place_found (names_in known) apart n i (slice_get-some (λ v. v.name) known i (record { name = n; kind = k }) h) in
    subst (λ p. slice_get (kinds_in known) p ≡ Some k) (sym same) (slice_get-some (λ v. v.kind) known i (record { name = n; kind = k }) h)

-- two expressions that have the kinds that are asked
pub pair_kinds : (known : List Known) (k j : KindTree) (x y : ExprTree) → JudgesPair known k x y (Ok j) → Judges known x (Ok k) × Judges known y (Ok WholeKind)
pair_kinds known k j x y h = (subst (λ l. Judges known x (Ok l)) h.2.2.1.0 h.1, subst (λ l. Judges known y (Ok l)) h.2.2.2.1.0 h.2.1)

-- cases have the kind that is asked
cases_kind : (known : List Known) (k j : KindTree) (cs : List CaseTree) → JudgesCases known k cs (Ok j) → j ≡ k
cases_kind known k j [] h = same_ok j k h
cases_kind known k j (case_of x y ∷ cs) h = cases_kind known k j cs h.2

-- a distribution of which a kind is asked has that kind
pub asked : (known : List Known) (k j : KindTree) (d : DistTree) → AsksDist known k d (Ok j) → JudgesDist known d (Ok k)
asked known k j d h = subst (λ i. JudgesDist known d (Ok i)) h.2.0 h.1

module _ (known : List Known) (names : List (List ℕ)) (ks : List KindTree) (alike : Agree known names ks) where
  exs_many : (xs : ExprTrees) → length (exs_list (exs_of names xs)) ≡ expr_count xs
  exs_many no_exprs = refl
  exs_many (more_exprs x xs) = ap suc (exs_many xs)

  mutual
    -- an expression that breaks no rule
    kinded : (x : ExprTree) (k : KindTree) → Judges known x (Ok k) → IsBuilt Takes x → Kinded ks (ex_of names x) k
    kinded (expr_at at shape) k j b = shape_kinded at shape k j b

    shape_kinded : (at : ℕ) (shape : ExprShape) (k : KindTree) → JudgesShape known at shape (Ok k) → IsShapeBuilt Takes shape → Kinded ks (ex_of_shape names shape) k
    shape_kinded at (expr.Number n) k j b = subst (Kinded ks (ex_of_shape names (expr.Number n))) (sym (same_ok k WholeKind j)) (has.whole n)
    shape_kinded at (expr.Truth t) k j b = subst (Kinded ks (ex_of_shape names (expr.Truth t))) (sym (same_ok k TruthKind j)) (has.truth t)
    shape_kinded at (expr.Name (name n at')) k j b = has.slot (place_of names n) (alike n j.0 k j.1)
    shape_kinded at (expr.Apply row xs) k j b =
        let r = j.2.0 in
        let any = j.2.1 in
        subst (Kinded ks (ex.Apply row (exs_of names xs))) (sym j.2.4)
        (subst (λ zs. Kinded ks (ex.Apply row zs) (pattern_kind any r.result)) (exs-exs_list (exs_of names xs))
        (has.apply row r any j.2.2 (subst (EachKinded ks (exs_list (exs_of names xs))) j.2.3 (each_kinded xs j.0 j.1 b.1))))
    shape_kinded at (expr.Tuple xs) k j b =
        subst (Kinded ks (ex.Tuple (exs_of names xs))) (sym (same_ok k (TupleKind (kind_parts j.0)) j.2))
        (subst (λ zs. Kinded ks (ex.Tuple zs) (TupleKind (kind_parts j.0))) (exs-exs_list (exs_of names xs)) (has.tuple (each_kinded xs j.0 j.1 b.1) (subst (λ n. 2 ≤ n) (sym (exs_many xs)) b.0)))
    shape_kinded at (expr.SetOf xs) k j b =
        subst (Kinded ks (ex.SetOf (exs_of names xs))) (sym (same_ok k (SetKind j.2.0) j.2.2))
        (subst (λ zs. Kinded ks (ex.SetOf zs) (SetKind j.2.0)) (exs-exs_list (exs_of names xs)) (has.set (common_kinded j.0 j.2.0 j.2.1 (each_kinded xs j.0 j.1 b.1)) (subst (λ n. 1 ≤ n) (sym (exs_many xs)) b.0)))
    shape_kinded at (expr.Part x n) k j b = has.part n j.2.0 (subst (Kinded ks (ex_of names x)) j.2.1 (kinded x j.0 j.1 b)) j.2.2

    each_kinded : (xs : ExprTrees) (js : List KindTree) → JudgesAll known xs (Ok js) → AreBuilt Takes xs → EachKinded ks (exs_list (exs_of names xs)) js
    each_kinded no_exprs js j b = subst (EachKinded ks []) (sym (same_ok js [] j)) has.none
    each_kinded (more_exprs x xs) js j b =
        subst (EachKinded ks (ex_of names x ∷ exs_list (exs_of names xs))) (sym (same_ok js (j.0 ∷ j.2.0) j.2.2)) (has.more (kinded x j.0 j.1 b.0) (each_kinded xs j.2.0 j.2.1 b.1))

  cases_kinded : (k j : KindTree) (cs : List CaseTree) → JudgesCases known k cs (Ok j) → AreCasesBuilt Takes cs → CasesKinded ks (map (dx_case_of names) cs) k
  cases_kinded k j [] h b = has.none
  cases_kinded k j (case_of x y ∷ cs) h b =
      let ours = pair_kinds known k h.0 x y h.1 in has.more (kinded x k ours.0 b.0) (kinded y WholeKind ours.1 b.1) (cases_kinded k j cs h.2 b.2)

  -- a distribution that breaks no rule
  pub dist_kinded : (d : DistTree) (k : KindTree) → JudgesDist known d (Ok k) → IsDistBuilt Takes d → DistKinded ks (dx_of names d) k
  dist_kinded (dist_at at (Sure x)) k j b = has.sure at (kinded x k j b)
  dist_kinded (dist_at at (UniformSet x)) k j b = has.uniform_set at (subst (Kinded ks (ex_of names x)) j.2 (kinded x j.0 j.1 b))
  dist_kinded (dist_at at (UniformRange x y)) k j b =
      let ours = pair_kinds known WholeKind k x y j in
      subst (DistKinded ks (dx_of names (dist_at at (UniformRange x y)))) (sym (same_ok k WholeKind j.2.2.2.2)) (has.uniform_range at (kinded x WholeKind ours.0 b.0) (kinded y WholeKind ours.1 b.1))
  dist_kinded (dist_at at (Choose [])) k j b = absurd j
  dist_kinded (dist_at at (Choose (case_of x y ∷ cs))) k j b =
      subst (DistKinded ks (dx_of names (dist_at at (Choose (case_of x y ∷ cs))))) (sym (cases_kind known j.0 k (case_of x y ∷ cs) j.2))
      (has.choose at (cases_kinded j.0 k (case_of x y ∷ cs) j.2 b.1) (omega arith))
  dist_kinded (dist_at at (Flip num den)) k j b = subst (DistKinded ks (dx_of names (dist_at at (Flip num den)))) (sym j.1) (has.flip at num den j.0.0 j.0.1)

  module _ (flags : List Bool) where
    mutual
      sound : (x : StmtTree) (u : Unit {0}) → JudgesStmt known x (Ok u) → IsStmtBuilt Takes x → IsSound ks (st_of names flags x)
      sound (stmt_at at shape) u j b = shape_sound shape u j b

      shape_sound : (shape : StmtShape) (u : Unit {0}) → JudgesStmtShape known shape (Ok u) → IsStmtShapeBuilt Takes shape → IsSound ks (st_of_shape names flags shape)
      shape_sound Skip u j b = has.skip
      shape_sound (Assign (name n at) d) u j b = has.assign (place_of names n) (alike n j.1.0 j.0 j.1.1) (dist_kinded d j.0 (asked known j.0 j.2.0 d j.2.1) b)
      shape_sound (Observe d) u j b = has.observe (dist_kinded d j.0 j.1 b)
      shape_sound (If d xs ys) u j b =
          subst (λ zs. IsSound ks (st.If (dx_of names d) zs (sts_of names flags ys))) (sts-sts_list (sts_of names flags xs))
          (subst (λ zs. IsSound ks (st.If (dx_of names d) (sts (sts_list (sts_of names flags xs))) zs)) (sts-sts_list (sts_of names flags ys))
          (has.if_else (dist_kinded d TruthKind (asked known TruthKind j.0 d j.1) b.0) (all_sound xs j.2.0 j.2.1 b.1) (all_sound ys u j.2.2 b.2)))
      shape_sound (While d xs) u j b =
          subst (λ zs. IsSound ks (st.While (dx_of names d) zs)) (sts-sts_list (sts_of names flags xs)) (has.while (dist_kinded d TruthKind (asked known TruthKind j.0 d j.1) b.0) (all_sound xs u j.2 b.1))

      -- statements that break no rule
      pub all_sound : (xs : StmtTrees) (u : Unit {0}) → JudgesStmts known xs (Ok u) → AreStmtsBuilt Takes xs → AreSound ks (sts_list (sts_of names flags xs))
      all_sound no_stmts u j b = has.none
      all_sound (more_stmts x xs) u j b = has.more (sound x j.0 j.1 b.0) (all_sound xs u j.2 b.1)
