-- What an expression becomes stays the same where further names stand behind the known ones.
use Rattle.std.specs.Prelude.{if◌then◌else◌}
use Rattle.std.specs.Str.{bytes_eq}
use Rattle.std.proofs.Common.{◌≡◌, ℕ, suc, zero, Bool, true, false, List, [], ◌∷◌, ◌++◌, map, Ok, refl, sym, ap, ◌∙◌, true≢false}
use Rattle.std.proofs.lemmas.Slice.Eq.{bytes_eq-Decides}
use Rattle.kf_value.specs.Kinds.{KindTree, WholeKind}
use Rattle.kf_ast.specs.Names.{name}
use Rattle.kf_ast.specs.Exprs.{ExprTree, ExprShape, ExprTrees, expr_at, no_exprs, more_exprs}
use Rattle.kf_ast.specs.Exprs as expr
use Rattle.kf_ast.specs.Dists.{CaseTree, case_of, DistTree, dist_at, Sure, UniformSet, UniformRange, Choose, Flip}
use Rattle.kf_core.specs.Exs.{ExTrees, more_exs}
use Rattle.kf_core.specs.Exs as ex
use Rattle.kf_core.specs.Dxs.{DxTree, dx_at}
use Rattle.kf_core.specs.Dxs as dx
use Rattle.kf_check.specs.Kinds.{Known, Judges, JudgesShape, JudgesAll, JudgesCases, JudgesDist}
use Rattle.kf_check.specs.Translation.{place_of, ex_of, ex_of_shape, exs_of, dx_case_of, dx_of}
use Rattle.kf_check.specs.Picks.{names_in}
use Rattle.kf_check.proofs.Kinding.{IsVariable, slice_get-some, pair_kinds}

place_behind : (names later : List (List ℕ)) (n : List ℕ) (i : ℕ) → IsVariable names n i → place_of names n ≡ place_of (names ++ later) n
place_behind [] later n i h = absurd (cc)
place_behind (m ∷ names) later n i h = by (bytes_eq m n) refl i h (place_behind names later n)
  where
    by : (b : Bool) → bytes_eq m n ≡ b → (i : ℕ) → IsVariable (m ∷ names) n i → ((j : ℕ) → IsVariable names n j → place_of names n ≡ place_of (names ++ later) n)
        → (if b then 0 else suc (place_of names n)) ≡ (if b then 0 else suc (place_of (names ++ later) n))
    by true is i h rest = refl
    by false is zero h rest = let same : m ≡ n = cc in absurd (true≢false (sym ((bytes_eq-Decides m n).1 same) ∙ is))
    by false is (suc j) h rest = ap suc (rest j h)

module _ (known : List Known) (later : List (List ℕ)) where
  abbrev names : List (List ℕ)
  names = names_in known

  abbrev more : List (List ℕ)
  more = names_in known ++ later

  mutual
    ex_behind : (x : ExprTree) (k : KindTree) → Judges known x (Ok k) → ex_of names x ≡ ex_of more x
    ex_behind (expr_at at shape) k j = shape_behind at shape k j

    shape_behind : (at : ℕ) (shape : ExprShape) (k : KindTree) → JudgesShape known at shape (Ok k) → ex_of_shape names shape ≡ ex_of_shape more shape
    shape_behind at (expr.Number n) k j = refl
    shape_behind at (expr.Truth b) k j = refl
    shape_behind at (expr.Name (name n at')) k j = ap ex.Slot (place_behind names later n j.0 (slice_get-some (λ v. v.name) known j.0 (record { name = n; kind = k }) j.1))
    shape_behind at (expr.Apply row xs) k j = ap (λ ys. ex.Apply row ys) (exs_behind xs j.0 j.1)
    shape_behind at (expr.Tuple xs) k j = ap ex.Tuple (exs_behind xs j.0 j.1)
    shape_behind at (expr.SetOf xs) k j = ap ex.SetOf (exs_behind xs j.0 j.1)
    shape_behind at (expr.Part x n) k j = ap (λ y. ex.Part y n) (ex_behind x j.0 j.1)

    exs_behind : (xs : ExprTrees) (ks : List KindTree) → JudgesAll known xs (Ok ks) → exs_of names xs ≡ exs_of more xs
    exs_behind no_exprs ks j = refl
    exs_behind (more_exprs x xs) ks j = ap (λ y. more_exs y (exs_of names xs)) (ex_behind x j.0 j.1) ∙ ap (λ ys. more_exs (ex_of more x) ys) (exs_behind xs j.2.0 j.2.1)

  cases_behind : (k j : KindTree) (cs : List CaseTree) → JudgesCases known k cs (Ok j) → map (dx_case_of names) cs ≡ map (dx_case_of more) cs
  cases_behind k j [] h = refl
  cases_behind k j (case_of x y ∷ cs) h =
      let ours = pair_kinds known k h.0 x y h.1 in
      ap (λ a. dx.case_of a (ex_of names y) ∷ map (dx_case_of names) cs) (ex_behind x k ours.0) ∙ ap (λ b. dx.case_of (ex_of more x) b ∷ map (dx_case_of names) cs) (ex_behind y WholeKind ours.1)
      ∙ ap (λ ds. dx.case_of (ex_of more x) (ex_of more y) ∷ ds) (cases_behind k j cs h.2)

  pub dx_behind : (d : DistTree) (k : KindTree) → JudgesDist known d (Ok k) → dx_of names d ≡ dx_of more d
  dx_behind (dist_at at (Sure x)) k j = ap (λ y. dx_at at (dx.Sure y)) (ex_behind x k j)
  dx_behind (dist_at at (UniformSet x)) k j = ap (λ y. dx_at at (dx.UniformSet y)) (ex_behind x j.0 j.1)
  dx_behind (dist_at at (UniformRange x y)) k j =
      let ours = pair_kinds known WholeKind k x y j in
      ap (λ a. dx_at at (dx.UniformRange a (ex_of names y))) (ex_behind x WholeKind ours.0) ∙ ap (λ b. dx_at at (dx.UniformRange (ex_of more x) b)) (ex_behind y WholeKind ours.1)
  dx_behind (dist_at at (Choose [])) k j = absurd j
  dx_behind (dist_at at (Choose (case_of x y ∷ cs))) k j = ap (λ ds. dx_at at (dx.Choose ds)) (cases_behind j.0 k (case_of x y ∷ cs) j.2)
  dx_behind (dist_at at (Flip num den)) k j = refl
