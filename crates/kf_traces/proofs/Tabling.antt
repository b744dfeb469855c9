-- The column of the stores behind a trace, and what becomes of it about the target.
use Rattle.std.proofs.Common.{Bool, ◌≡◌, ℕ, ◌+◌, ◌<◌, ◌≤◌, ◌==◌, cond, List, [], ◌∷◌, ◌++◌, length, map, refl, sym, ap, subst, ◌∙◌, arith}
use Rattle.std.specs.Prelude.{filter, if◌then◌else◌}
use Rattle.std.specs.List.{All, AllByRecursion as Each}
use Rattle.std.proofs.lemmas.List.{length-map}
use Rattle.std.proofs.lemmas.List.Elements.{All-from_recursion, recursion_from_All, All-cons, All-head, All-nil}
use Rattle.std.proofs.lemmas.List.Sums.{sum_by-cons}
use Rattle.kf_frac.specs.Fractions.{limit}
use Rattle.kf_column.specs.declared.entry.Entry.{Entry}
use Rattle.kf_hyper.specs.declared.column.Column.{Column}
use Rattle.kf_column.specs.Columns.{weight_at, total}
use Rattle.kf_column.specs.Shapes.{IsBelow}
use Rattle.kf_column.specs.Joint.{IsJoint, mass}
use Rattle.kf_column.specs.Projection.{weight_through}
use Rattle.kf_hyper.specs.Sums.{summed, ArePositive, asked_weight, Gathers}
use Rattle.kf_core.proofs.Sums.{adds, sum_filtered}
use Rattle.kf_traces.specs.Laws.{sum_of}
use Rattle.kf_traces.specs.Traced.{Weights}

-- all weights together
pub total_summed : (es : Weights) → total (summed es) ≡ sum_of es
total_summed [] = refl
total_summed (e ∷ es) =
    sum_by-cons (λ (u : Entry). u.weight) (record { value = e.0; weight = e.1 }) (summed es) ∙ ap (λ n. e.1 + n) (total_summed es) ∙ sym (sum_by-cons (λ (e : ℕ × ℕ). e.1) e es)

-- facts of the weights are facts of the entries
each_summed : (P : ℕ → ℕ → Type 0) (es : Weights) → Each (λ e. P e.0 e.1) es → Each (λ (u : Entry). P u.value u.weight) (summed es)
each_summed P [] h = tt
each_summed P (e ∷ es) h = (h.0, each_summed P es h.1)

-- stores with weights above 0 have some weight together
some_sum : (es : Weights) → 1 ≤ length es → Each (λ e. 0 < e.1) es → 0 < sum_of es
some_sum [] long h = absurd (omega (arith, long))
some_sum (e ∷ es) long h = omega (arith, h.0, sum_by-cons (λ (e : ℕ × ℕ). e.1) e es)

-- ---- the column of the stores

module _ (es : Weights) (positive : All (λ e. 0 < e.1) es) where
  -- each store has some weight
  pub stores_positive : ArePositive (summed es)
  stores_positive = All-from_recursion (λ (u : Entry). 0 < u.weight) (summed es) (each_summed (λ n w. 0 < w) es (recursion_from_All (λ (e : ℕ × ℕ). 0 < e.1) es positive))

  -- and so they have some together, where there are stores
  pub stores_some : 1 ≤ length es → 0 < total (summed es)
  stores_some long = let some = some_sum es long (recursion_from_All (λ (e : ℕ × ℕ). 0 < e.1) es positive) in omega (arith, total_summed es, some)

-- and the column gathers them
pub gathers_stores : (es : Weights) (items : List Entry) (c : Column) → items ≡ summed es → ((asked : ℕ → Bool) → asked_weight asked c ≡ asked_weight asked items) → total c ≡ total items
    → ((size : ℕ) → IsBelow size items → IsBelow size c) → Gathers (summed es) c
gathers_stores es items c is weights total below = subst (λ l. Gathers l c) is (record { weights = weights; total = total; below = below })

-- a list that it alone was put into
pub only_pushed : (c : Column) (none items cs : List Column) → none ≡ [] → items ≡ none ++ c ∷ [] → cs ≡ items → cs ≡ c ∷ []
only_pushed c none items cs empty pushed is = is ∙ pushed ∙ ap (λ l. l ++ c ∷ []) empty

-- alone it is a joint matrix over a scale that it doesn't pass
pub alone_is_joint : (scale : ℕ) (es : Weights) (c : Column) (cs : List Column) → cs ≡ c ∷ [] → Gathers (summed es) c → 0 < total (summed es) → sum_of es ≤ scale → scale ≤ limit
    → IsJoint (record { scale = scale; columns = cs })
alone_is_joint scale es c cs one is some within narrow =
    let sum : mass cs ≡ total c + 0 = ap mass one ∙ sum_by-cons total c [] in
    let all : total c ≡ sum_of es = is.total ∙ total_summed es in
    record {
      some = omega (arith, some, total_summed es, within);
      narrow = narrow;
      fits = omega (arith, sum, all, within);
    }

-- of the stores
pub alone_below : (size : ℕ) (es : Weights) (c : Column) (cs : List Column) → cs ≡ c ∷ [] → Gathers (summed es) c → All (λ e. e.0 < size) es → All (IsBelow size) cs
alone_below size es c cs one is below =
    let each : IsBelow size (summed es) = All-from_recursion (λ (u : Entry). u.value < size) (summed es) (each_summed (λ n w. n < size) es (recursion_from_All (λ (e : ℕ × ℕ). e.0 < size) es below)) in
    subst (All (IsBelow size)) (sym one) (All-cons (IsBelow size) c [] (is.below size each) (All-nil (IsBelow size)))

-- ---- the same about the target

abbrev head_of : (ℕ → ℕ) → List (ℕ → ℕ) → ℕ → ℕ
head_of f [] = f
head_of f (g ∷ gs) = g

-- what stores give to a value, where each becomes the number of its target value
module _ (become number : ℕ → ℕ) (room : ℕ) (alike : (n : ℕ) → n < room → become n ≡ number n) (x : ℕ) where
  adds_through : (es : Weights) → Each (λ e. e.0 < room) es → weight_through become (summed es) x ≡ adds (λ e. cond (number e.0 == x) e.1 0) es
  adds_through [] below = refl
  adds_through (e ∷ es) below =
      sum_by-cons (λ (u : Entry). if become u.value == x then u.weight else 0) (record { value = e.0; weight = e.1 }) (summed es)
      ∙ ap (λ n. cond (become e.0 == x) e.1 0 + n) (adds_through es below.1)
      ∙ ap (λ m. cond (m == x) e.1 0 + adds (λ u. cond (number u.0 == x) u.1 0) es) (alike e.0 below.0)

  through_is : (es : Weights) → All (λ e. e.0 < room) es → weight_through become (summed es) x ≡ sum_of (filter (λ e. number e.0 == x) es)
  through_is es below =
      adds_through es (recursion_from_All (λ (e : ℕ × ℕ). e.0 < room) es below) ∙ sym (sum_filtered (λ (e : ℕ × ℕ). e.1) (λ e. number e.0 == x) es)

-- each value has the weight of its stores
pub about_weights : (es : Weights) (c now : Column) (cs abouts : List Column) → cs ≡ c ∷ [] → Gathers (summed es) c → abouts ≡ now ∷ [] → (become number : ℕ → ℕ) (room : ℕ) → ((n : ℕ) → n < room → become n ≡ number n)
    → All (λ e. e.0 < room) es → map weight_at abouts ≡ map (weight_through become) cs → (x : ℕ) → weight_at now x ≡ sum_of (filter (λ e. number e.0 == x) es)
about_weights es c now cs abouts one is only become number room alike below weights x =
    let both : weight_at now ∷ [] ≡ weight_through become c ∷ [] = sym (ap (map weight_at) only) ∙ weights ∙ ap (map (weight_through become)) one in
    ap (λ fs. head_of (λ n. 0) fs x) both ∙ is.weights (λ v. become v == x) ∙ through_is become number room alike x es below

-- and the values are the target's
pub about_below : (size : ℕ) (now : Column) (abouts : List Column) → abouts ≡ now ∷ [] → All (IsBelow size) abouts → IsBelow size now
about_below size now abouts only below = All-head (IsBelow size) now [] (subst (All (IsBelow size)) only below)

-- there is one column of it
pub about_alone : (c : Column) (cs abouts : List Column) (f : Column → ℕ → ℕ) → cs ≡ c ∷ [] → map weight_at abouts ≡ map f cs → length abouts ≡ 1
about_alone c cs abouts f one weights = sym (length-map abouts weight_at) ∙ ap length weights ∙ length-map cs f ∙ ap length one

-- and it has the weight of all stores
pub about_total : (es : Weights) (c now : Column) (cs abouts : List Column) → cs ≡ c ∷ [] → Gathers (summed es) c → abouts ≡ now ∷ [] → mass abouts ≡ mass cs → total now ≡ sum_of es
about_total es c now cs abouts one is only same =
    let left : mass abouts ≡ total now + 0 = ap mass only ∙ sum_by-cons total now [] in
    let right : mass cs ≡ total c + 0 = ap mass one ∙ sum_by-cons total c [] in
    let all : total c ≡ sum_of es = is.total ∙ total_summed es in
    omega (arith, left, right, all, same)
