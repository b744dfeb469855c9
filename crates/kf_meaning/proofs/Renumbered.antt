-- Columns whose values are numbered anew: what they weigh, and that numbers which tell values apart keep columns out of proportion.
use Rattle.std.proofs.Common.{◌≡◌, ℕ, ◌+◌, ◌*◌, ◌/◌, ◌<◌, ◌≤◌, ◌==◌, true, false, List, [], ◌∷◌, ◌++◌, All, length, map, suc, refl, sym, ap, subst, ◌∙◌, arith, ⊎_elim, if◌then◌else◌, true≢false}
use Rattle.std.specs.Prelude.{flat_map}
use Rattle.std.specs.List.{AllByRecursion as Each, AllZip, IsDistinct}
use Rattle.std.proofs.Math.Nat.{div-one, one-mul}
use Rattle.std.proofs.lemmas.Bool.{cases_lt, eq-eqb, eqb-true, false_from_ne_true}
use Rattle.std.proofs.lemmas.List.Elements.{All-head, All-tail}
use Rattle.std.proofs.lemmas.List.Sums.{sum_by-cons}
use Rattle.kf_column.specs.declared.entry.Entry.{Entry}
use Rattle.kf_column.specs.Columns.{IsColumn, proportional, weight_at}
use Rattle.kf_column.specs.Projection.{weight_through}
use Rattle.kf_column.specs.Shapes.{IsBelow}
use Rattle.kf_column.specs.Traces.{Row}
use Rattle.kf_column.proofs.Proportions.{all_proportional, proportional_all}
use Rattle.kf_column.proofs.Scaling.{two_ways}
use Rattle.kf_column.proofs.Weights.{weight_at-cons, weight_at_other}
use Rattle.kf_core.specs.Joint.{weight_of}
use Rattle.kf_core.specs.Ready.{carried_cells}
use Rattle.kf_core.specs.Rows.{AreRowsOf}
use Rattle.kf_core.specs.Runs.{stay}
use Rattle.kf_core.proofs.Sums.{adds, sum_is}
use Rattle.kf_core.specs.Each.{HasTrace}
use Rattle.kf_push.proofs.Beginning.{SilentCells, one_silent_row}
use Rattle.kf_push.proofs.Carrying.{Matrix, Runner}
use Rattle.kf_push.proofs.CellWeights.{at_both, trace_weight_is, weighs, weight_is}

whole_weight : (w : ℕ) → 1 * w / 1 ≡ w
whole_weight w = ap (λ n. n / 1) (one-mul w) ∙ div-one w

-- one column for each, which gives to a value what all weigh that become it
abbrev pub Become : (ℕ → ℕ) → Matrix → Matrix → Type 0
Become f [] [] = Unit {0}
Become f [] (t ∷ ts) = ⊥
Become f (c ∷ cs) [] = ⊥
Become f (c ∷ cs) (t ∷ ts) = ((x : ℕ) → weight_at t x ≡ weight_through f c x) × Become f cs ts

module _ (f : ℕ → ℕ) where
  abbrev pub renumbers : Runner
  renumbers n = stay (f n)

  moved_silent : (column : List Entry) → SilentCells (carried_cells renumbers column)
  moved_silent [] = tt
  moved_silent (e ∷ es) = (refl, moved_silent es)

  moved_some : (column : List Entry) → IsColumn column → HasTrace (carried_cells renumbers column) []
  moved_some [] is = absurd (is.some refl)
  moved_some (e ∷ es) is =
      let above : 0 < e.weight = All-head (λ (e : Entry). 0 < e.weight) e es is.positive in
      omega (arith, trace_weight_is (carried_cells renumbers (e ∷ es)) [], whole_weight e.weight, above)

  moved_adds : (column : List Entry) (x : ℕ)
      → adds (weighs (at_both [] x)) (carried_cells renumbers column) ≡ adds (λ e. if f e.value == x then e.weight else 0) column
  moved_adds [] x = refl
  moved_adds (e ∷ es) x =
      let rest = moved_adds es x in
      let head : (if f e.value == x then 1 * e.weight / 1 else 0) ≡ (if f e.value == x then e.weight else 0) =
      ap (λ w. if f e.value == x then w else 0) (whole_weight e.weight) in
      λ i. head i + rest i

  moved_weight : (column : List Entry) (x : ℕ) → weight_of (carried_cells renumbers column) [] x ≡ weight_through f column x
  moved_weight column x =
      weight_is (carried_cells renumbers column) [] x
      ∙ (moved_adds column x ∙ sym (sum_is (λ (e : Entry). if f e.value == x then e.weight else 0) column))

  moved_row : (column : List Entry) → IsColumn column → (there : List Row) → AreRowsOf (carried_cells renumbers column) there
      → (row : Row) × (there ≡ row ∷ []) × ((x : ℕ) → weight_at row.column x ≡ weight_through f column x)
  moved_row column is there are =
      let cs = carried_cells renumbers column in
      let one = one_silent_row cs (moved_silent column) there (moved_some column is) are in
      let rows : AreRowsOf cs (one.0 ∷ []) = subst (AreRowsOf cs) one.1 are in (
        one.0,
        one.1,
        λ x. All-head (λ (r : Row). (x : ℕ) → weight_at r.column x ≡ weight_of cs r.trace x) one.0 [] rows.weights x
            ∙ ap (λ t. weight_of cs t x) one.2 ∙ moved_weight column x,
      )

  -- the columns after each value is numbered anew
  pub moved_columns : (columns : Matrix) (rows : List (List Row)) → All IsColumn columns
      → AllZip (λ column there. AreRowsOf (carried_cells renumbers column) there) columns rows
      → Become f columns (map (λ (r : Row). r.column) (flat_map (λ there. there) rows))
  moved_columns [] [] are each = tt
  moved_columns [] (there ∷ rows) are each = absurd each
  moved_columns (c ∷ cs) [] are each = absurd each
  moved_columns (c ∷ cs) (there ∷ rows) are each =
      let one = moved_row c (All-head IsColumn c cs are) there each.0 in
      let rest = moved_columns cs rows (All-tail IsColumn c cs are) each.1 in
      subst (λ (rs : List Row). Become f (c ∷ cs) (map (λ (r : Row). r.column) (rs ++ flat_map (λ there. there) rows))) (sym one.1) (one.2, rest)

  -- ---- numbers that tell the values below a size apart

  module _ (size : ℕ) (one : (m n : ℕ) → m < size → n < size → f m ≡ f n → m ≡ n) where
    same_test : (m n : ℕ) → m < size → n < size → (f m == f n) ≡ (m == n)
    same_test m n low high =
        two_ways (f m == f n) (m == n) (λ h. eq-eqb m n (one m n low high (eqb-true (f m) (f n) h))) (λ h. eq-eqb (f m) (f n) (ap f (eqb-true m n h)))

    through_at : (column : List Entry) → IsBelow size column → (x : ℕ) → x < size → weight_through f column (f x) ≡ weight_at column x
    through_at [] below x low = refl
    through_at (e ∷ es) below x low =
        let test = same_test e.value x (All-head (λ (e : Entry). e.value < size) e es below) low in
        omega (
          arith,
          sum_by-cons (λ (e : Entry). if f e.value == f x then e.weight else 0) e es,
          weight_at-cons e es x,
          ap (λ b. if b then e.weight else 0) test,
          through_at es (All-tail (λ (e : Entry). e.value < size) e es below) x low,
        )

    none_beyond : (column : List Entry) → IsBelow size column → (x : ℕ) → size ≤ x → weight_at column x ≡ 0
    none_beyond [] below x high = refl
    none_beyond (e ∷ es) below x high =
        let low : e.value < size = All-head (λ (e : Entry). e.value < size) e es below in
        weight_at_other e es x (λ same. omega (arith, same, low, high)) ∙ none_beyond es (All-tail (λ (e : Entry). e.value < size) e es below) x high

    zeros_left : (a b c d : ℕ) → a ≡ 0 → d ≡ 0 → a * b ≡ c * d
    zeros_left a b c d p q = ap (λ n. n * b) p ∙ (omega arith ∙ sym (ap (λ n. c * n) q))

    zeros_right : (a b c d : ℕ) → b ≡ 0 → c ≡ 0 → a * b ≡ c * d
    zeros_right a b c d p q = ap (λ n. a * n) p ∙ (omega arith ∙ sym (ap (λ n. n * d) q))

    module _ (u v t s : List Entry) (low : IsBelow size u) (below : IsBelow size v) (first : (x : ℕ) → weight_at t x ≡ weight_through f u x)
        (second : (x : ℕ) → weight_at s x ≡ weight_through f v x) where
      apart_before : proportional t s ≡ true → proportional u v ≡ true
      apart_before test =
          all_proportional u v (λ x y.
          ⊎_elim
          (λ (in_x : x < size). ⊎_elim
          (λ (in_y : y < size).
          let ux = first (f x) ∙ through_at u low x in_x in
          let uy = first (f y) ∙ through_at u low y in_y in
          let vx = second (f x) ∙ through_at v below x in_x in
          let vy = second (f y) ∙ through_at v below y in_y in
          sym (λ i. ux i * vy i) ∙ proportional_all t s test (f x) (f y) ∙ (λ i. uy i * vx i))
          (λ (out_y : size ≤ y).
          zeros_right (weight_at u x) (weight_at v y) (weight_at u y) (weight_at v x) (none_beyond v below y out_y) (none_beyond u low y out_y))
          (cases_lt y size))
          (λ (out_x : size ≤ x).
          zeros_left (weight_at u x) (weight_at v y) (weight_at u y) (weight_at v x) (none_beyond u low x out_x) (none_beyond v below x out_x))
          (cases_lt x size))

      apart_after : proportional u v ≡ false → proportional t s ≡ false
      apart_after apart = false_from_ne_true (proportional t s) (λ h. true≢false (sym (apart_before h) ∙ apart))

    each_apart : (c t : List Entry) → IsBelow size c → ((x : ℕ) → weight_at t x ≡ weight_through f c x) → (cs ts : Matrix) → All (IsBelow size) cs → Become f cs ts
        → Each (λ d. proportional c d ≡ false) cs → Each (λ s. proportional t s ≡ false) ts
    each_apart c t low weight [] [] below become apart = tt
    each_apart c t low weight [] (s ∷ ts) below become apart = absurd become
    each_apart c t low weight (d ∷ cs) [] below become apart = absurd become
    each_apart c t low weight (d ∷ cs) (s ∷ ts) below become apart = (
      apart_after c d t s low (All-head (IsBelow size) d cs below) weight become.0 apart.0,
      each_apart c t low weight cs ts (All-tail (IsBelow size) d cs below) become.1 apart.1,
    )

    pub still_apart : (cs ts : Matrix) → All (IsBelow size) cs → Become f cs ts → IsDistinct proportional cs → IsDistinct proportional ts
    unfolding IsDistinct
    still_apart [] [] below become apart = tt
    still_apart [] (t ∷ ts) below become apart = absurd become
    still_apart (c ∷ cs) [] below become apart = absurd become
    still_apart (c ∷ cs) (t ∷ ts) below become apart = (
      each_apart c t (All-head (IsBelow size) c cs below) become.0 cs ts (All-tail (IsBelow size) c cs below) become.1 apart.0,
      still_apart cs ts (All-tail (IsBelow size) c cs below) become.1 apart.1,
    )

-- as many columns as before
pub become_long : (f : ℕ → ℕ) (cs ts : Matrix) → Become f cs ts → length ts ≡ length cs
become_long f [] [] become = refl
become_long f [] (t ∷ ts) become = absurd become
become_long f (c ∷ cs) [] become = absurd become
become_long f (c ∷ cs) (t ∷ ts) become = ap suc (become_long f cs ts become.1)
