-- What cells weigh by a test on trace and value, and what a column's cells weigh when each store goes along its runs.
use Rattle.std.proofs.Common.{◌≡◌, ℕ, ◌+◌, ◌*◌, ◌/◌, ◌<◌, ◌==◌, ◌&&◌, Bool, true, false, cond, List, [], ◌∷◌, map, Result, Ok, Err, refl, sym, ap, ◌∙◌, arith}
use Rattle.std.specs.Cmp.Lexicographic.{pointwise}
use Rattle.std.specs.Int.{◌∣◌}
use Rattle.std.specs.List.{AllByRecursion as Each}
use Rattle.std.proofs.Math.Nat.{mul-div_assoc, dvd-mul_left, mul-zero}
use Rattle.std.proofs.lemmas.Nat.Gcd.{dvd_trans}
use Rattle.kf_value.specs.Values.{ValueTree, is_equal}
use Rattle.kf_column.specs.declared.entry.Entry.{Entry}
use Rattle.kf_column.specs.Averages.{scaled}
use Rattle.kf_core.specs.Joint.{Cell, cell_of, cells, weight_of, trace_weight}
use Rattle.kf_core.specs.Ready.{carried_cells}
use Rattle.kf_core.specs.Runs.{Run, Halted}
use Rattle.kf_core.proofs.Sums.{adds, adds_flat, adds_joined, adds_both, each_is, sum_filtered, divides_sum}
use Rattle.kf_core.specs.Each.{is_cell_at}

abbrev pub Trace : Type 0
Trace = List ValueTree

-- which traces and values count
abbrev pub Test : Type 0
Test = Trace → ℕ → Bool

abbrev pub weighs : Test → Cell → ℕ
weighs p c = cond (p c.trace c.value) c.weight 0

-- the weight of the cells that count
abbrev pub weight_by : Test → List Cell → ℕ
weight_by p cs = adds (weighs p) cs

abbrev pub at_both : Trace → ℕ → Test
at_both t x = λ u y. pointwise is_equal u t && (y == x)

abbrev pub at_trace : Trace → Test
at_trace t = λ u y. pointwise is_equal u t

pub weight_is : (cs : List Cell) (t : Trace) (x : ℕ) → weight_of cs t x ≡ weight_by (at_both t x) cs
weight_is cs t x = sum_filtered (λ (c : Cell). c.weight) (is_cell_at t x) cs

pub trace_weight_is : (cs : List Cell) (t : Trace) → trace_weight cs t ≡ weight_by (at_trace t) cs
trace_weight_is cs t = sum_filtered (λ (c : Cell). c.weight) (λ c. pointwise is_equal c.trace t) cs

-- ---- the cells of a run

-- by how it ends
abbrev pub run_cells : ℕ → Run → Result ℕ Halted → List Cell
run_cells w r (Ok n) = record { trace = r.trace; value = n; weight = r.weight * w / r.scale } ∷ []
run_cells w r (Err f) = []

abbrev with_end : Run → Result ℕ Halted → Run
with_end r x = record { trace = r.trace; end = x; weight = r.weight; scale = r.scale }

by_end : (w : ℕ) (r : Run) (x : Result ℕ Halted) → cell_of (λ n. n) w (with_end r x) ≡ run_cells w r x
by_end w r (Ok n) = refl
by_end w r (Err f) = refl

pub cells_of_run : (w : ℕ) (r : Run) → cell_of (λ n. n) w r ≡ run_cells w r r.end
cells_of_run w r = by_end w r r.end

module _ (p : Test) where
  pub cells_weigh : (w : ℕ) (rs : List Run) → weight_by p (cells (λ n. n) w rs) ≡ adds (λ r. weight_by p (run_cells w r r.end)) rs
  cells_weigh w rs =
      adds_flat (weighs p) (cell_of (λ n. n) w) rs
      ∙ each_is (λ r. weight_by p (cell_of (λ n. n) w r)) (λ r. weight_by p (run_cells w r r.end)) (λ r. ap (weight_by p) (cells_of_run w r)) rs

  pub carried_weigh : (from : ℕ → List Run) (column : List Entry)
      → weight_by p (carried_cells from column) ≡ adds (λ e. weight_by p (cells (λ n. n) e.weight (from e.value))) column
  carried_weigh from column = adds_flat (weighs p) (λ e. cells (λ n. n) e.weight (from e.value)) column

-- ---- multiples

module _ {X : Type 0} (b : ℕ) (f g : X → ℕ) where
  pub adds_times : (xs : List X) → Each (λ x. f x ≡ b * g x) xs → adds f xs ≡ b * adds g xs
  adds_times [] h = sym (mul-zero b)
  adds_times (x ∷ xs) h = omega (arith, h.0, adds_times xs h.1)

pub share_times : (s u b w : ℕ) → s ∣ w → u * (b * w) / s ≡ b * (u * w / s)
share_times s u b w d =
    let turned : u * (b * w) ≡ b * (u * w) = omega arith in
    ap (λ n. n / s) turned ∙ mul-div_assoc s b (dvd_trans s d (dvd-mul_left w u))

pub share_plus : (s u a b : ℕ) → 0 < s → s ∣ a → s ∣ b → u * (a + b) / s ≡ u * a / s + u * b / s
share_plus s u a b some da db =
    let split : u * (a + b) ≡ u * a + u * b = omega arith in
    ap (λ n. n / s) split ∙ divides_sum s (u * a) (u * b) some (dvd_trans s da (dvd-mul_left a u)) (dvd_trans s db (dvd-mul_left b u))

cond_times : (c : Bool) (b n m : ℕ) → n ≡ b * m → cond c n 0 + 0 ≡ b * (cond c m 0 + 0)
cond_times true b n m h = omega (arith, h)
cond_times false b n m h = omega arith

cond_plus : (c : Bool) (n m k : ℕ) → n ≡ m + k → cond c n 0 + 0 ≡ (cond c m 0 + 0) + (cond c k 0 + 0)
cond_plus true n m k h = omega (arith, h)
cond_plus false n m k h = omega arith

module _ (p : Test) (b : ℕ) where
  run_times : (w : ℕ) (r : Run) (x : Result ℕ Halted) → r.scale ∣ w → weight_by p (run_cells (b * w) r x) ≡ b * weight_by p (run_cells w r x)
  run_times w r (Ok n) d = cond_times (p r.trace n) b (r.weight * (b * w) / r.scale) (r.weight * w / r.scale) (share_times r.scale r.weight b w d)
  run_times w r (Err f) d = sym (mul-zero b)

  runs_times : (w : ℕ) (rs : List Run) → Each (λ r. r.scale ∣ w) rs
      → Each (λ r. weight_by p (run_cells (b * w) r r.end) ≡ b * weight_by p (run_cells w r r.end)) rs
  runs_times w [] d = tt
  runs_times w (r ∷ rs) d = (run_times w r r.end d.0, runs_times w rs d.1)

  pub cells_times : (w : ℕ) (rs : List Run) → Each (λ r. r.scale ∣ w) rs → weight_by p (cells (λ n. n) (b * w) rs) ≡ b * weight_by p (cells (λ n. n) w rs)
  cells_times w rs d =
      cells_weigh p (b * w) rs
      ∙ adds_times b (λ r. weight_by p (run_cells (b * w) r r.end)) (λ r. weight_by p (run_cells w r r.end)) rs (runs_times w rs d)
      ∙ ap (λ n. b * n) (sym (cells_weigh p w rs))

  module _ (from : ℕ → List Run) where
    pub carried_times : (column : List Entry) → Each (λ e. Each (λ r. r.scale ∣ e.weight) (from e.value)) column
        → weight_by p (carried_cells from (map (scaled b) column)) ≡ b * weight_by p (carried_cells from column)
    carried_times [] d = sym (mul-zero b)
    carried_times (e ∷ es) d =
        let one = cells_times e.weight (from e.value) d.0 in
        let others = carried_times es d.1 in
        let left = adds_joined (weighs p) (cells (λ n. n) (b * e.weight) (from e.value)) (carried_cells from (map (scaled b) es)) in
        let right = adds_joined (weighs p) (cells (λ n. n) e.weight (from e.value)) (carried_cells from es) in
        left ∙ ((λ i. one i + others i) ∙ omega arith) ∙ ap (λ n. b * n) (sym right)

-- ---- sums

module _ (p : Test) (a b : ℕ) where
  run_plus : (r : Run) (x : Result ℕ Halted) → 0 < r.scale → r.scale ∣ a → r.scale ∣ b
      → weight_by p (run_cells (a + b) r x) ≡ weight_by p (run_cells a r x) + weight_by p (run_cells b r x)
  run_plus r (Ok n) some da db = cond_plus (p r.trace n) (r.weight * (a + b) / r.scale) (r.weight * a / r.scale) (r.weight * b / r.scale)
      (share_plus r.scale r.weight a b some da db)
  run_plus r (Err f) some da db = refl

  runs_plus : (rs : List Run) → Each (λ r. (0 < r.scale) × (r.scale ∣ a)) rs → Each (λ r. (0 < r.scale) × (r.scale ∣ b)) rs
      → Each (λ r. weight_by p (run_cells (a + b) r r.end) ≡ weight_by p (run_cells a r r.end) + weight_by p (run_cells b r r.end)) rs
  runs_plus [] h k = tt
  runs_plus (r ∷ rs) h k = (run_plus r r.end h.0.0 h.0.1 k.0.1, runs_plus rs h.1 k.1)

  pub cells_plus : (rs : List Run) → Each (λ r. (0 < r.scale) × (r.scale ∣ a)) rs → Each (λ r. (0 < r.scale) × (r.scale ∣ b)) rs
      → weight_by p (cells (λ n. n) (a + b) rs) ≡ weight_by p (cells (λ n. n) a rs) + weight_by p (cells (λ n. n) b rs)
  cells_plus rs h k =
      cells_weigh p (a + b) rs
      ∙ adds_both (λ r. weight_by p (run_cells a r r.end)) (λ r. weight_by p (run_cells b r r.end)) (λ r. weight_by p (run_cells (a + b) r r.end)) rs
      (runs_plus rs h k)
      ∙ (λ i. sym (cells_weigh p a rs) i + sym (cells_weigh p b rs) i)
