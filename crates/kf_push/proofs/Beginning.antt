-- Runs that leak nothing and carry some weight: what stands behind them is one row, without a trace.
use Rattle.std.proofs.Common.{◌≡◌, ℕ, suc, zero, ◌+◌, ◌*◌, ◌/◌, ◌<◌, List, [], ◌∷◌, ◌++◌, cond, Result, Ok, Err, refl, sym, ap, ◌∙◌, arith}
use Rattle.std.specs.Prelude.{IsOk, sum_by}
use Rattle.std.specs.Cmp.Lexicographic.{pointwise}
use Rattle.std.specs.List.{AllByRecursion as Each}
use Rattle.std.specs.Int.{◌∣◌}
use Rattle.std.specs.List.Sorted.{IsStrictlySortedBy}
use Rattle.std.specs.declared.cmp.Ordering.TheVariants.{Less}
use Rattle.std.proofs.Math.Nat.{mul-div_assoc, mul_comm, zero-div, zero-mul}
use Rattle.kf_value.specs.Values.{ValueTree, is_equal}
use Rattle.kf_value.proofs.ListLemmas.{each_flat_map, each_weaker}
use Rattle.kf_column.specs.Traces.{Row, trace_order}
use Rattle.kf_core.specs.Joint.{Cell, cell_of, cells}
use Rattle.kf_core.specs.Rows.{AreRowsOf}
use Rattle.kf_core.specs.Runs.{Run, Halted}
use Rattle.kf_core.proofs.Measures.{Measure, Trace, Ends, RunsWithin, ahead, end_value, runs_value, Full}
use Rattle.kf_core.proofs.Sums.{adds, adds_joined, sum_filtered, sum_is}
use Rattle.kf_core.proofs.WeightKept.{Keeps, all_weight}
use Rattle.kf_core.specs.Each.{HasTrace}
use Rattle.kf_push.specs.Following.{Takes}
use Rattle.kf_push.proofs.Declaring.{Silent}

-- ---- weight that is carried

-- there is some weight
abbrev pub some_weight : Trace → Measure
some_weight t = record { holds = λ n w. 0 < w; value = λ n w. w; closed = λ n a b h k. omega (arith, h, k); linear = λ n a b h k. refl }

module _ (M : Trace → Measure) (t : Trace) where
  ends_well : (u : Trace) (x : Result ℕ Halted) (w : ℕ) → Ends (M u) x w → IsOk x
  ends_well u (Ok n) w h = refl
  ends_well u (Err f) w h = absurd h

  -- what runs carry they take
  pub takes : (w : ℕ) (rs : List Run) → RunsWithin M t w rs → Each (Takes w) rs
  takes w [] h = tt
  takes w (r ∷ rs) h = (record { positive = h.0.0; divides = h.0.1; ends = ends_well _ r.end (w / r.scale * r.weight) h.0.2 }, takes w rs h.1)

none_carried : (k u : ℕ) → 0 < 0 / k * u → ⊥
none_carried k u h = omega (arith, h, ap (λ n. n * u) (zero-div k) ∙ zero-mul u)

weight_of_end : (t : Trace) (x : Result ℕ Halted) (w : ℕ) → Ends (some_weight t) x w → 0 < w
weight_of_end t (Ok n) w h = h
weight_of_end t (Err f) w h = absurd h

-- no run carries nothing
carried_some : (t : Trace) (w : ℕ) (rs : List Run) → Full rs → RunsWithin some_weight t w rs → 0 < w
carried_some t w [] full h = absurd full
carried_some t zero (r ∷ rs) full h = absurd (none_carried r.scale r.weight (weight_of_end (t ++ r.trace) r.end (0 / r.scale * r.weight) h.0.2))
carried_some t (suc w) (r ∷ rs) full h = omega arith

module _ (next : ℕ → List Run) (full : (n : ℕ) → Full (next n)) where
  end_before : (t : Trace) (x : Result ℕ Halted) (w : ℕ) → Ends (ahead some_weight next t) x w → Ends (some_weight t) x w
  end_before t (Ok n) w h = carried_some t w (next n) (full n) h
  end_before t (Err f) w h = absurd h

  -- what is carried on has been carried
  pub carried_before : (t : Trace) (w : ℕ) (rs : List Run) → RunsWithin (ahead some_weight next) t w rs → RunsWithin some_weight t w rs
  carried_before t w [] h = tt
  carried_before t w (r ∷ rs) h = ((h.0.0, h.0.1, end_before (t ++ r.trace) r.end (w / r.scale * r.weight) h.0.2), carried_before t w rs h.1)

-- ---- what cells weigh

weigh_ends : (t : Trace) (x : Result ℕ Halted) (w : ℕ) → Ends (some_weight t) x w → Ends (all_weight t) x w
weigh_ends t (Ok n) w h = tt
weigh_ends t (Err f) w h = absurd h

weigh : (t : Trace) (w : ℕ) (rs : List Run) → RunsWithin some_weight t w rs → RunsWithin all_weight t w rs
weigh t w [] h = tt
weigh t w (r ∷ rs) h = ((h.0.0, h.0.1, weigh_ends (t ++ r.trace) r.end (w / r.scale * r.weight) h.0.2), weigh t w rs h.1)

module _ (number : ℕ → ℕ) (whole : ℕ) where
  cell_weighs : (r : Run) (x : Result ℕ Halted) → r.end ≡ x → r.scale ∣ whole
      → adds (λ (c : Cell). c.weight) (cell_of number whole r) ≡ end_value (all_weight r.trace) x (whole / r.scale * r.weight)
  cell_weighs r (Ok n) is d =
      let share : r.weight * whole / r.scale ≡ whole / r.scale * r.weight = mul-div_assoc r.scale r.weight d ∙ mul_comm r.weight (whole / r.scale) in
      rw is (omega (arith, share))
  cell_weighs r (Err f) is d = rw is refl

  cells_weigh : (rs : List Run) → RunsWithin some_weight [] whole rs → adds (λ (c : Cell). c.weight) (cells number whole rs) ≡ runs_value all_weight [] whole rs
  cells_weigh [] h = refl
  cells_weigh (r ∷ rs) h =
      adds_joined (λ (c : Cell). c.weight) (cell_of number whole r) (cells number whole rs)
      ∙ (let head = cell_weighs r r.end refl h.0.1 in let rest = cells_weigh rs h.1 in λ i. head i + rest i)

-- the cells of runs that lose no weight weigh the whole
pub cells_keep : (whole : ℕ) (from : ℕ → List Run) → Keeps from → RunsWithin some_weight [] whole (from 0)
    → sum_by (λ (c : Cell). c.weight) (cells (λ n. n) whole (from 0)) ≡ whole
cells_keep whole from keeps h =
    sum_is (λ (c : Cell). c.weight) (cells (λ n. n) whole (from 0)) ∙ (cells_weigh (λ n. n) whole (from 0) h ∙ keeps [] 0 whole (weigh [] whole (from 0) h))

-- ---- cells without a trace

abbrev pub SilentCells : List Cell → Type 0
SilentCells cs = Each (λ c. c.trace ≡ []) cs

module _ (number : ℕ → ℕ) (whole : ℕ) where
  one_silent : (r : Run) (x : Result ℕ Halted) → r.end ≡ x → r.trace ≡ [] → SilentCells (cell_of number whole r)
  one_silent r (Ok n) is quiet = rw is (quiet, tt)
  one_silent r (Err f) is quiet = rw is tt

  pub cells_silent : (rs : List Run) → Silent rs → SilentCells (cells number whole rs)
  cells_silent rs h =
      each_flat_map (λ c. c.trace ≡ []) (cell_of number whole) rs
      (each_weaker (λ r. r.trace ≡ []) (λ r. SilentCells (cell_of number whole r)) (λ r q. one_silent r r.end refl q) rs h)

  abbrev silent_total : List Cell → ℕ
  silent_total cs = adds (λ c. cond (pointwise is_equal c.trace []) c.weight 0) cs

  first_some : (r : Run) (x : Result ℕ Halted) (cs : List Cell) → r.end ≡ x → r.trace ≡ [] → Ends (some_weight ([] ++ r.trace)) x (whole / r.scale * r.weight)
      → r.scale ∣ whole → 0 < silent_total (cell_of number whole r ++ cs)
  first_some r (Ok n) cs is quiet h d =
      let share : r.weight * whole / r.scale ≡ whole / r.scale * r.weight = mul-div_assoc r.scale r.weight d ∙ mul_comm r.weight (whole / r.scale) in
      let head : cond (pointwise is_equal r.trace []) (r.weight * whole / r.scale) 0 ≡ r.weight * whole / r.scale =
      ap (λ t. cond (pointwise is_equal t []) (r.weight * whole / r.scale) 0) quiet in
      rw is (omega (arith, share, head, h))
  first_some r (Err f) cs is quiet h d = absurd h

  cells_some : (rs : List Run) → Full rs → Silent rs → RunsWithin some_weight [] whole rs → 0 < silent_total (cells number whole rs)
  cells_some [] full quiet h = absurd full
  cells_some (r ∷ rs) full quiet h = first_some r r.end (cells number whole rs) refl quiet.0 h.0.2 h.0.1

  -- some weight lies on no trace
  pub has_silent : (rs : List Run) → Full rs → Silent rs → RunsWithin some_weight [] whole rs → HasTrace (cells number whole rs) []
  has_silent rs full quiet h =
      omega (arith, sum_filtered (λ (c : Cell). c.weight) (λ c. pointwise is_equal c.trace []) (cells number whole rs), cells_some rs full quiet h)

module _ (cs : List Cell) (quiet : SilentCells cs) where
  none_there : (v : ValueTree) (us : List ValueTree) (ds : List Cell) → SilentCells ds
      → adds (λ c. cond (pointwise is_equal c.trace (v ∷ us)) c.weight 0) ds ≡ 0
  none_there v us [] h = refl
  none_there v us (d ∷ ds) h =
      let head : cond (pointwise is_equal d.trace (v ∷ us)) d.weight 0 ≡ 0 = ap (λ t. cond (pointwise is_equal t (v ∷ us)) d.weight 0) h.0 in
      omega (arith, head, none_there v us ds h.1)

  pub only_silent : (t : List ValueTree) → HasTrace cs t → t ≡ []
  only_silent [] h = refl
  only_silent (v ∷ us) h =
      absurd (omega (arith, h, sum_filtered (λ (c : Cell). c.weight) (λ c. pointwise is_equal c.trace (v ∷ us)) cs, none_there v us cs quiet))

  both_silent : (t u : List ValueTree) → t ≡ [] → u ≡ [] → trace_order t u ≡ Less → ⊥
  both_silent t u p q less = let known : trace_order [] [] ≡ Less = (λ i. trace_order (sym p i) (sym q i)) ∙ less in (cc)

  -- so there is one row, and it has no trace
  pub one_silent_row : (rows : List Row) → HasTrace cs [] → AreRowsOf cs rows → (row : Row) × (rows ≡ row ∷ []) × (row.trace ≡ [])
  unfolding IsStrictlySortedBy
  one_silent_row [] has are = let here = (are.all []).1 has in absurd (omega (arith, here.1))
  one_silent_row (r ∷ []) has are = (r, refl, only_silent r.trace ((are.all r.trace).0 (0, omega arith, refl)))
  one_silent_row (r ∷ s ∷ rows) has are =
      absurd (both_silent r.trace s.trace (only_silent r.trace ((are.all r.trace).0 (0, omega arith, refl)))
      (only_silent s.trace ((are.all s.trace).0 (1, omega arith, refl))) are.ascending.0.0)
