-- The traced states of a program tell the weights of its runs.
use Rattle.std.proofs.Common.{◌≡◌, ℕ, ◌+◌, ◌*◌, ◌/◌, ◌<◌, ◌≤◌, Bool, true, false, cond, List, [], ◌∷◌, length, Result, Ok, Err, refl, sym, ap, ◌∙◌, arith}
use Rattle.std.specs.Prelude.{filter, sum_by, IsOk, ◌&&◌, ◌==◌}
use Rattle.std.specs.List.{All, AllByRecursion as Each, flat_map}
use Rattle.std.specs.Int.{◌∣◌}
use Rattle.std.specs.Cmp.Lexicographic.{pointwise}
use Rattle.std.proofs.Math.Nat.{mul-div_assoc, mul_comm}
use Rattle.std.proofs.lemmas.List.Elements.{All-from_recursion}
use Rattle.kf_value.specs.Values.{ValueTree, is_equal}
use Rattle.kf_value.proofs.ListLemmas.{each_weaker}
use Rattle.kf_core.specs.Checked.{IsChecked}
use Rattle.kf_core.specs.ChoiceLaws.{ChoicesAreShares}
use Rattle.kf_core.specs.Programs.{ProgramTree}
use Rattle.kf_core.specs.Sts.{sts}
use Rattle.kf_core.specs.Runs.{Run, Halted, chain, declared, all_runs, copied, program_runs}
use Rattle.kf_core.specs.Scale.{scale_of}
use Rattle.kf_core.specs.Joint.{Cell, cell_of, cells, target_number, weight_of}
use Rattle.kf_core.specs.Support.{program_pass}
use Rattle.kf_core.specs.SupportLaws.{ProgramAgrees, ScalesArePositive, CommonScaleIsLeast}
use Rattle.kf_core.proofs.Filled.{all_full, AllSolid}
use Rattle.kf_core.proofs.Measures.{Measure, Trace, end_value, run_value, RunsWithin, runs_value, ahead, Full}
use Rattle.kf_core.proofs.Solid.{all_solid, decls_solid}
use Rattle.kf_core.proofs.Sums.{adds, adds_flat, adds_same, adds_nothing, each_is, sum_is, sum_filtered}
use Rattle.kf_core.proofs.WeightKept.{all_weight}
use Rattle.kf_core.proofs.WholeJoint.{all_divide, from_keeps, within}
use Rattle.kf_core.specs.Each.{is_cell_at}
use Rattle.kf_traces.specs.Traced.{Weights, Traced, with_weight, copy_all, copied_traced, all_traced, declared_traced, program_traced}
use Rattle.kf_traces.specs.Laws.{sum_of, ends_at, run_weight, TracesJoin, TracesTell}
use Rattle.kf_traces.proofs.Measures.{Within, measure, grown}
use Rattle.kf_traces.proofs.Carrying.{StateWithin, StatesWithin, state_value, states_value, Carries, chain_carries, all_carry, decls_carry}
use Rattle.kf_traces.proofs.Ordering.{program_sorted}
use Rattle.kf_traces.proofs.Lasting.{Lasts, StatesFull, weight_full, chain_lasts, all_last, decls_last}

-- ---- carried copies

module _ (p : ProgramTree) where
  module _ (M : Trace → Measure) (t : Trace) (from : ℕ → List Run) where
    copy_brings : (to es : Weights) → Within (ahead M from t) to → Within (ahead M (λ n. from (copied p n)) t) es
        → Within (ahead M from t) (copy_all p to es)
        × (measure (ahead M from t) (copy_all p to es) ≡ measure (ahead M from t) to + measure (ahead M (λ n. from (copied p n)) t) es)
    copy_brings to [] within h = (within, omega arith)
    copy_brings to (e ∷ es) within h =
        let one = grown (ahead M from t) (copied p e.0) e.1 h.0 to within in
        let others = copy_brings (with_weight to (copied p e.0) e.1) es one.0 h.1 in
        (others.0, omega (arith, one.1, others.1))

  module _ (F : Traced → List Traced) (from : ℕ → List Run) where
    copy_carries : Carries F from → Carries (λ s. F (copied_traced p s)) (λ n. from (copied p n))
    copy_carries carries M s within =
        let h = copy_brings M s.trace from [] s.stores tt within in
        let r = carries M (copied_traced p s) h.0 in
        (r.0, r.1 ∙ omega (arith, h.1))

    copy_keeps_full : (to es : Weights) → Full to → Full (copy_all p to es)
    copy_keeps_full to [] h = h
    copy_keeps_full to (e ∷ es) h = copy_keeps_full (with_weight to (copied p e.0) e.1) es (weight_full to (copied p e.0) e.1)

    copy_full : (es : Weights) → Full es → Full (copy_all p [] es)
    copy_full [] h = absurd h
    copy_full (e ∷ es) h = copy_keeps_full (with_weight [] (copied p e.0) e.1) es (weight_full [] (copied p e.0) e.1)

    copy_lasts : Lasts F from → Lasts (λ s. F (copied_traced p s)) (λ n. from (copied p n))
    copy_lasts lasts M s full within = lasts M (copied_traced p s) (copy_full s.stores full) (copy_brings M s.trace from [] s.stores tt within).0

-- ---- whole programs

module _ (turns : ℕ) (p : ProgramTree) (checked : IsChecked p) where
  abbrev body_runs : ℕ → List Run
  body_runs n = all_runs p.types turns (sts p.body) (copied p n)

  abbrev body_states : Traced → List Traced
  body_states s = all_traced p.types turns (sts p.body) (copied_traced p s)

  abbrev runs_from : ℕ → List Run
  runs_from n = chain (declared p.types 0 p.decls n) body_runs

  abbrev states_from : Traced → List Traced
  states_from s = flat_map body_states (declared_traced p.types 0 p.decls s)

  sound : AllSolid p.types (sts p.body)
  sound = all_solid p.types _ checked.sound

  body_full : (n : ℕ) → Full (body_runs n)
  body_full n = all_full p.types turns (sts p.body) sound (copied p n)

  body_carries : Carries body_states body_runs
  body_carries = copy_carries p (all_traced p.types turns (sts p.body)) (all_runs p.types turns (sts p.body)) (all_carry p.types turns (sts p.body) sound)

  from_carries : Carries states_from runs_from
  from_carries = chain_carries (declared_traced p.types 0 p.decls) body_states (declared p.types 0 p.decls) body_runs body_full (decls_carry p.types 0 p.decls (decls_solid p checked)) body_carries

  from_lasts : Lasts states_from runs_from
  from_lasts =
      chain_lasts (declared_traced p.types 0 p.decls) body_states (declared p.types 0 p.decls) body_runs body_full
      (decls_carry p.types 0 p.decls (decls_solid p checked)) (decls_last p.types 0 p.decls (decls_solid p checked))
      (copy_lasts p (all_traced p.types turns (sts p.body)) (all_runs p.types turns (sts p.body)) (all_last p.types turns (sts p.body) sound))

-- ---- weight at one trace and one store

module _ (t : List ValueTree) (q : ℕ → Bool) where
  abbrev at_once : Bool → Bool → ℕ → ℕ
  at_once b c w = cond b (cond c w 0) 0

  at_linear : (b c : Bool) (v w : ℕ) → at_once b c (v + w) ≡ at_once b c v + at_once b c w
  at_linear true true v w = refl
  at_linear true false v w = omega arith
  at_linear false c v w = omega arith

  abbrev there : Trace → Measure
  there u = record {
    holds = λ m w. Unit {0};
    value = λ m w. at_once (pointwise is_equal u t) (q m) w;
    closed = λ m a b h k. tt;
    linear = λ m a b h k. at_linear (pointwise is_equal u t) (q m) a b;
  }

  state_there : (b : Bool) (es : Weights) → cond b (sum_of (filter (λ e. q e.0) es)) 0 ≡ adds (λ e. at_once b (q e.0) e.1) es
  state_there true es = sum_filtered (λ (e : ℕ × ℕ). e.1) (λ e. q e.0) es
  state_there false es = adds_nothing es

  states_there : (ss : List Traced) → sum_by (λ s. sum_of (filter (λ e. q e.0) s.stores)) (filter (λ s. pointwise is_equal s.trace t) ss) ≡ states_value there ss
  states_there ss =
      sum_filtered (λ (s : Traced). sum_of (filter (λ e. q e.0) s.stores)) (λ s. pointwise is_equal s.trace t) ss
      ∙ each_is (λ (s : Traced). cond (pointwise is_equal s.trace t) (sum_of (filter (λ e. q e.0) s.stores)) 0) (λ s. state_value there s) (λ s. state_there (pointwise is_equal s.trace t) s.stores) ss

  abbrev ends_so : Result ℕ Halted → Bool
  ends_so (Ok m) = q m
  ends_so (Err f) = false

  run_there : (u : Trace) (b : Bool) → pointwise is_equal u t ≡ b → (x : Result ℕ Halted) (v w : ℕ) → v ≡ w → cond (b && ends_so x) v 0 ≡ end_value (there u) x w
  run_there u true is (Ok m) v w e = ap (λ z. cond (q m) z 0) e ∙ ap (λ b. at_once b (q m) w) (sym is)
  run_there u false is (Ok m) v w e = ap (λ b. at_once b (q m) w) (sym is)
  run_there u true is (Err f) v w e = refl
  run_there u false is (Err f) v w e = refl

  run_share : (whole : ℕ) (r : Run) → r.scale ∣ whole → cond (pointwise is_equal r.trace t && ends_so r.end) (r.weight * whole / r.scale) 0 ≡ run_value there [] whole r
  run_share whole r divides =
      run_there r.trace (pointwise is_equal r.trace t) refl r.end (r.weight * whole / r.scale) (whole / r.scale * r.weight) (mul-div_assoc r.scale r.weight divides ∙ mul_comm r.weight (whole / r.scale))

  runs_there : (whole : ℕ) (rs : List Run) → Each (λ r. r.scale ∣ whole) rs
      → sum_by (λ r. r.weight * whole / r.scale) (filter (λ r. pointwise is_equal r.trace t && ends_so r.end) rs) ≡ runs_value there [] whole rs
  runs_there whole rs d =
      sum_filtered (λ (r : Run). r.weight * whole / r.scale) (λ r. pointwise is_equal r.trace t && ends_so r.end) rs
      ∙ adds_same (λ (r : Run). cond (pointwise is_equal r.trace t && ends_so r.end) (r.weight * whole / r.scale) 0) (λ r. run_value there [] whole r) rs
      (each_weaker (λ (r : Run). r.scale ∣ whole) (λ (r : Run). cond (pointwise is_equal r.trace t && ends_so r.end) (r.weight * whole / r.scale) 0 ≡ run_value there [] whole r)
      (λ r divides. run_share whole r divides) rs d)

-- at the store with this number
module _ (t : List ValueTree) (n : ℕ) where
  end_same : (x : Result ℕ Halted) → ends_at n x ≡ ends_so t (λ m. m == n) x
  end_same (Ok m) = refl
  end_same (Err f) = refl

  runs_at : (whole : ℕ) (rs : List Run) → Each (λ r. r.scale ∣ whole) rs → run_weight whole rs t n ≡ runs_value (there t (λ m. m == n)) [] whole rs
  runs_at whole rs d =
      sum_filtered (λ (r : Run). r.weight * whole / r.scale) (λ r. pointwise is_equal r.trace t && ends_at n r.end) rs
      ∙ each_is (λ (r : Run). cond (pointwise is_equal r.trace t && ends_at n r.end) (r.weight * whole / r.scale) 0) (λ r. cond (pointwise is_equal r.trace t && ends_so t (λ m. m == n) r.end) (r.weight * whole / r.scale) 0)
      (λ r. ap (λ b. cond (pointwise is_equal r.trace t && b) (r.weight * whole / r.scale) 0) (end_same r.end)) rs
      ∙ sym (sum_filtered (λ (r : Run). r.weight * whole / r.scale) (λ r. pointwise is_equal r.trace t && ends_so t (λ m. m == n) r.end) rs)
      ∙ runs_there t (λ m. m == n) whole rs d

-- ---- joint weight

module _ (number : ℕ → ℕ) (whole : ℕ) (t : List ValueTree) (x : ℕ) where
  abbrev of_value : ℕ → Bool
  of_value m = number m == x

  abbrev cell_weight : Cell → ℕ
  cell_weight c = cond (is_cell_at t x c) c.weight 0

  cells_share : (r : Run) (e : Result ℕ Halted) → r.end ≡ e → adds cell_weight (cell_of number whole r) ≡ cond (pointwise is_equal r.trace t && ends_so t of_value e) (r.weight * whole / r.scale) 0
  cells_share r (Ok n) is = rw is (omega arith)
  cells_share r (Err f) is = rw is (nothing (pointwise is_equal r.trace t))
    where
      nothing : (b : Bool) → 0 ≡ cond (b && false) (r.weight * whole / r.scale) 0
      nothing true = refl
      nothing false = refl

  cells_there : (rs : List Run) → Each (λ r. r.scale ∣ whole) rs → weight_of (cells number whole rs) t x ≡ runs_value (there t of_value) [] whole rs
  cells_there rs d =
      sum_filtered (λ (c : Cell). c.weight) (is_cell_at t x) (cells number whole rs)
      ∙ adds_flat cell_weight (cell_of number whole) rs
      ∙ adds_same (λ (r : Run). adds cell_weight (cell_of number whole r)) (λ r. run_value (there t of_value) [] whole r) rs
      (each_weaker (λ (r : Run). r.scale ∣ whole) (λ (r : Run). adds cell_weight (cell_of number whole r) ≡ run_value (there t of_value) [] whole r)
      (λ r divides. cells_share r r.end refl ∙ run_share t of_value whole r divides) rs d)

-- ---- positive weights

abbrev positive : Trace → Measure
positive t = record { holds = λ n w. 0 < w; value = λ n w. w; closed = λ n a b h k. omega (arith, h, k); linear = λ n a b h k. refl }

long : {X : Type 0} (xs : List X) → Full xs → 1 ≤ length xs
long [] h = absurd h
long (x ∷ xs) h = omega arith

-- ---- in the words of contracts

module _ (shares : ChoicesAreShares) (agrees : ProgramAgrees) (scales : ScalesArePositive) (least : CommonScaleIsLeast) where
  module _ (turns : ℕ) (p : ProgramTree) (checked : IsChecked p) (clear : IsOk (program_pass turns p)) where
    abbrev whole : ℕ
    whole = scale_of turns p

    abbrev rs : List Run
    rs = program_runs turns p

    abbrev ss : List Traced
    ss = program_traced turns whole p

    abbrev start : Traced
    start = record { trace = []; stores = (0, whole) ∷ [] }

    divide : Each (λ r. r.scale ∣ whole) rs
    divide = all_divide turns p scales least

    ends_within : (M : Trace → Measure) → ((t : Trace) (n w : ℕ) → 0 < w → (M t).holds n w) → RunsWithin M [] whole rs
    ends_within = within shares agrees scales least turns p clear

    brought : (M : Trace → Measure) → ((t : Trace) (n w : ℕ) → 0 < w → (M t).holds n w) → StatesWithin M ss × (states_value M ss ≡ runs_value M [] whole rs)
    brought M holds =
        let r = from_carries turns p checked M start (ends_within M holds, tt) in
        (r.0, omega (arith, r.1))

    lasting : StatesFull ss
    lasting = from_lasts turns p checked all_weight start tt (ends_within all_weight (λ u m w h. tt), tt)

  pub traces_tell : TracesTell
  traces_tell turns p checked clear =
      let T = whole turns p checked clear in
      let runs = rs turns p checked clear in
      let states = ss turns p checked clear in
      record {
        weighs = λ t n.
            let q : ℕ → Bool = λ m. m == n in
            let r = brought turns p checked clear (there t q) (λ u m w h. tt) in
            states_there t q states ∙ r.1 ∙ sym (runs_at t n T runs (divide turns p checked clear));
        ascending = program_sorted turns T p;
        some = All-from_recursion (λ (s : Traced). 1 ≤ length s.stores) states
            (each_weaker (λ (s : Traced). Full s.stores) (λ (s : Traced). 1 ≤ length s.stores) (λ s h. long s.stores h) states (lasting turns p checked clear));
        positive = All-from_recursion (λ (s : Traced). All (λ e. 0 < e.1) s.stores) states
            (each_weaker (λ (s : Traced). StateWithin positive s) (λ (s : Traced). All (λ e. 0 < e.1) s.stores) (λ s h. All-from_recursion (λ (e : ℕ × ℕ). 0 < e.1) s.stores h) states
            (brought turns p checked clear positive (λ u m w h. h)).0);
        sum =
            let r = brought turns p checked clear all_weight (λ u m w h. tt) in
            sum_is (λ (s : Traced). sum_of s.stores) states
            ∙ each_is (λ (s : Traced). sum_of s.stores) (λ s. state_value all_weight s) (λ s. sum_is (λ (e : ℕ × ℕ). e.1) s.stores) states
            ∙ r.1 ∙ from_keeps turns p checked [] 0 T (ends_within turns p checked clear all_weight (λ u m w h. tt));
      }

  pub traces_join : TracesJoin
  traces_join turns p checked clear t x =
      let number : ℕ → ℕ = target_number p in
      let q : ℕ → Bool = of_value number (scale_of turns p) t x in
      let r = brought turns p checked clear (there t q) (λ u m w h. tt) in
      states_there t q (program_traced turns (scale_of turns p) p) ∙ r.1 ∙ sym (cells_there number (scale_of turns p) t x (program_runs turns p) (divide turns p checked clear))
