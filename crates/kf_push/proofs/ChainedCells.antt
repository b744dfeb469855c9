-- The cells of runs that go on: each cell of the first runs goes on along the second.
use Rattle.std.proofs.Common.{◌≡◌, ℕ, ◌+◌, ◌*◌, ◌/◌, ◌<◌, cond, List, [], ◌∷◌, ◌++◌, map, Result, Ok, Err, refl, sym, ap, subst, ◌∙◌, arith}
use Rattle.std.specs.Int.{◌∣◌}
use Rattle.std.specs.List.{AllByRecursion as Each}
use Rattle.std.proofs.Math.Nat.{mul_comm, mul-div_assoc, dvd-mul_right}
use Rattle.std.proofs.lemmas.Nat.Gcd.{dvd_trans}
use Rattle.kf_value.proofs.ListLemmas.{each_append}
use Rattle.kf_column.specs.declared.entry.Entry.{Entry}
use Rattle.kf_core.specs.Joint.{Cell, cell_of, cells}
use Rattle.kf_core.specs.Ready.{carried_cells}
use Rattle.kf_core.specs.Runs.{Run, Halted, chain, joined}
use Rattle.kf_core.proofs.Measures.{each_left, each_right}
use Rattle.kf_core.proofs.Sums.{adds, adds_joined, share_divides, share_of_share, first_positive, second_positive}
use Rattle.kf_core.specs.Each.{onward}
use Rattle.kf_push.specs.Following.{Takes}
use Rattle.kf_push.proofs.CellWeights.{Trace, Test, weighs, weight_by, run_cells, cells_of_run, cells_weigh}

-- a test on what comes behind a trace
abbrev pub behind_trace : Trace → Test → Test
behind_trace t p = λ u x. p (t ++ u) x

-- ---- one share after the other

module _ (a b u w : ℕ) (some : 0 < a) (d : a * b ∣ w) where
  own_divides : a ∣ w
  own_divides = dvd_trans a (dvd-mul_right a b) d

  turned : w / a * u ≡ u * w / a
  turned = mul_comm (w / a) u ∙ sym (mul-div_assoc a u own_divides)

  pub share_goes : b ∣ u * w / a
  share_goes = subst (λ n. b ∣ n) turned (share_divides w a b u some d)

  pub share_chain : (v : ℕ) → u * v * w / (a * b) ≡ v * (u * w / a) / b
  share_chain v =
      mul-div_assoc (a * b) (u * v) d ∙ mul_comm (u * v) (w / (a * b)) ∙ share_of_share w a b u some d v
      ∙ ap (λ n. n / b * v) turned ∙ mul_comm (u * w / a / b) v ∙ sym (mul-div_assoc b v share_goes)

-- the scale is above 0 and divides the weight
abbrev pub Shares : ℕ → Run → Type 0
Shares w r = (0 < r.scale) × (r.scale ∣ w)

pub shares_on : (w : ℕ) (r q : Run) → Shares w (joined r q) → Shares (r.weight * w / r.scale) q
shares_on w r q h = (second_positive r.scale q.scale h.0, share_goes r.scale q.scale r.weight w (first_positive r.scale q.scale h.0) h.1)

pub takes_on : (w : ℕ) (r q : Run) → Takes w (joined r q) → Takes (r.weight * w / r.scale) q
takes_on w r q h =
    let on = shares_on w r q (h.positive, h.divides) in
    record { positive = on.0; divides = on.1; ends = h.ends }

-- ---- what holds of all that goes on

module _ (K : ℕ → Run → Type 0) (goes_on : (w : ℕ) (r q : Run) → K w (joined r q) → K (r.weight * w / r.scale) q) (next : ℕ → List Run) where
  -- of each run from where the cell is
  abbrev pub HoldsOn : Cell → Type 0
  HoldsOn d = Each (K d.weight) (next d.value)

  joined_hold : (w : ℕ) (r : Run) (qs : List Run) → Each (K w) (map (joined r) qs) → Each (K (r.weight * w / r.scale)) qs
  joined_hold w r [] h = tt
  joined_hold w r (q ∷ qs) h = (goes_on w r q h.0, joined_hold w r qs h.1)

  run_holds : (w : ℕ) (r : Run) (x : Result ℕ Halted) → Each (K w) (onward next r x) → Each HoldsOn (run_cells w r x)
  run_holds w r (Ok n) h = (joined_hold w r (next n) h, tt)
  run_holds w r (Err f) h = tt

  runs_hold : (w : ℕ) (rs : List Run) → Each (K w) (chain rs next) → Each HoldsOn (cells (λ n. n) w rs)
  runs_hold w [] h = tt
  runs_hold w (r ∷ rs) h =
      let first = each_left (K w) (onward next r r.end) (chain rs next) h in
      let others = each_right (K w) (onward next r r.end) (chain rs next) h in
      each_append HoldsOn (cell_of (λ n. n) w r) (cells (λ n. n) w rs) (subst (Each HoldsOn) (sym (cells_of_run w r)) (run_holds w r r.end first))
      (runs_hold w rs others)

  pub cells_hold : (from : ℕ → List Run) (column : List Entry) → Each (λ e. Each (K e.weight) (chain (from e.value) next)) column
      → Each HoldsOn (carried_cells from column)
  cells_hold from [] h = tt
  cells_hold from (e ∷ es) h = each_append HoldsOn (cells (λ n. n) e.weight (from e.value)) (carried_cells from es) (runs_hold e.weight (from e.value) h.0)
      (cells_hold from es h.1)

-- ---- what cells weigh that go on

module _ (next : ℕ → List Run) (p : Test) where
  -- what a cell brings along the second runs
  abbrev pub brings_on : Cell → ℕ
  brings_on d = weight_by (behind_trace d.trace p) (cells (λ n. n) d.weight (next d.value))

  module _ (w : ℕ) (r : Run) where
    joined_weighs : (q : Run) (x : Result ℕ Halted) → Shares w (joined r q)
        → weight_by p (run_cells w (joined r q) x) ≡ weight_by (behind_trace r.trace p) (run_cells (r.weight * w / r.scale) q x)
    joined_weighs q (Ok n) h =
        ap (λ k. cond (p (r.trace ++ q.trace) n) k 0 + 0) (share_chain r.scale q.scale r.weight w (first_positive r.scale q.scale h.0) h.1 q.weight)
    joined_weighs q (Err f) h = refl

    all_joined : (qs : List Run) → Each (Shares w) (map (joined r) qs)
        → adds (λ q. weight_by p (run_cells w q q.end)) (map (joined r) qs)
        ≡ adds (λ q. weight_by (behind_trace r.trace p) (run_cells (r.weight * w / r.scale) q q.end)) qs
    all_joined [] h = refl
    all_joined (q ∷ qs) h = let one = joined_weighs q q.end h.0 in let others = all_joined qs h.1 in λ i. one i + others i

    onward_weighs : (x : Result ℕ Halted) → r.end ≡ x → Each (Shares w) (onward next r x)
        → adds (λ q. weight_by p (run_cells w q q.end)) (onward next r x) ≡ adds brings_on (run_cells w r x)
    onward_weighs (Ok n) is h =
        all_joined (next n) h ∙ sym (cells_weigh (behind_trace r.trace p) (r.weight * w / r.scale) (next n)) ∙ omega arith
    onward_weighs (Err f) is h = ap (λ x. weight_by p (run_cells w r x) + 0) is

  chain_weighs : (w : ℕ) (rs : List Run) → Each (Shares w) (chain rs next)
      → adds (λ q. weight_by p (run_cells w q q.end)) (chain rs next) ≡ adds brings_on (cells (λ n. n) w rs)
  chain_weighs w [] h = refl
  chain_weighs w (r ∷ rs) h =
      let first = each_left (Shares w) (onward next r r.end) (chain rs next) h in
      let others = each_right (Shares w) (onward next r r.end) (chain rs next) h in
      let one = onward_weighs w r r.end refl first ∙ ap (adds brings_on) (sym (cells_of_run w r)) in
      let rest = chain_weighs w rs others in
      adds_joined (λ q. weight_by p (run_cells w q q.end)) (onward next r r.end) (chain rs next) ∙ (λ i. one i + rest i)
      ∙ sym (adds_joined brings_on (cell_of (λ n. n) w r) (cells (λ n. n) w rs))

  pub carried_chain : (from : ℕ → List Run) (column : List Entry) → Each (λ e. Each (Shares e.weight) (chain (from e.value) next)) column
      → weight_by p (carried_cells (λ n. chain (from n) next) column) ≡ adds brings_on (carried_cells from column)
  carried_chain from [] h = refl
  carried_chain from (e ∷ es) h =
      let one = cells_weigh p e.weight (chain (from e.value) next) ∙ chain_weighs e.weight (from e.value) h.0 in
      let rest = carried_chain from es h.1 in
      adds_joined (weighs p) (cells (λ n. n) e.weight (chain (from e.value) next)) (carried_cells (λ n. chain (from n) next) es) ∙ (λ i. one i + rest i)
      ∙ sym (adds_joined brings_on (cells (λ n. n) e.weight (from e.value)) (carried_cells from es))
