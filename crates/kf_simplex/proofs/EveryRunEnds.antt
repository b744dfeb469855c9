-- Every run ends: where no cause to end applies there is a next tableau, and pivots are spent.
use Rattle.std.proofs.Common.{◌≡◌, ◌≢◌, ℕ, zero, suc, ◌+◌, ◌<◌, ◌≤◌, refl, sym, ◌∙◌, arith, ◌⊎◌, ⊎_elim, inl, inr, List, [], Option, None, Some, length, set, length-set, get_or}
use Rattle.std.proofs.Math.IntN.{ℤ, ◌-ℤ◌, ◌*ℤ◌}
use Rattle.kf_simplex.specs.Systems.{LinearSystem, IsSystem, right_column}
use Rattle.kf_simplex.specs.Base.{total, at}
use Rattle.kf_simplex.specs.Tableaus.{Tableau}
use Rattle.kf_simplex.specs.Runs.{Cause, Ends, GoesOn, EndsAt}
use Rattle.kf_simplex.specs.Laws.{EveryRunEnds}
use Rattle.kf_simplex.specs.Cells.{IsCrossed, IsEntering, IsLeaving}
use Rattle.kf_simplex.specs.Flat.{width, tableau_of}
use Rattle.kf_simplex.specs.Turns.{InRun}
use Rattle.kf_simplex.proofs.Deciding.{entering_found, leaving_found, first_cause}
use Rattle.kf_simplex.proofs.Filled.{filled, length-filled, get_or-filled, reduced_row}
use Rattle.kf_simplex.proofs.FirstTableau.{first_tableau}
use Rattle.kf_simplex.proofs.FlatRows.{reduced_along}
use Rattle.kf_simplex.proofs.FlatTurns.{leaves_of, enters_of, in_run_more, never}
use Rattle.kf_simplex.proofs.RunFacts.{run_facts}
use Rattle.kf_simplex.proofs.Sums.{choose, choose-same, choose-other}

-- a table that stands in a run, after so many pivots
pub record Stands (s : LinearSystem) (limit made : ℕ) : Type 0 where
  pub cells : ℕ → ℕ → ℤ
  pub basis : List ℕ
  pub in_run : InRun s limit made cells basis
  pub basis_len : length basis ≡ s.equations

-- ---- the first tableau

abbrev first_cells : LinearSystem → ℕ → ℕ → ℤ
first_cells s i x = choose i s.equations (total s.equations (λ k. s.number k x)) (s.number i x)

first_basis : LinearSystem → List ℕ
first_basis s = filled (λ k. s.unknowns + k) s.equations

first : (s : LinearSystem) (limit : ℕ) → IsSystem s → Stands s limit 0
unfolding first_basis
first s limit y =
    let rows : (i c : ℕ) → i < s.equations → c ≤ right_column s → first_cells s i c ≡ s.number i c =
    λ i c l m. choose-other i s.equations (total s.equations (λ k. s.number k c)) (s.number i c) (omega arith) in
    let objective : (c : ℕ) → c ≤ right_column s → first_cells s s.equations c ≡ total s.equations (λ k. s.number k c) =
    λ c m. choose-same s.equations (total s.equations (λ k. s.number k c)) (s.number s.equations c) in
    let basic : (k : ℕ) → k < s.equations → get_or (first_basis s) k 0 ≡ s.unknowns + k = λ k l. get_or-filled (λ k. s.unknowns + k) s.equations k 0 l in
    record {
      cells = first_cells s;
      basis = first_basis s;
      in_run = record { before = []; run = (first_tableau s (tableau_of s (first_cells s) (first_basis s)) y rows objective basic, basic); pivots = refl };
      basis_len = length-filled (λ k. s.unknowns + k) s.equations;
    }

-- ---- the next tableau

module _ (old : ℕ → ℕ → ℤ) (w r c : ℕ) where
  abbrev product : ℕ → ℕ → ℤ
  product i x = old r c *ℤ old i x -ℤ old i c *ℤ old r x

  abbrev next : ℕ → ℕ → ℤ
  next i x = choose i r (old r x) (at (reduced_row (product i) w).0 x)

  next_crossed : (i : ℕ) → i ≢ r → IsCrossed (old i) (old r) c (next i) w
  next_crossed i d =
      reduced_along (product i) (product i) (at (reduced_row (product i) w).0) (next i) w (λ x u. refl)
      (λ (x : ℕ) (u : x < w). sym (choose-other i r (old r x) (at (reduced_row (product i) w).0 x) d)) (reduced_row (product i) w).1

module _ (s : LinearSystem) (limit made : ℕ) (y : IsSystem s) (h : Stands s limit made) (on : GoesOn s limit made (tableau_of s h.cells h.basis)) where
  pivoted : (c r : ℕ) → IsEntering (h.cells s.equations) s.unknowns (Some c) → IsLeaving h.cells (width s) s.unknowns c s.equations (Some r) → Stands s limit (made + 1)
  pivoted c r enters leaves =
      let good = (run_facts s limit (tableau_of s h.cells h.basis) h.in_run.before y h.in_run.run).0 in
      record {
        cells = next h.cells (width s) r c;
        basis = set h.basis r c;
        in_run = in_run_more s limit made h.cells (next h.cells (width s) r c) h.basis (set h.basis r c) c r y h.in_run
            (on, enters_of s h.cells h.basis c enters, leaves_of s h.cells h.basis c r good leaves) h.basis_len
            (λ x l. choose-same r (h.cells r x) (at (reduced_row (product h.cells (width s) r c r) (width s)).0 x))
            (λ i l d. next_crossed h.cells (width s) r c i d) refl;
        basis_len = length-set h.basis r c ∙ h.basis_len;
      }

  leaving : (c : ℕ) (best : Option ℕ) → IsEntering (h.cells s.equations) s.unknowns (Some c) → IsLeaving h.cells (width s) s.unknowns c s.equations best → Stands s limit (made + 1)
  leaving c None enters leaves = absurd (never s limit made h.cells h.basis c y h.in_run enters leaves)
  leaving c (Some r) enters leaves = pivoted c r enters leaves

  entering : (found : Option ℕ) → IsEntering (h.cells s.equations) s.unknowns found → Stands s limit (made + 1)
  entering None none = absurd (on.2 none)
  entering (Some c) enters =
      let best = leaving_found h.cells (width s) s.unknowns c s.equations in
      leaving c best.0 enters best.1

  pub stands_next : Stands s limit (made + 1)
  stands_next = let found = entering_found (h.cells s.equations) s.unknowns in entering found.0 found.1

-- ---- pivot after pivot

abbrev Over : LinearSystem → ℕ → Type 0
Over s limit = (p : ℕ) × (t : Tableau) × (c : Cause) × EndsAt s limit p t c

-- the run ends here, or goes on
turn : (s : LinearSystem) (limit made : ℕ) → IsSystem s → Stands s limit made → Over s limit ⊎ ((made ≢ limit) × Stands s limit (made + 1))
turn s limit made y h =
    ⊎_elim
    (λ (e : (c : Cause) × Ends s limit made (tableau_of s h.cells h.basis) c).
    inl (made, tableau_of s h.cells h.basis, e.0, record { before = h.in_run.before; run = h.in_run.run; pivots = h.in_run.pivots; ends = e.1 }))
    (λ (on : GoesOn s limit made (tableau_of s h.cells h.basis)). inr (on.3, stands_next s limit made y h on))
    (first_cause s limit made (tableau_of s h.cells h.basis))

over : (s : LinearSystem) (limit left made : ℕ) → IsSystem s → made + left ≡ limit → Stands s limit made → Over s limit
over s limit zero made y sum h =
    ⊎_elim (λ (e : Over s limit). e) (λ (next : (made ≢ limit) × Stands s limit (made + 1)). absurd (next.0 (omega arith))) (turn s limit made y h)
over s limit (suc left) made y sum h =
    ⊎_elim (λ (e : Over s limit). e) (λ (next : (made ≢ limit) × Stands s limit (made + 1)). over s limit left (made + 1) y (omega arith) next.1) (turn s limit made y h)

pub every_run_ends : EveryRunEnds
every_run_ends s limit y = over s limit limit 0 y (omega arith) (first s limit y)
