-- A turn of the table, in the words of the run.
use Rattle.std.proofs.Common.{◌≡◌, ◌≢◌, ℕ, zero, suc, ◌+◌, ◌-◌, ◌^◌, ◌<◌, ◌≤◌, refl, sym, ◌∙◌, subst, arith, ◌⊎◌, inl, inr, ⊎_elim, length, List, ◌∷◌, None, Some, set, unsigned_abs, Bool, true, false}
use Rattle.std.proofs.Math.IntN.{ℤ, pos, ◌-ℤ◌, ◌*ℤ◌}
use Rattle.std.proofs.lemmas.Int.{ints}
use Rattle.std.proofs.lemmas.Bool.{cases_eq, cases_lt}
use lib.Signed.{◌<ℤ◌}
use Rattle.kf_simplex.proofs.RunFacts.{IsGood, basic_of, run_facts, objective_sign}
use Rattle.kf_simplex.proofs.Signs.{factor_zero}
use Rattle.kf_simplex.proofs.Choices.{no_tie, some_row}
use Rattle.kf_simplex.specs.declared.table.Turn.TheVariants as turns
use Rattle.kf_simplex.proofs.FlatSteps.{flat_step}
use Rattle.std.proofs.lemmas.Nat.Gcd.{dvd-zero}
use Rattle.std.specs.Int.{◌∣◌}
use Rattle.std.specs.Prelude.{IsTrue}
use Rattle.kf_simplex.specs.Systems.{LinearSystem, right_column, IsSystem}
use Rattle.kf_simplex.specs.Tableaus.{IsPrimitive}
use Rattle.kf_simplex.specs.Runs.{IsNarrow, Enters, Leaves, NoneEnters, GoesOn}
use Rattle.kf_simplex.specs.Cells.{AllNarrow, IsCrossed, IsReducedRow, IsLeaving, IsEntering, PassesRows, key_at}
use Rattle.kf_simplex.specs.Flat.{IsWithin, width, tableau_of}
use Rattle.kf_simplex.specs.Turns.{Judges, InRun}
use Rattle.kf_simplex.specs.Columns.{deciding}

pub narrow_of : (s : LinearSystem) (cells : ℕ → ℕ → ℤ) (basis : List ℕ) → ((i : ℕ) → AllNarrow (cells i)) → IsNarrow s (tableau_of s cells basis)
narrow_of s cells basis h = record { rows = λ i c l m. h i c; objective = λ c m. h s.equations c }

-- narrow in all rows and columns, as the others are empty
pub all_narrow_of : (s : LinearSystem) (cells : ℕ → ℕ → ℤ) (basis : List ℕ) → IsWithin (right_column s) cells → ((i c : ℕ) → s.equations < i → cells i c ≡ pos 0)
    → IsNarrow s (tableau_of s cells basis) → (i : ℕ) → AllNarrow (cells i)
all_narrow_of s cells basis within past h i c =
    ⊎_elim
    (λ (u : right_column s < c). rw (within i c u) (omega arith))
    (λ (u : c ≤ right_column s). ⊎_elim
    (λ (l : i < s.equations). h.rows i c l u)
    (λ (l : s.equations ≤ i). ⊎_elim
    (λ (m : s.equations < i). rw (past i c m) (omega arith))
    (λ (m : i ≤ s.equations). let e : s.equations ≡ i = omega arith in subst (λ (z : ℕ). unsigned_abs (cells z c) ≤ 2 ^ 62) e (h.objective c u))
    (cases_lt s.equations i))
    (cases_lt i s.equations))
    (cases_lt (right_column s) c)

key_place : (s : LinearSystem) (m : ℕ) → deciding s.unknowns (width s - 1) m ≡ deciding s.unknowns (right_column s) m
key_place s zero = omega arith
key_place s (suc m) = refl

pub leaves_of : (s : LinearSystem) (cells : ℕ → ℕ → ℤ) (basis : List ℕ) (c r : ℕ) → IsGood s (tableau_of s cells basis) → IsLeaving cells (width s) s.unknowns c s.equations (Some r) → Leaves s (tableau_of s cells basis).rows c r
leaves_of s cells basis c r g h = record {
  row = h.0;
  positive = h.1;
  least = λ i l d p. ⊎_elim
      (λ (x : (m : ℕ) × (m < width s - s.unknowns) × ((k : ℕ) → k < m → key_at cells (width s) s.unknowns c r i k ≡ key_at cells (width s) s.unknowns c i r k) × (key_at cells (width s) s.unknowns c r i m <ℤ key_at cells (width s) s.unknowns c i r m)).
      (x.0, (let l = x.1 in omega arith), (λ k u. rw (key_place s k) at (x.2 k u)), rw (key_place s x.0) at x.3))
      (λ (x : (k : ℕ) → k < width s - s.unknowns → key_at cells (width s) s.unknowns c r i k ≡ key_at cells (width s) s.unknowns c i r k).
      absurd (no_tie s (tableau_of s cells basis).basis (tableau_of s cells basis).rows (basic_of s (tableau_of s cells basis) g) r i c h.0 l d p
      (λ (m : ℕ) (u : m ≤ s.equations). rw (key_place s m) at (x m (omega arith)))))
      (h.2 i l p);
}

pub enters_of : (s : LinearSystem) (cells : ℕ → ℕ → ℤ) (basis : List ℕ) (c : ℕ) → IsEntering (cells s.equations) s.unknowns (Some c) → Enters s (tableau_of s cells basis).objective c
enters_of s cells basis c h = record { unknown = h.0; positive = h.1; least = h.2 }

pub no_leaving : (s : LinearSystem) (cells : ℕ → ℕ → ℤ) (basis : List ℕ) (c : ℕ) → IsGood s (tableau_of s cells basis) → IsEntering (cells s.equations) s.unknowns (Some c)
    → IsLeaving cells (width s) s.unknowns c s.equations None → ⊥
no_leaving s cells basis c g e h =
    some_row s (tableau_of s cells basis).basis (tableau_of s cells basis).rows (basic_of s (tableau_of s cells basis) g) g.spans (tableau_of s cells basis).objective g.tableau.objective.in_space
    (objective_sign s (tableau_of s cells basis) g) c (let l = e.0 in omega arith) e.1 h

pub not_none_enters : (s : LinearSystem) (cells : ℕ → ℕ → ℤ) (basis : List ℕ) (c : ℕ) → IsEntering (cells s.equations) s.unknowns (Some c) → NoneEnters s (tableau_of s cells basis) → ⊥
not_none_enters s cells basis c h n = let a = n c h.0 in let b = h.1 in omega (arith, ints)

-- after a pivot the run is one longer
pub in_run_more : (s : LinearSystem) (limit made : ℕ) (cells news : ℕ → ℕ → ℤ) (basis basis' : List ℕ) (c r : ℕ)
    → IsSystem s → InRun s limit made cells basis → Judges s limit made (tableau_of s cells basis) (turns.Pivot r c)
    → length basis ≡ s.equations → ((x : ℕ) → x ≤ right_column s → news r x ≡ cells r x)
    → ((i : ℕ) → i < s.equations + 1 → i ≢ r → IsCrossed (cells i) (cells r) c (news i) (width s))
    → basis' ≡ set basis r c → InRun s limit (made + 1) news basis'
in_run_more s limit made cells news basis basis' c r y h j lb same crossed eb =
    let g = (run_facts s limit (tableau_of s cells basis) h.before y h.run).0 in
    record {
      before = tableau_of s cells basis ∷ h.before;
      run = (
        h.run,
        subst (λ (n : ℕ). GoesOn s limit n (tableau_of s cells basis)) h.pivots j.0,
        flat_step s cells news basis basis' r c
            (record { column = j.1.unknown; row = j.2.row; positive = j.2.positive; basis_len = lb; same = same; crossed = crossed; basis_is = eb })
            g j.1 j.2,
      );
      pivots = let q = h.pivots in omega arith;
    }

-- no row of a tableau has a common factor, unless it is 0 everywhere
row_primitive : (s : LinearSystem) (cells : ℕ → ℕ → ℤ) (basis : List ℕ) → IsGood s (tableau_of s cells basis) → (i : ℕ) → i < s.equations + 1
    → (m : ℕ) → m ≤ right_column s → cells i m ≢ pos 0 → IsPrimitive s (cells i)
row_primitive s cells basis g i l m u nz =
    ⊎_elim
    (λ (e : i < s.equations). (g.tableau.rows i e).primitive)
    (λ (e : s.equations ≤ i). let same : s.equations ≡ i = omega arith in
    subst (λ (j : ℕ). (m : ℕ) → m ≤ right_column s → cells j m ≢ pos 0 → IsPrimitive s (cells j)) same g.tableau.objective_primitive m u nz)
    (cases_lt i s.equations)

-- a row that is left alone is crossed with the chosen one: it has no common factor
pub crossed_of_passed : (s : LinearSystem) (cells news : ℕ → ℕ → ℤ) (basis : List ℕ) (r c : ℕ) → IsGood s (tableau_of s cells basis) → pos 0 <ℤ cells r c → c < s.unknowns
    → IsWithin (right_column s) news → PassesRows cells news r c (s.equations + 1)
    → (i : ℕ) → i < s.equations + 1 → i ≢ r → IsCrossed (cells i) (cells r) c (news i) (width s)
crossed_of_passed s cells news basis r c g p lc within h i l d =
    ⊎_elim
    (λ (q : (cells i c ≡ pos 0) × ((k : ℕ) → news i k ≡ cells i k)). record {
      factor = cells r c;
      positive = p;
      times = λ k u. rw (q.0, q.1 k) (omega (arith, ints));
      primitive = λ m u nz d' all.
          row_primitive s cells basis g i l m (omega arith) (λ z. nz (rw (q.0, z) (omega (arith, ints)))) d' (λ x v. subst (λ (z : ℤ). d' ∣ unsigned_abs z) (q.1 x) (all x (omega arith)));
    })
    (λ (q : IsReducedRow (λ k. cells r c *ℤ cells i k -ℤ cells i c *ℤ cells r k) (news i)). record {
      factor = q.factor;
      positive = q.positive;
      times = λ k u. q.times k;
      primitive = λ m u nz d' all. q.primitive m nz d' (λ k. ⊎_elim
          (λ (v : k < width s). all k v)
          (λ (v : width s ≤ k). rw (within i k (omega arith)) (dvd-zero d'))
          (cases_lt k (width s)));
    })
    (h.passed i l d)

crossed_none : (p a x y : ℤ) → x ≡ pos 0 → y ≡ pos 0 → p *ℤ x -ℤ a *ℤ y ≡ pos 0
crossed_none p a x y ex ey = rw (ex, ey) (omega (arith, ints))

-- no row has an entry past the last column after a pivot
pub within_passed : (last : ℕ) (cells news : ℕ → ℕ → ℤ) (r c n : ℕ) → IsWithin last cells → PassesRows cells news r c n → IsWithin last news
within_passed last cells news r c n within h i x l =
    ⊎_elim
    (λ (m : n ≤ i). h.rest i x m ∙ within i x l)
    (λ (m : i < n). ⊎_elim
    (λ (e : r ≡ i). subst (λ (j : ℕ). news j x ≡ pos 0) e (h.chosen_row x ∙ within r x l))
    (λ (d : r ≢ i). ⊎_elim
    (λ (q : (cells i c ≡ pos 0) × ((k : ℕ) → news i k ≡ cells i k)). q.1 x ∙ within i x l)
    (λ (q : IsReducedRow (λ k. cells r c *ℤ cells i k -ℤ cells i c *ℤ cells r k) (news i)).
    factor_zero q.factor (news i x) q.positive (q.times x ∙ crossed_none (cells r c) (cells i c) (cells i x) (cells r x) (within i x l) (within r x l)))
    (h.passed i m (λ e. d (sym e))))
    (cases_eq r i))
    (cases_ge i n)
  where
    cases_ge : (i n : ℕ) → (n ≤ i) ⊎ (i < n)
    cases_ge i n = ⊎_elim (λ (m : i < n). inr m) (λ (m : n ≤ i). inl m) (cases_lt i n)

-- the run goes on with the rows that a pivot gives
pub in_run_passed : (s : LinearSystem) (limit made : ℕ) (cells news : ℕ → ℕ → ℤ) (basis basis' : List ℕ) (c r : ℕ)
    → IsSystem s → InRun s limit made cells basis → Judges s limit made (tableau_of s cells basis) (turns.Pivot r c)
    → length basis ≡ s.equations → IsWithin (right_column s) cells → PassesRows cells news r c (s.equations + 1)
    → basis' ≡ set basis r c → InRun s limit (made + 1) news basis'
in_run_passed s limit made cells news basis basis' c r y h j lb inside passed eb =
    let within = within_passed (right_column s) cells news r c (s.equations + 1) inside passed in
    in_run_more s limit made cells news basis basis' c r y h j lb (λ x l. passed.chosen_row x)
    (crossed_of_passed s cells news basis r c ((run_facts s limit (tableau_of s cells basis) h.before y h.run).0) j.2.positive j.1.unknown within passed) eb

pub yes_of : (b : Bool) → b ≡ true → IsTrue b
yes_of b e = e

pub not_of : (b : Bool) → b ≡ false → IsTrue b → ⊥
not_of b e t = cc

-- some row has a positive entry in the entering column
pub never : (s : LinearSystem) (limit made : ℕ) (cells : ℕ → ℕ → ℤ) (basis : List ℕ) (c : ℕ) → IsSystem s → InRun s limit made cells basis
    → IsEntering (cells s.equations) s.unknowns (Some c) → IsLeaving cells (width s) s.unknowns c s.equations None → ⊥
never s limit made cells basis c y h e l = no_leaving s cells basis c ((run_facts s limit (tableau_of s cells basis) h.before y h.run).0) e l

pub goes_on : (s : LinearSystem) (limit made : ℕ) (cells : ℕ → ℕ → ℤ) (basis : List ℕ) (c r : ℕ)
    → IsSystem s → InRun s limit made cells basis → ((i : ℕ) → AllNarrow (cells i)) → cells s.equations (right_column s) ≢ pos 0 → made ≢ limit
    → IsEntering (cells s.equations) s.unknowns (Some c) → IsLeaving cells (width s) s.unknowns c s.equations (Some r)
    → Judges s limit made (tableau_of s cells basis) (turns.Pivot r c)
goes_on s limit made cells basis c r y h narrow nz ne en le =
    let g = (run_facts s limit (tableau_of s cells basis) h.before y h.run).0 in (
      (narrow_of s cells basis narrow, nz, not_none_enters s cells basis c en, ne),
      enters_of s cells basis c en,
      leaves_of s cells basis c r g le,
    )

-- a property of the sizes, at equal sizes
pub along : (P : ℕ → ℕ → Type 0) (v e v' e' : ℕ) → v' ≡ v → e' ≡ e → P v' e' → P v e
along P v e v' e' a b p = subst (λ (z : ℕ). P v z) b (subst (λ (z : ℕ). P z e') a p)
