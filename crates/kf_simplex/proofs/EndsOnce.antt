-- A run ends once, for one cause.
use Rattle.std.proofs.Common.{◌≡◌, ◌≢◌, ℕ, ◌<◌, ◌≤◌, refl, sym, ◌∙◌, subst, arith, ⊎_elim, ◌^◌, unsigned_abs, List, [], ◌∷◌, length}
use Rattle.std.proofs.Math.IntN.{ℤ, pos}
use Rattle.std.proofs.lemmas.Bool.{cases_eq, cases_lt}
use lib.Signed.{◌≤ℤ◌}
use Rattle.kf_simplex.specs.Systems.{LinearSystem, IsSystem, right_column}
use Rattle.kf_simplex.specs.Tableaus.{Tableau}
use Rattle.kf_simplex.specs.Runs.{IsNarrow, NoneEnters, Cause, wide, solution, multipliers, budget, Ends, EndsAt, GoesOn, IsRun}
use Rattle.kf_simplex.specs.Laws.{SameTableau, OneAnswer}
use Rattle.kf_simplex.proofs.Unique.{one_run}

turned : (s : LinearSystem) (t u : Tableau) → SameTableau s t u → SameTableau s u t
turned s t u h = record { basis = λ k l. sym (h.basis k l); rows = λ i c l m. sym (h.rows i c l m); objective = λ c m. sym (h.objective c m) }

narrow_along : (s : LinearSystem) (t u : Tableau) → SameTableau s t u → IsNarrow s t → IsNarrow s u
narrow_along s t u h n = record {
  rows = λ i c l m. subst (λ (z : ℤ). unsigned_abs z ≤ 2 ^ 62) (h.rows i c l m) (n.rows i c l m);
  objective = λ c m. subst (λ (z : ℤ). unsigned_abs z ≤ 2 ^ 62) (h.objective c m) (n.objective c m);
}

none_along : (s : LinearSystem) (t u : Tableau) → SameTableau s t u → NoneEnters s t → NoneEnters s u
none_along s t u h n j l = subst (λ (z : ℤ). z ≤ℤ pos 0) (h.objective j (omega arith)) (n j l)

right_along : (s : LinearSystem) (t u : Tableau) → SameTableau s t u → t.objective (right_column s) ≡ pos 0 → u.objective (right_column s) ≡ pos 0
right_along s t u h e = sym (h.objective (right_column s) (omega arith)) ∙ e

ends_along : (s : LinearSystem) (limit p : ℕ) (t u : Tableau) (c : Cause) → SameTableau s t u → Ends s limit p t c → Ends s limit p u c
ends_along s limit p t u wide h e = λ n. e (narrow_along s u t (turned s t u h) n)
ends_along s limit p t u solution h e = (narrow_along s t u h e.0, right_along s t u h e.1)
ends_along s limit p t u multipliers h e = (narrow_along s t u h e.0, (λ z. e.1 (right_along s u t (turned s t u h) z)), none_along s t u h e.2)
ends_along s limit p t u budget h e =
    (narrow_along s t u h e.0, (λ z. e.1 (right_along s u t (turned s t u h) z)), (λ n. e.2 (none_along s u t (turned s t u h) n)), e.3)

-- the causes exclude one another
one_cause : (s : LinearSystem) (limit p : ℕ) (t : Tableau) (c d : Cause) → Ends s limit p t c → Ends s limit p t d → c ≡ d
one_cause s limit p t wide wide a b = refl
one_cause s limit p t wide solution a b = absurd (a b.0)
one_cause s limit p t wide multipliers a b = absurd (a b.0)
one_cause s limit p t wide budget a b = absurd (a b.0)
one_cause s limit p t solution wide a b = absurd (b a.0)
one_cause s limit p t solution solution a b = refl
one_cause s limit p t solution multipliers a b = absurd (b.1 a.1)
one_cause s limit p t solution budget a b = absurd (b.1 a.1)
one_cause s limit p t multipliers wide a b = absurd (b a.0)
one_cause s limit p t multipliers solution a b = absurd (a.1 b.1)
one_cause s limit p t multipliers multipliers a b = refl
one_cause s limit p t multipliers budget a b = absurd (b.2 a.2)
one_cause s limit p t budget wide a b = absurd (b a.0)
one_cause s limit p t budget solution a b = absurd (a.1 b.1)
one_cause s limit p t budget multipliers a b = absurd (a.2 b.2)
one_cause s limit p t budget budget a b = refl

-- where one applies, the run does not go on
ends_there : (s : LinearSystem) (limit p : ℕ) (t : Tableau) (c : Cause) → Ends s limit p t c → GoesOn s limit p t → ⊥
ends_there s limit p t wide a g = a g.0
ends_there s limit p t solution a g = g.1 a.1
ends_there s limit p t multipliers a g = g.2 a.2
ends_there s limit p t budget a g = g.3 a.3

-- an earlier tableau of a run, from which the run goes on
record Earlier (s : LinearSystem) (limit p : ℕ) : Type 0 where
  tableau : Tableau
  before : List Tableau
  run : IsRun s limit (tableau ∷ before)
  pivots : length before ≡ p
  on : GoesOn s limit p tableau

earlier : (s : LinearSystem) (limit p : ℕ) (t : Tableau) (ts : List Tableau) → IsRun s limit (t ∷ ts) → p < length ts → Earlier s limit p
earlier s limit p t [] r l = absurd (omega arith)
earlier s limit p t (u ∷ us) r l = ⊎_elim
    (λ (e : length us ≡ p). record { tableau = u; before = us; run = r.0; pivots = e; on = subst (λ (n : ℕ). GoesOn s limit n u) e r.1 })
    (λ (d : length us ≢ p). earlier s limit p u us r.0 (omega arith))
    (cases_eq (length us) p)

-- no run goes on past an end
not_past : (s : LinearSystem) (limit p q : ℕ) (t u : Tableau) (c d : Cause) → IsSystem s → EndsAt s limit p t c → EndsAt s limit q u d → p < q → ⊥
not_past s limit p q t u c d y a b l =
    let e : Earlier s limit p = earlier s limit p u b.before b.run (subst (λ (n : ℕ). p < n) b.pivots l) in
    let same : SameTableau s t e.tableau = one_run s limit t e.tableau a.before e.before y a.run e.run (sym a.pivots ∙ sym e.pivots) in
    ends_there s limit p e.tableau c (ends_along s limit p t e.tableau c same a.ends) e.on

pub one_answer : OneAnswer
one_answer s limit p q t u c d y a b =
    let length_same : p ≡ q = ⊎_elim
    (λ (l : p < q). absurd (not_past s limit p q t u c d y a b l))
    (λ (l : q ≤ p). ⊎_elim (λ (m : q < p). absurd (not_past s limit q p u t d c y b a m)) (λ (m : p ≤ q). omega arith) (cases_lt q p))
    (cases_lt p q) in
    let same : SameTableau s t u = one_run s limit t u a.before b.before y a.run b.run (sym a.pivots ∙ length_same ∙ b.pivots) in (
      length_same,
      same,
      one_cause s limit p u c d (ends_along s limit p t u c same a.ends) (subst (λ (n : ℕ). Ends s limit n u d) (sym length_same) b.ends),
    )
