-- Why the outcomes are right by their own numbers, and when the budget can't be spent.
use Rattle.std.proofs.Common.{◌≡◌, ◌≢◌, ℕ, zero, suc, ◌+◌, ◌*◌, ◌<◌, ◌≤◌, sym, ap, ◌∙◌, subst, arith, ⊎_elim, List, [], ◌∷◌}
use Rattle.std.proofs.Math.IntN.{ℤ, pos, ◌*ℤ◌, *ℤ_comm}
use Rattle.std.proofs.lemmas.Int.{ints}
use Rattle.std.proofs.lemmas.Bool.{cases_eq, cases_lt}
use Rattle.std.proofs.Math.Nat.{mul_comm}
use lib.Signed.{◌<ℤ◌, ◌≤ℤ◌}
use Rattle.kf_frac.specs.declared.frac.Frac.{Frac}
use Rattle.kf_frac.proofs.Ring.{mul_assoc}
use Rattle.kf_frac.proofs.CommonMultiples.{product_positive as nat_product_positive}
use Rattle.kf_simplex.specs.Systems.{LinearSystem, IsSystem, right_column}
use Rattle.kf_simplex.specs.Base.{total, at}
use Rattle.kf_simplex.specs.Tableaus.{Tableau}
use Rattle.kf_simplex.specs.Runs.{NoneEnters, budget, key, EndsAt}
use Rattle.kf_simplex.specs.Laws.{ways}
use Rattle.kf_simplex.specs.Solutions.{Refutes, AreSolution}
use Rattle.kf_simplex.specs.Answers.{num_at, den_at, IsSolutionOf, AreMultipliersOf}
use Rattle.kf_simplex.proofs.Forms.{IsReadOff, IsLexPositive}
use Rattle.kf_simplex.proofs.Signs.{cancel, product_not_negative, factor_not_negative, factor_zero}
use Rattle.kf_simplex.proofs.Sums.{total-ext, total_not_negative, choose, choose-same, choose-other}
use Rattle.kf_simplex.proofs.Pivots.{spanned, read_off_solves, artificials_zero, refutes_of_objective}
use Rattle.kf_simplex.proofs.RunFacts.{IsGood, basic_of, objective_sign}
use Rattle.kf_simplex.proofs.Counting.{no_run_is_long}

-- ---- signs along the run

first_not_negative : (e : ℕ) (f : ℕ → ℤ) → IsLexPositive e f → pos 0 ≤ℤ f 0
first_not_negative e f p = ⊎_elim
    (λ (l : 0 < p.0). let z = p.2 0 l in omega (arith, ints))
    (λ (l : p.0 ≤ 0). let z : p.0 ≡ 0 = omega arith in let q = rw z at p.3 in omega (arith, ints))
    (cases_lt 0 p.0)

rights : (s : LinearSystem) (t : Tableau) → IsGood s t → (i : ℕ) → i < s.equations → pos 0 ≤ℤ t.rows i (right_column s)
rights s t g i l = first_not_negative s.equations (key s (t.rows i)) (g.lex i l)

objective_right : (s : LinearSystem) (t : Tableau) → IsGood s t → pos 0 ≤ℤ t.objective (right_column s)
objective_right s t g =
    let n = s.equations in
    let b = basic_of s t g in
    let p = g.spans in
    let q = spanned s t.basis t.rows b p t.objective g.tableau.objective.in_space in
    let wide : pos 0 ≤ℤ p.scale = let z = p.positive in omega (arith, ints) in
    let share_sign : (k : ℕ) → k < n → pos 0 ≤ℤ q.share k = λ k m.
    factor_not_negative (t.rows k (t.basis k)) (q.share k) (b.positive k m)
    (rw (sym (q.at_basic k m ∙ *ℤ_comm (q.share k) (t.rows k (t.basis k)))) (product_not_negative p.scale (t.objective (t.basis k)) wide (objective_sign s t g k m))) in
    factor_not_negative p.scale (t.objective (right_column s)) p.positive
    (rw (q.whole (right_column s) (omega arith))
    (total_not_negative n (λ k. q.share k *ℤ t.rows k (right_column s)) (λ (k : ℕ) (m : k < n). product_not_negative (q.share k) (t.rows k (right_column s)) (share_sign k m) (rights s t g k m))))

-- ---- solutions

-- whole numbers over one denominator that stand for n fractions
record Common (n : ℕ) (num : ℕ → ℤ) (den : ℕ → ℕ) : Type 0 where
  over : ℕ
  positive : 0 < over
  whole : ℕ → ℤ
  same : (j : ℕ) → j < n → whole j *ℤ pos (den j) ≡ num j *ℤ pos over

common : (n : ℕ) (num : ℕ → ℤ) (den : ℕ → ℕ) → ((j : ℕ) → j < n → 0 < den j) → Common n num den
common zero num den p = record { over = 1; positive = omega arith; whole = λ j. pos 0; same = λ j l. absurd (omega arith) }
common (suc n) num den p =
    let h = common n num den (λ (j : ℕ) (l : j < n). p j (omega arith)) in
    let last : ℤ = num n *ℤ pos h.over in
    let f : ℕ → ℤ = λ j. choose j n last (h.whole j *ℤ pos (den n)) in
    record {
      over = h.over * den n;
      positive = nat_product_positive h.over (den n) h.positive (p n (omega arith));
      whole = f;
      same = λ j l. ⊎_elim
          (λ (e : j ≡ n). subst (λ (k : ℕ). f k *ℤ pos (den k) ≡ num k *ℤ pos (h.over * den n)) (sym e)
          (ap (λ (z : ℤ). z *ℤ pos (den n)) (choose-same n last (h.whole n *ℤ pos (den n))) ∙ mul_assoc (num n) (pos h.over) (pos (den n))))
          (λ (d : j ≢ n).
          ap (λ (z : ℤ). z *ℤ pos (den j)) (choose-other j n last (h.whole j *ℤ pos (den n)) d)
          ∙ mul_assoc (h.whole j) (pos (den n)) (pos (den j))
          ∙ ap (λ (x : ℕ). h.whole j *ℤ pos x) (mul_comm (den n) (den j))
          ∙ sym (mul_assoc (h.whole j) (pos (den j)) (pos (den n)))
          ∙ ap (λ (z : ℤ). z *ℤ pos (den n)) (h.same j (omega arith))
          ∙ mul_assoc (num j) (pos h.over) (pos (den n)))
          (cases_eq j n);
    }

pub den_positive : (xs : List Frac) (j : ℕ) → 0 < den_at xs j
den_positive [] j = omega arith
den_positive (x ∷ xs) zero = x.positive
den_positive (x ∷ xs) (suc j) = den_positive xs j

-- an entry times a fraction is a right side: so it is over another denominator
basic_over : (entry right x num over : ℤ) (den : ℕ) → 0 < den → num *ℤ entry ≡ right *ℤ pos den → x *ℤ pos den ≡ num *ℤ over → entry *ℤ x ≡ over *ℤ right
basic_over entry right x num over den p e f =
    cancel (entry *ℤ x) (over *ℤ right) (pos den) (omega (arith, ints))
    (*ℤ_comm (pos den) (entry *ℤ x)
    ∙ mul_assoc entry x (pos den)
    ∙ ap (λ (z : ℤ). entry *ℤ z) f
    ∙ sym (mul_assoc entry num over)
    ∙ ap (λ (z : ℤ). z *ℤ over) (*ℤ_comm entry num ∙ e ∙ *ℤ_comm right (pos den))
    ∙ mul_assoc (pos den) right over
    ∙ ap (λ (z : ℤ). pos den *ℤ z) (*ℤ_comm right over))

zero_over : (x num over : ℤ) (den : ℕ) → 0 < den → num ≡ pos 0 → x *ℤ pos den ≡ num *ℤ over → x ≡ pos 0
zero_over x num over den p e f =
    factor_zero (pos den) x (omega (arith, ints)) (*ℤ_comm (pos den) x ∙ f ∙ ap (λ (z : ℤ). z *ℤ over) e ∙ omega (arith, ints))

pub solution_is_right : (s : LinearSystem) (t : Tableau) (xs : List Frac) → IsGood s t → t.objective (right_column s) ≡ pos 0 → IsSolutionOf s t xs → AreSolution s xs
solution_is_right s t xs g z h =
    let b = basic_of s t g in
    let c = common s.unknowns (num_at xs) (den_at xs) (λ (j : ℕ) (l : j < s.unknowns). den_positive xs j) in
    let artificial : (i : ℕ) → i < s.equations → s.unknowns ≤ t.basis i → pos 0 <ℤ t.objective (t.basis i) =
    λ i l u. rw (g.tableau.objective.artificial i l u) g.tableau.objective.scale_positive in
    let off : IsReadOff s t.basis t.rows c.whole (pos c.over) = record {
      positive = let q = c.positive in omega (arith, ints);
      basic = λ i l u. basic_over (t.rows i (t.basis i)) (t.rows i (right_column s)) (c.whole (t.basis i)) (num_at xs (t.basis i)) (pos c.over) (den_at xs (t.basis i))
          (den_positive xs (t.basis i)) (h.basic i l u) (c.same (t.basis i) u);
      not_basic = λ j l no. zero_over (c.whole j) (num_at xs j) (pos c.over) (den_at xs j) (den_positive xs j) (h.not_basic j l no) (c.same j l);
    } in (
      c.whole,
      pos c.over,
      read_off_solves s t.basis t.rows b g.spans c.whole (pos c.over) off (rights s t g)
          (artificials_zero s t.basis t.rows b g.spans t.objective g.tableau.objective.in_space (rights s t g) (objective_sign s t g) artificial z),
      c.same,
    )

-- ---- multipliers

refutes_along : (s : LinearSystem) (y z : ℕ → ℤ) → ((k : ℕ) → k < s.equations → y k ≡ z k) → Refutes s y → Refutes s z
refutes_along s y z e h =
    let n = s.equations in
    let same : (c : ℕ) → total n (λ k. y k *ℤ s.number k c) ≡ total n (λ k. z k *ℤ s.number k c) = λ c.
    total-ext n (λ k. y k *ℤ s.number k c) (λ k. z k *ℤ s.number k c) (λ (k : ℕ) (l : k < n). ap (λ (x : ℤ). x *ℤ s.number k c) (e k l)) in
    record { unknowns = λ j l. rw (sym (same j)) (h.unknowns j l); right = rw (sym (same (right_column s))) h.right }

pub multipliers_are_right : (s : LinearSystem) (t : Tableau) (ys : List ℤ) → IsGood s t → t.objective (right_column s) ≢ pos 0 → NoneEnters s t → AreMultipliersOf s t ys → Refutes s (at ys)
multipliers_are_right s t ys g nz none h =
    refutes_along s (λ k. t.objective (s.unknowns + k)) (at ys) (λ k l. sym (h.entries k l))
    (refutes_of_objective s t.objective g.tableau.objective.in_space none (strict (t.objective (right_column s)) (objective_right s t g) nz))
  where
    strict : (z : ℤ) → pos 0 ≤ℤ z → z ≢ pos 0 → pos 0 <ℤ z
    strict z p d = omega (arith, ints)

-- ---- the budget

pub budget_left : (s : LinearSystem) (limit : ℕ) → IsSystem s → ways (s.unknowns + s.equations) s.equations ≤ limit → ((t : Tableau) × EndsAt s limit limit t budget) → ⊥
budget_left s limit y w a =
    let l = no_run_is_long s limit (a.0 ∷ a.1.before) y a.1.run in
    let p = a.1.pivots in
    omega arith
