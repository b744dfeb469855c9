-- What refutes the equations of two hypers has a multiplier of a kept value that isn't 0.
use Rattle.std.proofs.Common.{◌≡◌, ◌≢◌, ℕ, zero, suc, ◌+◌, ◌-◌, ◌*◌, ◌<◌, ◌≤◌, ◌==◌, refl, sym, ap, ◌∙◌, subst, arith, ◌⊎◌, ⊎_elim, inl, inr, List, length}
use Rattle.std.proofs.Math.IntN.{ℤ, pos, ◌*ℤ◌}
use Rattle.std.proofs.Math.Nat.{mul-le-mul_right}
use Rattle.std.proofs.lemmas.Int.{ints}
use Rattle.std.proofs.lemmas.Bool.{cases_lt, eq-eqb, ne_eqb}
use lib.Signed.{◌<ℤ◌, ◌≤ℤ◌}
use Rattle.kf_simplex.specs.Base.{total}
use Rattle.kf_simplex.specs.Solutions.{Refutes}
use Rattle.kf_simplex.specs.Systems.{LinearSystem, right_column}
use Rattle.kf_simplex.proofs.Sums.{total_at_most, total-single}
use Rattle.kf_refine.proofs.OneSystem.{Spells}
use Rattle.kf_refine.proofs.SomeSystem.{chosen, refused}
use Rattle.kf_refine.proofs.SomeTargets.{same_number}

some_other : (n : ℕ) (y : ℕ → ℤ) → ((k : ℕ) × (k < n) × (y k ≢ pos 0)) ⊎ ((k : ℕ) → k < n → y k ≡ pos 0)
some_other zero y = inr (λ k l. absurd (omega arith))
some_other (suc n) y =
    ⊎_elim
    (λ (found : (k : ℕ) × (k < n) × (y k ≢ pos 0)). let l = found.1 in inl (found.0, omega arith, found.2))
    (λ (none : (k : ℕ) → k < n → y k ≡ pos 0). ⊎_elim
    (λ (e : y n ≡ pos 0). inr (λ (k : ℕ) (l : k < suc n).
    ⊎_elim (λ (m : k < n). none k m) (λ (m : n ≤ k). let q : n ≡ k = omega arith in subst (λ (i : ℕ). y i ≡ pos 0) q e) (cases_lt k n)))
    (λ (d : y n ≢ pos 0). inl (n, omega arith, d))
    (same_number (y n) (pos 0)))
    (some_other n y)

zero_left : (x z : ℤ) → x ≡ pos 0 → x *ℤ z ≡ pos 0
zero_left x z e = rw e (omega (arith, ints))

zero_right : (x z : ℤ) → z ≡ pos 0 → x *ℤ z ≡ pos 0
zero_right x z e = rw e (omega (arith, ints))

one_right : (x z : ℤ) → z ≡ pos 1 → x *ℤ z ≡ x
one_right x z e = rw e (omega (arith, ints))

module _ (m n : ℕ) (values : List ℕ) (u v : ℕ → ℕ → ℕ) (s : LinearSystem) (h : Spells m n values u v s) (some : 0 < n) (y : ℕ → ℤ) (r : Refutes s y) where
  abbrev weighed : ℕ
  weighed = length values * n

  -- which equation it is
  behind : (k : ℕ) → k < s.equations → weighed ≤ k → (p : ℕ) × (p < m) × (k ≡ weighed + p)
  behind k l past = let l' : k < weighed + m = subst (λ (e : ℕ). k < e) h.equations l in (k - weighed, omega arith, omega arith)

  module _ (none : (k : ℕ) → k < weighed → y k ≡ pos 0) where
    abbrev term : ℕ → ℕ → ℤ
    term i k = y k *ℤ s.number k (i * n + 0)

    other_term : (i k : ℕ) → i < m → k < s.equations → k ≢ weighed + i → term i k ≡ pos 0
    other_term i k il kl apart =
        ⊎_elim
        (λ (before : k < weighed). zero_left (y k) (s.number k (i * n + 0)) (none k before))
        (λ (past : weighed ≤ k).
        let p = behind k kl past in
        zero_right (y k) (s.number k (i * n + 0))
        (subst (λ (e : ℕ). s.number e (i * n + 0) ≡ pos 0) (sym p.2)
        (h.entry p.0 i 0 p.1 il some ∙ refused (p.0 == i) (pos 1) (pos 0) (ne_eqb p.0 i (λ (e : p.0 ≡ i). apart (p.2 ∙ ap (λ (x : ℕ). weighed + x) e))))))
        (cases_lt k weighed)

    -- the others aren't above 0
    last_sign : (i : ℕ) → i < m → y (weighed + i) ≤ℤ pos 0
    last_sign i il =
        let l : weighed + i < s.equations = subst (λ (e : ℕ). weighed + i < e) (sym h.equations) (omega arith) in
        let room : (i + 1) * n ≤ m * n = mul-le-mul_right n (omega arith) in
        let c : i * n + 0 < s.unknowns = subst (λ (e : ℕ). i * n + 0 < e) (sym h.unknowns) (omega arith) in
        let single : total s.equations (term i) ≡ y (weighed + i) =
        total-single s.equations (weighed + i) (term i) l (λ k kl d. other_term i k il kl d)
        ∙ one_right (y (weighed + i)) (s.number (weighed + i) (i * n + 0)) (h.entry i i 0 il il some ∙ chosen (i == i) (pos 1) (pos 0) (eq-eqb i i refl)) in
        subst (λ (z : ℤ). z ≤ℤ pos 0) single (r.unknowns (i * n + 0) c)

    right_term : (k : ℕ) → k < s.equations → (y k *ℤ s.number k (right_column s)) ≤ℤ pos 0
    right_term k kl =
        ⊎_elim
        (λ (before : k < weighed). subst (λ (z : ℤ). z ≤ℤ pos 0) (sym (zero_left (y k) (s.number k (right_column s)) (none k before))) (omega (arith, ints)))
        (λ (past : weighed ≤ k).
        let p = behind k kl past in
        subst (λ (e : ℕ). (y e *ℤ s.number e (right_column s)) ≤ℤ pos 0) (sym p.2)
        (subst (λ (z : ℤ). z ≤ℤ pos 0) (sym (one_right (y (weighed + p.0)) (s.number (weighed + p.0) (right_column s)) (h.one p.0 p.1))) (last_sign p.0 p.1)))
        (cases_lt k weighed)

    never : ⊥
    never = apart (total s.equations (λ k. y k *ℤ s.number k (right_column s))) (total_at_most s.equations (λ k. y k *ℤ s.number k (right_column s)) right_term) r.right
      where
        apart : (z : ℤ) → z ≤ℤ pos 0 → pos 0 <ℤ z → ⊥
        apart z p q = omega (arith, ints)

  pub some_multiplier : (k : ℕ) × (k < weighed) × (y k ≢ pos 0)
  some_multiplier =
      ⊎_elim (λ (found : (k : ℕ) × (k < weighed) × (y k ≢ pos 0)). found) (λ (none : (k : ℕ) → k < weighed → y k ≡ pos 0). absurd (never none))
      (some_other weighed y)
