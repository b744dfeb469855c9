-- The first tableau: the equations are the rows, and their sum is the objective.
use Rattle.std.proofs.Common.{◌≡◌, ◌≢◌, ℕ, zero, suc, ◌+◌, ◌<◌, ◌≤◌, refl, sym, ap, ◌∙◌, subst, arith, ⊎_elim, unsigned_abs}
use Rattle.std.proofs.Math.IntN.{ℤ, pos, ◌*ℤ◌}
use Rattle.std.proofs.Math.Nat.{one-dvd}
use Rattle.std.proofs.lemmas.Int.{ints}
use Rattle.std.proofs.lemmas.Bool.{cases_lt}
use Rattle.std.proofs.lemmas.Nat.Gcd.{dvd_antisymm}
use Rattle.std.specs.Int.{◌∣◌}
use Rattle.kf_simplex.specs.Systems.{LinearSystem, IsSystem, right_column}
use Rattle.kf_simplex.specs.Base.{total}
use Rattle.kf_simplex.specs.Tableaus.{Row, Tableau, IsRowOf, IsTableau}
use Rattle.kf_simplex.proofs.Sums.{total-ext, total-single}
use Rattle.kf_simplex.proofs.Primitive.{one_times}

one_of : (d : ℕ) (z : ℤ) → z ≡ pos 1 → d ∣ unsigned_abs z → d ≡ 1
one_of d z e h = let k : d ∣ 1 = subst (λ (y : ℤ). d ∣ unsigned_abs y) e h in dvd_antisymm k (one-dvd d)

-- equation i at the artificial column of equation k
unit : (s : LinearSystem) → IsSystem s → (i k : ℕ) → i < s.equations → k < s.equations → k ≢ i → s.number i (s.unknowns + k) ≡ pos 0
unit s y i k l m d = y.other i k l m (λ (e : i ≡ k). d (sym e))

first_row : (s : LinearSystem) (basis : ℕ → ℕ) (i : ℕ) (r : Row) → IsSystem s → i < s.equations
    → ((c : ℕ) → c ≤ right_column s → r c ≡ s.number i c)
    → ((k : ℕ) → k < s.equations → basis k ≡ s.unknowns + k) → IsRowOf s basis i r
first_row s basis i r y l e b =
    let v = s.unknowns in let n = s.equations in
    let one : r (v + i) ≡ pos 1 = e (v + i) (omega arith) ∙ y.same i l in
    let none : (k : ℕ) → k < n → k ≢ i → r (v + k) ≡ pos 0 = λ k m d. e (v + k) (omega arith) ∙ unit s y i k l m d in
    record {
      in_space = λ c m. e c m ∙ sym (one_times (s.number i c)) ∙ ap (λ (z : ℤ). z *ℤ s.number i c) (sym one)
          ∙ sym (total-single n i (λ k. r (v + k) *ℤ s.number k c) l (λ (k : ℕ) (u : k < n) (d : k ≢ i). rw (none k u d) (omega (arith, ints))));
      positive = rw (b i l, one) (omega (arith, ints));
      zero_elsewhere = λ k m d. rw (b k m) (none k m d);
      primitive = λ d all. one_of d (r (v + i)) one (all (v + i) (omega arith));
    }

pub first_tableau : (s : LinearSystem) (t : Tableau) → IsSystem s
    → ((i c : ℕ) → i < s.equations → c ≤ right_column s → t.rows i c ≡ s.number i c)
    → ((c : ℕ) → c ≤ right_column s → t.objective c ≡ total s.equations (λ k. s.number k c))
    → ((k : ℕ) → k < s.equations → t.basis k ≡ s.unknowns + k) → IsTableau s t
first_tableau s t y e o b =
    let v = s.unknowns in let n = s.equations in
    let rows : (i : ℕ) → i < n → IsRowOf s t.basis i (t.rows i) = λ i l. first_row s t.basis i (t.rows i) y l (λ c m. e i c l m) b in
    record {
      rows = rows;
      objective = record {
        times = pos 1;
        times_positive = omega (arith, ints);
        common = pos 1;
        common_positive = omega (arith, ints);
        part = λ i. pos 1;
        artificial = λ i l a. one_times (t.rows i (t.basis i)) ∙ ap (λ (c : ℕ). t.rows i c) (b i l) ∙ e i (v + i) l (omega arith) ∙ y.same i l;
        unknown = λ i l u. absurd (let q = b i l in omega arith);
        sum = λ c l. one_times (t.objective c) ∙ o c l
            ∙ total-ext n (λ k. s.number k c) (λ i. pos 1 *ℤ t.rows i c) (λ (i : ℕ) (m : i < n). sym (e i c m l) ∙ sym (one_times (t.rows i c)));
      };
      objective_primitive = λ m l nz d all. ⊎_elim
          (λ (some : 0 < n).
          let first : total n (λ k. s.number k (v + 0)) ≡ pos 1 =
          total-single n 0 (λ k. s.number k (v + 0)) some (λ (k : ℕ) (u : k < n) (ne : k ≢ 0). y.other k 0 u some ne) ∙ y.same 0 some in
          one_of d (t.objective (v + 0)) (o (v + 0) (omega arith) ∙ first) (all (v + 0) (omega arith)))
          (λ (none : n ≤ 0). absurd (nz (o m l ∙ empty n (λ k. s.number k m) (omega arith))))
          (cases_lt 0 n);
    }
  where
    empty : (n : ℕ) (f : ℕ → ℤ) → n ≡ 0 → total n f ≡ pos 0
    empty zero f h = refl
    empty (suc n) f h = absurd (omega arith)
