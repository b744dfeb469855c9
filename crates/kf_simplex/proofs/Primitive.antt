-- Lists without common factor: a basis has one row for each of its columns.
use Rattle.std.proofs.Common.{◌≡◌, ◌≢◌, ℕ, zero, suc, ◌+◌, ◌-◌, ◌<◌, ◌≤◌, refl, sym, ap, ◌∙◌, arith, ⊎_elim, unsigned_abs}
use Rattle.std.proofs.Math.IntN.{ℤ, pos, negsuc, ◌+ℤ◌, ◌-ℤ◌, ◌*ℤ◌, neg_ℤ}
use Rattle.std.proofs.Math.Nat.{dvd-mul_right}
use Rattle.std.proofs.lemmas.Int.{ints, unsigned_abs-mul}
use Rattle.std.proofs.lemmas.Bool.{cases_eq, cases_lt}
use lib.Signed.{◌<ℤ◌}
use Rattle.kf_simplex.proofs.Pivots.{one_tableau, crossed_in_space}
use Rattle.kf_simplex.specs.Tableaus.{Row, IsInRowSpace, IsPrimitive, IsRowOf}
use Rattle.kf_simplex.specs.Systems.{LinearSystem, right_column}
use Rattle.kf_simplex.proofs.Forms.{Spans, IsBasic}
use Rattle.kf_frac.proofs.Ring.{ring, mul_add, mul_neg}
use Rattle.kf_simplex.proofs.Signs.{cancel}

-- two proportional lists have a common measure
pub record HaveCommon (N : ℕ) (a b : ℕ → ℤ) : Type 0 where
  pub base : ℕ → ℤ
  pub left : ℕ
  pub right : ℕ
  pub a_is : (x : ℕ) → x ≤ N → a x ≡ pos left *ℤ base x
  pub b_is : (x : ℕ) → x ≤ N → b x ≡ pos right *ℤ base x

split : (m n k : ℕ) (z : ℤ) → m + n ≡ k → pos k *ℤ z ≡ pos m *ℤ z +ℤ pos n *ℤ z
split m n k z e = rw (sym e) (omega (arith, ints))

common : (fuel p q N : ℕ) (a b : ℕ → ℤ) → p + q ≤ fuel → 0 < p → 0 < q → ((x : ℕ) → x ≤ N → pos p *ℤ a x ≡ pos q *ℤ b x) → HaveCommon N a b
common zero p q N a b f hp hq e = absurd (omega arith)
common (suc fuel) p q N a b f hp hq e =
    ⊎_elim
    (λ (same : p ≡ q). record {
      base = a;
      left = 1;
      right = 1;
      a_is = λ x l. omega (arith, ints);
      b_is = λ x l. cancel (b x) (pos 1 *ℤ a x) (pos q) (omega (arith, ints)) (sym (e x l) ∙ rw same (simp ring (omega (arith, ints))));
    })
    (λ (d : p ≢ q). ⊎_elim
    (λ (less : p < q).
    let h = common fuel p (q - p) N (λ x. a x -ℤ b x) b (omega arith) hp (omega arith) (λ (x : ℕ) (l : x ≤ N). let t = e x l in let g : pos q *ℤ b x ≡ pos p *ℤ b x +ℤ pos (q - p) *ℤ b x = split p (q - p) q (b x) (omega arith) in rw (mul_add (pos p) (a x) (neg_ℤ (b x)), mul_neg (pos p) (b x)) (omega (arith, ints))) in
    record { base = h.base; left = h.left + h.right; right = h.right; a_is = λ x l. let u = h.a_is x l in let v = h.b_is x l in let g = split h.left h.right (h.left + h.right) (h.base x) refl in omega (arith, ints); b_is = h.b_is })
    (λ (more : q ≤ p).
    let h = common fuel (p - q) q N a (λ x. b x -ℤ a x) (omega arith) (omega arith) hq (λ (x : ℕ) (l : x ≤ N). let t = e x l in let g : pos p *ℤ a x ≡ pos q *ℤ a x +ℤ pos (p - q) *ℤ a x = split q (p - q) p (a x) (omega arith) in rw (mul_add (pos q) (b x) (neg_ℤ (a x)), mul_neg (pos q) (a x)) (omega (arith, ints))) in
    record { base = h.base; left = h.left; right = h.left + h.right; a_is = h.a_is; b_is = λ x l. let u = h.a_is x l in let v = h.b_is x l in let g = split h.left h.right (h.left + h.right) (h.base x) refl in omega (arith, ints) })
    (cases_lt p q))
    (cases_eq p q)

-- proportional lists without common factor are the same
pub primitive_equal : (s : LinearSystem) (a b : Row) (p q : ℤ) → pos 0 <ℤ p → pos 0 <ℤ q → IsPrimitive s a → IsPrimitive s b
    → ((x : ℕ) → x ≤ right_column s → p *ℤ a x ≡ q *ℤ b x) → (x : ℕ) → x ≤ right_column s → a x ≡ b x
primitive_equal s a b (pos p) (pos q) hp hq ia ib e x l =
    let h = common (p + q) p q (right_column s) a b (omega arith) (omega (arith, ints)) (omega (arith, ints)) e in
    let one : h.left ≡ 1 = ia h.left (λ c m. rw (h.a_is c m, unsigned_abs-mul (pos h.left) (h.base c)) (dvd-mul_right h.left (unsigned_abs (h.base c)))) in
    let two : h.right ≡ 1 = ib h.right (λ c m. rw (h.b_is c m, unsigned_abs-mul (pos h.right) (h.base c)) (dvd-mul_right h.right (unsigned_abs (h.base c)))) in
    h.a_is x l ∙ ap (λ (z : ℕ). pos z *ℤ h.base x) (one ∙ sym two) ∙ sym (h.b_is x l)
primitive_equal s a b (negsuc p) q hp hq ia ib e x l = absurd (omega (arith, ints))
primitive_equal s a b (pos p) (negsuc q) hp hq ia ib e x l = absurd (omega (arith, ints))

-- a basic column determines its row
pub one_row : (s : LinearSystem) (basis : ℕ → ℕ) (rows : ℕ → Row) (b : IsBasic s basis rows) (q : Spans s rows) (i : ℕ) (a c : Row) → i < s.equations
    → IsRowOf s basis i a → IsRowOf s basis i c → (x : ℕ) → x ≤ right_column s → a x ≡ c x
one_row s basis rows b q i a c l ra rc =
    let d : Row = λ x. c (basis i) *ℤ a x -ℤ a (basis i) *ℤ c x in
    let in_space : IsInRowSpace s d = crossed_in_space s a c d (c (basis i)) (a (basis i)) (pos 1) (omega (arith, ints)) ra.in_space rc.in_space (λ (x : ℕ) (m : x ≤ right_column s). omega (arith, ints)) in
    let none : (k : ℕ) → k < s.equations → d (basis k) ≡ pos 0 = λ k m. ⊎_elim
    (λ (e : k ≡ i). rw e (omega (arith, ints)))
    (λ (n : k ≢ i). let u = ra.zero_elsewhere k m n in let v = rc.zero_elsewhere k m n in rw (u, v) (omega (arith, ints)))
    (cases_eq k i) in
    primitive_equal s a c (c (basis i)) (a (basis i)) rc.positive ra.positive ra.primitive rc.primitive
    (λ (x : ℕ) (m : x ≤ right_column s). let z = one_tableau s basis rows b q d in_space none x m in omega (arith, ints))

pub one_times : (z : ℤ) → pos 1 *ℤ z ≡ z
one_times z = omega (arith, ints)

times_left : (s : LinearSystem) (a d : Row) (h : HaveCommon (right_column s) a d) → IsPrimitive s d → (x : ℕ) → x ≤ right_column s → pos h.left *ℤ d x ≡ a x
times_left s a d h p x m =
    let two : h.right ≡ 1 = p h.right (λ c m. rw (h.b_is c m, unsigned_abs-mul (pos h.right) (h.base c)) (dvd-mul_right h.right (unsigned_abs (h.base c)))) in
    ap (λ (z : ℤ). pos h.left *ℤ z) (h.b_is x m ∙ ap (λ (n : ℕ). pos n *ℤ h.base x) two ∙ one_times (h.base x)) ∙ sym (h.a_is x m)

left_positive : (n : ℕ) (d a : ℤ) → pos n *ℤ d ≡ a → pos 0 <ℤ a → pos 0 <ℤ pos n
left_positive zero d a e p = omega (arith, ints)
left_positive (suc n) d a e p = omega (arith, ints)

-- whatever is 0 where a row is, and positive at its column, is a multiple of that row
pub row_multiple : (s : LinearSystem) (basis : ℕ → ℕ) (rows : ℕ → Row) (b : IsBasic s basis rows) (q : Spans s rows) (i : ℕ) (a d : Row) → i < s.equations
    → IsInRowSpace s a → pos 0 <ℤ a (basis i) → ((k : ℕ) → k < s.equations → k ≢ i → a (basis k) ≡ pos 0) → IsRowOf s basis i d
    → (h : ℤ) × (pos 0 <ℤ h) × ((x : ℕ) → x ≤ right_column s → h *ℤ d x ≡ a x)
row_multiple s basis rows b q i a d l ia pa za rd =
    let e : Row = λ x. d (basis i) *ℤ a x -ℤ a (basis i) *ℤ d x in
    let in_space : IsInRowSpace s e = crossed_in_space s a d e (d (basis i)) (a (basis i)) (pos 1) (omega (arith, ints)) ia rd.in_space (λ (x : ℕ) (m : x ≤ right_column s). omega (arith, ints)) in
    let none : (k : ℕ) → k < s.equations → e (basis k) ≡ pos 0 = λ k m. ⊎_elim
    (λ (e : k ≡ i). rw e (omega (arith, ints)))
    (λ (n : k ≢ i). let u = za k m n in let v = rd.zero_elsewhere k m n in rw (u, v) (omega (arith, ints)))
    (cases_eq k i) in
    go (d (basis i)) (a (basis i)) rd.positive pa (λ x m. let z = one_tableau s basis rows b q e in_space none x m in omega (arith, ints))
  where
    go : (p q : ℤ) → pos 0 <ℤ p → pos 0 <ℤ q → ((x : ℕ) → x ≤ right_column s → p *ℤ a x ≡ q *ℤ d x) → (h : ℤ) × (pos 0 <ℤ h) × ((x : ℕ) → x ≤ right_column s → h *ℤ d x ≡ a x)
    go (pos p) (pos q) hp hq e =
        let h = common (p + q) p q (right_column s) a d (omega arith) (omega (arith, ints)) (omega (arith, ints)) e in
        let m : basis i ≤ right_column s = let w = b.column i l in omega arith in
        (pos h.left, left_positive h.left (d (basis i)) (a (basis i)) (times_left s a d h rd.primitive (basis i) m) pa, times_left s a d h rd.primitive)
    go (pos p) (negsuc q) hp hq e = absurd (omega (arith, ints))
    go (negsuc p) q hp hq e = absurd (omega (arith, ints))
