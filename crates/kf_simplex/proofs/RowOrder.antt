-- The order of rows, and the least of them.
use Rattle.std.proofs.Common.{◌≡◌, ℕ, ◌+◌, ◌-◌, ◌<◌, ◌≤◌, refl, sym, ap, ◌∙◌, subst, arith, ⊎_elim, inl, inr, Option, None, Some}
use Rattle.std.proofs.Math.IntN.{ℤ, pos, ◌*ℤ◌}
use Rattle.std.proofs.lemmas.Int.{ints}
use Rattle.std.proofs.lemmas.Bool.{cases_lt}
use Rattle.std.specs.declared.cmp.Ordering.{Ordering}
use Rattle.std.specs.declared.cmp.Ordering.TheVariants.{Less, Equal, Greater}
use lib.Signed.{◌<ℤ◌, ◌≤ℤ◌}
use Rattle.kf_frac.proofs.Ring.{ring}
use Rattle.kf_simplex.proofs.Signs.{cancel, cancel_lt, product_strict}
use Rattle.kf_simplex.specs.Cells.{IsFirstDifference, key_at, IsAtMost, IsLeaving}
use Rattle.kf_simplex.specs.Columns.{deciding}

first_along : (f f' g g' : ℕ → ℤ) (n : ℕ) (o : Ordering) → ((m : ℕ) → m < n → f m ≡ f' m) → ((m : ℕ) → m < n → g m ≡ g' m) → IsFirstDifference f g n o → IsFirstDifference f' g' n o
first_along f f' g g' n Less a b h = (h.0, h.1, (λ (k : ℕ) (l : k < h.0). let q = h.1 in sym (a k (omega arith)) ∙ h.2 k l ∙ b k (omega arith)), rw (sym (a h.0 h.1), sym (b h.0 h.1)) h.3)
first_along f f' g g' n Greater a b h = (h.0, h.1, (λ (k : ℕ) (l : k < h.0). let q = h.1 in sym (a k (omega arith)) ∙ h.2 k l ∙ b k (omega arith)), rw (sym (a h.0 h.1), sym (b h.0 h.1)) h.3)
first_along f f' g g' n Equal a b h = λ k l. sym (a k l) ∙ h k l ∙ b k l

-- comparing the rows at two places by their numbers
pub rows_order : (cells : ℕ → ℕ → ℤ) (a b : ℕ → ℤ) (right unknowns c i r : ℕ) (o : Ordering) → ((k : ℕ) → a k ≡ cells i k) → ((k : ℕ) → b k ≡ cells r k)
    → IsFirstDifference (λ m. a (deciding unknowns right m) *ℤ b c) (λ m. b (deciding unknowns right m) *ℤ a c) (right + 1 - unknowns) o
    → IsFirstDifference (key_at cells (right + 1) unknowns c i r) (key_at cells (right + 1) unknowns c r i) (right + 1 - unknowns) o
rows_order cells a b right unknowns c i r o ea eb h =
    let last : right + 1 - 1 ≡ right = omega arith in
    first_along (λ m. a (deciding unknowns right m) *ℤ b c) (key_at cells (right + 1) unknowns c i r) (λ m. b (deciding unknowns right m) *ℤ a c) (key_at cells (right + 1) unknowns c r i) (right + 1 - unknowns) o
    (λ m l. rw last (let u = ea (deciding unknowns right m) in let v = eb c in cc))
    (λ m l. rw last (let u = eb (deciding unknowns right m) in let v = ea c in cc))
    h

-- chains of comparisons of three fractions
eq_eq : (f g h a b d : ℤ) → pos 0 <ℤ b → f *ℤ b ≡ g *ℤ a → g *ℤ d ≡ h *ℤ b → f *ℤ d ≡ h *ℤ a
eq_eq f g h a b d p e1 e2 = cancel (f *ℤ d) (h *ℤ a) b p (simp ring (let u = simp ring at (ap (λ (z : ℤ). z *ℤ d) e1) in let v = simp ring at (ap (λ (z : ℤ). z *ℤ a) e2) in omega (arith, ints)))

lt_eq : (f g h a b d : ℤ) → pos 0 <ℤ b → pos 0 <ℤ d → (f *ℤ b) <ℤ (g *ℤ a) → g *ℤ d ≡ h *ℤ b → (f *ℤ d) <ℤ (h *ℤ a)
lt_eq f g h a b d p q e1 e2 = cancel_lt (f *ℤ d) (h *ℤ a) b p (simp ring (let u = simp ring at (product_strict (f *ℤ b) (g *ℤ a) d q e1) in let v = simp ring at (ap (λ (z : ℤ). z *ℤ a) e2) in omega (arith, ints)))

eq_lt : (f g h a b d : ℤ) → pos 0 <ℤ a → pos 0 <ℤ b → f *ℤ b ≡ g *ℤ a → (g *ℤ d) <ℤ (h *ℤ b) → (f *ℤ d) <ℤ (h *ℤ a)
eq_lt f g h a b d p q e1 e2 = cancel_lt (f *ℤ d) (h *ℤ a) b q (simp ring (let u = simp ring at (ap (λ (z : ℤ). z *ℤ d) e1) in let v = simp ring at (product_strict (g *ℤ d) (h *ℤ b) a p e2) in omega (arith, ints)))

lt_lt : (f g h a b d : ℤ) → pos 0 <ℤ a → pos 0 <ℤ b → pos 0 <ℤ d → (f *ℤ b) <ℤ (g *ℤ a) → (g *ℤ d) <ℤ (h *ℤ b) → (f *ℤ d) <ℤ (h *ℤ a)
lt_lt f g h a b d p q r e1 e2 = cancel_lt (f *ℤ d) (h *ℤ a) b q (simp ring (let u = simp ring at (product_strict (f *ℤ b) (g *ℤ a) d r e1) in let v = simp ring at (product_strict (g *ℤ d) (h *ℤ b) a p e2) in omega (arith, ints)))

pub at_most_trans : (f g h : ℕ → ℤ) (a b d : ℤ) (n : ℕ) → pos 0 <ℤ a → pos 0 <ℤ b → pos 0 <ℤ d
    → IsAtMost (λ m. f m *ℤ b) (λ m. g m *ℤ a) n → IsAtMost (λ m. g m *ℤ d) (λ m. h m *ℤ b) n → IsAtMost (λ m. f m *ℤ d) (λ m. h m *ℤ a) n
at_most_trans f g h a b d n p q r (inl x) (inl y) = ⊎_elim
    (λ (l : x.0 < y.0). inl (x.0, x.1, (λ (k : ℕ) (u : k < x.0). eq_eq (f k) (g k) (h k) a b d q (x.2 k u) (y.2 k (omega arith))), lt_eq (f x.0) (g x.0) (h x.0) a b d q r x.3 (y.2 x.0 l)))
    (λ (l : y.0 ≤ x.0). ⊎_elim
    (λ (m : y.0 < x.0). inl (y.0, y.1, (λ (k : ℕ) (u : k < y.0). eq_eq (f k) (g k) (h k) a b d q (x.2 k (omega arith)) (y.2 k u)), eq_lt (f y.0) (g y.0) (h y.0) a b d p q (x.2 y.0 m) y.3))
    (λ (m : x.0 ≤ y.0). let e : x.0 ≡ y.0 = omega arith in
    inl (y.0, y.1, (λ (k : ℕ) (u : k < y.0). eq_eq (f k) (g k) (h k) a b d q (x.2 k (omega arith)) (y.2 k u)), lt_lt (f y.0) (g y.0) (h y.0) a b d p q r (subst (λ (z : ℕ). (f z *ℤ b) <ℤ (g z *ℤ a)) e x.3) y.3))
    (cases_lt y.0 x.0))
    (cases_lt x.0 y.0)
at_most_trans f g h a b d n p q r (inl x) (inr y) = inl (x.0, x.1, (λ (k : ℕ) (u : k < x.0). let l = x.1 in eq_eq (f k) (g k) (h k) a b d q (x.2 k u) (y k (omega arith))), lt_eq (f x.0) (g x.0) (h x.0) a b d q r x.3 (y x.0 x.1))
at_most_trans f g h a b d n p q r (inr x) (inl y) = inl (y.0, y.1, (λ (k : ℕ) (u : k < y.0). let l = y.1 in eq_eq (f k) (g k) (h k) a b d q (x k (omega arith)) (y.2 k u)), eq_lt (f y.0) (g y.0) (h y.0) a b d p q (x y.0 y.1) y.3)
at_most_trans f g h a b d n p q r (inr x) (inr y) = inr (λ k l. eq_eq (f k) (g k) (h k) a b d q (x k l) (y k l))

-- the next row
pub leaving_skip : (cells : ℕ → ℕ → ℤ) (w unknowns c i : ℕ) (best : Option ℕ) → cells i c ≤ℤ pos 0 → IsLeaving cells w unknowns c i best → IsLeaving cells w unknowns c (i + 1) best
leaving_skip cells w unknowns c i None z h = λ k l. ⊎_elim (λ (m : k < i). h k m) (λ (m : i ≤ k). let e : k ≡ i = omega arith in rw e z) (cases_lt k i)
leaving_skip cells w unknowns c i (Some r) z h = ((let l = h.0 in omega arith), h.1, λ k l p. ⊎_elim (λ (m : k < i). h.2 k m p) (λ (m : i ≤ k). let e : k ≡ i = omega arith in let p' = rw e at p in absurd (omega (arith, ints))) (cases_lt k i))

pub leaving_first : (cells : ℕ → ℕ → ℤ) (w unknowns c i : ℕ) → pos 0 <ℤ cells i c → IsLeaving cells w unknowns c i None → IsLeaving cells w unknowns c (i + 1) (Some i)
leaving_first cells w unknowns c i z h = (omega arith, z, λ k l p. ⊎_elim (λ (m : k < i). let q = h k m in absurd (omega (arith, ints))) (λ (m : i ≤ k). let e : k ≡ i = omega arith in rw e (inr (λ j u. refl))) (cases_lt k i))

pub leaving_less : (cells : ℕ → ℕ → ℤ) (w unknowns c i r : ℕ) → pos 0 <ℤ cells i c → IsFirstDifference (key_at cells w unknowns c i r) (key_at cells w unknowns c r i) (w - unknowns) Less
    → IsLeaving cells w unknowns c i (Some r) → IsLeaving cells w unknowns c (i + 1) (Some i)
leaving_less cells w unknowns c i r z d h = (
  omega arith,
  z,
  λ k l p. ⊎_elim
      (λ (m : k < i). at_most_trans (λ m. cells i (deciding unknowns (w - 1) m)) (λ m. cells r (deciding unknowns (w - 1) m)) (λ m. cells k (deciding unknowns (w - 1) m))
      (cells i c) (cells r c) (cells k c) (w - unknowns) z h.1 p (inl d) (h.2 k m p))
      (λ (m : i ≤ k). let e : k ≡ i = omega arith in rw e (inr (λ j u. refl))) (cases_lt k i),
)

pub leaving_not_less : (cells : ℕ → ℕ → ℤ) (w unknowns c i r : ℕ) (o : Ordering) → pos 0 <ℤ cells i c → IsFirstDifference (key_at cells w unknowns c i r) (key_at cells w unknowns c r i) (w - unknowns) o → (o ≡ Less → ⊥)
    → IsLeaving cells w unknowns c i (Some r) → IsLeaving cells w unknowns c (i + 1) (Some r)
leaving_not_less cells w unknowns c i r Less z d n h = absurd (n refl)
leaving_not_less cells w unknowns c i r Equal z d n h = ((let l = h.0 in omega arith), h.1, λ k l p. ⊎_elim (λ (m : k < i). h.2 k m p) (λ (m : i ≤ k). let e : k ≡ i = omega arith in rw e (inr (λ j u. sym (d j u)))) (cases_lt k i))
leaving_not_less cells w unknowns c i r Greater z d n h = ((let l = h.0 in omega arith), h.1, λ k l p. ⊎_elim (λ (m : k < i). h.2 k m p) (λ (m : i ≤ k). let e : k ≡ i = omega arith in rw e (inl (d.0, d.1, (λ j u. sym (d.2 j u)), d.3))) (cases_lt k i))
