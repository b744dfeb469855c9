-- A system has one run.
use Rattle.std.proofs.Common.{◌≡◌, ◌≢◌, ℕ, zero, suc, ◌+◌, ◌<◌, ◌≤◌, refl, sym, ap, ◌∙◌, arith, ⊎_elim, ◌⊎◌, inl, inr, subst, List, [], ◌∷◌, length}
use Rattle.std.proofs.Math.IntN.{ℤ, pos, negsuc, ◌*ℤ◌}
use Rattle.std.proofs.lemmas.Int.{ints}
use Rattle.std.proofs.lemmas.Bool.{cases_eq, cases_lt}
use lib.Signed.{◌<ℤ◌}
use Rattle.kf_simplex.proofs.Primitive.{one_row, primitive_equal}
use Rattle.kf_simplex.proofs.Falls.{same_objective, key_in_range}
use Rattle.kf_simplex.proofs.RunFacts.{IsGood, basic_of, run_facts}
use Rattle.kf_simplex.proofs.Signs.{factor_zero}
use Rattle.kf_simplex.specs.Tableaus.{Row, Tableau, IsRowOf}
use Rattle.kf_simplex.specs.Systems.{LinearSystem, IsSystem, right_column}
use Rattle.kf_simplex.specs.Runs.{Enters, IsRun, Leaves, key}
use Rattle.kf_simplex.specs.Laws.{SameTableau}
use Rattle.kf_simplex.specs.Columns.{deciding}

row_along : (s : LinearSystem) (a b : ℕ → ℕ) → ((k : ℕ) → k < s.equations → a k ≡ b k) → (i : ℕ) (r : Row) → i < s.equations → IsRowOf s a i r → IsRowOf s b i r
row_along s a b e i r l h = record {
  in_space = h.in_space;
  positive = rw (sym (e i l)) h.positive;
  zero_elsewhere = λ k m n. rw (sym (e k m)) (h.zero_elsewhere k m n);
  primitive = h.primitive;
}

-- either something below n differs from 0, or nothing does
find_nonzero : (n : ℕ) (f : ℕ → ℤ) → ((k : ℕ) × (k < n) × (f k ≢ pos 0)) ⊎ ((k : ℕ) → k < n → f k ≡ pos 0)
find_nonzero zero f = inr (λ k l. absurd (omega arith))
find_nonzero (suc n) f = ⊎_elim (λ (w : (k : ℕ) × (k < n) × (f k ≢ pos 0)). inl (w.0, omega arith, w.2))
    (λ (z : (k : ℕ) → k < n → f k ≡ pos 0). last (f n) refl z)
    (find_nonzero n f)
  where
    last : (y : ℤ) → f n ≡ y → ((k : ℕ) → k < n → f k ≡ pos 0) → ((k : ℕ) × (k < suc n) × (f k ≢ pos 0)) ⊎ ((k : ℕ) → k < suc n → f k ≡ pos 0)
    last (pos zero) e z = inr (λ (k : ℕ) (l : k < suc n). ⊎_elim (λ (m : k < n). z k m) (λ (m : n ≤ k). let q : k ≡ n = omega arith in ap f q ∙ e) (cases_lt k n))
    last (pos (suc y)) e z = inl (n, omega arith, (λ q. let x = sym e ∙ q in absurd (omega (arith, ints))))
    last (negsuc y) e z = inl (n, omega arith, (λ q. let x = sym e ∙ q in absurd (omega (arith, ints))))

zero_of : (a b p q : ℤ) → pos 0 <ℤ q → a ≡ pos 0 → p *ℤ a ≡ q *ℤ b → b ≡ pos 0
zero_of a b p q h z e = factor_zero q b h (sym e ∙ rw z (omega (arith, ints)))

-- the basis determines the tableau
pub same_from_basis : (s : LinearSystem) (t u : Tableau) → IsGood s t → IsGood s u → ((k : ℕ) → k < s.equations → t.basis k ≡ u.basis k) → SameTableau s t u
same_from_basis s t u g h e = record {
  basis = e;
  rows = λ i c l m. one_row s u.basis u.rows (basic_of s u h) h.spans i (t.rows i) (u.rows i) l (row_along s t.basis u.basis e i (t.rows i) l (g.tableau.rows i l)) (h.tableau.rows i l) c m;
  objective = λ c m. objective c m;
}
  where
    scaled : (x : ℕ) → x ≤ right_column s → h.tableau.objective.scale *ℤ t.objective x ≡ g.tableau.objective.scale *ℤ u.objective x
    scaled = same_objective s t.basis u.basis t.rows (basic_of s t g) g.spans t.objective u.objective g.tableau.objective h.tableau.objective (λ i l. (i, l, sym (e i l)))

    objective : (c : ℕ) → c ≤ right_column s → t.objective c ≡ u.objective c
    objective c m = ⊎_elim
        (λ (w : (k : ℕ) × (k < right_column s + 1) × (t.objective k ≢ pos 0)).
        primitive_equal s t.objective u.objective h.tableau.objective.scale g.tableau.objective.scale h.tableau.objective.scale_positive g.tableau.objective.scale_positive
        (g.tableau.objective_primitive w.0 (let l = w.1 in omega arith) w.2)
        (h.tableau.objective_primitive w.0 (let l = w.1 in omega arith) (λ z. w.2 (zero_of (u.objective w.0) (t.objective w.0) g.tableau.objective.scale h.tableau.objective.scale h.tableau.objective.scale_positive z (sym (scaled w.0 (let l = w.1 in omega arith))))))
        scaled c m)
        (λ (z : (k : ℕ) → k < right_column s + 1 → t.objective k ≡ pos 0).
        z c (omega arith) ∙ sym (zero_of (t.objective c) (u.objective c) h.tableau.objective.scale g.tableau.objective.scale g.tableau.objective.scale_positive (z c (omega arith)) (scaled c m)))
        (find_nonzero (right_column s + 1) t.objective)

one_entering : (s : LinearSystem) (w w' : Row) (c d : ℕ) → ((x : ℕ) → x ≤ right_column s → w x ≡ w' x) → Enters s w c → Enters s w' d → c ≡ d
one_entering s w w' c d e a b = ⊎_elim
    (λ (l : c < d). let p = a.positive in let q = b.least c l in let r = e c (let u = b.unknown in omega arith) in absurd (omega (arith, ints)))
    (λ (l : d ≤ c). ⊎_elim
    (λ (m : d < c). let p = b.positive in let q = a.least d m in let r = e d (let u = a.unknown in omega arith) in absurd (omega (arith, ints)))
    (λ (m : c ≤ d). omega arith) (cases_lt d c))
    (cases_lt c d)

-- first differences can't go both ways
below_once : (e : ℕ) (f g : ℕ → ℤ) → (n m : ℕ) → ((k : ℕ) → k < n → f k ≡ g k) → f n <ℤ g n → ((k : ℕ) → k < m → g k ≡ f k) → g m <ℤ f m → ⊥
below_once e f g n m a p b q = ⊎_elim
    (λ (l : n < m). let z = b n l in omega (arith, ints))
    (λ (l : m ≤ n). ⊎_elim (λ (k : m < n). let z = a m k in omega (arith, ints)) (λ (k : n ≤ m). let y : n ≡ m = omega arith in let p' = rw y at p in omega (arith, ints)) (cases_lt m n))
    (cases_lt n m)

carry : (a b p q a' b' p' q' : ℤ) → a ≡ a' → b ≡ b' → p ≡ p' → q ≡ q' → (a' *ℤ p') <ℤ (b' *ℤ q') → (a *ℤ p) <ℤ (b *ℤ q)
carry a b p q a' b' p' q' e1 e2 e3 e4 h = rw (e1, e2, e3, e4) h

one_leaving : (s : LinearSystem) (rows rows' : ℕ → Row) (c r i : ℕ) → c < s.unknowns → ((i x : ℕ) → i < s.equations → x ≤ right_column s → rows i x ≡ rows' i x) → Leaves s rows c r → Leaves s rows' c i → r ≡ i
one_leaving s rows rows' c r i lc e a b = ⊎_elim (λ (q : r ≡ i). q)
    (λ (d : r ≢ i).
    let ei = e i c b.row (omega arith) in let er = e r c a.row (omega arith) in
    let x = a.least i b.row (λ z. d (sym z)) (rw ei b.positive) in
    let y = b.least r a.row d (rw (sym er) a.positive) in
    absurd (below_once s.equations (λ m. key s (rows r) m *ℤ rows i c) (λ m. key s (rows i) m *ℤ rows r c) x.0 y.0 x.2 x.3
    (λ (k : ℕ) (l : k < y.0). rw (e i (deciding s.unknowns (right_column s) k) b.row (key_in_range s k (let z = y.1 in omega arith)), e r (deciding s.unknowns (right_column s) k) a.row (key_in_range s k (let z = y.1 in omega arith)), ei, er) (y.2 k l))
    (carry (rows i (deciding s.unknowns (right_column s) y.0)) (rows r (deciding s.unknowns (right_column s) y.0)) (rows r c) (rows i c) (rows' i (deciding s.unknowns (right_column s) y.0)) (rows' r (deciding s.unknowns (right_column s) y.0)) (rows' r c) (rows' i c)
    (e i (deciding s.unknowns (right_column s) y.0) b.row (key_in_range s y.0 y.1)) (e r (deciding s.unknowns (right_column s) y.0) a.row (key_in_range s y.0 y.1)) er ei y.3)))
    (cases_eq r i)

-- two runs of one length end with the same numbers
pub one_run : (s : LinearSystem) (limit : ℕ) (t u : Tableau) (ts us : List Tableau) → IsSystem s → IsRun s limit (t ∷ ts) → IsRun s limit (u ∷ us) → length ts ≡ length us → SameTableau s t u
one_run s limit t u [] [] y a b e = same_from_basis s t u ((run_facts s limit t [] y a).0) ((run_facts s limit u [] y b).0) (λ k l. a.1 k l ∙ sym (b.1 k l))
one_run s limit t u [] (v ∷ vs) y a b e = absurd (omega arith)
one_run s limit t u (v ∷ vs) [] y a b e = absurd (omega arith)
one_run s limit t u (v ∷ vs) (w ∷ ws) y a b e =
    let h = one_run s limit v w vs ws y a.0 b.0 (omega arith) in
    let c = one_entering s v.objective w.objective a.2.column b.2.column h.objective a.2.enters b.2.enters in
    let r = one_leaving s v.rows w.rows b.2.column a.2.row b.2.row b.2.enters.unknown h.rows (subst (λ (z : ℕ). Leaves s v.rows z a.2.row) c a.2.leaves) b.2.leaves in
    same_from_basis s t u ((run_facts s limit t (v ∷ vs) y a).0) ((run_facts s limit u (w ∷ ws) y b).0)
    (λ k l. ⊎_elim
    (λ (q : k ≡ a.2.row). let m = q ∙ r in ap t.basis q ∙ a.2.replaced ∙ c ∙ sym b.2.replaced ∙ ap u.basis (sym m))
    (λ (d : k ≢ a.2.row). a.2.kept k l d ∙ h.basis k l ∙ sym (b.2.kept k l (λ z. d (z ∙ sym r))))
    (cases_eq k a.2.row))
