-- First differences: the objective falls at each pivot.
use Rattle.std.proofs.Common.{◌≡◌, ◌≢◌, ℕ, zero, suc, ◌<◌, ◌≤◌, sym, ap, ◌∙◌, arith, ⊎_elim, subst}
use Rattle.std.proofs.Math.IntN.{ℤ, pos, ◌+ℤ◌, ◌-ℤ◌, ◌*ℤ◌, neg_ℤ}
use Rattle.std.proofs.lemmas.Int.{ints, by_lt_z}
use Rattle.std.proofs.lemmas.Bool.{cases_eq, cases_lt}
use lib.Signed.{◌<ℤ◌, ◌≤ℤ◌}
use Rattle.kf_simplex.proofs.Pivots.{one_tableau, crossed_in_space}
use Rattle.kf_simplex.specs.Tableaus.{Row, IsInRowSpace}
use Rattle.kf_simplex.specs.Systems.{LinearSystem, right_column}
use Rattle.kf_simplex.proofs.Forms.{IsPivot, Spans, IsBasic, IsObjective, IsLexPositive, Falls}
use Rattle.kf_simplex.specs.Runs.{Leaves, key}
use Rattle.kf_simplex.specs.Laws.{SameColumns}
use Rattle.kf_frac.proofs.Ring.{ring, neg_mul}
use Rattle.kf_simplex.proofs.Signs.{product_positive, factor_positive, factor_zero}
use Rattle.kf_simplex.specs.Columns.{deciding}

pub key_in_range : (s : LinearSystem) (m : ℕ) → m ≤ s.equations → deciding s.unknowns (right_column s) m ≤ right_column s
key_in_range s zero l = omega arith
key_in_range s (suc m) l = omega arith

pub lex_along : (e : ℕ) (f g : ℕ → ℤ) → ((m : ℕ) → m ≤ e → f m ≡ g m) → IsLexPositive e f → IsLexPositive e g
lex_along e f g h p = (p.0, p.1, (λ m l. sym (h m (let q = p.1 in omega arith)) ∙ p.2 m l), rw (sym (h p.0 p.1)) p.3)

pub lex_scale : (e : ℕ) (c : ℤ) (f : ℕ → ℤ) → pos 0 <ℤ c → IsLexPositive e f → IsLexPositive e (λ m. c *ℤ f m)
lex_scale e c f h p = (p.0, p.1, (λ m l. rw (p.2 m l) (omega (arith, ints))), product_positive c (f p.0) h p.3)

pub lex_unscale : (e : ℕ) (c : ℤ) (f : ℕ → ℤ) → pos 0 <ℤ c → IsLexPositive e (λ m. c *ℤ f m) → IsLexPositive e f
lex_unscale e c f h p = (p.0, p.1, (λ m l. factor_zero c (f m) h (p.2 m l)), factor_positive c (f p.0) h p.3)

pub lex_add : (e : ℕ) (f g : ℕ → ℤ) → IsLexPositive e f → IsLexPositive e g → IsLexPositive e (λ m. f m +ℤ g m)
lex_add e f g p q =
    ⊎_elim
    (λ (l : p.0 < q.0). (p.0, p.1, (λ m u. let a = p.2 m u in let b = q.2 m (omega arith) in omega (arith, ints)), (let a = p.3 in let b = q.2 p.0 l in omega (arith, ints))))
    (λ (l : q.0 ≤ p.0). ⊎_elim
    (λ (k : q.0 < p.0). (q.0, q.1, (λ m u. let a = p.2 m (omega arith) in let b = q.2 m u in omega (arith, ints)), (let a = p.2 q.0 k in let b = q.3 in omega (arith, ints))))
    (λ (k : p.0 ≤ q.0). let e : p.0 ≡ q.0 = omega arith in
    (q.0, q.1, (λ m u. let a = p.2 m (omega arith) in let b = q.2 m u in omega (arith, ints)), (let a = rw e at p.3 in let b = q.3 in omega (arith, ints))))
    (cases_lt q.0 p.0))
    (cases_lt p.0 q.0)

-- no difference, no order
pub lex_not_zero : (e : ℕ) (f : ℕ → ℤ) → IsLexPositive e f → ((m : ℕ) → m ≤ e → f m ≡ pos 0) → ⊥
lex_not_zero e f p z = let a = p.3 in let b = z p.0 p.1 in omega (arith, ints)

-- the deciding lists stay above 0 through a pivot
pub pivot_lex : (s : LinearSystem) (rows news : ℕ → Row) (r c : ℕ) → IsPivot s rows r c news → Leaves s rows c r
    → ((i : ℕ) → i < s.equations → IsLexPositive s.equations (key s (rows i)))
    → (i : ℕ) → i < s.equations → IsLexPositive s.equations (key s (news i))
pivot_lex s rows news r c p v h i l =
    let e = s.equations in
    ⊎_elim
    (λ (q : i ≡ r). subst (λ (z : ℕ). IsLexPositive e (key s (news z))) (sym q)
    (lex_along e (key s (rows r)) (key s (news r)) (λ (m : ℕ) (u : m ≤ e). sym (p.same (deciding s.unknowns (right_column s) m) (key_in_range s m u))) (h r p.row)))
    (λ (d : i ≢ r). lex_unscale e (p.factor i) (key s (news i)) (p.factor_positive i l)
    (lex_along e (λ m. rows r c *ℤ key s (rows i) m -ℤ rows i c *ℤ key s (rows r) m) (λ m. p.factor i *ℤ key s (news i) m)
    (λ (m : ℕ) (u : m ≤ e). sym (p.crossed i (deciding s.unknowns (right_column s) m) l d (key_in_range s m u)))
    (by_lt_z (pos 0) (rows i c)
    (λ (a : pos 0 <ℤ rows i c). let b = v.least i l d a in
    (b.0, b.1, (λ m u. let q = b.2 m u in omega (arith, ints)), (let q = b.3 in omega (arith, ints))))
    (λ (a : rows i c ≤ℤ pos 0). by_lt_z (rows i c) (pos 0)
    (λ (n : rows i c <ℤ pos 0).
    lex_along e (λ m. rows r c *ℤ key s (rows i) m +ℤ neg_ℤ (rows i c) *ℤ key s (rows r) m) (λ m. rows r c *ℤ key s (rows i) m -ℤ rows i c *ℤ key s (rows r) m) (λ (m : ℕ) (u : m ≤ e). simp neg_mul)
    (lex_add e (λ m. rows r c *ℤ key s (rows i) m) (λ m. neg_ℤ (rows i c) *ℤ key s (rows r) m) (lex_scale e (rows r c) (key s (rows i)) p.positive (h i l)) (lex_scale e (neg_ℤ (rows i c)) (key s (rows r)) (omega (arith, ints)) (h r p.row))))
    (λ (n : pos 0 ≤ℤ rows i c). let z : rows i c ≡ pos 0 = omega (arith, ints) in
    lex_along e (λ m. rows r c *ℤ key s (rows i) m) (λ m. rows r c *ℤ key s (rows i) m -ℤ rows i c *ℤ key s (rows r) m) (λ (m : ℕ) (u : m ≤ e). rw z (omega (arith, ints)))
    (lex_scale e (rows r c) (key s (rows i)) p.positive (h i l)))))))
    (cases_eq i r)

-- a pivot lowers the objective's deciding list
pub objective_falls : (s : LinearSystem) (w w' row : Row) (p a h scale scale' : ℤ) → pos 0 <ℤ h → pos 0 <ℤ a → pos 0 <ℤ scale
    → ((x : ℕ) → x ≤ right_column s → h *ℤ w' x ≡ p *ℤ w x -ℤ a *ℤ row x) → h *ℤ scale' ≡ p *ℤ scale
    → IsLexPositive s.equations (key s row) → Falls s w scale w' scale'
objective_falls s w w' row p a h scale scale' hp ap' sp e es l =
    lex_unscale s.equations h (λ m. scale' *ℤ key s w m -ℤ scale *ℤ key s w' m) hp
    (lex_along s.equations (λ m. scale *ℤ a *ℤ key s row m) (λ m. h *ℤ (scale' *ℤ key s w m -ℤ scale *ℤ key s w' m))
    (λ (m : ℕ) (u : m ≤ s.equations). let x = deciding s.unknowns (right_column s) m in
    let one = simp ring at (ap (λ (z : ℤ). z *ℤ w (deciding s.unknowns (right_column s) m)) es) in
    let two = simp ring at (ap (λ (z : ℤ). scale *ℤ z) (e (deciding s.unknowns (right_column s) m) (key_in_range s m u))) in
    simp ring (omega (arith, ints)))
    (lex_scale s.equations (scale *ℤ a) (key s row) (product_positive scale a sp ap') l))

pub falls_trans : (s : LinearSystem) (w1 w2 w3 : Row) (s1 s2 s3 : ℤ) → pos 0 <ℤ s1 → pos 0 <ℤ s2 → pos 0 <ℤ s3 → Falls s w1 s1 w2 s2 → Falls s w2 s2 w3 s3 → Falls s w1 s1 w3 s3
falls_trans s w1 w2 w3 s1 s2 s3 p1 p2 p3 f g =
    lex_unscale s.equations s2 (λ m. s3 *ℤ key s w1 m -ℤ s1 *ℤ key s w3 m) p2
    (lex_along s.equations (λ m. s3 *ℤ (s2 *ℤ key s w1 m -ℤ s1 *ℤ key s w2 m) +ℤ s1 *ℤ (s3 *ℤ key s w2 m -ℤ s2 *ℤ key s w3 m)) (λ m. s2 *ℤ (s3 *ℤ key s w1 m -ℤ s1 *ℤ key s w3 m))
    (λ (m : ℕ) (u : m ≤ s.equations). simp ring (omega (arith, ints)))
    (lex_add s.equations (λ m. s3 *ℤ (s2 *ℤ key s w1 m -ℤ s1 *ℤ key s w2 m)) (λ m. s1 *ℤ (s3 *ℤ key s w2 m -ℤ s2 *ℤ key s w3 m))
    (lex_scale s.equations s3 (λ m. s2 *ℤ key s w1 m -ℤ s1 *ℤ key s w2 m) p3 f) (lex_scale s.equations s1 (λ m. s3 *ℤ key s w2 m -ℤ s2 *ℤ key s w3 m) p1 g)))

-- equal sets of basic columns give proportional objectives
pub same_objective : (s : LinearSystem) (basis basis' : ℕ → ℕ) (rows : ℕ → Row) (b : IsBasic s basis rows) (q : Spans s rows) (w w' : Row) (o : IsObjective s basis w) (o' : IsObjective s basis' w')
    → SameColumns s.equations basis basis' → (x : ℕ) → x ≤ right_column s → o'.scale *ℤ w x ≡ o.scale *ℤ w' x
same_objective s basis basis' rows b q w w' o o' same x l =
    let a : Row = λ c. o'.scale *ℤ w c -ℤ o.scale *ℤ w' c in
    let in_space : IsInRowSpace s a = crossed_in_space s w w' a o'.scale o.scale (pos 1) (omega (arith, ints)) o.in_space o'.in_space (λ (c : ℕ) (m : c ≤ right_column s). omega (arith, ints)) in
    let zero_there : (i : ℕ) → i < s.equations → a (basis i) ≡ pos 0 = λ i m.
    let k = same i m in
    ⊎_elim
    (λ (u : basis i < s.unknowns).
    let one : w (basis i) ≡ pos 0 = o.unknown_zero i m u in
    let two : w' (basis i) ≡ pos 0 = rw (sym k.2) (o'.unknown_zero k.0 k.1 (rw k.2 u)) in
    rw (one, two) (omega (arith, ints)))
    (λ (u : s.unknowns ≤ basis i).
    let one : w (basis i) ≡ o.scale = o.artificial i m u in
    let two : w' (basis i) ≡ o'.scale = rw (sym k.2) (o'.artificial k.0 k.1 (rw k.2 u)) in
    rw (one, two) (omega (arith, ints)))
    (cases_lt (basis i) s.unknowns) in
    let z = one_tableau s basis rows b q a in_space zero_there x l in omega (arith, ints)

-- a basis can't be met again further down
pub not_the_same : (s : LinearSystem) (basis basis' : ℕ → ℕ) (rows : ℕ → Row) (b : IsBasic s basis rows) (q : Spans s rows) (w w' : Row) (o : IsObjective s basis w) (o' : IsObjective s basis' w')
    → SameColumns s.equations basis basis' → Falls s w o.scale w' o'.scale → ⊥
not_the_same s basis basis' rows b q w w' o o' same f =
    lex_not_zero s.equations (λ m. o'.scale *ℤ key s w m -ℤ o.scale *ℤ key s w' m) f
    (λ (m : ℕ) (u : m ≤ s.equations). let e = same_objective s basis basis' rows b q w w' o o' same (deciding s.unknowns (right_column s) m) (key_in_range s m u) in omega (arith, ints))
