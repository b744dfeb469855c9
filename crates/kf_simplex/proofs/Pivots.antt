-- What a pivot keeps, and what the rows of a basis span.
use Rattle.std.proofs.Common.{◌≡◌, ◌≢◌, ℕ, ◌+◌, ◌<◌, ◌≤◌, sym, ap, ◌∙◌, arith, ⊎_elim, subst}
use Rattle.std.proofs.Math.IntN.{ℤ, pos, ◌+ℤ◌, ◌-ℤ◌, ◌*ℤ◌, *ℤ_comm}
use Rattle.std.proofs.lemmas.Int.{ints}
use Rattle.std.proofs.lemmas.Bool.{cases_eq, cases_lt}
use lib.Signed.{◌<ℤ◌, ◌≤ℤ◌}
use Rattle.kf_simplex.proofs.Sums.{total-ext, total-scale, total-combine, total-swap, total_all_zero, total-single, total-scale_right, total-add, find_below, total_zero_each, choose, choose-same, choose-other}
use Rattle.kf_simplex.specs.Tableaus.{Row, IsInRowSpace}
use Rattle.kf_simplex.specs.Systems.{LinearSystem, right_column}
use Rattle.kf_simplex.specs.Base.{total}
use Rattle.kf_simplex.proofs.Forms.{IsPivot, Spans, IsBasic, IsReadOff}
use Rattle.kf_simplex.specs.Solutions.{Solves, Refutes}
use Rattle.kf_frac.proofs.Ring.{mul_assoc, mul_left_comm, mul_add, add_mul}
use Rattle.kf_simplex.proofs.Signs.{cancel, product_positive, product_not_negative, factor_positive, factor_zero, factor_not_negative}
use Rattle.kf_simplex.specs.Turns.{combined}

-- combinations stay combinations under cross products and the removal of a factor
pub crossed_in_space : (s : LinearSystem) (a b r : Row) (p q h : ℤ) → pos 0 <ℤ h → IsInRowSpace s a → IsInRowSpace s b
    → ((x : ℕ) → x ≤ right_column s → h *ℤ r x ≡ p *ℤ a x -ℤ q *ℤ b x) → IsInRowSpace s r
crossed_in_space s a b r p q h l ia ib e c m =
    let v = s.unknowns in let n = s.equations in
    let scaled : h *ℤ combined s r c ≡ p *ℤ combined s a c -ℤ q *ℤ combined s b c =
    sym (total-scale n h (λ k. r (v + k) *ℤ s.number k c))
    ∙ total-ext n (λ k. h *ℤ (r (v + k) *ℤ s.number k c)) (λ k. (p *ℤ a (v + k) -ℤ q *ℤ b (v + k)) *ℤ s.number k c)
    (λ (k : ℕ) (w : k < n). sym (mul_assoc h (r (v + k)) (s.number k c)) ∙ ap (λ (z : ℤ). z *ℤ s.number k c) (e (v + k) (omega arith)))
    ∙ total-combine n p q (λ k. a (v + k)) (λ k. b (v + k)) (λ k. s.number k c) in
    cancel (r c) (combined s r c) h l (e c m ∙ (let ea = ia c m in let eb = ib c m in cc))

-- the new rows are combinations of the equations
pub pivot_in_space : (s : LinearSystem) (basis : ℕ → ℕ) (rows news : ℕ → Row) (r c : ℕ) → IsBasic s basis rows → IsPivot s rows r c news
    → (i : ℕ) → i < s.equations → IsInRowSpace s (news i)
pivot_in_space s basis rows news r c b p i l =
    ⊎_elim
    (λ (e : i ≡ r). subst (λ (z : ℕ). IsInRowSpace s (news z)) (sym e)
    (crossed_in_space s (rows r) (rows r) (news r) (pos 1) (pos 0) (pos 1) (omega (arith, ints)) (b.in_space r p.row) (b.in_space r p.row)
    (λ (x : ℕ) (m : x ≤ right_column s). let q = p.same x m in omega (arith, ints))))
    (λ (d : i ≢ r). crossed_in_space s (rows i) (rows r) (news i) (rows r c) (rows i c) (p.factor i) (p.factor_positive i l) (b.in_space i l) (b.in_space r p.row)
    (λ (x : ℕ) (m : x ≤ right_column s). p.crossed i x l d m))
    (cases_eq i r)

-- the new rows at their own columns
pub pivot_positive : (s : LinearSystem) (basis basis' : ℕ → ℕ) (rows news : ℕ → Row) (r c : ℕ) → IsBasic s basis rows → IsPivot s rows r c news
    → basis' r ≡ c → ((k : ℕ) → k < s.equations → k ≢ r → basis' k ≡ basis k)
    → (i : ℕ) → i < s.equations → pos 0 <ℤ news i (basis' i)
pivot_positive s basis basis' rows news r c b p er ek i l =
    ⊎_elim
    (λ (e : i ≡ r). subst (λ (z : ℕ). pos 0 <ℤ news z (basis' z)) (sym e) (rw er (rw (p.same c (let q = p.column in omega arith)) p.positive)))
    (λ (d : i ≢ r). rw (ek i l d) (factor_positive (p.factor i) (news i (basis i)) (p.factor_positive i l)
    (let q = b.column i l in rw (p.crossed i (basis i) l d (omega arith), b.zero_elsewhere r i p.row l d)
    (let m = product_positive (rows r c) (rows i (basis i)) p.positive (b.positive i l) in omega (arith, ints)))))
    (cases_eq i r)

pub pivot_zero : (s : LinearSystem) (basis basis' : ℕ → ℕ) (rows news : ℕ → Row) (r c : ℕ) → IsBasic s basis rows → IsPivot s rows r c news
    → basis' r ≡ c → ((k : ℕ) → k < s.equations → k ≢ r → basis' k ≡ basis k)
    → (i k : ℕ) → i < s.equations → k < s.equations → k ≢ i → news i (basis' k) ≡ pos 0
pivot_zero s basis basis' rows news r c b p er ek i k l m ne =
    ⊎_elim
    (λ (e : i ≡ r). let d : k ≢ r = omega arith in
    let same : news r (basis k) ≡ pos 0 = p.same (basis k) (let q = b.column k m in omega arith) ∙ b.zero_elsewhere r k p.row m d in
    rw (ek k m d) (subst (λ (z : ℕ). news z (basis k) ≡ pos 0) (sym e) same))
    (λ (d : i ≢ r). ⊎_elim
    (λ (e : k ≡ r). subst (λ (z : ℕ). news i (basis' z) ≡ pos 0) (sym e) (rw er
    (factor_zero (p.factor i) (news i c) (p.factor_positive i l) (let q = p.column in p.crossed i c l d (omega arith) ∙ omega (arith, ints)))))
    (λ (f : k ≢ r). rw (ek k m f) (factor_zero (p.factor i) (news i (basis k)) (p.factor_positive i l)
    (let q = b.column k m in rw (p.crossed i (basis k) l d (omega arith), b.zero_elsewhere i k l m ne, b.zero_elsewhere r k p.row m f) (omega (arith, ints)))))
    (cases_eq k r))
    (cases_eq i r)

-- the basic entries of a combination say how often each row stands in it
pub record IsCombined (s : LinearSystem) (basis : ℕ → ℕ) (rows : ℕ → Row) (scale : ℤ) (a : Row) : Type 0 where
  pub share : ℕ → ℤ
  pub whole : (c : ℕ) → c ≤ right_column s → scale *ℤ a c ≡ total s.equations (λ i. share i *ℤ rows i c)
  pub at_basic : (i : ℕ) → i < s.equations → scale *ℤ a (basis i) ≡ share i *ℤ rows i (basis i)

pub spanned : (s : LinearSystem) (basis : ℕ → ℕ) (rows : ℕ → Row) (b : IsBasic s basis rows) (p : Spans s rows) (a : Row) → IsInRowSpace s a → IsCombined s basis rows p.scale a
spanned s basis rows b p a i =
    let v = s.unknowns in let n = s.equations in
    let share : ℕ → ℤ = λ i. total n (λ k. a (v + k) *ℤ p.share k i) in
    let whole : (c : ℕ) → c ≤ right_column s → p.scale *ℤ a c ≡ total n (λ i. share i *ℤ rows i c) = λ c l.
    ap (λ (z : ℤ). p.scale *ℤ z) (i c l)
    ∙ sym (total-scale n p.scale (λ k. a (v + k) *ℤ s.number k c))
    ∙ total-ext n (λ k. p.scale *ℤ (a (v + k) *ℤ s.number k c)) (λ k. total n (λ i. a (v + k) *ℤ (p.share k i *ℤ rows i c)))
    (λ (k : ℕ) (m : k < n). mul_left_comm p.scale (a (v + k)) (s.number k c) ∙ ap (λ (z : ℤ). a (v + k) *ℤ z) (p.equation k c m l) ∙ sym (total-scale n (a (v + k)) (λ i. p.share k i *ℤ rows i c)))
    ∙ total-swap n n (λ k i. a (v + k) *ℤ (p.share k i *ℤ rows i c))
    ∙ total-ext n (λ i. total n (λ k. a (v + k) *ℤ (p.share k i *ℤ rows i c))) (λ i. share i *ℤ rows i c)
    (λ (i : ℕ) (m : i < n). total-ext n (λ k. a (v + k) *ℤ (p.share k i *ℤ rows i c)) (λ k. a (v + k) *ℤ p.share k i *ℤ rows i c) (λ (k : ℕ) (q : k < n). sym (mul_assoc (a (v + k)) (p.share k i) (rows i c)))
    ∙ total-scale_right n (rows i c) (λ k. a (v + k) *ℤ p.share k i)) in
    record {
      share = share;
      whole = whole;
      at_basic = λ j l. whole (basis j) (let q = b.column j l in omega arith)
          ∙ total-single n j (λ i. share i *ℤ rows i (basis j)) l (λ (k : ℕ) (m : k < n) (d : k ≢ j). rw (b.zero_elsewhere k j m l (omega arith)) (omega (arith, ints)));
    }

pub one_tableau : (s : LinearSystem) (basis : ℕ → ℕ) (rows : ℕ → Row) (b : IsBasic s basis rows) (p : Spans s rows) (a : Row) → IsInRowSpace s a
    → ((i : ℕ) → i < s.equations → a (basis i) ≡ pos 0) → (c : ℕ) → c ≤ right_column s → a c ≡ pos 0
one_tableau s basis rows b p a i z c l =
    let n = s.equations in
    let q = spanned s basis rows b p a i in
    let none : (k : ℕ) → k < n → q.share k ≡ pos 0 = λ k m.
    factor_zero (rows k (basis k)) (q.share k) (b.positive k m) (let e = q.at_basic k m in let o = z k m in *ℤ_comm (rows k (basis k)) (q.share k) ∙ sym e ∙ rw o (omega (arith, ints))) in
    factor_zero p.scale (a c) p.positive (q.whole c l ∙ total_all_zero n (λ i. q.share i *ℤ rows i c) (λ (k : ℕ) (m : k < n). rw (none k m) (omega (arith, ints))))

pub refutes_of_objective : (s : LinearSystem) (w : Row) → IsInRowSpace s w → ((j : ℕ) → j < s.unknowns → w j ≤ℤ pos 0) → pos 0 <ℤ w (right_column s) → Refutes s (λ k. w (s.unknowns + k))
refutes_of_objective s w i n p = record {
  unknowns = λ j l. rw (sym (i j (omega arith))) (n j l);
  right = rw (sym (i (right_column s) (omega arith))) p;
}

-- the solution of a basis satisfies its rows
row_solves : (s : LinearSystem) (basis : ℕ → ℕ) (rows : ℕ → Row) (b : IsBasic s basis rows) (x : ℕ → ℤ) (d : ℤ) → IsReadOff s basis rows x d
    → ((i : ℕ) → i < s.equations → s.unknowns ≤ basis i → rows i (right_column s) ≡ pos 0)
    → (i : ℕ) → i < s.equations → total s.unknowns (λ j. rows i j *ℤ x j) ≡ d *ℤ rows i (right_column s)
row_solves s basis rows b x d o z i l =
    let v = s.unknowns in let n = s.equations in
    let other : (j : ℕ) → j < v → j ≢ basis i → rows i j *ℤ x j ≡ pos 0 = λ j m f.
    ⊎_elim
    (λ (w : (k : ℕ) × (k < n) × (basis k ≡ j)).
    let r : rows i (basis w.0) ≡ pos 0 = b.zero_elsewhere i w.0 l w.1 (λ (e : w.0 ≡ i). f (sym w.2 ∙ ap basis e)) in
    rw (sym (ap (rows i) w.2) ∙ r) (omega (arith, ints)))
    (λ (no : (k : ℕ) → k < n → basis k ≢ j). rw (o.not_basic j m no) (omega (arith, ints)))
    (find_below n basis j) in
    ⊎_elim
    (λ (m : basis i < v). total-single v (basis i) (λ j. rows i j *ℤ x j) m other ∙ o.basic i l m)
    (λ (m : v ≤ basis i). total_all_zero v (λ j. rows i j *ℤ x j) (λ (j : ℕ) (q : j < v). other j q (omega arith)) ∙ (let e = z i l m in rw e (omega (arith, ints))))
    (cases_lt (basis i) v)

pub read_off_solves : (s : LinearSystem) (basis : ℕ → ℕ) (rows : ℕ → Row) (b : IsBasic s basis rows) (p : Spans s rows) (x : ℕ → ℤ) (d : ℤ) → IsReadOff s basis rows x d
    → ((i : ℕ) → i < s.equations → pos 0 ≤ℤ rows i (right_column s))
    → ((i : ℕ) → i < s.equations → s.unknowns ≤ basis i → rows i (right_column s) ≡ pos 0)
    → Solves s x d
read_off_solves s basis rows b p x d o nn z =
    let v = s.unknowns in let n = s.equations in
    record {
      positive = o.positive;
      not_negative = λ j m. ⊎_elim
          (λ (w : (k : ℕ) × (k < n) × (basis k ≡ j)).
          let q : pos 0 ≤ℤ (rows w.0 (basis w.0) *ℤ x (basis w.0)) = rw (o.basic w.0 w.1 (rw w.2 m)) (product_not_negative d (rows w.0 (right_column s)) (omega (arith, ints)) (nn w.0 w.1)) in
          subst (λ (y : ℕ). pos 0 ≤ℤ x y) w.2 (factor_not_negative (rows w.0 (basis w.0)) (x (basis w.0)) (b.positive w.0 w.1) q))
          (λ (no : (k : ℕ) → k < n → basis k ≢ j). rw (o.not_basic j m no) (omega (arith, ints)))
          (find_below n basis j);
      equation = λ k m. cancel (total v (λ j. s.number k j *ℤ x j)) (d *ℤ s.number k (right_column s)) p.scale p.positive
          (sym (total-scale v p.scale (λ j. s.number k j *ℤ x j))
          ∙ total-ext v (λ j. p.scale *ℤ (s.number k j *ℤ x j)) (λ j. total n (λ i. p.share k i *ℤ (rows i j *ℤ x j)))
          (λ (j : ℕ) (q : j < v). sym (mul_assoc p.scale (s.number k j) (x j)) ∙ ap (λ (y : ℤ). y *ℤ x j) (p.equation k j m (omega arith))
          ∙ sym (total-scale_right n (x j) (λ i. p.share k i *ℤ rows i j))
          ∙ total-ext n (λ i. p.share k i *ℤ rows i j *ℤ x j) (λ i. p.share k i *ℤ (rows i j *ℤ x j)) (λ (i : ℕ) (u : i < n). mul_assoc (p.share k i) (rows i j) (x j)))
          ∙ total-swap v n (λ j i. p.share k i *ℤ (rows i j *ℤ x j))
          ∙ total-ext n (λ i. total v (λ j. p.share k i *ℤ (rows i j *ℤ x j))) (λ i. d *ℤ (p.share k i *ℤ rows i (right_column s)))
          (λ (i : ℕ) (u : i < n). total-scale v (p.share k i) (λ j. rows i j *ℤ x j) ∙ ap (λ (y : ℤ). p.share k i *ℤ y) (row_solves s basis rows b x d o z i u) ∙ mul_left_comm (p.share k i) d (rows i (right_column s)))
          ∙ total-scale n d (λ i. p.share k i *ℤ rows i (right_column s))
          ∙ ap (λ (y : ℤ). d *ℤ y) (sym (p.equation k (right_column s) m (omega arith)))
          ∙ mul_left_comm d p.scale (s.number k (right_column s)));
    }

-- a pivot loses no equation
pub pivot_spans : (s : LinearSystem) (rows news : ℕ → Row) (r c : ℕ) → IsPivot s rows r c news → Spans s rows → Spans s news
pivot_spans s rows news r c p q =
    let n = s.equations in
    let h : ℕ → ℤ = λ i. choose i r (rows r c) (p.factor i) in
    let m : ℕ → ℤ = λ i. choose i r (pos 0) (rows i c) in
    let back : (i x : ℕ) → i < n → x ≤ right_column s → rows r c *ℤ rows i x ≡ h i *ℤ news i x +ℤ m i *ℤ rows r x = λ i x l k.
    ⊎_elim
    (λ (e : i ≡ r). subst (λ (z : ℕ). rows r c *ℤ rows z x ≡ h z *ℤ news z x +ℤ m z *ℤ rows r x) (sym e)
    (rw (choose-same r (rows r c) (p.factor r), choose-same r (pos 0) (rows r c), p.same x k) (omega (arith, ints))))
    (λ (d : i ≢ r). rw (choose-other i r (rows r c) (p.factor i) d, choose-other i r (pos 0) (rows i c) d, p.crossed i x l d k) (omega (arith, ints)))
    (cases_eq i r) in
    let extra : ℕ → ℤ = λ k. total n (λ i. q.share k i *ℤ m i) in
    record {
      scale = rows r c *ℤ q.scale;
      positive = product_positive (rows r c) q.scale p.positive q.positive;
      share = λ k i. q.share k i *ℤ h i +ℤ choose i r (extra k) (pos 0);
      equation = λ k x l o.
          mul_assoc (rows r c) q.scale (s.number k x)
          ∙ ap (λ (z : ℤ). rows r c *ℤ z) (q.equation k x l o)
          ∙ sym (total-scale n (rows r c) (λ i. q.share k i *ℤ rows i x))
          ∙ total-ext n (λ i. rows r c *ℤ (q.share k i *ℤ rows i x)) (λ i. q.share k i *ℤ h i *ℤ news i x +ℤ q.share k i *ℤ m i *ℤ rows r x)
          (λ (i : ℕ) (u : i < n). mul_left_comm (rows r c) (q.share k i) (rows i x) ∙ ap (λ (z : ℤ). q.share k i *ℤ z) (back i x u o) ∙ simp (mul_add, mul_assoc))
          ∙ total-add n (λ i. q.share k i *ℤ h i *ℤ news i x) (λ i. q.share k i *ℤ m i *ℤ rows r x)
          ∙ ap (λ (z : ℤ). total n (λ i. q.share k i *ℤ h i *ℤ news i x) +ℤ z)
          (total-scale_right n (rows r x) (λ i. q.share k i *ℤ m i)
          ∙ ap (λ (z : ℤ). extra k *ℤ z) (sym (p.same x o))
          ∙ ap (λ (z : ℤ). z *ℤ news r x) (sym (choose-same r (extra k) (pos 0)))
          ∙ sym (total-single n r (λ i. choose i r (extra k) (pos 0) *ℤ news i x) p.row (λ (i : ℕ) (u : i < n) (d : i ≢ r). rw (choose-other i r (extra k) (pos 0) d) (omega (arith, ints)))))
          ∙ sym (total-add n (λ i. q.share k i *ℤ h i *ℤ news i x) (λ i. choose i r (extra k) (pos 0) *ℤ news i x))
          ∙ total-ext n (λ i. q.share k i *ℤ h i *ℤ news i x +ℤ choose i r (extra k) (pos 0) *ℤ news i x) (λ i. (q.share k i *ℤ h i +ℤ choose i r (extra k) (pos 0)) *ℤ news i x)
          (λ (i : ℕ) (u : i < n). sym (add_mul (news i x) (q.share k i *ℤ h i) (choose i r (extra k) (pos 0))));
    }

-- with nothing left in the objective, the rows of basic artificials have nothing on their right sides
pub artificials_zero : (s : LinearSystem) (basis : ℕ → ℕ) (rows : ℕ → Row) (b : IsBasic s basis rows) (p : Spans s rows) (w : Row) → IsInRowSpace s w
    → ((i : ℕ) → i < s.equations → pos 0 ≤ℤ rows i (right_column s))
    → ((i : ℕ) → i < s.equations → pos 0 ≤ℤ w (basis i))
    → ((i : ℕ) → i < s.equations → s.unknowns ≤ basis i → pos 0 <ℤ w (basis i))
    → w (right_column s) ≡ pos 0
    → (i : ℕ) → i < s.equations → s.unknowns ≤ basis i → rows i (right_column s) ≡ pos 0
artificials_zero s basis rows b p w iw nn wn wp e i l a =
    let n = s.equations in
    let q = spanned s basis rows b p w iw in
    let rhs : ℕ → ℤ = λ k. rows k (right_column s) in
    let sum : total n (λ k. q.share k *ℤ rhs k) ≡ pos 0 = sym (q.whole (right_column s) (omega arith)) ∙ rw e (omega (arith, ints)) in
    let turned : (k : ℕ) → k < n → p.scale *ℤ w (basis k) ≡ rows k (basis k) *ℤ q.share k = λ k m. q.at_basic k m ∙ *ℤ_comm (q.share k) (rows k (basis k)) in
    let wide : pos 0 ≤ℤ p.scale = let t = p.positive in omega (arith, ints) in
    let share_sign : (k : ℕ) → k < n → pos 0 ≤ℤ q.share k = λ k m.
    factor_not_negative (rows k (basis k)) (q.share k) (b.positive k m) (rw (sym (turned k m)) (product_not_negative p.scale (w (basis k)) wide (wn k m))) in
    let here : pos 0 <ℤ q.share i = factor_positive (rows i (basis i)) (q.share i) (b.positive i l) (rw (sym (turned i l)) (product_positive p.scale (w (basis i)) p.positive (wp i l a))) in
    factor_zero (q.share i) (rhs i) here
    (total_zero_each n (λ k. q.share k *ℤ rhs k) (λ (k : ℕ) (m : k < n). product_not_negative (q.share k) (rhs k) (share_sign k m) (nn k m)) sum i l)
