-- What holds all along a run.
use Rattle.std.proofs.Common.{◌≡◌, ◌≢◌, ℕ, zero, suc, ◌+◌, ◌<◌, ◌≤◌, refl, sym, ap, ◌∙◌, arith, ⊎_elim, unsigned_abs, List, [], ◌∷◌}
use Rattle.std.proofs.Math.IntN.{ℤ, pos, negsuc, ◌-ℤ◌, ◌*ℤ◌}
use Rattle.std.proofs.Math.Nat.{dvd-mul_right}
use Rattle.std.proofs.lemmas.Int.{ints, unsigned_abs-mul, by_lt_z}
use Rattle.std.proofs.lemmas.Bool.{cases_eq, cases_lt}
use lib.Signed.{◌<ℤ◌, ◌≤ℤ◌}
use Rattle.kf_simplex.proofs.Sums.{choose, choose-same, choose-other, total-single}
use Rattle.kf_simplex.proofs.Pivots.{crossed_in_space, pivot_in_space, pivot_positive, pivot_zero, pivot_spans}
use Rattle.kf_simplex.proofs.Primitive.{one_row, row_multiple, one_times}
use Rattle.kf_simplex.proofs.Falls.{pivot_lex, objective_falls, falls_trans, same_objective, not_the_same, lex_along, key_in_range}
use Rattle.kf_simplex.specs.Tableaus.{Row, Tableau, IsTableau}
use Rattle.kf_simplex.specs.Systems.{LinearSystem, right_column, IsSystem}
use Rattle.kf_simplex.proofs.Objective.{working_of}
use Rattle.kf_simplex.proofs.Forms.{IsWorking, Spans, IsBasic, IsPivot, IsObjective, IsLexPositive, Falls}
use Rattle.kf_simplex.specs.Runs.{IsStep, IsRun, key}
use Rattle.kf_simplex.specs.Laws.{MeasureFalls, NoneHas, NoBasisTwice, NoRunReturns}
use Rattle.kf_frac.proofs.Ring.{ring}
use Rattle.kf_simplex.proofs.Signs.{product_positive}
use Rattle.kf_simplex.specs.Columns.{deciding}

pub record IsGood (s : LinearSystem) (t : Tableau) : Type 0 where
  pub tableau : IsWorking s t
  pub column : (i : ℕ) → i < s.equations → t.basis i < right_column s
  pub spans : Spans s t.rows
  pub lex : (i : ℕ) → i < s.equations → IsLexPositive s.equations (key s (t.rows i))

pub basic_of : (s : LinearSystem) (t : Tableau) → IsGood s t → IsBasic s t.basis t.rows
basic_of s t g = record {
  column = g.column;
  in_space = λ i l. (g.tableau.rows i l).in_space;
  positive = λ i l. (g.tableau.rows i l).positive;
  zero_elsewhere = λ i k l m n. (g.tableau.rows i l).zero_elsewhere k m n;
}

-- no basic entry of the objective is negative
pub objective_sign : (s : LinearSystem) (t : Tableau) → IsGood s t → (i : ℕ) → i < s.equations → pos 0 ≤ℤ t.objective (t.basis i)
objective_sign s t g i l = ⊎_elim
    (λ (u : t.basis i < s.unknowns). rw (g.tableau.objective.unknown_zero i l u) (omega (arith, ints)))
    (λ (u : s.unknowns ≤ t.basis i). rw (g.tableau.objective.artificial i l u) (let p = g.tableau.objective.scale_positive in omega (arith, ints)))
    (cases_lt (t.basis i) s.unknowns)

-- witnesses for every index but r, gathered into one function
pub choice : (P : ℕ → ℤ → Type 0) (n r : ℕ) → ((i : ℕ) → i < n → i ≢ r → (h : ℤ) × P i h) → (f : ℕ → ℤ) × ((i : ℕ) → i < n → i ≢ r → P i (f i))
choice P n r h =
    let at : (i : ℕ) → (z : ℤ) × (i < n → i ≢ r → P i z) = λ i.
    ⊎_elim (λ (l : i < n). ⊎_elim (λ (e : i ≡ r). (pos 0, λ m d. absurd (d e))) (λ (d : i ≢ r). ((h i l d).0, λ m c. (h i l d).1)) (cases_eq i r))
    (λ (l : n ≤ i). (pos 0, λ m d. absurd (omega arith))) (cases_lt i n) in
    ((λ i. (at i).0), (λ i. (at i).1))

-- the rows of the next basis, before their factors are removed
pub crossed_rows : (ℕ → Row) → ℕ → ℕ → ℕ → Row
crossed_rows rows r c i x = choose i r (rows r x) (rows r c *ℤ rows i x -ℤ rows i c *ℤ rows r x)

crossed_rows-other : (rows : ℕ → Row) (r c i x : ℕ) → i ≢ r → crossed_rows rows r c i x ≡ rows r c *ℤ rows i x -ℤ rows i c *ℤ rows r x
unfolding crossed_rows
crossed_rows-other rows r c i x d = choose-other i r (rows r x) (rows r c *ℤ rows i x -ℤ rows i c *ℤ rows r x) d

crossed_is_pivot : (s : LinearSystem) (rows : ℕ → Row) (r c : ℕ) → c < s.unknowns → r < s.equations → pos 0 <ℤ rows r c → IsPivot s rows r c (crossed_rows rows r c)
unfolding crossed_rows
crossed_is_pivot s rows r c lc lr p = record {
  column = lc;
  row = lr;
  positive = p;
  same = λ x l. choose-same r (rows r x) (rows r c *ℤ rows r x -ℤ rows r c *ℤ rows r x);
  factor = λ i. pos 1;
  factor_positive = λ i l. omega (arith, ints);
  crossed = λ i x l d m. rw (choose-other i r (rows r x) (rows r c *ℤ rows i x -ℤ rows i c *ℤ rows r x) d) (omega (arith, ints));
}

pub step_basis : (s : LinearSystem) (t u : Tableau) → IsGood s t → (p : IsStep s t u) → IsBasic s u.basis (crossed_rows t.rows p.row p.column)
step_basis s t u g p =
    let r = p.row in let c = p.column in let b = basic_of s t g in
    let q = crossed_is_pivot s t.rows r c p.enters.unknown p.leaves.row p.leaves.positive in
    record {
      column = λ i l. ⊎_elim (λ (e : i ≡ r). let m = p.enters.unknown in rw (e, p.replaced) (omega arith)) (λ (d : i ≢ r). rw (p.kept i l d) (g.column i l)) (cases_eq i r);
      in_space = λ i l. pivot_in_space s t.basis t.rows (crossed_rows t.rows r c) r c b q i l;
      positive = λ i l. pivot_positive s t.basis u.basis t.rows (crossed_rows t.rows r c) r c b q p.replaced p.kept i l;
      zero_elsewhere = λ i k l m n. pivot_zero s t.basis u.basis t.rows (crossed_rows t.rows r c) r c b q p.replaced p.kept i k l m n;
    }

pub step_spans : (s : LinearSystem) (t u : Tableau) → IsGood s t → (p : IsStep s t u) → Spans s (crossed_rows t.rows p.row p.column)
step_spans s t u g p = pivot_spans s t.rows (crossed_rows t.rows p.row p.column) p.row p.column (crossed_is_pivot s t.rows p.row p.column p.enters.unknown p.leaves.row p.leaves.positive) g.spans

-- the definition of the next tableau leaves no choice but the pivot
pub step_is_pivot : (s : LinearSystem) (t u : Tableau) → IsGood s t → (p : IsStep s t u) → IsTableau s u → IsPivot s t.rows p.row p.column u.rows
step_is_pivot s t u g p h =
    let r = p.row in let c = p.column in
    let nb = step_basis s t u g p in let ns = step_spans s t u g p in
    let news = crossed_rows t.rows r c in
    let q = crossed_is_pivot s t.rows r c p.enters.unknown p.leaves.row p.leaves.positive in
    let f : (f : ℕ → ℤ) × ((i : ℕ) → i < s.equations → i ≢ r → (pos 0 <ℤ f i) × ((x : ℕ) → x ≤ right_column s → f i *ℤ u.rows i x ≡ news i x)) =
    choice (λ i z. (pos 0 <ℤ z) × ((x : ℕ) → x ≤ right_column s → z *ℤ u.rows i x ≡ news i x)) s.equations r
    (λ i l d. let m = row_multiple s u.basis news nb ns i (news i) (u.rows i) l (nb.in_space i l) (nb.positive i l) (λ k n o. nb.zero_elsewhere i k l n o) (h.rows i l) in (m.0, (m.1, m.2))) in
    record {
      column = p.enters.unknown;
      row = p.leaves.row;
      positive = p.leaves.positive;
      same = one_row s u.basis news nb ns r (u.rows r) (t.rows r) p.leaves.row (h.rows r p.leaves.row) (record {
        in_space = (g.tableau.rows r p.leaves.row).in_space;
        positive = rw p.replaced p.leaves.positive;
        zero_elsewhere = λ k l d. rw (p.kept k l d) ((g.tableau.rows r p.leaves.row).zero_elsewhere k l d);
        primitive = (g.tableau.rows r p.leaves.row).primitive;
      });
      factor = λ i. choose i r (pos 1) (f.0 i);
      factor_positive = λ i l. ⊎_elim (λ (e : i ≡ r). rw e (rw choose-same (omega (arith, ints)))) (λ (d : i ≢ r). rw (choose-other i r (pos 1) (f.0 i) d) ((f.1 i l d).0)) (cases_eq i r);
      crossed = λ i x l d m. rw (choose-other i r (pos 1) (f.0 i) d) ((f.1 i l d).1 x m ∙ crossed_rows-other t.rows r c i x d);
    }

pub step_good : (s : LinearSystem) (t u : Tableau) → IsGood s t → (p : IsStep s t u) → IsGood s u
step_good s t u g p =
    let q = step_is_pivot s t u g p p.tableau in
    record {
      tableau = working_of s u (step_basis s t u g p).column p.tableau;
      column = (step_basis s t u g p).column;
      spans = pivot_spans s t.rows u.rows p.row p.column q g.spans;
      lex = λ i l. pivot_lex s t.rows u.rows p.row p.column q p.leaves g.lex i l;
    }

pub step_falls : (s : LinearSystem) (t u : Tableau) (g : IsGood s t) (p : IsStep s t u) (h : IsGood s u) → Falls s t.objective g.tableau.objective.scale u.objective h.tableau.objective.scale
step_falls s t u g p h =
    let r = p.row in let c = p.column in let b = basic_of s t g in
    let o = g.tableau.objective in let o' = h.tableau.objective in
    let d = t.rows p.row p.column in let a = t.objective p.column in
    let w : Row = λ x. t.rows p.row p.column *ℤ t.objective x -ℤ t.objective p.column *ℤ t.rows p.row x in
    let mid : IsObjective s u.basis w = record {
      in_space = crossed_in_space s t.objective (t.rows r) w d a (pos 1) (omega (arith, ints)) o.in_space (g.tableau.rows r p.leaves.row).in_space (λ (x : ℕ) (m : x ≤ right_column s). omega (arith, ints));
      scale = d *ℤ o.scale;
      scale_positive = product_positive d o.scale p.leaves.positive o.scale_positive;
      unknown_zero = λ k l m. ⊎_elim
          (λ (e : k ≡ r). rw (e, p.replaced) (omega (arith, ints)))
          (λ (n : k ≢ r). let y = o.unknown_zero k l (rw (← p.kept k l n) m) in let z = b.zero_elsewhere r k p.leaves.row l n in rw (p.kept k l n, y, z) (omega (arith, ints)))
          (cases_eq k r);
      artificial = λ k l m. ⊎_elim
          (λ (e : k ≡ r). let m' : s.unknowns ≤ p.column = rw (e, p.replaced) at m in let v = p.enters.unknown in absurd (omega arith))
          (λ (n : k ≢ r). let y = o.artificial k l (rw (← p.kept k l n) m) in let z = b.zero_elsewhere r k p.leaves.row l n in rw (p.kept k l n, y, z) (omega (arith, ints)))
          (cases_eq k r);
    } in
    objective_falls s t.objective u.objective (t.rows r) (o'.scale *ℤ d) (o'.scale *ℤ a) (d *ℤ o.scale) o.scale o'.scale mid.scale_positive
    (product_positive o'.scale a o'.scale_positive p.enters.positive) o.scale_positive
    (λ x l. sym (same_objective s u.basis u.basis u.rows (basic_of s u h) h.spans w u.objective mid o' (λ i m. (i, m, refl)) x l) ∙ simp ring)
    (simp ring) (g.lex r p.leaves.row)

one_from_abs : (z : ℤ) → pos 0 <ℤ z → unsigned_abs z ≡ 1 → z ≡ pos 1
one_from_abs (pos n) h e = omega (arith, ints)
one_from_abs (negsuc n) h e = absurd (omega (arith, ints))

first_zero : (s : LinearSystem) (i : ℕ) → i < s.equations → s.number i (right_column s) ≡ pos 0 → IsSystem s → (m : ℕ) → m < suc i → s.number i (deciding s.unknowns (right_column s) m) ≡ pos 0
first_zero s i l z y zero u = z
first_zero s i l z y (suc m) u = y.other i m l (omega arith) (omega arith)

pub first_good : (s : LinearSystem) (t : Tableau) → IsSystem s → IsTableau s t → ((k : ℕ) → k < s.equations → t.basis k ≡ s.unknowns + k) → IsGood s t
first_good s t y h e =
    let v = s.unknowns in let n = s.equations in
    -- at the basis of artificials each row is a multiple of its equation
    let times : (i : ℕ) → i < n → (c : ℕ) → c ≤ right_column s → t.rows i c ≡ t.rows i (v + i) *ℤ s.number i c = λ i l c m.
    (h.rows i l).in_space c m ∙ total-single n i (λ k. t.rows i (v + k) *ℤ s.number k c) l
    (λ (k : ℕ) (u : k < n) (d : k ≢ i). let z = (h.rows i l).zero_elsewhere k u d in let w = rw (e k u) at z in rw w (omega (arith, ints))) in
    let one : (i : ℕ) → i < n → t.rows i (v + i) ≡ pos 1 = λ i l.
    one_from_abs (t.rows i (v + i)) (rw (e i l) at (h.rows i l).positive)
    ((h.rows i l).primitive (unsigned_abs (t.rows i (v + i))) (λ c m. rw (times i l c m, unsigned_abs-mul (t.rows i (v + i)) (s.number i c)) (dvd-mul_right (unsigned_abs (t.rows i (v + i))) (unsigned_abs (s.number i c))))) in
    let is : (i c : ℕ) → i < n → c ≤ right_column s → t.rows i c ≡ s.number i c = λ i c l m. times i l c m ∙ (let w = one i l in rw w (one_times (s.number i c))) in
    record {
      tableau = working_of s t (λ i l. rw (e i l) (omega arith)) h;
      column = λ i l. rw (e i l) (omega arith);
      spans = record {
        scale = pos 1;
        positive = omega (arith, ints);
        share = λ k i. choose i k (pos 1) (pos 0);
        equation = λ k c l m. one_times (s.number k c) ∙ sym (is k c l m) ∙ sym (one_times (t.rows k c)) ∙ ap (λ (z : ℤ). z *ℤ t.rows k c) (sym (choose-same k (pos 1) (pos 0)))
            ∙ sym (total-single n k (λ i. choose i k (pos 1) (pos 0) *ℤ t.rows i c) l (λ (i : ℕ) (u : i < n) (d : i ≢ k). rw (choose-other i k (pos 1) (pos 0) d) (omega (arith, ints))));
      };
      lex = λ i l. lex_along n (λ m. s.number i (deciding s.unknowns (right_column s) m)) (key s (t.rows i)) (λ (m : ℕ) (u : m ≤ n). sym (is i (deciding s.unknowns (right_column s) m) l (key_in_range s m u)))
          (by_lt_z (pos 0) (s.number i (right_column s))
          (λ (p : pos 0 <ℤ s.number i (right_column s)). (0, omega arith, (λ m u. absurd (omega arith)), p))
          (λ (p : s.number i (right_column s) ≤ℤ pos 0). (suc i, omega arith, first_zero s i l (let q = y.right i l in omega (arith, ints)) y, rw (y.same i l) (omega (arith, ints)))));
    }

-- the objective of t is below that of every earlier tableau
unfoldable pub Past : (s : LinearSystem) (t : Tableau) → IsGood s t → List Tableau → Type 0
Past s t g [] = Unit {0}
Past s t g (u ∷ us) = ((h : IsGood s u) × Falls s u.objective h.tableau.objective.scale t.objective g.tableau.objective.scale) × Past s t g us

past_more : (s : LinearSystem) (u t : Tableau) (h : IsGood s u) (g : IsGood s t) → Falls s u.objective h.tableau.objective.scale t.objective g.tableau.objective.scale
    → (us : List Tableau) → Past s u h us → Past s t g us
unfolding Past
past_more s u t h g f [] p = tt
past_more s u t h g f (v ∷ us) p = (
  (
    p.0.0,
    falls_trans s v.objective u.objective t.objective p.0.0.tableau.objective.scale h.tableau.objective.scale g.tableau.objective.scale
        p.0.0.tableau.objective.scale_positive h.tableau.objective.scale_positive g.tableau.objective.scale_positive p.0.1 f,
  ),
  past_more s u t h g f us p.1,
)

none_has : (s : LinearSystem) (t : Tableau) (g : IsGood s t) (us : List Tableau) → Past s t g us → NoneHas s t us
unfolding Past
none_has s t g [] p = tt
none_has s t g (u ∷ us) p = (
  (λ same. not_the_same s u.basis t.basis u.rows (basic_of s u p.0.0) p.0.0.spans u.objective t.objective p.0.0.tableau.objective g.tableau.objective same p.0.1),
  none_has s t g us p.1,
)

pub run_facts : (s : LinearSystem) (limit : ℕ) (t : Tableau) (ts : List Tableau) → IsSystem s → IsRun s limit (t ∷ ts) → (g : IsGood s t) × Past s t g ts × NoBasisTwice s (t ∷ ts)
unfolding Past
run_facts s limit t [] y r = (first_good s t y r.0 r.1, tt, (tt, tt))
run_facts s limit t (u ∷ us) y r =
    let h = run_facts s limit u us y r.0 in
    let g = step_good s u t h.0 r.2 in
    let f = step_falls s u t h.0 r.2 g in
    let past : Past s t g (u ∷ us) = ((h.0, f), past_more s u t h.0 g f us h.1) in
    (g, past, (none_has s t g (u ∷ us) past, h.2))

pub no_run_returns : NoRunReturns
no_run_returns s limit [] y r = absurd r
no_run_returns s limit (t ∷ ts) y r = (run_facts s limit t ts y r).2

pub measure_falls : MeasureFalls
measure_falls s limit t u ts y r =
    let g = (run_facts s limit t ts y r.0).0 in let h = step_good s t u g r.2 in
    let o = g.tableau.objective in let o' = h.tableau.objective in
    let f = step_falls s t u g r.2 h in (
      o.scale,
      o'.scale,
      (o.scale_positive, o.artificial),
      (o'.scale_positive, o'.artificial),
      (f.0, f.1, (λ m l. let a = f.2 m l in omega (arith, ints)), (let a = f.3 in omega (arith, ints))),
    )
