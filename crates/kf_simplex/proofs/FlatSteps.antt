-- A pivot of the table is a step of the run.
use Rattle.std.proofs.Common.{◌≡◌, ◌≢◌, ℕ, ◌+◌, ◌<◌, ◌≤◌, refl, sym, ◌∙◌, arith, ⊎_elim, subst, length, List, set, get_or, get_or-set_same, get_or-set_other, unsigned_abs}
use Rattle.std.specs.Int.{◌∣◌}
use Rattle.std.proofs.Math.IntN.{ℤ, pos, ◌-ℤ◌, ◌*ℤ◌}
use Rattle.std.proofs.lemmas.Int.{ints}
use Rattle.std.proofs.lemmas.Bool.{cases_eq}
use lib.Signed.{◌<ℤ◌}
use Rattle.kf_simplex.proofs.Sums.{choose, choose-same, choose-other}
use Rattle.kf_simplex.proofs.Objective.{find_artificial, tableau_of_working}
use Rattle.kf_simplex.proofs.Pivots.{pivot_spans, crossed_in_space, pivot_in_space, pivot_positive, pivot_zero}
use Rattle.kf_simplex.proofs.RunFacts.{IsGood, basic_of, choice}
use Rattle.kf_simplex.specs.Tableaus.{Row, IsInRowSpace, IsPrimitive, IsRowOf}
use Rattle.kf_simplex.specs.Systems.{LinearSystem, right_column}
use Rattle.kf_simplex.proofs.Forms.{IsPivot, IsObjective, IsBasic}
use Rattle.kf_simplex.specs.Runs.{IsStep, Enters, Leaves}
use Rattle.kf_simplex.proofs.Signs.{cancel, product_positive, factor_positive, factor_zero}
use Rattle.kf_simplex.specs.Cells.{IsCrossed}
use Rattle.kf_simplex.specs.Flat.{width, tableau_of}

-- how the table changes at a pivot
pub record FlatPivot (s : LinearSystem) (old new : ℕ → ℕ → ℤ) (basis news : List ℕ) (r c : ℕ) : Type 0 where
  pub column : c < s.unknowns
  pub row : r < s.equations
  pub positive : pos 0 <ℤ old r c
  pub basis_len : length basis ≡ s.equations
  pub same : (x : ℕ) → x ≤ right_column s → new r x ≡ old r x
  pub crossed : (i : ℕ) → i < s.equations + 1 → i ≢ r → IsCrossed (old i) (old r) c (new i) (width s)
  pub basis_is : news ≡ set basis r c

replaced : (s : LinearSystem) (old new : ℕ → ℕ → ℤ) (basis news : List ℕ) (r c : ℕ) → FlatPivot s old new basis news r c → get_or news r 0 ≡ c
replaced s old new basis news r c f = rw f.basis_is (get_or-set_same basis r c 0 (let a = f.row in let b = f.basis_len in omega arith))

kept : (s : LinearSystem) (old new : ℕ → ℕ → ℤ) (basis news : List ℕ) (r c : ℕ) → FlatPivot s old new basis news r c → (k : ℕ) → k ≢ r → get_or news k 0 ≡ get_or basis k 0
kept s old new basis news r c f k d = rw f.basis_is (get_or-set_other basis r k c 0 d)

pivot_of : (s : LinearSystem) (rows news : ℕ → Row) (r c : ℕ) → c < s.unknowns → r < s.equations → pos 0 <ℤ rows r c → ((x : ℕ) → x ≤ right_column s → news r x ≡ rows r x)
    → (f : ℕ → ℤ) × ((i : ℕ) → i < s.equations → i ≢ r → (pos 0 <ℤ f i) × ((x : ℕ) → x ≤ right_column s → f i *ℤ news i x ≡ rows r c *ℤ rows i x -ℤ rows i c *ℤ rows r x))
    → IsPivot s rows r c news
pivot_of s rows news r c lc lr p same f = record {
  column = lc;
  row = lr;
  positive = p;
  same = same;
  factor = λ i. choose i r (pos 1) (f.0 i);
  factor_positive = λ i l. ⊎_elim (λ (e : i ≡ r). rw e (rw choose-same (omega (arith, ints)))) (λ (d : i ≢ r). rw (choose-other i r (pos 1) (f.0 i) d) ((f.1 i l d).0)) (cases_eq i r);
  crossed = λ i x l d m. rw (choose-other i r (pos 1) (f.0 i) d) ((f.1 i l d).1 x m);
}

flat_is_pivot : (s : LinearSystem) (old new : ℕ → ℕ → ℤ) (basis news : List ℕ) (r c : ℕ) → FlatPivot s old new basis news r c
    → IsPivot s (tableau_of s old basis).rows r c (tableau_of s new news).rows
flat_is_pivot s old new basis news r c f =
    let w = width s in
    pivot_of s (tableau_of s old basis).rows (tableau_of s new news).rows r c f.column f.row f.positive
    f.same
    (choice (λ i z. (pos 0 <ℤ z) × ((x : ℕ) → x ≤ right_column s → z *ℤ new i x ≡ old r c *ℤ old i x -ℤ old i c *ℤ old r x)) s.equations r
    (λ i l d. let h = f.crossed i (omega arith) d in (h.factor, (h.positive, λ x m. h.times x (omega arith)))))

not_zero : (h a : ℤ) → pos 0 <ℤ h → pos 0 <ℤ a → h *ℤ a ≡ pos 0 → ⊥
not_zero h a p q e = let z = product_positive h a p q in omega (arith, ints)

flat_rows : (s : LinearSystem) (old new : ℕ → ℕ → ℤ) (basis news : List ℕ) (r c : ℕ) → FlatPivot s old new basis news r c → IsGood s (tableau_of s old basis)
    → (i : ℕ) → i < s.equations → IsRowOf s (tableau_of s new news).basis i ((tableau_of s new news).rows i)
flat_rows s old new basis news r c f g i l =
    let q = flat_is_pivot s old new basis news r c f in
    let b = basic_of s (tableau_of s old basis) g in
    let t = tableau_of s old basis in let u = tableau_of s new news in
    let er : u.basis r ≡ c = replaced s old new basis news r c f in
    let ek : (k : ℕ) → k < s.equations → k ≢ r → u.basis k ≡ t.basis k = λ k m d. kept s old new basis news r c f k d in
    let positive = pivot_positive s t.basis u.basis t.rows u.rows r c b q er ek i l in
    record {
      in_space = pivot_in_space s t.basis t.rows u.rows r c b q i l;
      positive = positive;
      zero_elsewhere = λ k m d. pivot_zero s t.basis u.basis t.rows u.rows r c b q er ek i k l m d;
      primitive = ⊎_elim
          (λ (e : i ≡ r). λ d all. (g.tableau.rows r f.row).primitive d (λ x m. subst (λ (z : ℤ). d ∣ unsigned_abs z) (q.same x m) (subst (λ (k : ℕ). d ∣ unsigned_abs (new k x)) e (all x m))))
          (λ (d : i ≢ r). let h = f.crossed i (omega arith) d in
          let m : get_or news i 0 < width s = let a = ek i l d in let z = g.column i l in omega arith in
          λ d' all. h.primitive (get_or news i 0) m
          (λ z. not_zero h.factor (new i (get_or news i 0)) h.positive positive (h.times (get_or news i 0) m ∙ z)) d' (λ k u. all k (omega arith)))
          (cases_eq i r);
    }

-- the objective goes through a pivot like a row
objective_from : (s : LinearSystem) (basis news : ℕ → ℕ) (rows : ℕ → Row) (w w' : Row) (r c : ℕ) → IsBasic s basis rows → (o : IsObjective s basis w) → r < s.equations → c < s.unknowns → pos 0 <ℤ rows r c
    → news r ≡ c → ((k : ℕ) → k < s.equations → k ≢ r → news k ≡ basis k) → (h : ℤ) → pos 0 <ℤ h
    → ((x : ℕ) → x ≤ right_column s → h *ℤ w' x ≡ rows r c *ℤ w x -ℤ w c *ℤ rows r x) → IsObjective s news w'
objective_from s basis news rows w w' r c b o lr lc p er ek h hp e =
    let in_space : IsInRowSpace s w' = crossed_in_space s w (rows r) w' (rows r c) (w c) h hp o.in_space (b.in_space r lr) e in
    let at_entered : w' c ≡ pos 0 = factor_zero h (w' c) hp (e c (omega arith) ∙ omega (arith, ints)) in
    let at_kept : (k : ℕ) → k < s.equations → k ≢ r → h *ℤ w' (basis k) ≡ rows r c *ℤ w (basis k) = λ k l d.
    let m = b.column k l in let z = b.zero_elsewhere r k lr l d in e (basis k) (omega arith) ∙ rw z (omega (arith, ints)) in
    let unknown_zero : (k : ℕ) → k < s.equations → news k < s.unknowns → w' (news k) ≡ pos 0 = λ k l m. ⊎_elim
    (λ (q : k ≡ r). rw (q, er) at_entered)
    (λ (d : k ≢ r). let z = o.unknown_zero k l (rw (← ek k l d) m) in rw (ek k l d) (factor_zero h (w' (basis k)) hp (at_kept k l d ∙ rw z (omega (arith, ints)))))
    (cases_eq k r) in
    let scaled : (k : ℕ) → k < s.equations → s.unknowns ≤ news k → h *ℤ w' (news k) ≡ rows r c *ℤ o.scale = λ k l m. ⊎_elim
    (λ (q : k ≡ r). let m' : s.unknowns ≤ c = rw (q, er) at m in absurd (omega arith))
    (λ (d : k ≢ r). rw (ek k l d) (at_kept k l d ∙ (let z = o.artificial k l (rw (← ek k l d) m) in rw z refl)))
    (cases_eq k r) in
    ⊎_elim
    (λ (k : (k : ℕ) × (k < s.equations) × (s.unknowns ≤ news k)). record {
      in_space = in_space;
      scale = w' (news k.0);
      scale_positive = factor_positive h (w' (news k.0)) hp (rw (scaled k.0 k.1 k.2) (product_positive (rows r c) o.scale p o.scale_positive));
      unknown_zero = unknown_zero;
      artificial = λ j l m. cancel (w' (news j)) (w' (news k.0)) h hp (scaled j l m ∙ sym (scaled k.0 k.1 k.2));
    })
    (λ (no : (k : ℕ) → k < s.equations → news k < s.unknowns). record {
      in_space = in_space;
      scale = pos 1;
      scale_positive = omega (arith, ints);
      unknown_zero = unknown_zero;
      artificial = λ j l m. absurd (let z = no j l in omega arith);
    })
    (find_artificial s.unknowns s.equations news)

flat_objective : (s : LinearSystem) (old new : ℕ → ℕ → ℤ) (basis news : List ℕ) (r c : ℕ) → FlatPivot s old new basis news r c → IsGood s (tableau_of s old basis)
    → IsObjective s (tableau_of s new news).basis (tableau_of s new news).objective
flat_objective s old new basis news r c f g =
    let w = width s in let n = s.equations in
    let t = tableau_of s old basis in let u = tableau_of s new news in
    let o = g.tableau.objective in let b = basic_of s (tableau_of s old basis) g in
    let h = f.crossed s.equations (omega arith) (let z = f.row in omega arith) in
    objective_from s t.basis u.basis t.rows t.objective u.objective r c b o f.row f.column f.positive (replaced s old new basis news r c f)
    (λ k l d. kept s old new basis news r c f k d) h.factor h.positive (λ x m. h.times x (omega arith))

flat_primitive : (s : LinearSystem) (old new : ℕ → ℕ → ℤ) (basis news : List ℕ) (r c : ℕ) → FlatPivot s old new basis news r c
    → (m : ℕ) → m ≤ right_column s → new s.equations m ≢ pos 0 → IsPrimitive s (λ x. new s.equations x)
flat_primitive s old new basis news r c f m l nz =
    let h = f.crossed s.equations (omega arith) (let z = f.row in omega arith) in
    λ d all. h.primitive m (omega arith) (λ z. nz (factor_zero h.factor (new s.equations m) h.positive (h.times m (omega arith) ∙ z))) d (λ k u. all k (omega arith))

flat_column : (s : LinearSystem) (old new : ℕ → ℕ → ℤ) (basis news : List ℕ) (r c : ℕ) → FlatPivot s old new basis news r c → IsGood s (tableau_of s old basis)
    → (i : ℕ) → i < s.equations → (tableau_of s new news).basis i < right_column s
flat_column s old new basis news r c f g i l = ⊎_elim
    (λ (e : i ≡ r). let m = f.column in rw (e, replaced s old new basis news r c f) (omega arith))
    (λ (d : i ≢ r). rw (kept s old new basis news r c f i d) (g.column i l))
    (cases_eq i r)

pub flat_step : (s : LinearSystem) (old new : ℕ → ℕ → ℤ) (basis news : List ℕ) (r c : ℕ) → FlatPivot s old new basis news r c → IsGood s (tableau_of s old basis)
    → Enters s (tableau_of s old basis).objective c → Leaves s (tableau_of s old basis).rows c r → IsStep s (tableau_of s old basis) (tableau_of s new news)
flat_step s old new basis news r c f g e v = record {
  column = c;
  row = r;
  enters = e;
  leaves = v;
  replaced = replaced s old new basis news r c f;
  kept = λ k l d. kept s old new basis news r c f k d;
  tableau = tableau_of_working s (tableau_of s new news) (flat_column s old new basis news r c f g)
      (pivot_spans s (tableau_of s old basis).rows (tableau_of s new news).rows r c (flat_is_pivot s old new basis news r c f) g.spans)
      (record {
        rows = flat_rows s old new basis news r c f g;
        objective = flat_objective s old new basis news r c f g;
        objective_primitive = flat_primitive s old new basis news r c f;
      });
}
