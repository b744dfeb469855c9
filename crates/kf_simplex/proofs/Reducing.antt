-- Rows in a list, of which one after the other goes through a pivot.
use Rattle.std.proofs.Common.{◌≡◌, ◌≢◌, ℕ, zero, suc, ◌+◌, ◌^◌, ◌<◌, ◌≤◌, refl, sym, ap, ◌∙◌, subst, arith, ⊎_elim, ◌⊎◌, inl, inr, List, [], ◌∷◌, length, set, get_or, unsigned_abs, Bool, false}
use Rattle.std.proofs.Math.IntN.{ℤ, pos, ◌-ℤ◌, ◌*ℤ◌, *ℤ-zero}
use Rattle.std.proofs.lemmas.Int.{ints}
use Rattle.kf_frac.proofs.Ring.{mul_assoc, ring}
use Rattle.kf_simplex.proofs.Signs.{product_positive}
use lib.Signed.{◌<ℤ◌}
use Rattle.std.proofs.lemmas.Bool.{cases_eq, cases_lt}
use Rattle.std.specs.Prelude.{IsTrue, Result, Ok, Err, IfOk}
use Rattle.kf_simplex.specs.declared.row.Entry.{Entry}
use Rattle.kf_simplex.specs.declared.row.Row.{Row}
use Rattle.kf_simplex.specs.Entries.{number_in, Ascends}
use Rattle.kf_simplex.specs.Cells.{AllNarrow, IsReducedRow, Passes, PassesAt, PassesRows}
use Rattle.kf_simplex.specs.Flat.{entries_at, cell}

-- ---- the entries of one row of a list

pub entries_set_same : (rows : List Row) (i : ℕ) (row : Row) → i < length rows → entries_at (set rows i row) i ≡ row.entries.items
entries_set_same [] i row l = absurd (omega arith)
entries_set_same (r ∷ rows) zero row l = refl
entries_set_same (r ∷ rows) (suc i) row l = entries_set_same rows i row (omega arith)

pub entries_set_other : (rows : List Row) (i k : ℕ) (row : Row) → k ≢ i → entries_at (set rows i row) k ≡ entries_at rows k
entries_set_other [] i k row d = refl
entries_set_other (r ∷ rows) zero zero row d = absurd (d refl)
entries_set_other (r ∷ rows) zero (suc k) row d = refl
entries_set_other (r ∷ rows) (suc i) zero row d = refl
entries_set_other (r ∷ rows) (suc i) (suc k) row d = entries_set_other rows i k row (λ e. d (ap suc e))

pub entries_read : (rows : List Row) (k : ℕ) (row : Row) → k < length rows → row ≡ get_or rows k row → row.entries.items ≡ entries_at rows k
entries_read [] k row l e = absurd (omega arith)
entries_read (r ∷ rows) zero row l e = ap (λ (x : Row). x.entries.items) e
entries_read (r ∷ rows) (suc k) row l e = entries_read rows k row (omega arith) e

pub past_rows : (rows : List Row) (i c : ℕ) → length rows ≤ i → cell rows i c ≡ pos 0
past_rows [] i c l = refl
past_rows (r ∷ rows) zero c l = absurd (omega arith)
past_rows (r ∷ rows) (suc i) c l = past_rows rows i c (omega arith)

pub ascends_at : (rows : List Row) (i : ℕ) → Ascends 0 (entries_at rows i)
ascends_at [] i = tt
ascends_at (r ∷ rows) zero = r.ascending
ascends_at (r ∷ rows) (suc i) = ascends_at rows i

-- ---- results

pub if_ok : {T E : Type 0} (P Q : T → Type 0) (r : Result T E) → ((x : T) → P x → Q x) → IfOk r P → IfOk r Q
if_ok P Q (Ok x) f h = f x h
if_ok P Q (Err e) f h = tt

pub reduced_row_along : (old old' new new' : ℕ → ℤ) → ((k : ℕ) → old k ≡ old' k) → ((k : ℕ) → new k ≡ new' k) → IsReducedRow old new → IsReducedRow old' new'
reduced_row_along old old' new new' e f r = record {
  factor = r.factor;
  positive = r.positive;
  times = λ k. ap (λ (z : ℤ). r.factor *ℤ z) (sym (f k)) ∙ r.times k ∙ e k;
  primitive = λ m nz d all. r.primitive m (λ (z : old m ≡ pos 0). nz (sym (e m) ∙ z)) d (λ (k : ℕ). rw (f k) (all k));
}

scaled : (d p a p' a' x y : ℤ) → d *ℤ p' ≡ p → d *ℤ a' ≡ a → d *ℤ (p' *ℤ x -ℤ a' *ℤ y) ≡ p *ℤ x -ℤ a *ℤ y
scaled d p a p' a' x y e f = rw (sym e, sym f) (simp ring (omega (arith, ints)))

-- crossed by two numbers, or by these over what they share, a row comes to the same
pub reduced_row_scaled : (d p a p' a' : ℤ) (xs ys new : ℕ → ℤ) → pos 0 <ℤ d → d *ℤ p' ≡ p → d *ℤ a' ≡ a
    → IsReducedRow (λ k. p' *ℤ xs k -ℤ a' *ℤ ys k) new → IsReducedRow (λ k. p *ℤ xs k -ℤ a *ℤ ys k) new
reduced_row_scaled d p a p' a' xs ys new up e f r = record {
  factor = d *ℤ r.factor;
  positive = product_positive d r.factor up r.positive;
  times = λ k. mul_assoc d r.factor (new k) ∙ (ap (λ (z : ℤ). d *ℤ z) (r.times k) ∙ scaled d p a p' a' (xs k) (ys k) e f);
  primitive = λ m nz n all. r.primitive m
      (λ (z : p' *ℤ xs m -ℤ a' *ℤ ys m ≡ pos 0). nz (sym (scaled d p a p' a' (xs m) (ys m) e f) ∙ (ap (λ (z : ℤ). d *ℤ z) z ∙ *ℤ-zero d))) n all;
}

-- ---- one row

pub stays_at : (cells : ℕ → ℕ → ℤ) (r c i : ℕ) → (i ≡ r) ⊎ (cells i c ≡ pos 0) → PassesAt cells cells r c i
stays_at cells r c i why = record {
  passed = λ d. ⊎_elim (λ (e : i ≡ r). absurd (d e)) (λ (z : cells i c ≡ pos 0). inl (z, λ k. refl)) why;
  same = λ e x. refl;
  others = λ k x d. refl;
}

pub changes_at : (rows : List Row) (row one chosen : Row) (r c i : ℕ) → i < length rows → r < length rows → i ≢ r → one ≡ get_or rows i one → chosen ≡ get_or rows r chosen
    → IsReducedRow (λ k. number_in chosen.entries.items c *ℤ number_in one.entries.items k -ℤ number_in one.entries.items c *ℤ number_in chosen.entries.items k) (number_in row.entries.items)
    → PassesAt (cell rows) (cell (set rows i row)) r c i
changes_at rows row one chosen r c i li lr d eo ec h =
    let o = entries_read rows i one li eo in
    let q = entries_read rows r chosen lr ec in
    let h' = rw (o, q) at h in
    record {
      passed = λ d. inr (reduced_row_along (λ k. cell rows r c *ℤ cell rows i k -ℤ cell rows i c *ℤ cell rows r k) (λ k. cell rows r c *ℤ cell rows i k -ℤ cell rows i c *ℤ cell rows r k)
          (number_in row.entries.items) (cell (set rows i row) i) (λ k. refl) (λ k. ap (λ (es : List Entry). number_in es k) (sym (entries_set_same rows i row li))) h');
      same = λ e. absurd (d e);
      others = λ k x d. ap (λ (es : List Entry). number_in es x) (entries_set_other rows i k row d);
    }

-- ---- row after row

pub passes_none : (cells : ℕ → ℕ → ℤ) (r c : ℕ) → PassesRows cells cells r c 0
passes_none cells r c = record { passed = λ k l d. absurd (omega arith); rest = λ k x l. refl; chosen_row = λ x. refl }

passes_along : (old chosen new new' : ℕ → ℤ) (c : ℕ) → ((k : ℕ) → new' k ≡ new k) → Passes old chosen c new → Passes old chosen c new'
passes_along old chosen new new' c e (inl h) = inl (h.0, λ k. e k ∙ h.1 k)
passes_along old chosen new new' c e (inr h) =
    inr (reduced_row_along (λ k. chosen c *ℤ old k -ℤ old c *ℤ chosen k) (λ k. chosen c *ℤ old k -ℤ old c *ℤ chosen k) new new' (λ k. refl) (λ k. sym (e k)) h)

passes_from : (old old' chosen chosen' new : ℕ → ℤ) (c : ℕ) → ((k : ℕ) → old k ≡ old' k) → ((k : ℕ) → chosen k ≡ chosen' k) → Passes old chosen c new → Passes old' chosen' c new
passes_from old old' chosen chosen' new c e f (inl h) = inl (sym (e c) ∙ h.0, λ k. h.1 k ∙ e k)
passes_from old old' chosen chosen' new c e f (inr h) =
    inr (reduced_row_along (λ k. chosen c *ℤ old k -ℤ old c *ℤ chosen k) (λ k. chosen' c *ℤ old' k -ℤ old' c *ℤ chosen' k) new new
    (λ k. let a = e k in let b = e c in let u = f k in let v = f c in cc) (λ k. refl) h)

pub passes_more : (old xs ys : ℕ → ℕ → ℤ) (r c i : ℕ) → PassesRows old xs r c i → PassesAt xs ys r c i → PassesRows old ys r c (i + 1)
passes_more old xs ys r c i h g = record {
  passed = λ k l d. ⊎_elim
      (λ (m : k < i). passes_along (old k) (old r) (xs k) (ys k) c (λ x. g.others k x (omega arith)) (h.passed k m d))
      (λ (m : i ≤ k). let e : i ≡ k = omega arith in
      subst (λ (j : ℕ). Passes (old j) (old r) c (ys j)) e
      (passes_from (xs i) (old i) (xs r) (old r) (ys i) c (λ x. h.rest i x (omega arith)) (λ x. h.chosen_row x) (g.passed (omega arith))))
      (cases_lt k i);
  rest = λ k x l. g.others k x (omega arith) ∙ h.rest k x (omega arith);
  chosen_row = λ x. ⊎_elim
      (λ (e : i ≡ r). subst (λ (j : ℕ). ys j x ≡ xs j x) e (g.same e x))
      (λ (d : i ≢ r). g.others r x (λ e. d (sym e)))
      (cases_eq i r)
      ∙ h.chosen_row x;
}

-- ---- whether all rows are narrow

abbrev pub Tells : Bool → (ℕ → ℕ → ℤ) → Type 0
Tells b cells = (IsTrue b → (k : ℕ) → AllNarrow (cells k)) × (((k : ℕ) → AllNarrow (cells k)) → IsTrue b)

pub narrow_kept : (b n : Bool) (old xs ys : ℕ → ℕ → ℤ) (r c i : ℕ) → ((k : ℕ) → AllNarrow (old k)) → PassesRows old xs r c i → PassesAt xs ys r c i → IsTrue n
    → (IsTrue n → AllNarrow (ys i)) × (AllNarrow (ys i) → IsTrue n) → Tells b xs → Tells b ys
narrow_kept b n old xs ys r c i all h g t one so_far = (
  λ u k x. ⊎_elim
      (λ (e : i ≡ k). subst (λ (j : ℕ). unsigned_abs (ys j x) ≤ 2 ^ 62) e (one.0 t x))
      (λ (d : i ≢ k). rw (g.others k x (λ e. d (sym e))) (so_far.0 u k x))
      (cases_eq i k),
  λ u. so_far.1 (λ k x. ⊎_elim
      (λ (e : i ≡ k). subst (λ (j : ℕ). unsigned_abs (xs j x) ≤ 2 ^ 62) e (rw (h.rest i x (omega arith)) (all i x)))
      (λ (d : i ≢ k). rw (sym (g.others k x (λ e. d (sym e)))) (u k x))
      (cases_eq i k)),
)

pub narrow_lost : (n : Bool) (ys : ℕ → ℕ → ℤ) (i : ℕ) → (IsTrue n → ⊥) → (AllNarrow (ys i) → IsTrue n) → Tells false ys
narrow_lost n ys i wide one = ((λ (t : IsTrue false). absurd (cc)), (λ all. absurd (wide (one (all i)))))

-- the row that was written is narrow, or not
pub narrow_written : (b : Bool) (rows : List Row) (i : ℕ) (row : Row) → i < length rows → (IsTrue b → AllNarrow (number_in row.entries.items)) × (AllNarrow (number_in row.entries.items) → IsTrue b)
    → (IsTrue b → AllNarrow (cell (set rows i row) i)) × (AllNarrow (cell (set rows i row) i) → IsTrue b)
narrow_written b rows i row l h = rw (sym (entries_set_same rows i row l)) at h

pub narrow_read : (b : Bool) (rows : List Row) (i : ℕ) (row : Row) → i < length rows → row ≡ get_or rows i row
    → (IsTrue b → AllNarrow (number_in row.entries.items)) × (AllNarrow (number_in row.entries.items) → IsTrue b) → (IsTrue b → AllNarrow (cell rows i)) × (AllNarrow (cell rows i) → IsTrue b)
narrow_read b rows i row l e h = rw (entries_read rows i row l e) at h

pub narrow_row : (rows : List Row) (i : ℕ) (row : Row) → i < length rows → row ≡ get_or rows i row → AllNarrow (cell rows i) → AllNarrow (number_in row.entries.items)
narrow_row rows i row lt is = subst (λ entries. AllNarrow (number_in entries)) (sym (entries_read rows i row lt is))

pub narrow_more : (cells : ℕ → ℕ → ℤ) (i : ℕ) → AllNarrow (cells i) → ((k : ℕ) → k < i → AllNarrow (cells k)) → (k : ℕ) → k < i + 1 → AllNarrow (cells k)
narrow_more cells i here h k l x = ⊎_elim (λ (m : k < i). h k m x) (λ (m : i ≤ k). let e : i ≡ k = omega arith in subst (λ (j : ℕ). unsigned_abs (cells j x) ≤ 2 ^ 62) e (here x)) (cases_lt k i)

pub narrow_each : (rows : List Row) (i : ℕ) → length rows ≤ i → ((k : ℕ) → k < i → AllNarrow (cell rows k)) → (k : ℕ) → AllNarrow (cell rows k)
narrow_each rows i l h k x = ⊎_elim (λ (m : k < i). h k m x) (λ (m : i ≤ k). rw (past_rows rows k x (omega arith)) (omega arith)) (cases_lt k i)
