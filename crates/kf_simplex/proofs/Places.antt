-- A row's entries by their places, and what is known of all of them.
use Rattle.std.proofs.Common.{◌≡◌, ◌≢◌, ℕ, zero, suc, ◌+◌, ◌^◌, ◌<◌, ◌≤◌, refl, sym, ◌∙◌, arith, ⊎_elim, ◌⊎◌, inl, inr, Bool, List, [], ◌∷◌, map, length, get_or, unsigned_abs}
use Rattle.std.specs.Prelude.{IsTrue}
use Rattle.std.proofs.Math.IntN.{pos}
use Rattle.std.proofs.lemmas.Bool.{cases_eq}
use Rattle.kf_simplex.specs.declared.row.Entry.{Entry}
use Rattle.kf_simplex.specs.Entries.{no_entry, number_in, Ascends}
use Rattle.kf_simplex.specs.Base.{at}
use Rattle.kf_simplex.proofs.Entries.{at_same, at_other}

-- each entry is the row's number at its column
pub number_own : (low : ℕ) (es : List Entry) → Ascends low es → (k : ℕ) → k < length es → (c : ℕ) × (number_in es c ≡ at (map (λ e. e.number) es) k) × (low ≤ c)
number_own low [] up k l = absurd (omega arith)
number_own low (e ∷ es) (from, rest) zero l = (e.column, at_same e es e.column refl, from)
number_own low (e ∷ es) (from, rest) (suc k) l =
    let h = number_own (e.column + 1) es rest k (omega arith) in
    (h.0, at_other e es h.0 (let m = h.2 in λ same. absurd (omega arith)) ∙ h.1, (let m = h.2 in omega (arith, m, from)))

-- each number is that of an entry, or 0
pub number_found : (es : List Entry) (c : ℕ) → (number_in es c ≡ pos 0) ⊎ ((k : ℕ) × (k < length es) × (number_in es c ≡ at (map (λ e. e.number) es) k))
number_found [] c = inl refl
number_found (e ∷ es) c =
    ⊎_elim
    (λ (u : e.column ≡ c). inr (0, omega arith, at_same e es c u))
    (λ (u : e.column ≢ c). ⊎_elim
    (λ (z : number_in es c ≡ pos 0). inl (at_other e es c u ∙ z))
    (λ (h : (k : ℕ) × (k < length es) × (number_in es c ≡ at (map (λ e. e.number) es) k)). inr (suc h.0, (let l = h.1 in omega (arith, l)), at_other e es c u ∙ h.2))
    (number_found es c))
    (cases_eq e.column c)

pub at_numbers : (es : List Entry) (k : ℕ) → at (map (λ e. e.number) es) k ≡ (get_or es k no_entry).number
at_numbers [] k = refl
at_numbers (e ∷ es) zero = refl
at_numbers (e ∷ es) (suc k) = at_numbers es k

-- entries of one bound, by their places and by their columns
pub bound_by_columns : (es : List Entry) (b : ℕ) → ((k : ℕ) → k < length es → unsigned_abs (get_or es k no_entry).number ≤ b) → (c : ℕ) → unsigned_abs (number_in es c) ≤ b
bound_by_columns es b h c =
    ⊎_elim
    (λ (z : number_in es c ≡ pos 0). rw z (omega arith))
    (λ (w : (k : ℕ) × (k < length es) × (number_in es c ≡ at (map (λ e. e.number) es) k)). rw (w.2 ∙ at_numbers es w.0) (h w.0 w.1))
    (number_found es c)

pub bound_by_places : (es : List Entry) (b : ℕ) → Ascends 0 es → ((c : ℕ) → unsigned_abs (number_in es c) ≤ b) → (k : ℕ) → k < length es → unsigned_abs (get_or es k no_entry).number ≤ b
bound_by_places es b up h k l =
    let w = number_own 0 es up k l in rw (sym (w.1 ∙ at_numbers es k)) (h w.0)

pub narrow_both : (b : Bool) (es items : List Entry) → items ≡ es → Ascends 0 es
    → (IsTrue b → (k : ℕ) → k < length items → unsigned_abs (get_or items k no_entry).number ≤ 2 ^ 62) × (((k : ℕ) → k < length items → unsigned_abs (get_or items k no_entry).number ≤ 2 ^ 62) → IsTrue b)
    → (IsTrue b → (c : ℕ) → unsigned_abs (number_in es c) ≤ 2 ^ 62) × (((c : ℕ) → unsigned_abs (number_in es c) ≤ 2 ^ 62) → IsTrue b)
narrow_both b es items same up h =
    let h' = rw same at h in
    ((λ t. bound_by_columns es (2 ^ 62) (h'.0 t)), (λ n. h'.1 (bound_by_places es (2 ^ 62) up n)))
