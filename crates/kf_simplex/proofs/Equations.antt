-- Equations read as a system.
use Rattle.std.proofs.Common.{◌≡◌, ◌≢◌, ℕ, zero, suc, ◌+◌, ◌*◌, ◌^◌, ◌<◌, ◌≤◌, ◌==◌, refl, sym, ap, ◌∙◌, arith, unsigned_abs, List, [], ◌∷◌, length, drop, get_or, nat_lt, cond}
use Rattle.std.proofs.Math.IntN.{ℤ, pos, ◌+ℤ◌}
use Rattle.std.proofs.lemmas.Int.{ints}
use Rattle.std.proofs.lemmas.Bool.{cond_both}
use Rattle.std.proofs.lemmas.Bool.Decides.{nat_tests}
use lib.Signed.{◌≤ℤ◌}
use Rattle.kf_simplex.specs.declared.row.Entry.{Entry}
use Rattle.kf_simplex.specs.declared.system.SparseEquation.{SparseEquation}
use Rattle.kf_simplex.specs.Base.{total}
use Rattle.kf_simplex.specs.Systems.{IsSystem}
use Rattle.kf_simplex.specs.Entries.{number_in}
use Rattle.kf_simplex.specs.Views.{entry, coefficients_in, right_side_in, sparse_number}

-- ---- the four kinds of columns

pub entry-unknown : (v e : ℕ) (coef : ℕ → ℤ) (rhs : ℤ) (k c : ℕ) → c < v → entry v e coef rhs k c ≡ coef c
unfolding entry
entry-unknown v e coef rhs k c l = grind (arith, nat_tests)

pub entry-own : (v e : ℕ) (coef : ℕ → ℤ) (rhs : ℤ) (k c : ℕ) → c ≡ v + k → k < e → entry v e coef rhs k c ≡ pos 1
unfolding entry
entry-own v e coef rhs k c h l = grind (arith, nat_tests)

pub entry-other : (v e : ℕ) (coef : ℕ → ℤ) (rhs : ℤ) (k c : ℕ) → v ≤ c → c < v + e → c ≢ v + k → entry v e coef rhs k c ≡ pos 0
unfolding entry
entry-other v e coef rhs k c h l d = grind (arith, nat_tests)

pub entry-right : (v e : ℕ) (coef : ℕ → ℤ) (rhs : ℤ) (k c : ℕ) → c ≡ v + e → entry v e coef rhs k c ≡ rhs
unfolding entry
entry-right v e coef rhs k c h = grind (arith, nat_tests)

-- nothing stands past the right side
pub entry-past : (v e : ℕ) (coef : ℕ → ℤ) (rhs : ℤ) (k c : ℕ) → v + e < c → k < e → entry v e coef rhs k c ≡ pos 0
unfolding entry
entry-past v e coef rhs k c l m = grind (arith, nat_tests)

-- ---- signs and sizes

entries_are_system : (v e : ℕ) (coef : ℕ → ℕ → ℤ) (rhs : ℕ → ℤ) → ((k : ℕ) → pos 0 ≤ℤ rhs k)
    → IsSystem (record { unknowns = v; equations = e; number = λ k c. entry v e (coef k) (rhs k) k c })
entries_are_system v e coef rhs sign = record {
  same = λ k l. entry-own v e (coef k) (rhs k) k (v + k) refl l;
  other = λ k m l u d. entry-other v e (coef k) (rhs k) k (v + m) (omega arith) (omega arith) (omega arith);
  right = λ k l. rw (entry-right v e (coef k) (rhs k) k (v + e) refl) (sign k);
}

right_not_negative : (rows : List SparseEquation) (k : ℕ) → pos 0 ≤ℤ right_side_in rows k
right_not_negative [] k = omega (arith, ints)
right_not_negative (q ∷ rows) zero = q.not_negative
right_not_negative (q ∷ rows) (suc k) = right_not_negative rows k

pub sparse_is_system : (v : ℕ) (rows : List SparseEquation) → IsSystem (record { unknowns = v; equations = length rows; number = sparse_number v rows })
unfolding sparse_number
sparse_is_system v rows = entries_are_system v (length rows) (λ k. number_in (coefficients_in rows k)) (right_side_in rows) (right_not_negative rows)

coefficients_narrow : (rows : List SparseEquation) (k c : ℕ) → unsigned_abs (number_in (coefficients_in rows k) c) ≤ 2 ^ 62
coefficients_narrow [] k c = omega arith
coefficients_narrow (q ∷ rows) zero c = q.narrow c
coefficients_narrow (q ∷ rows) (suc k) c = coefficients_narrow rows k c

right_narrow : (rows : List SparseEquation) (k : ℕ) → unsigned_abs (right_side_in rows k) ≤ 2 ^ 62
right_narrow [] k = omega arith
right_narrow (q ∷ rows) zero = q.rhs_narrow
right_narrow (q ∷ rows) (suc k) = right_narrow rows k

entry_narrow : (v e : ℕ) (coef : ℕ → ℤ) (rhs : ℤ) (k c : ℕ) → ((j : ℕ) → unsigned_abs (coef j) ≤ 2 ^ 62) → unsigned_abs rhs ≤ 2 ^ 62
    → unsigned_abs (entry v e coef rhs k c) ≤ 2 ^ 62
unfolding entry
entry_narrow v e coef rhs k c h r =
    cond_both (nat_lt c v) (coef c) (cond (c == v + e) rhs (cond (c == v + k) (pos 1) (pos 0))) (λ z. unsigned_abs z ≤ 2 ^ 62)
    (λ t. h c)
    (λ t. cond_both (c == v + e) rhs (cond (c == v + k) (pos 1) (pos 0)) (λ z. unsigned_abs z ≤ 2 ^ 62)
    (λ u. r)
    (λ u. cond_both (c == v + k) (pos 1) (pos 0) (λ z. unsigned_abs z ≤ 2 ^ 62) (λ x. omega arith) (λ x. omega arith)))

pub sparse_narrow : (v : ℕ) (rows : List SparseEquation) (k c : ℕ) → unsigned_abs (sparse_number v rows k c) ≤ 2 ^ 62
unfolding sparse_number
sparse_narrow v rows k c = entry_narrow v (length rows) (number_in (coefficients_in rows k)) (right_side_in rows k) k c (λ j. coefficients_narrow rows k j) (right_narrow rows k)

-- nothing stands past the right side
pub sparse_past : (v : ℕ) (rows : List SparseEquation) (k c : ℕ) → k < length rows → v + length rows < c → sparse_number v rows k c ≡ pos 0
unfolding sparse_number
sparse_past v rows k c l m = entry-past v (length rows) (number_in (coefficients_in rows k)) (right_side_in rows k) k c m l

abs_add : (a b : ℤ) → unsigned_abs (a +ℤ b) ≤ unsigned_abs a + unsigned_abs b
abs_add a b = omega (arith, ints)

pub total_bound : (n b : ℕ) (f : ℕ → ℤ) → ((k : ℕ) → unsigned_abs (f k) ≤ b) → unsigned_abs (total n f) ≤ n * b
total_bound zero b f h = omega arith
total_bound (suc n) b f h = let i = total_bound n b f h in let e = h n in let a = abs_add (total n f) (f n) in omega arith

-- ---- an equation taken from what is left

-- the equation stands at index k, and these come after it
pub record IsNext (rows : List SparseEquation) (k : ℕ) (q : SparseEquation) (rest : List SparseEquation) : Type 0 where
  pub inside : k < length rows
  pub here : q ≡ get_or rows k q
  pub coefs : coefficients_in rows k ≡ q.coefs.entries.items
  pub rhs : right_side_in rows k ≡ q.rhs
  pub after : drop (k + 1) rows ≡ rest

suc_next : (k : ℕ) → suc k + 1 ≡ suc (k + 1)
suc_next k = omega arith

pub is_next : (rows : List SparseEquation) (k : ℕ) (q : SparseEquation) (rest : List SparseEquation) → drop k rows ≡ q ∷ rest → IsNext rows k q rest
is_next [] zero q rest e = absurd (let l = ap length e in omega arith)
is_next [] (suc k) q rest e = absurd (let l = ap length e in omega arith)
is_next (x ∷ rows) zero q rest e =
    let same : x ≡ q = ap (λ (ys : List SparseEquation). get_or ys 0 x) e in
    record { inside = omega arith; here = sym same; coefs = ap (λ (y : SparseEquation). y.coefs.entries.items) same; rhs = ap (λ (y : SparseEquation). y.rhs) same; after = ap (drop 1) e }
is_next (x ∷ rows) (suc k) q rest e =
    let h = is_next rows k q rest e in
    record { inside = (let l = h.inside in omega arith); here = h.here; coefs = h.coefs; rhs = h.rhs; after = ap (λ (n : ℕ). drop n (x ∷ rows)) (suc_next k) ∙ h.after }

-- the entries of its row
pub number_of : (v e i : ℕ) (rows : List SparseEquation) (k : ℕ) (q : SparseEquation) (rest : List SparseEquation) (c : ℕ) → IsNext rows k q rest → e ≡ length rows → i ≡ k
    → entry v e (number_in q.coefs.entries.items) q.rhs i c ≡ sparse_number v rows k c
unfolding sparse_number
number_of v e i rows k q rest c h count place =
    ap (λ (n : ℕ). entry v n (number_in q.coefs.entries.items) q.rhs i c) count
    ∙ ap (λ (n : ℕ). entry v (length rows) (number_in q.coefs.entries.items) q.rhs n c) place
    ∙ ap (λ (es : List Entry). entry v (length rows) (number_in es) q.rhs k c) (sym h.coefs)
    ∙ ap (λ (z : ℤ). entry v (length rows) (number_in (coefficients_in rows k)) z k c) (sym h.rhs)
