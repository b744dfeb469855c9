-- A system by its coefficients that aren't 0.
use Rattle.std.proofs.Common.{◌≡◌, ℕ, zero, suc, ◌<◌, ◌≤◌, refl, sym, ap, ◌∙◌, List, [], ◌∷◌, length, map, get_or, drop, drop-cons, add-one, append_assoc, append-nil, ◌++◌, ◌+◌, subst}
use Rattle.std.proofs.Math.IntN.{ℤ, pos}
use Rattle.std.proofs.lemmas.List.{drop_all, length-map, map-append}
use Rattle.std.specs.List.{All}
use Rattle.kf_simplex.specs.declared.system.Equation.{Equation}
use Rattle.kf_simplex.specs.declared.system.SparseEquation.{SparseEquation}
use Rattle.kf_simplex.specs.Base.{at}
use Rattle.kf_simplex.specs.Entries.{number_in}
use Rattle.kf_simplex.specs.Turns.{system}
use Rattle.kf_simplex.specs.Views.{coefficients, right_side, entry, number_at, coefficients_in, right_side_in, sparse_number}

-- an equation's coefficients by their columns, and its right side
abbrev pub Sides : Type 0
Sides = (ℕ → ℤ) × ℤ

abbrev pub sides : Equation → Sides
sides q = (at q.coefs, q.rhs)

abbrev pub sparse_sides : SparseEquation → Sides
sparse_sides q = (number_in q.coefs.entries.items, q.rhs)

abbrev sides_at : List Sides → ℕ → Sides
sides_at xs k = get_or xs k (λ c. pos 0, pos 0)

coefs_at : (rows : List Equation) (k c : ℕ) → at (coefficients rows k) c ≡ (sides_at (map sides rows) k).0 c
coefs_at [] k c = refl
coefs_at (q ∷ rows) zero c = refl
coefs_at (q ∷ rows) (suc k) c = coefs_at rows k c

rhs_at : (rows : List Equation) (k : ℕ) → right_side rows k ≡ (sides_at (map sides rows) k).1
rhs_at [] k = refl
rhs_at (q ∷ rows) zero = refl
rhs_at (q ∷ rows) (suc k) = rhs_at rows k

sparse_coefs_at : (rows : List SparseEquation) (k c : ℕ) → number_in (coefficients_in rows k) c ≡ (sides_at (map sparse_sides rows) k).0 c
sparse_coefs_at [] k c = refl
sparse_coefs_at (q ∷ rows) zero c = refl
sparse_coefs_at (q ∷ rows) (suc k) c = sparse_coefs_at rows k c

sparse_rhs_at : (rows : List SparseEquation) (k : ℕ) → right_side_in rows k ≡ (sides_at (map sparse_sides rows) k).1
sparse_rhs_at [] k = refl
sparse_rhs_at (q ∷ rows) zero = refl
sparse_rhs_at (q ∷ rows) (suc k) = sparse_rhs_at rows k

same_length : (rows : List SparseEquation) (eqs : List Equation) → map sparse_sides rows ≡ map sides eqs → length rows ≡ length eqs
same_length rows eqs e = sym (length-map rows sparse_sides) ∙ ap length e ∙ length-map eqs sides

same_entry : (v e e' : ℕ) (f g : ℕ → ℤ) (a b : ℤ) (k c : ℕ) → e ≡ e' → ((j : ℕ) → f j ≡ g j) → a ≡ b → entry v e f a k c ≡ entry v e' g b k c
same_entry v e e' f g a b k c count coefs rhs = λ i. entry v (count i) (λ j. coefs j i) (rhs i) k c

same_number : (v : ℕ) (rows : List SparseEquation) (eqs : List Equation) → map sparse_sides rows ≡ map sides eqs → (k c : ℕ) → sparse_number v rows k c ≡ number_at v eqs k c
unfolding sparse_number number_at
same_number v rows eqs e k c =
    same_entry v (length rows) (length eqs) (number_in (coefficients_in rows k)) (at (coefficients eqs k)) (right_side_in rows k) (right_side eqs k) k c (same_length rows eqs e)
    (λ j. sparse_coefs_at rows k j ∙ ap (λ (xs : List Sides). (sides_at xs k).0 j) e ∙ sym (coefs_at eqs k j))
    (sparse_rhs_at rows k ∙ ap (λ (xs : List Sides). (sides_at xs k).1) e ∙ sym (rhs_at eqs k))

-- equations with the same sides are the same system
pub same_system : (v : ℕ) (rows : List SparseEquation) (eqs : List Equation) → map sparse_sides rows ≡ map sides eqs
    → system v (length rows) (sparse_number v rows) ≡ system v (length eqs) (number_at v eqs)
same_system v rows eqs e = λ i. record { unknowns = v; equations = same_length rows eqs e i; number = λ k c. same_number v rows eqs e k c i }

-- ---- an equation more

-- an equation whose row has the coefficients
same_sides : (q : SparseEquation) (p : Equation) (xs : List ℤ) → ((c : ℕ) → number_in q.coefs.entries.items c ≡ at xs c) → xs ≡ p.coefs → q.rhs ≡ p.rhs → sparse_sides q ≡ sides p
same_sides q p xs numbers coefs rhs = λ i. (λ c. (numbers c ∙ ap (λ (ys : List ℤ). at ys c) coefs) i, rhs i)

pub sides_more : (rows new : List SparseEquation) (eqs items : List Equation) (i : ℕ) (q : SparseEquation) (p : Equation) (xs : List ℤ) → items ≡ eqs → i < length items → p ≡ get_or items i p
    → new ≡ rows ++ q ∷ [] → ((c : ℕ) → number_in q.coefs.entries.items c ≡ at xs c) → xs ≡ p.coefs → q.rhs ≡ p.rhs → map sparse_sides rows ++ map sides (drop i eqs) ≡ map sides eqs → map sparse_sides new ++ map sides (drop (i + 1) eqs) ≡ map sides eqs
sides_more rows new eqs items i q p xs same inside here is numbers coefs rhs so_far =
    let left : drop i items ≡ p ∷ drop (i + 1) items = rw add-one (drop-cons items i p inside ∙ ap (λ (x : Equation). x ∷ drop (suc i) items) (sym here)) in
    ap (λ (xs : List SparseEquation). map sparse_sides xs ++ map sides (drop (i + 1) eqs)) is
    ∙ ap (λ (xs : List Sides). xs ++ map sides (drop (i + 1) eqs)) (map-append sparse_sides rows (q ∷ []))
    ∙ append_assoc (map sparse_sides rows) (sparse_sides q ∷ []) (map sides (drop (i + 1) eqs))
    ∙ ap (λ (x : Sides). map sparse_sides rows ++ (x ∷ map sides (drop (i + 1) eqs))) (same_sides q p xs numbers coefs rhs)
    ∙ ap (λ (xs : List Equation). map sparse_sides rows ++ map sides xs) (sym (subst (λ (ys : List Equation). drop i ys ≡ p ∷ drop (i + 1) ys) same left))
    ∙ so_far

pub sides_end : (rows : List SparseEquation) (eqs items : List Equation) (i : ℕ) → items ≡ eqs → length items ≤ i → map sparse_sides rows ++ map sides (drop i eqs) ≡ map sides eqs → map sparse_sides rows ≡ map sides eqs
sides_end rows eqs items i same l h =
    sym (append-nil (map sparse_sides rows)) ∙ ap (λ (xs : List Equation). map sparse_sides rows ++ map sides xs) (sym (drop_all i eqs (rw same at l))) ∙ h

pub length_read : (v : ℕ) (eqs items : List Equation) (i : ℕ) (p : Equation) → items ≡ eqs → i < length items → p ≡ get_or items i p → All (λ x. length x.coefs ≡ v) eqs → length p.coefs ≡ v
length_read v eqs items i p same l here h = ap (λ (x : Equation). length x.coefs) here ∙ (rw (sym same) at h) i p l
