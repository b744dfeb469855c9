-- Columns of one posterior: what the test says, and that a posterior is written in one way.
use Rattle.std.proofs.Common.{◌≡◌, ℕ, ◌+◌, ◌*◌, ◌==◌, ◌&&◌, ◌||◌, List, [], ◌∷◌, ◌++◌, Bool, true, false, refl, ◌∙◌, ap, subst, arith, zero-add, ◌⊎◌, ⊎_elim, inl, inr, eq-eqb, if◌then◌else◌}
use Rattle.std.proofs.lemmas.Bool.{eqb-true}
use Rattle.std.specs.List.{list_all, list_any}
use Rattle.kf_column.specs.declared.entry.Entry.{Entry}
use Rattle.kf_column.specs.Columns.{weight_at, values, proportional}
use Rattle.kf_column.proofs.Weights.{weight_at-cons}

-- all cross products agree
abbrev pub AreProportional : List Entry → List Entry → Type 0
AreProportional u v = (x y : ℕ) → weight_at u x * weight_at v y ≡ weight_at u y * weight_at v x

-- ---- tests on lists

and_first : (a b : Bool) → (a && b) ≡ true → a ≡ true
and_first true b h = refl
and_first false b h = h

and_second : (a b : Bool) → (a && b) ≡ true → b ≡ true
and_second true b h = h
and_second false b h = absurd (cc)

or_first : (a b : Bool) → (a || b) ≡ false → a ≡ false
or_first true b h = h
or_first false b h = refl

or_second : (a b : Bool) → (a || b) ≡ false → b ≡ false
or_second true b h = absurd (cc)
or_second false b h = h

or_true : (a b : Bool) → a ≡ false → (a || b) ≡ true → b ≡ true
or_true true b no' h = absurd (cc)
or_true false b no' h = h

pub bool_cases : (b : Bool) → (b ≡ true) ⊎ (b ≡ false)
bool_cases true = inl refl
bool_cases false = inr refl

-- what holds of all holds of one among them
all_among : (p : ℕ → Bool) (xs : List ℕ) (x : ℕ) → list_all p xs ≡ true → list_any (λ y. y == x) xs ≡ true → p x ≡ true
all_among p [] x all here = absurd (cc)
all_among p (y ∷ ys) x all here =
    ⊎_elim
    (λ (e : (y == x) ≡ true). subst (λ (n : ℕ). p n ≡ true) (eqb-true y x e) (and_first (p y) (list_all p ys) all))
    (λ (e : (y == x) ≡ false). all_among p ys x (and_second (p y) (list_all p ys) all) (or_true (y == x) (list_any (λ y. y == x) ys) e here))
    (bool_cases (y == x))

all_true : (p : ℕ → Bool) (xs : List ℕ) → ((x : ℕ) → p x ≡ true) → list_all p xs ≡ true
all_true p [] each = refl
all_true p (x ∷ xs) each = rw (each x) (all_true p xs each)

-- a value that a column doesn't name has no weight
weight_absent : (column : List Entry) (x : ℕ) → list_any (λ y. y == x) (values column) ≡ false → weight_at column x ≡ 0
weight_absent [] x none = refl
weight_absent (e ∷ es) x none =
    weight_at-cons e es x ∙ ap (λ (b : Bool). (if b then e.weight else 0) + weight_at es x) (or_first (e.value == x) (list_any (λ y. y == x) (values es)) none)
    ∙ zero-add (weight_at es x) ∙ weight_absent es x (or_second (e.value == x) (list_any (λ y. y == x) (values es)) none)

absent_first : (p : ℕ → Bool) (xs ys : List ℕ) → list_any p (xs ++ ys) ≡ false → list_any p xs ≡ false
absent_first p [] ys none = refl
absent_first p (x ∷ xs) ys none = rw (or_first (p x) (list_any p (xs ++ ys)) none) (absent_first p xs ys (or_second (p x) (list_any p (xs ++ ys)) none))

absent_second : (p : ℕ → Bool) (xs ys : List ℕ) → list_any p (xs ++ ys) ≡ false → list_any p ys ≡ false
absent_second p [] ys none = none
absent_second p (x ∷ xs) ys none = absent_second p xs ys (or_second (p x) (list_any p (xs ++ ys)) none)

-- ---- the test and the equation

neither_left : (a b c d : ℕ) → a ≡ 0 → b ≡ 0 → a * d ≡ c * b
neither_left a b c d p q = rw (p, q) (omega arith)

neither_right : (a b c d : ℕ) → c ≡ 0 → d ≡ 0 → a * d ≡ c * b
neither_right a b c d p q = rw (p, q) (omega arith)

pub proportional_all : (u v : List Entry) → proportional u v ≡ true → AreProportional u v
proportional_all u v test x y =
    let both = values u ++ values v in
    ⊎_elim
    (λ (hx : list_any (λ n. n == x) both ≡ true).
    ⊎_elim
    (λ (hy : list_any (λ n. n == y) both ≡ true). eqb-true _ _ (all_among _ both y (all_among _ both x test hx) hy))
    (λ (hy : list_any (λ n. n == y) both ≡ false). neither_right (weight_at u x) (weight_at v x) (weight_at u y) (weight_at v y)
    (weight_absent u y (absent_first _ (values u) (values v) hy)) (weight_absent v y (absent_second _ (values u) (values v) hy)))
    (bool_cases (list_any (λ n. n == y) both)))
    (λ (hx : list_any (λ n. n == x) both ≡ false). neither_left (weight_at u x) (weight_at v x) (weight_at u y) (weight_at v y)
    (weight_absent u x (absent_first _ (values u) (values v) hx)) (weight_absent v x (absent_second _ (values u) (values v) hx)))
    (bool_cases (list_any (λ n. n == x) both))

pub all_proportional : (u v : List Entry) → AreProportional u v → proportional u v ≡ true
all_proportional u v each =
    all_true _ (values u ++ values v) (λ x. all_true _ (values u ++ values v) (λ y. eq-eqb _ _ (each x y)))
