-- A loop over a list that stops at the first member that isn't such.
use Rattle.std.proofs.Common.{◌≡◌, ℕ, suc, ◌+◌, ◌<◌, ◌≤◌, List, [], ◌∷◌, All, map, sym, ◌∙◌, ap, subst, arith, ⊎_elim, length, get_or}
use Rattle.std.proofs.lemmas.Bool.{cases_lt}
use Rattle.std.proofs.lemmas.List.{get_or_default, get_or-map, length-map}
use Rattle.std.proofs.lemmas.List.Elements.{All-nil, All-cons}

-- the first so many members are such
abbrev pub SoFar : {X Y : Type 0} → (X → Y) → (Y → Type 0) → List X → ℕ → Type 0
SoFar {X} shown P xs i = (k : ℕ) (d : X) → k < i → k < length xs → P (shown (get_or xs k d))

pub none_yet : {X Y : Type 0} (shown : X → Y) (P : Y → Type 0) (xs : List X) → SoFar shown P xs 0
none_yet shown P xs k d below within = absurd (omega arith)

pub one_more : {X Y : Type 0} (shown : X → Y) (P : Y → Type 0) (xs : List X) (i : ℕ) (x : X) → SoFar shown P xs i → x ≡ get_or xs i x → P (shown x)
    → SoFar shown P xs (i + 1)
one_more {X} shown P xs i x had is here k d below within =
    ⊎_elim
    (λ (before : k < i). had k d before within)
    (λ (past : i ≤ k).
    let same : k ≡ i = omega (arith, below, past) in
    let value : x ≡ get_or xs k d = is ∙ ap (λ (n : ℕ). get_or xs n x) (sym same) ∙ get_or_default xs k x d within in
    subst (λ (y : X). P (shown y)) value here)
    (cases_lt k i)

each : {X Y : Type 0} (shown : X → Y) (P : Y → Type 0) (xs : List X) → ((k : ℕ) (d : X) → k < length xs → P (shown (get_or xs k d))) → All P (map shown xs)
each shown P [] holds = All-nil P
each {X} shown P (x ∷ xs) holds =
    All-cons P (shown x) (map shown xs) (holds 0 x (omega arith)) (each shown P xs (λ (k : ℕ) (d : X) (within : k < length xs). holds (suc k) d (omega arith)))

pub all_seen : {X Y : Type 0} (shown : X → Y) (P : Y → Type 0) (xs : List X) (i : ℕ) → length xs ≤ i → SoFar shown P xs i → All P (map shown xs)
all_seen {X} shown P xs i past had = each shown P xs (λ (k : ℕ) (d : X) (within : k < length xs). had k d (omega arith) within)

-- where all members are such, the one that is read is
pub seen_here : {X Y : Type 0} (shown : X → Y) (P : Y → Type 0) (xs : List X) (i : ℕ) (x : X) → i < length xs → x ≡ get_or xs i x → All P (map shown xs) → P (shown x)
seen_here shown P xs i x within is all =
    subst P (get_or-map shown xs i x (shown x) within ∙ sym (ap shown is)) (all i (shown x) (subst (λ (n : ℕ). i < n) (sym (length-map xs shown)) within))

-- lists whose images are the same have the same images of members
pub twice_mapped : {X Y Z V : Type 0} (f : X → V) (g : Z → V) (h : Y → Z) (xs : List X) (ys : List Y) (i : ℕ) (x : X) (y : Y) → i < length xs → i < length ys
    → map f xs ≡ map g (map h ys) → f (get_or xs i x) ≡ g (h (get_or ys i y))
twice_mapped {X} {Y} {Z} {V} f g h xs ys i x y within inside same =
    sym (get_or-map f xs i x (f x) within) ∙ ap (λ (vs : List V). get_or vs i (f x)) same
    ∙ get_or-map g (map h ys) i (h y) (f x) (subst (λ (n : ℕ). i < n) (sym (length-map ys h)) inside) ∙ ap g (get_or-map h ys i y (h y) inside)
