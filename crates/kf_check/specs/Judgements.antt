-- Believed: rules one after the other: what is found where none is broken, and the first that is broken.
use Rattle.std.specs.Prelude.{◌≡◌, ◌⊎◌, Result, Ok, Err}
use Rattle.kf_check.specs.declared.errors.TypeError.{TypeError}

-- what may be found, or told as the first broken rule
abbrev pub Judgement : Type 0 → Type 1
Judgement A = Result A TypeError → Type 0

-- this is found
abbrev pub Is : {A : Type 0} → A → Judgement A
Is x r = r ≡ Ok x

-- what has this property is found; where nothing has it, this rule is broken
abbrev pub Picks : {A : Type 0} → (A → Type 0) → TypeError → Judgement A
Picks P e (Ok x) = P x
Picks {A} P e (Err f) = ((x : A) → ¬ P x) × (f ≡ e)

-- this is found where the fact holds; where it doesn't, this rule is broken
abbrev pub Where : {A : Type 0} → Type 0 → A → TypeError → Judgement A
Where P x e = Picks (λ y. P × (y ≡ x)) e

-- one judgement and then the next, on what the first has found; a rule that the first breaks comes first
abbrev pub After : {A B : Type 0} → Judgement A → (A → Judgement B) → Judgement B
After {A} first next (Ok y) = (x : A) × first (Ok x) × next x (Ok y)
After {A} first next (Err e) = first (Err e) ⊎ ((x : A) × first (Ok x) × next x (Err e))
