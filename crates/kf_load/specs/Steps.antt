-- Believed: an answer that comes step by step: the first refusal is that of the whole.
use Rattle.std.specs.Prelude.{◌≡◌, ◌⊎◌, ℕ, List, [], ◌∷◌, ◌++◌, codes, Ok, Err}
use Rattle.std.specs.declared.result.Result.{Result}

-- a line on standard error; `name` is the file's, or empty
abbrev pub message : List ℕ → List ℕ → List ℕ
message name what = codes "kuifje: " ++ (name ++ (what ++ 10 ∷ []))

-- why there is no answer: the program's status, and the line on standard error
pub record Refused : Type 0 where
  pub status : ℕ
  pub line : List ℕ

abbrev pub refusal : ℕ → List ℕ → List ℕ → Refused
refusal status name what = record { status = status; line = message name what }

-- a step towards an answer: which results it may have
abbrev pub Step : Type 0 → Type 1
Step A = Result A Refused → Type 0

-- one step and then the next: the first refusal is the refusal of both
abbrev pub After : {A B : Type 0} → Step A → (A → Step B) → Step B
After {A} first next (Ok y) = (x : A) × first (Ok x) × next x (Ok y)
After {A} first next (Err r) = first (Err r) ⊎ ((x : A) × first (Ok x) × next x (Err r))

-- the one result of a step
abbrev pub Gives : {A : Type 0} → Result A Refused → Step A
Gives given result = result ≡ given

-- a step for each in turn
abbrev pub Each : {A B : Type 0} → (A → Step B) → List A → Step (List B)
Each step [] = Gives (Ok [])
Each step (x ∷ xs) = After (step x) (λ y. After (Each step xs) (λ ys. Gives (Ok (y ∷ ys))))
