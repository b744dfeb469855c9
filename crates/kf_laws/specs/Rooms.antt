-- For bodies: room for every answer, and an answer written whole to a sink in memory.
use Rattle.std.specs.Prelude.{◌≡◌, ℕ, ◌≤◌, List, ◌++◌, length}
use Rattle.kf_top.specs.Ends.{Answer}
use Rattle.kf_laws.specs.Held.{IsAnswerOver}

-- so much room holds the bytes of each defined answer
abbrev pub HasRoom : List (List ℕ) → (List ℕ → List ℕ) → ℕ → Type 0
HasRoom words contents room = (answer : Answer) → IsAnswerOver words contents answer → length answer.out ≤ room

-- the status is that of a defined answer, whose bytes were added to those that were there before
pub record IsWritten (words : List (List ℕ)) (contents : List ℕ → List ℕ) (before now : List ℕ) (status : ℕ) : Type 0 where
  pub answer : Answer
  pub is_answer : IsAnswerOver words contents answer
  pub status_is : status ≡ answer.status
  pub bytes : now ≡ before ++ answer.out
