-- For bodies: a certificate that one run wrote and another is to check.
use Rattle.std.specs.Prelude.{◌≡◌, ℕ, ◌≤◌, List, length, Some}
use Rattle.kf_top.specs.Ends.{Answer}
use Rattle.kf_laws.specs.Held.{IsAnswerOver}
use Rattle.kf_laws.specs.Laws.{asks_certificate, asks_check}
use Rattle.kf_words.specs.Task.{task_of}

-- other words wrote, over earlier files, the certificate of a verdict on two texts; it stands in a file now, and these words ask for its
-- check on the same two texts and turns
pub record ChecksWritten (words : List (List ℕ)) (contents : List ℕ → List ℕ) : Type 0 where
  pub others : List (List ℕ)
  pub earlier : List ℕ → List ℕ
  pub cert : List ℕ
  pub first : List ℕ
  pub second : List ℕ
  pub turns : ℕ
  pub written : Answer
  pub asked : task_of others ≡ Some (asks_certificate first second turns)
  pub is_answer : IsAnswerOver others earlier written
  pub shown : written.status ≤ 1
  pub asks : task_of words ≡ Some (asks_check cert first second turns)
  pub same_first : contents first ≡ earlier first
  pub same_second : contents second ≡ earlier second
  pub stands : contents cert ≡ written.out
  pub short : length written.out ≤ 1048576
