-- Where one path alone is silent, the runs are seen up to the outermost statement with which it begins, and after it.
use Rattle.std.proofs.Common.{◌≡◌, ◌≢◌, ℕ, suc, ◌+◌, ◌<◌, Bool, false, List, [], ◌∷◌, ◌++◌, take, drop, length, get_or, sym, ap, ◌∙◌, arith}
use Rattle.std.proofs.lemmas.Bool.{false_from_ne_true}
use Rattle.std.proofs.lemmas.List.{drop_more, length-take-le, take-append-drop}
use Rattle.std.proofs.lemmas.Slice.Eq.{bytes_eq-Decides}
use Rattle.kf_value.specs.Types.{TypeTree}
use Rattle.kf_core.specs.Runs.{all_runs, chain, runs}
use Rattle.kf_core.specs.Sts.{StTree, sts}
use Rattle.kf_silent.specs.Silent.{Path, all_silent_runs, silent_runs, within}
use Rattle.kf_silent.proofs.Chaining.{chain_chain, stay_chain}
use Rattle.kf_silent.proofs.Ranges.{block_seen, statement_seen}
use Rattle.kf_silent.specs.Paths.{only}

-- nothing is silent that begins with another number
abbrev pub IsAt : (Path → Bool) → ℕ → Type 0
IsAt silent i = (j : ℕ) (path : Path) → j ≢ i → silent (j ∷ path) ≡ false

module _ (silent : Path → Bool) (ts : List TypeTree) (turns : ℕ) where
  parts_from : (i at : ℕ) (before : List StTree) (x : StTree) (after : List StTree) → i + length before ≡ at → IsAt silent at → (n : ℕ)
      → all_silent_runs silent ts turns i (sts (before ++ x ∷ after)) n
      ≡ chain (all_runs ts turns (sts before) n) (λ m. chain (silent_runs (within silent at) ts turns x m) (all_runs ts turns (sts after)))
  parts_from i at [] x after place is n =
      let here : i ≡ at = omega (arith, place) in
      ap (λ j. chain (silent_runs (within silent j) ts turns x n) (all_silent_runs silent ts turns (suc i) (sts after))) here
      ∙ (λ k. chain (silent_runs (within silent at) ts turns x n)
      (λ m. block_seen ts turns silent (suc i) (sts after) (λ j path later. is j path (λ same. omega (arith, later, same, here))) m k))
      ∙ sym (stay_chain n (λ m. chain (silent_runs (within silent at) ts turns x m) (all_runs ts turns (sts after))))
  parts_from i at (y ∷ before) x after place is n =
      let first = statement_seen ts turns (within silent i) y (λ path. is i path (λ same. omega (arith, place, same))) n in
      (λ k. chain (first k) (λ m. parts_from (suc i) at before x after (omega (arith, place)) is m k))
      ∙ sym (chain_chain (all_runs ts turns (sts before)) (λ m. chain (silent_runs (within silent at) ts turns x m) (all_runs ts turns (sts after))) (runs ts turns y n))

  pub one_parts : (xs : List StTree) (at : ℕ) (d : StTree) → at < length xs → IsAt silent at → (n : ℕ)
      → all_silent_runs silent ts turns 0 (sts xs) n
      ≡ chain (all_runs ts turns (sts (take at xs)) n)
      (λ m. chain (silent_runs (within silent at) ts turns (get_or xs at d) m) (all_runs ts turns (sts (drop (suc at) xs))))
  one_parts xs at d inside is n =
      let place : length (take at xs) ≡ at = length-take-le at xs (omega (arith, inside)) in
      let more : at + 1 ≡ suc at = omega arith in
      let whole : xs ≡ take at xs ++ get_or xs at d ∷ drop (suc at) xs =
      sym (take-append-drop at xs) ∙ ap (λ ys. take at xs ++ ys) (drop_more xs at d inside ∙ ap (λ k. get_or xs at d ∷ drop k xs) more) in
      ap (λ ys. all_silent_runs silent ts turns 0 (sts ys) n) whole
      ∙ parts_from 0 at (take at xs) (get_or xs at d) (drop (suc at) xs) (omega (arith, place)) is n

-- so it is with one path
pub only_at : (i : ℕ) (path : Path) → IsAt (only (i ∷ path)) i
only_at i path j other apart =
    false_from_ne_true (only (i ∷ path) (j ∷ other)) (λ same. apart (sym (first_is ((bytes_eq-Decides (i ∷ path) (j ∷ other)).0 same))))
  where
    first_is : i ∷ path ≡ j ∷ other → i ≡ j
    first_is e = cc
