-- What the standard search by a test finds is the first row with the word.
use Rattle.std.proofs.Common.{◌≡◌, ℕ, ◌<◌, ◌≤◌, false, List, length, get_or, position, Option, None, Some, sym, arith}
use Rattle.std.specs.List.{position_or_len}
use Rattle.std.proofs.lemmas.List.Quantifiers.{position-Some}
use Rattle.std.proofs.lemmas.List.Sums.{fails_before_first}
use Rattle.std.proofs.lemmas.Bool.Decides.{nat_tests, not_from_Decides}
use Rattle.std.proofs.lemmas.Slice.Eq.{bytes_eq-Decides}
use Rattle.kf_ops.specs.Rows.{Row}
use Rattle.kf_ops.specs.Table.{HasWord, has_word, IsPlaceOf}

module _ (table : List Row) (word : List ℕ) where
  past : None ≡ position (has_word word) table → length table ≤ position_or_len (has_word word) table
  past is = grind (arith, nat_tests)

  inside : (place : ℕ) → Some place ≡ position (has_word word) table → place < length table
  inside place is = grind (arith, nat_tests)

  lacks : (row : Row) → has_word word row ≡ false → ¬ HasWord word row
  lacks row = not_from_Decides (has_word word row) (bytes_eq-Decides row.word word)

  -- what `position` answers is the first row with the word
  pub placed : (result : Option ℕ) → result ≡ position (has_word word) table → IsPlaceOf table word result
  placed None is = λ k d within.
      let p : length table ≤ position_or_len (has_word word) table = past is in
      lacks (get_or table k d) (fails_before_first (has_word word) table k d (omega arith))
  placed (Some place) is = record {
    within = inside place is;
    here = λ d. (bytes_eq-Decides (get_or table place d).word word).0 (position-Some (has_word word) table place d (sym is)).1;
    before = λ k d low high. lacks (get_or table k d) ((position-Some (has_word word) table place d (sym is)).2 k high);
  }
