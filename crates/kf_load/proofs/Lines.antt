-- A byte more moves the line and the column on.
use Rattle.std.proofs.Common.{◌≡◌, ◌≢◌, ◌<◌, ◌≤◌, min, take, get_or, ℕ, ◌+◌, Bool, true, false, not, cond, List, [], ◌∷◌, ◌++◌, length, reverse, refl, sym, ap, ◌∙◌, arith, add-one}
use Rattle.std.specs.List.{filter, take_while}
use Rattle.std.proofs.lemmas.List.{reverse-append, length-append}
use Rattle.std.proofs.lemmas.List.Elements.{filter-append}
use Rattle.std.proofs.lemmas.List.Sums.{take_while-cons}
use Rattle.std.proofs.lemmas.Grind.{common_steps}
use Rattle.std.proofs.Math.Seq.{take-suc}
use Rattle.kf_load.specs.Place.{is_line_feed}
use Rattle.kf_load.specs.Views.{line_after, column_after}

abbrev in_line : ℕ → Bool
in_line b = not (is_line_feed b)

other : (b : ℕ) → b ≢ 10 → is_line_feed b ≡ false
other b ne = grind arith

module _ (bytes : List ℕ) where
  lines_by : (b : ℕ) (is : Bool) → is_line_feed b ≡ is → line_after (bytes ++ b ∷ []) ≡ length (filter is_line_feed bytes) + length (cond is (b ∷ []) []) + 1
  lines_by b is e = rw (filter-append is_line_feed bytes (b ∷ []), length-append (filter is_line_feed bytes) (filter is_line_feed (b ∷ [])), e) refl

  columns_by : (b : ℕ) (is : Bool) → is_line_feed b ≡ is → column_after (bytes ++ b ∷ []) ≡ length (cond (not is) (b ∷ take_while in_line (reverse bytes)) []) + 1
  columns_by b is e = rw (reverse-append bytes (b ∷ []), take_while-cons in_line b (reverse bytes), e) refl

  pub lines_more : (b : ℕ) → b ≢ 10 → line_after (bytes ++ b ∷ []) ≡ line_after bytes
  lines_more b ne = lines_by b false (other b ne) ∙ omega arith

  pub lines_end : line_after (bytes ++ 10 ∷ []) ≡ line_after bytes + 1
  lines_end = lines_by 10 true refl ∙ omega arith

  pub columns_more : (b : ℕ) → b ≢ 10 → column_after (bytes ++ b ∷ []) ≡ column_after bytes + 1
  columns_more b ne = columns_by b false (other b ne) ∙ omega arith

  pub columns_end : column_after (bytes ++ 10 ∷ []) ≡ 1
  columns_end = columns_by 10 true refl

-- what a loop over bytes keeps
pub record Behind (bytes : List ℕ) (i line column : ℕ) : Type 0 where
  pub line_is : line ≡ line_after (take i bytes)
  pub column_is : column ≡ column_after (take i bytes)
  pub line_low : line ≤ i + 1
  pub column_low : column ≤ i + 1

module _ (bytes : List ℕ) (i line column : ℕ) (kept : Behind bytes i line column) (within : i < length bytes) where
  next : take (i + 1) bytes ≡ take i bytes ++ get_or bytes i 0 ∷ []
  next = rw add-one (take-suc bytes i 0 within)

  pub ended : get_or bytes i 0 ≡ 10 → Behind bytes (i + 1) (line + 1) 1
  ended e = record {
    line_is = rw (next, e, lines_end (take i bytes)) (ap (λ n. n + 1) kept.line_is);
    column_is = rw (next, e) (sym (columns_end (take i bytes)));
    line_low = let h = kept.line_low in omega arith;
    column_low = omega arith;
  }

  pub went_on : get_or bytes i 0 ≢ 10 → Behind bytes (i + 1) line (column + 1)
  went_on ne = record {
    line_is = rw (next, lines_more (take i bytes) (get_or bytes i 0) ne) kept.line_is;
    column_is = rw (next, columns_more (take i bytes) (get_or bytes i 0) ne) (ap (λ n. n + 1) kept.column_is);
    line_low = let h = kept.line_low in omega arith;
    column_low = let h = kept.column_low in omega arith;
  }

-- a byte past the end is as the end
pub at_end : (bytes : List ℕ) (at end : ℕ) → end ≡ min (length bytes) at → take end bytes ≡ take at bytes
at_end bytes at end is = grind (arith, common_steps)
