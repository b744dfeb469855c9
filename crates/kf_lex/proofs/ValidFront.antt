-- Bytes are UTF-8, or they stop being it at one place; what stands before that place is UTF-8.
use Rattle.std.proofs.Common.{◌≡◌, ◌<◌, ◌≤◌, ◌⊎◌, ⊎_elim, inl, inr, ℕ, zero, suc, true, false, List, length, take, take_all, sym, ◌∙◌, subst, arith}
use Rattle.std.proofs.lemmas.Bool.{cases_Bool, cases_lt, cond-true, cond-false, false≢true}
use Rattle.std.proofs.lemmas.Str.{IsUtf8-from_is_utf8, IsUtf8-nil, is_utf8-from_IsUtf8}
use Rattle.std.specs.Str.{IsUtf8, IsValidUpTo, is_utf8}
use Rattle.std.specs.Str.Lossy.{utf8_valid_len, valid_len_up_to}
use Rattle.kf_lex.specs.Cuts.{valid_front}

-- the front of this length is UTF-8, and none between it and the other length
record IsGreatest (bs : List ℕ) (n m : ℕ) : Type 0 where
  utf8 : IsUtf8 (take n bs)
  none : (k : ℕ) → n < k → k ≤ m → ¬ (IsUtf8 (take k bs))

greatest : (bs : List ℕ) (m : ℕ) → IsGreatest bs (valid_len_up_to bs m) m
greatest bs zero = record { utf8 = IsUtf8-nil; none = λ k above within. absurd (omega arith) }
greatest bs (suc m) =
    let less = greatest bs m in
    ⊎_elim
    (λ (yes : is_utf8 (take (suc m) bs) ≡ true).
    let is : valid_len_up_to bs (suc m) ≡ suc m = cond-true _ _ _ yes in
    record { utf8 = subst (λ n. IsUtf8 (take n bs)) (sym is) (IsUtf8-from_is_utf8 _ yes); none = λ k above within. absurd (omega arith) })
    (λ (no : is_utf8 (take (suc m) bs) ≡ false).
    let is : valid_len_up_to bs (suc m) ≡ valid_len_up_to bs m = cond-false _ _ _ no in
    record {
      utf8 = subst (λ n. IsUtf8 (take n bs)) (sym is) less.utf8;
      none = λ k above within utf8. ⊎_elim
          (λ (top : m < k).
          let same : k ≡ suc m = omega arith in
          false≢true (sym no ∙ is_utf8-from_IsUtf8 _ (subst (λ n. IsUtf8 (take n bs)) same utf8)))
          (λ (low : k ≤ m). less.none k (omega arith) low utf8)
          (cases_lt m k);
    })
    (cases_Bool (is_utf8 (take (suc m) bs)))

pub front_utf8 : (src : List ℕ) → IsUtf8 (valid_front src)
unfolding utf8_valid_len
front_utf8 src = let g = greatest src (length src) in g.utf8

pub utf8_or_not : (bs : List ℕ) → IsUtf8 bs ⊎ IsValidUpTo bs (utf8_valid_len bs)
unfolding utf8_valid_len
utf8_or_not bs =
    let n = utf8_valid_len bs in
    let g = greatest bs (length bs) in
    ⊎_elim
    (λ (short : n < length bs). inr (record {
      short = short;
      front = g.utf8;
      longest = λ m above utf8. ⊎_elim
          (λ (past : length bs < m).
          g.none (length bs) short (omega arith) (subst IsUtf8 (take_all m bs (omega arith) ∙ sym (take_all (length bs) bs (omega arith))) utf8))
          (λ (within : m ≤ length bs). g.none m above within utf8)
          (cases_lt (length bs) m);
    }))
    (λ (whole : length bs ≤ n). inl (subst IsUtf8 (take_all n bs whole) g.utf8))
    (cases_lt n (length bs))
