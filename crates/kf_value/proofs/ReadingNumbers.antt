-- The digits and the sign with which a text begins.
use Rattle.std.proofs.Common.{◌≡◌, ℕ, ℤ, zero, suc, pos, negsuc, ◌+◌, ◌<◌, ◌≤◌, ◌^◌, true, false, List, [], ◌∷◌, ◌++◌, length, get_or, take, drop, slice_get, Some, None, Ok, Err, Result, Bor, MatchResult, w64, to_z, of_z, ◌+ℤ◌, ◌≤ℤ◌, ◌⊎◌, inl, inr, refl, sym, ap, ◌∙◌, subst, arith}
use Rattle.std.specs.Prelude.{◌&&◌, nat_eq, FitsSigned}
use Rattle.std.specs.Cmp.Lexicographic.{pointwise}
use Rattle.std.specs.List.{list_all}
use Rattle.std.proofs.lemmas.Bool.{and_parts}
use Rattle.std.proofs.lemmas.Bool.{false≢true}
use Rattle.std.proofs.lemmas.Bool.Decides.{nat_tests, Decides-eqb}
use Rattle.std.proofs.lemmas.Slice.Eq.{strip_prefix_is}
use Rattle.std.specs.Fmt.{decimal, signed_decimal}
use Rattle.std.specs.Int.Signed.{mag}
use Rattle.std.specs.Str.Parse.{AllDigits}
use Rattle.std.proofs.lemmas.Fmt.{decimal_is_IsNumeral}
use Rattle.std.specs.Str.Parse.{ParsesSigned}
use Rattle.std.specs.Str.{IsUtf8}
use Rattle.std.specs.Result.{result_ok}
use Rattle.std.proofs.lemmas.Fmt.{parse-signed_decimal, IsAscii-signed}
use Rattle.std.proofs.lemmas.Int.{ints}
use Rattle.std.proofs.lemmas.Str.{IsUtf8-from_ascii}
use Rattle.kf_value.specs.Values.{ValueTree, Truth, Whole}
use Rattle.kf_value.specs.Types.{Boolean, Range, values, in_bounds}
use Rattle.kf_value.specs.Sizes.{HasNumber}
use Rattle.kf_value.specs.Texts.{text}
use Rattle.kf_value.specs.Readings.{is_numeric, Stops}
use Rattle.kf_value.proofs.Apart.{small_mag}
use Rattle.kf_value.proofs.ByForm.{range_only, in_bounds_tells, within_counted}

pub goes_on : (ds r : List ℕ) (i : ℕ) → Stops r → i ≤ length ds → i < length (ds ++ r) → is_numeric (get_or (ds ++ r) i 0) ≡ true → i + 1 ≤ length ds
goes_on [] [] i stops low within is = absurd (omega arith)
goes_on [] (c ∷ r) zero stops low within is = (cc)
goes_on [] (c ∷ r) (suc i) stops low within is = absurd (omega arith)
goes_on (d ∷ ds) r zero stops low within is = omega arith
goes_on (d ∷ ds) r (suc i) stops low within is = let rest = goes_on ds r i stops (omega arith) (omega arith) is in omega arith

pub ends_there : (ds r : List ℕ) (i : ℕ) → list_all is_numeric ds ≡ true → i ≤ length ds → is_numeric (get_or (ds ++ r) i 0) ≡ false → i ≡ length ds
ends_there [] r i all low is = omega arith
ends_there (d ∷ ds) r zero all low is = let both = and_parts (is_numeric d) (list_all is_numeric ds) all in (cc)
ends_there (d ∷ ds) r (suc i) all low is =
    let both = and_parts (is_numeric d) (list_all is_numeric ds) all in let rest = ends_there ds r i both.1 (omega arith) is in omega arith

digits_numeric : (ds : List ℕ) → AllDigits 10 ds → list_all is_numeric ds ≡ true
digits_numeric [] h = refl
digits_numeric (d ∷ ds) h =
    let first : is_numeric d ≡ true = grind (arith, nat_tests, h.0) in ap (λ b. b && list_all is_numeric ds) first ∙ digits_numeric ds h.1

-- the text of a whole number
pub whole_numeric : (i : ℤ) → mag i < 2 ^ 63 → list_all is_numeric (signed_decimal i) ≡ true
whole_numeric (pos n) small = digits_numeric (decimal n) (decimal_is_IsNumeral n (omega arith)).0.1
whole_numeric (negsuc n) small = digits_numeric (decimal (suc n)) (decimal_is_IsNumeral (suc n) (omega arith)).0.1

cut_front : (ds r : List ℕ) → take (length ds) (ds ++ r) ≡ ds
cut_front [] r = refl
cut_front (d ∷ ds) r = ap (λ xs. d ∷ xs) (cut_front ds r)

cut_back : (ds r : List ℕ) → drop (length ds) (ds ++ r) ≡ r
cut_back [] r = refl
cut_back (d ∷ ds) r = cut_back ds r

-- where the text of a value of a range is cut, in front of what follows it
pub record WholeCut (lo hi : ℤ) (n : ℕ) (r front back : List ℕ) : Type 0 where
  pub whole : ℤ
  pub at : slice_get (values (Range lo hi)) n ≡ Some (Whole whole)
  pub is : whole ≡ lo +ℤ pos n
  pub small : mag whole < 2 ^ 63
  pub fits : FitsSigned w64 whole
  pub lo_kept : to_z w64 (of_z w64 lo) ≡ lo
  pub hi_kept : to_z w64 (of_z w64 hi) ≡ hi
  pub whole_kept : to_z w64 (of_z w64 whole) ≡ whole
  pub front_is : front ≡ signed_decimal whole
  pub back_is : back ≡ r

pub whole_cut : (lo hi : ℤ) (n size : ℕ) (v : ValueTree) (r bytes front back : List ℕ) → in_bounds lo hi ≡ true → HasNumber (Range lo hi) v n → Stops r
    → bytes ≡ text v ++ r → ((ds s : List ℕ) → list_all is_numeric ds ≡ true → Stops s → bytes ≡ ds ++ s → size ≡ length ds)
    → front ≡ take size bytes → back ≡ drop size bytes → WholeCut lo hi n r front back
whole_cut lo hi n size v r bytes front back bounds place stops whole measured first second =
    let only = range_only lo hi n v place in
    let known = in_bounds_tells lo hi bounds in
    let i = lo +ℤ pos n in
    let high = within_counted lo hi n only.1 in
    let low : negsuc 999999 ≤ℤ i = omega (arith, ints) in
    let below : i ≤ℤ pos 1000000 = omega (arith, ints) in
    let small = small_mag i low below in
    let ds = signed_decimal i in
    let here : bytes ≡ ds ++ r = whole ∙ ap (λ u. text u ++ r) only.0 in
    let long = measured ds r (whole_numeric i small) stops here in
    record {
      whole = i;
      at = place ∙ ap (λ u. Some u) only.0;
      is = refl;
      small = small;
      fits = omega (arith, ints);
      lo_kept = omega (arith, ints);
      hi_kept = omega (arith, ints);
      whole_kept = omega (arith, ints);
      front_is = first ∙ (ap (λ k. take k bytes) long ∙ (ap (take (length ds)) here ∙ cut_front ds r));
      back_is = second ∙ (ap (λ k. drop k bytes) long ∙ (ap (drop (length ds)) here ∙ cut_back ds r));
    }

pub some_is : {X : Type 0} (x y : X) → Some x ≡ Some y → x ≡ y
some_is x y h = (cc)

-- the front is text
pub front_reads : {E : Type 0} (res : Result (Bor (List ℕ)) E) (front : List ℕ) (P : E → Type 0) (i : ℤ) → mag i < 2 ^ 63 → front ≡ signed_decimal i
    → MatchResult res (λ s. (s.now ≡ front) × IsUtf8 front) (λ e. ¬ (IsUtf8 front) × P e) → (s : Bor (List ℕ)) × (result_ok res ≡ Some s) × (s.now ≡ front)
front_reads (Ok s) front P i small is h = (s, refl, h.0)
front_reads (Err e) front P i small is h = absurd (h.0 (subst IsUtf8 (sym is) (IsUtf8-from_ascii (signed_decimal i) (IsAscii-signed i small))))

-- and a whole number
pub number_reads : {E : Type 0} (front : List ℕ) (res : Result ℤ E) (i : ℤ) → FitsSigned w64 i → mag i < 2 ^ 63 → front ≡ signed_decimal i
    → ParsesSigned w64 10 front res → result_ok res ≡ Some i
number_reads front res i fits small is parses = ap result_ok (parse-signed_decimal w64 i front res fits small is parses)

pub same_place : (lo hi i l h j : ℤ) (n : ℕ) → l ≡ lo → h ≡ hi → j ≡ i → slice_get (values (Range lo hi)) n ≡ Some (Whole i)
    → slice_get (values (Range l h)) n ≡ Some (Whole j)
same_place lo hi i l h j n low high same at = rw (low, high, same) at

pub same_number : (lo hi : ℤ) (k n : ℕ) (i : ℤ) → slice_get (values (Range lo hi)) k ≡ Some (Whole i) → i ≡ lo +ℤ pos n → k ≡ n
same_number lo hi k n i at is =
    let only : Whole i ≡ Whole (lo +ℤ pos k) = (range_only lo hi k (Whole i) at).0 in
    let both : i ≡ lo +ℤ pos k = (cc) in
    omega (arith, ints)

-- ---- Booleans

pub truth_text : (n : ℕ) (v : ValueTree) (r bytes : List ℕ) → HasNumber Boolean v n → bytes ≡ text v ++ r
    → ((n ≡ 1) × (bytes ≡ 116 ∷ 114 ∷ 117 ∷ 101 ∷ r)) ⊎ ((n ≡ 0) × (bytes ≡ 102 ∷ 97 ∷ 108 ∷ 115 ∷ 101 ∷ r))
unfolding values
truth_text zero v r bytes place whole = let same : v ≡ Truth false = (cc) in inr (refl, whole ∙ ap (λ u. text u ++ r) same)
truth_text (suc zero) v r bytes place whole = let same : v ≡ Truth true = (cc) in inl (refl, whole ∙ ap (λ u. text u ++ r) same)
truth_text (suc (suc n)) v r bytes place whole = (cc)

abbrev true_text : List ℕ
true_text = 116 ∷ 114 ∷ 117 ∷ 101 ∷ []

abbrev false_text : List ℕ
false_text = 102 ∷ 97 ∷ 108 ∷ 115 ∷ 101 ∷ []

pub not_begun_true : (bytes r : List ℕ) → pointwise nat_eq (take 4 bytes) true_text ≡ false → bytes ≡ 116 ∷ 114 ∷ 117 ∷ 101 ∷ r → ⊥
not_begun_true bytes r h whole = let test : true ≡ false = subst (λ bs. pointwise nat_eq (take 4 bs) true_text ≡ false) whole h in false≢true (sym test)

pub not_begun_false : (bytes r : List ℕ) → pointwise nat_eq (take 5 bytes) false_text ≡ false → bytes ≡ 102 ∷ 97 ∷ 108 ∷ 115 ∷ 101 ∷ r → ⊥
not_begun_false bytes r h whole = let test : true ≡ false = subst (λ bs. pointwise nat_eq (take 5 bs) false_text ≡ false) whole h in false≢true (sym test)

pub begun : (bytes r : List ℕ) → pointwise nat_eq (take 4 bytes) true_text ≡ true → bytes ≡ 102 ∷ 97 ∷ 108 ∷ 115 ∷ 101 ∷ r → ⊥
begun bytes r h whole = let test : false ≡ true = subst (λ bs. pointwise nat_eq (take 4 bs) true_text ≡ true) whole h in false≢true test

pub not_begun_with : (b : ℕ) (bytes r : List ℕ) → pointwise nat_eq (take 1 bytes) (b ∷ []) ≡ false → bytes ≡ b ∷ r → ⊥
not_begun_with b bytes r h whole =
    strip_prefix_is {E = nat_eq} Decides-eqb bytes (b ∷ []) None h r whole

pub some_none : {X : Type 0} (x : X) → None ≡ Some x → ⊥
some_none x h = (cc)
