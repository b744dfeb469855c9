-- The number of a store's values at some variables: how far it goes, and that equal numbers mean equal values.
use Rattle.std.proofs.Common.{◌≡◌, ℕ, zero, suc, ◌+◌, ◌*◌, ◌/◌, ◌%◌, ◌<◌, ◌≤◌, List, [], ◌∷◌, All, drop, length, get_or, sym, ap, ◌∙◌, arith}
use Rattle.std.specs.List.{AllByRecursion as Each}
use Rattle.std.proofs.Math.Nat.{mul_assoc, mul-le-mul_right, mul-le-mul_left}
use Rattle.std.proofs.lemmas.List.{drop_more}
use Rattle.std.proofs.lemmas.List.Elements.{All-drop, recursion_from_All}
use Rattle.std.proofs.lemmas.Nat.{div-mul-add, mod-mul-add}
use Rattle.kf_value.specs.Numbers.{AreDigits}
use Rattle.kf_eval.specs.Reads.{span, number_behind}

-- ---- digits at a place

pub digit_below : (ss ds : List ℕ) (i : ℕ) → AreDigits ss ds → i < length ss → get_or ds i 0 < get_or ss i 0
digit_below [] ds i h within = absurd (omega arith)
digit_below (s ∷ ss) [] i h within = elim h [ ]
digit_below (s ∷ ss) (d ∷ ds) zero h within = h.0
digit_below (s ∷ ss) (d ∷ ds) (suc i) h within = digit_below ss ds i h.1 (omega arith)

-- ---- how far a number goes

module _ (ss : List ℕ) where
  -- each slot is one of those that have a size
  abbrev pub Within : List ℕ → Type 0
  Within slots = Each (λ (i : ℕ). i < length ss) slots

  pub span_some : (ds : List ℕ) → AreDigits ss ds → (slots : List ℕ) → Within slots → 0 < span ss slots
  span_some ds h [] within = omega arith
  span_some ds h (i ∷ slots) within =
      let first : get_or ds i 0 < get_or ss i 0 = digit_below ss ds i h within.0 in
      let rest : 0 < span ss slots = span_some ds h slots within.1 in
      let grown : get_or ss i 0 * 1 ≤ get_or ss i 0 * span ss slots = mul-le-mul_left (get_or ss i 0) rest in
      omega (arith, first, grown)

  -- ---- equal numbers have equal digits

  split : (a b d e s : ℕ) → d < s → e < s → a * s + d ≡ b * s + e → (a ≡ b) × (d ≡ e)
  split a b d e s small little same = (
    sym (div-mul-add a s d small) ∙ ap (λ (n : ℕ). n / s) same ∙ div-mul-add b s e little,
    sym (mod-mul-add a s d small) ∙ ap (λ (n : ℕ). n % s) same ∙ mod-mul-add b s e little,
  )

  module _ (ds es : List ℕ) (fit : AreDigits ss ds) (suit : AreDigits ss es) where
    pub same_digits : (slots : List ℕ) (a b : ℕ) → Within slots → number_behind ss ds a slots ≡ number_behind ss es b slots
        → (a ≡ b) × Each (λ (i : ℕ). get_or ds i 0 ≡ get_or es i 0) slots
    same_digits [] a b within same = (same, tt)
    same_digits (i ∷ slots) a b within same =
        let later = same_digits slots (a * get_or ss i 0 + get_or ds i 0) (b * get_or ss i 0 + get_or es i 0) within.1 same in
        let here = split a b (get_or ds i 0) (get_or es i 0) (get_or ss i 0) (digit_below ss ds i fit within.0) (digit_below ss es i suit within.0) later.0 in
        (here.0, (here.1, later.1))

-- ---- a number digit by digit

module _ (ss ds : List ℕ) (fit : AreDigits ss ds) (slots : List ℕ) (within : All (λ (i : ℕ). i < length ss) slots) (k : ℕ) (inside : k < length slots) (n : ℕ) where
  slot : ℕ
  slot = get_or slots k 0

  left : drop k slots ≡ slot ∷ drop (k + 1) slots
  unfolding slot
  left = drop_more slots k 0 inside

  small : get_or ds slot 0 < get_or ss slot 0
  unfolding slot
  small = digit_below ss ds slot fit (within k 0 inside)

  rest_some : 0 < span ss (drop (k + 1) slots)
  rest_some = span_some ss ds fit (drop (k + 1) slots) (recursion_from_All (λ (i : ℕ). i < length ss) (drop (k + 1) slots) (All-drop (λ (i : ℕ). i < length ss) (k + 1) slots within))

  -- what comes behind the number is what comes behind it with its next digit
  pub digit_more : number_behind ss ds (n * get_or ss (get_or slots k 0) 0 + get_or ds (get_or slots k 0) 0) (drop (k + 1) slots) ≡ number_behind ss ds n (drop k slots)
  unfolding slot
  digit_more = ap (number_behind ss ds n) (sym left)

  module _ (whole : ℕ) (room : (n + 1) * span ss (drop k slots) ≤ whole) where
    grown : (n + 1) * get_or ss slot 0 * span ss (drop (k + 1) slots) ≤ whole
    grown =
        let split : (n + 1) * span ss (drop k slots) ≡ (n + 1) * (get_or ss slot 0 * span ss (drop (k + 1) slots)) = ap (λ (l : List ℕ). (n + 1) * span ss l) left in
        omega (arith, room, split, mul_assoc (n + 1) (get_or ss slot 0) (span ss (drop (k + 1) slots)))

    next_small : n * get_or ss slot 0 + get_or ds slot 0 + 1 ≤ (n + 1) * get_or ss slot 0
    next_small = omega (arith, small)

    -- so the number with its next digit goes no further
    pub room_more : (n * get_or ss (get_or slots k 0) 0 + get_or ds (get_or slots k 0) 0 + 1) * span ss (drop (k + 1) slots) ≤ whole
    unfolding slot
    room_more = omega (arith, grown, mul-le-mul_right (span ss (drop (k + 1) slots)) next_small)

    pub digit_fits : n * get_or ss (get_or slots k 0) 0 + get_or ds (get_or slots k 0) 0 < whole
    unfolding slot
    digit_fits = omega (arith, grown, next_small, mul-le-mul_left ((n + 1) * get_or ss slot 0) rest_some)

-- one size more
pub span_more : (ss slots : List ℕ) (k : ℕ) (n : ℕ) → k < length slots → n * get_or ss (get_or slots k 0) 0 * span ss (drop (k + 1) slots) ≡ n * span ss (drop k slots)
span_more ss slots k n inside =
    mul_assoc n (get_or ss (get_or slots k 0) 0) (span ss (drop (k + 1) slots)) ∙ ap (λ (l : List ℕ). n * span ss l) (sym (drop_more slots k 0 inside))
