-- What the made program's distributions choose: 64 values of weight 1, and in each store two values with four parts in all.
use Rattle.std.proofs.Common.{◌≡◌, ℕ, zero, suc, ℤ, pos, negsuc, ◌+◌, ◌-◌, ◌%◌, ◌<◌, ◌≤◌, ◌-ℤ◌, Bool, true, false, List, [], ◌∷◌, length, map, get_or, Ok, Err, ◌⊎◌, inl, inr, refl, sym, ap, subst, ◌∙◌, arith}
use Rattle.std.specs.Prelude.{nat_lt, if◌then◌else◌}
use Rattle.std.specs.Int.{int_rem_euclid}
use Rattle.std.proofs.lemmas.Bool.Decides.{nat_tests}
use Rattle.std.proofs.lemmas.Int.{ints}
use Rattle.std.proofs.lemmas.List.Sums.{sum_by-cons}
use Rattle.kf_frac.specs.Divisors.{gcd_of, greatest_divisor}
use Rattle.kf_ops.specs.Places.{number_of}
use Rattle.kf_ops.specs.declared.row.Op.TheVariants as op
use Rattle.kf_value.specs.Types.{TypeTree, Range, values, count, counted}
use Rattle.kf_value.specs.Values.{ValueTree, Truth, Whole, whole}
use Rattle.kf_value.proofs.Ascending.{length-values, values_ascend}
use Rattle.kf_core.specs.Choices.{Weighted, Chosen, RangeLong, once, some_of, gathered, lowest, choices, total}
use Rattle.kf_core.specs.Dxs.{DxShape, UniformRange, Choose, case_of}
use Rattle.kf_core.specs.Exs.{ExTree, Const, Slot, Apply}
use Rattle.kf_core.specs.Results.{then_ok}
use Rattle.kf_core.specs.Runs.{Tried, tried, place, store_at}
use Rattle.kf_core.proofs.Measures.{Full}
use Rattle.kf_core.proofs.Plain.{plain_choices}
use Rattle.kf_core.specs.Each.{placed_at, exs}
use Rattle.kf_make.specs.Made.{parity, noisy_parity}

-- ---- two numbers with four parts

-- an expression at the weight 3, and what is left of 1 at the weight 1
abbrev bits_by : ExTree → DxShape
bits_by x =
    let rest : ExTree = Apply (number_of op.Subtract) (exs (Const (Whole (pos 1)) ∷ x ∷ [])) in
    Choose (case_of x (Const (Whole (pos 3))) ∷ case_of rest (Const (Whole (pos 1))) ∷ [])

-- there are choices, and four parts in all
abbrev AreFour : Chosen → Type 0
AreFour (Ok ws) = (total ws ≡ 4) × Full ws
AreFour (Err f) = ⊥

-- the choices where the expression has this value
abbrev chosen_at : ℤ → Chosen
chosen_at r = choices (Whole r ∷ []) (bits_by (Slot 0))

four_at_0 : AreFour (chosen_at (pos 0))
unfolding gcd_of greatest_divisor
four_at_0 = (refl, tt)

four_at_1 : AreFour (chosen_at (pos 1))
unfolding gcd_of greatest_divisor
four_at_1 = (refl, tt)

below_two : (n : ℕ) → n < 2 → (pos n ≡ pos 0) ⊎ (pos n ≡ pos 1)
below_two zero h = inl refl
below_two (suc zero) h = inr refl
below_two (suc (suc n)) h = absurd (omega arith)

rest_of_two : (z : ℤ) → (int_rem_euclid z (pos 2) ≡ pos 0) ⊎ (int_rem_euclid z (pos 2) ≡ pos 1)
rest_of_two (pos n) = below_two (n % 2) (omega arith)
rest_of_two (negsuc n) = below_two (2 - 1 - n % 2) (omega arith)

four_by : (r : ℤ) → (r ≡ pos 0) ⊎ (r ≡ pos 1) → AreFour (chosen_at r)
four_by r (inl h) = subst (λ q. AreFour (chosen_at q)) (sym h) four_at_0
four_by r (inr h) = subst (λ q. AreFour (chosen_at q)) (sym h) four_at_1

-- whatever the store is
parity_has_four : (s : List ValueTree) → AreFour (choices s (bits_by parity))
parity_has_four s = four_by (int_rem_euclid (whole (get_or s 0 (Truth false))) (pos 2)) (rest_of_two (whole (get_or s 0 (Truth false))))

-- the same at its place
abbrev pub HasFour : Tried → Type 0
HasFour (Ok ws) = (total ws ≡ 4) × Full ws
HasFour (Err f) = ⊥

four_placed : (at : ℕ) (c : Chosen) → AreFour c → HasFour (placed_at at c)
four_placed at (Ok ws) h = h
four_placed at (Err f) h = absurd h

pub has_four : (ts : List TypeTree) (at n : ℕ) → HasFour (tried ts (noisy_parity at) n)
has_four ts at n = four_placed (place (noisy_parity at)) (choices (store_at ts n) (bits_by parity)) (parity_has_four (store_at ts n))

-- ---- numbers from 0 on

pub total_once : (vs : List ValueTree) → total (map once vs) ≡ length vs
total_once [] = refl
total_once (v ∷ vs) = omega (arith, sum_by-cons (λ (w : Weighted). w.weight) (once v) (map once vs), total_once vs)

abbrev pub numbers : ℕ → TypeTree
numbers h = Range (pos 0) (pos h)

pub count_numbers : (h : ℕ) → count (numbers h) ≡ h + 1
count_numbers h = let plain : pos h -ℤ pos 0 ≡ pos h = omega (arith, ints) in ap counted plain

not_long : (n : ℕ) → n ≤ 65536 → nat_lt 65536 n ≡ false
not_long n h = grind (arith, nat_tests)

chosen_once : (long : Bool) (vs : List ValueTree) → long ≡ false → 1 ≤ length vs
    → then_ok (if long then Err RangeLong else some_of (map once vs)) (λ ws. Ok (lowest (gathered ws))) ≡ Ok (lowest (gathered (map once vs)))
chosen_once true vs h some = (cc)
chosen_once false [] h some = absurd (omega arith)
chosen_once false (v ∷ vs) h some = refl

pub some_numbers : (h : ℕ) → 1 ≤ length (values (numbers h))
some_numbers h = omega (arith, length-values (numbers h), count_numbers h)

pub numbers_chosen : (h : ℕ) → h < 65536 → (s : List ValueTree)
    → choices s (UniformRange (Const (Whole (pos 0))) (Const (Whole (pos h)))) ≡ Ok (map once (values (numbers h)))
numbers_chosen h low s =
    let vs = values (numbers h) in
    let n = counted (pos h -ℤ pos 0) in
    chosen_once (nat_lt 65536 n) vs (not_long n (omega (arith, count_numbers h))) (some_numbers h)
    ∙ ap Ok (plain_choices vs (values_ascend (numbers h)) (some_numbers h))
