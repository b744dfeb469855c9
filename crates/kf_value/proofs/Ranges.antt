-- A target of one variable whose range begins at 0: its size, and the texts of its values.
use Rattle.std.proofs.Common.{◌≡◌, ℕ, pos, ◌+◌, ◌*◌, ◌≤◌, ◌<◌, ◌+ℤ◌, ◌-ℤ◌, Bool, List, [], ◌∷◌, slice_get, Some, refl, ap, ◌∙◌, arith}
use Rattle.std.proofs.lemmas.Int.{ints}
use Rattle.std.specs.Fmt.{decimal}
use Rattle.kf_value.specs.Types.{Range, counted, values}
use Rattle.kf_value.specs.Values.{Whole}
use Rattle.kf_value.specs.Stores.{stores}
use Rattle.kf_value.specs.Targets.{Item, target_values, target_value_text}
use Rattle.kf_value.specs.Numbers.{target_size}
use Rattle.kf_value.proofs.ByForm.{whole_place}
use Rattle.kf_value.proofs.Places.{combination_at}
use Rattle.kf_value.proofs.Printing.{target_text_is}

-- the target with the one item
abbrev pub one_range : Bool → List ℕ → ℕ → List Item
one_range initial name h = record { initial = initial; name = name; ty = Range (pos 0) (pos h) } ∷ []

count_from_zero : (h : ℕ) → counted (pos h -ℤ pos 0) ≡ h + 1
count_from_zero h = let plain : pos h -ℤ pos 0 ≡ pos h = omega (arith, ints) in ap counted plain

pub range_from_zero_size : (initial : Bool) (name : List ℕ) (h : ℕ) → target_size (one_range initial name h) ≡ h + 1
range_from_zero_size initial name h = let one : counted (pos h -ℤ pos 0) * 1 ≡ counted (pos h -ℤ pos 0) = omega arith in one ∙ count_from_zero h

one_value : (initial : Bool) (name : List ℕ) (h n : ℕ) → n ≤ h → slice_get (target_values (one_range initial name h)) n ≡ Some (Whole (pos 0 +ℤ pos n) ∷ [])
unfolding stores
one_value initial name h n within =
    let whole = count_from_zero h in
    let below : n < counted (pos h -ℤ pos 0) = omega arith in
    let place : n ≡ n * 1 + 0 = omega arith in
    combination_at (values (Range (pos 0) (pos h))) [] n 0 n (Whole (pos 0 +ℤ pos n)) [] place (whole_place (pos 0) (pos h) n below) refl

pub range_from_zero_text : (initial : Bool) (name : List ℕ) (h n : ℕ) → n ≤ h → target_value_text (one_range initial name h) n ≡ decimal n
range_from_zero_text initial name h n within =
    let start : 0 + n ≡ n = omega arith in
    target_text_is (one_range initial name h) n (Whole (pos 0 +ℤ pos n) ∷ []) (one_value initial name h n within) ∙ ap decimal start
