-- For bodies: the numbers of stores in mixed radix, and of the values of targets.
use Rattle.std.specs.Prelude.{◌≡◌, ◌<◌, ◌↔◌, ℕ, ◌+◌, ◌*◌, ◌/◌, ◌%◌, List, [], ◌∷◌, slice_get, Option, Some}
use Rattle.kf_value.specs.Values.{ValueTree}
use Rattle.kf_value.specs.Types.{TypeTree, values, count, product}
use Rattle.kf_value.specs.Stores.{stores}
use Rattle.kf_value.specs.Targets.{Item, target_value_text}

-- the store with the number n
abbrev pub IsStore : List TypeTree → ℕ → List ValueTree → Type 0
IsStore ts n s = slice_get (stores ts) n ≡ Some s

-- what one step of each digit weighs: the product of the sizes after it
abbrev pub weights : List ℕ → List ℕ
weights [] = []
weights (size ∷ sizes) = product sizes ∷ weights sizes

-- the digits of a number in mixed radix over the sizes, the first one most significant
abbrev pub digits : List ℕ → ℕ → List ℕ
digits [] n = []
digits (size ∷ sizes) n = n / product sizes ∷ digits sizes (n % product sizes)

-- the number with these digits
abbrev pub mixed_radix : List ℕ → List ℕ → ℕ
mixed_radix [] ds = 0
mixed_radix (size ∷ sizes) [] = 0
mixed_radix (size ∷ sizes) (d ∷ ds) = d * product sizes + mixed_radix sizes ds

-- in the store with the number n, the i-th variable's value has the number k in its type
abbrev pub HasDigit : List TypeTree → ℕ → ℕ → ℕ → Type 0
HasDigit ts n i k = (t : TypeTree) (s : List ValueTree) → slice_get ts i ≡ Some t → IsStore ts n s → slice_get s i ≡ slice_get (values t) k

-- there is one digit for each size, and it is below the size
abbrev pub AreDigits : List ℕ → List ℕ → Type 0
AreDigits [] [] = Unit {0}
AreDigits (size ∷ sizes) (d ∷ ds) = (d < size) × AreDigits sizes ds
AreDigits _ _ = ⊥

-- how many values a target has
abbrev pub target_size : List Item → ℕ
target_size [] = 1
target_size (i ∷ items) = count i.ty * target_size items

-- the answer is the number of the value with this text, or there is no such value
abbrev pub IsNumberOf : List Item → List ℕ → Option ℕ → Type 0
IsNumberOf items bytes found = (n : ℕ) → (found ≡ Some n) ↔ ((n < target_size items) × (target_value_text items n ≡ bytes))
