-- The texts of a target's values and their numbers.
use Rattle.std.proofs.Common.{◌≡◌, ◌<◌, ◌*◌, ℕ, zero, suc, List, [], ◌∷◌, map, length, slice_get, None, Some, Bool, true, false, ◌||◌, refl, sym, ap, ◌∙◌, subst, arith}
use Rattle.std.specs.List.{list_any}
use Rattle.std.specs.Prelude.{bytes_eq}
use Rattle.std.proofs.lemmas.Bool.{false_from_ne_true}
use Rattle.std.proofs.lemmas.Slice.Eq.{bytes_eq-Decides}
use Rattle.kf_value.specs.Values.{ValueTree}
use Rattle.kf_value.specs.Types.{TypeTree, values, count, product}
use Rattle.kf_value.specs.Stores.{stores}
use Rattle.kf_value.specs.Targets.{Item, target_values, target_value_text, shown}
use Rattle.kf_value.specs.Numbers.{target_size, IsNumberOf}
use Rattle.kf_value.proofs.Ascending.{length-values}
use Rattle.kf_value.proofs.Places.{length-combinations}
use Rattle.serde_json.specs.Data.{Data}
use Rattle.kf_json.specs.Json.{at_place, text_of}
use Rattle.kf_gain.specs.Tables.{is_value_text}

counts : (ts : List TypeTree) → map length (map values ts) ≡ map count ts
counts [] = refl
counts (t ∷ ts) = λ k. length-values t k ∷ counts ts k

sizes : (items : List Item) → product (map count (map (λ i. i.ty) items)) ≡ target_size items
sizes [] = refl
sizes (i ∷ items) = ap (λ n. count i.ty * n) (sizes items)

-- there are as many values as are counted
pub target_count : (items : List Item) → length (target_values items) ≡ target_size items
unfolding stores
target_count items = length-combinations (map values (map (λ i. i.ty) items)) ∙ (ap product (counts (map (λ i. i.ty) items)) ∙ sizes items)

abbrev text_at : List (List ValueTree) → ℕ → List ℕ
text_at vss n = elim (slice_get vss n) [ None ↦ [] | Some vs ↦ shown vs ]

abbrev prints : List ℕ → List ValueTree → Bool
prints bytes vs = bytes_eq (shown vs) bytes

any_at : (bytes : List ℕ) (vss : List (List ValueTree)) (n : ℕ) → n < length vss → text_at vss n ≡ bytes → list_any (prints bytes) vss ≡ true
any_at bytes [] n within is = absurd (omega arith)
any_at bytes (vs ∷ vss) zero within is = ap (λ b. b || list_any (prints bytes) vss) ((bytes_eq-Decides (shown vs) bytes).1 is)
any_at bytes (vs ∷ vss) (suc n) within is = later (prints bytes vs) (list_any (prints bytes) vss) (any_at bytes vss n (omega arith) is)
  where
    later : (a b : Bool) → b ≡ true → (a || b) ≡ true
    later true b is = refl
    later false b is = is

by_test : (a b : Bool) → a ≡ false → b ≡ false → (a || b) ≡ false
by_test true b is rest = absurd (cc)
by_test false b is rest = rest

none_at : (bytes : List ℕ) (vss : List (List ValueTree)) → ((n : ℕ) → n < length vss → text_at vss n ≡ bytes → ⊥) → list_any (prints bytes) vss ≡ false
none_at bytes [] none = refl
none_at bytes (vs ∷ vss) none =
    by_test (prints bytes vs) (list_any (prints bytes) vss) (false_from_ne_true _ (λ h. none zero (omega arith) ((bytes_eq-Decides (shown vs) bytes).0 h)))
    (none_at bytes vss (λ n within is. none (suc n) (omega arith) is))

-- a text with a number is that of a value, and one without isn't
pub text_known : (items : List Item) (bytes : List ℕ) (n : ℕ) → IsNumberOf items bytes (Some n) → is_value_text items bytes ≡ true
unfolding target_value_text
text_known items bytes n is =
    let found = (is n).0 refl in
    any_at bytes (target_values items) n (subst (λ m. n < m) (sym (target_count items)) found.0) found.1

pub text_unknown : (items : List Item) (bytes : List ℕ) → IsNumberOf items bytes None → is_value_text items bytes ≡ false
unfolding target_value_text
text_unknown items bytes is =
    none_at bytes (target_values items) (λ n within printed. none n ((is n).1 (subst (λ m. n < m) (target_count items) within, printed)))
  where
    none : (n : ℕ) → None ≡ Some n → ⊥
    none n e = absurd (cc)

-- whether a gain's text is that of a value
abbrev pub gain_known : List Item → Data → Bool
gain_known items g = is_value_text items (text_of (at_place 0 g))
