-- What the text of a target's value is.
use Rattle.std.proofs.Common.{◌≡◌, ◌≢◌, ℕ, ◌<◌, List, [], ◌∷◌, ◌++◌, length, map, get_or, slice_get, Some, sym, ap, ◌∙◌, arith}
use Rattle.std.proofs.lemmas.List.{append-nil, length-map}
use Rattle.kf_value.specs.declared.target_item.TargetItem.{TargetItem}
use Rattle.kf_value.specs.Values.{ValueTree, Tuple, parts}
use Rattle.kf_value.specs.Types.{values, combinations}
use Rattle.kf_value.specs.Sizes.{HasNumber}
use Rattle.kf_value.specs.Texts.{text}
use Rattle.kf_value.specs.Targets.{target_value_text, shown}
use Rattle.kf_value.specs.Numbers.{target_size}
use Rattle.kf_value.specs.Readings.{row}
use Rattle.kf_value.specs.TypeViews.{item_of}
use Rattle.kf_value.proofs.Items.{item_type, size_of_items, values_of_items}
use Rattle.kf_value.proofs.Parts.{length-choices, length-combination}
use Rattle.kf_value.proofs.Places.{combination_of}
use Rattle.kf_value.proofs.Printing.{target_text_is, shown_many}
use Rattle.kf_value.proofs.ReadingRows.{tuple_row, empty_row}
use Rattle.kf_value.proofs.Sets.{element_at}

-- the values that are shown
record Shown (items : List TargetItem) (n : ℕ) (bytes : List ℕ) : Type 0 where
  vs : List ValueTree
  at : slice_get (combinations (map values (map item_type items))) n ≡ Some vs
  whole : bytes ≡ shown vs

shown_values : (items : List TargetItem) (n : ℕ) (bytes : List ℕ) → n < target_size (map item_of items) → target_value_text (map item_of items) n ≡ bytes
    → Shown items n bytes
shown_values items n bytes below same =
    let types = map item_type items in
    let size = length-choices types in
    let whole = size_of_items items in
    let found = element_at (combinations (map values types)) n (omega arith) in
    let listed = ap (λ vss. slice_get vss n) (values_of_items items) ∙ found.1 in
    record { vs = found.0; at = found.1; whole = sym same ∙ target_text_is (map item_of items) n found.0 listed }

-- a target of one item
one_shown : (items : List TargetItem) (i : TargetItem) (n : ℕ) (bytes : List ℕ) → length items ≡ 1 → Shown items n bytes
    → (v : ValueTree) × (HasNumber (item_type (get_or items 0 i)) v n) × (bytes ≡ text v ++ [])
one_shown [] i n bytes one s = absurd (omega arith)
one_shown (j ∷ (k ∷ items)) i n bytes one s = absurd (omega arith)
one_shown (j ∷ []) i n bytes one s =
    let found = combination_of (values (item_type j)) [] n s.vs s.at in
    let last = empty_row found.1 found.3 found.6 in
    let step = found.4 in
    let none = last.0 in
    let same : n ≡ found.0 = omega arith in
    let value : s.vs ≡ found.2 ∷ [] = found.7 ∙ ap (λ r. found.2 ∷ r) last.1 in
    (found.2, ap (slice_get (values (item_type j))) same ∙ found.5, s.whole ∙ (ap shown value ∙ sym (append-nil (text found.2))))

pub one_item : (items : List TargetItem) (i : TargetItem) (n : ℕ) (bytes : List ℕ) → length items ≡ 1
    → n < target_size (map item_of items) → target_value_text (map item_of items) n ≡ bytes
    → (v : ValueTree) × (HasNumber (item_type (get_or items 0 i)) v n) × (bytes ≡ text v ++ [])
one_item items i n bytes one below same = one_shown items i n bytes one (shown_values items n bytes below same)

-- a target of several
pub many_items : (items : List TargetItem) (n : ℕ) (bytes : List ℕ) → length items ≢ 1 → n < target_size (map item_of items)
    → target_value_text (map item_of items) n ≡ bytes
    → (vs : List ValueTree) × (slice_get (combinations (map values (map item_type items))) n ≡ Some vs) × (bytes ≡ 40 ∷ row vs 41 [])
many_items items n bytes many below same =
    let s = shown_values items n bytes below same in
    let long = length-combination (map values (map item_type items)) n s.vs s.at in
    let mapped = length-map (map item_type items) values in
    let typed = length-map items item_type in
    let several : length s.vs ≢ 1 = λ one. many (omega arith) in
    (s.vs, s.at, s.whole ∙ (shown_many s.vs several ∙ (sym (append-nil (text (Tuple (parts s.vs)))) ∙ tuple_row s.vs [])))
