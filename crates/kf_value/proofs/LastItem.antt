-- The last of a target's items: its number is the last digit, and the rest is the number of the others.
use Rattle.std.proofs.Common.{◌≡◌, ℕ, zero, suc, ◌+◌, ◌-◌, ◌*◌, ◌/◌, ◌%◌, ◌<◌, ◌≤◌, List, [], ◌∷◌, ◌++◌, length, map, take, slice_get, get_or, Some, None, codes, refl, sym, ap, ◌∙◌, subst, arith}
use Rattle.std.specs.List.{All, flat_map}
use Rattle.std.proofs.Math.Nat.{mul_assoc, div-one, div-div-eq-div-mul}
use Rattle.std.proofs.lemmas.Nat.{div-add-mod', div_below, mod_below}
use Rattle.std.proofs.lemmas.List.{append_assoc, append-nil, length-map, map-append, take_more, take_all}
use Rattle.std.proofs.lemmas.Grind.{flat_map-append}
use Rattle.kf_value.specs.declared.target_item.TargetItem.{TargetItem}
use Rattle.kf_value.specs.Values.{ValueTree, Tuple, parts}
use Rattle.kf_value.specs.Types.{TypeTree, values, combinations, count, product}
use Rattle.kf_value.specs.Sizes.{fault_of, HasNumber}
use Rattle.kf_value.specs.Stores.{stores}
use Rattle.kf_value.specs.Texts.{text, separated}
use Rattle.kf_value.specs.Written.{ended}
use Rattle.kf_value.specs.Targets.{target_values}
use Rattle.kf_value.specs.Numbers.{digits, target_size}
use Rattle.kf_value.specs.TypeViews.{item_of}
use Rattle.kf_value.proofs.Digits.{Stored, Positive, sizes, positive_product, positive_sizes, choices_stored, stored_choices}
use Rattle.kf_value.proofs.Finding.{below_itself, digit_is}
use Rattle.kf_value.proofs.Items.{item_type, items_sized, size_of_items, values_of_items}
use Rattle.kf_value.proofs.Parts.{total, length-choices}
use Rattle.kf_value.proofs.Printing.{bracketed, tuple_text}
use Rattle.kf_value.proofs.Sets.{element_at}
use Rattle.kf_value.proofs.Sizing.{product_some}

-- ---- digits

product_last : (ss : List ℕ) (k : ℕ) → product (ss ++ k ∷ []) ≡ product ss * k
product_last [] k = omega arith
product_last (s ∷ ss) k = ap (λ p. s * p) (product_last ss k) ∙ sym (mul_assoc s (product ss) k)

last_digit : (ss : List ℕ) (k n : ℕ) → Positive ss → 0 < k → n < product ss * k → digits (ss ++ k ∷ []) n ≡ digits ss (n / k) ++ (n % k) ∷ []
last_digit [] k n h some below = ap (λ d. d ∷ []) (div-one n ∙ sym (below_itself n k (omega arith)))
last_digit (s ∷ ss) k n h some below =
    let p = product ss in
    let some_p = positive_product ss h.1 in
    let known = digit_is n p k some_p some in
    let turned : p * k ≡ k * p = omega arith in
    let first : n / product (ss ++ k ∷ []) ≡ n / k / p = ap (λ m. n / m) (product_last ss k ∙ turned) ∙ sym (div-div-eq-div-mul n k p) in
    let left : n % product (ss ++ k ∷ []) ≡ n % (p * k) = ap (λ m. n % m) (product_last ss k) in
    let rest = last_digit ss k (n % (p * k)) h.1 some (mod_below n (p * k) (product_some p k some_p some)) in
    ap (λ q. q ∷ digits (ss ++ k ∷ []) (n % product (ss ++ k ∷ []))) first
    ∙ ap (λ ds. n / k / p ∷ ds)
    (ap (digits (ss ++ k ∷ [])) left
    ∙ (rest ∙ (ap (λ m. digits ss m ++ (n % (p * k) % k) ∷ []) known.0 ∙ ap (λ d. digits ss (n / k % p) ++ d ∷ []) known.1)))

pub left_is : (n k : ℕ) → n - n / k * k ≡ n % k
left_is n k = let whole = div-add-mod' n k in omega arith

-- ---- values

record LastOf (ts : List TypeTree) (t : TypeTree) (m d : ℕ) (vs : List ValueTree) : Type 0 where
  pub others : List ValueTree
  pub value : ValueTree
  pub whole : vs ≡ others ++ value ∷ []
  pub stored : Stored ts (digits (sizes ts) m) others
  pub has : HasNumber t value d

stored_last : (ts : List TypeTree) (t : TypeTree) (m d : ℕ) (vs : List ValueTree) → Stored (ts ++ t ∷ []) (digits (sizes ts) m ++ d ∷ []) vs → LastOf ts t m d vs
stored_last [] t m d [] h = elim h [ ]
stored_last [] t m d (v ∷ vs) h = record { others = []; value = v; whole = ap (λ us. v ∷ us) h.1.1; stored = (refl, refl); has = h.0 }
stored_last (u ∷ ts) t m d [] h = elim h [ ]
stored_last (u ∷ ts) t m d (v ∷ vs) h =
    let rest = stored_last ts t (m % product (sizes ts)) d vs h.1 in
    record { others = v ∷ rest.others; value = rest.value; whole = ap (λ us. v ∷ us) rest.whole; stored = (h.0, rest.stored); has = rest.has }

-- ---- items

pub front_and_last : (items : List TargetItem) (x : TargetItem) → 1 ≤ length items → x ≡ get_or items (length items - 1) x → items ≡ take (length items - 1) items ++ x ∷ []
front_and_last items x some read =
    let more = take_more items (length items - 1) x (omega arith) in
    let all : length items - 1 + 1 ≡ length items = omega arith in
    sym (take_all (length items) items (omega arith)) ∙ (ap (λ n. take n items) (sym all) ∙ (more ∙ ap (λ y. take (length items - 1) items ++ y ∷ []) (sym read)))

pub record LastValue (front : List TargetItem) (last : TargetItem) (n : ℕ) (vs : List ValueTree) : Type 0 where
  pub others : List ValueTree
  pub value : ValueTree
  pub whole : vs ≡ others ++ value ∷ []
  pub before : slice_get (target_values (map item_of front)) (n / count (item_type last)) ≡ Some others
  pub has : HasNumber (item_type last) value (n % count (item_type last))

module _ (items front : List TargetItem) (last : TargetItem) (n : ℕ) (is : items ≡ front ++ last ∷ []) (some : 0 < count (item_type last))
    (below : n < target_size (map item_of items)) where
  types_are : map item_type items ≡ map item_type front ++ item_type last ∷ []
  types_are = ap (map item_type) is ∙ map-append item_type front (last ∷ [])

  sizes_are : sizes (map item_type items) ≡ sizes (map item_type front) ++ count (item_type last) ∷ []
  sizes_are = ap sizes types_are ∙ map-append count (map item_type front) (item_type last ∷ [])

  below_both : n < total (map item_type front) * count (item_type last)
  below_both = subst (λ m. n < m) (size_of_items items ∙ (ap product sizes_are ∙ product_last (sizes (map item_type front)) (count (item_type last)))) below

  pub front_below : n / count (item_type last) < target_size (map item_of front)
  front_below = rw (size_of_items front) (div_below n (count (item_type last)) (total (map item_type front)) some below_both)

  pub last_value : All (λ i. fault_of (item_of i).ty ≡ None) front → (vs : List ValueTree) → slice_get (target_values (map item_of items)) n ≡ Some vs → LastValue front last n vs
  last_value sized vs h =
      let ts = map item_type front in
      let t = item_type last in
      let k = count t in
      let found : slice_get (combinations (map values (ts ++ t ∷ []))) n ≡ Some vs =
      ap (λ us. slice_get (combinations (map values us)) n) (sym types_are) ∙ (ap (λ vss. slice_get vss n) (sym (values_of_items items)) ∙ h) in
      let parted = ap (λ ss. digits ss n) (map-append count ts (t ∷ [])) ∙ last_digit (sizes ts) k n (positive_sizes ts (items_sized front sized)) some below_both in
      let parts = stored_last ts t (n / k) (n % k) vs (subst (λ ds. Stored (ts ++ t ∷ []) ds vs) parted (choices_stored (ts ++ t ∷ []) n vs found)) in
      record {
        others = parts.others;
        value = parts.value;
        whole = parts.whole;
        before = ap (λ vss. slice_get vss (n / k)) (values_of_items front)
            ∙ stored_choices ts (n / k) parts.others (div_below n k (total ts) some below_both) parts.stored;
        has = parts.has;
      }

-- ---- one value for each item

stored_length : (ts : List TypeTree) (ds : List ℕ) (vs : List ValueTree) → Stored ts ds vs → length vs ≡ length ts
stored_length [] ds vs h = ap length h.1
stored_length (t ∷ ts) [] vs h = elim h [ ]
stored_length (t ∷ ts) (d ∷ ds) [] h = elim h [ ]
stored_length (t ∷ ts) (d ∷ ds) (v ∷ vs) h = ap suc (stored_length ts ds vs h.1)

stored_items : (items : List TargetItem) (n : ℕ) (vs : List ValueTree) → slice_get (target_values (map item_of items)) n ≡ Some vs
    → Stored (map item_type items) (digits (sizes (map item_type items)) n) vs
stored_items items n vs h = choices_stored (map item_type items) n vs (ap (λ vss. slice_get vss n) (sym (values_of_items items)) ∙ h)

pub as_many_values : (items : List TargetItem) (n : ℕ) (vs : List ValueTree) → slice_get (target_values (map item_of items)) n ≡ Some vs → length vs ≡ length items
as_many_values items n vs h =
    stored_length (map item_type items) (digits (sizes (map item_type items)) n) vs (stored_items items n vs h) ∙ length-map items item_type

single : (t : TypeTree) (d : ℕ) (vs : List ValueTree) → Stored (t ∷ []) (d ∷ []) vs → (v : ValueTree) × (vs ≡ v ∷ []) × HasNumber t v d
single t d [] h = elim h [ ]
single t d (v ∷ vs) h = (v, ap (λ us. v ∷ us) h.1.1, h.0)

pub only_value : (items : List TargetItem) (i : TargetItem) (n : ℕ) (vs : List ValueTree) → length items ≡ 1 → slice_get (target_values (map item_of items)) n ≡ Some vs
    → (v : ValueTree) × (vs ≡ v ∷ []) × HasNumber (item_type (get_or items 0 i)) v n
only_value [] i n vs one h = absurd (omega arith)
only_value (j ∷ []) i n vs one h =
    let found = single (item_type j) (n / 1) vs (stored_items (j ∷ []) n vs h) in
    (found.0, found.1, subst (HasNumber (item_type j) found.0) (div-one n) found.2)
only_value (j ∷ (k ∷ items)) i n vs one h = absurd (omega arith)

pub values_there : (items : List TargetItem) (n : ℕ) → n < target_size (map item_of items) → (vs : List ValueTree) × (slice_get (target_values (map item_of items)) n ≡ Some vs)
values_there items n below =
    let size = size_of_items items in
    let long : length (target_values (map item_of items)) ≡ total (map item_type items) = ap length (values_of_items items) ∙ length-choices (map item_type items) in
    element_at (target_values (map item_of items)) n (omega arith)

-- ---- texts

regrouped : (x f c t e : List ℕ) → (x ++ (f ++ ((c ++ t) ++ []))) ++ e ≡ ((x ++ f) ++ c) ++ (t ++ e)
regrouped x f c t e =
    ap (λ z. (x ++ (f ++ z)) ++ e) (append-nil (c ++ t))
    ∙ (append_assoc x (f ++ (c ++ t)) e
    ∙ (ap (λ z. x ++ z) (append_assoc f (c ++ t) e ∙ ap (λ z. f ++ z) (append_assoc c t e))
    ∙ (sym (append_assoc x f (c ++ (t ++ e))) ∙ sym (append_assoc (x ++ f) c (t ++ e)))))

ended_last : (e : List ℕ) (ts : List (List ℕ)) (t : List ℕ) → ended e (ts ++ t ∷ []) ≡ ended (codes ", ") ts ++ (t ++ e)
ended_last e [] t = ap (λ z. z ++ e) (append-nil t)
ended_last e (x ∷ ts) t =
    ap (λ z. (x ++ z) ++ e) (flat_map-append (λ u. codes ", " ++ u) ts (t ∷ []))
    ∙ regrouped x (flat_map (λ u. codes ", " ++ u) ts) (codes ", ") t e

pub last_written : (vs us : List ValueTree) (v : ValueTree) (end out a b c : List ℕ) → vs ≡ us ++ v ∷ [] → a ≡ out ++ ended (codes ", ") (map text us) → b ≡ a ++ text v
    → c ≡ b ++ end → c ≡ out ++ ended end (map text vs)
last_written vs us v end out a b c whole first second third =
    bracketed out (ended (codes ", ") (map text us)) (text v) end a b c first second third
    ∙ ap (λ z. out ++ z) (sym (ap (λ ws. ended end (map text ws)) whole ∙ (ap (ended end) (map-append text us (v ∷ [])) ∙ ended_last end (map text us) (text v))))

pub none_written : (items : List TargetItem) (n : ℕ) (vs : List ValueTree) (end out : List ℕ) → length items < 1 → slice_get (target_values (map item_of items)) n ≡ Some vs
    → out ≡ out ++ ended end (map text vs)
unfolding stores
none_written [] zero vs end out none h = let same : [] ≡ vs = (cc) in sym (append-nil out) ∙ ap (λ us. out ++ ended end (map text us)) same
none_written [] (suc n) vs end out none h = (cc)
none_written (i ∷ items) n vs end out none h = absurd (omega arith)

pub closed_tuple : (vs : List ValueTree) (out a c : List ℕ) → 1 ≤ length vs → a ≡ out ++ 40 ∷ [] → c ≡ a ++ ended (codes ")") (map text vs) → c ≡ out ++ text (Tuple (parts vs))
closed_tuple [] out a c some first second = absurd (omega arith)
closed_tuple (v ∷ vs) out a c some first second =
    second
    ∙ (ap (λ z. z ++ (separated (map text (v ∷ vs)) ++ codes ")")) first
    ∙ (append_assoc out (codes "(") (separated (map text (v ∷ vs)) ++ codes ")") ∙ ap (λ z. out ++ z) (sym (tuple_text (v ∷ vs)))))
