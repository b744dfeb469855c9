-- The entries of an action beside the gains that it names.
use Rattle.std.proofs.Common.{◌≡◌, ◌<◌, ℕ, zero, suc, ℤ, pos, List, [], ◌∷◌, map, length, Bor, Contains, Some, Bool, true, false, not, ◌&&◌, ◌||◌, refl, sym, ap, ◌∙◌, subst, arith, ◌⊎◌, ⊎_elim, inl, inr, true≢false}
use lib.Dec.{eqb}
use Rattle.std.specs.List.{AllZip, AllByRecursion, IsDistinct, list_any, list_all}
use Rattle.std.specs.List.Sorted.{IsStrictlyIncreasing, IsPermutation, IsNonDecreasingBy, IsNonDecreasing}
use Rattle.std.specs.Prelude.{bytes_eq}
use Rattle.std.proofs.lemmas.Bool.{ne_eqb}
use Rattle.std.proofs.lemmas.Bool.Decides.{nat_tests}
use Rattle.std.proofs.lemmas.Slice.Eq.{bytes_eq-Decides}
use Rattle.std.proofs.lemmas.List.{length-map, get_or-map}
use Rattle.std.proofs.lemmas.List.Sorted.{Contains-permutation, IsPermutation-map, IsPermutation-sym}
use Rattle.std.proofs.lemmas.Map.Keys.{IsDistinct-cons, IsDistinct-IsPermutation, IsStrictlyIncreasing-from_distinct}
use Rattle.serde_json.specs.Data.{Data}
use Rattle.kf_value.specs.Targets.{Item, target_values, target_value_text}
use Rattle.kf_value.specs.Numbers.{target_size}
use Rattle.kf_gain.specs.declared.table.Action.{Action}
use Rattle.kf_gain.specs.declared.table.GainEntry.{GainEntry}
use Rattle.kf_json.specs.Json.{members, at_place, text_of, whole_of}
use Rattle.kf_json.specs.Rules.{are_distinct}
use Rattle.kf_gain.specs.Tables.{name_at, gains_at, value_texts, is_value_text}
use Rattle.kf_gain.specs.Reading.{IsEntry, IsRead}
use Rattle.kf_gain.proofs.TargetTexts.{target_count}

-- ---- what a list contains, member by member

pub contains_cases : {X : Type 0} (x : X) (xs : List X) (y : X) → Contains (x ∷ xs) y → (x ≡ y) ⊎ Contains xs y
contains_cases x xs y (zero, within, is) = inl is
contains_cases x xs y (suc k, within, is) = inr (k, omega arith, is)

pub contains_first : {X : Type 0} (x : X) (xs : List X) (y : X) → x ≡ y → Contains (x ∷ xs) y
contains_first x xs y is = (zero, omega arith, is)

pub contains_later : {X : Type 0} (x : X) (xs : List X) (y : X) → Contains xs y → Contains (x ∷ xs) y
contains_later x xs y (k, within, is) = (suc k, omega arith, is)

pub contains_none : {X : Type 0} (y : X) → Contains [] y → ⊥
contains_none y (k, within, is) = absurd (omega arith)

pub split_and : (a b : Bool) → (a && b) ≡ true → (a ≡ true) × (b ≡ true)
split_and true b h = (refl, h)
split_and false b h = absurd (cc)

-- what a text shows of a value
abbrev pub text_shown : (Data → List ℕ) → Data → Bor (List ℕ) → Type 0
text_shown f d t = t.now ≡ f d

-- whether all texts of an action are those of values
abbrev pub action_known : List Item → Data → Bool
action_known items a = list_all (is_value_text items) (value_texts a)

-- ---- the entries of gains

abbrev gain_text : Data → List ℕ
gain_text g = text_of (at_place 0 g)

abbrev pair : Data → List ℕ × ℤ
pair g = (gain_text g, whole_of (at_place 1 g))

module _ (items : List Item) where
  -- the text of an entry's value is that of the gain
  entry_text : (g : Data) (e : GainEntry) → IsEntry items g e → (e.value < target_size items) × (target_value_text items e.value ≡ gain_text g)
  entry_text g e is = (is.value e.value).0 refl

  -- an entry is named
  pub entry_named : (gs : List Data) (es : List GainEntry) → AllZip (IsEntry items) gs es → (e : GainEntry) → Contains es e
      → (e.value < length (target_values items)) × Contains (map pair gs) (target_value_text items e.value, e.gain)
  entry_named [] [] all e h = absurd (contains_none e h)
  entry_named [] (f ∷ es) all e h = absurd all
  entry_named (g ∷ gs) [] all e h = absurd all
  entry_named (g ∷ gs) (f ∷ es) (is, all) e h =
      ⊎_elim
      (λ (same : f ≡ e). subst (λ e. (e.value < length (target_values items)) × Contains (map pair (g ∷ gs)) (target_value_text items e.value, e.gain)) same here)
      (λ (later : Contains es e). let rest = entry_named gs es all e later in (rest.0, contains_later (pair g) (map pair gs) (target_value_text items e.value, e.gain) rest.1))
      (contains_cases f es e h)
    where
      here : (f.value < length (target_values items)) × Contains (map pair (g ∷ gs)) (target_value_text items f.value, f.gain)
      here =
          let text = entry_text g f is in
          (subst (λ m. f.value < m) (sym (target_count items)) text.0, contains_first (pair g) (map pair gs) (target_value_text items f.value, f.gain) (λ i. (sym text.1 i, sym is.gain i)))

  -- what is named is an entry
  pub named_entry : (gs : List Data) (es : List GainEntry) → AllZip (IsEntry items) gs es → (e : GainEntry)
      → (e.value < length (target_values items)) × Contains (map pair gs) (target_value_text items e.value, e.gain) → Contains es e
  named_entry [] [] all e (below, h) = absurd (contains_none (target_value_text items e.value, e.gain) h)
  named_entry [] (f ∷ es) all e named = absurd all
  named_entry (g ∷ gs) [] all e named = absurd all
  named_entry (g ∷ gs) (f ∷ es) (is, all) e (below, h) =
      ⊎_elim
      (λ (same : pair g ≡ (target_value_text items e.value, e.gain)). contains_first f es e (here same))
      (λ (later : Contains (map pair gs) (target_value_text items e.value, e.gain)). contains_later f es e (named_entry gs es all e (below, later)))
      (contains_cases (pair g) (map pair gs) (target_value_text items e.value, e.gain) h)
    where
      here : pair g ≡ (target_value_text items e.value, e.gain) → f ≡ e
      here same =
          let found : Some f.value ≡ Some e.value = (is.value e.value).1 (subst (λ m. e.value < m) (target_count items) below, sym (ap (λ p. p.0) same)) in
          let value : f.value ≡ e.value = (cc) in
          let gain : f.gain ≡ e.gain = is.gain ∙ ap (λ p. p.1) same in
          λ i. record { value = value i; gain = gain i }

  -- ---- gains of different texts have entries of different values

  split_or : (a b : Bool) → not (a || b) ≡ true → (a ≡ false) × (not b ≡ true)
  split_or true b h = absurd (cc)
  split_or false b h = (refl, h)

  value_apart : (g h : Data) (e f : GainEntry) → IsEntry items g e → IsEntry items h f → bytes_eq (gain_text g) (gain_text h) ≡ false → eqb e.value f.value ≡ false
  value_apart g h e f one other apart =
      ne_eqb e.value f.value
      (λ same.
      let texts : gain_text g ≡ gain_text h = sym (entry_text g e one).1 ∙ ap (target_value_text items) same ∙ (entry_text h f other).1 in
      true≢false (sym ((bytes_eq-Decides (gain_text g) (gain_text h)).1 texts) ∙ apart))

  values_apart : (g : Data) (e : GainEntry) → IsEntry items g e → (gs : List Data) (es : List GainEntry) → AllZip (IsEntry items) gs es
      → not (list_any (bytes_eq (gain_text g)) (map gain_text gs)) ≡ true → AllByRecursion (λ y. eqb e.value y ≡ false) (map (λ e. e.value) es)
  values_apart g e is [] [] all apart = tt
  values_apart g e is [] (f ∷ es) all apart = absurd all
  values_apart g e is (h ∷ gs) [] all apart = absurd all
  values_apart g e is (h ∷ gs) (f ∷ es) (other, all) apart =
      let both = split_or (bytes_eq (gain_text g) (gain_text h)) (list_any (bytes_eq (gain_text g)) (map gain_text gs)) apart in
      (value_apart g h e f is other both.0, values_apart g e is gs es all both.1)

  none_equal : IsDistinct eqb []
  unfolding IsDistinct
  none_equal = tt

  pub values_differ : (gs : List Data) (es : List GainEntry) → AllZip (IsEntry items) gs es → are_distinct (map gain_text gs) ≡ true → IsDistinct eqb (map (λ e. e.value) es)
  values_differ [] [] all apart = none_equal
  values_differ [] (f ∷ es) all apart = absurd all
  values_differ (g ∷ gs) [] all apart = absurd all
  values_differ (g ∷ gs) (f ∷ es) (is, all) apart =
      let both = split_and (not (list_any (bytes_eq (gain_text g)) (map gain_text gs))) (are_distinct (map gain_text gs)) apart in
      IsDistinct-cons eqb f.value (map (λ e. e.value) es) (values_apart g f is gs es all both.0) (values_differ gs es all both.1)

  -- ---- an action, once its entries are sorted

  rising : (es : List GainEntry) → IsNonDecreasingBy (λ (e : GainEntry). e.value) es → IsNonDecreasing (map (λ e. e.value) es)
  rising es rises i j d order within =
      let short = length-map es (λ e. e.value) in
      let none : GainEntry = record { value = 0; gain = pos 0 } in
      let first = get_or-map (λ (e : GainEntry). e.value) es i none d (omega (arith, short)) in
      let second = get_or-map (λ (e : GainEntry). e.value) es j none d (omega (arith, short)) in
      omega (arith, first, second, rises i j none order (omega (arith, short)))

  pub action_read : (d : Data) (es sorted : List GainEntry) (a : Action) → AllZip (IsEntry items) (members (gains_at d)) es → IsPermutation es sorted
      → IsNonDecreasingBy (λ (e : GainEntry). e.value) sorted → a.name ≡ text_of (name_at d) → a.gains ≡ sorted → IsRead items d a
  action_read d es sorted a all moved rises name gains = record {
    name = name;
    gains = λ e. (
      λ h. entry_named (members (gains_at d)) es all e (Contains-permutation sorted es e (IsPermutation-sym es sorted moved) (subst (λ l. Contains l e) gains h)),
      λ h. subst (λ l. Contains l e) (sym gains) (Contains-permutation es sorted e moved (named_entry (members (gains_at d)) es all e h)),
    );
    ascending = λ apart. subst (λ l. IsStrictlyIncreasing (map (λ e. e.value) l)) (sym gains)
        (IsStrictlyIncreasing-from_distinct (map (λ e. e.value) sorted) (rising sorted rises)
        (IsDistinct-IsPermutation eqb eqb-flips (map (λ e. e.value) es) (map (λ e. e.value) sorted) (IsPermutation-map (λ e. e.value) es sorted moved)
        (values_differ (members (gains_at d)) es all apart)));
  }
    where
      eqb-flips : (x y : ℕ) → eqb x y ≡ eqb y x
      eqb-flips x y = grind (arith, nat_tests)
