-- The entries of an action beside the gains that name their values.
use Rattle.std.proofs.Common.{◌≡◌, ◌<◌, ℕ, pos, List, [], ◌∷◌, map, length, Contains, Some, Bool, true, false, not, ◌||◌, refl, sym, ap, ◌∙◌, subst, arith, ⊎_elim, true≢false}
use lib.Dec.{eqb}
use Rattle.std.specs.Prelude.{bytes_eq}
use Rattle.std.specs.List.{AllZip, AllByRecursion, IsDistinct, list_any}
use Rattle.std.specs.List.Sorted.{IsStrictlyIncreasing, IsPermutation, IsNonDecreasingBy, IsNonDecreasing}
use Rattle.std.proofs.lemmas.Bool.{ne_eqb}
use Rattle.std.proofs.lemmas.Bool.Decides.{nat_tests}
use Rattle.std.proofs.lemmas.List.{length-map, get_or-map}
use Rattle.std.proofs.lemmas.List.Sorted.{Contains-permutation, IsPermutation-map, IsPermutation-sym}
use Rattle.std.proofs.lemmas.Map.Keys.{IsDistinct-cons, IsDistinct-IsPermutation, IsStrictlyIncreasing-from_distinct}
use Rattle.std.proofs.lemmas.Slice.Eq.{bytes_eq-Decides}
use Rattle.kf_gain.specs.declared.table.Action.{Action}
use Rattle.kf_gain.specs.declared.table.GainEntry.{GainEntry}
use Rattle.kf_gain.specs.Vulnerabilities.{greatest}
use Rattle.kf_gain.proofs.Entries.{contains_cases, contains_first, contains_later, contains_none, split_and}
use Rattle.kf_gain.proofs.TargetTexts.{target_count}
use Rattle.kf_json.specs.Rules.{are_distinct}
use Rattle.kf_value.specs.Numbers.{target_size}
use Rattle.kf_value.specs.Targets.{Item, target_values, target_value_text}
use Rattle.kf_cert.specs.declared.cert.CertAction.{CertAction}
use Rattle.kf_cert.specs.declared.cert.CertEntry.{CertEntry}
use Rattle.kf_cert.proofs.Pairs.{named_by_entry, named_by_pair}
use Rattle.kf_cert.specs.Naming.{IsEntryOf, IsMade, NamesOnce, texts_of}
use Rattle.kf_cert.proofs.Greatest.{greatest_moved}

module _ (target : List Item) where
  -- gains name this entry
  abbrev AreNaming : List CertEntry → GainEntry → Type 0
  AreNaming gs e =
      (e.value < length (target_values target)) × ((g : CertEntry) × Contains gs g × (g.value ≡ target_value_text target e.value) × (g.gain ≡ e.gain))

  entry_text : (g : CertEntry) (e : GainEntry) → IsEntryOf target g e → (e.value < target_size target) × (target_value_text target e.value ≡ g.value)
  entry_text g e is = (is.value e.value).0 refl

  -- an entry is named
  entry_named : (gs : List CertEntry) (es : List GainEntry) → AllZip (IsEntryOf target) gs es → (e : GainEntry) → Contains es e → AreNaming gs e
  entry_named [] [] all e h = absurd (contains_none e h)
  entry_named [] (f ∷ es) all e h = absurd all
  entry_named (g ∷ gs) [] all e h = absurd all
  entry_named (g ∷ gs) (f ∷ es) (is, all) e h =
      ⊎_elim
      (λ (same : f ≡ e). subst (AreNaming (g ∷ gs)) same here)
      (λ (later : Contains es e). let rest = entry_named gs es all e later in (rest.0, (rest.1.0, contains_later g gs rest.1.0 rest.1.1, rest.1.2, rest.1.3)))
      (contains_cases f es e h)
    where
      here : AreNaming (g ∷ gs) f
      here =
          let text = entry_text g f is in
          (subst (λ (m : ℕ). f.value < m) (sym (target_count target)) text.0, (g, contains_first g gs g refl, sym text.1, sym is.gain))

  -- what is named is an entry
  named_entry : (gs : List CertEntry) (es : List GainEntry) → AllZip (IsEntryOf target) gs es → (e : GainEntry) → AreNaming gs e → Contains es e
  named_entry [] [] all e (below, (g, h, text, gain)) = absurd (contains_none g h)
  named_entry [] (f ∷ es) all e named = absurd all
  named_entry (g ∷ gs) [] all e named = absurd all
  named_entry (g ∷ gs) (f ∷ es) (is, all) e (below, (h, has, text, gain)) =
      ⊎_elim
      (λ (same : g ≡ h). contains_first f es e (here same))
      (λ (later : Contains gs h). contains_later f es e (named_entry gs es all e (below, (h, later, text, gain))))
      (contains_cases g gs h has)
    where
      here : g ≡ h → f ≡ e
      here same =
          let found : Some f.value ≡ Some e.value = (is.value e.value).1 (subst (λ (m : ℕ). e.value < m) (target_count target) below, sym (ap (λ (g : CertEntry). g.value) same ∙ text)) in
          let value : f.value ≡ e.value = (cc) in
          let own : f.gain ≡ e.gain = is.gain ∙ ap (λ (g : CertEntry). g.gain) same ∙ gain in
          λ i. record { value = value i; gain = own i }

  texts_zip : (gs : List CertEntry) (es : List GainEntry) → AllZip (IsEntryOf target) gs es → map (target_value_text target) (map (λ e. e.value) es) ≡ texts_of gs
  texts_zip [] [] all = refl
  texts_zip [] (f ∷ es) all = absurd all
  texts_zip (g ∷ gs) [] all = absurd all
  texts_zip (g ∷ gs) (f ∷ es) (is, all) = λ i. (entry_text g f is).1 i ∷ texts_zip gs es all i

  gains_zip : (gs : List CertEntry) (es : List GainEntry) → AllZip (IsEntryOf target) gs es → map (λ (e : GainEntry). e.gain) es ≡ map (λ (g : CertEntry). g.gain) gs
  gains_zip [] [] all = refl
  gains_zip [] (f ∷ es) all = absurd all
  gains_zip (g ∷ gs) [] all = absurd all
  gains_zip (g ∷ gs) (f ∷ es) (is, all) = λ i. is.gain i ∷ gains_zip gs es all i

-- ---- numbers whose texts differ

module _ (text : ℕ → List ℕ) where
  neither : (a b : Bool) → not (a || b) ≡ true → (a ≡ false) × (not b ≡ true)
  neither true b h = absurd (cc)
  neither false b h = (refl, h)

  apart_from : (v : ℕ) (vs : List ℕ) → not (list_any (bytes_eq (text v)) (map text vs)) ≡ true → AllByRecursion (λ (y : ℕ). eqb v y ≡ false) vs
  apart_from v [] apart = tt
  apart_from v (y ∷ vs) apart =
      let both = neither (bytes_eq (text v) (text y)) (list_any (bytes_eq (text v)) (map text vs)) apart in (
        ne_eqb v y (λ same. true≢false (sym ((bytes_eq-Decides (text v) (text y)).1 (ap text same)) ∙ both.0)),
        apart_from v vs both.1,
      )

  none_equal : IsDistinct eqb []
  unfolding IsDistinct
  none_equal = tt

  pub numbers_differ : (vs : List ℕ) → are_distinct (map text vs) ≡ true → IsDistinct eqb vs
  numbers_differ [] apart = none_equal
  numbers_differ (v ∷ vs) apart =
      let both = split_and (not (list_any (bytes_eq (text v)) (map text vs))) (are_distinct (map text vs)) apart in
      IsDistinct-cons eqb v vs (apart_from v vs both.0) (numbers_differ vs both.1)

-- ---- an action, once its entries are sorted

rising : (es : List GainEntry) → IsNonDecreasingBy (λ (e : GainEntry). e.value) es → IsNonDecreasing (map (λ e. e.value) es)
rising es rises i j d order within =
    let short = length-map es (λ e. e.value) in
    let none : GainEntry = record { value = 0; gain = pos 0 } in
    let first = get_or-map (λ (e : GainEntry). e.value) es i none d (omega (arith, short)) in
    let second = get_or-map (λ (e : GainEntry). e.value) es j none d (omega (arith, short)) in
    omega (arith, first, second, rises i j none order (omega (arith, short)))

eqb-flips : (x y : ℕ) → eqb x y ≡ eqb y x
eqb-flips x y = grind (arith, nat_tests)

pub action_made : (target : List Item) (named : CertAction) (es sorted : List GainEntry) (a : Action) → AllZip (IsEntryOf target) named.gains es → IsPermutation es sorted
    → IsNonDecreasingBy (λ (e : GainEntry). e.value) sorted → a.name ≡ named.name → a.gains ≡ sorted → NamesOnce target named → IsMade target named a
action_made target named es sorted a all moved rises name gains once = record {
  numbered = record {
    name = name;
    ascending = subst (λ (l : List GainEntry). IsStrictlyIncreasing (map (λ e. e.value) l)) (sym gains)
        (IsStrictlyIncreasing-from_distinct (map (λ e. e.value) sorted) (rising sorted rises)
        (IsDistinct-IsPermutation eqb eqb-flips (map (λ e. e.value) es) (map (λ e. e.value) sorted) (IsPermutation-map (λ e. e.value) es sorted moved)
        (numbers_differ (target_value_text target) (map (λ e. e.value) es) (ap are_distinct (texts_zip target named.gains es all) ∙ once.1))));
    gains = λ e. (
      λ h. named_by_pair target named e (entry_named target named.gains es all e (Contains-permutation sorted es e (IsPermutation-sym es sorted moved) (subst (λ (l : List GainEntry). Contains l e) gains h))),
      λ h. subst (λ (l : List GainEntry). Contains l e) (sym gains) (Contains-permutation es sorted e moved (named_entry target named.gains es all e (named_by_entry target named e h))),
    );
  };
  once = once;
  greatest =
      ap (λ (l : List GainEntry). greatest (map (λ e. e.gain) l)) gains
      ∙ greatest_moved (map (λ e. e.gain) es) (map (λ e. e.gain) sorted) (IsPermutation-map (λ e. e.gain) es sorted moved)
      ∙ ap greatest (gains_zip target named.gains es all);
}
