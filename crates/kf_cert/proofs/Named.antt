-- A gain table with the texts of its values: it names values, and stands for the gain table itself.
use Rattle.std.proofs.Common.{◌≡◌, ◌<◌, ◌+◌, ℕ, List, [], ◌∷◌, map, All, Contains, Bool, true, false, not, ◌&&◌, ◌||◌, Some, refl, sym, ap, ◌∙◌, subst, arith}
use Rattle.std.specs.Prelude.{bytes_eq}
use Rattle.std.specs.List.{AllZip, list_any, list_all}
use Rattle.std.specs.List.Sorted.{IsStrictlyIncreasing}
use Rattle.std.proofs.lemmas.Bool.{false_from_ne_true}
use Rattle.std.proofs.lemmas.List.Elements.{All-head, All-tail, All-cons, All-nil, All-contains}
use Rattle.std.proofs.lemmas.Slice.Eq.{bytes_eq-Decides}
use Rattle.kf_value.specs.Targets.{Item, target_value_text}
use Rattle.kf_value.specs.Numbers.{target_size, IsNumberOf}
use Rattle.kf_hyper.proofs.Rising.{Rises, rises}
use Rattle.kf_gain.specs.declared.table.Action.{Action}
use Rattle.kf_gain.specs.declared.table.GainEntry.{GainEntry}
use Rattle.kf_gain.specs.Gains.{TableTree}
use Rattle.kf_gain.specs.Tables.{is_value_text}
use Rattle.kf_gain.proofs.TargetTexts.{target_count, text_known}
use Rattle.kf_json.specs.Rules.{are_distinct}
use Rattle.kf_cert.specs.declared.cert.CertAction.{CertAction}
use Rattle.kf_cert.specs.declared.cert.CertEntry.{CertEntry}
use Rattle.kf_cert.specs.Marks.{value_texts, NamesValues, StandsFor}
use Rattle.kf_cert.specs.Naming.{IsNumbered, NamesGain}
use Rattle.kf_cert.proofs.Pairs.{from_map, named_by_entry, named_by_pair, to_map}
use Rattle.kf_cert.specs.Views.{named_by}

-- different values of a target have different texts
abbrev pub TextsApart : List Item → Type 0
TextsApart target = (m n : ℕ) → m < target_size target → n < target_size target → target_value_text target m ≡ target_value_text target n → m ≡ n

-- an action's gains, each with the text of its value, and the action with these
abbrev named_entry : List Item → GainEntry → CertEntry
named_entry target e = record { value = target_value_text target e.value; gain = e.gain }

abbrev named_action : List Item → Action → CertAction
named_action target a = record { name = a.name; gains = map (named_entry target) a.gains }

-- the values of an action are the target's, and ascend
pub record IsNamable (target : List Item) (a : Action) : Type 0 where
  pub values : All (λ e. e.value < target_size target) a.gains
  pub ascending : IsStrictlyIncreasing (map (λ e. e.value) a.gains)

module _ (target : List Item) (apart : TextsApart target) where
  abbrev text : ℕ → List ℕ
  text = target_value_text target

  abbrev Below : GainEntry → Type 0
  Below e = e.value < target_size target

  -- ---- its texts

  number_of : (n : ℕ) → n < target_size target → IsNumberOf target (text n) (Some n)
  number_of n below m = (λ same. there same, λ (within, shown). ap Some (apart n m below within (sym shown)))
    where
      there : Some n ≡ Some m → (m < target_size target) × (text m ≡ text n)
      there same = let is : n ≡ m = (cc) in (subst (λ (k : ℕ). k < target_size target) is below, ap text (sym is))

  both_true : (a b : Bool) → a ≡ true → b ≡ true → (a && b) ≡ true
  both_true a b is rest = rw (is, rest) refl

  all_known : (gains : List GainEntry) → All Below gains → list_all (is_value_text target) (map (λ e. e.value) (map (named_entry target) gains)) ≡ true
  all_known [] below = refl
  all_known (e ∷ es) below =
      both_true (is_value_text target (text e.value)) _ (text_known target (text e.value) e.value (number_of e.value (All-head Below e es below)))
      (all_known es (All-tail Below e es below))

  neither : (a b : Bool) → a ≡ false → b ≡ false → (a || b) ≡ false
  neither a b is rest = rw (is, rest) refl

  -- the text of a value isn't among those of greater ones
  text_apart : (v low : ℕ) → v < target_size target → v < low → (gains : List GainEntry) → All Below gains → Rises low (map (λ e. e.value) gains)
      → list_any (bytes_eq (text v)) (map (λ e. e.value) (map (named_entry target) gains)) ≡ false
  text_apart v low within less [] below up = refl
  text_apart v low within less (e ∷ es) below (from, up) =
      neither (bytes_eq (text v) (text e.value)) _
      (false_from_ne_true _ (λ same. let is = apart v e.value within (All-head Below e es below) ((bytes_eq-Decides (text v) (text e.value)).0 same) in
      omega (arith, less, from, is)))
      (text_apart v (e.value + 1) within (omega (arith, less, from)) es (All-tail Below e es below) up)

  all_apart : (low : ℕ) (gains : List GainEntry) → All Below gains → Rises low (map (λ e. e.value) gains)
      → are_distinct (map (λ e. e.value) (map (named_entry target) gains)) ≡ true
  all_apart low [] below up = refl
  all_apart low (e ∷ es) below (from, up) =
      both_true _ _ (ap not (text_apart e.value (e.value + 1) (All-head Below e es below) (omega arith) es (All-tail Below e es below) up))
      (all_apart (e.value + 1) es (All-tail Below e es below) up)

  -- ---- what it stands for

  module _ (a : Action) (is : IsNamable target a) where
    names_there : (e : GainEntry) → Contains a.gains e → NamesGain target (named_action target a) e
    names_there e here = (
      subst (λ (k : ℕ). e.value < k) (sym (target_count target)) (All-contains Below a.gains e is.values here),
      (named_entry target e, to_map (named_entry target) a.gains e here, refl, refl),
    )

    names_back : (e : GainEntry) → NamesGain target (named_action target a) e → Contains a.gains e
    names_back e (below, (g, here, shown, gain)) =
        let f = from_map (named_entry target) a.gains g here in
        same f.0 f.1 (ap (λ (g : CertEntry). g.value) f.2 ∙ shown) (ap (λ (g : CertEntry). g.gain) f.2 ∙ gain)
      where
        same : (f : GainEntry) → Contains a.gains f → text f.value ≡ text e.value → f.gain ≡ e.gain → Contains a.gains e
        same f there shown gain =
            let value : f.value ≡ e.value =
            apart f.value e.value (All-contains Below a.gains f is.values there) (subst (λ (k : ℕ). e.value < k) (target_count target) below) shown in
            let whole : f ≡ e = λ i. record { value = value i; gain = gain i } in
            subst (λ (x : GainEntry). Contains a.gains x) whole there

    numbered : IsNumbered target (named_action target a) a
    numbered = record {
      name = refl;
      ascending = is.ascending;
      gains = λ e. (
        λ h. named_by_pair target (named_action target a) e (names_there e h),
        λ h. names_back e (named_by_entry target (named_action target a) e h),
      );
    }

  all_numbered : (actions : List Action) → All (IsNamable target) actions → AllZip (IsNumbered target) (map (named_action target) actions) actions
  all_numbered [] all = tt
  all_numbered (a ∷ actions) all =
      (numbered a (All-head (IsNamable target) a actions all), all_numbered actions (All-tail (IsNamable target) a actions all))

  abbrev IsKnown : CertAction → Type 0
  IsKnown n = (list_all (is_value_text target) (value_texts n) ≡ true) × (are_distinct (value_texts n) ≡ true)

  each_known : (actions : List Action) → All (IsNamable target) actions → All IsKnown (map (named_action target) actions)
  each_known [] all = All-nil IsKnown
  each_known (a ∷ actions) all =
      let is = All-head (IsNamable target) a actions all in
      All-cons IsKnown (named_action target a) (map (named_action target) actions)
      (all_known a.gains is.values, all_apart 0 a.gains is.values (rises (map (λ e. e.value) a.gains) is.ascending))
      (each_known actions (All-tail (IsNamable target) a actions all))

  pub names_values : (t : TableTree) → All (IsNamable target) t.actions → NamesValues target (named_by target t)
  names_values t all = each_known t.actions all

  pub stands_for_itself : (t : TableTree) → All (IsNamable target) t.actions → StandsFor target (named_by target t) t
  stands_for_itself t all = record { over = refl; rest = refl; actions = all_numbered t.actions all }
