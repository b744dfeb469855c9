-- The gain table that a table of named values stands for: there is one, and only one.
use Rattle.std.proofs.Common.{◌≡◌, ◌<◌, ◌≤◌, ◌+◌, ℕ, ℤ, List, [], ◌∷◌, map, length, All, Contains, Bool, true, false, not, ◌||◌, Option, None, Some, refl, sym, ap, ◌∙◌, subst, arith, ⊎_elim}
use Rattle.std.specs.Prelude.{◌≢◌, bytes_eq, if◌then◌else◌}
use Rattle.std.specs.List.{AllZip, list_any, list_all}
use Rattle.std.proofs.lemmas.List.Elements.{All-head, All-tail}
use Rattle.std.proofs.lemmas.Slice.Eq.{bytes_eq-Decides}
use Rattle.kf_value.specs.Targets.{Item, target_values, target_value_text}
use Rattle.kf_hyper.proofs.Rising.{Rises, rises, increasing, from_low}
use Rattle.kf_gain.specs.declared.table.Action.{Action}
use Rattle.kf_gain.specs.declared.table.GainEntry.{GainEntry}
use Rattle.kf_gain.specs.Gains.{TableTree}
use Rattle.kf_gain.specs.Tables.{is_value_text}
use Rattle.kf_gain.proofs.Entries.{contains_cases, contains_first, contains_later, contains_none, split_and}
use Rattle.kf_gain.proofs.Sought.{Found, Sought, found}
use Rattle.kf_json.specs.Rules.{are_distinct}
use Rattle.kf_cert.specs.Certificates.{NamedTable}
use Rattle.kf_cert.specs.declared.cert.CertAction.{CertAction}
use Rattle.kf_cert.specs.declared.cert.CertEntry.{CertEntry}
use Rattle.kf_cert.specs.Marks.{value_texts, NamesValues, StandsFor}
use Rattle.kf_cert.specs.Naming.{IsNumbered, NamesGain}
use Rattle.kf_cert.proofs.Pairs.{named_by_entry, named_by_pair}

-- ---- the gain that an action names for a text

abbrev gain_of : List CertEntry → List ℕ → Option ℤ
gain_of [] t = None
gain_of (g ∷ gs) t = if bytes_eq g.value t then Some g.gain else gain_of gs t

abbrev HasGain : List CertEntry → List ℕ → ℤ → Type 0
HasGain gs t z = (g : CertEntry) × Contains gs g × (g.value ≡ t) × (g.gain ≡ z)

abbrev texts : List CertEntry → List (List ℕ)
texts gs = map (λ e. e.value) gs

module _ (t : List ℕ) (z : ℤ) where
  gain_later : (g : CertEntry) (gs : List CertEntry) → HasGain gs t z → HasGain (g ∷ gs) t z
  gain_later g gs (h, there, text, gain) = (h, contains_later g gs h there, text, gain)

  sought_named : (gs : List CertEntry) → gain_of gs t ≡ Some z → HasGain gs t z
  sought_named [] is = absurd (cc)
  sought_named (g ∷ gs) is = by (bytes_eq g.value t) refl is (sought_named gs)
    where
      by : (b : Bool) → bytes_eq g.value t ≡ b → (if b then Some g.gain else gain_of gs t) ≡ Some z → (gain_of gs t ≡ Some z → HasGain gs t z)
          → HasGain (g ∷ gs) t z
      by true same is rest =
          let text : g.value ≡ t = (bytes_eq-Decides g.value t).0 same in
          let gain : g.gain ≡ z = (cc) in
          (g, contains_first g gs g refl, text, gain)
      by false apart is rest = gain_later g gs (rest is)

  neither : (a b : Bool) → not (a || b) ≡ true → (a ≡ false) × (not b ≡ true)
  neither true b h = absurd (cc)
  neither false b h = (refl, h)

  other_text : (x : List ℕ) (gs : List CertEntry) → not (list_any (bytes_eq x) (texts gs)) ≡ true → HasGain gs t z → bytes_eq x t ≡ false
  other_text x [] apart (h, there, text, gain) = absurd (contains_none h there)
  other_text x (g ∷ gs) apart (h, there, text, gain) =
      let both = neither (bytes_eq x g.value) (list_any (bytes_eq x) (texts gs)) apart in
      ⊎_elim
      (λ (same : g ≡ h). ap (bytes_eq x) (sym (ap (λ (e : CertEntry). e.value) same ∙ text)) ∙ both.0)
      (λ (later : Contains gs h). other_text x gs both.1 (h, later, text, gain))
      (contains_cases g gs h there)

  named_sought : (gs : List CertEntry) → are_distinct (texts gs) ≡ true → HasGain gs t z → gain_of gs t ≡ Some z
  named_sought [] apart (h, there, text, gain) = absurd (contains_none h there)
  named_sought (g ∷ gs) apart (h, there, text, gain) =
      let both = split_and (not (list_any (bytes_eq g.value) (texts gs))) (are_distinct (texts gs)) apart in
      ⊎_elim
      (λ (same : g ≡ h). ap pick ((bytes_eq-Decides g.value t).1 (ap (λ (e : CertEntry). e.value) same ∙ text))
      ∙ ap Some (ap (λ (e : CertEntry). e.gain) same ∙ gain))
      (λ (later : Contains gs h). ap pick (other_text g.value gs both.0 (h, later, text, gain)) ∙ named_sought gs both.1 (h, later, text, gain))
      (contains_cases g gs h there)
    where
      pick : Bool → Option ℤ
      pick b = if b then Some g.gain else gain_of gs t

-- ---- two rising lists with the same entries are the same

abbrev Rising : ℕ → List GainEntry → Type 0
Rising low es = Rises low (map (λ e. e.value) es)

from_there : (low : ℕ) (es : List GainEntry) → Rising low es → (x : GainEntry) → Contains es x → low ≤ x.value
from_there low es up x (k, within, is) = subst (λ (e : GainEntry). low ≤ e.value) is (from_low (λ (e : GainEntry). e.value) low es up k x within)

same_entries : (low high : ℕ) (es fs : List GainEntry) → Rising low es → Rising high fs → ((x : GainEntry) → Contains es x → Contains fs x)
    → ((x : GainEntry) → Contains fs x → Contains es x) → es ≡ fs
same_entries low high [] [] up over there back = refl
same_entries low high [] (f ∷ fs) up over there back = absurd (contains_none f (back f (contains_first f fs f refl)))
same_entries low high (e ∷ es) [] up over there back = absurd (contains_none e (there e (contains_first e es e refl)))
same_entries low high (e ∷ es) (f ∷ fs) up over there back =
    λ i. first i ∷ same_entries (e.value + 1) (f.value + 1) es fs up.1 over.1 (rest_there first) (rest_back first) i
  where
    after : (e : GainEntry) (es : List GainEntry) → Rising (e.value + 1) es → (x : GainEntry) → Contains es x → e.value < x.value
    after e es up x h = omega (arith, from_there (e.value + 1) es up x h)

    first : e ≡ f
    first =
        ⊎_elim
        (λ (same : f ≡ e). sym same)
        (λ (late : Contains fs e). ⊎_elim
        (λ (same : e ≡ f). same)
        (λ (late' : Contains es f). let below = after f fs over.1 e late in let above = after e es up.1 f late' in absurd (omega (arith, below, above)))
        (contains_cases e es f (back f (contains_first f fs f refl))))
        (contains_cases f fs e (there e (contains_first e es e refl)))

    rest_there : e ≡ f → (x : GainEntry) → Contains es x → Contains fs x
    rest_there same x h =
        ⊎_elim
        (λ (is : f ≡ x). let less = after e es up.1 x h in let value = ap (λ (e : GainEntry). e.value) (same ∙ is) in absurd (omega (arith, less, value)))
        (λ (late : Contains fs x). late)
        (contains_cases f fs x (there x (contains_later e es x h)))

    rest_back : e ≡ f → (x : GainEntry) → Contains fs x → Contains es x
    rest_back same x h =
        ⊎_elim
        (λ (is : e ≡ x). let less = after f fs over.1 x h in let value = ap (λ (e : GainEntry). e.value) (sym same ∙ is) in absurd (omega (arith, less, value)))
        (λ (late : Contains es x). late)
        (contains_cases e es x (back x (contains_later f fs x h)))

-- ---- actions and tables

module _ (target : List Item) where
  abbrev seek : CertAction → ℕ → Option ℤ
  seek named v = gain_of named.gains (target_value_text target v)

  action_made : (named : CertAction) → are_distinct (value_texts named) ≡ true → (a : Action) × IsNumbered target named a
  action_made named apart = by (found (seek named) 0 (length (target_values target)))
    where
      there : (e : GainEntry) → Sought (seek named) 0 (length (target_values target)) e → NamesGain target named e
      there e (from, to, is) = (omega (arith, to), sought_named (target_value_text target e.value) e.gain named.gains is)

      back : (e : GainEntry) → NamesGain target named e → Sought (seek named) 0 (length (target_values target)) e
      back e (to, has) = (omega arith, omega (arith, to), named_sought (target_value_text target e.value) e.gain named.gains apart has)

      by : Found (seek named) 0 (length (target_values target)) → (a : Action) × IsNumbered target named a
      by f = (
        record { name = named.name; gains = f.entries },
        record {
          name = refl;
          ascending = increasing 0 (map (λ e. e.value) f.entries) f.rising;
          gains = λ e. (
            λ h. named_by_pair target named e (there e ((f.all e).0 h)),
            λ h. (f.all e).1 (back e (named_by_entry target named e h)),
          );
        },
      )

  abbrev IsKnown : CertAction → Type 0
  IsKnown a = (list_all (is_value_text target) (value_texts a) ≡ true) × (are_distinct (value_texts a) ≡ true)

  actions_made : (ns : List CertAction) → All IsKnown ns → (made : List Action) × AllZip (IsNumbered target) ns made
  actions_made [] known = ([], tt)
  actions_made (n ∷ ns) known =
      let first = action_made n (All-head IsKnown n ns known).1 in
      let rest = actions_made ns (All-tail IsKnown n ns known) in
      (first.0 ∷ rest.0, (first.1, rest.1))

  pub table_made : (t : NamedTable) → NamesValues target t → (table : TableTree) × StandsFor target t table
  table_made t known =
      let made = actions_made t.actions known in
      (record { over = t.over; rest = t.rest; actions = made.0 }, record { over = refl; rest = refl; actions = made.1 })

  one_action : (named : CertAction) (a b : Action) → IsNumbered target named a → IsNumbered target named b → a ≡ b
  one_action named a b is was =
      let name : a.name ≡ b.name = is.name ∙ sym was.name in
      let gains : a.gains ≡ b.gains = same_entries 0 0 a.gains b.gains (rises (map (λ e. e.value) a.gains) is.ascending) (rises (map (λ e. e.value) b.gains) was.ascending)
      (λ x h. (was.gains x).1 ((is.gains x).0 h)) (λ x h. (is.gains x).1 ((was.gains x).0 h)) in
      λ i. record { name = name i; gains = gains i }

  one_list : (ns : List CertAction) (made others : List Action) → AllZip (IsNumbered target) ns made → AllZip (IsNumbered target) ns others → made ≡ others
  one_list [] [] [] all also = refl
  one_list [] [] (b ∷ others) all also = absurd also
  one_list [] (a ∷ made) others all also = absurd all
  one_list (n ∷ ns) [] others all also = absurd all
  one_list (n ∷ ns) (a ∷ made) [] all also = absurd also
  one_list (n ∷ ns) (a ∷ made) (b ∷ others) (is, all) (was, also) = λ i. one_action n a b is was i ∷ one_list ns made others all also i

  pub one_table : (t : NamedTable) (table other : TableTree) → StandsFor target t table → StandsFor target t other → table ≡ other
  one_table t table other is was =
      let over : table.over ≡ other.over = is.over ∙ sym was.over in
      let rest : table.rest ≡ other.rest = is.rest ∙ sym was.rest in
      let actions : table.actions ≡ other.actions = one_list t.actions table.actions other.actions is.actions was.actions in
      λ i. record { over = over i; rest = rest i; actions = actions i }

  some_made : (ns : List CertAction) (made : List Action) → AllZip (IsNumbered target) ns made → ns ≢ [] → made ≢ []
  some_made [] made all some = absurd (some refl)
  some_made (n ∷ ns) [] all some = absurd all
  some_made (n ∷ ns) (a ∷ made) all some = λ none. absurd (cc)

  -- it has an action where the other has
  pub table_acts : (t : NamedTable) (table : TableTree) → StandsFor target t table → t.actions ≢ [] → table.actions ≢ []
  table_acts t table is some = some_made t.actions table.actions is.actions some
