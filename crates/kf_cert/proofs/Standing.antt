-- The gain table that a named one stands for, and that it stands for no other.
use Rattle.std.proofs.Common.{◌≡◌, ◌≢◌, ◌<◌, ◌≤◌, ◌*◌, ℕ, ℤ, List, [], ◌∷◌, map, max, All, Contains, inl, inr, unsigned_abs, refl, sym, ap, ◌∙◌, subst, arith, ⊎_elim}
use Rattle.std.specs.Prelude.{flat_map}
use Rattle.std.specs.Ordering.{nat_cmp}
use Rattle.std.specs.declared.cmp.Ordering.TheVariants.{Less}
use Rattle.std.specs.List.{AllZip, AllByRecursion}
use Rattle.std.specs.List.Sorted.{IsStrictlyIncreasing, IsStrictlySortedBy}
use Rattle.std.proofs.lemmas.Bool.Decides.{nat_tests}
use Rattle.std.proofs.lemmas.List.Elements.{All-nil, All-cons, All-head, All-tail}
use Rattle.std.proofs.lemmas.Map.Keys.{sorted_from_strictly_increasing}
use Rattle.kf_frac.specs.Fractions.{limit}
use Rattle.kf_gain.specs.declared.table.Action.{Action}
use Rattle.kf_gain.specs.declared.table.GainEntry.{GainEntry}
use Rattle.kf_gain.specs.Gains.{TableTree}
use Rattle.kf_gain.specs.Shapes.{IsTableShape}
use Rattle.kf_gain.specs.Vulnerabilities.{greatest}
use Rattle.kf_gain.proofs.Entries.{contains_cases, contains_first, contains_later, contains_none}
use Rattle.kf_column.proofs.AtMostOne.{In, Ordered, same_lists}
use Rattle.kf_value.specs.Targets.{Item}
use Rattle.kf_cert.specs.declared.cert.CertAction.{CertAction}
use Rattle.kf_cert.specs.Certificates.{NamedTable}
use Rattle.kf_cert.specs.Marks.{StandsFor, NamesValues, width}
use Rattle.kf_cert.specs.Naming.{IsMade, IsNumbered, NamesOnce, table_width}
use Rattle.kf_cert.specs.Views.{IsSoundTable}
use Rattle.kf_cert.proofs.Greatest.{greatest_made, all_within, bounded_all}

-- ---- ascending entries are known by their members

abbrev Before : GainEntry → GainEntry → Type 0
Before e f = e.value < f.value

not_both : (e f : GainEntry) → Before e f → Before f e → ⊥
not_both e f p q = absurd (omega (arith, p, q))

contained : {X : Type 0} (x : X) (xs : List X) → In x xs → Contains xs x
contained x [] here = absurd here
contained x (y ∷ ys) here = ⊎_elim (λ (e : x ≡ y). contains_first y ys x (sym e)) (λ (h : In x ys). contains_later y ys x (contained x ys h)) here

among : {X : Type 0} (x : X) (xs : List X) → Contains xs x → In x xs
among x [] here = absurd (contains_none x here)
among x (y ∷ ys) here = ⊎_elim (λ (e : y ≡ x). inl (sym e)) (λ (h : Contains ys x). inr (among x ys h)) (contains_cases y ys x here)

nat_less : (x y : ℕ) → nat_cmp x y ≡ Less → x < y
nat_less x y e = grind (arith, nat_tests)

later : (v : ℕ) (es : List GainEntry) → AllByRecursion (λ (m : ℕ). nat_cmp v m ≡ Less) (map (λ e. e.value) es) → (f : GainEntry) → In f es → v < f.value
later v [] all f here = absurd here
later v (e ∷ es) all f here = ⊎_elim (λ (same : f ≡ e). subst (λ (f : GainEntry). v < f.value) (sym same) (nat_less v e.value all.0)) (λ (h : In f es). later v es all.1 f h) here

ordered : (es : List GainEntry) → IsStrictlySortedBy nat_cmp (map (λ e. e.value) es) → Ordered Before not_both es
unfolding IsStrictlySortedBy
ordered [] sorted = tt
ordered (e ∷ es) sorted = (later e.value es sorted.0, ordered es sorted.1)

same_entries : (es fs : List GainEntry) → IsStrictlyIncreasing (map (λ e. e.value) es) → IsStrictlyIncreasing (map (λ e. e.value) fs)
    → ((e : GainEntry) → Contains es e → Contains fs e) → ((e : GainEntry) → Contains fs e → Contains es e) → es ≡ fs
same_entries es fs up over there back =
    same_lists Before not_both es fs (ordered es (sorted_from_strictly_increasing (map (λ e. e.value) es) up)) (ordered fs (sorted_from_strictly_increasing (map (λ e. e.value) fs) over))
    (λ e h. among e fs (there e (contained e es h))) (λ e h. among e es (back e (contained e fs h)))

-- ---- one table

module _ (target : List Item) where
  one_action : (named : CertAction) (a b : Action) → IsNumbered target named a → IsNumbered target named b → a ≡ b
  one_action named a b is was =
      let name : a.name ≡ b.name = is.name ∙ sym was.name in
      let gains : a.gains ≡ b.gains =
      same_entries a.gains b.gains is.ascending was.ascending (λ e h. (was.gains e).1 ((is.gains e).0 h)) (λ e h. (is.gains e).1 ((was.gains e).0 h)) in
      λ i. record { name = name i; gains = gains i }

  one_list : (named : List CertAction) (made others : List Action) → AllZip (IsNumbered target) named made → AllZip (IsNumbered target) named others → made ≡ others
  one_list [] [] [] all also = refl
  one_list [] [] (b ∷ others) all also = absurd also
  one_list [] (a ∷ made) others all also = absurd all
  one_list (n ∷ named) [] others all also = absurd all
  one_list (n ∷ named) (a ∷ made) [] all also = absurd also
  one_list (n ∷ named) (a ∷ made) (b ∷ others) (is, all) (was, also) = λ i. one_action n a b is was i ∷ one_list named made others all also i

  pub one_table : (t : NamedTable) (x y : TableTree) → StandsFor target t x → StandsFor target t y → x ≡ y
  one_table t x y is was =
      let over : x.over ≡ y.over = is.over ∙ sym was.over in
      let rest : x.rest ≡ y.rest = is.rest ∙ sym was.rest in
      let actions : x.actions ≡ y.actions = one_list t.actions x.actions y.actions is.actions was.actions in
      λ i. record { over = over i; rest = rest i; actions = actions i }

  -- ---- the table that is made

  numbered_all : (named : List CertAction) (made : List Action) → AllZip (IsMade target) named made → AllZip (IsNumbered target) named made
  numbered_all [] [] all = tt
  numbered_all [] (a ∷ made) all = absurd all
  numbered_all (n ∷ named) [] all = absurd all
  numbered_all (n ∷ named) (a ∷ made) (is, all) = (is.numbered, numbered_all named made all)

  once_all : (named : List CertAction) (made : List Action) → AllZip (IsMade target) named made → All (NamesOnce target) named
  once_all [] [] all = All-nil (NamesOnce target)
  once_all [] (a ∷ made) all = absurd all
  once_all (n ∷ named) [] all = absurd all
  once_all (n ∷ named) (a ∷ made) (is, all) = All-cons (NamesOnce target) n named is.once (once_all named made all)

  ascending_all : (named : List CertAction) (made : List Action) → AllZip (IsMade target) named made → All (λ (a : Action). IsStrictlyIncreasing (map (λ e. e.value) a.gains)) made
  ascending_all [] [] all = All-nil (λ (a : Action). IsStrictlyIncreasing (map (λ e. e.value) a.gains))
  ascending_all [] (a ∷ made) all = absurd all
  ascending_all (n ∷ named) [] all = absurd all
  ascending_all (n ∷ named) (a ∷ made) (is, all) =
      All-cons (λ (a : Action). IsStrictlyIncreasing (map (λ e. e.value) a.gains)) a made is.numbered.ascending (ascending_all named made all)

  some_made : (named : List CertAction) (made : List Action) → AllZip (IsMade target) named made → named ≢ [] → made ≢ []
  some_made [] made all some = absurd (some refl)
  some_made (n ∷ named) [] all some = absurd all
  some_made (n ∷ named) (a ∷ made) all some = λ none. absurd (cc)

  module _ (t : NamedTable) (made : List Action) (all : AllZip (IsMade target) t.actions made) where
    abbrev pub table_of : TableTree
    table_of = record { over = t.over; rest = t.rest; actions = made }

    pub stands : StandsFor target t table_of
    stands = record { over = refl; rest = refl; actions = numbered_all t.actions made all }

    pub names_values : NamesValues target t
    names_values = once_all t.actions made all

    pub same_width : table_width table_of ≡ width t
    same_width = ap (λ (n : ℕ). max t.over (2 * max (unsigned_abs t.rest) n)) (greatest_made target t.actions made all)

    pub table_shaped : IsSoundTable t → IsTableShape table_of
    table_shaped sound = record {
      positive = sound.positive;
      narrow = sound.narrow;
      some = some_made t.actions made all sound.some;
      ascending = ascending_all t.actions made all;
      within =
          let named : List ℤ = flat_map (λ a. map (λ e. e.gain) a.gains) t.actions in
          let small : greatest named ≤ limit = bounded_all named limit (All-tail (λ z. unsigned_abs z ≤ limit) t.rest named sound.within) in
          All-cons (λ z. unsigned_abs z ≤ limit) t.rest (flat_map (λ a. map (λ e. e.gain) a.gains) made) (All-head (λ z. unsigned_abs z ≤ limit) t.rest named sound.within)
          (all_within (flat_map (λ a. map (λ e. e.gain) a.gains) made) limit (subst (λ (n : ℕ). n ≤ limit) (sym (greatest_made target t.actions made all)) small));
    }
