-- Bytes have one answer at most as a gain table.
use Rattle.std.proofs.Common.{◌≡◌, ◌<◌, zero, suc, List, [], ◌∷◌, map, Contains, Option, None, Some, Ok, Err, Result, unsigned_abs, nat_cmp, refl, sym, ap, ◌∙◌, arith, ⊎_elim}
use Rattle.std.specs.List.{AllZip}
use Rattle.std.specs.List.Sorted.{IsStrictlySortedBy}
use Rattle.std.proofs.lemmas.List.{length-map, get_or-map}
use Rattle.std.proofs.lemmas.Map.Keys.{sorted_from_strictly_increasing, below_from_sorted, sorted_tail}
use Rattle.serde_json.specs.Data.{Data}
use Rattle.kf_value.specs.Targets.{Item}
use Rattle.kf_gain.specs.declared.table.Action.{Action}
use Rattle.kf_gain.specs.declared.table.GainEntry.{GainEntry}
use Rattle.kf_gain.specs.declared.error.TableError.{TableError}
use Rattle.kf_gain.specs.Gains.{TableTree}
use Rattle.kf_json.specs.Json.{json_of, members}
use Rattle.kf_gain.specs.Tables.{actions_at, IsTableOf}
use Rattle.kf_gain.specs.Reading.{IsActionIn, IsAnswerFor}
use Rattle.kf_gain.specs.Forms.{fault_in}
use Rattle.kf_gain.specs.TableLaws.{OneTable}
use Rattle.kf_gain.proofs.Entries.{contains_cases, contains_first, contains_later, contains_none}
use Rattle.kf_gain.proofs.Judging.{judged}

abbrev Rising : List GainEntry → Type 0
Rising es = IsStrictlySortedBy nat_cmp (map (λ e. e.value) es)

-- what follows in a rising list is greater
after_first : (e : GainEntry) (es : List GainEntry) → Rising (e ∷ es) → (x : GainEntry) → Contains es x → e.value < x.value
after_first e es up x (k, within, is) =
    let place = get_or-map (λ (e : GainEntry). e.value) es k x 0 within in
    let less = below_from_sorted (map (λ e. e.value) (e ∷ es)) zero (suc k) 0 up (omega arith) (omega (arith, length-map es (λ e. e.value))) in
    let value = ap (λ (e : GainEntry). e.value) is in
    omega (arith, place, less, value)

rising_rest : (e : GainEntry) (es : List GainEntry) → Rising (e ∷ es) → Rising es
rising_rest e es up = sorted_tail nat_cmp e.value (map (λ e. e.value) es) up

-- two rising lists with the same entries are the same
same_entries : (es fs : List GainEntry) → Rising es → Rising fs → ((x : GainEntry) → Contains es x → Contains fs x) → ((x : GainEntry) → Contains fs x → Contains es x) → es ≡ fs
same_entries [] [] up over there back = refl
same_entries [] (f ∷ fs) up over there back = absurd (contains_none f (back f (contains_first f fs f refl)))
same_entries (e ∷ es) [] up over there back = absurd (contains_none e (there e (contains_first e es e refl)))
same_entries (e ∷ es) (f ∷ fs) up over there back =
    λ i. first i ∷ same_entries es fs (rising_rest e es up) (rising_rest f fs over) (rest_there first) (rest_back first) i
  where
    first : e ≡ f
    first =
        ⊎_elim
        (λ (same : f ≡ e). sym same)
        (λ (late : Contains fs e). ⊎_elim
        (λ (same : e ≡ f). same)
        (λ (late' : Contains es f). let below = after_first f fs over e late in let above = after_first e es up f late' in absurd (omega (arith, below, above)))
        (contains_cases e es f (back f (contains_first f fs f refl))))
        (contains_cases f fs e (there e (contains_first e es e refl)))

    rest_there : e ≡ f → (x : GainEntry) → Contains es x → Contains fs x
    rest_there same x h =
        ⊎_elim
        (λ (is : f ≡ x). let less = after_first e es up x h in let value = ap (λ (e : GainEntry). e.value) (same ∙ is) in absurd (omega (arith, less, value)))
        (λ (late : Contains fs x). late)
        (contains_cases f fs x (there x (contains_later e es x h)))

    rest_back : e ≡ f → (x : GainEntry) → Contains fs x → Contains es x
    rest_back same x h =
        ⊎_elim
        (λ (is : e ≡ x). let less = after_first f fs over x h in let value = ap (λ (e : GainEntry). e.value) (sym same ∙ is) in absurd (omega (arith, less, value)))
        (λ (late : Contains es x). late)
        (contains_cases e es x (back x (contains_later f fs x h)))

module _ (items : List Item) where
  one_action : (d : Data) (a b : Action) → IsActionIn items d a → IsActionIn items d b → a ≡ b
  one_action d a b is was =
      let name : a.name ≡ b.name = is.name ∙ sym was.name in
      let gains : a.gains ≡ b.gains = same_entries a.gains b.gains (sorted_from_strictly_increasing (map (λ e. e.value) a.gains) is.ascending) (sorted_from_strictly_increasing (map (λ e. e.value) b.gains) was.ascending)
      (λ x h. (was.gains x).1 ((is.gains x).0 h)) (λ x h. (is.gains x).1 ((was.gains x).0 h)) in
      λ i. record { name = name i; gains = gains i }

  one_list : (ds : List Data) (made others : List Action) → AllZip (IsActionIn items) ds made → AllZip (IsActionIn items) ds others → made ≡ others
  one_list [] [] [] all also = refl
  one_list [] [] (b ∷ others) all also = absurd also
  one_list [] (a ∷ made) others all also = absurd all
  one_list (d ∷ ds) [] others all also = absurd all
  one_list (d ∷ ds) (a ∷ made) [] all also = absurd also
  one_list (d ∷ ds) (a ∷ made) (b ∷ others) (is, all) (was, also) = λ i. one_action d a b is was i ∷ one_list ds made others all also i

  one_told : (d : Data) (t u : TableTree) → IsTableOf items d t → IsTableOf items d u → t ≡ u
  one_told d t u is was =
      let over : t.over ≡ u.over = ap unsigned_abs (is.over ∙ sym was.over) in
      let rest : t.rest ≡ u.rest = is.rest ∙ sym was.rest in
      let actions : t.actions ≡ u.actions = one_list (members (actions_at d)) t.actions u.actions is.actions was.actions in
      λ i. record { over = over i; rest = rest i; actions = actions i }

  one_answer : (d : Data) (f : Option TableError) (r s : Result TableTree TableError) → IsAnswerFor items d f r → IsAnswerFor items d f s → r ≡ s
  one_answer d (Some e) r s is was = is ∙ sym was
  one_answer d None (Ok t) (Ok u) is was = ap Ok (one_told d t u is was)
  one_answer d None (Ok t) (Err e) is was = absurd was
  one_answer d None (Err e) s is was = absurd is

  one_judged : (r s : Result TableTree TableError) (found : Option Data) → judged items r found → judged items s found → r ≡ s
  one_judged r s None is was = is ∙ sym was
  one_judged r s (Some d) is was = one_answer d (fault_in items d) r s is was

pub one_table : OneTable
one_table items bytes r s is was = one_judged items r s (json_of bytes) is was
