-- The entries of a map from names to what is known of them, as known variables.
use Rattle.std.proofs.Common.{◌≡◌, ℕ, zero, suc, Bool, true, false, cond, List, [], ◌∷◌, ◌++◌, map, length, ◌<◌, arith, position, slice_get, get_or, None, Some, String, string_bytes, refl, sym, ap, ◌∙◌, true≢false}
use Rattle.std.specs.Map.{keys_of, lookup}
use Rattle.std.specs.Option.{option_map}
use Rattle.std.specs.Str.{bytes_eq}
use Rattle.std.specs.String.{string_eq}
use Rattle.std.proofs.lemmas.List.{map-append}
use Rattle.std.proofs.lemmas.List.Elements.{All-nil, All-cons, All-head, All-tail}
use Rattle.std.proofs.lemmas.List.Quantifiers.{position-Some}
use Rattle.std.proofs.lemmas.Option.{slice_get-map, slice_get-get_or, get_or_from_slice_get}
use Rattle.std.proofs.lemmas.Slice.Eq.{bytes_eq-Decides}
use Rattle.std.proofs.lemmas.Bool.{false_from_ne_true}
use Rattle.indexmap.specs.IndexMap.{insert_entry}
use Rattle.kf_value.specs.Views.{kind_tree}
use Rattle.kf_check.specs.declared.names.Named.{Named}
use Rattle.kf_check.specs.Kinds.{Known}
use Rattle.kf_check.specs.Picks.{names_in, IsFound}
use Rattle.kf_check.proofs.Kinding.{IsVariable, place_first, slice_get-some}
use Rattle.kf_check.specs.Variables.{IsKnown, IsUnknown}

module _ {Z : Type 0} where
  abbrev pub known_by : String Z × Named → Known
  known_by e = record { name = string_bytes e.0; kind = kind_tree e.1.kind }

  abbrev pub known_as : List (String Z × Named) → List Known
  known_as es = map known_by es

  pub unknown_from_lookup : (n : List ℕ) (es : List (String Z × Named)) → lookup (λ k. bytes_eq n (string_bytes k)) es ≡ None → IsUnknown (known_as es) n
  unknown_from_lookup n [] h = All-nil (λ v. v.name ≡ n → ⊥)
  unknown_from_lookup n (e ∷ es) h = by (bytes_eq n (string_bytes e.0)) refl h (unknown_from_lookup n es)
    where
      by : (b : Bool) → bytes_eq n (string_bytes e.0) ≡ b → cond b (Some e.1) (lookup (λ k. bytes_eq n (string_bytes k)) es) ≡ None
          → (lookup (λ k. bytes_eq n (string_bytes k)) es ≡ None → IsUnknown (known_as es) n) → IsUnknown (known_as (e ∷ es)) n
      by true is none rest = (cc)
      by false is none rest =
          All-cons (λ v. v.name ≡ n → ⊥) (known_by e) (known_as es)
          (λ same. true≢false (sym ((bytes_eq-Decides n (string_bytes e.0)).1 (sym same)) ∙ is)) (rest none)

  known_from_entry : (n : List ℕ) (es : List (String Z × Named)) (i : ℕ) (key : String Z) (named : Named) → slice_get es i ≡ Some (key, named)
      → Some i ≡ position (λ k. bytes_eq n (string_bytes k)) (keys_of es) → IsKnown (known_as es) n i (kind_tree named.kind)
  known_from_entry n es i key named at found =
      let passes = (position-Some (λ k. bytes_eq n (string_bytes k)) (keys_of es) i key (sym found)).1 in
      let here : get_or (keys_of es) i key ≡ key = get_or_from_slice_get (keys_of es) i key key (slice_get-map (λ e. e.0) es i ∙ ap (λ o. option_map (λ e. e.0) o) at) in
      let same : n ≡ string_bytes key = (bytes_eq-Decides n (string_bytes key)).0 (ap (λ k. bytes_eq n (string_bytes k)) (sym here) ∙ passes) in
      slice_get-map known_by es i ∙ (ap (λ o. option_map known_by o) at ∙ ap (λ m. Some (record { name = m; kind = kind_tree named.kind })) (sym same))

  names_keys : (es : List (String Z × Named)) → names_in (known_as es) ≡ map string_bytes (keys_of es)
  names_keys [] = refl
  names_keys (e ∷ es) = ap (λ ns. string_bytes e.0 ∷ ns) (names_keys es)

  pub found_from_entry : (n : List ℕ) (es : List (String Z × Named)) (i : ℕ) (key : String Z) (named : Named) → slice_get es i ≡ Some (key, named)
      → Some i ≡ position (λ k. bytes_eq n (string_bytes k)) (keys_of es) → IsFound (known_as es) n i (kind_tree named.kind)
  found_from_entry n es i key named at found =
      let known = known_from_entry n es i key named at found in
      let first = position-Some (λ k. bytes_eq n (string_bytes k)) (keys_of es) i key (sym found) in
      (known, place_first (names_in (known_as es)) n i (slice_get-some (λ v. v.name) (known_as es) i (record { name = n; kind = kind_tree named.kind }) known) (λ k low here. earlier k first.0 low (first.2 k low) here))
    where
      earlier : (k : ℕ) → i < length (keys_of es) → k < i → bytes_eq n (string_bytes (get_or (keys_of es) k key)) ≡ false → IsVariable (names_in (known_as es)) n k → ⊥
      earlier k within low fails here =
          let read : slice_get (keys_of es) k ≡ Some (get_or (keys_of es) k key) = slice_get-get_or (keys_of es) k key (omega arith) in
          let there : slice_get (names_in (known_as es)) k ≡ Some (string_bytes (get_or (keys_of es) k key)) = ap (λ ns. slice_get ns k) (names_keys es) ∙ slice_get-map string_bytes (keys_of es) k ∙ ap (option_map string_bytes) read in
          let both : Some n ≡ Some (string_bytes (get_or (keys_of es) k key)) = sym here ∙ there in
          let same : n ≡ string_bytes (get_or (keys_of es) k key) = cc in
          true≢false (sym ((bytes_eq-Decides n (string_bytes (get_or (keys_of es) k key))).1 same) ∙ fails)

  -- an entry of a new name stands behind the others
  entry_behind : (key : String Z) (named : Named) (es : List (String Z × Named)) → IsUnknown (known_as es) (string_bytes key)
      → insert_entry string_eq es key named ≡ es ++ (key, named) ∷ []
  entry_behind key named [] h = refl
  entry_behind key named (e ∷ es) h =
      let other = All-head (λ v. v.name ≡ string_bytes key → ⊥) (known_by e) (known_as es) h in
      let new : string_eq key e.0 ≡ false = false_from_ne_true (string_eq key e.0) (λ same. other (sym ((bytes_eq-Decides (string_bytes key) (string_bytes e.0)).0 same))) in
      ap (λ b. cond b ((e.0, named) ∷ es) (e ∷ insert_entry string_eq es key named)) new
      ∙ ap (λ es. e ∷ es) (entry_behind key named es (All-tail (λ v. v.name ≡ string_bytes key → ⊥) (known_by e) (known_as es) h))

  module _ (n : List ℕ) (key : String Z) (named : Named) (es after : List (String Z × Named)) (reads : string_bytes key ≡ n) (h : IsUnknown (known_as es) n) (is : after ≡ insert_entry string_eq es key named) where
    entries : after ≡ es ++ (key, named) ∷ []
    entries =
        let fresh : IsUnknown (known_as es) (string_bytes key) = rw reads h in
        is ∙ entry_behind key named es fresh

    pub known_behind : known_as after ≡ known_as es ++ record { name = n; kind = kind_tree named.kind } ∷ []
    known_behind = ap known_as entries ∙ (map-append known_by es ((key, named) ∷ []) ∙ ap (λ m. known_as es ++ record { name = m; kind = kind_tree named.kind } ∷ []) reads)

    pub flag_behind : map (λ e. e.1.visible) after ≡ map (λ e. e.1.visible) es ++ named.visible ∷ []
    flag_behind = ap (map (λ e. e.1.visible)) entries ∙ map-append (λ e. e.1.visible) es ((key, named) ∷ [])

-- what is read of the list of flags
pub flag_here : {A : Type 0} (f : A → Bool) (es : List A) (i : ℕ) (e : A) → slice_get es i ≡ Some e → f e ≡ get_or (map f es) i false
flag_here f es i e there = sym (get_or_from_slice_get (map f es) i (f e) false (slice_get-map f es i ∙ ap (option_map f) there))

pub no_flag : {A : Type 0} (f : A → Bool) (es : List A) (i : ℕ) → slice_get es i ≡ None → false ≡ get_or (map f es) i false
no_flag f [] i past = refl
no_flag f (e ∷ es) zero past = absurd (cc)
no_flag f (e ∷ es) (suc i) past = no_flag f es i past
