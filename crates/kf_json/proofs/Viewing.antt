-- The values of Rust beside the data that they stand for.
use Rattle.std.proofs.Common.{◌≡◌, List, [], ◌∷◌, map, Option, Some, None, ℕ, Bool, true, false, ◌&&◌, ◌==◌, if◌then◌else◌, is_some, length, String, Result, Ok, Err, Bor, unwrap_or, option_map, refl, sym, ap, ◌∙◌}
use Rattle.std.specs.Fn.{Called}
use Rattle.std.specs.Iterator.{YieldsThen}
use Rattle.std.specs.List.{FoldsTo, list_all}
use Rattle.std.specs.Prelude.{MatchOption, IfOk}
use Rattle.std.proofs.lemmas.Iterator.{YieldsList}
use Rattle.std.proofs.lemmas.Iterator.Search.{all_from_yields_List}
use Rattle.std.proofs.lemmas.List.Folds.{list_all-map}
use denote.Param.Members.{Mut}
use Rattle.serde_json.specs.Data.{Data, Items, null}
use Rattle.serde_json.specs.Find.{get, at, as_array, as_object}
use Rattle.serde_json.specs.View.{view, items_of, items_view, members_view}
use Rattle.serde_json.specs.declared.value.Value.{Value}
use Rattle.serde_json.specs.Read.{read}
use Rattle.serde_json.specs.Events.{members_len}
use Rattle.serde_json.proofs.Views.{members_len-members_view}
use Rattle.std.proofs.lemmas.List.{length-map}
use Rattle.std.specs.Str.{is_utf8, IsUtf8}
use Rattle.std.proofs.lemmas.Str.{IsUtf8-from_is_utf8, is_utf8-from_IsUtf8}
use Rattle.std.specs.declared.alloc.Global.{Global}
use Rattle.kf_json.specs.Json.{at_key, at_place, listed, members, json_of, has_keys}
use Rattle.kf_json.specs.Seen.{seen}

listed_items : (ds : List Data) → listed (items_of ds) ≡ ds
listed_items [] = refl
listed_items (d ∷ ds) = ap (λ es. d ∷ es) (listed_items ds)

abbrev listed_in : Option Items → List Data
listed_in found = elim found [ None ↦ [] | Some ds ↦ listed ds ]

pub members_listed : (d : Data) (vs : List Value) → Some (items_view vs) ≡ as_array d → map view vs ≡ members d
members_listed d vs is = sym (listed_items (map view vs)) ∙ ap listed_in is

-- what `all` answers, where its closure tests what its argument stands for
pub all_seen : {S A B D F : Type 0} {steps : S → Option A → S → Type 0} {v : A → B} {g : Mut F (A × Unit {0}) Bool} {s : S} (seen : B → D) (test : D → Bool) (u : S) (f : F) (r : Bool) (xs : List B) (ds : List D)
    → (bs : List A) × (o : Option A) × (j : F) × YieldsThen steps s bs o u × FoldsTo (λ p x q. Called g p (x, tt) true q) f bs j × MatchOption o (r ≡ true) (λ x. (r ≡ false) × ((h : F) × Called g j (x, tt) false h))
    → YieldsList steps v s xs → map seen xs ≡ ds → ((x : A) (b : Bool) (q : F) → Called g f (x, tt) b q → (q ≡ f) × (b ≡ test (seen (v x)))) → r ≡ list_all test ds
all_seen seen test u f r xs ds ran yields is says =
    all_from_yields_List (λ x. test (seen x)) u f r ran yields says ∙ sym (list_all-map test seen xs) ∙ ap (list_all test) is

pub both : (a b r : Bool) → a ≡ true → r ≡ b → r ≡ (a && b)
both a b r first is = is ∙ sym (ap (λ x. x && b) first)

pub none_and : (a b : Bool) → a ≡ false → false ≡ (a && b)
none_and a b none = sym (ap (λ x. x && b) none)

pub if_ok_both : {E : Type 0} (r : Result Bool E) (a b : Bool) → a ≡ true → IfOk r (λ x. x ≡ b) → IfOk r (λ x. x ≡ (a && b))
if_ok_both (Ok x) a b first is = both a b x first is
if_ok_both (Err e) a b first is = is

-- what a look-up found is what stands there
pub seen_at : (k : List ℕ) (d : Data) (found : Option (Bor Value)) → option_map (λ v. view v.now) found ≡ get k d → seen found ≡ at_key k d
seen_at k d found is = ap (λ o. unwrap_or o null) is

pub place_at : (n : ℕ) (d : Data) (found : Option (Bor Value)) → option_map (λ v. view v.now) found ≡ at n d → seen found ≡ at_place n d
place_at n d found is = ap (λ o. unwrap_or o null) is

-- what `Value::from_slice` read, and what it refused
pub json_read : (bytes : List ℕ) (d : Data) → IsUtf8 bytes → read bytes ≡ Some d → json_of bytes ≡ Some d
json_read bytes d utf8 is = rw (is_utf8-from_IsUtf8 bytes utf8) is

pub json_refused : (bytes : List ℕ) → (IsUtf8 bytes → read bytes ≡ None) → json_of bytes ≡ None
json_refused bytes none = by_test (is_utf8 bytes) refl
  where
    by_test : (b : Bool) → is_utf8 bytes ≡ b → (if b then read bytes else None) ≡ None
    by_test true is = none (IsUtf8-from_is_utf8 bytes is)
    by_test false is = refl

-- an object's keys, as `has_keys` counts and finds them
module _ (keys : List (Bor (List ℕ))) (d : Data) (entries : List (String Global × Value)) (n : ℕ) (found : Some (members_view entries) ≡ as_object d) (counted : n ≡ length entries) where
  abbrev names : List (List ℕ)
  names = map (λ k. k.now) keys

  abbrev all_found : Bool
  all_found = list_all (λ k. is_some (get k d)) names

  same_count : (members_len (members_view entries) == length names) ≡ (n == length keys)
  same_count = ap (λ m. m == length names) (members_len-members_view entries ∙ sym counted) ∙ ap (λ m. n == m) (length-map keys (λ k. k.now))

  has_keys_counted : has_keys names d ≡ ((n == length keys) && all_found)
  has_keys_counted =
      sym (ap (λ o. elim o [ None ↦ false | Some ms ↦ (members_len ms == length names) && all_found ]) found) ∙ ap (λ b. b && all_found) same_count

  pub has_keys_found : (r : Bool) → (n == length keys) ≡ true → r ≡ all_found → r ≡ has_keys names d
  has_keys_found r many is = is ∙ sym (has_keys_counted ∙ ap (λ b. b && all_found) many)

  pub has_keys_many : (n == length keys) ≡ false → (n == length keys) ≡ has_keys names d
  has_keys_many other = other ∙ sym (has_keys_counted ∙ ap (λ b. b && all_found) other)
