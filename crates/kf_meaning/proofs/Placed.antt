-- The place of a trace among a channel's secrets is that of the secret whose values it shows.
use Rattle.std.proofs.Common.{◌≡◌, ℕ, zero, suc, true, List, [], ◌∷◌, map, Option, Some, None, refl, sym, ap, subst, ◌∙◌, slice_get, slice_index}
use Rattle.std.specs.Prelude.{if◌then◌else◌, is_some, unwrap_or, option_map}
use Rattle.std.specs.List.{list_all}
use Rattle.std.specs.Ordering.{is_eq}
use Rattle.std.specs.declared.cmp.Ordering.{Ordering}
use Rattle.std.specs.declared.cmp.Ordering.TheVariants.{Less, Equal, Greater}
use Rattle.kf_value.specs.Values.{ValueTree, Truth, Whole, Tuple, Set, parts, parts_list}
use Rattle.kf_value.proofs.Orders.{same}
use Rattle.kf_column.specs.Traces.{Row, trace_order}
use Rattle.kf_core.proofs.OneTable.{as_tuples, listed_parts}
use Rattle.kf_capacity.specs.Compositions.{place_of, secret_values}
use Rattle.kf_meaning.specs.Channels.{PlacesShowSecrets}

inside : ValueTree → List ValueTree
inside (Tuple vs) = parts_list vs
inside (Truth b) = []
inside (Whole i) = []
inside (Set vs) = []

same_traces : (t u : List ValueTree) → trace_order t u ≡ Equal → t ≡ u
unfolding inside
same_traces t u h = sym (listed_parts t) ∙ ap inside (same (Tuple (parts t)) (Tuple (parts u)) (as_tuples t u ∙ h)) ∙ listed_parts u

module _ (vs : List ValueTree) where
  placed_by : (ws : List ValueTree) (lists : List (List ValueTree)) (n : ℕ) (o : Ordering) (q : Option ℕ) → trace_order ws vs ≡ o → place_of lists vs ≡ q
      → (if is_eq o then Some 0 else option_map (λ m. suc m) q) ≡ Some n → ((m : ℕ) → place_of lists vs ≡ Some m → slice_get lists m ≡ Some vs)
      → slice_get (ws ∷ lists) n ≡ Some vs
  placed_by ws lists n Equal q order was is later =
      let e : 0 ≡ n = (cc) in subst (λ k. slice_get (ws ∷ lists) k ≡ Some vs) e (ap (λ us. Some us) (same_traces ws vs order))
  placed_by ws lists n Less None order was is later = absurd (cc)
  placed_by ws lists n Less (Some m) order was is later =
      let e : suc m ≡ n = (cc) in subst (λ k. slice_get (ws ∷ lists) k ≡ Some vs) e (later m was)
  placed_by ws lists n Greater None order was is later = absurd (cc)
  placed_by ws lists n Greater (Some m) order was is later =
      let e : suc m ≡ n = (cc) in subst (λ k. slice_get (ws ∷ lists) k ≡ Some vs) e (later m was)

  placed : (lists : List (List ValueTree)) (n : ℕ) → place_of lists vs ≡ Some n → slice_get lists n ≡ Some vs
  placed [] n is = absurd (cc)
  placed (ws ∷ lists) n is = placed_by ws lists n (trace_order ws vs) (place_of lists vs) refl refl is (placed lists)

first_fits : (q : Option ℕ) (qs : List (Option ℕ)) → list_all is_some (q ∷ qs) ≡ true → (n : ℕ) × (q ≡ Some n) × (list_all is_some qs ≡ true)
first_fits None qs h = absurd (cc)
first_fits (Some n) qs h = (n, refl, h)

module _ (lists : List (List ValueTree)) where
  abbrev place : Row → Option ℕ
  place r = place_of lists r.trace

  named : (rows : List Row) (j : ℕ) (row : Row) → list_all is_some (map place rows) ≡ true → slice_get rows j ≡ Some row
      → slice_get lists (slice_index (map (λ q. unwrap_or q 0) (map place rows)) j) ≡ Some row.trace
  named [] j row fit is = absurd (cc)
  named (r ∷ rows) zero row fit is =
      let s = first_fits (place r) (map place rows) fit in
      let e : r ≡ row = (cc) in
      ap (λ q. slice_get lists (unwrap_or q 0)) s.1 ∙ placed r.trace lists s.0 s.1 ∙ ap (λ (x : Row). Some x.trace) e
  named (r ∷ rows) (suc j) row fit is = let s = first_fits (place r) (map place rows) fit in named rows j row s.2 is

pub places_show_secrets : PlacesShowSecrets
places_show_secrets c d j row fit is = named (secret_values d) c.rows j row fit is
