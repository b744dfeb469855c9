-- The secrets of a table's channel are the values of the table's average.
use Rattle.std.proofs.Common.{◌≡◌, ℕ, ◌<◌, List, [], ◌∷◌, Contains, map, refl, sym, ◌∙◌, ap, subst, arith, length, get_or, suc, ⊎_elim}
use Rattle.std.proofs.lemmas.Bool.{cases_eq}
use Rattle.std.proofs.lemmas.List.{get_or-map, length-map}
use Rattle.std.proofs.lemmas.List.Folds.{list_all-map}
use Rattle.std.specs.List.{list_all}
use Rattle.std.specs.List.Sorted.{IsStrictlySortedBy}
use Rattle.kf_value.specs.declared.target_item.TargetItem.{TargetItem}
use Rattle.kf_value.specs.Targets.{Item}
use Rattle.kf_value.specs.TypeViews.{item_of}
use Rattle.kf_column.specs.declared.entry.Entry.{Entry}
use Rattle.kf_column.specs.Columns.{IsColumn, weight_at, total, values}
use Rattle.kf_column.specs.Shapes.{IsBelow}
use Rattle.kf_column.specs.Traces.{Row, trace_order, value_weight}
use Rattle.kf_hyper.specs.Tables.{IsTable}
use Rattle.kf_hyper.proofs.Searching.{weight_found}
use Rattle.kf_column.proofs.Weights.{weight_at_other}
use Rattle.kf_channel.specs.Channels.{AreSecrets}
use Rattle.kf_channel.specs.Shapes.{IsChannel}

-- a value with a weight is one that the column names
pub named : (es : List Entry) (x : ℕ) → 0 < weight_at es x → Contains (values es) x
named [] x some = absurd (omega arith)
named (e ∷ es) x some =
    ⊎_elim
    (λ (h : e.value ≡ x). (0, omega arith, h))
    (λ (h : e.value ≡ x → ⊥). later e es x (named es x (omega (arith, some, weight_at_other e es x h))))
    (cases_eq e.value x)
  where
    later : (e : Entry) (es : List Entry) (x : ℕ) → Contains (values es) x → Contains (values (e ∷ es)) x
    later e es x (k, within, is) = (suc k, omega arith, is)

-- each entry of a column has a weight
entry_weighs : (es : List Entry) (k : ℕ) (d : Entry) → IsColumn es → k < length es → 0 < weight_at es (get_or es k d).value
entry_weighs es k d is within = omega (arith, weight_found es (get_or es k d).value k d is within refl, is.positive k d within)

pub weighs : (es : List Entry) (x : ℕ) → IsColumn es → Contains (values es) x → 0 < weight_at es x
weighs es x is (k, within, at) =
    let d : Entry = record { value = x; weight = 0 } in
    let inside : k < length es = simp length-map at within in
    let here : (get_or es k d).value ≡ x = sym (get_or-map (λ (e : Entry). e.value) es k d x inside) ∙ at in
    subst (λ (y : ℕ). 0 < weight_at es y) here (entry_weighs es k d is inside)

module _ (size scale : ℕ) (rows : List Row) (secrets : List Entry) (table : IsTable size scale rows) (is : IsColumn secrets) (whole : (x : ℕ) → weight_at secrets x ≡ value_weight rows x) where
  pub channel_made : (copied : List Row) → copied ≡ rows → total secrets ≡ scale → IsBelow size secrets → IsChannel size copied secrets
  channel_made copied same sum below = record {
    traces = subst (λ (rs : List Row). IsStrictlySortedBy trace_order (map (λ (r : Row). r.trace) rs)) (sym same) table.ascending;
    column = is;
    within = below;
    narrow = omega (arith, sum, table.narrow);
    whole = λ x. ap (λ (rs : List Row). value_weight rs x) same ∙ sym (whole x);
  }

  pub are_secrets : AreSecrets rows (values secrets)
  are_secrets = record {
    ascending = is.ascending;
    listed = λ x. (
      (λ (h : Contains (values secrets) x). omega (arith, whole x, weighs secrets x is h)),
      (λ (h : 0 < value_weight rows x). named secrets x (omega (arith, whole x, h))),
    );
  }

-- an item is read before the statements where its variable's item is
pub initial_items : (items : List TargetItem) → list_all (λ (i : Item). i.initial) (map item_of items) ≡ list_all (λ (i : TargetItem). i.initial) items
initial_items items = list_all-map (λ (i : Item). i.initial) item_of items
