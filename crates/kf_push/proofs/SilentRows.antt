-- Cells without a trace, and a column that gives each value what they give it: they have one row.
use Rattle.std.proofs.Common.{◌≡◌, ℕ, ◌<◌, List, [], ◌∷◌, map, ◌⊎◌, inl, inr, refl, sym, ap, subst, arith}
use Rattle.std.specs.List.{flat_map}
use Rattle.std.specs.List.Sorted.{IsStrictlySortedBy}
use Rattle.std.proofs.lemmas.List.Elements.{All-cons, All-nil, All-head}
use Rattle.kf_value.specs.Values.{ValueTree}
use Rattle.kf_column.specs.declared.entry.Entry.{Entry}
use Rattle.kf_column.specs.Columns.{IsColumn, weight_at}
use Rattle.kf_column.specs.Traces.{Row}
use Rattle.kf_column.proofs.Weights.{weight_at_head}
use Rattle.kf_core.specs.Joint.{Cell, weight_of}
use Rattle.kf_core.specs.Rows.{AreRowsOf}
use Rattle.kf_core.proofs.OneTable.{in_from_contains}
use Rattle.kf_core.specs.Each.{HasTrace}
use Rattle.kf_push.proofs.Beginning.{SilentCells, only_silent}
use Rattle.kf_push.proofs.BesideRows.{both_within}
use Rattle.kf_push.proofs.CellWeights.{trace_weight_is, weight_is}

abbrev pub silent_row : List Entry → Row
silent_row column = record { trace = []; column = column }

module _ (cs : List Cell) (silent : SilentCells cs) (column : List Entry) (is : IsColumn column) (weights : (x : ℕ) → weight_at column x ≡ weight_of cs [] x) where
  has_some : (c : List Entry) → IsColumn c → ((x : ℕ) → weight_at c x ≡ weight_of cs [] x) → HasTrace cs []
  has_some [] none same = absurd (none.some refl)
  has_some (e ∷ es) there same =
      let some : 0 < e.weight = All-head (λ (f : Entry). 0 < f.weight) e es there.positive in
      let here = weight_at_head e es e.value refl in
      omega (arith, some, here, same e.value, weight_is cs [] e.value, both_within [] e.value cs, trace_weight_is cs [])

  on_member : (t : List ValueTree) → (t ≡ []) ⊎ ⊥ → HasTrace cs t
  on_member t (inl e) = subst (HasTrace cs) (sym e) (has_some column is weights)
  on_member t (inr h) = absurd h

  pub one_row : AreRowsOf cs (silent_row column ∷ [])
  unfolding IsStrictlySortedBy
  one_row = record {
    ascending = (tt, tt);
    all = λ t. (λ h. on_member t (in_from_contains ([] ∷ []) t h), λ has. (0, omega arith, sym (only_silent cs silent t has)));
    columns = All-cons (λ (r : Row). IsColumn r.column) (silent_row column) [] is (All-nil (λ (r : Row). IsColumn r.column));
    weights =
        All-cons (λ (r : Row). (x : ℕ) → weight_at r.column x ≡ weight_of cs r.trace x) (silent_row column) [] weights
        (All-nil (λ (r : Row). (x : ℕ) → weight_at r.column x ≡ weight_of cs r.trace x));
  }

-- a row for each column
abbrev pub one_row_each : List (List Entry) → List (List Row)
one_row_each columns = map (λ c. silent_row c ∷ []) columns

pub columns_of : (columns : List (List Entry)) → columns ≡ map (λ (r : Row). r.column) (flat_map (λ there. there) (one_row_each columns))
columns_of [] = refl
columns_of (c ∷ cs) = ap (λ ds. c ∷ ds) (columns_of cs)
