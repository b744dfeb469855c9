-- The entry of a value, by search: the values ascend.
use Rattle.std.proofs.Common.{◌≡◌, ℕ, ◌+◌, ◌<◌, ◌≤◌, List, [], ◌∷◌, refl, sym, ◌∙◌, ap, arith, suc, zero, length, get_or}
use Rattle.std.specs.Ordering.{nat_cmp, ordering_index}
use Rattle.std.specs.declared.cmp.Ordering.TheVariants.{Less, Greater}
use Rattle.std.specs.List.Sorted.{IsNonDecreasingBy}
use Rattle.kf_column.specs.declared.entry.Entry.{Entry}
use Rattle.kf_column.specs.Columns.{IsColumn, weight_at, values}
use Rattle.kf_hyper.proofs.Rising.{Rises, from_low, searchable_by, missing_by}
use Rattle.kf_column.proofs.Weights.{Above, above_column, weight_below, weight_at_head, weight_at_other}

pub values_rise : (low : ℕ) (column : List Entry) → Above low column → Rises low (values column)
values_rise low [] above = tt
values_rise low (e ∷ es) (from, some, rest) = (from, values_rise (e.value + 1) es rest)

-- what a search for a value needs
pub searchable : (column : List Entry) (x : ℕ) → IsColumn column → IsNonDecreasingBy (λ (e : Entry). ordering_index (nat_cmp e.value x)) column
searchable column x is = searchable_by (λ (e : Entry). e.value) column x is.ascending

found : (low : ℕ) (column : List Entry) → Above low column → (k : ℕ) (d : Entry) → k < length column → weight_at column (get_or column k d).value ≡ (get_or column k d).weight
found low [] above k d within = absurd (omega arith)
found low (e ∷ es) (from, some, rest) zero d within =
    omega (arith, weight_at_head e es e.value refl, weight_below (e.value + 1) es e.value rest (omega arith))
found low (e ∷ es) (from, some, rest) (suc k) d within =
    weight_at_other e es (get_or es k d).value (λ same. let later = from_low (λ (e : Entry). e.value) (e.value + 1) es (values_rise (e.value + 1) es rest) k d (omega arith) in omega (arith, later, same))
    ∙ found (e.value + 1) es rest k d (omega arith)

pub weight_found : (column : List Entry) (x k : ℕ) (d : Entry) → IsColumn column → k < length column → (get_or column k d).value ≡ x → weight_at column x ≡ (get_or column k d).weight
weight_found column x k d is within same = ap (weight_at column) (sym same) ∙ found 0 column (above_column column is) k d within

pub weight_missing : (column : List Entry) (x : ℕ) → ((k : ℕ) (d : Entry) → k < length column → (get_or column k d).value ≡ x → ⊥) → weight_at column x ≡ 0
weight_missing [] x apart = refl
weight_missing (e ∷ es) x apart =
    weight_at_other e es x (apart 0 e (omega arith)) ∙ weight_missing es x (λ k d within. apart (suc k) d (omega arith))

-- a value that a search finds greater or less than each is missing
pub missed : (column : List Entry) (x gap : ℕ) → ((k : ℕ) (d : Entry) → 0 ≤ k → k < gap → nat_cmp (get_or column k d).value x ≡ Less)
    → ((k : ℕ) (d : Entry) → gap ≤ k → k < length column → nat_cmp (get_or column k d).value x ≡ Greater) → weight_at column x ≡ 0
missed column x gap below above = weight_missing column x (missing_by (λ (e : Entry). e.value) column x gap below above)
