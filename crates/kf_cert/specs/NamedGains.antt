-- For bodies: what the actions of a gain table gain at the values that they name, beyond the table's `rest`.
use Rattle.std.specs.Prelude.{◌≡◌, ℕ, zero, suc, ◌+◌, ◌<◌, ◌≤◌, ◌==◌, ℤ, pos, ◌+ℤ◌, ◌-ℤ◌, ◌*ℤ◌, unsigned_abs, List, [], ◌∷◌, ◌++◌, All, map, length, sum_by, None, unwrap_or, if◌then◌else◌}
use Rattle.std.specs.List.Sorted.{IsNonDecreasingBy}
use Rattle.std.specs.Ordering.{nat_cmp}
use Rattle.std.specs.BTreeMap.{BTreeMap, get}
use Rattle.kf_column.specs.declared.entry.Entry.{Entry}
use Rattle.kf_gain.specs.declared.table.Action.{Action}
use Rattle.kf_gain.specs.declared.table.GainEntry.{GainEntry}
use Rattle.kf_gain.specs.Gains.{TableTree, gain_at}
use Rattle.kf_cert.specs.declared.gain_rules.excess.Excess.{Excess}

-- the gains of action k; past the last action, none
abbrev pub named_gains : List Action → ℕ → List GainEntry
named_gains [] k = []
named_gains (a ∷ actions) zero = a.gains
named_gains (a ∷ actions) (suc k) = named_gains actions k

-- what action k gains at x beyond `rest`
abbrev pub excess_at : TableTree → ℕ → ℕ → ℤ
excess_at t k x = gain_at t.rest (named_gains t.actions k) x -ℤ t.rest

-- what it gains beyond `rest` from a column
abbrev pub column_excess : TableTree → ℕ → List Entry → ℤ
column_excess t k [] = pos 0
column_excess t k (e ∷ column) = pos e.weight *ℤ excess_at t k e.value +ℤ column_excess t k column

-- the excesses of action k at the values that it names
abbrev pub action_excesses : ℤ → ℕ → List GainEntry → List Excess
action_excesses rest k gains = map (λ e. record { value = e.value; action = k; amount = e.gain -ℤ rest }) gains

-- those of actions, the first of which is k
abbrev pub excesses_from : ℤ → ℕ → List Action → List Excess
excesses_from rest k [] = []
excesses_from rest k (a ∷ actions) = action_excesses rest k a.gains ++ excesses_from rest (k + 1) actions

-- what f makes of an excess of action k, and of one at the value x too; 0 for all others
abbrev pub of_action : (ℤ → ℕ) → ℕ → Excess → ℕ
of_action f k e = if e.action == k then f e.amount else 0

abbrev pub of_both : (ℤ → ℕ) → ℕ → ℕ → Excess → ℕ
of_both f k x e = if e.value == x then of_action f k e else 0

-- the excesses of a table by ascending values: what is added up of those of one action at one value is that of what it gains there beyond
-- `rest`, where 0 counts for nothing
pub record AreExcesses (t : TableTree) (excesses : List Excess) : Type 0 where
  pub ascending : IsNonDecreasingBy (λ e. e.value) excesses
  pub inside : All (λ e. e.action < length t.actions) excesses
  pub sums : (f : ℤ → ℕ) → f (pos 0) ≡ 0 → (k x : ℕ) → sum_by (of_both f k x) excesses ≡ f (excess_at t k x)

-- what those of action k come to, and how far from 0 that can be
abbrev pub amount_at : List Excess → ℕ → ℤ
amount_at [] k = pos 0
amount_at (e ∷ excesses) k = (if e.action == k then e.amount else pos 0) +ℤ amount_at excesses k

abbrev pub size_at : List Excess → ℕ → ℕ
size_at excesses k = sum_by (of_action unsigned_abs k) excesses

-- the sum of action k; 0 where it has none
abbrev pub sum_at : BTreeMap ℕ ℤ → ℕ → ℤ
sum_at sums k = unwrap_or (get nat_cmp sums k) (pos 0)

-- only the first so many actions have sums
abbrev pub AreBelow : ℕ → BTreeMap ℕ ℤ → Type 0
AreBelow count sums = (k : ℕ) → count ≤ k → get nat_cmp sums k ≡ None
