-- For bodies: weight that goes along runs, and the two sides of a guard.
use Rattle.std.specs.Prelude.{ℕ, ◌<◌, Bool, List, [], All, IsOk, if◌then◌else◌}
use Rattle.std.specs.Int.{◌∣◌}
use Rattle.kf_value.specs.Values.{truth}
use Rattle.kf_column.specs.declared.entry.Entry.{Entry}
use Rattle.kf_core.specs.Runs.{Run, Tried, branched, stay}
use Rattle.kf_core.specs.Leaks.{shown}

-- the run ends, and its share of this weight is whole
pub record Takes (weight : ℕ) (r : Run) : Type 0 where
  pub positive : 0 < r.scale
  pub divides : r.scale ∣ weight
  pub ends : IsOk r.end

-- each run from a store of the columns takes its share of the store's weight to its end
abbrev pub Goes : (ℕ → List Run) → List (List Entry) → Type 0
Goes from columns = All (λ column. All (λ e. All (Takes e.weight) (from e.value)) column) columns

-- the choices' values are leaked, and nothing else happens
abbrev pub observed : (ℕ → Tried) → ℕ → List Run
observed tries n = branched shown n (λ v. stay n) (tries n)

-- where the guard's value is this one, it is leaked; other runs are not followed
abbrev pub side : Bool → (ℕ → Tried) → ℕ → List Run
side wanted guard n = branched shown n (λ v. if truth v then (if wanted then stay n else []) else (if wanted then [] else stay n)) (guard n)
