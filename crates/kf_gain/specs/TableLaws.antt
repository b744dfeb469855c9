-- For bodies: laws of the reading of gain tables.
use Rattle.std.specs.Prelude.{◌≡◌, ◌≢◌, ℕ, List, [], Result, Ok}
use Rattle.kf_value.specs.Targets.{Item}
use Rattle.kf_gain.specs.Gains.{TableTree}
use Rattle.kf_gain.specs.declared.error.TableError.{TableError}
use Rattle.kf_gain.specs.Tables.{IsTable}

-- there is an answer for all bytes
abbrev pub SomeTable : Type 0
SomeTable = (items : List Item) (bytes : List ℕ) → (r : Result TableTree TableError) × IsTable items bytes r

-- and only one
abbrev pub OneTable : Type 0
OneTable = (items : List Item) (bytes : List ℕ) (r s : Result TableTree TableError) → IsTable items bytes r → IsTable items bytes s → r ≡ s

-- a table has an action
abbrev pub TablesHaveActions : Type 0
TablesHaveActions = (items : List Item) (bytes : List ℕ) (t : TableTree) → IsTable items bytes (Ok t) → t.actions ≢ []
