-- For bodies: rows of a value's weights, with one entry for each inner in which the value has weight.
use Rattle.std.specs.Prelude.{◌≡◌, ◌↔◌, ℕ, ◌+◌, ◌*◌, ◌/◌, ◌<◌, ◌==◌, List, [], ◌∷◌, ◌++◌, Option, Some, None, Vec, Contains, IsSome, if◌then◌else◌}
use Rattle.std.specs.List.Sorted.{IsStrictlyIncreasing}
use Rattle.std.specs.Map.{lookup}
use Rattle.std.specs.BTreeMap.{is_at}
use Rattle.std.specs.Ordering.{nat_cmp}
use Rattle.std.specs.declared.alloc.Global.{Global}
use Rattle.kf_column.specs.declared.entry.Entry.{Entry}
use Rattle.kf_column.specs.Columns.{weight_at, total}
use Rattle.kf_column.specs.Hypers.{Inner}

-- what the entries of the inner with this number, each so many times, put into the row of x
abbrev pub shares : ℕ → ℕ → List Entry → ℕ → List Entry
shares number times [] x = []
shares number times (e ∷ es) x =
    (if e.value == x then record { value = number; weight = times * e.weight } ∷ [] else []) ++ shares number times es x

-- the row of x in inners that are numbered from `first` on
abbrev pub row_from : ℕ → List Inner → ℕ → List Entry
row_from first [] x = []
row_from first (i ∷ is) x = shares first (i.total / total i.entries) i.entries x ++ row_from (first + 1) is x

-- rows by their values
abbrev pub Rows : Type 0
Rows = List (ℕ × Vec Entry Global)

abbrev pub row_of : Option (Vec Entry Global) → List Entry
row_of None = []
row_of (Some row) = row.items

-- the row of x, if there is one
abbrev pub found : Rows → ℕ → Option (Vec Entry Global)
found rows x = lookup (is_at (nat_cmp x)) rows

abbrev pub row_at : Rows → ℕ → List Entry
row_at rows x = row_of (found rows x)

-- each row is that of before and what is added
abbrev pub Grows : (ℕ → List Entry) → Rows → Rows → Type 0
Grows added old new = (x : ℕ) → row_at new x ≡ row_at old x ++ added x

-- no row is empty
abbrev pub AreFilled : Rows → Type 0
AreFilled rows = (x : ℕ) → IsSome (found rows x) → 0 < total (row_at rows x)

-- all cross products of the weights agree
abbrev pub AreAlike : List Entry → List Entry → Type 0
AreAlike u v = (k l : ℕ) → weight_at u k * weight_at v l ≡ weight_at u l * weight_at v k

-- the values with rows, but for those whose rows are like a smaller one's
pub record AreSmallest (rows : Rows) (values : List ℕ) : Type 0 where
  pub ascending : IsStrictlyIncreasing values
  pub smallest : (x : ℕ) → Contains values x
      ↔ (IsSome (found rows x) × ((y : ℕ) → y < x → IsSome (found rows y) → AreAlike (row_at rows x) (row_at rows y) → ⊥))
