-- For bodies: the classes of proportional columns while they are gathered.
use Rattle.std.specs.Prelude.{◌≡◌, ℕ, ◌*◌, ◌/◌, ◌<◌, List, All, map, sum_by, if◌then◌else◌}
use Rattle.std.specs.List.Sorted.{IsStrictlySortedBy}
use Prim.Native.Nat.{◌∣◌}
use Rattle.kf_column.specs.declared.entry.Entry.{Entry}
use Rattle.kf_column.specs.Columns.{total, proportional}
use Rattle.kf_column.specs.Shapes.{IsBelow, list_order}
use Rattle.kf_column.specs.Joint.{mass}
use Rattle.kf_column.specs.Hypers.{IsInner, class_total}
use Rattle.kf_column.specs.Averages.{scaled}

-- the greatest number that divides every weight
pub record IsCommonFactor (factor : ℕ) (entries : List Entry) : Type 0 where
  pub divides : All (λ e. factor ∣ e.weight) entries
  pub greatest : (d : ℕ) → All (λ e. d ∣ e.weight) entries → d ∣ factor

-- an inner of which the column is a multiple
pub record IsReduced (column inner : List Entry) : Type 0 where
  pub factor : ℕ
  pub some : 0 < factor
  pub multiple : column ≡ map (scaled factor) inner
  pub is_inner : IsInner inner

-- the column has an inner
pub record HasInner (column : List Entry) : Type 0 where
  pub inner : List Entry
  pub is_reduced : IsReduced column inner

-- each inner is before all that follow
abbrev pub AreAscending : List (List Entry × ℕ) → Type 0
AreAscending classes = IsStrictlySortedBy list_order (map (λ c. c.0) classes)

-- a class's inner goes whole, and at least once, into its total
pub record IsWhole (class : List Entry × ℕ) : Type 0 where
  pub is_inner : IsInner class.0
  pub some : 0 < class.1 / total class.0
  pub whole : (class.1 / total class.0) * total class.0 ≡ class.1

-- the sum of the totals of the classes that are proportional to this column
abbrev pub total_in : List (List Entry × ℕ) → List Entry → ℕ
total_in classes inner = sum_by (λ c. if proportional c.0 inner then c.1 else 0) classes

-- these classes, each by its inner and its total, are those of the columns
pub record ClassesOf (columns : List (List Entry)) (classes : List (List Entry × ℕ)) : Type 0 where
  pub reduced : All HasInner columns
  pub inners : All (λ c. IsInner c.0) classes
  pub used : All (λ c. 0 < c.1) classes
  pub whole : All (λ c. total c.0 ∣ c.1) classes
  pub totals : (inner : List Entry) → IsInner inner → total_in classes inner ≡ class_total columns inner
  pub mass : sum_by (λ c. c.1) classes ≡ mass columns
  pub within : (size : ℕ) → All (IsBelow size) columns → All (λ c. IsBelow size c.0) classes
