-- Believed: hyper-distributions: one inner for each class of proportional columns (Alvim et al. 2020, from a joint matrix to its hyper).
use Rattle.std.specs.Prelude.{◌≡◌, ℕ, ◌<◌, List, All, map, sum_by, count_by, if◌then◌else◌}
use Rattle.std.specs.Ordering.{ordering_then, nat_cmp}
use Rattle.std.specs.declared.cmp.Ordering.{Ordering}
use Rattle.std.specs.Cmp.Lexicographic.{slice_cmp}
use Rattle.std.specs.List.Sorted.{IsStrictlySortedBy}
use Prim.Native.Nat.{◌∣◌}
use Rattle.kf_column.specs.declared.entry.Entry.{Entry}
use Rattle.kf_column.specs.Columns.{IsColumn, total, proportional}

-- a posterior in whole numbers, of which each is written in one way: only 1 divides every weight
pub record IsInner (entries : List Entry) : Type 0 where
  pub column : IsColumn entries
  pub reduced : (d : ℕ) → All (λ e. d ∣ e.weight) entries → d ≡ 1

-- an inner, and the sum of all weights of its class: its outer times the scale
pub record Inner : Type 0 where
  pub entries : List Entry
  pub total : ℕ

-- by the first entry that differs, its value before its weight; a proper prefix comes first
abbrev pub entry_order : Entry → Entry → Ordering
entry_order a b = ordering_then (nat_cmp a.value b.value) (nat_cmp a.weight b.weight)

-- the sum of all weights of the columns that are proportional to this one
abbrev pub class_total : List (List Entry) → List Entry → ℕ
class_total columns inner = sum_by (λ c. if proportional c inner then total c else 0) columns

-- the inners are those of these columns
pub record IsHyper (columns : List (List Entry)) (inners : List Inner) : Type 0 where
  -- every column with a weight above 0 is proportional to exactly one inner
  pub covered : All (λ c. 0 < total c → count_by (λ i. proportional c i.entries) inners ≡ 1) columns
  pub totals : All (λ i. i.total ≡ class_total columns i.entries) inners
  pub used : All (λ i. 0 < i.total) inners
  pub inner : All (λ i. IsInner i.entries) inners
  pub ascending : IsStrictlySortedBy (slice_cmp entry_order) (map (λ i. i.entries) inners)
