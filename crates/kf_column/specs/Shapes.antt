-- For bodies: what a hyper keeps of its inners, whatever columns it is made of.
use Rattle.std.specs.Prelude.{◌≡◌, ℕ, ◌<◌, ◌≤◌, List, All, map, sum_by}
use Rattle.std.specs.List.Sorted.{IsStrictlySortedBy}
use Rattle.std.specs.declared.cmp.Ordering.{Ordering}
use Rattle.std.specs.Cmp.Lexicographic.{slice_cmp}
use Prim.Native.Nat.{◌∣◌}
use Rattle.kf_frac.specs.Fractions.{limit}
use Rattle.kf_column.specs.declared.entry.Entry.{Entry}
use Rattle.kf_column.specs.Columns.{total}
use Rattle.kf_column.specs.Hypers.{Inner, IsInner, entry_order}

-- the values are numbers of a target with so many values
abbrev pub IsBelow : ℕ → List Entry → Type 0
IsBelow size column = All (λ e. e.value < size) column

-- a class by its inner and its total
abbrev pub as_inner : List Entry × ℕ → Inner
as_inner c = record { entries = c.0; total = c.1 }

abbrev pub list_order : List Entry → List Entry → Ordering
list_order = slice_cmp entry_order

-- inners of a target of `size` values, over a scale: its totals sum to the scale, and each inner's sum divides its total
pub record IsShape (size scale : ℕ) (inners : List Inner) : Type 0 where
  pub some : 0 < scale
  pub narrow : scale ≤ limit
  pub within : All (λ i. IsBelow size i.entries) inners
  pub inner : All (λ i. IsInner i.entries) inners
  pub ascending : IsStrictlySortedBy list_order (map (λ i. i.entries) inners)
  pub used : All (λ i. 0 < i.total) inners
  pub multiple : All (λ i. total i.entries ∣ i.total) inners
  pub whole : sum_by (λ i. i.total) inners ≡ scale

-- only 1 divides every weight
abbrev pub HasNoCommonFactor : List Entry → Type 0
HasNoCommonFactor column = (d : ℕ) → All (λ e. d ∣ e.weight) column → d ≡ 1
