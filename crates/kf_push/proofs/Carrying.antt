-- What holds of columns pushed along runs, whatever the runs are.
use Rattle.std.proofs.Common.{refl, ◌≡◌, ℕ, ◌+◌, ◌<◌, List, [], ◌++◌, All, Contains, IsOk, sym, ap, subst, ◌∙◌, arith}
use Rattle.std.specs.Int.{◌∣◌}
use Rattle.std.specs.List.{AllByRecursion as Each}
use Rattle.std.proofs.Math.Nat.{dvd-add, pos_of_dvd_of_pos}
use Rattle.std.proofs.lemmas.List.Elements.{recursion_from_All, All-from_recursion, All-weaker, All-append}
use Rattle.std.proofs.lemmas.List.Sums.{sum_by-append}
use Rattle.kf_value.proofs.ListLemmas.{each_weaker, each_both, each_map, each_flat_map}
use Rattle.std.specs.Prelude.{sum_by, if◌then◌else◌}
use Rattle.std.specs.declared.cmp.Ordering.TheVariants.{Less}
use Rattle.kf_value.specs.Values.{ValueTree}
use Rattle.kf_column.specs.declared.entry.Entry.{Entry}
use Rattle.kf_column.specs.Columns.{IsColumn, weight_at, total, proportional}
use Rattle.kf_column.specs.Hypers.{class_total}
use Rattle.kf_column.specs.Joint.{mass}
use Rattle.kf_column.specs.Merged.{SameBeliefs, AreMerged}
use Rattle.kf_column.specs.Traces.{Row, trace_order}
use Rattle.kf_column.proofs.Weights.{above_column}
use Rattle.kf_core.specs.Joint.{cells, weight_of}
use Rattle.kf_core.specs.Pushing.{AreBehind}
use Rattle.kf_core.specs.Ready.{DivideAlong, IsPushed, carried_cells}
use Rattle.kf_core.specs.Runs.{Run, chain, stay}
use Rattle.kf_core.proofs.Measures.{Measure}
use Rattle.kf_core.specs.Each.{HasTrace}
use Rattle.kf_push.specs.Following.{Goes, Takes}
use Rattle.kf_push.specs.Merging.{SplitsOnce, SomeAreBehind, OnlyOneBehind}
use Rattle.kf_column.proofs.Beliefs.{some_merged, one_merged, merged_columns, merged_again, merged_totals, merged_mass, totals_tell}
use Rattle.kf_push.proofs.AlikeRows.{alike_behind, all_stay}
use Rattle.kf_push.proofs.BesideRows.{beside_total}
use Rattle.kf_push.proofs.CellsFrom.{rows_told}
use Rattle.kf_push.proofs.ChainedCells.{Shares, takes_on, cells_hold}
use Rattle.kf_push.proofs.ChainedRows.{chained_all}
use Rattle.kf_push.proofs.ClassesPushed.{merging_commutes, each_divides}
use Rattle.kf_push.proofs.Gathers.{trace_hold}
use Rattle.kf_push.proofs.MergedWeights.{merged_hold}
use Rattle.kf_push.proofs.RowMass.{behind_mass}
use Rattle.kf_push.proofs.RowColumns.{row_list, row_columns, are_rows, behind_of, is_behind, behind_is, each_column}
use Rattle.kf_push.proofs.ScaledRows.{Divides}

abbrev pub Runner : Type 0
Runner = ℕ → List Run

abbrev pub Matrix : Type 0
Matrix = List (List Entry)

-- every trace of these runs is below every trace of those
abbrev pub ComeBefore : Runner → Runner → Type 0
ComeBefore from next = (n m : ℕ) (r q : Run) → Contains (from n) r → Contains (next m) q → IsOk r.end → IsOk q.end → trace_order r.trace q.trace ≡ Less

-- two runners give each trace and store the same weight
abbrev pub AreAlike : Runner → Runner → Type 0
AreAlike from other = (n w : ℕ) (t : List ValueTree) (x : ℕ) → weight_of (cells (λ m. m) w (from n)) t x ≡ weight_of (cells (λ m. m) w (other n)) t x

pub some_behind : SomeAreBehind
some_behind from columns = (behind_of from columns, is_behind from columns)

pub one_behind : OnlyOneBehind
one_behind from columns behind others b o = behind_is from columns behind b ∙ sym (behind_is from columns others o)

pub behind_columns : (from : Runner) (columns behind : Matrix) → AreBehind from columns behind → All IsColumn behind
behind_columns from columns behind b = All-from_recursion IsColumn behind (subst (Each IsColumn) (sym (behind_is from columns behind b)) (each_column from columns))

pub some_pushed : (from : Runner) (columns : Matrix) → (after : Matrix) × IsPushed from columns after
some_pushed from columns =
    let b = some_behind from columns in
    let m = some_merged b.0 (behind_columns from columns b.0 b.1) in
    (m.0, record { behind = b.0; are_behind = b.1; are_merged = m.1 })

pub one_pushed : (from : Runner) (columns after others : Matrix) → IsPushed from columns after → IsPushed from columns others → after ≡ others
one_pushed from columns after others a o =
    let same = one_behind from columns a.behind o.behind a.are_behind o.are_behind in
    one_merged o.behind after others (subst (λ l. AreMerged l after) same a.are_merged) o.are_merged

pub pushed_columns : (from : Runner) (columns after : Matrix) → IsPushed from columns after → All IsColumn after
pushed_columns from columns after p = merged_columns p.behind after (behind_columns from columns p.behind p.are_behind) p.are_merged

pub pushed_again : (from : Runner) (columns after : Matrix) → IsPushed from columns after → AreMerged after after
pushed_again from columns after p = merged_again p.behind after (behind_columns from columns p.behind p.are_behind) p.are_merged

-- behind no column there is none
pub none_behind : (from : Runner) → AreBehind from [] []
none_behind from = record { rows = []; each = tt; is = refl }

-- ---- merging before

pub commutes : (from : Runner) (columns merged behind others : Matrix) → All IsColumn columns → DivideAlong from columns → AreMerged columns merged
    → AreBehind from columns behind → AreBehind from merged others → SameBeliefs behind others
commutes from columns merged behind others are divide m b o = merging_commutes from columns merged are divide m behind others b o

pub goes_divide : (from : Runner) (columns : Matrix) → Goes from columns → DivideAlong from columns
goes_divide from columns goes =
    All-weaker (λ c. All (λ e. All (Takes e.weight) (from e.value)) c) (λ c. All (λ e. All (λ r. r.scale ∣ e.weight) (from e.value)) c)
    (λ c. All-weaker (λ e. All (Takes e.weight) (from e.value)) (λ e. All (λ r. r.scale ∣ e.weight) (from e.value))
    (λ e. All-weaker (Takes e.weight) (λ r. r.scale ∣ e.weight) (λ r t. t.divides) (from e.value)) c) columns goes

-- goes, by recursion
pub each_goes : (from : Runner) (columns : Matrix) → Goes from columns → Each (Each (λ e. Each (Takes e.weight) (from e.value))) columns
each_goes from columns goes =
    each_weaker (λ c. All (λ e. All (Takes e.weight) (from e.value)) c) (Each (λ e. Each (Takes e.weight) (from e.value)))
    (λ c h. each_weaker (λ e. All (Takes e.weight) (from e.value)) (λ e. Each (Takes e.weight) (from e.value))
    (λ e. recursion_from_All (Takes e.weight) (from e.value)) c (recursion_from_All (λ e. All (Takes e.weight) (from e.value)) c h))
    columns (recursion_from_All (λ c. All (λ e. All (Takes e.weight) (from e.value)) c) columns goes)

pub goes_from_each : (from : Runner) (columns : Matrix) → Each (Each (λ e. Each (Takes e.weight) (from e.value))) columns → Goes from columns
goes_from_each from columns goes =
    All-from_recursion (λ c. All (λ e. All (Takes e.weight) (from e.value)) c) columns
    (each_weaker (Each (λ e. Each (Takes e.weight) (from e.value))) (λ c. All (λ e. All (Takes e.weight) (from e.value)) c)
    (λ c h. All-from_recursion (λ e. All (Takes e.weight) (from e.value)) c
    (each_weaker (λ e. Each (Takes e.weight) (from e.value)) (λ e. All (Takes e.weight) (from e.value)) (λ e. All-from_recursion (Takes e.weight) (from e.value)) c h)) columns goes)

-- what takes its share of two weights takes it of their sum
pub takes_plus : (rs : List Run) (a b : ℕ) → Each (Takes a) rs → Each (Takes b) rs → Each (Takes (a + b)) rs
takes_plus rs a b =
    each_both (Takes a) (Takes b) (Takes (a + b)) (λ r h k. record { positive = h.positive; divides = dvd-add r.scale h.divides k.divides; ends = h.ends }) rs

pub goes_merged : (from : Runner) (columns merged : Matrix) → All IsColumn columns → Goes from columns → AreMerged columns merged → Goes from merged
goes_merged from columns merged are goes m =
    goes_from_each from merged
    (merged_hold (λ n w. Each (Takes w) (from n)) (λ n a b. takes_plus (from n) a b) columns merged are m (each_goes from columns goes))

-- columns of the same beliefs are merged to the same
pub merged_alike : (columns others after : Matrix) → SameBeliefs columns others → AreMerged others after → AreMerged columns after
merged_alike columns others after same m = record { inners = m.inners; is_hyper = (same m.inners).1 m.is_hyper; sums = m.sums }

-- columns may be merged before they are pushed
pub pushed_merged : (from : Runner) (columns merged after : Matrix) → All IsColumn columns → Goes from columns → AreMerged columns merged
    → IsPushed from merged after → IsPushed from columns after
pushed_merged from columns merged after are goes m p =
    let b = some_behind from columns in
    record {
      behind = b.0;
      are_behind = b.1;
      are_merged = merged_alike b.0 p.behind after (commutes from columns merged b.0 p.behind are (goes_divide from columns goes) m b.1 p.are_behind) p.are_merged;
    }

-- ---- one after the other

abbrev takes_measure : Runner → Measure
takes_measure next = record {
  holds = λ n w. Each (Takes w) (next n);
  value = λ n w. 0;
  closed = λ n a b. takes_plus (next n) a b;
  linear = λ n a b h k. omega arith;
}

row_goes : (from next : Runner) (column : List Entry) → Each (λ e. Each (Takes e.weight) (chain (from e.value) next)) column
    → Each (Each (λ e. Each (Takes e.weight) (next e.value))) (row_columns from column)
row_goes from next column goes =
    let cs = carried_cells from column in
    let rows = row_list from column in
    each_map (Each (λ e. Each (Takes e.weight) (next e.value))) (λ (r : Row). r.column) rows
    (each_weaker (λ r. HasTrace cs r.trace × IsColumn r.column × ((x : ℕ) → weight_at r.column x ≡ weight_of cs r.trace x)) (λ r. Each (λ e. Each (Takes e.weight) (next e.value)) r.column)
    (λ r told. trace_hold (takes_measure next) cs (cells_hold Takes takes_on next from column goes) r.trace r.column (above_column r.column told.1) told.2)
    rows (rows_told cs rows (are_rows from column)))

behind_goes : (from next : Runner) (columns : Matrix) → Each (Each (λ e. Each (Takes e.weight) (chain (from e.value) next))) columns
    → Each (Each (λ e. Each (Takes e.weight) (next e.value))) (behind_of from columns)
behind_goes from next columns goes =
    each_flat_map (Each (λ e. Each (Takes e.weight) (next e.value))) (row_columns from) columns
    (each_weaker (Each (λ e. Each (Takes e.weight) (chain (from e.value) next))) (λ c. Each (Each (λ e. Each (Takes e.weight) (next e.value))) (row_columns from c)) (row_goes from next) columns goes)

-- what goes along both goes along the second from where it stands behind the first
pub goes_on : (from next : Runner) (columns behind : Matrix) → All IsColumn columns → Goes from columns → Goes (λ n. chain (from n) next) columns
    → AreBehind from columns behind → Goes next behind
goes_on from next columns behind are goes both b =
    goes_from_each next behind
    (subst (Each (Each (λ e. Each (Takes e.weight) (next e.value)))) (sym (behind_is from columns behind b)) (behind_goes from next columns (each_goes (λ n. chain (from n) next) columns both)))

pub goes_behind : (from next : Runner) (columns after : Matrix) → All IsColumn columns → Goes from columns → Goes (λ n. chain (from n) next) columns
    → IsPushed from columns after → Goes next after
goes_behind from next columns after are goes both p =
    goes_merged next p.behind after (behind_columns from columns p.behind p.are_behind) (goes_on from next columns p.behind are goes both p.are_behind) p.are_merged

-- where a scale divides a weight above 0, it is above 0
pub all_shares : (from : Runner) (column : List Entry) → IsColumn column → Divides from column → Each (λ e. Each (Shares e.weight) (from e.value)) column
all_shares from column is divides =
    each_both (λ e. 0 < e.weight) (λ e. Each (λ r. r.scale ∣ e.weight) (from e.value)) (λ e. Each (Shares e.weight) (from e.value))
    (λ e some d. each_weaker (λ r. r.scale ∣ e.weight) (Shares e.weight) (λ r h. (pos_of_dvd_of_pos h some, h)) (from e.value) d)
    column (recursion_from_All (λ (e : Entry). 0 < e.weight) column is.positive) divides

pub chained : (from next : Runner) (columns between behind : Matrix) → SplitsOnce from → All IsColumn columns → DivideAlong (λ n. chain (from n) next) columns
    → AreBehind from columns between → AreBehind next between behind → AreBehind (λ n. chain (from n) next) columns behind
chained from next columns between behind splits are both b c =
    let shares = each_both IsColumn (Divides (λ n. chain (from n) next)) (Each (λ e. Each (Shares e.weight) (chain (from e.value) next))) (all_shares (λ n. chain (from n) next))
    columns (recursion_from_All IsColumn columns are) (each_divides (λ n. chain (from n) next) columns both) in
    subst (AreBehind (λ n. chain (from n) next) columns)
    (sym (behind_is next between behind c ∙ ap (behind_of next) (behind_is from columns between b) ∙ chained_all from next splits columns shares))
    (is_behind (λ n. chain (from n) next) columns)

pub pushed_chain : (from next : Runner) (columns between after : Matrix) → SplitsOnce from → All IsColumn columns → Goes from columns
    → Goes (λ n. chain (from n) next) columns → IsPushed from columns between → IsPushed next between after
    → IsPushed (λ n. chain (from n) next) columns after
pushed_chain from next columns between after splits are goes both p q =
    let c = some_behind next p.behind in
    let first = behind_columns from columns p.behind p.are_behind in
    let divide = goes_divide next p.behind (goes_on from next columns p.behind are goes both p.are_behind) in
    record {
      behind = c.0;
      are_behind = chained from next columns p.behind c.0 splits are (goes_divide (λ n. chain (from n) next) columns both) p.are_behind c.1;
      are_merged = merged_alike c.0 q.behind after (commutes next p.behind between c.0 q.behind first divide p.are_merged c.1 q.are_behind) q.are_merged;
    }

-- ---- one beside the other

pub pushed_beside : (from next : Runner) (columns one other after : Matrix) → ComeBefore from next → All IsColumn columns
    → IsPushed from columns one → IsPushed next columns other → AreMerged (one ++ other) after
    → IsPushed (λ n. from n ++ next n) columns after
pushed_beside from next columns one other after before are p q m =
    let both : Runner = λ n. from n ++ next n in
    let c = some_behind both columns in
    let first = behind_columns from columns p.behind p.are_behind in
    let second = behind_columns next columns q.behind q.are_behind in
    let same : SameBeliefs c.0 (one ++ other) =
    totals_tell c.0 (one ++ other) (behind_columns both columns c.0 c.1) (All-append IsColumn one other (pushed_columns from columns one p) (pushed_columns next columns other q)) (λ inner is.
    ap (λ l. class_total l inner) (behind_is both columns c.0 c.1) ∙ beside_total from next before inner columns
    ∙ (λ i. class_total (sym (behind_is from columns p.behind p.are_behind) i) inner + class_total (sym (behind_is next columns q.behind q.are_behind) i) inner)
    ∙ (λ i. sym (merged_totals p.behind one first p.are_merged inner is) i + sym (merged_totals q.behind other second q.are_merged inner is) i)
    ∙ sym (sum_by-append (λ (c : List Entry). if proportional c inner then total c else 0) one other)) in
    record { behind = c.0; are_behind = c.1; are_merged = merged_alike c.0 (one ++ other) after same m }

pub pushed_alike : (from other : Runner) (columns after : Matrix) → AreAlike from other → IsPushed from columns after → IsPushed other columns after
pushed_alike from other columns after alike p = record { behind = p.behind; are_behind = alike_behind from other alike columns p.behind p.are_behind; are_merged = p.are_merged }

-- ---- nothing happens

pub stay_behind : (columns : Matrix) → All IsColumn columns → AreBehind stay columns columns
stay_behind columns are = all_stay columns (recursion_from_All IsColumn columns are)

pub pushed_stay : (columns after : Matrix) → All IsColumn columns → AreMerged columns after → IsPushed stay columns after
pushed_stay columns after are m = record { behind = columns; are_behind = stay_behind columns are; are_merged = m }

-- ---- sums

pub pushed_mass : (from : Runner) (columns after : Matrix) → IsPushed from columns after
    → mass after ≡ sum_by (λ c. sum_by (λ cell. cell.weight) (carried_cells from c)) columns
pushed_mass from columns after p =
    merged_mass p.behind after (behind_columns from columns p.behind p.are_behind) p.are_merged ∙ ap mass (behind_is from columns p.behind p.are_behind) ∙ behind_mass from columns
