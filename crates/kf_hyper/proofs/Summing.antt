-- Weights of values, added up in a map.
use Rattle.std.proofs.Common.{◌≡◌, ℕ, ◌+◌, ◌*◌, ◌<◌, ◌≤◌, ◌==◌, List, [], ◌∷◌, Bool, true, false, unwrap_or, All, sum_by, refl, sym, ◌∙◌, ap, subst, arith, length, get_or, take, if◌then◌else◌}
use Rattle.std.specs.Ordering.{nat_cmp}
use Rattle.std.specs.declared.cmp.Ordering.TheVariants.{Less}
use Rattle.std.specs.Cmp.{nat_cmp_total}
use Rattle.std.specs.BTreeMap.{insert_entry, is_at}
use Rattle.std.specs.Map.{lookup, keys_of, values_of}
use Rattle.std.specs.List.Sorted.{IsStrictlySortedBy}
use Rattle.std.proofs.lemmas.List.Elements.{All-head, All-tail, All-nil, All-cons}
use Rattle.std.specs.List.{AllByRecursion}
use Rattle.std.proofs.Math.Nat.{mul-zero, mul-add, mul-le-mul_left}
use Rattle.std.proofs.lemmas.Bool.Decides.{nat_tests}
use Rattle.std.proofs.lemmas.List.Sums.{sum_by-cons, sum_by_more, sum_by_more_le}
use Rattle.std.proofs.lemmas.List.{take_all}
use Rattle.std.proofs.lemmas.Map.Steps.{lookup-le-sum}
use Rattle.kf_column.specs.declared.entry.Entry.{Entry}
use Rattle.kf_column.specs.Columns.{IsColumn, weight_at, total}
use Rattle.kf_column.specs.Shapes.{IsBelow}
use Rattle.kf_hyper.specs.Sums.{summed, ArePositive, Gains, weight_alone}
use Rattle.kf_column.proofs.Gathering.{nat_equal}
use Rattle.kf_column.proofs.Scaling.{times_if, product_positive}
use Rattle.kf_column.proofs.Weights.{Above, column_above}
use Rattle.kf_column.proofs.Inserting.{Inserts, inserted, paired, sum_inserts, all_inserts}

abbrev Sum : Type 0
Sum = ℕ × ℕ

abbrev itself : ℕ → ℕ
itself n = n

abbrev entry_of : Sum → Entry
entry_of e = record { value = e.0; weight = e.1 }

-- a sum over the entries of the map, by its pairs
sum-summed : (f : Entry → ℕ) (es : List Sum) → sum_by f (summed es) ≡ sum_by (λ (e : Sum). f (entry_of e)) (paired itself es)
sum-summed f [] = refl
sum-summed f (e ∷ es) = sum_by-cons f (entry_of e) (summed es) ∙ ap (λ (n : ℕ). f (entry_of e) + n) (sum-summed f es) ∙ sym (sum_by-cons (λ (e : Sum). f (entry_of e)) e (paired itself es))

all-summed : (P : Entry → Type 0) (es : List Sum) → All P (summed es) → All (λ (e : Sum). P (entry_of e)) (paired itself es)
all-summed P [] all = All-nil (λ (e : Sum). P (entry_of e))
all-summed P (e ∷ es) all = All-cons (λ (e : Sum). P (entry_of e)) e (paired itself es) (All-head P (entry_of e) (summed es) all) (all-summed P es (All-tail P (entry_of e) (summed es) all))

summed-all : (P : Entry → Type 0) (es : List Sum) → All (λ (e : Sum). P (entry_of e)) (paired itself es) → All P (summed es)
summed-all P [] all = All-nil P
summed-all P (e ∷ es) all = All-cons P (entry_of e) (summed es) (All-head (λ (e : Sum). P (entry_of e)) e (paired itself es) all) (summed-all P es (All-tail (λ (e : Sum). P (entry_of e)) e (paired itself es) all))

if_adds : (b : Bool) (m n : ℕ) → (if b then m + n else 0) ≡ (if b then m else 0) + (if b then n else 0)
if_adds true m n = refl
if_adds false m n = refl

-- what a value had, and the weight that is added, fit where the sum of all does
pub before_fits : (value weight bound : ℕ) (es : List Sum) → total (summed es) + weight < bound → unwrap_or (lookup (is_at (nat_cmp value)) es) 0 + weight < bound
before_fits value weight bound es fits =
    let before : unwrap_or (lookup (is_at (nat_cmp value)) es) 0 ≤ sum_by (λ (n : ℕ). n) (values_of es) = lookup-le-sum (is_at (nat_cmp value)) es in
    omega (arith, before, fits, sum-values es)
  where
    sum-values : (es : List Sum) → sum_by (λ (n : ℕ). n) (values_of es) ≡ total (summed es)
    sum-values [] = refl
    sum-values (e ∷ es) = omega (arith, sum_by-cons (λ (n : ℕ). n) e.1 (values_of es), sum_by-cons (λ (e : Entry). e.weight) (entry_of e) (summed es), sum-values es)

module _ (value weight : ℕ) (es : List Sum) (sorted : IsStrictlySortedBy nat_cmp (keys_of es)) where
  abbrev after : List Sum
  after = insert_entry nat_cmp es value (unwrap_or (lookup (is_at (nat_cmp value)) es) 0 + weight)

  how : Inserts itself value weight es after
  how = inserted itself nat_cmp nat_cmp_total nat_equal value weight es sorted

  pub gains : Gains (weight_alone value weight) weight (summed es) (summed after)
  gains = record {
    weights = λ x. sum-summed (λ (e : Entry). if e.value == x then e.weight else 0) after
        ∙ sum_inserts itself value weight (λ (v n : ℕ). if v == x then n else 0) (λ v a b. if_adds (v == x) a b) how
        ∙ ap (λ (n : ℕ). n + weight_alone value weight x) (sym (sum-summed (λ (e : Entry). if e.value == x then e.weight else 0) es));
    total = sum-summed (λ (e : Entry). e.weight) after ∙ sum_inserts itself value weight (λ (v n : ℕ). n) (λ v a b. refl) how ∙ ap (λ (n : ℕ). n + weight) (sym (sum-summed (λ (e : Entry). e.weight) es));
  }

  pub stays_positive : 0 < weight → ArePositive (summed es) → ArePositive (summed after)
  stays_positive some all =
      summed-all (λ (e : Entry). 0 < e.weight) after (all_inserts itself value weight (λ (e : Sum). 0 < e.1) some (λ n h. omega arith) how (all-summed (λ (e : Entry). 0 < e.weight) es all))

  pub stays_below : (size : ℕ) → value < size → IsBelow size (summed es) → IsBelow size (summed after)
  stays_below size below all =
      summed-all (λ (e : Entry). e.value < size) after (all_inserts itself value weight (λ (e : Sum). e.0 < size) below (λ n h. h) how (all-summed (λ (e : Entry). e.value < size) es all))

-- ---- several entries, each so many times

pub gains_start : (entries : List Entry) (times : ℕ) (old : List Entry) → Gains (λ x. times * weight_at (take 0 entries) x) (times * total (take 0 entries)) old old
gains_start entries times old = record { weights = λ x. omega (arith, mul-zero times); total = omega (arith, mul-zero times) }

pub gains_more : (entries : List Entry) (times i : ℕ) (d : Entry) (old mid new : List Entry) → i < length entries
    → Gains (λ x. times * weight_at (take i entries) x) (times * total (take i entries)) old mid
    → Gains (weight_alone (get_or entries i d).value (times * (get_or entries i d).weight)) (times * (get_or entries i d).weight) mid new
    → Gains (λ x. times * weight_at (take (i + 1) entries) x) (times * total (take (i + 1) entries)) old new
gains_more entries times i d old mid new within had one =
    let e : Entry = get_or entries i d in
    record {
      weights = λ x.
          let grown : weight_at (take (i + 1) entries) x ≡ weight_at (take i entries) x + (if e.value == x then e.weight else 0) =
          sum_by_more (λ (e : Entry). if e.value == x then e.weight else 0) entries i d within in
          let shared : times * weight_at (take (i + 1) entries) x ≡ times * weight_at (take i entries) x + weight_alone e.value (times * e.weight) x =
          ap (λ (n : ℕ). times * n) grown ∙ mul-add times (weight_at (take i entries) x) (if e.value == x then e.weight else 0)
          ∙ ap (λ (n : ℕ). times * weight_at (take i entries) x + n) (sym (times_if times e.weight (e.value == x))) in
          omega (arith, one.weights x, had.weights x, shared);
      total =
          let grown : total (take (i + 1) entries) ≡ total (take i entries) + e.weight = sum_by_more (λ (e : Entry). e.weight) entries i d within in
          let shared : times * total (take (i + 1) entries) ≡ times * total (take i entries) + times * e.weight =
          ap (λ (n : ℕ). times * n) grown ∙ mul-add times (total (take i entries)) e.weight in
          omega (arith, one.total, had.total, shared);
    }

-- the next entry fits where all do
pub next_fits : (entries : List Entry) (times i bound : ℕ) (d : Entry) (old mid : List Entry) → i < length entries
    → Gains (λ x. times * weight_at (take i entries) x) (times * total (take i entries)) old mid → total old + times * total entries < bound → total mid + times * (get_or entries i d).weight < bound
next_fits entries times i bound d old mid within had fits =
    let part : total (take i entries) + (get_or entries i d).weight ≤ total entries = sum_by_more_le (λ (e : Entry). e.weight) entries i d within in
    let shared : times * (total (take i entries) + (get_or entries i d).weight) ≤ times * total entries = mul-le-mul_left times part in
    omega (arith, had.total, shared, fits, mul-add times (total (take i entries)) (get_or entries i d).weight)

pub next_some : (entries : List Entry) (times i : ℕ) (d : Entry) → i < length entries → 0 < times → ArePositive entries → 0 < times * (get_or entries i d).weight
next_some entries times i d within some positive = product_positive times (get_or entries i d).weight some (positive i d within)

-- all entries are the first so many
pub gains_all : (entries : List Entry) (times i : ℕ) (old new : List Entry) → length entries ≤ i → Gains (λ x. times * weight_at (take i entries) x) (times * total (take i entries)) old new
    → Gains (λ x. times * weight_at entries x) (times * total entries) old new
gains_all entries times i old new past had = subst (λ (l : List Entry). Gains (λ x. times * weight_at l x) (times * total l) old new) (take_all i entries past) had

-- ---- the map's entries are a column

nat_less : (x y : ℕ) → nat_cmp x y ≡ Less → x < y
nat_less x y e = grind (arith, nat_tests)

later : (x : ℕ) (es : List Sum) → AllByRecursion (λ (k : ℕ). nat_cmp x k ≡ Less) (keys_of es) → AllByRecursion (λ (k : ℕ). x + 1 ≤ k) (keys_of es)
later x [] all = tt
later x (e ∷ es) all = (omega (arith, nat_less x e.0 all.0), later x es all.1)

from_zero : (es : List Sum) → AllByRecursion (λ (k : ℕ). 0 ≤ k) (keys_of es)
from_zero [] = tt
from_zero (e ∷ es) = (omega arith, from_zero es)

ascend : (low : ℕ) (es : List Sum) → AllByRecursion (λ (k : ℕ). low ≤ k) (keys_of es) → IsStrictlySortedBy nat_cmp (keys_of es) → ArePositive (summed es) → Above low (summed es)
unfolding IsStrictlySortedBy
ascend low [] from sorted positive = tt
ascend low (e ∷ es) from sorted positive = (
  from.0,
  All-head (λ (e : Entry). 0 < e.weight) (entry_of e) (summed es) positive,
  ascend (e.0 + 1) es (later e.0 es sorted.0) sorted.1 (All-tail (λ (e : Entry). 0 < e.weight) (entry_of e) (summed es) positive),
)

pub summed_column : (es : List Sum) → IsStrictlySortedBy nat_cmp (keys_of es) → ArePositive (summed es) → 0 < total (summed es) → IsColumn (summed es)
summed_column es sorted positive some =
    column_above 0 (summed es) (ascend 0 es (from_zero es) sorted positive) (λ none. omega (arith, some, ap total none))
