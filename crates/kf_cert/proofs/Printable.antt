-- What the run answers can be written and read back: its fractions are in lowest terms, and its gains are small and named.
use Rattle.std.proofs.Common.{◌≡◌, ◌<◌, ◌≤◌, ◌+◌, ◌*◌, ◌^◌, ℕ, zero, suc, List, [], ◌∷◌, ◌++◌, map, length, get_or, All, Contains, sum_by, Bool, true, codes, refl, sym, ap, ◌∙◌, subst, arith, ⊎_elim}
use Rattle.std.specs.Prelude.{◌&&◌, flat_map, unsigned_abs, Ok}
use Rattle.std.specs.List.{list_all}
use Rattle.std.specs.List.Sorted.{IsStrictlyIncreasing}
use Rattle.std.specs.Fmt.{decimal}
use Rattle.std.specs.Str.Parse.{AllDigits}
use Rattle.std.proofs.Math.IntN.{ℤ, pos, negsuc, ◌+ℤ◌, ◌*ℤ◌}
use Rattle.std.proofs.lemmas.Bool.{cases_lt, le-leb}
use Rattle.std.proofs.lemmas.Fmt.{decimal_is_IsNumeral, length-decimal-le}
use Rattle.std.proofs.lemmas.Int.{ints}
use Rattle.std.proofs.lemmas.List.{length-map, get_or_default}
use Rattle.std.proofs.lemmas.List.Elements.{All-head, All-tail, All-cons, All-nil, All-append, All-get_or, All-from_get_or, Contains-get_or}
use Rattle.std.proofs.lemmas.List.Sums.{sum_by-cons}
use Rattle.std.proofs.lemmas.Str.Parse.{digit_from_value}
use lib.Signed.{◌≤ℤ◌}
use Rattle.serde_json.specs.Data.{string}
use Rattle.kf_frac.specs.Divisors.{gcd_of, greatest_divisor}
use Rattle.kf_frac.specs.Fractions.{limit}
use Rattle.kf_frac.specs.declared.frac.Frac.{Frac}
use Rattle.kf_frac.proofs.LowestTerms.{reduced_num_same, reduced_den_same}
use Rattle.kf_value.specs.Targets.{Item}
use Rattle.kf_value.specs.Numbers.{target_size}
use Rattle.kf_column.specs.Columns.{weight_at}
use Rattle.kf_column.specs.Hypers.{Inner}
use Rattle.kf_column.specs.Shapes.{IsBelow}
use Rattle.kf_column.specs.Averages.{joint_weight, average_weight}
use Rattle.kf_gain.specs.declared.table.Action.{Action}
use Rattle.kf_gain.specs.declared.table.GainEntry.{GainEntry}
use Rattle.kf_gain.specs.Gains.{TableTree}
use Rattle.kf_gain.specs.Shapes.{IsTableShape}
use Rattle.kf_gain.specs.Vulnerabilities.{gains_of}
use Rattle.kf_json.specs.Rules.{is_name, is_name_byte}
use Rattle.kf_simplex.specs.Answers.{num_at, den_at}
use Rattle.kf_simplex.specs.Base.{at}
use Rattle.kf_simplex.specs.Runs.{IsNarrow}
use Rattle.kf_simplex.specs.declared.outcome.Outcome.TheVariants as outcome
use Rattle.kf_simplex.proofs.Signs.{product_monotone, cancel_le}
use Rattle.kf_refine.specs.Equations.{cells_of}
use Rattle.kf_refine.specs.Refinements.{HyperTree, Fraction, count}
use Rattle.kf_cert.specs.Shapes.{IsWritable, IsWritableAction}
use Rattle.kf_refine.specs.Verdicts.{VerdictTree, Yes, No, IsVerdict, Runs, IsMatrixOf, IsTableOf, IsActionOf}
use Rattle.kf_refine.specs.Views.{IsProper, action_at}
use Rattle.kf_refine.proofs.Spreading.{pair_below}
use Rattle.kf_refine.specs.Built.{multiplier}
use Rattle.kf_cert.specs.Views.{IsLowest, IsPrintable, IsPrintableMatrix}
use Rattle.kf_cert.proofs.Denominators.{from_entries}
use Rattle.kf_cert.proofs.Marking.{no_weight}
use Rattle.kf_cert.proofs.Named.{IsNamable}
use Rattle.kf_cert.proofs.NamedRows.{frac_lowest, widest_most}

-- ---- the fractions of a solution

zero_reduced : gcd_of 0 1 ≡ 1
unfolding gcd_of greatest_divisor
zero_reduced = refl

lowest_at : (xs : List Frac) (k : ℕ) → IsLowest (record { num = num_at xs k; den = den_at xs k })
lowest_at [] k = record {
  positive = omega arith;
  num = sym (reduced_num_same (pos 0) 1 zero_reduced);
  den = sym (reduced_den_same (pos 0) 1 zero_reduced);
  narrow_num = omega arith;
  narrow_den = omega arith;
}
lowest_at (x ∷ xs) zero = frac_lowest x
lowest_at (x ∷ xs) (suc k) = lowest_at xs k

pub matrix_lowest : (m n : ℕ) (solution : List Frac) (rows : List (List Fraction)) → IsMatrixOf m n solution rows → All (λ row. All IsLowest row) rows
matrix_lowest m n solution rows is =
    from_entries IsLowest m n rows is.shape (λ i j l k. subst IsLowest (sym (is.entries i j l k)) (lowest_at solution (i * n + j)))

-- a hyper has no more inners than its scale
count_most : (inners : List Inner) → All (λ i. 0 < i.total) inners → length inners ≤ sum_by (λ i. i.total) inners
count_most [] used = omega arith
count_most (i ∷ inners) used =
    omega (
      arith,
      sum_by-cons (λ (i : Inner). i.total) i inners,
      All-head (λ (i : Inner). 0 < i.total) i inners used,
      count_most inners (All-tail (λ (i : Inner). 0 < i.total) i inners used),
    )

count_fits : (h : HyperTree) → IsProper h → count h ≤ limit
count_fits h proper = omega (arith, count_most h.inners proper.used, proper.whole, proper.narrow)

pub matrix_printable : (a b : HyperTree) (solution : List Frac) (rows : List (List Fraction)) → IsProper a → IsProper b → IsMatrixOf (count a) (count b) solution rows
    → IsPrintableMatrix rows
matrix_printable a b solution rows is_a is_b is = record {
  lowest = matrix_lowest (count a) (count b) solution rows is;
  small = record {
    rows = omega (arith, is.shape.many, count_fits a is_a);
    columns = omega (arith, widest_most (count b) rows is.shape.each, count_fits b is_b);
  };
}

-- ---- bounds of whole numbers

-- a number between minus this and this
from_abs : (z : ℤ) (bound : ℕ) → unsigned_abs z ≤ bound → pos 0 ≤ℤ (z +ℤ pos bound)
from_abs (pos n) bound within = omega (arith, ints)
from_abs (negsuc n) bound within = omega (arith, ints, within)

at_most_abs : (z : ℤ) (bound : ℕ) → unsigned_abs z ≤ bound → z ≤ℤ pos bound
at_most_abs (pos n) bound within = omega (arith, ints, within)
at_most_abs (negsuc n) bound within = omega (arith, ints)

to_abs : (z : ℤ) (bound : ℕ) → pos 0 ≤ℤ z → z ≤ℤ pos bound → unsigned_abs z ≤ bound
to_abs (pos n) bound low high = omega (arith, ints, high)
to_abs (negsuc n) bound low high = absurd (omega (arith, ints, low))

-- a number is no greater than its positive multiple may be
over_factor : (factor bound : ℕ) (g z : ℤ) → 0 < factor → pos factor *ℤ g ≡ z → z ≤ℤ pos bound → g ≤ℤ pos bound
over_factor factor bound g z some is less =
    let most : (pos bound *ℤ pos 1) ≤ℤ (pos bound *ℤ pos factor) = product_monotone (pos 1) (pos factor) (pos bound) (omega (arith, ints)) (omega (arith, ints, some)) in
    cancel_le g (pos bound) (pos factor) (omega (arith, ints, some)) (omega (arith, ints, most, less, is))

-- ---- the names of actions

digits_named : (ds : List ℕ) → AllDigits 10 ds → list_all is_name_byte ds ≡ true
digits_named [] all = refl
digits_named (c ∷ cs) (digit, all) = let range = digit_from_value c digit in named (is_name_byte c) _ (byte c range.0 range.1) (digits_named cs all)
  where
    named : (a b : Bool) → a ≡ true → b ≡ true → (a && b) ≡ true
    named a b is rest = rw (is, rest) refl

    byte : (c : ℕ) → 48 ≤ c → c ≤ 57 → is_name_byte c ≡ true
    byte c low high = rw (le-leb 48 c low, le-leb c 57 high) refl

action_named : (j : ℕ) → j < 2 ^ 32 → is_name (string (codes "b" ++ decimal j)) ≡ true
action_named j small =
    let digits = decimal_is_IsNumeral j (omega (arith, small)) in
    let short = length-decimal-le 10 j (omega arith) (omega (arith, small)) (omega (arith, small)) in
    rw (le-leb 1 (length (98 ∷ decimal j)) (omega arith), le-leb (length (98 ∷ decimal j)) 64 (omega (arith, short)), digits_named (decimal j) digits.0.1) refl

-- ---- kept values are the target's

average_none : (size x : ℕ) (inners : List Inner) → All (λ i. IsBelow size i.entries) inners → size ≤ x → average_weight inners x ≡ 0
average_none size x [] below past = refl
average_none size x (i ∷ inners) below past =
    let here = no_weight size x i.entries (All-head (λ (i : Inner). IsBelow size i.entries) i inners below) past in
    let first : joint_weight x i ≡ 0 = nothing (weight_at i.entries x) _ here in
    let rest = average_none size x inners (All-tail (λ (i : Inner). IsBelow size i.entries) i inners below) past in
    omega (arith, sum_by-cons (joint_weight x) i inners, first, rest)
  where
    nothing : (w k : ℕ) → w ≡ 0 → w * k ≡ 0
    nothing w k none = rw none (omega arith)

-- ---- how many inners there can be

le_times : (x y : ℕ) → 0 < x → y ≤ x * y
le_times zero y some = absurd (omega (arith, some))
le_times (suc x) y some = omega arith

few_inners : (kept m n : ℕ) → 0 < m → cells_of kept m n ≤ 4000000 → n ≤ 4000000
few_inners kept m n some few =
    let one = le_times m n some in
    let two = le_times (kept * n + m + 1) (m * n + (kept * n + m) + 1) (omega arith) in
    omega (arith, one, two, few)

some_inner : (inners : List Inner) → 0 < sum_by (λ (i : Inner). i.total) inners → 0 < length inners
some_inner [] some = absurd (omega (arith, some))
some_inner (i ∷ inners) some = omega arith

-- ---- the gain table of multipliers

abbrev given : Action → List ℤ
given a = map (λ e. e.gain) a.gains

all_given : (Q : ℤ → Type 0) (actions : List Action) → All (λ a. All Q (given a)) actions → All Q (flat_map given actions)
all_given Q [] all = All-nil Q
all_given Q (a ∷ actions) all =
    All-append Q (given a) (flat_map given actions) (All-head (λ (a : Action). All Q (given a)) a actions all)
    (all_given Q actions (All-tail (λ (a : Action). All Q (given a)) a actions all))

all_values : (Q : ℕ → Type 0) (gains : List GainEntry) → All Q (map (λ e. e.value) gains) → All (λ e. Q e.value) gains
all_values Q [] all = All-nil (λ (e : GainEntry). Q e.value)
all_values Q (e ∷ es) all =
    All-cons (λ (e : GainEntry). Q e.value) e es (All-head Q e.value (map (λ e. e.value) es) all)
    (all_values Q es (All-tail Q e.value (map (λ e. e.value) es) all))

module _ (a b : HyperTree) (pivots : ℕ) (ys : List ℤ) (t : TableTree) (is_a : IsProper a) (is_b : IsProper b)
    (run : Runs a b pivots (Ok (outcome.Multipliers ys))) (table : IsTableOf run.equations.values (count b) ys t) where
  abbrev kept : List ℕ
  kept = run.equations.values

  kept_below : (x : ℕ) → Contains kept x → x < target_size a.target
  kept_below x here =
      ⊎_elim
      (λ (below : x < target_size a.target). below)
      (λ (past : target_size a.target ≤ x).
      let weight = ((run.equations.are_kept.kept x).0 here).0 in
      let of_a = average_none (target_size a.target) x a.inners is_a.within past in
      let of_b = average_none (target_size b.target) x b.inners is_b.within (subst (λ (items : List Item). target_size items ≤ x) run.targets past) in
      absurd (omega (arith, weight, of_a, of_b)))
      (cases_lt x (target_size a.target))

  all_below : All (λ x. x < target_size a.target) kept
  all_below = λ k d within. kept_below (get_or kept k d) (Contains-get_or kept k d within)

  -- ---- its gains are small

  multiplier_narrow : (q j : ℕ) → q < length kept → j < count b → unsigned_abs (multiplier (count b) ys q j) ≤ 2 ^ 62
  multiplier_narrow q j l k =
      let s = run.system in
      let answer = run.is_answer in
      let end = answer.2 in
      let narrow : IsNarrow s answer.1 = end.ends.0 in
      let within : q * count b + j < s.equations = rw run.equations.equations (omega (arith, pair_below (length kept) (count b) q j l k)) in
      subst (λ (z : ℤ). unsigned_abs z ≤ 2 ^ 62) (sym (answer.3.entries (q * count b + j) within))
      (narrow.objective (s.unknowns + (q * count b + j)) (omega (arith, within)))

  shift_small : table.shift ≤ 2 ^ 62
  shift_small = table.is_shift.least (2 ^ 62) (λ q j l k. from_abs (multiplier (count b) ys q j) (2 ^ 62) (multiplier_narrow q j l k))

  rest_small : t.rest ≤ℤ pos (2 ^ 63)
  rest_small = over_factor table.factor (2 ^ 63) t.rest (pos table.shift) table.some_factor table.rest (omega (arith, ints, shift_small))

  action_is : (j : ℕ) → j < length t.actions → IsActionOf kept (count b) ys table.shift table.factor j (action_at t.actions j)
  action_is j inside = table.actions j (subst (λ (k : ℕ). j < k) table.many inside)

  action_small : (j : ℕ) → j < length t.actions → All (λ z. z ≤ℤ pos (2 ^ 63)) (given (action_at t.actions j))
  action_small j inside q d within =
      let below : j < count b = subst (λ (k : ℕ). j < k) table.many inside in
      let is = action_is j inside in
      let gains : List GainEntry = (action_at t.actions j).gains in
      let size : length (map (λ (e : GainEntry). e.gain) gains) ≡ length kept =
      length-map gains (λ (e : GainEntry). e.gain) ∙ sym (length-map gains (λ (e : GainEntry). e.value)) ∙ ap (λ (vs : List ℕ). length vs) is.values in
      let here : q < length kept = subst (λ (k : ℕ). q < k) size within in
      let most : (multiplier (count b) ys q j +ℤ pos table.shift) ≤ℤ pos (2 ^ 63) =
      omega (arith, ints, shift_small, at_most_abs (multiplier (count b) ys q j) (2 ^ 62) (multiplier_narrow q j here below)) in
      subst (λ (z : ℤ). z ≤ℤ pos (2 ^ 63)) (get_or_default (map (λ (e : GainEntry). e.gain) gains) q (pos 0) d within)
      (over_factor table.factor (2 ^ 63) (at (map (λ (e : GainEntry). e.gain) gains) q) (multiplier (count b) ys q j +ℤ pos table.shift) table.some_factor
      (is.gains q here) most)

  all_small : All (λ z. z ≤ℤ pos (2 ^ 63)) (gains_of t)
  all_small =
      All-cons (λ z. z ≤ℤ pos (2 ^ 63)) t.rest (flat_map given t.actions) rest_small
      (all_given (λ z. z ≤ℤ pos (2 ^ 63)) t.actions
      (All-from_get_or (λ (x : Action). All (λ z. z ≤ℤ pos (2 ^ 63)) (given x)) t.actions (record { name = []; gains = [] }) action_small))

  -- ---- its values are the target's

  pub all_namable : All (IsNamable a.target) t.actions
  all_namable = All-from_get_or (IsNamable a.target) t.actions (record { name = []; gains = [] }) each
    where
      each : (j : ℕ) → j < length t.actions → IsNamable a.target (action_at t.actions j)
      each j inside =
          let is = action_is j inside in
          let gains : List GainEntry = (action_at t.actions j).gains in
          record {
            values = all_values (λ x. x < target_size a.target) gains (subst (λ (xs : List ℕ). All (λ x. x < target_size a.target) xs) (sym is.values) all_below);
            ascending = subst IsStrictlyIncreasing (sym is.values) run.equations.are_kept.ascending;
          }

  few : count b ≤ 4000000
  few =
      few_inners (length kept) (count a) (count b) (some_inner a.inners (subst (λ (k : ℕ). 0 < k) (sym is_a.whole) is_a.some)) run.few

  -- ---- so it can be written

  pub writable : IsWritable a.target (No t)
  writable = All-from_get_or (IsWritableAction a.target) t.actions (record { name = []; gains = [] }) each
    where
      each : (j : ℕ) → j < length t.actions → IsWritableAction a.target (action_at t.actions j)
      each j inside =
          let is = action_is j inside in
          let below : j < count b = subst (λ (k : ℕ). j < k) table.many inside in
          record {
            name = subst (λ (name : List ℕ). is_name (string name) ≡ true) (sym is.name) (action_named j (omega (arith, below, few)));
            values = (All-get_or (IsNamable a.target) t.actions j (record { name = []; gains = [] }) inside all_namable).values;
          }

  shaped : All (λ z. pos 0 ≤ℤ z) (gains_of t) → IsTableShape t
  shaped none_negative = record {
    positive = rw table.over (omega arith);
    narrow = rw table.over (omega arith);
    some = λ none. let empty = ap (λ (l : List Action). length l) none in omega (arith, some, empty);
    ascending = λ k d within. (all_namable k d within).ascending;
    within = λ k d within. to_abs (get_or (gains_of t) k d) limit (none_negative k d within) (wider (get_or (gains_of t) k d) (all_small k d within));
  }
    where
      some : 0 < length t.actions
      some = rw table.many (some_inner b.inners (subst (λ (k : ℕ). 0 < k) (sym is_b.whole) is_b.some))

      wider : (z : ℤ) → z ≤ℤ pos (2 ^ 63) → z ≤ℤ pos limit
      wider z less = omega (arith, ints, less)

  pub table_printable : All (λ z. pos 0 ≤ℤ z) (gains_of t) → IsPrintable a.target (No t)
  table_printable none_negative = (shaped none_negative, writable)

-- what the run answers can be written
pub verdicts_writable : (a b : HyperTree) (pivots : ℕ) (v : VerdictTree) → IsProper a → IsProper b → IsVerdict a b pivots (Ok v) → IsWritable a.target v
verdicts_writable a b pivots (Yes rows) is_a is_b is = tt
verdicts_writable a b pivots (No t) is_a is_b (multipliers, run, table) = writable a b pivots multipliers t is_a is_b run table
