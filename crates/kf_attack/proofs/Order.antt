-- The order of guessing: weights fall in it, and a column has exactly one.
use Rattle.std.proofs.Common.{◌≡◌, ℕ, ◌+◌, ◌<◌, ◌≤◌, List, [], ◌∷◌, All, map, refl, sym, ◌∙◌, ap, arith, suc, zero, ◌⊎◌, ⊎_elim, inl, inr}
use Rattle.std.specs.Prelude.{Contains, IsPermutation}
use Rattle.std.specs.declared.cmp.Ordering.TheVariants.{Less, Equal}
use Rattle.std.specs.Cmp.{IsTotalOrder}
use Rattle.std.specs.Ordering.{ordering_reverse, nat_cmp}
use Rattle.std.specs.List.{AllByRecursion as Each}
use Rattle.std.specs.List.Sorted.{IsStrictlySortedBy}
use Rattle.std.proofs.lemmas.Bool.{cases_lt, cases_order}
use Rattle.std.proofs.lemmas.Bool.Decides.{nat_tests}
use Rattle.std.proofs.lemmas.Cmp.{nat_cmp_total, on_total, then_total, back_total}
use Rattle.std.proofs.lemmas.List.Elements.{All-from_recursion, recursion_from_All}
use Rattle.std.proofs.lemmas.List.Sorted.{IsPermutation-refl, IsPermutation-cons, IsPermutation-trans, IsPermutation-sym}
use Rattle.std.proofs.lemmas.List.Sorted.{IsPermutation-append_left, IsPermutation-append_comm, Contains-permutation, All-permutation}
use Rattle.kf_value.proofs.ListLemmas.{each_weaker}
use Rattle.kf_value.proofs.Sorting.{sorted-nil, sorted-cons, sorted-head, sorted-tail}
use Rattle.kf_column.specs.declared.entry.Entry.{Entry}
use Rattle.kf_column.specs.Columns.{IsColumn}
use Rattle.kf_column.proofs.AtMostOne.{In, Ordered, same_lists}
use Rattle.kf_column.proofs.Weights.{Above, above_column}
use Rattle.kf_gain.proofs.Falling.{Falls}
use Rattle.kf_attack.specs.Attacks.{AreRanked, rank}

rank_total : IsTotalOrder rank
rank_total = then_total (back_total (on_total (λ (e : Entry). e.weight) nat_cmp_total)) (on_total (λ (e : Entry). e.value) nat_cmp_total)

-- in the order of guessing
abbrev IsBefore : Entry → Entry → Type 0
IsBefore a b = rank a b ≡ Less

not_both_before : (a b : Entry) → IsBefore a b → IsBefore b a → ⊥
not_both_before a b p q =
    let flip : Less ≡ ordering_reverse Less = sym p ∙ rank_total.antisymm a b ∙ ap ordering_reverse q in
    absurd (cc)

less_is : (m n : ℕ) → m < n → nat_cmp m n ≡ Less
less_is m n less = grind (arith, nat_tests)

equal_is : (m n : ℕ) → m ≡ n → nat_cmp m n ≡ Equal
equal_is m n same = grind (arith, nat_tests)

heavier_first : (a b : Entry) → b.weight < a.weight → IsBefore a b
heavier_first a b less = rw (less_is b.weight a.weight less) refl

smaller_first : (a b : Entry) → b.weight ≡ a.weight → a.value < b.value → IsBefore a b
smaller_first a b same less = rw (equal_is b.weight a.weight same) (less_is a.value b.value less)

not_heavier : (a b : Entry) → IsBefore a b → b.weight ≤ a.weight
not_heavier a b before =
    ⊎_elim (λ (h : a.weight < b.weight). absurd (not_both_before a b before (heavier_first b a h))) (λ (h : b.weight ≤ a.weight). h)
    (cases_lt a.weight b.weight)

-- of two values one comes first
one_first : (a b : Entry) → a.value < b.value → IsBefore a b ⊎ IsBefore b a
one_first a b less =
    ⊎_elim (λ (same : b.weight ≡ a.weight). inl (smaller_first a b same less))
    (⊎_elim (λ (h : b.weight < a.weight). inl (heavier_first a b h)) (λ (h : a.weight < b.weight). inr (heavier_first b a h)))
    (cases_order b.weight a.weight)

-- ---- weights fall

none_heavier : (e : Entry) (es : List Entry) → Each (IsBefore e) es → Each (λ (d : Entry). d.weight ≤ e.weight) es
none_heavier e es after = each_weaker (IsBefore e) (λ (d : Entry). d.weight ≤ e.weight) (not_heavier e) es after

falls_below : (m : ℕ) (es : List Entry) → Each (λ (e : Entry). e.weight ≤ m) es → IsStrictlySortedBy rank es → Falls m (map (λ (e : Entry). e.weight) es)
falls_below m [] below sorted = tt
falls_below m (e ∷ es) below sorted = (
  below.0,
  falls_below e.weight es (none_heavier e es (sorted-head rank e es sorted)) (sorted-tail rank e es sorted),
)

pub weights_fall : (es : List Entry) → IsStrictlySortedBy rank es → (m : ℕ) × Falls m (map (λ (e : Entry). e.weight) es)
weights_fall [] sorted = (0, tt)
weights_fall (e ∷ es) sorted = (
  e.weight,
  falls_below e.weight (e ∷ es) (omega arith, none_heavier e es (sorted-head rank e es sorted)) sorted,
)

-- ---- there is no other order

in_list : (es : List Entry) (e : Entry) → Contains es e → In e es
in_list [] e (k, inside, is) = absurd (omega (arith, inside))
in_list (d ∷ es) e (zero, inside, is) = inl (sym is)
in_list (d ∷ es) e (suc k, inside, is) = inr (in_list es e (k, omega (arith, inside), is))

contains : (es : List Entry) (e : Entry) → In e es → Contains es e
contains [] e here = absurd here
contains (d ∷ es) e here =
    ⊎_elim (λ (same : e ≡ d). (0, omega arith, sym same)) (λ (h : In e es). let r : Contains es e = contains es e h in (suc r.0, omega (arith, r.1), r.2)) here

later : (e : Entry) (es : List Entry) → Each (λ (d : Entry). IsBefore e d) es → (d : Entry) → In d es → IsBefore e d
later e [] all d here = absurd here
later e (f ∷ es) all d here =
    ⊎_elim (λ (same : d ≡ f). ap (rank e) same ∙ all.0) (λ (h : In d es). later e es all.1 d h) here

ordered : (es : List Entry) → IsStrictlySortedBy rank es → Ordered IsBefore not_both_before es
ordered [] sorted = tt
ordered (e ∷ es) sorted = (later e es (sorted-head rank e es sorted), ordered es (sorted-tail rank e es sorted))

among : (column xs ys : List Entry) → AreRanked column xs → AreRanked column ys → (e : Entry) → In e xs → In e ys
among column xs ys p q e here =
    in_list ys e (Contains-permutation column ys e q.same (Contains-permutation xs column e (IsPermutation-sym column xs p.same) (contains xs e here)))

pub one_order : (column xs ys : List Entry) → AreRanked column xs → AreRanked column ys → xs ≡ ys
one_order column xs ys p q =
    same_lists IsBefore not_both_before xs ys (ordered xs p.ordered) (ordered ys q.ordered) (among column xs ys p q) (among column ys xs q p)

-- ---- there is one

exchanged : (a b : Entry) (es : List Entry) → IsPermutation (a ∷ b ∷ es) (b ∷ a ∷ es)
exchanged a b es = IsPermutation-append_left es (a ∷ b ∷ []) (b ∷ a ∷ []) (IsPermutation-append_comm (a ∷ []) (b ∷ []))

-- by their values
abbrev IsAfter : Entry → Entry → Type 0
IsAfter e d = e.value < d.value

-- a value put into a ranked list, which has greater values alone
put : (e : Entry) (es : List Entry) → Each (IsAfter e) es → IsStrictlySortedBy rank es
    → (ranked : List Entry) × AreRanked (e ∷ es) ranked
put e [] greater sorted = (e ∷ [], record { same = IsPermutation-refl (e ∷ []); ordered = sorted-cons rank e [] tt (sorted-nil rank) })
put e (d ∷ es) greater sorted =
    let after : Each (IsBefore d) es = sorted-head rank d es sorted in
    ⊎_elim
    (λ (first : IsBefore e d). (
      e ∷ d ∷ es,
      record {
        same = IsPermutation-refl (e ∷ d ∷ es);
        ordered = sorted-cons rank e (d ∷ es) (first, each_weaker (IsBefore d) (IsBefore e) (λ f h. rank_total.trans e d f first h) es after) sorted;
      },
    ))
    (λ (first : IsBefore d e).
    let r : (ranked : List Entry) × AreRanked (e ∷ es) ranked = put e es greater.1 (sorted-tail rank d es sorted) in
    let moved : All (IsBefore d) r.0 = All-permutation (IsBefore d) (e ∷ es) r.0 r.1.same (All-from_recursion (IsBefore d) (e ∷ es) (first, after)) in (
      d ∷ r.0,
      record {
        same = IsPermutation-trans (e ∷ d ∷ es) (d ∷ e ∷ es) (d ∷ r.0) (exchanged e d es) (IsPermutation-cons d (e ∷ es) r.0 r.1.same);
        ordered = sorted-cons rank d r.0 (recursion_from_All (IsBefore d) r.0 moved) r.1.ordered;
      },
    ))
    (one_first e d greater.0)

abbrev IsFrom : ℕ → Entry → Type 0
IsFrom low e = low ≤ e.value

above_all : (low : ℕ) (es : List Entry) → Above low es → Each (IsFrom low) es
above_all low [] above = tt
above_all low (e ∷ es) (from, some, rest) =
    (from, each_weaker (IsFrom (e.value + 1)) (IsFrom low) (λ d h. omega (arith, from, h)) es (above_all (e.value + 1) es rest))

some_from : (low : ℕ) (column : List Entry) → Above low column → (ranked : List Entry) × AreRanked column ranked
some_from low [] above = ([], record { same = IsPermutation-refl []; ordered = sorted-nil rank })
some_from low (e ∷ es) (from, some, rest) =
    let r : (ranked : List Entry) × AreRanked es ranked = some_from (e.value + 1) es rest in
    let above : Each (IsAfter e) es = each_weaker (IsFrom (e.value + 1)) (IsAfter e) (λ d h. omega (arith, h)) es (above_all (e.value + 1) es rest) in
    let greater : All (IsAfter e) r.0 = All-permutation (IsAfter e) es r.0 r.1.same (All-from_recursion (IsAfter e) es above) in
    let p : (ranked : List Entry) × AreRanked (e ∷ r.0) ranked = put e r.0 (recursion_from_All (IsAfter e) r.0 greater) r.1.ordered in
    (p.0, record { same = IsPermutation-trans (e ∷ es) (e ∷ r.0) p.0 (IsPermutation-cons e es r.0 r.1.same) p.1.same; ordered = p.1.ordered })

pub some_order : (column : List Entry) → IsColumn column → (ranked : List Entry) × AreRanked column ranked
some_order column is = some_from 0 column (above_column column is)
