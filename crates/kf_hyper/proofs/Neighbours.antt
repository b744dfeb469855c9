-- Equal neighbours in a list whose values never fall, added up one after the other.
use Rattle.std.proofs.Common.{◌≡◌, ℕ, ◌+◌, ◌<◌, ◌≤◌, ◌==◌, suc, List, [], ◌∷◌, ◌++◌, Bool, true, false, refl, sym, ◌∙◌, ap, subst, arith, eq-eqb, length, get_or, take, drop, drop-cons, if◌then◌else◌, ⊎_elim}
use Rattle.std.proofs.lemmas.Bool.{cases_eq, ne_eqb}
use Rattle.std.proofs.lemmas.List.Sorted.{sum_by-IsPermutation, All-permutation}
use Rattle.std.proofs.lemmas.List.{take_more, get_or_default, drop_all}
use Rattle.std.proofs.lemmas.List.Sums.{sum_by-cons, sum_by-append}
use Rattle.std.proofs.lemmas.List.Elements.{All-head, All-tail, All-cons}
use Rattle.std.specs.List.Sorted.{IsNonDecreasingBy, IsPermutation}
use Rattle.kf_column.specs.declared.entry.Entry.{Entry}
use Rattle.kf_column.specs.Columns.{IsColumn, total}
use Rattle.kf_column.specs.Shapes.{IsBelow}
use Rattle.kf_hyper.specs.Sums.{ArePositive, asked_weight, Gathers}
use Rattle.kf_column.proofs.Weights.{Above, column_above}

abbrev pub nothing : Entry
nothing = record { value = 0; weight = 0 }

-- an entry with so much weight more
abbrev pub heavier : Entry → ℕ → Entry
heavier e more = record { value = e.value; weight = e.weight + more }

-- the entries behind a first one, each added to the one before where it has the same value
abbrev pub joined : Entry → List Entry → List Entry
joined first [] = first ∷ []
joined first (e ∷ es) = if e.value == first.value then joined (heavier first e.weight) es else first ∷ joined e es

-- what is done, and what the rest will be joined to
abbrev pub half_joined : ℕ → ℕ → List Entry → List Entry
half_joined last i es = take last es ++ joined (get_or es last nothing) (drop i es)

-- the values never fall from `low` on, and each weight is above 0
abbrev pub Climbs : ℕ → List Entry → Type 0
Climbs low [] = Unit {0}
Climbs low (e ∷ es) = (low ≤ e.value) × (0 < e.weight) × Climbs e.value es

pub climbs : (low : ℕ) (es : List Entry) → (0 < length es → low ≤ (get_or es 0 nothing).value) → IsNonDecreasingBy (λ (e : Entry). e.value) es → ArePositive es → Climbs low es
climbs low [] from rises positive = tt
climbs low (e ∷ es) from rises positive = (
  from (omega arith),
  All-head (λ (e : Entry). 0 < e.weight) e es positive,
  climbs e.value es (λ some. rises 0 1 nothing (omega arith) (omega (arith, some))) (λ i j d order within. rises (suc i) (suc j) d (omega (arith, order)) (omega (arith, within)))
      (All-tail (λ (e : Entry). 0 < e.weight) e es positive),
)

split : {P : Type 0} (e first : Entry) → (e.value ≡ first.value → P) → ((e.value ≡ first.value → ⊥) → P) → P
split e first same other = ⊎_elim same other (cases_eq e.value first.value)

join_same : (first e : Entry) (es : List Entry) → e.value ≡ first.value → joined first (e ∷ es) ≡ joined (heavier first e.weight) es
join_same first e es same = rw (eq-eqb e.value first.value same) refl

join_other : (first e : Entry) (es : List Entry) → (e.value ≡ first.value → ⊥) → joined first (e ∷ es) ≡ first ∷ joined e es
join_other first e es other = rw (ne_eqb e.value first.value other) refl

asked_more : (b : Bool) (m n k : ℕ) → (if b then m + n else 0) + k ≡ (if b then m else 0) + ((if b then n else 0) + k)
asked_more true m n k = omega arith
asked_more false m n k = omega arith

asked-cons : (asked : ℕ → Bool) (e : Entry) (es : List Entry) → asked_weight asked (e ∷ es) ≡ (if asked e.value then e.weight else 0) + asked_weight asked es
asked-cons asked e es = sum_by-cons (λ (e : Entry). if asked e.value then e.weight else 0) e es

-- joining keeps what the values weigh
pub joined_weighs : (asked : ℕ → Bool) (first : Entry) (es : List Entry) → asked_weight asked (joined first es) ≡ asked_weight asked (first ∷ es)
joined_weighs asked first [] = refl
joined_weighs asked first (e ∷ es) =
    split e first
    (λ same. ap (asked_weight asked) (join_same first e es same) ∙ joined_weighs asked (heavier first e.weight) es
    ∙ asked-cons asked (heavier first e.weight) es
    ∙ asked_more (asked first.value) first.weight e.weight (asked_weight asked es)
    ∙ ap (λ (v : ℕ). (if asked first.value then first.weight else 0) + ((if asked v then e.weight else 0) + asked_weight asked es)) (sym same)
    ∙ ap (λ (n : ℕ). (if asked first.value then first.weight else 0) + n) (sym (asked-cons asked e es)) ∙ sym (asked-cons asked first (e ∷ es)))
    (λ other. ap (asked_weight asked) (join_other first e es other) ∙ asked-cons asked first (joined e es)
    ∙ ap (λ (n : ℕ). (if asked first.value then first.weight else 0) + n) (joined_weighs asked e es) ∙ sym (asked-cons asked first (e ∷ es)))

pub joined_below : (size : ℕ) (first : Entry) (es : List Entry) → first.value < size → IsBelow size es → IsBelow size (joined first es)
joined_below size first [] low below = All-cons (λ (e : Entry). e.value < size) first [] low below
joined_below size first (e ∷ es) low below =
    let here = All-head (λ (e : Entry). e.value < size) e es below in
    let rest = All-tail (λ (e : Entry). e.value < size) e es below in
    split e first
    (λ same. subst (IsBelow size) (sym (join_same first e es same)) (joined_below size (heavier first e.weight) es low rest))
    (λ other. subst (IsBelow size) (sym (join_other first e es other)) (All-cons (λ (e : Entry). e.value < size) first (joined e es) low (joined_below size e es here rest)))

pub joined_above : (low : ℕ) (first : Entry) (es : List Entry) → low ≤ first.value → 0 < first.weight → Climbs first.value es → Above low (joined first es)
joined_above low first [] from some climb = (from, some, tt)
joined_above low first (e ∷ es) from some (here, positive, climb) =
    split e first
    (λ same. subst (Above low) (sym (join_same first e es same)) (joined_above low (heavier first e.weight) es from (omega (arith, some)) (subst (λ (v : ℕ). Climbs v es) same climb)))
    (λ other. subst (Above low) (sym (join_other first e es other)) (from, some, joined_above (first.value + 1) e es (omega (arith, here, other)) positive climb))

-- a list whose values never fall is joined to its column
pub joined_gathers : (first : Entry) (es : List Entry) → Gathers (first ∷ es) (joined first es)
joined_gathers first es = record {
  weights = λ asked. joined_weighs asked first es;
  total = joined_weighs (λ _. true) first es;
  below = λ size below. joined_below size first es (All-head (λ (e : Entry). e.value < size) first es below) (All-tail (λ (e : Entry). e.value < size) first es below);
}

none_joined : (first : Entry) (es : List Entry) → 0 < total (first ∷ es) → joined first es ≡ [] → ⊥
none_joined first es some none = omega (arith, some, joined_weighs (λ _. true) first es, ap total none)

pub joined_column : (first : Entry) (es : List Entry) → 0 < total (first ∷ es) → IsNonDecreasingBy (λ (e : Entry). e.value) (first ∷ es) → ArePositive (first ∷ es) → IsColumn (joined first es)
joined_column first es some rises positive =
    let climb = climbs 0 (first ∷ es) (λ _. omega arith) rises positive in
    column_above 0 (joined first es) (joined_above 0 first es (omega arith) climb.1 climb.2) (none_joined first es some)

-- where nothing is left, what is done is all
all_joined : (last i : ℕ) (es : List Entry) → last < length es → length es ≤ i → half_joined last i es ≡ take (last + 1) es
all_joined last i es within past = ap (λ (l : List Entry). take last es ++ joined (get_or es last nothing) l) (drop_all i es past) ∙ sym (take_more es last nothing within)

module _ (start es : List Entry) (last i : ℕ) (some : 0 < total start) (all : half_joined last i es ≡ half_joined 0 1 start) where
  module _ (within : last < length es) (past : length es ≤ i) where
    pub added_gathers : Gathers start (take (last + 1) es)
    added_gathers = by start some (sym (all_joined last i es within past) ∙ all)
      where
        by : (start : List Entry) → 0 < total start → take (last + 1) es ≡ half_joined 0 1 start → Gathers start (take (last + 1) es)
        by [] some is = absurd (omega (arith, some))
        by (first ∷ rest) some is = subst (Gathers (first ∷ rest)) (sym is) (joined_gathers first rest)

    pub added_column : IsNonDecreasingBy (λ (e : Entry). e.value) start → ArePositive start → IsColumn (take (last + 1) es)
    added_column = by start some (sym (all_joined last i es within past) ∙ all)
      where
        by : (start : List Entry) → 0 < total start → take (last + 1) es ≡ half_joined 0 1 start → IsNonDecreasingBy (λ (e : Entry). e.value) start → ArePositive start → IsColumn (take (last + 1) es)
        by [] some is rises positive = absurd (omega (arith, some))
        by (first ∷ rest) some is rises positive = subst IsColumn (sym is) (joined_column first rest some rises positive)

  half_total : total (half_joined 0 1 start) ≡ total start
  half_total = by start some
    where
      by : (start : List Entry) → 0 < total start → total (half_joined 0 1 start) ≡ total start
      by [] some = absurd (omega (arith, some))
      by (first ∷ rest) some = joined_weighs (λ _. true) first rest

  -- the next weight fits where all do
  pub pair_fits : (first e : Entry) → first ≡ get_or es last first → e ≡ get_or es i e → last < i → i < length es → first.weight + e.weight ≤ total start
  pair_fits first e first_is e_is before within =
      let apart : total (half_joined last i es) ≡ total (take last es) + total (joined (get_or es last nothing) (drop i es)) = sum_by-append (λ (e : Entry). e.weight) (take last es) (joined (get_or es last nothing) (drop i es)) in
      let front : total (joined (get_or es last nothing) (drop i es)) ≡ total (get_or es last nothing ∷ drop i es) = joined_weighs (λ _. true) (get_or es last nothing) (drop i es) in
      let one = sum_by-cons (λ (e : Entry). e.weight) (get_or es last nothing) (drop i es) in
      let head : total (drop i es) ≡ total (e ∷ drop (suc i) es) = ap total (drop-cons es i e within) ∙ ap (λ (e : Entry). total (e ∷ drop (suc i) es)) (sym e_is) in
      let two = sum_by-cons (λ (e : Entry). e.weight) e (drop (suc i) es) in
      let same : first ≡ get_or es last nothing = first_is ∙ get_or_default es last first nothing (omega (arith, before, within)) in
      omega (arith, apart, front, one, head, two, ap (λ (e : Entry). e.weight) same, ap total all, half_total)

pub some_entry : (es : List Entry) → 0 < total es → 0 < length es
some_entry [] some = absurd (omega (arith, some))
some_entry (e ∷ es) some = omega arith

-- sums of a list in another order are those of the list
pub gathers_sorted : (entries sorted sums : List Entry) → IsPermutation entries sorted → Gathers sorted sums → Gathers entries sums
gathers_sorted entries sorted sums same had = record {
  weights = λ asked. had.weights asked ∙ sum_by-IsPermutation (λ (e : Entry). if asked e.value then e.weight else 0) entries sorted same;
  total = had.total ∙ sum_by-IsPermutation (λ (e : Entry). e.weight) entries sorted same;
  below = λ size all. had.below size (All-permutation (λ (e : Entry). e.value < size) entries sorted same all);
}
