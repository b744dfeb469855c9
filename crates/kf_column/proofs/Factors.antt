-- A column divided by the greatest common divisor of its weights is an inner.
use Rattle.std.proofs.Common.{◌≡◌, ℕ, ◌+◌, ◌*◌, ◌/◌, ◌<◌, ◌≤◌, List, [], ◌∷◌, All, map, refl, sym, subst, arith, suc, zero, length, get_or, take, Some}
use Rattle.std.proofs.Math.Nat.{mul-dvd-mul_left, dvd_of_mul-dvd-mul_left, mul-div_cancel', pos_of_dvd_of_pos, eq-one_of_dvd-one, one-dvd, div-one}
use Rattle.std.proofs.lemmas.Nat.Gcd.{dvd_trans, dvd-zero}
use Rattle.std.proofs.lemmas.List.Elements.{All-head, All-tail, All-nil, All-cons, All-weaker, All-more, All-pop, All-take}
use Rattle.std.proofs.lemmas.List.{take_more, take_all}
use Rattle.std.specs.List.Sorted.{IsStrictlyIncreasing}
use Rattle.std.specs.Int.{IsGcd, ◌∣◌}
use Rattle.kf_frac.specs.Divisors.{gcd_of}
use Rattle.kf_frac.proofs.CommonDivisors.{gcd_is}
use Rattle.kf_column.specs.declared.entry.Entry.{Entry}
use Rattle.kf_column.specs.Columns.{IsColumn}
use Rattle.kf_column.specs.Classes.{IsCommonFactor, IsReduced}
use Rattle.kf_column.specs.Averages.{scaled}

pub factor_none : (entries : List Entry) → IsCommonFactor 0 (take 0 entries)
factor_none entries = record { divides = All-nil (λ (e : Entry). 0 ∣ e.weight); greatest = λ d all. dvd-zero d }

pub factor_more : (entries : List Entry) (i factor now : ℕ) (d : Entry) → i < length entries → IsCommonFactor factor (take i entries) → now ≡ gcd_of factor (get_or entries i d).weight → IsCommonFactor now (take (i + 1) entries)
factor_more entries i factor now d within had is =
    let w : ℕ = (get_or entries i d).weight in
    let gcd : IsGcd factor w now = subst (IsGcd factor w) (sym is) (gcd_is factor w) in
    record {
      divides = All-more (λ (e : Entry). now ∣ e.weight) entries i d within
          (All-weaker (λ (e : Entry). factor ∣ e.weight) (λ (e : Entry). now ∣ e.weight) (λ e h. dvd_trans now gcd.0 h) (take i entries) had.divides) gcd.1;
      greatest = λ k all. let parts = All-pop (λ (e : Entry). k ∣ e.weight) (take (i + 1) entries) (take i entries) (Some (get_or entries i d)) (take_more entries i d within) all in gcd.2 k (had.greatest k parts.0) parts.1;
    }

pub factor_all : (entries : List Entry) (i factor : ℕ) → length entries ≤ i → IsCommonFactor factor (take i entries) → IsCommonFactor factor entries
factor_all entries i factor past had = subst (IsCommonFactor factor) (take_all i entries past) had

-- the entry with its weight divided
abbrev pub quotient : ℕ → Entry → Entry
quotient factor e = record { value = e.value; weight = e.weight / factor }

pub some_factor : (factor : ℕ) (entries : List Entry) → IsCommonFactor factor entries → IsColumn entries → 0 < factor
some_factor factor [] is column = absurd (column.some refl)
some_factor factor (e ∷ es) is column =
    pos_of_dvd_of_pos (All-head (λ (e : Entry). factor ∣ e.weight) e es is.divides) (All-head (λ (e : Entry). 0 < e.weight) e es column.positive)

same_values : (factor : ℕ) (entries : List Entry) → map (λ (e : Entry). e.value) (map (quotient factor) entries) ≡ map (λ (e : Entry). e.value) entries
same_values factor [] = refl
same_values factor (e ∷ es) = λ i. e.value ∷ same_values factor es i

positive_quotient : (factor w : ℕ) → factor ∣ w → 0 < w → 0 < w / factor
positive_quotient factor w divides some = by (w / factor) (mul-div_cancel' factor divides)
  where
    by : (q : ℕ) → factor * q ≡ w → 0 < q
    by zero e = omega arith
    by (suc q) e = omega arith

pub multiplied : (factor : ℕ) (entries : List Entry) → All (λ (e : Entry). factor ∣ e.weight) entries → entries ≡ map (scaled factor) (map (quotient factor) entries)
multiplied factor [] divides = refl
multiplied factor (e ∷ es) divides =
    let here : factor * (e.weight / factor) ≡ e.weight = mul-div_cancel' factor (All-head (λ (e : Entry). factor ∣ e.weight) e es divides) in
    let rest = multiplied factor es (All-tail (λ (e : Entry). factor ∣ e.weight) e es divides) in
    λ i. record { value = e.value; weight = sym here i } ∷ rest i

positive_quotients : (factor : ℕ) (entries : List Entry) → All (λ (e : Entry). factor ∣ e.weight) entries → All (λ (e : Entry). 0 < e.weight) entries → All (λ (e : Entry). 0 < e.weight) (map (quotient factor) entries)
positive_quotients factor [] divides positive = All-nil (λ (e : Entry). 0 < e.weight)
positive_quotients factor (e ∷ es) divides positive =
    All-cons (λ (e : Entry). 0 < e.weight) (quotient factor e) (map (quotient factor) es)
    (positive_quotient factor e.weight (All-head (λ (e : Entry). factor ∣ e.weight) e es divides) (All-head (λ (e : Entry). 0 < e.weight) e es positive))
    (positive_quotients factor es (All-tail (λ (e : Entry). factor ∣ e.weight) e es divides) (All-tail (λ (e : Entry). 0 < e.weight) e es positive))

-- what divides all quotients divides 1
back : (factor d : ℕ) (entries : List Entry) → All (λ (e : Entry). factor ∣ e.weight) entries → All (λ (e : Entry). d ∣ e.weight) (map (quotient factor) entries) → All (λ (e : Entry). factor * d ∣ e.weight) entries
back factor d [] divides all = All-nil (λ (e : Entry). factor * d ∣ e.weight)
back factor d (e ∷ es) divides all =
    All-cons (λ (e : Entry). factor * d ∣ e.weight) e es
    (subst (λ (n : ℕ). factor * d ∣ n) (mul-div_cancel' factor (All-head (λ (e : Entry). factor ∣ e.weight) e es divides))
    (mul-dvd-mul_left d factor (All-head (λ (e : Entry). d ∣ e.weight) (quotient factor e) (map (quotient factor) es) all)))
    (back factor d es (All-tail (λ (e : Entry). factor ∣ e.weight) e es divides) (All-tail (λ (e : Entry). d ∣ e.weight) (quotient factor e) (map (quotient factor) es) all))

nothing_left : (entries : List Entry) (factor : ℕ) → map (quotient factor) entries ≡ [] → entries ≡ []
nothing_left [] factor e = refl
nothing_left (x ∷ xs) factor e = absurd (cc)

pub reduced_is : (factor : ℕ) (entries : List Entry) → IsCommonFactor factor entries → IsColumn entries → IsReduced entries (map (quotient factor) entries)
reduced_is factor entries is column =
    let some : 0 < factor = some_factor factor entries is column in
    record {
      factor = factor;
      some = some;
      multiple = multiplied factor entries is.divides;
      is_inner = record {
        column = record {
          some = λ none. column.some (nothing_left entries factor none);
          ascending = subst IsStrictlyIncreasing (sym (same_values factor entries)) column.ascending;
          positive = positive_quotients factor entries is.divides column.positive;
        };
        reduced = λ d all.
            let both : factor * d ∣ factor = is.greatest (factor * d) (back factor d entries is.divides all) in
            eq-one_of_dvd-one (dvd_of_mul-dvd-mul_left {k = factor} d {n = 1} some (subst (λ (n : ℕ). factor * d ∣ n) (omega arith) both));
      };
    }

-- where the first so many have no common factor, all have none
pub factor_one : (entries : List Entry) (i factor : ℕ) → factor ≡ 1 → IsCommonFactor factor (take i entries) → IsCommonFactor factor entries
factor_one entries i factor one had = record {
  divides = λ k d within. subst (λ (n : ℕ). n ∣ (get_or entries k d).weight) (sym one) (one-dvd (get_or entries k d).weight);
  greatest = λ d all. had.greatest d (All-take (λ (e : Entry). d ∣ e.weight) i entries all);
}

quotient_one : (entries : List Entry) → map (quotient 1) entries ≡ entries
quotient_one [] = refl
quotient_one (e ∷ es) = λ i. record { value = e.value; weight = div-one e.weight i } ∷ quotient_one es i

-- a column without common factor is an inner
pub already_reduced : (factor : ℕ) (column entries : List Entry) → entries ≡ column → factor ≡ 1 → IsCommonFactor factor entries → IsColumn column → IsReduced column column
already_reduced factor column entries same one is column' =
    let alone : IsCommonFactor 1 column = subst (λ (n : ℕ). IsCommonFactor n column) one (subst (IsCommonFactor factor) same is) in
    subst (IsReduced column) (quotient_one column) (reduced_is 1 column alone column')
