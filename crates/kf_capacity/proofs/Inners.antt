-- Cells of a hyper's inners, in place of those of a channel's columns.
use Rattle.std.proofs.Common.{◌≡◌, ℕ, suc, ◌*◌, ◌/◌, ◌^◌, ◌<◌, ◌≤◌, List, [], ◌∷◌, All, map, length, get_or, refl, sym, ◌∙◌, ap, subst, arith, ⊎_elim, ℤ, pos, Result, Ok, Err, IfOk, IfSome}
use Rattle.std.proofs.Math.Nat.{div-mul_cancel, mul-pos}
use Rattle.std.proofs.lemmas.Bool.{cases_eq}
use Rattle.std.proofs.lemmas.List.{get_or-map, length-map}
use Rattle.std.proofs.lemmas.List.Elements.{All-contains, All-map}
use Rattle.std.proofs.lemmas.List.Sums.{get_or-le-sum_by}
use Rattle.std.proofs.lemmas.Nat.Gcd.{le_of_dvd}
use Rattle.std.specs.Int.{◌∣◌}
use Rattle.std.specs.List.{Contains}
use Rattle.std.specs.Result.{result_ok}
use Rattle.kf_frac.specs.declared.frac.Frac.{Frac}
use Rattle.kf_frac.specs.Fractions.{limit, reduced_num, reduced_den}
use Rattle.kf_frac.specs.Parts.{IsFraction}
use Rattle.kf_frac.specs.Views.{num_of, den_of}
use Rattle.kf_column.specs.declared.entry.Entry.{Entry}
use Rattle.kf_column.specs.Columns.{IsColumn, weight_at, total, values}
use Rattle.kf_column.specs.Hypers.{Inner, IsInner}
use Rattle.kf_column.specs.Averages.{average_weight, joint_weight}
use Rattle.kf_column.specs.Shapes.{IsShape}
use Rattle.kf_column.proofs.Scaling.{total_positive}
use Rattle.kf_column.proofs.Weights.{weight_at_other}
use Rattle.kf_hyper.proofs.Searching.{weight_found}
use Rattle.kf_capacity.specs.Beliefs.{IsWholeIn, belief_capacity, greatest_cell}
use Rattle.kf_capacity.specs.Vulnerabilities.{greatest}
use Rattle.kf_capacity.proofs.OwnDenominators.{positive_factor, same_maps}

none : Entry
none = record { value = 0; weight = 0 }

-- a value of some weight has an entry
entry_of : (column : List Entry) (x : ℕ) → 0 < weight_at column x → (k : ℕ) × (k < length column) × ((get_or column k none).value ≡ x)
entry_of [] x some = absurd (omega (arith, some))
entry_of (e ∷ es) x some = ⊎_elim
    (λ (h : e.value ≡ x). (0, omega arith, h))
    (λ (h : e.value ≡ x → ⊥). let later = entry_of es x (subst (λ w. 0 < w) (weight_at_other e es x h) some) in
    let m = later.1 in (suc later.0, omega (arith, m), later.2))
    (cases_eq e.value x)

module _ (inners : List Inner) (column : List Entry) (same : (x : ℕ) → weight_at column x ≡ average_weight inners x) where
  module _ (is : IsColumn column) (n : ℕ) where
    weighs_alike : (k : ℕ) → k < length column → average_weight inners (get_or column k none).value ≡ (get_or column k none).weight
    weighs_alike k within = sym (same (get_or column k none).value) ∙ weight_found column (get_or column k none).value k none is within refl

    divides : All (λ e. e.weight ∣ n) column → (x : ℕ) → 0 < average_weight inners x → average_weight inners x ∣ n
    divides all x some =
        let here = entry_of column x (subst (λ w. 0 < w) (sym (same x)) some) in
        let alike : average_weight inners x ≡ (get_or column here.0 none).weight = subst (λ y. average_weight inners y ≡ (get_or column here.0 none).weight) here.2 (weighs_alike here.0 here.1) in
        subst (λ w. w ∣ n) (sym alike) (all here.0 none here.1)

    listed : (x : ℕ) → 0 < average_weight inners x → Contains (values column) x
    listed x some =
        let here = entry_of column x (subst (λ w. 0 < w) (sym (same x)) some) in
        let inside : here.0 < length (values column) = subst (λ k. here.0 < k) (sym (length-map column (λ (e : Entry). e.value))) here.1 in
        (here.0, inside, get_or-map (λ (e : Entry). e.value) column here.0 none x here.1 ∙ here.2)

    weighs_some : (x : ℕ) → Contains (values column) x → 0 < average_weight inners x
    weighs_some x has =
        let positive : All (λ y. 0 < average_weight inners y) (values column) =
        All-map (λ y. 0 < average_weight inners y) (λ (e : Entry). e.value) column
        (λ k d within. subst (λ w. 0 < w) (same (get_or column k d).value) (subst (λ w. 0 < w) (sym (weight_found column (get_or column k d).value k d is within refl)) (is.positive k d within))) in
        All-contains (λ y. 0 < average_weight inners y) (values column) x positive has

    -- a common multiple of the column's weights, of which as many as it has entries are within the limit
    pub whole_in : 0 < n → All (λ e. e.weight ∣ n) column → n * length column ≤ limit → IsWholeIn inners n
    whole_in some all narrow = record {
      positive = some;
      multiple = divides all;
      values = values column;
      ascending = is.ascending;
      listed = λ x. (weighs_some x, listed x);
      narrow = subst (λ k. n * k ≤ limit) (sym (length-map column (λ (e : Entry). e.value))) narrow;
    }

  -- ---- an inner

  module _ (size scale : ℕ) (shape : IsShape size scale inners) (i : ℕ) (no : Inner) (inside : i < length inners) where
    abbrev inner : Inner
    inner = get_or inners i no

    abbrev times : ℕ
    times = inner.total / total inner.entries

    is_inner : IsInner inner.entries
    is_inner = shape.inner i no inside

    used : 0 < inner.total
    used = shape.used i no inside

    whole : total inner.entries ∣ inner.total
    whole = shape.multiple i no inside

    pub sum_some : 0 < total inner.entries
    sum_some = total_positive inner.entries is_inner.column

    pub sum_fits : total inner.entries < 2 ^ 128
    sum_fits =
        let part : inner.total ≤ scale = subst (λ m. inner.total ≤ m) shape.whole (get_or-le-sum_by (λ (j : Inner). j.total) inners i no inside) in
        omega (arith, le_of_dvd used whole, part, shape.narrow)

    times_some : 0 < times
    times_some = positive_factor times (total inner.entries) inner.total (div-mul_cancel (total inner.entries) whole) used

    weighs : (k : ℕ) (d : Entry) → k < length inner.entries → (get_or inner.entries k d).weight * times ≡ joint_weight (get_or inner.entries k d).value inner
    weighs k d within = sym (ap (λ w. w * times) (weight_found inner.entries (get_or inner.entries k d).value k d is_inner.column within refl))

    -- what an inner gives to a value is no more than what all give to it
    pub parts : All (λ e. e.weight * times ≤ weight_at column e.value) inner.entries
    parts k d within =
        let x : ℕ = (get_or inner.entries k d).value in
        let part : joint_weight x inner ≤ average_weight inners x = get_or-le-sum_by (joint_weight x) inners i no inside in
        subst (λ w. w ≤ weight_at column x) (sym (weighs k d within)) (subst (λ w. joint_weight x inner ≤ w) (sym (same x)) part)

    pub wholes : All (λ e. 0 < weight_at column e.value) inner.entries
    wholes k d within =
        let w : ℕ = (get_or inner.entries k d).weight in
        let some : 0 < w * times = mul-pos (is_inner.column.positive k d within) times_some in
        omega (arith, some, parts k d within)

    pub greatest_is : (n : ℕ) → greatest (map (λ e. e.weight * times * (n / weight_at column e.value)) inner.entries) ≡ greatest_cell n inners inner
    greatest_is n =
        ap greatest
        (same_maps (λ e. e.weight * times * (n / weight_at column e.value)) (λ e. joint_weight e.value inner * (n / average_weight inners e.value)) inner.entries
        (λ k d within. λ j. weighs k d within j * (n / same (get_or inner.entries k d).value j)))

-- the fraction that is made of the sum of the greatest cells, where one is made
pub capacity_made : {E : Type 0} (r : Result Frac E) (inners : List Inner) (z : ℤ) (n : ℕ) → IsWholeIn inners n → z ≡ pos (belief_capacity n inners)
    → IfOk r (λ f. num_of f ≡ reduced_num z n) → IfOk r (λ f. den_of f ≡ reduced_den z n)
    → IfSome (result_ok r) (λ f. (m : ℕ) × IsWholeIn inners m × IsFraction f (pos (belief_capacity m inners)) m)
capacity_made (Ok f) inners z n is_whole is num den =
    (n, is_whole, record { num = num ∙ ap (λ y. reduced_num y n) is; den = den ∙ ap (λ y. reduced_den y n) is })
capacity_made (Err e) inners z n is_whole is num den = tt
