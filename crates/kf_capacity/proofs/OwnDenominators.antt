-- The least common multiple of the secrets' own denominators is that of all cells, and weights are brought to n-ths by their divisors.
use Rattle.std.proofs.Common.{◌≡◌, ℕ, zero, suc, ◌+◌, ◌*◌, ◌/◌, ◌<◌, ◌≤◌, pos, List, [], ◌∷◌, All, map, drop, length, get_or, refl, sym, ◌∙◌, ap, subst, arith}
use Rattle.std.proofs.Math.Nat.{div-mul_cancel, dvd-mul_left, mul-div-le, mul-dvd-mul, mul-dvd-mul_left, mul-le-mul_right, dvd_of_mul-dvd-mul_right, mul-div_cancel_left}
use Rattle.std.proofs.lemmas.List.{at_drop_more, get_or-map, length-map}
use Rattle.std.proofs.lemmas.List.Elements.{All-nil, All-cons, All-head, All-tail, All-map, All-weaker, All-drop, All-from_get_or}
use Rattle.std.proofs.lemmas.Nat.Gcd.{dvd_refl, dvd_trans, dvd_antisymm, dvd-zero}
use Rattle.std.specs.Int.{◌∣◌}
use Rattle.kf_frac.specs.Divisors.{gcd_of, lcm_of, common_multiple}
use Rattle.kf_frac.specs.Fractions.{limit, reduced_den, parts_of}
use Rattle.kf_frac.specs.Laws.{multiple_from}
use Rattle.kf_frac.proofs.CommonDivisors.{gcd_is, gcd_multiples}
use Rattle.kf_frac.proofs.CommonMultiples.{lcm_is}
use Rattle.kf_frac.proofs.LowestTerms.{reduced_num_abs, reduced_den_is}
use Rattle.kf_frac.proofs.Multiples.{ArePositive, growing, from_one, common_divided}
use Rattle.kf_column.specs.Columns.{weight_at}
use Rattle.kf_column.specs.Traces.{Row, value_weight}
use Rattle.kf_capacity.specs.declared.divided.DividedSecret.{DividedSecret}
use Rattle.kf_capacity.specs.declared.scales.SecretScale.{SecretScale}
use Rattle.kf_capacity.specs.Dens.{column_dens, dens}
use Rattle.kf_capacity.specs.Divided.{divisor_from, divided, den_of, scale_of, number_in}
use Rattle.kf_capacity.specs.Grids.{ChannelTree, cell_den, column_in, denominator}
use Rattle.kf_capacity.proofs.Channels.{cells_divide, cell_fits, part_fits}
use Rattle.kf_capacity.proofs.Denominators.{AllWeigh, common_divides, dens_positive}
use Rattle.kf_capacity.proofs.Dividing.{mapped_twice}
use Rattle.kf_capacity.proofs.Pieces.{from_pieces}

-- ---- what a number has in common with others

from_start : (d : ℕ) (ws : List ℕ) → divisor_from d ws ∣ d
from_start d [] = dvd_refl d
from_start d (w ∷ ws) = dvd_trans (divisor_from (gcd_of d w) ws) (from_start (gcd_of d w) ws) (gcd_is d w).0

from_each : (d : ℕ) (ws : List ℕ) → All (λ w. divisor_from d ws ∣ w) ws
from_each d [] = All-nil (λ w. d ∣ w)
from_each d (w ∷ ws) =
    let g : ℕ = divisor_from (gcd_of d w) ws in
    All-cons (λ v. g ∣ v) w ws (dvd_trans g (from_start (gcd_of d w) ws) (gcd_is d w).1) (from_each (gcd_of d w) ws)

-- what divides k times each of them divides k times that
from_most : (k m d : ℕ) (ws : List ℕ) → m ∣ k * d → All (λ w. m ∣ k * w) ws → m ∣ k * divisor_from d ws
from_most k m d [] here all = here
from_most k m d (w ∷ ws) here all =
    let both : m ∣ gcd_of (k * d) (k * w) = (gcd_is (k * d) (k * w)).2 m here (All-head (λ w. m ∣ k * w) w ws all) in
    from_most k m (gcd_of d w) ws (subst (λ n. m ∣ n) (gcd_multiples k d w) both) (All-tail (λ w. m ∣ k * w) w ws all)

positive_divisor : (d n : ℕ) → 0 < n → d ∣ n → 0 < d
positive_divisor zero n some h = absurd (omega (arith, some, dvd_antisymm (dvd-zero n) h))
positive_divisor (suc d) n some h = omega arith

pub positive_factor : (q d n : ℕ) → q * d ≡ n → 0 < n → 0 < q
positive_factor zero d n is some = omega arith
positive_factor (suc q) d n is some = omega arith

-- ---- a secret of some weight

module _ (whole : ℕ) (some : 0 < whole) where
  -- the less it is divided by, the more is left
  quotient_divides : (d g : ℕ) → d ∣ g → g ∣ whole → whole / g ∣ whole / d
  quotient_divides d g small large =
      let divides : d ∣ whole = dvd_trans d small large in
      dvd_of_mul-dvd-mul_right {k = d} (whole / g) {n = whole / d} (positive_divisor d whole some divides)
      (subst (λ n. whole / g * d ∣ n) (div-mul_cancel g large ∙ sym (div-mul_cancel d divides)) (mul-dvd-mul_left d (whole / g) small))

  cell_divides : (d w : ℕ) → d ∣ w → d ∣ whole → reduced_den (pos w) whole ∣ whole / d
  cell_divides d w part all =
      subst (λ n. n ∣ whole / d) (sym (reduced_den_is (pos w) whole))
      (quotient_divides d (gcd_of w whole) ((gcd_is w whole).2 d part all) (gcd_is w whole).1)

  whole_divides : (n w : ℕ) → reduced_den (pos w) whole ∣ n → whole ∣ n * w
  whole_divides n w h =
      let g : ℕ = gcd_of w whole in
      subst (λ k. k ∣ n * w) (div-mul_cancel g (gcd_is w whole).1)
      (mul-dvd-mul (whole / g) g (subst (λ k. k ∣ n) (reduced_den_is (pos w) whole) h) (gcd_is w whole).0)

  -- its own denominator divides what those of its cells divide
  own_divides : (n : ℕ) (ws : List ℕ) → All (λ w. reduced_den (pos w) whole ∣ n) ws → whole / divisor_from whole ws ∣ n
  own_divides n ws all =
      let d : ℕ = divisor_from whole ws in
      let most : whole ∣ n * d =
      from_most n whole whole ws (dvd-mul_left whole n)
      (All-weaker (λ w. reduced_den (pos w) whole ∣ n) (λ w. whole ∣ n * w) (λ w. whole_divides n w) ws all) in
      dvd_of_mul-dvd-mul_right {k = d} (whole / d) {n = n} (positive_divisor d whole some (from_start whole ws))
      (subst (λ k. k ∣ n * d) (sym (div-mul_cancel d (from_start whole ws))) most)

  -- ---- a weight in n-ths

  times_whole : (n w d : ℕ) → d ∣ w → d ∣ whole → whole / d ∣ n → whole * (w / d * (n / (whole / d))) ≡ n * w
  times_whole n w d part all divides =
      let a : ℕ = w / d in
      let e : ℕ = whole / d in
      let q : ℕ = n / e in
      let num : a * d ≡ w = div-mul_cancel d part in
      let den : e * d ≡ whole = div-mul_cancel d all in
      let times : q * e ≡ n = div-mul_cancel e divides in
      ap (λ (k : ℕ). k * (a * q)) (sym den) ∙ turned e d a q ∙ (λ i. times i * num i)
    where
      turned : (e d a q : ℕ) → (e * d) * (a * q) ≡ (q * e) * (a * d)
      turned e d a q = omega arith

  -- the divisor doesn't matter
  pub number_is : (n w d : ℕ) → d ∣ w → d ∣ whole → whole / d ∣ n → w / d * (n / (whole / d)) ≡ parts_of n w whole
  number_is n w d part all divides =
      let g : ℕ = gcd_of w whole in
      let x : ℕ = w / d * (n / (whole / d)) in
      let y : ℕ = w / g * (n / (whole / g)) in
      let least : whole / g ∣ n =
      dvd_trans (whole / g) (quotient_divides d g ((gcd_is w whole).2 d part all) (gcd_is w whole).1) divides in
      let same : whole * x ≡ whole * y = times_whole n w d part all divides ∙ sym (times_whole n w g (gcd_is w whole).0 (gcd_is w whole).1 least) in
      let here : y ≡ parts_of n w whole = rw (reduced_num_abs (pos w) whole, reduced_den_is (pos w) whole) refl in
      sym (mul-div_cancel_left x some) ∙ ap (λ (k : ℕ). k / whole) same ∙ mul-div_cancel_left y some ∙ here

parts_below : (n a e : ℕ) → a ≤ e → a * (n / e) ≤ n
parts_below n a e within = omega (arith, mul-le-mul_right (n / e) within, mul-div-le n e)

-- ---- all secrets of a channel

pub same_maps : {X Y : Type 0} (f g : X → Y) (xs : List X) → All (λ x. f x ≡ g x) xs → map f xs ≡ map g xs
same_maps f g [] all = refl
same_maps f g (x ∷ xs) all = λ i. All-head (λ x. f x ≡ g x) x xs all i ∷ same_maps f g xs (All-tail (λ x. f x ≡ g x) x xs all) i

are_positive : (ds : List ℕ) → All (λ d. 0 < d) ds → ArePositive ds
are_positive [] all = tt
are_positive (d ∷ ds) all = (All-head (λ d. 0 < d) d ds all, are_positive ds (All-tail (λ d. 0 < d) d ds all))

module _ (c : ChannelTree) (weigh : AllWeigh c) where
  abbrev whole_of : ℕ → ℕ
  whole_of x = value_weight c.rows x

  abbrev weights : ℕ → List ℕ
  weights x = map (λ row. weight_at row.column x) c.rows

  abbrev divisor : ℕ → ℕ
  divisor x = divisor_from (whole_of x) (weights x)

  abbrev own : ℕ → ℕ
  own x = whole_of x / divisor x

  divisor_divides : (x : ℕ) → divisor x ∣ whole_of x
  divisor_divides x = from_start (whole_of x) (weights x)

  divisor_positive : (x : ℕ) → 0 < whole_of x → 0 < divisor x
  divisor_positive x some = positive_divisor (divisor x) (whole_of x) some (divisor_divides x)

  own_positive : (x : ℕ) → 0 < whole_of x → 0 < own x
  own_positive x some = positive_factor (own x) (divisor x) (whole_of x) (div-mul_cancel (divisor x) (divisor_divides x)) some

  pub all_divided : All (λ s. (0 < s.divisor) × (0 < den_of s)) (map (divided c.rows) c.secrets)
  all_divided =
      All-map (λ s. (0 < s.divisor) × (0 < den_of s)) (divided c.rows) c.secrets
      (λ i e below. (divisor_positive _ (weigh i e below), own_positive _ (weigh i e below)))

  -- in each trace
  divides_weight : (x j : ℕ) (none : Row) → j < length c.rows → divisor x ∣ weight_at (get_or c.rows j none).column x
  divides_weight x j none inside =
      subst (λ w. divisor x ∣ w) (get_or-map (λ (row : Row). weight_at row.column x) c.rows j none 0 inside)
      (from_each (whole_of x) (weights x) j 0 (omega (arith, length-map c.rows (λ (row : Row). weight_at row.column x), inside)))

  owns_divide : All (λ x. own x ∣ denominator c) c.secrets
  owns_divide =
      All-from_get_or (λ x. own x ∣ denominator c) c.secrets 0
      (λ i within.
      let x : ℕ = get_or c.secrets i 0 in
      own_divides (whole_of x) (weigh i 0 within) (denominator c) (weights x)
      (All-map (λ w. reduced_den (pos w) (whole_of x) ∣ denominator c) (λ row. weight_at row.column x) c.rows (cells_divide c weigh i within)))

  owns_positive : All (λ d. 0 < d) (map own c.secrets)
  owns_positive = All-map (λ d. 0 < d) own c.secrets (λ i e below. own_positive _ (weigh i e below))

  abbrev multiple : ℕ
  multiple = common_multiple (map own c.secrets)

  own_in_multiple : (i e : ℕ) → i < length c.secrets → own (get_or c.secrets i e) ∣ multiple
  own_in_multiple i e below =
      subst (λ d. d ∣ multiple) (get_or-map own c.secrets i e 0 below)
      (common_divided (map own c.secrets) owns_positive i 0 (omega (arith, length-map c.secrets own, below)))

  cells_in_multiple : All (λ d. d ∣ multiple) (dens c c.rows)
  cells_in_multiple =
      from_pieces (λ d. d ∣ multiple) (column_dens c) c.rows
      (λ j none inside. All-map (λ d. d ∣ multiple) (cell_den c (get_or c.rows j none)) c.secrets
      (λ i e below.
      let x : ℕ = get_or c.secrets i e in
      let w : ℕ = weight_at (get_or c.rows j none).column x in
      dvd_trans (cell_den c (get_or c.rows j none) x)
      (cell_divides (whole_of x) (weigh i e below) (divisor x) w (divides_weight x j none inside) (divisor_divides x))
      (own_in_multiple i e below)))

  multiple_is : multiple ≡ denominator c
  multiple_is =
      dvd_antisymm
      (common_divides (map own c.secrets) (denominator c) owns_positive (All-map (λ d. d ∣ denominator c) own c.secrets owns_divide))
      (common_divides (dens c c.rows) multiple (dens_positive c weigh) cells_in_multiple)

  pub gathered_is : multiple_from 1 (map den_of (map (divided c.rows) c.secrets)) ≡ denominator c
  gathered_is =
      ap (multiple_from 1) (mapped_twice den_of (divided c.rows) own (λ x. refl) c.secrets)
      ∙ from_one (map own c.secrets) (are_positive (map own c.secrets) owns_positive) ∙ multiple_is

  -- ---- the columns

  abbrev pub scales_over : List SecretScale
  scales_over = map (scale_of (denominator c)) (map (divided c.rows) c.secrets)

  pub scale_names : map (λ (s : SecretScale). s.value) scales_over ≡ c.secrets
  scale_names =
      mapped_twice (λ (s : SecretScale). s.value) (scale_of (denominator c)) (λ (s : DividedSecret). s.value) (λ s. refl) (map (divided c.rows) c.secrets)
      ∙ mapped_twice (λ (s : DividedSecret). s.value) (divided c.rows) (λ x. x) (λ x. refl) c.secrets ∙ itself c.secrets
    where
      itself : (xs : List ℕ) → map (λ x. x) xs ≡ xs
      itself [] = refl
      itself (x ∷ xs) = ap (λ rest. x ∷ rest) (itself xs)

  pub scales_divide : All (λ s. 0 < s.divisor) scales_over
  scales_divide =
      All-map (λ s. 0 < s.divisor) (scale_of (denominator c)) (map (divided c.rows) c.secrets)
      (All-weaker (λ s. (0 < s.divisor) × (0 < den_of s)) (λ s. 0 < s.divisor) (λ s both. both.0) (map (divided c.rows) c.secrets) all_divided)

  abbrev scale_at : ℕ → SecretScale
  scale_at x = scale_of (denominator c) (divided c.rows x)

  scales_twice : {Y : Type 0} (f : SecretScale → Y) → map f scales_over ≡ map (λ x. f (scale_at x)) c.secrets
  scales_twice f =
      mapped_twice f (scale_of (denominator c)) (λ s. f (scale_of (denominator c) s)) (λ s. refl) (map (divided c.rows) c.secrets)
      ∙ mapped_twice (λ s. f (scale_of (denominator c) s)) (divided c.rows) (λ x. f (scale_at x)) (λ x. refl) c.secrets

  module _ (j : ℕ) (none : Row) (inside : j < length c.rows) where
    abbrev row : Row
    row = get_or c.rows j none

    number_here : (i e : ℕ) → i < length c.secrets
        → (let x = get_or c.secrets i e in number_in row.column (scale_at x) ≡ parts_of (denominator c) (weight_at row.column x) (whole_of x))
    number_here i e below =
        let x : ℕ = get_or c.secrets i e in
        number_is (whole_of x) (weigh i e below) (denominator c) (weight_at row.column x) (divisor x) (divides_weight x j none inside) (divisor_divides x)
        (owns_divide i e below)

    column_is : map (number_in row.column) scales_over ≡ column_in (denominator c) c row
    column_is =
        scales_twice (number_in row.column)
        ∙ same_maps (λ x. number_in row.column (scale_at x)) (λ x. parts_of (denominator c) (weight_at row.column x) (whole_of x)) c.secrets number_here

    numbers_fit : denominator c ≤ limit → All (λ s. number_in row.column s ≤ limit) scales_over
    numbers_fit narrow =
        All-map (λ s. number_in row.column s ≤ limit) (scale_of (denominator c)) (map (divided c.rows) c.secrets)
        (All-map (λ s. number_in row.column (scale_of (denominator c) s) ≤ limit) (divided c.rows) c.secrets
        (λ i e below.
        let x : ℕ = get_or c.secrets i e in
        omega (
          arith,
          number_here i e below,
          parts_below (denominator c) _ _ (part_fits (weight_at row.column x) (whole_of x) (cell_fits c x j none inside)),
          narrow,
        )))

  pub columns_are : map (λ (row : Row). map (number_in row.column) scales_over) c.rows ≡ map (column_in (denominator c) c) c.rows
  columns_are = same_maps (λ row. map (number_in row.column) scales_over) (column_in (denominator c) c) c.rows column_is

  pub all_fit : denominator c ≤ limit → All (λ row. All (λ s. number_in row.column s ≤ limit) scales_over) c.rows
  all_fit narrow = λ j none inside. numbers_fit j none inside narrow

-- ---- one step of the loop over all secrets

module _ (ss : List DividedSecret) (all : All (λ s. (0 < s.divisor) × (0 < den_of s)) ss) (i multiple : ℕ) (d : DividedSecret) (within : i < length ss) where
  pub own_more : multiple_from multiple (map den_of (drop i ss)) ≡ multiple_from (lcm_of (den_of (get_or ss i d)) multiple) (map den_of (drop (i + 1) ss))
  own_more = at_drop_more (λ (rest : List DividedSecret). multiple_from multiple (map den_of rest)) ss i d within

  -- where it passes a bound there, it does at the end
  pub own_wide : (most : ℕ) → 0 < multiple → multiple_from multiple (map den_of (drop i ss)) ≤ most → lcm_of (den_of (get_or ss i d)) multiple ≤ most
  own_wide most some small =
      let rest : List ℕ = map den_of (drop (i + 1) ss) in
      let positive : All (λ n. 0 < n) rest =
      All-map (λ n. 0 < n) den_of (drop (i + 1) ss)
      (All-weaker (λ s. (0 < s.divisor) × (0 < den_of s)) (λ s. 0 < den_of s) (λ s both. both.1) (drop (i + 1) ss)
      (All-drop (λ s. (0 < s.divisor) × (0 < den_of s)) (i + 1) ss all)) in
      omega (
        arith,
        small,
        own_more,
        growing (lcm_of (den_of (get_or ss i d)) multiple) rest (lcm_is (den_of (get_or ss i d)) multiple (all i d within).1 some).positive
            (are_positive rest positive),
      )
