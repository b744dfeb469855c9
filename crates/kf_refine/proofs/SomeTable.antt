-- A solution has a matrix, and multipliers that refute a system have a gain table.
use Rattle.std.proofs.Common.{◌≡◌, ◌≢◌, ℕ, zero, suc, ◌+◌, ◌*◌, ◌/◌, ◌<◌, ◌≤◌, max, refl, sym, ap, ◌∙◌, subst, arith, ⊎_elim, List, [], ◌∷◌, ◌++◌, length, map, get_or, unsigned_abs, codes, decimal}
use Rattle.std.specs.Int.{◌∣◌}
use Rattle.std.specs.List.{range_with_len}
use Rattle.std.proofs.lemmas.List.FromFn.{get_or-map-range_with_len, length-map-range_with_len}
use Rattle.std.proofs.Math.IntN.{ℤ, pos, negsuc, ◌+ℤ◌, ◌*ℤ◌}
use Rattle.std.proofs.Math.Nat.{mul-div_cancel', mul-le-mul_right, le-max_left, le-max_right, pos_of_dvd_of_pos}
use Rattle.std.proofs.lemmas.Int.{ints}
use Rattle.std.proofs.lemmas.Nat.Gcd.{dvd_trans}
use Rattle.std.proofs.lemmas.Bool.{cases_lt}
use lib.Signed.{◌≤ℤ◌}
use Rattle.kf_frac.specs.declared.frac.Frac.{Frac}
use Rattle.kf_gain.specs.declared.table.Action.{Action}
use Rattle.kf_gain.specs.declared.table.GainEntry.{GainEntry}
use Rattle.kf_gain.specs.Gains.{TableTree}
use Rattle.kf_simplex.specs.Answers.{num_at, den_at}
use Rattle.kf_simplex.specs.Base.{at}
use Rattle.kf_refine.specs.Refinements.{Fraction}
use Rattle.kf_refine.specs.Verdicts.{IsMatrixOf, IsShift, IsActionOf, IsTableOf}
use Rattle.kf_refine.proofs.OneSystem.{Place, place}
use Rattle.kf_refine.proofs.SomeWhole.{Greatest, DividesBelow, closed_below, both_greatest, greatest_of, greatest_below, only_one}
use Rattle.kf_refine.specs.Built.{multiplier}

-- ---- lists by a function

abbrev filled : {X : Type 0} → (ℕ → X) → ℕ → List X
filled f n = map f (range_with_len 0 n)

get_or-filled : {X : Type 0} (f : ℕ → X) (n k : ℕ) (d : X) → k < n → get_or (filled f n) k d ≡ f k
get_or-filled f n k d l = get_or-map-range_with_len f 0 n k k d l (omega arith)

-- ---- the matrix

module _ (m n : ℕ) (solution : List Frac) where
  abbrev fraction : ℕ → ℕ → Fraction
  fraction i j = record { num = num_at solution (i * n + j); den = den_at solution (i * n + j) }

  abbrev row : ℕ → List Fraction
  row i = filled (fraction i) n

  row_length : (i : ℕ) (d : List Fraction) → i < m → length (get_or (filled row m) i d) ≡ n
  row_length i d l = ap length (get_or-filled row m i d l) ∙ length-map-range_with_len (fraction i) 0 n

  pub some_matrix : (rows : List (List Fraction)) × IsMatrixOf m n solution rows
  some_matrix = (
    filled row m,
    record {
      shape = record {
        many = length-map-range_with_len row 0 m;
        each = λ i d within. row_length i d (subst (λ (x : ℕ). i < x) (length-map-range_with_len row 0 m) within);
      };
      entries = λ i j l k.
          ap (λ (fs : List Fraction). get_or fs j (record { num = pos 0; den = 1 })) (get_or-filled row m i [] l)
          ∙ get_or-filled (fraction i) n j (record { num = pos 0; den = 1 }) k;
    },
  )

-- ---- the shift

-- the least number that makes none of n numbers negative
record IsLeast (n : ℕ) (f : ℕ → ℤ) (s : ℕ) : Type 0 where
  enough : (k : ℕ) → k < n → pos 0 ≤ℤ (f k +ℤ pos s)
  least : (t : ℕ) → ((k : ℕ) → k < n → pos 0 ≤ℤ (f k +ℤ pos t)) → s ≤ t

-- how far a number is below 0
lack : (z : ℤ) → (s : ℕ) × (pos 0 ≤ℤ (z +ℤ pos s)) × ((t : ℕ) → pos 0 ≤ℤ (z +ℤ pos t) → s ≤ t)
lack (pos k) = (0, omega (arith, ints), (λ t h. omega arith))
lack (negsuc k) = (suc k, omega (arith, ints), (λ t h. omega (arith, ints)))

still : (z : ℤ) (s t : ℕ) → s ≤ t → pos 0 ≤ℤ (z +ℤ pos s) → pos 0 ≤ℤ (z +ℤ pos t)
still z s t l h = omega (arith, ints)

at_most : (s t u : ℕ) → s ≤ u → t ≤ u → max s t ≤ u
at_most s t u h k = omega arith

least_shift : (n : ℕ) (f : ℕ → ℤ) → (s : ℕ) × IsLeast n f s
least_shift zero f = (0, record { enough = λ k l. absurd (omega arith); least = λ t h. omega arith })
least_shift (suc n) f =
    let rest = least_shift n f in
    let last = lack (f n) in (
      max rest.0 last.0,
      record {
        enough = λ (k : ℕ) (l : k < suc n).
            ⊎_elim
            (λ (m : k < n). still (f k) rest.0 (max rest.0 last.0) (le-max_left rest.0 last.0) (rest.1.enough k m))
            (λ (m : n ≤ k).
            let e : n ≡ k = omega arith in
            subst (λ (i : ℕ). pos 0 ≤ℤ (f i +ℤ pos (max rest.0 last.0))) e (still (f n) last.0 (max rest.0 last.0) (le-max_right rest.0 last.0) last.1))
            (cases_lt k n);
        least = λ t h. at_most rest.0 last.0 t (rest.1.least t (λ k l. h k (omega arith))) (last.2 t (h n (omega arith)));
      },
    )

-- ---- the table

-- the gains of an action
abbrev zipped : List ℕ → (ℕ → ℤ) → List GainEntry
zipped [] g = []
zipped (x ∷ xs) g = record { value = x; gain = g 0 } ∷ zipped xs (λ q. g (suc q))

values-zipped : (xs : List ℕ) (g : ℕ → ℤ) → map (λ (e : GainEntry). e.value) (zipped xs g) ≡ xs
values-zipped [] g = refl
values-zipped (x ∷ xs) g = ap (λ (l : List ℕ). x ∷ l) (values-zipped xs (λ q. g (suc q)))

gains-zipped : (xs : List ℕ) (g : ℕ → ℤ) (q : ℕ) → q < length xs → at (map (λ (e : GainEntry). e.gain) (zipped xs g)) q ≡ g q
gains-zipped [] g q l = absurd (omega (arith, l))
gains-zipped (x ∷ xs) g zero l = refl
gains-zipped (x ∷ xs) g (suc q) l = gains-zipped xs (λ q. g (suc q)) q (omega (arith, l))

-- a number that isn't negative, divided without rest
exactly : (g : ℕ) (z : ℤ) → pos 0 ≤ℤ z → g ∣ unsigned_abs z → pos g *ℤ pos (unsigned_abs z / g) ≡ z
exactly g (pos k) h divides = ap pos (mul-div_cancel' g divides)
exactly g (negsuc k) h divides = omega (arith, ints)

module _ (values : List ℕ) (n : ℕ) (multipliers : List ℤ) where
  abbrev places : ℕ
  places = length values * n

  inside : (q j : ℕ) → q < length values → j < n → q * n + j < places
  inside q j l k = let room : (q + 1) * n ≤ length values * n = mul-le-mul_right n (omega arith) in omega arith

  shift_of : (s : ℕ) × IsLeast places (at multipliers) s
  shift_of = least_shift places (at multipliers)

  abbrev shift : ℕ
  shift = shift_of.0

  -- all that is enough at each place is enough for each value and inner, and the other way round
  is_shift : IsShift (length values) n multipliers shift
  is_shift = record {
    enough = λ q j l k. shift_of.1.enough (q * n + j) (inside q j l k);
    least = λ t h. shift_of.1.least t (λ (k : ℕ) (l : k < places).
        let p : Place (length values) n k = place (length values) n k l in
        subst (λ (i : ℕ). pos 0 ≤ℤ (at multipliers i +ℤ pos t)) (sym p.is) (h p.row p.column p.inside p.within));
  }

  abbrev raised : ℕ → ℕ
  raised k = unsigned_abs (at multipliers k +ℤ pos shift)

  factor_of : Greatest (λ d. (d ∣ shift) × DividesBelow places raised d)
  factor_of =
      both_greatest (λ d. d ∣ shift) (DividesBelow places raised) (λ d e h k. dvd_trans d h k) (closed_below places raised)
      (greatest_of shift) (greatest_below places raised)

  abbrev factor : ℕ
  factor = factor_of.divisor

  gain : ℕ → ℕ → ℤ
  gain j q = pos (raised (q * n + j) / factor)

  abbrev action : ℕ → Action
  action j = record { name = codes "b" ++ decimal j; gains = zipped values (gain j) }

  abbrev table : TableTree
  table = record { over = 1; rest = pos (shift / factor); actions = filled action n }

  is_gain : (q j : ℕ) → q < length values → j < n → pos factor *ℤ gain j q ≡ multiplier n multipliers q j +ℤ pos shift
  unfolding gain
  is_gain q j l k =
      exactly factor (at multipliers (q * n + j) +ℤ pos shift) (shift_of.1.enough (q * n + j) (inside q j l k))
      (factor_of.divides.1 (q * n + j) (inside q j l k))

  is_action : (j : ℕ) → j < n → IsActionOf values n multipliers shift factor j (action j)
  is_action j k = record {
    name = refl;
    values = values-zipped values (gain j);
    gains = λ q l. ap (λ (z : ℤ). pos factor *ℤ z) (gains-zipped values (gain j) q l) ∙ is_gain q j l k;
  }

  is_table : 0 < factor → IsTableOf values n multipliers table
  is_table some = record {
    shift = shift;
    is_shift = is_shift;
    factor = factor;
    some_factor = some;
    over = refl;
    rest = ap pos (mul-div_cancel' factor factor_of.divides.0);
    many = length-map-range_with_len action 0 n;
    actions = λ j k. subst (IsActionOf values n multipliers shift factor j) (sym (get_or-filled action n j (record { name = []; gains = [] }) k)) (is_action j k);
    no_common_factor = λ d of_shift of_each.
        only_one factor d some (subst (λ (x : ℕ). x ∣ factor) (turn d factor) (factor_of.greatest (d * factor) (
          of_shift,
          (λ (k : ℕ) (l : k < places).
              let p : Place (length values) n k = place (length values) n k l in
              subst (λ (i : ℕ). (d * factor) ∣ raised i) (sym p.is) (of_each p.row p.column p.inside p.within)),
        )));
  }
    where
      turn : (x y : ℕ) → x * y ≡ y * x
      turn x y = omega arith

  -- a multiplier that isn't 0 makes the factor positive
  some_factor : (k : ℕ) → k < places → at multipliers k ≢ pos 0 → 0 < factor
  some_factor k l some =
      ⊎_elim
      (λ (above : 0 < shift). pos_of_dvd_of_pos factor_of.divides.0 above)
      (λ (none : shift ≤ 0). pos_of_dvd_of_pos (factor_of.divides.1 k l) (raises (at multipliers k) shift none some))
      (cases_lt 0 shift)
    where
      raises : (z : ℤ) (s : ℕ) → s ≤ 0 → z ≢ pos 0 → 0 < unsigned_abs (z +ℤ pos s)
      raises (pos x) s e d = omega (arith, ints)
      raises (negsuc x) s e d = omega (arith, ints)

  pub some_table : (k : ℕ) → k < places → at multipliers k ≢ pos 0 → (t : TableTree) × IsTableOf values n multipliers t
  some_table k l some = (table, is_table (some_factor k l some))
