-- The divisors of secrets, found column after column.
use Rattle.std.proofs.Common.{◌≡◌, ℕ, List, [], ◌∷◌, map, refl, ap}
use Rattle.std.proofs.Math.Nat.{one-dvd}
use Rattle.std.proofs.lemmas.Nat.Gcd.{dvd_refl, dvd-zero}
use Rattle.kf_frac.specs.Divisors.{gcd_of}
use Rattle.kf_frac.proofs.CommonDivisors.{gcd_is_the}
use Rattle.kf_column.specs.declared.entry.Entry.{Entry}
use Rattle.kf_column.specs.Columns.{weight_at}
use Rattle.kf_column.specs.Traces.{Row}
use Rattle.kf_capacity.specs.declared.divided.DividedSecret.{DividedSecret}
use Rattle.kf_capacity.specs.Divided.{divisor_from, divided, shared, undivided}

-- ---- column after column

-- a secret with what its divisor has in common with its weights in these columns
abbrev pub divided_on : List Row → DividedSecret → DividedSecret
divided_on rows s = record {
  value = s.value;
  whole = s.whole;
  divisor = divisor_from s.divisor (map (λ row. weight_at row.column s.value) rows);
}

pub mapped_twice : {X Y Z : Type 0} (f : Y → Z) (g : X → Y) (h : X → Z) → ((x : X) → f (g x) ≡ h x) → (xs : List X) → map f (map g xs) ≡ map h xs
mapped_twice f g h same [] = refl
mapped_twice f g h same (x ∷ xs) = λ i. same x i ∷ mapped_twice f g h same xs i

-- of no columns more
pub on_none : (ss : List DividedSecret) → map (divided_on []) ss ≡ ss
on_none [] = refl
on_none (s ∷ ss) = ap (λ rest. s ∷ rest) (on_none ss)

pub on_all : (rows : List Row) (xs : List ℕ) → map (divided_on rows) (map (undivided rows) xs) ≡ map (divided rows) xs
on_all rows xs = mapped_twice (divided_on rows) (undivided rows) (divided rows) (λ x. refl) xs

pub on_more : (row : Row) (rows : List Row) (ss : List DividedSecret)
    → map (divided_on rows) (map (shared row.column) ss) ≡ map (divided_on (row ∷ rows)) ss
on_more row rows ss = mapped_twice (divided_on rows) (shared row.column) (divided_on (row ∷ rows)) (λ s. refl) ss

pub names_of_undivided : (rows : List Row) (xs : List ℕ) → map (λ (s : DividedSecret). s.value) (map (undivided rows) xs) ≡ xs
names_of_undivided rows [] = refl
names_of_undivided rows (x ∷ xs) = ap (λ rest. x ∷ rest) (names_of_undivided rows xs)

pub same_names : (es : List Entry) (ss : List DividedSecret)
    → map (λ (s : DividedSecret). s.value) (map (shared es) ss) ≡ map (λ (s : DividedSecret). s.value) ss
same_names es ss = mapped_twice (λ (s : DividedSecret). s.value) (shared es) (λ (s : DividedSecret). s.value) (λ s. refl) ss

-- ---- a common divisor with 0 and of 1

pub with_zero : (d : ℕ) → d ≡ gcd_of d 0
with_zero d = gcd_is_the d 0 d (dvd_refl d, dvd-zero d, λ e l m. l)

pub of_one : (w : ℕ) → 1 ≡ gcd_of 1 w
of_one w = gcd_is_the 1 w 1 (dvd_refl 1, one-dvd w, λ e l m. l)
