-- For bodies: numbers with signs, parts of fractions within the limit, what a fraction is, and what two words hold.
use Rattle.std.specs.Prelude.{◌≡◌, ℕ, ◌≤◌, Bool, ℤ, pos, neg_ℤ, unsigned_abs, if◌then◌else◌, ◌+◌, ◌*◌, ◌^◌, ◌==◌, List, [], ◌++◌, codes}
use Rattle.std.specs.Fmt.{decimal}
use Rattle.kf_frac.specs.declared.frac.Frac.{Frac}
use Rattle.kf_frac.specs.Fractions.{limit, reduced_num, reduced_den}
use Rattle.kf_frac.specs.Views.{num_of, den_of}
use Rattle.kf_frac.specs.declared.product.Product.{Product}

-- m, or minus m where it is to be negative
abbrev pub signed : Bool → ℕ → ℤ
signed negative m = if negative then neg_ℤ (pos m) else pos m

-- both parts are within the limit
pub record PartsFit (n : ℤ) (d : ℕ) : Type 0 where
  pub num : unsigned_abs n ≤ limit
  pub den : d ≤ limit

-- the fraction is n / d in lowest terms
pub record IsFraction (f : Frac) (n : ℤ) (d : ℕ) : Type 0 where
  pub num : num_of f ≡ reduced_num n d
  pub den : den_of f ≡ reduced_den n d

-- the number that two words hold
abbrev pub value_of : Product → ℕ
value_of p = p.high * 2 ^ 128 + p.low

-- a denominator with its bar; none where it is 1
abbrev pub denominator_text : ℕ → List ℕ
denominator_text d = if d == 1 then [] else codes "/" ++ decimal d
