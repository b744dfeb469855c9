-- Quotients of narrow numbers as fractions, and lists of them.
use Rattle.std.proofs.Common.{◌≡◌, ◌≢◌, ℕ, zero, suc, ◌+◌, ◌^◌, ◌<◌, ◌≤◌, refl, sym, ap, ◌∙◌, subst, arith, unsigned_abs, FitsSigned, ⊎_elim, ◌++◌, get_or, length-set, length-append, to_z, of_z, List, [], ◌∷◌, length, set}
use Rattle.std.proofs.Math.IntN.{ℤ, pos, negsuc, ◌*ℤ◌, *ℤ_comm}
use Rattle.std.proofs.lemmas.Int.{ints, to_z-of_z}
use Rattle.std.proofs.lemmas.Bool.{cases_lt}
use lib.Signed.{◌<ℤ◌}
use mir.Syntax.{w128}
use Rattle.kf_frac.specs.declared.frac.Frac.{Frac}
use Rattle.kf_frac.specs.Views.{num_of, den_of}
use Rattle.kf_frac.specs.Divisors.{gcd_of}
use Rattle.kf_frac.specs.Fractions.{reduced_num, reduced_den}
use Rattle.kf_frac.specs.Parts.{PartsFit}
use Rattle.kf_frac.proofs.LowestTerms.{reduced_num_times, reduced_den_times}
use Rattle.kf_frac.proofs.Ring.{mul_assoc}
use Rattle.kf_frac.proofs.Scaling.{reduced_fit}
use Rattle.kf_simplex.specs.Answers.{num_at, den_at}
use Rattle.kf_simplex.specs.Base.{at}

positive_abs : (z : ℤ) → pos 0 <ℤ z → pos (unsigned_abs z) ≡ z
positive_abs (pos n) h = refl
positive_abs (negsuc n) h = absurd (omega (arith, ints))

-- a positive number that is cast to an unsigned one
pub positive_cast : (z : ℤ) → FitsSigned w128 z → pos 0 <ℤ z → pos (unsigned_abs (to_z w128 (of_z w128 z))) ≡ z
positive_cast z f h = ap (λ (y : ℤ). pos (unsigned_abs y)) (to_z-of_z w128 z f) ∙ positive_abs z h

reduced_cross : (n : ℤ) (d : ℕ) → reduced_num n d *ℤ pos d ≡ n *ℤ pos (reduced_den n d)
reduced_cross n d =
    let g : ℕ = gcd_of (unsigned_abs n) d in
    ap (λ (x : ℕ). reduced_num n d *ℤ pos x) (sym (reduced_den_times n d))
    ∙ ap (λ (z : ℤ). reduced_num n d *ℤ z) (*ℤ_comm (pos (reduced_den n d)) (pos (gcd_of (unsigned_abs n) d)))
    ∙ sym (mul_assoc (reduced_num n d) (pos (gcd_of (unsigned_abs n) d)) (pos (reduced_den n d)))
    ∙ ap (λ (z : ℤ). z *ℤ pos (reduced_den n d)) (reduced_num_times n d)

-- a fraction in lowest terms is the quotient that it was made of
pub quotient_is : (num den n x : ℤ) (d y : ℕ) → n ≡ num → pos d ≡ den → x ≡ reduced_num n d → y ≡ reduced_den n d → x *ℤ den ≡ num *ℤ pos y
quotient_is num den n x d y en ed ex ey =
    ap (λ (z : ℤ). x *ℤ z) (sym ed)
    ∙ ap (λ (z : ℤ). z *ℤ pos d) ex
    ∙ reduced_cross n d
    ∙ ap (λ (z : ℤ). z *ℤ pos (reduced_den n d)) en
    ∙ ap (λ (k : ℕ). num *ℤ pos k) (sym ey)

pub quotient_fits : (num den n : ℤ) (d : ℕ) → n ≡ num → pos d ≡ den → unsigned_abs num ≤ 2 ^ 62 → unsigned_abs den ≤ 2 ^ 62 → PartsFit (reduced_num n d) (reduced_den n d)
quotient_fits num den n d en ed h k =
    let a : unsigned_abs n ≤ 2 ^ 62 = subst (λ (z : ℤ). unsigned_abs z ≤ 2 ^ 62) (sym en) h in
    let b : d ≤ 2 ^ 62 = subst (λ (z : ℤ). unsigned_abs z ≤ 2 ^ 62) (sym ed) k in
    reduced_fit n d (record { num = omega arith; den = omega arith })

-- ---- writing into a list of fractions

pub num_at_set_same : (xs : List Frac) (j : ℕ) (f : Frac) → j < length xs → num_at (set xs j f) j ≡ num_of f
num_at_set_same [] j f l = absurd (omega arith)
num_at_set_same (x ∷ xs) zero f l = refl
num_at_set_same (x ∷ xs) (suc j) f l = num_at_set_same xs j f (omega arith)

pub num_at_set_other : (xs : List Frac) (j k : ℕ) (f : Frac) → k ≢ j → num_at (set xs j f) k ≡ num_at xs k
num_at_set_other [] j k f d = refl
num_at_set_other (x ∷ xs) zero zero f d = absurd (d refl)
num_at_set_other (x ∷ xs) zero (suc k) f d = refl
num_at_set_other (x ∷ xs) (suc j) zero f d = refl
num_at_set_other (x ∷ xs) (suc j) (suc k) f d = num_at_set_other xs j k f (λ (e : k ≡ j). d (ap suc e))

pub den_at_set_same : (xs : List Frac) (j : ℕ) (f : Frac) → j < length xs → den_at (set xs j f) j ≡ den_of f
den_at_set_same [] j f l = absurd (omega arith)
den_at_set_same (x ∷ xs) zero f l = refl
den_at_set_same (x ∷ xs) (suc j) f l = den_at_set_same xs j f (omega arith)

pub den_at_set_other : (xs : List Frac) (j k : ℕ) (f : Frac) → k ≢ j → den_at (set xs j f) k ≡ den_at xs k
den_at_set_other [] j k f d = refl
den_at_set_other (x ∷ xs) zero zero f d = absurd (d refl)
den_at_set_other (x ∷ xs) zero (suc k) f d = refl
den_at_set_other (x ∷ xs) (suc j) zero f d = refl
den_at_set_other (x ∷ xs) (suc j) (suc k) f d = den_at_set_other xs j k f (λ (e : k ≡ j). d (ap suc e))

-- ---- the solution, as far as the first i rows tell it

pub all_zero_more : (xs : List Frac) (f : Frac) → num_of f ≡ pos 0 → ((j : ℕ) → num_at xs j ≡ pos 0) → (j : ℕ) → num_at (xs ++ f ∷ []) j ≡ pos 0
all_zero_more [] f e h zero = e
all_zero_more [] f e h (suc j) = refl
all_zero_more (x ∷ xs) f e h zero = h 0
all_zero_more (x ∷ xs) f e h (suc j) = all_zero_more xs f e (λ k. h (suc k)) j

pub zero_quotient : (x : ℤ) (d : ℕ) → x *ℤ pos 1 ≡ pos 0 *ℤ pos d → x ≡ pos 0
zero_quotient x d h = omega (arith, ints)

pub record ReadOff (cells : ℕ → ℕ → ℤ) (basis : List ℕ) (v e : ℕ) (xs : List Frac) (i : ℕ) : Type 0 where
  pub len : length xs ≡ v
  pub basic : (k : ℕ) → k < i → get_or basis k 0 < v
      → num_at xs (get_or basis k 0) *ℤ cells k (get_or basis k 0) ≡ cells k (v + e) *ℤ pos (den_at xs (get_or basis k 0))
  pub not_basic : (j : ℕ) → j < v → ((k : ℕ) → k < i → get_or basis k 0 ≡ j → ⊥) → num_at xs j ≡ pos 0

pub read_none : (cells : ℕ → ℕ → ℤ) (basis : List ℕ) (v e : ℕ) (xs : List Frac) → length xs ≡ v → ((j : ℕ) → num_at xs j ≡ pos 0) → ReadOff cells basis v e xs 0
read_none cells basis v e xs l z = record { len = l; basic = λ k u b. absurd (omega arith); not_basic = λ j u no. z j }

pub read_skip : (cells : ℕ → ℕ → ℤ) (basis : List ℕ) (v e : ℕ) (xs : List Frac) (i : ℕ) → v ≤ get_or basis i 0 → ReadOff cells basis v e xs i → ReadOff cells basis v e xs (i + 1)
read_skip cells basis v e xs i out h = record {
  len = h.len;
  basic = λ k u b. ⊎_elim
      (λ (m : k < i). h.basic k m b)
      (λ (m : i ≤ k). let q : k ≡ i = omega arith in let o = ap (λ (z : ℕ). get_or basis z 0) q in absurd (omega arith))
      (cases_lt k i);
  not_basic = λ j u no. h.not_basic j u (λ k m. no k (omega arith));
}

pub read_more : (cells : ℕ → ℕ → ℤ) (basis : List ℕ) (v e : ℕ) (xs : List Frac) (i : ℕ) (f : Frac) → get_or basis i 0 < v
    → ((k : ℕ) → k < i → get_or basis i 0 ≢ get_or basis k 0)
    → num_of f *ℤ cells i (get_or basis i 0) ≡ cells i (v + e) *ℤ pos (den_of f)
    → ReadOff cells basis v e xs i → ReadOff cells basis v e (set xs (get_or basis i 0) f) (i + 1)
read_more cells basis v e xs i f inside apart q h =
    let c : ℕ = get_or basis i 0 in
    let l : get_or basis i 0 < length xs = let z = h.len in omega arith in
    record {
      len = length-set xs (get_or basis i 0) f ∙ h.len;
      basic = λ k u b. ⊎_elim
          (λ (m : k < i). let d : get_or basis k 0 ≢ get_or basis i 0 = λ z. apart k m (sym z) in
          ap (λ (z : ℤ). z *ℤ cells k (get_or basis k 0)) (num_at_set_other xs (get_or basis i 0) (get_or basis k 0) f d)
          ∙ h.basic k m b
          ∙ ap (λ (z : ℕ). cells k (v + e) *ℤ pos z) (sym (den_at_set_other xs (get_or basis i 0) (get_or basis k 0) f d)))
          (λ (m : i ≤ k). let s : k ≡ i = omega arith in
          subst
          (λ (z : ℕ). num_at (set xs (get_or basis i 0) f) (get_or basis z 0) *ℤ cells z (get_or basis z 0) ≡ cells z (v + e) *ℤ pos (den_at (set xs (get_or basis i 0) f) (get_or basis z 0)))
          (sym s)
          (ap (λ (z : ℤ). z *ℤ cells i (get_or basis i 0)) (num_at_set_same xs (get_or basis i 0) f l)
          ∙ q
          ∙ ap (λ (z : ℕ). cells i (v + e) *ℤ pos z) (sym (den_at_set_same xs (get_or basis i 0) f l))))
          (cases_lt k i);
      not_basic = λ j u no.
          num_at_set_other xs (get_or basis i 0) j f (λ z. no i (omega arith) (sym z)) ∙ h.not_basic j u (λ k m. no k (omega arith));
    }

-- the same, at a column that was read
pub read_column : (cells : ℕ → ℕ → ℤ) (basis : List ℕ) (v e : ℕ) (xs : List Frac) (i col : ℕ) (f : Frac) (entry right : ℤ) → col ≡ get_or basis i 0 → col < v
    → ((k : ℕ) → k < i → get_or basis i 0 ≢ get_or basis k 0)
    → entry ≡ cells i col → right ≡ cells i (v + e) → num_of f *ℤ entry ≡ right *ℤ pos (den_of f)
    → ReadOff cells basis v e xs i → ReadOff cells basis v e (set xs col f) (i + 1)
read_column cells basis v e xs i col f entry right ec l apart ee er q h =
    subst (λ (z : ℕ). ReadOff cells basis v e (set xs z f) (i + 1)) (sym ec)
    (read_more cells basis v e xs i f (subst (λ (z : ℕ). z < v) ec l) apart
    (ap (λ (z : ℕ). num_of f *ℤ cells i z) (sym ec)
    ∙ ap (λ (z : ℤ). num_of f *ℤ z) (sym ee)
    ∙ q
    ∙ ap (λ (z : ℤ). z *ℤ pos (den_of f)) er)
    h)

pub read_past : (cells : ℕ → ℕ → ℤ) (basis : List ℕ) (v e : ℕ) (xs : List Frac) (i col : ℕ) → col ≡ get_or basis i 0 → v ≤ col → ReadOff cells basis v e xs i → ReadOff cells basis v e xs (i + 1)
read_past cells basis v e xs i col ec l h = read_skip cells basis v e xs i (subst (λ (z : ℕ). v ≤ z) ec l) h

-- ---- a list that grows

at_last : (xs : List ℤ) (z : ℤ) → at (xs ++ z ∷ []) (length xs) ≡ z
at_last [] z = refl
at_last (x ∷ xs) z = at_last xs z

at_before : (xs : List ℤ) (z : ℤ) (j : ℕ) → j < length xs → at (xs ++ z ∷ []) j ≡ at xs j
at_before [] z j l = absurd (omega arith)
at_before (x ∷ xs) z zero l = refl
at_before (x ∷ xs) z (suc j) l = at_before xs z j (omega arith)

pub push_more : (xs ys : List ℤ) (z : ℤ) (k : ℕ) (f : ℕ → ℤ) → ys ≡ xs ++ z ∷ [] → length xs ≡ k → z ≡ f k → ((j : ℕ) → j < k → at xs j ≡ f j) → (j : ℕ) → j < k + 1 → at ys j ≡ f j
push_more xs ys z k f ey el ez h j l =
    ap (λ (t : List ℤ). at t j) ey
    ∙ ⊎_elim
    (λ (m : j < k). at_before xs z j (omega arith) ∙ h j m)
    (λ (m : k ≤ j). let q : j ≡ length xs = omega arith in
    ap (λ (i : ℕ). at (xs ++ z ∷ []) i) q ∙ at_last xs z ∙ ez ∙ ap f (sym el ∙ sym q))
    (cases_lt j k)

pub length-push : (xs ys : List ℤ) (z : ℤ) (k : ℕ) → ys ≡ xs ++ z ∷ [] → length xs ≡ k → length ys ≡ k + 1
length-push xs ys z k ey el = ap (λ (t : List ℤ). length t) ey ∙ simp length-append (omega arith)
