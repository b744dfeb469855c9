-- The greatest absolute value of gains, in whatever order they stand.
use Rattle.std.proofs.Common.{◌≡◌, ℕ, ◌≤◌, max, ℤ, unsigned_abs, List, [], ◌∷◌, ◌++◌, map, Contains, All, get_or, refl, ap, arith, ⊎_elim}
use Rattle.std.specs.Prelude.{flat_map}
use Rattle.std.specs.List.{AllZip}
use Rattle.std.specs.List.Sorted.{IsPermutation}
use Rattle.std.proofs.lemmas.List.Elements.{All-head, All-tail, Contains-get_or}
use Rattle.std.proofs.lemmas.List.Sorted.{Contains-permutation, IsPermutation-sym}
use Rattle.kf_gain.specs.declared.table.Action.{Action}
use Rattle.kf_gain.specs.Vulnerabilities.{greatest}
use Rattle.kf_gain.proofs.Entries.{contains_cases, contains_first, contains_later}
use Rattle.kf_value.specs.Targets.{Item}
use Rattle.kf_cert.specs.declared.cert.CertAction.{CertAction}
use Rattle.kf_cert.specs.Naming.{IsMade}

-- it is the least bound of all
among : (zs : List ℤ) (z : ℤ) → Contains zs z → unsigned_abs z ≤ greatest zs
among [] z (k, within, is) = absurd (omega arith)
among (y ∷ ys) z here =
    ⊎_elim
    (λ (same : y ≡ z). omega (arith, ap unsigned_abs same))
    (λ (later : Contains ys z). omega (arith, among ys z later))
    (contains_cases y ys z here)

bounded : (zs : List ℤ) (m : ℕ) → ((z : ℤ) → Contains zs z → unsigned_abs z ≤ m) → greatest zs ≤ m
bounded [] m all = omega arith
bounded (z ∷ zs) m all = omega (arith, all z (contains_first z zs z refl), bounded zs m (λ (y : ℤ) (h : Contains zs y). all y (contains_later z zs y h)))

pub greatest_moved : (ys zs : List ℤ) → IsPermutation ys zs → greatest zs ≡ greatest ys
greatest_moved ys zs moved =
    let there : greatest ys ≤ greatest zs = bounded ys (greatest zs) (λ (z : ℤ) (h : Contains ys z). among zs z (Contains-permutation ys zs z moved h)) in
    let back : greatest zs ≤ greatest ys = bounded zs (greatest ys) (λ (z : ℤ) (h : Contains zs z). among ys z (Contains-permutation zs ys z (IsPermutation-sym ys zs moved) h)) in
    omega (arith, there, back)

greatest_both : (ys zs : List ℤ) → greatest (ys ++ zs) ≡ max (greatest ys) (greatest zs)
greatest_both [] zs = omega arith
greatest_both (y ∷ ys) zs = omega (arith, greatest_both ys zs)

abbrev named_gains : CertAction → List ℤ
named_gains a = map (λ e. e.gain) a.gains

abbrev numbered_gains : Action → List ℤ
numbered_gains a = map (λ e. e.gain) a.gains

-- that of all actions
pub greatest_made : (target : List Item) (named : List CertAction) (made : List Action) → AllZip (IsMade target) named made
    → greatest (flat_map (λ a. map (λ e. e.gain) a.gains) made) ≡ greatest (flat_map (λ a. map (λ e. e.gain) a.gains) named)
greatest_made target [] [] all = refl
greatest_made target [] (a ∷ made) all = absurd all
greatest_made target (n ∷ named) [] all = absurd all
greatest_made target (n ∷ named) (a ∷ made) (is, all) =
    omega (
      arith,
      greatest_both (numbered_gains a) (flat_map numbered_gains made),
      greatest_both (named_gains n) (flat_map named_gains named),
      is.greatest,
      greatest_made target named made all,
    )

-- a bound of it bounds all
pub all_within : (zs : List ℤ) (m : ℕ) → greatest zs ≤ m → All (λ z. unsigned_abs z ≤ m) zs
all_within zs m small k z within = omega (arith, small, among zs (get_or zs k z) (Contains-get_or zs k z within))

pub bounded_all : (zs : List ℤ) (m : ℕ) → All (λ z. unsigned_abs z ≤ m) zs → greatest zs ≤ m
bounded_all [] m all = omega arith
bounded_all (z ∷ zs) m all = omega (arith, All-head (λ z. unsigned_abs z ≤ m) z zs all, bounded_all zs m (All-tail (λ z. unsigned_abs z ≤ m) z zs all))
