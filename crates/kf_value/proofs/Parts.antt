-- The number of a tuple part by part: mixed radix over the sizes of the types.
use Rattle.std.proofs.Common.{◌≡◌, ℕ, zero, suc, ◌+◌, ◌*◌, ◌<◌, ◌≤◌, List, [], ◌∷◌, length, map, slice_get, Some, None, refl, sym, ap, ◌∙◌, arith}
use Rattle.std.proofs.Math.Nat.{mul_assoc, mul-le-mul_left, mul-le-mul_right}
use Rattle.std.proofs.lemmas.Option.{slice_get_within}
use Rattle.kf_value.specs.Values.{ValueTree}
use Rattle.kf_value.specs.Types.{TypeTree, values, combinations, product, count, type_parts}
use Rattle.kf_value.specs.Sizes.{fault_within, first_fault, HasSize}
use Rattle.kf_value.proofs.Places.{length-combinations, combination_at, combination_of}
use Rattle.kf_value.proofs.Ascending.{length-values}
use Rattle.kf_value.proofs.Sizing.{first_of-None, rest_some}

-- how many combinations there are of values of the types
abbrev pub total : List TypeTree → ℕ
total ts = product (map count ts)

lengths : (ts : List TypeTree) → map length (map values ts) ≡ map count ts
lengths [] = refl
lengths (t ∷ ts) = ap (λ n. n ∷ map length (map values ts)) (length-values t) ∙ ap (λ ns. count t ∷ ns) (lengths ts)

pub length-choices : (ts : List TypeTree) → length (combinations (map values ts)) ≡ total ts
length-choices ts = length-combinations (map values ts) ∙ ap product (lengths ts)

-- the number so far, when `later` and `rest` are left of all types and parts
pub record PlaceSoFar (types : List TypeTree) (all : List ValueTree) (later : List TypeTree) (rest : List ValueTree) (n : ℕ) : Type 0 where
  pub sized : first_fault (type_parts later) ≡ None
  pub fits : (n + 1) * total later ≤ total types
  pub whole : (m : ℕ) → slice_get (combinations (map values later)) m ≡ Some rest → slice_get (combinations (map values types)) (n * total later + m) ≡ Some all

pub place_start : (types : List TypeTree) (all : List ValueTree) → first_fault (type_parts types) ≡ None → PlaceSoFar types all types all 0
place_start types all sized = record {
  sized = sized;
  fits = omega arith;
  whole = λ m h. let same : 0 * total types + m ≡ m = omega arith in ap (slice_get (combinations (map values types))) same ∙ h;
}

still_fits : (n c k p most : ℕ) → k < c → (n + 1) * (c * p) ≤ most → (n * c + k + 1) * p ≤ most
still_fits n c k p most below fits =
    let grown : (n * c + k + 1) * p ≤ ((n + 1) * c) * p = mul-le-mul_right p (omega arith) in
    let same = mul_assoc (n + 1) c p in
    omega arith

pub regrouped : (n c k p l m : ℕ) → l ≡ p → n * (c * p) + (k * l + m) ≡ (n * c + k) * p + m
regrouped n c k p l m h =
    let same = mul_assoc n c p in
    let spread : (n * c + k) * p ≡ n * c * p + k * p = omega arith in
    ap (λ q. n * (c * p) + (k * q + m)) h ∙ omega arith

pub place_step : (types : List TypeTree) (all : List ValueTree) (t : TypeTree) (later : List TypeTree) (v : ValueTree) (rest : List ValueTree) (n k : ℕ)
    → slice_get (values t) k ≡ Some v → PlaceSoFar types all (t ∷ later) (v ∷ rest) n → PlaceSoFar types all later rest (n * count t + k)
place_step types all t later v rest n k at so_far =
    let below : k < count t = rw (length-values t) at (slice_get_within (values t) k v at) in
    let size = length (combinations (map values later)) in
    record {
      sized = (first_of-None (fault_within 65536 t) (first_fault (type_parts later)) so_far.sized).1;
      fits = still_fits n (count t) k (total later) (total types) below so_far.fits;
      whole = λ m h.
          ap (slice_get (combinations (map values types))) (sym (regrouped n (count t) k (total later) size m (length-choices later)))
          ∙ so_far.whole (k * size + m) (combination_at (values t) (map values later) k m (k * size + m) v rest refl at h);
    }

-- each further number is small
pub part_fits : (types : List TypeTree) (all : List ValueTree) (t : TypeTree) (later : List TypeTree) (rest : List ValueTree) (n : ℕ) → total types ≤ 65536
    → PlaceSoFar types all (t ∷ later) rest n → (n + 1) * count t ≤ 65536
part_fits types all t later rest n few so_far =
    let some : 0 < total later = rest_some later (first_of-None (fault_within 65536 t) (first_fault (type_parts later)) so_far.sized).1 in
    let grown : (n + 1) * count t * 1 ≤ (n + 1) * count t * total later = mul-le-mul_left ((n + 1) * count t) some in
    let same = mul_assoc (n + 1) (count t) (total later) in
    let fits = so_far.fits in
    omega arith

pub part_sized : (types : List TypeTree) (all : List ValueTree) (t : TypeTree) (later : List TypeTree) (rest : List ValueTree) (n : ℕ)
    → PlaceSoFar types all (t ∷ later) rest n → HasSize t
part_sized types all t later rest n so_far = (first_of-None (fault_within 65536 t) (first_fault (type_parts later)) so_far.sized).0

pub place_end : (types : List TypeTree) (all : List ValueTree) (n : ℕ) → PlaceSoFar types all [] [] n → slice_get (combinations (map values types)) n ≡ Some all
place_end types all n so_far =
    let same : n ≡ n * 1 + 0 = omega arith in
    ap (slice_get (combinations (map values types))) same ∙ so_far.whole 0 refl

-- ---- lists of parts that are no combination

pub length-combination : (vss : List (List ValueTree)) (n : ℕ) (s : List ValueTree) → slice_get (combinations vss) n ≡ Some s → length s ≡ length vss
length-combination [] zero s h = let same : [] ≡ s = (cc) in ap length (sym same)
length-combination [] (suc n) s h = (cc)
length-combination (vs ∷ vss) n s h =
    let found = combination_of vs vss n s h in
    ap length found.7 ∙ ap suc (length-combination vss found.1 found.3 found.6)

pub no_combination : (types : List TypeTree) (all : List ValueTree) (i : ℕ) (t : TypeTree) (v : ValueTree) → slice_get types i ≡ Some t → slice_get all i ≡ Some v
    → ((k : ℕ) → ¬ (slice_get (values t) k ≡ Some v)) → (n : ℕ) → ¬ (slice_get (combinations (map values types)) n ≡ Some all)
no_combination [] all i t v at_t at_v missing n h = (cc)
no_combination (u ∷ types) [] i t v at_t at_v missing n h = (cc)
no_combination (u ∷ types) (w ∷ all) zero t v at_t at_v missing n h =
    let found = combination_of (values u) (map values types) n (w ∷ all) h in
    let type : u ≡ t = (cc) in
    let value : found.2 ≡ v = cc found.7 in
    missing found.0 (ap (λ x. slice_get (values x) found.0) (sym type) ∙ (found.5 ∙ ap (λ x. Some x) value))
no_combination (u ∷ types) (w ∷ all) (suc i) t v at_t at_v missing n h =
    let found = combination_of (values u) (map values types) n (w ∷ all) h in
    let rest : found.3 ≡ all = cc found.7 in
    no_combination types all i t v at_t at_v missing found.1 (found.6 ∙ ap (λ x. Some x) rest)
