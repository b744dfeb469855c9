-- The elements of a set read one by one.
use Rattle.std.proofs.Common.{◌≡◌, ◌≢◌, ℕ, zero, suc, ◌+◌, ◌*◌, ◌^◌, ◌<◌, ◌≤◌, ◌⊎◌, inl, inr, Bor, List, [], ◌∷◌, ◌++◌, length, drop, slice_get, Option, Some, None, refl, sym, ap, ◌∙◌, arith}
use Rattle.std.specs.List.{AllByRecursion as Each}
use Rattle.std.proofs.Math.Nat.{pow-suc, mul_assoc}
use Rattle.std.proofs.Math.Pow.{pow_mono}
use Rattle.std.proofs.lemmas.List.{drop_all}
use Rattle.kf_value.specs.Values.{ValueTree}
use Rattle.kf_value.specs.Types.{TypeTree, values, subsets}
use Rattle.kf_value.specs.Sizes.{HasSize, HasNumber}
use Rattle.kf_value.specs.Texts.{text}
use Rattle.kf_value.specs.Readings.{Stops, IsLeft, row, further}
use Rattle.kf_value.proofs.Apart.{values_small}
use Rattle.kf_value.proofs.Ascending.{each_part}
use Rattle.kf_value.proofs.ListLemmas.{each_at}
use Rattle.kf_value.proofs.Places.{piece_of}
use Rattle.kf_value.proofs.ReadingRows.{row_more, further_stops}
use Rattle.kf_value.proofs.Sets.{drop_at, element_at, each_from_at}
use Rattle.kf_value.proofs.Telling.{IsSmall, not_begun}

-- of each set that begins at the start, what is left is the row of its elements from the place k on, and their number is what is missing
pub record SetLeft (base : List ValueTree) (start left : List ℕ) (n k : ℕ) : Type 0 where
  pub small : n < 2 ^ k
  pub goes : (m : ℕ) (all : List ValueTree) (r : List ℕ) → slice_get (subsets base) m ≡ Some all → start ≡ row all 125 r
      → (j : ℕ) × (ws : List ValueTree) × (slice_get (subsets (drop k base)) j ≡ Some ws) × (m ≡ n + j * 2 ^ k) × (left ≡ row ws 125 r)

pub set_start : (base : List ValueTree) (start : List ℕ) → SetLeft base start start 0 0
set_start base start = record {
  small = omega arith;
  goes = λ m all r place whole. let same : m ≡ 0 + m * 2 ^ 0 = omega arith in (m, all, place, same, whole);
}

-- a part of a list with a first value is one of the rest's, without the value or with it
abbrev Without : List ValueTree → ℕ → List ValueTree → Type 0
Without xs j ws = (i : ℕ) × (j ≡ i * 2) × (slice_get (subsets xs) i ≡ Some ws)

abbrev With : ValueTree → List ValueTree → ℕ → List ValueTree → Type 0
With x xs j ws = (i : ℕ) × (part : List ValueTree) × (j ≡ i * 2 + 1) × (slice_get (subsets xs) i ≡ Some part) × (ws ≡ x ∷ part)

one_of_two : (x : ValueTree) (xs : List ValueTree) (j i e : ℕ) (part ws : List ValueTree) → j ≡ i * 2 + e → slice_get (subsets xs) i ≡ Some part
    → slice_get (part ∷ (x ∷ part) ∷ []) e ≡ Some ws → Without xs j ws ⊎ With x xs j ws
one_of_two x xs j i zero part ws number place at =
    let same : part ≡ ws = (cc) in let even : j ≡ i * 2 = omega arith in inl (i, even, place ∙ ap (λ p. Some p) same)
one_of_two x xs j i (suc zero) part ws number place at = let same : ws ≡ x ∷ part = (cc) in inr (i, part, number, place, same)
one_of_two x xs j i (suc (suc e)) part ws number place at = (cc)

without_or_with : (x : ValueTree) (xs : List ValueTree) (j : ℕ) (ws : List ValueTree) → slice_get (subsets (x ∷ xs)) j ≡ Some ws → Without xs j ws ⊎ With x xs j ws
without_or_with x xs j ws h =
    let piece = piece_of (λ part. part ∷ (x ∷ part) ∷ []) 2 (λ part. refl) (subsets xs) j ws h in
    one_of_two x xs j piece.0 piece.1 piece.2 ws piece.3 piece.4 piece.5

drop_get : (d l : ℕ) (xs : List ValueTree) → slice_get (drop d xs) l ≡ slice_get xs (d + l)
drop_get zero l xs = let same : l ≡ 0 + l = omega arith in ap (slice_get xs) same
drop_get (suc d) l [] = refl
drop_get (suc d) l (x ∷ xs) = let same : suc (d + l) ≡ suc d + l = omega arith in drop_get d l xs ∙ ap (slice_get (x ∷ xs)) same

-- the first element of a part of the later values stands later
stands_later : (base : List ValueTree) (k i : ℕ) (w : ValueTree) (ws : List ValueTree) → slice_get (subsets (drop (k + 1) base)) i ≡ Some (w ∷ ws)
    → (l : ℕ) × (slice_get base l ≡ Some w) × (l ≢ k)
stands_later base k i w ws h =
    let later = drop (k + 1) base in
    let Stands : ValueTree → Type 0 = λ u. (l : ℕ) × (slice_get later l ≡ Some u) in
    let stand = each_from_at Stands later (λ l u at. (l, at)) in
    let found = (each_at (Each Stands) (subsets later) i (w ∷ ws) (each_part Stands later stand) h).0 in
    (k + 1 + found.0, sym (drop_get (k + 1) found.0 base) ∙ found.1, λ same. omega arith)

first_and_rest : (bytes : List ℕ) (c : ℕ) → slice_get bytes 0 ≡ Some c → (r : List ℕ) × (bytes ≡ c ∷ r)
first_and_rest [] c h = (cc)
first_and_rest (b ∷ r) c h = let same : b ≡ c = (cc) in (r, ap (λ x. x ∷ r) same)

-- what is told where an element is looked for
pub record Looked (base : List ValueTree) (k : ℕ) (left : List ℕ) (found : Option (Bor (List ℕ))) : Type 0 where
  pub taken : (v : ValueTree) (r : List ℕ) → slice_get base k ≡ Some v → Stops r → left ≡ text v ++ r → IsLeft found r
  pub passed : (j : ℕ) (v : ValueTree) (r : List ℕ) → slice_get base j ≡ Some v → j ≢ k → Stops r → left ≡ text v ++ r → found ≡ None
  pub closed : (r : List ℕ) → left ≡ 125 ∷ r → found ≡ None

pub nothing_is : {X : Type 0} (o : Option X) → ((x : X) → o ≡ Some x → ⊥) → o ≡ None
nothing_is None h = refl
nothing_is (Some x) h = absurd (h x refl)

-- the text of a value of a type does not begin with a closing brace
pub not_closing : (t : TypeTree) (k : ℕ) (v : ValueTree) (r bytes : List ℕ) → HasSize t → HasNumber t v k → bytes ≡ text v ++ r → slice_get bytes 0 ≡ Some 125 → ⊥
not_closing t k v r bytes sized place whole first =
    let small = each_at IsSmall (values t) k v (values_small t sized) place in
    let begun = first_and_rest bytes 125 first in
    not_begun v 125 begun.0 r small refl (sym begun.1 ∙ whole)

pub small_sum : (n k : ℕ) → k < 17 → n < 2 ^ k → n + 2 ^ k < 2 ^ 64
small_sum n k within small = let power = pow_mono {i = k} {j = 17} (omega arith) in omega arith

none_is : {X : Type 0} (x : X) → Some x ≡ None → ⊥
none_is x h = (cc)

doubled : (k : ℕ) → 2 ^ (k + 1) ≡ 2 ^ k * 2
doubled k = let next : k + 1 ≡ suc k = omega arith in ap (λ e. 2 ^ e) next ∙ pow-suc 2 k

module _ (base : List ValueTree) (start left : List ℕ) (n k : ℕ) (inside : k < length base) (set : SetLeft base start left n k) where
  x : ValueTree
  x = (element_at base k inside).0

  x_at : slice_get base k ≡ Some x
  unfolding x
  x_at = (element_at base k inside).1

  choices : (m : ℕ) (all : List ValueTree) (r : List ℕ) → slice_get (subsets base) m ≡ Some all → start ≡ row all 125 r
      → (j : ℕ) × (ws : List ValueTree) × (Without (drop (k + 1) base) j ws ⊎ With x (drop (k + 1) base) j ws) × (m ≡ n + j * 2 ^ k) × (left ≡ row ws 125 r)
  choices m all r place whole =
      let here = set.goes m all r place whole in
      (here.0, here.1, without_or_with x (drop (k + 1) base) here.0 here.1 (ap (λ xs. slice_get (subsets xs) here.0) (sym (drop_at base k x x_at)) ∙ here.2), here.3, here.4)

  abbrev Next : ℕ → List ℕ → ℕ → List ℕ → Type 0
  Next next after m r = (i : ℕ) × (us : List ValueTree) × (slice_get (subsets (drop (k + 1) base)) i ≡ Some us) × (m ≡ next + i * 2 ^ (k + 1)) × (after ≡ row us 125 r)

  -- nothing was taken
  passing : Looked base k left None → (m : ℕ) (r : List ℕ) (j : ℕ) (ws : List ValueTree) → (Without (drop (k + 1) base) j ws ⊎ With x (drop (k + 1) base) j ws)
      → m ≡ n + j * 2 ^ k → left ≡ row ws 125 r → Next n left m r
  passing looked m r j ws (inl without) number whole =
      let power = doubled k in
      let spread : n + without.0 * 2 * 2 ^ k ≡ n + without.0 * (2 ^ k * 2) = omega (arith, mul_assoc without.0 2 (2 ^ k)) in
      let same : m ≡ n + without.0 * 2 ^ (k + 1) = number ∙ (ap (λ z. n + z * 2 ^ k) without.1 ∙ (spread ∙ ap (λ p. n + without.0 * p) (sym power))) in
      (without.0, ws, without.2, same, whole)
  passing looked m r j ws (inr with) number whole =
      absurd (looked.taken x (further with.1 125 r) x_at (further_stops with.1 125 r refl) (whole ∙ (ap (λ us. row us 125 r) with.4 ∙ row_more x with.1 125 r)))

  pub set_pass : Looked base k left None → SetLeft base start left n (k + 1)
  set_pass looked = record {
    small = let power = doubled k in let below = set.small in omega arith;
    goes = λ m all r place whole. let c = choices m all r place whole in passing looked m r c.0 c.1 c.2 c.3 c.4;
  }

  -- an element was taken, and what follows it is left
  taking : (rest : Bor (List ℕ)) (after : List ℕ) → Looked base k left (Some rest)
      → ((vs : List ValueTree) (c : ℕ) (r : List ℕ) → c ≢ 44 → rest.now ≡ further vs c r → after ≡ row vs c r)
      → (m : ℕ) (r : List ℕ) (j : ℕ) (ws : List ValueTree) → (Without (drop (k + 1) base) j ws ⊎ With x (drop (k + 1) base) j ws)
      → m ≡ n + j * 2 ^ k → left ≡ row ws 125 r → Next (n + 2 ^ k) after m r
  taking rest after looked comma m r j [] (inl without) number whole = absurd (none_is rest (looked.closed r whole))
  taking rest after looked comma m r j (w ∷ ws) (inl without) number whole =
      let later = stands_later base k without.0 w ws without.2 in
      absurd (none_is rest (looked.passed later.0 w (further ws 125 r) later.1 later.2 (further_stops ws 125 r refl) (whole ∙ row_more w ws 125 r)))
  taking rest after looked comma m r j ws (inr with) number whole =
      let power = doubled k in
      let spread : n + (with.0 * 2 + 1) * 2 ^ k ≡ (n + 2 ^ k) + with.0 * (2 ^ k * 2) = omega (arith, mul_assoc with.0 2 (2 ^ k)) in
      let same : m ≡ (n + 2 ^ k) + with.0 * 2 ^ (k + 1) = number ∙ (ap (λ z. n + z * 2 ^ k) with.2 ∙ (spread ∙ ap (λ p. (n + 2 ^ k) + with.0 * p) (sym power))) in
      let behind = looked.taken x (further with.1 125 r) x_at (further_stops with.1 125 r refl) (whole ∙ (ap (λ us. row us 125 r) with.4 ∙ row_more x with.1 125 r)) in
      (with.0, with.1, with.3, same, comma with.1 125 r (λ h. omega arith) behind)

  pub set_take : (rest : Bor (List ℕ)) (after : List ℕ) → Looked base k left (Some rest)
      → ((vs : List ValueTree) (c : ℕ) (r : List ℕ) → c ≢ 44 → rest.now ≡ further vs c r → after ≡ row vs c r)
      → SetLeft base start after (n + 2 ^ k) (k + 1)
  set_take rest after looked comma = record {
    small = let power = doubled k in let below = set.small in omega arith;
    goes = λ m all r place whole. let c = choices m all r place whole in taking rest after looked comma m r c.0 c.1 c.2 c.3 c.4;
  }

empty_part : (j : ℕ) (ws : List ValueTree) → slice_get (subsets []) j ≡ Some ws → (j ≡ 0) × (ws ≡ [])
empty_part zero ws h = let same : ws ≡ [] = (cc) in (refl, same)
empty_part (suc j) ws h = (cc)

pub set_end : (base : List ValueTree) (start left : List ℕ) (n k : ℕ) → length base ≤ k → SetLeft base start left n k
    → (m : ℕ) (all : List ValueTree) (r : List ℕ) → slice_get (subsets base) m ≡ Some all → start ≡ row all 125 r → (n ≡ m) × (left ≡ 125 ∷ r)
set_end base start left n k past set m all r place whole =
    let here = set.goes m all r place whole in
    let none = empty_part here.0 here.1 (ap (λ xs. slice_get (subsets xs) here.0) (sym (drop_all k base past)) ∙ here.2) in
    let zero_times : 0 * 2 ^ k ≡ 0 = omega arith in
    let nothing : here.0 * 2 ^ k ≡ 0 = ap (λ z. z * 2 ^ k) none.0 ∙ zero_times in
    let number = here.3 in
    let same : n ≡ m = omega arith in
    (same, here.4 ∙ ap (λ ws. row ws 125 r) none.1)
