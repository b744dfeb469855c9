-- How many stores there are, as far as 64 bits hold the number, and the lists that a shape keeps.
use Rattle.std.proofs.Common.{◌≡◌, ℕ, ◌+◌, ◌-◌, ◌*◌, ◌/◌, ◌^◌, ◌<◌, ◌≤◌, min, List, [], ◌∷◌, ◌++◌, None, refl, sym, ap, ◌∙◌, arith}
use Rattle.std.specs.List.{All}
use Rattle.std.proofs.Math.Nat.{mul_assoc, div-le_self}
use Rattle.std.proofs.lemmas.List.{append_assoc, append-nil}
use Rattle.std.proofs.lemmas.List.Elements.{All-head, All-tail}
use Rattle.std.proofs.lemmas.Nat.{div-mul-add}
use Rattle.kf_value.specs.declared.shape.Place.{Place}
use Rattle.kf_value.specs.Types.{TypeTree, count, product}
use Rattle.kf_value.specs.Sizes.{fault_of}
use Rattle.kf_value.specs.Numbers.{weights}
use Rattle.kf_value.proofs.Digits.{sizes, positive_sizes, positive_product}
use Rattle.kf_value.proofs.Sizing.{min_saturates, some_values}

abbrev pub AllSized : List TypeTree → Type 0
AllSized ts = All (λ t. fault_of t ≡ None) ts

-- ---- the product

pub record CountedSoFar (types later : List TypeTree) (n : ℕ) : Type 0 where
  pub fits : n < 2 ^ 64
  pub sized : AllSized later
  pub whole : min (n * product (sizes later)) (2 ^ 64 - 1) ≡ min (product (sizes types)) (2 ^ 64 - 1)

pub count_start : (types : List TypeTree) → AllSized types → CountedSoFar types types 1
count_start types sized =
    let one : 1 * product (sizes types) ≡ product (sizes types) = omega arith in
    record { fits = omega arith; sized = sized; whole = ap (λ p. min p (2 ^ 64 - 1)) one }

pub count_step : (types : List TypeTree) (t : TypeTree) (later : List TypeTree) (n : ℕ) → CountedSoFar types (t ∷ later) n
    → CountedSoFar types later (min (n * count t) (2 ^ 64 - 1))
count_step types t later n so_far =
    let rest = All-tail (λ u. fault_of u ≡ None) t later so_far.sized in
    let some = positive_product (sizes later) (positive_sizes later rest) in
    record {
      fits = omega arith;
      sized = rest;
      whole = min_saturates (n * count t) (product (sizes later)) (2 ^ 64 - 1) some
          ∙ (ap (λ p. min p (2 ^ 64 - 1)) (mul_assoc n (count t) (product (sizes later))) ∙ so_far.whole);
    }

pub count_end : (types : List TypeTree) (n : ℕ) → CountedSoFar types [] n → n ≡ min (product (sizes types)) (2 ^ 64 - 1)
count_end types n so_far =
    let fits = so_far.fits in
    let same : n ≡ min (n * 1) 18446744073709551615 = omega arith in
    same ∙ so_far.whole

-- a count that was not cut off
pub counted_exact : (n p : ℕ) → n ≡ min p (2 ^ 64 - 1) → n ≤ 2 ^ 63 → n ≡ p
counted_exact n p is low = omega arith

-- ---- the lists

abbrev pub place_size : Place → ℕ
place_size p = p.size.divisor

abbrev pub place_weight : Place → ℕ
place_weight p = p.weight.divisor

pub record ListedSoFar (types later : List TypeTree) (sized weighed : List ℕ) (weight : ℕ) : Type 0 where
  pub ok : AllSized later
  pub few : weight ≤ 2 ^ 63
  pub left : weight ≡ product (sizes later)
  pub small : sized ++ sizes later ≡ sizes types
  pub heavy : weighed ++ weights (sizes later) ≡ weights (sizes types)

pub list_start : (types : List TypeTree) (weight : ℕ) → AllSized types → weight ≤ 2 ^ 63 → weight ≡ product (sizes types) → ListedSoFar types types [] [] weight
list_start types weight ok few left = record { ok = ok; few = few; left = left; small = refl; heavy = refl }

pub next_weight : (t : TypeTree) (later : List TypeTree) (weight : ℕ) → AllSized (t ∷ later) → weight ≡ product (sizes (t ∷ later))
    → weight / count t ≡ product (sizes later)
next_weight t later weight ok left =
    let some = some_values 65536 t (All-head (λ u. fault_of u ≡ None) t later ok) in
    let turned : count t * product (sizes later) ≡ product (sizes later) * count t + 0 = omega arith in
    ap (λ w. w / count t) (left ∙ turned) ∙ div-mul-add (product (sizes later)) (count t) 0 some

-- a weight to divide by
pub weighs : (types : List TypeTree) (t : TypeTree) (later : List TypeTree) (sized weighed : List ℕ) (weight : ℕ)
    → ListedSoFar types (t ∷ later) sized weighed weight → (1 ≤ weight / count t) × (weight / count t ≤ 2 ^ 63)
weighs types t later sized weighed weight so_far =
    let next = next_weight t later weight so_far.ok so_far.left in
    let some = positive_product (sizes later) (positive_sizes later (All-tail (λ u. fault_of u ≡ None) t later so_far.ok)) in
    let less = div-le_self weight (count t) in
    let few = so_far.few in
    (omega arith, omega arith)

pub list_step : (types : List TypeTree) (t : TypeTree) (later : List TypeTree) (sized weighed : List ℕ) (weight : ℕ)
    → ListedSoFar types (t ∷ later) sized weighed weight
    → ListedSoFar types later (sized ++ count t ∷ []) (weighed ++ (weight / count t) ∷ []) (weight / count t)
list_step types t later sized weighed weight so_far =
    let next = next_weight t later weight so_far.ok so_far.left in
    record {
      ok = All-tail (λ u. fault_of u ≡ None) t later so_far.ok;
      few = let less = div-le_self weight (count t) in let few = so_far.few in omega arith;
      left = next;
      small = append_assoc sized (count t ∷ []) (sizes later) ∙ so_far.small;
      heavy = append_assoc weighed ((weight / count t) ∷ []) (weights (sizes later))
          ∙ (ap (λ w. weighed ++ (w ∷ weights (sizes later))) next ∙ so_far.heavy);
    }

pub list_end : (types : List TypeTree) (sized weighed : List ℕ) (weight : ℕ) → ListedSoFar types [] sized weighed weight
    → (sized ≡ sizes types) × (weighed ≡ weights (sizes types))
list_end types sized weighed weight so_far = (sym (append-nil sized) ∙ so_far.small, sym (append-nil weighed) ∙ so_far.heavy)
