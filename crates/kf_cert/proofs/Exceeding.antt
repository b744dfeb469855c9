-- What is added up of the excesses of a table: an action has one at each value that it names, and one of 0 at all others.
use Rattle.std.proofs.Common.{◌≡◌, ℕ, ◌+◌, ◌<◌, ◌≤◌, ◌==◌, List, [], ◌∷◌, ◌++◌, Bool, All, map, sum_by, refl, sym, ◌∙◌, ap, arith, suc, zero, length, ⊎_elim, if◌then◌else◌, eq-eqb, add-one, drop, drop-cons, get_or, append_assoc, append-nil}
use Rattle.std.specs.Prelude.{ℤ, pos, ◌-ℤ◌, IsPermutation}
use Rattle.std.specs.List.Sorted.{IsStrictlyIncreasing, IsNonDecreasingBy}
use Rattle.std.proofs.lemmas.Bool.{ne_eqb, cases_eq}
use Rattle.std.proofs.lemmas.Int.{ints}
use Rattle.std.proofs.lemmas.List.{drop_all}
use Rattle.std.proofs.lemmas.List.Elements.{All-head, All-tail, All-nil, All-cons}
use Rattle.std.proofs.lemmas.List.Sums.{sum_by-cons, sum_by-append}
use Rattle.std.proofs.lemmas.List.Sorted.{sum_by-IsPermutation, All-permutation}
use Rattle.kf_hyper.proofs.Rising.{Rises, rises}
use Rattle.kf_gain.specs.declared.table.Action.{Action}
use Rattle.kf_gain.specs.declared.table.GainEntry.{GainEntry}
use Rattle.kf_gain.specs.Gains.{TableTree, gain_at}
use Rattle.kf_cert.specs.declared.gain_rules.excess.Excess.{Excess}
use Rattle.kf_cert.specs.NamedGains.{named_gains, action_excesses, excesses_from, of_both, AreExcesses}

abbrev value_of : GainEntry → ℕ
value_of e = e.value

-- gains without a value that they name at all
apart_gain : (rest : ℤ) (low x : ℕ) (gains : List GainEntry) → Rises low (map value_of gains) → x < low → gain_at rest gains x ≡ rest
apart_gain rest low x [] up below = refl
apart_gain rest low x (e ∷ es) (from, up) below =
    ap (λ (b : Bool). if b then e.gain else gain_at rest es x) (ne_eqb e.value x (λ same. omega (arith, from, below, same)))
    ∙ apart_gain rest (e.value + 1) x es up (omega (arith, from, below))

module _ (f : ℤ → ℕ) (none : f (pos 0) ≡ 0) (rest : ℤ) where
  abbrev excess_of : ℕ → GainEntry → Excess
  excess_of k e = record { value = e.value; action = k; amount = e.gain -ℤ rest }

  idle : f (rest -ℤ rest) ≡ 0
  idle = let same : rest -ℤ rest ≡ pos 0 = omega (arith, ints) in ap f same ∙ none

  -- those of another action count for nothing
  other_head : (j k x : ℕ) (e : GainEntry) → (j ≡ k → ⊥) → of_both f k x (excess_of j e) ≡ 0
  other_head j k x e apart =
      ap (λ (b : Bool). if e.value == x then (if b then f (e.gain -ℤ rest) else 0) else 0) (ne_eqb j k apart) ∙ either (e.value == x) 0
    where
      either : (b : Bool) (n : ℕ) → (if b then n else n) ≡ n
      either b n = grind arith

  others : (j k x : ℕ) (gains : List GainEntry) → (j ≡ k → ⊥) → sum_by (of_both f k x) (action_excesses rest j gains) ≡ 0
  others j k x [] apart = refl
  others j k x (e ∷ es) apart =
      omega (arith, sum_by-cons (of_both f k x) (excess_of j e) (action_excesses rest j es), other_head j k x e apart, others j k x es apart)

  -- those of the action itself: the one at the value, where it names it
  here : (k x : ℕ) (e : GainEntry) → e.value ≡ x → of_both f k x (excess_of k e) ≡ f (e.gain -ℤ rest)
  here k x e same =
      ap (λ (b : Bool). if b then (if k == k then f (e.gain -ℤ rest) else 0) else 0) (eq-eqb e.value x same)
      ∙ ap (λ (b : Bool). if b then f (e.gain -ℤ rest) else 0) (eq-eqb k k refl)

  elsewhere : (k x : ℕ) (e : GainEntry) → (e.value ≡ x → ⊥) → of_both f k x (excess_of k e) ≡ 0
  elsewhere k x e apart = ap (λ (b : Bool). if b then (if k == k then f (e.gain -ℤ rest) else 0) else 0) (ne_eqb e.value x apart)

  own : (k x low : ℕ) (gains : List GainEntry) → Rises low (map value_of gains) → sum_by (of_both f k x) (action_excesses rest k gains) ≡ f (gain_at rest gains x -ℤ rest)
  own k x low [] up = sym idle
  own k x low (e ∷ es) (from, up) =
      let step = sum_by-cons (of_both f k x) (excess_of k e) (action_excesses rest k es) in
      let left = own k x (e.value + 1) es up in
      ⊎_elim
      (λ (same : e.value ≡ x).
      let gain : gain_at rest (e ∷ es) x ≡ e.gain = ap (λ (b : Bool). if b then e.gain else gain_at rest es x) (eq-eqb e.value x same) in
      let after : gain_at rest es x ≡ rest = apart_gain rest (e.value + 1) x es up (omega (arith, same)) in
      omega (arith, step, left, here k x e same, ap (λ (z : ℤ). f (z -ℤ rest)) gain, ap (λ (z : ℤ). f (z -ℤ rest)) after, idle))
      (λ (apart : e.value ≡ x → ⊥).
      let gain : gain_at rest (e ∷ es) x ≡ gain_at rest es x = ap (λ (b : Bool). if b then e.gain else gain_at rest es x) (ne_eqb e.value x apart) in
      omega (arith, step, left, elsewhere k x e apart, ap (λ (z : ℤ). f (z -ℤ rest)) gain))
      (cases_eq e.value x)

  -- those of actions after k
  later : (j k x : ℕ) (actions : List Action) → k < j → sum_by (of_both f k x) (excesses_from rest j actions) ≡ 0
  later j k x [] after = refl
  later j k x (a ∷ actions) after =
      omega (
        arith,
        sum_by-append (of_both f k x) (action_excesses rest j a.gains) (excesses_from rest (j + 1) actions),
        others j k x a.gains (λ same. omega (arith, after, same)),
        later (j + 1) k x actions (omega (arith, after)),
      )

  all : (j i x : ℕ) (actions : List Action) → All (λ (a : Action). IsStrictlyIncreasing (map value_of a.gains)) actions
      → sum_by (of_both f (j + i) x) (excesses_from rest j actions) ≡ f (gain_at rest (named_gains actions i) x -ℤ rest)
  all j i x [] ascending = sym idle
  all j zero x (a ∷ actions) ascending =
      let first = own (j + 0) x 0 a.gains (rises (map value_of a.gains) (All-head (λ (a : Action). IsStrictlyIncreasing (map value_of a.gains)) a actions ascending)) in
      let same : j + 0 ≡ j = omega arith in
      omega (
        arith,
        sum_by-append (of_both f (j + 0) x) (action_excesses rest j a.gains) (excesses_from rest (j + 1) actions),
        ap (λ (k : ℕ). sum_by (of_both f (j + 0) x) (action_excesses rest k a.gains)) same,
        first,
        later (j + 1) (j + 0) x actions (omega arith),
      )
  all j (suc i) x (a ∷ actions) ascending =
      let next = all (j + 1) i x actions (All-tail (λ (a : Action). IsStrictlyIncreasing (map value_of a.gains)) a actions ascending) in
      let same : j + suc i ≡ j + 1 + i = omega arith in
      omega (
        arith,
        sum_by-append (of_both f (j + suc i) x) (action_excesses rest j a.gains) (excesses_from rest (j + 1) actions),
        others j (j + suc i) x a.gains (λ same. omega (arith, same)),
        ap (λ (k : ℕ). sum_by (of_both f k x) (excesses_from rest (j + 1) actions)) same,
        next,
      )

-- each is an excess of one of the actions
module _ (rest : ℤ) (count : ℕ) where
  inside_action : (k : ℕ) (gains : List GainEntry) → k < count → All (λ (e : Excess). e.action < count) (action_excesses rest k gains)
  inside_action k [] below = All-nil (λ (e : Excess). e.action < count)
  inside_action k (e ∷ es) below = All-cons (λ (e : Excess). e.action < count) (excess_of (λ (z : ℤ). 0) refl rest k e) (action_excesses rest k es) below (inside_action k es below)

  both : (xs ys : List Excess) → All (λ (e : Excess). e.action < count) xs → All (λ (e : Excess). e.action < count) ys → All (λ (e : Excess). e.action < count) (xs ++ ys)
  both [] ys first second = second
  both (x ∷ xs) ys first second =
      All-cons (λ (e : Excess). e.action < count) x (xs ++ ys) (All-head (λ (e : Excess). e.action < count) x xs first) (both xs ys (All-tail (λ (e : Excess). e.action < count) x xs first) second)

  inside_from : (j : ℕ) (actions : List Action) → j + length actions ≤ count → All (λ (e : Excess). e.action < count) (excesses_from rest j actions)
  inside_from j [] within = All-nil (λ (e : Excess). e.action < count)
  inside_from j (a ∷ actions) within =
      both (action_excesses rest j a.gains) (excesses_from rest (j + 1) actions) (inside_action j a.gains (omega (arith, within))) (inside_from (j + 1) actions (omega (arith, within)))

pub are_excesses : (t : TableTree) (made : List Excess) → All (λ (a : Action). IsStrictlyIncreasing (map value_of a.gains)) t.actions
    → IsPermutation (excesses_from t.rest 0 t.actions) made → IsNonDecreasingBy (λ (e : Excess). e.value) made → AreExcesses t made
are_excesses t made rising moved ascending = record {
  ascending = ascending;
  inside = All-permutation (λ (e : Excess). e.action < length t.actions) (excesses_from t.rest 0 t.actions) made moved (inside_from t.rest (length t.actions) 0 t.actions (omega arith));
  sums = λ f none k x.
      let from : k ≡ 0 + k = omega arith in
      sum_by-IsPermutation (of_both f k x) (excesses_from t.rest 0 t.actions) made moved
      ∙ ap (λ (n : ℕ). sum_by (of_both f n x) (excesses_from t.rest 0 t.actions)) from ∙ all f none t.rest 0 k x t.actions rising;
}

-- ---- one more action

pub more_made : (rest less : ℤ) (actions : List Action) (k : ℕ) (a : Action) (gains : List GainEntry) (old new whole : List Excess) → k < length actions → a ≡ get_or actions k a → gains ≡ a.gains
    → less ≡ rest → new ≡ old ++ action_excesses less k gains → old ++ excesses_from rest k (drop k actions) ≡ whole → new ++ excesses_from rest (k + 1) (drop (k + 1) actions) ≡ whole
more_made rest less actions k a gains old new whole inside is named same made had =
    let left : drop k actions ≡ get_or actions k a ∷ drop (k + 1) actions = rw add-one (drop-cons actions k a inside) in
    let here : action_excesses less k gains ≡ action_excesses rest k (get_or actions k a).gains =
    (λ i. action_excesses (same i) k (named i)) ∙ ap (λ (a : Action). action_excesses rest k a.gains) is in
    ap (λ (l : List Excess). l ++ excesses_from rest (k + 1) (drop (k + 1) actions)) (made ∙ ap (λ (l : List Excess). old ++ l) here)
    ∙ append_assoc old (action_excesses rest k (get_or actions k a).gains) (excesses_from rest (k + 1) (drop (k + 1) actions))
    ∙ ap (λ (l : List Action). old ++ excesses_from rest k l) (sym left) ∙ had

pub all_made : (rest : ℤ) (actions : List Action) (k : ℕ) (made whole : List Excess) → length actions ≤ k → made ++ excesses_from rest k (drop k actions) ≡ whole → made ≡ whole
all_made rest actions k made whole past had =
    sym (append-nil made) ∙ ap (λ (l : List Action). made ++ excesses_from rest k l) (sym (drop_all k actions past)) ∙ had
