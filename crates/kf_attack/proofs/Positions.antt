-- Numbers by their positions: what a multiple of ranked weights adds to them.
use Rattle.std.proofs.Common.{◌≡◌, ℕ, ◌+◌, ◌*◌, ◌<◌, ◌≤◌, ◌==◌, List, [], ◌∷◌, map, length, get_or, take, refl, ap, arith, add-one, suc, zero, if◌then◌else◌}
use Rattle.std.proofs.Math.Nat.{mul-add, mul-zero, mul-le-mul_left}
use Rattle.std.proofs.lemmas.Bool.Decides.{nat_tests}
use Rattle.std.proofs.lemmas.List.Sums.{sum_by-cons}
use Rattle.kf_column.specs.declared.entry.Entry.{Entry}
use Rattle.kf_column.specs.Columns.{total}
use Rattle.kf_hyper.specs.Views.{entry_at}
use Rattle.kf_column.proofs.Scaling.{total-cons, times_if}
use Rattle.kf_gain.proofs.Falling.{all, front, front-nil}

abbrev pub weights : List Entry → List ℕ
weights es = map (λ (e : Entry). e.weight) es

pub all_weights : (es : List Entry) → all (weights es) ≡ total es
all_weights [] = refl
all_weights (e ∷ es) = omega (arith, sum_by-cons (λ (n : ℕ). n) e.weight (weights es), total-cons e es, all_weights es)

pub weight_there : (es : List Entry) (k : ℕ) → get_or (weights es) k 0 ≡ (entry_at es k).weight
weight_there [] k = refl
weight_there (e ∷ es) zero = refl
weight_there (e ∷ es) (suc k) = weight_there es k

pub front_next : (k : ℕ) (ns : List ℕ) → front (suc k) ns ≡ front k ns + get_or ns k 0
front_next zero [] = refl
front_next (suc k) [] = refl
front_next zero (n ∷ ns) = omega arith
front_next (suc k) (n ∷ ns) = omega (arith, front_next k ns)

pub front_all : (k : ℕ) (ns : List ℕ) → length ns ≤ k → front k ns ≡ all ns
front_all k [] long = front-nil k
front_all zero (n ∷ ns) long = absurd (omega (arith, long))
front_all (suc k) (n ∷ ns) long = omega (arith, sum_by-cons (λ (n : ℕ). n) n ns, front_all k ns (omega (arith, long)))

pub number_within : (k : ℕ) (ns : List ℕ) → get_or ns k 0 ≤ all ns
number_within k [] = omega arith
number_within zero (n ∷ ns) = omega (arith, sum_by-cons (λ (n : ℕ). n) n ns)
number_within (suc k) (n ∷ ns) = omega (arith, sum_by-cons (λ (n : ℕ). n) n ns, number_within k ns)

at_head : (n : ℕ) → n ≡ 0 + (if 0 == 0 then n else 0)
at_head n = grind arith

past_head : (j n : ℕ) → 0 ≡ 0 + (if suc j == 0 then n else 0)
past_head j n = grind (arith, nat_tests)

before_place : (i m n : ℕ) → m ≡ m + (if 0 == suc i then n else 0)
before_place i m n = grind (arith, nat_tests)

both_later : (i j n : ℕ) → (if j == i then n else 0) ≡ (if suc j == suc i then n else 0)
both_later i j n = grind (arith, nat_tests)

-- one entry more
pub next_entry : (es : List Entry) (i : ℕ) → i < length es → (j : ℕ)
    → (entry_at (take (i + 1) es) j).weight ≡ (entry_at (take i es) j).weight + (if j == i then (entry_at es i).weight else 0)
next_entry [] i within j = absurd (omega (arith, within))
next_entry (e ∷ es) zero within zero = at_head e.weight
next_entry (e ∷ es) zero within (suc j) = past_head j e.weight
next_entry (e ∷ es) (suc i) within zero = rw add-one (before_place i e.weight (entry_at es i).weight)
next_entry (e ∷ es) (suc i) within (suc j) =
    rw add-one (omega (arith, rw add-one at (next_entry es i (omega (arith, within)) j), both_later i j (entry_at es i).weight))

not_yet : (es : List Entry) (i : ℕ) → (entry_at (take i es) i).weight ≡ 0
not_yet es zero = refl
not_yet [] (suc i) = refl
not_yet (e ∷ es) (suc i) = not_yet es i

-- the numbers with a multiple of the first i weights added, each at its position
pub record Adds (multiple i : ℕ) (es : List Entry) (old new : List ℕ) : Type 0 where
  pub within : i ≤ length new
  pub at : (j : ℕ) → get_or new j 0 ≡ get_or old j 0 + multiple * (entry_at (take i es) j).weight

pub adds_nothing_yet : (multiple i : ℕ) (es : List Entry) (old new : List ℕ) → Adds multiple i es old new → get_or new i 0 ≡ get_or old i 0
adds_nothing_yet multiple i es old new had = omega (arith, had.at i, ap (λ (n : ℕ). multiple * n) (not_yet es i), mul-zero multiple)

pub adds_next : (multiple i : ℕ) (es : List Entry) (old new newer : List ℕ) → i < length es → Adds multiple i es old new → i < length newer
    → ((j : ℕ) → get_or newer j 0 ≡ get_or new j 0 + (if j == i then multiple * (entry_at es i).weight else 0)) → Adds multiple (i + 1) es old newer
adds_next multiple i es old new newer inside had long added = record {
  within = omega (arith, long);
  at = λ j.
      omega (
        arith,
        had.at j,
        added j,
        times_if multiple (entry_at es i).weight (j == i),
        ap (λ (n : ℕ). multiple * n) (next_entry es i inside j),
        mul-add multiple (entry_at (take i es) j).weight (if j == i then (entry_at es i).weight else 0),
      );
}

-- ---- what comes to the first numbers

module _ (multiple : ℕ) (es : List Entry) (old new : List ℕ) (added : (j : ℕ) → get_or new j 0 ≡ get_or old j 0 + multiple * (entry_at es j).weight) where
  pub front_added : (k : ℕ) → front k new ≡ front k old + multiple * front k (weights es)
  front_added zero = omega (arith, mul-zero multiple)
  front_added (suc k) =
      omega (
        arith,
        front_added k,
        added k,
        front_next k old,
        front_next k new,
        ap (λ (n : ℕ). multiple * n) (front_next k (weights es)),
        mul-add multiple (front k (weights es)) (get_or (weights es) k 0),
        ap (λ (n : ℕ). multiple * n) (weight_there es k),
      )

  pub all_added : all new ≡ all old + multiple * total es
  all_added =
      let k : ℕ = length old + length new + length (weights es) in
      omega (
        arith,
        front_added k,
        front_all k old (omega arith),
        front_all k new (omega arith),
        ap (λ (n : ℕ). multiple * n) (front_all k (weights es) (omega arith)),
        ap (λ (n : ℕ). multiple * n) (all_weights es),
      )

-- no number comes to more than all together
pub added_within : (multiple : ℕ) (es : List Entry) (ns : List ℕ) (j : ℕ) → get_or ns j 0 + multiple * (entry_at es j).weight ≤ all ns + multiple * total es
added_within multiple es ns j =
    let here : (entry_at es j).weight ≤ total es = omega (arith, number_within j (weights es), weight_there es j, all_weights es) in
    let times : multiple * (entry_at es j).weight ≤ multiple * total es = mul-le-mul_left multiple here in
    omega (arith, number_within j ns, times)
