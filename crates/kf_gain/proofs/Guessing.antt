-- Guesses in turn: the order of descending weights costs least.
use Rattle.std.proofs.Common.{◌≡◌, ℕ, ◌+◌, ◌*◌, ◌<◌, ◌≤◌, List, [], ◌∷◌, map, sum_by, refl, sym, ◌∙◌, ap, arith, length, get_or, drop, drop-cons, add-one}
use Rattle.std.specs.Prelude.{ℤ, pos, IsPermutation}
use Rattle.std.proofs.lemmas.Int.{ints}
use Rattle.std.proofs.lemmas.List.{length-map, drop_all}
use Rattle.std.proofs.lemmas.List.Sums.{sum_by-cons}
use Rattle.std.proofs.lemmas.List.Sorted.{IsPermutation-trans, IsPermutation-sym, IsPermutation-map, sum_by-IsPermutation, length_permutation}
use Rattle.kf_column.specs.declared.entry.Entry.{Entry}
use Rattle.kf_column.specs.Columns.{weight_at, total, values}
use Rattle.kf_column.proofs.Weights.{Above, weight_at_other}
use Rattle.kf_column.proofs.Posteriors.{weight_of_head}
use Rattle.kf_hyper.proofs.Averaging.{sum-mapped}
use Rattle.kf_hyper.proofs.Rising.{Rises}
use Rattle.kf_hyper.proofs.Searching.{values_rise}
use Rattle.kf_gain.specs.Gains.{Guessing}
use Rattle.kf_gain.specs.Worth.{cost_from, IsVulnerability}
use Rattle.kf_gain.proofs.Falling.{Falls, all, costs, costs_least, Sorted, sort}
use Rattle.kf_gain.proofs.Trying.{tried_total}

pub cost_is : (c : List Entry) (n : ℕ) (xs : List ℕ) → cost_from c n xs ≡ costs n (map (weight_at c) xs)
cost_is c n [] = refl
cost_is c n (x ∷ xs) = ap (λ (m : ℕ). weight_at c x * n + m) (cost_is c (n + 1) xs)

-- the weights in descending order: what they cost is the vulnerability
pub guesses_are : (c : List Entry) (m : ℕ) (ns : List ℕ) → IsPermutation (map (weight_at c) (values c)) ns → Falls m ns → IsVulnerability Guessing c (pos (costs 1 ns))
guesses_are c m ns moved falls =
    let s : Sorted (weight_at c) (values c) = sort (weight_at c) (values c) in
    let ws : List ℕ = map (weight_at c) (values c) in
    let ms : List ℕ = map (weight_at c) s.zs in
    let moved' : IsPermutation ws ms = IsPermutation-map (weight_at c) (values c) s.zs s.moved in
    let le : costs 1 ns ≤ costs 1 ms = costs_least m ms ns (IsPermutation-trans ms ws ns (IsPermutation-sym ws ms moved') moved) falls in
    let ge : costs 1 ms ≤ costs 1 ns = costs_least (sum_by (weight_at c) (values c)) ns ms (IsPermutation-trans ns ws ms (IsPermutation-sym ws ns moved) moved') s.falls in
    record {
      reached = (s.zs, s.moved, ap pos (let same : costs 1 ns ≡ costs 1 ms = omega (arith, le, ge) in same ∙ sym (cost_is c 1 s.zs)));
      best = λ y (xs, order, is).
          let us : List ℕ = map (weight_at c) xs in
          let more : costs 1 ns ≤ costs 1 us = costs_least m us ns (IsPermutation-trans us ws ns (IsPermutation-sym ws us (IsPermutation-map (weight_at c) (values c) xs order)) moved) falls in
          omega (arith, ints, is, more, cost_is c 1 xs);
    }

pub some_guesses : (c : List Entry) → (z : ℤ) × IsVulnerability Guessing c z
some_guesses c =
    let s : Sorted (weight_at c) (values c) = sort (weight_at c) (values c) in
    (pos (costs 1 (map (weight_at c) s.zs)), guesses_are c (sum_by (weight_at c) (values c)) (map (weight_at c) s.zs) (IsPermutation-map (weight_at c) (values c) s.zs s.moved) s.falls)

weights_past : (e : Entry) (es : List Entry) (low : ℕ) (xs : List ℕ) → Rises low xs → e.value < low → map (weight_at (e ∷ es)) xs ≡ map (weight_at es) xs
weights_past e es low [] rises below = refl
weights_past e es low (x ∷ xs) (from, rest) below =
    let here : weight_at (e ∷ es) x ≡ weight_at es x = weight_at_other e es x (λ same. omega (arith, same, from, below)) in
    let later = weights_past e es (x + 1) xs rest (omega (arith, from, below)) in
    λ i. here i ∷ later i

-- a column's weights are those of its values
pub weights_are : (low : ℕ) (c : List Entry) → Above low c → map (weight_at c) (values c) ≡ map (λ (e : Entry). e.weight) c
weights_are low [] above = refl
weights_are low (e ∷ es) above =
    let here : weight_at (e ∷ es) e.value ≡ e.weight = weight_of_head low e es above in
    let later : map (weight_at (e ∷ es)) (values es) ≡ map (λ (e : Entry). e.weight) es =
    weights_past e es (e.value + 1) (values es) (values_rise (e.value + 1) es above.2) (omega arith) ∙ weights_are (e.value + 1) es above.2 in
    λ i. here i ∷ later i

-- no order costs more than the last place for all
costs_within : (n : ℕ) (ws : List ℕ) → costs n ws + all ws ≤ (n + length ws) * all ws
costs_within n [] = omega arith
costs_within n (w ∷ ws) = omega (arith, costs_within (n + 1) ws, sum_by-cons (λ (n : ℕ). n) w ws, ap (λ (m : ℕ). (n + length (w ∷ ws)) * m) (sum_by-cons (λ (n : ℕ). n) w ws))

-- what weights cost in any order is at most their sum, as many times as there are
pub costs_fit : (c : List Entry) (ws : List ℕ) → IsPermutation (map (λ (e : Entry). e.weight) c) ws → costs 1 ws ≤ total c * length c
costs_fit c ws moved =
    let weight : Entry → ℕ = λ (e : Entry). e.weight in
    let lengths : length ws ≡ length c = let same : length (map weight c) ≡ length c = length-map c weight in length_permutation (map weight c) ws moved ∙ same in
    let whole : all ws ≡ total c = sum_by-IsPermutation (λ (n : ℕ). n) (map weight c) ws moved ∙ sum-mapped weight (λ (n : ℕ). n) c in
    omega (arith, costs_within 1 ws, ap (λ (n : ℕ). length ws * n) whole, ap (λ (n : ℕ). n * total c) lengths)

-- a guess in its turn
pub next_guess : (i cost : ℕ) (ws : List ℕ) → i < length ws → cost + costs (i + 1) (drop i ws) ≡ costs 1 ws
    → (cost + get_or ws i 0 * (i + 1) ≤ costs 1 ws) × (cost + get_or ws i 0 * (i + 1) + costs (i + 1 + 1) (drop (i + 1) ws) ≡ costs 1 ws)
next_guess i cost ws inside had =
    let rest : drop i ws ≡ get_or ws i 0 ∷ drop (i + 1) ws = rw add-one (drop-cons ws i 0 inside) in
    let here : costs (i + 1) (drop i ws) ≡ get_or ws i 0 * (i + 1) + costs (i + 1 + 1) (drop (i + 1) ws) = ap (λ (l : List ℕ). costs (i + 1) l) rest in
    (omega (arith, had, here), omega (arith, had, here))

pub all_guessed : (i cost : ℕ) (ws : List ℕ) → length ws ≤ i → cost + costs (i + 1) (drop i ws) ≡ costs 1 ws → cost ≡ costs 1 ws
all_guessed i cost ws past had = let none : costs (i + 1) (drop i ws) ≡ 0 = ap (λ (l : List ℕ). costs (i + 1) l) (drop_all i ws past) in omega (arith, had, none)

pub cost_within : (c : List Entry) (xs : List ℕ) → Above 0 c → IsPermutation (values c) xs → cost_from c 1 xs ≤ total c * length c
cost_within c xs above order =
    let ws : List ℕ = map (weight_at c) xs in
    let few : all ws ≤ total c =
    let moved = sum_by-IsPermutation (weight_at c) (values c) xs order in omega (arith, sum-mapped (weight_at c) (λ (n : ℕ). n) xs, moved, tried_total c (values c) above (values_rise 0 c above)) in
    let lengths : length ws ≡ length c =
    let moved : length xs ≡ length (values c) = length_permutation (values c) xs order in
    let same : length ws ≡ length xs = length-map xs (weight_at c) in
    let there : length (values c) ≡ length c = length-map c (λ (e : Entry). e.value) in
    same ∙ moved ∙ there in
    within (costs 1 ws) (all ws) (total c) (length ws) (length c) (omega (arith, costs_within 1 ws)) few lengths (cost_is c 1 xs)
  where
    within : (cost a t m n : ℕ) {k : ℕ} → cost ≤ m * a → a ≤ t → m ≡ n → k ≡ cost → k ≤ t * n
    within cost a t m n bound few same is = grind arith
