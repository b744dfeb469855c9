-- Sets of values that are tried at once: the greatest weights come to most.
use Rattle.std.proofs.Common.{◌≡◌, ℕ, ◌+◌, ◌*◌, ◌-◌, ◌<◌, ◌≤◌, List, [], ◌∷◌, Bool, map, sum_by, refl, sym, ◌∙◌, ap, arith, suc, zero, length, if◌then◌else◌, ◌⊎◌, ⊎_elim, eq-eqb}
use Rattle.std.specs.Prelude.{ℤ, pos, IsPermutation}
use Rattle.std.proofs.lemmas.Bool.{cases_eq, ne_eqb}
use Rattle.std.proofs.lemmas.Int.{ints}
use Rattle.std.proofs.lemmas.List.Sums.{sum_by-cons}
use Rattle.std.proofs.lemmas.List.Sorted.{IsPermutation-refl, IsPermutation-cons, IsPermutation-trans, IsPermutation-sym, IsPermutation-map, sum_by-IsPermutation}
use Rattle.kf_column.specs.declared.entry.Entry.{Entry}
use Rattle.kf_column.specs.Columns.{weight_at, total}
use Rattle.kf_column.proofs.Weights.{Above, weight_at_head, weight_at_other, weight_below}
use Rattle.kf_column.proofs.Posteriors.{weight_of_head}
use Rattle.kf_hyper.proofs.Averaging.{sum-mapped}
use Rattle.kf_hyper.proofs.Rising.{Rises, rises, increasing, rises_less}
use Rattle.kf_column.proofs.Scaling.{total-cons}
use Rattle.kf_gain.specs.Gains.{Bayes, Tries}
use Rattle.kf_gain.specs.Worth.{IsTried, IsVulnerability}
use Rattle.kf_gain.proofs.Adding.{at_value, Joined, join}
use Rattle.kf_gain.proofs.Falling.{Falls, falls_more, front, excess, Threshold, threshold, front_most, Put, put}

-- ---- sums over values

pub same_sums : {X : Type 0} (f g : X → ℕ) (xs : List X) → ((x : X) → f x ≡ g x) → sum_by f xs ≡ sum_by g xs
same_sums f g [] same = refl
same_sums f g (x ∷ xs) same = omega (arith, sum_by-cons f x xs, sum_by-cons g x xs, same x, same_sums f g xs same)

pub sum_two : {X : Type 0} (f g h : X → ℕ) (xs : List X) → ((x : X) → f x ≤ g x + h x) → sum_by f xs ≤ sum_by g xs + sum_by h xs
sum_two f g h [] within = omega arith
sum_two f g h (x ∷ xs) within = omega (arith, sum_by-cons f x xs, sum_by-cons g x xs, sum_by-cons h x xs, within x, sum_two f g h xs within)

pub zero_sum : {X : Type 0} (f : X → ℕ) (xs : List X) → ((x : X) → f x ≡ 0) → sum_by f xs ≡ 0
zero_sum f [] none = refl
zero_sum f (x ∷ xs) none = omega (arith, sum_by-cons f x xs, none x, zero_sum f xs none)

here : (v n x : ℕ) → v ≡ x → at_value v n x ≡ n
here v n x same = ap (λ (b : Bool). if b then n else 0) (eq-eqb v x same)

elsewhere : (v n x : ℕ) → (v ≡ x → ⊥) → at_value v n x ≡ 0
elsewhere v n x apart = ap (λ (b : Bool). if b then n else 0) (ne_eqb v x apart)

not_there : (v n low : ℕ) (xs : List ℕ) → Rises low xs → v < low → sum_by (at_value v n) xs ≡ 0
not_there v n low [] rises below = refl
not_there v n low (x ∷ xs) (from, rest) below =
    omega (arith, sum_by-cons (at_value v n) x xs, elsewhere v n x (λ same. omega (arith, same, from, below)), not_there v n (x + 1) xs rest (omega (arith, from, below)))

-- a value is tried once at most
at_most_once : (v n low : ℕ) (xs : List ℕ) → Rises low xs → sum_by (at_value v n) xs ≤ n
at_most_once v n low [] rises = omega arith
at_most_once v n low (x ∷ xs) (from, rest) =
    ⊎_elim
    (λ (same : v ≡ x). omega (arith, sum_by-cons (at_value v n) x xs, here v n x same, not_there v n (x + 1) xs rest (omega (arith, same))))
    (λ (apart : v ≡ x → ⊥). omega (arith, sum_by-cons (at_value v n) x xs, elsewhere v n x apart, at_most_once v n (x + 1) xs rest))
    (cases_eq v x)

-- ---- no values come to more than what stands above a number, and the number for each

parted : (t low : ℕ) (e : Entry) (es : List Entry) (x : ℕ) → Above low (e ∷ es) → weight_at (e ∷ es) x - t ≤ at_value e.value (e.weight - t) x + (weight_at es x - t)
parted t low e es x (from, some, rest) =
    ⊎_elim
    (λ (same : e.value ≡ x). omega (arith, weight_at_head e es x same, weight_below (e.value + 1) es x rest (omega (arith, same)), here e.value (e.weight - t) x same))
    (λ (apart : e.value ≡ x → ⊥). omega (arith, weight_at_other e es x apart))
    (cases_eq e.value x)

pub spread : (t low from : ℕ) (c : List Entry) (xs : List ℕ) → Above low c → Rises from xs → sum_by (λ (x : ℕ). weight_at c x - t) xs ≤ sum_by (λ (e : Entry). e.weight - t) c
spread t low from [] xs above rises = omega (arith, zero_sum (λ (x : ℕ). weight_at [] x - t) xs (λ x. omega arith))
spread t low from (e ∷ es) xs above rises =
    omega (
      arith,
      sum_two (λ (x : ℕ). weight_at (e ∷ es) x - t) (at_value e.value (e.weight - t)) (λ (x : ℕ). weight_at es x - t) xs (λ x. parted t low e es x above),
      at_most_once e.value (e.weight - t) from xs rises,
      spread t (e.value + 1) from es xs above.2 rises,
      sum_by-cons (λ (e : Entry). e.weight - t) e es,
    )

level : (f : ℕ → ℕ) (t k : ℕ) (xs : List ℕ) → length xs ≤ k → sum_by f xs ≤ k * t + sum_by (λ (x : ℕ). f x - t) xs
level f t k [] few = omega arith
level f t zero (x ∷ xs) few = absurd (omega (arith, few))
level f t (suc k) (x ∷ xs) few = omega (arith, sum_by-cons f x xs, sum_by-cons (λ (x : ℕ). f x - t) x xs, level f t k xs (omega (arith, few)))

pub tried_within : (t k : ℕ) (c : List Entry) (xs : List ℕ) → Above 0 c → Rises 0 xs → length xs ≤ k → sum_by (weight_at c) xs ≤ k * t + sum_by (λ (e : Entry). e.weight - t) c
tried_within t k c xs above rises few = omega (arith, level (weight_at c) t k xs few, spread t 0 0 c xs above rises)

-- no values weigh more than all
pub tried_total : (c : List Entry) (xs : List ℕ) → Above 0 c → Rises 0 xs → sum_by (weight_at c) xs ≤ total c
tried_total c xs above rises =
    omega (arith, tried_within 0 (length xs) c xs above rises (omega arith), same_sums (λ (e : Entry). e.weight - 0) (λ (e : Entry). e.weight) c (λ e. omega arith))

-- ---- the greatest weights are those of some values

abbrev Picked : ℕ → ℕ → List Entry → ℕ → Type 0
Picked low k c n = (xs : List ℕ) × Rises low xs × (length xs ≤ k) × (n ≡ sum_by (weight_at c) xs)

pub past_head : (e : Entry) (es : List Entry) (low : ℕ) (xs : List ℕ) → Rises low xs → e.value < low → sum_by (weight_at (e ∷ es)) xs ≡ sum_by (weight_at es) xs
past_head e es low [] rises below = refl
past_head e es low (x ∷ xs) (from, rest) below =
    omega (
      arith,
      sum_by-cons (weight_at (e ∷ es)) x xs,
      sum_by-cons (weight_at es) x xs,
      weight_at_other e es x (λ same. omega (arith, same, from, below)),
      past_head e es (x + 1) xs rest (omega (arith, from, below)),
    )

module _ (low : ℕ) (e : Entry) (es : List Entry) (above : Above low (e ∷ es)) where
  left_out : (k n m : ℕ) → n ≡ m → Picked (e.value + 1) k es m → Picked low k (e ∷ es) n
  left_out k n m same (xs, rises, few, is) =
      (xs, rises_less low (e.value + 1) xs (omega (arith, above.0)) rises, few, same ∙ is ∙ sym (past_head e es (e.value + 1) xs rises (omega arith)))

  taken : (k n m : ℕ) → n ≡ e.weight + m → Picked (e.value + 1) k es m → Picked low (suc k) (e ∷ es) n
  taken k n m same (xs, rises, few, is) = (
    e.value ∷ xs,
    (above.0, rises),
    omega (arith, few),
    omega (arith, same, is, sum_by-cons (weight_at (e ∷ es)) e.value xs, weight_of_head low e es above, past_head e es (e.value + 1) xs rises (omega arith)),
  )

  picked : (ns ms : List ℕ) → ((k : ℕ) → (front (suc k) ms ≡ front (suc k) ns) ⊎ (front (suc k) ms ≡ e.weight + front k ns)) → ((k : ℕ) → Picked (e.value + 1) k es (front k ns)) → (k : ℕ) → Picked low k (e ∷ es) (front k ms)
  picked ns ms fronts had zero = ([], tt, omega arith, refl)
  picked ns ms fronts had (suc k) =
      ⊎_elim
      (λ (same : front (suc k) ms ≡ front (suc k) ns). left_out (suc k) (front (suc k) ms) (front (suc k) ns) same (had (suc k)))
      (λ (more : front (suc k) ms ≡ e.weight + front k ns). taken k (front (suc k) ms) (front k ns) more (had k))
      (fronts k)

record Tops (low : ℕ) (c : List Entry) : Type 0 where
  zs : List Entry
  moved : IsPermutation c zs
  falls : Falls (total c) (map (λ (e : Entry). e.weight) zs)
  reached : (k : ℕ) → Picked low k c (front k (map (λ (e : Entry). e.weight) zs))

nothing_picked : (low k : ℕ) → Picked low k [] (front k [])
nothing_picked low zero = ([], tt, omega arith, refl)
nothing_picked low (suc k) = ([], tt, omega arith, refl)

tops : (low : ℕ) (c : List Entry) → Above low c → Tops low c
tops low [] above = record { zs = []; moved = IsPermutation-refl []; falls = tt; reached = nothing_picked low }
tops low (e ∷ es) above =
    let r : Tops (e.value + 1) es = tops (e.value + 1) es above.2 in
    let weight : Entry → ℕ = λ (e : Entry). e.weight in
    let p : Put weight (total (e ∷ es)) e r.zs = put weight (total (e ∷ es)) e r.zs (omega (arith, total-cons e es)) (falls_more (total es) (total (e ∷ es)) (map weight r.zs) (omega (arith, total-cons e es)) r.falls) in
    record {
      zs = p.zs;
      moved = IsPermutation-trans (e ∷ es) (e ∷ r.zs) p.zs (IsPermutation-cons e es r.zs r.moved) p.moved;
      falls = p.falls;
      reached = picked low e es above (map weight r.zs) (map weight p.zs) p.fronts r.reached;
    }

-- the weights of a column in descending order: its first k are the vulnerability under k tries
pub tries_are : (k m : ℕ) (c : List Entry) (ns : List ℕ) → Above 0 c → IsPermutation (map (λ (e : Entry). e.weight) c) ns → Falls m ns → IsVulnerability (Tries k) c (pos (front k ns))
tries_are k m c ns above moved falls =
    let weight : Entry → ℕ = λ (e : Entry). e.weight in
    let t : Tops 0 c = tops 0 c above in
    let ms : List ℕ = map weight t.zs in
    let moved' : IsPermutation (map weight c) ms = IsPermutation-map weight c t.zs t.moved in
    let le : front k ns ≤ front k ms = front_most k (total c) ns ms (IsPermutation-trans ns (map weight c) ms (IsPermutation-sym (map weight c) ns moved) moved') t.falls in
    let ge : front k ms ≤ front k ns = front_most k m ms ns (IsPermutation-trans ms (map weight c) ns (IsPermutation-sym (map weight c) ms moved') moved) falls in
    let p : Picked 0 k c (front k ms) = t.reached k in
    let r : Threshold k m ns = threshold k m ns falls in
    let spare : excess r.t ns ≡ sum_by (λ (e : Entry). e.weight - r.t) c = sum_by-IsPermutation (λ (n : ℕ). n - r.t) (map weight c) ns moved ∙ sum-mapped weight (λ (n : ℕ). n - r.t) c in
    record {
      reached = (p.0, increasing 0 p.0 p.1, p.2, ap pos (let same : front k ns ≡ front k ms = omega (arith, le, ge) in same ∙ p.3));
      best = λ y (xs, ascending, few, is). omega (arith, ints, is, r.is, spare, tried_within r.t k c xs above (rises xs ascending) few);
    }

-- ---- any list of weights

pub tidied : (c : List Entry) → Joined c []
tidied c = join c [] tt

tried_there : (k : ℕ) (c d : List Entry) (z : ℤ) → ((x : ℕ) → weight_at c x ≡ weight_at d x) → IsTried k c z → IsTried k d z
tried_there k c d z same (xs, ascending, few, is) = (xs, ascending, few, is ∙ ap pos (same_sums (weight_at c) (weight_at d) xs same))

-- the vulnerability looks at what each value weighs
pub tries_there : (k : ℕ) (c d : List Entry) (z : ℤ) → ((x : ℕ) → weight_at c x ≡ weight_at d x) → IsVulnerability (Tries k) c z → IsVulnerability (Tries k) d z
tries_there k c d z same v = record { reached = tried_there k c d z same v.reached; best = λ y h. v.best y (tried_there k d c y (λ x. sym (same x)) h) }

pub some_tries : (k : ℕ) (c : List Entry) → (z : ℤ) × IsVulnerability (Tries k) c z
some_tries k c =
    let j : Joined c [] = tidied c in
    let weight : Entry → ℕ = λ (e : Entry). e.weight in
    let t : Tops 0 j.sum = tops 0 j.sum j.above in (
      pos (front k (map weight t.zs)),
      tries_there k j.sum c (pos (front k (map weight t.zs))) (λ x. omega (arith, j.weights x)) (tries_are k (total j.sum) j.sum (map weight t.zs) j.above (IsPermutation-map weight j.sum t.zs t.moved) t.falls),
    )

-- one guess is one try
pub bayes_is : (c : List Entry) (z : ℤ) → IsVulnerability (Tries 1) c z → IsVulnerability Bayes c z
bayes_is c z v = record { reached = v.reached; best = v.best }
