-- Weights in descending order: what the first of them come to, and what they cost in turn.
use Rattle.std.proofs.Common.{◌≡◌, ℕ, ◌+◌, ◌*◌, ◌-◌, ◌<◌, ◌≤◌, List, [], ◌∷◌, map, sum_by, refl, arith, add-one, suc, zero, length, get_or, take, ◌⊎◌, ⊎_elim, inl, inr}
use Rattle.std.specs.Prelude.{IsPermutation}
use Rattle.std.proofs.lemmas.Bool.{cases_lt}
use Rattle.std.proofs.lemmas.List.Sums.{sum_by-cons}
use Rattle.std.proofs.lemmas.List.Sorted.{IsPermutation-refl, IsPermutation-cons, IsPermutation-trans, IsPermutation-append_left, IsPermutation-append_comm, sum_by-IsPermutation}
use Rattle.kf_gain.specs.Falling.{IsFalling}

-- the numbers fall from m on
abbrev pub Falls : ℕ → List ℕ → Type 0
Falls m [] = Unit {0}
Falls m (n ∷ ns) = (n ≤ m) × Falls n ns

pub falls_more : (n m : ℕ) (ns : List ℕ) → n ≤ m → Falls n ns → Falls m ns
falls_more n m [] order falls = tt
falls_more n m (x ∷ xs) order (here, rest) = (omega (arith, here, order), rest)

falls_from : (m : ℕ) (ns : List ℕ) → (0 < length ns → get_or ns 0 0 ≤ m) → IsFalling ns → Falls m ns
falls_from m [] first falling = tt
falls_from m (n ∷ ns) first falling =
    (first (omega arith), falls_from n ns (λ some. falling 0 (omega arith)) (λ k within. rw add-one (rw add-one at (falling (suc k) (omega arith)))))

abbrev pub all : List ℕ → ℕ
all ns = sum_by (λ (n : ℕ). n) ns

all-cons : (n : ℕ) (ns : List ℕ) → all (n ∷ ns) ≡ n + all ns
all-cons n ns = sum_by-cons (λ (n : ℕ). n) n ns

first_within : (ns : List ℕ) → get_or ns 0 0 ≤ all ns
first_within [] = omega arith
first_within (n ∷ ns) = omega (arith, all-cons n ns)

pub falls : (ns : List ℕ) → IsFalling ns → Falls (all ns) ns
falls ns falling = falls_from (all ns) ns (λ _. first_within ns) falling

-- the sum of the first k
abbrev pub front : ℕ → List ℕ → ℕ
front zero ns = 0
front (suc k) [] = 0
front (suc k) (n ∷ ns) = n + front k ns

pub front-nil : (k : ℕ) → front k [] ≡ 0
front-nil zero = refl
front-nil (suc k) = refl

pub front_taken : (k : ℕ) (ns : List ℕ) → all (take k ns) ≡ front k ns
front_taken zero ns = refl
front_taken (suc k) [] = refl
front_taken (suc k) (n ∷ ns) = omega (arith, all-cons n (take k ns), front_taken k ns)

pub front_less : (k : ℕ) (ns : List ℕ) → front k ns ≤ all ns
front_less zero ns = omega arith
front_less (suc k) [] = omega arith
front_less (suc k) (n ∷ ns) = omega (arith, all-cons n ns, front_less k ns)

-- what stands above t
abbrev pub excess : ℕ → List ℕ → ℕ
excess t ns = sum_by (λ (n : ℕ). n - t) ns

excess-cons : (t n : ℕ) (ns : List ℕ) → excess t (n ∷ ns) ≡ (n - t) + excess t ns
excess-cons t n ns = sum_by-cons (λ (n : ℕ). n - t) n ns

none_above : (m : ℕ) (ns : List ℕ) → Falls m ns → excess m ns ≡ 0
none_above m [] falls = refl
none_above m (n ∷ ns) (here, rest) = omega (arith, excess-cons m n ns, here, none_above m ns (falls_more n m ns here rest))

-- a number such that the first k are all that stands above it, and k times itself
pub record Threshold (k m : ℕ) (ns : List ℕ) : Type 0 where
  pub t : ℕ
  pub below : t ≤ m
  pub is : front k ns ≡ k * t + excess t ns

pub threshold : (k m : ℕ) (ns : List ℕ) → Falls m ns → Threshold k m ns
threshold zero m ns falls = record { t = m; below = omega arith; is = omega (arith, none_above m ns falls) }
threshold (suc k) m [] falls = record { t = 0; below = omega arith; is = omega arith }
threshold (suc k) m (n ∷ ns) (here, rest) =
    let r : Threshold k n ns = threshold k n ns rest in
    record { t = r.t; below = omega (arith, r.below, here); is = omega (arith, r.is, r.below, excess-cons r.t n ns) }

-- no k numbers come to more, whatever the threshold
pub front_within : (t k : ℕ) (ns : List ℕ) → front k ns ≤ k * t + excess t ns
front_within t zero ns = omega arith
front_within t (suc k) [] = omega arith
front_within t (suc k) (n ∷ ns) = omega (arith, front_within t k ns, excess-cons t n ns)

-- in descending order the first k come to most
pub front_most : (k m : ℕ) (xs ys : List ℕ) → IsPermutation xs ys → Falls m ys → front k xs ≤ front k ys
front_most k m xs ys moved falls =
    let r : Threshold k m ys = threshold k m ys falls in
    omega (arith, r.is, front_within r.t k xs, sum_by-IsPermutation (λ (n : ℕ). n - r.t) xs ys moved)

-- the sum of weight times position, the first of which is n
abbrev pub costs : ℕ → List ℕ → ℕ
costs n [] = 0
costs n (w ∷ ws) = w * n + costs (n + 1) ws

pub costs_next : (n : ℕ) (ws : List ℕ) → costs (n + 1) ws ≡ all ws + costs n ws
costs_next n [] = refl
costs_next n (w ∷ ws) = omega (arith, costs_next (n + 1) ws, all-cons w ws)

-- what has more in front costs less
pub dominated : (a b : ℕ) (xs ys : List ℕ) → b + all ys ≤ a + all xs → ((k : ℕ) → a + front k xs ≤ b + front k ys) → costs 0 ys ≤ costs 0 xs
dominated a b xs [] same more = omega arith
dominated a b [] (y ∷ ys) same more =
    let rest : costs 0 ys ≤ costs 0 [] = dominated a (b + y) [] ys (omega (arith, same, all-cons y ys)) (λ k. omega (arith, more 0, front-nil k)) in
    omega (arith, rest, more 0, same, all-cons y ys, costs_next 0 ys)
dominated a b (x ∷ xs) (y ∷ ys) same more =
    let rest : costs 0 ys ≤ costs 0 xs = dominated (a + x) (b + y) xs ys (omega (arith, same, all-cons x xs, all-cons y ys)) (λ k. omega (arith, more (suc k))) in
    omega (arith, rest, more 1, same, all-cons x xs, all-cons y ys, costs_next 0 xs, costs_next 0 ys)

pub cheaper : (xs ys : List ℕ) → all ys ≤ all xs → ((k : ℕ) → front k xs ≤ front k ys) → costs 1 ys ≤ costs 1 xs
cheaper xs ys same more =
    omega (arith, dominated 0 0 xs ys (omega (arith, same)) (λ k. omega (arith, more k)), costs_next 0 xs, costs_next 0 ys, same)

-- in descending order weights cost least
pub costs_least : (m : ℕ) (xs ys : List ℕ) → IsPermutation xs ys → Falls m ys → costs 1 ys ≤ costs 1 xs
costs_least m xs ys moved falls = cheaper xs ys (omega (arith, sum_by-IsPermutation (λ (n : ℕ). n) xs ys moved)) (λ k. front_most k m xs ys moved falls)

module _ {X : Type 0} (f : X → ℕ) where
  -- an element put into a list in descending order
  pub record Put (m : ℕ) (x : X) (ys : List X) : Type 0 where
    pub zs : List X
    pub moved : IsPermutation (x ∷ ys) zs
    pub falls : Falls m (map f zs)
    pub fronts : (k : ℕ) → (front (suc k) (map f zs) ≡ front (suc k) (map f ys)) ⊎ (front (suc k) (map f zs) ≡ f x + front k (map f ys))

  past : (x y : X) (ys zs : List X) → ((k : ℕ) → (front (suc k) (map f zs) ≡ front (suc k) (map f ys)) ⊎ (front (suc k) (map f zs) ≡ f x + front k (map f ys)))
      → (k : ℕ) → (front (suc k) (map f (y ∷ zs)) ≡ front (suc k) (map f (y ∷ ys))) ⊎ (front (suc k) (map f (y ∷ zs)) ≡ f x + front k (map f (y ∷ ys)))
  past x y ys zs fronts zero = inl refl
  past x y ys zs fronts (suc k) =
      ⊎_elim (λ (e : front (suc k) (map f zs) ≡ front (suc k) (map f ys)). inl (omega (arith, e)))
      (λ (e : front (suc k) (map f zs) ≡ f x + front k (map f ys)). inr (omega (arith, e))) (fronts k)

  exchanged : (x y : X) (ys : List X) → IsPermutation (x ∷ y ∷ ys) (y ∷ x ∷ ys)
  exchanged x y ys = IsPermutation-append_left ys (x ∷ y ∷ []) (y ∷ x ∷ []) (IsPermutation-append_comm (x ∷ []) (y ∷ []))

  pub put : (m : ℕ) (x : X) (ys : List X) → f x ≤ m → Falls m (map f ys) → Put m x ys
  put m x [] within falls = record { zs = x ∷ []; moved = IsPermutation-refl (x ∷ []); falls = (within, tt); fronts = λ k. inr refl }
  put m x (y ∷ ys) within (here, rest) =
      ⊎_elim
      (λ (less : f x < f y).
      let r : Put (f y) x ys = put (f y) x ys (omega (arith, less)) rest in
      record {
        zs = y ∷ r.zs;
        moved = IsPermutation-trans (x ∷ y ∷ ys) (y ∷ x ∷ ys) (y ∷ r.zs) (exchanged x y ys) (IsPermutation-cons y (x ∷ ys) r.zs r.moved);
        falls = (here, r.falls);
        fronts = past x y ys r.zs r.fronts;
      })
      (λ (least : f y ≤ f x). record { zs = x ∷ y ∷ ys; moved = IsPermutation-refl (x ∷ y ∷ ys); falls = (within, (least, rest)); fronts = λ k. inr refl })
      (cases_lt (f x) (f y))

  -- a list in descending order
  pub record Sorted (xs : List X) : Type 0 where
    pub zs : List X
    pub moved : IsPermutation xs zs
    pub falls : Falls (sum_by f xs) (map f zs)

  pub sort : (xs : List X) → Sorted xs
  sort [] = record { zs = []; moved = IsPermutation-refl []; falls = tt }
  sort (x ∷ xs) =
      let r : Sorted xs = sort xs in
      let whole = sum_by-cons f x xs in
      let p : Put (sum_by f (x ∷ xs)) x r.zs = put (sum_by f (x ∷ xs)) x r.zs (omega (arith, whole)) (falls_more (sum_by f xs) (sum_by f (x ∷ xs)) (map f r.zs) (omega (arith, whole)) r.falls) in
      record { zs = p.zs; moved = IsPermutation-trans (x ∷ xs) (x ∷ r.zs) p.zs (IsPermutation-cons x xs r.zs r.moved) p.moved; falls = p.falls }
