-- What a map from keys to numbers does when a number is added at a key.
use Rattle.std.proofs.Common.{◌≡◌, ℕ, ◌+◌, List, [], ◌∷◌, None, Option, unwrap_or, All, map, sum_by, refl, sym, ◌∙◌, ap, subst, arith, zero-add, ◌⊎◌, ⊎_elim, inl, inr}
use Rattle.std.specs.declared.cmp.Ordering.{Ordering}
use Rattle.std.specs.declared.cmp.Ordering.TheVariants.{Less, Equal, Greater}
use Rattle.std.specs.Ordering.{ordering_reverse}
use Rattle.std.specs.Cmp.{IsTotalOrder}
use Rattle.std.specs.List.{AllByRecursion}
use Rattle.std.specs.BTreeMap.{insert_entry, is_at}
use Rattle.std.specs.Map.{lookup, keys_of}
use Rattle.std.specs.List.Sorted.{IsStrictlySortedBy}
use Rattle.std.proofs.lemmas.Map.Entries.{lookup_at_gap}
use Rattle.std.proofs.lemmas.List.Elements.{All-head, All-tail, All-cons}
use Rattle.std.proofs.lemmas.List.Sums.{sum_by-cons}

-- the entries with t added to the key's number; two keys are one where they show the same
pub data Inserts {K V : Type 0} (shown : K → V) (key : K) (t : ℕ) : List (K × ℕ) → List (K × ℕ) → Type 0 where
  fresh : (es : List (K × ℕ)) → Inserts shown key t es ((key, t) ∷ es)
  added : (k : K) (n : ℕ) (es : List (K × ℕ)) → shown k ≡ shown key → Inserts shown key t ((k, n) ∷ es) ((k, n + t) ∷ es)
  past : (e : K × ℕ) (es fs : List (K × ℕ)) → Inserts shown key t es fs → Inserts shown key t (e ∷ es) (e ∷ fs)

pub orderings : (r : Ordering) → (r ≡ Less) ⊎ ((r ≡ Equal) ⊎ (r ≡ Greater))
orderings Less = inl refl
orderings Equal = inr (inl refl)
orderings Greater = inr (inr refl)

module _ {K V : Type 0} (shown : K → V) (order : K → K → Ordering) (total : IsTotalOrder order) (same : (a b : K) → order a b ≡ Equal → shown a ≡ shown b) where
  module _ (key : K) (t : ℕ) where
    abbrev now : List (K × ℕ) → ℕ
    now es = unwrap_or (lookup (is_at (order key)) es) 0 + t

    insert_fresh : (e : K × ℕ) (es : List (K × ℕ)) → IsStrictlySortedBy order (keys_of (e ∷ es)) → order key e.0 ≡ Less → Inserts shown key t (e ∷ es) (insert_entry order (e ∷ es) key (now (e ∷ es)))
    insert_fresh e es sorted r =
        let none : lookup (is_at (order key)) (e ∷ es) ≡ None =
        lookup_at_gap total key (e ∷ es) 0 sorted (λ j f below got. absurd (omega arith)) (λ f got. let first : e ≡ f = cc in subst (λ (f : K × ℕ). order key f.0 ≡ Less) first r) in
        let alone : now (e ∷ es) ≡ t = ap (λ (o : Option ℕ). unwrap_or o 0 + t) none ∙ zero-add t in
        rw (alone, r) (fresh (e ∷ es))

    insert_added : (e : K × ℕ) (es : List (K × ℕ)) → order key e.0 ≡ Equal → Inserts shown key t (e ∷ es) (insert_entry order (e ∷ es) key (now (e ∷ es)))
    insert_added e es r = rw r (added e.0 e.1 es (sym (same key e.0 r)))

    insert_past : (e : K × ℕ) (es : List (K × ℕ)) → order key e.0 ≡ Greater → Inserts shown key t es (insert_entry order es key (now es)) → Inserts shown key t (e ∷ es) (insert_entry order (e ∷ es) key (now (e ∷ es)))
    insert_past e es r had = rw r (past e es (insert_entry order es key (now es)) had)

  sorted_tail : (e : K × ℕ) (es : List (K × ℕ)) → IsStrictlySortedBy order (keys_of (e ∷ es)) → IsStrictlySortedBy order (keys_of es)
  unfolding IsStrictlySortedBy
  sorted_tail e es sorted = sorted.1

  pub inserted : (key : K) (t : ℕ) (es : List (K × ℕ)) → IsStrictlySortedBy order (keys_of es) → Inserts shown key t es (insert_entry order es key (unwrap_or (lookup (is_at (order key)) es) 0 + t))
  inserted key t [] sorted = subst (λ (n : ℕ). Inserts shown key t [] ((key, n) ∷ [])) (sym (zero-add t)) (fresh [])
  inserted key t (e ∷ es) sorted =
      ⊎_elim (insert_fresh key t e es sorted)
      (⊎_elim (insert_added key t e es) (λ (r : order key e.0 ≡ Greater). insert_past key t e es r (inserted key t es (sorted_tail e es sorted))))
      (orderings (order key e.0))

  -- ---- the keys stay in order

  all_before : (first key : K) (n : ℕ) (es : List (K × ℕ)) → order first key ≡ Less → AllByRecursion (λ (k : K). order first k ≡ Less) (keys_of es)
      → AllByRecursion (λ (k : K). order first k ≡ Less) (keys_of (insert_entry order es key n))
  all_before first key n [] less all = (less, tt)
  all_before first key n (e ∷ es) less all =
      ⊎_elim (λ (r : order key e.0 ≡ Less). rw r (less, all))
      (⊎_elim (λ (r : order key e.0 ≡ Equal). rw r all) (λ (r : order key e.0 ≡ Greater). rw r (all.0, all_before first key n es less all.1)))
      (orderings (order key e.0))

  before_rest : (key first : K) (ks : List K) → order key first ≡ Less → AllByRecursion (λ (k : K). order first k ≡ Less) ks → AllByRecursion (λ (k : K). order key k ≡ Less) ks
  before_rest key first [] less all = tt
  before_rest key first (k ∷ ks) less all = (total.trans key first k less all.0, before_rest key first ks less all.1)

  pub stays_sorted : (key : K) (n : ℕ) (es : List (K × ℕ)) → IsStrictlySortedBy order (keys_of es) → IsStrictlySortedBy order (keys_of (insert_entry order es key n))
  unfolding IsStrictlySortedBy
  stays_sorted key n [] sorted = (tt, tt)
  stays_sorted key n (e ∷ es) sorted =
      ⊎_elim (λ (r : order key e.0 ≡ Less). rw r ((r, before_rest key e.0 (keys_of es) r sorted.0), sorted))
      (⊎_elim (λ (r : order key e.0 ≡ Equal). rw r sorted)
      (λ (r : order key e.0 ≡ Greater).
      let less : order e.0 key ≡ Less = total.antisymm e.0 key ∙ ap ordering_reverse r in
      rw r (all_before e.0 key n es less sorted.0, stays_sorted key n es sorted.1)))
      (orderings (order key e.0))

-- the entries by what their keys show
abbrev pub paired : {K V : Type 0} → (K → V) → List (K × ℕ) → List (V × ℕ)
paired shown es = map (λ e. (shown e.0, e.1)) es

module _ {K V : Type 0} (shown : K → V) (key : K) (t : ℕ) where
  module _ (f : V → ℕ → ℕ) (adds : (k : V) (a b : ℕ) → f k (a + b) ≡ f k a + f k b) where
    abbrev all_of : List (K × ℕ) → ℕ
    all_of es = sum_by (λ (c : V × ℕ). f c.0 c.1) (paired shown es)

    all_of-cons : (e : K × ℕ) (es : List (K × ℕ)) → all_of (e ∷ es) ≡ f (shown e.0) e.1 + all_of es
    all_of-cons e es = sum_by-cons (λ (c : V × ℕ). f c.0 c.1) (shown e.0, e.1) (paired shown es)

    -- a sum over the entries grows by what is added
    pub sum_inserts : {es fs : List (K × ℕ)} → Inserts shown key t es fs → all_of fs ≡ all_of es + f (shown key) t
    sum_inserts (fresh es) = omega (arith, all_of-cons (key, t) es)
    sum_inserts (added k n es same) =
        let at_key : f (shown k) t ≡ f (shown key) t = ap (λ (l : V). f l t) same in
        omega (arith, all_of-cons (k, n + t) es, all_of-cons (k, n) es, adds (shown k) n t)
    sum_inserts (past e es fs rest) = omega (arith, all_of-cons e es, all_of-cons e fs, sum_inserts rest)

  -- what holds of each entry, and of the key's with the number added, holds of each afterwards
  module _ (P : V × ℕ → Type 0) (new : P (shown key, t)) (more : (n : ℕ) → P (shown key, n) → P (shown key, n + t)) where
    pub all_inserts : {es fs : List (K × ℕ)} → Inserts shown key t es fs → All P (paired shown es) → All P (paired shown fs)
    all_inserts (fresh es) all = All-cons P (shown key, t) (paired shown es) new all
    all_inserts (added k n es same) all =
        All-cons P (shown k, n + t) (paired shown es)
        (subst (λ (l : V). P (l, n + t)) (sym same) (more n (subst (λ (l : V). P (l, n)) same (All-head P (shown k, n) (paired shown es) all))))
        (All-tail P (shown k, n) (paired shown es) all)
    all_inserts (past e es fs rest) all =
        All-cons P (shown e.0, e.1) (paired shown fs) (All-head P (shown e.0, e.1) (paired shown es) all) (all_inserts rest (All-tail P (shown e.0, e.1) (paired shown es) all))
