-- What a pass tells of how runs end, for each way in which passes are made of others.
use Rattle.std.proofs.Common.{◌≡◌, ℕ, List, [], ◌∷◌, ◌++◌, map, Ok, Err, ◌⊎◌, inl, inr, refl, sym, subst, ◌∙◌, eq-eqb, eqb-true, ◌↔◌, ◌||◌, Bool, true, false, true≢false, nat_eq}
use Rattle.std.specs.Prelude.{IsTrue}
use Rattle.std.specs.Ordering.{nat_cmp, eq_by_cmp, match_ordering}
use Rattle.std.specs.declared.cmp.Ordering.{Ordering}
use Rattle.std.specs.declared.cmp.Ordering.TheVariants.{Less, Equal, Greater}
use Rattle.std.specs.BTreeSet.{insert_key}
use Rattle.std.specs.Cmp.{unsigned_tied}
use Rattle.std.specs.FinSet.{contains, from_list, items, union, contains-from_list_nat, contains-items, contains-union}
use Rattle.std.proofs.lemmas.Cmp.{nat_cmp_total, ranked}
use Rattle.kf_core.specs.Runs.{Halted}
use Rattle.kf_core.specs.Results.{then_ok, each_ok}
use Rattle.kf_core.specs.Support.{StoreSet, Passed, step, either_pass}
use Rattle.kf_core.proofs.Among.{Among, among_weaker, among_left, among_right, among_either, among_image, among_of_image, among_map, among_mapped}
use Rattle.kf_core.proofs.RunEnds.{End, Goes, Then, among_from_test, test_from_among}
use Rattle.kf_core.specs.Each.{each_pass, ascending}

-- its fault is an end; and where it has none, nothing ends in a fault, and what it reaches is where something ends
abbrev pub Tells : {A : Type 0} → (A → ℕ → Type 0) → Passed A → (End → Type 0) → Type 0
Tells has (Ok x) S = ((f : Halted) → S (Err f) → ⊥) × ((m : ℕ) → has x m ↔ S (Ok m))
Tells has (Err f) S = S (Err f)

-- what ends so from one of these
abbrev pub From : {A : Type 0} → (A → ℕ → Type 0) → A → (ℕ → End → Type 0) → End → Type 0
From has x T e = (n : ℕ) × has x n × T n e

abbrev pub Lists : List ℕ → ℕ → Type 0
Lists ns m = Among (λ n. n ≡ m) ns

abbrev pub Holds : StoreSet → ℕ → Type 0
Holds ns m = IsTrue (contains ns m)

-- ---- the same ends in other words, and passes in a row

module _ {A : Type 0} (has : A → ℕ → Type 0) (S T : End → Type 0) where
  pub tells_same : ((e : End) → S e → T e) → ((e : End) → T e → S e) → (p : Passed A) → Tells has p S → Tells has p T
  tells_same to from (Ok x) h = (λ f t. h.0 f (from (Err f) t), λ m. (λ c. to (Ok m) ((h.1 m).0 c), λ t. (h.1 m).1 (from (Ok m) t)))
  tells_same to from (Err f) h = to (Err f) h

module _ {A B : Type 0} (has : A → ℕ → Type 0) (gives : B → ℕ → Type 0) (S : End → Type 0) (T : ℕ → End → Type 0) where
  module _ (x : A) (h : Tells has (Ok x) S) (e : End) where
    from_then : From has x T e → Then S T e
    from_then r = (Ok r.0, (h.1 r.0).0 r.1, r.2)

    then_from_end : (y : End) → S y → Goes T y e → From has x T e
    then_from_end (Ok n) s g = (n, (h.1 n).1 s, g)
    then_from_end (Err f) s g = absurd (h.0 f s)

    then_from : Then S T e → From has x T e
    then_from r = then_from_end r.0 r.1 r.2

  pub then_tells : (p : Passed A) (next : A → Passed B) → Tells has p S → ((x : A) → Tells gives (next x) (From has x T)) → Tells gives (then_ok p next) (Then S T)
  then_tells (Ok x) next h k = tells_same gives (From has x T) (Then S T) (from_then x h) (then_from x h) (next x) (k x)
  then_tells (Err f) next h k = (Err f, h, refl)

-- what is reached turned into another form of it
module _ {A B : Type 0} (has : A → ℕ → Type 0) (gives : B → ℕ → Type 0) (turn : A → B) (alike : (x : A) (m : ℕ) → gives (turn x) m ↔ has x m) (S : End → Type 0) where
  pub turned_tells : (p : Passed A) → Tells has p S → Tells gives (then_ok p (λ x. Ok (turn x))) S
  turned_tells (Ok x) h = (h.0, λ m. (λ c. (h.1 m).0 ((alike x m).0 c), λ s. (alike x m).1 ((h.1 m).1 s)))
  turned_tells (Err f) h = h

-- one pass and another, whose results are joined
module _ {A : Type 0} (has : A → ℕ → Type 0) (join : A → A → A) (joins : (x y : A) (m : ℕ) → has (join x y) m ↔ (has x m ⊎ has y m)) (S T : End → Type 0) where
  module _ (x y : A) (h : Tells has (Ok x) S) (k : Tells has (Ok y) T) where
    no_fault : (f : Halted) → S (Err f) ⊎ T (Err f) → ⊥
    no_fault f (inl s) = h.0 f s
    no_fault f (inr t) = k.0 f t

    into : (m : ℕ) → has x m ⊎ has y m → S (Ok m) ⊎ T (Ok m)
    into m (inl c) = inl ((h.1 m).0 c)
    into m (inr c) = inr ((k.1 m).0 c)

    back : (m : ℕ) → S (Ok m) ⊎ T (Ok m) → has x m ⊎ has y m
    back m (inl s) = inl ((h.1 m).1 s)
    back m (inr t) = inr ((k.1 m).1 t)

  pub both_tell : (p q : Passed A) → Tells has p S → Tells has q T → Tells has (then_ok p (λ x. then_ok q (λ y. Ok (join x y)))) (λ e. S e ⊎ T e)
  both_tell (Ok x) (Ok y) h k = (no_fault x y h k, λ m. (λ c. into x y h k m ((joins x y m).0 c), λ s. (joins x y m).1 (back x y h k m s)))
  both_tell (Ok x) (Err f) h k = inr k
  both_tell (Err f) q h k = inl h

-- ---- lists and sets of stores

among_joined : (xs ys : List ℕ) (m : ℕ) → Lists xs m ⊎ Lists ys m → Lists (xs ++ ys) m
among_joined xs ys m (inl h) = among_left (λ n. n ≡ m) xs ys h
among_joined xs ys m (inr h) = among_right (λ n. n ≡ m) xs ys h

lists_joined : (xs ys : List ℕ) (m : ℕ) → Lists (xs ++ ys) m ↔ (Lists xs m ⊎ Lists ys m)
lists_joined xs ys m = (among_either (λ n. n ≡ m) xs ys, among_joined xs ys m)

or_either : (a b : Bool) → IsTrue (a || b) → IsTrue a ⊎ IsTrue b
or_either true b h = inl refl
or_either false b h = inr h

either_or : (a b : Bool) → IsTrue a ⊎ IsTrue b → IsTrue (a || b)
either_or true b h = refl
either_or false b (inl h) = absurd (true≢false (sym h))
either_or false b (inr h) = h

holds_union : (xs ys : StoreSet) (m : ℕ) → Holds (union xs ys) m ↔ (Holds xs m ⊎ Holds ys m)
holds_union xs ys m =
    let e = contains-union nat_cmp_total xs ys m in
    (λ h. or_either (contains xs m) (contains ys m) (sym e ∙ h), λ h. e ∙ either_or (contains xs m) (contains ys m) h)

pub holds_listed : (ns : List ℕ) (m : ℕ) → Holds (from_list ns) m ↔ Lists ns m
holds_listed ns m =
    let e = contains-from_list_nat ns m in (
      λ h. among_weaker (λ n. nat_eq n m ≡ true) (λ n. n ≡ m) (λ n. eqb-true n m) ns (among_from_test (λ n. nat_eq n m) ns (sym e ∙ h)),
      λ h. e ∙ test_from_among (λ n. nat_eq n m) ns (among_weaker (λ n. n ≡ m) (λ n. nat_eq n m ≡ true) (λ n. eq-eqb n m) ns h),
    )

pub items_hold : (ns : StoreSet) (m : ℕ) → Holds ns m ↔ Lists (items ns) m
items_hold ns m =
    let e = contains-items ns m in (
      λ h. among_weaker (λ n. eq_by_cmp nat_cmp m n ≡ true) (λ n. n ≡ m) (λ n t. sym (eqb-true m n (sym (unsigned_tied m n) ∙ t))) (items ns)
          (among_from_test (eq_by_cmp nat_cmp m) (items ns) (sym e ∙ h)),
      λ h. e ∙ test_from_among (eq_by_cmp nat_cmp m) (items ns)
          (among_weaker (λ n. n ≡ m) (λ n. eq_by_cmp nat_cmp m n ≡ true) (λ n t. unsigned_tied m n ∙ eq-eqb m n (sym t)) (items ns) h),
    )

-- the same stores in order
module _ (k m : ℕ) where
  placed_at : (x : ℕ) (xs : List ℕ) (r : Ordering) → r ≡ nat_cmp k x → (k ≡ m ⊎ Lists xs m → Lists (insert_key nat_cmp xs k) m)
      → k ≡ m ⊎ Lists (x ∷ xs) m → Lists (match_ordering r (k ∷ x ∷ xs) (x ∷ xs) (x ∷ insert_key nat_cmp xs k)) m
  placed_at x xs Less is later h = h
  placed_at x xs Equal is later (inl same) = inl (sym (ranked k x Equal is) ∙ same)
  placed_at x xs Equal is later (inr h) = h
  placed_at x xs Greater is later (inl same) = inr (later (inl same))
  placed_at x xs Greater is later (inr (inl same)) = inl same
  placed_at x xs Greater is later (inr (inr h)) = inr (later (inr h))

  placed : (xs : List ℕ) → k ≡ m ⊎ Lists xs m → Lists (insert_key nat_cmp xs k) m
  placed [] h = h
  placed (x ∷ xs) h = placed_at x xs (nat_cmp k x) refl (placed xs) h

  past : (x : ℕ) (xs : List ℕ) → k ≡ m ⊎ Lists xs m → k ≡ m ⊎ Lists (x ∷ xs) m
  past x xs (inl same) = inl same
  past x xs (inr h) = inr (inr h)

  found_at : (x : ℕ) (xs : List ℕ) (r : Ordering) → (Lists (insert_key nat_cmp xs k) m → k ≡ m ⊎ Lists xs m)
      → Lists (match_ordering r (k ∷ x ∷ xs) (x ∷ xs) (x ∷ insert_key nat_cmp xs k)) m → k ≡ m ⊎ Lists (x ∷ xs) m
  found_at x xs Less later h = h
  found_at x xs Equal later h = inr h
  found_at x xs Greater later (inl same) = inr (inl same)
  found_at x xs Greater later (inr h) = past x xs (later h)

  found : (xs : List ℕ) → Lists (insert_key nat_cmp xs k) m → k ≡ m ⊎ Lists xs m
  found [] h = h
  found (x ∷ xs) h = found_at x xs (nat_cmp k x) (found xs) h

module _ (m : ℕ) where
  to_order : (ns : List ℕ) → Lists ns m → Lists (ascending ns) m
  to_order [] h = h
  to_order (n ∷ ns) (inl same) = placed n m (ascending ns) (inl same)
  to_order (n ∷ ns) (inr h) = placed n m (ascending ns) (inr (to_order ns h))

  from_later : (n : ℕ) (ns : List ℕ) → (Lists (ascending ns) m → Lists ns m) → n ≡ m ⊎ Lists (ascending ns) m → Lists (n ∷ ns) m
  from_later n ns later (inl same) = inl same
  from_later n ns later (inr h) = inr (later h)

  from_order : (ns : List ℕ) → Lists (ascending ns) m → Lists ns m
  from_order [] h = h
  from_order (n ∷ ns) h = from_later n ns (from_order ns) (found n m (ascending ns) h)

pub order_holds : (ns : StoreSet) (m : ℕ) → Holds ns m ↔ Lists (ascending (items ns)) m
order_holds ns m = (λ h. to_order m (items ns) ((items_hold ns m).0 h), λ h. (items_hold ns m).1 (from_order m (items ns) h))

-- both branches
pub either_tells : (S T : End → Type 0) (p q : Passed StoreSet) → Tells Holds p S → Tells Holds q T → Tells Holds (either_pass p q) (λ e. S e ⊎ T e)
either_tells = both_tell Holds union holds_union

-- ---- a step from each store

module _ {A : Type 0} (next : A → Passed (List ℕ)) (T : A → End → Type 0) (tells : (x : A) → Tells Lists (next x) (T x)) where
  pub each_tells : (xs : List A) → Tells Lists (each_ok next xs) (λ e. Among (λ x. T x e) xs)
  each_tells [] = (λ f h. h, λ m. (λ h. h, λ h. h))
  each_tells (x ∷ xs) = both_tell Lists (λ ms others. ms ++ others) lists_joined (T x) (λ e. Among (λ y. T y e) xs) (next x) (each_ok next xs) (tells x) (each_tells xs)

module _ (next : ℕ → Passed (List ℕ)) (T : ℕ → End → Type 0) (tells : (n : ℕ) → Tells Lists (next n) (T n)) where
  from_items : (ns : StoreSet) (e : End) → Among (λ n. T n e) (ascending (items ns)) → From Holds ns T e
  from_items ns e h = let r = among_image (λ n. T n e) (λ (n : ℕ). n) (ascending (items ns)) h in (r.0, (order_holds ns r.0).1 r.1, r.2)

  items_from : (ns : StoreSet) (e : End) → From Holds ns T e → Among (λ n. T n e) (ascending (items ns))
  items_from ns e r = among_of_image (λ n. T n e) (λ (n : ℕ). n) (ascending (items ns)) r.0 r.2 ((order_holds ns r.0).0 r.1)

  pub step_tells : (ns : StoreSet) → Tells Holds (step next ns) (From Holds ns T)
  step_tells ns =
      turned_tells Lists Holds from_list holds_listed (From Holds ns T) (each_pass next (ascending (items ns)))
      (tells_same Lists (λ e. Among (λ n. T n e) (ascending (items ns))) (From Holds ns T) (from_items ns) (items_from ns) (each_pass next (ascending (items ns))) (each_tells next T tells (ascending (items ns))))

-- ---- from one store, and from the stores that others lead to

module _ (T : ℕ → End → Type 0) (e : End) where
  first_at : (n k : ℕ) → T k e → Lists (n ∷ []) k → T n e
  first_at n k t (inl same) = subst (λ m. T m e) (sym same) t
  first_at n k t (inr h) = absurd h

  pub from_first : (n : ℕ) → From Holds (from_list (n ∷ [])) T e → T n e
  from_first n r = first_at n r.0 r.2 ((holds_listed (n ∷ []) r.0).0 r.1)

  pub first_from : (n : ℕ) → T n e → From Holds (from_list (n ∷ [])) T e
  first_from n t = (n, (holds_listed (n ∷ []) n).1 (inl refl), t)

  pub from_moved : (go : ℕ → ℕ) (ns : StoreSet) → From Holds (from_list (map go (items ns))) T e → From Holds ns (λ n. T (go n)) e
  from_moved go ns r =
      let at = among_image (λ n. go n ≡ r.0) (λ (n : ℕ). n) (items ns) (among_map (λ n. n ≡ r.0) go (items ns) ((holds_listed (map go (items ns)) r.0).0 r.1)) in
      (at.0, (items_hold ns at.0).1 at.1, subst (λ n. T n e) (sym at.2) r.2)

  pub moved_from : (go : ℕ → ℕ) (ns : StoreSet) → From Holds ns (λ n. T (go n)) e → From Holds (from_list (map go (items ns))) T e
  moved_from go ns r =
      let at = among_of_image (λ n. go n ≡ go r.0) (λ (n : ℕ). n) (items ns) r.0 refl ((items_hold ns r.0).0 r.1) in
      (go r.0, (holds_listed (map go (items ns)) (go r.0)).1 (among_mapped (λ n. n ≡ go r.0) go (items ns) at), r.2)
