-- One step from a set of stores tells the fault of the least store which has one.
use Rattle.std.proofs.Common.{◌≡◌, ℕ, ◌<◌, List, [], ◌∷◌, ◌++◌, Ok, Err, inl, inr, refl, ap, subst, ◌∙◌, true≢false, arith}
use Rattle.std.specs.Prelude.{is_ok, IsOk}
use Rattle.std.specs.Ordering.{nat_cmp, match_ordering}
use Rattle.std.specs.declared.cmp.Ordering.{Ordering}
use Rattle.std.specs.declared.cmp.Ordering.TheVariants.{Less, Equal, Greater}
use Rattle.std.specs.BTreeSet.{insert_key}
use Rattle.std.specs.FinSet.{from_list, items}
use Rattle.std.specs.List.{AllByRecursion as Each}
use Rattle.std.proofs.lemmas.Cmp.{ranked}
use Rattle.kf_value.proofs.ListLemmas.{each_weaker}
use Rattle.kf_core.specs.Results.{then_ok}
use Rattle.kf_core.specs.Runs.{Halted}
use Rattle.kf_core.specs.Support.{StoreSet, Passed}
use Rattle.kf_core.specs.SupportLaws.{LeastStoreFaults}
use Rattle.kf_core.proofs.PassTells.{Lists, order_holds}
use Rattle.kf_core.specs.Each.{each_pass, ascending}

-- ---- the stores of a set in order

-- each is below all that follow
abbrev Ascends : List ℕ → Type 0
Ascends [] = Unit {0}
Ascends (n ∷ ns) = Each (λ m. n < m) ns × Ascends ns

module _ (k : ℕ) where
  each_put_at : (P : ℕ → Type 0) (x : ℕ) (xs : List ℕ) (r : Ordering) → P k → Each P (x ∷ xs) → Each P (insert_key nat_cmp xs k)
      → Each P (match_ordering r (k ∷ x ∷ xs) (x ∷ xs) (x ∷ insert_key nat_cmp xs k))
  each_put_at P x xs Less here h later = (here, h)
  each_put_at P x xs Equal here h later = h
  each_put_at P x xs Greater here h later = (h.0, later)

  each_put : (P : ℕ → Type 0) (xs : List ℕ) → P k → Each P xs → Each P (insert_key nat_cmp xs k)
  each_put P [] here h = (here, tt)
  each_put P (x ∷ xs) here h = each_put_at P x xs (nat_cmp k x) here h (each_put P xs here h.1)

  put_ascends_at : (x : ℕ) (xs : List ℕ) (r : Ordering) → r ≡ nat_cmp k x → Ascends (x ∷ xs) → Ascends (insert_key nat_cmp xs k)
      → Ascends (match_ordering r (k ∷ x ∷ xs) (x ∷ xs) (x ∷ insert_key nat_cmp xs k))
  put_ascends_at x xs Less is h later =
      let less : k < x = ranked k x Less is in
      ((less, each_weaker (λ m. x < m) (λ m. k < m) (λ m more. omega (arith, less, more)) xs h.0), h)
  put_ascends_at x xs Equal is h later = h
  put_ascends_at x xs Greater is h later = (each_put (λ m. x < m) xs (ranked k x Greater is) h.0, later)

  put_ascends : (xs : List ℕ) → Ascends xs → Ascends (insert_key nat_cmp xs k)
  put_ascends [] h = (tt, tt)
  put_ascends (x ∷ xs) h = put_ascends_at x xs (nat_cmp k x) refl h (put_ascends xs h.1)

order_ascends : (ns : List ℕ) → Ascends (ascending ns)
order_ascends [] = tt
order_ascends (n ∷ ns) = put_ascends n (ascending ns) (order_ascends ns)

listed_above : (n m : ℕ) (ns : List ℕ) → Each (λ k. n < k) ns → Lists ns m → n < m
listed_above n m [] h at = absurd at
listed_above n m (k ∷ ns) h (inl same) = subst (λ i. n < i) same h.0
listed_above n m (k ∷ ns) h (inr at) = listed_above n m ns h.1 at

-- ---- the first that has a fault

module _ (next : ℕ → Passed (List ℕ)) (f : Halted) where
  -- some store of the list has it, and none below that one has any
  abbrev Least : List ℕ → Type 0
  Least ns = (n : ℕ) × Lists ns n × (next n ≡ Err f) × ((m : ℕ) → m < n → Lists ns m → IsOk (next m))

  first_least : (n : ℕ) (ns : List ℕ) → Ascends (n ∷ ns) → next n ≡ Err f → Least (n ∷ ns)
  first_least n ns up is = (n, inl refl, is, below)
    where
      below : (m : ℕ) → m < n → Lists (n ∷ ns) m → IsOk (next m)
      below m less (inl same) = absurd (omega (arith, less, same))
      below m less (inr at) = absurd (omega (arith, less, listed_above n m ns up.0 at))

  later_least : (n : ℕ) (ns : List ℕ) → IsOk (next n) → Least ns → Least (n ∷ ns)
  later_least n ns ok r = (r.0, inr r.1, r.2, below)
    where
      below : (m : ℕ) → m < r.0 → Lists (n ∷ ns) m → IsOk (next m)
      below m less (inl same) = subst (λ i. IsOk (next i)) same ok
      below m less (inr at) = r.3 m less at

  not_both : {A : Type 0} (x : A) → ◌≡◌ {A = Passed A} (Ok x) (Err f) → ⊥
  not_both x h = true≢false (ap is_ok h)

  same_fault : {A B : Type 0} (g : Halted) → ◌≡◌ {A = Passed A} (Err g) (Err f) → ◌≡◌ {A = Passed B} (Err g) (Err f)
  same_fault g h = let e : g ≡ f = (cc) in ap Err e

  rest_fault : (ms : List ℕ) (q : Passed (List ℕ)) → then_ok q (λ others. Ok (ms ++ others)) ≡ Err f → q ≡ Err f
  rest_fault ms (Ok others) h = absurd (not_both (ms ++ others) h)
  rest_fault ms (Err g) h = h

  least_by : (n : ℕ) (ns : List ℕ) (p : Passed (List ℕ)) → next n ≡ p → Ascends (n ∷ ns) → (each_pass next ns ≡ Err f → Least ns)
      → then_ok p (λ ms. then_ok (each_pass next ns) (λ others. Ok (ms ++ others))) ≡ Err f → Least (n ∷ ns)
  least_by n ns (Ok ms) is up later h = later_least n ns (ap is_ok is) (later (rest_fault ms (each_pass next ns) h))
  least_by n ns (Err g) is up later h = first_least n ns up (is ∙ h)

  least_of : (ns : List ℕ) → Ascends ns → each_pass next ns ≡ Err f → Least ns
  least_of [] up h = absurd (not_both [] h)
  least_of (n ∷ ns) up h = least_by n ns (next n) refl up (least_of ns up.1) h

  step_fault : (q : Passed (List ℕ)) → ◌≡◌ {A = Passed StoreSet} (then_ok q (λ ms. Ok (from_list ms))) (Err f) → q ≡ Err f
  step_fault (Ok ms) h = absurd (not_both (from_list ms) h)
  step_fault (Err g) h = same_fault g h

pub least_store_faults : LeastStoreFaults
least_store_faults next ns f h =
    let r = least_of next f (ascending (items ns)) (order_ascends (items ns)) (step_fault next f (each_pass next (ascending (items ns))) h) in (
      r.0,
      (order_holds ns r.0).1 r.1,
      r.2,
      λ m less here. r.3 m less ((order_holds ns m).0 here),
    )
