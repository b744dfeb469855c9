-- The set of the stores that are reached, and their order.
use Rattle.std.proofs.Common.{◌≡◌, ℕ, ◌<◌, List, [], ◌∷◌, inl, inr, refl, sym, subst, ◌∙◌, arith, ◌↔◌, ◌||◌, Bool, true, false, true≢false, nat_eq}
use Rattle.std.specs.List.{AllByRecursion as Each, list_any}
use Rattle.std.specs.Ordering.{nat_cmp, match_ordering}
use Rattle.std.specs.declared.cmp.Ordering.{Ordering}
use Rattle.std.specs.declared.cmp.Ordering.TheVariants.{Less, Equal, Greater}
use Rattle.std.specs.BTreeSet.{insert_key}
use Rattle.std.specs.FinSet.{contains, from_list, items, union, same_set, contains-from_list_nat, contains-union}
use Rattle.std.specs.FinMap.{nat_cmp-IsAntisymmetric}
use Rattle.std.specs.Map.{keys_of}
use Rattle.std.proofs.lemmas.Cmp.{nat_cmp_total, ranked}
use Rattle.kf_value.proofs.ListLemmas.{each_weaker}
use Rattle.kf_core.specs.Support.{StoreSet}
use Rattle.kf_core.specs.Each.{ascending}
use Rattle.kf_core.proofs.PassTells.{Lists, holds_listed, order_holds}
use Rattle.kf_support.specs.Carried.{Reached}
use Rattle.kf_support.proofs.Placing.{through, back, beside, Post, Good, Nice, Fits}
use Rattle.kf_support.proofs.Leading.{each_mapped}

abbrev pub set_of : Reached → StoreSet
set_of es = from_list (keys_of es)

-- ---- ascending lists

abbrev Rises : List ℕ → Type 0
Rises [] = Unit {0}
Rises (x ∷ xs) = Each (λ y. x < y) xs × Rises xs

module _ (P : ℕ → Type 0) (k : ℕ) (here : P k) where
  each_placed_at : (x : ℕ) (xs : List ℕ) (r : Ordering) → (Each P xs → Each P (insert_key nat_cmp xs k)) → Each P (x ∷ xs)
      → Each P (match_ordering r (k ∷ x ∷ xs) (x ∷ xs) (x ∷ insert_key nat_cmp xs k))
  each_placed_at x xs Less later h = (here, h)
  each_placed_at x xs Equal later h = h
  each_placed_at x xs Greater later h = (h.0, later h.1)

  each_placed : (xs : List ℕ) → Each P xs → Each P (insert_key nat_cmp xs k)
  each_placed [] h = (here, tt)
  each_placed (x ∷ xs) h = each_placed_at x xs (nat_cmp k x) (each_placed xs) h

module _ (k : ℕ) where
  rises_placed_at : (x : ℕ) (xs : List ℕ) (r : Ordering) → r ≡ nat_cmp k x → Rises (x ∷ xs) → Rises (insert_key nat_cmp xs k)
      → Rises (match_ordering r (k ∷ x ∷ xs) (x ∷ xs) (x ∷ insert_key nat_cmp xs k))
  rises_placed_at x xs Less is h later =
      let low : k < x = ranked k x Less is in
      ((low, each_weaker (λ y. x < y) (λ y. k < y) (λ y q. omega (arith, low, q)) xs h.0), h)
  rises_placed_at x xs Equal is h later = h
  rises_placed_at x xs Greater is h later = (each_placed (λ y. x < y) k (ranked k x Greater is) xs h.0, later)

  rises_placed : (xs : List ℕ) → Rises xs → Rises (insert_key nat_cmp xs k)
  rises_placed [] h = (tt, tt)
  rises_placed (x ∷ xs) h = rises_placed_at x xs (nat_cmp k x) refl h (rises_placed xs h.1)

ascending_rises : (ns : List ℕ) → Rises (ascending ns)
ascending_rises [] = tt
ascending_rises (n ∷ ns) = rises_placed n (ascending ns) (ascending_rises ns)

keys_rise : (es : Reached) → Good es → Rises (keys_of es)
keys_rise [] good = tt
keys_rise (e ∷ es) good = ((each_mapped (λ y. e.0 < y) (λ (f : ℕ × ℕ). f.0) es).1 good.1, keys_rise es good.2)

not_above : (m : ℕ) (xs : List ℕ) → Each (λ y. m < y) xs → Lists xs m → ⊥
not_above m [] h l = l
not_above m (x ∷ xs) h (inl is) = let q : m < x = h.0 in omega (arith, q, is)
not_above m (x ∷ xs) h (inr l) = not_above m xs h.1 l

-- what is listed behind the first is not the first
behind : (x y m : ℕ) (xs ys : List ℕ) → x ≡ y → Each (λ z. x < z) xs → (Lists (x ∷ xs) m → Lists (y ∷ ys) m) → Lists xs m → Lists ys m
behind x y m xs ys is above go l = at (go (inr l))
  where
    at : Lists (y ∷ ys) m → Lists ys m
    at (inl same) = absurd (not_above m xs (subst (λ n. Each (λ z. n < z) xs) (is ∙ same) above) l)
    at (inr h) = h

same_first : (x y : ℕ) (xs ys : List ℕ) → Rises (x ∷ xs) → Rises (y ∷ ys) → Lists (y ∷ ys) x → Lists (x ∷ xs) y → x ≡ y
same_first x y xs ys h k (inl p) q = sym p
same_first x y xs ys h k (inr p) (inl q) = q
same_first x y xs ys h k (inr p) (inr q) = absurd (not_above x xs h.0 (subst (λ n. Lists xs n) (twice (above y ys x k.0 p) (above x xs y h.0 q)) q))
  where
    above : (a : ℕ) (bs : List ℕ) (b : ℕ) → Each (λ z. a < z) bs → Lists bs b → a < b
    above a [] b h l = absurd l
    above a (c ∷ bs) b h (inl is) = let q : a < c = h.0 in omega (arith, q, is)
    above a (c ∷ bs) b h (inr l) = above a bs b h.1 l

    twice : y < x → x < y → y ≡ x
    twice a b = absurd (omega (arith, a, b))

same_rising : (xs ys : List ℕ) → Rises xs → Rises ys → ((m : ℕ) → Lists xs m ↔ Lists ys m) → xs ≡ ys
same_rising [] [] h k same = refl
same_rising [] (y ∷ ys) h k same = absurd ((same y).1 (inl refl))
same_rising (x ∷ xs) [] h k same = absurd ((same x).0 (inl refl))
same_rising (x ∷ xs) (y ∷ ys) h k same =
    let first : x ≡ y = same_first x y xs ys h k ((same x).0 (inl refl)) ((same y).1 (inl refl)) in
    let rest : xs ≡ ys =
    same_rising xs ys h.1 k.1 (λ m. (behind x y m xs ys first h.0 (same m).0, behind y x m ys xs (sym first) k.0 (same m).1)) in
    λ i. first i ∷ rest i

-- the stores are tried in their order
pub in_order : (es : Reached) → Good es → ascending (items (set_of es)) ≡ keys_of es
in_order es good =
    same_rising (ascending (items (set_of es))) (keys_of es) (ascending_rises (items (set_of es))) (keys_rise es good)
    (λ m. through (back (order_holds (set_of es) m)) (holds_listed (keys_of es) m))

-- ---- which stores are not there

abbrev pub Missing : ℕ → List ℕ → Type 0
Missing m ns = Each (λ n. nat_eq n m ≡ false) ns

abbrev pub NotAt : ℕ → Post
NotAt m n v = nat_eq n m ≡ false

pub not_at_nice : (m : ℕ) → Nice (NotAt m)
not_at_nice m = record { joins = λ n a b s. (λ h. (h, h), λ h. h.0); caps = λ n a s. (λ h. h, λ h. h) }

abbrev pub Out : ℕ → StoreSet → Type 0
Out m ns = contains ns m ≡ false

neither : (a b : Bool) → (a || b ≡ false) ↔ ((a ≡ false) × (b ≡ false))
neither true b = (λ h. absurd (true≢false h), λ h. absurd (true≢false h.0))
neither false b = (λ h. (refl, h), λ h. h.1)

none_pass : (m : ℕ) (ns : List ℕ) → (list_any (λ n. nat_eq n m) ns ≡ false) ↔ Missing m ns
none_pass m [] = (λ h. tt, λ h. refl)
none_pass m (n ∷ ns) = through (neither (nat_eq n m) (list_any (λ k. nat_eq k m) ns)) (beside (λ h. h, λ h. h) (none_pass m ns))

pub listed_out : (m : ℕ) (ns : List ℕ) → Out m (from_list ns) ↔ Missing m ns
listed_out m ns = let e = contains-from_list_nat ns m in through (λ h. sym e ∙ h, λ h. e ∙ h) (none_pass m ns)

pub keys_out : (m : ℕ) (es : Reached) → Out m (set_of es) ↔ Fits (NotAt m) es
keys_out m es = through (listed_out m (keys_of es)) (each_mapped (λ n. nat_eq n m ≡ false) (λ (e : ℕ × ℕ). e.0) es)

pub union_out : (m : ℕ) (ns ms : StoreSet) → Out m (union ns ms) ↔ (Out m ns × Out m ms)
union_out m ns ms = let e = contains-union nat_cmp_total ns ms m in through (λ h. sym e ∙ h, λ h. e ∙ h) (neither (contains ns m) (contains ms m))

same_answer : (a b : Bool) → (a ≡ false) ↔ (b ≡ false) → a ≡ b
same_answer true true h = refl
same_answer true false h = h.1 refl
same_answer false true h = sym (h.0 refl)
same_answer false false h = refl

pub same_sets : (ns ms : StoreSet) → ((m : ℕ) → Out m ns ↔ Out m ms) → ns ≡ ms
same_sets ns ms same = same_set nat_cmp_total nat_cmp-IsAntisymmetric ns ms (λ m. same_answer (contains ns m) (contains ms m) (same m))
