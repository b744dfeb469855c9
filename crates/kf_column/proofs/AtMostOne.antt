-- Columns have at most one hyper.
use Rattle.std.proofs.Common.{◌≡◌, ℕ, ◌*◌, ◌/◌, ◌<◌, List, [], ◌∷◌, Bool, true, false, All, map, sum_by, count_by, refl, sym, ◌∙◌, ap, subst, arith, if◌then◌else◌, ◌⊎◌, ⊎_elim, inl, inr}
use Rattle.std.specs.declared.cmp.Ordering.TheVariants.{Less}
use Rattle.std.specs.Ordering.{ordering_reverse}
use Rattle.std.specs.List.{AllByRecursion}
use Rattle.std.specs.List.Sorted.{IsStrictlySortedBy}
use Rattle.std.proofs.Math.Nat.{mul-div_cancel_left}
use Rattle.std.proofs.lemmas.Bool.{cases_eq}
use Rattle.std.proofs.lemmas.List.Elements.{All-head, All-tail}
use Rattle.std.proofs.lemmas.List.Sums.{sum_by-cons}
use Rattle.kf_column.specs.declared.entry.Entry.{Entry}
use Rattle.kf_column.specs.Columns.{weight_at, total, proportional}
use Rattle.kf_column.specs.Hypers.{Inner, IsInner, IsHyper, class_total}
use Rattle.kf_column.specs.Laws.{AtMostOneHyper}
use Rattle.kf_column.proofs.Weights.{weight_at-cons, weight_at_head}
use Rattle.kf_column.proofs.Proportions.{AreProportional, proportional_all}
use Rattle.kf_column.proofs.Posteriors.{same_inner}
use Rattle.kf_column.proofs.Gathering.{list_total}
use Rattle.kf_column.proofs.Scaling.{total-cons}
use Rattle.kf_column.specs.Shapes.{list_order}

abbrev pub In : {X : Type 0} → X → List X → Type 0
In x [] = ⊥
In x (y ∷ ys) = (x ≡ y) ⊎ In x ys

all_in : {X : Type 0} (P : X → Type 0) (x : X) (xs : List X) → All P xs → In x xs → P x
all_in P x [] all here = absurd here
all_in P x (y ∷ ys) all here = ⊎_elim (λ (e : x ≡ y). subst P (sym e) (All-head P y ys all)) (λ h. all_in P x ys (All-tail P y ys all) h) here

record SomeAbove {X : Type 0} (f : X → ℕ) (xs : List X) : Type 0 where
  x : X
  here : In x xs
  above : 0 < f x

-- a sum above 0 has a part above 0
some_above : {X : Type 0} (f : X → ℕ) (xs : List X) → 0 < sum_by f xs → SomeAbove f xs
some_above f [] h = absurd (omega arith)
some_above f (x ∷ xs) h =
    ⊎_elim
    (λ (none : f x ≡ 0). let r = some_above f xs (omega (arith, sum_by-cons f x xs)) in record { x = r.x; here = inr r.here; above = r.above })
    (λ (some : f x ≡ 0 → ⊥). record { x = x; here = inl refl; above = omega arith })
    (cases_eq (f x) 0)

-- a column with a weight gives weight to some value
some_weight : (column : List Entry) → 0 < total column → (x : ℕ) × (0 < weight_at column x)
some_weight [] h = absurd (omega arith)
some_weight (e ∷ es) h =
    ⊎_elim
    (λ (none : e.weight ≡ 0). let r = some_weight es (omega (arith, total-cons e es)) in (r.0, omega (arith, weight_at-cons e es r.0, r.1)))
    (λ (some : e.weight ≡ 0 → ⊥). (e.value, omega (arith, weight_at_head e es e.value refl)))
    (cases_eq e.weight 0)

cancelled : (g a b : ℕ) → 0 < g → g * a ≡ g * b → a ≡ b
cancelled g a b some e = sym (mul-div_cancel_left a some) ∙ ap (λ (n : ℕ). n / g) e ∙ mul-div_cancel_left b some

paired : (g a b : ℕ) → (g * a) * (g * b) ≡ g * (g * (a * b))
paired g a b = omega arith

exchanged : (a b p q : ℕ) → (a * p) * (b * q) ≡ (b * p) * (a * q)
exchanged a b p q = omega arith

crossed : (g a b ux uy uz vx vy vz : ℕ) → 0 < g → g * ux ≡ a * uz → g * uy ≡ b * uz → g * vx ≡ a * vz → g * vy ≡ b * vz → ux * vy ≡ uy * vx
crossed g a b ux uy uz vx vy vz some p q r s =
    cancelled g (ux * vy) (uy * vx) some (cancelled g (g * (ux * vy)) (g * (uy * vx)) some
    (sym (paired g ux vy) ∙ (λ i. p i * s i) ∙ exchanged a b uz vz ∙ sym (λ i. q i * r i) ∙ paired g uy vx))

-- what is proportional to one column with a weight is proportional
chained : (c u v : List Entry) → 0 < total c → AreProportional c u → AreProportional c v → AreProportional u v
chained c u v some cu cv x y =
    let z = some_weight c some in
    crossed (weight_at c z.0) (weight_at c x) (weight_at c y) (weight_at u x) (weight_at u y) (weight_at u z.0) (weight_at v x) (weight_at v y) (weight_at v z.0) z.1
    (cu z.0 x) (cu z.0 y) (cv z.0 x) (cv z.0 y)

same_one : (i j : Inner) → i.entries ≡ j.entries → i.total ≡ j.total → i ≡ j
same_one i j e t = λ k. record { entries = e k; total = t k }

pub if_above : (b : Bool) (n : ℕ) → 0 < (if b then n else 0) → (b ≡ true) × (0 < n)
if_above true n h = (refl, h)
if_above false n h = absurd (omega arith)

module _ (columns : List (List Entry)) (h k : List Inner) (is : IsHyper columns h) (is' : IsHyper columns k) where
  -- each inner of the one is an inner of the other
  found : (i : Inner) → In i h → In i k
  found i here =
      let total_is : i.total ≡ class_total columns i.entries = all_in (λ (i : Inner). i.total ≡ class_total columns i.entries) i h is.totals here in
      let used : 0 < i.total = all_in (λ (i : Inner). 0 < i.total) i h is.used here in
      let c : SomeAbove (λ (c : List Entry). if proportional c i.entries then total c else 0) columns = some_above (λ (c : List Entry). if proportional c i.entries then total c else 0) columns (omega arith) in
      let member = if_above (proportional c.x i.entries) (total c.x) c.above in
      let once : count_by (λ (j : Inner). proportional c.x j.entries) k ≡ 1 =
      all_in (λ (c : List Entry). 0 < total c → count_by (λ (j : Inner). proportional c j.entries) k ≡ 1) c.x columns is'.covered c.here member.1 in
      let j : SomeAbove (λ (j : Inner). if proportional c.x j.entries then 1 else 0) k = some_above (λ (j : Inner). if proportional c.x j.entries then 1 else 0) k (omega arith) in
      let same : i.entries ≡ j.x.entries =
      same_inner i.entries j.x.entries (all_in (λ (i : Inner). IsInner i.entries) i h is.inner here) (all_in (λ (i : Inner). IsInner i.entries) j.x k is'.inner j.here)
      (chained c.x i.entries j.x.entries member.1 (proportional_all c.x i.entries member.0) (proportional_all c.x j.x.entries (if_above (proportional c.x j.x.entries) 1 j.above).0)) in
      let totals : i.total ≡ j.x.total = total_is ∙ ap (class_total columns) same ∙ sym (all_in (λ (i : Inner). i.total ≡ class_total columns i.entries) j.x k is'.totals j.here) in
      subst (λ (l : Inner). In l k) (sym (same_one i j.x same totals)) j.here

-- ---- two lists in strict order with the same elements are the same

module _ {X : Type 0} (Before : X → X → Type 0) (not_both : (a b : X) → Before a b → Before b a → ⊥) where
  -- each element stands before all that follow
  abbrev pub Ordered : List X → Type 0
  Ordered [] = Unit {0}
  Ordered (x ∷ xs) = ((y : X) → In y xs → Before x y) × Ordered xs

  same_heads : (a b : X) (as' bs : List X) → Ordered (a ∷ as') → Ordered (b ∷ bs) → In a (b ∷ bs) → In b (a ∷ as') → a ≡ b
  same_heads a b as' bs p q here there =
      ⊎_elim (λ (e : a ≡ b). e)
      (λ (in_bs : In a bs). ⊎_elim (λ (e : b ≡ a). sym e) (λ (in_as : In b as'). absurd (not_both a b (p.0 b in_as) (q.0 a in_bs))) there) here

  -- what stands after the first stands after the other's first
  past : (a b : X) (as' bs : List X) → a ≡ b → Ordered (a ∷ as') → ((x : X) → In x (a ∷ as') → In x (b ∷ bs)) → (x : X) → In x as' → In x bs
  past a b as' bs same p sub x here =
      ⊎_elim
      (λ (e : x ≡ b). let less : Before a a = subst (Before a) (e ∙ sym same) (p.0 x here) in absurd (not_both a a less less))
      (λ h. h) (sub x (inr here))

  pub same_lists : (xs ys : List X) → Ordered xs → Ordered ys → ((x : X) → In x xs → In x ys) → ((x : X) → In x ys → In x xs) → xs ≡ ys
  same_lists [] [] p q sub sup = refl
  same_lists [] (b ∷ bs) p q sub sup = absurd (sup b (inl refl))
  same_lists (a ∷ as') [] p q sub sup = absurd (sub a (inl refl))
  same_lists (a ∷ as') (b ∷ bs) p q sub sup =
      let same = same_heads a b as' bs p q (sub a (inl refl)) (sup b (inl refl)) in
      let rest = same_lists as' bs p.1 q.1 (past a b as' bs same p sub) (past b a bs as' (sym same) q sup) in
      λ i. same i ∷ rest i

abbrev IsBefore : Inner → Inner → Type 0
IsBefore i j = list_order i.entries j.entries ≡ Less

not_both_before : (i j : Inner) → IsBefore i j → IsBefore j i → ⊥
not_both_before i j p q =
    let flip : Less ≡ ordering_reverse Less = sym p ∙ list_total.antisymm i.entries j.entries ∙ ap ordering_reverse q in
    absurd (cc)

later : (l : List Entry) (is : List Inner) → AllByRecursion (λ (m : List Entry). list_order l m ≡ Less) (map (λ (i : Inner). i.entries) is) → (j : Inner) → In j is → list_order l j.entries ≡ Less
later l [] all j here = absurd here
later l (i ∷ is) all j here = ⊎_elim (λ (e : j ≡ i). subst (λ (j : Inner). list_order l j.entries ≡ Less) (sym e) all.0) (λ h. later l is all.1 j h) here

ordered : (is : List Inner) → IsStrictlySortedBy list_order (map (λ (i : Inner). i.entries) is) → Ordered IsBefore not_both_before is
unfolding IsStrictlySortedBy
ordered [] sorted = tt
ordered (i ∷ is) sorted = (later i.entries is sorted.0, ordered is sorted.1)

pub at_most_one : AtMostOneHyper
at_most_one columns h k is is' = same_lists IsBefore not_both_before h k (ordered h is.ascending) (ordered k is'.ascending) (found columns h k is is') (found columns k h is' is)
