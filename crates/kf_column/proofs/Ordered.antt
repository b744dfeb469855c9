-- Classes in strict order: no two are proportional.
use Rattle.std.proofs.Common.{◌≡◌, ℕ, ◌+◌, ◌<◌, List, [], ◌∷◌, Bool, true, false, All, map, count_by, refl, sym, ◌∙◌, ap, subst, arith, zero-add, if◌then◌else◌, ⊎_elim, get_or}
use Rattle.std.specs.declared.cmp.Ordering.{Ordering}
use Rattle.std.specs.declared.cmp.Ordering.TheVariants.{Less}
use Rattle.std.specs.Ordering.{ordering_reverse}
use Rattle.std.specs.Map.{keys_of}
use Rattle.std.specs.List.{AllByRecursion}
use Rattle.std.specs.List.Sorted.{IsStrictlySortedBy}
use Rattle.std.proofs.lemmas.List.Elements.{All-head, All-tail, All-nil, All-cons}
use Rattle.std.proofs.Math.Nat.{mul_comm}
use Rattle.std.proofs.lemmas.List.Sums.{sum_by-cons}
use Rattle.kf_column.specs.declared.entry.Entry.{Entry}
use Rattle.kf_column.specs.Columns.{proportional, weight_at}
use Rattle.kf_column.specs.Hypers.{IsInner}
use Rattle.kf_column.specs.Classes.{AreAscending, total_in}
use Rattle.kf_column.proofs.Gathering.{list_total}
use Rattle.kf_column.proofs.Inserting.{paired}
use Rattle.kf_column.proofs.Proportions.{proportional_all, all_proportional, bool_cases}
use Rattle.kf_column.proofs.Posteriors.{same_inner}
use Rattle.kf_column.proofs.Scaling.{two_ways, proportional_itself}
use Rattle.kf_column.specs.Shapes.{list_order}

abbrev Pair : Type 0
Pair = List Entry × ℕ

-- each inner is before all that follow
abbrev pub Ordered : List Pair → Type 0
Ordered [] = Unit {0}
Ordered (p ∷ ps) = All (λ (q : Pair). list_order p.0 q.0 ≡ Less) ps × Ordered ps

module _ {K : Type 0} (shown : K → List Entry) where
  abbrev pub shown_order : K → K → Ordering
  shown_order a b = list_order (shown a) (shown b)

  rest_ordered : (key : K) (es : List (K × ℕ)) → AllByRecursion (λ (k : K). shown_order key k ≡ Less) (keys_of es) → All (λ (q : Pair). list_order (shown key) q.0 ≡ Less) (paired shown es)
  rest_ordered key [] all = All-nil (λ (q : Pair). list_order (shown key) q.0 ≡ Less)
  rest_ordered key (e ∷ es) all = All-cons (λ (q : Pair). list_order (shown key) q.0 ≡ Less) (shown e.0, e.1) (paired shown es) all.0 (rest_ordered key es all.1)

  pub ordered_by : (es : List (K × ℕ)) → IsStrictlySortedBy shown_order (keys_of es) → Ordered (paired shown es)
  unfolding IsStrictlySortedBy
  ordered_by [] sorted = tt
  ordered_by (e ∷ es) sorted = (rest_ordered e.0 es sorted.0, ordered_by es sorted.1)

pub ordered : (ps : List Pair) → AreAscending ps → Ordered ps
unfolding IsStrictlySortedBy
ordered [] sorted = tt
ordered (p ∷ ps) sorted = (rest_after p.0 ps sorted.0, ordered ps sorted.1)
  where
    rest_after : (key : List Entry) (ps : List Pair) → AllByRecursion (λ (k : List Entry). list_order key k ≡ Less) (map (λ (c : Pair). c.0) ps) → All (λ (q : Pair). list_order key q.0 ≡ Less) ps
    rest_after key [] all = All-nil (λ (q : Pair). list_order key q.0 ≡ Less)
    rest_after key (q ∷ ps) all = All-cons (λ (q : Pair). list_order key q.0 ≡ Less) q ps all.0 (rest_after key ps all.1)

-- ---- the test is symmetric, and holds of inners only where they are the same

turned : (u v : List Entry) → proportional u v ≡ true → proportional v u ≡ true
turned u v h = all_proportional v u (λ x y. mul_comm (weight_at v x) (weight_at u y) ∙ sym (proportional_all u v h x y) ∙ mul_comm (weight_at u x) (weight_at v y))

pub proportional-swap : (u v : List Entry) → proportional u v ≡ proportional v u
proportional-swap u v = two_ways (proportional u v) (proportional v u) (turned u v) (turned v u)

less_apart : (u v : List Entry) → list_order u v ≡ Less → u ≡ v → ⊥
less_apart u v less same =
    let itself : list_order v v ≡ Less = subst (λ (w : List Entry). list_order w v ≡ Less) same less in
    let flip : Less ≡ ordering_reverse Less = sym itself ∙ list_total.antisymm v v ∙ ap ordering_reverse itself in
    absurd (cc)

-- an inner before another is not proportional to it
pub apart : (u v : List Entry) → IsInner u → IsInner v → list_order u v ≡ Less → proportional u v ≡ false
apart u v is is' less =
    ⊎_elim (λ (h : proportional u v ≡ true). absurd (less_apart u v less (same_inner u v is is' (proportional_all u v h)))) (λ h. h) (bool_cases (proportional u v))

-- ---- sums and counts over ordered classes

total_in-cons : (p : Pair) (ps : List Pair) (inner : List Entry) → total_in (p ∷ ps) inner ≡ (if proportional p.0 inner then p.1 else 0) + total_in ps inner
total_in-cons p ps inner = sum_by-cons (λ (c : Pair). if proportional c.0 inner then c.1 else 0) p ps

abbrev pub count_of : List Pair → List Entry → ℕ
count_of ps inner = count_by (λ (c : Pair). proportional inner c.0) ps

count-cons : (p : Pair) (ps : List Pair) (inner : List Entry) → count_of (p ∷ ps) inner ≡ (if proportional inner p.0 then 1 else 0) + count_of ps inner
count-cons p ps inner = sum_by-cons (λ (c : Pair). if proportional inner c.0 then 1 else 0) p ps

-- nothing is total_in of a class that is before all
none_after : (inner : List Entry) → IsInner inner → (ps : List Pair) → All (λ (c : Pair). IsInner c.0) ps → All (λ (q : Pair). list_order inner q.0 ≡ Less) ps → (total_in ps inner ≡ 0) × (count_of ps inner ≡ 0)
none_after inner is [] inners after = (refl, refl)
none_after inner is (p ∷ ps) inners after =
    let rest = none_after inner is ps (All-tail (λ (c : Pair). IsInner c.0) p ps inners) (All-tail (λ (q : Pair). list_order inner q.0 ≡ Less) p ps after) in
    let no' : proportional inner p.0 ≡ false = apart inner p.0 is (All-head (λ (c : Pair). IsInner c.0) p ps inners) (All-head (λ (q : Pair). list_order inner q.0 ≡ Less) p ps after) in
    let no2 : proportional p.0 inner ≡ false = proportional-swap p.0 inner ∙ no' in (
      total_in-cons p ps inner ∙ ap (λ (b : Bool). (if b then p.1 else 0) + total_in ps inner) no2 ∙ zero-add (total_in ps inner) ∙ rest.0,
      count-cons p ps inner ∙ ap (λ (b : Bool). (if b then 1 else 0) + count_of ps inner) no' ∙ zero-add (count_of ps inner) ∙ rest.1,
    )

-- of a class that has something exactly one inner is found
pub one_class : (inner : List Entry) → IsInner inner → (ps : List Pair) → All (λ (c : Pair). IsInner c.0) ps → Ordered ps → 0 < total_in ps inner → count_of ps inner ≡ 1
one_class inner is [] inners sorted some = absurd (omega arith)
one_class inner is (p ∷ ps) inners sorted some =
    let rest_inners = All-tail (λ (c : Pair). IsInner c.0) p ps inners in
    ⊎_elim
    (λ (h : proportional inner p.0 ≡ true).
    let same : p.0 ≡ inner = sym (same_inner inner p.0 is (All-head (λ (c : Pair). IsInner c.0) p ps inners) (proportional_all inner p.0 h)) in
    let none = none_after inner is ps rest_inners (subst (λ (l : List Entry). All (λ (q : Pair). list_order l q.0 ≡ Less) ps) same sorted.0) in
    count-cons p ps inner ∙ ap (λ (b : Bool). (if b then 1 else 0) + count_of ps inner) h ∙ omega (arith, none.1))
    (λ (h : proportional inner p.0 ≡ false).
    let left : total_in (p ∷ ps) inner ≡ total_in ps inner =
    total_in-cons p ps inner ∙ ap (λ (b : Bool). (if b then p.1 else 0) + total_in ps inner) (proportional-swap p.0 inner ∙ h) ∙ zero-add (total_in ps inner) in
    count-cons p ps inner ∙ ap (λ (b : Bool). (if b then 1 else 0) + count_of ps inner) h ∙ zero-add (count_of ps inner)
    ∙ one_class inner is ps rest_inners sorted.1 (omega arith))
    (bool_cases (proportional inner p.0))

-- each class has total_in its own total
pub own_totals : (ps : List Pair) → All (λ (c : Pair). IsInner c.0) ps → Ordered ps → All (λ (c : Pair). total_in ps c.0 ≡ c.1) ps
own_totals [] inners sorted = All-nil (λ (c : Pair). total_in [] c.0 ≡ c.1)
own_totals (p ∷ ps) inners sorted =
    let is = All-head (λ (c : Pair). IsInner c.0) p ps inners in
    let rest_inners = All-tail (λ (c : Pair). IsInner c.0) p ps inners in
    All-cons (λ (c : Pair). total_in (p ∷ ps) c.0 ≡ c.1) p ps
    (total_in-cons p ps p.0 ∙ ap (λ (b : Bool). (if b then p.1 else 0) + total_in ps p.0) (proportional_itself p.0) ∙ omega (arith, (none_after p.0 is ps rest_inners sorted.0).0))
    (λ k d below.
    let c : Pair = get_or ps k d in
    total_in-cons p ps c.0 ∙ ap (λ (b : Bool). (if b then p.1 else 0) + total_in ps c.0) (apart p.0 c.0 is (rest_inners k d below) (sorted.0 k d below))
    ∙ zero-add (total_in ps c.0) ∙ own_totals ps rest_inners sorted.1 k d below)
