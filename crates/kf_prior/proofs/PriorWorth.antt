-- What a table's best actions gain from columns whose weights are multiplied value by value: over the columns of a hyper as over its inners.
use Rattle.std.proofs.Common.{◌≡◌, ◌≢◌, ℕ, ◌+◌, ◌*◌, ◌/◌, ◌<◌, ◌==◌, List, [], ◌∷◌, Bool, true, false, All, map, count_by, refl, sym, ◌∙◌, ap, arith, if◌then◌else◌, ⊎_elim, eq-eqb, zero-add}
use Rattle.std.specs.Prelude.{ℤ, pos, ◌+ℤ◌, ◌*ℤ◌}
use Rattle.std.specs.List.{AllByRecursion as Each}
use Rattle.std.proofs.Math.IntN.{zero-*ℤ}
use Rattle.std.proofs.Math.Nat.{mul-zero, mul_comm, mul-div_cancel_left}
use Rattle.std.proofs.lemmas.Bool.{cases_eq, ne_eqb}
use Rattle.std.proofs.lemmas.Int.{ints}
use Rattle.std.proofs.lemmas.List.Elements.{All-head, All-tail}
use Rattle.std.proofs.lemmas.List.Sums.{sum_by-cons}
use Rattle.kf_frac.proofs.Ring.{add_mul}
use Rattle.kf_column.specs.declared.entry.Entry.{Entry}
use Rattle.kf_column.specs.Columns.{IsColumn, weight_at, total, proportional}
use Rattle.kf_column.specs.Hypers.{Inner, IsInner, IsHyper, class_total}
use Rattle.kf_column.specs.Averages.{scaled, joint_column}
use Rattle.kf_column.specs.Classes.{HasInner}
use Rattle.kf_column.proofs.Posteriors.{same_inner}
use Rattle.kf_column.proofs.Proportions.{proportional_all, bool_cases}
use Rattle.kf_column.proofs.Scaling.{total-cons, total-scaled, total_positive, proportional_reduced}
use Rattle.kf_column.proofs.SomeHyper.{inner_of_column}
use Rattle.kf_column.proofs.Weights.{weight_at-cons, same_column}
use Rattle.kf_gain.specs.declared.table.GainEntry.{GainEntry}
use Rattle.kf_gain.specs.Gains.{Table, TableTree}
use Rattle.kf_gain.specs.Worth.{gained, IsVulnerability}
use Rattle.kf_gain.proofs.Acting.{some_action}
use Rattle.kf_gain.proofs.Adding.{Joined, join}
use Rattle.kf_gain.proofs.Measures.{one, scales}

-- ---- sums of whole numbers over lists

abbrev pub sum_z : {X : Type 0} → (X → ℤ) → List X → ℤ
sum_z f [] = pos 0
sum_z f (x ∷ xs) = f x +ℤ sum_z f xs

pub sum_same : {X : Type 0} (f g : X → ℤ) (xs : List X) → Each (λ x. f x ≡ g x) xs → sum_z f xs ≡ sum_z g xs
sum_same f g [] h = refl
sum_same f g (x ∷ xs) h = λ i. h.0 i +ℤ sum_same f g xs h.1 i

sum_both : {X : Type 0} (f g h : X → ℤ) (xs : List X) → ((x : X) → h x ≡ f x +ℤ g x) → sum_z h xs ≡ sum_z f xs +ℤ sum_z g xs
sum_both f g h [] e = refl
sum_both f g h (x ∷ xs) e = omega (arith, ints, e x, sum_both f g h xs e)

sum_none : {X : Type 0} (xs : List X) → sum_z (λ x. pos 0) xs ≡ pos 0
sum_none [] = refl
sum_none (x ∷ xs) = omega (arith, ints, sum_none xs)

pub sum_mapped : {X Y : Type 0} (f : Y → ℤ) (g : X → Y) (xs : List X) → sum_z f (map g xs) ≡ sum_z (λ x. f (g x)) xs
sum_mapped f g [] = refl
sum_mapped f g (x ∷ xs) = ap (λ z. f (g x) +ℤ z) (sum_mapped f g xs)

-- the same number for each that passes a test
if_times : (b : Bool) (z : ℤ) (n : ℕ) → (if b then z else pos 0) +ℤ pos n *ℤ z ≡ pos ((if b then 1 else 0) + n) *ℤ z
if_times true z n = omega (arith, ints, add_mul z (pos 1) (pos n))
if_times false z n = omega (arith, ints)

sum_if : {X : Type 0} (p : X → Bool) (z : ℤ) (xs : List X) → sum_z (λ x. if p x then z else pos 0) xs ≡ pos (count_by p xs) *ℤ z
sum_if p z [] = sym (zero-*ℤ z)
sum_if {X} p z (x ∷ xs) =
    ap (λ y. (if p x then z else pos 0) +ℤ y) (sum_if p z xs) ∙ if_times (p x) z (count_by p xs)
    ∙ sym (ap (λ n. pos n *ℤ z) (sum_by-cons (λ (x : X). if p x then 1 else 0) x xs))

-- ---- columns that give the same weights

same_gained : (rest : ℤ) (gains : List GainEntry) (c d : List Entry) → ((x : ℕ) → weight_at c x ≡ weight_at d x) → gained rest gains c ≡ gained rest gains d
same_gained rest gains c d same =
    let r : Joined c [] = join c [] tt in
    let s : Joined d [] = join d [] tt in
    let sums : r.sum ≡ s.sum = same_column 0 r.sum s.sum r.above s.above (λ x. omega (arith, r.weights x, s.weights x, same x)) in
    omega (arith, ints, r.gains rest gains, s.gains rest gains, ap (λ (l : List Entry). gained rest gains l) sums)

-- ---- weights multiplied value by value

module _ (f : ℕ → ℕ) where
  abbrev pub weighed : Entry → Entry
  weighed e = record { value = e.value; weight = f e.value * e.weight }

  weighs_here : (e : Entry) (x : ℕ) → (if e.value == x then f e.value * e.weight else 0) ≡ f x * (if e.value == x then e.weight else 0)
  weighs_here e x =
      ⊎_elim
      (λ (same : e.value ≡ x). rw (eq-eqb e.value x same) (ap (λ n. f n * e.weight) same))
      (λ (apart : e.value ≡ x → ⊥). rw (ne_eqb e.value x apart) (sym (mul-zero (f x))))
      (cases_eq e.value x)

  pub weight_weighed : (c : List Entry) (x : ℕ) → weight_at (map weighed c) x ≡ f x * weight_at c x
  weight_weighed [] x = sym (mul-zero (f x))
  weight_weighed (e ∷ es) x =
      let here : (if e.value == x then f e.value * e.weight else 0) ≡ f x * (if e.value == x then e.weight else 0) = weighs_here e x in
      let others : weight_at (map weighed es) x ≡ f x * weight_at es x = weight_weighed es x in
      let first = weight_at-cons (weighed e) (map weighed es) x in
      let second : f x * weight_at (e ∷ es) x ≡ f x * ((if e.value == x then e.weight else 0) + weight_at es x) = ap (λ n. f x * n) (weight_at-cons e es x) in
      omega (arith, here, others, first, second)

  -- nothing stays nothing
  pub weighed_nothing : (c : List Entry) → total c ≡ 0 → total (map weighed c) ≡ 0
  weighed_nothing [] none = refl
  weighed_nothing (e ∷ es) none =
      let here : f e.value * e.weight ≡ 0 = ap (λ n. f e.value * n) (omega (arith, none, total-cons e es)) ∙ mul-zero (f e.value) in
      let others = weighed_nothing es (omega (arith, none, total-cons e es)) in
      omega (arith, total-cons (weighed e) (map weighed es), here, others)

  weighed_scaled : (k : ℕ) (c : List Entry) → map weighed (map (scaled k) c) ≡ map (scaled k) (map weighed c)
  weighed_scaled k [] = refl
  weighed_scaled k (e ∷ es) =
      let here : f e.value * (k * e.weight) ≡ k * (f e.value * e.weight) = grind arith in
      let others = weighed_scaled k es in
      λ i. record { value = e.value; weight = here i } ∷ others i

module _ (t : TableTree) where
  -- what holds of one such column holds of the other
  same_best : (c d : List Entry) (z : ℤ) → ((gains : List GainEntry) → gained t.rest gains c ≡ gained t.rest gains d) → IsVulnerability (Table t) c z → IsVulnerability (Table t) d z
  same_best c d z same v = record {
    reached = (v.reached.0, v.reached.1, v.reached.2 ∙ same v.reached.0.gains);
    best = λ y h. v.best y (h.0, h.1, h.2 ∙ sym (same h.0.gains));
  }

  module _ (some : t.actions ≢ []) where
    -- the vulnerability of a column
    pub worth : List Entry → ℤ
    worth c = (some_action t c some).0

    pub worth_is : (c : List Entry) → IsVulnerability (Table t) c (worth c)
    unfolding worth
    worth_is c = (some_action t c some).1

    pub the_worth : (c : List Entry) (z : ℤ) → IsVulnerability (Table t) c z → z ≡ worth c
    the_worth c z v = one (Table t) c z (worth c) v (worth_is c)

    pub same_worth : (c d : List Entry) → ((x : ℕ) → weight_at c x ≡ weight_at d x) → worth c ≡ worth d
    same_worth c d same = the_worth d (worth c) (same_best c d (worth c) (λ gains. same_gained t.rest gains c d same) (worth_is c))

    pub worth_scaled : (k : ℕ) (c : List Entry) → worth (map (scaled k) c) ≡ pos k *ℤ worth c
    worth_scaled k c = sym (the_worth (map (scaled k) c) (pos k *ℤ worth c) (scales (Table t) c k (worth c) (worth_is c)))

    -- nothing is gained where nothing has weight
    pub worth_nothing : (c : List Entry) → ((x : ℕ) → weight_at c x ≡ 0) → worth c ≡ pos 0
    worth_nothing c none = same_worth c [] none ∙ (worth_is []).reached.2

    module _ (f : ℕ → ℕ) where
      abbrev pub weighed_worth : List Entry → ℤ
      weighed_worth c = worth (map (weighed f) c)

      multiple_worth : (k : ℕ) (c : List Entry) → weighed_worth (map (scaled k) c) ≡ pos k *ℤ weighed_worth c
      multiple_worth k c = ap worth (weighed_scaled f k c) ∙ worth_scaled k (map (weighed f) c)

      -- ---- a class of columns

      abbrev in_class : List Entry → List Entry → ℤ
      in_class inner c = if proportional c inner then weighed_worth c else pos 0

      record IsClass (columns : List (List Entry)) (inner : List Entry) : Type 0 where
        times : ℕ
        total_is : class_total columns inner ≡ times * total inner
        worth_of : sum_z (in_class inner) columns ≡ pos times *ℤ weighed_worth inner

      -- a column that is proportional to an inner is a multiple of it
      multiple : (c inner : List Entry) → IsColumn c → IsInner inner → proportional c inner ≡ true → (k : ℕ) × (c ≡ map (scaled k) inner)
      multiple c inner is is_inner test =
          let h : HasInner c = inner_of_column c is in
          let same : h.inner ≡ inner =
          same_inner h.inner inner h.is_reduced.is_inner is_inner (proportional_all h.inner inner (sym (proportional_reduced c h.inner inner h.is_reduced) ∙ test)) in
          (h.is_reduced.factor, h.is_reduced.multiple ∙ ap (map (scaled h.is_reduced.factor)) same)

      total_more : (b : Bool) (c : List Entry) (cs : List (List Entry)) (inner : List Entry) → proportional c inner ≡ b → class_total (c ∷ cs) inner ≡ (if b then total c else 0) + class_total cs inner
      total_more b c cs inner e =
          sum_by-cons (λ (c : List Entry). if proportional c inner then total c else 0) c cs ∙ ap (λ (b : Bool). (if b then total c else 0) + class_total cs inner) e

      worth_more : (b : Bool) (c : List Entry) (cs : List (List Entry)) (inner : List Entry) → proportional c inner ≡ b → sum_z (in_class inner) (c ∷ cs) ≡ (if b then weighed_worth c else pos 0) +ℤ sum_z (in_class inner) cs
      worth_more b c cs inner e = ap (λ (b : Bool). (if b then weighed_worth c else pos 0) +ℤ sum_z (in_class inner) cs) e

      class_of : (columns : List (List Entry)) (inner : List Entry) → IsInner inner → All IsColumn columns → IsClass columns inner
      class_of [] inner is all = record { times = 0; total_is = omega arith; worth_of = sym (zero-*ℤ (weighed_worth inner)) }
      class_of (c ∷ cs) inner is all =
          let rest : IsClass cs inner = class_of cs inner is (All-tail IsColumn c cs all) in
          ⊎_elim
          (λ (h : proportional c inner ≡ true).
          let m = multiple c inner (All-head IsColumn c cs all) is h in
          let whole : total c ≡ m.0 * total inner = ap total m.1 ∙ total-scaled m.0 inner in
          let gain : weighed_worth c ≡ pos m.0 *ℤ weighed_worth inner = ap weighed_worth m.1 ∙ multiple_worth m.0 inner in
          record {
            times = m.0 + rest.times;
            total_is = omega (arith, total_more true c cs inner h, whole, rest.total_is);
            worth_of = omega (arith, ints, worth_more true c cs inner h, gain, rest.worth_of, add_mul (weighed_worth inner) (pos m.0) (pos rest.times));
          })
          (λ (h : proportional c inner ≡ false).
          record {
            times = rest.times;
            total_is = total_more false c cs inner h ∙ zero-add (class_total cs inner) ∙ rest.total_is;
            worth_of = omega (arith, ints, worth_more false c cs inner h, rest.worth_of);
          })
          (bool_cases (proportional c inner))

      -- an inner's joint column is worth what the columns of its class are
      inner_worth : (columns : List (List Entry)) (i : Inner) → IsInner i.entries → All IsColumn columns → i.total ≡ class_total columns i.entries
          → weighed_worth (joint_column i) ≡ sum_z (in_class i.entries) columns
      inner_worth columns i is all sum =
          let m : IsClass columns i.entries = class_of columns i.entries is all in
          let quotient : i.total / total i.entries ≡ m.times =
          ap (λ (n : ℕ). n / total i.entries) (sum ∙ m.total_is ∙ mul_comm m.times (total i.entries)) ∙ mul-div_cancel_left m.times (total_positive i.entries is.column) in
          multiple_worth (i.total / total i.entries) i.entries ∙ ap (λ n. pos n *ℤ weighed_worth i.entries) quotient ∙ sym m.worth_of

      -- ---- all classes together

      abbrev Once : List Inner → List Entry → Type 0
      Once inners c = 0 < total c → count_by (λ (i : Inner). proportional c i.entries) inners ≡ 1

      exchanged : (inners : List Inner) (columns : List (List Entry)) → All IsColumn columns → All (Once inners) columns
          → sum_z (λ (i : Inner). sum_z (in_class i.entries) columns) inners ≡ sum_z weighed_worth columns
      exchanged inners [] all once = sum_none inners
      exchanged inners (c ∷ cs) all once =
          let one : count_by (λ (i : Inner). proportional c i.entries) inners ≡ 1 = All-head (Once inners) c cs once (total_positive c (All-head IsColumn c cs all)) in
          let here : sum_z (λ (i : Inner). in_class i.entries c) inners ≡ pos 1 *ℤ weighed_worth c =
          sum_if (λ (i : Inner). proportional c i.entries) (weighed_worth c) inners ∙ ap (λ n. pos n *ℤ weighed_worth c) one in
          let rest = exchanged inners cs (All-tail IsColumn c cs all) (All-tail (Once inners) c cs once) in
          let split = sum_both (λ (i : Inner). in_class i.entries c) (λ (i : Inner). sum_z (in_class i.entries) cs) (λ (i : Inner). sum_z (in_class i.entries) (c ∷ cs)) inners (λ i. refl) in
          omega (arith, ints, here, rest, split)

      each_inner : (columns : List (List Entry)) (inners : List Inner) → All IsColumn columns → All (λ (i : Inner). i.total ≡ class_total columns i.entries) inners → All (λ (i : Inner). IsInner i.entries) inners
          → Each (λ (i : Inner). weighed_worth (joint_column i) ≡ sum_z (in_class i.entries) columns) inners
      each_inner columns [] all totals inner = tt
      each_inner columns (i ∷ is) all totals inner = (
        inner_worth columns i (All-head (λ (i : Inner). IsInner i.entries) i is inner) all (All-head (λ (i : Inner). i.total ≡ class_total columns i.entries) i is totals),
        each_inner columns is all (All-tail (λ (i : Inner). i.total ≡ class_total columns i.entries) i is totals) (All-tail (λ (i : Inner). IsInner i.entries) i is inner),
      )

      -- what is gained from the inners of a hyper is gained from its columns
      pub hyper_worth : (columns : List (List Entry)) (inners : List Inner) → All IsColumn columns → IsHyper columns inners
          → sum_z (λ (i : Inner). weighed_worth (joint_column i)) inners ≡ sum_z weighed_worth columns
      hyper_worth columns inners all is =
          sum_same (λ (i : Inner). weighed_worth (joint_column i)) (λ (i : Inner). sum_z (in_class i.entries) columns) inners (each_inner columns inners all is.totals is.inner)
          ∙ exchanged inners columns all is.covered
