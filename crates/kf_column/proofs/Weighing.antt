-- A hyper keeps the weights of its columns.
use Rattle.std.proofs.Common.{◌≡◌, ℕ, ◌+◌, ◌*◌, ◌/◌, ◌<◌, List, [], ◌∷◌, Bool, true, false, All, map, sum_by, count_by, refl, sym, ◌∙◌, ap, arith, zero-add, if◌then◌else◌, ⊎_elim, get_or}
use Rattle.std.proofs.Math.Nat.{mul_comm, mul-div_cancel_left}
use Rattle.std.proofs.lemmas.List.Elements.{All-head, All-tail}
use Rattle.std.proofs.lemmas.List.Sums.{sum_by-cons}
use Rattle.kf_column.specs.declared.entry.Entry.{Entry}
use Rattle.kf_column.specs.Columns.{IsColumn, weight_at, total, proportional}
use Rattle.kf_column.specs.Hypers.{Inner, IsInner, class_total}
use Rattle.kf_column.specs.Averages.{scaled, joint_weight}
use Rattle.kf_column.specs.Classes.{HasInner}
use Rattle.kf_column.specs.Laws.{class_weight, JointColumnWeighs, ClassesWeigh, AveragesWeigh}
use Rattle.kf_column.proofs.Posteriors.{same_inner}
use Rattle.kf_column.proofs.Proportions.{proportional_all, bool_cases}
use Rattle.kf_column.proofs.Scaling.{total-scaled, weight_at-scaled, total_positive, proportional_reduced}
use Rattle.kf_column.proofs.SomeHyper.{inner_of_column}

pub joint_column_weighs : JointColumnWeighs
joint_column_weighs i x = weight_at-scaled (i.total / total i.entries) i.entries x ∙ mul_comm (i.total / total i.entries) (weight_at i.entries x)

-- ---- a class is a multiple of its inner

-- a column that is proportional to an inner is a multiple of it
pub record IsTimes (column inner : List Entry) : Type 0 where
  pub factor : ℕ
  pub total_is : total column ≡ factor * total inner
  pub weight_is : (x : ℕ) → weight_at column x ≡ factor * weight_at inner x

pub times_inner : (column inner : List Entry) → IsColumn column → IsInner inner → proportional column inner ≡ true → IsTimes column inner
times_inner column inner is is_inner test =
    let h : HasInner column = inner_of_column column is in
    let same : h.inner ≡ inner =
    same_inner h.inner inner h.is_reduced.is_inner is_inner (proportional_all h.inner inner (sym (proportional_reduced column h.inner inner h.is_reduced) ∙ test)) in
    let f : ℕ = h.is_reduced.factor in
    let multiple : column ≡ map (scaled f) inner = h.is_reduced.multiple ∙ ap (λ (l : List Entry). map (scaled f) l) same in
    record {
      factor = f;
      total_is = ap total multiple ∙ total-scaled f inner;
      weight_is = λ x. ap (λ (l : List Entry). weight_at l x) multiple ∙ weight_at-scaled f inner x;
    }

record IsTimesClass (columns : List (List Entry)) (inner : List Entry) : Type 0 where
  times : ℕ
  total_is : class_total columns inner ≡ times * total inner
  weight_is : (x : ℕ) → class_weight columns inner x ≡ times * weight_at inner x

joined : (s a b f t n : ℕ) → s ≡ a + b → a ≡ f * n → b ≡ t * n → s ≡ (f + t) * n
joined s a b f t n e p q = omega (arith, e, p, q)

total-more : (b : Bool) (c : List Entry) (cs : List (List Entry)) (inner : List Entry) → proportional c inner ≡ b → class_total (c ∷ cs) inner ≡ (if b then total c else 0) + class_total cs inner
total-more b c cs inner e =
    sum_by-cons (λ (c : List Entry). if proportional c inner then total c else 0) c cs ∙ ap (λ (b : Bool). (if b then total c else 0) + class_total cs inner) e

weight-more : (b : Bool) (c : List Entry) (cs : List (List Entry)) (inner : List Entry) (x : ℕ) → proportional c inner ≡ b → class_weight (c ∷ cs) inner x ≡ (if b then weight_at c x else 0) + class_weight cs inner x
weight-more b c cs inner x e =
    sum_by-cons (λ (c : List Entry). if proportional c inner then weight_at c x else 0) c cs ∙ ap (λ (b : Bool). (if b then weight_at c x else 0) + class_weight cs inner x) e

times_class : (columns : List (List Entry)) (inner : List Entry) → IsInner inner → All IsColumn columns → IsTimesClass columns inner
times_class [] inner is all = record { times = 0; total_is = omega arith; weight_is = λ x. omega arith }
times_class (c ∷ cs) inner is all =
    let rest : IsTimesClass cs inner = times_class cs inner is (All-tail IsColumn c cs all) in
    ⊎_elim
    (λ (h : proportional c inner ≡ true).
    let here : IsTimes c inner = times_inner c inner (All-head IsColumn c cs all) is h in
    record {
      times = here.factor + rest.times;
      total_is = joined (class_total (c ∷ cs) inner) (total c) (class_total cs inner) here.factor rest.times (total inner) (total-more true c cs inner h) here.total_is rest.total_is;
      weight_is = λ x. joined (class_weight (c ∷ cs) inner x) (weight_at c x) (class_weight cs inner x) here.factor rest.times (weight_at inner x) (weight-more true c cs inner x h) (here.weight_is x) (rest.weight_is x);
    })
    (λ (h : proportional c inner ≡ false).
    record {
      times = rest.times;
      total_is = total-more false c cs inner h ∙ zero-add (class_total cs inner) ∙ rest.total_is;
      weight_is = λ x. weight-more false c cs inner x h ∙ zero-add (class_weight cs inner x) ∙ rest.weight_is x;
    })
    (bool_cases (proportional c inner))

pub class_weighs : (columns : List (List Entry)) (i : Inner) → IsInner i.entries → All IsColumn columns → i.total ≡ class_total columns i.entries → (x : ℕ) → joint_weight x i ≡ class_weight columns i.entries x
class_weighs columns i is all sum x =
    let e : List Entry = i.entries in
    let m : IsTimesClass columns i.entries = times_class columns i.entries is all in
    let quotient : i.total / total i.entries ≡ m.times =
    ap (λ (n : ℕ). n / total i.entries) (sum ∙ m.total_is ∙ mul_comm m.times (total i.entries)) ∙ mul-div_cancel_left m.times (total_positive i.entries is.column) in
    ap (λ (n : ℕ). weight_at i.entries x * n) quotient ∙ mul_comm (weight_at i.entries x) m.times ∙ sym (m.weight_is x)

pub classes_weigh : ClassesWeigh
classes_weigh columns inners all is k d below x = class_weighs columns (get_or inners k d) (is.inner k d below) all (is.totals k d below) x

-- ---- all classes together are all columns

sum_by_each : {X : Type 0} (f g : X → ℕ) (xs : List X) → All (λ x. f x ≡ g x) xs → sum_by f xs ≡ sum_by g xs
sum_by_each f g [] all = refl
sum_by_each f g (x ∷ xs) all =
    omega (arith, sum_by-cons f x xs, sum_by-cons g x xs, All-head (λ x. f x ≡ g x) x xs all, sum_by_each f g xs (All-tail (λ x. f x ≡ g x) x xs all))

sum_by_split : {X : Type 0} (f g h : X → ℕ) (xs : List X) → ((x : X) → f x ≡ g x + h x) → sum_by f xs ≡ sum_by g xs + sum_by h xs
sum_by_split f g h [] each = refl
sum_by_split f g h (x ∷ xs) each = omega (arith, sum_by-cons f x xs, sum_by-cons g x xs, sum_by-cons h x xs, each x, sum_by_split f g h xs each)

sum_by_none : {X : Type 0} (xs : List X) → sum_by (λ x. 0) xs ≡ 0
sum_by_none [] = refl
sum_by_none {X} (x ∷ xs) = sum_by-cons (λ (x : X). 0) x xs ∙ zero-add (sum_by (λ (x : X). 0) xs) ∙ sum_by_none xs

if_times : (b : Bool) (w n : ℕ) → (if b then w else 0) + w * n ≡ w * ((if b then 1 else 0) + n)
if_times true w n = omega arith
if_times false w n = omega arith

sum_by_if : {X : Type 0} (p : X → Bool) (w : ℕ) (xs : List X) → sum_by (λ x. if p x then w else 0) xs ≡ w * count_by p xs
sum_by_if p w [] = omega arith
sum_by_if {X} p w (x ∷ xs) =
    sum_by-cons (λ (x : X). if p x then w else 0) x xs ∙ ap (λ (n : ℕ). (if p x then w else 0) + n) (sum_by_if p w xs) ∙ if_times (p x) w (count_by p xs)
    ∙ sym (ap (λ (n : ℕ). w * n) (sum_by-cons (λ (x : X). if p x then 1 else 0) x xs))

exchanged : (inners : List Inner) (x : ℕ) (columns : List (List Entry)) → All IsColumn columns
    → All (λ (c : List Entry). 0 < total c → count_by (λ (i : Inner). proportional c i.entries) inners ≡ 1) columns
    → sum_by (λ (i : Inner). class_weight columns i.entries x) inners ≡ sum_by (λ (c : List Entry). weight_at c x) columns
exchanged inners x [] all once = sum_by_none inners
exchanged inners x (c ∷ cs) all once =
    let Once : List Entry → Type 0 = λ c. 0 < total c → count_by (λ (i : Inner). proportional c i.entries) inners ≡ 1 in
    let split : sum_by (λ (i : Inner). class_weight (c ∷ cs) i.entries x) inners
    ≡ sum_by (λ (i : Inner). if proportional c i.entries then weight_at c x else 0) inners + sum_by (λ (i : Inner). class_weight cs i.entries x) inners =
    sum_by_split (λ (i : Inner). class_weight (c ∷ cs) i.entries x) (λ (i : Inner). if proportional c i.entries then weight_at c x else 0) (λ (i : Inner). class_weight cs i.entries x) inners
    (λ i. sum_by-cons (λ (c : List Entry). if proportional c i.entries then weight_at c x else 0) c cs) in
    let one : count_by (λ (i : Inner). proportional c i.entries) inners ≡ 1 = All-head Once c cs once (total_positive c (All-head IsColumn c cs all)) in
    let here : sum_by (λ (i : Inner). if proportional c i.entries then weight_at c x else 0) inners ≡ weight_at c x =
    sum_by_if (λ (i : Inner). proportional c i.entries) (weight_at c x) inners ∙ ap (λ (n : ℕ). weight_at c x * n) one ∙ omega arith in
    let rest : sum_by (λ (i : Inner). class_weight cs i.entries x) inners ≡ sum_by (λ (c : List Entry). weight_at c x) cs =
    exchanged inners x cs (All-tail IsColumn c cs all) (All-tail Once c cs once) in
    omega (arith, split, here, rest, sum_by-cons (λ (c : List Entry). weight_at c x) c cs)

pub averages_weigh : AveragesWeigh
averages_weigh columns inners all is x =
    sum_by_each (joint_weight x) (λ (i : Inner). class_weight columns i.entries x) inners (λ k d below. classes_weigh columns inners all is k d below x)
    ∙ exchanged inners x columns all is.covered
