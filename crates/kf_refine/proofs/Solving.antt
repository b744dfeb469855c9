-- Why a solution of the equations gives a matrix that carries.
use Rattle.std.proofs.Common.{◌≡◌, ℕ, zero, suc, ◌+◌, ◌-◌, ◌*◌, ◌<◌, ◌≤◌, ◌==◌, List, [], ◌∷◌, length, sum_by, sym, ap, ◌∙◌, subst, arith, get_or, if◌then◌else◌, ⊎_elim}
use Rattle.std.specs.Prelude.{nat_lt, slice_index, Contains, Ok}
use Rattle.std.proofs.Math.IntN.{ℤ, pos, negsuc, ◌*ℤ◌, zero-*ℤ}
use Rattle.std.proofs.Math.Nat.{add-sub_cancel_left, mul_comm}
use Rattle.std.proofs.lemmas.Bool.{cases_lt}
use Rattle.std.proofs.lemmas.Bool.Decides.{nat_tests}
use Rattle.std.proofs.lemmas.Int.{ints, by_lt_z}
use Rattle.std.proofs.lemmas.List.{get_or_default}
use Rattle.std.proofs.lemmas.List.Sums.{sum_by-cons, get_or-le-sum_by}
use lib.Signed.{◌<ℤ◌, ◌≤ℤ◌}
use Rattle.kf_frac.proofs.Ring.{ring, mul_assoc, mul_left_comm}
use Rattle.kf_frac.specs.declared.frac.Frac.{Frac}
use Rattle.kf_column.specs.Hypers.{Inner}
use Rattle.kf_column.specs.Averages.{joint_weight, average_weight}
use Rattle.kf_simplex.specs.Base.{total}
use Rattle.kf_simplex.specs.Systems.{LinearSystem}
use Rattle.kf_simplex.specs.Runs.{solution}
use Rattle.kf_simplex.specs.Solutions.{Solves, AreSolution}
use Rattle.kf_simplex.specs.Answers.{num_at, den_at}
use Rattle.kf_simplex.specs.declared.outcome.Outcome.TheVariants as outcome
use Rattle.kf_simplex.proofs.Endings.{good_end}
use Rattle.kf_simplex.proofs.Outcomes.{solution_is_right, den_positive}
use Rattle.kf_simplex.proofs.Signs.{cancel}
use Rattle.kf_simplex.proofs.Sums.{total-ext, total-scale, total_all_zero}
use Rattle.kf_refine.specs.Refinements.{HyperTree, count, joint, Fraction, CarriesWeights, Carries}
use Rattle.kf_refine.specs.Equations.{HasWeight, weight_in, InRatio, AreKept, AreEquations}
use Rattle.kf_refine.specs.Verdicts.{IsMatrixOf, Runs}
use Rattle.kf_refine.proofs.Spreading.{total-rows, total-one, pair_below}

-- ---- the equations, with their sums over the inners of a

-- an equation with a number for each inner of a at the unknowns of one inner of b
pub along_column : (s : LinearSystem) (m n k j : ℕ) (w : ℕ → ℤ) (x : ℕ → ℤ) → s.unknowns ≡ m * n → j < n
    → ((i l : ℕ) → i < m → l < n → s.number k (i * n + l) ≡ (if j == l then w i else pos 0))
    → total s.unknowns (λ c. s.number k c *ℤ x c) ≡ total m (λ i. w i *ℤ x (i * n + j))
along_column s m n k j w x unknowns below is =
    ap (λ (v : ℕ). total v (λ c. s.number k c *ℤ x c)) unknowns
    ∙ total-rows m n (λ c. s.number k c *ℤ x c)
    ∙ total-ext m (λ i. total n (λ l. s.number k (i * n + l) *ℤ x (i * n + l))) (λ i. w i *ℤ x (i * n + j)) (λ (i : ℕ) (p : i < m).
    total-ext n (λ l. s.number k (i * n + l) *ℤ x (i * n + l)) (λ l. (if j == l then w i else pos 0) *ℤ x (i * n + l))
    (λ (l : ℕ) (q : l < n). ap (λ (z : ℤ). z *ℤ x (i * n + l)) (is i l p q))
    ∙ total-one n j (w i) (λ l. x (i * n + l)) below)

-- an equation with 1 at the unknowns of one inner of a
pub along_row : (s : LinearSystem) (m n k p : ℕ) (x : ℕ → ℤ) → s.unknowns ≡ m * n → p < m
    → ((i l : ℕ) → i < m → l < n → s.number k (i * n + l) ≡ (if p == i then pos 1 else pos 0))
    → total s.unknowns (λ c. s.number k c *ℤ x c) ≡ total n (λ l. x (p * n + l))
along_row s m n k p x unknowns below is =
    ap (λ (v : ℕ). total v (λ c. s.number k c *ℤ x c)) unknowns
    ∙ total-rows m n (λ c. s.number k c *ℤ x c)
    ∙ total-ext m (λ i. total n (λ l. s.number k (i * n + l) *ℤ x (i * n + l))) (λ i. (if p == i then pos 1 else pos 0) *ℤ total n (λ l. x (i * n + l))) (λ (i : ℕ) (q : i < m).
    total-ext n (λ l. s.number k (i * n + l) *ℤ x (i * n + l)) (λ l. (if p == i then pos 1 else pos 0) *ℤ x (i * n + l))
    (λ (l : ℕ) (r : l < n). ap (λ (z : ℤ). z *ℤ x (i * n + l)) (is i l q r))
    ∙ total-scale n (if p == i then pos 1 else pos 0) (λ l. x (i * n + l)))
    ∙ total-one m p (pos 1) (λ i. total n (λ l. x (i * n + l))) below
    ∙ once (total n (λ l. x (p * n + l)))
  where
    once : (z : ℤ) → pos 1 *ℤ z ≡ z
    once z = omega (arith, ints)

-- a place in a list of values
pub place : (xs : List ℕ) (x : ℕ) → Contains xs x → (q : ℕ) × (q < length xs) × (slice_index xs q ≡ x)
place xs x (q, inside, is) = (q, inside, get_or_default xs q 0 x inside ∙ is)

module _ (a b : HyperTree) (s : LinearSystem) (e : AreEquations a b s) (x : ℕ → ℤ) (d : ℕ) (solves : Solves s x (pos d)) where
  value_solved : (q j : ℕ) → q < length e.values → j < count b
      → total (count a) (λ i. pos (e.u (slice_index e.values q) i) *ℤ x (i * count b + j)) ≡ pos d *ℤ pos (e.v (slice_index e.values q) j)
  value_solved q j p r =
      let n : ℕ = count b in
      let within : q * n + j < s.equations = rw e.equations (omega (arith, pair_below (length e.values) n q j p r)) in
      sym (along_column s (count a) n (q * n + j) j (λ i. pos (e.u (slice_index e.values q) i)) x e.unknowns r (λ i l. e.weight q j i l p r))
      ∙ solves.equation (q * n + j) within ∙ ap (λ (z : ℤ). pos d *ℤ z) (e.sum q j p r)

  row_solved : (p : ℕ) → p < count a → total (count b) (λ l. x (p * count b + l)) ≡ pos d
  row_solved p below =
      let n : ℕ = count b in
      let k : ℕ = length e.values * n + p in
      let within : k < s.equations = rw e.equations (omega (arith, below)) in
      sym (along_row s (count a) n k p x e.unknowns below (λ i l. e.entry p i l below))
      ∙ solves.equation k within ∙ ap (λ (z : ℤ). pos d *ℤ z) (e.one p below) ∙ times_one (pos d)
    where
      times_one : (z : ℤ) → z *ℤ pos 1 ≡ z
      times_one z = omega (arith, ints)

-- ---- values that are carried

-- what a value and each inner of b weigh together comes from the inners of a
abbrev pub IsCarried : HyperTree → HyperTree → ℕ → (ℕ → ℕ → ℤ) → ℕ → Type 0
IsCarried a b d r x = (j : ℕ) → j < count b
    → pos b.scale *ℤ total (count a) (λ i. pos (joint a x i) *ℤ r i j) ≡ pos (a.scale * d) *ℤ pos (joint b x j)

-- from the whole numbers of a value to its weights
from_whole : (f o ta tb d sum joints w v : ℤ) → pos 0 <ℤ f → f *ℤ joints ≡ (o *ℤ ta) *ℤ sum → sum ≡ d *ℤ v → (o *ℤ tb) *ℤ v ≡ f *ℤ w
    → tb *ℤ joints ≡ (ta *ℤ d) *ℤ w
from_whole f o ta tb d sum joints w v some of_a solved of_b =
    cancel (tb *ℤ joints) ((ta *ℤ d) *ℤ w) f some
    (simp ring
    (let h = simp ring at (ap (λ (z : ℤ). tb *ℤ z) (of_a ∙ ap (λ (z : ℤ). (o *ℤ ta) *ℤ z) solved)) in
    let k = simp ring at (ap (λ (z : ℤ). (ta *ℤ d) *ℤ z) of_b) in omega (arith, ints)))

-- numbers that are multiples, summed with others
pub multiples : (m : ℕ) (f g : ℤ) (u w r : ℕ → ℤ) → ((i : ℕ) → i < m → f *ℤ u i ≡ g *ℤ w i)
    → f *ℤ total m (λ i. u i *ℤ r i) ≡ g *ℤ total m (λ i. w i *ℤ r i)
multiples m f g u w r same =
    sym (total-scale m f (λ i. u i *ℤ r i))
    ∙ total-ext m (λ i. f *ℤ (u i *ℤ r i)) (λ i. g *ℤ (w i *ℤ r i))
    (λ (i : ℕ) (l : i < m). sym (mul_assoc f (u i) (r i)) ∙ ap (λ (z : ℤ). z *ℤ r i) (same i l) ∙ mul_assoc g (w i) (r i))
    ∙ total-scale m g (λ i. w i *ℤ r i)

-- a value whose weights are multiples of those of a carried one
from_ratio : (c e tb k sum sum' w w' : ℤ) → pos 0 <ℤ c → c *ℤ sum ≡ e *ℤ sum' → c *ℤ w ≡ e *ℤ w' → tb *ℤ sum' ≡ k *ℤ w' → tb *ℤ sum ≡ k *ℤ w
from_ratio c e tb k sum sum' w w' some sums weights had =
    cancel (tb *ℤ sum) (k *ℤ w) c some
    (mul_left_comm c tb sum ∙ ap (λ (z : ℤ). tb *ℤ z) sums ∙ mul_left_comm tb e sum' ∙ ap (λ (z : ℤ). e *ℤ z) had
    ∙ mul_left_comm e k w' ∙ ap (λ (z : ℤ). k *ℤ z) (sym weights) ∙ mul_left_comm k c w)

front_test : (k m x y : ℕ) → k < m → (if nat_lt k m then x else y) ≡ x
front_test k m x y below = grind (arith, nat_tests)

back_test : (k m x y : ℕ) → m ≤ k → (if nat_lt k m then x else y) ≡ y
back_test k m x y past = grind (arith, nat_tests)

weight_front : (a b : HyperTree) (x i : ℕ) → i < count a → weight_in a b x i ≡ joint a x i
weight_front a b x i below = front_test i (count a) (joint a x i) (joint b x (i - count a)) below

weight_back : (a b : HyperTree) (x j : ℕ) → weight_in a b x (count a + j) ≡ joint b x j
weight_back a b x j =
    back_test (count a + j) (count a) (joint a x (count a + j)) (joint b x (count a + j - count a)) (omega arith)
    ∙ ap (λ (k : ℕ). joint b x k) (add-sub_cancel_left (count a) j)

-- a sum above 0 has a member above 0
some_member : {X : Type 0} (f : X → ℕ) (xs : List X) (d : X) → 0 < sum_by f xs → (k : ℕ) × (k < length xs) × (0 < f (get_or xs k d))
some_member f [] d some = absurd (omega (arith, some))
some_member f (x ∷ xs) d some =
    ⊎_elim
    (λ (here : 0 < f x). (0, omega arith, here))
    (λ (none : f x ≤ 0).
    let r = some_member f xs d (omega (arith, some, none, sum_by-cons f x xs)) in (suc r.0, omega (arith, r.1), r.2))
    (cases_lt 0 (f x))

-- a value of weight weighs something with some inner
some_weight : (a b : HyperTree) (x : ℕ) → HasWeight a b x → (k : ℕ) × (0 < weight_in a b x k)
some_weight a b x has =
    let none : Inner = record { entries = []; total = 0 } in
    ⊎_elim
    (λ (here : 0 < average_weight a.inners x).
    let r = some_member (joint_weight x) a.inners none here in
    (r.0, subst (λ (n : ℕ). 0 < n) (sym (weight_front a b x r.0 r.1)) r.2))
    (λ (past : average_weight a.inners x ≤ 0).
    let r = some_member (joint_weight x) b.inners none (omega (arith, has, past)) in
    (count a + r.0, subst (λ (n : ℕ). 0 < n) (sym (weight_back a b x r.0)) r.2))
    (cases_lt 0 (average_weight a.inners x))

-- a value without weight weighs nothing with any inner
no_joint : (h : HyperTree) (x i : ℕ) → i < count h → average_weight h.inners x ≡ 0 → joint h x i ≡ 0
no_joint h x i below none =
    omega (arith, none, get_or-le-sum_by (joint_weight x) h.inners i (record { entries = []; total = 0 }) below)

-- two whole numbers that can't differ are equal
stable : (y z : ℤ) → ((y ≡ z → ⊥) → ⊥) → y ≡ z
stable y z never =
    by_lt_z y z (λ (l : y <ℤ z). absurd (never (λ same. omega (arith, ints, l, same))))
    (λ (g : z ≤ℤ y). by_lt_z z y (λ (l : z <ℤ y). absurd (never (λ same. omega (arith, ints, l, same)))) (λ (l : y ≤ℤ z). omega (arith, ints, g, l)))

-- every number has it where it has it as soon as all smaller ones do
by_smaller : (P : ℕ → Type 0) → ((x : ℕ) → ((y : ℕ) → y < x → P y) → P x) → (x : ℕ) → P x
by_smaller P step x = below (x + 1) x (omega arith)
  where
    below : (n : ℕ) → (y : ℕ) → y < n → P y
    below zero y l = absurd (omega arith)
    below (suc n) y l = step y (λ z less. below n z (omega arith))

module _ (a b : HyperTree) (d : ℕ) (r : ℕ → ℕ → ℤ) where
  -- a value whose weights stand in one ratio with those of a carried one
  carried_ratio : (x y : ℕ) → InRatio a b x y → HasWeight a b y → IsCarried a b d r y → IsCarried a b d r x
  carried_ratio x y ratio has carried j below =
      let some : (k : ℕ) × (0 < weight_in a b y k) = some_weight a b y has in
      let c : ℕ = weight_in a b y some.0 in
      let e : ℕ = weight_in a b x some.0 in
      let each : (l : ℕ) → c * weight_in a b x l ≡ e * weight_in a b y l =
      λ l. mul_comm c (weight_in a b x l) ∙ sym (ratio some.0 l) in
      let of_a : (i : ℕ) → i < count a → pos c *ℤ pos (joint a x i) ≡ pos e *ℤ pos (joint a y i) =
      λ i l. ap pos (ap (λ (n : ℕ). c * n) (sym (weight_front a b x i l)) ∙ each i ∙ ap (λ (n : ℕ). e * n) (weight_front a b y i l)) in
      let of_b : pos c *ℤ pos (joint b x j) ≡ pos e *ℤ pos (joint b y j) =
      ap pos (ap (λ (n : ℕ). c * n) (sym (weight_back a b x j)) ∙ each (count a + j) ∙ ap (λ (n : ℕ). e * n) (weight_back a b y j)) in
      let positive : pos 0 <ℤ pos c = omega (arith, ints, some.1) in
      from_ratio (pos c) (pos e) (pos b.scale) (pos (a.scale * d)) (total (count a) (λ i. pos (joint a x i) *ℤ r i j)) (total (count a) (λ i. pos (joint a y i) *ℤ r i j))
      (pos (joint b x j)) (pos (joint b y j)) positive
      (multiples (count a) (pos c) (pos e) (λ i. pos (joint a x i)) (λ i. pos (joint a y i)) (λ i. r i j) of_a) of_b (carried j below)

  -- a value without weight
  carried_nothing : (x : ℕ) → average_weight a.inners x ≡ 0 → average_weight b.inners x ≡ 0 → IsCarried a b d r x
  carried_nothing x none none' j below =
      let left : total (count a) (λ i. pos (joint a x i) *ℤ r i j) ≡ pos 0 =
      total_all_zero (count a) (λ i. pos (joint a x i) *ℤ r i j)
      (λ (i : ℕ) (l : i < count a). ap (λ (n : ℕ). pos n *ℤ r i j) (no_joint a x i l none) ∙ zero-*ℤ (r i j)) in
      ap (λ (z : ℤ). pos b.scale *ℤ z) left ∙ zero-right (pos b.scale) ∙ sym (zero-right (pos (a.scale * d)))
      ∙ ap (λ (n : ℕ). pos (a.scale * d) *ℤ pos n) (sym (no_joint b x j below none'))
    where
      zero-right : (z : ℤ) → z *ℤ pos 0 ≡ pos 0
      zero-right z = omega (arith, ints)

  -- where the kept values are carried, all are
  carried_all : (xs : List ℕ) → AreKept a b xs → ((x : ℕ) → Contains xs x → IsCarried a b d r x) → (x : ℕ) → IsCarried a b d r x
  carried_all xs are kept = by_smaller (IsCarried a b d r) step
    where
      of_weight : (x : ℕ) → ((y : ℕ) → y < x → IsCarried a b d r y) → HasWeight a b x → IsCarried a b d r x
      of_weight x smaller has j below =
          stable (pos b.scale *ℤ total (count a) (λ i. pos (joint a x i) *ℤ r i j)) (pos (a.scale * d) *ℤ pos (joint b x j))
          (λ never.
          let first : (y : ℕ) → y < x → HasWeight a b y → InRatio a b x y → ⊥ =
          λ y less has' ratio. never (carried_ratio x y ratio has' (smaller y less) j below) in
          never (kept x ((are.kept x).1 (has, first)) j below))

      step : (x : ℕ) → ((y : ℕ) → y < x → IsCarried a b d r y) → IsCarried a b d r x
      step x smaller =
          ⊎_elim
          (λ (has : 0 < average_weight a.inners x + average_weight b.inners x). of_weight x smaller has)
          (λ (none : average_weight a.inners x + average_weight b.inners x ≤ 0). carried_nothing x (omega (arith, none)) (omega (arith, none)))
          (cases_lt 0 (average_weight a.inners x + average_weight b.inners x))

module _ (a b : HyperTree) (s : LinearSystem) (e : AreEquations a b s) (x : ℕ → ℤ) (d : ℕ) (solves : Solves s x (pos d)) where
  carried_kept : (y : ℕ) → Contains e.values y → IsCarried a b d (λ i j. x (i * count b + j)) y
  carried_kept y there j below =
      let w = e.are_whole in
      let p : (q : ℕ) × (q < length e.values) × (slice_index e.values q ≡ y) = place e.values y there in
      let solved : total (count a) (λ i. pos (e.u y i) *ℤ x (i * count b + j)) ≡ pos d *ℤ pos (e.v y j) =
      subst (λ (y : ℕ). total (count a) (λ i. pos (e.u y i) *ℤ x (i * count b + j)) ≡ pos d *ℤ pos (e.v y j)) p.2
      (value_solved a b s e x d solves p.0 j p.1 below) in
      let some : pos 0 <ℤ pos w.factor = omega (arith, ints, w.some_factor) in
      from_whole (pos w.factor) (pos w.over) (pos a.scale) (pos b.scale) (pos d) (total (count a) (λ i. pos (e.u y i) *ℤ x (i * count b + j)))
      (total (count a) (λ i. pos (joint a y i) *ℤ x (i * count b + j))) (pos (joint b y j)) (pos (e.v y j)) some
      (multiples (count a) (pos w.factor) (pos w.over *ℤ pos a.scale) (λ i. pos (joint a y i)) (λ i. pos (e.u y i)) (λ i. x (i * count b + j))
      (λ i l. ap pos (sym (w.of_a y i there l))))
      solved (ap pos (w.of_b y j there below))

  carries_weights : CarriesWeights a b d (λ i j. x (i * count b + j))
  carries_weights y = carried_all a b d (λ i j. x (i * count b + j)) e.values e.are_kept carried_kept y

  matrix_carries : (xs : List Frac) (rows : List (List Fraction)) → 0 < d → ((j : ℕ) → j < s.unknowns → x j *ℤ pos (den_at xs j) ≡ num_at xs j *ℤ pos d)
      → IsMatrixOf (count a) (count b) xs rows → Carries a b rows
  matrix_carries xs rows some same matrix =
      let m : ℕ = count a in
      let n : ℕ = count b in
      let within : (i j : ℕ) → i < m → j < n → i * n + j < s.unknowns =
      λ i j p q. rw e.unknowns (pair_below m n i j p q) in
      record {
        shape = matrix.shape;
        over = d;
        number = λ i j. x (i * n + j);
        is_over = record {
          positive = some;
          fractions = λ i j p q. rw (matrix.entries i j p q) (den_positive xs (i * n + j));
          numbers = λ i j p q. rw (matrix.entries i j p q) (same (i * n + j) (within i j p q));
        };
        stochastic = record {
          not_negative = λ i j p q. solves.not_negative (i * n + j) (within i j p q);
          rows = λ i p. row_solved a b s e x d solves i p;
        };
        carries = carries_weights;
      }

by_size : (a b : HyperTree) (s : LinearSystem) (e : AreEquations a b s) (x : ℕ → ℤ) (d : ℤ) (xs : List Frac) (rows : List (List Fraction)) → Solves s x d
    → ((j : ℕ) → j < s.unknowns → x j *ℤ pos (den_at xs j) ≡ num_at xs j *ℤ d) → IsMatrixOf (count a) (count b) xs rows → Carries a b rows
by_size a b s e x (pos d) xs rows solves same matrix =
    let p = solves.positive in matrix_carries a b s e x d solves xs rows (omega (arith, ints, p)) same matrix
by_size a b s e x (negsuc d) xs rows solves same matrix = let p = solves.positive in absurd (omega (arith, ints, p))

pub solution_carries : (a b : HyperTree) (pivots : ℕ) (xs : List Frac) (rows : List (List Fraction)) → Runs a b pivots (Ok (outcome.Solution xs))
    → IsMatrixOf (count a) (count b) xs rows → Carries a b rows
solution_carries a b pivots xs rows run matrix =
    let s : LinearSystem = run.system in
    let answer = run.is_answer in
    let end = answer.2 in
    let right : AreSolution s xs = solution_is_right s answer.1 xs (good_end s pivots answer.0 answer.1 solution run.equations.system end) end.ends.1 answer.3 in
    by_size a b s run.equations right.0 right.1 xs rows right.2 right.3 matrix
