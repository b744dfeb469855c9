-- Where a matrix carries one hyper to another, no gain table separates them: whatever an adversary wants, it does no better at the second.
use Rattle.std.proofs.Common.{◌≡◌, ◌≢◌, ℕ, zero, suc, ◌+◌, ◌*◌, ◌<◌, ◌≤◌, ◌==◌, List, [], ◌∷◌, Bool, length, map, get_or, refl, sym, ap, ◌∙◌, arith, if◌then◌else◌, eq-eqb}
use Rattle.std.proofs.Math.IntN.{ℤ, pos, ◌+ℤ◌, ◌*ℤ◌}
use Rattle.std.proofs.lemmas.Bool.{ne_eqb}
use Rattle.std.proofs.lemmas.Int.{ints}
use Rattle.std.proofs.lemmas.List.Elements.{All-head, All-tail, All-cons, All-nil, All-get_or}
use lib.Signed.{◌<ℤ◌, ◌≤ℤ◌}
use Rattle.kf_frac.proofs.Ring.{ring, add_mul}
use Rattle.kf_value.specs.Numbers.{target_size}
use Rattle.kf_column.specs.declared.entry.Entry.{Entry}
use Rattle.kf_column.specs.Averages.{scaled, joint_column}
use Rattle.kf_column.specs.Columns.{weight_at}
use Rattle.kf_column.specs.Hypers.{Inner}
use Rattle.kf_column.specs.Shapes.{IsBelow}
use Rattle.kf_column.proofs.Weights.{weight_at-cons}
use Rattle.kf_gain.specs.declared.table.GainEntry.{GainEntry}
use Rattle.kf_gain.specs.Gains.{Table, TableTree, gain_at}
use Rattle.kf_gain.specs.Worth.{gained, IsVulnerability}
use Rattle.kf_gain.specs.Vulnerabilities.{IsPosterior}
use Rattle.kf_column.proofs.Weighing.{joint_column_weighs}
use Rattle.kf_simplex.specs.Base.{total}
use Rattle.kf_simplex.proofs.Signs.{cancel_le, product_monotone}
use Rattle.kf_simplex.proofs.Sums.{total-ext, total-add, total-scale, total-scale_right, total-single, total-swap, total_all_zero}
use Rattle.kf_refine.specs.Refinements.{HyperTree, count, joint, CarriesWeights}
use Rattle.kf_refine.specs.Laws.{NothingSeparates}
use Rattle.kf_refine.specs.Views.{IsProper}
use Rattle.kf_refine.proofs.Totals.{total_monotone, total-front, total-through}

-- ---- what an action gains from a column is a sum over the values

at_value : (v w x : ℕ) (g : ℤ) → v ≡ x → pos (if v == x then w else 0) *ℤ g ≡ pos w *ℤ g
at_value v w x g same = ap (λ (b : Bool). pos (if b then w else 0) *ℤ g) (eq-eqb v x same)

elsewhere : (v w x : ℕ) (g : ℤ) → (v ≡ x → ⊥) → pos (if v == x then w else 0) *ℤ g ≡ pos 0
elsewhere v w x g apart = ap (λ (b : Bool). pos (if b then w else 0) *ℤ g) (ne_eqb v x apart) ∙ omega (arith, ints)

one_value : (size v w : ℕ) (g : ℕ → ℤ) → v < size → total size (λ x. pos (if v == x then w else 0) *ℤ g x) ≡ pos w *ℤ g v
one_value size v w g below =
    total-single size v (λ x. pos (if v == x then w else 0) *ℤ g x) below
    (λ (x : ℕ) (l : x < size) (apart : x ≢ v). elsewhere v w x (g x) (λ same. apart (sym same)))
    ∙ at_value v w v (g v) refl

gained_total : (rest : ℤ) (gains : List GainEntry) (size : ℕ) (c : List Entry) → IsBelow size c
    → gained rest gains c ≡ total size (λ x. pos (weight_at c x) *ℤ gain_at rest gains x)
gained_total rest gains size [] below =
    sym (total_all_zero size (λ x. pos (weight_at [] x) *ℤ gain_at rest gains x) (λ (x : ℕ) (l : x < size). omega (arith, ints)))
gained_total rest gains size (e ∷ es) below =
    let g : ℕ → ℤ = gain_at rest gains in
    let tail : gained rest gains es ≡ total size (λ x. pos (weight_at es x) *ℤ g x) =
    gained_total rest gains size es (All-tail (λ (e : Entry). e.value < size) e es below) in
    let here : total size (λ x. pos (if e.value == x then e.weight else 0) *ℤ g x) ≡ pos e.weight *ℤ g e.value =
    one_value size e.value e.weight g (All-head (λ (e : Entry). e.value < size) e es below) in
    let both : total size (λ x. pos (weight_at (e ∷ es) x) *ℤ g x)
    ≡ total size (λ x. pos (if e.value == x then e.weight else 0) *ℤ g x) +ℤ total size (λ x. pos (weight_at es x) *ℤ g x) =
    total-ext size (λ x. pos (weight_at (e ∷ es) x) *ℤ g x) (λ x. pos (if e.value == x then e.weight else 0) *ℤ g x +ℤ pos (weight_at es x) *ℤ g x)
    (λ (x : ℕ) (l : x < size). ap (λ (n : ℕ). pos n *ℤ g x) (weight_at-cons e es x)
    ∙ add_mul (g x) (pos (if e.value == x then e.weight else 0)) (pos (weight_at es x)))
    ∙ total-add size (λ x. pos (if e.value == x then e.weight else 0) *ℤ g x) (λ x. pos (weight_at es x) *ℤ g x) in
    omega (arith, ints, tail, here, both)

below_scaled : (size k : ℕ) (c : List Entry) → IsBelow size c → IsBelow size (map (scaled k) c)
below_scaled size k [] below = All-nil (λ (e : Entry). e.value < size)
below_scaled size k (e ∷ es) below =
    All-cons (λ (e : Entry). e.value < size) (scaled k e) (map (scaled k) es) (All-head (λ (e : Entry). e.value < size) e es below)
    (below_scaled size k es (All-tail (λ (e : Entry). e.value < size) e es below))

pub below_more : (size bound : ℕ) (c : List Entry) → size ≤ bound → IsBelow size c → IsBelow bound c
below_more size bound [] more below = All-nil (λ (e : Entry). e.value < bound)
below_more size bound (e ∷ es) more below =
    All-cons (λ (e : Entry). e.value < bound) e es (omega (arith, more, All-head (λ (e : Entry). e.value < size) e es below))
    (below_more size bound es more (All-tail (λ (e : Entry). e.value < size) e es below))

-- the i-th inner, as the joint weights see it
abbrev pub inner_at : HyperTree → ℕ → Inner
inner_at h i = get_or h.inners i (record { entries = []; total = 0 })

-- all values are below this
abbrev pub Bounds : ℕ → HyperTree → Type 0
Bounds size h = (i : ℕ) → i < count h → IsBelow size (inner_at h i).entries

bounds : (h : HyperTree) (bound : ℕ) → target_size h.target ≤ bound → IsProper h → Bounds bound h
bounds h bound more proper i l =
    below_more (target_size h.target) bound (inner_at h i).entries more
    (All-get_or (λ (i : Inner). IsBelow (target_size h.target) i.entries) h.inners i (record { entries = []; total = 0 }) l proper.within)

gained_joint : (h : HyperTree) (size : ℕ) (rest : ℤ) (gains : List GainEntry) (i : ℕ) → IsBelow size (inner_at h i).entries
    → gained rest gains (joint_column (inner_at h i)) ≡ total size (λ x. pos (joint h x i) *ℤ gain_at rest gains x)
gained_joint h size rest gains i below =
    let inner : Inner = inner_at h i in
    gained_total rest gains size (joint_column inner) (below_scaled size _ inner.entries below)
    ∙ total-ext size (λ x. pos (weight_at (joint_column inner) x) *ℤ gain_at rest gains x) (λ x. pos (joint h x i) *ℤ gain_at rest gains x)
    (λ (x : ℕ) (l : x < size). ap (λ (n : ℕ). pos n *ℤ gain_at rest gains x) (joint_column_weighs inner x))

-- ---- a posterior vulnerability as a sum over the inners

-- each inner's vulnerability, and their sum
pub record Parts (t : TableTree) (inners : List Inner) (z : ℤ) : Type 0 where
  pub worth : ℕ → ℤ
  pub each : (i : ℕ) → i < length inners → IsVulnerability (Table t) (joint_column (get_or inners i (record { entries = []; total = 0 }))) (worth i)
  pub whole : z ≡ total (length inners) worth

-- a number before all others
abbrev before : ℤ → (ℕ → ℤ) → ℕ → ℤ
before z f zero = z
before z f (suc k) = f k

pub parts : (t : TableTree) (inners : List Inner) (z : ℤ) → IsPosterior (Table t) inners z → Parts t inners z
parts t [] z is = record { worth = λ i. pos 0; each = λ i l. absurd (omega (arith, l)); whole = is }
parts t (i ∷ inners) z (first, others, v, p, is) =
    let r : Parts t inners others = parts t inners others p in
    record {
      worth = before first r.worth;
      each = each first r v;
      whole = is ∙ ap (λ (y : ℤ). first +ℤ y) r.whole ∙ sym (total-front (length inners) (before first r.worth));
    }
  where
    each : {others : ℤ} (first : ℤ) (r : Parts t inners others) → IsVulnerability (Table t) (joint_column i) first
        → (k : ℕ) → k < length (i ∷ inners) → IsVulnerability (Table t) (joint_column (get_or (i ∷ inners) k (record { entries = []; total = 0 }))) (before first r.worth k)
    each first r v zero l = v
    each first r v (suc k) l = r.each k (omega (arith, l))

-- ---- the best actions of the second hyper, tried at the first

module _ (a b : HyperTree) (t : TableTree) (size d : ℕ) (r : ℕ → ℕ → ℤ) (of_a of_b : ℤ) (bounds_a : Bounds size a) (bounds_b : Bounds size b)
    (carries : CarriesWeights a b d r) (parts_a : Parts t a.inners of_a) (parts_b : Parts t b.inners of_b)
    (not_negative : (i j : ℕ) → i < count a → j < count b → pos 0 ≤ℤ r i j) where
  -- what an action gains at an inner of b is what it gains at those of a, through the matrix
  gained_through : (gains : List GainEntry) (j : ℕ) → j < count b
      → pos (a.scale * d) *ℤ gained t.rest gains (joint_column (inner_at b j))
      ≡ pos b.scale *ℤ total (count a) (λ i. gained t.rest gains (joint_column (inner_at a i)) *ℤ r i j)
  gained_through gains j l =
      let m = count a in
      let g : ℕ → ℤ = gain_at t.rest gains in
      ap (λ (z : ℤ). pos (a.scale * d) *ℤ z) (gained_joint b size t.rest gains j (bounds_b j l))
      ∙ sym (total-scale size (pos (a.scale * d)) (λ x. pos (joint b x j) *ℤ g x))
      ∙ total-ext size (λ x. pos (a.scale * d) *ℤ (pos (joint b x j) *ℤ g x)) (λ x. pos b.scale *ℤ (g x *ℤ total m (λ i. pos (joint a x i) *ℤ r i j)))
      (λ (x : ℕ) (w : x < size). moved (pos (a.scale * d)) (pos (joint b x j)) (g x) (pos b.scale) (total m (λ i. pos (joint a x i) *ℤ r i j)) (carries x j l))
      ∙ total-scale size (pos b.scale) (λ x. g x *ℤ total m (λ i. pos (joint a x i) *ℤ r i j))
      ∙ ap (λ (z : ℤ). pos b.scale *ℤ z)
      (sym (total-through size m g (λ i. r i j) (λ x i. pos (joint a x i)))
      ∙ total-ext m (λ i. total size (λ x. g x *ℤ pos (joint a x i)) *ℤ r i j) (λ i. gained t.rest gains (joint_column (inner_at a i)) *ℤ r i j)
      (λ (i : ℕ) (w : i < m). ap (λ (z : ℤ). z *ℤ r i j)
      (total-ext size (λ x. g x *ℤ pos (joint a x i)) (λ x. pos (joint a x i) *ℤ g x) (λ (x : ℕ) (q : x < size). omega (arith, ints))
      ∙ sym (gained_joint a size t.rest gains i (bounds_a i w)))))
    where
      moved : (p q g u v : ℤ) → u *ℤ v ≡ p *ℤ q → p *ℤ (q *ℤ g) ≡ u *ℤ (g *ℤ v)
      moved p q g u v same = simp ring (let h = simp ring at (ap (λ (z : ℤ). g *ℤ z) same) in omega (arith, ints))

  -- no inner of b is worth more than those of a, through the matrix
  worth_at_most : (j : ℕ) → j < count b → (pos (a.scale * d) *ℤ parts_b.worth j) ≤ℤ (pos b.scale *ℤ total (count a) (λ i. parts_a.worth i *ℤ r i j))
  worth_at_most j l =
      let (w, there, is) = (parts_b.each j l).reached in
      let through = gained_through w.gains j l in
      let less : total (count a) (λ i. gained t.rest w.gains (joint_column (inner_at a i)) *ℤ r i j) ≤ℤ total (count a) (λ i. parts_a.worth i *ℤ r i j) =
      total_monotone (count a) (λ i. gained t.rest w.gains (joint_column (inner_at a i)) *ℤ r i j) (λ i. parts_a.worth i *ℤ r i j)
      (λ (i : ℕ) (k : i < count a). product_right (gained t.rest w.gains (joint_column (inner_at a i))) (parts_a.worth i) (r i j) (not_negative i j k l)
      ((parts_a.each i k).best (gained t.rest w.gains (joint_column (inner_at a i))) (w, there, refl))) in
      omega (
        arith,
        ints,
        through,
        ap (λ (z : ℤ). pos (a.scale * d) *ℤ z) is,
        product_monotone (total (count a) (λ i. gained t.rest w.gains (joint_column (inner_at a i)) *ℤ r i j)) (total (count a) (λ i. parts_a.worth i *ℤ r i j)) (pos b.scale) (omega (arith, ints)) less,
      )
    where
      product_right : (u v c : ℤ) → pos 0 ≤ℤ c → u ≤ℤ v → (u *ℤ c) ≤ℤ (v *ℤ c)
      product_right u v c some less = omega (arith, ints, product_monotone u v c some less)

  pub no_better : ((i : ℕ) → i < count a → total (count b) (r i) ≡ pos d) → 0 < d → (pos a.scale *ℤ of_b) ≤ℤ (pos b.scale *ℤ of_a)
  no_better rows some =
      let m = count a in
      let n = count b in
      let left : total n (λ j. pos (a.scale * d) *ℤ parts_b.worth j) ≡ pos (a.scale * d) *ℤ of_b =
      total-scale n (pos (a.scale * d)) parts_b.worth ∙ ap (λ (z : ℤ). pos (a.scale * d) *ℤ z) (sym parts_b.whole) in
      let right : total n (λ j. pos b.scale *ℤ total m (λ i. parts_a.worth i *ℤ r i j)) ≡ pos b.scale *ℤ (of_a *ℤ pos d) =
      total-scale n (pos b.scale) (λ j. total m (λ i. parts_a.worth i *ℤ r i j))
      ∙ ap (λ (z : ℤ). pos b.scale *ℤ z)
      (total-swap n m (λ j i. parts_a.worth i *ℤ r i j)
      ∙ total-ext m (λ i. total n (λ j. parts_a.worth i *ℤ r i j)) (λ i. parts_a.worth i *ℤ pos d)
      (λ (i : ℕ) (k : i < m). total-scale n (parts_a.worth i) (r i) ∙ ap (λ (z : ℤ). parts_a.worth i *ℤ z) (rows i k))
      ∙ total-scale_right m (pos d) parts_a.worth
      ∙ ap (λ (z : ℤ). z *ℤ pos d) (sym parts_a.whole)) in
      let less : total n (λ j. pos (a.scale * d) *ℤ parts_b.worth j) ≤ℤ total n (λ j. pos b.scale *ℤ total m (λ i. parts_a.worth i *ℤ r i j)) =
      total_monotone n (λ j. pos (a.scale * d) *ℤ parts_b.worth j) (λ j. pos b.scale *ℤ total m (λ i. parts_a.worth i *ℤ r i j)) worth_at_most in
      without (pos a.scale) (pos b.scale) (pos d) of_a of_b (omega (arith, ints, some)) (omega (arith, ints, left, right, less))
    where
      without : (s u d y z : ℤ) → pos 0 <ℤ d → (s *ℤ d *ℤ z) ≤ℤ (u *ℤ (y *ℤ d)) → (s *ℤ z) ≤ℤ (u *ℤ y)
      without s u d y z some less = cancel_le (s *ℤ z) (u *ℤ y) d some (simp ring (let h = simp ring at less in omega (arith, ints)))

pub nothing_separates : NothingSeparates
nothing_separates a b t proper_a proper_b (rows, is) apart =
    let size : ℕ = target_size a.target + target_size b.target in
    let most : (pos a.scale *ℤ apart.of_b) ≤ℤ (pos b.scale *ℤ apart.of_a) =
    no_better a b t size is.over is.number apart.of_a apart.of_b (bounds a size (omega arith) proper_a) (bounds b size (omega arith) proper_b)
    is.carries (parts t a.inners apart.of_a apart.is_of_a) (parts t b.inners apart.of_b apart.is_of_b) is.stochastic.not_negative is.stochastic.rows is.is_over.positive in
    omega (arith, ints, most, apart.below)
