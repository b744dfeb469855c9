-- Hypers that refine each other are the same: the squares of each value's probabilities, weighted by the outers, are no less in the one than in
-- the other, and so each inner is mixed of none but itself.
use Rattle.std.proofs.Common.{◌≡◌, ◌≢◌, ℕ, zero, suc, ◌*◌, ◌/◌, ◌<◌, List, [], length, get_or, map, ⊎_elim}
use Rattle.std.proofs.Common.{refl, sym, ap, subst, ◌∙◌, arith}
use Rattle.std.specs.Int.{◌∣◌}
use Rattle.std.proofs.Math.IntN.{ℤ, pos, ◌*ℤ◌}
use Rattle.std.proofs.Math.Nat.{div-mul_cancel, dvd-mul_left, dvd-mul_left_of_dvd, dvd-mul_right_of_dvd, eq-zero-or-pos}
use Rattle.std.proofs.lemmas.Bool.{cases_lt}
use Rattle.std.proofs.lemmas.Int.{ints, by_lt_z}
use Rattle.std.proofs.lemmas.List.{ext_get_or, get_or-map, length-map}
use Rattle.std.proofs.lemmas.List.Elements.{All-get_or}
use lib.Signed.{◌<ℤ◌, ◌≤ℤ◌}
use Rattle.kf_frac.proofs.Ring.{ring}
use Rattle.kf_column.specs.declared.entry.Entry.{Entry}
use Rattle.kf_column.specs.Columns.{weight_at, total as sum_of}
use Rattle.kf_column.specs.Hypers.{Inner, IsInner}
use Rattle.kf_column.proofs.AtMostOne.{In}
use Rattle.kf_column.proofs.ClassSums.{class_sum, is_whole}
use Rattle.kf_column.proofs.Posteriors.{same_inner}
use Rattle.kf_column.proofs.Proportions.{AreProportional}
use Rattle.kf_column.proofs.Scaling.{product_positive}
use Rattle.kf_gain.specs.Gains.{Bayes}
use Rattle.kf_gain.proofs.Measures.{some}
use Rattle.kf_simplex.specs.Base.{total}
use Rattle.kf_order.specs.Order.{IsAntisymmetric, over_more}
use Rattle.kf_refine.specs.Refinements.{HyperTree, Fraction, count, Carries}
use Rattle.kf_refine.specs.Views.{IsProper}
use Rattle.kf_order.proofs.InOrder.{in_at, one_place, place_in, same_members}
use Rattle.kf_order.proofs.Mixing.{mixed_sum}
use Rattle.kf_order.proofs.Refining.{above_a, above_b, column, column_is, column_weighs, none, over, over_some, times, times_not_negative, times_weigh}
use Rattle.kf_simplex.proofs.Signs.{cancel}
use Rattle.kf_order.proofs.Squares.{equal_parts, squares_less}
use Rattle.kf_simplex.proofs.Sums.{total-ext, total-scale, total-single}

-- ---- one denominator

-- the product of the first n numbers
abbrev product : ℕ → (ℕ → ℕ) → ℕ
product zero f = 1
product (suc n) f = product n f * f n

product_divided : (n : ℕ) (f : ℕ → ℕ) (i : ℕ) → i < n → f i ∣ product n f
product_divided zero f i l = absurd (omega (arith, l))
product_divided (suc n) f i l =
    ⊎_elim (λ (m : i < n). dvd-mul_right_of_dvd (f i) (product_divided n f i m) (f n))
    (λ m. let same : n ≡ i = omega (arith, l, m) in subst (λ (k : ℕ). f i ∣ product n f * f k) (sym same) (dvd-mul_left (f i) (product n f)))
    (cases_lt i n)

product_some : (n : ℕ) (f : ℕ → ℕ) → ((i : ℕ) → i < n → 0 < f i) → 0 < product n f
product_some zero f some = omega arith
product_some (suc n) f some = product_positive (product n f) (f n) (product_some n f (λ (i : ℕ) (l : i < n). some i (omega arith))) (some n (omega arith))

-- a sum above 0 has a part above 0
part_above : (n : ℕ) (f : ℕ → ℤ) → pos 0 <ℤ total n f → (i : ℕ) × (i < n) × (pos 0 <ℤ f i)
part_above zero f h = absurd (omega (arith, ints, h))
part_above (suc n) f h =
    by_lt_z (pos 0) (f n) (λ (l : pos 0 <ℤ f n). (n, omega arith, l))
    (λ (g : f n ≤ℤ pos 0). let r = part_above n f (omega (arith, ints, h, g)) in (r.0, omega (arith, r.1), r.2))

-- ---- the inners of a hyper

abbrev inner : HyperTree → ℕ → Inner
inner h i = get_or h.inners i none

module _ (h : HyperTree) (proper : IsProper h) (i : ℕ) (l : i < count h) where
  is_inner : IsInner (inner h i).entries
  is_inner = All-get_or (λ (k : Inner). IsInner k.entries) h.inners i none l proper.inner

  used : 0 < (inner h i).total
  used = All-get_or (λ (k : Inner). 0 < k.total) h.inners i none l proper.used

  divides : sum_of (inner h i).entries ∣ (inner h i).total
  divides = All-get_or (λ (k : Inner). sum_of k.entries ∣ k.total) h.inners i none l proper.multiple

  sum_is : sum_of (column h i) ≡ (inner h i).total
  sum_is = ap sum_of (column_is h i l) ∙ class_sum ((inner h i).entries, (inner h i).total) (is_whole ((inner h i).entries, (inner h i).total) is_inner used divides)

  sum_some : 0 < sum_of (column h i)
  sum_some = omega (arith, sum_is, used)

  factor_some : 0 < (inner h i).total / sum_of (inner h i).entries
  factor_some = (is_whole ((inner h i).entries, (inner h i).total) is_inner used divides).some

-- columns of one ratio are of one inner
in_ratio : (u v : ℕ) (e f : List Entry) → 0 < u → ((x : ℕ) → u * weight_at e x ≡ v * weight_at f x) → AreProportional e f
in_ratio u v e f some same x y =
    cancelled u (weight_at e x * weight_at f y) (weight_at e y * weight_at f x) some
    (crossed u v (weight_at e x) (weight_at e y) (weight_at f x) (weight_at f y) (same x) (same y))
  where
    crossed : (u v a b c d : ℕ) → u * a ≡ v * c → u * b ≡ v * d → u * (a * d) ≡ u * (b * c)
    crossed u v a b c d p q =
        let left : u * (a * d) ≡ v * c * d = omega (arith, ap (λ (n : ℕ). n * d) p) in
        let right : u * (b * c) ≡ v * d * c = omega (arith, ap (λ (n : ℕ). n * c) q) in
        omega (arith, left, right)

    cancelled : (u a b : ℕ) → 0 < u → u * a ≡ u * b → a ≡ b
    cancelled u a b some e =
        let z : pos a ≡ pos b = cancel (pos a) (pos b) (pos u) (omega (arith, ints, some)) (ap pos e) in omega (arith, ints, z)

-- ---- weights over one denominator

abbrev mass : HyperTree → ℕ → ℕ → ℤ
mass h s i = pos s *ℤ pos (sum_of (column h i))

-- the probability of a value in an inner, over w
abbrev share : ℕ → HyperTree → ℕ → ℕ → ℤ
share w h x i = pos (w / sum_of (column h i)) *ℤ pos (weight_at (column h i) x)

abbrev Divides : ℕ → HyperTree → Type 0
Divides w h = (i : ℕ) → i < count h → sum_of (column h i) ∣ w

module _ (a b : HyperTree) (proper_a : IsProper a) (proper_b : IsProper b) (rows : List (List Fraction)) (is : Carries a b rows) where
  outers : (j : ℕ) → j < count b → total (count a) (λ i. mass a b.scale i *ℤ is.number i j) ≡ pos is.over *ℤ mass b a.scale j
  outers j l =
      total-ext (count a) (λ i. mass a b.scale i *ℤ is.number i j) (λ i. pos (sum_of (column a i)) *ℤ times a b proper_a proper_b rows is i j)
      (λ (i : ℕ) (k : i < count a). turned (pos b.scale) (pos (sum_of (column a i))) (is.number i j))
      ∙ sym (mixed_sum Bayes (λ c. (some Bayes c tt).0) (λ c. (some Bayes c tt).1) (count a) (column a) (λ i. times a b proper_a proper_b rows is i j)
      (λ (i : ℕ) (k : i < count a). times_not_negative a b proper_a proper_b rows is i j k l) (above_a a b proper_a proper_b rows is) (column b j)
      (over a b proper_a proper_b rows is) (over_some a b proper_a proper_b rows is) (above_b a b proper_a proper_b rows is j l) (times_weigh a b proper_a proper_b rows is j l))
      ∙ turned_over (pos a.scale) (pos is.over) (pos (sum_of (column b j)))
    where
      turned : (s t r : ℤ) → s *ℤ t *ℤ r ≡ t *ℤ (s *ℤ r)
      turned s t r = simp ring refl

      turned_over : (s d t : ℤ) → s *ℤ d *ℤ t ≡ d *ℤ (s *ℤ t)
      turned_over s d t = simp ring refl

  module _ (w : ℕ) (of_a : Divides w a) (of_b : Divides w b) (x : ℕ) where
    means : (j : ℕ) → j < count b
        → total (count a) (λ i. mass a b.scale i *ℤ share w a x i *ℤ is.number i j) ≡ pos is.over *ℤ (mass b a.scale j *ℤ share w b x j)
    means j l =
        total-ext (count a) (λ i. mass a b.scale i *ℤ share w a x i *ℤ is.number i j)
        (λ i. pos w *ℤ (pos (weight_at (column a i) x) *ℤ times a b proper_a proper_b rows is i j))
        (λ (i : ℕ) (k : i < count a).
        shared (pos b.scale) (pos (sum_of (column a i))) (pos (w / sum_of (column a i))) (pos (weight_at (column a i) x)) (is.number i j) (pos w)
        (ap pos (div-mul_cancel (sum_of (column a i)) (of_a i k))))
        ∙ total-scale (count a) (pos w) (λ i. pos (weight_at (column a i) x) *ℤ times a b proper_a proper_b rows is i j)
        ∙ ap (λ (z : ℤ). pos w *ℤ z) (sym (times_weigh a b proper_a proper_b rows is j l x))
        ∙ gathered (pos a.scale) (pos is.over) (pos (sum_of (column b j))) (pos (w / sum_of (column b j))) (pos (weight_at (column b j) x)) (pos w)
        (ap pos (div-mul_cancel (sum_of (column b j)) (of_b j l)))
      where
        shared : (s t u c r w : ℤ) → u *ℤ t ≡ w → s *ℤ t *ℤ (u *ℤ c) *ℤ r ≡ w *ℤ (c *ℤ (s *ℤ r))
        shared s t u c r w whole = turned s t u c r ∙ ap (λ (z : ℤ). z *ℤ (c *ℤ (s *ℤ r))) whole
          where
            turned : (s t u c r : ℤ) → s *ℤ t *ℤ (u *ℤ c) *ℤ r ≡ u *ℤ t *ℤ (c *ℤ (s *ℤ r))
            turned s t u c r = simp ring refl

        gathered : (s d t v c w : ℤ) → v *ℤ t ≡ w → w *ℤ (s *ℤ d *ℤ c) ≡ d *ℤ (s *ℤ t *ℤ (v *ℤ c))
        gathered s d t v c w whole = ap (λ (z : ℤ). z *ℤ (s *ℤ d *ℤ c)) (sym whole) ∙ turned s d t v c
          where
            turned : (s d t v c : ℤ) → v *ℤ t *ℤ (s *ℤ d *ℤ c) ≡ d *ℤ (s *ℤ t *ℤ (v *ℤ c))
            turned s d t v c = simp ring refl

    heavy : (i : ℕ) → i < count a → pos 0 <ℤ mass a b.scale i
    heavy i k = let p = product_positive b.scale (sum_of (column a i)) proper_b.some (sum_some a proper_a i k) in omega (arith, ints, p)

    abbrev squares : HyperTree → ℕ → ℤ
    squares h s = total (count h) (λ i. mass h s i *ℤ (share w h x i *ℤ share w h x i))

    pub less : squares b a.scale ≤ℤ squares a b.scale
    less =
        squares_less (count a) (count b) (mass a b.scale) (mass b a.scale) (share w a x) (share w b x) is.number (pos is.over) is.stochastic.rows outers means heavy
        is.stochastic.not_negative (omega (arith, ints, is.is_over.positive))

    pub alike : squares a b.scale ≤ℤ squares b a.scale → (i j : ℕ) → i < count a → j < count b → pos 0 <ℤ is.number i j → share w a x i ≡ share w b x j
    alike more =
        equal_parts (count a) (count b) (mass a b.scale) (mass b a.scale) (share w a x) (share w b x) is.number (pos is.over) is.stochastic.rows outers means heavy
        is.stochastic.not_negative more (omega (arith, ints, is.is_over.positive))

-- ---- two hypers that refine each other

abbrev all_entries : HyperTree → List (List Entry)
all_entries h = map (λ (i : Inner). i.entries) h.inners

entries_at : (h : HyperTree) (i : ℕ) → i < count h → get_or (all_entries h) i [] ≡ (inner h i).entries
entries_at h i l = get_or-map (λ (k : Inner). k.entries) h.inners i none [] l

module _ (a b : HyperTree) (proper_a : IsProper a) (proper_b : IsProper b) (rows cols : List (List Fraction)) (is : Carries a b rows) (back : Carries b a cols) where
  abbrev whole : ℕ
  whole = product (count a) (λ i. sum_of (column a i)) * product (count b) (λ j. sum_of (column b j))

  whole_some : 0 < whole
  whole_some =
      product_positive (product (count a) (λ i. sum_of (column a i))) (product (count b) (λ j. sum_of (column b j)))
      (product_some (count a) (λ i. sum_of (column a i)) (sum_some a proper_a)) (product_some (count b) (λ j. sum_of (column b j)) (sum_some b proper_b))

  divides_a : Divides whole a
  divides_a i k =
      dvd-mul_right_of_dvd (sum_of (column a i)) (product_divided (count a) (λ i. sum_of (column a i)) i k) (product (count b) (λ j. sum_of (column b j)))

  divides_b : Divides whole b
  divides_b j l =
      dvd-mul_left_of_dvd (sum_of (column b j)) (product_divided (count b) (λ j. sum_of (column b j)) j l) (product (count a) (λ i. sum_of (column a i)))

  module _ (i j : ℕ) (k : i < count a) (l : j < count b) where
    abbrev u : ℕ
    u = whole / sum_of (column a i)

    abbrev v : ℕ
    v = whole / sum_of (column b j)

    abbrev f : ℕ
    f = (inner a i).total / sum_of (inner a i).entries

    abbrev g : ℕ
    g = (inner b j).total / sum_of (inner b j).entries

    u_some : 0 < u
    u_some =
        ⊎_elim
        (λ (no' : u ≡ 0). absurd (omega (arith, whole_some, div-mul_cancel (sum_of (column a i)) (divides_a i k), ap (λ (n : ℕ). n * sum_of (column a i)) no')))
        (λ (h : 0 < u). h) (eq-zero-or-pos u)

    shown : pos 0 <ℤ is.number i j → (x : ℕ) → u * f * weight_at (inner a i).entries x ≡ v * g * weight_at (inner b j).entries x
    shown some x =
        let shared : pos (u * weight_at (column a i) x) ≡ pos (v * weight_at (column b j) x) =
        alike a b proper_a proper_b rows is whole divides_a divides_b x (less b a proper_b proper_a cols back whole divides_b divides_a x) i j k l some in
        let same : u * weight_at (column a i) x ≡ v * weight_at (column b j) x = omega (arith, ints, shared) in
        let here : u * weight_at (column a i) x ≡ u * (weight_at (inner a i).entries x * f) = ap (λ (n : ℕ). u * n) (column_weighs a i x k) in
        let there : v * weight_at (column b j) x ≡ v * (weight_at (inner b j).entries x * g) = ap (λ (n : ℕ). v * n) (column_weighs b j x l) in
        omega (arith, same, here, there)

    same_entries : pos 0 <ℤ is.number i j → (inner a i).entries ≡ (inner b j).entries
    same_entries some =
        same_inner (inner a i).entries (inner b j).entries (is_inner a proper_a i k) (is_inner b proper_b j l)
        (in_ratio (u * f) (v * g) (inner a i).entries (inner b j).entries (product_positive u f u_some (factor_some a proper_a i k)) (shown some))

  -- each inner of a is one of b
  found : (i : ℕ) → i < count a → (j : ℕ) × (j < count b) × ((inner a i).entries ≡ (inner b j).entries)
  found i k =
      let p = part_above (count b) (is.number i) (omega (arith, ints, is.stochastic.rows i k, is.is_over.positive)) in
      (p.0, p.1, same_entries i p.0 k p.1 p.2)

  member : (e : List Entry) → In e (all_entries a) → In e (all_entries b)
  member e here =
      let p = place_in [] e (all_entries a) here in
      let k : p.0 < count a = omega (arith, p.1, length-map a.inners (λ (i : Inner). i.entries)) in
      let q = found p.0 k in
      let same : get_or (all_entries b) q.0 [] ≡ e = entries_at b q.0 q.1 ∙ sym q.2 ∙ sym (entries_at a p.0 k) ∙ sym p.2 in
      subst (λ (l : List Entry). In l (all_entries b)) same (in_at (all_entries b) q.0 [] (omega (arith, q.1, length-map b.inners (λ (i : Inner). i.entries))))

module _ (a b : HyperTree) (proper_a : IsProper a) (proper_b : IsProper b) (rows cols : List (List Fraction)) (is : Carries a b rows) (back : Carries b a cols) where
  same : all_entries a ≡ all_entries b
  same =
      same_members (all_entries a) (all_entries b) proper_a.ascending proper_b.ascending (member a b proper_a proper_b rows cols is back)
      (member b a proper_b proper_a cols rows back is)

  long : (h : HyperTree) → length (all_entries h) ≡ count h
  long h = length-map h.inners (λ (i : Inner). i.entries)

  as_many : count a ≡ count b
  as_many = sym (long a) ∙ ap (λ (l : List (List Entry)). length l) same ∙ long b

  other : (i j : ℕ) → i < count a → j < count b → i ≢ j → is.number i j ≡ pos 0
  other i j k l apart =
      by_lt_z (pos 0) (is.number i j)
      (λ (some : pos 0 <ℤ is.number i j).
      let there : get_or (all_entries a) i [] ≡ get_or (all_entries a) j [] =
      entries_at a i k ∙ same_entries a b proper_a proper_b rows cols is back i j k l some ∙ sym (entries_at b j l)
      ∙ ap (λ (e : List (List Entry)). get_or e j []) (sym same) in
      absurd (apart (one_place (all_entries a) i j [] proper_a.ascending (omega (arith, k, long a)) (omega (arith, l, long a, as_many)) there)))
      (λ (least : is.number i j ≤ℤ pos 0). omega (arith, ints, least, is.stochastic.not_negative i j k l))

  module _ (i : ℕ) (k : i < count a) where
    l : i < count b
    l = omega (arith, k, as_many)

    own : is.number i i ≡ pos is.over
    own = sym (total-single (count b) i (is.number i) l (λ (j : ℕ) (m : j < count b) (apart : j ≢ i). other i j k m (λ e. apart (sym e)))) ∙ is.stochastic.rows i k

    masses : mass a b.scale i ≡ mass b a.scale i
    masses =
        let single : total (count a) (λ j. mass a b.scale j *ℤ is.number j i) ≡ mass a b.scale i *ℤ is.number i i =
        total-single (count a) i (λ j. mass a b.scale j *ℤ is.number j i) k
        (λ (j : ℕ) (m : j < count a) (apart : j ≢ i). ap (λ (z : ℤ). mass a b.scale j *ℤ z) (other j i m l apart) ∙ omega (arith, ints)) in
        cancel (mass a b.scale i) (mass b a.scale i) (pos is.over) (omega (arith, ints, is.is_over.positive))
        (omega (arith, ints, single, ap (λ (z : ℤ). mass a b.scale i *ℤ z) own, outers a b proper_a proper_b rows is i l))

    same_one : over_more b.scale (inner a i) ≡ over_more a.scale (inner b i)
    same_one =
        let entries : (inner a i).entries ≡ (inner b i).entries =
        sym (entries_at a i k) ∙ ap (λ (e : List (List Entry)). get_or e i []) same ∙ entries_at b i l in
        let of_a : b.scale * sum_of (column a i) ≡ b.scale * (inner a i).total = ap (λ (n : ℕ). b.scale * n) (sum_is a proper_a i k) in
        let of_b : a.scale * sum_of (column b i) ≡ a.scale * (inner b i).total = ap (λ (n : ℕ). a.scale * n) (sum_is b proper_b i l) in
        let totals : b.scale * (inner a i).total ≡ a.scale * (inner b i).total = omega (arith, ints, masses, of_a, of_b) in
        λ t. record { entries = entries t; total = totals t }

  same_hypers : map (over_more b.scale) a.inners ≡ map (over_more a.scale) b.inners
  same_hypers =
      let long_a = length-map a.inners (over_more b.scale) in
      ext_get_or none (map (over_more b.scale) a.inners) (map (over_more a.scale) b.inners) (long_a ∙ as_many ∙ sym (length-map b.inners (over_more a.scale)))
      (λ (i : ℕ) (m : i < length (map (over_more b.scale) a.inners)).
      let k : i < count a = omega (arith, m, long_a) in
      get_or-map (over_more b.scale) a.inners i none none k ∙ same_one i k ∙ sym (get_or-map (over_more a.scale) b.inners i none none (l i k)))

pub is_antisymmetric : IsAntisymmetric
is_antisymmetric a b proper_a proper_b (rows, is) (cols, back) = same_hypers a b proper_a proper_b rows cols is back
