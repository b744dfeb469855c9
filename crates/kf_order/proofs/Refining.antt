-- Where a matrix carries one hyper to another, each inner of the other is mixed of the first one's: no gain makes it worth more.
use Rattle.std.proofs.Common.{◌≡◌, ℕ, zero, suc, ◌*◌, ◌<◌, List, [], ◌∷◌, length, get_or, map, ⊎_elim}
use Rattle.std.proofs.Common.{refl, sym, ap, subst, ◌∙◌, arith}
use Rattle.std.proofs.Math.IntN.{ℤ, pos, ◌*ℤ◌, zero-*ℤ}
use Rattle.std.proofs.lemmas.Int.{ints}
use Rattle.std.proofs.lemmas.List.{get_or-map, length-map}
use lib.Signed.{◌<ℤ◌, ◌≤ℤ◌}
use Rattle.kf_frac.proofs.Ring.{ring}
use Rattle.kf_value.specs.Numbers.{target_size}
use Rattle.kf_column.specs.declared.entry.Entry.{Entry}
use Rattle.kf_column.specs.Averages.{joint_column}
use Rattle.kf_column.specs.Columns.{weight_at}
use Rattle.kf_column.specs.Hypers.{Inner}
use Rattle.kf_column.proofs.Scaling.{product_positive}
use Rattle.kf_column.proofs.Weighing.{joint_column_weighs}
use Rattle.kf_column.proofs.Weights.{Above}
use Rattle.kf_gain.specs.Gains.{GainOf, Bayes, Tries, Guessing, Table, TableTree}
use Rattle.kf_gain.specs.Laws.{HasActions}
use Rattle.kf_gain.specs.Vulnerabilities.{IsPosterior}
use Rattle.kf_gain.specs.Worth.{IsVulnerability, NoBetter}
use Rattle.kf_gain.proofs.Adding.{ArePairs, pairs}
use Rattle.kf_gain.proofs.Measures.{some}
use Rattle.kf_simplex.specs.Base.{total}
use Rattle.kf_refine.specs.Refinements.{HyperTree, count, joint, Carries}
use Rattle.kf_refine.specs.Views.{IsProper}
use Rattle.kf_order.specs.Order.{RefinementLeaksNoMore}
use Rattle.kf_simplex.proofs.Signs.{cancel_le, product_not_negative}
use Rattle.kf_simplex.proofs.Sums.{total-ext, total-scale}
use Rattle.kf_order.proofs.Worths.{inners_worth, some_actions, worth_total}
use Rattle.kf_order.proofs.Mixing.{all_mixed, mixed, of_nothing}

-- ---- the columns of a hyper

-- the i-th joint column; without entries past the last inner
abbrev pub column : HyperTree → ℕ → List Entry
column h i = get_or (map joint_column h.inners) i []

abbrev pub none : Inner
none = record { entries = []; total = 0 }

pub column_is : (h : HyperTree) (i : ℕ) → i < count h → column h i ≡ joint_column (get_or h.inners i none)
column_is h i l = get_or-map joint_column h.inners i none [] l

above_at : (inners : List Inner) (i : ℕ) → ArePairs inners → i < length inners → Above 0 (get_or (map joint_column inners) i [])
above_at [] i all l = absurd (omega (arith, l))
above_at (k ∷ inners) zero all l = all.0.1
above_at (k ∷ inners) (suc i) all l = above_at inners i all.1 (omega (arith, l))

pub column_weighs : (h : HyperTree) (i x : ℕ) → i < count h → weight_at (column h i) x ≡ joint h x i
column_weighs h i x l = ap (λ (c : List Entry). weight_at c x) (column_is h i l) ∙ joint_column_weighs (get_or h.inners i none) x

-- ---- each inner of b is mixed of those of a

module _ (a b : HyperTree) (proper_a : IsProper a) (proper_b : IsProper b) (rows : List (List _)) (is : Carries a b rows) where
  abbrev pub times : ℕ → ℕ → ℤ
  times i j = pos b.scale *ℤ is.number i j

  abbrev pub over : ℕ
  over = a.scale * is.over

  pub over_some : 0 < over
  over_some = product_positive a.scale is.over proper_a.some is.is_over.positive

  pub times_not_negative : (i j : ℕ) → i < count a → j < count b → pos 0 ≤ℤ times i j
  times_not_negative i j k l = product_not_negative (pos b.scale) (is.number i j) (omega (arith, ints)) (is.stochastic.not_negative i j k l)

  pub times_rows : (i : ℕ) → i < count a → total (count b) (times i) ≡ pos b.scale *ℤ pos is.over
  times_rows i k = total-scale (count b) (pos b.scale) (is.number i) ∙ ap (λ (z : ℤ). pos b.scale *ℤ z) (is.stochastic.rows i k)

  pub above_a : (i : ℕ) → i < count a → Above 0 (column a i)
  above_a i k = above_at a.inners i (pairs (target_size a.target) a.scale a.inners proper_a) k

  pub above_b : (j : ℕ) → j < count b → Above 0 (column b j)
  above_b j l = above_at b.inners j (pairs (target_size b.target) b.scale b.inners proper_b) l

  pub times_weigh : (j : ℕ) → j < count b → (x : ℕ) → pos over *ℤ pos (weight_at (column b j) x) ≡ total (count a) (λ i. pos (weight_at (column a i) x) *ℤ times i j)
  times_weigh j l x =
      ap (λ (n : ℕ). pos over *ℤ pos n) (column_weighs b j x l)
      ∙ sym (is.carries x j l)
      ∙ sym (total-scale (count a) (pos b.scale) (λ i. pos (joint a x i) *ℤ is.number i j))
      ∙ total-ext (count a) (λ i. pos b.scale *ℤ (pos (joint a x i) *ℤ is.number i j)) (λ i. pos (weight_at (column a i) x) *ℤ times i j)
      (λ (i : ℕ) (k : i < count a). turned (pos b.scale) (pos (joint a x i)) (is.number i j) ∙ ap (λ (n : ℕ). pos n *ℤ times i j) (sym (column_weighs a i x k)))
    where
      turned : (s w r : ℤ) → s *ℤ (w *ℤ r) ≡ w *ℤ (s *ℤ r)
      turned s w r = simp ring refl

  -- ---- whatever is wanted

  module _ (g : GainOf TableTree) (y z : ℤ) (p : IsPosterior g b.inners y) (q : IsPosterior g a.inners z) where
    less : (s t d y z : ℤ) → pos 0 <ℤ d → (s *ℤ d *ℤ y) ≤ℤ (z *ℤ (t *ℤ d)) → (y *ℤ s) ≤ℤ (z *ℤ t)
    less s t d y z some h = cancel_le (y *ℤ s) (z *ℤ t) d some (simp ring (let k = simp ring at h in omega (arith, ints)))

    more : (s t d y z : ℤ) → pos 0 <ℤ d → (z *ℤ (t *ℤ d)) ≤ℤ (s *ℤ d *ℤ y) → (z *ℤ t) ≤ℤ (y *ℤ s)
    more s t d y z some h = cancel_le (z *ℤ t) (y *ℤ s) d some (simp ring (let k = simp ring at h in omega (arith, ints)))

    divided : (h : GainOf TableTree) (s t d y z : ℤ) → pos 0 <ℤ d → NoBetter h (s *ℤ d *ℤ y) (z *ℤ (t *ℤ d)) → NoBetter h (y *ℤ s) (z *ℤ t)
    divided Bayes = less
    divided (Tries k) = less
    divided Guessing = more
    divided (Table t) = less

    with_actions : HasActions g → NoBetter g (y *ℤ pos a.scale) (z *ℤ pos b.scale)
    with_actions has =
        let best : List Entry → ℤ = λ c. (some g c has).0 in
        let are : (c : List Entry) → IsVulnerability g c (best c) = λ c. (some g c has).1 in
        let of_a : z ≡ total (count a) (λ i. best (column a i)) =
        worth_total g best are (map joint_column a.inners) z (inners_worth g a.inners z q) ∙ ap (λ (n : ℕ). total n (λ i. best (column a i))) (length-map a.inners joint_column) in
        let of_b : y ≡ total (count b) (λ j. best (column b j)) =
        worth_total g best are (map joint_column b.inners) y (inners_worth g b.inners y p) ∙ ap (λ (n : ℕ). total n (λ j. best (column b j))) (length-map b.inners joint_column) in
        let all : NoBetter g (pos over *ℤ total (count b) (λ j. best (column b j))) (total (count a) (λ i. best (column a i)) *ℤ (pos b.scale *ℤ pos is.over)) =
        all_mixed g best are (count a) (count b) (column a) (column b) times over (pos b.scale *ℤ pos is.over)
        (λ (j : ℕ) (l : j < count b).
        mixed g best are (count a) (column a) (λ i. times i j) (λ (i : ℕ) (k : i < count a). times_not_negative i j k l) above_a (column b j) over over_some (above_b j l)
        (times_weigh j l)) times_rows in
        divided g (pos a.scale) (pos b.scale) (pos is.over) y z (omega (arith, ints, is.is_over.positive))
        (subst (λ (v : ℤ). NoBetter g (pos over *ℤ v) (z *ℤ (pos b.scale *ℤ pos is.over))) (sym of_b)
        (subst (λ (w : ℤ). NoBetter g (pos over *ℤ total (count b) (λ j. best (column b j))) (w *ℤ (pos b.scale *ℤ pos is.over))) (sym of_a) all))

    pub whatever : NoBetter g (y *ℤ pos a.scale) (z *ℤ pos b.scale)
    whatever =
        ⊎_elim with_actions
        (λ none.
        let no_y : y ≡ pos 0 = none (map joint_column b.inners) y (inners_worth g b.inners y p) in
        let no_z : z ≡ pos 0 = none (map joint_column a.inners) z (inners_worth g a.inners z q) in
        of_nothing g (y *ℤ pos a.scale) (z *ℤ pos b.scale) (ap (λ (v : ℤ). v *ℤ pos a.scale) no_y ∙ zero-*ℤ (pos a.scale))
        (ap (λ (v : ℤ). v *ℤ pos b.scale) no_z ∙ zero-*ℤ (pos b.scale)))
        (some_actions g)

pub refinement_leaks_no_more : RefinementLeaksNoMore
refinement_leaks_no_more a b g y z proper_a proper_b (rows, is) p q = whatever a b proper_a proper_b rows is g y z p q
