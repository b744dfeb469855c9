-- Hypers whose joint weights are multiplied value by value: their inners, and what is best done at them.
use Rattle.std.proofs.Common.{◌≡◌, ◌≢◌, ℕ, suc, zero, ◌+◌, ◌*◌, ◌/◌, ◌<◌, ◌≤◌, List, [], ◌∷◌, length, map, get_or, refl, sym, ◌∙◌, ap, subst, arith, ⊎_elim}
use Rattle.std.specs.Prelude.{ℤ, pos, ◌*ℤ◌}
use Rattle.std.proofs.Math.Nat.{mul-div_cancel_left, zero-mul, mul-one}
use Rattle.std.proofs.lemmas.Bool.{cases_eq}
use Rattle.std.proofs.lemmas.List.{get_or-map, length-map}
use Rattle.std.proofs.lemmas.List.Elements.{All-cons, All-nil}
use Rattle.kf_frac.proofs.Ring.{mul_assoc, mul_left_comm}
use Rattle.kf_column.specs.declared.entry.Entry.{Entry}
use Rattle.kf_column.specs.Averages.{joint_weight, joint_column}
use Rattle.kf_column.specs.Columns.{weight_at, total}
use Rattle.kf_column.specs.Hypers.{Inner}
use Rattle.kf_column.specs.Shapes.{IsBelow}
use Rattle.kf_column.proofs.Weighing.{joint_column_weighs}
use Rattle.kf_gain.specs.Gains.{Table, TableTree}
use Rattle.kf_gain.specs.Worth.{IsVulnerability}
use Rattle.kf_gain.specs.Vulnerabilities.{IsPosterior}
use Rattle.kf_simplex.specs.Base as sums
use Rattle.kf_simplex.proofs.Sums.{total-ext, total-scale}
use Rattle.kf_refine.specs.Refinements.{HyperTree, count, joint, CarriesWeights}
use Rattle.kf_refine.proofs.Separating.{Bounds, below_more}
use Rattle.kf_prior.proofs.PriorRows.{none_weighs}
use Rattle.kf_prior.proofs.PriorWorth.{sum_z, worth, worth_is, same_worth, weighed, weight_weighed, weighed_worth}

-- ---- all values are below some number

abbrev top_of : List Entry → ℕ
top_of [] = 0
top_of (e ∷ es) = e.value + 1 + top_of es

below_top : (es : List Entry) → IsBelow (top_of es) es
below_top [] = All-nil (λ (e : Entry). e.value < 0)
below_top (e ∷ es) =
    All-cons (λ (f : Entry). f.value < e.value + 1 + top_of es) e es (omega arith) (below_more (top_of es) (e.value + 1 + top_of es) es (omega arith) (below_top es))

abbrev pub top_in : List Inner → ℕ
top_in [] = 0
top_in (i ∷ is) = top_of i.entries + top_in is

pub bounded : (inners : List Inner) (size i : ℕ) → top_in inners ≤ size → i < length inners → IsBelow size (get_or inners i (record { entries = []; total = 0 })).entries
bounded [] size i fits within = absurd (omega (arith, within))
bounded (j ∷ js) size zero fits within = below_more (top_of j.entries) size j.entries (omega (arith, fits)) (below_top j.entries)
bounded (j ∷ js) size (suc i) fits within = bounded js size i (omega (arith, fits)) (omega (arith, within))

-- ---- one inner

whole_share : (w t : ℕ) → (t ≡ 0 → w ≡ 0) → w * (t / t) ≡ w
whole_share w t none =
    ⊎_elim
    (λ (e : t ≡ 0). ap (λ n. n * (t / t)) (none e) ∙ zero-mul (t / t) ∙ sym (none e))
    (λ (d : t ≡ 0 → ⊥).
    let one : t / t ≡ 1 = (let same : t ≡ t * 1 = omega arith in ap (λ n. n / t) same) ∙ mul-div_cancel_left 1 (omega (arith, d)) in
    ap (λ n. w * n) one ∙ mul-one w)
    (cases_eq t 0)

module _ (f : ℕ → ℕ) where
  -- the inner's column, weighed, as an inner of its own
  abbrev pub weighed_inner : Inner → Inner
  weighed_inner i = record { entries = map (weighed f) (joint_column i); total = total (map (weighed f) (joint_column i)) }

  pub inner_weighed : (x : ℕ) (i : Inner) → joint_weight x (weighed_inner i) ≡ f x * joint_weight x i
  inner_weighed x i =
      let es : List Entry = map (weighed f) (joint_column i) in
      whole_share (weight_at es x) (total es) (λ none. none_weighs es none x)
      ∙ weight_weighed f (joint_column i) x
      ∙ ap (λ n. f x * n) (joint_column_weighs i x)

  abbrev pub weighed_hyper : HyperTree → HyperTree
  weighed_hyper h = record { target = h.target; scale = h.scale; inners = map weighed_inner h.inners }

  joint_weighed : (h : HyperTree) (x i : ℕ) → i < count h → joint (weighed_hyper h) x i ≡ f x * joint h x i
  joint_weighed h x i within =
      let none : Inner = record { entries = []; total = 0 } in
      ap (joint_weight x) (get_or-map weighed_inner h.inners i none none within) ∙ inner_weighed x (get_or h.inners i none)

  pub count_weighed : (h : HyperTree) → count (weighed_hyper h) ≡ count h
  count_weighed h = length-map h.inners weighed_inner

  -- ---- a matrix carries the one to the other as before

  pub carries_weighed : (a b : HyperTree) (d : ℕ) (r : ℕ → ℕ → ℤ) → CarriesWeights a b d r → CarriesWeights (weighed_hyper a) (weighed_hyper b) d r
  carries_weighed a b d r carries x j within =
      let below : j < count b = subst (λ n. j < n) (count_weighed b) within in
      let m = count a in
      let row : ℕ → ℤ = λ i. pos (joint a x i) *ℤ r i j in
      let left : sums.total (count (weighed_hyper a)) (λ i. pos (joint (weighed_hyper a) x i) *ℤ r i j) ≡ pos (f x) *ℤ sums.total m row =
      ap (λ n. sums.total n (λ i. pos (joint (weighed_hyper a) x i) *ℤ r i j)) (count_weighed a)
      ∙ total-ext m (λ i. pos (joint (weighed_hyper a) x i) *ℤ r i j) (λ i. pos (f x) *ℤ row i)
      (λ i l. ap (λ n. pos n *ℤ r i j) (joint_weighed a x i l) ∙ mul_assoc (pos (f x)) (pos (joint a x i)) (r i j))
      ∙ total-scale m (pos (f x)) row in
      ap (λ z. pos b.scale *ℤ z) left
      ∙ mul_left_comm (pos b.scale) (pos (f x)) (sums.total m row)
      ∙ ap (λ z. pos (f x) *ℤ z) (carries x j below)
      ∙ mul_left_comm (pos (f x)) (pos (a.scale * d)) (pos (joint b x j))
      ∙ ap (λ n. pos (a.scale * d) *ℤ pos n) (sym (joint_weighed b x j below))

  pub bounds_weighed : (h : HyperTree) (size : ℕ) → top_in (map weighed_inner h.inners) ≤ size → Bounds size (weighed_hyper h)
  bounds_weighed h size fits i within = bounded (map weighed_inner h.inners) size i fits within

  -- ---- what is best done at them

  module _ (t : TableTree) (some : t.actions ≢ []) where
    inner_best : (i : Inner) → IsVulnerability (Table t) (joint_column (weighed_inner i)) (weighed_worth t some f (joint_column i))
    inner_best i =
        let es : List Entry = map (weighed f) (joint_column i) in
        let same : worth t some (joint_column (weighed_inner i)) ≡ worth t some es =
        same_worth t some (joint_column (weighed_inner i)) es (λ x. joint_column_weighs (weighed_inner i) x ∙ whole_share (weight_at es x) (total es) (λ none. none_weighs es none x)) in
        subst (IsVulnerability (Table t) (joint_column (weighed_inner i))) same (worth_is t some (joint_column (weighed_inner i)))

    pub posterior_weighed : (inners : List Inner) → IsPosterior (Table t) (map weighed_inner inners) (sum_z (λ (i : Inner). weighed_worth t some f (joint_column i)) inners)
    posterior_weighed [] = refl
    posterior_weighed (i ∷ is) = (weighed_worth t some f (joint_column i), sum_z (λ (j : Inner). weighed_worth t some f (joint_column j)) is, inner_best i, posterior_weighed is, refl)
