-- Lists of entries that give every value the same weight, once their weights are multiplied.
use Rattle.std.proofs.Common.{◌≡◌, ◌↔◌, ℕ, ◌+◌, ◌*◌, ◌/◌, ◌<◌, ◌≤◌, ◌==◌, List, [], ◌∷◌, Bool, Result, Ok, Err, IfOk, IsTrue, map, sym, ◌∙◌, ap, arith, get_or, if◌then◌else◌}
use Rattle.std.specs.Prelude.{IsPermutation}
use Rattle.std.proofs.lemmas.List.Sorted.{sum_by-IsPermutation}
use Rattle.std.proofs.Math.Nat.{mul_comm}
use Rattle.kf_column.specs.declared.entry.Entry.{Entry}
use Rattle.kf_column.specs.Averages.{scaled, joint_weight}
use Rattle.kf_column.specs.Columns.{IsColumn, weight_at, total}
use Rattle.kf_column.specs.Hypers.{Inner}
use Rattle.kf_column.proofs.Scaling.{product_positive, weight_at-scaled}
use Rattle.kf_column.proofs.Weights.{Above, above_from, above_column, same_column}
use Rattle.kf_refine.specs.Refinements.{HyperTree, joint}
use Rattle.kf_cert.specs.Cells.{AreAscending, AreCarried, IsCarried, column_total, column_weight, share_weight, total_at}
use Rattle.kf_cert.specs.declared.matrix_rules.shares.Share.{Share}

above_scaled : (f : ℕ) → 0 < f → (low : ℕ) (es : List Entry) → Above low es → Above low (map (scaled f) es)
above_scaled f some low [] above = tt
above_scaled f some low (e ∷ es) (from, here, rest) = (from, product_positive f e.weight some here, above_scaled f some (e.value + 1) es rest)

module _ (entries others : List Entry) (p w t : ℕ) where
  left : (x : ℕ) → weight_at (map (scaled p) entries) x ≡ p * weight_at entries x
  left x = weight_at-scaled p entries x

  right : (x : ℕ) → weight_at (map (scaled w) (map (scaled t) others)) x ≡ w * (t * weight_at others x)
  right x = weight_at-scaled w (map (scaled t) others) x ∙ ap (λ (n : ℕ). w * n) (weight_at-scaled t others x)

  pub weights_match : map (scaled p) entries ≡ map (scaled w) (map (scaled t) others) → (x : ℕ) → p * weight_at entries x ≡ w * (t * weight_at others x)
  weights_match same x = sym (left x) ∙ ap (λ (es : List Entry). weight_at es x) same ∙ right x

  pub match_weights : AreAscending entries → IsColumn others → 0 < p → 0 < w → 0 < t → ((x : ℕ) → p * weight_at entries x ≡ w * (t * weight_at others x))
      → map (scaled p) entries ≡ map (scaled w) (map (scaled t) others)
  match_weights ascending column some_p some_w some_t same =
      same_column 0 (map (scaled p) entries) (map (scaled w) (map (scaled t) others))
      (above_scaled p some_p 0 entries (above_from 0 entries (λ _. omega arith) ascending.0 ascending.1))
      (above_scaled w some_w 0 (map (scaled t) others) (above_scaled t some_t 0 others (above_column others column)))
      (λ x. left x ∙ same x ∙ sym (right x))

module _ (a b : HyperTree) (d : ℕ) (shares column : List Share) (j : ℕ) (entries : List Entry) (is : AreCarried a column entries)
    (sums : (x : ℕ) → share_weight a column x ≡ column_weight a shares j x)
    (inner : Inner) (here : get_or b.inners j (record { entries = []; total = 0 }) ≡ inner) where
  abbrev times : ℕ
  times = inner.total / total inner.entries

  weighs : (x : ℕ) → times * weight_at inner.entries x ≡ joint b x j
  weighs x = mul_comm times (weight_at inner.entries x) ∙ sym (ap (joint_weight x) here)

  weight_is : (x : ℕ) → weight_at entries x ≡ column_weight a shares j x
  weight_is x = is.weights x ∙ sums x

  pub carried_told : map (scaled b.scale) entries ≡ map (scaled (a.scale * d)) (map (scaled times) inner.entries) → IsCarried a b d shares j
  carried_told same x =
      ap (λ (n : ℕ). b.scale * n) (sym (weight_is x)) ∙ weights_match entries inner.entries b.scale (a.scale * d) times same x
      ∙ ap (λ (n : ℕ). a.scale * d * n) (weighs x)

  pub told_carried : IsColumn inner.entries → 0 < b.scale → 0 < a.scale * d → 0 < times → IsCarried a b d shares j
      → map (scaled b.scale) entries ≡ map (scaled (a.scale * d)) (map (scaled times) inner.entries)
  told_carried column some_b some_a some carried =
      match_weights entries inner.entries b.scale (a.scale * d) times is.ascending column some_b some_a some
      (λ x. ap (λ (n : ℕ). b.scale * n) (weight_is x) ∙ carried x ∙ ap (λ (n : ℕ). a.scale * d * n) (sym (weighs x)))

-- a match of things that are read by other names
pub match_read : {p p' w w' t t' : ℕ} {es es' os os' : List Entry} → p ≡ p' → es ≡ es' → w ≡ w' → t ≡ t' → os ≡ os'
    → map (scaled p) es ≡ map (scaled w) (map (scaled t) os) → map (scaled p') es' ≡ map (scaled w') (map (scaled t') os')
match_read same_p same_es same_w same_t same_os same =
    (λ i. map (scaled (sym same_p i)) (sym same_es i)) ∙ same ∙ (λ i. map (scaled (same_w i)) (map (scaled (same_t i)) (same_os i)))

-- shares in another order carry the same
pub carried_moved : (a b : HyperTree) (d : ℕ) (shares moved : List Share) (j : ℕ) → IsPermutation shares moved → IsCarried a b d moved j → IsCarried a b d shares j
carried_moved a b d shares moved j same carried x =
    ap (λ (n : ℕ). b.scale * n) (sym (sum_by-IsPermutation (λ (s : Share). if s.column == j then joint a x s.row * s.amount else 0) shares moved same)) ∙ carried x

pub moved_carried : (a b : HyperTree) (d : ℕ) (shares moved : List Share) (j : ℕ) → IsPermutation shares moved → IsCarried a b d shares j → IsCarried a b d moved j
moved_carried a b d shares moved j same carried x =
    ap (λ (n : ℕ). b.scale * n) (sum_by-IsPermutation (λ (s : Share). if s.column == j then joint a x s.row * s.amount else 0) shares moved same) ∙ carried x

pub total_moved : (a : HyperTree) (shares moved : List Share) (j most : ℕ) → IsPermutation shares moved → column_total a shares j ≤ most → column_total a moved j ≤ most
total_moved a shares moved j most same fits =
    omega (arith, fits, sum_by-IsPermutation (λ (s : Share). if s.column == j then total_at a s.row * s.amount else 0) shares moved same)

-- what a call answers of one fact, told of another
pub truth_told : {P Q : Type 0} {E : Type 0} (r : Result Bool E) → (P → Q) → (Q → P) → IfOk r (λ b. IsTrue b ↔ P) → IfOk r (λ b. IsTrue b ↔ Q)
truth_told (Ok b) go back is = (λ yes. go (is.0 yes), λ q. is.1 (back q))
truth_told (Err e) go back is = tt
