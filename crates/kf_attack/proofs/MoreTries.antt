-- More tries are no worse, and with all of them the whole scale is reached: so there is one least number of tries that reaches what is wanted.
use Rattle.std.proofs.Common.{◌≡◌, ℕ, ◌-◌, ◌*◌, ◌/◌, ◌<◌, ◌≤◌, List, [], ◌∷◌, sum_by, length, refl, sym, ◌∙◌, ap, subst, arith, suc, zero, ⊎_elim}
use Rattle.std.specs.Prelude.{ℤ, pos, ◌*ℤ◌, ◌≤ℤ◌}
use Rattle.std.proofs.Math.IntN.{*ℤ_comm, zero-*ℤ}
use Rattle.std.proofs.Math.Nat.{mul-le-mul_right}
use Rattle.std.proofs.lemmas.Bool.{cases_order}
use Rattle.std.proofs.lemmas.Int.{ints, by_lt_z}
use Rattle.std.proofs.lemmas.List.{length-map}
use Rattle.std.proofs.lemmas.List.Sums.{sum_by-cons}
use Rattle.kf_column.specs.declared.entry.Entry.{Entry}
use Rattle.kf_column.specs.Columns.{weight_at, total, values}
use Rattle.kf_column.specs.Hypers.{Inner}
use Rattle.kf_column.specs.Shapes.{IsShape}
use Rattle.kf_column.specs.Averages.{joint_column}
use Rattle.kf_hyper.proofs.Averaging.{sum-mapped}
use Rattle.kf_column.proofs.Scaling.{product_positive}
use Rattle.kf_column.proofs.Weights.{Above, ascending_above}
use Rattle.kf_gain.specs.Gains.{Tries}
use Rattle.kf_gain.specs.Worth.{IsVulnerability}
use Rattle.kf_gain.specs.Vulnerabilities.{IsPosterior}
use Rattle.kf_gain.proofs.Adding.{ArePairs, AreShorter, averaged, pairs, shorter, joint_length}
use Rattle.kf_gain.proofs.Falling.{all}
use Rattle.kf_gain.proofs.Guessing.{weights_are}
use Rattle.kf_gain.proofs.Measures.{order_times}
use Rattle.kf_gain.proofs.Reports.{some_report, one_report}
use Rattle.kf_attack.specs.Attacks.{ReachTree, IsReach}
use Rattle.kf_attack.proofs.Positions.{all_weights}

more_tried : (j k : ℕ) (c : List Entry) (y z : ℤ) → j ≤ k → IsVulnerability (Tries j) c y → IsVulnerability (Tries k) c z → y ≤ℤ z
more_tried j k c y z order v w = let (xs, ascending, few, is) = v.reached in w.best y (xs, ascending, omega (arith, few, order), is)

pub more_tries : (inners : List Inner) (j k : ℕ) (y z : ℤ) → j ≤ k → IsPosterior (Tries j) inners y → IsPosterior (Tries k) inners z → y ≤ℤ z
more_tries [] j k y z order p q = omega (arith, ints, p, q)
more_tries (i ∷ inners) j k y z order (a, b, v, p, is) (c, d, w, q, is') =
    omega (arith, ints, is, is', more_tried j k (joint_column i) a c order v w, more_tries inners j k b d order p q)

-- ---- no tries and all tries

no_values : (c : List Entry) (xs : List ℕ) → length xs ≤ 0 → sum_by (weight_at c) xs ≡ 0
no_values c [] few = refl
no_values c (x ∷ xs) few = absurd (omega (arith, few))

none_tried : (c : List Entry) (z : ℤ) → IsVulnerability (Tries 0) c z → z ≡ pos 0
none_tried c z v = let (xs, ascending, few, is) = v.reached in is ∙ ap pos (no_values c xs few)

no_tries : (inners : List Inner) (z : ℤ) → IsPosterior (Tries 0) inners z → z ≡ pos 0
no_tries [] z p = p
no_tries (i ∷ inners) z (a, b, v, p, is) = omega (arith, ints, is, none_tried (joint_column i) a v, no_tries inners b p)

-- all values weigh what the column weighs
all_values : (c : List Entry) → Above 0 c → sum_by (weight_at c) (values c) ≡ total c
all_values c above =
    sym (sum-mapped (weight_at c) (λ (n : ℕ). n) (values c)) ∙ ap (λ (ns : List ℕ). all ns) (weights_are 0 c above) ∙ all_weights c

all_tried : (n : ℕ) (c : List Entry) (z : ℤ) → Above 0 c → length c ≤ n → IsVulnerability (Tries n) c z → pos (total c) ≤ℤ z
all_tried n c z above short v =
    v.best (pos (total c)) (values c, ascending_above 0 c above, omega (arith, length-map c (λ (e : Entry). e.value), short), ap pos (sym (all_values c above)))

all_tries : (n : ℕ) (inners : List Inner) (z : ℤ) → ArePairs inners → AreShorter n inners → IsPosterior (Tries n) inners z → pos (sum_by (λ (i : Inner). i.total) inners) ≤ℤ z
all_tries n [] z pairs short p = omega (arith, ints, p)
all_tries n (i ∷ inners) z (pair, rest) (here, others) (a, b, v, p, is) =
    let first : pos (total (joint_column i)) ≤ℤ a = all_tried n (joint_column i) a pair.1 (omega (arith, here, joint_length (i.total / total i.entries) i.entries)) v in
    omega (arith, ints, is, first, ap pos pair.2, all_tries n inners b rest others p, sum_by-cons (λ (i : Inner). i.total) i inners)

-- ---- one least number

module _ (scale num den : ℕ) (inners : List Inner) where
  tried : (k : ℕ) → (z : ℤ) × IsPosterior (Tries k) inners z
  tried k = (some_report (Tries k) inners tt).1

  from_enough : 0 < num → 0 < scale → (k : ℕ) → pos (num * scale) ≤ℤ ((tried k).0 *ℤ pos den) → (r : ReachTree) × IsReach scale inners num den r
  from_enough some positive zero enough =
      let nothing : (tried 0).0 *ℤ pos den ≡ pos 0 = ap (λ (z : ℤ). z *ℤ pos den) (no_tries inners (tried 0).0 (tried 0).1) ∙ zero-*ℤ (pos den) in
      absurd (omega (arith, ints, enough, nothing, product_positive num scale some positive))
  from_enough some positive (suc k) enough =
      let last : k ≡ suc k - 1 = omega arith in
      by_lt_z ((tried k).0 *ℤ pos den) (pos (num * scale))
      (λ short. (
        record { tries = suc k; posterior = (tried (suc k)).0; before = (tried k).0 },
        record {
          some = omega arith;
          posterior = (tried (suc k)).1;
          before = subst (λ (n : ℕ). IsPosterior (Tries n) inners (tried k).0) last (tried k).1;
          enough = enough;
          short = short;
        },
      ))
      (λ more. from_enough some positive k more)

  -- fewer tries than those of a reach are short
  not_fewer : (r s : ReachTree) → IsReach scale inners num den r → IsReach scale inners num den s → r.tries < s.tries → ⊥
  not_fewer r s p q fewer =
      let less : r.posterior ≤ℤ s.before = more_tries inners r.tries (s.tries - 1) r.posterior s.before (omega (arith, fewer)) p.posterior q.before in
      omega (arith, ints, p.enough, q.short, order_times den r.posterior s.before less, *ℤ_comm r.posterior (pos den), *ℤ_comm s.before (pos den))

  same_tries : (r s : ReachTree) → IsReach scale inners num den r → IsReach scale inners num den s → r.tries ≡ s.tries
  same_tries r s p q =
      ⊎_elim (λ (same : r.tries ≡ s.tries). same)
      (⊎_elim (λ (fewer : r.tries < s.tries). absurd (not_fewer r s p q fewer)) (λ (more : s.tries < r.tries). absurd (not_fewer s r q p more)))
      (cases_order r.tries s.tries)

  one_tried : (j k : ℕ) (y z : ℤ) → j ≡ k → IsPosterior (Tries j) inners y → IsPosterior (Tries k) inners z → y ≡ z
  one_tried j k y z same p q = (one_report (Tries k) inners y z).1 (subst (λ (n : ℕ). IsPosterior (Tries n) inners y) same p) q

  pub one_reach : (r s : ReachTree) → IsReach scale inners num den r → IsReach scale inners num den s → r ≡ s
  one_reach r s p q =
      let same : r.tries ≡ s.tries = same_tries r s p q in
      let posterior : r.posterior ≡ s.posterior = one_tried r.tries s.tries r.posterior s.posterior same p.posterior q.posterior in
      let before : r.before ≡ s.before = one_tried (r.tries - 1) (s.tries - 1) r.before s.before (ap (λ (n : ℕ). n - 1) same) p.before q.before in
      λ i. record { tries = same i; posterior = posterior i; before = before i }

pub some_reach : (size scale num den : ℕ) (inners : List Inner) → IsShape size scale inners → 0 < num → num ≤ den → (r : ReachTree) × IsReach scale inners num den r
some_reach size scale num den inners shape some part =
    let prs : ArePairs inners = pairs size scale inners shape in
    let n : ℕ = length (averaged inners).sum in
    let z : ℤ = (tried scale num den inners n).0 in
    let all : pos (sum_by (λ (i : Inner). i.total) inners) ≤ℤ z = all_tries n inners z prs (shorter inners prs) (tried scale num den inners n).1 in
    let whole : pos scale ≤ℤ z = subst (λ (m : ℕ). pos m ≤ℤ z) shape.whole all in
    let times : num * scale ≤ den * scale = mul-le-mul_right scale part in
    from_enough scale num den inners some shape.some n (omega (arith, ints, times, order_times den (pos scale) z whole, *ℤ_comm z (pos den)))
