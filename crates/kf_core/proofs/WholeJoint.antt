-- The joint weights of a checked program that meets no fault add up to its scale.
use Rattle.std.proofs.Common.{◌≡◌, ℕ, ◌*◌, ◌/◌, ◌<◌, List, [], ◌∷◌, map, Result, Ok, Err, refl, sym, subst, ◌∙◌, arith, true≢false}
use Rattle.std.specs.Prelude.{IsOk}
use Rattle.std.specs.List.{AllByRecursion as Each}
use Rattle.std.specs.Int.{◌∣◌}
use Rattle.std.proofs.Math.Nat.{mul-div_cancel', mul-div_assoc, mul_comm}
use Rattle.std.proofs.lemmas.List.Elements.{recursion_from_All}
use Rattle.kf_frac.proofs.CommonMultiples.{product_positive}
use Rattle.kf_value.proofs.ListLemmas.{each_weaker}
use Rattle.kf_core.specs.Checked.{IsChecked}
use Rattle.kf_core.specs.ChoiceLaws.{ChoicesAreShares}
use Rattle.kf_core.specs.Programs.{ProgramTree}
use Rattle.kf_core.specs.Sts.{sts}
use Rattle.kf_core.specs.Runs.{Run, Halted, chain, declared, all_runs, copied, program_runs}
use Rattle.kf_core.specs.Scale.{scale_of}
use Rattle.kf_core.specs.Joint.{Cell, cell_of, target_number, joint_of}
use Rattle.kf_core.specs.JointLaws.{JointIsWhole}
use Rattle.kf_core.specs.Support.{program_pass}
use Rattle.kf_core.specs.SupportLaws.{ProgramAgrees, ScalesArePositive, CommonScaleIsLeast}
use Rattle.kf_core.proofs.Sums.{adds, adds_flat, adds_same, sum_is, second_positive}
use Rattle.kf_core.proofs.Measures.{Measure, Trace, Ends, end_value, run_value, RunsWithin, Full}
use Rattle.kf_core.proofs.Filled.{AllSolid, all_full}
use Rattle.kf_core.proofs.Solid.{all_solid, decls_solid, program_heavy}
use Rattle.kf_core.proofs.WeightKept.{all_weight, Keeps, chain_keeps, all_keep, decls_keep}

-- ---- runs that end, each with its share of the whole

module _ (whole : ℕ) (some : 0 < whole) where
  share_positive : (r : Run) → r.scale ∣ whole → 0 < r.weight → 0 < whole / r.scale * r.weight
  share_positive r d p =
      product_positive (whole / r.scale) r.weight (second_positive r.scale (whole / r.scale) (subst (λ (n : ℕ). 0 < n) (sym (mul-div_cancel' r.scale d)) some)) p

  module _ (M : Trace → Measure) (holds : (t : Trace) (n w : ℕ) → 0 < w → (M t).holds n w) where
    end_within : (t : Trace) (x : Result ℕ Halted) (w : ℕ) → IsOk x → 0 < w → Ends (M t) x w
    end_within t (Ok n) w is p = holds t n w p
    end_within t (Err f) w is p = absurd (true≢false (sym is))

    pub all_within : (rs : List Run) → Each (λ r. 0 < r.scale) rs → Each (λ r. r.scale ∣ whole) rs → Each (λ r. IsOk r.end) rs → Each (λ r. 0 < r.weight) rs → RunsWithin M [] whole rs
    all_within [] a b c d = tt
    all_within (r ∷ rs) a b c d = ((a.0, b.0, end_within r.trace r.end (whole / r.scale * r.weight) c.0 (share_positive r b.0 d.0)), all_within rs a.1 b.1 c.1 d.1)

-- ---- whole programs

module _ (turns : ℕ) (p : ProgramTree) (checked : IsChecked p) where
  abbrev body_runs : ℕ → List Run
  body_runs n = all_runs p.types turns (sts p.body) (copied p n)

  abbrev runs_from : ℕ → List Run
  runs_from n = chain (declared p.types 0 p.decls n) body_runs

  sound : AllSolid p.types (sts p.body)
  sound = all_solid p.types _ checked.sound

  body_full : (n : ℕ) → Full (body_runs n)
  body_full n = all_full p.types turns (sts p.body) sound (copied p n)

  pub from_keeps : Keeps runs_from
  from_keeps =
      chain_keeps body_runs (λ t n v. all_keep p.types turns (sts p.body) sound t (copied p n) v) (declared p.types 0 p.decls) body_full (decls_keep p.types 0 p.decls (decls_solid p checked))

-- every run's scale divides the scale of all
pub all_divide : (turns : ℕ) (p : ProgramTree) → ScalesArePositive → CommonScaleIsLeast → Each (λ r. r.scale ∣ scale_of turns p) (program_runs turns p)
all_divide turns p scales least =
    of_mapped (program_runs turns p) (recursion_from_All (λ k. k ∣ scale_of turns p) (map (λ (r : Run). r.scale) (program_runs turns p)) (least (program_runs turns p) (scales turns p)).multiple)
  where
    of_mapped : (qs : List Run) → Each (λ k. k ∣ scale_of turns p) (map (λ (r : Run). r.scale) qs) → Each (λ r. r.scale ∣ scale_of turns p) qs
    of_mapped [] h = tt
    of_mapped (q ∷ qs) h = (h.0, of_mapped qs h.1)

-- ---- cells

module _ (number : ℕ → ℕ) (whole : ℕ) where
  cell_value : (r : Run) (e : Result ℕ Halted) → r.end ≡ e → r.scale ∣ whole → adds (λ (c : Cell). c.weight) (cell_of number whole r) ≡ end_value (all_weight r.trace) e (whole / r.scale * r.weight)
  cell_value r (Ok n) is d =
      let share : r.weight * whole / r.scale ≡ whole / r.scale * r.weight = mul-div_assoc r.scale r.weight d ∙ mul_comm r.weight (whole / r.scale) in
      rw is (omega (arith, share))
  cell_value r (Err f) is d = rw is refl

module _ (shares : ChoicesAreShares) (agrees : ProgramAgrees) (scales : ScalesArePositive) (least : CommonScaleIsLeast) where
  module _ (turns : ℕ) (p : ProgramTree) (clear : IsOk (program_pass turns p)) where
    -- all runs end, with whatever holds of positive weight
    pub within : (M : Trace → Measure) → ((t : Trace) (n w : ℕ) → 0 < w → (M t).holds n w) → RunsWithin M [] (scale_of turns p) (program_runs turns p)
    within M holds =
        let rs = program_runs turns p in
        all_within (scale_of turns p) (least rs (scales turns p)).positive M holds rs (recursion_from_All (λ r. 0 < r.scale) rs (scales turns p)) (all_divide turns p scales least)
        (recursion_from_All (λ r. IsOk r.end) rs ((agrees turns p).0.0 clear)) (program_heavy shares turns p)

  pub joint_is_whole : JointIsWhole
  joint_is_whole turns p checked clear =
      let whole = scale_of turns p in
      let rs = program_runs turns p in
      let number = target_number p in
      sum_is (λ (c : Cell). c.weight) (joint_of turns p)
      ∙ adds_flat (λ (c : Cell). c.weight) (cell_of number whole) rs
      ∙ adds_same (λ (r : Run). adds (λ (c : Cell). c.weight) (cell_of number whole r)) (λ r. run_value all_weight [] whole r) rs
      (each_weaker (λ (r : Run). r.scale ∣ whole) (λ (r : Run). adds (λ (c : Cell). c.weight) (cell_of number whole r) ≡ run_value all_weight [] whole r)
      (λ r d. cell_value number whole r r.end refl d) rs (all_divide turns p scales least))
      ∙ from_keeps turns p checked [] 0 whole (within turns p clear all_weight (λ u m w h. tt))
