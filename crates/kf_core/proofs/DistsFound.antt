-- The kind of a distribution, worked out: the rules give this kind and no other.
use Rattle.std.proofs.Common.{◌≡◌, ℕ, ◌≤◌, List, [], ◌∷◌, length, Option, Some, None, ◌∙◌, arith}
use Rattle.kf_value.specs.Kinds.{KindTree, TruthKind, WholeKind, TupleKind, SetKind}
use Rattle.kf_core.specs.Exs.{ExTree}
use Rattle.kf_core.specs.Dxs.{DxTree, dx_at, DxCaseTree, case_of, DxShape, Sure, UniformSet, UniformRange, Choose, Flip}
use Rattle.kf_core.specs.Checked.{Kinded, CasesKinded, DistKinded}
use Rattle.kf_core.specs.Checked as rule
use Rattle.kf_core.proofs.Settled.{both, decided, is_yes, either_way, at_most, same_kind, Told, is_one, has_one, after, after_some}
use Rattle.kf_core.proofs.KindsFound.{kind_in, only, found, kinded}

abbrev member : KindTree → Option KindTree
member (SetKind k) = Some k
member _ = None

chance : (num den : ℕ) → Dec ((1 ≤ den) × (num ≤ den))
chance num den = both (at_most 1 den) (at_most num den) (λ h g. (h, g)) (λ p. p.0) (λ p. p.1)

module _ (ks : List KindTree) where
  first_case : {x y : ExTree} {cs : List DxCaseTree} {k : KindTree} → CasesKinded ks (case_of x y ∷ cs) k → Kinded ks x k × Kinded ks y WholeKind
  first_case (rule.more h g hs) = (h, g)

  later_cases : {c : DxCaseTree} {cs : List DxCaseTree} {k : KindTree} → CasesKinded ks (c ∷ cs) k → CasesKinded ks cs k
  later_cases (rule.more h g hs) = hs

  cases_kinded : (cs : List DxCaseTree) (k : KindTree) → Dec (CasesKinded ks cs k)
  cases_kinded [] k = yes rule.none
  cases_kinded (case_of x y ∷ cs) k = both
      (both (kinded ks x k) (kinded ks y WholeKind) (λ h g. (h, g)) (λ (p : Kinded ks x k × Kinded ks y WholeKind). p.0) (λ p. p.1))
      (cases_kinded cs k) (λ p hs. rule.more p.0 p.1 hs) first_case later_cases

  range_kinded : (x y : ExTree) → Dec (Kinded ks x WholeKind × Kinded ks y WholeKind)
  range_kinded x y = both (kinded ks x WholeKind) (kinded ks y WholeKind) (λ h g. (h, g)) (λ p. p.0) (λ p. p.1)

  abbrev cases_kind : List DxCaseTree → KindTree → Option KindTree
  cases_kind cs k = decided (cases_kinded cs k) (Some k) None

  abbrev shape_kind : DxShape → Option KindTree
  shape_kind (Sure x) = kind_in ks x
  shape_kind (UniformSet x) = after (kind_in ks x) member
  shape_kind (UniformRange x y) = decided (range_kinded x y) (Some WholeKind) None
  shape_kind (Choose []) = None
  shape_kind (Choose (case_of x y ∷ cs)) = after (kind_in ks x) (cases_kind (case_of x y ∷ cs))
  shape_kind (Flip num den) = decided (chance num den) (Some TruthKind) None

  abbrev dist_kind : DxTree → Option KindTree
  dist_kind (dx_at at d) = shape_kind d

  -- ---- the rules give no other kind

  only_choose : (cs : List DxCaseTree) (k : KindTree) → CasesKinded ks cs k → 1 ≤ length cs → shape_kind (Choose cs) ≡ Some k
  only_choose [] k hs some = absurd (omega arith)
  only_choose (case_of x y ∷ cs) k hs some = after_some (cases_kind (case_of x y ∷ cs)) k (only ks (first_case hs).0) ∙ is_yes (cases_kinded (case_of x y ∷ cs) k) _ _ hs

  only_dist : {d : DxTree} {k : KindTree} → DistKinded ks d k → dist_kind d ≡ Some k
  only_dist (rule.sure at h) = only ks h
  only_dist (rule.uniform_set at {k = k} h) = after_some member (SetKind k) (only ks h)
  only_dist (rule.uniform_range at {x = x} {y = y} h g) = is_yes (range_kinded x y) _ _ (h, g)
  only_dist (rule.choose at {cs = cs} {k = k} hs some) = only_choose cs k hs some
  only_dist (rule.flip at num den some few) = is_yes (chance num den) _ _ (some, few)

  -- ---- the rules give this kind

  set_found : (at : ℕ) (x : ExTree) (o : Option KindTree) → Told (Kinded ks x) o → Told (DistKinded ks (dx_at at (UniformSet x))) (after o member)
  set_found at x None h = tt
  set_found at x (Some TruthKind) h = tt
  set_found at x (Some WholeKind) h = tt
  set_found at x (Some (TupleKind js)) h = tt
  set_found at x (Some (SetKind k)) h = rule.uniform_set at h

  sure_found : (at : ℕ) (x : ExTree) (o : Option KindTree) → Told (Kinded ks x) o → Told (DistKinded ks (dx_at at (Sure x))) o
  sure_found at x None h = tt
  sure_found at x (Some k) h = rule.sure at h

  choose_found : (at : ℕ) (c : DxCaseTree) (cs : List DxCaseTree) (o : Option KindTree) → Told (DistKinded ks (dx_at at (Choose (c ∷ cs)))) (after o (cases_kind (c ∷ cs)))
  choose_found at c cs None = tt
  choose_found at c cs (Some k) = either_way (Told (DistKinded ks (dx_at at (Choose (c ∷ cs))))) (cases_kinded (c ∷ cs) k) _ _ (λ (hs : CasesKinded ks (c ∷ cs) k). rule.choose at hs (omega arith)) (λ n. tt)

  dist_found : (d : DxTree) → Told (DistKinded ks d) (dist_kind d)
  dist_found (dx_at at (Sure x)) = sure_found at x (kind_in ks x) (found ks x)
  dist_found (dx_at at (UniformSet x)) = set_found at x (kind_in ks x) (found ks x)
  dist_found (dx_at at (UniformRange x y)) =
      either_way (Told (DistKinded ks (dx_at at (UniformRange x y)))) (range_kinded x y) _ _ (λ (p : Kinded ks x WholeKind × Kinded ks y WholeKind). rule.uniform_range at p.0 p.1) (λ n. tt)
  dist_found (dx_at at (Choose [])) = tt
  dist_found (dx_at at (Choose (case_of x y ∷ cs))) = choose_found at (case_of x y) cs (kind_in ks x)
  dist_found (dx_at at (Flip num den)) =
      either_way (Told (DistKinded ks (dx_at at (Flip num den)))) (chance num den) _ _ (λ (p : (1 ≤ den) × (num ≤ den)). rule.flip at num den p.0 p.1) (λ n. tt)

  -- whether a distribution is of a kind, and of any
  pub dist_kinded : (d : DxTree) (k : KindTree) → Dec (DistKinded ks d k)
  dist_kinded d = is_one same_kind (DistKinded ks d) (dist_kind d) (dist_found d) (λ j h. only_dist h)

  pub dist_of_some : (d : DxTree) → Dec ((k : KindTree) × DistKinded ks d k)
  dist_of_some d = has_one same_kind (DistKinded ks d) (dist_kind d) (dist_found d) (λ j h. only_dist h)
