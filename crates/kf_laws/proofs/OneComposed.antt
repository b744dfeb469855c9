-- What is put together of two channels: there is some, and only one.
use Rattle.std.proofs.Common.{◌≡◌, ◌≢◌, ◌⊎◌, ℕ, ◌<◌, ◌≤◌, min, nat_le, le-leb, List, [], ◌∷◌, Bool, true, false, Result, Ok, Err, refl, sym, ◌∙◌, ap, subst, inl, inr, ⊎_elim, if◌then◌else◌}
use Rattle.std.proofs.lemmas.Bool.{lt-leb, cases_eq, cases_lt}
use Rattle.kf_frac.specs.Fractions.{limit}
use Rattle.kf_refine.proofs.SomeTargets.{Decided, decided_by, decided_both, same_targets}
use Rattle.kf_capacity.specs.Grids.{ChannelTree, GridTree, channel_grid}
use Rattle.kf_capacity.specs.Compositions.{fits, places, cells_of, cascade_grid, parallel_grid, choice_grid, ComposeFault}
use Rattle.kf_capacity.specs.Cases.{CascadeCase, ParallelCase, ChoiceCase, HaveSameRows, HaveOtherRows}
use Rattle.kf_capacity.proofs.Cases.{cascade_case, cascade_told, parallel_case, parallel_told, choice_case, choice_told}
use Rattle.kf_capacity.specs.Compositions as compose
use Rattle.kf_load.specs.Steps.{Refused}
use Rattle.kf_top.specs.Answer.{Composed, composed_grid}
use Rattle.kf_words.specs.Task.{Composition, Cascade, Parallel, Choice}

-- ---- secrets and targets

either_way : (b : Bool) → (b ≡ true) ⊎ (b ≡ false)
either_way true = inl refl
either_way false = inr refl

same_numbers : (xs ys : List ℕ) → Decided (xs ≡ ys)
same_numbers [] [] = inl refl
same_numbers [] (y ∷ ys) = inr (λ e. absurd (cc))
same_numbers (x ∷ xs) [] = inr (λ e. absurd (cc))
same_numbers (x ∷ xs) (y ∷ ys) =
    decided_by (λ (both : (x ≡ y) × (xs ≡ ys)). λ i. both.0 i ∷ both.1 i) (λ e. ((cc), (cc))) (decided_both (cases_eq x y) (same_numbers xs ys))

-- one of two results, by a bound
module _ {R : Type 0} (n m : ℕ) (few many : R) where
  abbrev bounded : R
  bounded = if nat_le n m then few else many

  where_few : n ≤ m → few ≡ bounded
  where_few h = ap (λ b. if b then few else many) (sym (le-leb n m h))

  where_many : m < n → many ≡ bounded
  where_many h = ap (λ b. if b then few else many) (sym (lt-leb n m h))

  -- what holds of each of them where it is the one
  either_bound : (P : R → Type 0) → (n ≤ m → P few) → (m < n → P many) → P bounded
  either_bound P small large = ⊎_elim (λ h. subst P (where_many h) (large h)) (λ h. subst P (where_few h) (small h)) (cases_lt m n)

-- ---- one behind the other

module _ (c d : ChannelTree) where
  abbrev cascaded : GridTree
  cascaded = cascade_grid (channel_grid c) (places c d) (channel_grid d)

  abbrev cascade_fitting : Result GridTree ComposeFault
  cascade_fitting = bounded cascaded.over limit (Ok cascaded) (Err compose.Wide)

  abbrev cascade_result : Result GridTree ComposeFault
  cascade_result = if fits c d then cascade_fitting else Err compose.Fit

  fitting : fits c d ≡ true → cascade_fitting ≡ cascade_result
  fitting fit = ap (λ b. if b then cascade_fitting else Err compose.Fit) (sym fit)

  cascade_is : (r : Result GridTree ComposeFault) → CascadeCase c d r → r ≡ cascade_result
  cascade_is (Ok g) is =
      ap Ok is.2 ∙ where_few cascaded.over limit (Ok cascaded) (Err compose.Wide) (subst (λ (h : GridTree). h.over ≤ limit) is.2 is.1) ∙ fitting is.0
  cascade_is (Err compose.Fit) is = ap (λ b. if b then cascade_fitting else Err compose.Fit) (sym is)
  cascade_is (Err compose.Wide) is = where_many cascaded.over limit (Ok cascaded) (Err compose.Wide) is.1 ∙ fitting is.0
  cascade_is (Err e) is = absurd is

  some_cascade : CascadeCase c d cascade_result
  some_cascade =
      ⊎_elim
      (λ (fit : fits c d ≡ true). subst (CascadeCase c d) (fitting fit)
      (either_bound cascaded.over limit (Ok cascaded) (Err compose.Wide) (CascadeCase c d) (λ few. (fit, few, refl)) (λ many. (fit, many))))
      (λ (no' : fits c d ≡ false). subst (CascadeCase c d) (ap (λ b. if b then cascade_fitting else Err compose.Fit) (sym no')) no')
      (either_way (fits c d))

-- ---- two channels about the same secrets, or not

module _ (c d : ChannelTree) where
  abbrev Standing : Type 0
  Standing = (c.target ≢ d.target) ⊎ (HaveOtherRows c d ⊎ HaveSameRows c d)

  standing : Standing
  standing =
      ⊎_elim
      (λ (targets : c.target ≡ d.target).
      ⊎_elim (λ (secrets : c.secrets ≡ d.secrets). inr (inr (record { targets = targets; secrets = secrets })))
      (λ secrets. inr (inl (record { targets = targets; secrets = secrets }))) (same_numbers c.secrets d.secrets))
      (λ targets. inl targets)
      (same_targets c.target d.target)

  module _ {R : Type 0} (targets rows same : R) where
    abbrev by_standing : Standing → R
    by_standing s = ⊎_elim (λ _. targets) (λ t. ⊎_elim (λ _. rows) (λ _. same) t) s

    where_targets : c.target ≢ d.target → (s : Standing) → targets ≡ by_standing s
    where_targets differ (inl _) = refl
    where_targets differ (inr (inl other)) = absurd (differ other.targets)
    where_targets differ (inr (inr alike)) = absurd (differ alike.targets)

    where_rows : HaveOtherRows c d → (s : Standing) → rows ≡ by_standing s
    where_rows other (inl differ) = absurd (differ other.targets)
    where_rows other (inr (inl _)) = refl
    where_rows other (inr (inr alike)) = absurd (other.secrets alike.secrets)

    where_same : HaveSameRows c d → (s : Standing) → same ≡ by_standing s
    where_same alike (inl differ) = absurd (differ alike.targets)
    where_same alike (inr (inl other)) = absurd (other.secrets alike.secrets)
    where_same alike (inr (inr _)) = refl

    each_standing : (P : R → Type 0) → (c.target ≢ d.target → P targets) → (HaveOtherRows c d → P rows) → (HaveSameRows c d → P same) → (s : Standing) → P (by_standing s)
    each_standing P at_targets at_rows at_same (inl differ) = at_targets differ
    each_standing P at_targets at_rows at_same (inr (inl other)) = at_rows other
    each_standing P at_targets at_rows at_same (inr (inr alike)) = at_same alike

  -- ---- side by side

  abbrev paired : GridTree
  paired = parallel_grid (channel_grid c) (channel_grid d)

  abbrev parallel_few : Result GridTree ComposeFault
  parallel_few = bounded paired.over limit (Ok paired) (Err compose.Wide)

  abbrev parallel_many : Result GridTree ComposeFault
  parallel_many = Err (compose.Cells (min limit (cells_of c d)))

  abbrev parallel_alike : Result GridTree ComposeFault
  parallel_alike = bounded (cells_of c d) 4000000 parallel_few parallel_many

  abbrev parallel_result : Result GridTree ComposeFault
  parallel_result = by_standing (Err compose.Targets) (Err compose.Rows) parallel_alike standing

  parallel_same : HaveSameRows c d → parallel_alike ≡ parallel_result
  parallel_same alike = where_same (Err compose.Targets) (Err compose.Rows) parallel_alike alike standing

  parallel_is : (r : Result GridTree ComposeFault) → ParallelCase c d r → r ≡ parallel_result
  parallel_is (Ok g) is =
      ap Ok is.3 ∙ where_few paired.over limit (Ok paired) (Err compose.Wide) (subst (λ (h : GridTree). h.over ≤ limit) is.3 is.2)
      ∙ where_few (cells_of c d) 4000000 parallel_few parallel_many is.1 ∙ parallel_same is.0
  parallel_is (Err compose.Targets) is = where_targets (Err compose.Targets) (Err compose.Rows) parallel_alike is standing
  parallel_is (Err compose.Rows) is = where_rows (Err compose.Targets) (Err compose.Rows) parallel_alike is standing
  parallel_is (Err (compose.Cells count)) is =
      ap (λ n. Err (compose.Cells n)) is.2 ∙ where_many (cells_of c d) 4000000 parallel_few parallel_many is.1 ∙ parallel_same is.0
  parallel_is (Err compose.Wide) is =
      where_many paired.over limit (Ok paired) (Err compose.Wide) is.2 ∙ where_few (cells_of c d) 4000000 parallel_few parallel_many is.1 ∙ parallel_same is.0
  parallel_is (Err e) is = absurd is

  some_parallel : ParallelCase c d parallel_result
  some_parallel =
      each_standing (Err compose.Targets) (Err compose.Rows) parallel_alike (ParallelCase c d) (λ differ. differ) (λ other. other)
      (λ alike. either_bound (cells_of c d) 4000000 parallel_few parallel_many (ParallelCase c d)
      (λ few. either_bound paired.over limit (Ok paired) (Err compose.Wide) (ParallelCase c d) (λ narrow. (alike, few, narrow, refl)) (λ wide. (alike, few, wide)))
      (λ many. (alike, many, refl)))
      standing

  -- ---- one or the other

  module _ (num den : ℕ) where
    abbrev chosen : GridTree
    chosen = choice_grid num den (channel_grid c) (channel_grid d)

    abbrev choice_alike : Result GridTree ComposeFault
    choice_alike = bounded chosen.over limit (Ok chosen) (Err compose.Wide)

    abbrev choice_result : Result GridTree ComposeFault
    choice_result = by_standing (Err compose.Targets) (Err compose.Rows) choice_alike standing

    choice_same : HaveSameRows c d → choice_alike ≡ choice_result
    choice_same alike = where_same (Err compose.Targets) (Err compose.Rows) choice_alike alike standing

    choice_is : (r : Result GridTree ComposeFault) → ChoiceCase num den c d r → r ≡ choice_result
    choice_is (Ok g) is =
        ap Ok is.2 ∙ where_few chosen.over limit (Ok chosen) (Err compose.Wide) (subst (λ (h : GridTree). h.over ≤ limit) is.2 is.1) ∙ choice_same is.0
    choice_is (Err compose.Targets) is = where_targets (Err compose.Targets) (Err compose.Rows) choice_alike is standing
    choice_is (Err compose.Rows) is = where_rows (Err compose.Targets) (Err compose.Rows) choice_alike is standing
    choice_is (Err compose.Wide) is = where_many chosen.over limit (Ok chosen) (Err compose.Wide) is.1 ∙ choice_same is.0
    choice_is (Err e) is = absurd is

    some_choice : ChoiceCase num den c d choice_result
    some_choice =
        each_standing (Err compose.Targets) (Err compose.Rows) choice_alike (ChoiceCase num den c d) (λ differ. differ) (λ other. other)
        (λ alike. either_bound chosen.over limit (Ok chosen) (Err compose.Wide) (ChoiceCase num den c d) (λ narrow. (alike, narrow, refl)) (λ wide. (alike, wide)))
        standing

-- ---- in each way

-- two results are the same where both are told of one
same_told : {R : Type 0} (told : R → Result GridTree Refused) (only a b : R) (r s : Result GridTree Refused) → a ≡ only → b ≡ only → r ≡ told a → s ≡ told b → r ≡ s
same_told told only a b r s p q x y = x ∙ ap told (p ∙ sym q) ∙ sym y

pub one_composed : (way : Composition) (c d : ChannelTree) (r s : Result GridTree Refused) → Composed way c d r → Composed way c d s → r ≡ s
one_composed Cascade c d r s h k =
    same_told composed_grid (cascade_result c d) h.0 k.0 r s
    (cascade_is c d h.0 (cascade_case c d h.0 h.1)) (cascade_is c d k.0 (cascade_case c d k.0 k.1)) h.2 k.2
one_composed Parallel c d r s h k =
    same_told composed_grid (parallel_result c d) h.0 k.0 r s
    (parallel_is c d h.0 (parallel_case c d h.0 h.1)) (parallel_is c d k.0 (parallel_case c d k.0 k.1)) h.2 k.2
one_composed (Choice num den) c d r s h k =
    same_told composed_grid (choice_result c d num den) h.0 k.0 r s
    (choice_is c d num den h.0 (choice_case c d num den h.0 h.1)) (choice_is c d num den k.0 (choice_case c d num den k.0 k.1)) h.2 k.2

pub some_composed : (way : Composition) (c d : ChannelTree) → (r : Result GridTree Refused) × Composed way c d r
some_composed Cascade c d =
    (composed_grid (cascade_result c d), (cascade_result c d, cascade_told c d (cascade_result c d) (some_cascade c d), refl))
some_composed Parallel c d =
    (composed_grid (parallel_result c d), (parallel_result c d, parallel_told c d (parallel_result c d) (some_parallel c d), refl))
some_composed (Choice num den) c d = (
  composed_grid (choice_result c d num den),
  (choice_result c d num den, choice_told c d num den (choice_result c d num den) (some_choice c d num den), refl),
)
