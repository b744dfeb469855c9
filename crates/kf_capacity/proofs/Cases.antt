-- What is composed of two channels, by rules one after the other, is the same as by each answer.
use Rattle.std.proofs.Common.{◌≡◌, ℕ, ◌<◌, ◌≤◌, Result, Ok, Err, inl, inr, refl, sym, ap, ◌∙◌, subst, arith, true≢false, ⊎_elim}
use Rattle.std.proofs.lemmas.Bool.{false_from_ne_true, cases_lt}
use Rattle.kf_frac.specs.Fractions.{limit}
use Rattle.kf_capacity.specs.Grids.{ChannelTree, GridTree}
use Rattle.kf_capacity.specs.Cases.{CascadeCase, ChoiceCase, ParallelCase}
use Rattle.kf_capacity.specs.Compositions.{ComposeFault, Fit, Targets, Rows, Cells, Wide, IsCascade, IsParallel, IsChoice, cells_of, fits}

past : (m n : ℕ) → (n ≤ m → ⊥) → m < n
past m n no' = ⊎_elim (λ (less : m < n). less) (λ (small : n ≤ m). absurd (no' small)) (cases_lt m n)

within : (g h : GridTree) → h ≡ g → h.over ≤ limit → g.over ≤ limit
within g h is small = subst (λ (k : GridTree). k.over ≤ limit) is small

module _ (c d : ChannelTree) where
  pub cascade_case : (r : Result GridTree ComposeFault) → IsCascade c d r → CascadeCase c d r
  cascade_case r (inl (other, is)) = subst (CascadeCase c d) (sym is) (false_from_ne_true (fits c d) other)
  cascade_case r (inr (fit, inl (wide, is))) = subst (CascadeCase c d) (sym is) (fit, past limit _ wide)
  cascade_case r (inr (fit, inr (small, is))) = subst (CascadeCase c d) (sym is) (fit, small, refl)

  pub cascade_told : (r : Result GridTree ComposeFault) → CascadeCase c d r → IsCascade c d r
  cascade_told (Ok g) is = inr (is.0, inr (within _ g is.2 is.1, ap Ok is.2))
  cascade_told (Err Fit) is = inl (λ fit. true≢false (sym fit ∙ is), refl)
  cascade_told (Err Wide) is = inr (is.0, inl (λ small. let wide = is.1 in omega (arith, small, wide), refl))
  cascade_told (Err f) is = absurd is

  pub parallel_case : (r : Result GridTree ComposeFault) → IsParallel c d r → ParallelCase c d r
  parallel_case r (inl (other, is)) = subst (ParallelCase c d) (sym is) other
  parallel_case r (inr (targets, inl (other, is))) = subst (ParallelCase c d) (sym is) (record { targets = targets; secrets = other })
  parallel_case r (inr (targets, inr (secrets, inl (many, is)))) =
      subst (ParallelCase c d) (sym is) (record { targets = targets; secrets = secrets }, past 4000000 (cells_of c d) many, refl)
  parallel_case r (inr (targets, inr (secrets, inr (few, inl (wide, is))))) =
      subst (ParallelCase c d) (sym is) (record { targets = targets; secrets = secrets }, few, past limit _ wide)
  parallel_case r (inr (targets, inr (secrets, inr (few, inr (small, is))))) =
      subst (ParallelCase c d) (sym is) (record { targets = targets; secrets = secrets }, few, small, refl)

  pub parallel_told : (r : Result GridTree ComposeFault) → ParallelCase c d r → IsParallel c d r
  parallel_told (Ok g) is = inr (is.0.targets, inr (is.0.secrets, inr (is.1, inr (within _ g is.3 is.2, ap Ok is.3))))
  parallel_told (Err Targets) is = inl (is, refl)
  parallel_told (Err Rows) is = inr (is.targets, inl (is.secrets, refl))
  parallel_told (Err (Cells count)) is =
      inr (is.0.targets, inr (is.0.secrets, inl (λ few. let many = is.1 in omega (arith, few, many), ap (λ n. Err (Cells n)) is.2)))
  parallel_told (Err Wide) is =
      inr (is.0.targets, inr (is.0.secrets, inr (is.1, inl (λ small. let wide = is.2 in omega (arith, small, wide), refl))))
  parallel_told (Err f) is = absurd is

  module _ (num den : ℕ) where
    pub choice_case : (r : Result GridTree ComposeFault) → IsChoice num den c d r → ChoiceCase num den c d r
    choice_case r (inl (other, is)) = subst (ChoiceCase num den c d) (sym is) other
    choice_case r (inr (targets, inl (other, is))) = subst (ChoiceCase num den c d) (sym is) (record { targets = targets; secrets = other })
    choice_case r (inr (targets, inr (secrets, inl (wide, is)))) =
        subst (ChoiceCase num den c d) (sym is) (record { targets = targets; secrets = secrets }, past limit _ wide)
    choice_case r (inr (targets, inr (secrets, inr (small, is)))) =
        subst (ChoiceCase num den c d) (sym is) (record { targets = targets; secrets = secrets }, small, refl)

    pub choice_told : (r : Result GridTree ComposeFault) → ChoiceCase num den c d r → IsChoice num den c d r
    choice_told (Ok g) is = inr (is.0.targets, inr (is.0.secrets, inr (within _ g is.2 is.1, ap Ok is.2)))
    choice_told (Err Targets) is = inl (is, refl)
    choice_told (Err Rows) is = inr (is.targets, inl (is.secrets, refl))
    choice_told (Err Wide) is = inr (is.0.targets, inr (is.0.secrets, inl (λ small. let wide = is.1 in omega (arith, small, wide), refl)))
    choice_told (Err f) is = absurd is
