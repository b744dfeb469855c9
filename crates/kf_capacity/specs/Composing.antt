-- For bodies: what composed columns are made of, and what the faults of calls are.
use Rattle.std.specs.Prelude.{◌≡◌, ℕ, ◌*◌, ◌≤◌, List, All, map, flat_map, None, Some}
use Rattle.std.specs.List.{zip}
use Rattle.std.specs.declared.option.Option.{Option}
use Rattle.kf_frac.specs.Fractions.{limit}
use Rattle.kf_capacity.specs.declared.error.GridFault.{GridFault}
use Rattle.kf_capacity.specs.declared.error.GridFault.TheVariants as fault
use Rattle.kf_capacity.specs.declared.error.CascadeFault.{CascadeFault}
use Rattle.kf_capacity.specs.declared.error.CascadeFault.TheVariants as cascade
use Rattle.kf_capacity.specs.declared.error.ChoiceFault.{ChoiceFault}
use Rattle.kf_capacity.specs.declared.error.ChoiceFault.TheVariants as choice
use Rattle.kf_capacity.specs.declared.error.ParallelFault.{ParallelFault}
use Rattle.kf_capacity.specs.declared.error.ParallelFault.TheVariants as parallel
use Rattle.kf_capacity.specs.Compositions.{ComposeFault, Fit, Targets, Rows, Cells, Wide}

-- the products of two columns, row by row
abbrev pub products : List ℕ → List ℕ → List ℕ
products ms ns = map (λ p. p.0 * p.1) (zip ms ns)

-- each number of the first, times each of the second, is within the limit
abbrev pub ProductsFit : List ℕ → List ℕ → Type 0
ProductsFit ms ns = All (λ m. All (λ n. m * n ≤ limit) ns) ms

-- each number, times the factor, is within the limit
abbrev pub TimesFit : ℕ → List ℕ → Type 0
TimesFit factor ns = All (λ n. n * factor ≤ limit) ns

-- the columns that are listed, or the products of each of them with each of others
abbrev pub columns_with : List (List ℕ) → Option (List (List ℕ)) → List (List ℕ)
columns_with columns None = columns
columns_with columns (Some others) = flat_map (λ column. map (products column) others) columns

-- what a fault of a grid is side by side with another
abbrev pub BecomesParallel : GridFault → ParallelFault → Type 0
BecomesParallel fault.Wide e = e ≡ parallel.Wide
BecomesParallel fault.Mem e = e ≡ parallel.Mem

-- what it is in front of another, or behind it
abbrev pub BecomesCascade : GridFault → CascadeFault → Type 0
BecomesCascade fault.Wide e = e ≡ cascade.Wide
BecomesCascade fault.Mem e = e ≡ cascade.Mem

-- what it is in a choice
abbrev pub BecomesChoice : GridFault → ChoiceFault → Type 0
BecomesChoice fault.Wide e = e ≡ choice.Wide
BecomesChoice fault.Mem e = e ≡ choice.Mem

-- what the faults of each call are; want of memory is none, and where it stands nothing is said
abbrev pub cascade_fault : CascadeFault → ComposeFault
cascade_fault cascade.Fit = Fit
cascade_fault cascade.Wide = Wide
cascade_fault cascade.Mem = Wide

abbrev pub parallel_fault : ParallelFault → ComposeFault
parallel_fault parallel.Targets = Targets
parallel_fault parallel.Rows = Rows
parallel_fault (parallel.Cells count) = Cells count
parallel_fault parallel.Wide = Wide
parallel_fault parallel.Mem = Wide

abbrev pub choice_fault : ChoiceFault → ComposeFault
choice_fault choice.Targets = Targets
choice_fault choice.Rows = Rows
choice_fault choice.Wide = Wide
choice_fault choice.Mem = Wide
