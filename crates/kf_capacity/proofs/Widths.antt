-- Where one of two denominators is too wide, so is what is made of both.
use Rattle.std.proofs.Common.{◌≡◌, ◌≢◌, ℕ, ◌*◌, ◌<◌, ◌≤◌, Err, true, refl, arith, le_refl, List, [], ◌∷◌, length, ⊎_elim, ◌⊎◌}
use Rattle.std.proofs.Math.Nat.{mul-le-mul}
use Rattle.std.proofs.lemmas.Nat.Gcd.{le_of_dvd}
use Rattle.kf_frac.specs.Divisors.{lcm_of}
use Rattle.kf_frac.specs.Fractions.{limit}
use Rattle.kf_frac.proofs.CommonMultiples.{lcm_is}
use Rattle.kf_column.specs.declared.entry.Entry.{Entry}
use Rattle.kf_column.specs.Columns.{values}
use Rattle.kf_capacity.specs.declared.error.GridFault.{GridFault}
use Rattle.kf_capacity.specs.declared.error.GridFault.TheVariants as fault
use Rattle.kf_capacity.specs.declared.error.CascadeFault.{CascadeFault}
use Rattle.kf_capacity.specs.declared.error.CascadeFault.TheVariants as cascade
use Rattle.kf_capacity.specs.declared.error.ParallelFault.{ParallelFault}
use Rattle.kf_capacity.specs.declared.error.ParallelFault.TheVariants as parallel
use Rattle.kf_capacity.specs.declared.error.ChoiceFault.{ChoiceFault}
use Rattle.kf_capacity.specs.declared.error.ChoiceFault.TheVariants as choice
use Rattle.kf_capacity.specs.Composing.{BecomesParallel, BecomesCascade, BecomesChoice, cascade_fault, parallel_fault, choice_fault}
use Rattle.kf_capacity.specs.Compositions.{IsParallel, IsCascade, IsChoice, cells_of, fits}
use Rattle.kf_capacity.specs.Cases.{HaveSameRows}
use Rattle.kf_capacity.specs.Grids.{ChannelTree, denominator}
use Rattle.kf_capacity.proofs.Cases.{cascade_told, choice_told, parallel_told}

wide_times : (m n : ℕ) → limit < m → 0 < n → limit < m * n
wide_times m n wide some = let least : m * 1 ≤ m * n = mul-le-mul (omega arith) some in omega arith

-- a channel has secrets
pub some_values : (column : List Entry) → column ≢ [] → 0 < length (values column)
some_values [] some = absurd (some refl)
some_values (e ∷ es) some = omega arith

-- so there are no more pairs of columns than cells
pub pairs_few : (secrets m n : ℕ) → 0 < secrets → secrets * m * n ≤ 4000000 → m * n ≤ 4000000
pairs_few secrets m n some few = let least : 1 * (m * n) ≤ secrets * (m * n) = mul-le-mul (omega arith) (le_refl (m * n)) in omega (arith, few, least)

-- the first grid's fault, side by side
pub parallel_first : (c d : ChannelTree) (found : GridFault) (e : ParallelFault) → BecomesParallel found e → HaveSameRows c d → cells_of c d ≤ 4000000
    → (found ≡ fault.Wide → limit < denominator c) → 0 < denominator d → e ≢ parallel.Mem → IsParallel c d (Err (parallel_fault e))
parallel_first c d fault.Wide e is same few wide some other = parallel_told c d (Err (parallel_fault e)) (rw is (same, few, wide_times (denominator c) (denominator d) (wide refl) some))
parallel_first c d fault.Mem e is same few wide some other = absurd (other is)

-- the same in front of another channel
pub cascade_first : (c d : ChannelTree) (found : GridFault) (e : CascadeFault) → BecomesCascade found e → fits c d ≡ true
    → (found ≡ fault.Wide → limit < denominator c) → 0 < denominator d → e ≢ cascade.Mem → IsCascade c d (Err (cascade_fault e))
cascade_first c d fault.Wide e is fit wide some other = cascade_told c d (Err (cascade_fault e)) (rw is (fit, wide_times (denominator c) (denominator d) (wide refl) some))
cascade_first c d fault.Mem e is fit wide some other = absurd (other is)

-- both denominators are at most their least common multiple
below_lcm : (m n : ℕ) → 0 < m → 0 < n → (m ≤ lcm_of m n) × (n ≤ lcm_of m n)
below_lcm m n some other = let is = lcm_is m n some other in (le_of_dvd is.positive is.left, le_of_dvd is.positive is.right)

-- a grid's fault, in a choice
pub choice_fails : (num den : ℕ) (c d : ChannelTree) (found : GridFault) (e : ChoiceFault) → BecomesChoice found e → HaveSameRows c d → 0 < den
    → 0 < denominator c → 0 < denominator d → (found ≡ fault.Wide → (limit < denominator c) ⊎ (limit < denominator d)) → e ≢ choice.Mem
    → IsChoice num den c d (Err (choice_fault e))
choice_fails num den c d fault.Wide e is same some first second wide other =
    let below = below_lcm (denominator c) (denominator d) first second in
    let common : limit < lcm_of (denominator c) (denominator d) =
    ⊎_elim (λ (w : limit < denominator c). omega arith) (λ (w : limit < denominator d). omega arith) (wide refl) in
    choice_told c d num den (Err (choice_fault e)) (rw is (same, wide_times (lcm_of (denominator c) (denominator d)) den common some))
choice_fails num den c d fault.Mem e is same some first second wide other = absurd (other is)
