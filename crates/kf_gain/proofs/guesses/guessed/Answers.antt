use Rattle.std.proofs.Common.{◌≡◌, ℕ, ◌+◌, ◌*◌, ◌<◌, ◌≤◌, ◌^◌, List, ap, sym, ◌∙◌, subst, arith, map, pos, length, get_or}
use Rattle.std.specs.Prelude.{IsPermutation}
use Rattle.kf_column.specs.declared.entry.Entry.{Entry}
use Rattle.kf_column.specs.Columns.{total, weight_at, values}
use Rattle.kf_column.proofs.Weights.{above_column}
use Rattle.kf_gain.specs.Gains.{Guessing}
use Rattle.kf_gain.specs.Worth.{IsVulnerability}
use Rattle.kf_gain.proofs.Falling.{all, falls, costs}
use Rattle.kf_gain.proofs.Guessing.{costs_fit, next_guess, all_guessed, guesses_are, weights_are}
use Rattle.kf_gain.proofs.guesses.guessed.Goals.{In-loop-i}
use Rattle.kf_gain.proofs.guesses.guessed.Goals as goal

-- a guess in its turn fits
fits : (c : In-loop-i) → c.loop-i.cost + get_or c.as_slice-weights.result.now c.loop-i.i 0 * (c.loop-i.i + 1) < 2 ^ 128
fits c =
    let ws : List ℕ = c.as_slice-weights.result.now in
    let next = next_guess c.loop-i.i c.loop-i.cost ws c.loop-i-test.true c.loop-i.invariant in
    let all : costs 1 ws ≤ total c.args.entries.now * length c.args.entries.now =
    costs_fit c.args.entries.now ws (subst (λ (l : List ℕ). IsPermutation (map (λ (e : Entry). e.weight) c.args.entries.now) l) (sym c.as_slice-weights.ensures.value) c.in_ok-weights.ensures.permutation) in
    omega (arith, next.0, all, c.requires.fits)

pub overflow_mul-cost : goal.overflow_mul-cost
overflow_mul-cost c = omega (arith, fits (goal.at.overflow_mul-cost c).In-loop-i)

pub overflow_add-cost-in-loop-i : goal.overflow_add-cost-in-loop-i
overflow_add-cost-in-loop-i c = omega (arith, fits (goal.at.overflow_add-cost-in-loop-i c).In-loop-i)

pub loop-i-preserved : goal.loop-i-preserved
loop-i-preserved c = (next_guess c.loop-i.i c.loop-i.cost c.as_slice-weights.result.now c.loop-i-test.true c.loop-i.invariant).1

pub returns : goal.returns
returns c =
    let ws : List ℕ = c.as_slice-weights.result.now in
    let zs : List ℕ = c.in_ok-weights.weights.items in
    let entries : List Entry = c.args.entries.now in
    let is : c.loop-i.cost ≡ costs 1 zs = all_guessed c.loop-i.i c.loop-i.cost ws c.loop-i-test.false c.loop-i.invariant ∙ ap (λ (l : List ℕ). costs 1 l) c.as_slice-weights.ensures.value in
    let moved : IsPermutation (map (weight_at entries) (values entries)) zs =
    subst (λ (l : List ℕ). IsPermutation l zs) (sym (weights_are 0 entries (above_column entries c.requires.column))) c.in_ok-weights.ensures.permutation in
    subst (λ (n : ℕ). IsVulnerability Guessing entries (pos n)) (sym is) (guesses_are entries (all zs) zs moved (falls zs c.in_ok-weights.ensures.falling))
