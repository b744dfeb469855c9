use Rattle.std.proofs.Common.{◌≡◌, ℕ, List, ap, sym, ◌∙◌, subst, arith, map, pos}
use Rattle.std.proofs.lemmas.List.Sorted.{sum_by-IsPermutation}
use Rattle.kf_column.specs.declared.entry.Entry.{Entry}
use Rattle.kf_column.specs.Columns.{total}
use Rattle.kf_column.proofs.Weights.{above_column}
use Rattle.kf_hyper.proofs.Averaging.{sum-mapped}
use Rattle.kf_gain.specs.Gains.{Tries}
use Rattle.kf_gain.specs.Worth.{IsVulnerability}
use Rattle.kf_gain.proofs.Falling.{all, falls, front, front_taken, front_less}
use Rattle.kf_gain.proofs.Trying.{tries_are}
use Rattle.kf_gain.proofs.guesses.tried.Goals as goal

pub sum-requires : goal.sum-requires
sum-requires c =
    let zs : List ℕ = c.in_ok-weights.weights.items in
    let weight : Entry → ℕ = λ (e : Entry). e.weight in
    let whole : all zs ≡ total c.args.entries.now = sum_by-IsPermutation (λ (n : ℕ). n) (map weight c.args.entries.now) zs c.in_ok-weights.ensures.permutation ∙ sum-mapped weight (λ (n : ℕ). n) c.args.entries.now in
    let taken = c.as_slice.ensures.value ∙ c.truncate.ensures.items in
    omega (arith, ap (λ (l : List ℕ). all l) taken, front_taken c.args.count zs, front_less c.args.count zs, whole, c.requires.fits)

pub returns : goal.returns
returns c =
    let zs : List ℕ = c.in_ok-weights.weights.items in
    let taken = c.as_slice.ensures.value ∙ c.truncate.ensures.items in
    let is : c.sum.result ≡ front c.args.count zs = c.sum.ensures ∙ ap (λ (l : List ℕ). all l) taken ∙ front_taken c.args.count zs in
    subst (λ (n : ℕ). IsVulnerability (Tries c.args.count) c.args.entries.now (pos n)) (sym is)
    (tries_are c.args.count (all zs) c.args.entries.now zs (above_column c.args.entries.now c.requires.column) c.in_ok-weights.ensures.permutation (falls zs c.in_ok-weights.ensures.falling))
