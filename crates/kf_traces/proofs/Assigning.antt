-- Stores that an assignment, or the carried copies, move one after the other.
use Rattle.std.proofs.Common.{◌≡◌, ℕ, ◌+◌, ◌*◌, ◌/◌, ◌^◌, ◌≤◌, ◌<◌, List, [], ◌∷◌, Ok, Err, refl, sym, ap, subst, ◌∙◌, arith}
use Rattle.std.proofs.Math.Nat.{div-mul-le_self}
use Rattle.std.proofs.lemmas.List.Elements.{All-head, All-nil, All-tail}
use Rattle.std.proofs.lemmas.List.Sums.{sum_by-cons}
use Rattle.kf_value.specs.Types.{TypeTree}
use Rattle.kf_core.specs.Choices.{Weighted, total}
use Rattle.kf_core.specs.Dxs.{DxTree}
use Rattle.kf_core.specs.Programs.{ProgramTree}
use Rattle.kf_core.specs.Runs.{Halted, tried, copied}
use Rattle.kf_traces.specs.Laws.{sum_of}
use Rattle.kf_traces.specs.Traced.{Weights, with_weight, with_moves, moved, assign_all, copy_all}
use Rattle.kf_traces.proofs.Locating.{weight_sum}
use Rattle.kf_traces.proofs.Moving.{AllBelow, weight_below, moves_sum}

-- these stores are left to move, beside what is reached
pub record GoesOn (go : Weights → Weights → Weights) (size : ℕ) (left whole now : Weights) : Type 0 where
  pub same : go now left ≡ whole
  pub held : AllBelow size now
  pub below : AllBelow size left
  pub within : sum_of now + sum_of left < 2 ^ 127

-- at the start nothing is reached
pub goes_start : (go : Weights → Weights → Weights) (size : ℕ) (left all now : Weights) → now ≡ [] → left ≡ all → AllBelow size all → sum_of all < 2 ^ 127 → GoesOn go size left (go [] all) now
goes_start go size left all now none is below within =
    rw (none, is) (record { same = refl; held = All-nil (λ (e : ℕ × ℕ). e.0 < size); below = below; within = omega (arith, within) })

module _ (go : Weights → Weights → Weights) (size : ℕ) (left es : Weights) (e : ℕ × ℕ) (whole now : Weights) (next : left ≡ e ∷ es) (had : GoesOn go size left whole now) where
  -- the sum, with the first weight apart
  first_within : sum_of now + (e.1 + sum_of es) < 2 ^ 127
  first_within =
      let sum : sum_of left ≡ e.1 + sum_of es = ap sum_of next ∙ sum_by-cons (λ (e : ℕ × ℕ). e.1) e es in
      omega (arith, had.within, sum)

  -- the first store is one of all that there are
  pub goes_here : e.0 < size
  goes_here = All-head (λ (e : ℕ × ℕ). e.0 < size) e es (subst (AllBelow size) next had.below)

  -- there is room for the first weight
  pub goes_room : sum_of now + e.1 < 2 ^ 127
  goes_room = omega (arith, first_within)

  -- the first store is moved
  goes_step : (after : Weights) → go after es ≡ go now (e ∷ es) → AllBelow size after → sum_of after ≤ sum_of now + e.1 → GoesOn go size es whole after
  goes_step after is held sum = record {
    same = is ∙ ap (go now) (sym next) ∙ had.same;
    held = held;
    below = All-tail (λ (e : ℕ × ℕ). e.0 < size) e es (subst (AllBelow size) next had.below);
    within = omega (arith, sum, first_within);
  }

-- ---- an assignment

-- the shares of a store are no more than its weight
shares_small : (w k : ℕ) (ws : List Weighted) → k ≡ total ws → w / k * total ws ≤ w
shares_small w k ws sum = subst (λ (m : ℕ). w / k * m ≤ w) sum (div-mul-le_self w k)

module _ (ts : List TypeTree) (i : ℕ) (d : DxTree) (size : ℕ) (left es : Weights) (e : ℕ × ℕ) (whole now : Weights) (next : left ≡ e ∷ es) (had : GoesOn (assign_all ts i d) size left whole now) where
  -- there is room for the first store's shares
  pub assign_room : (ws : List Weighted) (k : ℕ) → k ≡ total ws → sum_of now + e.1 / k * total ws < 2 ^ 127
  assign_room ws k sum = omega (arith, shares_small e.1 k ws sum, first_within (assign_all ts i d) size left es e whole now next had)

  -- the first store's shares are moved
  pub assign_more : (ws : List Weighted) (k : ℕ) (after : Weights) → tried ts d e.0 ≡ Ok ws → k ≡ total ws → after ≡ with_moves ts i e.0 now (e.1 / k) ws → AllBelow size after
      → GoesOn (assign_all ts i d) size es whole after
  assign_more ws k after is sum made held =
      goes_step (assign_all ts i d) size left es e whole now next had after
      (ap (λ ns. assign_all ts i d ns es) (made ∙ ap (λ m. with_moves ts i e.0 now (e.1 / m) ws) sum ∙ ap (moved ts i now e.0 e.1) (sym is))) held
      (let small = shares_small e.1 k ws sum in
      let moves = moves_sum ts i e.0 (e.1 / k) now ws in
      let same : sum_of after ≡ sum_of (with_moves ts i e.0 now (e.1 / k) ws) = ap sum_of made in
      omega (arith, small, moves, same))

  -- where there is a fault, the first store leads nowhere
  pub assign_past : (f : Halted) → tried ts d e.0 ≡ Err f → GoesOn (assign_all ts i d) size es whole now
  assign_past f is =
      goes_step (assign_all ts i d) size left es e whole now next had now (ap (λ ns. assign_all ts i d ns es) (ap (moved ts i now e.0 e.1) (sym is))) had.held (omega arith)

-- ---- carried copies

module _ (p : ProgramTree) (size : ℕ) (left es : Weights) (e : ℕ × ℕ) (whole now : Weights) (next : left ≡ e ∷ es) (had : GoesOn (copy_all p) size left whole now) where
  -- the first store's weight is moved to the store with the copies set
  pub copy_more : (m : ℕ) (after : Weights) → m ≡ copied p e.0 → m < size → after ≡ with_weight now m e.1 → GoesOn (copy_all p) size es whole after
  copy_more m after is below made =
      goes_step (copy_all p) size left es e whole now next had after (ap (λ ns. copy_all p ns es) (made ∙ ap (λ k. with_weight now k e.1) is))
      (subst (AllBelow size) (sym made) (weight_below size m e.1 now below had.held))
      (let same : sum_of after ≡ sum_of now + e.1 = ap sum_of made ∙ weight_sum m e.1 now in omega (arith, same))
