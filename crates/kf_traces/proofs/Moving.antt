-- Shares of a store that are moved one after the other to where an assignment leads.
use Rattle.std.proofs.Common.{◌≡◌, ℕ, ◌+◌, ◌*◌, ◌^◌, ◌≤◌, ◌<◌, List, [], ◌∷◌, Option, Some, None, refl, sym, ap, subst, ◌∙◌, arith}
use Rattle.std.specs.List.{All}
use Rattle.std.proofs.Math.Nat.{mul-add, mul-zero}
use Rattle.std.proofs.lemmas.List.Elements.{All-from_recursion, recursion_from_All}
use Rattle.std.proofs.lemmas.List.Sums.{sum_by-cons}
use Rattle.kf_value.specs.Types.{TypeTree}
use Rattle.kf_core.specs.Choices.{Weighted, total}
use Rattle.kf_core.specs.Runs.{replaced}
use Rattle.kf_core.proofs.Measures.{Measure}
use Rattle.kf_traces.specs.Laws.{sum_of}
use Rattle.kf_traces.specs.Traced.{Weights, with_weight, with_move, with_moves}
use Rattle.kf_traces.proofs.Locating.{weight_sum}
use Rattle.kf_traces.proofs.Measures.{grown}

-- all stores are below the number of all that there are
abbrev pub AllBelow : ℕ → Weights → Type 0
AllBelow size es = All (λ e. e.0 < size) es

-- stores below the number of all, as a measure
abbrev under : ℕ → Measure
under size = record { holds = λ n w. n < size; value = λ n w. 0; closed = λ n a b h k. h; linear = λ n a b h k. refl }

-- weight on a store below the number of all keeps all stores below it
pub weight_below : (size n w : ℕ) (es : Weights) → n < size → AllBelow size es → AllBelow size (with_weight es n w)
weight_below size n w es below h =
    All-from_recursion (λ (e : ℕ × ℕ). e.0 < size) (with_weight es n w) (grown (under size) n w below es (recursion_from_All (λ (e : ℕ × ℕ). e.0 < size) es h)).0

-- the shares of all choices are that of the first and those of the others
pub shares_first : (share : ℕ) (c : Weighted) (cs : List Weighted) → share * total (c ∷ cs) ≡ share * c.weight + share * total cs
shares_first share c cs = ap (λ m. share * m) (sum_by-cons (λ (u : Weighted). u.weight) c cs) ∙ mul-add share c.weight (total cs)

-- a share that is moved, or goes nowhere, adds no more than itself
move_sum : (es : Weights) (x : Option ℕ) (w : ℕ) → sum_of (with_move es x w) ≤ sum_of es + w
move_sum es (Some n) w = omega (arith, weight_sum n w es)
move_sum es None w = omega arith

module _ (ts : List TypeTree) (i n share : ℕ) where
  -- all shares that are moved add no more than themselves
  pub moves_sum : (es : Weights) (cs : List Weighted) → sum_of (with_moves ts i n es share cs) ≤ sum_of es + share * total cs
  moves_sum es [] = omega (arith, mul-zero share)
  moves_sum es (c ∷ cs) =
      let x = replaced ts i c.value n in
      let one = move_sum es x (share * c.weight) in
      let others = moves_sum (with_move es x (share * c.weight)) cs in
      omega (arith, one, others, shares_first share c cs)

  -- the shares of these choices are left to move
  pub record MovesOn (size : ℕ) (left : List Weighted) (whole now : Weights) : Type 0 where
    pub same : with_moves ts i n now share left ≡ whole
    pub below : AllBelow size now
    pub within : sum_of now + share * total left < 2 ^ 127

  module _ (size : ℕ) (left rest : List Weighted) (c : Weighted) (whole now : Weights) (next : left ≡ c ∷ rest) (had : MovesOn size left whole now) where
    -- the sum, with the first share apart
    opened : sum_of now + (share * c.weight + share * total rest) < 2 ^ 127
    opened =
        let sum : share * total left ≡ share * c.weight + share * total rest = ap (λ cs. share * total cs) next ∙ shares_first share c rest in
        omega (arith, had.within, sum)

    -- there is room for the first share
    pub move_room : sum_of now + share * c.weight < 2 ^ 127
    move_room = omega (arith, opened)

    -- the definition, with the first share moved
    moved_first : with_moves ts i n (with_move now (replaced ts i c.value n) (share * c.weight)) share rest ≡ whole
    moved_first = ap (with_moves ts i n now share) (sym next) ∙ had.same

    -- the first share is moved to a store
    pub moves_step : (m : ℕ) (after : Weights) → Some m ≡ replaced ts i c.value n → m < size → after ≡ with_weight now m (share * c.weight) → MovesOn size rest whole after
    moves_step m after is below made = record {
      same = ap (λ es. with_moves ts i n es share rest) (made ∙ ap (λ x. with_move now x (share * c.weight)) is) ∙ moved_first;
      below = subst (AllBelow size) (sym made) (weight_below size m (share * c.weight) now below had.below);
      within =
          let sum : sum_of after ≡ sum_of now + share * c.weight = ap sum_of made ∙ weight_sum m (share * c.weight) now in
          omega (arith, sum, opened);
    }

    -- the first share leads nowhere
    pub moves_past : None ≡ replaced ts i c.value n → MovesOn size rest whole now
    moves_past is = record {
      same = ap (λ x. with_moves ts i n (with_move now x (share * c.weight)) share rest) is ∙ moved_first;
      below = had.below;
      within = omega (arith, opened);
    }
