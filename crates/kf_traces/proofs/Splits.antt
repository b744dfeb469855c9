-- Shares that are added to parts one after the other, and stores that are split so.
use Rattle.std.proofs.Common.{◌≡◌, ℕ, ◌+◌, ◌*◌, ◌/◌, ◌^◌, ◌≤◌, ◌<◌, List, [], ◌∷◌, Option, Some, None, Ok, Err, refl, sym, ap, subst, ◌∙◌, arith}
use Rattle.std.specs.List.{All, AllByRecursion as Each}
use Rattle.std.proofs.Math.Nat.{div-mul-le_self, mul-zero}
use Rattle.std.proofs.lemmas.List.Elements.{All-head, All-tail, All-from_recursion, recursion_from_All}
use Rattle.std.proofs.lemmas.List.Sums.{sum_by-cons}
use Rattle.kf_value.specs.Values.{ValueTree}
use Rattle.kf_value.proofs.ListLemmas.{each_weaker}
use Rattle.kf_core.specs.Choices.{Weighted, total}
use Rattle.kf_core.specs.Runs.{Halted, Tried}
use Rattle.kf_core.proofs.Measures.{Measure}
use Rattle.kf_traces.specs.Laws.{sum_of}
use Rattle.kf_traces.specs.Traced.{Weights, Lead, Part, with_part, with_share, with_shares, parted, split}
use Rattle.kf_traces.specs.Views.{parts_sum, PartsAscend, PartsBelow}
use Rattle.kf_traces.proofs.Locating.{part_sum}
use Rattle.kf_traces.proofs.Splitting.{part_joined}
use Rattle.kf_traces.proofs.Ordering.{part_ascends, shares_ascend}
use Rattle.kf_traces.proofs.Moving.{shares_first}

-- ---- parts with more weight

-- stores below the number of all, as a measure of each part
abbrev low : ℕ → ValueTree → Measure
low size v = record { holds = λ n w. n < size; value = λ n w. 0; closed = λ n a b h k. h; linear = λ n a b h k. refl }

abbrev PartsLow : ℕ → List Part → Type 0
PartsLow size ps = Each (λ p. Each (λ e. e.0 < size) p.stores) ps

module _ (size : ℕ) where
  abbrev StoresBelow : Part → Type 0
  StoresBelow p = All (λ e. e.0 < size) p.stores

  abbrev StoresLow : Part → Type 0
  StoresLow p = Each (λ e. e.0 < size) p.stores

  all_low : (ps : List Part) → PartsLow size ps → PartsBelow size ps
  all_low ps h = All-from_recursion StoresBelow ps (each_weaker StoresLow StoresBelow (λ p k. All-from_recursion (λ (e : ℕ × ℕ). e.0 < size) p.stores k) ps h)

  low_all : (ps : List Part) → PartsBelow size ps → PartsLow size ps
  low_all ps h = each_weaker StoresBelow StoresLow (λ p k. recursion_from_All (λ (e : ℕ × ℕ). e.0 < size) p.stores k) ps (recursion_from_All StoresBelow ps h)

  -- weight on a store below the number of all keeps all stores of the parts below it
  part_below : (v : ValueTree) (n w : ℕ) (ps : List Part) → n < size → PartsBelow size ps → PartsBelow size (with_part ps v n w)
  part_below v n w ps below h = all_low (with_part ps v n w) (part_joined (low size) v n w below ps (low_all ps h)).0

-- a share adds no more than itself
share_sum : (ps : List Part) (v : ValueTree) (x : Option ℕ) (w : ℕ) → parts_sum (with_share ps v x w) ≤ parts_sum ps + w
share_sum ps v (Some n) w = omega (arith, part_sum v n w ps)
share_sum ps v None w = omega arith

-- ---- choices whose shares are left

module _ (go : Lead) (n share : ℕ) where
  -- all shares add no more than themselves
  shares_sum : (ps : List Part) (cs : List Weighted) → parts_sum (with_shares go ps n share cs) ≤ parts_sum ps + share * total cs
  shares_sum ps [] = omega (arith, mul-zero share)
  shares_sum ps (c ∷ cs) =
      let x = go n c.value in
      let one = share_sum ps c.value x (share * c.weight) in
      let others = shares_sum (with_share ps c.value x (share * c.weight)) cs in
      omega (arith, one, others, shares_first share c cs)

  -- the shares of these choices are left
  pub record SharesOn (size : ℕ) (left : List Weighted) (whole now : List Part) : Type 0 where
    pub same : with_shares go now n share left ≡ whole
    pub ascending : PartsAscend now
    pub below : PartsBelow size now
    pub within : parts_sum now + share * total left < 2 ^ 127

  module _ (size : ℕ) (left rest : List Weighted) (c : Weighted) (whole now : List Part) (next : left ≡ c ∷ rest) (had : SharesOn size left whole now) where
    -- the sum, with the first share apart
    opened : parts_sum now + (share * c.weight + share * total rest) < 2 ^ 127
    opened =
        let sum : share * total left ≡ share * c.weight + share * total rest = ap (λ cs. share * total cs) next ∙ shares_first share c rest in
        omega (arith, had.within, sum)

    -- there is room for the first share
    pub share_room : parts_sum now + share * c.weight < 2 ^ 127
    share_room = omega (arith, opened)

    -- the definition, with the first share added
    shared_first : with_shares go (with_share now c.value (go n c.value) (share * c.weight)) n share rest ≡ whole
    shared_first = ap (with_shares go now n share) (sym next) ∙ had.same

    -- the first share goes to a store
    pub shares_step : (m : ℕ) (after : List Part) → Some m ≡ go n c.value → m < size → after ≡ with_part now c.value m (share * c.weight) → SharesOn size rest whole after
    shares_step m after is below made = record {
      same = ap (λ ps. with_shares go ps n share rest) (made ∙ ap (λ x. with_share now c.value x (share * c.weight)) is) ∙ shared_first;
      ascending = subst PartsAscend (sym made) (part_ascends c.value m (share * c.weight) now had.ascending);
      below = subst (PartsBelow size) (sym made) (part_below size c.value m (share * c.weight) now below had.below);
      within =
          let sum : parts_sum after ≡ parts_sum now + share * c.weight = ap parts_sum made ∙ part_sum c.value m (share * c.weight) now in
          omega (arith, sum, opened);
    }

    -- the first share leads nowhere
    pub shares_past : None ≡ go n c.value → SharesOn size rest whole now
    shares_past is = record {
      same = ap (λ x. with_shares go (with_share now c.value x (share * c.weight)) n share rest) is ∙ shared_first;
      ascending = had.ascending;
      below = had.below;
      within = omega (arith, opened);
    }

-- ---- stores that are left to split

each_small : (bound : ℕ) (ps : List Part) → parts_sum ps < bound → Each (λ p. sum_of p.stores < bound) ps
each_small bound [] h = tt
each_small bound (p ∷ ps) h =
    let sum = sum_by-cons (λ (p : Part). sum_of p.stores) p ps in
    (omega (arith, h, sum), each_small bound ps (omega (arith, h, sum)))

pub all_small : (left : ℕ) (ps : List Part) → parts_sum ps + left < 2 ^ 127 → All (λ p. sum_of p.stores < 2 ^ 127) ps
all_small left ps h = All-from_recursion (λ (p : Part). sum_of p.stores < 2 ^ 127) ps (each_small (2 ^ 127) ps (omega (arith, h)))

pub record SplitsOn (go : Lead) (tries : ℕ → Tried) (size : ℕ) (left : Weights) (whole now : List Part) : Type 0 where
  pub same : split go tries now left ≡ whole
  pub ascending : PartsAscend now
  pub within : parts_sum now + sum_of left < 2 ^ 127
  pub below : All (λ e. e.0 < size) left
  pub held : PartsBelow size now

-- at the start there is no part
pub split_start : (go : Lead) (tries : ℕ → Tried) (size : ℕ) (left all : Weights) (now : List Part) → now ≡ [] → left ≡ all → sum_of all < 2 ^ 127 → All (λ e. e.0 < size) all
    → SplitsOn go tries size left (split go tries [] all) now
split_start go tries size left all now none is within below =
    rw (none, is) (record { same = refl; ascending = tt; within = omega (arith, within); below = below; held = All-from_recursion (StoresBelow size) [] tt })

module _ (go : Lead) (tries : ℕ → Tried) (size : ℕ) (left es : Weights) (e : ℕ × ℕ) (whole now : List Part) (next : left ≡ e ∷ es) (had : SplitsOn go tries size left whole now) where
  -- the first store is one of all that there are
  pub split_here : e.0 < size
  split_here = All-head (λ (e : ℕ × ℕ). e.0 < size) e es (subst (All (λ (e : ℕ × ℕ). e.0 < size)) next had.below)

  rest_below : All (λ e. e.0 < size) es
  rest_below = All-tail (λ (e : ℕ × ℕ). e.0 < size) e es (subst (All (λ (e : ℕ × ℕ). e.0 < size)) next had.below)

  all_within : parts_sum now + (e.1 + sum_of es) < 2 ^ 127
  all_within =
      let sum : sum_of left ≡ e.1 + sum_of es = ap sum_of next ∙ sum_by-cons (λ (e : ℕ × ℕ). e.1) e es in
      omega (arith, had.within, sum)

  first_split : split go tries (parted go now e.0 e.1 (tries e.0)) es ≡ whole
  first_split = ap (split go tries now) (sym next) ∙ had.same

  module _ (ws : List Weighted) (k : ℕ) (is : tries e.0 ≡ Ok ws) (sum : k ≡ total ws) where
    share_small : e.1 / k * total ws ≤ e.1
    share_small = subst (λ (m : ℕ). e.1 / k * m ≤ e.1) sum (div-mul-le_self e.1 k)

    -- there is room for the first store's shares
    pub split_room : parts_sum now + e.1 / k * total ws < 2 ^ 127
    split_room = omega (arith, share_small, all_within)

    pub split_more : (after : List Part) → after ≡ with_shares go now e.0 (e.1 / k) ws → PartsBelow size after → SplitsOn go tries size es whole after
    split_more after made held = record {
      same = ap (λ ps. split go tries ps es) (made ∙ ap (λ m. with_shares go now e.0 (e.1 / m) ws) sum ∙ ap (parted go now e.0 e.1) (sym is)) ∙ first_split;
      ascending = subst PartsAscend (sym made) (shares_ascend go now e.0 (e.1 / k) ws had.ascending);
      within =
          let parts : parts_sum after ≡ parts_sum (with_shares go now e.0 (e.1 / k) ws) = ap parts_sum made in
          omega (arith, parts, shares_sum go e.0 (e.1 / k) now ws, share_small, all_within);
      below = rest_below;
      held = held;
    }

  pub split_past : (f : Halted) → tries e.0 ≡ Err f → SplitsOn go tries size es whole now
  split_past f is = record {
    same = ap (λ ps. split go tries ps es) (ap (parted go now e.0 e.1) (sym is)) ∙ first_split;
    ascending = had.ascending;
    within = omega (arith, all_within);
    below = rest_below;
    held = had.held;
  }
