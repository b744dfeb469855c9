-- Capacities: which grids aren't too wide, and what the steps of their commands come to.
use Rattle.std.proofs.Common.{◌≡◌, ◌≢◌, ℕ, ◌<◌, ◌≤◌, ◌&&◌, All, Option, None, Some, IfSome, pos, nat_le, le-leb, codes, List, [], Bool, true, false, Result, Ok, Err, refl, sym, ◌∙◌, ap, subst, inl, inr, ⊎_elim, if◌then◌else◌}
use Rattle.std.proofs.lemmas.Bool.{cases_lt, lt-leb}
use Rattle.kf_frac.specs.Fractions.{limit}
use Rattle.kf_value.specs.Targets.{Item}
use Rattle.kf_frac.specs.declared.frac.Frac.{Frac}
use Rattle.kf_frac.specs.Parts.{IsFraction}
use Rattle.kf_column.specs.Columns.{IsColumn}
use Rattle.kf_column.specs.Hypers.{Inner}
use Rattle.kf_column.specs.Traces.{Row}
use Rattle.kf_capacity.specs.Beliefs.{IsWholeIn, belief_capacity}
use Rattle.kf_capacity.specs.Grids.{ChannelTree, GridTree, capacity_of, channel_grid}
use Rattle.kf_capacity.proofs.HyperCapacity.{capacity_narrow, over_narrow, same_capacity, values_are_secrets}
use Rattle.kf_capacity.specs.Compositions.{ComposeFault}
use Rattle.kf_channel.specs.Channels.{AreSecrets, all_initial}
use Rattle.kf_core.specs.Joint.{joint_of}
use Rattle.kf_core.specs.Programs.{ProgramTree}
use Rattle.kf_core.specs.Rows.{IsHyperOf}
use Rattle.kf_load.specs.Steps.{Refused, Step, After, Gives, refusal}
use Rattle.kf_text.specs.CapacityTexts.{algebra_text, capacity_text}
use Rattle.kf_top.specs.Answer.{Composed, ComposedIn, IsChannelTree, Shown, initial, is_narrow, prints, wide_channel, composed_grid}
use Rattle.kf_top.specs.Steps.{CapacityIn, algebra_shown}
use Rattle.kf_top.specs.CapacityViews.{CapacityAnswers, ChannelIn, narrow_grid}
use Rattle.kf_top.specs.Stops.{Answers, Stopped}
use Rattle.kf_top.specs.Views.{shown}
use Rattle.kf_top.specs.declared.refusal.Done.{Done}
use Rattle.kf_top.specs.declared.refusal.Stop.{Stop}
use Rattle.kf_top.specs.declared.refusal.Stop.TheVariants as stop
use Rattle.kf_words.specs.Task.{Composition}
use Rattle.kf_top.proofs.Steps.{either_way}

-- ---- channels

abbrev not_initial : Refused
not_initial = refusal 10 [] (codes "target is not initial")

-- a program whose target is read before the statements has a channel
pub has_channel : (p : ProgramTree) (items : List Item) → items ≡ p.target → (all_initial items ≡ false → ⊥) → Ok p ≡ initial p
has_channel p items same not_false =
    ⊎_elim (λ (yes' : all_initial items ≡ true). ap (λ b. if b then Ok p else Err not_initial) (sym yes' ∙ ap all_initial same))
    (λ (no' : all_initial items ≡ false). absurd (not_false no')) (either_way (all_initial items))

pub no_channel : (p : ProgramTree) (items : List Item) → items ≡ p.target → all_initial items ≡ false → Err not_initial ≡ initial p
no_channel p items same no' = ap (λ b. if b then Ok p else Err not_initial) (sym no' ∙ ap all_initial same)

-- ---- widths

-- a grid whose two numbers fit is narrow
pub narrow_is : (g : GridTree) → g.over ≤ limit → capacity_of g ≤ limit → is_narrow g ≡ true
narrow_is g over capacity =
    let over_fits = le-leb g.over limit over in
    let capacity_fits = le-leb (capacity_of g) limit capacity in
    λ i. over_fits i && capacity_fits i

pub wide_over : (g : GridTree) → limit < g.over → Err wide_channel ≡ narrow_grid g
wide_over g over = ap (λ b. if b && nat_le (capacity_of g) limit then Ok g else Err wide_channel) (sym (lt-leb g.over limit over))

pub wide_capacity : (g : GridTree) → g.over ≤ limit → limit < capacity_of g → Err wide_channel ≡ narrow_grid g
wide_capacity g over capacity =
    let over_fits = sym (le-leb g.over limit over) in
    let too_wide = sym (lt-leb (capacity_of g) limit capacity) in
    λ i. if over_fits i && too_wide i then Ok g else Err wide_channel

-- where it isn't past the limit, a number fits
pub not_past : (n : ℕ) → (limit < n → ⊥) → n ≤ limit
not_past n not_wide = ⊎_elim (λ (wide : limit < n). absurd (not_wide wide)) (λ few. few) (cases_lt limit n)

-- what a test of a width tells where it fails
fails : (b : Bool) (g : GridTree) (r : Refused) → Err r ≡ (if b then Ok g else Err wide_channel) → (b ≡ false) × (r ≡ wide_channel)
fails true g r is = absurd (cc)
fails false g r is = (refl, (cc))

-- where a grid isn't narrow, nothing is printed of it
no_capacity : (g : GridTree) (r : Refused) → Err r ≡ narrow_grid g → Err r ≡ (if is_narrow g then prints (capacity_text g) else Err wide_channel)
no_capacity g r is =
    let wide = fails (is_narrow g) g r is in
    ap Err wide.1 ∙ ap (λ b. if b then prints (capacity_text g) else Err wide_channel) (sym wide.0)

-- ---- one channel

module _ (turns : ℕ) (p : ProgramTree) where
  -- what stops the channel stops what comes after it
  pub unread : (next : ProgramTree → Step Shown) (s : Stop) → Stopped s (ChannelIn turns p) → Stopped s (After (Gives (initial p)) next)
  unread next (stop.Refused r) h = inl h
  unread next stop.Mem h = tt

  module _ (c : ChannelTree) (its : ChannelIn turns p (Ok c)) where
    -- what stops the capacity
    pub capacity_stops : (s : Stop) → Stopped s (Gives (narrow_grid (channel_grid c))) → Stopped s (After (Gives (initial p)) (CapacityIn turns))
    capacity_stops (stop.Refused r) h = inr (p, its.0, (c, its.1, no_capacity (channel_grid c) _ h))
    capacity_stops stop.Mem h = tt

    pub capacity_prints : is_narrow (channel_grid c) ≡ true → (bytes : List ℕ) → bytes ≡ capacity_text (channel_grid c)
        → After (Gives (initial p)) (CapacityIn turns) (prints bytes)
    capacity_prints narrow bytes text =
        (p, its.0, (c, its.1, ap prints text ∙ ap (λ b. if b then prints (capacity_text (channel_grid c)) else Err wide_channel) (sym narrow)))

  -- the capacity that the inners of the hyper tell
  pub belief_tells : (inners : List Inner) (n : ℕ) (f : Frac) → IsHyperOf (joint_of turns p) inners → IsWholeIn inners n → IsFraction f (pos (belief_capacity n inners)) n
      → (c : ChannelTree) × IsChannelTree turns p c × CapacityAnswers (Ok f) (channel_grid c)
  belief_tells inners n f hyper whole fraction =
      let rows : List Row = hyper.rows in
      let are : All (λ (r : Row). IsColumn r.column) rows = hyper.are_rows.columns in
      let listed : AreSecrets rows whole.values = values_are_secrets rows inners n are hyper.is_hyper whole in
      let c : ChannelTree = record { target = p.target; rows = rows; secrets = whole.values } in (
        c,
        record { target = refl; rows = hyper.are_rows; secrets = listed },
        (
          narrow_is (channel_grid c) (over_narrow p.target rows inners whole.values n are hyper.is_hyper listed whole)
              (capacity_narrow p.target rows inners whole.values n are hyper.is_hyper listed whole),
          same_capacity p.target rows inners whole.values n are hyper.is_hyper listed whole f fraction,
        ),
      )

  -- where they tell one
  pub beliefs_tell : (inners : List Inner) → IsHyperOf (joint_of turns p) inners → (found : Option Frac)
      → IfSome found (λ f. (n : ℕ) × IsWholeIn inners n × IsFraction f (pos (belief_capacity n inners)) n)
      → IfSome found (λ f. (c : ChannelTree) × IsChannelTree turns p c × CapacityAnswers (Ok f) (channel_grid c))
  beliefs_tell inners hyper None none = none
  beliefs_tell inners hyper (Some f) (n, whole, fraction) = belief_tells inners n f hyper whole fraction

-- ---- three capacities

module _ (first second both : GridTree) where
  abbrev printed : Bool → Bool → Bool → Result Shown Refused
  printed a b c = if a && (b && c) then prints (algebra_text first second both) else Err wide_channel

  -- what stops the first capacity
  pub first_too_wide : (s : Stop) → Stopped s (Gives (narrow_grid first)) → Stopped s (Gives (algebra_shown first second both))
  first_too_wide (stop.Refused r) h =
      let wide = fails (is_narrow first) first _ h in
      ap Err wide.1 ∙ ap (λ a. printed a (is_narrow second) (is_narrow both)) (sym wide.0)
  first_too_wide stop.Mem h = tt

  module _ (first_narrow : is_narrow first ≡ true) where
    -- the second
    pub second_too_wide : (s : Stop) → Stopped s (Gives (narrow_grid second)) → Stopped s (Gives (algebra_shown first second both))
    second_too_wide (stop.Refused r) h =
        let wide = fails (is_narrow second) second _ h in
        let a = sym first_narrow in
        let b = sym wide.0 in
        ap Err wide.1 ∙ (λ i. printed (a i) (b i) (is_narrow both))
    second_too_wide stop.Mem h = tt

    module _ (second_narrow : is_narrow second ≡ true) where
      -- that of both
      pub both_too_wide : (s : Stop) → Stopped s (Gives (narrow_grid both)) → Stopped s (Gives (algebra_shown first second both))
      both_too_wide (stop.Refused r) h =
          let wide = fails (is_narrow both) both _ h in
          let a = sym first_narrow in
          let b = sym second_narrow in
          let c = sym wide.0 in
          ap Err wide.1 ∙ (λ i. printed (a i) (b i) (c i))
      both_too_wide stop.Mem h = tt

      -- none is too wide
      pub all_narrow : is_narrow both ≡ true → (bytes : List ℕ) → bytes ≡ algebra_text first second both → prints bytes ≡ algebra_shown first second both
      all_narrow both_narrow bytes text =
          let a = sym first_narrow in
          let b = sym second_narrow in
          let c = sym both_narrow in
          ap prints text ∙ (λ i. printed (a i) (b i) (c i))

-- ---- two channels

-- a fault that isn't want of memory is what is given for it
pub given_fault : {E : Type 0} (fault_of : E → ComposeFault) (Is : Result GridTree ComposeFault → Type 0) (mem e k : E) → e ≡ k → k ≢ mem
    → (e ≢ mem → Is (Err (fault_of e))) → (r : Result GridTree ComposeFault) × Is r × (composed_grid (Err (fault_of k)) ≡ composed_grid r)
given_fault {E} fault_of Is mem e k same some is =
    (Err (fault_of k), subst (λ (f : E). Is (Err (fault_of f))) same (is (λ lost. some (sym same ∙ lost))), refl)

-- the channel of the second program, whose loops may turn as often as those of the first
pub second_channel : (turns often : ℕ) → turns ≡ often → (q : ProgramTree) (r : Result ChannelTree Refused) → ChannelIn often q r → ChannelIn turns q r
second_channel turns often same q r way = subst (λ (n : ℕ). ChannelIn n q r) (sym same) way

pub second_stops : (turns often : ℕ) → turns ≡ often → (q : ProgramTree) (s : Stop) → Stopped s (ChannelIn often q) → Stopped s (ChannelIn turns q)
second_stops turns often same q s h = subst (λ (n : ℕ). Stopped s (ChannelIn n q)) (sym same) h

module _ (way : Composition) (turns : ℕ) (p q : ProgramTree) where
  abbrev outcome : Step Shown
  outcome = After (Gives (initial p)) (λ p. After (Gives (initial q)) (λ q. ComposedIn way turns p q))

  -- what stops the first channel
  pub no_first : (s : Stop) → Stopped s (ChannelIn turns p) → Stopped s outcome
  no_first (stop.Refused r) h = inl h
  no_first stop.Mem h = tt

  module _ (c : ChannelTree) (first : ChannelIn turns p (Ok c)) where
    -- the second
    pub no_second : (s : Stop) → Stopped s (ChannelIn turns q) → Stopped s outcome
    no_second (stop.Refused r) h = inr (p, first.0, inl h)
    no_second stop.Mem h = tt

    module _ (d : ChannelTree) (second : ChannelIn turns q (Ok d)) where
      abbrev then_printed : Step Shown
      then_printed = After (Composed way c d) (λ g. Gives (algebra_shown (channel_grid c) (channel_grid d) g))

      -- what comes of the two channels comes of the two programs
      pub of_both : (r : Result Done Stop) → Answers shown r then_printed → Answers shown r outcome
      of_both (Ok done) h = (p, first.0, (q, second.0, (c, d, first.1, second.1, h)))
      of_both (Err (stop.Refused r)) h = inr (p, first.0, inr (q, second.0, (c, d, first.1, second.1, h)))
      of_both (Err stop.Mem) h = tt
