-- Columns pushed through a loop, turn by turn.
use Rattle.std.proofs.Common.{◌≡◌, ℕ, zero, suc, ◌+◌, ◌≤◌, true, false, [], ◌∷◌, ◌++◌, All, length, refl, sym, ◌∙◌, subst, arith}
use Rattle.std.proofs.lemmas.List.Elements.{All-append, All-nil}
use Rattle.kf_column.specs.Columns.{IsColumn}
use Rattle.kf_column.specs.Joint.{Joint, mass}
use Rattle.kf_column.specs.Merged.{AreMerged}
use Rattle.kf_column.specs.Shapes.{IsBelow}
use Rattle.kf_core.specs.Runs.{LoopBound, Tried, chain, looped, stay, stopped}
use Rattle.kf_core.proofs.Filled.{Filled, chain_full, looped_full}
use Rattle.kf_push.specs.Following.{Goes, observed, side}
use Rattle.kf_run.specs.Going.{AreSides, CanGo, HasGone}
use Rattle.kf_column.proofs.Beliefs.{merged_again, merged_below, merged_columns, merged_mass, merged_none}
use Rattle.kf_run.proofs.Onward.{Carries, carried_mass, mass_both}
use Rattle.kf_push.proofs.Carrying.{Runner, Matrix, pushed_columns}
use Rattle.kf_push.proofs.Statements.{ComesTo, all_turned, goes_body, goes_guard, goes_next, turned, turned_last, turned_none}

module _ (size : ℕ) (guard : ℕ → Tried) (filled : (n : ℕ) → Filled (guard n)) (at turns : ℕ) (body : Runner) (carries : Carries body) where
  -- the loop with so many turns to come
  abbrev pub loop_of : ℕ → Runner
  loop_of rest = looped rest guard at body

  abbrev comes : ℕ → Matrix → Matrix → Matrix → Type 0
  comes = ComesTo guard filled at body carries.full carries.splits

  -- behind some turns: what those that ask and those that have left come to from here, the loop comes to
  pub record LoopOn (before : Joint) (rest : ℕ) (asking left : Joint) : Type 0 where
    pub can : CanGo (loop_of rest) size asking
    pub were : All IsColumn left.columns
    pub left_merged : AreMerged left.columns left.columns
    pub left_below : All (IsBelow size) left.columns
    pub scale : asking.scale ≡ before.scale
    pub left_scale : left.scale ≡ before.scale
    pub fits : mass asking.columns + mass left.columns ≤ before.scale
    pub leads : (after : Matrix) → comes rest asking.columns left.columns after → comes turns before.columns [] after

  loop_start : (before none : Joint) → none ≡ record { scale = before.scale; columns = [] } → CanGo (loop_of turns) size before
      → LoopOn before turns before none
  loop_start before none is can =
      subst (LoopOn before turns before) (sym is) (record {
        can = can;
        were = All-nil IsColumn;
        left_merged = merged_none;
        left_below = All-nil (IsBelow size);
        scale = refl;
        left_scale = refl;
        fits = omega (arith, can.fits);
        leads = λ after c. c;
      })

  -- all that leads to the end
  all_gone : (before after : Joint) → comes turns before.columns [] after.columns → after.scale ≡ before.scale → All (IsBelow size) after.columns
      → HasGone (loop_of turns) size before after
  all_gone before after come scale below = record {
    pushed = all_turned guard filled at body carries.full carries.splits turns
        before.columns after.columns come;
    scale = scale;
    below = below;
  }

  -- where no column asks, the loop ends
  loop_none : (before : Joint) (rest : ℕ) (asking left : Joint) → LoopOn before rest asking left → asking.columns ≡ []
      → HasGone (loop_of turns) size before left
  loop_none before rest asking left on none =
      all_gone before left
      (on.leads left.columns (subst (λ cs. comes rest cs left.columns left.columns) (sym none)
      (turned_none guard filled at body carries.full carries.splits rest left.columns left.columns on.were on.left_merged)))
      on.left_scale on.left_below

  -- the guard can be asked
  asks : (rest : ℕ) (columns : Matrix) → Goes (loop_of rest) columns → Goes (observed guard) columns
  asks zero columns goes = goes_guard guard filled (λ n. stopped LoopBound at) stay (λ n. tt) (λ n. tt) columns goes
  asks (suc rest) columns goes =
      goes_guard guard filled (λ n. chain (body n) (loop_of rest)) stay
      (λ n. chain_full (loop_of rest) (looped_full guard filled rest at body carries.full) (body n)
      (carries.full n)) (λ n. tt) columns goes

  module _ (before : Joint) (asking left taken gone : Joint) (sides : AreSides size guard asking taken gone) where
    module _ (rest : ℕ) (on : LoopOn before rest asking left) where
      gone_are : All IsColumn gone.columns
      gone_are = pushed_columns (side false guard) asking.columns gone.columns sides.to_left

      module _ (more : Joint) (merged : AreMerged (left.columns ++ gone.columns) more.columns) (scale : more.scale ≡ left.scale) where
        both_are : All IsColumn (left.columns ++ gone.columns)
        both_are = All-append IsColumn left.columns gone.columns on.were gone_are

        more_below : All (IsBelow size) more.columns
        more_below = merged_below size (left.columns ++ gone.columns) more.columns both_are merged
            (All-append (IsBelow size) left.columns gone.columns on.left_below sides.below_left)

        more_mass : mass more.columns ≡ mass left.columns + mass gone.columns
        more_mass = merged_mass (left.columns ++ gone.columns) more.columns both_are merged ∙ mass_both left.columns gone.columns

    -- those on the true side go through the body
    module _ (rest : ℕ) (on : LoopOn before (suc rest) asking left) where
      turn_can : CanGo body size taken
      turn_can = record {
        are = pushed_columns (side true guard) asking.columns taken.columns sides.to_taken;
        below = sides.below_taken;
        fits = omega (arith, sides.whole, sides.scale_taken, on.can.fits);
        goes = goes_body guard filled at body carries.full carries.splits rest asking.columns taken.columns on.can.are on.can.goes
            sides.to_taken;
      }

      loop_step : (more next : Joint) → AreMerged (left.columns ++ gone.columns) more.columns → more.scale ≡ left.scale → HasGone body size taken next
          → LoopOn before rest next more
      loop_step more next merged scale went =
          let kept = carried_mass body taken.columns next.columns carries turn_can.goes went.pushed in
          record {
            can = record {
              are = pushed_columns body taken.columns next.columns went.pushed;
              below = went.below;
              fits = omega (arith, kept, went.scale, turn_can.fits);
              goes = goes_next guard filled at body carries.full carries.splits rest asking.columns taken.columns next.columns
                  on.can.are on.can.goes sides.to_taken went.pushed;
            };
            were = merged_columns (left.columns ++ gone.columns) more.columns (both_are (suc rest) on more merged scale) merged;
            left_merged = merged_again (left.columns ++ gone.columns) more.columns (both_are (suc rest) on more merged scale) merged;
            left_below = more_below (suc rest) on more merged scale;
            scale = went.scale ∙ (sides.scale_taken ∙ on.scale);
            left_scale = scale ∙ on.left_scale;
            fits = omega (arith, kept, more_mass (suc rest) on more merged scale, sides.whole, on.fits);
            leads = λ after come.
                on.leads after
                (turned guard filled at body carries.full carries.splits rest asking.columns left.columns taken.columns gone.columns
                next.columns more.columns after
                on.can.are on.were on.can.goes sides.to_taken sides.to_left went.pushed merged come);
          }

    -- behind the last turn those on the false side leave
    loop_end : LoopOn before zero asking left → (after : Joint) → AreMerged (left.columns ++ gone.columns) after.columns → after.scale ≡ left.scale
        → HasGone (loop_of turns) size before after
    loop_end on after merged scale =
        all_gone before after
        (on.leads after.columns (turned_last guard filled at body carries.full carries.splits asking.columns left.columns
        gone.columns after.columns on.can.are on.were on.can.goes sides.to_left merged))
        (scale ∙ on.left_scale) (more_below zero on after merged scale)

-- the same, of a guard that chooses something and a body that carries all weight on
pub record Looping (size : ℕ) (guard : ℕ → Tried) (at turns : ℕ) (body : Runner) (before : Joint) (rest : ℕ) (asking left : Joint) : Type 0 where
  pub filled : (n : ℕ) → Filled (guard n)
  pub carries : Carries body
  pub on : LoopOn size guard filled at turns body carries before rest asking left

-- a list without length is empty
none_there : (columns : Matrix) → length columns ≡ 0 → columns ≡ []
none_there [] empty = refl
none_there (c ∷ cs) empty = absurd (omega arith)

module _ (size : ℕ) (guard : ℕ → Tried) (at turns : ℕ) (body : Runner) (before : Joint) where
  -- before the first turn all ask, and none has left
  pub turns_begin : ((n : ℕ) → Filled (guard n)) → Carries body → CanGo (looped turns guard at body) size before → (rest : ℕ) (asking none : Joint)
      → turns ≡ rest → asking ≡ before → none ≡ record { scale = before.scale; columns = [] } → Looping size guard at turns body before rest asking none
  turns_begin filled carries can rest asking none all same is = record {
    filled = filled;
    carries = carries;
    on =
        subst (λ (h : ℕ × Joint). LoopOn size guard filled at turns body carries before h.0 h.1 none) (λ i. (all i, sym same i))
        (loop_start size guard filled at turns body carries before none is can);
  }

  module _ (rest : ℕ) (asking left : Joint) (here : Looping size guard at turns body before rest asking left) where
    -- the guard can be asked
    pub asks_again : Goes (observed guard) asking.columns
    asks_again = asks size guard here.filled at turns body here.carries rest asking.columns here.on.can.goes

    -- those that ask and those that have left are over one scale, and fit into it
    pub one_scale : asking.scale ≡ left.scale
    one_scale = here.on.scale ∙ sym here.on.left_scale

    pub both_fit : mass asking.columns + mass left.columns ≤ asking.scale
    both_fit = omega (arith, here.on.fits, here.on.scale)

    -- where no column asks, the loop ends
    pub none_asks : length asking.columns ≡ 0 → HasGone (looped turns guard at body) size before left
    none_asks empty = loop_none size guard here.filled at turns body here.carries before rest asking left here.on (none_there asking.columns empty)

    module _ (taken gone : Joint) (sides : AreSides size guard asking taken gone) where
      -- with a turn to come, those on the true side go through the body
      module _ (later : ℕ) (turn : rest ≡ suc later) where
        to_come : LoopOn size guard here.filled at turns body here.carries before (suc later) asking left
        to_come = subst (λ (k : ℕ). LoopOn size guard here.filled at turns body here.carries before k asking left) turn here.on

        pub takes_turn : CanGo body size taken
        takes_turn = turn_can size guard here.filled at turns body here.carries before asking left taken gone sides later to_come

        pub turns_on : (more next : Joint) → AreMerged (left.columns ++ gone.columns) more.columns → more.scale ≡ left.scale → HasGone body size taken next
            → Looping size guard at turns body before later next more
        turns_on more next merged scale went = record {
          filled = here.filled;
          carries = here.carries;
          on = loop_step size guard here.filled at turns body here.carries before asking left taken gone sides later to_come more next merged scale went;
        }

      -- with none to come, those on the false side leave
      pub turns_end : rest ≡ zero → (after : Joint) → AreMerged (left.columns ++ gone.columns) after.columns → after.scale ≡ left.scale
          → HasGone (looped turns guard at body) size before after
      turns_end last after merged scale =
          loop_end size guard here.filled at turns body here.carries before asking left taken gone sides
          (subst (λ (k : ℕ). LoopOn size guard here.filled at turns body here.carries before k asking left) last here.on) after merged scale
