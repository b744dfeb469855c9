-- The silent runs of each form of statement, in the words of the code, where the statement itself isn't silent.
use Rattle.std.proofs.Common.{◌≡◌, ℕ, ◌+◌, ◌≤◌, Bool, false, List, None, [], ◌∷◌, ◌++◌, map, sym, ap, ◌∙◌, subst}
use Rattle.std.specs.Prelude.{if◌then◌else◌}
use Rattle.kf_value.specs.Shapes.{shape_size, shape_types}
use Rattle.kf_value.specs.Types.{TypeTree}
use Rattle.kf_value.specs.declared.shape.Shape.{Shape}
use Rattle.kf_column.specs.Joint.{Joint, mass}
use Rattle.kf_column.specs.Merged.{AreMerged}
use Rattle.kf_core.specs.Checked.{IsSound}
use Rattle.kf_core.specs.Runs.{assigned, guarded, leaks, looped, place, stay, tried}
use Rattle.kf_core.specs.Views.{dx_tree, st_items, st_tree}
use Rattle.kf_core.specs.declared.dx.Dx.{Dx}
use Rattle.kf_core.specs.declared.st.St.{St}
use Rattle.kf_core.specs.declared.st.St.TheVariants as code
use Rattle.kf_core.specs.declared.st.StList.{StList}
use Rattle.kf_core.proofs.Filled.{Filled}
use Rattle.kf_core.proofs.Solid.{dist_filled}
use Rattle.kf_core.proofs.SoundParts.{if_guard, no_sound, tree-Assign, tree-If, tree-Observe, tree-Skip, tree-While, yes_sound}
use Rattle.kf_eval.specs.Kinds.{shape_kinds}
use Rattle.kf_push.specs.Following.{Goes, observed}
use Rattle.kf_silent.specs.Quiet.{hushed}
use Rattle.kf_push.proofs.Carrying.{Runner}
use Rattle.kf_silent.specs.Silent.{Path, within}
use Rattle.kf_run.specs.Following.{shown_to}
use Rattle.kf_run.specs.Going.{AreSides, CanGo, HasGone}
use Rattle.kf_run.proofs.Onward as onward
use Rattle.kf_run.proofs.Silencing.{all, all_carries, one, same_all}

-- where it isn't silent, its runs stand as they are
seen : (b : Bool) (from : Runner) → b ≡ false → (λ n. if b then hushed (from n) else from n) ≡ from
seen b from is = ap (λ (c : Bool). λ (n : ℕ). if c then hushed (from n) else from n) is

-- a skip does the same, silent or not
pub skip_runs : (shape : Shape) (turns : ℕ) (s : St) (silent : Path → Bool) → s ≡ code.Skip → stay ≡ one shape turns silent (st_tree s)
skip_runs shape turns s silent is = ap (one shape turns silent) (sym (ap st_tree is ∙ tree-Skip))

module _ (shape : Shape) (turns : ℕ) (s : St) (silent : Path → Bool) (outside : silent [] ≡ false) where
  abbrev ts : List TypeTree
  ts = shape_types shape

  abbrev size : ℕ
  size = shape_size shape

  -- ---- what has no block

  pub assign_runs : (i n : ℕ) (d : Dx) (visible : Bool) → s ≡ code.Assign i d visible → n ≡ i
      → assigned (leaks visible) (shape_types shape) n (dx_tree d) ≡ one shape turns silent (st_tree s)
  assign_runs i n d visible is same =
      ap (λ j. assigned (leaks visible) ts j (dx_tree d)) same
      ∙ (sym (seen (silent []) (assigned (leaks visible) ts i (dx_tree d)) outside) ∙ ap (one shape turns silent) (sym (ap st_tree is ∙ tree-Assign i d visible)))

  pub observe_runs : (d : Dx) → s ≡ code.Observe d → shown_to (shape_types shape) None (dx_tree d) ≡ one shape turns silent (st_tree s)
  observe_runs d is =
      sym (seen (silent []) (shown_to ts None (dx_tree d)) outside) ∙ ap (one shape turns silent) (sym (ap st_tree is ∙ tree-Observe d))

  -- ---- loops

  pub while_runs : (d : Dx) (xs : StList) → s ≡ code.While d xs → (us : List St) → us ≡ st_items xs → (body : Path → Bool)
      → ((path : Path) → body path ≡ silent (0 ∷ path))
      → looped turns (tried (shape_types shape) (dx_tree d)) (place (dx_tree d)) (all shape turns body 0 (map st_tree us)) ≡ one shape turns silent (st_tree s)
  while_runs d xs is us same body turned =
      let tree = ap st_tree is ∙ tree-While d xs in
      let loop : List St → Runner = λ vs. looped turns (tried ts (dx_tree d)) (place (dx_tree d)) (all shape turns (within silent 0) 0 (map st_tree vs)) in
      ap (looped turns (tried ts (dx_tree d)) (place (dx_tree d))) (same_all shape turns body (within silent 0) 0 (map st_tree us) turned)
      ∙ (ap loop same ∙ (sym (seen (silent []) (loop (st_items xs)) outside) ∙ ap (one shape turns silent) (sym tree)))

  -- ---- conditionals

  module _ (sound : IsSound (shape_kinds shape) (st_tree s)) (d : Dx) (xs ys : StList) (is : s ≡ code.If d xs ys) (us vs : List St)
      (first : us ≡ st_items xs) (second : vs ≡ st_items ys) (yes no : Path → Bool) (to_yes : (path : Path) → yes path ≡ silent (0 ∷ path))
      (to_no : (path : Path) → no path ≡ silent (1 ∷ path)) (now : Joint) (can : CanGo (one shape turns silent (st_tree s)) (shape_size shape) now) where
    abbrev taken : Runner
    taken = all shape turns yes 0 (map st_tree us)

    abbrev left : Runner
    left = all shape turns no 0 (map st_tree vs)

    abbrev branches : (List St × List St) → Runner
    branches h = guarded (tried ts (dx_tree d)) (all shape turns (within silent 0) 0 (map st_tree h.0)) (all shape turns (within silent 1) 0 (map st_tree h.1))

    if_runs : guarded (tried ts (dx_tree d)) taken left ≡ one shape turns silent (st_tree s)
    if_runs =
        let tree = ap st_tree is ∙ tree-If d xs ys in
        (λ i. guarded (tried ts (dx_tree d)) (same_all shape turns yes (within silent 0) 0 (map st_tree us) to_yes i)
        (same_all shape turns no (within silent 1) 0 (map st_tree vs) to_no i))
        ∙ ((λ i. branches (first i, second i))
        ∙ (sym (seen (silent []) (branches (st_items xs, st_items ys)) outside) ∙ ap (one shape turns silent) (sym tree)))

    filled : (n : ℕ) → Filled (tried ts (dx_tree d) n)
    filled = dist_filled ts (dx_tree d) (if_guard (shape_kinds shape) s sound d xs ys is)

    pub yes_carries : onward.Carries (all shape turns yes 0 (map st_tree us))
    yes_carries = all_carries shape turns yes 0 (map st_tree us) (yes_sound (shape_kinds shape) s sound d xs ys is us first)

    pub no_carries : onward.Carries (all shape turns no 0 (map st_tree vs))
    no_carries = all_carries shape turns no 0 (map st_tree vs) (no_sound (shape_kinds shape) s sound d xs ys is vs second)

    can_branch : CanGo (guarded (tried ts (dx_tree d)) taken left) size now
    can_branch = subst (λ (from : Runner). CanGo from size now) (sym if_runs) can

    pub asks_guard : Goes (observed (tried (shape_types shape) (dx_tree d))) now.columns
    asks_guard = onward.can_guard size (tried ts (dx_tree d)) filled taken left yes_carries no_carries now can_branch

    module _ (on_yes on_no : Joint) (sides : AreSides (shape_size shape) (tried (shape_types shape) (dx_tree d)) now on_yes on_no) where
      pub takes_yes : CanGo (all shape turns yes 0 (map st_tree us)) (shape_size shape) on_yes
      takes_yes = onward.can_take size (tried ts (dx_tree d)) filled taken left yes_carries no_carries now can_branch on_yes on_no sides

      pub takes_no : CanGo (all shape turns no 0 (map st_tree vs)) (shape_size shape) on_no
      takes_no = onward.can_leave size (tried ts (dx_tree d)) filled taken left yes_carries no_carries now can_branch on_yes on_no sides

      module _ (after_yes after_no : Joint) (gone_yes : HasGone (all shape turns yes 0 (map st_tree us)) (shape_size shape) on_yes after_yes)
          (gone_no : HasGone (all shape turns no 0 (map st_tree vs)) (shape_size shape) on_no after_no) where
        pub both_fit : mass after_yes.columns + mass after_no.columns ≤ after_yes.scale
        both_fit =
            onward.joined_fit size (tried ts (dx_tree d)) filled taken left yes_carries no_carries now can_branch on_yes on_no sides after_yes after_no
            gone_yes gone_no

        pub both_gone : (after : Joint) → AreMerged (after_yes.columns ++ after_no.columns) after.columns → after.scale ≡ after_yes.scale
            → HasGone (one shape turns silent (st_tree s)) (shape_size shape) now after
        both_gone after merged scale =
            subst (λ (from : Runner). HasGone from size now after) if_runs
            (onward.branches_joined size (tried ts (dx_tree d)) filled taken left yes_carries no_carries now can_branch on_yes on_no sides after_yes after_no
            gone_yes gone_no after merged scale)
