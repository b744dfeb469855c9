-- What states come to in each form of statement.
use Rattle.std.proofs.Common.{◌≡◌, ℕ, Bool, true, false, List, map, sym, ap, ◌∙◌}
use Rattle.std.specs.Prelude.{flat_map}
use Rattle.kf_value.specs.Types.{TypeTree}
use Rattle.kf_core.specs.Views.{dx_tree, st_tree, st_items}
use Rattle.kf_core.specs.declared.dx.Dx.{Dx}
use Rattle.kf_core.specs.declared.st.St.{St}
use Rattle.kf_core.specs.declared.st.St.TheVariants as code
use Rattle.kf_core.specs.declared.st.StList.{StList}
use Rattle.kf_core.specs.Sts.{StTree, Skip, Assign, Observe, If, While, sts}
use Rattle.kf_core.specs.Runs.{tried}
use Rattle.kf_core.proofs.SoundParts.{tree-Skip, tree-Assign, tree-Observe, tree-If, tree-While}
use Rattle.kf_traces.specs.Traced.{Traced, unmoved, assignment_traced, traced, all_traced, guard_traced, loop_traced}
use Rattle.kf_traces.specs.Visits.{leaked, last_true, side}
use Rattle.kf_traces.proofs.Walking.{flat_alone, flat_flat, flat_same}
use Rattle.kf_traces.proofs.WalkingLoops.{each_leaked, guard_sides, side_is}

module _ (ts : List TypeTree) (turns : ℕ) where
  -- the ends of a list of statements
  abbrev pub ends_in : StList → Traced → List Traced
  ends_in xs s = all_traced ts turns (sts (map st_tree (st_items xs))) s

  -- a state behind a guard goes to one of two branches
  abbrev pub branch_of : StList → StList → Traced → List Traced
  branch_of xs ys s = side (ends_in xs) (ends_in ys) s

  module _ (xs ys : StList) (s : Traced) (us : List St) (walked : List Traced) (is : walked ≡ all_traced ts turns (sts (map st_tree us)) s) where
    -- a state whose last value is true takes the first branch
    pub took_first : true ≡ last_true s.trace → us ≡ st_items xs → walked ≡ branch_of xs ys s
    took_first truly same = is ∙ (ap (λ vs. all_traced ts turns (sts (map st_tree vs)) s) same ∙ side_is (ends_in xs) (ends_in ys) s true truly)

    -- and another the second one
    pub took_second : false ≡ last_true s.trace → us ≡ st_items ys → walked ≡ branch_of xs ys s
    took_second falsely same = is ∙ (ap (λ vs. all_traced ts turns (sts (map st_tree vs)) s) same ∙ side_is (ends_in xs) (ends_in ys) s false falsely)

  module _ (s : St) (from : List Traced) where
    -- what is known of a form is known of the statement
    ends_as : (x : StTree) → st_tree s ≡ x → flat_map (traced ts turns x) from ≡ flat_map (traced ts turns (st_tree s)) from
    ends_as x is = ap (λ y. flat_map (traced ts turns y) from) (sym is)

    -- a statement that does nothing
    pub ends_skip : s ≡ code.Skip → from ≡ flat_map (traced ts turns (st_tree s)) from
    ends_skip is = sym (flat_alone from) ∙ ends_as Skip (ap st_tree is ∙ tree-Skip)

    -- an assignment
    pub ends_assign : (i : ℕ) (d : Dx) (visible : Bool) → s ≡ code.Assign i d visible → flat_map (assignment_traced visible ts i (dx_tree d)) from ≡ flat_map (traced ts turns (st_tree s)) from
    ends_assign i d visible is = ends_as (Assign i (dx_tree d) visible) (ap st_tree is ∙ tree-Assign i d visible)

    -- an observation
    pub ends_observe : (d : Dx) → s ≡ code.Observe d → flat_map (leaked unmoved (tried ts (dx_tree d))) from ≡ flat_map (traced ts turns (st_tree s)) from
    ends_observe d is = each_leaked unmoved (tried ts (dx_tree d)) from ∙ ends_as (Observe (dx_tree d)) (ap st_tree is ∙ tree-Observe d)

    -- a conditional
    ends_if : (d : Dx) (yes_list no_list : StList) → s ≡ code.If d yes_list no_list
        → flat_map (branch_of yes_list no_list) (flat_map (leaked unmoved (tried ts (dx_tree d))) from) ≡ flat_map (traced ts turns (st_tree s)) from
    ends_if d yes_list no_list is =
        flat_flat (leaked unmoved (tried ts (dx_tree d))) (branch_of yes_list no_list) from
        ∙ (flat_same (λ u. flat_map (branch_of yes_list no_list) (leaked unmoved (tried ts (dx_tree d)) u)) (guard_traced (tried ts (dx_tree d)) (ends_in yes_list) (ends_in no_list))
        (guard_sides (tried ts (dx_tree d)) (ends_in yes_list) (ends_in no_list)) from
        ∙ ends_as (If (dx_tree d) (sts (map st_tree (st_items yes_list))) (sts (map st_tree (st_items no_list)))) (ap st_tree is ∙ tree-If d yes_list no_list))

    -- states that went to their branches behind a conditional's guard are its ends
    pub if_walked : (d : Dx) (yes_list no_list : StList) → s ≡ code.If d yes_list no_list → (states leaks done : List Traced) → states ≡ leaks → leaks ≡ flat_map (leaked unmoved (tried ts (dx_tree d))) from
        → done ≡ flat_map (branch_of yes_list no_list) states → done ≡ flat_map (traced ts turns (st_tree s)) from
    if_walked d yes_list no_list is states leaks done same leaked_so walked = walked ∙ (ap (flat_map (branch_of yes_list no_list)) (same ∙ leaked_so) ∙ ends_if d yes_list no_list is)

    -- a loop
    pub ends_while : (d : Dx) (xs : StList) → s ≡ code.While d xs → flat_map (loop_traced turns (tried ts (dx_tree d)) (ends_in xs)) from ≡ flat_map (traced ts turns (st_tree s)) from
    ends_while d xs is = ends_as (While (dx_tree d) (sts (map st_tree (st_items xs)))) (ap st_tree is ∙ tree-While d xs)
