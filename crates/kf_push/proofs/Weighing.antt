-- No weight is lost on the way of a program's columns: at the start there is the whole, and in a part of a block it is kept.
use Rattle.std.proofs.Common.{◌≡◌, ℕ, List, [], ◌∷◌, ◌++◌, take, drop, All, sym, ap, subst, ◌∙◌}
use Rattle.std.proofs.lemmas.List.{take-append-drop}
use Rattle.kf_value.specs.Types.{TypeTree}
use Rattle.kf_column.specs.Columns.{IsColumn}
use Rattle.kf_column.specs.Joint.{mass}
use Rattle.kf_core.specs.Ready.{IsPushed, IsReady}
use Rattle.kf_core.specs.Runs.{all_runs, chain}
use Rattle.kf_core.specs.Sts.{StTree, sts}
use Rattle.kf_core.specs.SupportLaws.{BlockAgrees, RunsChain}
use Rattle.kf_core.proofs.Filled.{AllSolid, all_full}
use Rattle.kf_push.specs.Following.{Goes}
use Rattle.kf_push.proofs.Carrying.{Runner, Matrix}
use Rattle.kf_push.proofs.Statements.{block_mass, goes_first, ready_goes}

module _ (ts : List TypeTree) where
  first_solid : (xs ys : List StTree) → AllSolid ts (sts (xs ++ ys)) → AllSolid ts (sts xs)
  first_solid [] ys h = tt
  first_solid (x ∷ xs) ys h = (h.0, first_solid xs ys h.1)

  second_solid : (xs ys : List StTree) → AllSolid ts (sts (xs ++ ys)) → AllSolid ts (sts ys)
  second_solid [] ys h = h
  second_solid (x ∷ xs) ys h = second_solid xs ys h.1

  parted_solid : (k : ℕ) (xs : List StTree) → AllSolid ts (sts xs) → AllSolid ts (sts (take k xs ++ drop k xs))
  parted_solid k xs solid = subst (λ us. AllSolid ts (sts us)) (sym (take-append-drop k xs)) solid

  pub later_solid : (k : ℕ) (xs : List StTree) → AllSolid ts (sts xs) → AllSolid ts (sts (drop k xs))
  later_solid k xs solid = second_solid (take k xs) (drop k xs) (parted_solid k xs solid)

  module _ (block : BlockAgrees) (sequence : RunsChain) (turns k : ℕ) (xs : List StTree) (solid : AllSolid ts (sts xs)) where
    -- what can go through a block can go through its first statements
    part_goes : (columns : Matrix) → Goes (all_runs ts turns (sts xs)) columns → Goes (all_runs ts turns (sts (take k xs))) columns
    part_goes columns goes =
        let parted : all_runs ts turns (sts xs) ≡ (λ n. chain (all_runs ts turns (sts (take k xs)) n) (all_runs ts turns (sts (drop k xs)))) =
        λ i n. (ap (λ us. all_runs ts turns (sts us) n) (sym (take-append-drop k xs)) ∙ sequence ts turns (take k xs) (drop k xs) n) i in
        goes_first (all_runs ts turns (sts (take k xs))) (all_runs ts turns (sts (drop k xs))) columns
        (all_full ts turns (sts (drop k xs)) (later_solid k xs solid)) (subst (λ (from : Runner). Goes from columns) parted goes)

    pub part_mass : (columns after : Matrix) → All IsColumn columns → IsReady ts turns xs columns
        → IsPushed (all_runs ts turns (sts (take k xs))) columns after → mass after ≡ mass columns
    part_mass columns after are ready pushed =
        block_mass ts turns (sts (take k xs)) columns after (first_solid (take k xs) (drop k xs) (parted_solid k xs solid)) are
        (part_goes columns (ready_goes block ts turns xs columns are ready)) pushed
