-- Statements, blocks, declarations and programs.
use Rattle.std.proofs.Common.{ℕ, suc, List, [], ◌∷◌, map, arith}
use Rattle.std.specs.FinSet.{from_list, items}
use Rattle.kf_value.specs.Types.{TypeTree}
use Rattle.kf_core.specs.ChoiceLaws.{ChoicesAreShares}
use Rattle.kf_core.specs.Dxs.{DxTree}
use Rattle.kf_core.specs.Sts.{StTree, StTrees, Skip, Assign, Observe, If, While, no_sts, more_sts, sts}
use Rattle.kf_core.specs.Programs.{ProgramTree}
use Rattle.kf_core.specs.Runs.{Run, tried, place, chain, assigned, leaks, runs, all_runs, declared, copied}
use Rattle.kf_core.specs.Results.{then_ok}
use Rattle.kf_core.specs.Support.{assign_pass, pass, all_pass, declare_pass, program_pass}
use Rattle.kf_core.proofs.Scales.{weighty}
use Rattle.kf_core.specs.Leaks.{silent}
use Rattle.kf_support.specs.Carried.{carry_step, assign_lead, carry, carry_all, carry_decls, copy_lead, carry_program}
use Rattle.kf_support.proofs.Following.{Told, Carries, stay_carries, chain_carries}
use Rattle.kf_support.proofs.Guards.{guard_told}
use Rattle.kf_support.proofs.Loops.{loop_carries}
use Rattle.kf_support.proofs.Leaves.{assign_carries, observe_carries, gone_carries}

-- the runs of a program whose declarations begin in this store
abbrev pub runs_from : ℕ → ProgramTree → ℕ → List Run
runs_from turns p n = chain (declared p.types 0 p.decls n) (λ m. all_runs p.types turns (sts p.body) (copied p m))

module _ (shares : ChoicesAreShares) where
  module _ (ts : List TypeTree) (turns : ℕ) where
    mutual
      pub carries : (x : StTree) → Carries (carry ts turns x) (pass ts turns x) (runs ts turns x)
      carries Skip = stay_carries
      carries (Assign i d visible) = assign_carries (leaks visible) ts i d (weighty shares ts d)
      carries (Observe d) = observe_carries ts d (weighty shares ts d)
      carries (If d xs ys) =
          guard_told (tried ts d) (weighty shares ts d) (carry_all ts turns xs) (carry_all ts turns ys) (all_pass ts turns xs) (all_pass ts turns ys) (all_runs ts turns xs) (all_runs ts turns ys)
          (all_carry xs) (all_carry ys)
      carries (While d xs) = loop_carries (tried ts d) (weighty shares ts d) (place d) (carry_all ts turns xs) (all_pass ts turns xs) (all_runs ts turns xs) (all_carry xs) turns

      pub all_carry : (xs : StTrees) → Carries (carry_all ts turns xs) (all_pass ts turns xs) (all_runs ts turns xs)
      all_carry no_sts = stay_carries
      all_carry (more_sts x xs) =
          chain_carries (carry ts turns x) (carry_all ts turns xs) (pass ts turns x) (all_pass ts turns xs) (runs ts turns x) (all_runs ts turns xs) (carries x) (all_carry xs)

  decls_carry : (ts : List TypeTree) (i : ℕ) (ds : List DxTree) → Carries (carry_decls ts i ds) (declare_pass ts i ds) (declared ts i ds)
  decls_carry ts i [] = stay_carries
  decls_carry ts i (d ∷ ds) =
      chain_carries (carry_step (assign_lead ts i d) []) (carry_decls ts (suc i) ds) (assign_pass ts i d) (declare_pass ts (suc i) ds) (assigned silent ts i d) (declared ts (suc i) ds)
      (assign_carries silent ts i d (weighty shares ts d)) (decls_carry ts (suc i) ds)

  pub program_carries : (turns : ℕ) (p : ProgramTree) → Told (program_pass turns p) (runs_from turns p) ((0, 1) ∷ []) (carry_program turns p)
  program_carries turns p =
      chain_carries (carry_decls p.types 0 p.decls) (λ es. then_ok (carry_step (copy_lead p) [] es) (carry_all p.types turns (sts p.body)))
      (declare_pass p.types 0 p.decls) (λ ns. all_pass p.types turns (sts p.body) (from_list (map (copied p) (items ns))))
      (declared p.types 0 p.decls) (λ n. all_runs p.types turns (sts p.body) (copied p n))
      (decls_carry p.types 0 p.decls)
      (gone_carries (copied p) (carry_all p.types turns (sts p.body)) (all_pass p.types turns (sts p.body)) (all_runs p.types turns (sts p.body)) (all_carry p.types turns (sts p.body)))
      ((0, 1) ∷ []) (omega arith, tt, tt)
