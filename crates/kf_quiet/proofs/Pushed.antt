-- Columns pushed on, from one outermost statement to another.
use Rattle.std.proofs.Common.{◌≡◌, ℕ, ◌-◌, ◌+◌, ◌≤◌, List, [], ◌∷◌, ◌++◌, All, drop, length, take, sym, ap, subst, ◌∙◌, arith}
use Rattle.std.proofs.Math.Seq.{take-add}
use Rattle.std.proofs.lemmas.List.Elements.{All-cons, All-nil}
use Rattle.kf_column.specs.declared.entry.Entry.{Entry}
use Rattle.kf_column.specs.Columns.{IsColumn}
use Rattle.kf_column.specs.Hypers.{Inner}
use Rattle.kf_column.specs.Joint.{Joint, mass}
use Rattle.kf_column.specs.Merged.{AreMerged}
use Rattle.kf_column.specs.Shapes.{IsBelow}
use Rattle.kf_column.proofs.Beliefs.{some_merged}
use Rattle.kf_core.specs.Checked.{declared_kinds}
use Rattle.kf_core.specs.ChoiceLaws.{ChoicesAreShares}
use Rattle.kf_core.specs.Joint.{joint_of}
use Rattle.kf_core.specs.Ready.{IsPushed, IsReady, IsStart}
use Rattle.kf_core.specs.Rows.{IsHyperOf}
use Rattle.kf_core.specs.Runs.{all_runs, chain}
use Rattle.kf_core.specs.Sts.{sts}
use Rattle.kf_core.specs.SupportLaws.{CommonScaleIsLeast, ProgramAgrees, RunsChain, ScalesArePositive}
use Rattle.kf_core.proofs.Filled.{all_full}
use Rattle.kf_core.proofs.Solid.{all_solid}
use Rattle.kf_push.specs.Following.{Goes}
use Rattle.kf_push.specs.Meanings.{IsFinished, IsMeaning, Meaning, runs_between, store_count}
use Rattle.kf_push.proofs.Carrying.{Matrix, Runner, pushed_chain, pushed_stay}
use Rattle.kf_push.proofs.OneColumn.{merged_one}
use Rattle.kf_push.proofs.Programs.{program_hyper, start_goes}
use Rattle.kf_push.proofs.Statements.{blocks_split, goes_first}
use Rattle.kf_push.proofs.Weighing.{later_solid}
use Rattle.kf_quiet.proofs.Unseen.{parted}
use Rattle.kf_quiet.specs.Standing.{StandsBefore}
use Rattle.kf_silent.proofs.QuietBlock.{rest_is}

lone : (column : List Entry) → IsColumn column → All IsColumn (column ∷ [])
lone column is = All-cons IsColumn column [] is (All-nil IsColumn)

-- before the first statement stands the start
pub stands_first : (m : Meaning) (column : List Entry) (first : Joint) → first.columns ≡ column ∷ [] → IsStart m.turns m.program column
    → first.scale ≡ m.scale → All (IsBelow (store_count m)) first.columns → mass first.columns ≡ m.scale
    → IsReady m.program.types m.turns m.program.body first.columns → StandsBefore m 0 first
stands_first m column first is start scale below whole ready =
    let only : Matrix = column ∷ [] in
    let one = lone column start.is_column in
    let merged = some_merged only one in
    let same = merged_one column merged.0 start.is_column merged.1 in
    record {
      column = column;
      start = start;
      pushed = subst (IsPushed (runs_between m 0 0) only) (sym is) (pushed_stay only only one (subst (AreMerged only) same merged.1));
      scale = scale;
      below = below;
      whole = whole;
      ready = ready;
    }

module _ (m : Meaning) (is : IsMeaning m) (shares : ChoicesAreShares) (agrees : ProgramAgrees) (chains : RunsChain) (scales : ScalesArePositive)
    (least : CommonScaleIsLeast) where
  abbrev rest : ℕ → Runner
  rest at = all_runs m.program.types m.turns (sts (drop at m.program.body))

  front_goes : (at : ℕ) (column : List Entry) → IsStart m.turns m.program column → Goes (runs_between m 0 at) (column ∷ [])
  front_goes at column start =
      goes_first (runs_between m 0 at) (rest at) (column ∷ [])
      (all_full m.program.types m.turns (sts (drop at m.program.body))
      (later_solid m.program.types at m.program.body (all_solid m.program.types (declared_kinds m.program) is.checked.sound)))
      (subst (λ (f : Runner). Goes f (column ∷ [])) (parted chains m.turns m.program 0 at (omega arith))
      (start_goes m.turns m.program is.checked is.clear shares agrees chains scales least column start))

  front_more : (at to : ℕ) → at ≤ to → runs_between m 0 to ≡ (λ n. chain (runs_between m 0 at n) (runs_between m at to))
  front_more at to order =
      let body = m.program.body in
      let far : to - 0 ≡ at + (to - at) = omega (arith, order) in
      let near : at ≡ at - 0 = omega arith in
      ap (λ k. all_runs m.program.types m.turns (sts (take k body))) far
      ∙ ap (λ xs. all_runs m.program.types m.turns (sts xs)) (take-add at (to - at) body)
      ∙ ap (λ k. all_runs m.program.types m.turns (sts (take k body ++ take (to - at) (drop at body)))) near
      ∙ (λ i n. chains m.program.types m.turns (take (at - 0) body) (take (to - at) (drop at body)) n i)

  pub stands_more : (at to : ℕ) → at ≤ to → (now next : Joint) → StandsBefore m at now
      → IsPushed (runs_between m at to) now.columns next.columns → next.scale ≡ m.scale → All (IsBelow (store_count m)) next.columns
      → mass next.columns ≡ mass now.columns → IsReady m.program.types m.turns (drop to m.program.body) next.columns → StandsBefore m to next
  stands_more at to order now next b step scale below same ready =
      let more = front_more at to order in
      record {
        column = b.column;
        start = b.start;
        pushed =
            subst (λ (f : Runner). IsPushed f (b.column ∷ []) next.columns) (sym more)
            (pushed_chain (runs_between m 0 at) (runs_between m at to) (b.column ∷ []) now.columns next.columns
            (blocks_split m.program.types m.turns (sts (take (at - 0) (drop 0 m.program.body)))) (lone b.column b.start.is_column)
            (front_goes at b.column b.start) (subst (λ (f : Runner). Goes f (b.column ∷ [])) more (front_goes to b.column b.start)) b.pushed step);
        scale = scale;
        below = below;
        whole = same ∙ b.whole;
        ready = ready;
      }

  -- the hyper of what stands behind the last statement is the program's
  pub stands_last : (count : ℕ) → count ≡ length m.program.body → (first after : Joint) → StandsBefore m 0 first
      → IsPushed (runs_between m 0 count) first.columns after.columns → after.scale ≡ m.scale → All (IsBelow (store_count m)) after.columns
      → mass after.columns ≡ mass first.columns → IsReady m.program.types m.turns (drop count m.program.body) after.columns
      → (inners : List Inner) → IsFinished m.program after.columns inners → IsHyperOf (joint_of m.turns m.program) inners
  stands_last count all first after b step scale below same ready inners finished =
      let last = stands_more 0 count (omega arith) first after b step scale below same ready in
      program_hyper m.turns m.program is.checked is.clear shares agrees chains scales least last.column after.columns finished.targets inners last.start
      (subst (λ (f : Runner). IsPushed f (last.column ∷ []) after.columns) (rest_is m 0 count all (omega arith)) last.pushed)
      finished.are_targets finished.is_hyper
