-- Columns pushed through a program of which nothing is silent outside of one outermost statement.
use Rattle.std.proofs.Common.{◌≡◌, ℕ, suc, ◌<◌, Bool, List, [], ◌∷◌, All, drop, get_or, length, take, sym, ap, subst, ◌∙◌}
use Rattle.std.proofs.lemmas.List.{take-append-drop}
use Rattle.std.proofs.lemmas.List.Elements.{All-cons, All-nil}
use Rattle.kf_column.specs.declared.entry.Entry.{Entry}
use Rattle.kf_column.specs.Columns.{IsColumn}
use Rattle.kf_column.specs.Hypers.{Inner}
use Rattle.kf_core.specs.Checked.{declared_kinds}
use Rattle.kf_core.specs.ChoiceLaws.{ChoicesAreShares}
use Rattle.kf_core.specs.Ready.{IsPushed, IsStart}
use Rattle.kf_core.specs.Rows.{IsHyperOf}
use Rattle.kf_core.specs.Runs.{all_runs, chain}
use Rattle.kf_core.specs.Sts.{StTree, sts}
use Rattle.kf_core.specs.SupportLaws.{CommonScaleIsLeast, ProgramAgrees, RunsChain, ScalesArePositive}
use Rattle.kf_core.proofs.Filled.{all_full}
use Rattle.kf_core.proofs.Measures.{Full}
use Rattle.kf_core.proofs.Solid.{all_solid}
use Rattle.kf_push.specs.Following.{Goes}
use Rattle.kf_push.specs.Meanings.{IsFinished, IsMeaning, Meaning}
use Rattle.kf_push.proofs.Carrying.{Matrix, Runner, goes_behind, pushed_chain, pushed_columns}
use Rattle.kf_push.proofs.Programs.{start_along, start_goes}
use Rattle.kf_push.proofs.Splitting.{block_splits, splits_once}
use Rattle.kf_push.proofs.Statements.{goes_first}
use Rattle.kf_push.proofs.Weighing.{later_solid}
use Rattle.kf_silent.specs.Silent.{Path, all_silent_runs, silent_joint, silent_runs, within}
use Rattle.kf_silent.proofs.OnePath.{IsAt, one_parts}
use Rattle.kf_silent.proofs.SilentGoes.{silent_hyper, silent_whole}
use Rattle.kf_silent.proofs.SilentSplits.{statement_splits}

module _ (m : Meaning) (is : IsMeaning m) (shares : ChoicesAreShares) (agrees : ProgramAgrees) (sequence : RunsChain) (scales : ScalesArePositive)
    (least : CommonScaleIsLeast) (silent : Path → Bool) (at : ℕ) (inside : at < length m.program.body) (alone : IsAt silent at) (d : StTree)
    (column : List Entry) (start : IsStart m.turns m.program column) (now : Matrix)
    (pushed : IsPushed (all_runs m.program.types m.turns (sts (take at m.program.body))) (column ∷ []) now) where
  abbrev block : List StTree → Runner
  block xs = all_runs m.program.types m.turns (sts xs)

  abbrev before : Runner
  before = block (take at m.program.body)

  abbrev here : Runner
  here = silent_runs (within silent at) m.program.types m.turns (get_or m.program.body at d)

  abbrev rest : Runner
  rest = block (drop (suc at) m.program.body)

  abbrev onward : Runner
  onward n = chain (here n) rest

  body_is : all_silent_runs silent m.program.types m.turns 0 (sts m.program.body) ≡ (λ n. chain (before n) onward)
  body_is = λ i n. one_parts silent m.program.types m.turns m.program.body at d inside alone n i

  column_is : All IsColumn (column ∷ [])
  column_is = All-cons IsColumn column [] start.is_column (All-nil IsColumn)

  rest_full : (k n : ℕ) → Full (block (drop k m.program.body) n)
  rest_full k =
      all_full m.program.types m.turns (sts (drop k m.program.body))
      (later_solid m.program.types k m.program.body (all_solid m.program.types (declared_kinds m.program) is.checked.sound))

  whole_goes : Goes (λ n. chain (before n) onward) (column ∷ [])
  whole_goes =
      subst (λ (f : Runner). Goes f (column ∷ [])) body_is
      (start_along m.turns m.program is.checked is.clear shares agrees sequence scales least
      (all_silent_runs silent m.program.types m.turns 0 (sts m.program.body)) column start
      (silent_whole silent m.turns m.program is.checked is.clear shares agrees sequence scales least))

  before_goes : Goes before (column ∷ [])
  before_goes =
      goes_first before (block (drop at m.program.body)) (column ∷ []) (rest_full at)
      (subst (λ (f : Runner). Goes f (column ∷ []))
      (λ i n.
      (ap (λ xs. block xs n) (sym (take-append-drop at m.program.body))
      ∙ sequence m.program.types m.turns (take at m.program.body) (drop at m.program.body) n) i)
      (start_goes m.turns m.program is.checked is.clear shares agrees sequence scales least column start))

  now_is : All IsColumn now
  now_is = pushed_columns before (column ∷ []) now pushed

  onward_goes : Goes onward now
  onward_goes = goes_behind before onward (column ∷ []) now column_is before_goes whole_goes pushed

  -- what stands before the statement can go through it
  pub here_goes : Goes (silent_runs (within silent at) m.program.types m.turns (get_or m.program.body at d)) now
  here_goes = goes_first here rest now (rest_full (suc at)) onward_goes

  module _ (mid : Matrix) (silenced : IsPushed (silent_runs (within silent at) m.program.types m.turns (get_or m.program.body at d)) now mid) where
    -- what stands behind it can go through the rest
    pub rest_goes : Goes (all_runs m.program.types m.turns (sts (drop (suc at) m.program.body))) mid
    rest_goes = goes_behind here rest now mid now_is here_goes onward_goes silenced

    -- the hyper of what stands behind the rest, about the target, is the silent one
    pub silent_finished : (after : Matrix) (inners : List Inner) → IsPushed (all_runs m.program.types m.turns (sts (drop (suc at) m.program.body))) mid after
        → IsFinished m.program after inners → IsHyperOf (silent_joint silent m.turns m.program) inners
    silent_finished after inners last finished =
        silent_hyper silent m.turns m.program is.checked is.clear shares agrees sequence scales least column after finished.targets inners start
        (subst (λ (f : Runner). IsPushed f (column ∷ []) after) (sym body_is)
        (pushed_chain before onward (column ∷ []) now after
        (splits_once before (block_splits m.program.types m.turns (sts (take at m.program.body)))) column_is before_goes whole_goes pushed
        (pushed_chain here rest now mid after
        (splits_once here (statement_splits m.program.types m.turns (within silent at) (get_or m.program.body at d))) now_is here_goes onward_goes silenced last)))
        finished.are_targets finished.is_hyper
