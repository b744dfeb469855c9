-- What holds of columns pushed through a whole program in which one statement is silent.
use Rattle.std.proofs.Common.{◌≡◌, ℕ, suc, ◌+◌, ◌-◌, ◌<◌, Bool, false, List, [], ◌∷◌, ◌++◌, All, None, drop, get_or, length, map, take, refl, sym, ap, ◌∙◌, subst, arith}
use Rattle.std.proofs.lemmas.List.{drop-map, length-drop, length-map, length-take-le, take-append-drop, take_all}
use Rattle.std.proofs.lemmas.List.Elements.{All-cons, All-nil}
use Rattle.kf_value.proofs.ListLemmas.{left_step}
use Rattle.kf_value.specs.Shapes.{shape_size, shape_types}
use Rattle.kf_value.specs.Types.{TypeTree}
use Rattle.kf_column.specs.declared.entry.Entry.{Entry}
use Rattle.kf_column.specs.Columns.{IsColumn}
use Rattle.kf_column.specs.Hypers.{Inner}
use Rattle.kf_column.specs.Joint.{Joint, mass}
use Rattle.kf_core.specs.declared.program.Program.{Program}
use Rattle.kf_core.specs.declared.st.St.{St}
use Rattle.kf_core.specs.Checked.{AreSound, IsSound}
use Rattle.kf_core.specs.ChoiceLaws.{ChoicesAreShares}
use Rattle.kf_core.specs.Ready.{IsPushed}
use Rattle.kf_core.specs.Rows.{IsHyperOf}
use Rattle.kf_core.specs.Runs.{all_runs, chain}
use Rattle.kf_core.specs.Sts.{StTree, sts}
use Rattle.kf_core.specs.SupportLaws.{BlockAgrees, CommonScaleIsLeast, ProgramAgrees, RunsChain, ScalesArePositive}
use Rattle.kf_core.specs.Views.{program_tree, st_items, st_tree}
use Rattle.kf_core.proofs.SoundParts.{whole_sound}
use Rattle.kf_eval.specs.Kinds.{shape_kinds}
use Rattle.kf_push.specs.Following.{Goes}
use Rattle.kf_push.specs.Meanings.{IsFinished, IsMeaning}
use Rattle.kf_push.proofs.Carrying.{Runner, pushed_again, pushed_chain, pushed_columns}
use Rattle.kf_push.proofs.Programs.{start_along}
use Rattle.kf_push.proofs.Statements.{blocks_split, goes_first, ready_goes}
use Rattle.kf_silent.specs.Silent.{Path, all_silent_runs, silent_joint, within}
use Rattle.kf_silent.proofs.Ranges.{block_seen, statement_seen}
use Rattle.kf_silent.proofs.SilentGoes.{block_goes, blocks_chain, silent_hyper, silent_whole}
use Rattle.kf_silent.specs.Paths.{only}
use Rattle.kf_run.specs.Before.{meant}
use Rattle.kf_run.specs.Behind.{Behind, front}
use Rattle.kf_run.specs.Going.{CanGo, HasGone}
use Rattle.kf_run.specs.Silence.{silent_at}
use Rattle.kf_run.proofs.Onward.{carried_mass}
use Rattle.kf_run.proofs.Parts.{sound_behind}
use Rattle.kf_run.proofs.Silencing.{SilentOn, all, all_carries, next_can, next_sound, none_all, one, only_after, only_beside, silent_start, silent_step}

-- where no statement of a block is silent up to some place, and it is no longer
front_seen : (ts : List TypeTree) (turns : ℕ) (silent : Path → Bool) (i : ℕ) (xs : List StTree)
    → ((j : ℕ) (path : Path) → j < i + length xs → silent (j ∷ path) ≡ false) → (n : ℕ)
    → all_silent_runs silent ts turns i (sts xs) n ≡ all_runs ts turns (sts xs) n
front_seen ts turns silent i [] none n = refl
front_seen ts turns silent i (x ∷ xs) none n =
    (λ k. chain (statement_seen ts turns (within silent i) x (λ path. none i path (omega arith)) n k)
    (λ m. front_seen ts turns silent (suc i) xs (λ j path below. none j path (omega (arith, below))) m k))

-- all after some place
all_after : (k : ℕ) (us : List St) → take (length us - k) (drop k us) ≡ drop k us
all_after k us = let long = length-drop k us in take_all (length us - k) (drop k us) (omega (arith, long))

module _ (program : Program) (turns at : ℕ) (path : Path) (now : Joint) (is : IsMeaning (meant program turns now)) (shares : ChoicesAreShares)
    (agrees : ProgramAgrees) (chains : RunsChain) (scales : ScalesArePositive) (least : CommonScaleIsLeast) (agree : BlockAgrees)
    (column : List Entry) (before : Behind (meant program turns now) at column now) (us : List St) (read : us ≡ st_items program.body) (s : St)
    (found : s ≡ get_or us at s) (inside : at < length (map st_tree (st_items program.body))) where
  abbrev body : List StTree
  body = map st_tree (st_items program.body)

  abbrev ts : List TypeTree
  ts = shape_types program.shape

  abbrev size : ℕ
  size = shape_size program.shape

  abbrev x : StTree
  x = st_tree s

  abbrev rest : List StTree
  rest = map st_tree (take (length us - (at + 1)) (drop (at + 1) us))

  abbrev silent : Path → Bool
  silent = only (at ∷ path)

  abbrev onward : Runner
  onward = all program.shape turns silent at (x ∷ rest)

  abbrev whole : Runner
  whole = all program.shape turns silent 0 body

  -- ---- which statements are silent

  beside : (j : ℕ) (other : Path) → (at ≡ j → ⊥) → silent (j ∷ other) ≡ false
  beside j other apart = sym (only_beside j at (at ∷ path) path other refl apart)

  rest_seen : all program.shape turns silent (at + 1) rest ≡ all program.shape turns (silent_at None) 0 rest
  rest_seen =
      (λ i n. block_seen ts turns silent (at + 1) (sts rest) (λ j other later. beside j other (λ same. omega (arith, later, same))) n i)
      ∙ none_all program.shape turns rest

  -- ---- the statements before, this one and those after it

  here : drop at body ≡ x ∷ rest
  here =
      let same : length us ≡ length body = ap length read ∙ sym (length-map (st_items program.body) st_tree) in
      ap (λ (vs : List St). drop at (map st_tree vs)) (sym read)
      ∙ (drop-map st_tree at us
      ∙ (left_step st_tree us at s (omega (arith, inside, same)) found
      ∙ ap (λ (vs : List St). st_tree s ∷ map st_tree vs) (sym (all_after (at + 1) us))))

  parts : body ≡ take at body ++ (x ∷ rest)
  parts = sym (take-append-drop at body) ∙ ap (λ ys. take at body ++ ys) here

  long : length (take at body) ≡ at
  long = length-take-le at body (omega (arith, inside))

  whole_parts : whole ≡ (λ n. chain (front (meant program turns now) at n) onward)
  whole_parts =
      let none = λ (j : ℕ) (other : Path) (below : j < 0 + length (take at body)). beside j other (λ same. omega (arith, below, same, long)) in
      let far : 0 + length (take at body) ≡ at = omega (arith, long) in
      ap (all program.shape turns silent 0) parts
      ∙ ((λ i n. blocks_chain silent ts turns 0 (take at body) (x ∷ rest) n i)
      ∙ (λ i n. chain (front_seen ts turns silent 0 (take at body) none n i) (all program.shape turns silent (far i) (x ∷ rest))))

  -- ---- what can go

  all_sound : AreSound (shape_kinds program.shape) body
  all_sound = whole_sound program is.checked (st_items program.body) refl

  onward_sound : AreSound (shape_kinds program.shape) (x ∷ rest)
  onward_sound =
      sound_behind (shape_kinds program.shape) (take at body) (x ∷ rest) (subst (AreSound (shape_kinds program.shape)) parts all_sound)

  now_are : All IsColumn now.columns
  now_are = pushed_columns (front (meant program turns now) at) (column ∷ []) now.columns before.pushed

  onward_goes : Goes onward now.columns
  onward_goes =
      block_goes silent ts turns at (sts (x ∷ rest)) now.columns
      (subst (λ xs. Goes (all_runs ts turns (sts xs)) now.columns) here (ready_goes agree ts turns (drop at body) now.columns now_are before.ready))

  onward_can : CanGo onward size now
  onward_can = record { are = now_are; below = before.below; fits = omega (arith, before.whole); goes = onward_goes }

  begun : SilentOn program.shape turns onward silent now at (x ∷ rest) now
  begun =
      silent_start program.shape turns silent now at (x ∷ rest) onward_sound
      (pushed_again (front (meant program turns now) at) (column ∷ []) now.columns before.pushed) onward_can

  here_is : (other : Path) → only path other ≡ silent (at ∷ other)
  here_is other = only_after at (at ∷ path) path other refl

  pub statement_sound : IsSound (shape_kinds program.shape) (st_tree s)
  statement_sound = next_sound program.shape turns onward silent now at x rest now begun

  pub statement_can : CanGo (one program.shape turns (only path) (st_tree s)) (shape_size program.shape) now
  statement_can = next_can program.shape turns onward silent now at x rest now begun (only path) here_is

  module _ (silenced : Joint) (gone : HasGone (one program.shape turns (only path) (st_tree s)) (shape_size program.shape) now silenced) where
    past : SilentOn program.shape turns onward silent now (at + 1) rest silenced
    past =
        silent_step program.shape turns onward silent now at x rest now begun (only path) here_is silenced gone
        (pushed_again (one program.shape turns (only path) x) now.columns silenced.columns gone.pushed)

    pub rest_sound : AreSound (shape_kinds program.shape) (map st_tree (take (length us - (at + 1)) (drop (at + 1) us)))
    rest_sound = past.sound

    pub rest_can : CanGo (all program.shape turns (silent_at None) 0 (map st_tree (take (length us - (at + 1)) (drop (at + 1) us)))) (shape_size program.shape) silenced
    rest_can = subst (λ (from : Runner). CanGo from size silenced) rest_seen past.on.can

    module _ (after : Joint) (done : HasGone (all program.shape turns (silent_at None) 0 (map st_tree (take (length us - (at + 1)) (drop (at + 1) us)))) (shape_size program.shape) silenced after) where
      onward_pushed : IsPushed onward now.columns after.columns
      onward_pushed = past.on.leads after.columns (subst (λ (from : Runner). IsPushed from silenced.columns after.columns) (sym rest_seen) done.pushed)

      pub same_scale : after.scale ≡ now.scale
      same_scale = done.scale ∙ gone.scale

      pub all_there : mass after.columns ≡ after.scale
      all_there =
          let kept = carried_mass onward now.columns after.columns (all_carries program.shape turns silent at (x ∷ rest) onward_sound) onward_goes onward_pushed in
          omega (arith, kept, before.whole, same_scale)

      start_is : All IsColumn (column ∷ [])
      start_is = All-cons IsColumn column [] before.start.is_column (All-nil IsColumn)

      both_go : Goes (λ n. chain (front (meant program turns now) at n) onward) (column ∷ [])
      both_go =
          subst (λ (from : Runner). Goes from (column ∷ [])) whole_parts
          (start_along turns (program_tree program) is.checked is.clear shares agrees chains scales least whole column before.start
          (silent_whole silent turns (program_tree program) is.checked is.clear shares agrees chains scales least))

      whole_pushed : IsPushed whole (column ∷ []) after.columns
      whole_pushed =
          subst (λ (from : Runner). IsPushed from (column ∷ []) after.columns) (sym whole_parts)
          (pushed_chain (front (meant program turns now) at) onward (column ∷ []) now.columns after.columns
          (blocks_split ts turns (sts (take at body))) start_is
          (goes_first (front (meant program turns now) at) onward (column ∷ [])
          (all_carries program.shape turns silent at (x ∷ rest) onward_sound).full both_go) both_go before.pushed onward_pushed)

      -- the hyper of what stands after all statements, about the target, is that of the program with the silent statement
      pub silent_finished : (inners : List Inner) → IsFinished (program_tree program) after.columns inners
          → IsHyperOf (silent_joint (only (at ∷ path)) turns (program_tree program)) inners
      silent_finished inners finished =
          silent_hyper silent turns (program_tree program) is.checked is.clear shares agrees chains scales least column after.columns finished.targets
          inners before.start whole_pushed finished.are_targets finished.is_hyper
