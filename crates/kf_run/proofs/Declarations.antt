-- Columns pushed through a program's declarations, one after the other, as the code meets them.
use Rattle.std.proofs.Common.{◌≡◌, ℕ, ◌+◌, ◌<◌, ◌≤◌, List, [], ◌∷◌, All, IsOk, Some, length, map, take, get_or, slice_get, sym, ap, subst, ◌∙◌, arith}
use Rattle.std.proofs.lemmas.List.{length-map, take_all}
use Rattle.std.proofs.lemmas.List.Elements.{All-cons, All-nil}
use Rattle.kf_value.specs.Shapes.{shape_size, shape_types}
use Rattle.kf_value.proofs.ListLemmas.{mapped_read}
use Rattle.kf_column.specs.declared.entry.Entry.{Entry}
use Rattle.kf_column.specs.Joint.{Joint}
use Rattle.kf_column.specs.Shapes.{IsBelow}
use Rattle.kf_core.specs.declared.dx.Dx.{Dx}
use Rattle.kf_core.specs.declared.program.Program.{Program}
use Rattle.kf_core.specs.Checked.{IsChecked}
use Rattle.kf_core.specs.ChoiceLaws.{ChoicesAreShares}
use Rattle.kf_core.specs.Programs.{ProgramTree}
use Rattle.kf_core.specs.Ready.{IsPushed, IsReady, IsStart}
use Rattle.kf_core.specs.Runs.{all_runs, assigned, copied, declared, stay}
use Rattle.kf_core.specs.Scale.{scale_of}
use Rattle.kf_core.specs.Sts.{sts}
use Rattle.kf_core.specs.Support.{program_pass}
use Rattle.kf_core.specs.SupportLaws.{BlockAgrees, CommonScaleIsLeast, ProgramAgrees, RunsChain, ScalesArePositive}
use Rattle.kf_core.specs.Views.{dx_items, dx_tree, program_tree}
use Rattle.kf_core.proofs.FirstStore.{first_store_there}
use Rattle.kf_core.specs.Leaks.{silent}
use Rattle.kf_push.specs.Following.{Goes}
use Rattle.kf_push.proofs.Carrying.{Matrix}
use Rattle.kf_push.proofs.Programs.{whole_on_first, declared_goes, declared_more, declared_none, start_goes, start_made}
use Rattle.kf_push.proofs.Statements.{goes_ready}

-- these columns are what stands behind the first declarations, over the program's scale
pub record AreDeclared (program : Program) (turns i : ℕ) (now : Joint) : Type 0 where
  pub pushed : IsPushed (declared (shape_types program.shape) 0 (take i (map dx_tree (dx_items program.decls))))
      (whole_on_first (scale_of turns (program_tree program)) ∷ []) now.columns
  pub scale : now.scale ≡ scale_of turns (program_tree program)
  pub below : All (IsBelow (shape_size program.shape)) now.columns

module _ (program : Program) (turns : ℕ) (checked : IsChecked (program_tree program)) (clear : IsOk (program_pass turns (program_tree program)))
    (shares : ChoicesAreShares) (agrees : ProgramAgrees) (sequence : RunsChain) (scales : ScalesArePositive) (least : CommonScaleIsLeast) where
  abbrev p : ProgramTree
  p = program_tree program

  abbrev whole : ℕ
  whole = scale_of turns p

  -- all weight lies on the first store, and none is declared
  pub declared_first : (scale : ℕ) (now : Joint) → scale ≡ whole → now.columns ≡ whole_on_first scale ∷ [] → now.scale ≡ scale → AreDeclared program turns 0 now
  declared_first scale now is columns over =
      let all : now.columns ≡ whole_on_first whole ∷ [] = columns ∙ ap (λ n. whole_on_first n ∷ []) is in
      let e : Entry = record { value = 0; weight = whole } in
      let low = All-cons (λ (e : Entry). e.value < shape_size program.shape) e [] (first_store_there program.shape)
      (All-nil (λ (e : Entry). e.value < shape_size program.shape)) in
      record {
        pushed =
            subst (IsPushed (declared p.types 0 (take 0 p.decls)) (whole_on_first whole ∷ [])) (sym all)
            (declared_none turns p checked clear shares agrees sequence scales least);
        scale = over ∙ is;
        below =
            subst (All (IsBelow (shape_size program.shape))) (sym all)
            (All-cons (IsBelow (shape_size program.shape)) (e ∷ []) [] low (All-nil (IsBelow (shape_size program.shape))));
      }

  module _ (xs : List Dx) (i : ℕ) (now : Joint) (all : xs ≡ dx_items program.decls) (before : AreDeclared program turns i now) where
    module _ (x : Dx) (within : i < length xs) (read : x ≡ get_or xs i x) where
      here : slice_get p.decls i ≡ Some (dx_tree x)
      here = subst (λ ys. slice_get (map dx_tree ys) i ≡ Some (dx_tree x)) all (mapped_read dx_tree xs i x within read)

      pub declaration_goes : Goes (assigned silent p.types i (dx_tree x)) now.columns
      declaration_goes = declared_goes turns p checked clear shares agrees sequence scales least i (dx_tree x) now.columns here before.pushed

      pub declaration_done : (next : Joint) → IsPushed (assigned silent p.types i (dx_tree x)) now.columns next.columns → next.scale ≡ now.scale
          → All (IsBelow (shape_size program.shape)) next.columns → AreDeclared program turns (i + 1) next
      declaration_done next step over low = record {
        pushed = declared_more turns p checked clear shares agrees sequence scales least i (dx_tree x) now.columns next.columns here before.pushed step;
        scale = over ∙ before.scale;
        below = low;
      }

    -- behind the last one the copies are set, and this is the start
    module _ (past : length xs ≤ i) (after : Matrix) (step : IsPushed (λ n. stay (copied p n)) now.columns after) where
      every : take i p.decls ≡ p.decls
      every =
          let same : length xs ≡ length (dx_items program.decls) = ap length all in
          let long = length-map (dx_items program.decls) dx_tree in
          take_all i p.decls (omega (arith, past, same, long))

      pub begun_at_start : (column : List Entry) × (after ≡ column ∷ []) × IsStart turns p column
      begun_at_start =
          start_made turns p checked clear shares agrees sequence scales least now.columns after
          (subst (λ ds. IsPushed (declared p.types 0 ds) (whole_on_first whole ∷ []) now.columns) every before.pushed) step

      pub begun_ready : BlockAgrees → IsReady p.types turns p.body after
      begun_ready block =
          let s = begun_at_start in
          goes_ready block p.types turns p.body after
          (subst (Goes (all_runs p.types turns (sts p.body))) (sym s.1) (start_goes turns p checked clear shares agrees sequence scales least s.0 s.2))
