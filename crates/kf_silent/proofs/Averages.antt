-- What silent statements leave out are traces alone: what all inners give to a value together stays.
use Rattle.std.proofs.Common.{◌≡◌, ℕ, ◌==◌, Bool, cond, List, map, Result, Ok, Err, refl, sym, ap, ◌∙◌}
use Rattle.std.proofs.lemmas.List.Elements.{All-map}
use Rattle.kf_column.specs.declared.entry.Entry.{Entry}
use Rattle.kf_column.specs.Averages.{average_weight}
use Rattle.kf_column.specs.Columns.{IsColumn, weight_at}
use Rattle.kf_column.specs.Hypers.{Inner}
use Rattle.kf_column.specs.Traces.{Row}
use Rattle.kf_column.proofs.Weighing.{averages_weigh}
use Rattle.kf_core.specs.Joint.{Cell, cell_of, cells, joint_of, target_number}
use Rattle.kf_core.specs.JointLaws.{HypersAreOne, HypersExist}
use Rattle.kf_core.specs.Programs.{ProgramTree}
use Rattle.kf_core.specs.Rows.{IsHyperOf}
use Rattle.kf_core.specs.Runs.{Run, Halted, all_runs, copied, declared, program_runs}
use Rattle.kf_core.specs.Scale.{scale_of}
use Rattle.kf_core.specs.Sts.{sts}
use Rattle.kf_core.proofs.Sums.{adds, adds_flat, adds_mapped, each_is, sum_is}
use Rattle.kf_silent.specs.Quiet.{hushed}
use Rattle.kf_push.proofs.RowMass.{rows_at}
use Rattle.kf_silent.specs.Laws.{OneSilent, SilentSameAverage, SomeSilent}
use Rattle.kf_silent.specs.Silent.{Path, all_silent_runs, silent_joint}
use Rattle.kf_silent.proofs.Hushing.{block_hushed, chain_hushed}
use Rattle.kf_silent.specs.Paths.{hush, silent_program_runs}

abbrev given : ℕ → Cell → ℕ
given x c = cond (c.value == x) c.weight 0

-- all inners give to a value what all cells give to it
average_is : (cs : List Cell) (inners : List Inner) (x : ℕ) → IsHyperOf cs inners → average_weight inners x ≡ adds (given x) cs
average_is cs inners x is =
    averages_weigh (map (λ (r : Row). r.column) is.rows) inners (All-map IsColumn (λ (r : Row). r.column) is.rows is.are_rows.columns) is.is_hyper x
    ∙ sum_is (λ (c : List Entry). weight_at c x) (map (λ (r : Row). r.column) is.rows)
    ∙ adds_mapped (λ (c : List Entry). weight_at c x) (λ (r : Row). r.column) is.rows
    ∙ rows_at cs is.rows x is.are_rows

-- ---- cells of runs that differ in their traces alone

module _ (number : ℕ → ℕ) (scale x : ℕ) where
  abbrev gives : Run → ℕ
  gives r = adds (given x) (cell_of number scale r)

  run_gives : (r : Run) (end : Result ℕ Halted) → r.end ≡ end → gives (hush r) ≡ gives r
  run_gives r (Ok n) is = rw is refl
  run_gives r (Err f) is = rw is refl

  hushed_give : (rs : List Run) → adds (given x) (cells number scale (hushed rs)) ≡ adds (given x) (cells number scale rs)
  hushed_give rs =
      adds_flat (given x) (cell_of number scale) (hushed rs)
      ∙ adds_mapped gives hush rs
      ∙ each_is (λ r. gives (hush r)) gives (λ r. run_gives r r.end refl) rs
      ∙ sym (adds_flat (given x) (cell_of number scale) rs)

  same_given : (rs qs : List Run) → hushed rs ≡ hushed qs → adds (given x) (cells number scale rs) ≡ adds (given x) (cells number scale qs)
  same_given rs qs same = sym (hushed_give rs) ∙ ap (λ us. adds (given x) (cells number scale us)) same ∙ hushed_give qs

-- ---- the program

pub program_hushed : (silent : Path → Bool) (turns : ℕ) (p : ProgramTree) → hushed (silent_program_runs silent turns p) ≡ hushed (program_runs turns p)
program_hushed silent turns p =
    chain_hushed (declared p.types 0 p.decls 0) (declared p.types 0 p.decls 0) (λ n. all_silent_runs silent p.types turns 0 (sts p.body) (copied p n))
    (λ n. all_runs p.types turns (sts p.body) (copied p n)) refl (λ n. block_hushed p.types turns silent 0 (sts p.body) (copied p n))

pub same_average : SilentSameAverage
same_average silent turns p all left of_all of_left x =
    average_is (silent_joint silent turns p) left x of_left
    ∙ same_given (target_number p) (scale_of turns p) x (silent_program_runs silent turns p) (program_runs turns p) (program_hushed silent turns p)
    ∙ sym (average_is (joint_of turns p) all x of_all)

pub some_silent : HypersExist → SomeSilent
some_silent exist silent turns p = exist (silent_joint silent turns p)

pub one_silent : HypersAreOne → OneSilent
one_silent one silent turns p inners others = one (silent_joint silent turns p) inners others
