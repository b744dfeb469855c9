-- The hyper of a program with a quiet block, and its blames, where a cleared program is handed on.
use Rattle.std.proofs.Common.{◌≡◌, ℕ, List, ap, subst, ◌∙◌}
use Rattle.kf_core.specs.Rows.{IsHyperOf}
use Rattle.kf_core.specs.Scale.{scale_of as run_scale}
use Rattle.kf_hyper.specs.Views.{inners_of, scale_of, target_of}
use Rattle.kf_hyper.specs.declared.hyper.Hyper.{Hyper}
use Rattle.kf_load.specs.Views.{program_in}
use Rattle.kf_quiet.specs.Blames.{AreBlames}
use Rattle.kf_quiet.specs.Summaries.{SummaryTree}
use Rattle.kf_silent.specs.Quiet.{quiet_joint}
use Rattle.kf_support.specs.Cleared.{turns_of, whole_scale}
use Rattle.kf_support.specs.declared.cleared.Cleared.{Cleared}
use Rattle.kf_text.specs.BlameTexts.{blame_text}
use Rattle.kf_text.specs.Texts.{hyper_text}
use Rattle.kf_top.specs.Answer.{HyperOf, prints}
use Rattle.kf_top.specs.Steps.{BlameOf}

module _ (cleared pushed : Cleared) (same : pushed ≡ cleared) (bytes : List ℕ) where
  pub quiet_prints : (from to : ℕ) (h : Hyper) → IsHyperOf (quiet_joint (turns_of pushed) (program_in pushed) from to) (inners_of h)
      → scale_of h ≡ whole_scale pushed → target_of h ≡ (program_in pushed).target → bytes ≡ hyper_text (target_of h) (scale_of h) (inners_of h)
      → HyperOf (program_in cleared).target (run_scale (turns_of cleared) (program_in cleared)) (quiet_joint (turns_of cleared) (program_in cleared) from to) (prints bytes)
  quiet_prints from to h is scale target text =
      let turns = turns_of pushed in
      let p = program_in pushed in
      let whole : scale_of h ≡ run_scale turns p = scale ∙ pushed.scale_is in
      subst (λ (c : Cleared). HyperOf (program_in c).target (run_scale (turns_of c) (program_in c)) (quiet_joint (turns_of c) (program_in c) from to) (prints bytes)) same
      (inners_of h, is, ap prints (text ∙ (λ i. hyper_text (target i) (whole i) (inners_of h))))

  pub blame_prints : (trees : List SummaryTree) → AreBlames (turns_of pushed) (program_in pushed) trees → bytes ≡ blame_text (whole_scale pushed) trees
      → BlameOf (turns_of cleared) (program_in cleared) (prints bytes)
  blame_prints trees are text =
      subst (λ (c : Cleared). BlameOf (turns_of c) (program_in c) (prints bytes)) same
      (trees, are, ap prints (text ∙ (λ i. blame_text (pushed.scale_is i) trees)))
