-- The hypers of two programs, what stops a verdict on them, and the mark of a certificate.
use Rattle.std.proofs.Common.{◌≡◌, ◌≢◌, ℕ, Bool, List, if◌then◌else◌, Ok, Err, Result, IfOk, IfErr, inl, inr, refl, sym, ap, subst, ◌∙◌}
use Rattle.kf_value.specs.Targets.{Item}
use Rattle.kf_core.specs.Joint.{joint_of}
use Rattle.kf_core.specs.Programs.{ProgramTree}
use Rattle.kf_core.specs.Rows.{IsHyperOf}
use Rattle.kf_core.specs.Scale.{scale_of as run_scale}
use Rattle.kf_hyper.specs.Views.{inners_of, scale_of, target_of}
use Rattle.kf_hyper.specs.declared.hyper.Hyper.{Hyper}
use Rattle.kf_load.specs.Views.{program_in}
use Rattle.kf_refine.specs.Refinements.{HyperTree}
use Rattle.kf_refine.specs.Verdicts.{IsVerdict, Proves, VerdictTree}
use Rattle.kf_refine.specs.Views.{hyper_tree, verdict_tree}
use Rattle.kf_refine.specs.declared.verdict.Verdict.{Verdict}
use Rattle.kf_refine.specs.declared.verdict.RefineError.{RefineError}
use Rattle.kf_refine.specs.declared.verdict.RefineError.TheVariants as error
use Rattle.kf_cert.specs.Certificates.{CertTree}
use Rattle.kf_cert.specs.CertTexts.{cert_text}
use Rattle.kf_cert.specs.Marks.{IsMarked}
use Rattle.kf_cert.specs.declared.mark.Mark.{Mark}
use Rattle.kf_cert.specs.declared.mark.CheckError.{CheckError}
use Rattle.kf_cert.specs.declared.mark.CheckError.TheVariants as check
use Rattle.kf_cert.proofs.Printable.{verdicts_writable}
use Rattle.kf_text.specs.VerdictTexts.{verdict_text}
use Rattle.kf_support.specs.Cleared.{turns_of, whole_scale}
use Rattle.kf_support.specs.declared.cleared.Cleared.{Cleared}
use Rattle.kf_top.specs.Answer.{IsHyperTree, MarkOn, RefineOutcome, mark_shown, other_target as differ_in_target, verdict_refusal}
use Rattle.kf_top.specs.Stops.{Answers, IsVerdictOn}
use Rattle.kf_top.specs.Views.{shown}
use Rattle.kf_top.specs.declared.verdict.Hypers.{Hypers}
use Rattle.kf_top.specs.declared.refusal.Done.{Done}
use Rattle.kf_top.specs.declared.refusal.Stop.{Stop}
use Rattle.kf_top.proofs.Steps.{answers_by}
use Rattle.kf_top.specs.Steps.{wide_cert, most_pivots, AreHypers, VerdictOn}

-- the hyper of a cleared program
pub is_hyper_tree : (turns : ℕ) (cleared : Cleared) → turns_of cleared ≡ turns → (h : Hyper) → IsHyperOf (joint_of (turns_of cleared) (program_in cleared)) (inners_of h)
    → scale_of h ≡ whole_scale cleared → target_of h ≡ (program_in cleared).target → IsHyperTree turns (program_in cleared) (hyper_tree h)
is_hyper_tree turns cleared often h hyper scale target = record {
  target = target;
  scale = scale ∙ cleared.scale_is ∙ ap (λ (n : ℕ). run_scale n (program_in cleared)) often;
  is_hyper = subst (λ (n : ℕ). IsHyperOf (joint_of n (program_in cleared)) (inners_of h)) often hyper;
}

-- an error that isn't want of memory is why there is no verdict
pub no_verdict : (json : Bool) (a b : HyperTree) (e k : RefineError) → e ≡ k → k ≢ error.Mem
    → (e ≢ error.Mem → IsVerdict a b most_pivots (Err e)) → VerdictOn json a b (Err (verdict_refusal k))
no_verdict json a b e k same some is = (Err k, subst (λ (f : RefineError). IsVerdict a b most_pivots (Err f)) same (is (λ mem. some (sym same ∙ mem))), refl)

-- why there is none
pub its_error : (a b : HyperTree) (given : Result Verdict RefineError) (e : RefineError) → given ≡ Err e
    → IfErr given (λ e. e ≢ error.Mem → IsVerdict a b most_pivots (Err e)) → e ≢ error.Mem → IsVerdict a b most_pivots (Err e)
its_error a b given e same is = subst (λ (t : Result Verdict RefineError). IfErr t (λ f. f ≢ error.Mem → IsVerdict a b most_pivots (Err f))) same is

-- what is known of a verdict
pub its_verdict : (hypers : Hypers) (given : Result Verdict RefineError) (v : Verdict) → given ≡ Ok v → IfOk given (IsVerdictOn hypers) → IsVerdictOn hypers v
its_verdict hypers given v same is = subst (λ (t : Result Verdict RefineError). IfOk t (IsVerdictOn hypers)) same is

pub is_verdict_on : (hypers : Hypers) (given : Result Verdict RefineError)
    → IfOk given (λ v. IsVerdict (hyper_tree hypers.a) (hyper_tree hypers.b) most_pivots (Ok (verdict_tree v)))
    → IfOk given (λ v. Proves (hyper_tree hypers.a) (hyper_tree hypers.b) (verdict_tree v))
    → IfOk given (IsVerdictOn hypers)
is_verdict_on hypers (Ok v) is proves = record {
  is = is;
  proves = proves;
  writable = verdicts_writable (hyper_tree hypers.a) (hyper_tree hypers.b) most_pivots (verdict_tree v) hypers.a.shape hypers.b.shape is;
}
is_verdict_on hypers (Err e) is proves = tt

-- the verdict on the hypers of two programs is that on them
pub on_hypers : (json : Bool) (turns : ℕ) (p q : ProgramTree) (a b : HyperTree) → AreHypers turns p q a b → (r : Result Done Stop)
    → Answers shown r (VerdictOn json a b) → Answers shown r (RefineOutcome json turns p q)
on_hypers json turns p q a b hypers r answer = answers_by shown (VerdictOn json a b) (RefineOutcome json turns p q) (λ result h. (a, hypers.first, (b, hypers.second, h))) r answer

-- hypers that are about different things have no verdict
pub different : (json : Bool) (turns : ℕ) (p q : ProgramTree) (a b : HyperTree) → AreHypers turns p q a b → a.target ≢ b.target
    → RefineOutcome json turns p q (Err differ_in_target)
different json turns p q a b hypers differ = (a, hypers.first, (b, hypers.second, (Err error.Targets, differ, refl)))

-- the text of a verdict about the same target
pub text_of : (json : Bool) (v : VerdictTree) {target about : List Item} → target ≡ about → {bytes : List ℕ}
    → bytes ≡ (if json then cert_text target v else verdict_text target v) → bytes ≡ (if json then cert_text about v else verdict_text about v)
text_of json v same is = is ∙ ap (λ (items : List Item). if json then cert_text items v else verdict_text items v) same

module _ (turns : ℕ) (p q : ProgramTree) (a b : HyperTree) (hypers : AreHypers turns p q a b) (c : CertTree) where
  -- the mark of a certificate on hypers of two targets, or of one
  pub other_target : a.target ≢ b.target → MarkOn turns p q c (Err differ_in_target)
  other_target differ = (a, hypers.first, (b, hypers.second, inl (differ, refl)))

  pub no_mark : a.target ≡ b.target → (e : CheckError) → e ≡ check.Wide → (e ≢ check.Mem → IsMarked a b c (Err e)) → MarkOn turns p q c (Err wide_cert)
  no_mark same e wide is =
      let some : e ≢ check.Mem = λ mem. let clash : check.Wide ≡ check.Mem = sym wide ∙ mem in absurd (cc) in
      (a, hypers.first, (b, hypers.second, inr (same, (Err check.Wide, subst (λ (f : CheckError). IsMarked a b c (Err f)) wide (is some), refl))))

  pub a_mark : a.target ≡ b.target → (mark : Mark) → IsMarked a b c (Ok mark) → MarkOn turns p q c (mark_shown (Ok mark))
  a_mark same mark is = (a, hypers.first, (b, hypers.second, inr (same, (Ok mark, is, refl))))
