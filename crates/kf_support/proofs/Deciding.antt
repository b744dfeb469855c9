-- What the pass with scales tells of a program.
use Rattle.std.proofs.Common.{◌≡◌, ℕ, ◌^◌, ◌<◌, ◌≤◌, Result, Ok, Err, IsOk, MatchResult, ◌∙◌, subst, arith}
use Rattle.kf_frac.specs.Fractions.{limit}
use Rattle.kf_core.specs.Programs.{ProgramTree}
use Rattle.kf_core.specs.Scale.{scale_of}
use Rattle.kf_core.specs.Support.{Passed, program_pass}
use Rattle.kf_support.specs.declared.faults.Halt.{Halt}
use Rattle.kf_support.specs.declared.faults.Halt.TheVariants as halt
use Rattle.kf_support.specs.declared.faults.RunFault.{RunFault}
use Rattle.kf_support.specs.Answers.{IsHaltOf, halted}
use Rattle.kf_support.specs.Carried.{Reached, capped, carry_program, scale_in, CarryTells}

module _ (tells : CarryTells) (turns : ℕ) (p : ProgramTree) where
  abbrev Told : Passed Reached → Type 0
  Told r = MatchResult r (λ es. IsOk (program_pass turns p) × (scale_in es ≡ capped (scale_of turns p))) (λ f. program_pass turns p ≡ Err f)

  pub told_fault : {T : Type 0} (r : Result T Halt) (e : Halt) (kind : RunFault) (at : ℕ) → IsHaltOf (carry_program turns p) e → r ≡ Err e → r ≡ Err (halt.Fault kind at)
      → program_pass turns p ≡ Err (halted kind at)
  told_fault r e kind at h passed is =
      let same : e ≡ halt.Fault kind at = cc (passed, is) in
      subst Told (subst (IsHaltOf (carry_program turns p)) same h) (tells turns p)

  module _ (es : Reached) (scale : ℕ) (reached : carry_program turns p ≡ Ok es) (is : scale ≡ scale_in es) where
    told : IsOk (program_pass turns p) × (scale_in es ≡ capped (scale_of turns p))
    told = subst Told reached (tells turns p)

    scale_told : scale ≡ capped (scale_of turns p)
    scale_told = is ∙ told.1

    pub told_clear : IsOk (program_pass turns p)
    told_clear = told.0

    pub told_scale : scale < 2 ^ 127 → scale ≡ scale_of turns p
    told_scale low = let same = scale_told in omega arith

    pub told_passed : 2 ^ 127 ≤ scale → limit < scale_of turns p
    told_passed high = let same = scale_told in omega arith
