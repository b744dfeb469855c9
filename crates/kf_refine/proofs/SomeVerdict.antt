-- Two hypers have a verdict, or a cause why there is none.
use Rattle.std.proofs.Common.{◌≡◌, ◌≢◌, ℕ, ◌<◌, ◌≤◌, min, refl, ⊎_elim, length, Ok, Err}
use Rattle.std.proofs.lemmas.Bool.{cases_lt}
use Rattle.kf_frac.specs.Fractions.{limit}
use Rattle.kf_simplex.specs.Answers.{IsAnswer}
use Rattle.kf_simplex.specs.Base.{at}
use Rattle.kf_simplex.specs.Laws.{SomeAnswer}
use Rattle.kf_simplex.specs.Runs.{multipliers}
use Rattle.kf_simplex.specs.Solutions.{Refutes}
use Rattle.kf_simplex.specs.Systems.{LinearSystem}
use Rattle.kf_simplex.specs.declared.outcome.Outcome.TheVariants as outcome
use Rattle.kf_simplex.specs.declared.outcome.SimplexError.TheVariants as simplex
use Rattle.kf_simplex.proofs.Endings.{good_end}
use Rattle.kf_simplex.proofs.Outcomes.{multipliers_are_right}
use Rattle.kf_refine.specs.declared.verdict.RefineError.TheVariants as error
use Rattle.kf_refine.specs.Refinements.{HyperTree, count}
use Rattle.kf_refine.specs.Equations.{AreEquations, cells_of}
use Rattle.kf_refine.specs.Verdicts.{Yes, No, IsVerdict, Runs}
use Rattle.kf_refine.specs.Views.{IsProper}
use Rattle.kf_refine.specs.Laws.{SomeVerdict}
use Rattle.kf_refine.proofs.OneSystem.{spells}
use Rattle.kf_refine.proofs.OneVerdict.{Verdict, Answer}
use Rattle.kf_refine.proofs.SomeSystem.{some_system}
use Rattle.kf_refine.proofs.SomeTable.{some_matrix, some_table}
use Rattle.kf_refine.proofs.SomeTargets.{same_targets}
use Rattle.kf_refine.proofs.SomeWhole.{some_inners}
use Rattle.kf_refine.proofs.SomeMultiplier.{some_multiplier}

module _ (a b : HyperTree) (pivots : ℕ) (of_b : IsProper b) (targets : a.target ≡ b.target) (s : LinearSystem) (h : AreEquations a b s)
    (few : cells_of (length h.values) (count a) (count b) ≤ 4000000) where
  abbrev Some : Type 0
  Some = (r : Verdict) × IsVerdict a b pivots r

  abbrev run : (x : Answer) → IsAnswer s pivots x → Runs a b pivots x
  run x is = record { targets = targets; system = s; equations = h; few = few; is_answer = is }

  by_answer : (x : Answer) → x ≢ Err simplex.Mem → IsAnswer s pivots x → Some
  by_answer (Ok (outcome.Solution xs)) some is =
      let matrix = some_matrix (count a) (count b) xs in
      (Ok (Yes matrix.0), (xs, run (Ok (outcome.Solution xs)) is, matrix.1))
  by_answer (Ok (outcome.Multipliers ys)) some is =
      let ends = is.2.ends in
      let refutes : Refutes s (at ys) = multipliers_are_right s is.1 ys (good_end s pivots is.0 is.1 multipliers h.system is.2) ends.1 ends.2 is.3 in
      let k = some_multiplier (count a) (count b) h.values h.u h.v s (spells a b s h) (some_inners b of_b) (at ys) refutes in
      let table = some_table h.values (count b) ys k.0 k.1 k.2 in
      (Ok (No table.0), (ys, run (Ok (outcome.Multipliers ys)) is, table.1))
  by_answer (Err (simplex.Wide p)) some is = (Err (error.Wide p), run (Err (simplex.Wide p)) is)
  by_answer (Err simplex.Budget) some is = (Err error.Budget, run (Err simplex.Budget) is)
  by_answer (Err simplex.Mem) some is = absurd (some refl)

module _ (law : SomeAnswer) (a b : HyperTree) (pivots : ℕ) (of_a : IsProper a) (of_b : IsProper b) where
  same_target : a.target ≡ b.target → (r : Verdict) × IsVerdict a b pivots r
  same_target targets =
      let s = some_system a b of_a of_b in
      let cells : ℕ = cells_of (length s.1.values) (count a) (count b) in
      ⊎_elim
      (λ (many : 4000000 < cells).
      (Err (error.Cells (min limit cells)), record { targets = targets; values = s.1.values; are_kept = s.1.are_kept; many = many; is = refl }))
      (λ (few : cells ≤ 4000000).
      let answer = law s.0 pivots s.1.system in
      by_answer a b pivots of_b targets s.0 s.1 few answer.0 answer.1 answer.2)
      (cases_lt 4000000 cells)

  some : (r : Verdict) × IsVerdict a b pivots r
  some =
      ⊎_elim (λ (same : a.target ≡ b.target). same_target same) (λ (apart : a.target ≢ b.target). (Err error.Targets, apart))
      (same_targets a.target b.target)

pub some_verdict : SomeAnswer → SomeVerdict
some_verdict law a b pivots of_a of_b = some law a b pivots of_a of_b
