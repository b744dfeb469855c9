use Rattle.std.proofs.Common.{◌≡◌, ◌≤◌, subst, ◌∙◌}
use Rattle.kf_frac.specs.Fractions.{limit}
use Rattle.kf_core.specs.Joint.{joint_of}
use Rattle.kf_core.specs.Programs.{ProgramTree}
use Rattle.kf_core.specs.Rows.{IsHyperOf}
use Rattle.kf_core.specs.Scale.{scale_of}
use Rattle.kf_hyper.specs.Views.{inners_of}
use Rattle.kf_load.specs.Views.{program_in}
use Rattle.kf_make.specs.Made.{made_program}
use Rattle.kf_support.specs.Cleared.{turns_of}
use Rattle.kf_text.specs.Texts.{make_text}
use Rattle.kf_top.proofs.Made.{made_outcome}
use Rattle.kf_top.proofs.hyper.made_hyper.Goals as goal

pub returns-clause-answer : goal.returns-clause-answer
returns-clause-answer c =
    let count = c.args.count in
    let turns = c.args.turns in
    let cleared = c.in_ok-cleared.cleared in
    let p = made_program count in
    let is : program_in cleared ≡ p = c.in_ok-cleared.ensures.program in
    let often : turns_of cleared ≡ turns = c.in_ok-cleared.ensures.turns in
    let scale : scale_of (turns_of cleared) (program_in cleared) ≡ scale_of turns p = (λ i. scale_of (often i) (is i)) in
    let few : scale_of turns p ≤ limit = subst (λ n. n ≤ limit) (cleared.scale_is ∙ scale) cleared.fits in
    let whole = c.in_ok-hyper.ensures.scale ∙ cleared.scale_is ∙ scale in
    let inners = inners_of c.in_ok-hyper.hyper in
    made_outcome c.made_laws.ensures.parsed c.made_laws.ensures.typed turns count (c.made_laws.ensures.clear turns count) few inners c.in_ok-bytes.bytes.items
    (subst (λ n. IsHyperOf (joint_of n p) inners) often (subst (λ (q : ProgramTree). IsHyperOf (joint_of (turns_of cleared) q) inners) is c.in_ok-hyper.ensures.hyper))
    (c.in_ok-bytes.ensures ∙ (λ i. make_text count (whole i) inners))
