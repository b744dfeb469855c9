use Rattle.std.proofs.Common.{◌≡◌, ◌*◌, false, true≢false, sym, ap, subst, ◌∙◌}
use Rattle.kf_core.specs.Checked.{IsChecked}
use Rattle.kf_core.proofs.Unsquashed.{checked_again}
use Rattle.kf_core.specs.Programs.{ProgramTree}
use Rattle.kf_core.specs.Views.{program_tree}
use Rattle.kf_prior.specs.Priors.{initial_count}
use Rattle.kf_refine.specs.Views.{hyper_tree}
use Rattle.kf_load.specs.Views.{program_in}
use Rattle.kf_support.specs.Cleared.{turns_of}
use Rattle.kf_value.specs.Numbers.{target_size}
use Rattle.kf_top.proofs.Verdicts.{different, is_verdict_on, on_hypers}
use Rattle.kf_top.proofs.covers.full_covers.Goals as goal

pub returns-then-not-same_target-clause-answer : goal.returns-then-not-same_target-clause-answer
returns-then-not-same_target-clause-answer c =
    let pair = c.args.pair.now in
    let hypers = c.in_ok-hypers.hypers in
    different false (turns_of pair.first) (program_in pair.first) (program_in pair.second) (hyper_tree hypers.a) (hyper_tree hypers.b)
    c.in_ok-hypers.ensures (λ same. true≢false (sym (c.same_target.ensures.1 (c.target.ensures ∙ same ∙ sym c.target-2.ensures)) ∙ c.if-not-same_target.true))

pub initial_stores-stores-requires : goal.initial_stores-stores-requires
initial_stores-stores-requires c =
    let p = program_in c.args.pair.now.first in
    subst (λ (q : ProgramTree). IsChecked q) (ap program_tree (sym c.program.ensures)) (checked_again p c.args.pair.now.first.checked)

pub covers-verdict-requires-clause-first : goal.covers-verdict-requires-clause-first
covers-verdict-requires-clause-first c =
    let p = program_in c.args.pair.now.first in
    let stores : initial_count p ≡ c.initial_stores-stores.result = ap (λ q. initial_count (program_tree q)) (sym c.program.ensures) ∙ sym c.initial_stores-stores.ensures in
    ap target_size c.in_ok-hypers.ensures.first.target ∙ c.full_laws.ensures.square p c.requires.first ∙ (λ i. stores i * stores i)

pub covers-verdict-requires-clause-second : goal.covers-verdict-requires-clause-second
covers-verdict-requires-clause-second c =
    let p = program_in c.args.pair.now.first in
    let stores : initial_count p ≡ c.initial_stores-stores.result = ap (λ q. initial_count (program_tree q)) (sym c.program.ensures) ∙ sym c.initial_stores-stores.ensures in
    let same = sym c.target-2.ensures ∙ sym (c.same_target.ensures.0 c.if-not-same_target.false) ∙ c.target.ensures in
    ap target_size (same ∙ c.in_ok-hypers.ensures.first.target) ∙ c.full_laws.ensures.square p c.requires.first ∙ (λ i. stores i * stores i)

pub printed_verdict-requires-clause-ok : goal.printed_verdict-requires-clause-ok
printed_verdict-requires-clause-ok c = is_verdict_on c.in_ok-hypers.hypers c.covers-verdict.result c.covers-verdict.ensures.is c.covers-verdict.ensures.proves

pub returns-clause-answer : goal.returns-clause-answer
returns-clause-answer c =
    let pair = c.args.pair.now in
    let hypers = c.in_ok-hypers.hypers in
    on_hypers false (turns_of pair.first) (program_in pair.first) (program_in pair.second) (hyper_tree hypers.a) (hyper_tree hypers.b)
    c.in_ok-hypers.ensures c.printed_verdict.result c.printed_verdict.ensures.answer
