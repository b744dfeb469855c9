use Rattle.std.proofs.lemmas.Result.{err_from_is_err_and}
use Rattle.kf_load.specs.Steps.{Gives}
use Rattle.kf_load.specs.Texts.{cleared}
use Rattle.kf_load.specs.Views.{program_in, text_of}
use Rattle.kf_load.proofs.Stepwise.{both_of_two, first_of_two, second_of_two}
use Rattle.kf_load.proofs.clear.cleared_pair.Goals as goal

pub cleared-first_cleared-requires : goal.cleared-first_cleared-requires
cleared-first_cleared-requires c = record { proper = c.requires.first; some_turns = c.requires.some_turns; few_turns = c.requires.few_turns }

pub cleared-requires : goal.cleared-requires
cleared-requires c = record { proper = rw c.in_ok-text.ensures.both.0 c.requires.second; some_turns = c.requires.some_turns; few_turns = c.requires.few_turns }

pub returns-in_err-text : goal.returns-in_err-text
returns-in_err-text c =
    let e = err_from_is_err_and c.from_residual.result c.from_residual.ensures.1 in
    let t = text_of c.args.first.now c.args.texts.first in
    let u = text_of c.args.second.now c.args.texts.second in
    let has = rw c.in_err-text.ensures.err at c.cleared-first_cleared.ensures in
    rw (e.1, e.2)
    (record {
      answer = first_of_two (λ v. Gives (cleared c.args.turns v)) t u c.in_err-text.field-0.0 has.answer;
      first_program = tt;
      second_program = tt;
      first_turns = tt;
      second_turns = tt;
      read = has.read;
    })

pub returns-in_err-first : goal.returns-in_err-first
returns-in_err-first c =
    let e = err_from_is_err_and c.from_residual-in_err-first.result c.from_residual-in_err-first.ensures.1 in
    let t = text_of c.args.first.now c.args.texts.first in
    let u = text_of c.args.second.now c.args.texts.second in
    let before = rw c.in_ok-text.ensures.both.1 at c.cleared-first_cleared.ensures in
    let has = rw (c.in_err-first.ensures.err, c.in_ok-text.ensures.both.0) at c.cleared.ensures in
    rw (e.1, e.2)
    (record {
      answer = second_of_two (λ v. Gives (cleared c.args.turns v)) t u c.in_err-first.field-0.0 (program_in c.in_ok-text.first_cleared) before.answer has.answer;
      first_program = tt;
      second_program = tt;
      first_turns = tt;
      second_turns = tt;
      read = has.read;
    })

pub returns : goal.returns
returns c =
    let t = text_of c.args.first.now c.args.texts.first in
    let u = text_of c.args.second.now c.args.texts.second in
    let before = rw c.in_ok-text.ensures.both.1 at c.cleared-first_cleared.ensures in
    let has = rw (c.in_ok-first.ensures.both.1, c.in_ok-text.ensures.both.0) at c.cleared.ensures in
    rw c.in_ok-first.ensures.both.0
    (record {
      answer = both_of_two (λ v. Gives (cleared c.args.turns v)) t u (program_in c.in_ok-text.first_cleared) (program_in c.in_ok-first.second) before.answer has.answer;
      first_program = before.program;
      second_program = has.program;
      first_turns = before.turns;
      second_turns = has.turns;
      read = tt;
    })
