use Rattle.std.proofs.Common.{[], ◌∷◌}
use Rattle.std.proofs.lemmas.Result.{err_from_is_err_and}
use Rattle.kf_load.specs.Texts.{LongCleared, TextOf}
use Rattle.kf_load.specs.Views.{program_in, text_of}
use Rattle.kf_load.proofs.Stepwise.{counts_next, file_next, file_stops}
use Rattle.kf_load.proofs.clear.cleared_program.Goals as goal

pub returns-in_err-text : goal.returns-in_err-text
returns-in_err-text g c =
    let p = err_from_is_err_and c.from_residual.result c.from_residual.ensures.1 in
    rw (p.1, p.2)
    (record {
      answer = file_stops _ _ _ c.args.name.now TextOf (λ file. LongCleared c.args.turns c.args.least) c.in_err-text.field-0.0 c.in_err-text.ensures.answer;
      counts = c.in_err-text.ensures.counts;
      unchanged = c.in_err-text.ensures.unchanged;
      turns = tt;
      long = tt;
    })

pub long_cleared-requires : goal.long_cleared-requires
long_cleared-requires g c = record { proper = c.in_ok-text.ensures.proper; some_turns = c.requires.some_turns; few_turns = c.requires.few_turns }

pub returns : goal.returns
returns g c = record {
  answer = file_next _ _ _ c.args.name.now TextOf (λ file. LongCleared c.args.turns c.args.least) program_in (text_of c.args.name.now c.in_ok-text.text) c.long_cleared.result
      c.in_ok-text.ensures.answer (λ bytes. c.long_cleared.ensures.answer);
  counts = counts_next (c.args.name.now ∷ []) _ _ c.long_cleared.result c.in_ok-text.ensures.counts c.long_cleared.ensures.read;
  unchanged = c.in_ok-text.ensures.unchanged;
  turns = c.long_cleared.ensures.turns;
  long = c.long_cleared.ensures.long;
}
