use Rattle.std.proofs.Common.{[], ◌∷◌}
use Rattle.std.proofs.lemmas.Result.{err_from_is_err_and}
use Rattle.kf_load.specs.Steps.{Each, Gives}
use Rattle.kf_load.specs.Texts.{TextOf, cleared}
use Rattle.kf_load.specs.Views.{programs_in, texts_in}
use Rattle.kf_load.proofs.Stepwise.{counts_next, pair_next, pair_stops}
use Rattle.kf_load.proofs.clear.two_programs.Goals as goal

pub returns-in_err-texts : goal.returns-in_err-texts
returns-in_err-texts g c =
    let p = err_from_is_err_and c.from_residual.result c.from_residual.ensures.1 in
    rw (p.1, p.2)
    (record {
      answer = pair_stops _ _ _ c.args.first.now c.args.second.now (Each TextOf) (Each (λ t. Gives (cleared c.args.turns t))) c.in_err-texts.field-0.0 c.in_err-texts.ensures.answer;
      counts = c.in_err-texts.ensures.counts;
      unchanged = c.in_err-texts.ensures.unchanged;
      first_turns = tt;
      second_turns = tt;
    })

pub cleared_pair-requires : goal.cleared_pair-requires
cleared_pair-requires g c = record {
  first = c.in_ok-texts.ensures.first_proper;
  second = c.in_ok-texts.ensures.second_proper;
  some_turns = c.requires.some_turns;
  few_turns = c.requires.few_turns;
}

pub returns : goal.returns
returns g c = record {
  answer = pair_next _ _ _ c.args.first.now c.args.second.now (Each TextOf) (Each (λ t. Gives (cleared c.args.turns t))) programs_in (texts_in c.args.first.now c.args.second.now c.in_ok-texts.texts)
      c.cleared_pair.result c.in_ok-texts.ensures.answer c.cleared_pair.ensures.answer;
  counts = counts_next (c.args.first.now ∷ c.args.second.now ∷ []) _ _ c.cleared_pair.result c.in_ok-texts.ensures.counts c.cleared_pair.ensures.read;
  unchanged = c.in_ok-texts.ensures.unchanged;
  first_turns = c.cleared_pair.ensures.first_turns;
  second_turns = c.cleared_pair.ensures.second_turns;
}
