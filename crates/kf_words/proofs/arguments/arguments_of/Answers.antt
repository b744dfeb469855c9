use Rattle.std.proofs.Common.{◌∙◌, codes}
use Rattle.clap.proofs.WalkLemmas.{first_value-rows}
use Rattle.clap.specs.Words.{found_of}
use Rattle.kf_words.proofs.arguments.arguments_of.Goals as goal

pub returns : goal.returns
returns c =
    let f = found_of c.args.matches.now in
    let values = c.values_of.ensures in
    let gain = c.get_str.ensures ∙ first_value-rows f (codes "gain") in
    let turns = c.get_str-2.ensures ∙ first_value-rows f (codes "turns") in
    λ i. record { values = values i; gain = gain i; turns = turns i; json = c.is_set.ensures i }
