use Rattle.std.proofs.Common.{◌∙◌, [], ap, codes}
use Rattle.std.specs.Prelude.{unwrap_or}
use Rattle.clap.specs.Words.{found_of}
use Rattle.clap.proofs.WalkLemmas.{raw_values-rows}
use Rattle.kf_words.proofs.Matches.{values_or_none}
use Rattle.kf_words.proofs.arguments.values_of.Goals as goal

pub returns : goal.returns
returns c =
    values_or_none c.get_raw.result _ c.unwrap_or_default.result c.unwrap_or_default.ensures (λ none is. is)
    ∙ ap (λ o. unwrap_or o []) (c.get_raw.ensures ∙ raw_values-rows (found_of c.args.matches.now) (codes "words"))
