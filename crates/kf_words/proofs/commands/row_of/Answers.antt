use Rattle.std.proofs.Common.{ap, ◌∙◌, List, ℕ}
use Rattle.std.specs.Map.{lookup}
use Rattle.std.specs.Prelude.{option_map}
use Rattle.std.specs.Str.{bytes_eq}
use Rattle.kf_words.specs.CommandViews.{row_meant}
use Rattle.kf_words.specs.Task.{CommandRow}
use Rattle.kf_words.proofs.FirstRows.{first_meant, values_found}
use Rattle.kf_words.proofs.commands.row_of.Goals as goal

pub returns-clause-row : goal.returns-clause-row
returns-clause-row c =
    ap (option_map row_meant) c.first_row.ensures
    ∙ (first_meant c.commands.result.now c.args.word.now
    ∙ ap (λ (rows : List (List ℕ × CommandRow)). lookup (bytes_eq c.args.word.now) rows) c.commands.ensures.meant)

pub returns-clause-values : goal.returns-clause-values
returns-clause-values c = values_found c.commands.result.now c.args.word.now c.first_row.result c.first_row.ensures c.commands.ensures.values
