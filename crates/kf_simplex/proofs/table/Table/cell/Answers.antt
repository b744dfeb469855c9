use Rattle.std.proofs.Common.{List, FitsSigned, ap, rules, arith, ◌∙◌}
use Rattle.std.proofs.lemmas.Int.{to_z-of_z}
use mir.Syntax.{w128}
use Rattle.kf_simplex.specs.declared.row.Entry.{Entry}
use Rattle.kf_simplex.specs.Entries.{number_in}
use Rattle.kf_simplex.proofs.Reducing.{entries_read}
use Rattle.kf_simplex.proofs.table.Table.cell.Goals as goal

pub returns : goal.returns
returns c =
    let f : FitsSigned w128 c.number_at.result = search rules in
    to_z-of_z w128 c.number_at.result f
    ∙ c.number_at.ensures
    ∙ ap (λ (es : List Entry). number_in es c.args.column)
    (entries_read c.args.self.now.rows.items c.args.row c.index.result.now (omega (arith, c.args.self.now.rows_len, c.requires.row)) c.index.ensures)
