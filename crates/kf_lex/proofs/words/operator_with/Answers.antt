use Rattle.std.proofs.Common.{◌≡◌, ◌∙◌, ℕ, List, Option, sym, subst}
use Rattle.kf_ops.specs.Rows.{Row, operators}
use Rattle.kf_ops.specs.Views.{row_of, rows_of}
use Rattle.kf_ops.specs.declared.row.Op.{Op}
use Rattle.kf_lex.specs.Operators.{operator_with}
use Rattle.kf_lex.proofs.Spelling.{differs, found, unchosen}
use Rattle.kf_lex.proofs.words.operator_with.Goals as goal

-- what is said of the table's rows is said of the operators
along : (text : List ℕ) (rows : List Row) (o : Option Op) → rows ≡ operators → o ≡ operator_with rows text → o ≡ operator_with operators text
along text rows o e h = subst (λ rs. o ≡ operator_with rs text) e h

pub returns-in_err-row : goal.returns-in_err-row
returns-in_err-row c =
    let text = c.args.text.now in
    along text (rows_of c.operators-table.result) _ c.operators-table.ensures
    (c.from_residual.ensures ∙ sym (unchosen text _ (λ k d below. differs _ text (λ e. c.in_err-row.ensures.exact k d below (sym e)))))

pub returns : goal.returns
returns c =
    let text = c.args.text.now in
    along text (rows_of c.operators-table.result) _ c.operators-table.ensures
    (found row_of text c.operators-table.result _ _ (sym c.in_ok-row.ensures.computed))
