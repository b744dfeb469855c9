use Rattle.std.proofs.Common.{◌≡◌, List, [], ◌∷◌, ap, subst, ◌∙◌, arith}
use Rattle.kf_column.specs.declared.entry.Entry.{Entry}
use Rattle.kf_column.specs.Columns.{IsColumn}
use Rattle.kf_column.specs.Joint.{Joint, mass}
use Rattle.kf_column.proofs.Scaling.{total_positive}
use Rattle.kf_core.specs.Ready.{IsPushed}
use Rattle.kf_push.specs.Meanings.{runs_between}
use Rattle.kf_silent.proofs.QuietRuns.{sum_behind}
use Rattle.kf_quiet.proofs.quiet.hush_one.Goals as goal

abbrev Matrix : Type 0
Matrix = List (List Entry)

pub alone-requires-clause-some : goal.alone-requires-clause-some
alone-requires-clause-some g c =
    let some = total_positive c.args.column.now c.is_column.ensures in
    omega (arith, some, c.requires.fits, c.scale.ensures)

pub sum_of-requires : goal.sum_of-requires
sum_of-requires g c =
    let column = c.args.column.now in
    let one : c.in_ok-one.one.columns ≡ column ∷ [] =
    ap (λ (j : Joint). j.columns) c.in_ok-one.ensures ∙ ap (λ (d : List Entry). d ∷ []) c.in_ok-copy.ensures in
    let kept : mass c.in_ok-after.after.columns ≡ mass (column ∷ []) = c.in_ok-after.ensures.mass ∙ ap mass one in
    let some = total_positive column c.is_column.ensures in
    record { some = λ none. omega (arith, kept, some, ap mass none) }

pub returns-clause-behind : goal.returns-clause-behind
returns-clause-behind g c =
    let from = runs_between (g.P.Pusher.meaning c.args.p.now) c.args.from c.args.to in
    let column = c.args.column.now in
    let one : c.in_ok-one.one.columns ≡ column ∷ [] =
    ap (λ (j : Joint). j.columns) c.in_ok-one.ensures ∙ ap (λ (d : List Entry). d ∷ []) c.in_ok-copy.ensures in
    sum_behind from column c.in_ok-after.after.columns
    (subst (λ (columns : Matrix). IsPushed from columns c.in_ok-after.after.columns) one c.in_ok-after.ensures.pushed)
    c.in_ok-erased.erased c.is_column-2.ensures c.in_ok-erased.ensures.weights
