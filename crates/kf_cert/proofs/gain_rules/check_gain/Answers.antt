use Rattle.std.proofs.Common.{◌≡◌, Err, sym, ◌∙◌, ap, subst, true≢false}
use Rattle.std.specs.List.{AllZip}
use Rattle.std.proofs.lemmas.Result.{err_from_is_err_and}
use Rattle.kf_gain.specs.Gains.{TableTree}
use Rattle.kf_gain.specs.Views.{table_tree}
use Rattle.kf_refine.specs.Refinements.{Separates}
use Rattle.kf_refine.specs.Views.{hyper_tree}
use Rattle.kf_value.specs.Views.{items_of}
use Rattle.kf_cert.specs.Certificates.{No}
use Rattle.kf_cert.specs.Marks.{IsMarked}
use Rattle.kf_cert.specs.Naming.{IsMade, AreNarrow}
use Rattle.kf_cert.specs.Views.{named_table}
use Rattle.kf_cert.proofs.Rejecting.{fault_told, wide_marked, separated, not_separated}
use Rattle.kf_cert.proofs.Standing.{table_of}
use Rattle.kf_cert.proofs.gain_rules.check_gain.Goals as goal

pub returns-in_err-separates-clause-err : goal.returns-in_err-separates-clause-err
returns-in_err-separates-clause-err c =
    let a = hyper_tree c.args.a.now in
    let b = hyper_tree c.args.b.now in
    let t = named_table c.args.gain.now in
    let made = c.in-Some.actions.items in
    let read = subst (λ named. AllZip (IsMade (items_of c.target.result.now)) named made) c.as_slice.ensures (rw c.in-Some.is at c.in_ok-actions.ensures.some) in
    let all : AllZip (IsMade a.target) t.actions made = subst (λ target. AllZip (IsMade target) t.actions made) c.target.ensures read in
    let table : table_tree c.table.result ≡ table_of a.target t made all = c.table.ensures in
    let p = err_from_is_err_and c.from_residual-in_err-separates.result c.from_residual-in_err-separates.ensures.1 in
    rw p.1 (λ other.
    fault_told (λ e. IsMarked a b (No t) (Err e)) c.in_err-separates.field-0.0 p.0 p.2
    (λ wide. wide_marked a b t made all
    (subst (λ (u : TableTree). AreNarrow a.scale b.scale u → ⊥) table (c.in_err-separates.ensures.wide (ap Err wide))))
    other)

pub returns-then-branch-clause-is : goal.returns-then-branch-clause-is
returns-then-branch-clause-is c =
    let a = hyper_tree c.args.a.now in
    let b = hyper_tree c.args.b.now in
    let t = named_table c.args.gain.now in
    let made = c.in-Some.actions.items in
    let read = subst (λ named. AllZip (IsMade (items_of c.target.result.now)) named made) c.as_slice.ensures (rw c.in-Some.is at c.in_ok-actions.ensures.some) in
    let all : AllZip (IsMade a.target) t.actions made = subst (λ target. AllZip (IsMade target) t.actions made) c.target.ensures read in
    let table : table_tree c.table.result ≡ table_of a.target t made all = c.table.ensures in
    let narrow = subst (λ (u : TableTree). AreNarrow a.scale b.scale u) table c.in_ok-separates.ensures.narrow in
    separated a b t made all narrow (subst (λ (u : TableTree). Separates u a b) table (c.in_ok-separates.ensures.told.0 c.if-branch.true))

pub returns-else-branch-clause-is : goal.returns-else-branch-clause-is
returns-else-branch-clause-is c =
    let a = hyper_tree c.args.a.now in
    let b = hyper_tree c.args.b.now in
    let t = named_table c.args.gain.now in
    let made = c.in-Some.actions.items in
    let read = subst (λ named. AllZip (IsMade (items_of c.target.result.now)) named made) c.as_slice.ensures (rw c.in-Some.is at c.in_ok-actions.ensures.some) in
    let all : AllZip (IsMade a.target) t.actions made = subst (λ target. AllZip (IsMade target) t.actions made) c.target.ensures read in
    let table : table_tree c.table.result ≡ table_of a.target t made all = c.table.ensures in
    let narrow = subst (λ (u : TableTree). AreNarrow a.scale b.scale u) table c.in_ok-separates.ensures.narrow in
    not_separated a b t made all narrow
    (λ is. absurd (true≢false (sym (c.in_ok-separates.ensures.told.1 (subst (λ (u : TableTree). Separates u a b) (sym table) is)) ∙ c.if-branch.false)))
