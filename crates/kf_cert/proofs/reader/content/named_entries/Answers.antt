use Rattle.std.proofs.Common.{map}
use Rattle.kf_cert.specs.Parts.{entry_said}
use Rattle.kf_cert.specs.Reading.{reads_entry}
use Rattle.kf_cert.specs.Views.{entry_tree}
use Rattle.std.proofs.Common.{◌∙◌, ap, codes}
use Rattle.std.proofs.lemmas.Result.{err_from_is_err_and}
use Rattle.serde_json.specs.View.{view}
use Rattle.kf_json.specs.Json.{members}
use Rattle.kf_json.proofs.Viewing.{seen_at}
use Rattle.kf_cert.proofs.Gathered.{gathers_first, gathers_next, gathers_all, gathers_stops, always}
use Rattle.kf_cert.proofs.reader.content.named_entries.Goals as goal

pub loop-value-init : goal.loop-value-init
loop-value-init c = gathers_first entry_said entry_tree reads_entry c.members-value-items.result.now _ c.new-made.ensures.items

pub returns-in_err-add_read-clause-err : goal.returns-in_err-add_read-clause-err
returns-in_err-add_read-clause-err c =
    let p = err_from_is_err_and c.from_residual.result c.from_residual.ensures.1 in
    rw p.1
    (gathers_stops entry_said entry_tree reads_entry c.members-value-items.result.now c.loop-value.value-index c.loop-value.made.items c.loop-value.invariant _ (c.members-value-items.ensures ∙ ap members (seen_at (codes "entries") (view c.args.cert.now) _ c.get.ensures))
    c.value-item.result _ _ _ c.loop-value-test.true c.value-item.is p.2 (always _ _ c.named_entry.ensures.err) c.in_err-add_read.ensures.err)

pub loop-value-preserved : goal.loop-value-preserved
loop-value-preserved c =
    gathers_next entry_said entry_tree reads_entry c.members-value-items.result.now c.loop-value.value-index c.loop-value.made.items c.loop-value.invariant
    c.value-item.result _ _ c.loop-value-test.true c.value-item.is c.named_entry.ensures.ok c.named_entry.ensures.reads c.in_ok-add_read.ensures.ok

pub returns-clause-ok : goal.returns-clause-ok
returns-clause-ok c =
    ap (map entry_tree) c.new.ensures ∙ (gathers_all entry_said entry_tree reads_entry c.members-value-items.result.now c.loop-value.value-index c.loop-value.made.items c.loop-value.invariant _ (c.members-value-items.ensures ∙ ap members (seen_at (codes "entries") (view c.args.cert.now) _ c.get.ensures)) c.loop-value-test.false).0

pub returns-clause-reads : goal.returns-clause-reads
returns-clause-reads c =
    (gathers_all entry_said entry_tree reads_entry c.members-value-items.result.now c.loop-value.value-index c.loop-value.made.items c.loop-value.invariant _ (c.members-value-items.ensures ∙ ap members (seen_at (codes "entries") (view c.args.cert.now) _ c.get.ensures)) c.loop-value-test.false).1
