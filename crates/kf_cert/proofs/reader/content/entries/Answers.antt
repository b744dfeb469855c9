use Rattle.kf_cert.specs.Reading.{gain_said, reads_gain}
use Rattle.kf_cert.specs.declared.cert.CertEntry.{CertEntry}
use Rattle.std.proofs.Common.{◌∙◌, sym, ap, codes}
use Rattle.std.proofs.lemmas.Result.{err_from_is_err_and}
use Rattle.serde_json.specs.View.{view}
use Rattle.kf_json.specs.Json.{members}
use Rattle.kf_json.proofs.Viewing.{seen_at}
use Rattle.kf_cert.proofs.Gathered.{gathers_first, gathers_next, gathers_all, gathers_stops}
use Rattle.std.proofs.lemmas.List.{map-id}
use Rattle.kf_cert.proofs.reader.content.entries.Goals as goal

pub loop-gain-init : goal.loop-gain-init
loop-gain-init c = gathers_first gain_said (λ (e : CertEntry). e) reads_gain c.members-gain-items.result.now _ c.new-made.ensures.items

pub returns-in_err-add_read-clause-err : goal.returns-in_err-add_read-clause-err
returns-in_err-add_read-clause-err c =
    let p = err_from_is_err_and c.from_residual.result c.from_residual.ensures.1 in
    rw p.1
    (gathers_stops gain_said (λ (e : CertEntry). e) reads_gain c.members-gain-items.result.now c.loop-gain.gain-index c.loop-gain.made.items c.loop-gain.invariant _ (c.members-gain-items.ensures ∙ ap members (seen_at (codes "gains") (view c.args.action.now) _ c.get.ensures))
    c.gain-item.result _ _ _ c.loop-gain-test.true c.gain-item.is p.2 c.entry.ensures.err c.in_err-add_read.ensures.err)

pub loop-gain-preserved : goal.loop-gain-preserved
loop-gain-preserved c =
    gathers_next gain_said (λ (e : CertEntry). e) reads_gain c.members-gain-items.result.now c.loop-gain.gain-index c.loop-gain.made.items c.loop-gain.invariant
    c.gain-item.result _ _ c.loop-gain-test.true c.gain-item.is c.entry.ensures.ok c.entry.ensures.reads c.in_ok-add_read.ensures.ok

pub returns-clause-ok : goal.returns-clause-ok
returns-clause-ok c =
    c.new.ensures ∙ sym (map-id c.loop-gain.made.items) ∙ (gathers_all gain_said (λ (e : CertEntry). e) reads_gain c.members-gain-items.result.now c.loop-gain.gain-index c.loop-gain.made.items c.loop-gain.invariant _ (c.members-gain-items.ensures ∙ ap members (seen_at (codes "gains") (view c.args.action.now) _ c.get.ensures)) c.loop-gain-test.false).0

pub returns-clause-reads : goal.returns-clause-reads
returns-clause-reads c =
    (gathers_all gain_said (λ (e : CertEntry). e) reads_gain c.members-gain-items.result.now c.loop-gain.gain-index c.loop-gain.made.items c.loop-gain.invariant _ (c.members-gain-items.ensures ∙ ap members (seen_at (codes "gains") (view c.args.action.now) _ c.get.ensures)) c.loop-gain-test.false).1
