use Rattle.std.proofs.Common.{◌≡◌, ℕ, List, [], ◌∷◌, ◌++◌, ap, ◌∙◌}
use Rattle.serde_json.specs.Written.{has_float, compact_text}
use Rattle.kf_value.specs.Views.{items_of}
use Rattle.kf_refine.specs.Views.{verdict_tree}
use Rattle.kf_cert.specs.Certificates.{cert_of}
use Rattle.kf_cert.specs.CertTexts.{cert_text}
use Rattle.kf_cert.proofs.Writable.{printable}
use Rattle.kf_cert.proofs.ReadingBack.{cert_has_no_float, reads_back}
use Rattle.kf_cert.proofs.writer.write_cert.Goals as goal

line_is : (c : goal.In_ok-push) → c.push.new.self.items ≡ cert_text (items_of c.args.t.now) (verdict_tree c.args.v.now)
line_is c =
    let same = c.in_ok-verdict_value.ensures.data in
    let whole = ap has_float same ∙ cert_has_no_float (items_of c.args.t.now) (verdict_tree c.args.v.now) c.requires in
    c.in_ok-push.ensures.items ∙ ap (λ (line : List ℕ). line ++ 10 ∷ []) (c.in_ok-line.ensures.text whole ∙ ap compact_text same)

pub returns-clause-text : goal.returns-clause-text
returns-clause-text c = line_is c

pub returns-clause-reads_back : goal.returns-clause-reads_back
returns-clause-reads_back c =
    let target = items_of c.args.t.now in
    let v = verdict_tree c.args.v.now in
    ap cert_of (line_is c) ∙ reads_back target v (printable target c.args.v.now c.requires c.in_ok-verdict_value.ensures.small)
