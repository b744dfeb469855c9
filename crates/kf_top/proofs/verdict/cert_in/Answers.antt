use Rattle.std.proofs.Common.{ℕ, List, subst, [], ◌∷◌}
use Rattle.kf_cert.specs.Certificates.{cert_of}
use Rattle.kf_cert.specs.Views.{cert_tree}
use Rattle.kf_load.specs.Steps.{Gives}
use Rattle.kf_load.specs.Texts.{source_of}
use Rattle.kf_top.specs.Stops.{Answers}
use Rattle.kf_top.proofs.Readings.{counts_next, file_lifts, file_then, lift_counts}
use Rattle.kf_top.proofs.verdict.cert_in.Goals as goal
use Rattle.kf_top.specs.Steps.{cert_read}

pub returns-in-Ok-clause-answer : goal.returns-in-Ok-clause-answer
returns-in-Ok-clause-answer g c =
    let name = c.args.name.now in
    file_then _ _ _ name (λ file. Gives (source_of file)) (λ file bytes. Gives (cert_read file.name (cert_of bytes))) cert_tree c.in-Ok.bytes.items c.cert_of_bytes.result
    c.in-Ok.ensures.answer
    (λ read. subst (λ (bytes : List ℕ). Answers cert_tree c.cert_of_bytes.result (Gives (cert_read name (cert_of bytes)))) c.deref.ensures.value c.cert_of_bytes.ensures.answer)

pub returns-in-Ok-clause-counts : goal.returns-in-Ok-clause-counts
returns-in-Ok-clause-counts g c = counts_next (c.args.name.now ∷ []) _ _ c.cert_of_bytes.result c.in-Ok.ensures.counts c.cert_of_bytes.ensures.read

pub returns-in-Err-clause-answer : goal.returns-in-Err-clause-answer
returns-in-Err-clause-answer g c =
    rw c.lift.ensures (file_lifts _ _ _ c.args.name.now (λ file. Gives (source_of file)) (λ file bytes. Gives (cert_read file.name (cert_of bytes))) cert_tree c.in-Err.stop c.in-Err.ensures.answer)

pub returns-in-Err-clause-counts : goal.returns-in-Err-clause-counts
returns-in-Err-clause-counts g c = rw c.lift.ensures (lift_counts (c.args.name.now ∷ []) _ _ c.in-Err.stop c.in-Err.ensures.counts)
