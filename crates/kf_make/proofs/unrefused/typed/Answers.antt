use Rattle.std.proofs.Common.{ℕ, List, [], length, ap, subst, Ok, Err, arith}
use Rattle.kf_load.specs.Texts.{TypedOf}
use Rattle.kf_load.specs.Stops.{Stopped, refused}
use Rattle.kf_load.specs.Views.{text_of}
use Rattle.kf_load.specs.declared.refusal.Stop.{Stop}
use Rattle.kf_make.proofs.Refusing.{made_short_text, made_typed, made_unrefused}
use Rattle.kf_make.proofs.unrefused.typed.Goals as goal

pub text_of_bytes-requires : goal.text_of_bytes-requires
text_of_bytes-requires c =
    let long = ap length c.in_ok-bytes.ensures in
    omega (arith, long, made_short_text c.args.count c.requires.few)

pub unreachable-requires : goal.unreachable-requires
unreachable-requires c =
    let r = c.in-Err-Refused.field-0-0 in
    let stopped : TypedOf [] c.in_ok-bytes.bytes.items (Err (refused r)) =
    subst (λ (s : Stop). Stopped s (TypedOf [] c.in_ok-bytes.bytes.items)) c.in-Err-Refused.field-0-is c.in-Err-Refused.ensures.answer in
    made_unrefused c.one_reading.ensures c.grammar.ensures.one c.refusals.ensures.both c.type_laws.ensures.one c.type_laws.ensures.typed
    c.made_laws.ensures.parsed c.made_laws.ensures.typed c.args.count [] (refused r)
    (subst (λ (bytes : List ℕ). TypedOf [] bytes (Err (refused r))) c.in_ok-bytes.ensures stopped)

pub returns-in-Ok-clause-program : goal.returns-in-Ok-clause-program
returns-in-Ok-clause-program c =
    let t = text_of [] c.in-Ok.text in
    made_typed c.one_reading.ensures c.grammar.ensures.one c.refusals.ensures.both c.type_laws.ensures.one c.type_laws.ensures.typed
    c.made_laws.ensures.parsed c.made_laws.ensures.typed c.args.count [] t
    (subst (λ (bytes : List ℕ). TypedOf [] bytes (Ok t)) c.in_ok-bytes.ensures c.in-Ok.ensures.answer)
