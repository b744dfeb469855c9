use Rattle.std.proofs.Common.{◌≡◌, [], Err, subst}
use Rattle.kf_core.specs.Views.{program_tree}
use Rattle.kf_load.specs.Steps.{Gives}
use Rattle.kf_load.specs.Stops.{Stopped, refused}
use Rattle.kf_load.specs.Texts.{Text, cleared}
use Rattle.kf_load.specs.declared.refusal.Stop.{Stop}
use Rattle.kf_make.specs.Made.{made_tree}
use Rattle.kf_make.proofs.Refusing.{made_clears}
use Rattle.kf_make.proofs.unrefused.made.Goals as goal

pub unreachable-requires : goal.unreachable-requires
unreachable-requires c =
    let t : Text = record { name = []; bytes = c.deref.result.now; source = made_tree c.args.count; program = program_tree c.in_ok-bytes.field-0.program } in
    let r = c.in-Err-Refused.field-0-0 in
    let stopped : Err (refused r) ≡ cleared c.args.turns t =
    subst (λ (s : Stop). Stopped s (Gives (cleared c.args.turns t))) c.in-Err-Refused.field-0-is (c.in-Err-Refused.ensures.answer (made_tree c.args.count)) in
    made_clears c.made_laws.ensures.clear c.made_laws.ensures.scale c.args.turns c.args.count t (refused r) c.requires.few c.in_ok-bytes.ensures.program stopped
