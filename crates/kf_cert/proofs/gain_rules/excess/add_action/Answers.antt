use Rattle.std.proofs.Common.{rules, ◌∷◌, ◌++◌, [], pos, refl, arith, get_or}
use Rattle.std.specs.Prelude.{◌-ℤ◌, FitsSigned}
use Rattle.std.specs.Int.{w128}
use Rattle.std.proofs.lemmas.Int.{to_z-of_z, fits_signed_from_abs}
use Rattle.std.proofs.lemmas.List.{get_or_default}
use Rattle.kf_gain.specs.declared.table.GainEntry.{GainEntry}
use Rattle.kf_cert.specs.NamedGains.{action_excesses}
use Rattle.kf_cert.proofs.Pieces.{piece_added}
use Rattle.kf_cert.proofs.gain_rules.excess.add_action.Goals as goal

abbrev none : GainEntry
none = record { value = 0; gain = pos 0 }

pub loop-entry-preserved : goal.loop-entry-preserved
loop-entry-preserved c =
    let gains = c.args.gains.now in
    let i = c.loop-entry.entry-index in
    let entry : GainEntry = get_or gains i none in
    let rest = c.args.rest in
    let gain : FitsSigned w128 entry.gain = search rules in
    let less : FitsSigned w128 rest = c.ranges.rest in
    let fits : FitsSigned w128 (entry.gain -ℤ rest) = fits_signed_from_abs w128 (entry.gain -ℤ rest) (omega (arith, c.requires i none c.loop-entry-test.true)) in
    simp to_z-of_z
    (piece_added (λ i es. action_excesses rest c.args.action es) (λ i e. record { value = e.value; action = c.args.action; amount = e.gain -ℤ rest } ∷ []) (λ i e es. refl)
    gains i entry c.loop-entry.excesses.items c.push.new.self.items (c.args.excesses.now.items ++ action_excesses rest c.args.action gains) c.loop-entry-test.true
    (get_or_default gains i none entry c.loop-entry-test.true) (simp to_z-of_z at c.in_ok-push.ensures.items) (simp to_z-of_z at c.loop-entry.invariant))
