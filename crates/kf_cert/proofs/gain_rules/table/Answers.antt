use Rattle.std.proofs.Common.{rules, sym, subst, ℤ}
use Rattle.std.specs.List.{AllZip}
use Rattle.std.proofs.lemmas.Int.{to_z-of_z}
use mir.Syntax.{w128}
use Rattle.kf_gain.specs.Shapes.{IsTableShape}
use Rattle.kf_cert.specs.Views.{named_table}
use Rattle.kf_cert.specs.Naming.{IsMade}
use Rattle.kf_cert.proofs.Standing.{table_shaped}
use Rattle.kf_cert.proofs.gain_rules.table.Goals as goal

pub invariant_of-result : goal.invariant_of-result
invariant_of-result c =
    let named = named_table c.args.gain.now in
    let all = subst (λ made. AllZip (IsMade c.requires.made.0) named.actions made) (sym c.new.ensures) c.requires.made.1 in
    record {
      shape = subst (λ (z : ℤ). IsTableShape (record { over = named.over; rest = z; actions = c.new.result })) (sym (to_z-of_z w128 named.rest (search rules)))
          (table_shaped c.requires.made.0 named c.new.result all c.requires.sound);
    }
