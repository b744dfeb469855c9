use Rattle.std.proofs.Common.{◌∙◌}
use Rattle.kf_check.proofs.Naming.{known_behind, flag_behind}
use Rattle.kf_check.proofs.names.Names.push.Goals as goal

pub returns-clause-added : goal.returns-clause-added
returns-clause-added c =
    known_behind c.args.name.now c.in_ok-text.text (record { kind = c.args.kind; visible = c.args.visible }) c.args.self.now.variables.entries c.insert.new.self.entries
    (c.in_ok-text.ensures.ok ∙ c.as_str.ensures) c.requires.fresh c.in_ok-insert.ensures.entries

pub returns-clause-flagged : goal.returns-clause-flagged
returns-clause-flagged c =
    flag_behind c.args.name.now c.in_ok-text.text (record { kind = c.args.kind; visible = c.args.visible }) c.args.self.now.variables.entries c.insert.new.self.entries
    (c.in_ok-text.ensures.ok ∙ c.as_str.ensures) c.requires.fresh c.in_ok-insert.ensures.entries
