use Rattle.std.proofs.Common.{sym}
use Rattle.kf_value.specs.Shapes.{shape_types}
use Rattle.kf_value.specs.Views.{value_tree}
use Rattle.kf_core.proofs.Stores.{replaced_some, replaced_none}
use Rattle.kf_support.proofs.moves.moved.Goals as goal

pub returns-in-Ok-clause-moved : goal.returns-in-Ok-clause-moved
returns-in-Ok-clause-moved c =
    sym (replaced_some (shape_types c.args.shape.now) c.args.slot (value_tree c.args.value.now) c.args.store c.requires.store c.in-Ok.after c.in-Ok.ensures.changed)

pub returns-in-Err-clause-moved : goal.returns-in-Err-clause-moved
returns-in-Err-clause-moved c =
    sym (replaced_none (shape_types c.args.shape.now) c.args.slot (value_tree c.args.value.now) c.args.store c.requires.store c.requires.variable c.in-Err.ensures.out_of_range)
