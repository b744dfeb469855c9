use Rattle.kf_value.specs.Shapes.{shape_types}
use Rattle.kf_support.proofs.Copying.{same_size, copied_digit}
use Rattle.kf_support.proofs.moves.copied_to.Goals as goal

pub with_digit-requires-clause-digit : goal.with_digit-requires-clause-digit
with_digit-requires-clause-digit c =
    rw (same_size (shape_types c.args.shape.now) c.args.from c.args.to c.requires.from c.requires.to c.requires.alike) c.slot-digit.ensures.below

pub returns-clause-copied : goal.returns-clause-copied
returns-clause-copied c =
    copied_digit c.store_laws.ensures.at_digits (shape_types c.args.shape.now) c.args.store c.args.from c.args.to c.with_digit.result c.slot-digit.result c.requires.store c.with_digit.ensures.below
    c.requires.from c.requires.to c.requires.alike c.slot-digit.ensures.digit c.with_digit.ensures.digits
