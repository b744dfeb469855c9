use Rattle.kf_eval.proofs.Holding.{type_sized, type_formed, size_at, value_found}
use Rattle.kf_eval.proofs.parts.value_in.Goals as goal

pub value_at-requires-clause-sized : goal.value_at-requires-clause-sized
value_at-requires-clause-sized c =
    type_sized c.args.shape.now c.types.result.now c.as_slice.result.now c.args.i c.index-as_slice-i.result c.types.ensures c.as_slice.ensures c.requires.within c.index-as_slice-i.is

pub value_at-requires-clause-below : goal.value_at-requires-clause-below
value_at-requires-clause-below c =
    rw (← size_at c.args.shape.now c.types.result.now c.as_slice.result.now c.args.i c.index-as_slice-i.result c.types.ensures c.as_slice.ensures c.requires.within c.index-as_slice-i.is)
    c.slot.ensures.below

pub returns-clause-value : goal.returns-clause-value
returns-clause-value c =
    value_found c.args.shape.now c.types.result.now c.as_slice.result.now c.args.i c.index-as_slice-i.result c.types.ensures c.as_slice.ensures c.requires.within c.index-as_slice-i.is
    c.args.store c.slot.result c.value_at.result c.requires.store c.slot.ensures.value c.value_at.ensures.place

pub returns-clause-formed : goal.returns-clause-formed
returns-clause-formed c =
    c.value_at.ensures.formed
    (type_formed c.args.shape.now c.types.result.now c.as_slice.result.now c.args.i c.index-as_slice-i.result c.types.ensures c.as_slice.ensures c.requires.within c.index-as_slice-i.is)
