use Rattle.kf_check.proofs.KindLists.{kind_of-Bool, kind_of-Int, kind_of-Tuple, kind_of-Set}
use Rattle.kf_check.proofs.kinds.+kind_of.Goals as goal

pub kind_of-returns-in-Bool : goal.kind_of-returns-in-Bool
kind_of-returns-in-Bool t c = kind_of-Bool c.args.ty.now c.in-Bool.is

pub kind_of-returns-in-Int : goal.kind_of-returns-in-Int
kind_of-returns-in-Int t c = kind_of-Int c.args.ty.now c.in-Int.lo c.in-Int.hi c.in-Int.is

pub kind_of-returns-in_ok-kinds_of-in-Tuple : goal.kind_of-returns-in_ok-kinds_of-in-Tuple
kind_of-returns-in_ok-kinds_of-in-Tuple t c =
    kind_of-Tuple c.args.ty.now c.in-Tuple.parts c.as_slice.result.now c.in_ok-kinds_of-in-Tuple.field-0 c.in-Tuple.is c.as_slice.ensures c.in_ok-kinds_of-in-Tuple.ensures

pub kind_of-returns-in_ok-new-in-Set : goal.kind_of-returns-in_ok-new-in-Set
kind_of-returns-in_ok-new-in-Set t c =
    kind_of-Set c.args.ty.now c.in-Set.base c.deref.result.now c.in_ok-kind_of-in-Set.field-0 c.in_ok-new-in-Set.field-0 c.in-Set.is c.deref.ensures c.in_ok-kind_of-in-Set.ensures
    c.in_ok-new-in-Set.ensures.ok
