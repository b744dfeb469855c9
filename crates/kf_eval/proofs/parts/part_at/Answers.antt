use Rattle.std.proofs.Common.{◌≡◌, IfOk, sym, subst, length, ◌<◌, arith}
use Rattle.kf_value.specs.Views.{value_tree}
use Rattle.kf_eval.proofs.Holding.{part_within, part_found}
use Rattle.kf_eval.proofs.parts.part_at.Goals as goal

pub bounds-as_slice-k : goal.bounds-as_slice-k
bounds-as_slice-k c = rw c.as_slice.ensures (part_within c.args.value.now c.in-Tuple.parts c.args.k c.in-Tuple.is c.requires)

pub offset_bounds-as_slice-k : goal.offset_bounds-as_slice-k
offset_bounds-as_slice-k c =
    let within : c.args.k < length c.as_slice.result.now =
    rw c.as_slice.ensures (part_within c.args.value.now c.in-Tuple.parts c.args.k c.in-Tuple.is c.requires) in
    omega arith

pub returns : goal.returns
returns c =
    let within = part_within c.args.value.now c.in-Tuple.parts c.args.k c.in-Tuple.is c.requires in
    let read = rw c.as_slice.ensures at c.index-as_slice-k.is in
    subst (λ t. IfOk c.copy.result (λ part. value_tree part ≡ t))
    (sym (part_found c.args.value.now c.in-Tuple.parts c.args.k c.in-Tuple.is c.index-as_slice-k.result within read)) c.copy.ensures
