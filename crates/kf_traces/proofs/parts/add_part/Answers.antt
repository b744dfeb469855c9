use Rattle.std.proofs.Common.{◌<◌, ap, ◌∙◌, arith, length}
use Rattle.kf_value.specs.Views.{value_tree}
use Rattle.kf_traces.specs.Traced.{with_weight}
use Rattle.kf_traces.proofs.Locating.{found_at, put_at, sum_at}
use Rattle.kf_traces.proofs.parts.add_part.Goals as goal

pub add_weight-requires : goal.add_weight-requires
add_weight-requires c =
    let inside : c.in-Ok.place < length c.args.parts.now.items = rw (← c.as_slice.ensures.value) c.in-Ok.ensures.within in
    let small = sum_at c.args.parts.now.items c.in-Ok.place c.index_mut.result.now inside c.index_mut.ensures.value in
    omega (arith, small, c.requires.within)

pub returns-in_ok-add_weight-in-Ok : goal.returns-in_ok-add_weight-in-Ok
returns-in_ok-add_weight-in-Ok c =
    found_at (value_tree c.args.value.now) c.args.store c.args.weight c.as_slice.result.now c.args.parts.now.items c.in-Ok.place c.index_mut.result.now _ c.as_slice.ensures.value c.requires.ascending
    c.in-Ok.ensures.within c.in-Ok.ensures.found c.index_mut.ensures.value
    (ap (λ es. record { value = value_tree c.index_mut.result.now.value; stores = es }) c.in_ok-add_weight-in-Ok.ensures)

pub returns-in_ok-insert-in-Err : goal.returns-in_ok-insert-in-Err
returns-in_ok-insert-in-Err c =
    let alone = c.in_ok-add_weight-in-Err.ensures ∙ ap (λ es. with_weight es c.args.store c.args.weight) c.new-stores.ensures in
    let value = c.in_ok-value-in-Err.ensures in
    put_at (value_tree c.args.value.now) c.args.store c.args.weight c.as_slice.result.now c.args.parts.now.items c.insert.new.self.items c.in-Err.place _ c.as_slice.ensures.value c.requires.ascending
    c.in-Err.ensures.within c.in-Err.ensures.found (λ i. record { value = value i; stores = alone i }) c.in_ok-insert-in-Err.ensures.items
