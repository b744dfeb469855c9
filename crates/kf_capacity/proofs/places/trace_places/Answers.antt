use Rattle.std.proofs.Common.{◌≡◌, ◌+◌, ◌++◌, [], ◌∷◌, Some, map, drop, ap, sym, ◌∙◌, arith}
use Rattle.std.specs.Prelude.{is_some, unwrap_or}
use Rattle.std.specs.List.{list_all}
use Rattle.std.proofs.lemmas.List.{drop_all, length-map}
use Rattle.kf_value.specs.Views.{value_tree, value_trees}
use Rattle.kf_channel.specs.Views.{rows_of, row_at}
use Rattle.kf_capacity.specs.Compositions.{secret_values, place_of, named}
use Rattle.kf_capacity.specs.Views.{channel_tree}
use Rattle.kf_capacity.proofs.Named.{mapped_more, mapped_all, names_at, none_misfits, all_fit, all_places}
use Rattle.kf_capacity.proofs.places.trace_places.Goals as goal

pub returns-in_default : goal.returns-in_default
returns-in_default c =
    let lists = secret_values (channel_tree c.args.d.now) in
    let names = named (channel_tree c.args.c.now) (channel_tree c.args.d.now) in
    let j = c.loop-j.j in
    let lists_are : map value_trees c.as_slice.result.now ≡ lists = ap (map value_trees) c.as_slice.ensures.value ∙ c.in_ok-lists.ensures.values in
    let trace_is : map value_tree c.as_slice-in-loop-j.result.now ≡ (row_at c.args.c.now j).trace =
    ap (map value_tree) c.as_slice-in-loop-j.ensures ∙ c.trace.ensures in
    let place : c.place_of.result ≡ place_of lists (row_at c.args.c.now j).trace = c.place_of.ensures ∙ (λ k. place_of (lists_are k) (trace_is k)) in
    let next = names_at lists (rows_of c.args.c.now) j (record { trace = []; column = [] }) (omega (arith, c.columns-j-end.ensures, c.loop-j-test.true)) in
    ap (list_all is_some) (sym c.loop-j.invariant)
    ∙ ap (λ rest. list_all is_some (map (λ n. Some n) c.loop-j.places.items ++ rest))
    (next ∙ ap (λ name. name ∷ drop (j + 1) names) (sym place ∙ c.in_default.is))
    ∙ none_misfits c.loop-j.places.items (drop (j + 1) names)

pub loop-j-preserved : goal.loop-j-preserved
loop-j-preserved c =
    let lists = secret_values (channel_tree c.args.d.now) in
    let names = named (channel_tree c.args.c.now) (channel_tree c.args.d.now) in
    let j = c.loop-j.j in
    let lists_are : map value_trees c.as_slice.result.now ≡ lists = ap (map value_trees) c.as_slice.ensures.value ∙ c.in_ok-lists.ensures.values in
    let trace_is : map value_tree c.as_slice-in-loop-j.result.now ≡ (row_at c.args.c.now j).trace =
    ap (map value_tree) c.as_slice-in-loop-j.ensures ∙ c.trace.ensures in
    let place : c.place_of.result ≡ place_of lists (row_at c.args.c.now j).trace = c.place_of.ensures ∙ (λ k. place_of (lists_are k) (trace_is k)) in
    let next = names_at lists (rows_of c.args.c.now) j (record { trace = []; column = [] }) (omega (arith, c.columns-j-end.ensures, c.loop-j-test.true)) in
    rw (c.in_ok-push.ensures.items)
    (mapped_more (λ n. Some n) c.loop-j.places.items c.in-Some.place (place_of lists (row_at c.args.c.now j).trace) (drop (j + 1) names) names
    (sym place ∙ c.in-Some.is) (rw next at c.loop-j.invariant))

pub returns : goal.returns
returns c =
    let names = named (channel_tree c.args.c.now) (channel_tree c.args.d.now) in
    let many = length-map (rows_of c.args.c.now) (λ row. place_of (secret_values (channel_tree c.args.d.now)) row.trace) in
    let none = drop_all c.loop-j.j names (omega (arith, many, c.columns-j-end.ensures, c.loop-j-test.false)) in
    let whole = mapped_all (λ n. Some n) c.loop-j.places.items (drop c.loop-j.j names) names none c.loop-j.invariant in (
      ap (list_all is_some) (sym whole) ∙ all_fit c.loop-j.places.items,
      sym (all_places c.loop-j.places.items) ∙ ap (map (λ place. unwrap_or place 0)) whole,
    )
