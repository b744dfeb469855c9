use Rattle.std.proofs.Common.{◌-◌, ◌++◌, ◌∷◌, [], map, take, drop, length, sym, ap, ◌∙◌, arith, rules, FitsSigned, w64}
use Rattle.std.specs.Fmt.{signed_decimal}
use Rattle.std.proofs.lemmas.Int.{to_z-of_z}
use Rattle.std.proofs.lemmas.List.{append_assoc, take_rest}
use Rattle.std.proofs.lemmas.Result.{on_ok_weaker}
use Rattle.kf_value.specs.Texts.{text, separated}
use Rattle.kf_value.specs.Values.{Tuple, Set, parts}
use Rattle.kf_value.specs.Views.{value_tree}
use Rattle.kf_value.proofs.ListLemmas.{left_step, left_end}
use Rattle.kf_value.proofs.Printing.{bracketed, written_more, all_written, tuple_text, set_text}
use Rattle.kf_value.proofs.Trees.{value_tree-Int, value_tree-Tuple, value_tree-Set}
use Rattle.kf_value.proofs.prints.+write_value.Goals as goal

pub write_value-returns-in-Tuple : goal.write_value-returns-in-Tuple
write_value-returns-in-Tuple t c =
    let vs = map value_tree c.as_slice.result.now in
    let is = ap value_tree c.in-Tuple.is ∙ (value_tree-Tuple c.in-Tuple.parts ∙ ap (λ us. Tuple (parts (map value_tree us))) (sym c.as_slice.ensures)) in
    let shows = append_assoc c.args.out.now.items (40 ∷ separated (map text vs)) (41 ∷ []) ∙ ap (λ z. c.args.out.now.items ++ z) (sym (ap text is ∙ tuple_text vs)) in
    on_ok_weaker c.write_between.result (λ written. written ∙ shows) c.write_between.ensures

pub write_value-returns-in-Set : goal.write_value-returns-in-Set
write_value-returns-in-Set t c =
    let vs = map value_tree c.as_slice-in-Set.result.now in
    let is = ap value_tree c.in-Set.is ∙ (value_tree-Set c.in-Set.elements ∙ ap (λ us. Set (parts (map value_tree us))) (sym c.as_slice-in-Set.ensures)) in
    let shows = append_assoc c.args.out.now.items (123 ∷ separated (map text vs)) (125 ∷ []) ∙ ap (λ z. c.args.out.now.items ++ z) (sym (ap text is ∙ set_text vs)) in
    on_ok_weaker c.write_between-in-Set.result (λ written. written ∙ shows) c.write_between-in-Set.ensures

pub write_value-returns-in-Int : goal.write_value-returns-in-Int
write_value-returns-in-Int t c =
    let fits : FitsSigned w64 c.in-Int.whole = search rules in
    let is = ap value_tree c.in-Int.is ∙ value_tree-Int c.in-Int.whole in
    let shows = c.as_bytes.ensures.value ∙ (c.format.ensures.text ∙ (ap signed_decimal (to_z-of_z w64 c.in-Int.whole fits) ∙ sym (ap text is))) in
    on_ok_weaker c.write_bytes-in-Int.result (λ written. written ∙ ap (λ z. c.args.out.now.items ++ z) shows) c.write_bytes-in-Int.ensures

pub write_between-returns : goal.write_between-returns
write_between-returns t c =
    let inner = separated (map text (map value_tree c.args.values.now)) in
    bracketed c.args.out.now.items (c.args.opening ∷ []) inner (c.args.closing ∷ []) _ _ _ c.in_ok-push.ensures.items c.in_ok-write_separated.ensures
    c.in_ok-push-2.ensures.items
    ∙ sym (append_assoc c.args.out.now.items (c.args.opening ∷ inner) (c.args.closing ∷ []))

pub write_separated-loop-value-preserved : goal.write_separated-loop-value-preserved
write_separated-loop-value-preserved t c =
    let others = take (length c.args.values.now - 1) (drop 1 c.args.values.now) in
    let left = left_step value_tree others c.loop-value.value-index c.value-item.result (omega arith) c.value-item.is in
    written_more _ (value_tree c.value-item.result) _ c.loop-value.out.items c.extend_from_slice.new.self.items
    c.write_value-in-loop-value.new.out.items _ left c.in_ok-extend_from_slice.ensures.items c.in_ok-write_value-2.ensures c.loop-value.invariant

pub write_separated-returns : goal.write_separated-returns
write_separated-returns t c =
    let values = c.args.values.now in
    let others = take (length values - 1) (drop 1 values) in
    let parts = left_step value_tree values 0 c.first-item.result (omega arith) c.first-item.is
    ∙ ap (λ us. value_tree c.first-item.result ∷ map value_tree us) (sym (take_rest values 1)) in
    all_written (map value_tree values) (value_tree c.first-item.result)
    (map value_tree others) _ c.args.out.now.items c.write_value.new.out.items c.loop-value.out.items parts
    (left_end value_tree others c.loop-value.value-index (omega arith)) c.in_ok-write_value.ensures c.loop-value.invariant
