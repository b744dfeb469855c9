use Rattle.std.proofs.Common.{◌+◌, ◌*◌, ◌<◌, ◌^◌, true, false, [], ◌∷◌, ◌++◌, Some, None, map, drop, sym, ap, ◌∙◌, arith, append-nil, if◌then◌else◌}
use Rattle.std.specs.List.{flat_map}
use Rattle.std.proofs.lemmas.List.{map-append}
use Rattle.kf_value.specs.Values.{Truth}
use Rattle.kf_value.proofs.ListLemmas.{left_step, mapped_read}
use Rattle.kf_column.specs.declared.entry.Entry.{Entry}
use Rattle.kf_eval.specs.Choices.{weighted_items, weighted_tree}
use Rattle.kf_run.specs.Ways.{along, sides, way_to}
use Rattle.kf_run.proofs.Making.{all_pushed, more_made, product_fits}
use Rattle.kf_run.proofs.guards.add_sides.Goals as goal
use Rattle.kf_run.proofs.guards.add_sides.Goals.{then-is_true+in_ok-push, else-is_true+in_ok-push-2}

pub overflow_mul-entry : goal.overflow_mul-entry
overflow_mul-entry c =
    let cs = weighted_items c.args.choice.now.items in
    let ws = map weighted_tree cs in
    let most = product_fits c.args.share (2 ^ 128) ws c.loop-weighted.weighted-index (weighted_tree c.weighted-item.result)
    (mapped_read weighted_tree cs c.loop-weighted.weighted-index c.weighted-item.result (rw c.as_slice-weighted-items.ensures at c.loop-weighted-test.true)
    (rw c.as_slice-weighted-items.ensures at c.weighted-item.is)) c.requires.fits in
    omega (arith, most)

pub loop-weighted-preserved : goal.loop-weighted-preserved
loop-weighted-preserved c =
    let cs = weighted_items c.args.choice.now.items in
    let i = c.loop-weighted.weighted-index in
    let n = c.args.store in
    let w = weighted_tree c.weighted-item.result in
    let weight = c.args.share * w.weight in
    let one = along (Truth true ∷ []) in
    let other = along (Truth false ∷ []) in
    let taken = c.loop-weighted.taken.items in
    let left = c.loop-weighted.left.items in
    let next = left_step weighted_tree cs i c.weighted-item.result (rw c.as_slice-weighted-items.ensures at c.loop-weighted-test.true) (rw c.as_slice-weighted-items.ensures at c.weighted-item.is) in
    let now = map weighted_tree (drop i cs) in
    let rest = map weighted_tree (drop (i + 1) cs) in
    let more = more_made (sides true n c.args.share) now rest w (map one taken) in
    let whole = map one c.args.taken.now.items ++ flat_map (sides true n c.args.share) (map weighted_tree cs) in
    let more_other = more_made (sides false n c.args.share) now rest w (map other left) in
    let whole_other = map other c.args.left.now.items ++ flat_map (sides false n c.args.share) (map weighted_tree cs) in
    let e : Entry = record { value = n; weight = weight } in
    let known = c.loop-weighted.invariant in
    elim c.if-is_true.branch [
      | then-is_true+in_ok-push b ↦
          let truth_is = sym b.if-is_true.true ∙ c.is_true.ensures in
          rw (b.taken-is, b.left-is) (record {
            taken = more (map one b.push.new.self.items) whole next known.taken
                (ap (map one) b.in_ok-push.ensures.items ∙ map-append one taken (e ∷ []) ∙ ap (λ t. map one taken ++ way_to (Truth true ∷ []) weight (if t then Some n else None)) truth_is);
            left = more_other (map other left) whole_other next known.left
                (sym (append-nil (map other left)) ∙ ap (λ t. map other left ++ way_to (Truth false ∷ []) weight (if t then None else Some n)) truth_is);
            below_taken = λ size within old. all_pushed (λ (e : Entry). e.value < size) taken b.push.new.self.items e b.in_ok-push.ensures.items (known.below_taken size within old) within;
            below_left = known.below_left;
          })
      | else-is_true+in_ok-push-2 b ↦
          let truth_is = sym b.if-is_true.false ∙ c.is_true.ensures in
          rw (b.taken-is, b.left-is) (record {
            taken = more (map one taken) whole next known.taken
                (sym (append-nil (map one taken)) ∙ ap (λ t. map one taken ++ way_to (Truth true ∷ []) weight (if t then Some n else None)) truth_is);
            left = more_other (map other b.push-else-is_true.new.self.items) whole_other next known.left
                (ap (map other) b.in_ok-push-2.ensures.items ∙ map-append other left (e ∷ []) ∙ ap (λ t. map other left ++ way_to (Truth false ∷ []) weight (if t then None else Some n)) truth_is);
            below_taken = known.below_taken;
            below_left = λ size within old. all_pushed (λ (e : Entry). e.value < size) left b.push-else-is_true.new.self.items e b.in_ok-push-2.ensures.items (known.below_left size within old) within;
          })
    ]
