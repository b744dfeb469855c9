use Rattle.std.proofs.Common.{◌+◌, ◌*◌, ◌<◌, ◌^◌, [], ◌∷◌, map, drop, sym, ap, ◌∙◌, arith, append-nil, ◌++◌}
use Rattle.std.specs.List.{flat_map}
use Rattle.std.proofs.lemmas.List.{map-append}
use Rattle.std.proofs.lemmas.List.Elements.{recursion_from_All}
use Rattle.kf_value.specs.Shapes.{shape_size, shape_types}
use Rattle.kf_value.specs.Forms.{IsWellFormed}
use Rattle.kf_value.proofs.ListLemmas.{each_at, left_step, mapped_read}
use Rattle.kf_run.specs.declared.ways.Leak.{Leak}
use Rattle.kf_core.specs.Choices.{Weighted}
use Rattle.kf_eval.specs.Choices.{weighted_items, weighted_tree}
use Rattle.kf_run.specs.Ways.{leaked, shows, way_to}
use Rattle.kf_run.proofs.Making.{more_made, all_pushed, product_fits}
use Rattle.kf_run.proofs.observation.add_leaks.Goals as goal
use Rattle.kf_run.proofs.observation.add_leaks.Goals.{in-Some+in_ok-copy+in_ok-push, in_default}

pub store_behind-requires-clause-formed : goal.store_behind-requires-clause-formed
store_behind-requires-clause-formed c =
    let cs = weighted_items c.args.choice.now.items in
    let ws = map weighted_tree cs in
    each_at (λ (w : Weighted). IsWellFormed w.value) ws c.loop-weighted.weighted-index (weighted_tree c.weighted-item.result)
    (recursion_from_All (λ (w : Weighted). IsWellFormed w.value) ws c.requires.formed)
    (mapped_read weighted_tree cs c.loop-weighted.weighted-index c.weighted-item.result (rw c.as_slice-weighted-items.ensures at c.loop-weighted-test.true)
    (rw c.as_slice-weighted-items.ensures at c.weighted-item.is))

pub overflow_mul-share : goal.overflow_mul-share
overflow_mul-share c =
    let cs = weighted_items c.args.choice.now.items in
    let ws = map weighted_tree cs in
    let most = product_fits c.args.share (2 ^ 128) ws c.loop-weighted.weighted-index (weighted_tree c.weighted-item.result)
    (mapped_read weighted_tree cs c.loop-weighted.weighted-index c.weighted-item.result (rw c.as_slice-weighted-items.ensures at c.loop-weighted-test.true)
    (rw c.as_slice-weighted-items.ensures at c.weighted-item.is)) c.requires.fits in
    omega (arith, most)

pub loop-weighted-preserved : goal.loop-weighted-preserved
loop-weighted-preserved c =
    let cs = weighted_items c.args.choice.now.items in
    let i = c.loop-weighted.weighted-index in
    let go = shows (shape_types c.args.shape.now) c.args.into c.args.store c.args.share in
    let w = weighted_tree c.weighted-item.result in
    let items = c.loop-weighted.leaks.items in
    let front = map leaked items in
    let next = left_step weighted_tree cs i c.weighted-item.result (rw c.as_slice-weighted-items.ensures at c.loop-weighted-test.true) (rw c.as_slice-weighted-items.ensures at c.weighted-item.is) in
    let left = map weighted_tree (drop i cs) in
    let rest = map weighted_tree (drop (i + 1) cs) in
    let whole = map leaked c.args.leaks.now.items ++ flat_map go (map weighted_tree cs) in
    elim c.match-store_behind.branch [
      | in-Some+in_ok-copy+in_ok-push b ↦
          rw b.leaks-is (record {
            added = more_made go left rest w front (map leaked b.push.new.self.items) whole next c.loop-weighted.invariant.added
                (ap (map leaked) b.in_ok-push.ensures.items ∙ map-append leaked items (record { value = b.in_ok-copy.field-0; to = b.in-Some.to; weight = c.args.share * w.weight } ∷ []) ∙ ap (λ v. front ++ record { trace = v ∷ []; to = b.in-Some.to; weight = c.args.share * w.weight } ∷ []) b.in_ok-copy.ensures
                ∙ ap (λ o. front ++ way_to (w.value ∷ []) (c.args.share * w.weight) o) b.in-Some.ensures.behind);
            below = λ old. all_pushed (λ (l : Leak). l.to < shape_size c.args.shape.now) items b.push.new.self.items _ b.in_ok-push.ensures.items (c.loop-weighted.invariant.below old) b.in-Some.ensures.below;
          })
      | in_default b ↦
          rw b.leaks-is (record {
            added = more_made go left rest w front front whole next c.loop-weighted.invariant.added (sym (append-nil front) ∙ ap (λ o. front ++ way_to (w.value ∷ []) (c.args.share * w.weight) o) b.in_default.ensures.behind);
            below = c.loop-weighted.invariant.below;
          })
    ]
