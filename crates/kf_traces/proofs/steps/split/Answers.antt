use Rattle.std.proofs.lemmas.List.{drop_all, drop_more}
use Rattle.std.proofs.Common.{drop, get_or, refl, ◌+◌, [], ap, map, sym, ◌∙◌, arith, Ok}
use Rattle.kf_value.specs.Shapes.{shape_size, shape_types}
use Rattle.kf_core.specs.Views.{dx_tree}
use Rattle.kf_core.specs.Runs.{tried}
use Rattle.kf_eval.specs.Choices.{weighted_trees}
use Rattle.kf_support.specs.Moves.{store_behind}
use Rattle.kf_traces.specs.Traced.{split as split_of}
use Rattle.kf_traces.specs.Views.{part_of}
use Rattle.kf_traces.proofs.Splits.{split_start, split_here, split_room, split_more, split_past, all_small}
use Rattle.kf_traces.proofs.Choosing.{chosen_at}
use Rattle.kf_traces.proofs.steps.split.Goals as goal
use Rattle.kf_traces.proofs.steps.split.Goals.{in-Some+in_ok-add_shares, in_default}

pub loop-entry-init : goal.loop-entry-init
loop-entry-init c =
    let tries = tried (shape_types c.args.shape.now) (dx_tree c.args.dist.now) in
    let go = store_behind (shape_types c.args.shape.now) c.args.into in
    record {
      on = split_start go tries (shape_size c.args.shape.now) c.args.stores.now c.args.stores.now (map part_of c.new-parts.result.items) (ap (map part_of) c.new-parts.ensures.items)
          refl c.requires.within c.requires.below;
      memo = c.requires.memo;
    }

pub chosen_in-requires-clause-store : goal.chosen_in-requires-clause-store
chosen_in-requires-clause-store c =
    let tries = tried (shape_types c.args.shape.now) (dx_tree c.args.dist.now) in
    let go = store_behind (shape_types c.args.shape.now) c.args.into in
    split_here go tries (shape_size c.args.shape.now) (drop c.loop-entry.entry-index c.args.stores.now) (drop (c.loop-entry.entry-index + 1) c.args.stores.now) (get_or c.args.stores.now c.loop-entry.entry-index (0, 0)) _ (map part_of c.loop-entry.parts.items) (drop_more c.args.stores.now c.loop-entry.entry-index (0, 0) c.loop-entry-test.true)
    c.loop-entry.invariant.on

pub chosen_in-requires-clause-kinded : goal.chosen_in-requires-clause-kinded
chosen_in-requires-clause-kinded c = c.requires.kinded

pub quotient-share-requires : goal.quotient-share-requires
quotient-share-requires c =
    let known = chosen_at (rw c.in-Some.is at c.in_ok-place.ensures.found) c.at-choice.ensures in
    omega (arith, known.some)

pub add_shares-requires-clause-variable : goal.add_shares-requires-clause-variable
add_shares-requires-clause-variable c = c.requires.variable

pub add_shares-requires-clause-store : goal.add_shares-requires-clause-store
add_shares-requires-clause-store c =
    let tries = tried (shape_types c.args.shape.now) (dx_tree c.args.dist.now) in
    let go = store_behind (shape_types c.args.shape.now) c.args.into in
    split_here go tries (shape_size c.args.shape.now) (drop c.loop-entry.entry-index c.args.stores.now) (drop (c.loop-entry.entry-index + 1) c.args.stores.now) (get_or c.args.stores.now c.loop-entry.entry-index (0, 0)) _ (map part_of c.loop-entry.parts.items) (drop_more c.args.stores.now c.loop-entry.entry-index (0, 0) c.loop-entry-test.true)
    c.loop-entry.invariant.on

pub add_shares-requires-clause-formed : goal.add_shares-requires-clause-formed
add_shares-requires-clause-formed c =
    let known = chosen_at (rw c.in-Some.is at c.in_ok-place.ensures.found) c.at-choice.ensures in
    rw c.as_slice.ensures known.formed

pub add_shares-requires-clause-ascending : goal.add_shares-requires-clause-ascending
add_shares-requires-clause-ascending c = c.loop-entry.invariant.on.ascending

pub add_shares-requires-clause-below : goal.add_shares-requires-clause-below
add_shares-requires-clause-below c = c.loop-entry.invariant.on.held

pub add_shares-requires-clause-within : goal.add_shares-requires-clause-within
add_shares-requires-clause-within c =
    let tries = tried (shape_types c.args.shape.now) (dx_tree c.args.dist.now) in
    let go = store_behind (shape_types c.args.shape.now) c.args.into in
    let known = chosen_at (rw c.in-Some.is at c.in_ok-place.ensures.found) c.at-choice.ensures in
    rw (c.as_slice.ensures, c.quotient-share.ensures)
    (split_room go tries (shape_size c.args.shape.now) (drop c.loop-entry.entry-index c.args.stores.now) (drop (c.loop-entry.entry-index + 1) c.args.stores.now) (get_or c.args.stores.now c.loop-entry.entry-index (0, 0)) _ (map part_of c.loop-entry.parts.items)
    (drop_more c.args.stores.now c.loop-entry.entry-index (0, 0) c.loop-entry-test.true) c.loop-entry.invariant.on (weighted_trees c.at-choice.result.now) c.at-choice.result.now.total known.chosen known.total_is)

pub loop-entry-preserved : goal.loop-entry-preserved
loop-entry-preserved c =
    let tries = tried (shape_types c.args.shape.now) (dx_tree c.args.dist.now) in
    let go = store_behind (shape_types c.args.shape.now) c.args.into in
    let size = shape_size c.args.shape.now in
    let stores = c.args.stores.now in
    let i = c.loop-entry.entry-index in
    let whole = split_of go tries [] stores in
    let next = drop_more stores i (0, 0) c.loop-entry-test.true in
    elim c.match-branch-2.branch [
      | in-Some+in_ok-add_shares w ↦
          let known = chosen_at (rw w.in-Some.is at c.in_ok-place.ensures.found) w.at-choice.ensures in
          let made = rw (w.as_slice.ensures, w.quotient-share.ensures) at w.in_ok-add_shares.ensures.shares in
          rw w.parts-is
          (record {
            on = split_more go tries size (drop i stores) (drop (i + 1) stores) (get_or stores i (0, 0)) whole (map part_of c.loop-entry.parts.items) next c.loop-entry.invariant.on
                (weighted_trees w.at-choice.result.now) w.at-choice.result.now.total known.chosen known.total_is (map part_of w.add_shares.new.parts.items) made w.in_ok-add_shares.ensures.below;
            memo = c.in_ok-place.ensures.memo;
          })
      | in_default w ↦
          let fault = c.in_ok-place.ensures.fault (ap (λ o. Ok o) w.in_default.is) in
          rw w.parts-is
          (record {
            on = split_past go tries size (drop i stores) (drop (i + 1) stores) (get_or stores i (0, 0)) whole (map part_of c.loop-entry.parts.items) next c.loop-entry.invariant.on fault.0 fault.1;
            memo = c.in_ok-place.ensures.memo;
          })
    ]

pub returns-clause-within : goal.returns-clause-within
returns-clause-within c = all_small _ (map part_of c.loop-entry.parts.items) c.loop-entry.invariant.on.within

pub returns-clause-below : goal.returns-clause-below
returns-clause-below c = c.loop-entry.invariant.on.held

pub returns-clause-parts : goal.returns-clause-parts
returns-clause-parts c =
    let tries = tried (shape_types c.args.shape.now) (dx_tree c.args.dist.now) in
    let go = store_behind (shape_types c.args.shape.now) c.args.into in
    ap (split_of go tries (map part_of c.loop-entry.parts.items)) (sym (drop_all c.loop-entry.entry-index c.args.stores.now (omega (arith, c.loop-entry-test.false)))) ∙ c.loop-entry.invariant.on.same
