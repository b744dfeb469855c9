use Rattle.std.proofs.Common.{FitsSigned, rules, arith, ◌≡◌, pos}
use Rattle.std.proofs.lemmas.Int.{to_z-of_z, ints}
use mir.Syntax.{w128}
use Rattle.kf_simplex.proofs.Crossing.{crossing_first, crossing_push, crossing_skip, crossing_whole}
use Rattle.kf_simplex.proofs.Entries.{ascends_less, made_ascends}
use Rattle.kf_simplex.proofs.FlatRows.{passed_narrow}
use Rattle.kf_simplex.proofs.rows.cross_row.Goals as goal
use Rattle.kf_simplex.proofs.rows.cross_row.Goals.{then-number-ne0+in_ok-push, else-number-ne0}

pub loop-pair-init : goal.loop-pair-init
loop-pair-init c =
    rw (c.in_ok-entries.ensures.items)
    (crossing_first c.args.row.now.entries.items c.args.other.now.entries.items c.as_slice-xs.result.now c.as_slice-ys.result.now _ _
    c.as_slice-xs.ensures.value c.as_slice-ys.ensures.value c.args.row.now.ascending c.args.other.now.ascending)

pub next_pair-requires-clause-first : goal.next_pair-requires-clause-first
next_pair-requires-clause-first c = let so_far = c.loop-pair.invariant in ascends_less 0 so_far.0 c.loop-pair.xs.now (omega arith) so_far.1.first.ascending

pub next_pair-requires-clause-second : goal.next_pair-requires-clause-second
next_pair-requires-clause-second c = let so_far = c.loop-pair.invariant in ascends_less 0 so_far.0 c.loop-pair.ys.now (omega arith) so_far.1.second.ascending

pub crossed-number-requires-clause-p : goal.crossed-number-requires-clause-p
crossed-number-requires-clause-p c = passed_narrow c.args.p c.ranges.p c.requires.p

pub crossed-number-requires-clause-a : goal.crossed-number-requires-clause-a
crossed-number-requires-clause-a c = passed_narrow c.args.a c.ranges.a c.requires.a

pub loop-pair-preserved : goal.loop-pair-preserved
loop-pair-preserved c =
    let p : FitsSigned w128 c.args.p = c.ranges.p in
    let a : FitsSigned w128 c.args.a = c.ranges.a in
    let x : FitsSigned w128 c.in-Some.pair.x = search rules in
    let y : FitsSigned w128 c.in-Some.pair.y = search rules in
    let z : FitsSigned w128 c.crossed-number.result = search rules in
    let so_far = simp to_z-of_z at c.loop-pair.invariant in
    let value = simp to_z-of_z at c.crossed-number.ensures.value in
    elim c.if-number-ne0.branch [
      | then-number-ne0+in_ok-push w ↦
          rw w.entries-is
          (simp to_z-of_z
          (crossing_push c.args.row.now.entries.items c.args.other.now.entries.items c.loop-pair.xs.now c.loop-pair.ys.now c.loop-pair.entries.items c.args.p c.args.a c.in-Some.pair.x c.in-Some.pair.y
          c.crossed-number.result c.in-Some.pair.column c.in-Some.pair.xs.now c.in-Some.pair.ys.now c.in-Some.ensures.least value c.crossed-number.ensures.below so_far
          w.push.new.self.items (simp to_z-of_z at w.in_ok-push.ensures.items)))
      | else-number-ne0 w ↦
          let none : c.crossed-number.result ≡ pos 0 = omega (arith, ints, w.if-number-ne0.false) in
          rw w.entries-is
          (simp to_z-of_z
          (crossing_skip c.args.row.now.entries.items c.args.other.now.entries.items c.loop-pair.xs.now c.loop-pair.ys.now c.loop-pair.entries.items c.args.p c.args.a c.in-Some.pair.x c.in-Some.pair.y
          c.crossed-number.result c.in-Some.pair.column c.in-Some.pair.xs.now c.in-Some.pair.ys.now c.in-Some.ensures.least value c.crossed-number.ensures.below so_far none))
    ]

pub invariant_of-result : goal.invariant_of-result
invariant_of-result c = record { ascending = made_ascends _ c.loop-pair.invariant.0 c.loop-pair.entries.items c.loop-pair.invariant.2 }

pub returns-clause-value : goal.returns-clause-value
returns-clause-value c =
    let p : FitsSigned w128 c.args.p = c.ranges.p in
    let a : FitsSigned w128 c.args.a = c.ranges.a in
    let so_far = simp to_z-of_z at c.loop-pair.invariant in
    λ k. (crossing_whole c.args.row.now.entries.items c.args.other.now.entries.items c.loop-pair.xs.now c.loop-pair.ys.now c.loop-pair.entries.items c.args.p c.args.a
    c.in_default.ensures.least.0 c.in_default.ensures.least.1 so_far k).0

pub returns-clause-below : goal.returns-clause-below
returns-clause-below c =
    let p : FitsSigned w128 c.args.p = c.ranges.p in
    let a : FitsSigned w128 c.args.a = c.ranges.a in
    let so_far = simp to_z-of_z at c.loop-pair.invariant in
    λ k. (crossing_whole c.args.row.now.entries.items c.args.other.now.entries.items c.loop-pair.xs.now c.loop-pair.ys.now c.loop-pair.entries.items c.args.p c.args.a
    c.in_default.ensures.least.0 c.in_default.ensures.least.1 so_far k).1
