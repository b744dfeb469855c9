use Rattle.std.proofs.Common.{FitsSigned, rules, arith, refl}
use Rattle.std.proofs.lemmas.Int.{to_z-of_z}
use mir.Syntax.{w128}
use Rattle.kf_simplex.proofs.Entries.{ascends_less}
use Rattle.kf_simplex.proofs.Tails.{tailing_first, tailing_more, tailing_less, tailing_greater, tailing_equal}
use Rattle.kf_simplex.proofs.rows.tail_order.Goals as goal

pub loop-pair-init : goal.loop-pair-init
loop-pair-init c =
    tailing_first c.args.a.now.entries.items c.args.b.now.entries.items c.as_slice-xs.result.now c.as_slice-ys.result.now c.args.from c.args.to _ _
    c.as_slice-xs.ensures.value c.as_slice-ys.ensures.value c.args.a.now.ascending c.args.b.now.ascending

pub next_pair-requires-clause-first : goal.next_pair-requires-clause-first
next_pair-requires-clause-first c = let so_far = c.loop-pair.invariant in ascends_less 0 so_far.0 c.loop-pair.xs.now (omega arith) so_far.1.first.ascending

pub next_pair-requires-clause-second : goal.next_pair-requires-clause-second
next_pair-requires-clause-second c = let so_far = c.loop-pair.invariant in ascends_less 0 so_far.0 c.loop-pair.ys.now (omega arith) so_far.1.second.ascending

pub returns-in-Less : goal.returns-in-Less
returns-in-Less c =
    let p : FitsSigned w128 c.args.p = c.ranges.p in
    let q : FitsSigned w128 c.args.q = c.ranges.q in
    let x : FitsSigned w128 c.in-Some.pair.x = search rules in
    let y : FitsSigned w128 c.in-Some.pair.y = search rules in
    let so_far = simp to_z-of_z at c.loop-pair.invariant in
    let h = simp to_z-of_z at (c.in-Less.ensures.less refl) in
    tailing_less c.args.a.now.entries.items c.args.b.now.entries.items c.loop-pair.xs.now c.loop-pair.ys.now c.args.from c.args.to c.args.p c.args.q
    c.in-Some.pair.x c.in-Some.pair.y c.in-Some.pair.column c.in-Some.pair.xs.now c.in-Some.pair.ys.now c.in-Some.ensures.least so_far h.0 h.1 h.2

pub returns-in-Greater : goal.returns-in-Greater
returns-in-Greater c =
    let p : FitsSigned w128 c.args.p = c.ranges.p in
    let q : FitsSigned w128 c.args.q = c.ranges.q in
    let x : FitsSigned w128 c.in-Some.pair.x = search rules in
    let y : FitsSigned w128 c.in-Some.pair.y = search rules in
    let so_far = simp to_z-of_z at c.loop-pair.invariant in
    let h = simp to_z-of_z at (c.in-Greater.ensures.greater refl) in
    tailing_greater c.args.a.now.entries.items c.args.b.now.entries.items c.loop-pair.xs.now c.loop-pair.ys.now c.args.from c.args.to c.args.p c.args.q
    c.in-Some.pair.x c.in-Some.pair.y c.in-Some.pair.column c.in-Some.pair.xs.now c.in-Some.pair.ys.now c.in-Some.ensures.least so_far h.0 h.1 h.2

pub loop-pair-preserved : goal.loop-pair-preserved
loop-pair-preserved c =
    let p : FitsSigned w128 c.args.p = c.ranges.p in
    let q : FitsSigned w128 c.args.q = c.ranges.q in
    let x : FitsSigned w128 c.in-Some.pair.x = search rules in
    let y : FitsSigned w128 c.in-Some.pair.y = search rules in
    let so_far = simp to_z-of_z at c.loop-pair.invariant in
    let h = simp to_z-of_z at (c.in-Equal.ensures.equal refl) in
    simp to_z-of_z
    (tailing_more c.args.a.now.entries.items c.args.b.now.entries.items c.loop-pair.xs.now c.loop-pair.ys.now c.args.from c.args.to c.args.p c.args.q
    c.in-Some.pair.x c.in-Some.pair.y c.in-Some.pair.column c.in-Some.pair.xs.now c.in-Some.pair.ys.now c.in-Some.ensures.least so_far h)

pub returns : goal.returns
returns c =
    let p : FitsSigned w128 c.args.p = c.ranges.p in
    let q : FitsSigned w128 c.args.q = c.ranges.q in
    let so_far = simp to_z-of_z at c.loop-pair.invariant in
    tailing_equal c.args.a.now.entries.items c.args.b.now.entries.items c.loop-pair.xs.now c.loop-pair.ys.now c.args.from c.args.to c.args.p c.args.q
    c.in_default.ensures.least.0 c.in_default.ensures.least.1 so_far
