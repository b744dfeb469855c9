use Rattle.std.proofs.Common.{◌≡◌, List, subst, ℕ, ◌≤◌, ◌<◌, ◌∷◌, [], ◌∙◌, Ok, sym, ap, refl, rules, arith, length, set}
use Rattle.std.proofs.lemmas.List.{length-set}
use Rattle.kf_value.specs.Shapes.{shape_sizes}
use Rattle.kf_value.specs.Types.{product}
use Rattle.kf_core.specs.Views.{program_tree}
use Rattle.kf_support.specs.Carried.{carry_step, copy_lead}
use Rattle.kf_support.proofs.Copying.{drop_past}
use Rattle.kf_support.proofs.Settling.{settled_reached}
use Rattle.kf_support.proofs.Staying.{copy_stays, stay_there}
use Rattle.kf_support.proofs.Stepping.{led, part_end, part_step, part_way, same_scale}
use Rattle.kf_support.proofs.steps.copy.Goals as goal

pub returns-then-is_empty-clause-answer : goal.returns-then-is_empty-clause-answer
returns-then-is_empty-clause-answer c =
    let p = program_tree c.args.program.now in
    let size = product (shape_sizes c.args.program.now.shape) in
    let empty : length c.as_slice.result.now ≡ 0 = search rules in
    let none : p.copies ≡ [] = drop_past p.copies 0 (subst (λ (l : List ℕ). length l ≤ 0) c.as_slice.ensures (omega (arith, empty))) in
    stay_there (copy_lead p) size c.args.from.items (copy_stays size p c.requires.checked refl none) c.requires.ways

pub copied_store-requires-clause-store : goal.copied_store-requires-clause-store
copied_store-requires-clause-store c =
    let lead = copy_lead (program_tree c.args.program.now) in
    let within : c.loop-i.i < length c.loop-i.next.items = omega (arith, c.len-i-end.ensures, c.loop-i-test.true, c.loop-i.invariant.long) in
    (part_way lead (product (shape_sizes c.args.program.now.shape)) (carry_step lead [] c.args.from.items) c.loop-i.next.items c.loop-i.i c.index.result.now c.index.ensures within c.loop-i.invariant.carried).0

pub loop-i-preserved : goal.loop-i-preserved
loop-i-preserved c =
    let size = product (shape_sizes c.args.program.now.shape) in
    let lead = copy_lead (program_tree c.args.program.now) in
    let e : ℕ × ℕ = c.index.result.now in
    let now = c.loop-i.next.items in
    let i = c.loop-i.i in
    let within : i < length now = omega (arith, c.len-i-end.ensures, c.loop-i-test.true, c.loop-i.invariant.long) in
    let way = part_way lead size (carry_step lead [] c.args.from.items) now i e c.index.ensures within c.loop-i.invariant.carried in
    let changed : ℕ × ℕ = (c.copied_store.result, e.1) in
    record {
      carried = part_step lead size (carry_step lead [] c.args.from.items) now i e c.index.ensures within c.loop-i.invariant.carried c.copied_store.result 1
          (set now i changed) (ap (λ (n : ℕ). led (n ∷ []) 1) (sym c.copied_store.ensures.copied)) c.copied_store.ensures.below (omega arith)
          (ap (λ (s : ℕ). set now i (c.copied_store.result, s)) (same_scale e.1 way.1));
      long = length-set now i changed ∙ c.loop-i.invariant.long;
    }

pub settled-requires : goal.settled-requires
settled-requires c =
    let size = product (shape_sizes c.args.program.now.shape) in
    let lead = copy_lead (program_tree c.args.program.now) in
    let past : length c.loop-i.next.items ≤ c.loop-i.i = omega (arith, c.len-i-end.ensures, c.loop-i-test.false, c.loop-i.invariant.long) in
    record { ways = (size, (part_end lead size (carry_step lead [] c.args.from.items) c.loop-i.next.items c.loop-i.i past c.loop-i.invariant.carried).1) }

pub returns-clause-answer : goal.returns-clause-answer
returns-clause-answer c =
    let size = product (shape_sizes c.args.program.now.shape) in
    let lead = copy_lead (program_tree c.args.program.now) in
    let past : length c.loop-i.next.items ≤ c.loop-i.i = omega (arith, c.len-i-end.ensures, c.loop-i-test.false, c.loop-i.invariant.long) in
    let all = part_end lead size (carry_step lead [] c.args.from.items) c.loop-i.next.items c.loop-i.i past c.loop-i.invariant.carried in
    all.0 ∙ (λ i. Ok (sym c.in_ok-reached.ensures.settled i))

pub returns-clause-ways : goal.returns-clause-ways
returns-clause-ways c =
    let size = product (shape_sizes c.args.program.now.shape) in
    let lead = copy_lead (program_tree c.args.program.now) in
    let past : length c.loop-i.next.items ≤ c.loop-i.i = omega (arith, c.len-i-end.ensures, c.loop-i-test.false, c.loop-i.invariant.long) in
    let all = part_end lead size (carry_step lead [] c.args.from.items) c.loop-i.next.items c.loop-i.i past c.loop-i.invariant.carried in
    settled_reached size c.loop-i.next.items c.in_ok-reached.reached.items all.1 c.in_ok-reached.ensures.settled
