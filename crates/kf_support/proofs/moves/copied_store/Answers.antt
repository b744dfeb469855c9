use Rattle.std.proofs.Common.{◌≡◌, ℕ, ◌<◌, ◌≤◌, List, refl, ◌+◌, length, get_or, drop, ap, ◌∙◌, subst, arith}
use Rattle.std.proofs.lemmas.List.{length-map}
use Rattle.kf_value.specs.Shapes.{shape_sizes}
use Rattle.kf_value.specs.Types.{product}
use Rattle.kf_core.specs.Views.{dx_items, dx_tree, program_tree}
use Rattle.kf_support.proofs.Copying.{copy_known, copies_end, drop_past}
use Rattle.kf_support.proofs.moves.copied_store.Goals as goal

pub copied_to-after-requires-clause-from : goal.copied_to-after-requires-clause-from
copied_to-after-requires-clause-from c =
    let p = program_tree c.args.program.now in
    let items = c.as_slice-slot-items.ensures in
    let within : c.loop-slot.slot-index < length p.copies = subst (λ (l : List ℕ). c.loop-slot.slot-index < length l) items c.loop-slot-test.true in
    let read : c.from.result ≡ get_or p.copies c.loop-slot.slot-index 0 = c.from.ensures ∙ ap (λ (l : List ℕ). get_or l c.loop-slot.slot-index 0) items in
    let slot : c.loop-slot.to ≡ length p.decls + c.loop-slot.slot-index = omega (arith, length-map (dx_items c.args.program.now.decls) dx_tree) in
    (copy_known p c.requires.checked c.loop-slot.slot-index c.from.result c.loop-slot.to within read slot).0

pub copied_to-after-requires-clause-alike : goal.copied_to-after-requires-clause-alike
copied_to-after-requires-clause-alike c =
    let p = program_tree c.args.program.now in
    let items = c.as_slice-slot-items.ensures in
    let within : c.loop-slot.slot-index < length p.copies = subst (λ (l : List ℕ). c.loop-slot.slot-index < length l) items c.loop-slot-test.true in
    let read : c.from.result ≡ get_or p.copies c.loop-slot.slot-index 0 = c.from.ensures ∙ ap (λ (l : List ℕ). get_or l c.loop-slot.slot-index 0) items in
    let slot : c.loop-slot.to ≡ length p.decls + c.loop-slot.slot-index = omega (arith, length-map (dx_items c.args.program.now.decls) dx_tree) in
    (copy_known p c.requires.checked c.loop-slot.slot-index c.from.result c.loop-slot.to within read slot).2

pub returns-clause-copied : goal.returns-clause-copied
returns-clause-copied c =
    let p = program_tree c.args.program.now in
    let past : length p.copies ≤ c.loop-slot.slot-index = subst (λ (l : List ℕ). length l ≤ c.loop-slot.slot-index) c.as_slice-slot-items.ensures c.loop-slot-test.false in
    copies_end p c.requires.checked (product (shape_sizes c.args.program.now.shape)) c.args.store c.loop-slot.to c.loop-slot.after (drop c.loop-slot.slot-index p.copies) refl c.requires.store
    (drop_past p.copies c.loop-slot.slot-index past) c.loop-slot.invariant.copies
