use Rattle.std.proofs.Common.{◌≡◌, ◌+◌, ◌<◌, Ok, rules, length, map, drop, refl, sym, ap, ◌∙◌, subst, arith, true, false, w64, to_z, of_z}
use Rattle.std.proofs.lemmas.Int.{to_z-of_z}
use Rattle.kf_value.proofs.ListLemmas.{left_step, left_end}
use Rattle.kf_value.specs.Shapes.{shape_types}
use Rattle.kf_value.specs.Values.{Truth, Whole}
use Rattle.kf_core.specs.Evaluation.{Evaluated, ev}
use Rattle.kf_core.specs.Exs.{ExTree}
use Rattle.kf_core.specs.Runs.{store_at}
use Rattle.kf_core.specs.Views.{ex_tree}
use Rattle.kf_core.specs.declared.ex.Ex.{the_lemmas}
use Rattle.kf_ops.specs.declared.row.Op.TheVariants as op
use Rattle.kf_eval.specs.Kinds.{shape_kinds}
use Rattle.kf_eval.specs.Scalars.{TellsTruth, TellsWhole}
use Rattle.kf_eval.proofs.Checking.{and_first, apply_tree, calls_row, cond_second, nth_kinded, or_first, row_within, slot_within, called, arguments_kinded}
use Rattle.kf_eval.proofs.Comparing.{pairs_end, pairs_start, pairs_step, tuples_compare, written_kinded}
use Rattle.kf_eval.proofs.Finding.{listed_kinded, members_end, members_start, members_step, set_tells}
use Rattle.kf_eval.proofs.Variables.{slot_tells}
use Rattle.kf_eval.proofs.scalars.+whole_of.Goals as goal
use Rattle.kf_eval.proofs.scalars.+whole_of.Goals.{are_same-then-is_whole+in_ok-a+in_ok-b, are_same-else-is_whole+in_ok-first+in_ok-second}

pub whole_of-whole_in_slot-requires-clause-within : goal.whole_of-whole_in_slot-requires-clause-within
whole_of-whole_in_slot-requires-clause-within t c =
    slot_within c.args.shape.now c.args.e.now c.in-Slot.i c.from.result c.in-Slot.is c.from.ensures c.requires.kinded

pub whole_of-returns-in-Slot : goal.whole_of-returns-in-Slot
whole_of-returns-in-Slot t c =
    slot_tells (λ x. Whole x) (store_at (shape_types c.args.shape.now) c.args.store) c.args.e.now c.in-Slot.i c.from.result c.whole_in_slot.result c.in-Slot.is c.from.ensures c.whole_in_slot.ensures

pub whole_of-returns-in-Apply : goal.whole_of-returns-in-Apply
whole_of-returns-in-Apply t c =
    let same =
    apply_tree c.args.e.now c.in-Apply.row c.from-in-Apply.result c.in-Apply.args c.as_slice.result.now c.in-Apply.is c.from-in-Apply.ensures c.as_slice.ensures in
    subst (λ (e : ExTree). TellsWhole c.whole_at.result (ev (store_at (shape_types c.args.shape.now) c.args.store) e)) same c.whole_at.ensures

pub whole_at-code_at-code-requires : goal.whole_at-code_at-code-requires
whole_at-code_at-code-requires t c =
    let ks = shape_kinds c.args.shape.now in
    let xs = map ex_tree c.args.args.now in
    row_within ks c.args.row xs (calls_row ks c.args.row xs c.requires.kinded)

pub truth_of-truth_in_slot-requires-clause-within : goal.truth_of-truth_in_slot-requires-clause-within
truth_of-truth_in_slot-requires-clause-within t c =
    slot_within c.args.shape.now c.args.e.now c.in-Slot.i c.from.result c.in-Slot.is c.from.ensures c.requires.kinded

pub truth_of-returns-in-Slot : goal.truth_of-returns-in-Slot
truth_of-returns-in-Slot t c =
    slot_tells (λ x. Truth x) (store_at (shape_types c.args.shape.now) c.args.store) c.args.e.now c.in-Slot.i c.from.result c.truth_in_slot.result c.in-Slot.is c.from.ensures c.truth_in_slot.ensures

pub truth_of-returns-in-Apply : goal.truth_of-returns-in-Apply
truth_of-returns-in-Apply t c =
    let same =
    apply_tree c.args.e.now c.in-Apply.row c.from-in-Apply.result c.in-Apply.args c.as_slice.result.now c.in-Apply.is c.from-in-Apply.ensures c.as_slice.ensures in
    subst (λ (e : ExTree). TellsTruth c.truth_at.result (ev (store_at (shape_types c.args.shape.now) c.args.store) e)) same c.truth_at.ensures

pub truth_at-code_at-code-requires : goal.truth_at-code_at-code-requires
truth_at-code_at-code-requires t c =
    let ks = shape_kinds c.args.shape.now in
    let xs = map ex_tree c.args.args.now in
    row_within ks c.args.row xs (calls_row ks c.args.row xs c.requires.kinded)

pub whole_at-whole_cond-requires : goal.whole_at-whole_cond-requires
whole_at-whole_cond-requires t c =
    (search rules, (c.requires.store, called (shape_kinds c.args.shape.now) c.args.row c.args.args.now c.requires.kinded op.Cond c.in-Cond.ensures))

pub whole_at-from_wholes-requires : goal.whole_at-from_wholes-requires
whole_at-from_wholes-requires t c =
    (search rules, (c.requires.store, arguments_kinded (shape_kinds c.args.shape.now) c.args.row c.args.args.now c.requires.kinded))

pub truth_at-or-requires : goal.truth_at-or-requires
truth_at-or-requires t c =
    (search rules, (c.requires.store, called (shape_kinds c.args.shape.now) c.args.row c.args.args.now c.requires.kinded op.Or c.in-Or.ensures))

pub truth_at-and-requires : goal.truth_at-and-requires
truth_at-and-requires t c =
    (search rules, (c.requires.store, called (shape_kinds c.args.shape.now) c.args.row c.args.args.now c.requires.kinded op.And c.in-And.ensures))

pub truth_at-truth_cond-requires : goal.truth_at-truth_cond-requires
truth_at-truth_cond-requires t c =
    (search rules, (c.requires.store, called (shape_kinds c.args.shape.now) c.args.row c.args.args.now c.requires.kinded op.Cond c.in-Cond.ensures))

pub truth_at-from_truths-requires : goal.truth_at-from_truths-requires
truth_at-from_truths-requires t c =
    (search rules, (c.requires.store, arguments_kinded (shape_kinds c.args.shape.now) c.args.row c.args.args.now c.requires.kinded))

pub truth_at-from_order-requires : goal.truth_at-from_order-requires
truth_at-from_order-requires t c =
    (search rules, (c.requires.store, arguments_kinded (shape_kinds c.args.shape.now) c.args.row c.args.args.now c.requires.kinded))

pub truth_at-are_same-requires : goal.truth_at-are_same-requires
truth_at-are_same-requires t c =
    (search rules, (c.requires.store, called (shape_kinds c.args.shape.now) c.args.row c.args.args.now c.requires.kinded op.Equal c.in-Equal.ensures))

pub truth_at-are_same-requires-in-NotEqual : goal.truth_at-are_same-requires-in-NotEqual
truth_at-are_same-requires-in-NotEqual t c =
    (search rules, (c.requires.store, called (shape_kinds c.args.shape.now) c.args.row c.args.args.now c.requires.kinded op.NotEqual c.in-NotEqual.ensures))

pub truth_at-is_listed-requires : goal.truth_at-is_listed-requires
truth_at-is_listed-requires t c =
    (search rules, (c.requires.store, called (shape_kinds c.args.shape.now) c.args.row c.args.args.now c.requires.kinded op.Elem c.in-Elem.ensures))

pub or-truth_of-requires : goal.or-truth_of-requires
or-truth_of-requires t c =
    (search (rules, the_lemmas), (c.requires.store, nth_kinded (shape_kinds c.args.shape.now) c.args.args.now 0 c.index-args-0.result c.requires.kinded (omega (arith, c.requires.two)) c.index-args-0.is))

pub or-truth_of-requires-else-branch : goal.or-truth_of-requires-else-branch
or-truth_of-requires-else-branch t c =
    (search (rules, the_lemmas), (c.requires.store, nth_kinded (shape_kinds c.args.shape.now) c.args.args.now 1 c.index-args-1.result c.requires.kinded (omega (arith, c.requires.two)) c.index-args-1.is))

pub and-truth_of-requires : goal.and-truth_of-requires
and-truth_of-requires t c =
    (search (rules, the_lemmas), (c.requires.store, nth_kinded (shape_kinds c.args.shape.now) c.args.args.now 0 c.index-args-0.result c.requires.kinded (omega (arith, c.requires.two)) c.index-args-0.is))

pub and-truth_of-requires-then-branch : goal.and-truth_of-requires-then-branch
and-truth_of-requires-then-branch t c =
    (search (rules, the_lemmas), (c.requires.store, nth_kinded (shape_kinds c.args.shape.now) c.args.args.now 1 c.index-args-1.result c.requires.kinded (omega (arith, c.requires.two)) c.index-args-1.is))

pub whole_cond-truth_of-requires : goal.whole_cond-truth_of-requires
whole_cond-truth_of-requires t c =
    (search (rules, the_lemmas), (c.requires.store, nth_kinded (shape_kinds c.args.shape.now) c.args.args.now 0 c.index-args-0.result c.requires.kinded (omega (arith, c.requires.three)) c.index-args-0.is))

pub whole_cond-whole_of-requires : goal.whole_cond-whole_of-requires
whole_cond-whole_of-requires t c =
    (search (rules, the_lemmas), (c.requires.store, nth_kinded (shape_kinds c.args.shape.now) c.args.args.now 1 c.index-args-1.result c.requires.kinded (omega (arith, c.requires.three)) c.index-args-1.is))

pub whole_cond-whole_of-requires-else-branch : goal.whole_cond-whole_of-requires-else-branch
whole_cond-whole_of-requires-else-branch t c =
    (search (rules, the_lemmas), (c.requires.store, nth_kinded (shape_kinds c.args.shape.now) c.args.args.now 2 c.index-args-2.result c.requires.kinded (omega (arith, c.requires.three)) c.index-args-2.is))

pub whole_cond-returns-then-branch : goal.whole_cond-returns-then-branch
whole_cond-returns-then-branch t c =
    let same = cond_second (store_at (shape_types c.args.shape.now) c.args.store) c.args.args.now c.index-args-0.result c.index-args-1.result (Truth true) c.requires.three
    c.index-args-0.is c.index-args-1.is (c.in_ok-truth_of.ensures ∙ ap (λ b. Ok (Truth b)) c.if-branch.true) refl in
    subst (λ (e : Evaluated). TellsWhole c.whole_of.result e) (sym same) c.whole_of.ensures

pub truth_cond-truth_of-requires : goal.truth_cond-truth_of-requires
truth_cond-truth_of-requires t c =
    (search (rules, the_lemmas), (c.requires.store, nth_kinded (shape_kinds c.args.shape.now) c.args.args.now 0 c.index-args-0.result c.requires.kinded (omega (arith, c.requires.three)) c.index-args-0.is))

pub truth_cond-truth_of-requires-then-branch : goal.truth_cond-truth_of-requires-then-branch
truth_cond-truth_of-requires-then-branch t c =
    (search (rules, the_lemmas), (c.requires.store, nth_kinded (shape_kinds c.args.shape.now) c.args.args.now 1 c.index-args-1.result c.requires.kinded (omega (arith, c.requires.three)) c.index-args-1.is))

pub truth_cond-truth_of-requires-else-branch : goal.truth_cond-truth_of-requires-else-branch
truth_cond-truth_of-requires-else-branch t c =
    (search (rules, the_lemmas), (c.requires.store, nth_kinded (shape_kinds c.args.shape.now) c.args.args.now 2 c.index-args-2.result c.requires.kinded (omega (arith, c.requires.three)) c.index-args-2.is))

pub truth_cond-returns-then-branch : goal.truth_cond-returns-then-branch
truth_cond-returns-then-branch t c =
    let same = cond_second (store_at (shape_types c.args.shape.now) c.args.store) c.args.args.now c.index-args-0.result c.index-args-1.result (Truth true) c.requires.three
    c.index-args-0.is c.index-args-1.is (c.in_ok-truth_of.ensures ∙ ap (λ b. Ok (Truth b)) c.if-branch.true) refl in
    subst (λ (e : Evaluated). TellsTruth c.truth_of-then-branch.result e) (sym same) c.truth_of-then-branch.ensures

pub or-returns-then-branch : goal.or-returns-then-branch
or-returns-then-branch t c =
    or_first (store_at (shape_types c.args.shape.now) c.args.store) c.args.args.now c.index-args-0.result (Truth true) c.requires.two c.index-args-0.is
    (c.in_ok-truth_of.ensures ∙ ap (λ b. Ok (Truth b)) c.if-branch.true) refl

pub and-returns-else-branch : goal.and-returns-else-branch
and-returns-else-branch t c =
    and_first (store_at (shape_types c.args.shape.now) c.args.store) c.args.args.now c.index-args-0.result (Truth false) c.requires.two c.index-args-0.is
    (c.in_ok-truth_of.ensures ∙ ap (λ b. Ok (Truth b)) c.if-branch.false) refl

pub are_same-loop-i-init : goal.are_same-loop-i-init
are_same-loop-i-init t c =
    let ks = shape_kinds c.args.shape.now in
    let args = c.args.args.now in
    pairs_start (store_at (shape_types c.args.shape.now) c.args.store) ks (map ex_tree c.as_slice-xs.result.now) (map ex_tree c.as_slice-ys.result.now)
    (written_kinded ks c.index-args-0.result c.in-Tuple.left c.as_slice-xs.result.now c.in-Tuple.is c.as_slice-xs.ensures
    (nth_kinded ks args 0 c.index-args-0.result c.requires.kinded (omega (arith, c.requires.two)) c.index-args-0.is))
    (written_kinded ks c.index-args-1.result c.in-Tuple-args.right c.as_slice-ys.result.now c.in-Tuple-args.is c.as_slice-ys.ensures
    (nth_kinded ks args 1 c.index-args-1.result c.requires.kinded (omega (arith, c.requires.two)) c.index-args-1.is))

pub are_same-loop-i-preserved : goal.are_same-loop-i-preserved
are_same-loop-i-preserved t c =
    let xs = c.as_slice-xs.result.now in
    let ys = c.as_slice-ys.result.now in
    let within : c.loop-i.i < length ys = omega (arith, c.loop-i-test.true, c.if-xs-ys.false) in
    let left = left_step ex_tree xs c.loop-i.i c.index-xs-i.result c.loop-i-test.true c.index-xs-i.is in
    let right = left_step ex_tree ys c.loop-i.i c.index-ys-i.result within c.index-ys-i.is in
    let step =
    pairs_step (store_at (shape_types c.args.shape.now) c.args.store) (shape_kinds c.args.shape.now) (map ex_tree xs) (map ex_tree ys) (ex_tree c.index-xs-i.result) (ex_tree c.index-ys-i.result)
    (map ex_tree (drop (c.loop-i.i + 1) xs)) (map ex_tree (drop (c.loop-i.i + 1) ys)) c.loop-i.same c.if-is_whole.same in
    let so_far = rw (left, right) at c.loop-i.invariant in
    elim c.if-is_whole.branch [
      | are_same-then-is_whole+in_ok-a+in_ok-b w ↦ step (Whole w.in_ok-a.a) (Whole w.in_ok-b.b) so_far w.in_ok-a.ensures w.in_ok-b.ensures (w.same-is ∙ search rules)
      | are_same-else-is_whole+in_ok-first+in_ok-second w ↦ step (Truth w.in_ok-first.first) (Truth w.in_ok-second.second) so_far w.in_ok-first.ensures w.in_ok-second.ensures (w.same-is ∙ search rules)
    ]

pub are_same-returns : goal.are_same-returns
are_same-returns t c =
    let s = store_at (shape_types c.args.shape.now) c.args.store in
    let xs = c.as_slice-xs.result.now in
    let ys = c.as_slice-ys.result.now in
    let left = left_end ex_tree xs c.loop-i.i c.loop-i-test.false in
    let right = left_end ex_tree ys c.loop-i.i (omega (arith, c.loop-i-test.false, c.if-xs-ys.false)) in
    tuples_compare s c.args.args.now c.index-args-0.result c.index-args-1.result c.in-Tuple.left c.in-Tuple-args.right xs ys c.loop-i.same c.requires.two c.index-args-0.is c.index-args-1.is
    c.in-Tuple.is c.in-Tuple-args.is c.as_slice-xs.ensures c.as_slice-ys.ensures
    (pairs_end s (shape_kinds c.args.shape.now) (map ex_tree xs) (map ex_tree ys) c.loop-i.same (rw (left, right) at c.loop-i.invariant))

pub is_listed-loop-member-init : goal.is_listed-loop-member-init
is_listed-loop-member-init t c =
    let ks = shape_kinds c.args.shape.now in
    members_start (store_at (shape_types c.args.shape.now) c.args.store) (Whole (to_z w64 (of_z w64 c.in_ok-value.value))) ks (map ex_tree c.as_slice-member-items.result.now)
    (listed_kinded ks c.index-args-1.result c.in-SetOf.written c.as_slice-member-items.result.now c.in-SetOf.is c.as_slice-member-items.ensures
    (nth_kinded ks c.args.args.now 1 c.index-args-1.result c.requires.kinded (omega (arith, c.requires.two)) c.index-args-1.is))

pub is_listed-whole_of-requires-in-loop-member : goal.is_listed-whole_of-requires-in-loop-member
is_listed-whole_of-requires-in-loop-member t c =
    let here = left_step ex_tree c.as_slice-member-items.result.now c.loop-member.member-index c.member-item.result c.loop-member-test.true c.member-item.is in
    (search (rules, the_lemmas), (c.requires.store, (rw here at c.loop-member.invariant.kinded).0))

pub is_listed-loop-member-preserved : goal.is_listed-loop-member-preserved
is_listed-loop-member-preserved t c =
    let all = c.as_slice-member-items.result.now in
    let here = left_step ex_tree all c.loop-member.member-index c.member-item.result c.loop-member-test.true c.member-item.is in
    let so_far = rw here at c.loop-member.invariant in
    members_step (store_at (shape_types c.args.shape.now) c.args.store) (Whole (to_z w64 (of_z w64 c.in_ok-value.value))) (shape_kinds c.args.shape.now) (map ex_tree all) (ex_tree c.member-item.result)
    (map ex_tree (drop (c.loop-member.member-index + 1) all)) c.loop-member.found _ (Whole c.in_ok-other.other) so_far c.in_ok-other.ensures
    (search rules)

pub is_listed-returns : goal.is_listed-returns
is_listed-returns t c =
    let s = store_at (shape_types c.args.shape.now) c.args.store in
    let all = c.as_slice-member-items.result.now in
    let used = left_end ex_tree all c.loop-member.member-index c.loop-member-test.false in
    let back : Ok (Whole c.in_ok-value.value) ≡ Ok (Whole (to_z w64 (of_z w64 c.in_ok-value.value))) = ap (λ z. Ok (Whole z)) (sym (to_z-of_z w64 c.in_ok-value.value (search rules))) in
    set_tells s (Whole (to_z w64 (of_z w64 c.in_ok-value.value))) c.args.args.now c.index-args-0.result c.index-args-1.result c.in-SetOf.written all c.loop-member.found c.requires.two c.index-args-0.is c.index-args-1.is
    (c.in_ok-value.ensures ∙ back) c.in-SetOf.is c.as_slice-member-items.ensures
    (members_end s (Whole (to_z w64 (of_z w64 c.in_ok-value.value))) (shape_kinds c.args.shape.now) (map ex_tree all) c.loop-member.found (rw used at c.loop-member.invariant))
