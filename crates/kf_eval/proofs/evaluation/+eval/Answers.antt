use Rattle.std.proofs.Common.{◌≡◌, ◌+◌, rules, [], ◌∷◌, length, map, drop, refl, sym, ap, ◌∙◌, subst, arith}
use Rattle.std.proofs.lemmas.Result.{err_from_is_err_and}
use Rattle.kf_value.specs.Views.{value_tree}
use Rattle.kf_value.proofs.ListLemmas.{left_step, left_end}
use Rattle.kf_value.specs.Shapes.{shape_types}
use Rattle.kf_core.specs.Runs.{store_at}
use Rattle.kf_core.specs.Views.{ex_tree}
use Rattle.kf_core.specs.declared.ex.Ex.{the_lemmas}
use Rattle.kf_core.specs.Evaluation.{Evaluated, ev, evs}
use Rattle.kf_core.specs.Exs.{ExTree}
use Rattle.kf_core.specs.Each.{exs}
use Rattle.kf_ops.specs.declared.row.Op.TheVariants as op
use Rattle.kf_eval.specs.Answers.{Answers}
use Rattle.kf_eval.specs.Kinds.{shape_kinds}
use Rattle.kf_eval.proofs.Checking.{apply_tree, calls_row, row_within, parts_kinded, members_kinded, fits_row, has_part, store_kinds, slot_within, slot_answers, or_first, and_first, cond_second, needs_all, row_stops, row_answers, nth_kinded, first_stops, one_value, second_stops, two_values, values_start, values_step, values_fault, values_end, called, arguments_kinded}
use Rattle.kf_eval.proofs.evaluation.+eval.Goals as goal

pub or-returns-then-is_true : goal.or-returns-then-is_true
or-returns-then-is_true t c =
    or_first (store_at (shape_types c.args.shape.now) c.args.store) c.args.args.now c.index-args-0.result (value_tree c.in_ok-first.first) c.requires.two c.index-args-0.is
    c.in_ok-first.ensures (sym c.is_true.ensures ∙ c.if-is_true.true)

pub and-returns-else-is_true : goal.and-returns-else-is_true
and-returns-else-is_true t c =
    and_first (store_at (shape_types c.args.shape.now) c.args.store) c.args.args.now c.index-args-0.result (value_tree c.in_ok-left.left) c.requires.two c.index-args-0.is
    c.in_ok-left.ensures (sym c.is_true.ensures ∙ c.if-is_true.false)

pub cond-returns-then-is_true : goal.cond-returns-then-is_true
cond-returns-then-is_true t c =
    let same = cond_second (store_at (shape_types c.args.shape.now) c.args.store) c.args.args.now c.index-args-0.result c.index-args-1.result (value_tree c.in_ok-test.test) c.requires.three
    c.index-args-0.is c.index-args-1.is c.in_ok-test.ensures (sym c.is_true.ensures ∙ c.if-is_true.true) in
    subst (λ (e : Evaluated). Answers c.value_of-then-is_true.result e) (sym same) c.value_of-then-is_true.ensures

pub operation-code_at-requires : goal.operation-code_at-requires
operation-code_at-requires t c =
    let ks = shape_kinds c.args.shape.now in
    let xs = map ex_tree c.args.args.now in
    row_within ks c.args.row xs (calls_row ks c.args.row xs c.requires.kinded)

pub operation-or-requires : goal.operation-or-requires
operation-or-requires t c =
    (search rules, (c.requires.store, called (shape_kinds c.args.shape.now) c.args.row c.args.args.now c.requires.kinded op.Or c.in-Or.ensures))

pub operation-and-requires : goal.operation-and-requires
operation-and-requires t c =
    (search rules, (c.requires.store, called (shape_kinds c.args.shape.now) c.args.row c.args.args.now c.requires.kinded op.And c.in-And.ensures))

pub operation-cond-requires : goal.operation-cond-requires
operation-cond-requires t c =
    (search rules, (c.requires.store, called (shape_kinds c.args.shape.now) c.args.row c.args.args.now c.requires.kinded op.Cond c.in-Cond.ensures))

pub operation-strict-requires : goal.operation-strict-requires
operation-strict-requires t c = (search rules, (c.requires.store, c.requires.kinded))

pub operation-returns-in_default : goal.operation-returns-in_default
operation-returns-in_default t c =
    let es = evs (store_at (shape_types c.args.shape.now) c.args.store) (exs (map ex_tree c.args.args.now)) in
    subst (λ (e : Evaluated). Answers c.strict.result e) (sym (needs_all c.args.row c.code_at.result es c.code_at.ensures c.in_default.not-Or c.in_default.not-And c.in_default.not-Cond)) c.strict.ensures

pub strict-value_of-requires : goal.strict-value_of-requires
strict-value_of-requires t c =
    let ks = shape_kinds c.args.shape.now in
    let args = c.args.args.now in
    let long : length args ≡ 1 = omega (arith, c.in-len1.len_at_least, c.in-len1.len_below) in
    (search (rules, the_lemmas), (c.requires.store, nth_kinded ks args 0 c.x-item.result (arguments_kinded ks c.args.row args c.requires.kinded) (omega (arith, long)) c.x-item.is))

pub strict-returns-in_err-a-in-len1 : goal.strict-returns-in_err-a-in-len1
strict-returns-in_err-a-in-len1 t c =
    let ks = shape_kinds c.args.shape.now in
    let s = store_at (shape_types c.args.shape.now) c.args.store in
    let args = c.args.args.now in
    let calls = calls_row ks c.args.row (map ex_tree args) c.requires.kinded in
    let long : length args ≡ 1 = omega (arith, c.in-len1.len_at_least, c.in-len1.len_below) in
    let p = err_from_is_err_and c.from_residual.result c.from_residual.ensures.1 in
    rw (p.1, p.2) (row_stops ks s c.args.row (map ex_tree args) calls _ (first_stops s args c.x-item.result _ (omega (arith, long)) c.x-item.is c.in_err-a-in-len1.ensures))

pub strict-apply_row-requires : goal.strict-apply_row-requires
strict-apply_row-requires t c =
    let ks = shape_kinds c.args.shape.now in
    let s = store_at (shape_types c.args.shape.now) c.args.store in
    let args = c.args.args.now in
    let calls = calls_row ks c.args.row (map ex_tree args) c.requires.kinded in
    let are = store_kinds c.evaluation_laws.ensures.stores c.args.shape.now c.args.store c.requires.store in
    let long : length args ≡ 1 = omega (arith, c.in-len1.len_at_least, c.in-len1.len_below) in
    let known = one_value s args c.x-item.result (value_tree c.in_ok-a-in-len1.a) long c.x-item.is c.in_ok-a-in-len1.ensures in
    fits_row c.evaluation_laws.ensures.kinds ks s are c.args.row (map ex_tree args) (value_tree c.in_ok-a-in-len1.a ∷ []) calls known

pub strict-returns-in_ok-a-in-len1 : goal.strict-returns-in_ok-a-in-len1
strict-returns-in_ok-a-in-len1 t c =
    let ks = shape_kinds c.args.shape.now in
    let s = store_at (shape_types c.args.shape.now) c.args.store in
    let args = c.args.args.now in
    let calls = calls_row ks c.args.row (map ex_tree args) c.requires.kinded in
    let long : length args ≡ 1 = omega (arith, c.in-len1.len_at_least, c.in-len1.len_below) in
    let known = one_value s args c.x-item.result (value_tree c.in_ok-a-in-len1.a) long c.x-item.is c.in_ok-a-in-len1.ensures in
    row_answers ks s c.args.row (map ex_tree args) calls (value_tree c.in_ok-a-in-len1.a ∷ []) known (value_tree c.in_ok-a-in-len1.a ∷ []) c.apply_row.result refl c.apply_row.ensures

pub strict-value_of-requires-in-len2 : goal.strict-value_of-requires-in-len2
strict-value_of-requires-in-len2 t c =
    let ks = shape_kinds c.args.shape.now in
    let args = c.args.args.now in
    let long : length args ≡ 2 = omega (arith, c.in-len2.len_at_least, c.in-len2.len_below) in
    (search (rules, the_lemmas), (c.requires.store, nth_kinded ks args 0 c.x-item-then-args-lt3.result (arguments_kinded ks c.args.row args c.requires.kinded) (omega (arith, long)) c.x-item-then-args-lt3.is))

pub strict-returns-in_err-a-in-len2 : goal.strict-returns-in_err-a-in-len2
strict-returns-in_err-a-in-len2 t c =
    let ks = shape_kinds c.args.shape.now in
    let s = store_at (shape_types c.args.shape.now) c.args.store in
    let args = c.args.args.now in
    let calls = calls_row ks c.args.row (map ex_tree args) c.requires.kinded in
    let long : length args ≡ 2 = omega (arith, c.in-len2.len_at_least, c.in-len2.len_below) in
    let p = err_from_is_err_and c.from_residual-in_err-a-in-len2.result c.from_residual-in_err-a-in-len2.ensures.1 in
    rw (p.1, p.2) (row_stops ks s c.args.row (map ex_tree args) calls _ (first_stops s args c.x-item-then-args-lt3.result _ (omega (arith, long)) c.x-item-then-args-lt3.is c.in_err-a-in-len2.ensures))

pub strict-value_of-requires-in-len2-2 : goal.strict-value_of-requires-in-len2-2
strict-value_of-requires-in-len2-2 t c =
    let ks = shape_kinds c.args.shape.now in
    let args = c.args.args.now in
    let long : length args ≡ 2 = omega (arith, c.in-len2.len_at_least, c.in-len2.len_below) in
    (search (rules, the_lemmas), (c.requires.store, nth_kinded ks args 1 c.y-item.result (arguments_kinded ks c.args.row args c.requires.kinded) (omega (arith, long)) c.y-item.is))

pub strict-returns-in_err-b-in-len2 : goal.strict-returns-in_err-b-in-len2
strict-returns-in_err-b-in-len2 t c =
    let ks = shape_kinds c.args.shape.now in
    let s = store_at (shape_types c.args.shape.now) c.args.store in
    let args = c.args.args.now in
    let calls = calls_row ks c.args.row (map ex_tree args) c.requires.kinded in
    let long : length args ≡ 2 = omega (arith, c.in-len2.len_at_least, c.in-len2.len_below) in
    let p = err_from_is_err_and c.from_residual-in_err-b-in-len2.result c.from_residual-in_err-b-in-len2.ensures.1 in
    rw (p.1, p.2) (row_stops ks s c.args.row (map ex_tree args) calls _ (second_stops s c.x-item-then-args-lt3.result c.y-item.result (value_tree c.in_ok-a-in-len2.a) c.in_ok-a-in-len2.ensures args _ long c.x-item-then-args-lt3.is c.y-item.is c.in_err-b-in-len2.ensures))

pub strict-apply_row-requires-in-len2 : goal.strict-apply_row-requires-in-len2
strict-apply_row-requires-in-len2 t c =
    let ks = shape_kinds c.args.shape.now in
    let s = store_at (shape_types c.args.shape.now) c.args.store in
    let args = c.args.args.now in
    let calls = calls_row ks c.args.row (map ex_tree args) c.requires.kinded in
    let are = store_kinds c.evaluation_laws.ensures.stores c.args.shape.now c.args.store c.requires.store in
    let long : length args ≡ 2 = omega (arith, c.in-len2.len_at_least, c.in-len2.len_below) in
    let known = two_values s c.x-item-then-args-lt3.result c.y-item.result (value_tree c.in_ok-a-in-len2.a) c.in_ok-a-in-len2.ensures args (value_tree c.in_ok-b-in-len2.b) long c.x-item-then-args-lt3.is c.y-item.is c.in_ok-b-in-len2.ensures in
    fits_row c.evaluation_laws.ensures.kinds ks s are c.args.row (map ex_tree args) (value_tree c.in_ok-a-in-len2.a ∷ value_tree c.in_ok-b-in-len2.b ∷ []) calls known

pub strict-returns-in_ok-b-in-len2 : goal.strict-returns-in_ok-b-in-len2
strict-returns-in_ok-b-in-len2 t c =
    let ks = shape_kinds c.args.shape.now in
    let s = store_at (shape_types c.args.shape.now) c.args.store in
    let args = c.args.args.now in
    let calls = calls_row ks c.args.row (map ex_tree args) c.requires.kinded in
    let long : length args ≡ 2 = omega (arith, c.in-len2.len_at_least, c.in-len2.len_below) in
    let known = two_values s c.x-item-then-args-lt3.result c.y-item.result (value_tree c.in_ok-a-in-len2.a) c.in_ok-a-in-len2.ensures args (value_tree c.in_ok-b-in-len2.b) long c.x-item-then-args-lt3.is c.y-item.is c.in_ok-b-in-len2.ensures in
    row_answers ks s c.args.row (map ex_tree args) calls (value_tree c.in_ok-a-in-len2.a ∷ value_tree c.in_ok-b-in-len2.b ∷ []) known (value_tree c.in_ok-a-in-len2.a ∷ value_tree c.in_ok-b-in-len2.b ∷ []) c.apply_row-in-len2.result refl c.apply_row-in-len2.ensures

pub strict-values_of-requires : goal.strict-values_of-requires
strict-values_of-requires t c =
    let ks = shape_kinds c.args.shape.now in
    let args = c.args.args.now in
    (search rules, (c.requires.store, arguments_kinded ks c.args.row args c.requires.kinded))

pub strict-apply_row-requires-in_default : goal.strict-apply_row-requires-in_default
strict-apply_row-requires-in_default t c =
    let ks = shape_kinds c.args.shape.now in
    let s = store_at (shape_types c.args.shape.now) c.args.store in
    let args = c.args.args.now in
    let calls = calls_row ks c.args.row (map ex_tree args) c.requires.kinded in
    let are = store_kinds c.evaluation_laws.ensures.stores c.args.shape.now c.args.store c.requires.store in
    rw c.deref.ensures.value (fits_row c.evaluation_laws.ensures.kinds ks s are c.args.row (map ex_tree args) (map value_tree c.in_ok-values-in_default.values.items) calls c.in_ok-values-in_default.ensures)

pub strict-returns-in_ok-values-in_default : goal.strict-returns-in_ok-values-in_default
strict-returns-in_ok-values-in_default t c =
    let ks = shape_kinds c.args.shape.now in
    let s = store_at (shape_types c.args.shape.now) c.args.store in
    let args = c.args.args.now in
    let calls = calls_row ks c.args.row (map ex_tree args) c.requires.kinded in
    row_answers ks s c.args.row (map ex_tree args) calls (map value_tree c.in_ok-values-in_default.values.items) c.in_ok-values-in_default.ensures (map value_tree c.deref.result.now) c.apply_row-in_default.result (ap (map value_tree) c.deref.ensures.value) c.apply_row-in_default.ensures

pub value_of-value_in-requires-clause-within : goal.value_of-value_in-requires-clause-within
value_of-value_in-requires-clause-within t c =
    slot_within c.args.shape.now c.args.e.now c.in-Slot.i c.from.result c.in-Slot.is c.from.ensures c.requires.kinded

pub tuple-values_of-requires : goal.tuple-values_of-requires
tuple-values_of-requires t c = (search rules, (c.requires.store, parts_kinded (shape_kinds c.args.shape.now) (map ex_tree c.args.parts.now) c.requires.kinded))

pub set-values_of-requires : goal.set-values_of-requires
set-values_of-requires t c = (search rules, (c.requires.store, members_kinded (shape_kinds c.args.shape.now) (map ex_tree c.args.members.now) c.requires.kinded))

pub value_of-part_at-requires : goal.value_of-part_at-requires
value_of-part_at-requires t c =
    let are = store_kinds c.evaluation_laws.ensures.stores c.args.shape.now c.args.store c.requires.store in
    has_part c.evaluation_laws.ensures.kinds (shape_kinds c.args.shape.now) (store_at (shape_types c.args.shape.now) c.args.store) are c.args.e.now c.deref.result.now c.in-Part.of c.in-Part.k
    (value_tree c.in_ok-whole-in-Part.whole) c.in-Part.is c.deref.ensures c.requires.kinded c.in_ok-whole-in-Part.ensures

pub value_of-returns-in-Slot : goal.value_of-returns-in-Slot
value_of-returns-in-Slot t c =
    slot_answers (store_at (shape_types c.args.shape.now) c.args.store) c.args.e.now c.in-Slot.i c.from.result c.value_in.result c.map_err-in-Slot.result c.in-Slot.is c.from.ensures
    c.value_in.ensures.value c.map_err-in-Slot.ensures.cases

pub values_of-loop-ex-init : goal.values_of-loop-ex-init
values_of-loop-ex-init t c =
    values_start (shape_kinds c.args.shape.now) (store_at (shape_types c.args.shape.now) c.args.store) (map ex_tree c.args.exs.now) c.in_ok-values.values.items c.in_ok-values.ensures.items c.requires.kinded

pub values_of-returns-in_err-value_of : goal.values_of-returns-in_err-value_of
values_of-returns-in_err-value_of t c =
    let here = left_step ex_tree c.args.exs.now c.loop-ex.ex-index c.ex-item.result (omega arith) c.ex-item.is in
    let so_far = rw here at c.loop-ex.invariant in
    let p = err_from_is_err_and c.from_residual-in_err-value_of.result c.from_residual-in_err-value_of.ensures.1 in
    rw (p.1, p.2)
    (values_fault (shape_kinds c.args.shape.now) (store_at (shape_types c.args.shape.now) c.args.store) (map ex_tree c.args.exs.now) (ex_tree c.ex-item.result)
    (map ex_tree (drop (c.loop-ex.ex-index + 1) c.args.exs.now)) c.loop-ex.values.items _ so_far c.in_err-value_of.ensures)

pub values_of-loop-ex-preserved : goal.values_of-loop-ex-preserved
values_of-loop-ex-preserved t c =
    let here = left_step ex_tree c.args.exs.now c.loop-ex.ex-index c.ex-item.result (omega arith) c.ex-item.is in
    let so_far = rw here at c.loop-ex.invariant in
    values_step (shape_kinds c.args.shape.now) (store_at (shape_types c.args.shape.now) c.args.store) (map ex_tree c.args.exs.now) (ex_tree c.ex-item.result)
    (map ex_tree (drop (c.loop-ex.ex-index + 1) c.args.exs.now)) c.loop-ex.values.items c.push.new.self.items c.in_ok-value_of.field-0 so_far c.in_ok-value_of.ensures c.in_ok-push.ensures.items

pub values_of-returns : goal.values_of-returns
values_of-returns t c =
    let used = left_end ex_tree c.args.exs.now c.loop-ex.ex-index (omega arith) in
    values_end (shape_kinds c.args.shape.now) (store_at (shape_types c.args.shape.now) c.args.store) (map ex_tree c.args.exs.now) c.loop-ex.values.items (rw used at c.loop-ex.invariant)

pub value_of-returns-in-Apply : goal.value_of-returns-in-Apply
value_of-returns-in-Apply t c =
    let same =
    apply_tree c.args.e.now c.in-Apply.row c.from-in-Apply.result c.in-Apply.args c.as_slice.result.now c.in-Apply.is c.from-in-Apply.ensures c.as_slice.ensures in
    subst (λ (e : ExTree). Answers c.operation.result (ev (store_at (shape_types c.args.shape.now) c.args.store) e)) same c.operation.ensures

pub or-value_of-requires : goal.or-value_of-requires
or-value_of-requires t c =
    (search (rules, the_lemmas), (c.requires.store, nth_kinded (shape_kinds c.args.shape.now) c.args.args.now 0 c.index-args-0.result c.requires.kinded (omega (arith, c.requires.two)) c.index-args-0.is))

pub or-value_of-requires-else-is_true : goal.or-value_of-requires-else-is_true
or-value_of-requires-else-is_true t c =
    (search (rules, the_lemmas), (c.requires.store, nth_kinded (shape_kinds c.args.shape.now) c.args.args.now 1 c.index-args-1.result c.requires.kinded (omega (arith, c.requires.two)) c.index-args-1.is))

pub and-value_of-requires : goal.and-value_of-requires
and-value_of-requires t c =
    (search (rules, the_lemmas), (c.requires.store, nth_kinded (shape_kinds c.args.shape.now) c.args.args.now 0 c.index-args-0.result c.requires.kinded (omega (arith, c.requires.two)) c.index-args-0.is))

pub and-value_of-requires-then-is_true : goal.and-value_of-requires-then-is_true
and-value_of-requires-then-is_true t c =
    (search (rules, the_lemmas), (c.requires.store, nth_kinded (shape_kinds c.args.shape.now) c.args.args.now 1 c.index-args-1.result c.requires.kinded (omega (arith, c.requires.two)) c.index-args-1.is))

pub cond-value_of-requires : goal.cond-value_of-requires
cond-value_of-requires t c =
    (search (rules, the_lemmas), (c.requires.store, nth_kinded (shape_kinds c.args.shape.now) c.args.args.now 0 c.index-args-0.result c.requires.kinded (omega (arith, c.requires.three)) c.index-args-0.is))

pub cond-value_of-requires-then-is_true : goal.cond-value_of-requires-then-is_true
cond-value_of-requires-then-is_true t c =
    (search (rules, the_lemmas), (c.requires.store, nth_kinded (shape_kinds c.args.shape.now) c.args.args.now 1 c.index-args-1.result c.requires.kinded (omega (arith, c.requires.three)) c.index-args-1.is))

pub cond-value_of-requires-else-is_true : goal.cond-value_of-requires-else-is_true
cond-value_of-requires-else-is_true t c =
    (search (rules, the_lemmas), (c.requires.store, nth_kinded (shape_kinds c.args.shape.now) c.args.args.now 2 c.index-args-2.result c.requires.kinded (omega (arith, c.requires.three)) c.index-args-2.is))
