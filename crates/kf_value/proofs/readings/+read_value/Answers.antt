use Rattle.std.proofs.Common.{◌≡◌, ◌+◌, ◌*◌, ◌<◌, ◌≤◌, ◌^◌, length, map, drop, Some, None, slice_get, refl, ap, ◌∙◌, subst, arith, rules}
use Rattle.std.proofs.lemmas.Nat.{one_shl}
use Rattle.kf_value.specs.declared.ty.Ty.{the_lemmas as type_lemmas}
use Rattle.kf_value.specs.Types.{values, count}
use Rattle.kf_value.specs.Readings.{row, further}
use Rattle.kf_value.specs.TypeViews.{type_tree}
use Rattle.kf_value.proofs.Ascending.{length-values}
use Rattle.kf_value.proofs.ListLemmas.{left_step, left_end}
use Rattle.kf_value.proofs.Parts.{total}
use Rattle.kf_value.proofs.ReadingElements.{Looked, small_sum, set_start, set_pass, set_take, set_end, nothing_is, not_closing}
use Rattle.kf_value.proofs.ReadingNumbers.{not_begun_with}
use Rattle.kf_value.proofs.ReadingRows.{row_start, row_sized, row_turn, row_step, row_end, tuple_read, set_read, further_stops}
use Rattle.kf_value.proofs.Sizing.{tuple_sized, base_sized}
use Rattle.kf_value.proofs.readings.+read_value.Goals as goal
use Rattle.kf_value.proofs.readings.+read_value.Goals.{read_elements-in-Some, read_elements-in_default}

pub past_element-returns-then-eq-clause-taken : goal.past_element-returns-then-eq-clause-taken
past_element-returns-then-eq-clause-taken t c = λ v r place stops whole.
    let first : slice_get c.args.bytes.now 0 ≡ Some 125 = search rules in
    not_closing (type_tree c.args.base.now) c.args.k v r c.args.bytes.now c.requires place whole first

pub read_elements-loop-k-init : goal.read_elements-loop-k-init
read_elements-loop-k-init t c = set_start (values (type_tree c.args.base.now)) c.args.bytes.now

pub read_elements-overflow_add-n : goal.read_elements-overflow_add-n
read_elements-overflow_add-n t c =
    let few = (base_sized (type_tree c.args.base.now) c.requires).1 in
    let size = c.known_size-k-end.ensures.exact in
    let within : c.loop-k.k < 17 = omega arith in
    let shift = one_shl c.loop-k.k 64 (omega arith) in
    let small = c.loop-k.invariant.small in
    rw shift (omega (arith, small_sum c.loop-k.n c.loop-k.k within small))

pub read_elements-loop-k-preserved : goal.read_elements-loop-k-preserved
read_elements-loop-k-preserved t c =
    let base = values (type_tree c.args.base.now) in
    let few = (base_sized (type_tree c.args.base.now) c.requires).1 in
    let size = c.known_size-k-end.ensures.exact in
    let inside : c.loop-k.k < length base = rw (length-values (type_tree c.args.base.now)) (omega arith) in
    let shift = one_shl c.loop-k.k 64 (omega arith) in
    elim c.match-past_element.branch [
      | read_elements-in-Some w ↦
          let told : Looked base c.loop-k.k c.loop-k.rest.now (Some w.in-Some.after) =
          record { taken = w.in-Some.ensures.taken; passed = w.in-Some.ensures.passed; closed = w.in-Some.ensures.closed } in
          let next = set_take base c.args.bytes.now c.loop-k.rest.now c.loop-k.n c.loop-k.k inside c.loop-k.invariant w.in-Some.after w.past_comma-rest.result.now told
          w.past_comma-rest.ensures in
          rw (w.n-is, w.rest-is, shift) next
      | read_elements-in_default w ↦
          let nothing : c.past_element.result ≡ None = nothing_is c.past_element.result w.in_default.not-Some in
          let ensures = c.past_element.ensures in
          let told : Looked base c.loop-k.k c.loop-k.rest.now c.past_element.result =
          record { taken = ensures.taken; passed = ensures.passed; closed = ensures.closed } in
          let next = set_pass base c.args.bytes.now c.loop-k.rest.now c.loop-k.n c.loop-k.k inside c.loop-k.invariant (subst (Looked base c.loop-k.k c.loop-k.rest.now) nothing told) in
          rw (w.n-is, w.rest-is) next
    ]

pub read_elements-returns : goal.read_elements-returns
read_elements-returns t c = λ m all r place whole.
    let base = values (type_tree c.args.base.now) in
    let past : length base ≤ c.loop-k.k = rw (length-values (type_tree c.args.base.now), ← c.known_size-k-end.ensures.exact) (omega arith) in
    set_end base c.args.bytes.now c.loop-k.rest.now c.loop-k.n c.loop-k.k past c.loop-k.invariant m all r place whole

pub read_part-returns-in_err-k : goal.read_part-returns-in_err-k
read_part-returns-in_err-k t c = λ k v vs r place whole fits. absurd (c.in_err-k.ensures k v (further vs 41 r) place (further_stops vs 41 r refl) whole)

pub read_part-returns : goal.read_part-returns
read_part-returns t c = λ k v vs r place whole fits.
    let both = c.in_ok-k.ensures k v (further vs 41 r) place (further_stops vs 41 r refl) whole in
    let size = c.from-size.ensures ∙ c.known_size.ensures.exact in
    let product : c.args.n * c.from-size.result ≡ c.args.n * count (type_tree c.args.ty.now) = ap (λ s. c.args.n * s) size in
    let first = both.0 in
    let multiplied = c.saturating_mul.ensures in
    let added = c.saturating_add.ensures in
    (omega arith, c.past_comma.ensures vs 41 r (λ h. omega arith) both.1)

pub read_parts-loop-ty-init : goal.read_parts-loop-ty-init
read_parts-loop-ty-init t c =
    row_start (map type_tree c.args.types.now) c.args.bytes.now (tuple_sized (map type_tree c.args.types.now) c.requires).0

pub read_parts-read_part-requires : goal.read_parts-read_part-requires
read_parts-read_part-requires t c =
    let types = map type_tree c.args.types.now in
    let later = map type_tree (drop (c.loop-ty.ty-index + 1) c.args.types.now) in
    let fits : total types ≤ 2 ^ 63 = let few = (tuple_sized types c.requires).1 in omega arith in
    let here = left_step type_tree c.args.types.now c.loop-ty.ty-index c.ty-item.result (omega arith) c.ty-item.is in
    let found = rw here at c.loop-ty.invariant in
    (search (rules, type_lemmas), row_sized types fits (type_tree c.ty-item.result) later c.args.bytes.now c.loop-ty.rest.now c.loop-ty.n found)

pub read_parts-returns-in_err-n : goal.read_parts-returns-in_err-n
read_parts-returns-in_err-n t c = λ m all r place whole.
    let types = map type_tree c.args.types.now in
    let later = map type_tree (drop (c.loop-ty.ty-index + 1) c.args.types.now) in
    let fits : total types ≤ 2 ^ 63 = let few = (tuple_sized types c.requires).1 in omega arith in
    let here = left_step type_tree c.args.types.now c.loop-ty.ty-index c.ty-item.result (omega arith) c.ty-item.is in
    let found = rw here at c.loop-ty.invariant in
    let turn = row_turn types fits (type_tree c.ty-item.result) later c.args.bytes.now c.loop-ty.rest.now c.loop-ty.n found m all r place whole in
    absurd (c.in_err-n.ensures turn.digit turn.value turn.others r turn.at turn.text_here turn.small)

pub read_parts-loop-ty-preserved : goal.read_parts-loop-ty-preserved
read_parts-loop-ty-preserved t c =
    let types = map type_tree c.args.types.now in
    let later = map type_tree (drop (c.loop-ty.ty-index + 1) c.args.types.now) in
    let fits : total types ≤ 2 ^ 63 = let few = (tuple_sized types c.requires).1 in omega arith in
    let here = left_step type_tree c.args.types.now c.loop-ty.ty-index c.ty-item.result (omega arith) c.ty-item.is in
    let found = rw here at c.loop-ty.invariant in
    row_step types fits (type_tree c.ty-item.result) later c.args.bytes.now c.loop-ty.rest.now c.loop-ty.n found c.in_ok-n.field-0-0 c.in_ok-n.field-0-1.now c.in_ok-n.ensures

pub read_parts-returns : goal.read_parts-returns
read_parts-returns t c = λ m all r place whole.
    let used = left_end type_tree c.args.types.now c.loop-ty.ty-index (omega arith) in
    row_end (map type_tree c.args.types.now) c.args.bytes.now c.loop-ty.rest.now c.loop-ty.n (rw used at c.loop-ty.invariant) m all r place whole

pub read_set-returns-in_err-strip_prefix : goal.read_set-returns-in_err-strip_prefix
read_set-returns-in_err-strip_prefix t c = λ n v r place stops whole.
    let set = set_read (type_tree c.args.base.now) n v r c.args.bytes.now place whole in
    absurd (not_begun_with 123 c.args.bytes.now (row set.vs 125 r) c.in_err-strip_prefix.ensures.cases set.whole)

pub read_set-returns-in_err-strip_prefix-2 : goal.read_set-returns-in_err-strip_prefix-2
read_set-returns-in_err-strip_prefix-2 t c = λ n v r place stops whole.
    let set = set_read (type_tree c.args.base.now) n v r c.args.bytes.now place whole in
    let inner = c.in_ok-strip_prefix.ensures.cases.1 ∙ ap (drop 1) set.whole in
    let both = c.read_elements-n.ensures n set.vs r set.at inner in
    absurd (not_begun_with 125 c.read_elements-n.result.1.now r c.in_err-strip_prefix-2.ensures.cases both.1)

pub read_set-returns : goal.read_set-returns
read_set-returns t c = λ n v r place stops whole.
    let set = set_read (type_tree c.args.base.now) n v r c.args.bytes.now place whole in
    let inner = c.in_ok-strip_prefix.ensures.cases.1 ∙ ap (drop 1) set.whole in
    let both = c.read_elements-n.ensures n set.vs r set.at inner in
    (both.0, c.in_ok-strip_prefix-2.ensures.cases.1 ∙ ap (drop 1) both.1)

pub read_tuple-returns-in_err-strip_prefix : goal.read_tuple-returns-in_err-strip_prefix
read_tuple-returns-in_err-strip_prefix t c = λ n v r place stops whole.
    let tuple = tuple_read (map type_tree c.args.types.now) n v r c.args.bytes.now place whole in
    absurd (not_begun_with 40 c.args.bytes.now (row tuple.vs 41 r) c.in_err-strip_prefix.ensures.cases tuple.whole)

pub read_tuple-returns-in_err-n : goal.read_tuple-returns-in_err-n
read_tuple-returns-in_err-n t c = λ n v r place stops whole.
    let tuple = tuple_read (map type_tree c.args.types.now) n v r c.args.bytes.now place whole in
    let inner = c.in_ok-strip_prefix.ensures.cases.1 ∙ ap (drop 1) tuple.whole in
    absurd (c.in_err-n.ensures n tuple.vs r tuple.at inner)

pub read_tuple-returns-in_err-strip_prefix-2 : goal.read_tuple-returns-in_err-strip_prefix-2
read_tuple-returns-in_err-strip_prefix-2 t c = λ n v r place stops whole.
    let tuple = tuple_read (map type_tree c.args.types.now) n v r c.args.bytes.now place whole in
    let inner = c.in_ok-strip_prefix.ensures.cases.1 ∙ ap (drop 1) tuple.whole in
    let both = c.in_ok-n.ensures n tuple.vs r tuple.at inner in
    absurd (not_begun_with 41 c.in_ok-n.rest.now r c.in_err-strip_prefix-2.ensures.cases both.1)

pub read_tuple-returns : goal.read_tuple-returns
read_tuple-returns t c = λ n v r place stops whole.
    let tuple = tuple_read (map type_tree c.args.types.now) n v r c.args.bytes.now place whole in
    let inner = c.in_ok-strip_prefix.ensures.cases.1 ∙ ap (drop 1) tuple.whole in
    let both = c.in_ok-n.ensures n tuple.vs r tuple.at inner in
    (both.0, c.in_ok-strip_prefix-2.ensures.cases.1 ∙ ap (drop 1) both.1)
