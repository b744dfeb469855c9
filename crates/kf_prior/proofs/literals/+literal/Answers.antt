use Rattle.std.proofs.Common.{◌≡◌, ℤ, map, sym, ap, ◌∙◌, rules, subst, arith, refl, IfOk, FitsSigned}
use Rattle.std.proofs.lemmas.Int.{to_z-of_z}
use Rattle.std.proofs.lemmas.Result.{err_from_is_err_and}
use mir.Syntax.{w64}
use Rattle.kf_value.specs.TypeViews.{type_tree}
use Rattle.kf_value.specs.Types.{SetOf}
use Rattle.kf_value.specs.Views.{value_tree}
use Rattle.kf_value.specs.declared.ty.Ty.{the_lemmas}
use Rattle.kf_value.proofs.Alike.{tuple_tree}
use Rattle.kf_value.proofs.ListLemmas.{each_at, mapped_read}
use Rattle.kf_value.proofs.Trees.{type_tree-Int, type_tree-Set}
use Rattle.kf_ast.specs.Views.{expr_tree}
use Rattle.kf_prior.specs.Literals.{HasLiteral}
use Rattle.kf_prior.specs.FullSources.{whole_literal}
use Rattle.kf_prior.proofs.Written.{tuple_literals, set_literals, parts_start, part_here, parts_turn, parts_all, short_whole, least_written, member_written, members_written, only_written, nothing_written}
use Rattle.kf_prior.proofs.literals.+literal.Goals as goal

pub literal-part_literals-requires : goal.literal-part_literals-requires
literal-part_literals-requires t c = (
  search (rules, the_lemmas),
  tuple_literals (type_tree c.args.ty.now) (map type_tree c.as_slice.result.now) (value_tree c.args.v.now) (map value_tree c.parts.result.now)
      (tuple_tree c.args.ty.now c.in-Tuple.types c.as_slice.result.now c.in-Tuple.is c.as_slice.ensures) c.parts.ensures c.requires,
)

pub literal-set_literal-requires : goal.literal-set_literal-requires
literal-set_literal-requires t c = (
  search (rules, the_lemmas),
  set_literals (type_tree c.args.ty.now) (type_tree c.deref.result.now) (value_tree c.args.v.now) (map value_tree c.elements.result.now)
      (ap type_tree c.in-Set.is ∙ (type_tree-Set c.in-Set.base ∙ ap (λ b. SetOf (type_tree b)) (sym c.deref.ensures))) c.elements.ensures c.requires,
)

pub part_literals-loop-i-init : goal.part_literals-loop-i-init
part_literals-loop-i-init t c = rw (c.new-parts.ensures.items) (parts_start c.args.at c.args.types.now c.args.values.now c.requires)

pub set_literal-literal-requires-in-loop-value : goal.set_literal-literal-requires-in-loop-value
set_literal-literal-requires-in-loop-value t c = (
  search (rules, the_lemmas),
  each_at (HasLiteral (type_tree c.args.base.now)) (map value_tree c.args.values.now) c.loop-value.value-index (value_tree c.value-item.result)
      c.requires.elements (mapped_read value_tree c.args.values.now c.loop-value.value-index c.value-item.result (omega arith) c.value-item.is),
)

pub literal-whole_literal-requires : goal.literal-whole_literal-requires
literal-whole_literal-requires t c =
    let fits : FitsSigned w64 c.whole.result = search rules in
    rw (to_z-of_z w64 c.whole.result fits, c.whole.ensures)
    (short_whole (type_tree c.args.ty.now) c.in-Int.lo c.in-Int.hi (value_tree c.args.v.now) (ap type_tree c.in-Int.is ∙ type_tree-Int c.in-Int.lo c.in-Int.hi) c.requires)

pub literal-returns-in-Int : goal.literal-returns-in-Int
literal-returns-in-Int t c =
    let fits : FitsSigned w64 c.whole.result = search rules in
    let written = subst (λ (z : ℤ). IfOk c.whole_literal.result (λ x. expr_tree x ≡ whole_literal c.args.at z)) (to_z-of_z w64 c.whole.result fits) c.whole_literal.ensures in
    rw (c.in-Int.is, type_tree-Int c.in-Int.lo c.in-Int.hi, ← c.whole.ensures) written

pub literal-returns-in-Set : goal.literal-returns-in-Set
literal-returns-in-Set t c =
    let type = ap type_tree c.in-Set.is ∙ (type_tree-Set c.in-Set.base ∙ ap (λ b. SetOf (type_tree b)) (sym c.deref.ensures)) in
    rw (type, ← c.elements.ensures) c.set_literal.ensures

pub part_literals-literal-requires : goal.part_literals-literal-requires
part_literals-literal-requires t c = (
  search (rules, the_lemmas),
  part_here c.args.at c.args.types.now c.args.values.now c.loop-i.i c.loop-i.parts.items c.loop-i.invariant c.index-types-i.result c.index-values-i.result (omega arith) c.index-types-i.is c.index-values-i.is,
)

pub part_literals-loop-i-preserved : goal.part_literals-loop-i-preserved
part_literals-loop-i-preserved t c =
    rw c.in_ok-push.ensures.items
    (parts_turn c.args.at c.args.types.now c.args.values.now c.loop-i.i c.loop-i.parts.items c.loop-i.invariant c.index-types-i.result c.index-values-i.result c.in_ok-literal.field-0 (omega arith)
    c.index-types-i.is c.index-values-i.is c.in_ok-literal.ensures)

pub part_literals-returns : goal.part_literals-returns
part_literals-returns t c = rw c.new.ensures (parts_all c.args.at c.args.types.now c.args.values.now c.loop-i.i c.loop-i.parts.items c.loop-i.invariant (omega arith))

pub set_literal-value_at-requires : goal.set_literal-value_at-requires
set_literal-value_at-requires t c = record { sized = c.requires.base.sized; below = c.requires.base.some }

pub set_literal-literal-requires : goal.set_literal-literal-requires
set_literal-literal-requires t c = (
  search (rules, the_lemmas),
  least_written (type_tree c.args.base.now) (value_tree c.in_ok-least.least) c.in_ok-least.ensures.place c.requires.least,
)

pub set_literal-returns-then-is_empty : goal.set_literal-returns-then-is_empty
set_literal-returns-then-is_empty t c =
    nothing_written c.args.at (type_tree c.args.base.now) c.args.values.now c.is_empty.result (value_tree c.in_ok-least.least) c.in_ok-first.first c.in_ok-first.second c.applied.result c.in_ok-vec.field-0.items
    c.is_empty.ensures c.if-is_empty.true c.in_ok-least.ensures.place
    (only_written c.args.at _ c.literal.result c.only-first.result c.in_ok-first.first c.in_ok-first.ensures.0 c.only-first.ensures c.literal.ensures)
    (only_written c.args.at _ c.literal-then-is_empty.result c.only-second.result c.in_ok-first.second c.in_ok-first.ensures.1 c.only-second.ensures c.literal-then-is_empty.ensures)
    c.in_ok-vec.ensures.items c.applied.ensures

pub set_literal-loop-value-init : goal.set_literal-loop-value-init
set_literal-loop-value-init t c = rw c.new-members.ensures.items refl

pub set_literal-loop-value-preserved : goal.set_literal-loop-value-preserved
set_literal-loop-value-preserved t c =
    rw c.in_ok-push.ensures.items
    (member_written c.args.at (type_tree c.args.base.now) c.args.values.now c.loop-value.value-index c.value-item.result c.loop-value.members.items c.in_ok-literal.field-0 c.loop-value-test.true c.value-item.is
    c.in_ok-literal.ensures c.loop-value.invariant)

pub set_literal-returns : goal.set_literal-returns
set_literal-returns t c =
    members_written c.args.at (type_tree c.args.base.now) c.args.values.now c.loop-value.value-index c.is_empty.result c.loop-value.members.items c.set.result c.is_empty.ensures c.if-is_empty.false
    c.loop-value-test.false c.loop-value.invariant c.set.ensures

pub set_literal-returns-in_err-least : goal.set_literal-returns-in_err-least
set_literal-returns-in_err-least t c = rw (err_from_is_err_and c.from_residual.result c.from_residual.ensures.1).1 tt
