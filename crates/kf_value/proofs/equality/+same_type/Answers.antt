use Rattle.std.proofs.Common.{◌≡◌, ℕ, map, sym, ap, ◌∙◌, true≢false, arith, rules}
use Rattle.kf_value.specs.Types.{Range, SetOf}
use Rattle.kf_value.specs.TypeViews.{type_tree}
use Rattle.kf_value.proofs.Alike.{apart, are_same, are_other, lengths_other, more_same, all_same, uppers_same, lowers_other, sets_same, tuple_tree, tuples_same, not_boolean, not_range, not_tuple, not_set}
use Rattle.kf_value.proofs.Trees.{type_tree-Bool, type_tree-Int, type_tree-Tuple, type_tree-Set}
use Rattle.kf_value.proofs.equality.+same_type.Goals.{same_type-In-Int-b}
use Rattle.kf_value.proofs.equality.+same_type.Goals as goal

pub same_type-returns-in-Tuple-b : goal.same_type-returns-in-Tuple-b
same_type-returns-in-Tuple-b t c =
    tuples_same c.same_types.result (type_tree c.args.a.now) (type_tree c.args.b.now) (map type_tree c.as_slice.result.now) (map type_tree c.as_slice-in-Tuple-b.result.now)
    (tuple_tree c.args.a.now c.in-Tuple.xs c.as_slice.result.now c.in-Tuple.is c.as_slice.ensures)
    (tuple_tree c.args.b.now c.in-Tuple-b.ys c.as_slice-in-Tuple-b.result.now c.in-Tuple-b.is c.as_slice-in-Tuple-b.ensures) c.same_types.ensures

pub same_types-returns-then-not-same_type : goal.same_types-returns-then-not-same_type
same_types-returns-then-not-same_type t c = (
  λ yes. absurd (true≢false (sym yes)),
  λ same. absurd (apart type_tree c.args.xs.now c.args.ys.now c.loop-i.i c.index-xs-i.result c.index-ys-i.result (omega arith) c.index-xs-i.is (omega arith) c.index-ys-i.is
      (λ alike. true≢false (sym (c.same_type.ensures.1 alike) ∙ c.if-not-same_type.true)) same),
)

pub same_type-returns-in-Bool-matches : goal.same_type-returns-in-Bool-matches
same_type-returns-in-Bool-matches t c = are_same _ _ (ap type_tree c.in-Bool.is ∙ sym (ap type_tree c.in-Bool-matches.is))

pub same_type-returns-in_default : goal.same_type-returns-in_default
same_type-returns-in_default t c =
    are_other _ _ (λ same. not_boolean c.args.b.now c.in_default.not-Bool (sym (ap type_tree c.in-Bool.is ∙ type_tree-Bool) ∙ same))

module _ (t : ℕ) (c : same_type-In-Int-b t) where
  range : type_tree c.args.a.now ≡ Range c.in-Int.lo c.in-Int.hi
  range = ap type_tree c.in-Int.is ∙ type_tree-Int c.in-Int.lo c.in-Int.hi

  other_range : type_tree c.args.b.now ≡ Range c.in-Int-b.other_lo c.in-Int-b.other_hi
  other_range = ap type_tree c.in-Int-b.is ∙ type_tree-Int c.in-Int-b.other_lo c.in-Int-b.other_hi

pub same_type-returns-then-lo-other_lo : goal.same_type-returns-then-lo-other_lo
same_type-returns-then-lo-other_lo t c =
    let at = (goal.at.same_type-returns-then-lo-other_lo t c).In-Int-b in
    uppers_same (type_tree c.args.a.now) (type_tree c.args.b.now) c.in-Int.lo c.in-Int.hi c.in-Int-b.other_lo c.in-Int-b.other_hi
    (range t at) (other_range t at) (search rules) (search rules) (search rules) (search rules) c.if-lo-other_lo.true

pub same_type-returns-else-lo-other_lo : goal.same_type-returns-else-lo-other_lo
same_type-returns-else-lo-other_lo t c =
    let at = (goal.at.same_type-returns-else-lo-other_lo t c).In-Int-b in
    lowers_other (type_tree c.args.a.now) (type_tree c.args.b.now) c.in-Int.lo c.in-Int.hi c.in-Int-b.other_lo c.in-Int-b.other_hi
    (range t at) (other_range t at) c.if-lo-other_lo.false

pub same_type-returns-in_default-b : goal.same_type-returns-in_default-b
same_type-returns-in_default-b t c =
    are_other _ _ (λ same. not_range c.in-Int.lo c.in-Int.hi c.args.b.now c.in_default-b.not-Int
    (sym (ap type_tree c.in-Int.is ∙ type_tree-Int c.in-Int.lo c.in-Int.hi) ∙ same))

pub same_type-returns-in_default-b-2 : goal.same_type-returns-in_default-b-2
same_type-returns-in_default-b-2 t c =
    are_other _ _ (λ same. not_tuple _ c.args.b.now c.in_default-b-2.not-Tuple
    (sym (ap type_tree c.in-Tuple.is ∙ type_tree-Tuple c.in-Tuple.xs) ∙ same))

pub same_type-returns-in-Set-b : goal.same_type-returns-in-Set-b
same_type-returns-in-Set-b t c =
    sets_same c.same_type.result (type_tree c.args.a.now) (type_tree c.args.b.now)
    (type_tree c.deref.result.now) (type_tree c.deref-in-Set-b.result.now)
    (ap type_tree c.in-Set.is ∙ (type_tree-Set c.in-Set.x ∙ ap (λ x. SetOf (type_tree x)) (sym c.deref.ensures)))
    (ap type_tree c.in-Set-b.is ∙ (type_tree-Set c.in-Set-b.y ∙ ap (λ x. SetOf (type_tree x)) (sym c.deref-in-Set-b.ensures))) c.same_type.ensures

pub same_type-returns-in_default-b-3 : goal.same_type-returns-in_default-b-3
same_type-returns-in_default-b-3 t c =
    are_other _ _ (λ same. not_set _ c.args.b.now c.in_default-b-3.not-Set (sym (ap type_tree c.in-Set.is ∙ type_tree-Set c.in-Set.x) ∙ same))

pub same_types-returns-then-xs-ys : goal.same_types-returns-then-xs-ys
same_types-returns-then-xs-ys t c = lengths_other type_tree c.args.xs.now c.args.ys.now c.if-xs-ys.true

pub same_types-loop-i-preserved : goal.same_types-loop-i-preserved
same_types-loop-i-preserved t c =
    more_same type_tree c.args.xs.now c.args.ys.now c.loop-i.i c.index-xs-i.result c.index-ys-i.result
    (omega arith) c.index-xs-i.is (omega arith) c.index-ys-i.is
    (c.same_type.ensures.0 c.if-not-same_type.false) c.loop-i.invariant

pub same_types-returns : goal.same_types-returns
same_types-returns t c = all_same type_tree c.args.xs.now c.args.ys.now c.loop-i.i (omega arith) (omega arith) c.loop-i.invariant
