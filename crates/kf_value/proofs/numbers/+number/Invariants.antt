use Rattle.std.proofs.Common.{drop}
use Rattle.kf_value.specs.TypeViews.{type_tree}
use Rattle.kf_value.proofs.Numbering.{ElementsLeft, PartsLeft}
use Rattle.kf_value.proofs.numbers.+number.Given as goal

abbrev pub invariant-number_of_elements-loop-element : goal.invariant-number_of_elements-loop-element
invariant-number_of_elements-loop-element l = ElementsLeft (type_tree l.base) l.elements (drop l.element-index l.elements) l.n

abbrev pub invariant-number_of_parts-loop-i : goal.invariant-number_of_parts-loop-i
invariant-number_of_parts-loop-i l = PartsLeft l.types l.parts (drop l.i l.types) (drop l.i l.parts) l.n
