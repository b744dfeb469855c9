use Rattle.std.proofs.Common.{refl}
use Rattle.std.proofs.lemmas.List.Elements.{All-from_recursion}
use Rattle.kf_ops.specs.Rows.{operators}
use Rattle.kf_ops.specs.Laws.{KeepsKinds, NamesFaults}
use Rattle.kf_ops.proofs.Euclid.{euclidean}
use Rattle.kf_ops.proofs.Keeping.{keep_kinds}
use Rattle.kf_ops.proofs.Naming.{name_faults}
use Rattle.kf_ops.proofs.SetLaws.{equal_values, holds}
use Rattle.kf_ops.proofs.OperatorLaws as law
use Rattle.kf_ops.proofs.laws.row_laws.Goals as goal

pub returns : goal.returns
returns c = record {
  equal = equal_values;
  member = holds;
  narrow = law.narrow_told;
  or_true = law.or_true;
  and_true = law.and_true;
  not_true = law.not_true;
  equal_true = law.equal_true;
  unequal_true = law.unequal_true;
  less_true = law.less_true;
  at_most_true = law.at_most_true;
  greater_true = law.greater_true;
  at_least_true = law.at_least_true;
  element_true = law.element_true;
  union = law.union_made;
  difference = law.difference_made;
  intersection = law.intersection_made;
  elements = law.elements_counted;
  added = law.added;
  subtracted = law.subtracted;
  multiplied = law.multiplied;
  negated = law.negated;
  quotient = law.quotient;
  remainder = law.remainder;
  no_quotient = λ i. refl;
  no_remainder = λ i. refl;
  euclid = euclidean;
  first_choice = λ v w. refl;
  second_choice = λ v w. refl;
  xor_true = law.xor_true;
  implies_true = law.implies_true;
  subset_true = law.subset_true;
  lesser = law.lesser;
  greater = law.greater;
  absolute = law.absolute;
  absolute_below = law.absolute_below;
  kinds = All-from_recursion KeepsKinds operators keep_kinds;
  faults = All-from_recursion NamesFaults operators name_faults;
}
