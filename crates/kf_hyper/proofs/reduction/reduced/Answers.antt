use Rattle.std.proofs.Common.{◌≡◌, ◌<◌, ◌/◌, ◌∙◌, ℕ, List, map, ap, subst}
use Rattle.std.proofs.Math.Nat.{mul-div_cancel_left}
use Rattle.kf_column.specs.Columns.{total, IsColumn}
use Rattle.kf_column.specs.declared.entry.Entry.{Entry}
use Rattle.kf_column.specs.Averages.{scaled}
use Rattle.kf_column.specs.Classes.{IsCommonFactor}
use Rattle.kf_column.proofs.Factors.{some_factor, already_reduced}
use Rattle.kf_column.proofs.Scaling.{total-scaled}
use Rattle.kf_hyper.proofs.reduction.reduced.Goals as goal

pub returns-then-factor-eq1-clause-inner : goal.returns-then-factor-eq1-clause-inner
returns-then-factor-eq1-clause-inner c =
    already_reduced c.common_factor-factor.result c.args.column c.as_slice.result.now (c.as_slice.ensures ∙ c.entries.ensures.kept) c.if-factor-eq1.true c.common_factor-factor.ensures
    (subst IsColumn c.entries.ensures.kept c.entries.ensures.column)

module _ (factor column-total : ℕ) (column shown entries inner : List Entry) (entries_are : entries ≡ shown) (is : IsCommonFactor factor entries) (shown_is : IsColumn shown) where
  some : 0 < factor
  some = some_factor factor shown (subst (IsCommonFactor factor) entries_are is) shown_is

  whole : column-total ≡ total column → column ≡ map (scaled factor) inner → column-total / factor ≡ total inner
  whole summed multiple = ap (λ (n : ℕ). n / factor) (summed ∙ ap total multiple ∙ total-scaled factor inner) ∙ mul-div_cancel_left (total inner) some

pub quotient-requires : goal.quotient-requires
quotient-requires c =
    some c.common_factor-factor.result c.total-total.result c.args.column c.entries.result.now c.as_slice.result.now c.divided-inner.result c.as_slice.ensures
    c.common_factor-factor.ensures c.entries.ensures.column

pub invariant_of-result-2 : goal.invariant_of-result-2
invariant_of-result-2 c = record {
  summed = c.quotient.ensures ∙ whole c.common_factor-factor.result c.total-total.result c.args.column c.entries.result.now c.as_slice.result.now c.divided-inner.result c.as_slice.ensures
      c.common_factor-factor.ensures c.entries.ensures.column c.total-total.ensures c.divided-inner.ensures.multiple;
}

pub returns-clause-inner : goal.returns-clause-inner
returns-clause-inner c = record {
  factor = c.common_factor-factor.result;
  some = some c.common_factor-factor.result c.total-total.result c.args.column c.entries.result.now c.as_slice.result.now c.divided-inner.result c.as_slice.ensures
      c.common_factor-factor.ensures c.entries.ensures.column;
  multiple = c.divided-inner.ensures.multiple;
  is_inner = c.divided-inner.ensures.inner;
}
