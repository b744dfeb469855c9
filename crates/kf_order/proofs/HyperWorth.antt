-- A hyper is worth what its columns are.
use Rattle.std.proofs.Common.{◌≡◌, List, [], ◌∷◌, map, ⊎_elim}
use Rattle.std.proofs.Common.{refl, sym, subst, ◌∙◌}
use Rattle.std.specs.List.{AllByRecursion as Each}
use Rattle.std.proofs.Math.IntN.{ℤ, ◌+ℤ◌}
use Rattle.std.proofs.lemmas.List.Elements.{recursion_from_All}
use Rattle.kf_column.specs.declared.entry.Entry.{Entry}
use Rattle.kf_column.specs.Averages.{joint_column}
use Rattle.kf_column.specs.Columns.{IsColumn}
use Rattle.kf_column.specs.Hypers.{IsHyper}
use Rattle.kf_column.specs.Traces.{Row}
use Rattle.kf_gain.specs.Gains.{GainOf, TableTree}
use Rattle.kf_gain.specs.Laws.{HasActions}
use Rattle.kf_gain.specs.Worth.{IsVulnerability}
use Rattle.kf_gain.proofs.Measures.{one, some}
use Rattle.kf_quiet.proofs.Worths.{posterior_worth, worth}
use Rattle.kf_order.specs.Channels.{HyperIsWorthColumns, IsWorth}
use Rattle.kf_order.proofs.Worths.{inners_worth, some_actions}

-- a column as that of some trace
abbrev row : List Entry → Row
row c = record { trace = []; column = c }

columns_of : (columns : List (List Entry)) → map (λ (r : Row). r.column) (map row columns) ≡ columns
columns_of [] = refl
columns_of (c ∷ columns) = λ i. c ∷ columns_of columns i

are_columns : (columns : List (List Entry)) → Each IsColumn columns → Each (λ (r : Row). IsColumn r.column) (map row columns)
are_columns [] each = tt
are_columns (c ∷ columns) each = (each.0, are_columns columns each.1)

module _ (g : GainOf TableTree) (best : List Entry → ℤ) (are : (c : List Entry) → IsVulnerability g c (best c)) where
  rows_worth : (columns : List (List Entry)) (y : ℤ) → IsWorth g columns y → y ≡ worth (λ (r : Row). best r.column) (map row columns)
  rows_worth [] y is = is
  rows_worth (c ∷ columns) y (first, others, v, p, is) = is ∙ (λ t. one g c first (best c) v (are c) t +ℤ rows_worth columns others p t)

pub hyper_is_worth_columns : HyperIsWorthColumns
hyper_is_worth_columns columns inners g y z all is p q =
    ⊎_elim
    (λ (has : HasActions g).
    let best : List Entry → ℤ = λ c. (some g c has).0 in
    let are : (c : List Entry) → IsVulnerability g c (best c) = λ c. (some g c has).1 in
    rows_worth g best are columns y p
    ∙ sym (posterior_worth g best are (map row columns) inners (are_columns columns (recursion_from_All IsColumn columns all))
    (subst (λ (cs : List (List Entry)). IsHyper cs inners) (sym (columns_of columns)) is) z q))
    (λ none. none columns y p ∙ sym (none (map joint_column inners) z (inners_worth g inners z q)))
    (some_actions g)
