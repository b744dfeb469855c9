-- Believed: printed verdicts, and the marks that a check gives.
use Rattle.std.specs.Prelude.{ℕ, List, [], ◌++◌, length, codes, decimal, flat_map, map, slice_index_or}
use Rattle.std.specs.Fmt.{signed_decimal}
use Rattle.std.specs.List.{join_by}
use Rattle.kf_frac.specs.Fractions.{fraction_text}
use Rattle.kf_value.specs.Targets.{Item, target_value_text}
use Rattle.kf_gain.specs.declared.table.Action.{Action}
use Rattle.kf_refine.specs.Verdicts.{VerdictTree, Yes, No}
use Rattle.kf_cert.specs.declared.mark.Mark.{Mark}
use Rattle.kf_cert.specs.declared.mark.Mark.TheVariants.{Accepted, Rejected}
use Rattle.kf_cert.specs.declared.mark.Rule.{Rule}
use Rattle.kf_cert.specs.declared.mark.Rule.TheVariants as rule
use Rattle.kf_text.specs.Texts.{line}

-- ---- verdicts

-- an action's name, and after two spaces each value that it names, with what it gains there
abbrev pub action_lines : List Item → Action → List ℕ
action_lines target a =
    line (codes "action " ++ a.name)
    ++ flat_map (λ e. line (codes "  " ++ (target_value_text target e.value ++ (codes " " ++ signed_decimal e.gain)))) a.gains

-- a verdict on hypers of a target: how many rows and columns a matrix has, whose rows are alike, and the rows, with a space between the
-- fractions of each; or the numbers of a table, how many actions it has, and each
abbrev pub verdict_text : List Item → VerdictTree → List ℕ
verdict_text target (Yes rows) =
    line (codes "refines yes")
    ++ (line (codes "matrix " ++ (decimal (length rows) ++ (codes " " ++ decimal (length (slice_index_or rows 0 [])))))
    ++ flat_map (λ row. line (join_by (λ t. t) (codes " ") (map (λ f. fraction_text f.num f.den) row))) rows)
verdict_text target (No t) =
    line (codes "refines no")
    ++ (line (codes "over " ++ decimal t.over) ++ (line (codes "rest " ++ signed_decimal t.rest)
    ++ (line (codes "actions " ++ decimal (length t.actions)) ++ flat_map (action_lines target) t.actions)))

-- ---- marks

abbrev pub rule_text : Rule → List ℕ
rule_text rule.Shape = codes "shape"
rule_text rule.Range = codes "range"
rule_text rule.Sum = codes "sum"
rule_text rule.Cell = codes "cell"
rule_text rule.Value = codes "value"
rule_text rule.Order = codes "order"

abbrev pub mark_text : Mark → List ℕ
mark_text Accepted = codes "accepted"
mark_text (Rejected r) = codes "rejected " ++ rule_text r
