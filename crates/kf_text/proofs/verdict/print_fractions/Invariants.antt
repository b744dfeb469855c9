use Rattle.std.proofs.Common.{◌≡◌, ℕ, List, ◌++◌, map, drop, codes}
use Rattle.std.specs.List.{flat_map}
use Rattle.kf_text.specs.Views.{own_text}
use Rattle.kf_text.proofs.verdict.print_fractions.Given as goal
use Rattle.kf_text.specs.Parts.{spaced}

-- what is left brings the fractions to their end
abbrev pub invariant-loop-fraction : goal.invariant-loop-fraction
invariant-loop-fraction l =
    l.out.items ++ flat_map (λ (t : List ℕ). codes " " ++ t) (map own_text (drop l.fraction-index l.others)) ≡ l.fn.out.items ++ spaced (map own_text l.fn.row)
