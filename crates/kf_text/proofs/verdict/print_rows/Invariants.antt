use Rattle.std.proofs.Common.{◌≡◌, ◌++◌, map, drop}
use Rattle.std.specs.List.{flat_map}
use Rattle.kf_refine.specs.Views.{fraction_of}
use Rattle.kf_text.specs.Parts.{fractions_line}
use Rattle.kf_text.proofs.verdict.print_rows.Given as goal

abbrev pub invariant-loop-row : goal.invariant-loop-row
invariant-loop-row l =
    l.out.items ++ flat_map fractions_line (map (λ row. map fraction_of row) (drop l.row-index l.rows))
    ≡ l.initial.out.items ++ flat_map fractions_line (map (λ row. map fraction_of row) l.rows)
