use Rattle.std.proofs.Common.{◌≡◌, ◌++◌, map, drop}
use Rattle.std.specs.List.{range_with_len}
use Rattle.kf_capacity.specs.Compositions.{through}
use Rattle.kf_capacity.proofs.series.columns_behind.Given as goal

abbrev pub invariant-loop-column : goal.invariant-loop-column
invariant-loop-column l =
    l.made.items ++ map (λ column. map (through l.g.columns l.places column) (range_with_len 0 l.g.rows)) (drop l.column-index l.h.columns)
    ≡ map (λ column. map (through l.g.columns l.places column) (range_with_len 0 l.g.rows)) l.h.columns
