use Rattle.std.proofs.Common.{◌≡◌, ◌++◌, drop}
use Rattle.std.specs.List.{flat_map, enumerate_from}
use Rattle.kf_hyper.specs.Views.{inners_of, scale_of, target_of}
use Rattle.kf_text.specs.Texts.{inner_lines, hyper_text}
use Rattle.kf_text.proofs.hyper.hyper_text.Given as goal

abbrev pub invariant-loop-i : goal.invariant-loop-i
invariant-loop-i l =
    l.out.items ++ flat_map (inner_lines (target_of l.hyper) (scale_of l.hyper)) (enumerate_from l.i (drop l.i (inners_of l.hyper)))
    ≡ hyper_text (target_of l.hyper) (scale_of l.hyper) (inners_of l.hyper)
