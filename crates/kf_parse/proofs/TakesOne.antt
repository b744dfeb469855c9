-- Tokens are those of one program at most.
use Rattle.std.proofs.Common.{◌≡◌, ◌+◌, [], sym, ◌∙◌, arith}
use Rattle.kf_parse.specs.Outcomes.{got}
use Rattle.kf_parse.specs.Laws.{OneProgram}
use Rattle.kf_parse.proofs.TakesPrograms.{program_takes}

pub one_program : OneProgram
one_program src ts x y e f =
    let a = program_takes src ts x e in
    let b = program_takes src ts y f in
    let same : got x [] ≡ got y [] = sym (a.1 (a.0 + b.0) (omega arith)) ∙ b.1 (a.0 + b.0) (omega arith) in
    cc
