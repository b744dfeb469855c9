-- A program closes each bracket that it opens.
use Rattle.std.proofs.Common.{◌≡◌, ℕ, List, [], append-nil, ap, ◌∙◌, subst, arith}
use Rattle.kf_lex.specs.declared.token.Token.{Token}
use Rattle.kf_ast.specs.Sources.{SourceTree}
use Rattle.kf_parse.specs.Outcomes.{Outcome, got}
use Rattle.kf_parse.specs.Plain.{whole_trees}
use Rattle.kf_parse.specs.Reading as r
use Rattle.kf_parse.specs.Depth.{open_brackets}
use Rattle.kf_parse.specs.Laws.{ClosesAll}
use Rattle.kf_parse.proofs.Sinks.{Leveled, Passed}
use Rattle.kf_parse.proofs.SinksPrograms.{program_balanced}
use Rattle.kf_parse.proofs.TakesPrograms.{program_takes}
use Rattle.kf_parse.specs.Tokens.{open_after}

all_passed : (ts : List Token) → Passed 0 0 ts [] → (n : ℕ) → open_after (open_brackets n) ts ≡ open_brackets n
all_passed ts h n = ap (open_after (open_brackets n)) (h.whole ∙ append-nil h.front) ∙ h.back n

pub closes_all : ClosesAll
closes_all src ts x e =
    let takes = program_takes src ts x e in
    let o : Outcome SourceTree = got x [] in
    let read : r.program whole_trees src takes.0 ts ≡ o = takes.1 takes.0 (omega arith) in
    all_passed ts (subst (λ (v : Outcome SourceTree). Leveled 0 0 takes.0 ts v) read ((program_balanced whole_trees src takes.0).leveled ts))
