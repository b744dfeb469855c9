use Rattle.std.proofs.Common.{ℕ, List, subst}
use Rattle.kf_ast.specs.Views.{source_tree}
use Rattle.kf_core.specs.Views.{program_tree}
use Rattle.kf_load.specs.Steps.{Gives}
use Rattle.kf_load.specs.Stops.{Answers}
use Rattle.kf_load.specs.Texts.{cleared}
use Rattle.kf_load.specs.Views.{program_in}
use Rattle.kf_load.proofs.clear.cleared.Goals as goal

pub returns-clause-answer : goal.returns-clause-answer
returns-clause-answer c =
    let source = source_tree c.args.text.source in
    subst (λ (bytes : List ℕ). Answers program_in c.cleared_text.result
    (Gives (cleared c.args.turns (record { name = c.args.name.now; bytes = bytes; source = source; program = program_tree c.args.text.program }))))
    c.deref.ensures.value (c.cleared_text.ensures.answer source)
