use Rattle.std.proofs.Common.{◌∙◌, ap}
use Rattle.kf_ast.specs.Views.{source_tree}
use Rattle.kf_parse.specs.Views.{trimmed_of}
use Rattle.kf_parse.specs.Outcomes.{got}
use Rattle.kf_parse.proofs.Answering.{is_parsed, is_long, is_left_over, is_stuck, is_not_deep}
use Rattle.kf_parse.proofs.parser.read.Goals as goal

pub unreachable-requires : goal.unreachable-requires
unreachable-requires c = is_not_deep c.args.src.now c.args.tokens.now c.requires.shallow (rw c.in-Err-Deep.field-0-is at c.in-Err-Deep.ensures.reads)

pub returns-in-Some-clause-refused : goal.returns-in-Some-clause-refused
returns-in-Some-clause-refused c =
    is_left_over c.args.src.now c.args.tokens.now c.requires.shallow (trimmed_of source_tree c.in-Ok.read) c.in-Some.token _ (c.in-Ok.ensures.reads ∙ ap (got (trimmed_of source_tree c.in-Ok.read)) c.in-Some.ensures)

pub returns-in-Some-long-clause-refused : goal.returns-in-Some-long-clause-refused
returns-in-Some-long-clause-refused c =
    is_long c.args.src.now c.args.tokens.now c.requires.shallow (trimmed_of source_tree c.in-Ok.read) c.in-Some-long.at (c.in-Ok.ensures.reads ∙ ap (got (trimmed_of source_tree c.in-Ok.read)) c.in-None.ensures) c.in-Some-long.is

pub returns-in-None-long-clause-parsed : goal.returns-in-None-long-clause-parsed
returns-in-None-long-clause-parsed c =
    is_parsed c.args.src.now c.args.tokens.now c.requires.shallow (trimmed_of source_tree c.in-Ok.read) (c.in-Ok.ensures.reads ∙ ap (got (trimmed_of source_tree c.in-Ok.read)) c.in-None.ensures) c.in-None-long.is

pub returns-in-Err-Syntax-clause-refused : goal.returns-in-Err-Syntax-clause-refused
returns-in-Err-Syntax-clause-refused c =
    rw c.place.ensures (is_stuck c.args.src.now c.args.tokens.now c.requires.shallow _ (rw c.in-Err-Syntax.field-0-is at c.in-Err-Syntax.ensures.reads))
