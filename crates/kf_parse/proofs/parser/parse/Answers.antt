use Rattle.std.proofs.Common.{All, List, sym, subst}
use Rattle.kf_lex.specs.declared.token.Token.{Token}
use Rattle.kf_parse.specs.Reads.{IsSpelled}
use Rattle.kf_parse.proofs.Spelled.{all_spelled}
use Rattle.kf_parse.proofs.parser.parse.Goals as goal

pub read-requires-clause-names : goal.read-requires-clause-names
read-requires-clause-names c =
    let spelled = all_spelled c.args.src.now c.args.tokens.now (c.spans.ensures.spans c.args.src.now c.args.tokens.now c.requires.tokens) (c.spans.ensures.names c.args.src.now c.args.tokens.now c.requires.tokens) in
    subst (λ (ts : List Token). All (IsSpelled c.args.src.now) ts) (sym c.as_slice-in-None.ensures) spelled
