-- The made text has the tokens of its source.
use Rattle.kf_make.specs.Laws.{MadeIsParsed}
use Rattle.kf_make.proofs.Derivations.{made_derived}
use Rattle.kf_make.proofs.Limits.{made_shallow, made_short}
use Rattle.kf_make.proofs.Tokens.{made_read, made_tokens}

pub made_is_parsed : MadeIsParsed
made_is_parsed count =
    (made_tokens count, made_read count, record { shallow = made_shallow count; program = made_derived count; short = made_short count })
