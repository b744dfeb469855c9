-- For bodies: the made text is a program that is never refused.
use Rattle.std.specs.Prelude.{◌≡◌, ℕ, ◌*◌, ◌^◌, List, IsOk}
use Rattle.kf_lex.specs.declared.token.Token.{Token}
use Rattle.kf_lex.specs.Readings.{IsTokens}
use Rattle.kf_parse.specs.Answers.{IsParsed}
use Rattle.kf_check.specs.Translation.{Typed}
use Rattle.kf_core.specs.Scale.{scale_of}
use Rattle.kf_core.specs.Support.{program_pass}
use Rattle.kf_make.specs.Making.{make_source}
use Rattle.kf_make.specs.Made.{made_tree, made_program}

-- its bytes are the tokens of its source
abbrev pub MadeIsParsed : Type 0
MadeIsParsed = (count : ℕ) → (tokens : List Token) × IsTokens (make_source count) tokens × IsParsed (make_source count) tokens (made_tree count)

-- which is well typed
abbrev pub MadeIsTyped : Type 0
MadeIsTyped = (count : ℕ) → Typed (made_tree count) (made_program count)

-- no store of its program meets a fault
abbrev pub MadeIsClear : Type 0
MadeIsClear = (turns count : ℕ) → IsOk (program_pass turns (made_program count))

-- and its scale is that of 64 values and so many quarters
abbrev pub MadeScale : Type 0
MadeScale = (turns count : ℕ) → scale_of turns (made_program count) ≡ 64 * 4 ^ count
