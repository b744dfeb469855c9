-- For bodies: steps to a text and refusals of texts and runs by names of their own, and how a file was read.
use Rattle.std.specs.Prelude.{ℕ, List, ◌++◌, nat_le, codes, if◌then◌else◌, Ok, Err, MatchResult, ◌≡◌, length, None, Some}
use Rattle.std.specs.Fmt.{decimal}
use Rattle.std.specs.declared.result.Result.{Result}
use Rattle.std.specs.declared.option.Option.{Option}
use Rattle.std.specs.Option.{ForSome, MatchOption}
use Rattle.kf_lex.specs.declared.token.Token.{Token}
use Rattle.kf_lex.specs.Readings.{IsTokens, IsFault}
use Rattle.kf_ast.specs.Sources.{SourceTree}
use Rattle.kf_parse.specs.Answers.{IsParsed, IsRefused}
use Rattle.kf_check.specs.Sources.{JudgesSource}
use Rattle.kf_check.specs.Translation.{Typed}
use Rattle.kf_load.specs.Steps.{Refused, Step, refusal}
use Rattle.kf_load.specs.Texts.{IsBad, placed, cause_word, token_fault, syntax_fault, type_fault}
use Rattle.kf_core.specs.Runs.{Halted}
use Rattle.kf_core.specs.Programs.{ProgramTree}
use Rattle.kf_frac.specs.Fractions.{limit}
use Rattle.kf_io.specs.Faults.{Rose}

-- a fault of a text: its word, which is that of the cause, and the byte at which it stands
abbrev pub Fault : Type 0
Fault = List ℕ × ℕ

abbrev pub fault : List ℕ → ℕ → Fault
fault word at = (word, at)

abbrev pub bad_text : List ℕ → List ℕ → Fault → Refused
bad_text name bytes f = refusal 5 name (placed bytes f.1 f.0)

-- the tokens of a text, or its first bad character or number
abbrev pub TokensOf : List ℕ → List ℕ → Step (List Token)
TokensOf name bytes = λ r. MatchResult r (IsTokens bytes) (IsBad (IsFault bytes) token_fault name bytes)

-- the source that tokens are, or why they are none
abbrev pub SourceOf : List ℕ → List ℕ → List Token → Step SourceTree
SourceOf name bytes tokens = λ r. MatchResult r (IsParsed bytes tokens) (IsBad (IsRefused bytes tokens) syntax_fault name bytes)

-- the checked program that a source is, or its first broken type rule
abbrev pub ProgramOf : List ℕ → List ℕ → SourceTree → Step ProgramTree
ProgramOf name bytes tree = λ r. MatchResult r (Typed tree) (IsBad (λ e. JudgesSource tree (Some e)) type_fault name bytes)

abbrev pub bad_run : List ℕ → List ℕ → Halted → Refused
bad_run name bytes f = refusal 6 name (placed bytes f.at (cause_word f.cause))

-- a program of at least so many statements at its top level
abbrev pub long_enough : List ℕ → ℕ → ProgramTree → Result ProgramTree Refused
long_enough name least p =
    if nat_le least (length p.body) then Ok p
    else Err (refusal 13 name (codes ": " ++ (decimal (length p.body) ++ codes " statements")))

-- a program whose scale is at most 2^127 - 1
abbrev pub narrow : List ℕ → ℕ → ProgramTree → Result ProgramTree Refused
narrow name scale p = if nat_le scale limit then Ok p else Err (refusal 7 name (codes ": scale passes 2^127 - 1"))

-- of the file of this name: its bytes, which are those that files tell, or a failed read, which raised the file's count
abbrev pub ReadAs : Option (List ℕ → List ℕ) → (List ℕ → ℕ) → (List ℕ → ℕ) → List ℕ → Option (List ℕ) → Type 0
ReadAs told before now name reading =
    MatchOption reading (Rose (before name) (now name)) (λ bytes. ForSome told (λ contents. bytes ≡ contents name))

-- the bytes of a reading, of which there are at most 1,048,576
abbrev pub bytes_read : List ℕ → Option (List ℕ) → Result (List ℕ) Refused
bytes_read name reading = elim reading [
  | None ↦ Err (refusal 3 name (codes ": read failed"))
  | Some bytes ↦ if nat_le (length bytes) 1048576 then Ok bytes else Err (refusal 11 name (codes ": longer than 1048576 bytes"))
]
