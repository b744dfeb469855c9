-- Believed: a file, the text and the program that it holds, and its first refusal.
use Rattle.std.specs.Prelude.{◌≡◌, ℕ, List, ◌∷◌, ◌++◌, length, nat_le, codes, if◌then◌else◌, Ok, Err, MatchResult, None, Some}
use Rattle.std.specs.Fmt.{decimal}
use Rattle.std.specs.declared.option.Option.{Option}
use Rattle.std.specs.declared.result.Result.{Result}
use Rattle.kf_lex.specs.declared.token.LexError.{LexError}
use Rattle.kf_lex.specs.declared.token.LexError.TheVariants as lexing
use Rattle.kf_lex.specs.Readings.{IsTokens, IsFault}
use Rattle.kf_ast.specs.Sources.{SourceTree}
use Rattle.kf_parse.specs.declared.errors.ParseError.{ParseError}
use Rattle.kf_parse.specs.declared.errors.ParseError.TheVariants as parsing
use Rattle.kf_parse.specs.Answers.{IsParsed, IsRefused}
use Rattle.kf_check.specs.declared.errors.TypeError.{TypeError}
use Rattle.kf_check.specs.declared.errors.TypeError.TheVariants as typing
use Rattle.kf_check.specs.Sources.{JudgesSource}
use Rattle.kf_check.specs.Translation.{Typed}
use Rattle.kf_frac.specs.Fractions.{limit}
use Rattle.kf_ops.specs.Values.{DivZero, ArithWide}
use Rattle.kf_core.specs.Choices.{Arithmetic, NoWeight, NegativeWeight, RangeLong}
use Rattle.kf_core.specs.Runs.{Cause, Choosing, OutOfRange, LoopBound}
use Rattle.kf_core.specs.Support.{program_pass}
use Rattle.kf_core.specs.Scale.{scale_of as run_scale}
use Rattle.kf_core.specs.Programs.{ProgramTree}
use Rattle.kf_load.specs.Place.{line_at, column_at}
use Rattle.kf_load.specs.Steps.{Refused, Step, After, Gives, refusal}

-- a file of this name, and what its reading gave: its bytes, or nothing where a read failed
pub record File : Type 0 where
  pub name : List ℕ
  pub reading : Option (List ℕ)

-- the bytes of a file, of which there are at most 1,048,576
abbrev pub source_of : File → Result (List ℕ) Refused
source_of file = elim file.reading [
  | None ↦ Err (refusal 3 file.name (codes ": read failed"))
  | Some bytes ↦ if nat_le (length bytes) 1048576 then Ok bytes else Err (refusal 11 file.name (codes ": longer than 1048576 bytes"))
]

-- the line and the column of a byte, and the word of what is wrong there
abbrev pub placed : List ℕ → ℕ → List ℕ → List ℕ
placed bytes at word = 58 ∷ decimal (line_at bytes at) ++ 58 ∷ decimal (column_at bytes at) ++ codes ": " ++ word

-- faults of a text, each as its word and the byte at which it stands: those of characters and numbers; want of memory is none
abbrev pub token_fault : LexError → Option (List ℕ × ℕ)
token_fault (lexing.Utf8 at) = Some (codes "Utf8", at)
token_fault (lexing.Char at) = Some (codes "Char", at)
token_fault (lexing.Number at) = Some (codes "Number", at)
token_fault lexing.Mem = None

-- faults of nesting, syntax and length
abbrev pub syntax_fault : ParseError → Option (List ℕ × ℕ)
syntax_fault (parsing.Deep at) = Some (codes "Deep", at)
syntax_fault (parsing.Syntax at) = Some (codes "Syntax", at)
syntax_fault (parsing.Long at) = Some (codes "Long", at)
syntax_fault parsing.Mem = None

-- broken type rules
abbrev pub type_fault : TypeError → Option (List ℕ × ℕ)
type_fault (typing.NoVariable at) = Some (codes "NoVariable", at)
type_fault (typing.Twice at) = Some (codes "Twice", at)
type_fault (typing.Unknown at) = Some (codes "Unknown", at)
type_fault (typing.Clash at) = Some (codes "Clash", at)
type_fault (typing.BadRange at) = Some (codes "BadRange", at)
type_fault (typing.TypeTooLarge at) = Some (codes "TypeTooLarge", at)
type_fault (typing.TooManyVariables at) = Some (codes "TooManyVariables", at)
type_fault (typing.StoreTooWide at) = Some (codes "StoreTooWide", at)
type_fault (typing.BadFlip at) = Some (codes "BadFlip", at)
type_fault typing.Mem = None

-- the refusal is that of an error with a fault
pub record IsBad {E : Type 0} (IsError : E → Type 0) (fault_of : E → Option (List ℕ × ℕ)) (name bytes : List ℕ) (r : Refused)
    : Type 0 where
  pub error : E
  pub is_error : IsError error
  pub fault : List ℕ × ℕ
  pub has : fault_of error ≡ Some fault
  pub is : r ≡ refusal 5 name (placed bytes fault.1 fault.0)

-- a file's name, its bytes, and the source and the program that they are
pub record Text : Type 0 where
  pub name : List ℕ
  pub bytes : List ℕ
  pub source : SourceTree
  pub program : ProgramTree

-- a file's text with this source, whose places are those in the file's bytes: the checked program that it is, or its first broken type rule
abbrev pub TextWith : List ℕ → List ℕ → SourceTree → Step Text
TextWith name bytes tree =
    After (λ r. MatchResult r (Typed tree) (IsBad (λ e. JudgesSource tree (Some e)) type_fault name bytes))
    (λ p. Gives (Ok (record { name = name; bytes = bytes; source = tree; program = p })))

-- the text that bytes are: their tokens, or the first bad character or number; the source that these are, or why they are none; its text
unfoldable pub TypedOf : List ℕ → List ℕ → Step Text
TypedOf name bytes =
    After (λ r. MatchResult r (IsTokens bytes) (IsBad (IsFault bytes) token_fault name bytes))
    (λ tokens. After (λ r. MatchResult r (IsParsed bytes tokens) (IsBad (IsRefused bytes tokens) syntax_fault name bytes))
    (TextWith name bytes))

-- a file's text: its reading, then what its bytes are
abbrev pub TextOf : File → Step Text
TextOf file = After (Gives (source_of file)) (TypedOf file.name)

-- the word of a run fault
abbrev pub cause_word : Cause → List ℕ
cause_word (Choosing (Arithmetic DivZero)) = codes "DivZero"
cause_word (Choosing (Arithmetic ArithWide)) = codes "ArithWide"
cause_word (Choosing NoWeight) = codes "NoWeight"
cause_word (Choosing NegativeWeight) = codes "NegativeWeight"
cause_word (Choosing RangeLong) = codes "RangeLong"
cause_word OutOfRange = codes "OutOfRange"
cause_word LoopBound = codes "LoopBound"

-- the program of a text, if it meets no fault and its scale is at most 2^127 - 1; or its first fault
unfoldable pub cleared : ℕ → Text → Result ProgramTree Refused
cleared turns t = elim (program_pass turns t.program) [
  | Ok ns ↦ if nat_le (run_scale turns t.program) limit then Ok t.program else Err (refusal 7 t.name (codes ": scale passes 2^127 - 1"))
  | Err f ↦ Err (refusal 6 t.name (placed t.bytes f.at (cause_word f.cause)))
]

-- a text is cleared, and must then have at least so many statements at its top level
abbrev pub LongCleared : ℕ → ℕ → Text → Step ProgramTree
LongCleared turns least t = After (Gives (cleared turns t)) (λ p. Gives (
    if nat_le least (length p.body) then Ok p
    else Err (refusal 13 t.name (codes ": " ++ (decimal (length p.body) ++ codes " statements")))))
