-- The refusals of a text for its first fault, and of a program that can't be run.
use Rattle.std.proofs.Common.{◌≡◌, ◌≢◌, ◌<◌, ◌≤◌, le-leb, if◌then◌else◌, IsOk, ℕ, List, length, ◌++◌, codes, true≢false, None, Some, Result, Ok, Err, refl, sym, ap, ◌∙◌, subst}
use Rattle.std.specs.Fmt.{decimal}
use Rattle.std.proofs.lemmas.Bool.{lt-leb}
use Rattle.kf_frac.specs.Fractions.{limit}
use Rattle.kf_lex.specs.declared.token.Token.{Token}
use Rattle.kf_lex.specs.declared.token.LexError.{LexError}
use Rattle.kf_lex.specs.declared.token.LexError.TheVariants as lexing
use Rattle.kf_lex.specs.Cuts.{IsFaultOrMem}
use Rattle.kf_parse.specs.declared.errors.ParseError.{ParseError}
use Rattle.kf_parse.specs.declared.errors.ParseError.TheVariants as parsing
use Rattle.kf_parse.specs.Answers.{IsRefused}
use Rattle.kf_ast.specs.Sources.{SourceTree}
use Rattle.kf_check.specs.declared.errors.TypeError.{TypeError}
use Rattle.kf_check.specs.declared.errors.TypeError.TheVariants as typing
use Rattle.kf_check.specs.Variables.{IsBroken}
use Rattle.kf_core.specs.Programs.{ProgramTree}
use Rattle.kf_core.specs.Runs.{Halted}
use Rattle.kf_core.specs.Support.{StoreSet, program_pass}
use Rattle.kf_core.specs.Scale.{scale_of as run_scale}
use Rattle.kf_load.specs.Steps.{Refused, refusal}
use Rattle.kf_load.specs.Texts.{Text, token_fault, syntax_fault, type_fault, cleared}
use Rattle.kf_load.specs.Refusals.{bad_text, bad_run, narrow, bytes_read, Fault, TokensOf, SourceOf, ProgramOf, long_enough}

-- ---- bytes

-- bytes that aren't too many, and bytes that are
pub is_short_file : (name bytes : List ℕ) → length bytes ≤ 1048576 → Ok bytes ≡ bytes_read name (Some bytes)
is_short_file name bytes few =
    ap (λ b. if b then Ok bytes else Err (refusal 11 name (codes ": longer than 1048576 bytes"))) (sym (le-leb (length bytes) 1048576 few))

pub is_long_file : (name bytes : List ℕ) → 1048576 < length bytes → Err (refusal 11 name (codes ": longer than 1048576 bytes")) ≡ bytes_read name (Some bytes)
is_long_file name bytes many =
    ap (λ b. if b then Ok bytes else Err (refusal 11 name (codes ": longer than 1048576 bytes"))) (sym (lt-leb (length bytes) 1048576 many))

-- ---- texts

-- an error with a fault isn't want of memory
pub some_syntax : (e : ParseError) (f : Fault) → syntax_fault e ≡ Some f → e ≢ parsing.Mem
some_syntax e f has mem = let none : None ≡ Some f = ap syntax_fault (sym mem) ∙ has in absurd (cc)

-- the refusals of a text for its first fault
pub bad_tokens : (name bytes : List ℕ) (e : LexError) (f : Fault) → token_fault e ≡ Some f → IsFaultOrMem bytes e → TokensOf name bytes (Err (bad_text name bytes f))
bad_tokens name bytes (lexing.Utf8 at) f has is = record { error = lexing.Utf8 at; is_error = is; fault = f; has = has; is = refl }
bad_tokens name bytes (lexing.Char at) f has is = record { error = lexing.Char at; is_error = is; fault = f; has = has; is = refl }
bad_tokens name bytes (lexing.Number at) f has is = record { error = lexing.Number at; is_error = is; fault = f; has = has; is = refl }
bad_tokens name bytes lexing.Mem f has is = absurd (cc)

pub bad_source : (name bytes : List ℕ) (tokens : List Token) (e : ParseError) (f : Fault) → syntax_fault e ≡ Some f → IsRefused bytes tokens e → SourceOf name bytes tokens (Err (bad_text name bytes f))
bad_source name bytes tokens e f has is = record { error = e; is_error = is; fault = f; has = has; is = refl }

-- the refusal of a text for its first broken type rule
pub bad_program : (name bytes : List ℕ) (tree : SourceTree) (e : TypeError) (f : Fault) → type_fault e ≡ Some f → (e ≢ typing.Mem → IsBroken tree e) → ProgramOf name bytes tree (Err (bad_text name bytes f))
bad_program name bytes tree e f has is = record { error = e; is_error = is (λ mem. let none : None ≡ Some f = ap type_fault (sym mem) ∙ has in absurd (cc)); fault = f; has = has; is = refl }

-- ---- programs

-- what a text is refused for once it is a program
pub halts : (turns : ℕ) (t : Text) (f : Halted) → program_pass turns t.program ≡ Err f → Err (bad_run t.name t.bytes f) ≡ cleared turns t
unfolding cleared
halts turns t f is = sym (ap (λ r. elim r [ Ok ns ↦ narrow t.name (run_scale turns t.program) t.program | Err g ↦ Err (bad_run t.name t.bytes g) ]) is)

passed : (turns : ℕ) (t : Text) (r : Result StoreSet Halted) → r ≡ program_pass turns t.program → IsOk r → narrow t.name (run_scale turns t.program) t.program ≡ cleared turns t
unfolding cleared
passed turns t (Ok ns) is ok = ap (λ r. elim r [ Ok ns ↦ narrow t.name (run_scale turns t.program) t.program | Err g ↦ Err (bad_run t.name t.bytes g) ]) is
passed turns t (Err f) is ok = absurd (true≢false (sym ok))

abbrev wide_scale : List ℕ → Refused
wide_scale name = refusal 7 name (codes ": scale passes 2^127 - 1")

pub fits : (turns : ℕ) (t : Text) → IsOk (program_pass turns t.program) → run_scale turns t.program ≤ limit → Ok t.program ≡ cleared turns t
fits turns t ok few = ap (λ b. if b then Ok t.program else Err (wide_scale t.name)) (sym (le-leb (run_scale turns t.program) limit few)) ∙ passed turns t (program_pass turns t.program) refl ok

pub too_wide : (turns : ℕ) (t : Text) → IsOk (program_pass turns t.program) → limit < run_scale turns t.program → Err (wide_scale t.name) ≡ cleared turns t
too_wide turns t ok wide = ap (λ b. if b then Ok t.program else Err (wide_scale t.name)) (sym (lt-leb (run_scale turns t.program) limit wide)) ∙ passed turns t (program_pass turns t.program) refl ok

-- a program whose statements are enough, and one of which they aren't
abbrev few_statements : List ℕ → ℕ → Refused
few_statements name count = refusal 13 name (codes ": " ++ (decimal count ++ codes " statements"))

pub is_long : (name : List ℕ) (least : ℕ) (p : ProgramTree) → least ≤ length p.body → Ok p ≡ long_enough name least p
is_long name least p within = ap (λ b. if b then Ok p else Err (few_statements name (length p.body))) (sym (le-leb least (length p.body) within))

pub is_short : (name : List ℕ) (least : ℕ) (p : ProgramTree) (count : ℕ) → count ≡ length p.body → count < least → Err (few_statements name count) ≡ long_enough name least p
is_short name least p count is past =
    ap (λ (n : ℕ). Err (few_statements name n)) is
    ∙ ap (λ b. if b then Ok p else Err (few_statements name (length p.body))) (sym (lt-leb least (length p.body) (subst (λ (n : ℕ). n < least) is past)))
