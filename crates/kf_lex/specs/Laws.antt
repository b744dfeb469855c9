-- For bodies: the laws of tokens and first faults.
use Rattle.std.specs.Prelude.{◌≡◌, ◌≢◌, ◌↔◌, ◌<◌, ◌≤◌, ◌⊎◌, ℕ, List, Some, IsSome, length, slice_range}
use Rattle.std.specs.List.{All, AllPairs}
use Rattle.std.specs.Str.{IsUtf8}
use Rattle.kf_ops.specs.Places.{IsRow, number_of}
use Rattle.kf_ops.specs.Rows.{Row, operators}
use Rattle.kf_ops.specs.declared.row.Op.{Op}
use Rattle.kf_ops.specs.declared.row.Op.TheVariants as op
use Rattle.kf_lex.specs.declared.token.LexError.{LexError}
use Rattle.kf_lex.specs.declared.token.Tok.{Tok}
use Rattle.kf_lex.specs.declared.token.Tok.TheVariants as tok
use Rattle.kf_lex.specs.declared.token.Token.{Token}
use Rattle.kf_lex.specs.declared.token.Word.{Word}
use Rattle.kf_lex.specs.Words.{reserved}
use Rattle.kf_lex.specs.Lexemes.{IsWord, Spells}
use Rattle.kf_lex.specs.Operators.{operator_of, word_of}
use Rattle.kf_lex.specs.Readings.{IsFault, IsTokens}

-- Every source has tokens or a first fault, at most one list of tokens, at most one first fault, and never both. That holds of any list of
-- numbers: one above 255 is no part of UTF-8.
pub record IsOneReading : Type 0 where
  pub read : (src : List ℕ) → ((ts : List Token) × IsTokens src ts) ⊎ ((e : LexError) × IsFault src e)
  pub tokens : (src : List ℕ) (ts us : List Token) → IsTokens src ts → IsTokens src us → ts ≡ us
  pub fault : (src : List ℕ) (e f : LexError) → IsFault src e → IsFault src f → e ≡ f
  pub not_both : (src : List ℕ) (ts : List Token) (e : LexError) → IsTokens src ts → ¬ (IsFault src e)

-- a token has some text, and that is within the source
abbrev pub IsWithin : List ℕ → Token → Type 0
IsWithin src t = (t.start < t.end) × (t.end ≤ length src)

-- the tokens stand in the source one behind the other
pub record HasSpans (src : List ℕ) (tokens : List Token) : Type 0 where
  pub within : All (IsWithin src) tokens
  pub ascending : AllPairs (λ t u. t.end ≤ u.start) tokens

-- the text of a name is UTF-8
abbrev pub HasName : List ℕ → Token → Type 0
HasName src t = t.kind ≡ tok.Name → IsUtf8 (slice_range src t.start t.end)

-- every operator that is written as a word has a reserved word
abbrev pub AreOperatorsReserved : Type 0
AreOperatorsReserved = All (λ row. IsWord row.word → IsSome (word_of row.code)) operators

-- a reserved word is written in one way
abbrev pub HaveOneText : Type 0
HaveOneText = (text other : List ℕ) (w : Word) → reserved text ≡ Some w → reserved other ≡ Some w → text ≡ other

-- The operators of the table and their tokens: a token stands for an operator exactly where it spells the word of the operator's row, and
-- each operator has a token, but for the minus before an operand, whose word no token spells.
pub record AreOperatorTokens : Type 0 where
  pub told : (k : Tok) (o : Op) (row : Row) → IsRow (number_of o) row → (operator_of k ≡ Some o) ↔ Spells k row.word
  pub each : (o : Op) (row : Row) → IsRow (number_of o) row → o ≢ op.Negate → (k : Tok) × Spells k row.word
