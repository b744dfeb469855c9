-- Believed: the tokens of a source, and the first fault of one that has none.
use Rattle.std.specs.Prelude.{◌≡◌, ◌<◌, ◌≤◌, ◌+◌, ℕ, List, [], ◌∷◌, ◌++◌, length, take}
use Rattle.std.specs.Str.{IsUtf8, IsValidUpTo}
use Rattle.std.specs.Str.Lossy.{utf8_valid_len}
use Rattle.std.specs.Str.Parse.{IsNumeral, digits_value}
use Rattle.kf_lex.specs.declared.token.LexError.{LexError}
use Rattle.kf_lex.specs.declared.token.LexError.TheVariants as fault
use Rattle.kf_lex.specs.declared.token.Token.{Token}
use Rattle.kf_lex.specs.Lexemes.{IsLongest, Spells, greatest_number}
use Rattle.kf_lex.specs.Pieces.{IsBlank, IsOther, IsPiece}

-- the text, which stands at this place of the source, has these tokens and blanks between them
pub data Reads : ℕ → List ℕ → List Token → Type 0 where
  done : {place : ℕ} → Reads place [] []
  blank : {place : ℕ} {text : List ℕ} {tokens : List Token} (piece rest : List ℕ)
      → text ≡ piece ++ rest → IsBlank piece rest
      → Reads (place + length piece) rest tokens → Reads place text tokens
  token : {place : ℕ} {text : List ℕ} {tokens : List Token} (t : Token) (piece rest : List ℕ)
      → text ≡ piece ++ rest → IsLongest piece rest → Spells t.kind piece
      → t.start ≡ place → t.end ≡ place + length piece
      → Reads t.end rest tokens → Reads place text (t ∷ tokens)

-- the tokens of a source
pub record IsTokens (src : List ℕ) (tokens : List Token) : Type 0 where
  pub utf8 : IsUtf8 src
  pub reads : Reads 0 src tokens

-- going through the pieces of the text from the first place, one comes to the second, with the rest of the text left
pub data Reaches : ℕ → List ℕ → ℕ → List ℕ → Type 0 where
  here : {place : ℕ} {text : List ℕ} → Reaches place text place text
  past : {place at : ℕ} {text left : List ℕ} (piece rest : List ℕ)
      → text ≡ piece ++ rest → IsPiece piece rest
      → Reaches (place + length piece) rest at left → Reaches place text at left

-- where a fault stands
abbrev pub place : LexError → ℕ
place (fault.Utf8 at) = at
place (fault.Char at) = at
place (fault.Number at) = at
place fault.Mem = 0

-- this piece is wrong: it begins no token, or it is a number that is too great
abbrev pub IsWrong : LexError → List ℕ → List ℕ → Type 0
IsWrong (fault.Char at) piece rest = IsOther piece rest
IsWrong (fault.Number at) piece rest = IsLongest piece rest × IsNumeral 10 piece × (greatest_number < digits_value 10 piece)
IsWrong e piece rest = ⊥

-- a wrong piece of the text, which stands at this place of the source
abbrev pub WrongFrom : ℕ → List ℕ → LexError → Type 0
WrongFrom start text e = (piece : List ℕ) × (rest : List ℕ) × Reaches start text (place e) (piece ++ rest) × IsWrong e piece rest

-- the first byte of the first sequence that is not UTF-8, or a wrong piece before it
abbrev pub Fault : List ℕ → LexError → Type 0
Fault src (fault.Utf8 at) = IsValidUpTo src at
Fault src fault.Mem = ⊥
Fault src e = WrongFrom 0 (take (utf8_valid_len src) src) e

-- the first fault of a source
pub record IsFault (src : List ℕ) (e : LexError) : Type 0 where
  pub is : Fault src e
  pub first : (f : LexError) → Fault src f → place e ≤ place f
