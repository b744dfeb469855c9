-- For bodies: what the functions that cut a text promise each other.
use Rattle.std.specs.Prelude.{◌≡◌, ◌+◌, ◌≤◌, ◌⊎◌, ◌||◌, ◌==◌, ℕ, Bool, true, false, not, List, [], ◌∷◌, ◌++◌, Option, Some, None, Result, Ok, Err, if◌then◌else◌, nat_eq, length, take, drop}
use Rattle.std.specs.Char.{IsScalar, encode_utf8}
use Rattle.std.specs.List.{AllByRecursion, starts_with}
use Rattle.std.specs.Str.{IsUtf8, all_scalars, encode_utf8_all}
use Rattle.std.specs.Str.Lossy.{utf8_valid_len}
use Rattle.std.specs.Str.Parse.{IsNumeral}
use Rattle.unicode_ident.specs.Ident.{is_xid_start}
use Rattle.kf_lex.specs.declared.cuts.Cut.{Cut}
use Rattle.kf_lex.specs.declared.cuts.Piece.{Piece}
use Rattle.kf_lex.specs.declared.cuts.Piece.TheVariants as piece
use Rattle.kf_lex.specs.declared.token.LexError.{LexError}
use Rattle.kf_lex.specs.declared.token.LexError.TheVariants as fault
use Rattle.kf_lex.specs.declared.token.Sign.{Sign}
use Rattle.kf_lex.specs.declared.token.Tok.{Tok}
use Rattle.kf_lex.specs.declared.token.Token.{Token}
use Rattle.kf_lex.specs.Words.{sign_text}
use Rattle.kf_lex.specs.Lexemes.{IsLongest, IsWord, Spells}
use Rattle.kf_lex.specs.Pieces.{IsBlank, IsOther}
use Rattle.kf_lex.specs.Readings.{IsFault, WrongFrom, IsWrong, place}

-- a character that may begin a name: XID start, or `_`
abbrev pub begins_name : ℕ → Bool
begins_name c = is_xid_start c || (c == 95)

-- the source up to the first byte that is not UTF-8
abbrev pub valid_front : List ℕ → List ℕ
valid_front src = take (utf8_valid_len src) src

-- the first of these signs with which the text begins
abbrev pub first_sign : List Sign → List ℕ → Option Sign
first_sign [] text = None
first_sign (s ∷ signs) text = if starts_with nat_eq text (sign_text s) then Some s else first_sign signs text

-- the character may stand in a comment behind its `#`
abbrev pub is_in_line : ℕ → Bool
is_in_line c = not (c == 10)

-- the text begins with this character
abbrev pub IsBeginning : ℕ → List ℕ → Type 0
IsBeginning c text = IsScalar c × ((rest : List ℕ) × (text ≡ encode_utf8 c ++ rest))

-- the text up to this place and from it on, or all of the text where there is none
abbrev pub halves : List ℕ → Option ℕ → List ℕ × List ℕ
halves text (Some at) = (take at text, drop at text)
halves text None = (text, [])

-- the front has all characters of the text up to the first that fails the test
pub record IsRun (p : ℕ → Bool) (text front rest : List ℕ) : Type 0 where
  pub whole : text ≡ front ++ rest
  pub chars : List ℕ
  pub scalars : all_scalars chars ≡ true
  pub spelt : front ≡ encode_utf8_all chars
  pub passes : AllByRecursion (λ c. p c ≡ true) chars
  pub utf8 : IsUtf8 rest
  pub stops : (c : ℕ) (more : List ℕ) → IsScalar c → rest ≡ encode_utf8 c ++ more → p c ≡ false

-- one decimal digit or more
abbrev pub IsNumber : List ℕ → Type 0
IsNumber text = IsNumeral 10 text

-- the text is a piece of this kind where rest follows
abbrev pub IsOfKind : Piece → List ℕ → List ℕ → Type 0
IsOfKind piece.Blank text rest = IsBlank text rest
IsOfKind piece.Number text rest = IsLongest text rest × IsNumber text
IsOfKind piece.Word text rest = IsLongest text rest × IsWord text
IsOfKind (piece.Sign s) text rest = IsLongest text rest × (text ≡ sign_text s)
IsOfKind piece.Other text rest = IsOther text rest

-- the text cut behind its first piece
pub record IsCut (text : List ℕ) (cut : Cut) : Type 0 where
  pub whole : text ≡ cut.text.now ++ cut.rest.now
  pub is_piece : IsOfKind cut.piece cut.text.now cut.rest.now
  pub utf8 : IsUtf8 cut.rest.now

-- what is told of a piece at this place: that it is a blank, a token's kind, or what is wrong with it
abbrev pub IsTold : Cut → ℕ → Result (Option Tok) LexError → Type 0
IsTold cut at (Ok None) = IsBlank cut.text.now cut.rest.now
IsTold cut at (Ok (Some kind)) = IsLongest cut.text.now cut.rest.now × Spells kind cut.text.now
IsTold cut at (Err e) = IsWrong e cut.text.now cut.rest.now × (place e ≡ at)

-- the token that the piece at this place is
pub record IsTokenOf (cut : Cut) (at : ℕ) (t : Token) : Type 0 where
  pub longest : IsLongest cut.text.now cut.rest.now
  pub spelt : Spells t.kind cut.text.now
  pub starts : t.start ≡ at
  pub ends : t.end ≡ at + length cut.text.now

-- the piece is a blank and the tokens stay, or its token is added
abbrev pub IsAdded : Cut → ℕ → ℕ → List Token → List Token → Type 0
IsAdded cut at end old new = (end ≡ at + length cut.text.now)
    × ((IsBlank cut.text.now cut.rest.now × (new ≡ old)) ⊎ ((t : Token) × IsTokenOf cut at t × (new ≡ old ++ t ∷ [])))

-- what is wrong with the piece at this place, or want of memory
abbrev pub IsRefused : Cut → ℕ → LexError → Type 0
IsRefused cut at fault.Mem = Unit {0}
IsRefused cut at e = IsWrong e cut.text.now cut.rest.now × (place e ≡ at)

-- a wrong piece of the text, before which there is none, or want of memory
abbrev pub IsFirstWrong : List ℕ → LexError → Type 0
IsFirstWrong text fault.Mem = Unit {0}
IsFirstWrong text e = WrongFrom 0 text e × ((f : LexError) → WrongFrom 0 text f → place e ≤ place f)

-- the first fault of a source, or want of memory
abbrev pub IsFaultOrMem : List ℕ → LexError → Type 0
IsFaultOrMem src fault.Mem = Unit {0}
IsFaultOrMem src e = IsFault src e

-- a sign
abbrev pub IsSign : List ℕ → Type 0
IsSign text = (s : Sign) × (text ≡ sign_text s)
