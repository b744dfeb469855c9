-- Believed: how a text is cut into pieces.
use Rattle.std.specs.Prelude.{◌≡◌, ◌≢◌, ◌⊎◌, ◌||◌, ◌==◌, ℕ, Bool, true, List, [], ◌∷◌, ◌++◌}
use Rattle.std.specs.Char.{IsScalar, encode_utf8}
use Rattle.std.specs.List.{AllByRecursion}
use Rattle.kf_lex.specs.Lexemes.{IsLexeme, IsLongest}

-- space, tab, LF or CR
abbrev pub is_separator : ℕ → Bool
is_separator b = (b == 32) || (b == 9) || (b == 10) || (b == 13)

-- nothing follows, or LF does
abbrev pub IsLineEnd : List ℕ → Type 0
IsLineEnd [] = Unit {0}
IsLineEnd (b ∷ rest) = b ≡ 10

-- `#` and what stands behind it, up to before the next LF or to the end
pub record IsComment (line rest : List ℕ) : Type 0 where
  pub one_line : AllByRecursion (λ b. b ≢ 10) line
  pub ends : IsLineEnd rest

-- a separator, or a comment with rest behind it
abbrev pub IsBlank : List ℕ → List ℕ → Type 0
IsBlank [] rest = ⊥
IsBlank (b ∷ line) rest = ((is_separator b ≡ true) × (line ≡ [])) ⊎ ((b ≡ 35) × IsComment line rest)

-- one character, with which neither a blank nor a token begins
pub record IsOther (text rest : List ℕ) : Type 0 where
  pub char : ℕ
  pub scalar : IsScalar char
  pub spelt : text ≡ encode_utf8 char
  pub no_blank : (front left : List ℕ) → text ++ rest ≡ front ++ left → ¬ (IsBlank front left)
  pub no_token : (front left : List ℕ) → text ++ rest ≡ front ++ left → ¬ (IsLexeme front)

-- the pieces: what a text that goes on with rest may begin with
pub data IsPiece (text rest : List ℕ) : Type 0 where
  blank : IsBlank text rest → IsPiece text rest
  token : IsLongest text rest → IsPiece text rest
  other : IsOther text rest → IsPiece text rest
