-- Believed: the shapes of tokens, and which texts each kind of token has.
use Rattle.std.specs.Prelude.{◌≡◌, ◌≤◌, ◌⊎◌, ◌||◌, ◌==◌, ℕ, true, List, [], ◌∷◌, ◌++◌, Some, None}
use Rattle.std.specs.List.{AllByRecursion}
use Rattle.std.specs.Str.{encode_utf8_all, all_scalars}
use Rattle.std.specs.Str.Parse.{IsNumeral, digits_value}
use Rattle.unicode_ident.specs.Ident.{is_xid_start, is_xid_continue}
use Rattle.kf_lex.specs.declared.token.Sign.{Sign}
use Rattle.kf_lex.specs.declared.token.Tok.{Tok}
use Rattle.kf_lex.specs.declared.token.Tok.TheVariants as tok
use Rattle.kf_lex.specs.Words.{sign_text, reserved}

-- the greatest number of a source
abbrev pub greatest_number : ℕ
greatest_number = 1000000000

-- the characters of a word: one that may begin a name (XID start, or `_`), and then any that may continue it
pub record IsWordOf (c : ℕ) (cs : List ℕ) : Type 0 where
  pub begins : (is_xid_start c || (c == 95)) ≡ true
  pub continues : AllByRecursion (λ d. is_xid_continue d ≡ true) cs
  pub scalars : all_scalars (c ∷ cs) ≡ true

-- the UTF-8 of such characters, be it a name or a reserved word
abbrev pub IsWord : List ℕ → Type 0
IsWord text = (c : ℕ) × (cs : List ℕ) × IsWordOf c cs × (text ≡ encode_utf8_all (c ∷ cs))

-- what has the shape of a token: a sign, one decimal digit or more, or a word; a number may be of any size
abbrev pub IsLexeme : List ℕ → Type 0
IsLexeme text = ((s : Sign) × (text ≡ sign_text s)) ⊎ IsNumeral 10 text ⊎ IsWord text

-- a lexeme with which these bytes begin, and no longer front of them is one
pub record IsLongest (text rest : List ℕ) : Type 0 where
  pub lexeme : IsLexeme text
  pub longest : (more left : List ℕ) → rest ≡ more ++ left → IsLexeme (text ++ more) → more ≡ []

-- the texts that a kind of token has
abbrev pub Spells : Tok → List ℕ → Type 0
Spells (tok.Sign s) text = text ≡ sign_text s
Spells (tok.Number n) text = IsNumeral 10 text × (digits_value 10 text ≡ n) × (n ≤ greatest_number)
Spells (tok.Word w) text = reserved text ≡ Some w
Spells tok.Name text = IsWord text × (reserved text ≡ None)
