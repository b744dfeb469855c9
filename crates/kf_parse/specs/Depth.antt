-- Believed: how many brackets stand open after tokens.
use Rattle.std.specs.Prelude.{◌≡◌, ℕ, ◌+◌, ◌-◌, ◌<◌, ◌≤◌, List, [], ◌∷◌, ◌++◌}
use Rattle.std.specs.List.{fold}
use Rattle.kf_lex.specs.declared.token.Token.{Token}
use Rattle.kf_lex.specs.declared.token.Tok.{Tok}
use Rattle.kf_lex.specs.declared.token.Tok.TheVariants as t
use Rattle.kf_lex.specs.declared.token.Word.TheVariants as w
use Rattle.kf_lex.specs.declared.token.Sign.TheVariants as s

-- brackets that are open, and the words `of` of the types of sets that have begun behind the last of them
pub record Open : Type 0 where
  pub brackets : ℕ
  pub ofs : ℕ

abbrev pub open_brackets : ℕ → Open
open_brackets n = record { brackets = n; ofs = 0 }

-- A closing bracket where none is open changes nothing. A word `of` counts until the next token that is neither `set` nor `of`.
abbrev pub opened : Open → Tok → Open
opened c (t.Sign s.ParenOpen) = open_brackets (c.brackets + 1)
opened c (t.Sign s.BraceOpen) = open_brackets (c.brackets + 1)
opened c (t.Sign s.ParenClose) = open_brackets (c.brackets - 1)
opened c (t.Sign s.BraceClose) = open_brackets (c.brackets - 1)
opened c (t.Word w.OfWord) = record { brackets = c.brackets; ofs = c.ofs + 1 }
opened c (t.Word w.SetWord) = c
opened c _ = open_brackets c.brackets

-- how many stand open after tokens
abbrev pub depth : List Token → ℕ
depth ts = let c = fold (λ (c : Open) (o : Token). opened c o.kind) (open_brackets 0) ts in c.brackets + c.ofs

abbrev pub IsShallow : List Token → Type 0
IsShallow ts = (front rest : List Token) → ts ≡ front ++ rest → depth front ≤ 64

-- the first token after which more than 64 stand open is at this place
pub record IsDeep (ts : List Token) (at : ℕ) : Type 0 where
  pub front : List Token
  pub token : Token
  pub rest : List Token
  pub whole : ts ≡ front ++ token ∷ rest
  pub before : IsShallow front
  pub above : 64 < depth (front ++ token ∷ [])
  pub stands : token.start ≡ at
