-- Believed: what a source's tokens are: a program, or refused for one cause at one place.
use Rattle.std.specs.Prelude.{◌≡◌, ℕ, List, [], ◌∷◌, ◌++◌, length, Some, None, slice_get}
use Rattle.std.specs.Option.{option_map_or}
use Rattle.kf_lex.specs.declared.token.Token.{Token}
use Rattle.kf_ast.specs.Sources.{SourceTree}
use Rattle.kf_parse.specs.declared.errors.ParseError.{ParseError}
use Rattle.kf_parse.specs.declared.errors.ParseError.TheVariants as errors
use Rattle.kf_parse.specs.Programs.{IsProgram}
use Rattle.kf_parse.specs.Depth.{IsShallow, IsDeep}
use Rattle.kf_parse.specs.Sizes.{source_exprs, first_long}

-- some program begins with these tokens
pub record Begins (ts : List Token) : Type 0 where
  pub src : List ℕ
  pub more : List Token
  pub tree : SourceTree
  pub program : IsProgram src (ts ++ more) tree

-- of these tokens of a source
module _ (src : List ℕ) (ts : List Token) where
  -- tokens up to this place, which may be the end of the source, begin a program, and with the token that stands there they begin none
  pub record IsSyntaxPlace (at : ℕ) : Type 0 where
    pub front : List Token
    pub rest : List Token
    pub whole : ts ≡ front ++ rest
    pub begins : Begins front
    pub ends : (o : Token) (us : List Token) → rest ≡ o ∷ us → Begins (front ++ o ∷ []) → ⊥
    pub stands : option_map_or (λ (o : Token). o.start) (slice_get rest 0) (length src) ≡ at

  -- the tokens are those of this program, with brackets and expressions within their limits
  pub record IsParsed (tree : SourceTree) : Type 0 where
    pub shallow : IsShallow ts
    pub program : IsProgram src ts tree
    pub short : first_long (source_exprs tree) ≡ None

  -- brackets within their limit, and no program: the place is the first at which none goes on
  pub record IsSyntax (at : ℕ) : Type 0 where
    pub shallow : IsShallow ts
    pub none : (tree : SourceTree) → IsProgram src ts tree → ⊥
    pub place : IsSyntaxPlace at

  -- a program with an expression of too many nodes: the place is the first one's
  pub record IsLong (at : ℕ) : Type 0 where
    pub shallow : IsShallow ts
    pub tree : SourceTree
    pub program : IsProgram src ts tree
    pub long : first_long (source_exprs tree) ≡ Some at

  -- why the tokens are refused; nothing is said of want of memory
  abbrev pub IsRefused : ParseError → Type 0
  IsRefused (errors.Deep at) = IsDeep ts at
  IsRefused (errors.Syntax at) = IsSyntax at
  IsRefused (errors.Long at) = IsLong at
  IsRefused errors.Mem = Unit {0}
