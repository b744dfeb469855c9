-- For bodies: the laws of programs and refusals.
use Rattle.std.specs.Prelude.{◌≡◌, ◌⊎◌, ℕ, List, ◌∷◌, map}
use Rattle.kf_lex.specs.declared.token.Token.{Token}
use Rattle.kf_lex.specs.declared.token.Tok.{Tok}
use Rattle.kf_ops.specs.Fitting.{Takes}
use Rattle.kf_ast.specs.TypeForms.{TypeShape, type_at}
use Rattle.kf_ast.specs.Exprs.{ExprTree, place}
use Rattle.kf_ast.specs.Dists.{DistShape, dist_at}
use Rattle.kf_ast.specs.Stmts.{StmtShape, stmt_at}
use Rattle.kf_ast.specs.Sources.{SourceTree}
use Rattle.kf_ast.specs.Built.{IsSourceBuilt}
use Rattle.kf_parse.specs.declared.errors.ParseError.{ParseError}
use Rattle.kf_parse.specs.declared.errors.ParseError.TheVariants as errors
use Rattle.kf_parse.specs.Grammar.{E, TypeOf, Dist}
use Rattle.kf_parse.specs.Programs.{IsProgram, Statement}
use Rattle.kf_parse.specs.Depth.{open_brackets}
use Rattle.kf_parse.specs.Answers.{IsParsed, IsRefused}
use Rattle.kf_parse.specs.Tokens.{open_after}

-- tokens are those of one program at most
abbrev pub OneProgram : Type 0
OneProgram = (src : List ℕ) (ts : List Token) (x y : SourceTree) → IsProgram src ts x → IsProgram src ts y → x ≡ y

abbrev pub kinds : List Token → List Tok
kinds ts = map (λ o. o.kind) ts

-- whether tokens are those of a program rests on their kinds alone
abbrev pub KindsAlone : Type 0
KindsAlone = (src src' : List ℕ) (ts us : List Token) (x : SourceTree)
    → IsProgram src ts x → kinds ts ≡ kinds us → (y : SourceTree) × IsProgram src' us y

-- the first of the tokens stands at this byte
pub record BeginAt (ts : List Token) (at : ℕ) : Type 0 where
  pub first : Token
  pub rest : List Token
  pub whole : ts ≡ first ∷ rest
  pub stands : first.start ≡ at

-- what is read stands where the first of its tokens does
pub record StandsFirst : Type 0 where
  pub expr : (src : List ℕ) (l : ℕ) (ts : List Token) (x : ExprTree) → E src l ts x → BeginAt ts (place x)
  pub type : (ts : List Token) (at : ℕ) (y : TypeShape) → TypeOf ts (type_at at y) → BeginAt ts at
  pub dist : (src : List ℕ) (ts : List Token) (at : ℕ) (d : DistShape) → Dist src ts (dist_at at d) → BeginAt ts at
  pub statement : (src : List ℕ) (ts : List Token) (at : ℕ) (s : StmtShape) → Statement src ts (stmt_at at s) → BeginAt ts at

-- a program closes each bracket that it opens and no other, however many stand open before it
abbrev pub ClosesAll : Type 0
ClosesAll = (src : List ℕ) (ts : List Token) (x : SourceTree) → IsProgram src ts x
    → (n : ℕ) → open_after (open_brackets n) ts ≡ open_brackets n

-- a program's operators have as many arguments as they take, and none of its lists is too short
abbrev pub OnlyBuilt : Type 0
OnlyBuilt = (src : List ℕ) (ts : List Token) (x : SourceTree) → IsProgram src ts x → IsSourceBuilt Takes x

-- any tokens are a program's, within the limits, or they are refused, and not for want of memory
abbrev pub ParsedOrRefused : Type 0
ParsedOrRefused = (src : List ℕ) (ts : List Token)
    → ((x : SourceTree) × IsParsed src ts x) ⊎ ((e : ParseError) × (e ≡ errors.Mem → ⊥) × IsRefused src ts e)

-- tokens that are a program's aren't refused
abbrev pub NotBoth : Type 0
NotBoth = (src : List ℕ) (ts : List Token) (x : SourceTree) (e : ParseError)
    → (e ≡ errors.Mem → ⊥) → IsParsed src ts x → IsRefused src ts e → ⊥

-- tokens are refused for one cause at one place
abbrev pub OneRefusal : Type 0
OneRefusal = (src : List ℕ) (ts : List Token) (e f : ParseError)
    → (e ≡ errors.Mem → ⊥) → (f ≡ errors.Mem → ⊥) → IsRefused src ts e → IsRefused src ts f → e ≡ f
