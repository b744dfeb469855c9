-- Believed: the rules of declarations, targets and whole sources.
use Rattle.std.specs.Prelude.{ℕ, ◌*◌, ◌^◌, ◌<◌, ◌≤◌, true, false, List, [], ◌∷◌, ◌++◌, length, map, Contains, Option, Some, None, Ok, Err, ◌≡◌}
use Rattle.std.specs.List.{All}
use Rattle.kf_value.specs.Types.{TypeTree, count, product}
use Rattle.kf_ast.specs.Names.{name}
use Rattle.kf_ast.specs.Stmts.{stmts}
use Rattle.kf_ast.specs.Sources.{DeclTree, declared, ItemTree, item, SourceTree, source}
use Rattle.kf_value.specs.Kinds.{kind_of}
use Rattle.kf_check.specs.declared.errors.TypeError.{TypeError}
use Rattle.kf_check.specs.declared.errors.TypeError.TheVariants as broken
use Rattle.kf_check.specs.Judgements.{Judgement, Is, Picks, Where, After}
use Rattle.kf_check.specs.Types.{greatest_size, JudgesType}
use Rattle.kf_check.specs.Kinds.{Known, AsksDist}
use Rattle.kf_check.specs.Statements.{JudgesStmts}

-- a declared variable
pub record Variable : Type 0 where
  pub name : List ℕ
  pub type : TypeTree

abbrev pub types_of : List Variable → List TypeTree
types_of vs = map (λ v. v.type) vs

abbrev pub known_of : List Variable → List Known
known_of vs = map (λ v. record { name = v.name; kind = kind_of v.type }) vs

-- behind variables of these types one more, whose name stands here: at most 32, carried copies among them, and at most 2^63 stores
abbrev pub Grows : List TypeTree → TypeTree → ℕ → Judgement TypeTree
Grows ts t at =
    After (Where (length ts < 32) t (broken.TooManyVariables at))
    (λ _. Where (product (map count ts) * count t ≤ 2 ^ 63) t (broken.StoreTooWide at))

-- a declaration behind those of these variables: its name, its type, room for it, and its distribution, in which only they are known
abbrev pub JudgesDecl : List Variable → DeclTree → Judgement Variable
JudgesDecl vs (declared visible (name n at) y d) =
    After (Where (All (λ v. v.name ≡ n → ⊥) (known_of vs)) n (broken.Twice at))
    (λ _. After (JudgesType greatest_size y)
    (λ t. After (Grows (types_of vs) t at)
    (λ _. After (AsksDist (known_of vs) (kind_of t) d)
    (λ _. Is (record { name = n; type = t })))))

-- declarations behind those of these variables, and all variables behind them
abbrev pub JudgesDecls : List Variable → List DeclTree → Judgement (List Variable)
JudgesDecls vs [] = Is vs
JudgesDecls vs (d ∷ ds) = After (JudgesDecl vs d) (λ v. JudgesDecls (vs ++ v ∷ []) ds)

-- an item of a target behind these ones, where there are variables of these types, carried copies among them: the types behind it, to which
-- an item `old` adds a carried copy
abbrev pub JudgesItem : List Variable → List ItemTree → List TypeTree → ItemTree → Judgement (List TypeTree)
JudgesItem vs stood ts (item old (name n at)) =
    After (Picks (λ t. Contains vs (record { name = n; type = t })) (broken.Unknown at))
    (λ t. After (Where ((at' : ℕ) → ¬ Contains stood (item old (name n at'))) t (broken.Twice at))
    (λ _. elim old [ false ↦ Is ts | true ↦ After (Grows ts t at) (λ _. Is (ts ++ t ∷ [])) ]))

abbrev pub JudgesItems : List Variable → List ItemTree → List TypeTree → List ItemTree → Judgement (List TypeTree)
JudgesItems vs stood ts [] = Is ts
JudgesItems vs stood ts (i ∷ others) = After (JudgesItem vs stood ts i) (λ us. JudgesItems vs (i ∷ stood) us others)

-- a whole source: whether it declares a variable, its declarations, its target, its statements
abbrev pub JudgesWhole : SourceTree → Judgement (Unit {0})
JudgesWhole (source ds is xs) =
    After (Where (1 ≤ length ds) ds (broken.NoVariable 0))
    (λ _. After (JudgesDecls [] ds)
    (λ vs. After (JudgesItems vs [] (types_of vs) is)
    (λ _. JudgesStmts (known_of vs) (stmts xs))))

-- no rule is broken, or this one first
unfoldable pub JudgesSource : SourceTree → Option TypeError → Type 0
JudgesSource s None = JudgesWhole s (Ok tt)
JudgesSource s (Some e) = JudgesWhole s (Err e)
