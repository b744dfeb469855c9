-- For bodies: what the checker may answer of statements, declarations and targets: that no rule is broken, with what stands for
-- them in the program; the first broken rule; or want of memory, which says nothing.
use Rattle.std.specs.Prelude.{◌≡◌, ◌≢◌, ◌⊎◌, ℕ, ◌*◌, ◌^◌, ◌<◌, ◌≤◌, ◌↔◌, Bool, false, Contains, List, [], ◌∷◌, ◌++◌, map, option_to_list, Result, Ok, Err}
use Rattle.kf_value.specs.Types.{TypeTree}
use Rattle.kf_value.specs.Targets.{Item}
use Rattle.kf_value.specs.TypeViews.{item_of}
use Rattle.kf_value.specs.Views.{items_of}
use Rattle.kf_ast.specs.Stmts.{StmtTree, stmts}
use Rattle.kf_ast.specs.Sources.{DeclTree, is_visible, ItemTree, item}
use Rattle.kf_ast.specs.Names.{name}
use Rattle.kf_core.specs.Views.{dx_tree, st_tree, st_items}
use Rattle.kf_core.specs.declared.st.St.{St}
use Rattle.kf_core.specs.declared.st.StList.{StList}
use Rattle.kf_check.specs.declared.errors.TypeError.{TypeError}
use Rattle.kf_check.specs.declared.errors.TypeError.TheVariants as broken
use Rattle.kf_check.specs.declared.variables.Declaration.{Declaration}
use Rattle.kf_check.specs.declared.variables.Declared.{Declared}
use Rattle.kf_check.specs.declared.items.ReadItem.{ReadItem}
use Rattle.kf_check.specs.declared.targets.Targeted.{Targeted}
use Rattle.kf_check.specs.Kinds.{Known}
use Rattle.kf_check.specs.Statements.{JudgesStmt, JudgesStmts}
use Rattle.kf_check.specs.Sources.{Variable, types_of, JudgesDecl, JudgesDecls, JudgesItem, JudgesItems}
use Rattle.kf_check.specs.Translation.{st_of, decl_of, AreItems, IsTarget, names_of}
use Rattle.kf_check.specs.Picks.{names_in}
use Rattle.kf_check.specs.Variables.{variable_of, variables_in, AreCopied}
use Rattle.kf_check.specs.Views.{flags_in}

-- a statement, where it is told of each known variable whether it is visible
abbrev pub AnswersSt : List Known → List Bool → StmtTree → Result St TypeError → Type 0
AnswersSt known flags x (Ok s) = JudgesStmt known x (Ok tt) × (st_tree s ≡ st_of (names_in known) flags x)
AnswersSt known flags x (Err e) = e ≢ broken.Mem → JudgesStmt known x (Err e)

-- statements one after the other
abbrev pub AnswersSts : List Known → List Bool → List StmtTree → Result StList TypeError → Type 0
AnswersSts known flags xs (Ok l) = JudgesStmts known (stmts xs) (Ok tt) × (map st_tree (st_items l) ≡ map (st_of (names_in known) flags) xs)
AnswersSts known flags xs (Err e) = e ≢ broken.Mem → JudgesStmts known (stmts xs) (Err e)

-- how many stores there are with one variable more, which has so many values
abbrev pub AnswersGrowth : ℕ → ℕ → ℕ → ℕ → Result ℕ TypeError → Type 0
AnswersGrowth variables stores size at (Ok n) = (variables < 32) × (stores * size ≤ 2 ^ 63) × (n ≡ stores * size)
AnswersGrowth variables stores size at (Err e) =
    ((32 ≤ variables) × (e ≡ broken.TooManyVariables at))
    ⊎ ((variables < 32) × (2 ^ 63 < stores * size) × (e ≡ broken.StoreTooWide at))

-- a declaration behind those of these variables
abbrev pub AnswersDecl : List Variable → DeclTree → Result Declaration TypeError → Type 0
AnswersDecl vs d (Ok x) = JudgesDecl vs d (Ok (variable_of x.variable)) × (dx_tree x.dist ≡ decl_of (names_of vs) d)
AnswersDecl vs d (Err e) = e ≢ broken.Mem → JudgesDecl vs d (Err e)

-- all declarations of a source
abbrev pub AnswersDecls : List DeclTree → Result Declared TypeError → Type 0
AnswersDecls ds (Ok x) =
    JudgesDecls [] ds (Ok (variables_in x)) × (map dx_tree x.dists.items ≡ map (decl_of (names_of (variables_in x))) ds)
    × (flags_in x.names ≡ map is_visible ds)
AnswersDecls ds (Err e) = e ≢ broken.Mem → JudgesDecls [] ds (Err e)

-- the item stands here, at some place
abbrev pub Stands : List ItemTree → Bool → List ℕ → Type 0
Stands stood old n = (at : ℕ) × Contains stood (item old (name n at))

-- the same items, in whatever order
abbrev pub HasSame : List ItemTree → List ItemTree → Type 0
HasSame xs ys = (i : ItemTree) → Contains xs i ↔ Contains ys i

-- the variables as they are behind the last statement
abbrev pub as_items : List Variable → List Item
as_items vs = map (λ v. record { initial = false; name = v.name; ty = v.type }) vs

-- an item behind those that stood, where there are so many carried copies and variables of these types
abbrev pub AnswersItem : List Variable → List ItemTree → ℕ → List TypeTree → ItemTree → Result ReadItem TypeError → Type 0
AnswersItem vs stood copies ts i (Ok x) = JudgesItem vs stood ts i (Ok (ts ++ map (λ c. (item_of x.item).ty) (option_to_list x.copied)))
    × AreItems vs copies (i ∷ []) (option_to_list x.copied) (item_of x.item ∷ []) (x.slot ∷ [])
AnswersItem vs stood copies ts i (Err e) = e ≢ broken.Mem → JudgesItem vs stood ts i (Err e)

-- the target of a source
abbrev pub AnswersTarget : List Variable → List ItemTree → Result Targeted TypeError → Type 0
AnswersTarget vs is (Ok x) =
    (types : List TypeTree) × JudgesItems vs [] (types_of vs) is (Ok (types_of vs ++ types)) × AreCopied vs x.copies types
    × IsTarget vs is x.copies (items_of x.target) x.slots
AnswersTarget vs is (Err e) = e ≢ broken.Mem → JudgesItems vs [] (types_of vs) is (Err e)
