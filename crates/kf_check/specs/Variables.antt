-- For bodies: What contracts see of declared variables.
use Rattle.std.specs.Prelude.{◌≡◌, ℕ, List, [], map, slice_get, Some, Ok, Bool, true, false, ◌∷◌, ◌++◌}
use Rattle.std.specs.List.{All}
use Rattle.kf_value.specs.Types.{TypeTree}
use Rattle.kf_value.specs.TypeViews.{type_tree}
use Rattle.kf_value.specs.Kinds.{KindTree}
use Rattle.kf_ops.specs.Fitting.{Takes}
use Rattle.kf_ast.specs.Sources.{DeclTree, SourceTree}
use Rattle.kf_ast.specs.Built.{AreDeclsBuilt}
use Rattle.kf_ast.specs.Names.{name}
use Rattle.kf_check.specs.declared.variables.Variable as code
use Rattle.kf_check.specs.declared.variables.Declared.{Declared}
use Rattle.kf_check.specs.Sources.{Variable, types_of, JudgesDecls, JudgesSource, Grows}
use Rattle.kf_check.specs.Kinds.{Known}
use Rattle.kf_check.specs.declared.errors.TypeError.{TypeError}
use Rattle.kf_check.specs.Judgements.{Judgement, Is, After}

abbrev pub variable_of : code.Variable → Variable
variable_of v = record { name = v.name; type = type_tree v.ty }

abbrev pub variables_in : Declared → List Variable
variables_in d = map variable_of d.variables.items

-- these are the variables of well-built declarations that break no rule
abbrev pub AreDeclared : List Variable → Type 0
AreDeclared vs = (ds : List DeclTree) × AreDeclsBuilt Takes ds × JudgesDecls [] ds (Ok vs)

-- these are the types of carried copies of these variables
abbrev pub AreCopied : List Variable → List ℕ → List TypeTree → Type 0
AreCopied vs copies types = map Some types ≡ map (slice_get (types_of vs)) copies

-- the variable of this name is the one with this number, and has this kind
abbrev pub IsKnown : List Known → List ℕ → ℕ → KindTree → Type 0
IsKnown known n i k = slice_get known i ≡ Some (record { name = n; kind = k })

abbrev pub IsUnknown : List Known → List ℕ → Type 0
IsUnknown known n = All (λ v. v.name ≡ n → ⊥) known

-- this is the source's first broken rule
abbrev pub IsBroken : SourceTree → TypeError → Type 0
IsBroken s e = JudgesSource s (Some e)

abbrev pub greatest_base : ℕ
greatest_base = 16

-- where there are variables of these types, an item `old` of this type adds a carried copy, and another item none
abbrev pub Carries : Bool → List TypeTree → TypeTree → ℕ → Judgement (List TypeTree)
Carries old ts t at = elim old [ false ↦ Is ts | true ↦ After (Grows ts t at) (λ _. Is (ts ++ t ∷ [])) ]
