-- For bodies: What is found among names and kinds, and what isn't.
use Rattle.std.specs.Prelude.{◌≡◌, ℕ, List, map, take}
use Rattle.kf_value.specs.Kinds.{KindTree, SetKind}
use Rattle.kf_ops.specs.Rows.{Row}
use Rattle.kf_ops.specs.Places.{IsRow, pattern_kind}
use Rattle.kf_check.specs.Kinds.{Known, IsCommon, IsPart}
use Rattle.kf_check.specs.Translation.{place_of}
use Rattle.kf_check.specs.Variables.{IsKnown}

-- the kinds are those of the row's patterns, where `Any` stands for this kind
abbrev pub Fit : Row → KindTree → List KindTree → Type 0
Fit r any ks = ks ≡ map (pattern_kind any) (take r.arity r.args)

abbrev pub names_in : List Known → List (List ℕ)
names_in known = map (λ v. v.name) known

-- the variable of this name has this number, the first that has the name, and this kind
abbrev pub IsFound : List Known → List ℕ → ℕ → KindTree → Type 0
IsFound known n i k = IsKnown known n i k × (place_of (names_in known) n ≡ i)

abbrev pub HasNoCommon : List KindTree → Type 0
HasNoCommon ks = (k : KindTree) → IsCommon ks k → ⊥

abbrev pub HasNoPart : KindTree → ℕ → Type 0
HasNoPart j n = (k : KindTree) → IsPart j n k → ⊥

-- it is no kind of a set
abbrev pub HasNoElement : KindTree → Type 0
HasNoElement j = (k : KindTree) → j ≡ SetKind k → ⊥

-- it takes no arguments of these kinds
abbrev pub HasNoResult : ℕ → List KindTree → Type 0
HasNoResult place ks = (r : Row) (any : KindTree) → IsRow place r → Fit r any ks → ⊥
