-- For bodies: which arguments an operator takes.
use Rattle.std.specs.Prelude.{◌≡◌, ℕ, Some, List, [], ◌∷◌, slice_get, take}
use Rattle.std.specs.Option.{option_map}
use Rattle.kf_value.specs.Kinds.{KindTree, TruthKind, WholeKind, SetKind}
use Rattle.kf_value.specs.Forms.{HasKind, IsWellFormed}
use Rattle.kf_value.specs.Values.{ValueTree}
use Rattle.kf_ops.specs.Rows.{Row, operators}
use Rattle.kf_ops.specs.Places.{IsRow}
use Rattle.kf_ops.specs.declared.row.Pat.{Pat}
use Rattle.kf_ops.specs.declared.row.Pat.TheVariants as pat

-- the value is what the pattern stands for, where `Any` stands for the kind
abbrev pub FitsPattern : KindTree → Pat → ValueTree → Type 0
FitsPattern k pat.Nothing v = ⊥
FitsPattern k pat.Bool v = HasKind v TruthKind
FitsPattern k pat.Int v = HasKind v WholeKind
FitsPattern k pat.Any v = HasKind v k
FitsPattern k pat.SetOfAny v = HasKind v (SetKind k)

-- a well-formed value that fits the pattern
abbrev pub FitsWell : KindTree → Pat → ValueTree → Type 0
FitsWell k p v = FitsPattern k p v × IsWellFormed v

-- there is one such value for each pattern
abbrev pub EachFits : KindTree → List Pat → List ValueTree → Type 0
EachFits k [] [] = Unit {0}
EachFits k (p ∷ ps) (v ∷ vs) = FitsWell k p v × EachFits k ps vs
EachFits k _ _ = ⊥

-- the operator takes these arguments
abbrev pub Fits : KindTree → Row → List ValueTree → Type 0
Fits k row args = EachFits k (take row.arity row.args) args

-- the row at this place takes arguments of these patterns
abbrev pub TakesPatterns : ℕ → List Pat → Type 0
TakesPatterns place patterns = option_map (λ (row : Row). take row.arity row.args) (slice_get operators place) ≡ Some patterns

-- there is an operator at this place, which takes these arguments where `Any` stands for some kind
pub record FitsRow (place : ℕ) (args : List ValueTree) : Type 0 where
  pub row : Row
  pub here : IsRow place row
  pub kind : KindTree
  pub fits : Fits kind row args

-- there is an operator at this place, and it takes so many arguments
abbrev pub Takes : ℕ → ℕ → Type 0
Takes place n = (row : Row) × IsRow place row × (row.arity ≡ n)
