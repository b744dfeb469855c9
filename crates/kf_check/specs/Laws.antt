-- For bodies: laws of the type rules.
use Rattle.std.specs.Prelude.{◌≡◌, ◌⊎◌, Option, Result, Ok, Err}
use Rattle.kf_value.specs.declared.ty.TyFault.{TyFault}
use Rattle.kf_value.specs.declared.ty.TyFault.TheVariants as fault
use Rattle.kf_value.specs.Types.{TypeTree, TypeTrees, Boolean, Range, TupleOf, SetOf, no_type, more_types, count}
use Rattle.kf_value.specs.Sizes.{size_of}
use Rattle.kf_ops.specs.Fitting.{Takes}
use Rattle.kf_ast.specs.TypeForms.{TypeForm, TypeShape, TypeForms, type_at, no_types}
use Rattle.kf_ast.specs.TypeForms as form
use Rattle.kf_ast.specs.Sources.{SourceTree}
use Rattle.kf_ast.specs.Built.{IsSourceBuilt}
use Rattle.kf_core.specs.Programs.{ProgramTree}
use Rattle.kf_core.specs.Checked.{IsChecked}
use Rattle.kf_check.specs.declared.errors.TypeError.{TypeError}
use Rattle.kf_check.specs.declared.errors.TypeError.TheVariants as broken
use Rattle.kf_check.specs.Types.{greatest_size, JudgesType}
use Rattle.kf_check.specs.Sources.{JudgesSource}
use Rattle.kf_check.specs.Translation.{Typed}
use Rattle.kf_check.specs.Variables.{IsBroken}

-- operators have as many arguments as they take, and no list is too short
abbrev pub IsWellBuilt : SourceTree → Type 0
IsWellBuilt s = IsSourceBuilt Takes s

-- the rules judge a source in one way at most
abbrev pub OneJudgement : Type 0
OneJudgement = (s : SourceTree) (r q : Option TypeError) → JudgesSource s r → JudgesSource s q → r ≡ q

-- a source has one program at most
abbrev pub OneTyped : Type 0
OneTyped = (s : SourceTree) (p q : ProgramTree) → Typed s p → Typed s q → p ≡ q

-- a well-built source has a program, or a first broken rule
abbrev pub TypedOrBroken : Type 0
TypedOrBroken = (s : SourceTree) → IsWellBuilt s → ((p : ProgramTree) × Typed s p) ⊎ ((e : TypeError) × IsBroken s e)

-- a broken rule is told: want of memory is none
abbrev pub BrokenIsTold : Type 0
BrokenIsTold = (s : SourceTree) (e : TypeError) → IsBroken s e → e ≡ broken.Mem → ⊥

-- the program of a well-built source is checked: each node has its kind, and the lists agree
abbrev pub CheckedIfTyped : Type 0
CheckedIfTyped = (s : SourceTree) (p : ProgramTree) → IsWellBuilt s → Typed s p → IsChecked p

-- a type as it is written, without its places
abbrev mutual
  pub plain_type : TypeForm → TypeTree
  plain_type (type_at at shape) = plain_shape shape

  pub plain_shape : TypeShape → TypeTree
  plain_shape form.Boolean = Boolean
  plain_shape (form.Range lo hi) = Range lo hi
  plain_shape (form.TupleOf xs) = TupleOf (plain_types xs)
  plain_shape (form.SetOf x) = SetOf (plain_type x)

  pub plain_types : TypeForms → TypeTrees
  plain_types no_types = no_type
  plain_types (form.more_types x xs) = more_types (plain_type x) (plain_types xs)

-- a broken rule is this fault at some place
abbrev pub IsFault : TypeError → TyFault → Type 0
IsFault (broken.BadRange at) fault.BadRange = Unit {0}
IsFault (broken.TypeTooLarge at) fault.TooManyValues = Unit {0}
IsFault e f = ⊥

-- the answer is this type with the number of its values as its size, or the same fault as that of its size
abbrev pub AgreesWith : TypeTree → Result TypeTree TypeError → Type 0
AgreesWith t (Ok u) = (u ≡ t) × (size_of t ≡ Ok (count t))
AgreesWith t (Err e) = (f : TyFault) × IsFault e f × (size_of t ≡ Err f)

-- the rules of types say of a type what is said of its size
abbrev pub SizesAgree : Type 0
SizesAgree = (x : TypeForm) (r : Result TypeTree TypeError) → JudgesType greatest_size x r → AgreesWith (plain_type x) r
