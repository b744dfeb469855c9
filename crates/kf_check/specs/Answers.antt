-- For bodies: What the checker may answer: what the rules say of a tree, with the program's node for it; the first broken rule; or want of memory, which says nothing.
use Rattle.std.specs.Prelude.{◌≡◌, ◌≢◌, ℕ, List, Result, Ok, Err}
use Rattle.kf_value.specs.Kinds.{KindTree}
use Rattle.kf_value.specs.TypeViews.{type_tree}
use Rattle.kf_value.specs.Views.{kind_tree}
use Rattle.kf_value.specs.declared.ty.Ty.{Ty}
use Rattle.kf_ast.specs.TypeForms.{TypeForm}
use Rattle.kf_ast.specs.Exprs.{ExprTree}
use Rattle.kf_ast.specs.Dists.{CaseTree, case_of, DistTree}
use Rattle.kf_core.specs.Views.{ex_tree, dx_tree}
use Rattle.kf_core.specs.declared.dx.Dx.{Dx}
use Rattle.kf_core.specs.declared.dx.DxCase.{DxCase}
use Rattle.kf_check.specs.declared.errors.TypeError.{TypeError}
use Rattle.kf_check.specs.declared.errors.TypeError.TheVariants as broken
use Rattle.kf_check.specs.declared.typed.TypedEx.{TypedEx}
use Rattle.kf_check.specs.declared.typed.TypedDx.{TypedDx}
use Rattle.kf_check.specs.Types.{JudgesType}
use Rattle.kf_check.specs.Kinds.{Known, Judges, JudgesPair, JudgesDist, AsksDist}
use Rattle.kf_check.specs.Translation.{ex_of, dx_of}
use Rattle.kf_check.specs.Picks.{names_in}

-- a type that may have so many values
abbrev pub AnswersType : ℕ → TypeForm → Result Ty TypeError → Type 0
AnswersType limit x (Ok t) = JudgesType limit x (Ok (type_tree t))
AnswersType limit x (Err e) = e ≢ broken.Mem → JudgesType limit x (Err e)

-- an expression
abbrev pub AnswersEx : List Known → ExprTree → Result TypedEx TypeError → Type 0
AnswersEx known x (Ok t) = Judges known x (Ok (kind_tree t.kind)) × (ex_tree t.ex ≡ ex_of (names_in known) x)
AnswersEx known x (Err e) = e ≢ broken.Mem → Judges known x (Err e)

-- a case of a `choose` whose values are to be of this kind
abbrev pub AnswersCase : List Known → KindTree → CaseTree → Result DxCase TypeError → Type 0
AnswersCase known k (case_of x y) (Ok t) = JudgesPair known k x y (Ok k) × (ex_tree t.value ≡ ex_of (names_in known) x) × (ex_tree t.weight ≡ ex_of (names_in known) y)
AnswersCase known k (case_of x y) (Err e) = e ≢ broken.Mem → JudgesPair known k x y (Err e)

-- a distribution
abbrev pub AnswersDx : List Known → DistTree → Result TypedDx TypeError → Type 0
AnswersDx known d (Ok t) = JudgesDist known d (Ok (kind_tree t.kind)) × (dx_tree t.dx ≡ dx_of (names_in known) d)
AnswersDx known d (Err e) = e ≢ broken.Mem → JudgesDist known d (Err e)

-- a distribution whose values are to be of this kind
abbrev pub AnswersAskedDx : List Known → KindTree → DistTree → Result Dx TypeError → Type 0
AnswersAskedDx known k d (Ok x) = AsksDist known k d (Ok k) × (dx_tree x ≡ dx_of (names_in known) d)
AnswersAskedDx known k d (Err e) = e ≢ broken.Mem → AsksDist known k d (Err e)
