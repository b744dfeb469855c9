-- For bodies: what holds of the values of checked expressions.
use Rattle.std.specs.Prelude.{◌↔◌, ℕ, List, map, IsTrue, IfOk}
use Rattle.std.specs.List.{list_all}
use Rattle.std.specs.List.Sorted.{IsStrictlySortedBy}
use Rattle.kf_value.specs.Values.{ValueTree, parts, order}
use Rattle.kf_value.specs.Laws.{IsIn}
use Rattle.kf_value.specs.Forms.{IsWellFormed, EachWellFormed, HasKind, HaveKinds}
use Rattle.kf_value.specs.Types.{TypeTree}
use Rattle.kf_value.specs.Sizes.{well_formed}
use Rattle.kf_value.specs.Kinds.{KindTree, kind_parts, kind_of}
use Rattle.kf_value.specs.Numbers.{IsStore}
use Rattle.kf_core.specs.Exs.{ExTree}
use Rattle.kf_core.specs.Evaluation.{Evaluated, ev, set_of}
use Rattle.kf_core.specs.Checked.{Kinded}

-- the values are well formed and of these kinds, one by one
pub record AreOfKinds (ks : List KindTree) (s : List ValueTree) : Type 0 where
  pub kinds : HaveKinds (parts s) (kind_parts ks)
  pub formed : EachWellFormed (parts s)

-- a fault, or a well-formed value of the kind
abbrev pub GivesKind : KindTree → Evaluated → Type 0
GivesKind k e = IfOk e (λ v. HasKind v k × IsWellFormed v)

-- a checked expression has a fault or a well-formed value of its kind, so that it never reads what isn't there
abbrev pub KeepsKinds : Type 0
KeepsKinds = (ks : List KindTree) (s : List ValueTree) (x : ExTree) (k : KindTree) → AreOfKinds ks s → Kinded ks x k → GivesKind k (ev s x)

-- the values of a store are of the kinds of the variables' types
abbrev pub StoresHaveKinds : Type 0
StoresHaveKinds = (ts : List TypeTree) (n : ℕ) (s : List ValueTree) → IsTrue (list_all well_formed ts) → IsStore ts n s
    → AreOfKinds (map kind_of ts) s

-- the members of a set ascend strictly, and are exactly those that are listed
abbrev pub SetsHoldMembers : Type 0
SetsHoldMembers = (vs : List ValueTree) → IsStrictlySortedBy order (set_of vs) × ((v : ValueTree) → IsIn v (set_of vs) ↔ IsIn v vs)
