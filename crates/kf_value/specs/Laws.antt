-- For bodies: what holds of the order of values.
use Rattle.std.specs.Prelude.{◌≡◌, List, [], ◌∷◌, ◌⊎◌}
use Rattle.std.specs.declared.cmp.Ordering.TheVariants.{Less}
use Rattle.kf_value.specs.Values.{ValueTree, order}

-- the value is one of the list
abbrev pub IsIn : ValueTree → List ValueTree → Type 0
IsIn v [] = ⊥
IsIn v (w ∷ ws) = (v ≡ w) ⊎ IsIn v ws

-- of the values that stand in exactly one of two lists there is a greatest, and it stands in the first list
pub record HoldsGreatest (vs ws : List ValueTree) : Type 0 where
  pub greatest : ValueTree
  pub held : IsIn greatest vs
  pub missed : IsIn greatest ws → ⊥
  pub ours : (v : ValueTree) → IsIn v vs → (IsIn v ws → ⊥) → (v ≡ greatest) ⊎ (order v greatest ≡ Less)
  pub theirs : (v : ValueTree) → IsIn v ws → (IsIn v vs → ⊥) → order v greatest ≡ Less
