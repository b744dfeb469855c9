-- For bodies: what one pass over two ascending lists makes.
use Rattle.std.specs.Prelude.{◌≡◌, Bool, true, List, [], ◌∷◌}
use Rattle.std.specs.declared.cmp.Ordering.{Ordering}
use Rattle.std.specs.declared.cmp.Ordering.TheVariants.{Less, Equal, Greater}
use Rattle.std.specs.Ordering.{is_eq, is_lt}
use Rattle.kf_value.specs.Values.{ValueTree, order}
use Rattle.kf_ops.specs.declared.sets.Kept.{Kept}
use Rattle.kf_ops.specs.declared.sets.Kept.TheVariants as kept
use Rattle.kf_ops.specs.Sets.{without, both, either}

-- the operation of the values that are kept
abbrev pub kept_of : Kept → List ValueTree → List ValueTree → List ValueTree
kept_of kept.Either = either
kept_of kept.First = without
kept_of kept.Both = both

-- whether a value is kept that stands in the first list alone, `Less`, in both, `Equal`, or in the second alone, `Greater`
abbrev pub is_kept : Kept → Ordering → Bool
is_kept kept.Either side = true
is_kept kept.First side = is_lt side
is_kept kept.Both side = is_eq side

-- the least value of two ascending lists, where it stands, and what comes after it in each
pub data IsNext : List ValueTree → List ValueTree → Ordering → ValueTree → List ValueTree → List ValueTree → Type 0 where
  last_first : (v : ValueTree) (vs : List ValueTree) → IsNext (v ∷ vs) [] Less v vs []
  last_second : (w : ValueTree) (ws : List ValueTree) → IsNext [] (w ∷ ws) Greater w [] ws
  in_first : (v w : ValueTree) (vs ws : List ValueTree) → order v w ≡ Less → IsNext (v ∷ vs) (w ∷ ws) Less v vs (w ∷ ws)
  in_both : (v w : ValueTree) (vs ws : List ValueTree) → order v w ≡ Equal → IsNext (v ∷ vs) (w ∷ ws) Equal v vs ws
  in_second : (v w : ValueTree) (vs ws : List ValueTree) → order v w ≡ Greater → IsNext (v ∷ vs) (w ∷ ws) Greater w (v ∷ vs) ws
