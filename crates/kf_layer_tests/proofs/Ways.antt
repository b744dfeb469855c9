-- How many stores there are, and the statements of a checked program.
use Rattle.std.proofs.Common.{◌≡◌, ℕ, zero, suc, ◌+◌, ◌*◌, ◌<◌, List, [], ◌∷◌, length, map, drop, slice_get, slice_index, Some, subst, arith}
use Rattle.std.proofs.lemmas.List.{length-map}
use Rattle.kf_value.specs.Kinds.{KindTree}
use Rattle.kf_value.specs.Types.{product, count}
use Rattle.kf_value.specs.Shapes.{shape_types, shape_sizes}
use Rattle.kf_value.specs.declared.shape.Shape.{Shape}
use Rattle.kf_core.specs.Views.{st_tree}
use Rattle.kf_core.specs.declared.st.St.{St}
use Rattle.kf_core.specs.Checked.{IsSound, AreSound}
use Rattle.kf_core.proofs.SoundParts.{sound_first}

-- ---- how many stores there are

step_on : (xs : List ℕ) (i n : ℕ) → i < length xs → n * product (drop i xs) ≡ n * slice_index xs i * product (drop (suc i) xs)
step_on [] i n within = absurd (omega arith)
step_on (x ∷ xs) zero n within = omega arith
step_on (x ∷ xs) (suc i) n within = step_on xs i n (omega arith)

pub product_step : (shape : Shape) (i n size : ℕ) → i < length (shape_types shape) → size ≡ slice_index (shape_sizes shape) i
    → n * product (drop i (shape_sizes shape)) ≡ n * size * product (drop (i + 1) (shape_sizes shape))
product_step shape i n size within is =
    let long = length-map (shape_types shape) count in
    let next : suc i ≡ i + 1 = omega arith in
    rw (is, ← next) (step_on (shape_sizes shape) i n (omega arith))

-- ---- the statements of a sound list

module _ (ks : List KindTree) where
  -- the statement at a place
  pub sound_at : (us : List St) (i : ℕ) (u : St) → AreSound ks (map st_tree us) → slice_get us i ≡ Some u → IsSound ks (st_tree u)
  sound_at [] i u h here = (cc)
  sound_at (v ∷ vs) zero u h here = subst (λ w. IsSound ks (st_tree w)) (cc) (sound_first ks h).0
  sound_at (v ∷ vs) (suc i) u h here = sound_at vs i u (sound_first ks h).1 here
