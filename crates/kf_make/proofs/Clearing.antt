-- The made program meets no fault, and its scale is known: each of its runs ends, on one scale.
use Rattle.std.proofs.Common.{◌≡◌, ℕ, zero, suc, ◌+◌, ◌*◌, ◌^◌, ◌<◌, ◌≤◌, pos, List, [], ◌∷◌, length, map, slice_get, slice_set, Option, Some, None, Ok, Err, refl, sym, ap, subst, ◌∙◌, arith}
use Rattle.std.specs.List.{AllByRecursion as Each}
use Rattle.std.proofs.Math.Nat.{pow-succ'}
use Rattle.kf_frac.proofs.CommonMultiples.{product_positive}
use Rattle.kf_value.specs.Stores.{stores}
use Rattle.kf_value.specs.Types.{TypeTree, values, count, product, combinations}
use Rattle.kf_value.specs.Values.{ValueTree, Whole}
use Rattle.kf_value.specs.Numbers.{IsStore}
use Rattle.kf_value.proofs.Ascending.{length-values}
use Rattle.kf_value.proofs.ListLemmas.{each_any, each_map}
use Rattle.kf_core.specs.Choices.{Weighted, Chosen, once}
use Rattle.kf_core.specs.Dxs.{DxTree, dx_at, UniformRange}
use Rattle.kf_core.specs.Exs.{Const}
use Rattle.kf_core.specs.Sts.{Observe, sts}
use Rattle.kf_core.specs.Runs.{Run, Tried, tried, store_at, branched, stay, replaced, assigned, runs, all_runs, declared, copied, program_runs}
use Rattle.kf_core.specs.SupportLaws.{CommonScaleIsLeast, ProgramAgrees}
use Rattle.kf_core.proofs.Filled.{moved_some}
use Rattle.kf_core.proofs.Measures.{Full}
use Rattle.kf_core.proofs.Stores.{length-store, replaced_some}
use Rattle.kf_core.specs.Each.{placed_at, moved}
use Rattle.kf_core.specs.Leaks.{silent, shown}
use Rattle.kf_make.specs.Laws.{MadeIsClear, MadeScale}
use Rattle.kf_make.specs.Made.{noisy_parity, made_body, made_program}
use Rattle.kf_make.proofs.Choosing.{HasFour, has_four, numbers, count_numbers, some_numbers, numbers_chosen, total_once}
use Rattle.kf_make.proofs.Ending.{AllEndOn, stay_ends, chain_ends, branched_ends, all_end, one_scale}

-- ---- lines

four_ends : (n : ℕ) (g : Tried) → HasFour g → AllEndOn 4 (branched shown n (λ v. stay n) g)
four_ends n (Ok ws) h = branched_ends 4 1 4 refl shown n (λ v. stay n) (λ v. tt) ws h.0 h.1 (each_any (λ w. AllEndOn 1 (stay n)) (λ w. stay_ends n) ws)
four_ends n (Err f) h = absurd h

module _ (ts : List TypeTree) (turns : ℕ) where
  line_ends : (at n : ℕ) → AllEndOn 4 (runs ts turns (Observe (noisy_parity at)) n)
  line_ends at n = four_ends n (tried ts (noisy_parity at) n) (has_four ts at n)

  body_ends : (k at n : ℕ) → AllEndOn (4 ^ k) (all_runs ts turns (sts (made_body at k)) n)
  body_ends zero at n = stay_ends n
  body_ends (suc k) at n =
      chain_ends 4 (4 ^ k) (4 ^ suc k) (sym (pow-succ' 4 k)) _ (body_ends k _)
      (runs ts turns (Observe (noisy_parity at)) n) (line_ends at n)

-- ---- the declaration

each_placed : {X : Type 0} (P : X → Type 0) (xs : List X) → ((k : ℕ) (x : X) → slice_get xs k ≡ Some x → P x) → Each P xs
each_placed P [] h = tt
each_placed P (x ∷ xs) h = (h 0 x refl, each_placed P xs (λ k. h (suc k)))

alone : (vs : List ValueTree) (k : ℕ) (v : ValueTree) → slice_get vs k ≡ Some v → slice_get (combinations (vs ∷ [])) k ≡ Some (v ∷ [])
alone [] k v h = (cc)
alone (u ∷ vs) zero v h = let same : u ≡ v = (cc) in ap (λ w. Some (w ∷ [])) same
alone (u ∷ vs) (suc k) v h = alone vs k v h

one_store : (t : TypeTree) (k : ℕ) (v : ValueTree) → slice_get (values t) k ≡ Some v → IsStore (t ∷ []) k (v ∷ [])
unfolding stores
one_store t k v h = alone (values t) k v h

set_alone : (s : List ValueTree) (v : ValueTree) → length s ≡ 1 → slice_set s 0 v ≡ v ∷ []
set_alone [] v h = absurd (omega arith)
set_alone (u ∷ []) v h = refl
set_alone (u ∷ w ∷ s) v h = absurd (omega arith)

ends_there : (at k : ℕ) (x : Option ℕ) → x ≡ Some k → AllEndOn 1 (moved at x)
ends_there at k (Some n) h = stay_ends n
ends_there at k None h = absurd (cc)

module _ (h at : ℕ) (low : h < 65536) where
  abbrev types : List TypeTree
  types = numbers h ∷ []

  abbrev uniform : DxTree
  uniform = dx_at at (UniformRange (Const (Whole (pos 0))) (Const (Whole (pos h))))

  some_store : 0 < product (map count types)
  some_store = omega (arith, count_numbers h)

  value_ends : (k : ℕ) (v : ValueTree) → slice_get (values (numbers h)) k ≡ Some v → AllEndOn 1 (moved at (replaced types 0 v 0))
  value_ends k v here =
      ends_there at k (replaced types 0 v 0)
      (replaced_some types 0 v 0 some_store k
      (λ s is. subst (IsStore types k) (sym (set_alone s v (length-store types 0 s is))) (one_store (numbers h) k v here)))

  full_once : (vs : List ValueTree) → 1 ≤ length vs → Full (map once vs)
  full_once [] some = absurd (omega arith)
  full_once (v ∷ vs) some = tt

  uniform_ends : AllEndOn (h + 1) (assigned silent types 0 uniform 0)
  uniform_ends =
      let vs = values (numbers h) in
      let next : ValueTree → List Run = λ v. moved at (replaced types 0 v 0) in
      subst (λ (c : Chosen). AllEndOn (h + 1) (branched silent 0 next (placed_at at c))) (sym (numbers_chosen h low (store_at types 0)))
      (branched_ends (h + 1) 1 (h + 1) (omega arith) silent 0 next (λ v. moved_some at (replaced types 0 v 0)) (map once vs)
      (total_once vs ∙ (length-values (numbers h) ∙ count_numbers h)) (full_once vs (some_numbers h))
      (each_map (λ (w : Weighted). AllEndOn 1 (next w.value)) once vs (each_placed (λ v. AllEndOn 1 (next v)) vs value_ends)))

  declared_ends : AllEndOn (h + 1) (declared types 0 (uniform ∷ []) 0)
  declared_ends = chain_ends (h + 1) 1 (h + 1) (omega arith) (declared types 1 []) stay_ends (assigned silent types 0 uniform 0) uniform_ends

-- ---- the program

made_ends : (turns count : ℕ) → AllEndOn (64 * 4 ^ count) (program_runs turns (made_program count))
made_ends turns count =
    let p = made_program count in
    chain_ends 64 (4 ^ count) (64 * 4 ^ count) refl
    (λ n. all_runs p.types turns (sts p.body) (copied p n)) (λ n. body_ends p.types turns count _ (copied p n))
    (declared p.types 0 p.decls 0) (declared_ends 63 _ (omega arith))

power_positive : (k : ℕ) → 0 < 4 ^ k
power_positive zero = omega arith
power_positive (suc k) = let power = pow-succ' 4 k in let rest = power_positive k in omega arith

pub made_is_clear : ProgramAgrees → MadeIsClear
made_is_clear agrees turns count =
    let p = made_program count in
    (agrees turns p).0.1 (all_end (64 * 4 ^ count) (program_runs turns p) (made_ends turns count))

pub made_scale : CommonScaleIsLeast → MadeScale
made_scale common turns count =
    let positive : 0 < 64 * 4 ^ count = product_positive 64 (4 ^ count) (omega arith) (power_positive count) in
    one_scale common (64 * 4 ^ count) (program_runs turns (made_program count)) positive (made_ends turns count)
