-- What is chosen in a store has some weight; and a choice that is changed to one value for certain.
use Rattle.std.proofs.Common.{◌≡◌, ◌∙◌, ℕ, ◌≤◌, ◌<◌, List, [], ◌∷◌, All, Ok, Some, length, set, slice_get, ap, refl, subst, sym, arith}
use Rattle.std.proofs.lemmas.List.Elements.{All-from_recursion}
use Rattle.std.proofs.lemmas.List.Sums.{sum_by-cons}
use Rattle.kf_value.specs.Forms.{HasKind, IsWellFormed}
use Rattle.kf_value.specs.Kinds.{KindTree}
use Rattle.kf_value.specs.Shapes.{shape_size, shape_types}
use Rattle.kf_value.specs.Values.{ValueTree}
use Rattle.kf_value.specs.declared.shape.Shape.{Shape}
use Rattle.kf_core.specs.Checked.{DistKinded}
use Rattle.kf_core.specs.Choices.{Weighted, choices, once, total}
use Rattle.kf_core.specs.Dxs.{DxShape, dx_at}
use Rattle.kf_core.specs.Each.{placed_at}
use Rattle.kf_core.specs.Runs.{Tried, store_at}
use Rattle.kf_eval.specs.Choices.{weighted_trees}
use Rattle.kf_eval.specs.Kinds.{shape_kinds}
use Rattle.kf_eval.specs.Memos.{IsChosen}
use Rattle.kf_eval.specs.declared.choice.Choice.{Choice}
use Rattle.kf_core.proofs.Filled.{Filled}
use Rattle.kf_core.proofs.Scales.{Weighty}

-- choices have some weight
pub total_some : (g : Tried) (ws : List Weighted) → g ≡ Ok ws → Filled g → Weighty g → 1 ≤ total ws
total_some g ws is filled weighs = at ws (subst (λ (x : Tried). Filled x) is filled) (subst (λ (x : Tried). Weighty x) is weighs)
  where
    at : (ws : List Weighted) → Filled (Ok ws) → Weighty (Ok ws) → 1 ≤ total ws
    at [] f h = absurd f
    at (w ∷ ws) f h = let first : 0 < w.weight = h.0 in omega (arith, first, sum_by-cons (λ (u : Weighted). u.weight) w ws)

-- and each has
pub all_weigh : (g : Tried) (ws : List Weighted) → g ≡ Ok ws → Weighty g → All (λ w. 0 < w.weight) ws
all_weigh g ws is weighs = All-from_recursion (λ (w : Weighted). 0 < w.weight) ws (subst (λ (x : Tried). Weighty x) is weighs)

-- a choice of this value alone is what the distribution chooses, where it chooses this value for certain
module _ (shape : Shape) (at : ℕ) (d : DxShape) (store : ℕ) (c : Choice) (v : ValueTree) (items : weighted_trees c ≡ once v ∷ []) where
  all_kept : (P : Weighted → Type 0) → P (once v) → All P (weighted_trees c)
  all_kept P h = subst (All P) (sym items) (All-from_recursion P (once v ∷ []) (h, tt))

  pub surely_chosen : store < shape_size shape → choices (store_at (shape_types shape) store) d ≡ Ok (once v ∷ []) → c.total ≡ 1
      → ((k : KindTree) → DistKinded (shape_kinds shape) (dx_at at d) k → HasKind v k × IsWellFormed v) → (k : KindTree) × DistKinded (shape_kinds shape) (dx_at at d) k
      → IsChosen shape (dx_at at d) (store, c)
  surely_chosen below known all kinds kinded = record {
    below = below;
    chosen = ap (placed_at at) known ∙ ap (λ ws. Ok ws) (sym items);
    total_is = let whole = ap total items in omega (arith, all, whole, sum_by-cons (λ (u : Weighted). u.weight) (once v) []);
    some = omega (arith, all);
    weigh = all_kept (λ w. 0 < w.weight) (omega arith);
    formed = all_kept (λ w. IsWellFormed w.value) (kinds kinded.0 kinded.1).1;
    kinded = λ k is. all_kept (λ w. HasKind w.value k) (kinds k is).0;
  }

pub first_set : (cs : List Choice) (c : Choice) → 0 < length cs → slice_get (set cs 0 c) 0 ≡ Some c
first_set [] c some = absurd (omega (arith, some))
first_set (d ∷ cs) c some = refl
