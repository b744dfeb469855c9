-- The ways that choices make.
use Rattle.std.proofs.Common.{◌≡◌, ℕ, zero, suc, Some, ◌*◌, ◌≤◌, ◌<◌, List, [], ◌∷◌, ◌++◌, All, IsOk, Ok, Err, true≢false, refl, sym, ap, subst, ◌∙◌, append_assoc, append-nil, length, drop, arith}
use Rattle.std.specs.Prelude.{slice_get}
use Rattle.std.specs.List.{flat_map}
use Rattle.std.proofs.Math.Nat.{mul-le-mul_left}
use Rattle.std.proofs.lemmas.List.{drop_all}
use Rattle.std.proofs.lemmas.List.Elements.{All-from_recursion, All-push}
use Rattle.std.proofs.lemmas.List.Sums.{sum_by-cons}
use Rattle.kf_core.specs.Choices.{Chosen, ChoiceFault, Weighted, total}
use Rattle.kf_core.specs.Runs.{Tried}
use Rattle.kf_eval.specs.Choices.{IsChoiceFaultOf}
use Rattle.kf_eval.specs.declared.choice.ChoiceError.{ChoiceError}
use Rattle.kf_eval.specs.declared.choice.ChoiceError.TheVariants as error
use Rattle.kf_core.proofs.Filled.{Filled}
use Rattle.kf_core.proofs.Scales.{Weighty}
use Rattle.kf_core.specs.Each.{placed_at}

-- choices have some weight
pub total_some : (g : Tried) (ws : List Weighted) → g ≡ Ok ws → Filled g → Weighty g → 1 ≤ total ws
total_some g ws is filled weighs = at ws (subst (λ (x : Tried). Filled x) is filled) (subst (λ (x : Tried). Weighty x) is weighs)
  where
    at : (ws : List Weighted) → Filled (Ok ws) → Weighty (Ok ws) → 1 ≤ total ws
    at [] f h = absurd f
    at (w ∷ ws) f h = let first : 0 < w.weight = h.0 in omega (arith, first, sum_by-cons (λ (u : Weighted). u.weight) w ws)

-- and each has
pub all_weigh : (g : Tried) (ws : List Weighted) → g ≡ Ok ws → Weighty g → All (λ w. 0 < w.weight) ws
all_weigh g ws is weighs = All-from_recursion (λ (w : Weighted). 0 < w.weight) ws (subst (λ (x : Tried). Weighty x) is weighs)

-- a loop has made the first ways, and goes on with the next element
pub more_made : {X Y : Type 0} (f : X → List Y) (left rest : List X) (x : X) (front next whole : List Y) → left ≡ x ∷ rest → front ++ flat_map f left ≡ whole
    → next ≡ front ++ f x → next ++ flat_map f rest ≡ whole
more_made f left rest x front next whole is had made =
    ap (λ ys. ys ++ flat_map f rest) made ∙ append_assoc front (f x) (flat_map f rest) ∙ ap (λ xs. front ++ flat_map f xs) (sym is) ∙ had

pub all_pushed : {X : Type 0} (P : X → Type 0) (front next : List X) (x : X) → next ≡ front ++ x ∷ [] → All P front → P x → All P next
all_pushed P front next x is all here = subst (All P) (sym is) (All-push P front x all here)

-- a loop that gathers has gathered all
pub all_gathered : {X Y : Type 0} (f : X → List Y) (i : ℕ) (xs : List X) (front whole : List Y) → length xs ≤ i → front ++ flat_map f (drop i xs) ≡ whole → front ≡ whole
all_gathered f i xs front whole past had = sym (append-nil front) ∙ ap (λ ys. front ++ flat_map f ys) (sym (drop_all i xs past)) ∙ had

stopped_at : (at : ℕ) (defined : Chosen) (f : ChoiceFault) → defined ≡ Err f → IsOk (placed_at at defined) → ⊥
stopped_at at defined f is clear = true≢false (sym (subst (λ (x : Chosen). IsOk (placed_at at x)) is clear))

-- where there is no fault, the one error is want of memory
pub no_fault : (at : ℕ) (defined : Chosen) (e : ChoiceError) → IsChoiceFaultOf defined e → IsOk (placed_at at defined) → (e ≡ error.Mem → ⊥) → ⊥
no_fault at defined error.DivZero is clear other = stopped_at at defined _ is clear
no_fault at defined error.ArithWide is clear other = stopped_at at defined _ is clear
no_fault at defined error.NoWeight is clear other = stopped_at at defined _ is clear
no_fault at defined error.NegativeWeight is clear other = stopped_at at defined _ is clear
no_fault at defined error.RangeLong is clear other = stopped_at at defined _ is clear
no_fault at defined error.Mem is clear other = other refl

-- a choice weighs no more than all
at_most : (ws : List Weighted) (i : ℕ) (w : Weighted) → slice_get ws i ≡ Some w → w.weight ≤ total ws
at_most [] i w at = absurd (cc)
at_most (u ∷ ws) zero w at = let same : u ≡ w = (cc) in omega (arith, ap (λ (v : Weighted). v.weight) same, sum_by-cons (λ (v : Weighted). v.weight) u ws)
at_most (u ∷ ws) (suc i) w at = omega (arith, at_most ws i w at, sum_by-cons (λ (v : Weighted). v.weight) u ws)

pub product_fits : (share bound : ℕ) (ws : List Weighted) (i : ℕ) (w : Weighted) → slice_get ws i ≡ Some w → share * total ws < bound → share * w.weight < bound
product_fits share bound ws i w at fits = let most : share * w.weight ≤ share * total ws = mul-le-mul_left share (at_most ws i w at) in omega (arith, most, fits)
