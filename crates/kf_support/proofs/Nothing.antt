-- Where no store is reached, none is reached behind.
use Rattle.std.proofs.Common.{◌≡◌, ℕ, zero, suc, List, [], Ok, refl, ◌∙◌}
use Rattle.kf_value.specs.Types.{TypeTree}
use Rattle.kf_core.specs.Sts.{StTree, StTrees, Skip, Assign, Observe, If, While, no_sts, more_sts}
use Rattle.kf_core.specs.Runs.{Tried, tried, place}
use Rattle.kf_core.specs.Results.{then_ok}
use Rattle.kf_core.specs.Support.{Passed}
use Rattle.kf_support.specs.Carried.{Reached, with_all, carry, carry_all, carry_loop, NothingLeadsNowhere}

module _ (guard : ℕ → Tried) (at : ℕ) (body : Reached → Passed Reached) (none : body [] ≡ Ok []) where
  loop_nothing : (k : ℕ) → carry_loop k guard at body [] [] ≡ Ok []
  loop_nothing zero = refl
  loop_nothing (suc k) = (λ i. then_ok (none i) (carry_loop k guard at body [])) ∙ loop_nothing k

module _ (ts : List TypeTree) (turns : ℕ) where
  mutual
    nothing : (x : StTree) → carry ts turns x [] ≡ Ok []
    nothing Skip = refl
    nothing (Assign i d visible) = refl
    nothing (Observe d) = refl
    nothing (If d xs ys) = let l = all_nothing xs in let r = all_nothing ys in λ i. then_ok (l i) (λ one. then_ok (r i) (λ other. Ok (with_all one other)))
    nothing (While d xs) = loop_nothing (tried ts d) (place d) (carry_all ts turns xs) (all_nothing xs) turns

    all_nothing : (xs : StTrees) → carry_all ts turns xs [] ≡ Ok []
    all_nothing no_sts = refl
    all_nothing (more_sts x xs) = (let l = nothing x in λ i. then_ok (l i) (carry_all ts turns xs)) ∙ all_nothing xs

pub nothing_leads : NothingLeadsNowhere
nothing_leads ts turns xs = all_nothing ts turns xs
