-- What guesses in their order come to: the first weights under tries, and the cost in turn.
use Rattle.std.proofs.Common.{◌≡◌, ℕ, List, [], ◌∷◌, All, map, refl, sym, ◌∙◌, ap, subst, arith, suc, zero, take, get_or}
use Rattle.std.specs.Prelude.{pos, IsPermutation}
use Rattle.std.proofs.lemmas.List.Elements.{All-head, All-tail}
use Rattle.std.proofs.lemmas.List.Sorted.{IsPermutation-map, All-permutation}
use Rattle.kf_column.specs.declared.entry.Entry.{Entry}
use Rattle.kf_column.specs.Columns.{weight_at, total, values, IsColumn}
use Rattle.kf_column.proofs.Scaling.{total-cons}
use Rattle.kf_hyper.proofs.Searching.{weight_found}
use Rattle.kf_column.proofs.Weights.{above_column}
use Rattle.kf_gain.specs.Gains.{Bayes, Tries, Guessing}
use Rattle.kf_gain.specs.Worth.{IsVulnerability, cost_from}
use Rattle.kf_gain.proofs.Falling.{front, costs}
use Rattle.kf_gain.proofs.Guessing.{cost_is, guesses_are, weights_are}
use Rattle.kf_gain.proofs.Trying.{tries_are, bayes_is}
use Rattle.kf_attack.specs.Attacks.{AreRanked}
use Rattle.kf_attack.proofs.Order.{weights_fall}

-- the first k weights
pub front_total : (k : ℕ) (es : List Entry) → total (take k es) ≡ front k (map (λ (e : Entry). e.weight) es)
front_total zero es = refl
front_total (suc k) [] = refl
front_total (suc k) (e ∷ es) = omega (arith, total-cons e (take k es), front_total k es)

module _ (column ranked : List Entry) (is : IsColumn column) (are : AreRanked column ranked) where
  weights_moved : IsPermutation (map (λ (e : Entry). e.weight) column) (map (λ (e : Entry). e.weight) ranked)
  weights_moved = IsPermutation-map (λ (e : Entry). e.weight) column ranked are.same

  pub tries_come : (k : ℕ) → IsVulnerability (Tries k) column (pos (total (take k ranked)))
  tries_come k =
      let falls = weights_fall ranked are.ordered in
      subst (λ (n : ℕ). IsVulnerability (Tries k) column (pos n)) (sym (front_total k ranked))
      (tries_are k falls.0 column (map (λ (e : Entry). e.weight) ranked) (above_column column is) weights_moved falls.1)

  pub bayes_comes : IsVulnerability Bayes column (pos (total (take 1 ranked)))
  bayes_comes = bayes_is column (pos (total (take 1 ranked))) (tries_come 1)

  pub guesses_cost : IsVulnerability Guessing column (pos (costs 1 (map (λ (e : Entry). e.weight) ranked)))
  guesses_cost =
      let falls = weights_fall ranked are.ordered in
      let weights : List ℕ = map (λ (e : Entry). e.weight) ranked in
      let moved : IsPermutation (map (weight_at column) (values column)) weights =
      subst (λ (l : List ℕ). IsPermutation l weights) (sym (weights_are 0 column (above_column column is))) weights_moved in
      guesses_are column falls.0 weights moved falls.1

  own : All (λ (e : Entry). weight_at column e.value ≡ e.weight) ranked
  own =
      All-permutation (λ (e : Entry). weight_at column e.value ≡ e.weight) column ranked are.same
      (λ k d within. weight_found column (get_or column k d).value k d is within refl)

  owned : (es : List Entry) → All (λ (e : Entry). weight_at column e.value ≡ e.weight) es
      → map (weight_at column) (values es) ≡ map (λ (e : Entry). e.weight) es
  owned [] all = refl
  owned (e ∷ es) all =
      let here : weight_at column e.value ≡ e.weight = All-head (λ (e : Entry). weight_at column e.value ≡ e.weight) e es all in
      let rest = owned es (All-tail (λ (e : Entry). weight_at column e.value ≡ e.weight) e es all) in
      λ i. here i ∷ rest i

  pub cost_in_turn : cost_from column 1 (values ranked) ≡ costs 1 (map (λ (e : Entry). e.weight) ranked)
  cost_in_turn = cost_is column 1 (values ranked) ∙ ap (costs 1) (owned ranked own)
