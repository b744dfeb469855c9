-- The first of the ranked values: what they weigh and cost, and that they are the best that can be guessed.
use Rattle.std.proofs.Common.{◌≡◌, ℕ, ◌+◌, ◌*◌, ◌<◌, ◌≤◌, List, [], ◌∷◌, map, refl, sym, ◌∙◌, ap, subst, arith, suc, zero, length, take}
use Rattle.std.specs.Prelude.{pos}
use Rattle.std.specs.List.{AllZip}
use Rattle.std.proofs.lemmas.List.Sums.{sum_by-take-le}
use Rattle.std.proofs.lemmas.List.Sorted.{IsPermutation-map, sum_by-IsPermutation}
use Rattle.kf_frac.specs.declared.frac.Frac.{Frac}
use Rattle.kf_frac.specs.Parts.{IsFraction}
use Rattle.kf_column.specs.declared.entry.Entry.{Entry}
use Rattle.kf_column.specs.Columns.{IsColumn, total}
use Rattle.kf_gain.specs.Gains.{Bayes, Tries, Guessing}
use Rattle.kf_gain.specs.Worth.{IsVulnerability}
use Rattle.kf_gain.proofs.Falling.{costs}
use Rattle.kf_gain.proofs.Guessing.{costs_fit}
use Rattle.kf_gain.proofs.Trying.{bayes_is}
use Rattle.kf_attack.specs.declared.attack.Attack.{Attack}
use Rattle.kf_attack.specs.declared.attack.Best.TheVariants as best
use Rattle.kf_attack.specs.declared.attack.WeighedValue.{WeighedValue}
use Rattle.kf_attack.specs.Attacks.{AreRanked, BestTree, Values, Scores, IsBest}
use Rattle.kf_attack.specs.Inners.{IsShownBest, cost_of}
use Rattle.kf_attack.specs.Views.{ShowsValue}
use Rattle.kf_attack.proofs.Worths.{tries_come, guesses_cost}

costs_are : (n : ℕ) (es : List Entry) → cost_of n es ≡ costs n (map (λ (e : Entry). e.weight) es)
costs_are n [] = refl
costs_are n (e ∷ es) = ap (λ (m : ℕ). e.weight * n + m) (costs_are (n + 1) es)

some_values : (column : List Entry) → IsColumn column → 0 < length column
some_values [] is = absurd (is.some refl)
some_values (e ∷ es) is = omega arith

once_at_least : (t n room : ℕ) → 0 < n → t * n ≤ room → t ≤ room
once_at_least t (suc n) room some fits = omega (arith, fits)
once_at_least t zero room some fits = absurd (omega (arith, some))

pub total_fits : (column : List Entry) → IsColumn column → (room : ℕ) → total column * length column ≤ room → total column ≤ room
total_fits column is room fits = once_at_least (total column) (length column) room (some_values column is) fits

module _ (column ranked : List Entry) (are : AreRanked column ranked) where
  pub same_total : total ranked ≡ total column
  same_total = sum_by-IsPermutation (λ (e : Entry). e.weight) column ranked are.same

  pub front_within : (k : ℕ) → total (take k ranked) ≤ total column
  front_within k = omega (arith, same_total, sum_by-take-le (λ (e : Entry). e.weight) ranked k)

  pub cost_fits : cost_of 1 ranked ≤ total column * length column
  cost_fits =
      omega (
        arith,
        costs_are 1 ranked,
        costs_fit column (map (λ (e : Entry). e.weight) ranked) (IsPermutation-map (λ (e : Entry). e.weight) column ranked are.same),
      )

  module _ (is : IsColumn column) (whole : ℕ) (all : whole ≡ total column) (es : List Entry) (n : ℕ) (worth : Frac) (values : List WeighedValue)
      (fraction : IsFraction worth (pos n) whole) (shown : AllZip (ShowsValue whole) es values) where
    once : whole ≡ total column * 1
    once = omega (arith, all)

    over_one : IsFraction worth (pos n) (total column * 1)
    over_one = subst (λ (m : ℕ). IsFraction worth (pos n) m) once fraction

    shown_over_one : (fs : List Entry) → es ≡ fs → AllZip (ShowsValue (total column * 1)) fs values
    shown_over_one fs same =
        subst (λ (m : ℕ). AllZip (ShowsValue m) fs values) once (subst (λ (l : List Entry). AllZip (ShowsValue whole) l values) same shown)

    pub likeliest_shown : (k : ℕ) → es ≡ take k ranked → n ≡ total es → IsShownBest (Tries k) column (record { worth = worth; best = best.Values values })
    likeliest_shown k same sum = record {
      value = pos n;
      worth = subst (λ (m : ℕ). IsVulnerability (Tries k) column (pos m)) (sym (sum ∙ ap total same)) (tries_come column ranked is are k);
      fraction = over_one;
      actions = Values (take k ranked);
      best = (ranked, are, refl);
      shown = shown_over_one (take k ranked) same;
    }

    pub in_turn_shown : es ≡ ranked → n ≡ cost_of 1 es → IsShownBest Guessing column (record { worth = worth; best = best.Values values })
    in_turn_shown same cost = record {
      value = pos n;
      worth = subst (λ (m : ℕ). IsVulnerability Guessing column (pos m)) (sym (cost ∙ ap (cost_of 1) same ∙ costs_are 1 ranked))
          (guesses_cost column ranked is are);
      fraction = over_one;
      actions = Values ranked;
      best = are;
      shown = shown_over_one ranked same;
    }

best_once : (column : List Entry) (b : BestTree) → IsBest (Tries 1) column b → IsBest Bayes column b
best_once column (Values es) is = is
best_once column (Scores scores) is = absurd is

-- one guess is one try
pub once_shown : (column : List Entry) (a : Attack) → IsShownBest (Tries 1) column a → IsShownBest Bayes column a
once_shown column a s = record {
  value = s.value;
  worth = bayes_is column s.value s.worth;
  fraction = s.fraction;
  actions = s.actions;
  best = best_once column s.actions s.best;
  shown = s.shown;
}
