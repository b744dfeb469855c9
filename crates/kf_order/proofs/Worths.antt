-- Columns one by one: what they are worth in all, and that a gain without actions is worth nothing.
use Rattle.std.proofs.Common.{◌≡◌, ◌⊎◌, inl, inr, List, [], ◌∷◌, length, get_or, map, Contains}
use Rattle.std.proofs.Common.{refl, sym, subst, ◌∙◌, arith}
use Rattle.std.proofs.Math.IntN.{ℤ, pos, ◌+ℤ◌}
use Rattle.kf_column.specs.declared.entry.Entry.{Entry}
use Rattle.kf_column.specs.Averages.{joint_column}
use Rattle.kf_column.specs.Hypers.{Inner}
use Rattle.kf_gain.specs.declared.table.Action.{Action}
use Rattle.kf_gain.specs.Gains.{GainOf, Bayes, Tries, Guessing, Table, TableTree}
use Rattle.kf_gain.specs.Laws.{HasActions}
use Rattle.kf_gain.specs.Vulnerabilities.{IsPosterior}
use Rattle.kf_gain.specs.Worth.{IsVulnerability}
use Rattle.kf_gain.proofs.Measures.{one}
use Rattle.kf_simplex.specs.Base.{total}
use Rattle.kf_order.specs.Channels.{IsWorth}
use Rattle.kf_refine.proofs.Totals.{total-front}

-- inners are worth what their columns are
pub inners_worth : (g : GainOf TableTree) (inners : List Inner) (z : ℤ) → IsPosterior g inners z → IsWorth g (map joint_column inners) z
inners_worth g [] z is = is
inners_worth g (i ∷ inners) z (first, others, v, p, is) = (first, others, v, inners_worth g inners others p, is)

-- ---- a table without actions

no_member : {a : Action} → Contains [] a → ⊥
no_member (k, within, is) = omega (arith, within)

module _ (t : TableTree) where
  nothing_worth : t.actions ≡ [] → (columns : List (List Entry)) (z : ℤ) → IsWorth (Table t) columns z → z ≡ pos 0
  nothing_worth none [] z is = is
  nothing_worth none (c ∷ columns) z (first, others, v, p, is) =
      let (a, there, same) = v.reached in
      absurd (no_member (subst (λ (l : List Action). Contains l a) none there))

  by_actions : (actions : List Action) → t.actions ≡ actions → HasActions (Table t) ⊎ ((columns : List (List Entry)) (z : ℤ) → IsWorth (Table t) columns z → z ≡ pos 0)
  by_actions [] is = inr (nothing_worth is)
  by_actions (a ∷ actions) is = inl (λ none. absurd (cc))

pub some_actions : (g : GainOf TableTree) → HasActions g ⊎ ((columns : List (List Entry)) (z : ℤ) → IsWorth g columns z → z ≡ pos 0)
some_actions Bayes = inl tt
some_actions (Tries k) = inl tt
some_actions Guessing = inl tt
some_actions (Table t) = by_actions t t.actions refl

-- ---- a sum over places

module _ (g : GainOf TableTree) (best : List Entry → ℤ) (are : (c : List Entry) → IsVulnerability g c (best c)) where
  pub worth_total : (columns : List (List Entry)) (z : ℤ) → IsWorth g columns z → z ≡ total (length columns) (λ i. best (get_or columns i []))
  worth_total [] z is = is
  worth_total (c ∷ columns) z (first, others, v, p, is) =
      is
      ∙ (λ t. one g c first (best c) v (are c) t +ℤ worth_total columns others p t)
      ∙ sym (total-front (length columns) (λ k. best (get_or (c ∷ columns) k [])))
