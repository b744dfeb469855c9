-- For bodies: laws of attacks.
use Rattle.std.specs.Prelude.{◌≡◌, ℕ, ◌/◌, ◌<◌, ◌≤◌, ℤ, pos, ◌+ℤ◌, ◌*ℤ◌, ◌≤ℤ◌, List, [], ◌∷◌, All, Contains}
use Rattle.kf_column.specs.declared.entry.Entry.{Entry}
use Rattle.kf_column.specs.Columns.{IsColumn, total, values}
use Rattle.kf_column.specs.Hypers.{Inner}
use Rattle.kf_column.specs.Shapes.{IsShape}
use Rattle.kf_gain.specs.Gains.{GainOf, Bayes, Tries, Guessing, Table, TableTree}
use Rattle.kf_gain.specs.Laws.{HasActions}
use Rattle.kf_gain.specs.Worth.{IsVulnerability, cost_from}
use Rattle.kf_gain.specs.Vulnerabilities.{IsPosterior}
use Rattle.kf_attack.specs.Attacks.{BestTree, Values, Scores, NamedGain, IsBest, AttackTree, ReachTree, IsReach}
use Rattle.kf_attack.specs.Views.{AreAttacks}

-- what is shown comes to z, and, of a table, nothing shown to more: with guesses their weights or their cost, with a table the score of one
-- action, and no score above it
abbrev pub ComesTo : GainOf TableTree → List Entry → BestTree → ℤ → Type 0
ComesTo Bayes column (Values es) z = z ≡ pos (total es)
ComesTo (Tries k) column (Values es) z = z ≡ pos (total es)
ComesTo Guessing column (Values es) z = z ≡ pos (cost_from column 1 (values es))
ComesTo (Table t) column (Scores scores) z =
    ((s : NamedGain) × Contains scores s × (s.gain ≡ z)) × All (λ s. s.gain ≤ℤ z) scores
ComesTo g column best z = ⊥

-- no action, no set of so many values and no order does better than what is shown
abbrev pub ShownIsBest : Type 0
ShownIsBest = (g : GainOf TableTree) (column : List Entry) (best : BestTree) (z : ℤ) → IsColumn column → IsBest g column best
    → IsVulnerability g column z → ComesTo g column best z

-- the sum of what the inners are worth, each as often as its total is its weights' sum
abbrev pub worth_of : List Inner → List AttackTree → ℤ
worth_of [] attacks = pos 0
worth_of (i ∷ inners) [] = pos 0
worth_of (i ∷ inners) (a ∷ attacks) = pos (i.total / total i.entries) *ℤ a.worth +ℤ worth_of inners attacks

-- outer times worth, over all inners, is the posterior vulnerability
abbrev pub WorthsSum : Type 0
WorthsSum = (g : GainOf TableTree) (inners : List Inner) (attacks : List AttackTree) (z : ℤ) → AreAttacks g inners attacks
    → IsPosterior g inners z → worth_of inners attacks ≡ z

-- inners have one attack each, and only one
abbrev pub SomeAttacks : Type 0
SomeAttacks = (size scale : ℕ) (g : GainOf TableTree) (inners : List Inner) → IsShape size scale inners → HasActions g
    → (attacks : List AttackTree) × AreAttacks g inners attacks

abbrev pub OneAttacks : Type 0
OneAttacks = (size scale : ℕ) (g : GainOf TableTree) (inners : List Inner) (a b : List AttackTree) → IsShape size scale inners
    → AreAttacks g inners a → AreAttacks g inners b → a ≡ b

-- what is wanted and no more than 1 is reached, with one least number of tries
abbrev pub SomeReach : Type 0
SomeReach = (size scale num den : ℕ) (inners : List Inner) → IsShape size scale inners → 0 < num → num ≤ den
    → (r : ReachTree) × IsReach scale inners num den r

abbrev pub OneReach : Type 0
OneReach = (scale num den : ℕ) (inners : List Inner) (r s : ReachTree) → 0 < den → IsReach scale inners num den r → IsReach scale inners num den s
    → r ≡ s

-- more tries are no worse
abbrev pub MoreTries : Type 0
MoreTries = (inners : List Inner) (j k : ℕ) (y z : ℤ) → j ≤ k → IsPosterior (Tries j) inners y → IsPosterior (Tries k) inners z → y ≤ℤ z
