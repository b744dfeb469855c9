-- Believed: what the best attacker does at each inner, and with how many tries it gets as far as it wants (Alvim et al. 2020).
use Rattle.std.specs.Prelude.{◌≡◌, ℕ, ◌*◌, ◌-◌, ◌≤◌, ℤ, pos, ◌*ℤ◌, ◌≤ℤ◌, ◌<ℤ◌, List, map, take, IsPermutation}
use Rattle.std.specs.declared.cmp.Ordering.{Ordering}
use Rattle.std.specs.Ordering.{ordering_then, nat_cmp}
use Rattle.std.specs.List.Sorted.{IsStrictlySortedBy}
use Rattle.kf_column.specs.declared.entry.Entry.{Entry}
use Rattle.kf_column.specs.Columns.{total}
use Rattle.kf_column.specs.Hypers.{Inner}
use Rattle.kf_gain.specs.Gains.{GainOf, Bayes, Tries, Guessing, Table, TableTree, over_of}
use Rattle.kf_gain.specs.Worth.{IsVulnerability, gained}
use Rattle.kf_gain.specs.Vulnerabilities.{IsPosterior}

-- ---- the best actions

-- by weight, the greatest first; equal weights by their values
abbrev pub rank : Entry → Entry → Ordering
rank a b = ordering_then (nat_cmp b.weight a.weight) (nat_cmp a.value b.value)

-- a column's entries in this order
pub record AreRanked (column ranked : List Entry) : Type 0 where
  pub same : IsPermutation column ranked
  pub ordered : IsStrictlySortedBy rank ranked

-- an action's name, and what it gains
pub record NamedGain : Type 0 where
  pub name : List ℕ
  pub gain : ℤ

-- the values to guess, or what each action of a table gains
pub data BestTree : Type 0 where
  Values : List Entry → BestTree
  Scores : List NamedGain → BestTree

-- the likeliest value, the likeliest values, all values from the likeliest on, or each action in its order
abbrev pub IsBest : GainOf TableTree → List Entry → BestTree → Type 0
IsBest Bayes column (Values es) = (ranked : List Entry) × AreRanked column ranked × (es ≡ take 1 ranked)
IsBest (Tries k) column (Values es) = (ranked : List Entry) × AreRanked column ranked × (es ≡ take k ranked)
IsBest Guessing column (Values es) = AreRanked column es
IsBest (Table t) column (Scores scores) = scores ≡ map (λ a. record { name = a.name; gain = gained t.rest a.gains column }) t.actions
IsBest g column best = ⊥

-- what the best that can be done at an inner is worth, and what it is; all numbers are over `whole`
pub record AttackTree : Type 0 where
  pub worth : ℤ
  pub whole : ℕ
  pub best : BestTree

pub record IsAttack (g : GainOf TableTree) (i : Inner) (a : AttackTree) : Type 0 where
  pub worth : IsVulnerability g i.entries a.worth
  pub whole : a.whole ≡ total i.entries * over_of g
  pub best : IsBest g i.entries a.best

-- ---- how many tries

-- a number of tries, and the posterior vulnerabilities with these and with one fewer, over the scale
pub record ReachTree : Type 0 where
  pub tries : ℕ
  pub posterior : ℤ
  pub before : ℤ

-- the least number of tries with which the posterior is at least num / den
pub record IsReach (scale : ℕ) (inners : List Inner) (num den : ℕ) (r : ReachTree) : Type 0 where
  pub some : 1 ≤ r.tries
  pub posterior : IsPosterior (Tries r.tries) inners r.posterior
  pub before : IsPosterior (Tries (r.tries - 1)) inners r.before
  pub enough : pos (num * scale) ≤ℤ (r.posterior *ℤ pos den)
  pub short : (r.before *ℤ pos den) <ℤ pos (num * scale)
