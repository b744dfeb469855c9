-- Believed: gain functions: what an adversary may do, and what each of its actions gains at each value (Alvim et al. 2020).
use Rattle.std.specs.Prelude.{ℕ, ◌==◌, ℤ, List, if◌then◌else◌}
use Rattle.kf_gain.specs.declared.table.Action.{Action}
use Rattle.kf_gain.specs.declared.table.GainEntry.{GainEntry}
use mathlib.Core.List.{foldr}

-- a gain; where it has a table, that is given by a T: by its file's name, or as it was read
pub data GainOf (T : Type 0) : Type 0 where
  -- one guess at the value
  Bayes : GainOf T
  -- so many guesses at once
  Tries : ℕ → GainOf T
  -- guesses in turn until one is right; their number is a loss
  Guessing : GainOf T
  Table : T → GainOf T

-- actions, each with its gains as whole numbers over `over`; `rest` is the gain at a value that an action doesn't name
pub record TableTree : Type 0 where
  pub over : ℕ
  pub rest : ℤ
  pub actions : List Action

-- the gain of an action at a value
abbrev pub gain_at : ℤ → List GainEntry → ℕ → ℤ
gain_at rest gains x = foldr (λ (e : GainEntry) other. if e.value == x then e.gain else other) rest gains

abbrev pub over_of : GainOf TableTree → ℕ
over_of (Table t) = t.over
over_of _ = 1
