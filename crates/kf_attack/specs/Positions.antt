-- For bodies: what each further try gains over all inners, and how many of them come to what is wanted.
use Rattle.std.specs.Prelude.{ℕ, ◌*◌, ◌-◌, ◌<◌, ◌≤◌, pos, List, take, sum}
use Rattle.kf_column.specs.Hypers.{Inner}
use Rattle.kf_gain.specs.Gains.{Tries}
use Rattle.kf_gain.specs.Vulnerabilities.{IsPosterior}
use Rattle.kf_attack.specs.Attacks.{ReachTree}

-- each number is what the try at its position adds: the first k come to the posterior with k tries
abbrev pub AreGains : List Inner → List ℕ → Type 0
AreGains inners gains = (k : ℕ) → IsPosterior (Tries k) inners (pos (sum (take k gains)))

-- with the gains of so many tries, and no fewer, at least num / den of the scale is reached
pub record IsLeast (scale num den : ℕ) (gains : List ℕ) (tries : ℕ) : Type 0 where
  pub some : 1 ≤ tries
  pub enough : num * scale ≤ sum (take tries gains) * den
  pub short : sum (take (tries - 1) gains) * den < num * scale

-- so many tries, with what these and one fewer gain
abbrev pub tree_of : List ℕ → ℕ → ReachTree
tree_of gains tries = record { tries = tries; posterior = pos (sum (take tries gains)); before = pos (sum (take (tries - 1) gains)) }
