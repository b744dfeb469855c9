-- Believed: printed attacks, and numbers of tries.
use Rattle.std.specs.Prelude.{ℕ, pos, List, ◌++◌, codes, decimal, flat_map}
use Rattle.std.specs.List.{enumerate_from, zip}
use Rattle.kf_frac.specs.Fractions.{fraction_text}
use Rattle.kf_value.specs.Targets.{Item}
use Rattle.kf_column.specs.Hypers.{Inner}
use Rattle.kf_gain.specs.Gains.{GainOf}
use Rattle.kf_attack.specs.Attacks.{AttackTree, BestTree, Values, Scores, ReachTree}
use Rattle.kf_text.specs.ReportTexts.{gain_text}
use Rattle.kf_text.specs.Texts.{line, entry_line}

-- the values to guess, or the actions of a table: after two spaces the name of each, and what it gains over `whole`
abbrev pub best_lines : List Item → ℕ → BestTree → List ℕ
best_lines target whole (Values es) = flat_map (entry_line target whole) es
best_lines target whole (Scores scores) = flat_map (λ s. line (codes "  " ++ (s.name ++ (codes " " ++ fraction_text s.gain whole)))) scores

-- an inner's number, its outer and what the best is worth, then the best
abbrev pub attack_lines : List Item → ℕ → ℕ → Inner → AttackTree → List ℕ
attack_lines target scale n i a =
    line (codes "inner " ++ (decimal n ++ (codes " outer " ++ (fraction_text (pos i.total) scale
    ++ (codes " value " ++ fraction_text a.worth a.whole)))))
    ++ best_lines target a.whole a.best

-- the gain, then each inner's attack, with its number from 0
abbrev pub attack_text : {T : Type 0} → GainOf T → List Item → ℕ → List Inner → List AttackTree → List ℕ
attack_text g target scale inners attacks =
    line (codes "gain " ++ gain_text g)
    ++ flat_map (λ x. attack_lines target scale x.0 x.1.0 x.1.1) (enumerate_from 0 (zip inners attacks))

-- the number of tries, and the posterior with these and with one fewer
abbrev pub reach_text : ℕ → ReachTree → List ℕ
reach_text scale r =
    line (codes "tries " ++ decimal r.tries)
    ++ (line (codes "posterior " ++ fraction_text r.posterior scale) ++ line (codes "before " ++ fraction_text r.before scale))
