-- For bodies: what attacks print as, by their own fractions.
use Rattle.std.specs.Prelude.{ℕ, pos, ◌<◌, List, [], ◌++◌, All, codes, decimal, flat_map, length, slice_index_or}
use Rattle.kf_frac.specs.Fractions.{fraction_text}
use Rattle.kf_frac.specs.declared.frac.Frac.{Frac}
use Rattle.kf_value.specs.Targets.{Item, target_value_text}
use Rattle.kf_column.specs.Hypers.{Inner}
use Rattle.kf_gain.specs.declared.table.Action.{Action}
use Rattle.kf_attack.specs.declared.attack.Attack.{Attack}
use Rattle.kf_attack.specs.declared.attack.Best.{Best}
use Rattle.kf_attack.specs.declared.attack.Best.TheVariants as best
use Rattle.kf_attack.specs.declared.attack.Score.{Score}
use Rattle.kf_attack.specs.declared.attack.WeighedValue.{WeighedValue}
use Rattle.kf_text.specs.Texts.{line}
use Rattle.kf_text.specs.Views.{own_text}

-- two spaces, a value and its probability
abbrev pub own_value_line : List Item → WeighedValue → List ℕ
own_value_line target v = line (codes "  " ++ (target_value_text target v.value ++ (codes " " ++ own_text v.chance)))

-- the action at a place of a table
abbrev pub action_at : List Action → ℕ → Action
action_at actions i = slice_index_or actions i (record { name = []; gains = [] })

-- two spaces, an action's name and its expected gain
abbrev pub own_score_line : List Action → Score → List ℕ
own_score_line actions s = line (codes "  " ++ ((action_at actions s.action).name ++ (codes " " ++ own_text s.score)))

abbrev pub own_best_lines : List Item → List Action → Best → List ℕ
own_best_lines target actions (best.Values vs) = flat_map (own_value_line target) vs
own_best_lines target actions (best.Scores scores) = flat_map (own_score_line actions) scores

-- an inner's number, its outer and what the best is worth
abbrev pub own_worth_line : ℕ → ℕ → Inner → Frac → List ℕ
own_worth_line scale n i worth =
    line (codes "inner " ++ (decimal n ++ (codes " outer " ++ (fraction_text (pos i.total) scale ++ (codes " value " ++ own_text worth)))))

-- these, then the best
abbrev pub own_attack_lines : List Item → ℕ → List Action → (ℕ → Inner) → ℕ × Attack → List ℕ
own_attack_lines target scale actions inner numbered =
    own_worth_line scale numbered.0 (inner numbered.0) numbered.1.worth ++ own_best_lines target actions numbered.1.best

-- its values are values of a target with so many, or its places are places of the table
abbrev pub IsPrintable : ℕ → List Action → Best → Type 0
IsPrintable size actions (best.Values vs) = All (λ v. v.value < size) vs
IsPrintable size actions (best.Scores scores) = All (λ s. s.action < length actions) scores
