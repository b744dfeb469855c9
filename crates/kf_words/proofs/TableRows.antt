-- Words that ask for nothing though their command is there.
use Rattle.std.proofs.Common.{◌≡◌, ℕ, ◌<◌, ◌-◌, ◌==◌, ◌&&◌, Bool, true, false, List, [], ◌∷◌, map, length, get_or, take, drop, Option, Some, None, Bor, if◌then◌else◌, refl, sym, ap, ◌∙◌, arith}
use Rattle.std.proofs.lemmas.Bool.{eq-eqb}
use Rattle.std.proofs.lemmas.List.{length-map, take_all}
use Rattle.std.specs.Prelude.{option_map, option_and_then}
use Rattle.kf_words.specs.Arguments.{Arguments}
use Rattle.kf_words.specs.Task.{CommandRow, Task, options_fit, row_task, task_of_values}
use Rattle.kf_words.specs.OfWords.{task_of_arguments, row_of, turns_of}

-- the values behind the first
abbrev pub behind : List (Bor (List ℕ)) → List (List ℕ)
behind vs = map (λ v. v.now) (take (length vs - 1) (drop 1 vs))

-- a slice is its first, and what is left of it behind that
rest_of : (vs : List (Bor (List ℕ))) (d : Bor (List ℕ)) → 0 < length vs → map (λ v. v.now) vs ≡ (get_or vs 0 d).now ∷ behind vs
rest_of [] d some = absurd (omega (arith, some))
rest_of (v ∷ vs) d some = ap (λ (ws : List (Bor (List ℕ))). v.now ∷ map (λ w. w.now) ws) (sym (take_all (length (v ∷ vs) - 1) vs (omega arith)))

nothing_then : {X Y : Type 0} (o : Option X) → option_and_then {T = X} {U = Y} (λ x. None) o ≡ None
nothing_then None = refl
nothing_then (Some x) = refl

either_none : {Y : Type 0} (b : Bool) (o : Option Y) → o ≡ None → (if b then o else None) ≡ None
either_none true o none = none
either_none false o none = refl

-- the row of a command asks for nothing with these values
row_none : (values : List (List ℕ)) (arguments : Arguments) (row : CommandRow) → row.task values arguments ≡ None → row_task values arguments row ≡ None
row_none values arguments row none =
    either_none (length values == row.values && options_fit row arguments) (option_and_then (λ turns. option_map (λ task. task turns) (row.task values arguments)) (turns_of arguments.turns))
    (ap (λ (o : Option (ℕ → Task)). option_and_then (λ turns. option_map (λ task. task turns) o) (turns_of arguments.turns)) none ∙ nothing_then (turns_of arguments.turns))

-- what is asked for by the row of the first value
module _ (arguments : Arguments) (vs : List (Bor (List ℕ))) (d : Bor (List ℕ)) (row : CommandRow) (is : arguments.values ≡ map (λ v. v.now) vs) (some : 0 < length vs) (found : row_of (get_or vs 0 d).now ≡ Some row) where
  pub by_row : task_of_arguments arguments ≡ row_task (behind vs) arguments row
  by_row = ap (λ (values : List (List ℕ)). task_of_values values arguments) (is ∙ rest_of vs d some) ∙ ap (option_and_then (row_task (behind vs) arguments)) found

  pub unasked : row.task (behind vs) arguments ≡ None → task_of_arguments arguments ≡ None
  unasked none = by_row ∙ row_none (behind vs) arguments row none

  pub asked : (turns : ℕ) (task : Task) → length (take (length vs - 1) (drop 1 vs)) ≡ row.values → options_fit row arguments ≡ true → turns_of arguments.turns ≡ Some turns
      → Some task ≡ option_map (λ ask. ask turns) (row.task (behind vs) arguments) → task_of_arguments arguments ≡ Some task
  asked turns task many fit often is =
      let alike : (length (behind vs) == row.values) ≡ true = eq-eqb (length (behind vs)) row.values (length-map (take (length vs - 1) (drop 1 vs)) (λ v. v.now) ∙ many) in
      by_row
      ∙ ap (λ b. if b then option_and_then (λ n. option_map (λ ask. ask n) (row.task (behind vs) arguments)) (turns_of arguments.turns) else None) (λ i. alike i && fit i)
      ∙ ap (option_and_then (λ n. option_map (λ ask. ask n) (row.task (behind vs) arguments))) often ∙ sym is
