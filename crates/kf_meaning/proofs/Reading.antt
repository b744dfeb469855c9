-- The words of a task are read as that task.
use Rattle.std.proofs.Common.{◌≡◌, ◌≢◌, ℕ, ◌≤◌, ◌==◌, ◌&&◌, Bool, true, false, List, [], ◌∷◌, ◌++◌, length, codes, Option, None, Some, refl, ap, ◌∙◌, if◌then◌else◌}
use Rattle.std.specs.Prelude.{option_and_then, option_map}
use Rattle.std.specs.Fmt.{decimal}
use Rattle.clap.specs.Walk.{bundle_met, walked}
use Rattle.clap.specs.Faults.{defaults_fault, flags_fault, walk_fault}
use Rattle.kf_gain.specs.Gains.{GainOf, Bayes, Tries, Guessing, Table}
use Rattle.kf_words.specs.Arguments.{Arguments, arguments_of}
use Rattle.kf_words.specs.GainWords.{gain_named}
use Rattle.kf_words.specs.Task.{CommandRow, Task, options_fit, row_task, task_of}
use Rattle.kf_words.specs.OfWords.{task_of_arguments, row_of}
use Rattle.kf_meaning.specs.Tasks.{gain_word, IsGain}
use Rattle.kf_meaning.proofs.Numerals.{number_read}

-- ---- the arguments, whatever the texts

module _ (t a b : List ℕ) where
  pub two_values : arguments_of (codes "kuifje" ∷ (codes "--turns=" ++ t) ∷ codes "--" ∷ a ∷ b ∷ [])
      ≡ Some (record { values = a ∷ b ∷ []; gain = None; turns = Some t; json = false })
  unfolding arguments_of bundle_met walked flags_fault walk_fault defaults_fault
  two_values = refl

  pub under_gain : (g : List ℕ) → arguments_of (codes "kuifje" ∷ (codes "--turns=" ++ t) ∷ (codes "--gain=" ++ g) ∷ codes "--" ∷ a ∷ b ∷ [])
      ≡ Some (record { values = a ∷ b ∷ []; gain = Some g; turns = Some t; json = false })
  unfolding arguments_of bundle_met walked flags_fault walk_fault defaults_fault
  under_gain g = refl

  module _ (c : List ℕ) where
    pub three_values : arguments_of (codes "kuifje" ∷ (codes "--turns=" ++ t) ∷ codes "--" ∷ a ∷ b ∷ c ∷ [])
        ≡ Some (record { values = a ∷ b ∷ c ∷ []; gain = None; turns = Some t; json = false })
    unfolding arguments_of bundle_met walked flags_fault walk_fault defaults_fault
    three_values = refl

    pub with_json : arguments_of (codes "kuifje" ∷ (codes "--turns=" ++ t) ∷ codes "--json" ∷ codes "--" ∷ a ∷ b ∷ c ∷ [])
        ≡ Some (record { values = a ∷ b ∷ c ∷ []; gain = None; turns = Some t; json = true })
    unfolding arguments_of bundle_met walked flags_fault walk_fault defaults_fault
    with_json = refl

    pub four_values : (d : List ℕ) → arguments_of (codes "kuifje" ∷ (codes "--turns=" ++ t) ∷ codes "--" ∷ a ∷ b ∷ c ∷ d ∷ [])
        ≡ Some (record { values = a ∷ b ∷ c ∷ d ∷ []; gain = None; turns = Some t; json = false })
    unfolding arguments_of bundle_met walked flags_fault walk_fault defaults_fault
    four_values d = refl

-- ---- a gain

table_read : (name : List ℕ) → name ≢ [] → gain_named (codes "table:" ++ name) ≡ Some (Table name)
table_read [] some = absurd (some refl)
table_read (b ∷ name) some = refl

pub gain_read : (g : GainOf (List ℕ)) → IsGain g → gain_named (gain_word g) ≡ Some g
gain_read Bayes is = refl
gain_read Guessing is = refl
gain_read (Tries k) is = ap (option_map Tries) (number_read k is.0 is.1)
gain_read (Table name) is = table_read name is

-- ---- a task, by its row

pub asked : (words : List (List ℕ)) (word : List ℕ) (values : List (List ℕ)) (gain : Option (List ℕ)) (json : Bool) (turns : ℕ) (row : CommandRow)
    (ask : ℕ → Task)
    → arguments_of words ≡ Some (record { values = word ∷ values; gain = gain; turns = Some (decimal turns); json = json })
    → row_of word ≡ Some row
    → (length values == row.values && options_fit row (record { values = word ∷ values; gain = gain; turns = Some (decimal turns); json = json })) ≡ true
    → row.task values (record { values = word ∷ values; gain = gain; turns = Some (decimal turns); json = json }) ≡ Some ask
    → 1 ≤ turns → turns ≤ 65535 → task_of words ≡ Some (ask turns)
asked words word values gain json turns row ask parsed found fits is some few =
    let args : Arguments = record { values = word ∷ values; gain = gain; turns = Some (decimal turns); json = json } in
    let number = number_read turns some few in
    ap (option_and_then task_of_arguments) parsed
    ∙ ap (option_and_then (row_task values args)) found
    ∙ (λ i. if fits i then option_and_then (λ n. option_map (λ task. task n) (is i)) (number i) else None)
