-- The task of any words has as many programs as its command asks for.
use Rattle.std.proofs.Common.{◌≡◌, ℕ, ◌+◌, ◌-◌, Bool, true, false, ◌&&◌, List, [], ◌∷◌, take, length, ◌==◌, Option, None, Some, option_map, option_and_then, if◌then◌else◌, refl, subst, arith}
use Rattle.std.specs.List.{AllByRecursion as Every}
use Rattle.std.specs.Map.{lookup}
use Rattle.std.specs.Str.{bytes_eq}
use Rattle.std.proofs.lemmas.List.{length-take-le}
use Rattle.kf_gain.specs.Gains.{GainOf}
use Rattle.kf_words.specs.Arguments.{Arguments, arguments_of}
use Rattle.kf_words.specs.Numbers.{block_of, probability_of, threshold_of}
use Rattle.kf_words.specs.Task.{Command, Hyper, Traces, Channel, Trail, Capacity, Compose, Cascade, Parallel, Choice, Leak, Attack, Reach, Make, Refine, Check, Covers, Quiet, Blame, Lines, Presence, Optional, Required, Task, CommandRow, on_files, files_only, gain_or_bayes, with_gain, with_pair, commands, options_fit, row_task, task_of, task_of_values, observations_of}
use Rattle.kf_words.specs.OfWords.{first_of, others_of, last_of, task_of_arguments, make_row, refine_row, check_row, row_of, turns_of}

-- how many programs a command asks for
abbrev pub programs_asked : Command → ℕ
programs_asked (Compose way) = 2
programs_asked (Make count) = 0
programs_asked (Refine json) = 2
programs_asked (Check name) = 2
programs_asked Covers = 2
programs_asked command = 1

-- the task has so many
abbrev pub IsFitting : Task → Type 0
IsFitting task = length task.files ≡ programs_asked task.command

-- ---- what an option holds

given : {X Y : Type 0} (next : X → Option Y) (o : Option X) (y : Y) → option_and_then next o ≡ Some y → (x : X) × (o ≡ Some x) × (next x ≡ Some y)
given next None y is = absurd (cc)
given next (Some x) y is = (x, refl, is)

mapped : {X Y : Type 0} (f : X → Y) (o : Option X) (y : Y) → option_map f o ≡ Some y → (x : X) × (o ≡ Some x) × (f x ≡ y)
mapped f None y is = absurd (cc)
mapped f (Some x) y is = (x, refl, (cc))

tested : {Y : Type 0} (b : Bool) (o : Option Y) (y : Y) → (if b then o else None) ≡ Some y → (b ≡ true) × (o ≡ Some y)
tested true o y is = (refl, is)
tested false o y is = absurd (cc)

both_hold : (a b : Bool) → (a && b) ≡ true → (a ≡ true) × (b ≡ true)
both_hold true b is = (refl, is)
both_hold false b is = absurd (cc)

-- ---- each row

-- with as many values as the row has, whatever it asks for is fitting
abbrev Fits : CommandRow → Type 0
Fits row = (values : List (List ℕ)) (arguments : Arguments) (ask : ℕ → Task) (turns : ℕ) → length values ≡ row.values → row.task values arguments ≡ Some ask → IsFitting (ask turns)

asked_fits : (command : Command) (files : List (List ℕ)) (ask : ℕ → Task) (turns : ℕ) → on_files command files ≡ ask → length files ≡ programs_asked command → IsFitting (ask turns)
asked_fits command files ask turns same fits = subst (λ (f : ℕ → Task). IsFitting (f turns)) same fits

files_fit : (command : Command) (files : ℕ) → files ≡ programs_asked command → Fits (files_only command files)
files_fit command files many values arguments ask turns long is = asked_fits command values ask turns (cc) (cc)

gain_fits : (gain : Presence) (command : GainOf (List ℕ) → Command) (files : ℕ) → ((g : GainOf (List ℕ)) → files ≡ programs_asked (command g)) → Fits (with_gain gain command files)
gain_fits gain command files many values arguments ask turns long is =
    let g = mapped (λ g. on_files (command g) values) (gain_or_bayes arguments.gain) ask is in
    let asked = many g.0 in
    asked_fits (command g.0) values ask turns g.2 (cc)

make_fits : Fits make_row
make_fits values arguments ask turns long is =
    let n = mapped (λ n. on_files (Make n) []) (option_and_then observations_of (first_of values)) ask is in
    asked_fits (Make n.0) [] ask turns n.2 refl

refine_fits : Fits refine_row
refine_fits values arguments ask turns long is = asked_fits (Refine arguments.json) values ask turns (cc) long

others_two : (values : List (List ℕ)) → length values ≡ 3 → length (others_of values) ≡ 2
others_two [] long = absurd (omega (arith, long))
others_two (word ∷ words) long = omega (arith, long)

check_fits : Fits check_row
check_fits values arguments ask turns long is =
    let cert = mapped (λ cert. on_files (Check cert) (others_of values)) (first_of values) ask is in
    asked_fits (Check cert.0) (others_of values) ask turns cert.2 (others_two values long)

shorter : (values : List (List ℕ)) (n : ℕ) → length values ≡ n + 1 → length (take (n + 1 - 1) values) ≡ n
shorter values n long = let fewer = length-take-le (n + 1 - 1) values (omega (arith, long)) in omega (arith, fewer)

pair_fits : (pair : List ℕ → Option (ℕ × ℕ)) (command : ℕ → ℕ → Command) (files : ℕ) → ((x y : ℕ) → files ≡ programs_asked (command x y)) → Fits (with_pair pair command (files + 1))
pair_fits pair command files many values arguments ask turns long is =
    let p = mapped (λ (p : ℕ × ℕ). on_files (command p.0 p.1) (take (files + 1 - 1) values)) (option_and_then pair (last_of values)) ask is in
    let left = shorter values files long in
    let asked = many p.0.0 p.0.1 in
    asked_fits (command p.0.0 p.0.1) (take (files + 1 - 1) values) ask turns p.2 (cc)

-- ---- the table

all_fit : Every (λ (r : List ℕ × CommandRow). Fits r.1) commands
all_fit = (
  files_fit Hyper 1 refl,
  (
    files_fit Traces 1 refl,
    (
      files_fit Channel 1 refl,
      (
        gain_fits Required Leak 1 (λ g. refl),
        (
          files_fit Trail 1 refl,
          (
            make_fits,
            (
              refine_fits,
              (
                check_fits,
                (
                  files_fit Capacity 1 refl,
                  (
                    files_fit (Compose Cascade) 2 refl,
                    (
                      files_fit (Compose Parallel) 2 refl,
                      (
                        pair_fits probability_of (λ num den. Compose (Choice num den)) 2 (λ num den. refl),
                        (
                          gain_fits Required Attack 1 (λ g. refl),
                          (
                            pair_fits threshold_of Reach 1 (λ num den. refl),
                            (
                              files_fit Covers 2 refl,
                              (
                                pair_fits block_of Quiet 1 (λ from to. refl),
                                (
                                  files_fit Blame 1 refl,
                                  (gain_fits Optional Lines 1 (λ g. refl), tt),
                                ),
                              ),
                            ),
                          ),
                        ),
                      ),
                    ),
                  ),
                ),
              ),
            ),
          ),
        ),
      ),
    ),
  ),
)

first_or_later : (b : Bool) (r : List ℕ × CommandRow) (later : Option CommandRow) (row : CommandRow) → Fits r.1
    → (later ≡ Some row → Fits row) → (if b then Some r.1 else later) ≡ Some row → Fits row
first_or_later true r later row here there is = let same : r.1 ≡ row = cc in subst Fits same here
first_or_later false r later row here there is = there is

found_fits : (word : List ℕ) (rows : List (List ℕ × CommandRow)) → Every (λ (r : List ℕ × CommandRow). Fits r.1) rows → (row : CommandRow)
    → lookup (bytes_eq word) rows ≡ Some row → Fits row
found_fits word [] all row is = absurd (cc)
found_fits word (r ∷ rows) all row is =
    first_or_later (bytes_eq word r.0) r (lookup (bytes_eq word) rows) row all.0 (found_fits word rows all.1 row) is

-- ---- the words

row_fits : (values : List (List ℕ)) (arguments : Arguments) (row : CommandRow) (task : Task) → Fits row → row_task values arguments row ≡ Some task → IsFitting task
row_fits values arguments row task fits is =
    let fit = tested (length values == row.values && options_fit row arguments)
    (option_and_then (λ turns. option_map (λ ask. ask turns) (row.task values arguments)) (turns_of arguments.turns)) task is in
    let tests = both_hold (length values == row.values) (options_fit row arguments) fit.0 in
    let long : length values ≡ row.values = grind (arith, tests.0) in
    let turns = given (λ turns. option_map (λ ask. ask turns) (row.task values arguments)) (turns_of arguments.turns) task fit.1 in
    let ask = mapped (λ (ask : ℕ → Task). ask turns.0) (row.task values arguments) task turns.2 in
    subst IsFitting ask.2 (fits values arguments ask.0 turns.0 long ask.1)

values_fit : (values : List (List ℕ)) (arguments : Arguments) (task : Task) → task_of_values values arguments ≡ Some task → IsFitting task
values_fit [] arguments task is = absurd (cc)
values_fit (word ∷ values) arguments task is =
    let row = given (row_task values arguments) (row_of word) task is in
    row_fits values arguments row.0 task (found_fits word commands all_fit row.0 row.1) row.2

pub tasks_fit : (words : List (List ℕ)) (task : Task) → task_of words ≡ Some task → IsFitting task
tasks_fit words task is =
    let arguments = given task_of_arguments (arguments_of words) task is in
    values_fit arguments.0.values arguments.0 task arguments.2
