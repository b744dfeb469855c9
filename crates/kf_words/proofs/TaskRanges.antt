-- The task of any words has its numbers in range.
use Rattle.std.proofs.Common.{◌≡◌, ℕ, ◌≤◌, ◌<◌, ◌+◌, Bool, true, false, ◌&&◌, nat_le, leb-true, List, [], ◌∷◌, codes, length, take, ◌-◌, ◌==◌, Option, None, Some, option_map, option_and_then, if◌then◌else◌, refl, sym, subst, arith}
use Rattle.std.specs.List.{AllByRecursion as Every}
use Rattle.std.specs.Map.{lookup}
use Rattle.std.specs.Str.{bytes_eq}
use Rattle.kf_gain.specs.Gains.{GainOf}
use Rattle.kf_words.specs.Arguments.{Arguments, arguments_of}
use Rattle.kf_words.specs.Jobs.{HasTurns, IsInRange}
use Rattle.kf_words.specs.Laws.{TasksInRange}
use Rattle.kf_words.specs.Numbers.{block_of, number_of, numeral_of, pair_of, probability_of, ratio_of, threshold_of}
use Rattle.kf_words.specs.Task.{Command, Hyper, Traces, Channel, Trail, Capacity, Compose, Cascade, Parallel, Choice, Leak, Attack, Reach, Make, Refine, Check, Covers, Quiet, Blame, Lines, Presence, Optional, Required, Task, CommandRow, on_files, files_only, gain_or_bayes, with_gain, with_pair, commands, options_fit, row_task, task_of_values, observations_of}
use Rattle.kf_words.proofs.Numerals.{both}
use Rattle.kf_words.specs.OfWords.{first_of, others_of, last_of, default_turns, task_of_arguments, make_row, refine_row, check_row, row_of, turns_of, in_range}

-- ---- what an option holds

pub given : {X Y : Type 0} (next : X → Option Y) (o : Option X) (y : Y) → option_and_then next o ≡ Some y → (x : X) × (o ≡ Some x) × (next x ≡ Some y)
given next None y is = absurd (cc)
given next (Some x) y is = (x, refl, is)

pub mapped : {X Y : Type 0} (f : X → Y) (o : Option X) (y : Y) → option_map f o ≡ Some y → (x : X) × (o ≡ Some x) × (f x ≡ y)
mapped f None y is = absurd (cc)
mapped f (Some x) y is = (x, refl, (cc))

pub tested : {Y : Type 0} (b : Bool) (o : Option Y) (y : Y) → (if b then o else None) ≡ Some y → (b ≡ true) × (o ≡ Some y)
tested true o y is = (refl, is)
tested false o y is = absurd (cc)

-- ---- numbers

-- a number that passed its test
pub passed : {X : Type 0} (b : Bool) (x y : X) (P : X → Type 0) → (if b then Some x else None) ≡ Some y → (b ≡ true → P x) → P y
passed b x y P is has =
    let t = tested b (Some x) y is in
    let same : x ≡ y = cc in
    subst P same (has t.0)

observations_in : (word : List ℕ) (n : ℕ) → observations_of word ≡ Some n → n ≤ 60
observations_in word n is =
    let number = given (λ m. if nat_le m 60 then Some m else None) (number_of word) n is in
    passed (nat_le number.0 60) number.0 n (λ m. m ≤ 60) number.2 (leb-true number.0 60)

probability_in : (word : List ℕ) (p : ℕ × ℕ) → probability_of word ≡ Some p → (1 ≤ p.0) × (p.0 < p.1)
probability_in word p is =
    let ratio = given (λ (r : ℕ × ℕ). if nat_le 1 r.0 && nat_le (r.0 + 1) r.1 then Some r else None) (ratio_of word) p is in
    passed (nat_le 1 ratio.0.0 && nat_le (ratio.0.0 + 1) ratio.0.1) ratio.0 p (λ r. (1 ≤ r.0) × (r.0 < r.1)) ratio.2
    (λ holds. let tests = both (nat_le 1 ratio.0.0) (nat_le (ratio.0.0 + 1) ratio.0.1) holds in
    let below = leb-true (ratio.0.0 + 1) ratio.0.1 tests.1 in
    (leb-true 1 ratio.0.0 tests.0, omega (arith, below)))

threshold_in : (word : List ℕ) (p : ℕ × ℕ) → threshold_of word ≡ Some p → (1 ≤ p.0) × (p.0 ≤ p.1)
threshold_in word p is =
    let ratio = given (λ (r : ℕ × ℕ). if nat_le 1 r.0 && nat_le r.0 r.1 then Some r else None) (ratio_of word) p is in
    passed (nat_le 1 ratio.0.0 && nat_le ratio.0.0 ratio.0.1) ratio.0 p (λ r. (1 ≤ r.0) × (r.0 ≤ r.1)) ratio.2
    (λ holds. let tests = both (nat_le 1 ratio.0.0) (nat_le ratio.0.0 ratio.0.1) holds in
    (leb-true 1 ratio.0.0 tests.0, leb-true ratio.0.0 ratio.0.1 tests.1))

block_in : (word : List ℕ) (p : ℕ × ℕ) → block_of word ≡ Some p → p.0 < p.1
block_in word p is =
    let pair = given (λ (r : ℕ × ℕ). if nat_le (r.0 + 1) r.1 then Some r else None) (pair_of 5 (codes "..") word) p is in
    passed (nat_le (pair.0.0 + 1) pair.0.1) pair.0 p (λ r. r.0 < r.1) pair.2
    (λ holds. let below = leb-true (pair.0.0 + 1) pair.0.1 holds in omega (arith, below))

number_in : (word : List ℕ) (n : ℕ) → number_of word ≡ Some n → (1 ≤ n) × (n ≤ 65535)
number_in word n is =
    let value = given in_range (numeral_of 5 word) n is in
    passed (nat_le 1 value.0 && nat_le value.0 65535) value.0 n (λ m. (1 ≤ m) × (m ≤ 65535)) value.2
    (λ holds. let tests = both (nat_le 1 value.0) (nat_le value.0 65535) holds in
    (leb-true 1 value.0 tests.0, leb-true value.0 65535 tests.1))

turns_in : (word : Option (List ℕ)) (turns : ℕ) → turns_of word ≡ Some turns → (1 ≤ turns) × (turns ≤ 65535)
turns_in None turns is =
    let same : default_turns ≡ turns = cc in
    subst (λ (n : ℕ). (1 ≤ n) × (n ≤ 65535)) same (omega arith, omega arith)
turns_in (Some word) turns is = number_in word turns is

-- ---- each row

-- a task in range, with these turns
abbrev Has : ℕ → Task → Type 0
Has turns task = IsInRange task.command × (task.turns ≡ turns)

-- whatever the row asks for is so
abbrev Keeps : CommandRow → Type 0
Keeps row = (values : List (List ℕ)) (arguments : Arguments) (ask : ℕ → Task) (turns : ℕ) → row.task values arguments ≡ Some ask → Has turns (ask turns)

asked_keeps : (command : Command) (files : List (List ℕ)) (ask : ℕ → Task) (turns : ℕ) → on_files command files ≡ ask → IsInRange command → Has turns (ask turns)
asked_keeps command files ask turns same has = subst (λ (f : ℕ → Task). Has turns (f turns)) same (has, refl)

files_keep : (command : Command) (files : ℕ) → IsInRange command → Keeps (files_only command files)
files_keep command files has values arguments ask turns is = asked_keeps command values ask turns (cc) has

gain_keeps : (gain : Presence) (command : GainOf (List ℕ) → Command) (files : ℕ) → ((g : GainOf (List ℕ)) → IsInRange (command g)) → Keeps (with_gain gain command files)
gain_keeps gain command files has values arguments ask turns is =
    let g = mapped (λ g. on_files (command g) values) (gain_or_bayes arguments.gain) ask is in
    asked_keeps (command g.0) values ask turns g.2 (has g.0)

make_keeps : Keeps make_row
make_keeps values arguments ask turns is =
    let n = mapped (λ n. on_files (Make n) []) (option_and_then observations_of (first_of values)) ask is in
    let word = given observations_of (first_of values) n.0 n.1 in
    asked_keeps (Make n.0) [] ask turns n.2 (observations_in word.0 n.0 word.2)

refine_keeps : Keeps refine_row
refine_keeps values arguments ask turns is = asked_keeps (Refine arguments.json) values ask turns (cc) tt

check_keeps : Keeps check_row
check_keeps values arguments ask turns is =
    let cert = mapped (λ cert. on_files (Check cert) (others_of values)) (first_of values) ask is in
    asked_keeps (Check cert.0) (others_of values) ask turns cert.2 tt

pair_keeps : (pair : List ℕ → Option (ℕ × ℕ)) (command : ℕ → ℕ → Command) (values : ℕ)
    → ((word : List ℕ) (p : ℕ × ℕ) → pair word ≡ Some p → IsInRange (command p.0 p.1)) → Keeps (with_pair pair command values)
pair_keeps pair command count has values arguments ask turns is =
    let p = mapped (λ (p : ℕ × ℕ). on_files (command p.0 p.1) (take (count - 1) values)) (option_and_then pair (last_of values)) ask is in
    let word = given pair (last_of values) p.0 p.1 in
    asked_keeps (command p.0.0 p.0.1) (take (count - 1) values) ask turns p.2 (has word.0 p.0 word.2)

-- ---- the table

all_keep : Every (λ (r : List ℕ × CommandRow). Keeps r.1) commands
all_keep = (
  files_keep Hyper 1 tt,
  (
    files_keep Traces 1 tt,
    (
      files_keep Channel 1 tt,
      (
        gain_keeps Required Leak 1 (λ g. tt),
        (
          files_keep Trail 1 tt,
          (
            make_keeps,
            (
              refine_keeps,
              (
                check_keeps,
                (
                  files_keep Capacity 1 tt,
                  (
                    files_keep (Compose Cascade) 2 tt,
                    (
                      files_keep (Compose Parallel) 2 tt,
                      (
                        pair_keeps probability_of (λ num den. Compose (Choice num den)) 3 probability_in,
                        (
                          gain_keeps Required Attack 1 (λ g. tt),
                          (
                            pair_keeps threshold_of Reach 2 threshold_in,
                            (
                              files_keep Covers 2 tt,
                              (
                                pair_keeps block_of Quiet 2 block_in,
                                (
                                  files_keep Blame 1 tt,
                                  (gain_keeps Optional Lines 1 (λ g. tt), tt),
                                ),
                              ),
                            ),
                          ),
                        ),
                      ),
                    ),
                  ),
                ),
              ),
            ),
          ),
        ),
      ),
    ),
  ),
)

first_or_later : (b : Bool) (r : List ℕ × CommandRow) (later : Option CommandRow) (row : CommandRow) → Keeps r.1
    → (later ≡ Some row → Keeps row) → (if b then Some r.1 else later) ≡ Some row → Keeps row
first_or_later true r later row here there is = let same : r.1 ≡ row = cc in subst Keeps same here
first_or_later false r later row here there is = there is

found_keeps : (word : List ℕ) (rows : List (List ℕ × CommandRow)) → Every (λ (r : List ℕ × CommandRow). Keeps r.1) rows → (row : CommandRow)
    → lookup (bytes_eq word) rows ≡ Some row → Keeps row
found_keeps word [] all row is = absurd (cc)
found_keeps word (r ∷ rows) all row is =
    first_or_later (bytes_eq word r.0) r (lookup (bytes_eq word) rows) row all.0 (found_keeps word rows all.1 row) is

-- ---- the words

row_keeps : (values : List (List ℕ)) (arguments : Arguments) (row : CommandRow) (task : Task) → Keeps row → row_task values arguments row ≡ Some task
    → IsInRange task.command × HasTurns task
row_keeps values arguments row task keeps is =
    let fit = tested (length values == row.values && options_fit row arguments)
    (option_and_then (λ turns. option_map (λ ask. ask turns) (row.task values arguments)) (turns_of arguments.turns)) task is in
    let turns = given (λ turns. option_map (λ ask. ask turns) (row.task values arguments)) (turns_of arguments.turns) task fit.1 in
    let ask = mapped (λ (ask : ℕ → Task). ask turns.0) (row.task values arguments) task turns.2 in
    let has = subst (Has turns.0) ask.2 (keeps values arguments ask.0 turns.0 ask.1) in
    (has.0, subst (λ (n : ℕ). (1 ≤ n) × (n ≤ 65535)) (sym has.1) (turns_in arguments.turns turns.0 turns.1))

values_keep : (values : List (List ℕ)) (arguments : Arguments) (task : Task) → task_of_values values arguments ≡ Some task
    → IsInRange task.command × HasTurns task
values_keep [] arguments task is = absurd (cc)
values_keep (word ∷ values) arguments task is =
    let row = given (row_task values arguments) (row_of word) task is in
    row_keeps values arguments row.0 task (found_keeps word commands all_keep row.0 row.1) row.2

pub tasks_in_range : TasksInRange
tasks_in_range words task is =
    let arguments = given task_of_arguments (arguments_of words) task is in
    values_keep arguments.0.values arguments.0 task arguments.2
