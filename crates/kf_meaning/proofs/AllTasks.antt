-- Whatever task words ask for is one that can be asked for by words of its own.
use Rattle.std.proofs.Common.{◌≡◌, ℕ, suc, ◌+◌, ◌-◌, ◌<◌, ◌≤◌, ◌^◌, ◌==◌, ◌&&◌, nat_le, leb-true, Bool, true, false, List, [], ◌∷◌, length, drop, take, nat_eq, codes, Option, None, Some, refl, subst, arith, if◌then◌else◌, option_map, option_and_then}
use Rattle.std.specs.Char.{is_ascii_digit, digit_value}
use Rattle.std.specs.List.{list_all, starts_with, AllByRecursion as Every}
use Rattle.std.specs.Map.{lookup}
use Rattle.std.specs.Str.{bytes_eq}
use Rattle.std.specs.Str.Parse.{AllDigits, digits_value}
use Rattle.std.proofs.lemmas.Bool.Decides.{Decides-eqb}
use Rattle.std.proofs.lemmas.List.{length-take-le}
use Rattle.std.proofs.lemmas.Str.{digit_value_digit}
use Rattle.std.proofs.lemmas.Str.Parse.{IsNumeralModel, numerals_by_value, tells_digits, digits_value_short}
use Rattle.kf_gain.specs.Gains.{GainOf, Bayes, Tries, Guessing, Table}
use Rattle.kf_words.specs.Arguments.{Arguments, arguments_of}
use Rattle.kf_words.specs.GainWords.{gain_named}
use Rattle.kf_words.specs.Jobs.{HasTurns}
use Rattle.kf_words.specs.Laws.{TasksInRange}
use Rattle.kf_words.specs.Numbers.{around, block_of, is_numeral, number_of, numeral_of, pair_of, probability_of, ratio_of, threshold_of}
use Rattle.kf_words.specs.Task.{Command, Cascade, Parallel, Choice, Hyper, Traces, Channel, Trail, Capacity, Compose, Leak, Attack, Reach, Make, Refine, Check, Covers, Quiet, Blame, Lines, Presence, Optional, Required, Task, CommandRow, commands, files_only, gain_or_bayes, observations_of, on_files, options_fit, row_task, task_of_values, with_gain, with_pair}
use Rattle.kf_words.specs.OfWords.{first_of, others_of, last_of, task_of_arguments, tries_of, table_of, check_row, make_row, refine_row, row_of, turns_of, in_range}
use Rattle.kf_words.proofs.Numerals.{both}
use Rattle.kf_words.proofs.TaskRanges.{given, mapped, passed, tested}
use Rattle.kf_meaning.specs.Tasks.{EachTaskCanBeAsked, IsFor, IsGain}

-- ---- numbers

below_ten : (c : ℕ) → is_ascii_digit c ≡ true → digit_value c < 10
below_ten c h =
    let p = both (nat_le 48 c) (nat_le c 57) h in
    let r : (48 ≤ c) × (c ≤ 57) = (leb-true 48 c p.0, leb-true c 57 p.1) in
    let v = digit_value_digit c r in
    omega (arith, v, leb-true c 57 p.1)

all_digits : (cs : List ℕ) → list_all is_ascii_digit cs ≡ true → AllDigits 10 cs
all_digits [] h = tt
all_digits (c ∷ cs) h = let p = both (is_ascii_digit c) (list_all is_ascii_digit cs) h in (below_ten c p.0, all_digits cs p.1)

numeral_below : (most : ℕ) (word : List ℕ) (n : ℕ) → numeral_of most word ≡ Some n → n < 10 ^ most
numeral_below most word n is =
    passed (is_numeral most word) (digits_value 10 word) n (λ m. m < 10 ^ most) is
    (λ holds.
    let p = both (nat_le 1 (length word)) (nat_le (length word) most && list_all is_ascii_digit word) holds in
    let q = both (nat_le (length word) most) (list_all is_ascii_digit word) p.1 in
    let own : IsNumeralModel (AllDigits 10) (digits_value 10) = numerals_by_value (AllDigits 10) tells_digits in
    digits_value_short own word most (all_digits word q.1) (leb-true (length word) most q.0))

number_in : (word : List ℕ) (n : ℕ) → number_of word ≡ Some n → (1 ≤ n) × (n ≤ 65535)
number_in word n is =
    let value = given in_range (numeral_of 5 word) n is in
    passed (nat_le 1 value.0 && nat_le value.0 65535) value.0 n (λ m. (1 ≤ m) × (m ≤ 65535)) value.2
    (λ holds. let tests = both (nat_le 1 value.0) (nat_le value.0 65535) holds in
    (leb-true 1 value.0 tests.0, leb-true value.0 65535 tests.1))

observations_in : (word : List ℕ) (n : ℕ) → observations_of word ≡ Some n → (1 ≤ n) × (n ≤ 60)
observations_in word n is =
    let number = given (λ m. if nat_le m 60 then Some m else None) (number_of word) n is in
    passed (nat_le number.0 60) number.0 n (λ m. (1 ≤ m) × (m ≤ 60)) number.2
    (λ holds. ((number_in word number.0 number.1).0, leb-true number.0 60 holds))

second_below : (k n d : ℕ) (p : ℕ × ℕ) → (n, d) ≡ p → d < k → p.1 < k
second_below k n d p same below = subst (λ (q : ℕ × ℕ). q.1 < k) same below

pair_below : (most : ℕ) (mark word : List ℕ) (p : ℕ × ℕ) → pair_of most mark word ≡ Some p → p.1 < 10 ^ most
pair_below most mark word p is =
    let parts = given (λ (q : List ℕ × List ℕ). option_and_then (λ n. option_map (λ d. (n, d)) (numeral_of most q.1)) (numeral_of most q.0)) (around mark word) p is in
    let first = given (λ n. option_map (λ d. (n, d)) (numeral_of most parts.0.1)) (numeral_of most parts.0.0) p parts.2 in
    let second = mapped (λ (d : ℕ). (first.0, d)) (numeral_of most parts.0.1) p first.2 in
    second_below (10 ^ most) first.0 second.0 p second.2 (numeral_below most parts.0.1 second.0 second.1)

probability_in : (word : List ℕ) (p : ℕ × ℕ) → probability_of word ≡ Some p → (1 ≤ p.0) × (p.0 < p.1) × (p.1 < 10 ^ 9)
probability_in word p is =
    let ratio = given (λ (r : ℕ × ℕ). if nat_le 1 r.0 && nat_le (r.0 + 1) r.1 then Some r else None) (ratio_of word) p is in
    let below = pair_below 9 (codes "/") word ratio.0 ratio.1 in
    passed (nat_le 1 ratio.0.0 && nat_le (ratio.0.0 + 1) ratio.0.1) ratio.0 p (λ r. (1 ≤ r.0) × (r.0 < r.1) × (r.1 < 10 ^ 9)) ratio.2
    (λ holds. let tests = both (nat_le 1 ratio.0.0) (nat_le (ratio.0.0 + 1) ratio.0.1) holds in
    let less = leb-true (ratio.0.0 + 1) ratio.0.1 tests.1 in
    (leb-true 1 ratio.0.0 tests.0, omega (arith, less), below))

threshold_in : (word : List ℕ) (p : ℕ × ℕ) → threshold_of word ≡ Some p → (1 ≤ p.0) × (p.0 ≤ p.1) × (p.1 < 10 ^ 9)
threshold_in word p is =
    let ratio = given (λ (r : ℕ × ℕ). if nat_le 1 r.0 && nat_le r.0 r.1 then Some r else None) (ratio_of word) p is in
    let below = pair_below 9 (codes "/") word ratio.0 ratio.1 in
    passed (nat_le 1 ratio.0.0 && nat_le ratio.0.0 ratio.0.1) ratio.0 p (λ r. (1 ≤ r.0) × (r.0 ≤ r.1) × (r.1 < 10 ^ 9)) ratio.2
    (λ holds. let tests = both (nat_le 1 ratio.0.0) (nat_le ratio.0.0 ratio.0.1) holds in
    (leb-true 1 ratio.0.0 tests.0, leb-true ratio.0.0 ratio.0.1 tests.1, below))

block_in : (word : List ℕ) (p : ℕ × ℕ) → block_of word ≡ Some p → (p.0 < p.1) × (p.1 < 10 ^ 5)
block_in word p is =
    let pair = given (λ (r : ℕ × ℕ). if nat_le (r.0 + 1) r.1 then Some r else None) (pair_of 5 (codes "..") word) p is in
    let below = pair_below 5 (codes "..") word pair.0 pair.1 in
    passed (nat_le (pair.0.0 + 1) pair.0.1) pair.0 p (λ r. (r.0 < r.1) × (r.1 < 10 ^ 5)) pair.2
    (λ holds. let less = leb-true (pair.0.0 + 1) pair.0.1 holds in (omega (arith, less), below))

-- ---- gains

table_in : (name : List ℕ) (g : GainOf (List ℕ)) → table_of name ≡ Some g → IsGain g
table_in [] g is = absurd (cc)
table_in (b ∷ name) g is = let same : Table (b ∷ name) ≡ g = cc in subst IsGain same (λ none. absurd (cc))

tries_in : (word : List ℕ) (g : GainOf (List ℕ)) → tries_of word ≡ Some g → IsGain g
tries_in word g is = let k = mapped Tries (number_of word) g is in subst IsGain k.2 (number_in word k.0 k.1)

gain_by : (bayes guessing tries table : Bool) (rest : List ℕ) (g : GainOf (List ℕ))
    → (if bayes then Some Bayes else (if guessing then Some Guessing else (if tries then tries_of rest else (if table then table_of rest else None)))) ≡ Some g
    → IsGain g
gain_by true guessing tries table rest g is = let same : Bayes ≡ g = cc in subst IsGain same tt
gain_by false true tries table rest g is = let same : Guessing ≡ g = cc in subst IsGain same tt
gain_by false false true table rest g is = tries_in rest g is
gain_by false false false true rest g is = table_in rest g is
gain_by false false false false rest g is = absurd (cc)

gain_in : (word : List ℕ) (g : GainOf (List ℕ)) → gain_named word ≡ Some g → IsGain g
gain_in word g is = gain_by (bytes_eq word (codes "bayes")) (bytes_eq word (codes "guessing")) (starts_with nat_eq word (codes "tries:"))
    (starts_with nat_eq word (codes "table:")) (drop 6 word) g is

-- ---- each row

abbrev Has : Task → Type 0
Has task = IsFor task.command (length task.files)

-- whatever the row asks for, of as many values as it has, can be asked for
abbrev Keeps : CommandRow → Type 0
Keeps row = (values : List (List ℕ)) (arguments : Arguments) (ask : ℕ → Task) (turns : ℕ) → length values ≡ row.values
    → row.task values arguments ≡ Some ask → Has (ask turns)

asked_keeps : (command : Command) (files : List (List ℕ)) (ask : ℕ → Task) (turns : ℕ) → on_files command files ≡ ask → IsFor command (length files) → Has (ask turns)
asked_keeps command files ask turns same has = subst (λ (f : ℕ → Task). Has (f turns)) same has

files_keep : (command : Command) (files : ℕ) → ((k : ℕ) → k ≡ files → IsFor command k) → Keeps (files_only command files)
files_keep command files has values arguments ask turns long is = asked_keeps command values ask turns (cc) (has (length values) long)

default_gain_in : (word : Option (List ℕ)) (g : GainOf (List ℕ)) → gain_or_bayes word ≡ Some g → IsGain g
default_gain_in None g is = let same : Bayes ≡ g = cc in subst IsGain same tt
default_gain_in (Some word) g is = gain_in word g is

gain_keeps : (gain : Presence) (command : GainOf (List ℕ) → Command) → ((g : GainOf (List ℕ)) (k : ℕ) → k ≡ 1 → IsGain g → IsFor (command g) k)
    → Keeps (with_gain gain command 1)
gain_keeps gain command has values arguments ask turns long is =
    let g = mapped (λ g. on_files (command g) values) (gain_or_bayes arguments.gain) ask is in
    asked_keeps (command g.0) values ask turns g.2 (has g.0 (length values) long (default_gain_in arguments.gain g.0 g.1))

make_keeps : Keeps make_row
make_keeps values arguments ask turns long is =
    let n = mapped (λ n. on_files (Make n) []) (option_and_then observations_of (first_of values)) ask is in
    let word = given observations_of (first_of values) n.0 n.1 in
    let range = observations_in word.0 n.0 word.2 in
    asked_keeps (Make n.0) [] ask turns n.2 (refl, range.0, range.1)

refine_keeps : Keeps refine_row
refine_keeps values arguments ask turns long is = asked_keeps (Refine arguments.json) values ask turns (cc) long

others_long : (values : List (List ℕ)) → length values ≡ 3 → length (others_of values) ≡ 2
others_long [] long = absurd (omega (arith, long))
others_long (word ∷ words) long = omega (arith, long)

check_keeps : Keeps check_row
check_keeps values arguments ask turns long is =
    let cert = mapped (λ cert. on_files (Check cert) (others_of values)) (first_of values) ask is in
    asked_keeps (Check cert.0) (others_of values) ask turns cert.2 (others_long values long)

files_long : (values : List (List ℕ)) (k : ℕ) → length values ≡ suc k → length (take (suc k - 1) values) ≡ k
files_long values k long = let fewer = length-take-le (suc k - 1) values (omega (arith, long)) in omega (arith, fewer)

pair_keeps : (pair : List ℕ → Option (ℕ × ℕ)) (command : ℕ → ℕ → Command) (files : ℕ)
    → ((word : List ℕ) (p : ℕ × ℕ) (k : ℕ) → k ≡ files → pair word ≡ Some p → IsFor (command p.0 p.1) k) → Keeps (with_pair pair command (suc files))
pair_keeps pair command files has values arguments ask turns long is =
    let p = mapped (λ (p : ℕ × ℕ). on_files (command p.0 p.1) (take (suc files - 1) values)) (option_and_then pair (last_of values)) ask is in
    let word = given pair (last_of values) p.0 p.1 in
    asked_keeps (command p.0.0 p.0.1) (take (suc files - 1) values) ask turns p.2 (has word.0 p.0 (length (take (suc files - 1) values)) (files_long values files long) word.2)

choice_keeps : Keeps (with_pair probability_of (λ num den. Compose (Choice num den)) 3)
choice_keeps = pair_keeps probability_of (λ num den. Compose (Choice num den)) 2
    (λ word p k many is. let r = probability_in word p is in (many, r.0, r.1, r.2))

reach_keeps : Keeps (with_pair threshold_of Reach 2)
reach_keeps = pair_keeps threshold_of Reach 1 (λ word p k many is. let r = threshold_in word p is in (many, r.0, r.1, r.2))

quiet_keeps : Keeps (with_pair block_of Quiet 2)
quiet_keeps = pair_keeps block_of Quiet 1 (λ word p k many is. let r = block_in word p is in (many, r.0, r.1))

-- ---- the table

plain : (n k : ℕ) → k ≡ n → k ≡ n
plain n k many = many

all_keep : Every (λ (r : List ℕ × CommandRow). Keeps r.1) commands
all_keep = (
  files_keep Hyper 1 (plain 1),
  (
    files_keep Traces 1 (plain 1),
    (
      files_keep Channel 1 (plain 1),
      (
        gain_keeps Required Leak (λ g k many is. (many, is)),
        (
          files_keep Trail 1 (plain 1),
          (
            make_keeps,
            (
              refine_keeps,
              (
                check_keeps,
                (
                  files_keep Capacity 1 (plain 1),
                  (
                    files_keep (Compose Cascade) 2 (plain 2),
                    (
                      files_keep (Compose Parallel) 2 (plain 2),
                      (
                        choice_keeps,
                        (
                          gain_keeps Required Attack (λ g k many is. (many, is)),
                          (
                            reach_keeps,
                            (
                              files_keep Covers 2 (plain 2),
                              (
                                quiet_keeps,
                                (
                                  files_keep Blame 1 (plain 1),
                                  (gain_keeps Optional Lines (λ g k many is. (many, is)), tt),
                                ),
                              ),
                            ),
                          ),
                        ),
                      ),
                    ),
                  ),
                ),
              ),
            ),
          ),
        ),
      ),
    ),
  ),
)

first_or_later : (b : Bool) (r : List ℕ × CommandRow) (later : Option CommandRow) (row : CommandRow) → Keeps r.1
    → (later ≡ Some row → Keeps row) → (if b then Some r.1 else later) ≡ Some row → Keeps row
first_or_later true r later row here there is = let same : r.1 ≡ row = cc in subst Keeps same here
first_or_later false r later row here there is = there is

found_keeps : (word : List ℕ) (rows : List (List ℕ × CommandRow)) → Every (λ (r : List ℕ × CommandRow). Keeps r.1) rows → (row : CommandRow)
    → lookup (bytes_eq word) rows ≡ Some row → Keeps row
found_keeps word [] all row is = absurd (cc)
found_keeps word (r ∷ rows) all row is =
    first_or_later (bytes_eq word r.0) r (lookup (bytes_eq word) rows) row all.0 (found_keeps word rows all.1 row) is

-- ---- the words

as_many : (m n : ℕ) → (m == n) ≡ true → m ≡ n
as_many m n h = (Decides-eqb m n).0 h

row_keeps : (values : List (List ℕ)) (arguments : Arguments) (row : CommandRow) (task : Task) → Keeps row → row_task values arguments row ≡ Some task → Has task
row_keeps values arguments row task keeps is =
    let fit = tested (length values == row.values && options_fit row arguments)
    (option_and_then (λ turns. option_map (λ ask. ask turns) (row.task values arguments)) (turns_of arguments.turns)) task is in
    let many = as_many (length values) row.values (both (length values == row.values) (options_fit row arguments) fit.0).0 in
    let turns = given (λ turns. option_map (λ ask. ask turns) (row.task values arguments)) (turns_of arguments.turns) task fit.1 in
    let ask = mapped (λ (ask : ℕ → Task). ask turns.0) (row.task values arguments) task turns.2 in
    subst Has ask.2 (keeps values arguments ask.0 turns.0 many ask.1)

values_keep : (values : List (List ℕ)) (arguments : Arguments) (task : Task) → task_of_values values arguments ≡ Some task → Has task
values_keep [] arguments task is = absurd (cc)
values_keep (word ∷ values) arguments task is =
    let row = given (row_task values arguments) (row_of word) task is in
    row_keeps values arguments row.0 task (found_keeps word commands all_keep row.0 row.1) row.2

pub each_task_can_be_asked : TasksInRange → EachTaskCanBeAsked
each_task_can_be_asked range words task is =
    let arguments = given task_of_arguments (arguments_of words) task is in
    let turns : HasTurns task = (range words task is).1 in
    record { is_for = values_keep arguments.0.values arguments.0 task arguments.2; some_turns = turns.0; few_turns = turns.1 }
