-- Each task that can be asked for is asked for by its words, command by command.
use Rattle.std.proofs.Common.{◌≡◌, ℕ, ◌+◌, ◌<◌, ◌≤◌, ◌^◌, ◌&&◌, nat_le, Bool, true, false, List, [], ◌∷◌, ◌++◌, length, codes, Option, None, Some, refl, sym, ap, ◌∙◌, arith, if◌then◌else◌}
use Rattle.std.specs.Prelude.{option_and_then, option_map}
use Rattle.std.specs.Fmt.{decimal}
use Rattle.std.proofs.lemmas.Bool.{le-leb}
use Rattle.kf_gain.specs.Gains.{GainOf}
use Rattle.kf_words.specs.Numbers.{block_of, probability_of, threshold_of}
use Rattle.kf_words.specs.Task.{Command, Cascade, Parallel, Choice, Hyper, Traces, Channel, Trail, Capacity, Compose, Leak, Attack, Reach, Make, Refine, Check, Covers, Quiet, Blame, Lines, Presence, Optional, Required, files_only, fits, observations_of, on_files, task_of, with_gain, with_pair}
use Rattle.kf_words.specs.OfWords.{check_row, make_row, refine_row, row_of}
use Rattle.kf_meaning.specs.Tasks.{IsFor, WordsAskForTheirTask, DifferentWords, gain_word, IsGain, pair_word, words_of}
use Rattle.kf_meaning.proofs.Numerals.{number_read, pair_read}
use Rattle.kf_meaning.proofs.Reading.{asked, four_values, gain_read, three_values, two_values, under_gain, with_json}

-- ---- so many files

no_file : (P : List (List ℕ) → Type 0) (files : List (List ℕ)) → length files ≡ 0 → P [] → P files
no_file P [] many h = h
no_file P (f ∷ files) many h = absurd (omega (arith, many))

one_file : (P : List (List ℕ) → Type 0) (files : List (List ℕ)) → length files ≡ 1 → ((f : List ℕ) → P (f ∷ [])) → P files
one_file P [] many h = absurd (omega (arith, many))
one_file P (f ∷ []) many h = h f
one_file P (f ∷ g ∷ files) many h = absurd (omega (arith, many))

two_files : (P : List (List ℕ) → Type 0) (files : List (List ℕ)) → length files ≡ 2 → ((f g : List ℕ) → P (f ∷ g ∷ [])) → P files
two_files P [] many h = absurd (omega (arith, many))
two_files P (f ∷ []) many h = absurd (omega (arith, many))
two_files P (f ∷ g ∷ []) many h = h f g
two_files P (f ∷ g ∷ e ∷ files) many h = absurd (omega (arith, many))

-- ---- pairs of numbers

probability_read : (a b : ℕ) → 1 ≤ a → a < b → b < 10 ^ 9 → probability_of (pair_word a (codes "/") b) ≡ Some (a, b)
probability_read a b some less few =
    let first = le-leb 1 a some in
    let second = le-leb (a + 1) b (omega (arith, less)) in
    ap (option_and_then (λ (p : ℕ × ℕ). if nat_le 1 p.0 && nat_le (p.0 + 1) p.1 then Some p else None))
    (pair_read 47 [] (omega arith) (λ ys. refl) (λ ys. refl) 9 a b (omega arith) (omega (arith, less, few)) few (omega (arith, less, few)) (omega (arith, few)))
    ∙ (λ i. if first i && second i then Some (a, b) else None)

threshold_read : (a b : ℕ) → 1 ≤ a → a ≤ b → b < 10 ^ 9 → threshold_of (pair_word a (codes "/") b) ≡ Some (a, b)
threshold_read a b some less few =
    let first = le-leb 1 a some in
    let second = le-leb a b less in
    ap (option_and_then (λ (p : ℕ × ℕ). if nat_le 1 p.0 && nat_le p.0 p.1 then Some p else None))
    (pair_read 47 [] (omega arith) (λ ys. refl) (λ ys. refl) 9 a b (omega arith) (omega (arith, less, few)) few (omega (arith, less, few)) (omega (arith, few)))
    ∙ (λ i. if first i && second i then Some (a, b) else None)

block_read : (a b : ℕ) → a < b → b < 10 ^ 5 → block_of (pair_word a (codes "..") b) ≡ Some (a, b)
block_read a b less few =
    let test = le-leb (a + 1) b (omega (arith, less)) in
    ap (option_and_then (λ (p : ℕ × ℕ). if nat_le (p.0 + 1) p.1 then Some p else None))
    (pair_read 46 (46 ∷ []) (omega arith) (λ ys. refl) (λ ys. refl) 5 a b (omega arith) (omega (arith, less, few)) few (omega (arith, less, few)) (omega (arith, few)))
    ∙ ap (λ t. if t then Some (a, b) else None) test

observations_read : (n : ℕ) → 1 ≤ n → n ≤ 60 → observations_of (decimal n) ≡ Some n
observations_read n some few =
    ap (option_and_then (λ m. if nat_le m 60 then Some m else None)) (number_read n some (omega (arith, few)))
    ∙ ap (λ t. if t then Some n else None) (le-leb n 60 few)

-- ---- the commands

module _ (turns : ℕ) (some : 1 ≤ turns) (few : turns ≤ 65535) where
  -- a command on these files is read from its words
  abbrev Reads : Command → List (List ℕ) → Type 0
  Reads command files = task_of (words_of (on_files command files turns)) ≡ Some (on_files command files turns)

  abbrev t : List ℕ
  t = decimal turns

  plain_one : (word : List ℕ) (command : Command) (f : List ℕ) → row_of word ≡ Some (files_only command 1)
      → task_of (codes "kuifje" ∷ (codes "--turns=" ++ decimal turns) ∷ codes "--" ∷ word ∷ f ∷ []) ≡ Some (on_files command (f ∷ []) turns)
  plain_one word command f found =
      asked _ word (f ∷ []) None false turns (files_only command 1) (on_files command (f ∷ [])) (two_values t word f) found refl refl some few

  plain_two : (word : List ℕ) (command : Command) (f g : List ℕ) → row_of word ≡ Some (files_only command 2)
      → task_of (codes "kuifje" ∷ (codes "--turns=" ++ decimal turns) ∷ codes "--" ∷ word ∷ f ∷ g ∷ []) ≡ Some (on_files command (f ∷ g ∷ []) turns)
  plain_two word command f g found =
      asked _ word (f ∷ g ∷ []) None false turns (files_only command 2) (on_files command (f ∷ g ∷ [])) (three_values t word f g) found refl refl some few

  gained : (word : List ℕ) (gain : Presence) → fits gain true ≡ true → (command : GainOf (List ℕ) → Command) (g : GainOf (List ℕ)) (f : List ℕ) → IsGain g
      → row_of word ≡ Some (with_gain gain command 1)
      → task_of (codes "kuifje" ∷ (codes "--turns=" ++ decimal turns) ∷ (codes "--gain=" ++ gain_word g) ∷ codes "--" ∷ word ∷ f ∷ [])
      ≡ Some (on_files (command g) (f ∷ []) turns)
  gained word gain may command g f is found =
      asked _ word (f ∷ []) (Some (gain_word g)) false turns (with_gain gain command 1) (on_files (command g) (f ∷ [])) (under_gain t word f (gain_word g)) found
      (ap (λ b. b && true) may) (ap (option_map (λ g. on_files (command g) (f ∷ []))) (gain_read g is)) some few

  paired : (word : List ℕ) (pair : List ℕ → Option (ℕ × ℕ)) (command : ℕ → ℕ → Command) (f w : List ℕ) (m n : ℕ) → pair w ≡ Some (m, n)
      → row_of word ≡ Some (with_pair pair command 2)
      → task_of (codes "kuifje" ∷ (codes "--turns=" ++ decimal turns) ∷ codes "--" ∷ word ∷ f ∷ w ∷ []) ≡ Some (on_files (command m n) (f ∷ []) turns)
  paired word pair command f w m n is found =
      asked _ word (f ∷ w ∷ []) None false turns (with_pair pair command 2) (on_files (command m n) (f ∷ [])) (three_values t word f w) found refl
      (ap (option_map (λ (p : ℕ × ℕ). on_files (command p.0 p.1) (f ∷ []))) is) some few

  chosen : (f g : List ℕ) (m n : ℕ) → 1 ≤ m → m < n → n < 10 ^ 9 → Reads (Compose (Choice m n)) (f ∷ g ∷ [])
  chosen f g m n low less high =
      asked _ (codes "choice") (f ∷ g ∷ pair_word m (codes "/") n ∷ []) None false turns
      (with_pair probability_of (λ num den. Compose (Choice num den)) 3) (on_files (Compose (Choice m n)) (f ∷ g ∷ []))
      (four_values t (codes "choice") f g (pair_word m (codes "/") n)) refl refl
      (ap (option_map (λ (p : ℕ × ℕ). on_files (Compose (Choice p.0 p.1)) (f ∷ g ∷ []))) (probability_read m n low less high)) some few

  made : (n : ℕ) → 1 ≤ n → n ≤ 60 → Reads (Make n) []
  made n low high =
      asked _ (codes "make") (decimal n ∷ []) None false turns make_row (on_files (Make n) []) (two_values t (codes "make") (decimal n)) refl refl
      (ap (option_map (λ n. on_files (Make n) [])) (observations_read n low high)) some few

  refined : (json : Bool) (f g : List ℕ) → Reads (Refine json) (f ∷ g ∷ [])
  refined true f g =
      asked _ (codes "refine") (f ∷ g ∷ []) None true turns refine_row (on_files (Refine true) (f ∷ g ∷ [])) (with_json t (codes "refine") f g) refl refl refl some few
  refined false f g =
      asked _ (codes "refine") (f ∷ g ∷ []) None false turns refine_row (on_files (Refine false) (f ∷ g ∷ [])) (three_values t (codes "refine") f g) refl refl refl some few

  checked : (cert f g : List ℕ) → Reads (Check cert) (f ∷ g ∷ [])
  checked cert f g =
      asked _ (codes "check") (cert ∷ f ∷ g ∷ []) None false turns check_row (on_files (Check cert) (f ∷ g ∷ [])) (four_values t (codes "check") cert f g) refl refl refl
      some few

  reads : (command : Command) (files : List (List ℕ)) → IsFor command (length files) → Reads command files
  reads Hyper files is = one_file (Reads Hyper) files is (λ f. plain_one (codes "hyper") Hyper f refl)
  reads Traces files is = one_file (Reads Traces) files is (λ f. plain_one (codes "traces") Traces f refl)
  reads Channel files is = one_file (Reads Channel) files is (λ f. plain_one (codes "channel") Channel f refl)
  reads Trail files is = one_file (Reads Trail) files is (λ f. plain_one (codes "trail") Trail f refl)
  reads Capacity files is = one_file (Reads Capacity) files is (λ f. plain_one (codes "capacity") Capacity f refl)
  reads Blame files is = one_file (Reads Blame) files is (λ f. plain_one (codes "blame") Blame f refl)
  reads (Compose Cascade) files is = two_files (Reads (Compose Cascade)) files is (λ f g. plain_two (codes "cascade") (Compose Cascade) f g refl)
  reads (Compose Parallel) files is = two_files (Reads (Compose Parallel)) files is (λ f g. plain_two (codes "parallel") (Compose Parallel) f g refl)
  reads (Compose (Choice m n)) files is = two_files (Reads (Compose (Choice m n))) files is.0 (λ f g. chosen f g m n is.1 is.2 is.3)
  reads (Leak g) files is = one_file (Reads (Leak g)) files is.0 (λ f. gained (codes "leak") Required refl Leak g f is.1 refl)
  reads (Attack g) files is = one_file (Reads (Attack g)) files is.0 (λ f. gained (codes "attack") Required refl Attack g f is.1 refl)
  reads (Lines g) files is = one_file (Reads (Lines g)) files is.0 (λ f. gained (codes "lines") Optional refl Lines g f is.1 refl)
  reads (Reach m n) files is =
      one_file (Reads (Reach m n)) files is.0
      (λ f. paired (codes "reach") threshold_of Reach f (pair_word m (codes "/") n) m n (threshold_read m n is.1 is.2 is.3) refl)
  reads (Make n) files is = no_file (Reads (Make n)) files is.0 (made n is.1 is.2)
  reads (Refine json) files is = two_files (Reads (Refine json)) files is (refined json)
  reads (Check cert) files is = two_files (Reads (Check cert)) files is (checked cert)
  reads Covers files is = two_files (Reads Covers) files is (λ f g. plain_two (codes "covers") Covers f g refl)
  reads (Quiet from to) files is =
      one_file (Reads (Quiet from to)) files is.0
      (λ f. paired (codes "quiet") block_of Quiet f (pair_word from (codes "..") to) from to (block_read from to is.1 is.2) refl)

-- ---- the laws

pub words_ask_for_their_task : WordsAskForTheirTask
words_ask_for_their_task task can = reads task.turns can.some_turns can.few_turns task.command task.files can.is_for

pub different_words : DifferentWords
different_words task other can may same =
    let both : Some task ≡ Some other = sym (words_ask_for_their_task task can) ∙ ap task_of same ∙ words_ask_for_their_task other may in
    cc
