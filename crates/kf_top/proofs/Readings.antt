-- Files that were read, and what comes of them.
use Rattle.std.proofs.Common.{◌≡◌, ℕ, List, [], ◌∷◌, All, Contains, get_or, IfErr, Option, None, Some, Result, Ok, Err, refl, ap, subst}
use Rattle.std.proofs.lemmas.List.Elements.{All-nil, All-cons}
use Rattle.kf_load.specs.Readings.{WasRead}
use Rattle.kf_load.specs.Steps.{Step, After, Gives}
use Rattle.kf_load.specs.Stops as load
use Rattle.kf_load.specs.Stops.{Told, file_as}
use Rattle.kf_load.specs.Texts.{File}
use Rattle.kf_load.specs.declared.refusal.Refusal.TheVariants as load_refusal
use Rattle.kf_load.specs.declared.refusal.Stop as load_code
use Rattle.kf_load.specs.declared.refusal.Stop.TheVariants as load_stop
use Rattle.kf_load.proofs.Stepwise.{some_bytes}
use Rattle.kf_value.specs.Targets.{Item}
use Rattle.kf_gain.specs.Gains.{GainOf, Bayes, Tries, Guessing, Table}
use Rattle.kf_gain.specs.Views.{gain_tree, table_tree}
use Rattle.kf_gain.specs.declared.gain.Gain.{Gain}
use Rattle.kf_gain.specs.declared.gain.Gain.TheVariants as gain
use Rattle.kf_gain.specs.declared.table.GainTable.{GainTable}
use Rattle.kf_top.specs.Answer.{GainIn}
use Rattle.kf_top.specs.Ends.{names_of}
use Rattle.kf_top.specs.Stops.{Answers, IsOwn, lifted}
use Rattle.kf_top.specs.TaskAnswers.{Counts, FileAnswer, FilesAnswer, MayFail, StopCounts, names_in, stop_in}
use Rattle.kf_top.specs.declared.refusal.Refusal.TheVariants as refusal
use Rattle.kf_top.specs.declared.refusal.Stop.{Stop}
use Rattle.kf_top.specs.declared.refusal.Stop.TheVariants as stop
use Rattle.kf_words.specs.Task.{Attack, Leak, Lines, tables_of}
use Rattle.kf_top.proofs.Steps.{first_stops, lift_stops, next_answers}
use Rattle.kf_top.specs.Steps.{TableIn}

-- ---- counts

-- what reads no file changes no count
pub own_counts : (names : List (List ℕ)) (counts : List ℕ → ℕ) (s : Stop) → IsOwn s → StopCounts names counts counts s
own_counts names counts (stop.Refused (refusal.Load (load_refusal.ReadFailed name))) own = absurd own
own_counts names counts (stop.Refused (refusal.Load (load_refusal.TooLong name))) own = refl
own_counts names counts (stop.Refused (refusal.Load (load_refusal.BadText name line column word))) own = refl
own_counts names counts (stop.Refused (refusal.Load (load_refusal.BadRun name line column word))) own = refl
own_counts names counts (stop.Refused (refusal.Load (load_refusal.WideScale name))) own = refl
own_counts names counts (stop.Refused (refusal.Load (load_refusal.FewStatements name count))) own = refl
own_counts names counts (stop.Refused refusal.NotInitial) own = refl
own_counts names counts (stop.Refused (refusal.BadTable name error)) own = refl
own_counts names counts (stop.Refused refusal.WideGain) own = refl
own_counts names counts (stop.Refused refusal.OtherTarget) own = refl
own_counts names counts (stop.Refused (refusal.ManyCells cells)) own = refl
own_counts names counts (stop.Refused (refusal.WideTableau pivots)) own = refl
own_counts names counts (stop.Refused refusal.ManyPivots) own = refl
own_counts names counts (stop.Refused (refusal.BadCert name error)) own = refl
own_counts names counts (stop.Refused refusal.WideCert) own = refl
own_counts names counts (stop.Refused refusal.OtherRows) own = refl
own_counts names counts (stop.Refused refusal.NoFit) own = refl
own_counts names counts (stop.Refused (refusal.ManyChannelCells cells)) own = refl
own_counts names counts (stop.Refused refusal.WideChannel) own = refl
own_counts names counts (stop.Refused (refusal.ManyStores name count)) own = refl
own_counts names counts stop.Mem own = refl

-- what comes after the files were read has their counts
pub counts_next : {A : Type 0} (names : List (List ℕ)) (before now : List ℕ → ℕ) (r : Result A Stop) → now ≡ before → IfErr r IsOwn → Counts names before now r
counts_next names before now (Ok x) same own = same
counts_next names before now (Err s) same own = subst (λ (b : List ℕ → ℕ). StopCounts names b now s) same (own_counts names now s own)

-- from the counts that are the same, as from those before
pub counts_from : {A : Type 0} (names : List (List ℕ)) (before mid now : List ℕ → ℕ) (r : Result A Stop) → mid ≡ before → Counts names mid now r → Counts names before now r
counts_from names before mid now r same h = subst (λ (b : List ℕ → ℕ). Counts names b now r) same h

-- a failed read of one of these files is one of more files
module _ (names more : List (List ℕ)) (turn : (name : List ℕ) → Contains names name → Contains more name) (before now : List ℕ → ℕ) where
  more_stop : (s : Stop) → StopCounts names before now s → StopCounts more before now s
  more_stop (stop.Refused (refusal.Load (load_refusal.ReadFailed name))) h = (turn name.now h.0, h.1)
  more_stop (stop.Refused (refusal.Load (load_refusal.TooLong name))) h = h
  more_stop (stop.Refused (refusal.Load (load_refusal.BadText name line column word))) h = h
  more_stop (stop.Refused (refusal.Load (load_refusal.BadRun name line column word))) h = h
  more_stop (stop.Refused (refusal.Load (load_refusal.WideScale name))) h = h
  more_stop (stop.Refused (refusal.Load (load_refusal.FewStatements name count))) h = h
  more_stop (stop.Refused refusal.NotInitial) h = h
  more_stop (stop.Refused (refusal.BadTable name error)) h = h
  more_stop (stop.Refused refusal.WideGain) h = h
  more_stop (stop.Refused refusal.OtherTarget) h = h
  more_stop (stop.Refused (refusal.ManyCells cells)) h = h
  more_stop (stop.Refused (refusal.WideTableau pivots)) h = h
  more_stop (stop.Refused refusal.ManyPivots) h = h
  more_stop (stop.Refused (refusal.BadCert name error)) h = h
  more_stop (stop.Refused refusal.WideCert) h = h
  more_stop (stop.Refused refusal.OtherRows) h = h
  more_stop (stop.Refused refusal.NoFit) h = h
  more_stop (stop.Refused (refusal.ManyChannelCells cells)) h = h
  more_stop (stop.Refused refusal.WideChannel) h = h
  more_stop (stop.Refused (refusal.ManyStores name count)) h = h
  more_stop stop.Mem h = h

  pub more_names : {A : Type 0} (r : Result A Stop) → Counts names before now r → Counts more before now r
  more_names (Ok x) h = h
  more_names (Err s) h = more_stop s h

pub lift_counts : (names : List (List ℕ)) (before now : List ℕ → ℕ) (s : load_code.Stop) → load.StopCounts names before now s → StopCounts names before now (lifted s)
lift_counts names before now (load_stop.Refused r) h = h
lift_counts names before now load_stop.Mem h = h

-- ---- failed reads

pub lift_fails : (reading : Option (List ℕ)) (s : load_code.Stop) → load.MayFail reading s → MayFail reading (Some (lifted s))
lift_fails (Some bytes) s h = tt
lift_fails None (load_stop.Refused (load_refusal.ReadFailed name)) h = tt
lift_fails None (load_stop.Refused (load_refusal.TooLong name)) h = absurd h
lift_fails None (load_stop.Refused (load_refusal.BadText name line column word)) h = absurd h
lift_fails None (load_stop.Refused (load_refusal.BadRun name line column word)) h = absurd h
lift_fails None (load_stop.Refused (load_refusal.WideScale name)) h = absurd h
lift_fails None (load_stop.Refused (load_refusal.FewStatements name count)) h = absurd h
lift_fails None load_stop.Mem h = absurd h

-- a file that was read may stand with any result
pub was_read : (reading : Option (List ℕ)) (s : Option Stop) → MayFail reading None → MayFail reading s
was_read (Some bytes) s h = tt
was_read None s h = absurd h

-- ---- one file

module _ {A B : Type 0} (told : Option (List ℕ → List ℕ)) (before now : List ℕ → ℕ) (name : List ℕ) (first : File → Step A) (next : File → A → Step B) where
  abbrev both : File → Step B
  both file = After (first file) (next file)

  -- what stops the reading of a file
  pub file_lifts : {X : Type 0} (seen : X → B) (s : load_code.Stop)
      → ((reading : Option (List ℕ)) × load.ReadingFor told before now s name reading × load.Stopped s (first (file_as name reading)))
      → FileAnswer told before now name seen (Err (lifted s)) both
  file_lifts seen s h = record {
    reading = h.0;
    read = h.1.read;
    fails = lift_fails h.0 s h.1.fails;
    answer = first_stops (first (file_as name h.0)) (next (file_as name h.0)) (lifted s) (lift_stops (first (file_as name h.0)) s h.2);
  }

  -- what comes after it
  pub file_then : {X : Type 0} (seen : X → B) (x : A) (r : Result X Stop) → ((bytes : List ℕ) × Told told name bytes × first (file_as name (Some bytes)) (Ok x))
      → ((bytes : List ℕ) → Answers seen r (next (file_as name (Some bytes)) x)) → FileAnswer told before now name seen r both
  file_then seen x r h k = record {
    reading = Some h.0;
    read = h.1;
    fails = tt;
    answer = next_answers seen (first (file_as name (Some h.0))) (next (file_as name (Some h.0))) r x h.2 (k h.0);
  }

  -- what stops the step on a file stops what comes after it
  pub file_stops : {X Y : Type 0} (seen : X → A) (other : Y → B) (s : Stop) → FileAnswer told before now name seen (Err s) first
      → FileAnswer told before now name other (Err s) both
  file_stops seen other s h = record {
    reading = h.reading;
    read = h.read;
    fails = h.fails;
    answer = first_stops (first (file_as name h.reading)) (next (file_as name h.reading)) s h.answer;
  }

  -- what comes after the step; no read has failed
  pub file_next : {X Y : Type 0} (seen : X → A) (other : Y → B) (x : X) (r : Result Y Stop) → FileAnswer told before now name seen (Ok x) first
      → ((file : File) → Answers other r (next file (seen x))) → FileAnswer told before now name other r both
  file_next seen other x r h k = record {
    reading = h.reading;
    read = h.read;
    fails = was_read h.reading (stop_in r) h.fails;
    answer = next_answers other (first (file_as name h.reading)) (next (file_as name h.reading)) r (seen x) h.answer (k (file_as name h.reading));
  }

-- ---- files

-- a step that reads nothing
pub none_read : {A B : Type 0} (told : Option (List ℕ → List ℕ)) (before now : List ℕ → ℕ) (seen : A → B) (r : Result A Stop) (step : List File → Step B)
    → Answers seen r (step []) → FilesAnswer told before now [] seen r step
none_read told before now seen r step h =
    record { files = []; named = refl; read = All-nil (WasRead told before now); fails = All-nil (λ file. MayFail file.reading (stop_in r)); answer = h }

-- a step that reads one file
pub one_read : {A B : Type 0} (told : Option (List ℕ → List ℕ)) (before now : List ℕ → ℕ) (name : List ℕ) (seen : A → B) (r : Result A Stop) (step : List File → Step B)
    → FileAnswer told before now name seen r (λ file. step (file ∷ [])) → FilesAnswer told before now (name ∷ []) seen r step
one_read told before now name seen r step h = record {
  files = file_as name h.reading ∷ [];
  named = refl;
  read = All-cons (WasRead told before now) (file_as name h.reading) [] h.read (All-nil (WasRead told before now));
  fails = All-cons (λ file. MayFail file.reading (stop_in r)) (file_as name h.reading) [] h.fails (All-nil (λ file. MayFail file.reading (stop_in r)));
  answer = h.answer;
}

-- the same, by the name that its file has
pub one_read_as : {A B : Type 0} (told : Option (List ℕ → List ℕ)) (before now : List ℕ → ℕ) (name read : List ℕ) → read ≡ name → (seen : A → B) (r : Result A Stop)
    (step : List File → Step B) → FileAnswer told before now read seen r (λ file. step (file ∷ [])) → FilesAnswer told before now (name ∷ []) seen r step
one_read_as told before now name read same seen r step h =
    subst (λ (n : List ℕ). FilesAnswer told before now (n ∷ []) seen r step) same (one_read told before now read seen r step h)

pub counts_as : {A : Type 0} (before now : List ℕ → ℕ) (names read : List (List ℕ)) → read ≡ names → (r : Result A Stop) → Counts read before now r → Counts names before now r
counts_as before now names read same r h = subst (λ (ns : List (List ℕ)). Counts ns before now r) same h

pub stop_counts_as : (before now : List ℕ → ℕ) (names read : List (List ℕ)) → read ≡ names → (s : Stop) → StopCounts read before now s → StopCounts names before now s
stop_counts_as before now names read same s h = subst (λ (ns : List (List ℕ)). StopCounts ns before now s) same h

-- the files that a gain names are those of the commands under it
pub leak_tables : (g : GainOf (List ℕ)) → names_in g ≡ tables_of (Leak g)
leak_tables Bayes = refl
leak_tables (Tries k) = refl
leak_tables Guessing = refl
leak_tables (Table name) = refl

pub lines_tables : (g : GainOf (List ℕ)) → names_in g ≡ tables_of (Lines g)
lines_tables Bayes = refl
lines_tables (Tries k) = refl
lines_tables Guessing = refl
lines_tables (Table name) = refl

pub attack_tables : (g : GainOf (List ℕ)) → names_in g ≡ tables_of (Attack g)
attack_tables Bayes = refl
attack_tables (Tries k) = refl
attack_tables Guessing = refl
attack_tables (Table name) = refl

-- what reads the files of a gain reads those of such a command
pub files_as : {A B : Type 0} (told : Option (List ℕ → List ℕ)) (before now : List ℕ → ℕ) (names read : List (List ℕ)) → read ≡ names → (seen : A → B) (r : Result A Stop)
    (step : List File → Step B) → FilesAnswer told before now read seen r step → FilesAnswer told before now names seen r step
files_as told before now names read same seen r step h = subst (λ (ns : List (List ℕ)). FilesAnswer told before now ns seen r step) same h

-- files of these names that nothing stands against
pub record SomeFiles (told : Option (List ℕ → List ℕ)) (before now : List ℕ → ℕ) (s : Option Stop) (names : List (List ℕ)) : Type 0 where
  pub files : List File
  pub named : names_of files ≡ names
  pub read : All (WasRead told before now) files
  pub fails : All (λ file. MayFail file.reading s) files

pub some_files : (told : Option (List ℕ → List ℕ)) (before now : List ℕ → ℕ) (s : Option Stop) (names : List (List ℕ)) → SomeFiles told before now s names
some_files told before now s [] =
    record { files = []; named = refl; read = All-nil (WasRead told before now); fails = All-nil (λ file. MayFail file.reading s) }
some_files told before now s (name ∷ names) =
    let others = some_files told before now s names in
    let bytes = some_bytes told name in
    let file = file_as name (Some bytes.0) in
    record {
      files = file ∷ others.files;
      named = ap (λ (ns : List (List ℕ)). name ∷ ns) others.named;
      read = All-cons (WasRead told before now) file others.files bytes.1 others.read;
      fails = All-cons (λ f. MayFail f.reading s) file others.files tt others.fails;
    }

-- ---- a step on files and then one on what it gave

module _ {A B : Type 0} (told : Option (List ℕ → List ℕ)) (before now : List ℕ → ℕ) (names : List (List ℕ)) (first : List File → Step A) (next : A → Step B) where
  -- what stops the first stops both
  pub files_stop : {X Y : Type 0} (seen : X → A) (other : Y → B) (s : Stop) → FilesAnswer told before now names seen (Err s) first
      → FilesAnswer told before now names other (Err s) (λ files. After (first files) next)
  files_stop seen other s h = record {
    files = h.files;
    named = h.named;
    read = h.read;
    fails = h.fails;
    answer = first_stops (first h.files) next s h.answer;
  }

  -- what comes after it; no read has failed
  pub files_next : {X Y : Type 0} (seen : X → A) (other : Y → B) (x : X) (r : Result Y Stop) → FilesAnswer told before now names seen (Ok x) first
      → Answers other r (next (seen x)) → FilesAnswer told before now names other r (λ files. After (first files) next)
  files_next seen other x r h k = record {
    files = h.files;
    named = h.named;
    read = h.read;
    fails = λ at d lt. was_read (get_or h.files at d).reading (stop_in r) (h.fails at d lt);
    answer = next_answers other (first h.files) next r (seen x) h.answer k;
  }

-- ---- the table of a gain

module _ (told : Option (List ℕ → List ℕ)) (before now : List ℕ → ℕ) (name read : List ℕ) (same : read ≡ name) (target : List Item) where
  -- what stops the table stops the gain
  pub table_stops : (s : Stop) → FileAnswer told before now read table_tree (Err s) (TableIn target)
      → FilesAnswer told before now (name ∷ []) gain_tree (Err s) (GainIn target (Table name))
  table_stops s h =
      subst (λ (n : List ℕ). FilesAnswer told before now (n ∷ []) gain_tree (Err s) (GainIn target (Table n))) same
      (one_read told before now read gain_tree (Err s) (GainIn target (Table read))
      (file_stops told before now read (TableIn target) (λ file t. Gives (Ok (Table t))) table_tree gain_tree s h))

  pub table_read : (table : GainTable) → FileAnswer told before now read table_tree (Ok table) (TableIn target)
      → FilesAnswer told before now (name ∷ []) gain_tree (Ok (gain.Table table)) (GainIn target (Table name))
  table_read table h =
      subst (λ (n : List ℕ). FilesAnswer told before now (n ∷ []) gain_tree (Ok (gain.Table table)) (GainIn target (Table n))) same
      (one_read told before now read gain_tree (Ok (gain.Table table)) (GainIn target (Table read))
      (file_next told before now read (TableIn target) (λ file t. Gives (Ok (Table t))) table_tree gain_tree table (Ok (gain.Table table)) h (λ file. refl)))

-- from the files that are the same, as from those before
pub files_from : (told later : Option (List ℕ → List ℕ)) (before mid now : List ℕ → ℕ) → later ≡ told → mid ≡ before → {A B : Type 0} (names : List (List ℕ)) (seen : A → B)
    (r : Result A Stop) (step : List File → Step B) → FilesAnswer later mid now names seen r step → FilesAnswer told before now names seen r step
files_from told later before mid now unchanged same names seen r step h =
    subst (λ (b : List ℕ → ℕ). FilesAnswer told b now names seen r step) same
    (subst (λ (t : Option (List ℕ → List ℕ)). FilesAnswer t mid now names seen r step) unchanged h)

-- a gain about the same target
pub gain_about : (told : Option (List ℕ → List ℕ)) (before now : List ℕ → ℕ) (word : GainOf (List ℕ)) (one two : List Item) → one ≡ two → (r : Result Gain Stop)
    → FilesAnswer told before now (names_in word) gain_tree r (GainIn one word) → FilesAnswer told before now (names_in word) gain_tree r (GainIn two word)
gain_about told before now word one two same r h = subst (λ (items : List Item). FilesAnswer told before now (names_in word) gain_tree r (GainIn items word)) same h
