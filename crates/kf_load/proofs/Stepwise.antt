-- One step and then the next, and what a result is to both.
use Rattle.std.proofs.Common.{◌≡◌, ℕ, List, [], ◌∷◌, Option, None, Some, Result, Ok, Err, Contains, IfErr, inl, inr, refl, ap, subst}
use Rattle.kf_load.specs.Steps.{Step, After, Each, Gives}
use Rattle.kf_load.specs.Stops.{Answers, Counts, FileAnswers, IsNoRead, PairAnswers, ReadingFor, StopCounts, Stopped, Told, file_as}
use Rattle.kf_load.specs.Texts.{File}
use Rattle.kf_load.specs.declared.refusal.Refusal.TheVariants as refusal
use Rattle.kf_load.specs.declared.refusal.Stop.{Stop}
use Rattle.kf_load.specs.declared.refusal.Stop.TheVariants as stop

-- what stops the first step stops both
pub first_stops : {A B : Type 0} (first : Step A) (next : A → Step B) (s : Stop) → Stopped s first → Stopped s (After first next)
first_stops first next (stop.Refused r) h = inl h
first_stops first next stop.Mem h = tt

-- what stops the next step stops both
pub next_stops : {A B : Type 0} (first : Step A) (next : A → Step B) (s : Stop) (x : A) → first (Ok x) → Stopped s (next x) → Stopped s (After first next)
next_stops first next (stop.Refused r) x done h = inr (x, done, h)
next_stops first next stop.Mem x done h = tt

-- where the first step is done, the result of the next is that of both
pub next_answers : {A B X : Type 0} (seen : X → B) (first : Step A) (next : A → Step B) (r : Result X Stop) (x : A) → first (Ok x) → Answers seen r (next x)
    → Answers seen r (After first next)
next_answers seen first next (Ok z) x done h = (x, done, h)
next_answers seen first next (Err s) x done h = next_stops first next s x done h

-- ---- a step for each of two

module _ {A B : Type 0} (step : A → Step B) (x y : A) where
  -- the step for the second, and what both give
  abbrev rest : B → Step (List B)
  rest u = After (Each step (y ∷ [])) (λ us. Gives (Ok (u ∷ us)))

  pub both_of_two : (u v : B) → step x (Ok u) → step y (Ok v) → Each step (x ∷ y ∷ []) (Ok (u ∷ v ∷ []))
  both_of_two u v h k = (u, h, (v ∷ [], (v, k, ([], refl, refl)), refl))

  pub first_of_two : (s : Stop) → Stopped s (step x) → Stopped s (Each step (x ∷ y ∷ []))
  first_of_two s h = first_stops (step x) rest s h

  pub second_of_two : (s : Stop) (u : B) → step x (Ok u) → Stopped s (step y) → Stopped s (Each step (x ∷ y ∷ []))
  second_of_two s u done h =
      next_stops (step x) rest s u done
      (first_stops (Each step (y ∷ [])) (λ us. Gives (Ok (u ∷ us))) s (first_stops (step y) (λ v. After (Each step []) (λ vs. Gives (Ok (v ∷ vs)))) s h))

-- a step for one, as a step for each
pub alone : {A B : Type 0} (step : A → Step B) (x : A) (y : B) → step x (Ok y) → Each step (x ∷ []) (Ok (y ∷ []))
alone step x y h = (y, h, ([], refl, refl))

pub alone_stops : {A B : Type 0} (step : A → Step B) (x : A) (s : Stop) → Stopped s (step x) → Stopped s (Each step (x ∷ []))
alone_stops step x s h = first_stops (step x) (λ y. After (Each step []) (λ ys. Gives (Ok (y ∷ ys)))) s h

-- ---- readings

-- of every file there is some reading
pub some_bytes : (told : Option (List ℕ → List ℕ)) (name : List ℕ) → (bytes : List ℕ) × Told told name bytes
some_bytes None name = ([], λ contents e. absurd (cc))
some_bytes (Some contents) name = (contents name, λ other e. ap (λ (c : List ℕ → List ℕ). c name) (some_is contents other e))
  where
    some_is : (one other : List ℕ → List ℕ) → Some one ≡ Some other → one ≡ other
    some_is one other e = (cc)

-- ---- counts

-- what reads no file changes no count
pub own_counts : (names : List (List ℕ)) (counts : List ℕ → ℕ) (s : Stop) → IsNoRead s → StopCounts names counts counts s
own_counts names counts (stop.Refused (refusal.ReadFailed name)) own = absurd own
own_counts names counts (stop.Refused (refusal.TooLong name)) own = refl
own_counts names counts (stop.Refused (refusal.BadText name line column word)) own = refl
own_counts names counts (stop.Refused (refusal.BadRun name line column word)) own = refl
own_counts names counts (stop.Refused (refusal.WideScale name)) own = refl
own_counts names counts (stop.Refused (refusal.FewStatements name count)) own = refl
own_counts names counts stop.Mem own = refl

-- what reads no file leaves the counts as they were before it
pub counts_after : (names : List (List ℕ)) (before now : List ℕ → ℕ) (s : Stop) → now ≡ before → IsNoRead s → StopCounts names before now s
counts_after names before now s same own = subst (λ (b : List ℕ → ℕ). StopCounts names b now s) same (own_counts names now s own)

-- what comes after a read has its counts
pub counts_next : {A : Type 0} (names : List (List ℕ)) (before now : List ℕ → ℕ) (r : Result A Stop) → now ≡ before → IfErr r IsNoRead → Counts names before now r
counts_next names before now (Ok x) same none = same
counts_next names before now (Err s) same none = counts_after names before now s same none

-- a failed read of one of these files is one of more files
pub more_names : (names more : List (List ℕ)) → ((name : List ℕ) → Contains names name → Contains more name) → (before now : List ℕ → ℕ) (s : Stop)
    → StopCounts names before now s → StopCounts more before now s
more_names names more turn before now (stop.Refused (refusal.ReadFailed name)) h = (turn name.now h.0, h.1)
more_names names more turn before now (stop.Refused (refusal.TooLong name)) h = h
more_names names more turn before now (stop.Refused (refusal.BadText name line column word)) h = h
more_names names more turn before now (stop.Refused (refusal.BadRun name line column word)) h = h
more_names names more turn before now (stop.Refused (refusal.WideScale name)) h = h
more_names names more turn before now (stop.Refused (refusal.FewStatements name count)) h = h
more_names names more turn before now stop.Mem h = h

-- ---- a step on a file and then one on what it gave

module _ {A B : Type 0} (told : Option (List ℕ → List ℕ)) (before now : List ℕ → ℕ) (name : List ℕ) (first : File → Step A) (next : File → A → Step B) where
  abbrev both : File → Step B
  both file = After (first file) (next file)

  -- what stops the first, whatever was counted
  pub file_stops : (s : Stop) → ((reading : Option (List ℕ)) × ReadingFor told before now s name reading × Stopped s (first (file_as name reading)))
      → (reading : Option (List ℕ)) × ReadingFor told before now s name reading × Stopped s (both (file_as name reading))
  file_stops s h = (h.0, h.1, first_stops (first (file_as name h.0)) (next (file_as name h.0)) s h.2)

  -- what comes of the next, after the bytes that were read
  pub file_next : {X : Type 0} (seen : X → B) (x : A) (r : Result X Stop)
      → ((bytes : List ℕ) × Told told name bytes × first (file_as name (Some bytes)) (Ok x))
      → ((bytes : List ℕ) → Answers seen r (next (file_as name (Some bytes)) x)) → FileAnswers told before now name seen r both
  file_next seen x (Ok z) h k = (h.0, h.1, (x, h.2, k h.0))
  file_next seen x (Err s) h k =
      (Some h.0, record { read = h.1; fails = tt }, next_stops (first (file_as name (Some h.0))) (next (file_as name (Some h.0))) s x h.2 (k h.0))

-- a step after which the counts stand as before stops as it would have from the start
pub counts_moved : (names : List (List ℕ)) (before mid now : List ℕ → ℕ) (s : Stop) → mid ≡ before → StopCounts names mid now s → StopCounts names before now s
counts_moved names before mid now s same h = subst (λ (b : List ℕ → ℕ). StopCounts names b now s) same h

-- ---- a step on each of two files

module _ {A : Type 0} (told : Option (List ℕ → List ℕ)) (before now : List ℕ → ℕ) (first second : List ℕ) (step : File → Step A) where
  -- what stops the first: the second may have been read as anything that files tell
  pub first_unread : (s : Stop) → ((u : Option (List ℕ)) × ReadingFor told before now s first u × Stopped s (step (file_as first u)))
      → (u v : Option (List ℕ)) × ReadingFor told before now s first u × ReadingFor told before now s second v
      × Stopped s (Each step (file_as first u ∷ file_as second v ∷ []))
  first_unread s h =
      let other = some_bytes told second in
      (h.0, Some other.0, h.1, record { read = other.1; fails = tt }, first_of_two step (file_as first h.0) (file_as second (Some other.0)) s h.2)

module _ {A : Type 0} (told later : Option (List ℕ → List ℕ)) (before mid now : List ℕ → ℕ) (first second : List ℕ) (step : File → Step A)
    (unchanged : later ≡ told) (same : mid ≡ before) where
  -- what stops the second, after the first was read
  pub second_unread : (x : A) (s : Stop) → ((u : List ℕ) × Told told first u × step (file_as first (Some u)) (Ok x))
      → ((v : Option (List ℕ)) × ReadingFor later mid now s second v × Stopped s (step (file_as second v)))
      → (u v : Option (List ℕ)) × ReadingFor told before now s first u × ReadingFor told before now s second v
      × Stopped s (Each step (file_as first u ∷ file_as second v ∷ []))
  second_unread x s h k =
      let was : ReadingFor told before now s second k.0 =
      subst (λ (b : List ℕ → ℕ). ReadingFor told b now s second k.0) same
      (subst (λ (t : Option (List ℕ → List ℕ)). ReadingFor t mid now s second k.0) unchanged k.1) in
      (Some h.0, k.0, record { read = h.1; fails = tt }, was, second_of_two step (file_as first (Some h.0)) (file_as second k.0) s x h.2 k.2)

module _ {A : Type 0} (told later : Option (List ℕ → List ℕ)) (first second : List ℕ) (step : File → Step A) (unchanged : later ≡ told) where
  -- what both give
  pub both_read : (x y : A) → ((u : List ℕ) × Told told first u × step (file_as first (Some u)) (Ok x))
      → ((v : List ℕ) × Told later second v × step (file_as second (Some v)) (Ok y))
      → (u v : List ℕ) × Told told first u × Told told second v
      × Each step (file_as first (Some u) ∷ file_as second (Some v) ∷ []) (Ok (x ∷ y ∷ []))
  both_read x y h k =
      let was = subst (λ (t : Option (List ℕ → List ℕ)). Told t second k.0) unchanged k.1 in
      (h.0, k.0, h.1, was, both_of_two step (file_as first (Some h.0)) (file_as second (Some k.0)) x y h.2 k.2)

-- ---- a step on two files and then one on what it gave

module _ {A B : Type 0} (told : Option (List ℕ → List ℕ)) (before now : List ℕ → ℕ) (one two : List ℕ) (first : List File → Step A) (next : A → Step B) where
  abbrev of_both : List File → Step B
  of_both files = After (first files) next

  abbrev pair_as : Option (List ℕ) → Option (List ℕ) → List File
  pair_as u v = file_as one u ∷ file_as two v ∷ []

  pub pair_stops : (s : Stop)
      → ((u v : Option (List ℕ)) × ReadingFor told before now s one u × ReadingFor told before now s two v × Stopped s (first (pair_as u v)))
      → (u v : Option (List ℕ)) × ReadingFor told before now s one u × ReadingFor told before now s two v × Stopped s (of_both (pair_as u v))
  pair_stops s h = (h.0, h.1, h.2, h.3, first_stops (first (pair_as h.0 h.1)) next s h.4)

  pub pair_next : {X : Type 0} (seen : X → B) (x : A) (r : Result X Stop)
      → ((u v : List ℕ) × Told told one u × Told told two v × first (pair_as (Some u) (Some v)) (Ok x))
      → Answers seen r (next x) → PairAnswers told before now one two seen r of_both
  pair_next seen x (Ok z) h k = (h.0, h.1, h.2, h.3, (x, h.4, k))
  pair_next seen x (Err s) h k =
      let u : ReadingFor told before now s one (Some h.0) = record { read = h.2; fails = tt } in
      let v : ReadingFor told before now s two (Some h.1) = record { read = h.3; fails = tt } in
      (Some h.0, Some h.1, u, v, next_stops (first (pair_as (Some h.0) (Some h.1))) next s x h.4 k)
