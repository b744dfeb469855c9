-- What holds of columns pushed through statements of which one may be silent.
use Rattle.std.proofs.Common.{◌≡◌, ℕ, suc, ◌+◌, ◌<◌, ◌≤◌, ◌==◌, Bool, true, false, ◌&&◌, List, [], ◌∷◌, ◌++◌, All, get_or, length, take, None, refl, sym, ap, ◌∙◌, subst, arith}
use Rattle.std.proofs.lemmas.Bool.{eq-eqb, false_from_ne_true, ne_eqb}
use Rattle.std.specs.Prelude.{sum_by}
use Rattle.std.proofs.lemmas.List.{take_all, take_more}
use Rattle.std.proofs.lemmas.List.Elements.{All-append, All-cons, All-head, All-nil}
use Rattle.std.proofs.lemmas.List.Sums.{sum_by-append, sum_by_more, sum_by_more_le}
use Rattle.std.proofs.lemmas.Slice.Eq.{bytes_eq-Decides}
use Rattle.kf_value.specs.Shapes.{shape_size, shape_types}
use Rattle.kf_value.specs.Types.{TypeTree}
use Rattle.kf_value.specs.declared.shape.Shape.{Shape}
use Rattle.kf_column.specs.declared.entry.Entry.{Entry}
use Rattle.kf_column.specs.Columns.{IsColumn, total, weight_at}
use Rattle.kf_column.specs.Joint.{Joint, mass}
use Rattle.kf_column.specs.Merged.{AreMerged}
use Rattle.kf_column.specs.Shapes.{IsBelow}
use Rattle.kf_column.proofs.Beliefs.{merged_below}
use Rattle.kf_column.proofs.Scaling.{total_positive}
use Rattle.kf_core.specs.Checked.{AreSound, IsSound}
use Rattle.kf_core.specs.Pushing.{AreBehind}
use Rattle.kf_core.specs.Runs.{Run, all_runs, runs, stay}
use Rattle.kf_core.specs.Sts.{StTree, sts}
use Rattle.kf_core.proofs.Measures.{RunsWithin, Trace, run_value, runs_value}
use Rattle.kf_core.proofs.SoundParts.{sound_first}
use Rattle.kf_core.proofs.WeightKept.{Keeps, all_weight}
use Rattle.kf_eval.specs.Kinds.{shape_kinds}
use Rattle.kf_push.specs.Following.{Takes}
use Rattle.kf_push.specs.Merging.{SplitsOnce}
use Rattle.kf_silent.specs.Quiet.{hushed}
use Rattle.kf_push.proofs.Carrying.{Runner, Matrix, behind_columns, none_behind, pushed_stay}
use Rattle.kf_silent.proofs.QuietBlock.{behind_more}
use Rattle.kf_silent.proofs.QuietRuns.{goes_alike, sum_behind}
use Rattle.kf_push.proofs.Splitting.{splits_once}
use Rattle.kf_silent.specs.Silent.{Path, all_silent_runs, silent_runs, within}
use Rattle.kf_silent.proofs.Hushing.{SameHushed, block_hushed, statement_hushed}
use Rattle.kf_silent.proofs.Ranges.{block_seen, silent_hushed, statement_seen}
use Rattle.kf_silent.proofs.SilentGoes.{same_full}
use Rattle.kf_silent.proofs.SilentSplits as traces
use Rattle.kf_silent.specs.Paths.{only}
use Rattle.kf_run.specs.Going.{CanGo, HasGone}
use Rattle.kf_run.specs.Silence.{silent_at}
use Rattle.kf_run.proofs.Blocks.{block_carries, statement_carries}
use Rattle.kf_run.proofs.Onward.{Carries, RunsOn, carried_mass, on_can, on_end, on_start, on_step}

-- ---- paths

-- a path that begins with the number goes on as its rest
pub only_after : (n : ℕ) (path rest other : Path) → path ≡ n ∷ rest → only rest other ≡ only path (n ∷ other)
only_after n path rest other is =
    sym (ap (λ (b : Bool). b && only rest other) (eq-eqb n n refl)) ∙ ap (λ (p : Path). only p (n ∷ other)) (sym is)

-- one that begins with another number doesn't go there
pub only_beside : (n m : ℕ) (path rest other : Path) → path ≡ m ∷ rest → (m ≡ n → ⊥) → false ≡ only path (n ∷ other)
only_beside n m path rest other is apart =
    sym (false_from_ne_true (only path (n ∷ other)) (λ same. apart (first_is m n rest other (sym is ∙ (bytes_eq-Decides path (n ∷ other)).0 same))))
  where
    first_is : (a b : ℕ) (s t : Path) → a ∷ s ≡ b ∷ t → a ≡ b
    first_is a b s t e = cc

-- a path names the statement itself where it is empty
pub itself_at : (path : Path) → (length path == 0) ≡ only path []
itself_at [] = refl
itself_at (n ∷ path) = ne_eqb (length (n ∷ path)) 0 (λ none. omega (arith, none))

-- ---- runs that differ in their traces alone

module _ (t : Trace) (v : ℕ) where
  hushed_value : (rs : List Run) → runs_value all_weight t v (hushed rs) ≡ runs_value all_weight t v rs
  hushed_value [] = refl
  hushed_value (r ∷ rs) = ap (λ n. run_value all_weight t v r + n) (hushed_value rs)

  hushed_within : (rs : List Run) → RunsWithin all_weight t v rs → RunsWithin all_weight t v (hushed rs)
  hushed_within [] h = tt
  hushed_within (r ∷ rs) h = (h.0, hushed_within rs h.1)

  seen_within : (rs : List Run) → RunsWithin all_weight t v (hushed rs) → RunsWithin all_weight t v rs
  seen_within [] h = tt
  seen_within (r ∷ rs) h = (h.0, seen_within rs h.1)

keeps_alike : (from other : Runner) → SameHushed from other → Keeps other → Keeps from
keeps_alike from other same keeps t n v inside =
    sym (hushed_value t v (from n))
    ∙ (ap (runs_value all_weight t v) (same n)
    ∙ (hushed_value t v (other n)
    ∙ keeps t n v (seen_within t v (other n) (subst (RunsWithin all_weight t v) (same n) (hushed_within t v (from n) inside)))))

carries_alike : (from other : Runner) → SameHushed from other → SplitsOnce from → Carries other → Carries from
carries_alike from other same splits carries = record {
  full = λ n. same_full (from n) (other n) (same n) (carries.full n);
  keeps = keeps_alike from other same carries.keeps;
  splits = splits;
}

can_alike : (from other : Runner) (size : ℕ) (now : Joint) → SameHushed from other → CanGo from size now → CanGo other size now
can_alike from other size now same can = record { are = can.are; below = can.below; fits = can.fits; goes = goes_alike from other same now.columns can.goes }

-- ---- one column after the other

-- where all columns can go, each can
pub one_can : (from : Runner) (size : ℕ) (now : Joint) → CanGo from size now → (i : ℕ) (c : List Entry) → i < length now.columns
    → CanGo from size (record { scale = now.scale; columns = get_or now.columns i c ∷ [] })
one_can from size now can i c inside =
    let column = get_or now.columns i c in
    let Along : List Entry → Type 0 = λ column. All (λ (e : Entry). All (Takes e.weight) (from e.value)) column in
    let part = sum_by_more_le total now.columns i c inside in
    record {
      are = All-cons IsColumn column [] (can.are i c inside) (All-nil IsColumn);
      below = All-cons (IsBelow size) column [] (can.below i c inside) (All-nil (IsBelow size));
      fits = omega (arith, part, can.fits);
      goes = All-cons Along column [] (can.goes i c inside) (All-nil Along);
    }

-- so many columns, each gone through alone, and what came of it added up
pub record Hushed (from : Runner) (size : ℕ) (before : Matrix) (count : ℕ) (done : Matrix) : Type 0 where
  pub behind : AreBehind (λ n. hushed (from n)) (take count before) done
  pub below : All (IsBelow size) done
  pub weighs : mass done ≡ mass (take count before)

module _ (from : Runner) (size : ℕ) where
  pub hushed_none : (before : Matrix) → Hushed from size before 0 []
  hushed_none before = record { behind = none_behind (λ n. hushed (from n)); below = All-nil (IsBelow size); weighs = refl }

  pub hushed_more : (before : Matrix) (i : ℕ) (column sum : List Entry) (done next : Matrix) → i < length before → column ≡ get_or before i column
      → Hushed from size before i done → AreBehind (λ n. hushed (from n)) (column ∷ []) (sum ∷ []) → IsBelow size sum → total sum ≡ total column
      → next ≡ done ++ sum ∷ [] → Hushed from size before (i + 1) next
  hushed_more before i column sum done next inside is had behind below weighs put =
      let more : take (i + 1) before ≡ take i before ++ column ∷ [] =
      take_more before i column inside ∙ ap (λ (d : List Entry). take i before ++ d ∷ []) (sym is) in
      subst (Hushed from size before (i + 1)) (sym put) (record {
        behind = subst (λ (front : Matrix). AreBehind (λ n. hushed (from n)) front (done ++ sum ∷ [])) (sym more)
            (behind_more (λ n. hushed (from n)) (take i before) column done (sum ∷ []) had.behind behind);
        below = All-append (IsBelow size) done (sum ∷ []) had.below (All-cons (IsBelow size) sum [] below (All-nil (IsBelow size)));
        weighs =
            let parts = sum_by-append total done (sum ∷ []) in
            let so_far = sum_by_more total before i column inside in
            omega (arith, parts, had.weighs, weighs, ap total is, so_far);
      })

  -- all of them, with those of one posterior added up
  pub hushed_gone : (now list after : Joint) → list.scale ≡ now.scale → AreBehind (λ n. hushed (from n)) now.columns list.columns
      → All (IsBelow size) list.columns → AreMerged list.columns after.columns → after.scale ≡ list.scale → HasGone (λ n. hushed (from n)) size now after
  hushed_gone now list after same behind below merged scale = record {
    pushed = record { behind = list.columns; are_behind = behind; are_merged = merged };
    scale = scale ∙ same;
    below =
        merged_below size list.columns after.columns (behind_columns (λ n. hushed (from n)) now.columns list.columns behind) merged below;
  }

  -- after the last column
  pub hushed_all : (before : Matrix) (i : ℕ) (done : Matrix) → length before ≤ i → Hushed from size before i done → Hushed from size before (length before) done
  hushed_all before i done past had =
      let same : take i before ≡ take (length before) before = take_all i before past ∙ sym (take_all (length before) before (omega arith)) in
      record {
        behind = subst (λ (front : Matrix). AreBehind (λ n. hushed (from n)) front done) same had.behind;
        below = had.below;
        weighs = had.weighs ∙ ap mass same;
      }

  pub all_behind : (before : Matrix) (done : Matrix) → Hushed from size before (length before) done → AreBehind (λ n. hushed (from n)) before done
  all_behind before done had =
      subst (λ (front : Matrix). AreBehind (λ n. hushed (from n)) front done) (take_all (length before) before (omega arith)) had.behind

  pub all_weigh : (before : Matrix) (done : Matrix) → Hushed from size before (length before) done → mass done ≡ mass before
  all_weigh before done had = had.weighs ∙ ap mass (take_all (length before) before (omega arith))

-- a copy of a column alone is that column alone
pub copied_alone : {scale : ℕ} {column copied : List Entry} {one : Joint} → one ≡ record { scale = scale; columns = copied ∷ [] } → copied ≡ column
    → one ≡ record { scale = scale; columns = column ∷ [] }
copied_alone {scale} {column} {copied} {one} is same = subst (λ (d : List Entry). one ≡ record { scale = scale; columns = d ∷ [] }) same is

-- what came of a column is added up to one
module _ (from : Runner) (size : ℕ) (carries : Carries from) (scale : ℕ) (column : List Entry) (one after : Joint)
    (alone : one ≡ record { scale = scale; columns = column ∷ [] }) (can : CanGo from size one) (gone : HasGone from size one after) where
  abbrev lone : Joint
  lone = record { scale = scale; columns = column ∷ [] }

  lone_can : CanGo from size lone
  lone_can = subst (CanGo from size) alone can

  lone_gone : HasGone from size lone after
  lone_gone = subst (λ (j : Joint). HasGone from size j after) alone gone

  weighs : mass after.columns ≡ total column
  weighs =
      let kept = carried_mass from (column ∷ []) after.columns carries lone_can.goes lone_gone.pushed in
      omega (arith, kept)

  pub some_left : after.columns ≡ [] → ⊥
  some_left none =
      let some = total_positive column (All-head IsColumn column [] lone_can.are) in
      omega (arith, some, weighs, ap mass none)

  module _ (sum : List Entry) where
    pub summed_behind : IsColumn sum → ((x : ℕ) → weight_at sum x ≡ sum_by (λ d. weight_at d x) after.columns)
        → AreBehind (λ n. hushed (from n)) (column ∷ []) (sum ∷ [])
    summed_behind is weights = sum_behind from column after.columns lone_gone.pushed sum is weights

    pub summed_total : total sum ≡ mass after.columns → total sum ≡ total column
    summed_total kept = kept ∙ weighs

-- ---- statements

module _ (shape : Shape) (turns : ℕ) where
  abbrev size : ℕ
  size = shape_size shape

  abbrev ts : List TypeTree
  ts = shape_types shape

  -- the silent runs of a statement, and of those of a block from one with this place on
  abbrev pub one : (Path → Bool) → StTree → Runner
  one silent x = silent_runs silent (shape_types shape) turns x

  abbrev pub all : (Path → Bool) → ℕ → List StTree → Runner
  all silent i xs = all_silent_runs silent (shape_types shape) turns i (sts xs)

  pub one_carries : (silent : Path → Bool) (x : StTree) → IsSound (shape_kinds shape) x → Carries (one silent x)
  one_carries silent x sound =
      carries_alike (one silent x) (runs ts turns x) (statement_hushed ts turns silent x)
      (splits_once (one silent x) (traces.statement_splits ts turns silent x)) (statement_carries shape turns x sound)

  pub all_carries : (silent : Path → Bool) (i : ℕ) (xs : List StTree) → AreSound (shape_kinds shape) xs → Carries (all silent i xs)
  all_carries silent i xs sound =
      carries_alike (all silent i xs) (all_runs ts turns (sts xs)) (block_hushed ts turns silent i (sts xs))
      (splits_once (all silent i xs) (traces.block_splits ts turns silent i (sts xs))) (block_carries shape turns xs sound)

  -- what can go along the silent runs can go along the runs
  pub seen_can : (silent : Path → Bool) (x : StTree) (now : Joint) → CanGo (one silent x) (shape_size shape) now
      → CanGo (runs (shape_types shape) turns x) (shape_size shape) now
  seen_can silent x now can = can_alike (one silent x) (runs ts turns x) size now (statement_hushed ts turns silent x) can

  -- where nothing is silent, they are the same
  none_silent : (x : StTree) → runs (shape_types shape) turns x ≡ one (silent_at None) x
  none_silent x = λ i n. sym (statement_seen ts turns (silent_at None) x (λ path. refl) n) i

  pub none_all : (xs : List StTree) → all_runs (shape_types shape) turns (sts xs) ≡ all (silent_at None) 0 xs
  none_all xs = λ i n. sym (block_seen ts turns (silent_at None) 0 (sts xs) (λ j path later. refl) n) i

  pub none_can : (x : StTree) (now : Joint) → CanGo (runs (shape_types shape) turns x) (shape_size shape) now
      → CanGo (one (silent_at None) x) (shape_size shape) now
  none_can x now = subst (λ (from : Runner). CanGo from size now) (none_silent x)

  pub none_gone : (x : StTree) (now after : Joint) → HasGone (one (silent_at None) x) (shape_size shape) now after
      → HasGone (runs (shape_types shape) turns x) (shape_size shape) now after
  none_gone x now after = subst (λ (from : Runner). HasGone from size now after) (sym (none_silent x))

  -- where the statement itself is silent, nothing is seen of its runs
  pub itself_is : (silent : Path → Bool) (x : StTree) → silent [] ≡ true → (λ n. hushed (runs (shape_types shape) turns x n)) ≡ one silent x
  itself_is silent x is = λ i n. sym (silent_hushed ts turns silent is x n) i

  -- the set of silent statements, by what it says of each path
  pub same_one : (silent other : Path → Bool) (x : StTree) → ((path : Path) → silent path ≡ other path) → one silent x ≡ one other x
  same_one silent other x same = ap (λ (s : Path → Bool). one s x) (λ i path. same path i)

  pub same_all : (silent other : Path → Bool) (i : ℕ) (xs : List StTree) → ((path : Path) → silent path ≡ other path)
      → all silent i xs ≡ all other i xs
  same_all silent other i xs same = ap (λ (s : Path → Bool). all s i xs) (λ j path. same path j)

  -- after some statements, with those from the place i on to come
  pub record SilentOn (whole : Runner) (silent : Path → Bool) (before : Joint) (i : ℕ) (left : List StTree) (now : Joint) : Type 0 where
    pub sound : AreSound (shape_kinds shape) left
    pub merged : AreMerged now.columns now.columns
    pub on : RunsOn (shape_size shape) whole before (all silent i left) now

  pub silent_start : (silent : Path → Bool) (before : Joint) (i : ℕ) (xs : List StTree) → AreSound (shape_kinds shape) xs
      → AreMerged before.columns before.columns → CanGo (all silent i xs) (shape_size shape) before → SilentOn (all silent i xs) silent before i xs before
  silent_start silent before i xs sound merged can = record { sound = sound; merged = merged; on = on_start size (all silent i xs) before can }

  module _ (whole : Runner) (silent : Path → Bool) (before : Joint) (i : ℕ) (x : StTree) (left : List StTree) (now : Joint)
      (on : SilentOn whole silent before i (x ∷ left) now) where
    pub next_sound : IsSound (shape_kinds shape) x
    next_sound = (sound_first (shape_kinds shape) on.sound).0

    others_sound : AreSound (shape_kinds shape) left
    others_sound = (sound_first (shape_kinds shape) on.sound).1

    module _ (here : Path → Bool) (is : (path : Path) → here path ≡ silent (i ∷ path)) where
      pub next_can : CanGo (one here x) (shape_size shape) now
      next_can =
          subst (λ (from : Runner). CanGo from size now) (sym (same_one here (within silent i) x is))
          (on_can size whole before (one (within silent i) x) (all silent (suc i) left) now
          (all_carries silent (suc i) left others_sound).full on.on)

      pub silent_step : (next : Joint) → HasGone (one here x) (shape_size shape) now next → AreMerged next.columns next.columns
          → SilentOn whole silent before (i + 1) left next
      silent_step next gone merged =
          let more : suc i ≡ i + 1 = omega arith in
          subst (λ (j : ℕ). SilentOn whole silent before j left next) more (record {
            sound = others_sound;
            merged = merged;
            on = on_step size whole before (one (within silent i) x) (all silent (suc i) left) now
                (all_carries silent (suc i) left others_sound).full on.on (one_carries (within silent i) x next_sound) next
                (subst (λ (from : Runner). HasGone from size now next) (same_one here (within silent i) x is) gone);
          })

  -- a skip leaves merged columns as they are
  pub silent_skip : (whole : Runner) (silent : Path → Bool) (before : Joint) (i : ℕ) (x : StTree) (left : List StTree) (now : Joint)
      → stay ≡ one (within silent i) x → SilentOn whole silent before i (x ∷ left) now → SilentOn whole silent before (i + 1) left now
  silent_skip whole silent before i x left now skips on =
      let can = next_can whole silent before i x left now on (within silent i) (λ path. refl) in
      silent_step whole silent before i x left now on (within silent i) (λ path. refl) now
      (subst (λ (from : Runner). HasGone from size now now) skips
      (record { pushed = pushed_stay now.columns now.columns can.are on.merged; scale = refl; below = can.below })) on.merged

  pub silent_end : (whole : Runner) (silent : Path → Bool) (before : Joint) (i : ℕ) (left : List StTree) (now : Joint) → left ≡ []
      → SilentOn whole silent before i left now → HasGone whole (shape_size shape) before now
  silent_end whole silent before i left now none on =
      let last : SilentOn whole silent before i [] now = subst (λ us. SilentOn whole silent before i us now) none on in
      on_end size whole before now last.on last.merged
