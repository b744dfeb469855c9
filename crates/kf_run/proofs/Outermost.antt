-- Columns pushed through a program's outermost statements, and how many beliefs stand behind each.
use Rattle.std.proofs.Common.{◌≡◌, ℕ, ◌+◌, ◌-◌, ◌≤◌, Bool, true, false, List, [], ◌∷◌, ◌++◌, All, Contains, length, take, drop, slice_index, if◌then◌else◌, ⊎_elim, refl, sym, ap, ◌∙◌, subst, arith}
use Rattle.std.specs.List.{IsDistinct}
use Rattle.std.proofs.Math.Seq.{get_or-append_seam, take-add}
use Rattle.std.proofs.lemmas.Bool.{cases_eq}
use Rattle.std.proofs.lemmas.List.{get_or_append_left, length-append, length-map, take-append-drop, take_all}
use Rattle.std.proofs.lemmas.List.Elements.{All-cons, All-head, All-nil, All-tail}
use Rattle.std.proofs.lemmas.List.Sums.{sum_by-cons}
use Rattle.std.proofs.lemmas.Map.Keys.{IsDistinct-head}
use Rattle.std.proofs.lemmas.Option.{get_or_from_slice_get, slice_get_within}
use Rattle.kf_column.specs.declared.entry.Entry.{Entry}
use Rattle.kf_column.specs.Averages.{joint_column}
use Rattle.kf_column.specs.Columns.{IsColumn, proportional, weight_at}
use Rattle.kf_column.specs.Hypers.{Inner}
use Rattle.kf_column.specs.Joint.{Joint, mass}
use Rattle.kf_column.specs.Laws.{class_weight}
use Rattle.kf_column.specs.Merged.{AreMerged}
use Rattle.kf_column.specs.Shapes.{IsBelow}
use Rattle.kf_column.proofs.Scaling.{proportional_itself}
use Rattle.kf_column.proofs.Weights.{above_column, same_column}
use Rattle.kf_core.specs.Checked.{AreSound, declared_kinds}
use Rattle.kf_core.specs.Joint.{joint_of}
use Rattle.kf_core.specs.Pushing.{HasBeliefs, IsTrail}
use Rattle.kf_core.specs.Ready.{IsPushed, IsReady, IsStart}
use Rattle.kf_core.specs.Rows.{IsHyperOf}
use Rattle.kf_core.specs.Runs.{all_runs, chain}
use Rattle.kf_core.specs.Sts.{StTree, sts}
use Rattle.kf_core.specs.ChoiceLaws.{ChoicesAreShares}
use Rattle.kf_core.specs.SupportLaws.{CommonScaleIsLeast, ProgramAgrees, RunsChain, ScalesArePositive}
use Rattle.kf_core.proofs.Filled.{all_full}
use Rattle.kf_core.proofs.Solid.{all_solid}
use Rattle.kf_push.specs.Following.{Goes}
use Rattle.kf_push.specs.Meanings.{AreApart, IsFinished, IsMeaning, Meaning, runs_between, store_count}
use Rattle.kf_column.proofs.Beliefs.{merged_columns, merged_distinct, merged_has, merged_weights, some_merged}
use Rattle.kf_push.proofs.Carrying.{Matrix, Runner, pushed_again, pushed_chain, pushed_columns, pushed_stay}
use Rattle.kf_run.specs.Behind.{Behind, front}
use Rattle.kf_run.proofs.Parts.{part, sound_behind}
use Rattle.kf_push.proofs.Programs.{begun_rows, program_hyper, start_goes}
use Rattle.kf_push.proofs.Statements.{blocks_split, goes_first}

-- ---- one column

module _ (c : List Entry) (is : IsColumn c) where
  abbrev Lone : Matrix
  Lone = c ∷ []

  lone_are : All IsColumn Lone
  lone_are = All-cons IsColumn c [] is (All-nil IsColumn)

  -- a column that weighs as this one or not at all is this one
  weighs_alike : (v : List Entry) → IsColumn v → (b : Bool) → ((x : ℕ) → weight_at v x ≡ (if b then weight_at c x else 0)) → v ≡ c
  weighs_alike v of_v true weighs = same_column 0 v c (above_column v of_v) (above_column c is) weighs
  weighs_alike v of_v false weighs = absurd (of_v.some (same_column 0 v [] (above_column v of_v) tt weighs))

  lone_weight : (v : List Entry) (x : ℕ) → class_weight Lone v x ≡ (if proportional c v then weight_at c x else 0)
  lone_weight v x = let sum = sum_by-cons (λ u. if proportional u v then weight_at u x else 0) c [] in omega (arith, sum)

  all_alike : (vs : Matrix) → All IsColumn vs → All (λ v. (x : ℕ) → weight_at v x ≡ class_weight Lone v x) vs → All (λ v. v ≡ c) vs
  all_alike [] are weigh = All-nil (λ v. v ≡ c)
  all_alike (v ∷ vs) are weigh =
      All-cons (λ u. u ≡ c) v vs
      (weighs_alike v (All-head IsColumn v vs are) (proportional c v) (λ x. All-head (λ u. (y : ℕ) → weight_at u y ≡ class_weight Lone u y) v vs weigh x ∙ lone_weight v x))
      (all_alike vs (All-tail IsColumn v vs are) (All-tail (λ u. (y : ℕ) → weight_at u y ≡ class_weight Lone u y) v vs weigh))

  only_one : (vs : Matrix) (u : List Entry) → All (λ v. v ≡ c) vs → IsDistinct proportional vs → Contains vs u → vs ≡ Lone
  only_one [] u alike apart has = absurd (omega (arith, has.1))
  only_one (v ∷ []) u alike apart has = ap (λ w. w ∷ []) (All-head (λ w. w ≡ c) v [] alike)
  only_one (v ∷ w ∷ ws) u alike apart has =
      let one : v ≡ c = All-head (λ k. k ≡ c) v (w ∷ ws) alike in
      let other : w ≡ c = All-head (λ k. k ≡ c) w ws (All-tail (λ k. k ≡ c) v (w ∷ ws) alike) in
      let differ : proportional v w ≡ false = (IsDistinct-head proportional v (w ∷ ws) apart).0 in
      let agree : proportional v w ≡ true = (λ i. proportional (one i) (other i)) ∙ proportional_itself c in
      absurd (let clash : true ≡ false = sym agree ∙ differ in cc)

  -- one column is merged
  pub lone_merged : AreMerged Lone Lone
  lone_merged =
      let some = some_merged Lone lone_are in
      let has = merged_has Lone some.0 lone_are some.1 c (0, omega arith, refl) in
      subst (AreMerged Lone)
      (only_one some.0 has.0 (all_alike some.0 (merged_columns Lone some.0 lone_are some.1) (merged_weights Lone some.0 lone_are some.1)) (merged_distinct Lone some.0 lone_are some.1) has.1)
      some.1

-- ---- beliefs

-- merged columns are as many as the beliefs
pub as_many : (from : Runner) (columns now : Matrix) (n : ℕ) → IsPushed from columns now → n ≡ length now → HasBeliefs from columns n
as_many from columns now n p same = record {
  behind = p.behind;
  are_behind = p.are_behind;
  inners = p.are_merged.inners;
  is_hyper = p.are_merged.is_hyper;
  counted = same ∙ (ap length p.are_merged.sums ∙ length-map p.are_merged.inners joint_column);
}

-- ---- statements

-- so many statements and the next one are one more
front_more : {X : Type 0} (at to : ℕ) (xs : List X) → at ≤ to → take to xs ≡ take at xs ++ part at to xs
front_more at to xs order =
    let more : to ≡ at + (to - at) = omega (arith, order) in
    ap (λ n. take n xs) more ∙ take-add at (to - at) xs

-- so many counts of beliefs
pub record Counted (m : Meaning) (at : ℕ) (column : List Entry) (counts : List ℕ) : Type 0 where
  pub long : length counts ≡ at + 1
  pub each : (i : ℕ) → i ≤ at → HasBeliefs (front m i) (column ∷ []) (slice_index counts i)

-- merged columns are apart
pub behind_apart : (m : Meaning) (at : ℕ) (column : List Entry) (now : Joint) → Behind m at column now → AreApart now.columns
behind_apart m at column now b =
    merged_distinct now.columns now.columns (pushed_columns (front m at) (column ∷ []) now.columns b.pushed) (pushed_again (front m at) (column ∷ []) now.columns b.pushed)

pub behind_none : (m : Meaning) (column : List Entry) (first : Joint) → first.columns ≡ column ∷ [] → IsStart m.turns m.program column → first.scale ≡ m.scale → All (IsBelow (store_count m)) first.columns
    → mass first.columns ≡ m.scale → IsReady m.program.types m.turns m.program.body first.columns → Behind m 0 column first
behind_none m column first is start scale below whole ready = record {
  start = start;
  pushed = subst (IsPushed (front m 0) (column ∷ [])) (sym is) (pushed_stay (column ∷ []) (column ∷ []) (lone_are column start.is_column) (lone_merged column start.is_column));
  scale = scale;
  below = below;
  whole = whole;
  ready = ready;
}

module _ (m : Meaning) (is : IsMeaning m) (shares : ChoicesAreShares) (agrees : ProgramAgrees) (chains : RunsChain) (scales : ScalesArePositive) (least : CommonScaleIsLeast) (column : List Entry) where
  abbrev behind : ℕ → Runner
  behind at = all_runs m.program.types m.turns (sts (drop at m.program.body))

  abbrev all_of : List StTree → Runner
  all_of xs = all_runs m.program.types m.turns (sts xs)

  chain_of : (xs ys zs : List StTree) → zs ≡ xs ++ ys → all_of zs ≡ (λ n. chain (all_of xs n) (all_of ys))
  chain_of xs ys zs same = ap all_of same ∙ (λ i n. chains m.program.types m.turns xs ys n i)

  rest_sound : (at : ℕ) → AreSound (declared_kinds m.program) (drop at m.program.body)
  rest_sound at =
      sound_behind (declared_kinds m.program) (take at m.program.body) (drop at m.program.body)
      (subst (AreSound (declared_kinds m.program)) (sym (take-append-drop at m.program.body)) is.checked.sound)

  -- the start can go through the first statements
  front_goes : (at : ℕ) → IsStart m.turns m.program column → Goes (front m at) (column ∷ [])
  front_goes at start =
      goes_first (front m at) (behind at) (column ∷ [])
      (all_full m.program.types m.turns (sts (drop at m.program.body)) (all_solid m.program.types (declared_kinds m.program) (rest_sound at)))
      (subst (λ f. Goes f (column ∷ [])) (chain_of (take at m.program.body) (drop at m.program.body) m.program.body (sym (take-append-drop at m.program.body))) (start_goes m.turns m.program is.checked is.clear shares agrees chains scales least column start))

  pub behind_more : (at to : ℕ) → at ≤ to → (now next : Joint) → Behind m at column now → IsPushed (runs_between m at to) now.columns next.columns → next.scale ≡ m.scale
      → All (IsBelow (store_count m)) next.columns → mass next.columns ≡ m.scale → IsReady m.program.types m.turns (drop to m.program.body) next.columns → Behind m to column next
  behind_more at to order now next b step scale below whole ready =
      let same : front m to ≡ (λ n. chain (front m at n) (runs_between m at to)) =
      chain_of (take at m.program.body) (part at to m.program.body) (take to m.program.body) (front_more at to m.program.body order) in
      record {
        start = b.start;
        pushed =
            subst (λ f. IsPushed f (column ∷ []) next.columns) (sym same)
            (pushed_chain (front m at) (runs_between m at to) (column ∷ []) now.columns next.columns (blocks_split m.program.types m.turns (sts (take at m.program.body)))
            (lone_are column b.start.is_column) (front_goes at b.start) (subst (λ f. Goes f (column ∷ [])) same (front_goes to b.start)) b.pushed step);
        scale = scale;
        below = below;
        whole = whole;
        ready = ready;
      }

  -- the hyper of what is behind all statements is the program's
  pub behind_all : (at : ℕ) (now : Joint) (inners : List Inner) → length m.program.body ≤ at → Behind m at column now → IsFinished m.program now.columns inners
      → IsHyperOf (joint_of m.turns m.program) inners
  behind_all at now inners past b finished =
      program_hyper m.turns m.program is.checked is.clear shares agrees chains scales least column now.columns finished.targets inners b.start
      (subst (λ xs. IsPushed (all_of xs) (column ∷ []) now.columns) (take_all at m.program.body past) b.pushed) finished.are_targets finished.is_hyper

-- ---- counts

module _ (m : Meaning) (column : List Entry) where
  pub counted_first : (first : Joint) (n : ℕ) (before counts : List ℕ) → Behind m 0 column first → before ≡ [] → counts ≡ before ++ n ∷ [] → n ≡ length first.columns → Counted m 0 column counts
  counted_first first n before counts b none put count =
      let is : counts ≡ n ∷ [] = put ∙ ap (λ ns. ns ++ n ∷ []) none in
      record {
        long = ap length is;
        each = λ i first_one.
            let zero_is : i ≡ 0 = omega (arith, first_one) in
            let read : slice_index counts i ≡ n = λ k. slice_index (is k) (zero_is k) in
            subst (λ at. HasBeliefs (front m at) (column ∷ []) (slice_index counts i)) (sym zero_is) (as_many (front m 0) (column ∷ []) first.columns (slice_index counts i) b.pushed (read ∙ count));
      }

  pub counted_more : (at : ℕ) (next : Joint) (n : ℕ) (before counts : List ℕ) → Behind m (at + 1) column next → Counted m at column before → counts ≡ before ++ n ∷ [] → n ≡ length next.columns
      → Counted m (at + 1) column counts
  counted_more at next n before counts b had put count = record {
    long = let size = ap length put in omega (arith, size, length-append before (n ∷ []), had.long);
    each = λ i within.
        ⊎_elim
        (λ (last : i ≡ at + 1).
        let here : i ≡ length before = last ∙ sym had.long in
        let read : slice_index counts i ≡ n = (λ k. slice_index (put k) (here k)) ∙ get_or-append_seam before n [] 0 in
        subst (λ k. HasBeliefs (front m k) (column ∷ []) (slice_index counts i)) (sym last) (as_many (front m (at + 1)) (column ∷ []) next.columns (slice_index counts i) b.pushed (read ∙ count)))
        (λ (other : i ≡ at + 1 → ⊥).
        let earlier : i ≤ at = omega (arith, within, other) in
        let read : slice_index counts i ≡ slice_index before i = ap (λ ns. slice_index ns i) put ∙ get_or_append_left before (n ∷ []) 0 i (omega (arith, earlier, had.long)) in
        subst (HasBeliefs (front m i) (column ∷ [])) (sym read) (had.each i earlier))
        (cases_eq i (at + 1));
  }

  pub counted_all : IsMeaning m → ChoicesAreShares → ProgramAgrees → RunsChain → ScalesArePositive → CommonScaleIsLeast → (at : ℕ) (now : Joint) (counts : List ℕ) → at ≡ length m.program.body → Behind m at column now → Counted m at column counts → IsTrail m.turns m.program counts
  counted_all is shares agrees chains scales least at now counts last b had =
      let rows = begun_rows m.turns m.program is.checked is.clear shares agrees chains scales least column b.start in
      record {
        rows = rows.0;
        are_rows = rows.1;
        long = omega (arith, had.long, last);
        each = λ i count here.
            let within = slice_get_within counts i count here in
            let read : slice_index counts i ≡ count = get_or_from_slice_get counts i count 0 here in
            subst (λ columns. HasBeliefs (front m i) columns count) (sym rows.2)
            (subst (HasBeliefs (front m i) (column ∷ [])) read (had.each i (omega (arith, within, had.long))));
      }
