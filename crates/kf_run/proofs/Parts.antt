-- A part of a program's statements: what can be pushed through what is left can be pushed through a part of it, and then through the rest.
use Rattle.std.proofs.Common.{◌≡◌, ℕ, ◌+◌, ◌-◌, ◌≤◌, ◌<◌, List, [], ◌∷◌, ◌++◌, All, None, length, map, take, drop, get_or, refl, sym, ap, ◌∙◌, subst, arith}
use Rattle.std.proofs.lemmas.List.{drop-drop, drop-map, length-map, take-append-drop, take-map, take_more}
use Rattle.std.proofs.lemmas.List.Elements.{All-append, All-cons, All-nil}
use Rattle.kf_value.proofs.ListLemmas.{left_step}
use Rattle.kf_value.specs.Shapes.{shape_size, shape_types}
use Rattle.kf_column.specs.Columns.{IsColumn}
use Rattle.kf_column.specs.Joint.{Joint, mass}
use Rattle.kf_column.specs.Merged.{AreMerged}
use Rattle.kf_column.specs.Shapes.{IsBelow}
use Rattle.kf_core.specs.declared.program.Program.{Program}
use Rattle.kf_core.specs.declared.st.St.{St}
use Rattle.kf_core.specs.Checked.{AreSound, IsChecked, IsSound, more, none}
use Rattle.kf_core.specs.Ready.{IsPushed, IsReady}
use Rattle.kf_core.specs.Runs.{chain, runs}
use Rattle.kf_core.specs.Sts.{StTree}
use Rattle.kf_core.specs.SupportLaws.{BlockAgrees, RunsChain}
use Rattle.kf_core.specs.Views.{program_tree, st_items, st_tree}
use Rattle.kf_core.proofs.Measures.{Full}
use Rattle.kf_core.proofs.SoundParts.{sound_first, whole_sound}
use Rattle.kf_eval.specs.Kinds.{shape_kinds}
use Rattle.kf_value.specs.Kinds.{KindTree}
use Rattle.kf_push.specs.Following.{Goes}
use Rattle.kf_run.specs.Going.{CanGo, HasGone}
use Rattle.kf_run.specs.Silence.{silent_at}
use Rattle.kf_column.proofs.Beliefs.{merged_below, merged_columns, merged_mass}
use Rattle.kf_run.proofs.Blocks.{block, block_full, single_can, single_gone}
use Rattle.kf_run.proofs.Silencing as silencing
use Rattle.kf_push.proofs.Carrying.{Matrix, Runner, goes_behind, goes_merged, pushed_merged}
use Rattle.kf_push.proofs.Statements.{goes_first, goes_ready, ready_goes}

-- what holds of so many and of the next one
pub all_more : {X : Type 0} (P : X → Type 0) (xs ys : List X) (i : ℕ) (x : X) → ys ≡ xs → i < length ys → x ≡ get_or ys i x → P x → All P (take i xs)
    → All P (take (i + 1) xs)
all_more P xs ys i x same within read holds before =
    let fits : i < length xs = subst (λ zs. i < length zs) same within in
    let here : x ≡ get_or xs i x = subst (λ zs. x ≡ get_or zs i x) same read in
    subst (All P) (sym (take_more xs i x fits)) (All-append P (take i xs) (get_or xs i x ∷ []) before
    (All-cons P (get_or xs i x) [] (subst P here holds) (All-nil P)))

module _ (ks : List KindTree) where
  pub sound_behind : (xs ys : List StTree) → AreSound ks (xs ++ ys) → AreSound ks ys
  sound_behind [] ys sound = sound
  sound_behind (x ∷ xs) ys sound = sound_behind xs ys (sound_first ks sound).1

  sound_before : (xs ys : List StTree) → AreSound ks (xs ++ ys) → AreSound ks xs
  sound_before [] ys sound = none
  sound_before (x ∷ xs) ys sound = more (sound_first ks sound).0 (sound_before xs ys (sound_first ks sound).1)

-- statements from one on up to another
abbrev pub part : {X : Type 0} → ℕ → ℕ → List X → List X
part from to xs = take (to - from) (drop from xs)

-- what is left from one on is a part and then the rest
pub part_rest : {X : Type 0} (from to : ℕ) (xs : List X) → from ≤ to → drop from xs ≡ part from to xs ++ drop to xs
part_rest from to xs order =
    let far : from + (to - from) ≡ to = omega (arith, order) in
    sym (take-append-drop (to - from) (drop from xs)) ∙ ap (λ ys. part from to xs ++ ys) (drop-drop (to - from) from xs ∙ ap (λ n. drop n xs) far)

part_map : {X Y : Type 0} (f : X → Y) (from to : ℕ) (xs : List X) → part from to (map f xs) ≡ map f (part from to xs)
part_map f from to xs = ap (take (to - from)) (drop-map f from xs) ∙ take-map f (to - from) (drop from xs)

module _ (program : Program) (turns from to : ℕ) (order : from ≤ to) (checked : IsChecked (program_tree program)) where
  abbrev whole : List StTree
  whole = map st_tree (st_items program.body)

  abbrev here : List StTree
  here = part from to whole

  abbrev rest : List StTree
  rest = drop to whole

  rest_sound : AreSound (shape_kinds program.shape) (drop from whole)
  rest_sound =
      sound_behind (shape_kinds program.shape) (take from whole) (drop from whole)
      (subst (AreSound (shape_kinds program.shape)) (sym (take-append-drop from whole)) (whole_sound program checked (st_items program.body) refl))

  both_sound : AreSound (shape_kinds program.shape) (here ++ rest)
  both_sound = subst (AreSound (shape_kinds program.shape)) (part_rest from to whole order) rest_sound

  -- a part of the statements is sound
  pub part_sound : AreSound (shape_kinds program.shape) (map st_tree (part from to (st_items program.body)))
  part_sound = subst (AreSound (shape_kinds program.shape)) (part_map st_tree from to (st_items program.body))
      (sound_before (shape_kinds program.shape) here rest both_sound)

  -- the statements of the part, as the program has them
  abbrev pub own_part : List StTree
  own_part = map st_tree (part from to (st_items program.body))

  module _ (agrees : BlockAgrees) (chains : RunsChain) (columns : Joint) (are : All IsColumn columns.columns)
      (ready : IsReady (shape_types program.shape) turns (drop from whole) columns.columns) where
    abbrev both : Runner
    both n = chain (block program.shape turns here n) (block program.shape turns rest)

    both_go : Goes both columns.columns
    both_go =
        subst (λ f. Goes f columns.columns) (λ i n. chains (shape_types program.shape) turns here rest n i)
        (ready_goes agrees (shape_types program.shape) turns (here ++ rest) columns.columns are
        (subst (λ xs. IsReady (shape_types program.shape) turns xs columns.columns) (part_rest from to whole order) ready))

    rest_full : (n : ℕ) → Full (block program.shape turns rest n)
    rest_full = block_full program.shape turns rest (sound_behind (shape_kinds program.shape) here rest both_sound)

    here_goes : Goes (block program.shape turns here) columns.columns
    here_goes = goes_first (block program.shape turns here) (block program.shape turns rest) columns.columns rest_full both_go

    part_goes : Goes (block program.shape turns own_part) columns.columns
    part_goes = subst (λ xs. Goes (block program.shape turns xs) columns.columns) (part_map st_tree from to (st_items program.body)) here_goes

    -- columns can be pushed through the part
    pub part_can : mass columns.columns ≤ columns.scale → All (IsBelow (shape_size program.shape)) columns.columns
        → CanGo (block program.shape turns own_part) (shape_size program.shape) columns
    part_can fits below = record { are = are; below = below; fits = fits; goes = part_goes }

    module _ (after : Matrix) (gone : IsPushed (block program.shape turns own_part) columns.columns after) where
      pub part_pushed : IsPushed (block program.shape turns here) columns.columns after
      part_pushed = subst (λ xs. IsPushed (block program.shape turns xs) columns.columns after) (sym (part_map st_tree from to (st_items program.body))) gone

      -- what is behind the part can be pushed through the rest
      pub rest_ready : IsReady (shape_types program.shape) turns rest after
      rest_ready =
          goes_ready agrees (shape_types program.shape) turns rest after
          (goes_behind (block program.shape turns here) (block program.shape turns rest) columns.columns after are here_goes both_go part_pushed)

    module _ (merged : Joint) (is_merged : AreMerged columns.columns merged.columns) where
      -- so can what they come to when those of one posterior are added up
      pub merged_can : mass columns.columns ≤ columns.scale → merged.scale ≡ columns.scale → All (IsBelow (shape_size program.shape)) columns.columns
          → CanGo (block program.shape turns own_part) (shape_size program.shape) merged
      merged_can fits scale below =
          let kept = merged_mass columns.columns merged.columns are is_merged in
          record {
            are = merged_columns columns.columns merged.columns are is_merged;
            below = merged_below (shape_size program.shape) columns.columns merged.columns are is_merged below;
            fits = omega (arith, kept, fits, scale);
            goes = goes_merged (block program.shape turns own_part) columns.columns merged.columns are part_goes is_merged;
          }

      -- and it comes to the same
      pub merged_gone : (after : Matrix) → IsPushed (block program.shape turns own_part) merged.columns after
          → IsPushed (block program.shape turns own_part) columns.columns after
      merged_gone after gone = pushed_merged (block program.shape turns own_part) columns.columns merged.columns after are part_goes is_merged gone

-- the same of a program and statements that are had by calls
module _ (program own : Program) (turns given from to : ℕ) (us : List St) (is : own ≡ program) (same : given ≡ turns) (read : us ≡ st_items own.body) where
  abbrev Had : Type 0
  Had = Program × (ℕ × List St)

  abbrev had : ◌≡◌ {A = Had} (program, (turns, st_items program.body)) (own, (given, us))
  had = λ i. (sym is i, (sym same i, sym (read ∙ ap (λ p. st_items p.body) is) i))

  pub own_sound : AreSound (shape_kinds program.shape) (map st_tree (part from to (st_items program.body)))
      → AreSound (shape_kinds own.shape) (map st_tree (part from to us))
  own_sound sound = subst (λ (h : Had). AreSound (shape_kinds h.0.shape) (map st_tree (part from to h.1.1))) had sound

  had_can : (now : Joint) → CanGo (block program.shape turns (map st_tree (part from to (st_items program.body)))) (shape_size program.shape) now
      → CanGo (block own.shape given (map st_tree (part from to us))) (shape_size own.shape) now
  had_can now can = subst (λ (h : Had). CanGo (block h.0.shape h.1.0 (map st_tree (part from to h.1.1))) (shape_size h.0.shape) now) had can

  had_gone : (now after : Joint) → HasGone (block own.shape given (map st_tree (part from to us))) (shape_size own.shape) now after
      → HasGone (block program.shape turns (map st_tree (part from to (st_items program.body)))) (shape_size program.shape) now after
  had_gone now after gone = subst (λ (h : Had). HasGone (block h.0.shape h.1.0 (map st_tree (part from to h.1.1))) (shape_size h.0.shape) now after)
      (sym had) gone

  -- they are pushed through where nothing is silent
  pub own_can : (now : Joint) → CanGo (block program.shape turns (map st_tree (part from to (st_items program.body)))) (shape_size program.shape) now
      → CanGo (silencing.all own.shape given (silent_at None) 0 (map st_tree (part from to us))) (shape_size own.shape) now
  own_can now can =
      subst (λ (f : Runner). CanGo f (shape_size own.shape) now) (silencing.none_all own.shape given (map st_tree (part from to us))) (had_can now can)

  pub own_gone : (now after : Joint) → HasGone (silencing.all own.shape given (silent_at None) 0 (map st_tree (part from to us))) (shape_size own.shape) now after
      → HasGone (block program.shape turns (map st_tree (part from to (st_items program.body)))) (shape_size program.shape) now after
  own_gone now after gone =
      had_gone now after
      (subst (λ (f : Runner). HasGone f (shape_size own.shape) now after) (sym (silencing.none_all own.shape given (map st_tree (part from to us)))) gone)

-- the part of one statement is this statement
part_one : {X Y : Type 0} (f : X → Y) (at : ℕ) (xs : List X) (x : X) → map f (drop at xs) ≡ f x ∷ map f (drop (at + 1) xs)
    → map f (part at (at + 1) xs) ≡ f x ∷ []
part_one f at xs x here =
    let one : (at + 1) - at ≡ 1 = omega arith in
    sym (take-map f ((at + 1) - at) (drop at xs)) ∙ (ap (λ n. take n (map f (drop at xs))) one ∙ ap (take 1) here)

-- a statement of the program is one of those that are had
own_within : (program own : Program) (us : List St) (at : ℕ) → own ≡ program → us ≡ st_items own.body → at < length (map st_tree (st_items program.body))
    → at < length us
own_within program own us at is read within =
    let same = ap length (read ∙ ap (λ (p : Program). st_items p.body) is) in
    omega (arith, same, length-map (st_items program.body) st_tree, within)

-- where the part is one statement, what can be pushed through it, and what it makes of columns
module _ (own : Program) (given at : ℕ) (us : List St) (s : St) (one : map st_tree (part at (at + 1) us) ≡ st_tree s ∷ [])
    (sound : AreSound (shape_kinds own.shape) (map st_tree (part at (at + 1) us))) where
  alone_sound : AreSound (shape_kinds own.shape) (st_tree s ∷ [])
  alone_sound = subst (AreSound (shape_kinds own.shape)) one sound

  one_sound : IsSound (shape_kinds own.shape) (st_tree s)
  one_sound = (sound_first (shape_kinds own.shape) alone_sound).0

  module _ (now : Joint) (can : CanGo (block own.shape given (map st_tree (part at (at + 1) us))) (shape_size own.shape) now) where
    alone_can : CanGo (block own.shape given (st_tree s ∷ [])) (shape_size own.shape) now
    alone_can = subst (λ xs. CanGo (block own.shape given xs) (shape_size own.shape) now) one can

    one_can : CanGo (runs (shape_types own.shape) given (st_tree s)) (shape_size own.shape) now
    one_can = single_can own.shape given (st_tree s) now alone_sound alone_can

    one_gone : (after : Joint) → HasGone (runs (shape_types own.shape) given (st_tree s)) (shape_size own.shape) now after
        → HasGone (block own.shape given (map st_tree (part at (at + 1) us))) (shape_size own.shape) now after
    one_gone after gone =
        subst (λ xs. HasGone (block own.shape given xs) (shape_size own.shape) now after) (sym one)
        (single_gone own.shape given (st_tree s) now alone_sound alone_can after gone)

-- one statement of a program, both had by calls: it can be pushed through, and what comes of it is what comes of the part
module _ (program own : Program) (turns given at : ℕ) (us : List St) (s : St) (is : own ≡ program) (same : given ≡ turns) (read : us ≡ st_items own.body)
    (within : at < length (map st_tree (st_items program.body))) (found : s ≡ get_or us at s) (checked : IsChecked (program_tree program)) where
  alone : map st_tree (part at (at + 1) us) ≡ st_tree s ∷ []
  alone = part_one st_tree at us s (left_step st_tree us at s (own_within program own us at is read within) found)

  next : at ≤ at + 1
  next = omega arith

  all_sound : AreSound (shape_kinds own.shape) (map st_tree (part at (at + 1) us))
  all_sound = own_sound program own turns given at (at + 1) us is same read (part_sound program turns at (at + 1) next checked)

  pub step_sound : IsSound (shape_kinds own.shape) (st_tree s)
  step_sound = one_sound own given at us s alone all_sound

  module _ (agrees : BlockAgrees) (chains : RunsChain) (columns : Joint) (are : All IsColumn columns.columns) (fits : mass columns.columns ≤ columns.scale)
      (below : All (IsBelow (shape_size program.shape)) columns.columns)
      (ready : IsReady (shape_types program.shape) turns (drop at (map st_tree (st_items program.body))) columns.columns) where
    all_can : CanGo (block own.shape given (map st_tree (part at (at + 1) us))) (shape_size own.shape) columns
    all_can = had_can program own turns given at (at + 1) us is same read columns
        (part_can program turns at (at + 1) next checked agrees chains columns are ready fits below)

    pub step_can : CanGo (silencing.one own.shape given (silent_at None) (st_tree s)) (shape_size own.shape) columns
    step_can = silencing.none_can own.shape given (st_tree s) columns (one_can own given at us s alone all_sound columns all_can)

    module _ (after : Joint) (gone : HasGone (silencing.one own.shape given (silent_at None) (st_tree s)) (shape_size own.shape) columns after) where
      all_gone : HasGone (block program.shape turns (map st_tree (part at (at + 1) (st_items program.body)))) (shape_size program.shape) columns after
      all_gone = had_gone program own turns given at (at + 1) us is same read columns after
          (one_gone own given at us s alone all_sound columns all_can after (silencing.none_gone own.shape given (st_tree s) columns after gone))

      pub step_pushed : IsPushed (block program.shape turns (part at (at + 1) (map st_tree (st_items program.body)))) columns.columns after.columns
      step_pushed = part_pushed program turns at (at + 1) next checked agrees chains columns are ready after.columns all_gone.pushed

      pub step_ready : IsReady (shape_types program.shape) turns (drop (at + 1) (map st_tree (st_items program.body))) after.columns
      step_ready = rest_ready program turns at (at + 1) next checked agrees chains columns are ready after.columns all_gone.pushed
