-- The programs of files are typed, meet no fault, and their scales aren't too wide.
use Rattle.std.proofs.Common.{◌≡◌, ℕ, nat_le, if◌then◌else◌, IsOk, List, [], ◌∷◌, ◌++◌, codes, length, Bool, true, false, Result, Ok, Err, refl, sym, subst}
use Rattle.std.specs.Fmt.{decimal}
use Rattle.std.specs.List.{AllByRecursion as Every}
use Rattle.std.proofs.lemmas.Bool.{leb-true}
use Rattle.kf_frac.specs.Fractions.{limit}
use Rattle.kf_ast.specs.Sources.{SourceTree}
use Rattle.kf_parse.specs.Laws.{OnlyBuilt}
use Rattle.kf_check.specs.Laws.{CheckedIfTyped, IsWellBuilt, SizesAgree}
use Rattle.kf_check.specs.Translation.{Typed}
use Rattle.kf_prior.specs.FullSources.{full_source, initial_stores}
use Rattle.kf_prior.specs.Laws.{FullIsBuilt}
use Rattle.kf_core.specs.Programs.{ProgramTree}
use Rattle.kf_core.specs.Runs.{Halted}
use Rattle.kf_core.specs.Scale.{scale_of as run_scale}
use Rattle.kf_core.specs.Support.{StoreSet, program_pass}
use Rattle.kf_load.specs.Steps.{Refused, Step, Each, Gives, refusal}
use Rattle.kf_load.specs.Texts.{File, Text, TextWith, TypedOf, TextOf, cleared, LongCleared}
use Rattle.kf_load.specs.Refusals.{bad_run, narrow, long_enough}
use Rattle.kf_top.specs.Outcome.{few_stores, ReadyOf}
use Rattle.kf_top.specs.Steps.{FullTexts, ClearedOf, FullOf}
use Rattle.kf_words.specs.Task.{Command, Covers, Quiet}
use Rattle.kf_laws.proofs.ProperHypers.{IsTypedProgram, IsClear}
use Rattle.kf_laws.proofs.SizedTargets.{target_sized}

-- the programs of files are clear, whatever the command
abbrev pub AreClear : Type 0
AreClear = (command : Command) (turns : ℕ) (programs : List File) (ps : List ProgramTree) → ClearedOf command turns programs (Ok ps) → Every (IsClear turns) ps

abbrev wide_scale : List ℕ → Refused
wide_scale name = refusal 7 name (codes ": scale passes 2^127 - 1")

abbrev many_stores : List ℕ → ℕ → Refused
many_stores name count = refusal 8 name (codes ": " ++ (decimal count ++ codes " stores"))

abbrev few_statements : List ℕ → ℕ → Refused
few_statements name count = refusal 13 name (codes ": " ++ (decimal count ++ codes " statements"))

-- what holds of each result of a step holds of all results of a step for each
pub every_done : {A B : Type 0} (step : A → Step B) (P : A → Type 0) (Q : B → Type 0) → ((x : A) (y : B) → P x → step x (Ok y) → Q y)
    → (xs : List A) (ys : List B) → Every P xs → Each step xs (Ok ys) → Every Q ys
every_done step P Q holds [] ys h is = let none : ys ≡ [] = cc in subst (Every Q) (sym none) tt
every_done step P Q holds (x ∷ xs) ys h is =
    let given : Ok ys ≡ Ok (is.0 ∷ is.2.0) = is.2.2 in
    let same : ys ≡ is.0 ∷ is.2.0 = cc in
    subst (Every Q) (sym same) (holds x is.0 h.0 is.1, every_done step P Q holds xs is.2.0 h.1 is.2.1)

pub every_one : {A : Type 0} (xs : List A) → Every (λ x. Unit {0}) xs
every_one [] = tt
every_one (x ∷ xs) = (tt, every_one xs)

-- what is given where a test holds
pub kept : {A : Type 0} (b : Bool) (x y : A) (r : Refused) → Ok y ≡ (if b then Ok x else Err r) → (y ≡ x) × (b ≡ true)
kept true x y r is = ((cc), refl)
kept false x y r is = absurd (cc)

-- ---- clearing

module _ (turns : ℕ) (t : Text) (p : ProgramTree) where
  passed : (r : Result StoreSet Halted)
      → ◌≡◌ {A = Result ProgramTree Refused} (Ok p) (elim r [ Ok ns ↦ narrow t.name (run_scale turns t.program) t.program | Err f ↦ Err (bad_run t.name t.bytes f) ])
      → IsOk r × (Ok p ≡ narrow t.name (run_scale turns t.program) t.program)
  passed (Ok ns) is = (refl, is)
  passed (Err f) is = absurd (cc)

  has_passed : Ok p ≡ cleared turns t → IsOk (program_pass turns t.program) × (Ok p ≡ narrow t.name (run_scale turns t.program) t.program)
  unfolding cleared
  has_passed is = passed (program_pass turns t.program) is

  -- a cleared program is that of its text
  pub same_program : Ok p ≡ cleared turns t → p ≡ t.program
  same_program is = (kept (nat_le (run_scale turns t.program) limit) t.program p (wide_scale t.name) (has_passed is).1).0

  clear : IsTypedProgram t.program → Ok p ≡ cleared turns t → IsClear turns p
  clear typed is =
      let both = has_passed is in
      let fits = kept (nat_le (run_scale turns t.program) limit) t.program p (wide_scale t.name) both.1 in
      subst (IsClear turns) (sym fits.0) (record { typed = typed; passes = both.0; narrow = leb-true (run_scale turns t.program) limit fits.1 })

-- ---- texts

-- the source of a text could have been read, and the program is the one that it is
pub record IsTyped (t : Text) : Type 0 where
  pub built : IsWellBuilt t.source
  pub typed : Typed t.source t.program

with_tree : (name bytes : List ℕ) (tree : SourceTree) → IsWellBuilt tree → (t : Text) → TextWith name bytes tree (Ok t) → IsTyped t
with_tree name bytes tree well t is =
    let made : Text = record { name = name; bytes = bytes; source = tree; program = is.0 } in
    let given : Ok t ≡ Ok made = is.2 in
    let same : t ≡ made = cc in
    subst IsTyped (sym same) (record { built = well; typed = is.1 })

-- a text with few stores stays as it is
pub few_same : (t u : Text) → Gives (few_stores t) (Ok u) → u ≡ t
few_same t u is = (kept (nat_le (initial_stores t.program.types t.source) 4096) t u (many_stores t.name (initial_stores t.program.types t.source)) is).0

pub few_typed : (t u : Text) → IsTyped t → Gives (few_stores t) (Ok u) → IsTyped u
few_typed t u typed is = subst IsTyped (sym (few_same t u is)) typed

-- so does a long program
pub long_same : (name : List ℕ) (most : ℕ) (p q : ProgramTree) → Gives (long_enough name most p) (Ok q) → q ≡ p
long_same name most p q is = (kept (nat_le most (length p.body)) p q (few_statements name (length p.body)) is).0

-- the law of the grammar
module _ (built : OnlyBuilt) where
  typed_text : (name bytes : List ℕ) (t : Text) → TypedOf name bytes (Ok t) → IsTyped t
  unfolding TypedOf
  typed_text name bytes t is = with_tree name bytes is.2.0 (built bytes is.0 is.2.0 is.2.1.program) t is.2.2

  pub texts_typed : (files : List File) (ts : List Text) → Each TextOf files (Ok ts) → Every IsTyped ts
  texts_typed files ts is =
      every_done TextOf (λ file. Unit {0}) IsTyped (λ file t any read. typed_text file.name read.0 t read.2) files ts (every_one files) is

-- that of full sources
module _ (full_built : FullIsBuilt) where
  pub full_typed : (t u : Text) → IsTyped t → FullOf t (Ok u) → IsTyped u
  full_typed t u typed is =
      with_tree t.name t.bytes (full_source t.program.types t.source) (full_built t.source t.program typed.built typed.typed) u is

  pub few_full_typed : (ts us : List Text) → Every IsTyped ts → FullTexts ts (Ok us) → Every IsTyped us
  few_full_typed ts us typed is =
      every_done FullOf IsTyped IsTyped full_typed is.0 us (every_done (λ t. Gives (few_stores t)) IsTyped IsTyped few_typed ts is.0 typed is.1) is.2

  -- and those of the type rules
  module _ (checked : CheckedIfTyped) (sizes : SizesAgree) where
    typed_program : (t : Text) → IsTyped t → IsTypedProgram t.program
    typed_program t typed = record {
      checked = checked t.source t.program typed.built typed.typed;
      sized = target_sized sizes t.source t.program typed.typed;
    }

    each_clear : (turns : ℕ) (ts : List Text) (ps : List ProgramTree) → Every IsTyped ts → Each (λ t. Gives (cleared turns t)) ts (Ok ps) → Every (IsClear turns) ps
    each_clear turns ts ps typed is =
        every_done (λ t. Gives (cleared turns t)) IsTyped (IsClear turns) (λ t p has given. clear turns t p (typed_program t has) given) ts ps typed is

    long_clear : (turns most : ℕ) (t : Text) (q : ProgramTree) → IsTyped t → LongCleared turns most t (Ok q) → IsClear turns q
    long_clear turns most t q typed is =
        subst (IsClear turns) (sym (long_same t.name most is.0 q is.2)) (clear turns t is.0 (typed_program t typed) is.1)

    ready_clear : (command : Command) (turns : ℕ) (ts : List Text) (ps : List ProgramTree) → Every IsTyped ts → ReadyOf command turns ts (Ok ps) → Every (IsClear turns) ps
    ready_clear Covers turns ts ps typed is = each_clear turns is.0 ps (few_full_typed ts is.0 typed is.1) is.2
    ready_clear (Quiet from to) turns ts ps typed is = every_done (LongCleared turns to) IsTyped (IsClear turns) (long_clear turns to) ts ps typed is
    ready_clear command turns ts ps typed is = each_clear turns ts ps typed is

    pub are_clear : OnlyBuilt → AreClear
    are_clear built command turns programs ps is = ready_clear command turns is.0 ps (texts_typed built programs is.0 is.1) is.2
