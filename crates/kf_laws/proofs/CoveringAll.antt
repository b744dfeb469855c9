-- What `covers` answers holds at every prior, and what `quiet` shows is worth no more than what `hyper` shows.
use Rattle.std.proofs.Common.{◌≡◌, ℕ, ◌≤◌, ℤ, pos, ◌*ℤ◌, ◌≤ℤ◌, ◌<ℤ◌, false, if◌then◌else◌, List, [], ◌∷◌, length, replicate, Result, Ok, refl, sym, ap, subst, ◌∙◌, arith}
use Rattle.kf_core.specs.Joint.{Cell, joint_of}
use Rattle.kf_value.specs.Targets.{Item}
use Rattle.kf_core.specs.Programs.{ProgramTree}
use Rattle.kf_core.specs.Rows.{IsHyperOf}
use Rattle.kf_core.specs.Scale.{scale_of}
use Rattle.kf_gain.specs.Gains.{GainOf, Table, TableTree}
use Rattle.kf_gain.specs.Vulnerabilities.{IsPosterior}
use Rattle.kf_gain.specs.Worth.{NoBetter}
use Rattle.kf_column.specs.Hypers.{Inner}
use Rattle.kf_parse.specs.Laws.{OnlyBuilt}
use Rattle.kf_prior.specs.FullSources.{full_source}
use Rattle.kf_prior.specs.Laws.{CarriesForAllPriors, HasHyper, IsFull, SeparatesAtUniform}
use Rattle.kf_prior.specs.Priors.{IsPosteriorAt, initial_count}
use Rattle.kf_quiet.specs.Laws.{QuietLeaksNoMore}
use Rattle.kf_silent.specs.Quiet.{quiet_joint}
use Rattle.kf_refine.specs.Refinements.{HyperTree}
use Rattle.kf_refine.specs.Verdicts.{VerdictTree, Yes, No, IsVerdict, Proves}
use Rattle.kf_text.specs.Texts.{hyper_text}
use Rattle.kf_text.specs.VerdictTexts.{verdict_text}
use Rattle.kf_load.specs.Steps.{Each, Gives}
use Rattle.kf_load.specs.Texts.{File, LongCleared, Text, cleared}
use Rattle.kf_top.specs.Answer.{CommandOutcome, HyperOf, Shown}
use Rattle.kf_top.specs.Ends.{Answer}
use Rattle.kf_top.specs.Outcome.{few_stores}
use Rattle.kf_top.specs.Steps.{most_pivots, showing, ClearedOf, is_yes, AreHypers, FullOf}
use Rattle.kf_laws.specs.Held.{held}
use Rattle.kf_laws.specs.Laws.{AreQuietAnswers, CoversAllPriors, IsCoversAnswer, NoIsSeparated, QuietIsNoBetter, asks_covers}
use Rattle.kf_laws.specs.Refusals.{RefusalsAreReasoned}
use Rattle.kf_words.specs.Task.{Command, Covers, Hyper, Quiet}
use Rattle.kf_words.specs.OfWords.{on_file}
use Rattle.kf_laws.proofs.ClearedPrograms.{IsTyped, every_done, few_typed, long_same, same_program, texts_typed}
use Rattle.kf_laws.proofs.OneAnswer.{HasOne}
use Rattle.kf_laws.proofs.ShownAnswers.{command_shown, printed, task_shown, verdict_of}
use Rattle.kf_laws.proofs.WrittenCertificates.{one_target}

-- ---- the programs are full

abbrev HasFull : Text → Type 0
HasFull t = IsFull t.program

full_of : (t u : Text) → IsTyped t → FullOf t (Ok u) → HasFull u
full_of t u typed is =
    let made : Text = record { name = t.name; bytes = t.bytes; source = full_source t.program.types t.source; program = is.0 } in
    let given : Ok u ≡ Ok made = is.2 in
    let same : u ≡ made = cc in
    let full : IsFull is.0 =
    record { types = t.program.types; tree = t.source; program = t.program; built = typed.built; typed = typed.typed; are_types = refl; full = is.1 } in
    subst HasFull (sym same) full

full_programs : OnlyBuilt → (contents : List ℕ → List ℕ) (first second : List ℕ) (turns : ℕ) (p q : ProgramTree)
    → ClearedOf Covers turns (held contents (first ∷ second ∷ [])) (Ok (p ∷ q ∷ [])) → IsFull p × IsFull q
full_programs built contents first second turns p q is =
    let texts = texts_typed built (held contents (first ∷ second ∷ [])) is.0 is.1 in
    let ready = is.2 in
    let few = every_done (λ t. Gives (few_stores t)) IsTyped IsTyped few_typed is.0 ready.1.0 texts ready.1.1 in
    let fulls = every_done FullOf IsTyped HasFull full_of ready.1.0 ready.0 few ready.1.2 in
    let both =
    every_done (λ t. Gives (cleared turns t)) HasFull IsFull (λ t r has given. subst IsFull (sym (same_program turns t r given)) has) ready.0 (p ∷ q ∷ []) fulls ready.2 in
    (both.0, both.1.0)

-- ---- what is said of them

-- the hypers, the verdict and the answer that says it
record IsSaid (turns : ℕ) (p q : ProgramTree) (answer : Answer) : Type 0 where
  a : HyperTree
  b : HyperTree
  v : VerdictTree
  hypers : AreHypers turns p q a b
  verdict : IsVerdict a b most_pivots (Ok v)
  proves : Proves a b v
  bytes : answer.out ≡ verdict_text a.target v
  status : answer.status ≡ (if is_yes v then 0 else 1)

module _ (one_cleared : (command : Command) (turns : ℕ) (programs : List File) → HasOne (ClearedOf command turns programs)) (reasoned : RefusalsAreReasoned) (contents : List ℕ → List ℕ) where
  is_said : (first second : List ℕ) (turns : ℕ) (answer : Answer) (p q : ProgramTree) → IsCoversAnswer contents first second turns answer p q → answer.status ≤ 1
      → IsSaid turns p q answer
  is_said first second turns answer p q asked few =
      let w = command_shown reasoned contents one_cleared asked.words (asks_covers first second turns) answer (p ∷ q ∷ []) (λ r outcome. outcome) asked.asks asked.is_answer few asked.are_cleared in
      let refined = w.2 in
      let a = refined.0 in
      let b = refined.2.0 in
      let v = verdict_of false a b refined.2.2.0 w.0 refined.2.2.2 in
      let status : answer.status ≡ (if w.0.yes then 0 else 1) = ap (λ (x : Answer). x.status) w.1 in
      let out : answer.out ≡ w.0.bytes = ap (λ (x : Answer). x.out) w.1 in
      record {
        a = a;
        b = b;
        v = v.0;
        hypers = record { first = refined.1; second = refined.2.1 };
        verdict = subst (λ (x : Result VerdictTree _). IsVerdict a b most_pivots x) v.1 refined.2.2.1;
        proves = v.2;
        bytes = out ∙ ap (λ (s : Shown). s.bytes) v.3;
        status = status ∙ ap (λ (s : Shown). if s.yes then 0 else 1) v.3;
      }

has_hyper : (turns : ℕ) (p q : ProgramTree) (a b : HyperTree) → AreHypers turns p q a b → IsFull p → IsFull q → HasHyper turns p a × HasHyper turns q b
has_hyper turns p q a b are full full' = (
  record { full = full; about = are.first.target; scale = are.first.scale; is_hyper = are.first.is_hyper },
  record { full = full'; about = are.second.target; scale = are.second.scale; is_hyper = are.second.is_hyper },
)

-- ---- every prior

module _ (carries : CarriesForAllPriors) (turns : ℕ) (p q : ProgramTree) (a b : HyperTree) (are : AreHypers turns p q a b) (full : IsFull p) (full' : IsFull q)
    (same : a.target ≡ b.target) where
  yes_carries : (v : VerdictTree) (n : ℕ) → Proves a b v → n ≡ (if is_yes v then 0 else 1) → n ≡ 0
      → (prior : List ℕ) (t : TableTree) (y z : ℤ) → length prior ≡ initial_count p → IsPosteriorAt turns p prior (Table t) y → IsPosteriorAt turns q prior (Table t) z
      → (z *ℤ pos (scale_of turns p)) ≤ℤ (y *ℤ pos (scale_of turns q))
  yes_carries (Yes rows) n proves is none prior t y z long first second =
      let has = has_hyper turns p q a b are full full' in
      let holds = carries turns p q a b rows prior t y z has.0 has.1 same proves long first second in
      subst (λ (k : ℕ). (z *ℤ pos (scale_of turns p)) ≤ℤ (y *ℤ pos k)) are.second.scale (subst (λ (k : ℕ). (z *ℤ pos k) ≤ℤ (y *ℤ pos b.scale)) are.first.scale holds)
  yes_carries (No t') n proves is none prior t y z long first second = absurd (omega (arith, is, none))

module _ (separates : SeparatesAtUniform) (turns : ℕ) (p q : ProgramTree) (a b : HyperTree) (are : AreHypers turns p q a b) (full : IsFull p) (full' : IsFull q)
    (same : a.target ≡ b.target) (out : List ℕ) where
  no_separates : (v : VerdictTree) (n : ℕ) → Proves a b v → out ≡ verdict_text a.target v → n ≡ (if is_yes v then 0 else 1) → n ≡ 1
      → (t : TableTree) × (out ≡ verdict_text p.target (No t))
      × ((y z : ℤ) → IsPosteriorAt turns p (replicate (initial_count p) 1) (Table t) y → IsPosteriorAt turns q (replicate (initial_count p) 1) (Table t) z
      → (y *ℤ pos (scale_of turns q)) <ℤ (z *ℤ pos (scale_of turns p)))
  no_separates (Yes rows) n proves bytes is one = absurd (omega (arith, is, one))
  no_separates (No t) n proves bytes is one = (
    t,
    bytes ∙ ap (λ items. verdict_text items (No t)) are.first.target,
    λ y z first second.
        let has = has_hyper turns p q a b are full full' in
        let holds = separates turns p q a b t y z has.0 has.1 same proves.0 first second in
        subst (λ (k : ℕ). (y *ℤ pos k) <ℤ (z *ℤ pos (scale_of turns p))) are.second.scale (subst (λ (k : ℕ). (y *ℤ pos b.scale) <ℤ (z *ℤ pos k)) are.first.scale holds),
  )

-- ---- the laws

module _ (one_cleared : (command : Command) (turns : ℕ) (programs : List File) → HasOne (ClearedOf command turns programs)) (reasoned : RefusalsAreReasoned) (built : OnlyBuilt) where
  pub covers_all : CarriesForAllPriors → CoversAllPriors
  covers_all carries contents first second turns answer p q asked none prior t y z long one other =
      let said = is_said one_cleared reasoned contents first second turns answer p q asked (omega (arith, none)) in
      let full = full_programs built contents first second turns p q asked.are_cleared in
      yes_carries carries turns p q said.a said.b said.hypers full.0 full.1 (one_target said.a said.b said.v said.verdict) said.v answer.status said.proves said.status none
      prior t y z long one other

  pub no_is_separated : SeparatesAtUniform → NoIsSeparated
  no_is_separated separates contents first second turns answer p q asked one =
      let said = is_said one_cleared reasoned contents first second turns answer p q asked (omega (arith, one)) in
      let full = full_programs built contents first second turns p q asked.are_cleared in
      no_separates separates turns p q said.a said.b said.hypers full.0 full.1 (one_target said.a said.b said.v said.verdict) answer.out said.v answer.status said.proves
      said.bytes said.status one

-- ---- quiet blocks

-- a long program of a text is its program
long_gives : (turns most : ℕ) (t : Text) (q : ProgramTree) → LongCleared turns most t (Ok q) → Gives (cleared turns t) (Ok q)
long_gives turns most t q is = subst (λ (r : ProgramTree). Ok r ≡ cleared turns t) (sym (long_same t.name most is.0 q is.2)) is.1

each_gives : (turns most : ℕ) (ts : List Text) (ps : List ProgramTree) → Each (LongCleared turns most) ts (Ok ps) → Each (λ t. Gives (cleared turns t)) ts (Ok ps)
each_gives turns most [] ps is = is
each_gives turns most (t ∷ ts) ps is = (is.0, long_gives turns most t is.0 is.1, (is.2.0, each_gives turns most ts is.2.0 is.2.1, is.2.2))

-- what the bytes of a hyper that is shown are
hyper_told : (answer : Answer) (shown : Shown) (target : List Item) (scale : ℕ) (joint : List Cell) → answer ≡ showing shown → HyperOf target scale joint (Ok shown)
    → (inners : List Inner) × IsHyperOf joint inners × (answer.out ≡ hyper_text target scale inners)
hyper_told answer shown target scale joint shows is = (is.0, is.1, printed answer shown (hyper_text target scale is.0) shows is.2)

module _ (no_more : QuietLeaksNoMore) (from to turns : ℕ) (hyper quiet : Answer) (order : from ≤ to) (tables others : List File) where
  by_programs : (ps : List ProgramTree) (st su : Shown) → hyper ≡ showing st → quiet ≡ showing su → CommandOutcome Hyper turns tables ps (Ok st)
      → CommandOutcome (Quiet from to) turns others ps (Ok su)
      → (p : ProgramTree) × (all hushed : List Inner) × AreQuietAnswers from to turns hyper quiet p all hushed
      × ((g : GainOf TableTree) (y z : ℤ) → IsPosterior g hushed y → IsPosterior g all z → NoBetter g y z)
  by_programs [] st su is_hyper is_quiet told told_too = absurd (cc)
  by_programs (p ∷ []) st su is_hyper is_quiet told told_too =
      let all = hyper_told hyper st p.target (scale_of turns p) (joint_of turns p) is_hyper told in
      let hushed = hyper_told quiet su p.target (scale_of turns p) (quiet_joint turns p from to) is_quiet told_too in (
        p,
        all.0,
        hushed.0,
        record { all_are = all.1; hushed_are = hushed.1; all_printed = all.2; hushed_printed = hushed.2 },
        λ g y z one other. no_more turns p from to g all.0 hushed.0 y z order all.1 hushed.1 one other,
      )
  by_programs (p ∷ q ∷ ps) st su is_hyper is_quiet told told_too = absurd (cc)

pub quiet_no_better : ((command : Command) (turns : ℕ) (programs : List File) → HasOne (ClearedOf command turns programs)) → RefusalsAreReasoned → QuietLeaksNoMore → QuietIsNoBetter
quiet_no_better one_cleared reasoned no_more words others contents name from to turns hyper quiet asks is_hyper none asks' is_quiet none' order =
    let w = task_shown reasoned contents others (on_file (Quiet from to) name turns) quiet asks' is_quiet (omega (arith, none')) in
    let outcome = w.2 in
    let are = outcome.1 in
    let cleared_too : ClearedOf Hyper turns (held contents (name ∷ [])) (Ok outcome.0) = (are.0, are.1, each_gives turns to are.0 outcome.0 are.2) in
    let h = command_shown reasoned contents one_cleared words (on_file Hyper name turns) hyper outcome.0 (λ r is. is) asks is_hyper (omega (arith, none)) cleared_too in
    by_programs no_more from to turns hyper quiet order [] [] outcome.0 h.0 w.0 h.1 w.1 h.2 outcome.2
