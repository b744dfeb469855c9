-- What `leak` prints is at most what it prints before, times what `capacity` prints of the same text.
use Rattle.std.proofs.Common.{◌≡◌, ℕ, true, List, [], ◌∷◌, All, codes, Result, Ok, subst, ap, arith}
use Rattle.kf_value.specs.Targets.{Item}
use Rattle.kf_core.specs.Joint.{joint_of}
use Rattle.kf_core.specs.Programs.{ProgramTree}
use Rattle.kf_channel.specs.Channels.{all_initial}
use Rattle.kf_capacity.specs.Grids.{ChannelTree, channel_grid}
use Rattle.kf_gain.specs.Gains.{GainOf, Bayes, TableTree}
use Rattle.kf_gain.specs.Vulnerabilities.{IsPosterior, IsPrior}
use Rattle.kf_column.specs.Traces.{value_weight}
use Rattle.kf_load.specs.Steps.{After, Gives, Refused, refusal}
use Rattle.kf_load.specs.Texts.{File}
use Rattle.kf_order.specs.Channels.{CapacityIsLeaked, IsNotNegative, LeakageIsBounded}
use Rattle.kf_text.specs.CapacityTexts.{capacity_text}
use Rattle.kf_text.specs.ReportTexts.{report_text}
use Rattle.kf_top.specs.Answer.{CommandOutcome, GainIn, IsChannelTree, IsHyperTree, Shown, initial, is_narrow, prints, wide_channel}
use Rattle.kf_top.specs.Ends.{Answer}
use Rattle.kf_top.specs.Steps.{showing, ClearedOf, CapacityIn}
use Rattle.kf_words.specs.Task.{Capacity, Command, Leak, tables_of}
use Rattle.kf_words.specs.OfWords.{on_file}
use Rattle.kf_laws.specs.Held.{held}
use Rattle.kf_laws.specs.Laws.{AreLeakAnswers, CapacityBoundsLeaks, IsWithin, Meets}
use Rattle.kf_laws.specs.Refusals.{RefusalsAreReasoned}
use Rattle.kf_laws.proofs.ClearedPrograms.{kept}
use Rattle.kf_laws.proofs.OneAnswer.{HasOne}
use Rattle.kf_laws.proofs.ShownAnswers.{command_shown, printed, task_shown}
use Rattle.kf_report.specs.Reports.{Leakage, IsLeakage}
use Rattle.kf_refine.specs.Refinements.{HyperTree}

-- ---- what is shown

-- a capacity that is shown is that of the program's channel
capacity_printed : (answer : Answer) (shown : Shown) (turns : ℕ) (p : ProgramTree) → answer ≡ showing shown → After (Gives (initial p)) (CapacityIn turns) (Ok shown)
    → (c : ChannelTree) × IsChannelTree turns p c × (answer.out ≡ capacity_text (channel_grid c))
capacity_printed answer shown turns p shows is =
    let c : ChannelTree = is.2.0 in
    let told : Shown = record { yes = true; bytes = capacity_text (channel_grid c) } in
    let same : is.0 ≡ p = (kept (all_initial p.target) p is.0 (refusal 10 [] (codes "target is not initial")) is.1).0 in
    let narrow : shown ≡ told = (kept (is_narrow (channel_grid c)) told shown wide_channel is.2.2).0 in
    (c, subst (λ (q : ProgramTree). IsChannelTree turns q c) same is.2.1, printed answer shown (capacity_text (channel_grid c)) shows (ap Ok narrow))

-- one guess needs no table
one_guess : (target : List Item) (gain : GainOf (List ℕ)) (tables : List File) (g : GainOf TableTree) → GainIn target gain tables (Ok g) → gain ≡ Bayes → g ≡ Bayes
one_guess target gain tables g is one =
    let given : ◌≡◌ {A = Result (GainOf TableTree) Refused} (Ok g) (Ok Bayes) = subst (λ (x : GainOf (List ℕ)). GainIn target x tables (Ok g)) one is in cc

-- ---- the law

module _ (contents : List ℕ → List ℕ) (name : List ℕ) (gain : GainOf (List ℕ)) (turns : ℕ) (capacity leak : Answer) where
  by_programs : (ps : List ProgramTree) (su st : Shown) → ClearedOf Capacity turns (held contents (name ∷ [])) (Ok ps) → capacity ≡ showing su → leak ≡ showing st
      → CommandOutcome Capacity turns [] ps (Ok su) → CommandOutcome (Leak gain) turns (held contents (tables_of (Leak gain))) ps (Ok st)
      → AreLeakAnswers contents name gain turns capacity leak
  by_programs [] su st cleared is_capacity is_leak told told_too = absurd (cc)
  by_programs (p ∷ []) su st cleared is_capacity is_leak told told_too =
      let channel = capacity_printed capacity su turns p is_capacity told in
      let hyper : HyperTree = told_too.2.0 in
      let of_p : IsHyperTree turns p hyper = told_too.2.1 in
      let report : (l : Leakage) × IsLeakage told_too.0 hyper.scale hyper.inners l × (Ok st ≡ prints (report_text told_too.0 l)) = told_too.2.2.2 in
      record {
        program = p;
        is_cleared = cleared;
        channel = channel.0;
        is_channel = channel.1;
        g = told_too.0;
        is_gain = told_too.1;
        inners = hyper.inners;
        is_hyper = of_p.is_hyper;
        report = report.0;
        is_report = subst (λ (n : ℕ). IsLeakage told_too.0 n hyper.inners report.0) of_p.scale report.1;
        capacity_printed = channel.2;
        leak_printed = printed leak st (report_text told_too.0 report.0) is_leak report.2;
      }
  by_programs (p ∷ q ∷ ps) su st cleared is_capacity is_leak told told_too = absurd (cc)

  module _ (are : AreLeakAnswers contents name gain turns capacity leak) where
    is_within : LeakageIsBounded → IsNotNegative are.g → IsWithin are.report (channel_grid are.channel)
    is_within bounded not_negative =
        bounded (joint_of turns are.program) are.channel are.inners are.g are.report.prior are.report.posterior are.is_channel.rows are.is_channel.secrets are.is_hyper not_negative
        are.is_report.prior are.is_report.posterior

    meets : CapacityIsLeaked → gain ≡ Bayes → (weight : ℕ) → All (λ x. value_weight are.channel.rows x ≡ weight) are.channel.secrets → Meets are.report (channel_grid are.channel)
    meets leaked one weight alike =
        let same : are.g ≡ Bayes = one_guess are.program.target gain (held contents (tables_of (Leak gain))) are.g are.is_gain one in
        leaked (joint_of turns are.program) are.channel are.inners weight are.report.prior are.report.posterior are.is_channel.rows are.is_channel.secrets are.is_hyper alike
        (subst (λ (g : GainOf TableTree). IsPrior g are.inners are.report.prior) same are.is_report.prior)
        (subst (λ (g : GainOf TableTree). IsPosterior g are.inners are.report.posterior) same are.is_report.posterior)

pub capacity_bounds : ((command : Command) (turns : ℕ) (programs : List File) → HasOne (ClearedOf command turns programs)) → RefusalsAreReasoned → LeakageIsBounded → CapacityIsLeaked
    → CapacityBoundsLeaks
capacity_bounds one_cleared reasoned bounded leaked words others contents name gain turns capacity leak asks is_capacity none asks' is_leak none' =
    let w = task_shown reasoned contents others (on_file (Leak gain) name turns) leak asks' is_leak (omega (arith, none')) in
    let outcome = w.2 in
    let cleared : ClearedOf Capacity turns (held contents (name ∷ [])) (Ok outcome.0) = outcome.1 in
    let h = command_shown reasoned contents one_cleared words (on_file Capacity name turns) capacity outcome.0 (λ r is. is) asks is_capacity (omega (arith, none)) cleared in
    let are = by_programs contents name gain turns capacity leak outcome.0 h.0 w.0 cleared h.1 w.1 h.2 outcome.2 in
    (are, is_within contents name gain turns capacity leak are bounded, meets contents name gain turns capacity leak are leaked)
