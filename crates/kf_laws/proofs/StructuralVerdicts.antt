-- Verdicts on pairs of texts with the same channels are the same.
use Rattle.std.proofs.Common.{◌≡◌, ℕ, Bool, List, [], ◌∷◌, codes, Result, Ok, if◌then◌else◌, refl, sym, ap, subst, ◌∙◌, arith}
use Rattle.std.proofs.lemmas.List.Sorted.{IsPermutation-sym}
use Rattle.kf_core.specs.Joint.{Cell, joint_of}
use Rattle.kf_core.specs.JointLaws.{RowsAreOne}
use Rattle.kf_core.specs.Programs.{ProgramTree}
use Rattle.kf_core.specs.Scale.{scale_of}
use Rattle.kf_channel.specs.Channels.{all_initial}
use Rattle.kf_capacity.specs.Grids.{ChannelTree, channel_grid}
use Rattle.kf_refine.specs.Refinements.{HyperTree}
use Rattle.kf_refine.specs.Verdicts.{VerdictTree, Yes, No, Proves}
use Rattle.kf_refine.specs.declared.verdict.RefineError.{RefineError}
use Rattle.kf_order.specs.Structure.{AreShown, HaveOneMatrix, HaveOnePrior, IsStructural}
use Rattle.kf_text.specs.Texts.{channel_text}
use Rattle.kf_load.specs.Steps.{After, Each, Gives, Refused, Step, refusal}
use Rattle.kf_load.specs.Texts.{File, Text, TextOf, cleared}
use Rattle.kf_top.specs.Answer.{IsChannelTree, IsHyperTree, Shown, VerdictShown, initial, prints}
use Rattle.kf_top.specs.Ends.{Answer}
use Rattle.kf_top.specs.Steps.{showing, ClearedOf, ChannelOf, is_yes}
use Rattle.kf_words.specs.Task.{Channel, Command, Refine, on_files}
use Rattle.kf_words.specs.OfWords.{on_file}
use Rattle.kf_laws.specs.Held.{held, held_file}
use Rattle.kf_laws.specs.Refusals.{RefusalsAreReasoned}
use Rattle.kf_laws.specs.Structure.{ChannelIsPrinted, HasChannel, IsVerdictOn, VerdictsAreStructural}
use Rattle.kf_laws.proofs.ClearedPrograms.{AreClear, kept}
use Rattle.kf_laws.proofs.OneAnswer.{HasOne, one_channel_shown}
use Rattle.kf_laws.proofs.ProperHypers.{AreProper}
use Rattle.kf_laws.proofs.ShownAnswers.{command_shown, printed, verdict_of}

-- ---- the channel that is printed

channel_printed : RowsAreOne → (answer : Answer) (shown : Shown) (turns : ℕ) (p : ProgramTree) (c : ChannelTree) → answer ≡ showing shown
    → After (Gives (initial p)) (λ q. ChannelOf q.target (joint_of turns q)) (Ok shown) → IsChannelTree turns p c → answer.out ≡ channel_text p.target c.rows c.secrets
channel_printed rows_are_one answer shown turns p c shows is channel =
    let bytes : List ℕ = channel_text p.target c.rows c.secrets in
    let same : is.0 ≡ p = (kept (all_initial p.target) p is.0 (refusal 10 [] (codes "target is not initial")) is.1).0 in
    let told : ChannelOf p.target (joint_of turns p) (Ok shown) = subst (λ (q : ProgramTree). ChannelOf q.target (joint_of turns q) (Ok shown)) same is.2 in
    printed answer shown bytes shows
    (one_channel_shown rows_are_one p.target (joint_of turns p) (Ok shown) (prints bytes) told (c.rows, channel.rows, (c.secrets, channel.secrets, refl)))

-- ---- two files together

module _ {A B : Type 0} (step : A → Step B) where
  only : (x : A) (ys : List B) → Each step (x ∷ []) (Ok ys) → (y : B) × step x (Ok y) × (ys ≡ y ∷ [])
  only x ys is =
      let none : ◌≡◌ {A = Result (List B) Refused} (Ok is.2.0) (Ok []) = is.2.1 in
      let whole : ◌≡◌ {A = Result (List B) Refused} (Ok ys) (Ok (is.0 ∷ is.2.0)) = is.2.2 in
      (is.0, is.1, (cc))

  two : (x x' : A) (y y' : B) → step x (Ok y) → step x' (Ok y') → Each step (x ∷ x' ∷ []) (Ok (y ∷ y' ∷ []))
  two x x' y y' h k = (y, h, (y' ∷ [], (y', k, ([], refl, refl)), refl))

module _ (turns : ℕ) where
  text_of : (f : File) (p : ProgramTree) → ClearedOf Channel turns (f ∷ []) (Ok (p ∷ [])) → (t : Text) × TextOf f (Ok t) × (Ok p ≡ cleared turns t)
  text_of f p is =
      let read = only TextOf f is.0 is.1 in
      let made =
      only (λ t. Gives (cleared turns t)) read.0 (p ∷ []) (subst (λ (ts : List Text). Each (λ t. Gives (cleared turns t)) ts (Ok (p ∷ []))) read.2 is.2) in
      let whole : p ∷ [] ≡ made.0 ∷ [] = made.2 in
      let same : made.0 ≡ p = cc in
      (read.0, read.1, subst (λ (q : ProgramTree). Ok q ≡ cleared turns read.0) same made.1)

  both_cleared : (json : Bool) (f g : File) (p q : ProgramTree) → ClearedOf Channel turns (f ∷ []) (Ok (p ∷ [])) → ClearedOf Channel turns (g ∷ []) (Ok (q ∷ []))
      → ClearedOf (Refine json) turns (f ∷ g ∷ []) (Ok (p ∷ q ∷ []))
  both_cleared json f g p q is is' =
      let one = text_of f p is in
      let other = text_of g q is' in
      (one.0 ∷ other.0 ∷ [], two TextOf f g one.0 other.0 one.1 other.1, two (λ t. Gives (cleared turns t)) one.0 other.0 p q one.2 other.2)

-- ---- verdicts

-- what is shown of a verdict proves it, and gives the status
by_verdict : (json : Bool) (a b : HyperTree) (r : Result VerdictTree RefineError) (answer : Answer) (shown : Shown) → answer ≡ showing shown → VerdictShown json a b r (Ok shown)
    → (v : VerdictTree) × Proves a b v × (answer.status ≡ (if is_yes v then 0 else 1))
by_verdict json a b r answer shown shows is =
    let v = verdict_of json a b r shown is in
    (v.0, v.2, ap (λ (x : Answer). x.status) shows ∙ ap (λ (s : Shown). if s.yes then 0 else 1) v.3)

-- a status by a verdict on the hypers of two channels with one prior
record IsCompared (c d : ChannelTree) (status : ℕ) : Type 0 where
  a : HyperTree
  b : HyperTree
  v : VerdictTree
  of_a : List Cell
  of_b : List Cell
  first : AreShown of_a c a
  second : AreShown of_b d b
  one_prior : HaveOnePrior a.scale c b.scale d
  proves : Proves a b v
  status_is : status ≡ (if is_yes v then 0 else 1)

turned : (c d : ChannelTree) → HaveOneMatrix c d → HaveOneMatrix d c
turned c d one = record {
  secrets = sym one.secrets;
  over = sym one.over;
  columns = IsPermutation-sym (channel_grid c).columns (channel_grid d).columns one.columns;
}

module _ (structural : IsStructural) (c d c' d' : ChannelTree) (m n : ℕ) (x : IsCompared c d m) (y : IsCompared c' d' n) (one : HaveOneMatrix c c') (other : HaveOneMatrix d d') where
  alike : (v w : VerdictTree) → Proves x.a x.b v → Proves y.a y.b w → is_yes v ≡ is_yes w
  alike (Yes rows) (Yes rows') carries carries' = refl
  alike (Yes rows) (No t) carries separates =
      absurd
      (structural x.a x.b y.a y.b c d c' d' x.of_a x.of_b y.of_a y.of_b x.first x.second y.first y.second one other x.one_prior y.one_prior (rows, carries) t separates.0)
  alike (No t) (Yes rows) separates carries =
      absurd
      (structural y.a y.b x.a x.b c' d' c d y.of_a y.of_b x.of_a x.of_b y.first y.second x.first x.second (turned c c' one) (turned d d' other) y.one_prior x.one_prior
      (rows, carries) t separates.0)
  alike (No t) (No t') separates separates' = refl

  same_status : m ≡ n
  same_status = x.status_is ∙ ap (λ (yes : Bool). if yes then 0 else 1) (alike x.v y.v x.proves y.proves) ∙ sym y.status_is

-- ---- the laws

module _ (one_cleared : (command : Command) (turns : ℕ) (programs : List File) → HasOne (ClearedOf command turns programs)) (reasoned : RefusalsAreReasoned) where
  pub channel_is_printed : RowsAreOne → ChannelIsPrinted
  channel_is_printed rows_are_one words contents name turns answer p c asks is none has =
      let w = command_shown reasoned contents one_cleared words (on_file Channel name turns) answer (p ∷ []) (λ r outcome. outcome) asks is (omega (arith, none)) has.is_cleared in
      channel_printed rows_are_one answer w.0 turns p c w.1 w.2 has.is_channel

  module _ (are_clear : AreClear) (are_proper : AreProper) where
    are_shown : (contents : List ℕ → List ℕ) (turns : ℕ) (name : List ℕ) (p : ProgramTree) (c : ChannelTree) (h : HyperTree) → HasChannel contents turns name p c → IsHyperTree turns p h
        → AreShown (joint_of turns p) c h
    are_shown contents turns name p c h has is =
        let clear = are_clear Channel turns (held contents (name ∷ [])) (p ∷ []) has.is_cleared in
        record { rows = has.is_channel.rows; secrets = has.is_channel.secrets; hyper = is.is_hyper; proper = are_proper turns p h clear.0 is }

    is_compared : (contents : List ℕ → List ℕ) (turns : ℕ) (first second : List ℕ) (answer : Answer) (c d : ChannelTree) → IsVerdictOn contents turns first second answer c d
        → IsCompared c d answer.status
    is_compared contents turns first second answer c d is =
        let are = both_cleared turns is.json (held_file contents first) (held_file contents second) is.p is.q is.of_first.is_cleared is.of_second.is_cleared in
        let w =
        command_shown reasoned contents one_cleared is.words (on_files (Refine is.json) (first ∷ second ∷ []) turns) answer (is.p ∷ is.q ∷ []) (λ r outcome. outcome) is.asks is.is_answer is.shown are in
        let refined = w.2 in
        let a = refined.0 in
        let b = refined.2.0 in
        let v = by_verdict is.json a b refined.2.2.0 answer w.0 w.1 refined.2.2.2 in
        record {
          a = a;
          b = b;
          v = v.0;
          of_a = joint_of turns is.p;
          of_b = joint_of turns is.q;
          first = are_shown contents turns first is.p c a is.of_first refined.1;
          second = are_shown contents turns second is.q d b is.of_second refined.2.1;
          one_prior =
              subst (λ (m : ℕ). HaveOnePrior m c b.scale d) (sym refined.1.scale)
              (subst (λ (n : ℕ). HaveOnePrior (scale_of turns is.p) c n d) (sym refined.2.1.scale) is.one_prior);
          proves = v.1;
          status_is = v.2;
        }

    pub verdicts_are_structural : IsStructural → VerdictsAreStructural
    verdicts_are_structural structural contents later turns others first second first' second' answer answer' c d c' d' x y one other =
        same_status structural c d c' d' answer.status answer'.status (is_compared contents turns first second answer c d x)
        (is_compared later others first' second' answer' c' d' y) one other
