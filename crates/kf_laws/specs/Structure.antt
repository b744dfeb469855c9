-- For bodies: whether `refine` says yes or no depends on the channels of two texts, and not on their prior.
use Rattle.std.specs.Prelude.{◌≡◌, ℕ, ◌≤◌, Bool, List, [], ◌∷◌, Some, Ok}
use Rattle.kf_core.specs.Programs.{ProgramTree}
use Rattle.kf_core.specs.Scale.{scale_of}
use Rattle.kf_capacity.specs.Grids.{ChannelTree}
use Rattle.kf_order.specs.Structure.{HaveOneMatrix, HaveOnePrior}
use Rattle.kf_text.specs.Texts.{channel_text}
use Rattle.kf_top.specs.Answer.{IsChannelTree}
use Rattle.kf_top.specs.Ends.{Answer}
use Rattle.kf_top.specs.Steps.{ClearedOf}
use Rattle.kf_words.specs.Task.{Channel, Refine, on_files, task_of}
use Rattle.kf_words.specs.OfWords.{on_file}
use Rattle.kf_laws.specs.Held.{IsAnswerOver, held}

-- the program of the text in one file, and its channel
pub record HasChannel (contents : List ℕ → List ℕ) (turns : ℕ) (name : List ℕ) (p : ProgramTree) (c : ChannelTree) : Type 0 where
  pub is_cleared : ClearedOf Channel turns (held contents (name ∷ [])) (Ok (p ∷ []))
  pub is_channel : IsChannelTree turns p c

-- where `channel` has an answer for this text, it prints that channel
abbrev pub ChannelIsPrinted : Type 0
ChannelIsPrinted = (words : List (List ℕ)) (contents : List ℕ → List ℕ) (name : List ℕ) (turns : ℕ) (answer : Answer) (p : ProgramTree) (c : ChannelTree)
    → task_of words ≡ Some (on_file Channel name turns) → IsAnswerOver words contents answer → answer.status ≡ 0
    → HasChannel contents turns name p c → answer.out ≡ channel_text p.target c.rows c.secrets

-- a yes or a no of `refine` on two texts of one prior, which have these channels
pub record IsVerdictOn (contents : List ℕ → List ℕ) (turns : ℕ) (first second : List ℕ) (answer : Answer) (c d : ChannelTree) : Type 0 where
  pub words : List (List ℕ)
  pub json : Bool
  pub asks : task_of words ≡ Some (on_files (Refine json) (first ∷ second ∷ []) turns)
  pub is_answer : IsAnswerOver words contents answer
  pub shown : answer.status ≤ 1
  pub p : ProgramTree
  pub q : ProgramTree
  pub of_first : HasChannel contents turns first p c
  pub of_second : HasChannel contents turns second q d
  pub one_prior : HaveOnePrior (scale_of turns p) c (scale_of turns q) d

-- two pairs of texts have the same verdict where their first texts have one matrix and their second texts have one, whatever the priors are
abbrev pub VerdictsAreStructural : Type 0
VerdictsAreStructural = (contents later : List ℕ → List ℕ) (turns others : ℕ) (first second first' second' : List ℕ) (answer answer' : Answer)
    (c d c' d' : ChannelTree)
    → IsVerdictOn contents turns first second answer c d → IsVerdictOn later others first' second' answer' c' d'
    → HaveOneMatrix c c' → HaveOneMatrix d d' → answer.status ≡ answer'.status
