-- What a pass comes to, statement by statement and turn by turn.
use Rattle.std.proofs.Common.{◌≡◌, ℕ, zero, suc, ◌+◌, ◌-◌, ◌<◌, ◌≤◌, true, false, List, [], ◌∷◌, length, Ok, refl, sym, ap, ◌∙◌, subst, arith}
use Rattle.kf_value.specs.Types.{product}
use Rattle.kf_value.specs.Shapes.{shape_types, shape_sizes}
use Rattle.kf_value.specs.declared.shape.Shape.{Shape}
use Rattle.kf_core.specs.Views.{dx_tree}
use Rattle.kf_core.specs.declared.dx.Dx.{Dx}
use Rattle.kf_core.specs.Sts.{StTree, sts}
use Rattle.kf_core.specs.Checked.{IsSound, AreSound}
use Rattle.kf_core.specs.Runs.{Tried, tried}
use Rattle.kf_core.specs.Results.{then_ok}
use Rattle.kf_core.specs.Support.{Passed}
use Rattle.kf_core.proofs.SoundParts.{sound_first}
use Rattle.kf_eval.specs.Kinds.{shape_kinds}
use Rattle.kf_support.specs.declared.faults.Halt.{Halt}
use Rattle.kf_support.specs.declared.faults.Halt.TheVariants as halt
use Rattle.kf_support.specs.Answers.{IsHaltOf, AreWays, AreReached}
use Rattle.kf_support.specs.Carried.{Reached, with_all, carry_step, guard_lead, last_lead, carry_loop, carry, carry_all, NothingLeadsNowhere}

-- ---- what stops a step stops all

pub halts : {A B : Type 0} (first : Passed A) (next : A → Passed B) (e : Halt) → IsHaltOf first e → IsHaltOf (then_ok first next) e
halts first next (halt.Fault kind at) h = ap (λ r. then_ok r next) h
halts first next halt.Scale h = absurd h
halts first next halt.Mem h = tt

pub halts_as : {A : Type 0} (one other : Passed A) (e : Halt) → one ≡ other → IsHaltOf other e → IsHaltOf one e
halts_as one other e same h = subst (λ r. IsHaltOf r e) (sym same) h

pub goes_on : {A B : Type 0} (first : Passed A) (next : A → Passed B) (x : A) → first ≡ Ok x → then_ok first next ≡ next x
goes_on first next x h = ap (λ r. then_ok r next) h

pub no_stores : (es : Reached) → length es ≡ 0 → es ≡ []
no_stores [] empty = refl
no_stores (e ∷ es) empty = absurd (omega arith)

-- ---- statement by statement

module _ (shape : Shape) (turns : ℕ) where
  abbrev pub leads : List StTree → Reached → Passed Reached
  leads ss es = carry_all (shape_types shape) turns (sts ss) es

  abbrev pub AreIts : Reached → Type 0
  AreIts es = AreReached (product (shape_sizes shape)) es

  -- the statements that are left, and the stores that are reached before them
  pub record PassSoFar (whole : Passed Reached) (left : List StTree) (es : Reached) : Type 0 where
    pub same : whole ≡ leads left es
    pub sound : AreSound (shape_kinds shape) left
    pub ways : AreIts es

  pub pass_start : (ss : List StTree) (es : Reached) → AreSound (shape_kinds shape) ss → AreIts es → PassSoFar (leads ss es) ss es
  pass_start ss es sound ways = record { same = refl; sound = sound; ways = ways }

  module _ (whole : Passed Reached) (x : StTree) (left : List StTree) (es : Reached) (before : PassSoFar whole (x ∷ left) es) where
    pub pass_sound : IsSound (shape_kinds shape) x
    pass_sound = (sound_first (shape_kinds shape) before.sound).0

    pub pass_fails : (e : Halt) → IsHaltOf (carry (shape_types shape) turns x es) e → IsHaltOf whole e
    pass_fails e h = halts_as whole _ e before.same (halts (carry (shape_types shape) turns x es) (leads left) e h)

    pub pass_step : (fs : Reached) → carry (shape_types shape) turns x es ≡ Ok fs → AreIts fs → PassSoFar whole left fs
    pass_step fs is ways = record {
      same = before.same ∙ goes_on (carry (shape_types shape) turns x es) (leads left) fs is;
      sound = (sound_first (shape_kinds shape) before.sound).1;
      ways = ways;
    }

  pub pass_end : (whole : Passed Reached) (es : Reached) → PassSoFar whole [] es → whole ≡ Ok es
  pass_end whole es before = before.same

-- ---- turn by turn

-- where no store is reached none leaves the loop any more
pub no_turns : (guard : ℕ → Tried) (at : ℕ) (body : Reached → Passed Reached) (k : ℕ) (left : Reached) → body [] ≡ Ok [] → carry_loop k guard at body left [] ≡ Ok left
no_turns guard at body zero left still = refl
no_turns guard at body (suc k) left still = goes_on (body []) (carry_loop k guard at body left) [] still ∙ no_turns guard at body k left still

module _ (shape : Shape) (turns : ℕ) (d : Dx) (body : List StTree) where
  abbrev pub test : ℕ → Tried
  test = tried (shape_types shape) (dx_tree d)

  abbrev pub turns_left : ℕ → Reached → Reached → Passed Reached
  turns_left k left es = carry_loop k test d.at (leads shape turns body) left es

  abbrev takes : Reached → Passed Reached
  takes es = carry_step (guard_lead true test) [] es

  abbrev leaves : Reached → Reached → Passed Reached
  leaves left es = carry_step (guard_lead false test) (with_all [] left) es

  -- behind so many turns, with ways to the stores that have left
  pub record LoopSoFar (whole : Passed Reached) (done : ℕ) (left es : Reached) : Type 0 where
    pub same : whole ≡ turns_left (turns - done) (with_all [] left) es
    pub ways : AreIts shape turns es
    pub left_ways : AreWays (product (shape_sizes shape)) left

  module _ (whole : Passed Reached) (done : ℕ) (left es : Reached) (before : LoopSoFar whole done left es) where
    module _ (within : done < turns) where
      one_more : whole ≡ turns_left (suc (turns - (done + 1))) (with_all [] left) es
      one_more = let count : turns - done ≡ suc (turns - (done + 1)) = omega arith in before.same ∙ ap (λ k. turns_left k (with_all [] left) es) count

      pub guard_fails : (e : Halt) → IsHaltOf (takes es) e → IsHaltOf whole e
      guard_fails e h = halts_as whole _ e one_more (halts (takes es) _ e h)

      module _ (turn gone : Reached) (taken : takes es ≡ Ok turn) (left_is : leaves left es ≡ Ok (with_all [] gone)) where
        next_turn : whole ≡ then_ok (leads shape turns body turn) (turns_left (turns - (done + 1)) (with_all [] gone))
        next_turn = one_more ∙ (goes_on (takes es) _ turn taken ∙ goes_on (leaves left es) _ (with_all [] gone) left_is)

        pub none_taken : NothingLeadsNowhere → turn ≡ [] → whole ≡ Ok (with_all [] gone)
        none_taken nothing empty =
            let none = nothing (shape_types shape) turns (sts body) in
            next_turn
            ∙ (ap (λ fs. then_ok (leads shape turns body fs) (turns_left (turns - (done + 1)) (with_all [] gone))) empty
            ∙ (goes_on (leads shape turns body []) (turns_left (turns - (done + 1)) (with_all [] gone)) [] none
            ∙ no_turns test d.at (leads shape turns body) (turns - (done + 1)) (with_all [] gone) none))

        pub body_fails : (e : Halt) → IsHaltOf (leads shape turns body turn) e → IsHaltOf whole e
        body_fails e h = halts_as whole _ e next_turn (halts (leads shape turns body turn) (turns_left (turns - (done + 1)) (with_all [] gone)) e h)

        pub body_done : (fs : Reached) → leads shape turns body turn ≡ Ok fs → AreIts shape turns fs → AreWays (product (shape_sizes shape)) gone → LoopSoFar whole (done + 1) gone fs
        body_done fs is ways left_ways = record {
          same = next_turn ∙ goes_on (leads shape turns body turn) (turns_left (turns - (done + 1)) (with_all [] gone)) fs is;
          ways = ways;
          left_ways = left_ways;
        }

    pub last_is : turns ≤ done → whole ≡ carry_step (last_lead d.at test) (with_all [] left) es
    last_is past = let count : turns - done ≡ 0 = omega arith in before.same ∙ ap (λ k. turns_left k (with_all [] left) es) count

  pub loop_start : (left es : Reached) → left ≡ [] → AreWays (product (shape_sizes shape)) left → AreIts shape turns es → LoopSoFar (turns_left turns [] es) 0 left es
  loop_start left es empty left_ways ways = let whole : turns ≡ turns - 0 = omega arith in record { same = ap (λ fs. turns_left turns (with_all [] fs) es) (sym empty) ∙ ap (λ k. turns_left k (with_all [] left) es) whole; ways = ways; left_ways = left_ways }
