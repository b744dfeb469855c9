-- One step and then the next, and what a result is to both.
use Rattle.std.proofs.Common.{◌≡◌, List, [], ◌∷◌, Bool, true, false, ◌⊎◌, Result, Ok, Err, inl, inr, refl, subst}
use Rattle.kf_load.specs.Steps.{Refused, Step, After, Each, Gives}
use Rattle.kf_load.specs.Stops as load
use Rattle.kf_load.specs.declared.refusal.Refusal.TheVariants as load_refusal
use Rattle.kf_load.specs.declared.refusal.Stop as load_code
use Rattle.kf_load.specs.declared.refusal.Stop.TheVariants as load_stop
use Rattle.kf_top.specs.Stops.{Answers, IsOwn, Stopped, lifted}
use Rattle.kf_top.specs.declared.refusal.Stop.{Stop}
use Rattle.kf_top.specs.declared.refusal.Stop.TheVariants as stop

-- what stops the first step stops both
pub first_stops : {A B : Type 0} (first : Step A) (next : A → Step B) (s : Stop) → Stopped s first → Stopped s (After first next)
first_stops first next (stop.Refused r) h = inl h
first_stops first next stop.Mem h = tt

-- what stops the next step stops both
pub next_stops : {A B : Type 0} (first : Step A) (next : A → Step B) (s : Stop) (x : A) → first (Ok x) → Stopped s (next x) → Stopped s (After first next)
next_stops first next (stop.Refused r) x done h = inr (x, done, h)
next_stops first next stop.Mem x done h = tt

-- where the first step is done, the result of the next is that of both
pub next_answers : {A B X : Type 0} (seen : X → B) (first : Step A) (next : A → Step B) (r : Result X Stop) (x : A) → first (Ok x) → Answers seen r (next x)
    → Answers seen r (After first next)
next_answers seen first next (Ok z) x done h = (x, done, h)
next_answers seen first next (Err s) x done h = next_stops first next s x done h

-- what one step may have, another may
pub answers_by : {B X : Type 0} (seen : X → B) (first second : Step B) → ((r : Result B Refused) → first r → second r) → (r : Result X Stop)
    → Answers seen r first → Answers seen r second
answers_by seen first second turn (Ok z) h = turn _ h
answers_by seen first second turn (Err (stop.Refused r)) h = turn _ h
answers_by seen first second turn (Err stop.Mem) h = tt

-- what was found on the way is what the step gives
pub found_as : {A X : Type 0} (seen : X → A) (step : Step A) (found r : Result X Stop) → found ≡ r → Answers seen found step → Answers seen r step
found_as {A} {X} seen step found r is h = subst (λ (q : Result X Stop). Answers seen q step) is h

-- ---- a step for each of two

module _ {A B : Type 0} (step : A → Step B) (x y : A) where
  -- the step for the second, and what both give
  abbrev rest : B → Step (List B)
  rest u = After (Each step (y ∷ [])) (λ us. Gives (Ok (u ∷ us)))

  pub both_of_two : (u v : B) → step x (Ok u) → step y (Ok v) → Each step (x ∷ y ∷ []) (Ok (u ∷ v ∷ []))
  both_of_two u v h k = (u, h, (v ∷ [], (v, k, ([], refl, refl)), refl))

  pub first_of_two : (s : Stop) → Stopped s (step x) → Stopped s (Each step (x ∷ y ∷ []))
  first_of_two s h = first_stops (step x) rest s h

  pub second_of_two : (s : Stop) (u : B) → step x (Ok u) → Stopped s (step y) → Stopped s (Each step (x ∷ y ∷ []))
  second_of_two s u done h =
      next_stops (step x) rest s u done
      (first_stops (Each step (y ∷ [])) (λ us. Gives (Ok (u ∷ us))) s (first_stops (step y) (λ v. After (Each step []) (λ vs. Gives (Ok (v ∷ vs)))) s h))

-- ---- the result of a step of which there is only one

abbrev pub alone : {B : Type 0} → Result B Refused → Result (List B) Refused
alone (Ok y) = Ok (y ∷ [])
alone (Err r) = Err r

pub each_alone : {A B : Type 0} (step : A → Step B) (x : A) (r : Result B Refused) → step x r → Each step (x ∷ []) (alone r)
each_alone step x (Ok y) h = (y, h, ([], refl, refl))
each_alone step x (Err r) h = inl h

-- ---- what stops a file's program

pub lift_stops : {B : Type 0} (step : Step B) (s : load_code.Stop) → load.Stopped s step → Stopped (lifted s) step
lift_stops step (load_stop.Refused r) h = h
lift_stops step load_stop.Mem h = tt

pub lift_answers : {A B : Type 0} (seen : A → B) (step : Step B) (x : A) → load.Answers seen (Ok x) step → Answers seen (Ok x) step
lift_answers seen step x h = h

pub lift_own : (s : load_code.Stop) → load.IsNoRead s → IsOwn (lifted s)
lift_own (load_stop.Refused (load_refusal.ReadFailed name)) own = absurd own
lift_own (load_stop.Refused (load_refusal.TooLong name)) own = tt
lift_own (load_stop.Refused (load_refusal.BadText name line column word)) own = tt
lift_own (load_stop.Refused (load_refusal.BadRun name line column word)) own = tt
lift_own (load_stop.Refused (load_refusal.WideScale name)) own = tt
lift_own (load_stop.Refused (load_refusal.FewStatements name count)) own = tt
lift_own load_stop.Mem own = tt

pub either_way : (b : Bool) → (b ≡ true) ⊎ (b ≡ false)
either_way true = inl refl
either_way false = inr refl
