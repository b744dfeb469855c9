-- Answers that pass an error on, and judgements behind what is found.
use Rattle.std.proofs.Common.{◌≡◌, ◌≢◌, Result, Ok, Err, IfErr, sym, subst, inr}
use Rattle.std.specs.Result.{IsErrAnd}
use Rattle.kf_check.specs.declared.errors.TypeError.{TypeError}
use Rattle.kf_check.specs.declared.errors.TypeError.TheVariants as broken
use Rattle.kf_check.specs.Judgements.{Judgement, After}

-- what follows on what the first has found
pub past : {A B : Type 0} (first : Judgement A) (next : A → Judgement B) (x : A) (r : Result B TypeError) → first (Ok x) → next x r → After first next r
past first next x (Ok y) h g = (x, h, g)
past first next x (Err e) h g = inr (x, h, g)

pub passed_on : {T : Type 0} (J : TypeError → Type 0) (r : Result T TypeError) (e : TypeError) → IsErrAnd r (λ f. f ≡ e)
    → (e ≢ broken.Mem → J e) → IfErr r (λ f. f ≢ broken.Mem → J f)
passed_on J (Ok x) e h told = absurd h
passed_on J (Err f) e h told = let P : TypeError → Type 0 = λ g. g ≢ broken.Mem → J g in subst P (sym h) told
