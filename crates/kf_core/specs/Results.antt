-- Believed: how one step follows another that may have a fault.
use Rattle.std.specs.Prelude.{List, [], ◌∷◌, ◌++◌, Result, Ok, Err}

-- the next step from what the first one gives; the first one's fault is that of both
abbrev pub then_ok : {A B E : Type 0} → Result A E → (A → Result B E) → Result B E
then_ok (Ok x) next = next x
then_ok (Err f) next = Err f

-- what each gives, one after the other, or the first fault
abbrev pub each_ok : {A B E : Type 0} → (A → Result (List B) E) → List A → Result (List B) E
each_ok next [] = Ok []
each_ok next (x ∷ xs) = then_ok (next x) (λ ys. then_ok (each_ok next xs) (λ others. Ok (ys ++ others)))
