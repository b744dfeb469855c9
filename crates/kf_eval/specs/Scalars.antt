-- For bodies: truths and whole numbers, which take no memory of their own.
use Rattle.std.specs.Prelude.{◌≡◌, Bool, ℤ, Option, Ok, IfSome}
use Rattle.kf_value.specs.Values.{Truth, Whole}
use Rattle.kf_core.specs.Evaluation.{Evaluated}

-- where the program gives a truth, it is the defined value
abbrev pub TellsTruth : Option Bool → Evaluated → Type 0
TellsTruth result defined = IfSome result (λ b. defined ≡ Ok (Truth b))

-- where the program gives a whole number, it is the defined value
abbrev pub TellsWhole : Option ℤ → Evaluated → Type 0
TellsWhole result defined = IfSome result (λ z. defined ≡ Ok (Whole z))
