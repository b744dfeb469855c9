-- The status of a check that the law of certificates speaks of.
use Rattle.std.proofs.Common.{◌≡◌, ◌⊎◌, inl, inr, true, ℕ, List, ap, ◌∙◌}
use Rattle.kf_load.specs.Steps.{Refused}
use Rattle.kf_top.specs.Ends.{Answer}
use Rattle.kf_top.specs.Steps.{showing, refusing}

-- a shown yes has the status 0, and a refusal its own
pub accepted_or_refused : (status : ℕ) (answer : Answer) (bytes : List ℕ) (r : Refused) → status ≡ answer.status
    → (answer ≡ showing (record { yes = true; bytes = bytes })) ⊎ (answer ≡ refusing r) → (status ≡ 0) ⊎ (status ≡ r.status)
accepted_or_refused status answer bytes r is (inl same) = inl (is ∙ ap (λ (a : Answer). a.status) same)
accepted_or_refused status answer bytes r is (inr same) = inr (is ∙ ap (λ (a : Answer). a.status) same)
