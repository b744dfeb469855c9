-- A list of the numbers that pass a test, made one by one.
use Rattle.std.proofs.Common.{◌≡◌, ℕ, ◌+◌, ◌<◌, Bool, true, false, true≢false, List, [], ◌∷◌, ◌++◌, Contains, sym, ◌∙◌, subst, ap, arith, ⊎_elim}
use Rattle.std.proofs.Math.Nat.{eq-or-lt_of_le}
use Rattle.std.proofs.lemmas.List.Elements.{Contains-append_left, Contains-append_right}

module _ (pass : ℕ → Bool) (i : ℕ) (xs ys : List ℕ) (all : (j : ℕ) → j < i → pass j ≡ true → Contains xs j) where
  -- the next number passes, and is listed
  pub listed : ys ≡ xs ++ i ∷ [] → (j : ℕ) → j < i + 1 → pass j ≡ true → Contains ys j
  listed is j below h =
      subst (λ (l : List ℕ). Contains l j) (sym is)
      (⊎_elim
      (λ (here : j ≡ i). Contains-append_right xs (i ∷ []) j (0, omega arith, sym here))
      (λ (before : j < i). Contains-append_left xs (i ∷ []) j (all j before h))
      (eq-or-lt_of_le (omega (arith, below))))

  -- it doesn't, and isn't
  pub passed : ys ≡ xs → pass i ≡ false → (j : ℕ) → j < i + 1 → pass j ≡ true → Contains ys j
  passed is not j below h =
      subst (λ (l : List ℕ). Contains l j) (sym is)
      (⊎_elim
      (λ (here : j ≡ i). absurd (true≢false (sym h ∙ ap pass here ∙ not)))
      (λ (before : j < i). all j before h)
      (eq-or-lt_of_le (omega (arith, below))))
