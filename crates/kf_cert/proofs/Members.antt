-- A list that is made beside another, member by member, in a loop over a slice.
use Rattle.std.proofs.Common.{◌≡◌, ◌<◌, ◌≤◌, ◌+◌, ℕ, length, drop, get_or, List, [], ◌∷◌, ◌++◌, Bool, true, false, sym, ap, ◌∙◌, subst}
use Rattle.std.specs.List.{AllZip, list_all}
use Rattle.std.proofs.lemmas.List.{drop_more, drop_all}
use Rattle.kf_json.proofs.Carrying.{Carries, carries_step, carries_last, carries_fault}

module _ {X Y : Type 0} (R : X → Y → Type 0) (p : X → Bool) (xs : List X) (i : ℕ) (done : List Y) (had : Carries R p (drop i xs) xs done) where
  module _ (x : X) (within : i < length xs) (is : x ≡ get_or xs i x) where
    next_here : drop i xs ≡ x ∷ drop (i + 1) xs
    next_here = drop_more xs i x within ∙ ap (λ (y : X). y ∷ drop (i + 1) xs) (sym is)

    pub made_more : (y : Y) (made : List Y) → R x y → p x ≡ true → made ≡ done ++ y ∷ [] → Carries R p (drop (i + 1) xs) xs made
    made_more y made rel passes put =
        subst (Carries R p (drop (i + 1) xs) xs) (sym put) (carries_step R p (drop i xs) (drop (i + 1) xs) xs done x y next_here rel passes had)

    pub made_bad : p x ≡ false → list_all p xs ≡ false
    made_bad fails = carries_fault R p (drop i xs) (drop (i + 1) xs) xs done x next_here fails had

  pub made_all : length xs ≤ i → AllZip R xs done × (list_all p xs ≡ true)
  made_all past = carries_last R p (drop i xs) xs done (drop_all i xs past) had
