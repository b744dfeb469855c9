-- A list that is made beside another, member by member, where each member passes a test.
use Rattle.std.proofs.Common.{◌≡◌, ◌<◌, ◌≤◌, ◌+◌, ℕ, length, map, drop, get_or, List, [], ◌∷◌, ◌++◌, Bool, true, false, ◌&&◌, refl, sym, ap, ◌∙◌, subst}
use Rattle.std.specs.List.{AllZip, list_all}
use Rattle.std.proofs.lemmas.List.{append-nil, append_assoc, drop_more, drop_all}

pub record Carries {X Y : Type 0} (R : X → Y → Type 0) (p : X → Bool) (left whole : List X) (done : List Y) : Type 0 where
  pub made : (more : List Y) → AllZip R left more → AllZip R whole (done ++ more)
  pub tests : list_all p left ≡ list_all p whole

module _ {X Y : Type 0} (R : X → Y → Type 0) (p : X → Bool) where
  pub carries_first : (whole : List X) → Carries R p whole whole []
  carries_first whole = record { made = λ more rel. rel; tests = refl }

  pub carries_step : (left rest whole : List X) (done : List Y) (x : X) (y : Y) → left ≡ x ∷ rest → R x y → p x ≡ true → Carries R p left whole done → Carries R p rest whole (done ++ y ∷ [])
  carries_step left rest whole done x y next is passes had = record {
    made = λ more rel. subst (AllZip R whole) (sym (append_assoc done (y ∷ []) more)) (had.made (y ∷ more) (subst (λ l. AllZip R l (y ∷ more)) (sym next) (is, rel)));
    tests = sym (ap (λ b. b && list_all p rest) passes) ∙ sym (ap (list_all p) next) ∙ had.tests;
  }

  pub carries_last : (left whole : List X) (done : List Y) → left ≡ [] → Carries R p left whole done → AllZip R whole done × (list_all p whole ≡ true)
  carries_last left whole done none had =
      (subst (AllZip R whole) (append-nil done) (had.made [] (subst (λ l. AllZip R l []) (sym none) tt)), sym had.tests ∙ ap (list_all p) none)

  pub carries_fault : (left rest whole : List X) (done : List Y) (x : X) → left ≡ x ∷ rest → p x ≡ false → Carries R p left whole done → list_all p whole ≡ false
  carries_fault left rest whole done x next fails had = sym had.tests ∙ ap (list_all p) next ∙ ap (λ b. b && list_all p rest) fails

-- the same in a loop over a slice, of which each member is seen as an X
module _ {V X Y : Type 0} (R : X → Y → Type 0) (p : X → Bool) (seen : V → X) (xs : List V) (i : ℕ) (done : List Y) where
  abbrev now : Type 0
  now = Carries R p (map seen (drop i xs)) (map seen xs) done

  next_seen : (x : V) → i < length xs → x ≡ get_or xs i x → map seen (drop i xs) ≡ seen x ∷ map seen (drop (i + 1) xs)
  next_seen x within is = ap (map seen) (drop_more xs i x within ∙ ap (λ y. y ∷ drop (i + 1) xs) (sym is))

  pub carries_more : (x : V) (y : Y) (made : List Y) → i < length xs → x ≡ get_or xs i x → R (seen x) y → p (seen x) ≡ true → made ≡ done ++ y ∷ [] → now → Carries R p (map seen (drop (i + 1) xs)) (map seen xs) made
  carries_more x y made within is rel passes put had =
      subst (Carries R p (map seen (drop (i + 1) xs)) (map seen xs)) (sym put)
      (carries_step R p (map seen (drop i xs)) (map seen (drop (i + 1) xs)) (map seen xs) done (seen x) y (next_seen x within is) rel passes had)

  pub carries_out : length xs ≤ i → now → AllZip R (map seen xs) done × (list_all p (map seen xs) ≡ true)
  carries_out past had = carries_last R p (map seen (drop i xs)) (map seen xs) done (ap (map seen) (drop_all i xs past)) had

  pub carries_bad : (x : V) → i < length xs → x ≡ get_or xs i x → p (seen x) ≡ false → now → list_all p (map seen xs) ≡ false
  carries_bad x within is fails had = carries_fault R p (map seen (drop i xs)) (map seen (drop (i + 1) xs)) (map seen xs) done (seen x) (next_seen x within is) fails had

-- a test of each member in a loop over a slice
module _ {V X : Type 0} (p : X → Bool) (seen : V → X) (xs : List V) (i : ℕ) where
  abbrev pub StillTests : Type 0
  StillTests = list_all p (map seen (drop i xs)) ≡ list_all p (map seen xs)

  module _ (x : V) (within : i < length xs) (is : x ≡ get_or xs i x) where
    next_test : list_all p (map seen (drop i xs)) ≡ (p (seen x) && list_all p (map seen (drop (i + 1) xs)))
    next_test = ap (λ ys. list_all p (map seen ys)) (drop_more xs i x within ∙ ap (λ y. y ∷ drop (i + 1) xs) (sym is))

    pub tests_more : p (seen x) ≡ true → StillTests → list_all p (map seen (drop (i + 1) xs)) ≡ list_all p (map seen xs)
    tests_more passes had = sym (ap (λ b. b && list_all p (map seen (drop (i + 1) xs))) passes) ∙ sym next_test ∙ had

    pub tests_bad : p (seen x) ≡ false → StillTests → list_all p (map seen xs) ≡ false
    tests_bad fails had = sym had ∙ next_test ∙ ap (λ b. b && list_all p (map seen (drop (i + 1) xs))) fails

  pub tests_out : length xs ≤ i → StillTests → list_all p (map seen xs) ≡ true
  tests_out past had = sym had ∙ ap (λ ys. list_all p (map seen ys)) (drop_all i xs past)

-- what each member gives
pub zip_map : {X Y Z : Type 0} (f : X → Z) (g : Y → Z) (xs : List X) (ys : List Y) → AllZip (λ x y. g y ≡ f x) xs ys → map g ys ≡ map f xs
zip_map f g [] [] all = refl
zip_map f g [] (y ∷ ys) all = absurd all
zip_map f g (x ∷ xs) [] all = absurd all
zip_map f g (x ∷ xs) (y ∷ ys) (is, all) = λ i. is i ∷ zip_map f g xs ys all i
