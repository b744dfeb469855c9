-- Two lists, one element after the other.
use Rattle.std.proofs.Common.{ℕ, ◌+◌, ◌<◌, List, [], ◌∷◌, ◌++◌, map, sym, subst, length, get_or, take}
use Rattle.std.specs.List.{AllZip}
use Rattle.std.proofs.lemmas.List.{take_more}
use Rattle.std.proofs.lemmas.Slice.Zip.{all_zipped_more}

module _ {A B : Type 0} (R : A → B → Type 0) where
  pub zip_next : (xs : List A) (ys : List B) (i : ℕ) (d : A) (y : B) → i < length xs → AllZip R (take i xs) ys → R (get_or xs i d) y
      → AllZip R (take (i + 1) xs) (ys ++ y ∷ [])
  zip_next xs ys i d y inside had here =
      subst (λ (l : List A). AllZip R l (ys ++ y ∷ [])) (sym (take_more xs i d inside)) (all_zipped_more R (take i xs) ys (get_or xs i d) y had here)

pub zip_mapped : {X A B : Type 0} (R : A → B → Type 0) (f : X → A) (xs : List X) (ys : List B) → AllZip (λ x y. R (f x) y) xs ys → AllZip R (map f xs) ys
zip_mapped R f [] [] all = tt
zip_mapped R f [] (y ∷ ys) all = absurd all
zip_mapped R f (x ∷ xs) [] all = absurd all
zip_mapped R f (x ∷ xs) (y ∷ ys) all = (all.0, zip_mapped R f xs ys all.1)
