-- Texts of a verdict's numbers.
use Rattle.std.proofs.Common.{◌≡◌, ℕ, ◌<◌, List, [], ◌∷◌, ◌++◌, length, map, drop, take, get_or, ◌-◌, refl, ap, arith, append_assoc, codes}
use Rattle.std.proofs.lemmas.List.{take_rest}
use Rattle.std.specs.List.{flat_map}
use Rattle.kf_frac.specs.Fractions.{fraction_text}
use Rattle.kf_frac.specs.declared.frac.Frac.{Frac}
use Rattle.kf_refine.specs.Views.{fraction_of}
use Rattle.kf_text.specs.Views.{own_text}
use Rattle.kf_text.specs.Parts.{spaced}

-- a fraction of a matrix prints as the fraction that it is
pub own_texts : (row : List Frac) → map (λ f. fraction_text f.num f.den) (map fraction_of row) ≡ map own_text row
own_texts [] = refl
own_texts (f ∷ row) = ap (λ texts. own_text f ∷ texts) (own_texts row)

-- the first fraction stands, and the further ones are left
pub first_fraction : (row : List Frac) (first : Frac) (out now : List ℕ) → 0 < length row → first ≡ get_or row 0 first → now ≡ out ++ own_text first
    → now ++ flat_map (λ (t : List ℕ). codes " " ++ t) (map own_text (take (length row - 1) (drop 1 row))) ≡ out ++ spaced (map own_text row)
first_fraction [] first out now some is grown = absurd (omega arith)
first_fraction (f ∷ others) first out now some is grown = rw (take_rest (f ∷ others) 1, grown, append_assoc, is) refl
