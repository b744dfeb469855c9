-- A loop that copies the members of a list, where a copy is the same in a view of it.
use Rattle.std.proofs.Common.{◌≡◌, ◌+◌, ◌<◌, ℕ, List, [], ◌∷◌, ◌++◌, length, map, get_or, take, sym, ap, ◌∙◌}
use Rattle.std.proofs.lemmas.List.{map-append, take_more}

pub copied_more : {X T : Type 0} (view : X → T) (xs made more : List X) (i : ℕ) (x copy : X) → i < length xs → x ≡ get_or xs i x → view copy ≡ view x
    → more ≡ made ++ copy ∷ [] → map view made ≡ map view (take i xs) → map view more ≡ map view (take (i + 1) xs)
copied_more view xs made more i x copy within is same grown before =
    ap (map view) grown ∙ map-append view made (copy ∷ []) ∙ ap (λ ts. ts ++ view copy ∷ []) before
    ∙ ap (λ t. map view (take i xs) ++ t ∷ []) (same ∙ ap view is)
    ∙ sym (map-append view (take i xs) (get_or xs i x ∷ [])) ∙ ap (map view) (sym (take_more xs i x within))
