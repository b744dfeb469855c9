-- A loop that adds a piece for each member of a list.
use Rattle.std.proofs.Common.{◌≡◌, ℕ, ◌+◌, ◌<◌, List, ◌∷◌, ◌++◌, sym, ◌∙◌, ap, length, get_or, drop}
use Rattle.std.proofs.lemmas.List.{append_assoc, drop_more}

-- the pieces of a list whose first member has index i
pub piece_added : {X Y : Type 0} (pieces : ℕ → List X → List Y) (piece : ℕ → X → List Y)
    → ((i : ℕ) (x : X) (xs : List X) → pieces i (x ∷ xs) ≡ piece i x ++ pieces (i + 1) xs)
    → (xs : List X) (i : ℕ) (x : X) (made more whole : List Y) → i < length xs → x ≡ get_or xs i x → more ≡ made ++ piece i x
    → made ++ pieces i (drop i xs) ≡ whole → more ++ pieces (i + 1) (drop (i + 1) xs) ≡ whole
piece_added {X} {Y} pieces piece step xs i x made more whole within is added had =
    let after : List X = drop (i + 1) xs in
    let next : x ∷ after ≡ drop i xs = sym (drop_more xs i x within ∙ ap (λ (y : X). y ∷ after) (sym is)) in
    ap (λ (l : List Y). l ++ pieces (i + 1) after) added
    ∙ append_assoc made (piece i x) (pieces (i + 1) after)
    ∙ ap (λ (l : List Y). made ++ l) (sym (step i x after))
    ∙ ap (λ (l : List X). made ++ pieces i l) next
    ∙ had
