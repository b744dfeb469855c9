-- The line on a file that can't be read, piece by piece.
use Rattle.std.proofs.Common.{◌≡◌, ℕ, ◌-◌, ◌++◌, List, true, codes, length, take, drop, nat_eq, sym, ◌∙◌, ap}
use Rattle.std.specs.Cmp.Lexicographic.{pointwise, bytes_decides}
use Rattle.std.proofs.lemmas.List.{take-append-drop}
use Rattle.kf_load.specs.Steps.{message}

pub is_message : (line rest name : List ℕ)
    → pointwise nat_eq (take 8 line) (codes "kuifje: ") ≡ true → rest ≡ drop 8 line
    → pointwise nat_eq (drop (length rest - 14) rest) (codes ": read failed\n") ≡ true → name ≡ take (length rest - 14) rest
    → line ≡ message name (codes ": read failed")
is_message line rest name starts rest_is ends name_is =
    let front : take 8 line ≡ codes "kuifje: " = (bytes_decides (take 8 line) (codes "kuifje: ")).0 starts in
    let back : drop (length rest - 14) rest ≡ codes ": read failed\n" = (bytes_decides (drop (length rest - 14) rest) (codes ": read failed\n")).0 ends in
    let whole : rest ≡ name ++ codes ": read failed\n" = sym (take-append-drop (length rest - 14) rest) ∙ (λ i. sym name_is i ++ back i) in
    sym (take-append-drop 8 line) ∙ (λ i. front i ++ sym rest_is i) ∙ ap (λ x. codes "kuifje: " ++ x) whole
