-- A word that names no gain.
use Rattle.std.proofs.Common.{◌≡◌, ℕ, List, Bool, false, None, Some, Option, codes, drop, bytes_eq, nat_eq, sym, if◌then◌else◌}
use Rattle.std.specs.List.{starts_with}
use Rattle.std.specs.Str.Pattern.{LacksTextAt}
use Rattle.std.proofs.lemmas.Str.Pattern.{starts_text}
use Rattle.kf_gain.specs.Gains.{GainOf, Bayes, Guessing}
use Rattle.kf_words.specs.GainWords.{gain_named}
use Rattle.kf_words.specs.OfWords.{tries_of, table_of}

lacks : (front word : List ℕ) → LacksTextAt front word 0 → starts_with nat_eq word front ≡ false
lacks front word h = sym (starts_text false front word h)

-- a word's gain, by how the word begins
abbrev by_front : Bool → Bool → Bool → Bool → List ℕ → Option (GainOf (List ℕ))
by_front bayes guessing tries table word =
    if bayes then Some Bayes else (if guessing then Some Guessing else (if tries then tries_of (drop 6 word) else (if table then table_of (drop 6 word) else None)))

pub no_gain : (word : List ℕ) → bytes_eq word (codes "bayes") ≡ false → bytes_eq word (codes "guessing") ≡ false → LacksTextAt (codes "tries:") word 0 → LacksTextAt (codes "table:") word 0 → None ≡ gain_named word
no_gain word bayes guessing tries table =
    let t : starts_with nat_eq word (codes "tries:") ≡ false = lacks (codes "tries:") word tries in
    let f : starts_with nat_eq word (codes "table:") ≡ false = lacks (codes "table:") word table in
    sym (λ i. by_front (bayes i) (guessing i) (t i) (f i) word)
