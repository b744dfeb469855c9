-- Texts written piece by piece.
use Rattle.std.proofs.Common.{◌≡◌, ◌≢◌, ℕ, List, [], ◌∷◌, ◌++◌, length, map, slice_get, Option, Some, None, codes, refl, sym, ap, ◌∙◌}
use Rattle.std.specs.List.{flat_map}
use Rattle.std.proofs.lemmas.List.{append_assoc, append-nil}
use Rattle.kf_value.specs.Values.{ValueTree, Tuple, Set, parts}
use Rattle.kf_value.specs.Texts.{text, separated}
use Rattle.kf_value.specs.Targets.{Item, target_values, target_value_text, shown}
use Rattle.kf_value.proofs.Trees.{texts-parts}

pub bracketed : (out first mid last a b c : List ℕ) → a ≡ out ++ first → b ≡ a ++ mid → c ≡ b ++ last → c ≡ out ++ (first ++ (mid ++ last))
bracketed out first mid last a b c h k l =
    l
    ∙ (ap (λ z. z ++ last) (k ∙ ap (λ z. z ++ mid) h)
    ∙ (append_assoc (out ++ first) mid last ∙ append_assoc out first (mid ++ last)))

-- a text behind a comma for each value that is left
abbrev pub rest_text : List ValueTree → List ℕ
rest_text vs = flat_map (λ u. codes ", " ++ u) (map text vs)

pub written_more : (left : List ValueTree) (v : ValueTree) (vs : List ValueTree) (out a b whole : List ℕ) → left ≡ v ∷ vs → a ≡ out ++ codes ", "
    → b ≡ a ++ text v → out ++ rest_text left ≡ whole → b ++ rest_text vs ≡ whole
written_more left v vs out a b whole is comma written had =
    ap (λ z. z ++ rest_text vs) (written ∙ ap (λ z. z ++ text v) comma)
    ∙ (append_assoc (out ++ codes ", ") (text v) (rest_text vs)
    ∙ (append_assoc out (codes ", ") (text v ++ rest_text vs)
    ∙ (ap (λ z. out ++ z) (sym (append_assoc (codes ", ") (text v) (rest_text vs)) ∙ ap rest_text (sym is)) ∙ had)))

pub all_written : (vs : List ValueTree) (v : ValueTree) (rest left : List ValueTree) (out a b : List ℕ) → vs ≡ v ∷ rest → left ≡ []
    → a ≡ out ++ text v → b ++ rest_text left ≡ a ++ rest_text rest → b ≡ out ++ separated (map text vs)
all_written vs v rest left out a b is none first had =
    sym (append-nil b)
    ∙ (ap (λ ws. b ++ rest_text ws) (sym none)
    ∙ (had
    ∙ (ap (λ z. z ++ rest_text rest) first
    ∙ (append_assoc out (text v) (rest_text rest) ∙ ap (λ ws. out ++ separated (map text ws)) (sym is)))))

pub tuple_text : (vs : List ValueTree) → text (Tuple (parts vs)) ≡ codes "(" ++ (separated (map text vs) ++ codes ")")
tuple_text vs = ap (λ ts. codes "(" ++ (separated ts ++ codes ")")) (texts-parts vs)

pub set_text : (vs : List ValueTree) → text (Set (parts vs)) ≡ codes "{" ++ (separated (map text vs) ++ codes "}")
set_text vs = ap (λ ts. codes "{" ++ (separated ts ++ codes "}")) (texts-parts vs)

-- several values show as a tuple, and so does none
pub shown_many : (vs : List ValueTree) → length vs ≢ 1 → shown vs ≡ text (Tuple (parts vs))
shown_many [] many = refl
shown_many (v ∷ []) many = absurd (many refl)
shown_many (v ∷ (w ∷ vs)) many = refl

shown_or_nothing : (o : Option (List ValueTree)) (vs : List ValueTree) → o ≡ Some vs → elim o as (λ x. List ℕ) [ None ↦ [] | Some us ↦ shown us ] ≡ shown vs
shown_or_nothing None vs h = (cc)
shown_or_nothing (Some us) vs h = let same : us ≡ vs = (cc) in ap shown same

pub target_text_is : (items : List Item) (n : ℕ) (vs : List ValueTree) → slice_get (target_values items) n ≡ Some vs → target_value_text items n ≡ shown vs
unfolding target_value_text
target_text_is items n vs at = shown_or_nothing (slice_get (target_values items) n) vs at
