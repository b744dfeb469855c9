-- What holds of all declared types holds of the types of carried copies.
use Rattle.std.proofs.Common.{◌≡◌, ℕ, true, List, [], ◌∷◌, ◌++◌, map, slice_get, Some, ◌∙◌, refl}
use Rattle.std.specs.List.{All, list_all}
use Rattle.std.proofs.lemmas.List.Elements.{All-nil, All-cons, All-append}
use Rattle.std.proofs.lemmas.List.Folds.{list_all-append}
use Rattle.kf_value.specs.Types.{TypeTree}
use Rattle.kf_value.specs.Sizes.{HasSize, well_formed}
use Rattle.kf_check.specs.Sources.{Variable, types_of}
use Rattle.kf_check.specs.Variables.{AreDeclared, AreCopied}
use Rattle.kf_check.proofs.DeclFacts.{facts_of}
use Rattle.kf_check.proofs.TargetFacts.{all_at, formed_at}

copied_sized : (ts : List TypeTree) (cs : List ℕ) (types : List TypeTree) → All HasSize ts → map Some types ≡ map (slice_get ts) cs → All HasSize types
copied_sized ts cs [] h copied = All-nil HasSize
copied_sized ts [] (t ∷ types) h copied = (cc)
copied_sized ts (c ∷ cs) (t ∷ types) h copied = All-cons HasSize t types (all_at HasSize ts c t h (cc)) (copied_sized ts cs types h (cc))

copied_formed : (ts : List TypeTree) (cs : List ℕ) (types : List TypeTree) → list_all well_formed ts ≡ true → map Some types ≡ map (slice_get ts) cs → list_all well_formed types ≡ true
copied_formed ts cs [] h copied = refl
copied_formed ts [] (t ∷ types) h copied = (cc)
copied_formed ts (c ∷ cs) (t ∷ types) h copied = rw (formed_at ts c t h (cc), copied_formed ts cs types h (cc)) refl

pub all_sized : (vs : List Variable) (cs : List ℕ) (types : List TypeTree) → AreDeclared vs → AreCopied vs cs types → All HasSize (types_of vs ++ types)
all_sized vs cs types declared copied = let facts = facts_of vs declared in All-append HasSize (types_of vs) types facts.sized (copied_sized (types_of vs) cs types facts.sized copied)

pub all_formed : (vs : List Variable) (cs : List ℕ) (types : List TypeTree) → AreDeclared vs → AreCopied vs cs types → list_all well_formed (types_of vs ++ types) ≡ true
all_formed vs cs types declared copied = let facts = facts_of vs declared in list_all-append well_formed (types_of vs) types ∙ rw (facts.formed, copied_formed (types_of vs) cs types facts.formed copied) refl
