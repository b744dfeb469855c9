-- A turn of the loop over carried copies.
use Rattle.std.proofs.Common.{◌≡◌, ℕ, ◌<◌, List, [], ◌∷◌, ◌++◌, map, length, slice_get, get_or, Some, sym, ap, ◌∙◌, append_assoc}
use Rattle.std.specs.Option.{option_map}
use Rattle.std.proofs.lemmas.List.{map-append}
use Rattle.std.proofs.lemmas.Option.{slice_get-get_or, slice_get-map}
use Rattle.kf_value.specs.Types.{TypeTree}
use Rattle.kf_value.specs.TypeViews.{type_tree}
use Rattle.kf_value.specs.declared.ty.Ty.{Ty}
use Rattle.kf_check.specs.declared.variables.Variable as code
use Rattle.kf_check.specs.Sources.{Variable, types_of}
use Rattle.kf_check.specs.Variables.{variable_of}

-- the types of the copies that are done stand behind those that there were
pub record CopiedBefore (vs : List Variable) (whole left : List ℕ) (first types : List TypeTree) : Type 0 where
  pub added : List TypeTree
  pub joined : types ≡ first ++ added
  pub done : map Some added ++ map (slice_get (types_of vs)) left ≡ map (slice_get (types_of vs)) whole

type_at : (ws : List code.Variable) (c : ℕ) (v : code.Variable) → c < length ws → v ≡ get_or ws c v → slice_get (types_of (map variable_of ws)) c ≡ Some (type_tree v.ty)
type_at ws c v within read =
    slice_get-map (λ w. w.type) (map variable_of ws) c ∙ (ap (option_map (λ w. w.type)) (slice_get-map variable_of ws c ∙ ap (option_map variable_of) (slice_get-get_or ws c v within)) ∙ ap (λ w. Some (type_tree w.ty)) (sym read))

pub copied_more : (ws : List code.Variable) (whole left : List ℕ) (first : List TypeTree) (types : List Ty) (c : ℕ) → CopiedBefore (map variable_of ws) whole (c ∷ left) first (map type_tree types) → (v : code.Variable) → c < length ws → v ≡ get_or ws c v → (t : Ty) → type_tree t ≡ type_tree v.ty
    → CopiedBefore (map variable_of ws) whole left first (map type_tree (types ++ t ∷ []))
copied_more ws whole left first types c before v within read t same =
    let here : Some (type_tree t) ≡ slice_get (types_of (map variable_of ws)) c = ap (λ u. Some u) same ∙ sym (type_at ws c v within read) in
    record {
      added = before.added ++ type_tree t ∷ [];
      joined = map-append type_tree types (t ∷ []) ∙ (ap (λ ts. ts ++ type_tree t ∷ []) before.joined ∙ append_assoc first before.added (type_tree t ∷ []));
      done = ap (λ os. os ++ map (slice_get (types_of (map variable_of ws))) left) (map-append Some before.added (type_tree t ∷ []))
          ∙ (append_assoc (map Some before.added) (Some (type_tree t) ∷ []) (map (slice_get (types_of (map variable_of ws))) left) ∙ (ap (λ o. map Some before.added ++ (o ∷ map (slice_get (types_of (map variable_of ws))) left)) here ∙ before.done));
    }
