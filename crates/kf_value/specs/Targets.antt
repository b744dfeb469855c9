-- Believed: targets, what a hyper is about, and the texts of their values.
use Rattle.std.specs.Prelude.{ℕ, Bool, List, [], ◌∷◌, ◌++◌, map, codes, slice_get, None, Some, if◌then◌else◌}
use Rattle.kf_value.specs.Values.{ValueTree, Tuple, parts}
use Rattle.kf_value.specs.Types.{TypeTree}
use Rattle.kf_value.specs.Stores.{stores}
use Rattle.kf_value.specs.Texts.{text, separated}

-- an item: whether it is read before the program's statements, its name and its type
pub record Item : Type 0 where
  pub initial : Bool
  pub name : List ℕ
  pub ty : TypeTree

-- all values of a target in their order: one value for each item
abbrev pub target_values : List Item → List (List ValueTree)
target_values items = stores (map (λ i. i.ty) items)

-- one item prints as its value, several as a tuple
abbrev pub shown : List ValueTree → List ℕ
shown (v ∷ []) = text v
shown vs = text (Tuple (parts vs))

-- the text of the target's value with the number n
unfoldable pub target_value_text : List Item → ℕ → List ℕ
target_value_text items n = elim (slice_get (target_values items) n) [ None ↦ [] | Some vs ↦ shown vs ]

-- the text of a target: its items, a comma and a space between them
abbrev pub target_text : List Item → List ℕ
target_text items = separated (map (λ i. (if i.initial then codes "old " else []) ++ i.name) items)
