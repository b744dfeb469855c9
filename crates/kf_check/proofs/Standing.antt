-- Whether an item stands among others, found by going down the list.
use Rattle.std.proofs.Common.{◌≡◌, ℕ, suc, zero, ◌<◌, Bool, List, [], ◌∷◌, length, map, get_or, Some, ap, ◌∙◌, arith, ⊎_elim, Contains}
use Rattle.std.proofs.lemmas.List.Elements.{Contains-append_cases}
use Rattle.kf_ast.specs.Names.{name}
use Rattle.kf_ast.specs.Sources.{ItemTree, item}
use Rattle.kf_ast.specs.Views.{item_tree}
use Rattle.kf_ast.specs.declared.decl.Item.{Item}
use Rattle.kf_check.specs.SourceAnswers.{Stands}
use Rattle.kf_check.proofs.Each.{mapped_read}
use Rattle.kf_check.proofs.LawsItems.{at_in}

-- the item is found
pub stands_here : (xs : List Item) (i : ℕ) (x : Item) (old : Bool) (n : List ℕ) → i < length xs → x ≡ get_or xs i x → (x.initial ≡ old) × (x.name.text ≡ n) → Stands (map item_tree xs) old n
stands_here xs i x old n within read same = (
  x.name.at,
  at_in (map item_tree xs) (item old (name n x.name.at)) i
      (mapped_read item_tree xs i x within read ∙ (ap (λ b. Some (item b (name x.name.text x.name.at))) same.0 ∙ ap (λ m. Some (item old (name m x.name.at))) same.1)),
)

only_first : (i j : ItemTree) → Contains (i ∷ []) j → i ≡ j
only_first i j h = by h.0 h.1 h.2
  where
    by : (k : ℕ) → k < 1 → get_or (i ∷ []) k j ≡ j → i ≡ j
    by zero within read = read
    by (suc k) within read = absurd (omega arith)

same_parts : {a b : Bool} {m n : List ℕ} {s t : ℕ} → item a (name m s) ≡ item b (name n t) → (a ≡ b) × (m ≡ n)
same_parts e = (cc, cc)

-- it is not the first one, so it stands behind
pub stands_later : (x : Item) (left : List ItemTree) (old : Bool) (n : List ℕ) → (x.initial ≡ old → x.name.text ≡ n → ⊥) → Stands (item_tree x ∷ left) old n → Stands left old n
stands_later x left old n differ h = (
  h.0,
  ⊎_elim (λ (f : Contains (item_tree x ∷ []) (item old (name n h.0))). absurd (let parts = same_parts (only_first (item_tree x) (item old (name n h.0)) f) in differ parts.0 parts.1)) (λ (g : Contains left (item old (name n h.0))). g)
      (Contains-append_cases (item_tree x ∷ []) left (item old (name n h.0)) h.1),
)

pub none_stands : (old : Bool) (n : List ℕ) → Stands [] old n → ⊥
none_stands old n h = let within = h.1.1 in omega arith
