-- For bodies: columns of which nothing is told apart any more.
use Rattle.std.specs.Prelude.{◌≡◌, ℕ, List, [], ◌∷◌, sum_by}
use Rattle.kf_column.specs.declared.entry.Entry.{Entry}
use Rattle.kf_column.specs.Columns.{weight_at}

-- no column where there is none, else one that gives each value what all columns give it together
abbrev pub IsErased : List (List Entry) → List (List Entry) → Type 0
IsErased [] erased = erased ≡ []
IsErased (c ∷ cs) erased = (sum : List Entry) × (erased ≡ sum ∷ []) × ((x : ℕ) → weight_at sum x ≡ sum_by (λ d. weight_at d x) (c ∷ cs))
