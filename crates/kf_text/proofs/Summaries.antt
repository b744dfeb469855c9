-- A hyper has a last inner.
use Rattle.std.proofs.Common.{◌≡◌, ℕ, suc, ◌-◌, ◌<◌, List, [], ◌∷◌, length, get_or, refl, ap, ◌∙◌, arith}
use Rattle.std.specs.Prelude.{sum_by}
use Rattle.kf_column.specs.Hypers.{Inner}
use Rattle.kf_text.specs.Parts.{last_total}

-- where totals sum to a number above 0 there is one
pub some_inner : (inners : List Inner) (scale : ℕ) → 0 < scale → sum_by (λ (i : Inner). i.total) inners ≡ scale → 0 < length inners
some_inner [] scale some whole = omega (arith, some, whole)
some_inner (i ∷ inners) scale some whole = omega arith

-- the last total stands at the last place
pub last_at : (inners : List Inner) (d : Inner) → 0 < length inners → (get_or inners (length inners - 1) d).total ≡ last_total inners
last_at [] d some = absurd (omega (arith, some))
last_at (i ∷ []) d some = refl
last_at (i ∷ j ∷ js) d some =
    let next : length (i ∷ j ∷ js) - 1 ≡ suc (length (j ∷ js) - 1) = omega arith in
    ap (λ n. (get_or (i ∷ j ∷ js) n d).total) next ∙ last_at (j ∷ js) d (omega arith)
