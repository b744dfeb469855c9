-- Channels of one matrix: what makes the one's prior of the other's also makes the one's columns of the other's.
use Rattle.std.proofs.Common.{◌≡◌, ℕ, ◌*◌, ◌/◌, ◌<◌, ◌≤◌, List, [], ◌∷◌, All, Contains, length, get_or, map, ⊎_elim}
use Rattle.std.proofs.Common.{ap, subst, sym, ◌∙◌, arith}
use Rattle.std.specs.Prelude.{IsPermutation}
use Rattle.std.specs.List.{AllByRecursion as Each, AllZip}
use Rattle.std.proofs.Math.Nat.{eq-zero-or-pos, mul-div_cancel_left}
use Rattle.std.proofs.lemmas.List.{get_or_default}
use Rattle.std.proofs.lemmas.List.Elements.{recursion_from_All}
use Rattle.std.proofs.lemmas.List.Sorted.{All-permutation}
use Rattle.std.proofs.lemmas.List.Sums.{get_or-le-sum_by}
use Rattle.kf_column.specs.Columns.{weight_at}
use Rattle.kf_column.specs.Traces.{Row, value_weight}
use Rattle.kf_channel.specs.Channels.{AreSecrets}
use Rattle.kf_capacity.specs.Grids.{ChannelTree, column_in, denominator}
use Rattle.kf_order.specs.Structure.{HaveOneMatrix}
use Rattle.kf_order.proofs.AnyOrder.{reordered}
use Rattle.kf_order.proofs.Cells.{cell_weighs, over_some}

cancel : (n a b : ℕ) → 0 < n → n * a ≡ n * b → a ≡ b
cancel n a b some same = sym (mul-div_cancel_left a some) ∙ ap (λ (k : ℕ). k / n) same ∙ mul-div_cancel_left b some

-- ---- cells

-- what a secret weighs in all, times its cell, is its part, n times
abbrev AreCells : List ℕ → ℕ → List ℕ → (ℕ → ℕ) → (ℕ → ℕ) → Type 0
AreCells secrets n cells whole part = (i : ℕ) → i < length secrets → whole (get_or secrets i 0) * get_or cells i 0 ≡ n * part (get_or secrets i 0)

-- of the same cells, the parts are as the wholes
crossed : (secrets cells : List ℕ) (n : ℕ) (whole part whole' part' : ℕ → ℕ) → 0 < n → AreCells secrets n cells whole part
    → AreCells secrets n cells whole' part' → (x : ℕ) → Contains secrets x → part x * whole' x ≡ part' x * whole x
crossed secrets cells n whole part whole' part' some is is' x (i, here, at) =
    let y : ℕ = get_or secrets i 0 in
    subst (λ (x : ℕ). part x * whole' x ≡ part' x * whole x) (get_or_default secrets i 0 x here ∙ at)
    (cancel n (part y * whole' y) (part' y * whole y) some
    (cross (whole y) (part y) (whole' y) (part' y) (get_or cells i 0) (is i here) (is' i here)))
  where
    cross : (v w v' w' m : ℕ) → v * m ≡ n * w → v' * m ≡ n * w' → n * (w * v') ≡ n * (w' * v)
    cross v w v' w' m p q = omega (arith, ap (λ (k : ℕ). k * v') p, ap (λ (k : ℕ). k * v) q)

-- a row of a channel: its weights by its cells, each within the secret's
record IsRowOf (c : ChannelTree) (r : Row) : Type 0 where
  cells : AreCells c.secrets (denominator c) (column_in (denominator c) c r) (value_weight c.rows) (weight_at r.column)
  within : (x : ℕ) → weight_at r.column x ≤ value_weight c.rows x

rows_are : (c : ChannelTree) → AreSecrets c.rows c.secrets → All (IsRowOf c) c.rows
rows_are c secrets k d within = record {
  cells = λ i here. cell_weighs c secrets k d within i here;
  within = λ x. get_or-le-sum_by (λ (r : Row). weight_at r.column x) c.rows k d within;
}

-- ---- two channels

-- what is a secret of the one is one of the other
pub still_secret : (c c' : ChannelTree) → AreSecrets c.rows c.secrets → AreSecrets c'.rows c'.secrets → c.secrets ≡ c'.secrets → (x : ℕ)
    → 0 < value_weight c.rows x → 0 < value_weight c'.rows x
still_secret c c' are are' same x heavy = (are'.listed x).0 (subst (λ (xs : List ℕ). Contains xs x) same ((are.listed x).1 heavy))

module _ (c c' : ChannelTree) (are : AreSecrets c.rows c.secrets) (are' : AreSecrets c'.rows c'.secrets) (one : HaveOneMatrix c c') where
  abbrev HaveOneColumn : Row → Row → Type 0
  HaveOneColumn r r' = column_in (denominator c) c r ≡ column_in (denominator c') c' r'

  as_first : (r r' : Row) → IsRowOf c' r' → HaveOneColumn r r'
      → AreCells c.secrets (denominator c) (column_in (denominator c) c r) (value_weight c'.rows) (weight_at r'.column)
  as_first r r' is same =
      subst (λ (l : List ℕ). AreCells l (denominator c) (column_in (denominator c) c r) (value_weight c'.rows) (weight_at r'.column)) (sym one.secrets)
      (subst (λ (n : ℕ). AreCells c'.secrets n (column_in (denominator c) c r) (value_weight c'.rows) (weight_at r'.column)) (sym one.over)
      (subst (λ (cells : List ℕ). AreCells c'.secrets (denominator c') cells (value_weight c'.rows) (weight_at r'.column)) (sym same) is.cells))

  row_crossed : (r r' : Row) → IsRowOf c r → IsRowOf c' r' → HaveOneColumn r r' → (x : ℕ)
      → weight_at r.column x * value_weight c'.rows x ≡ weight_at r'.column x * value_weight c.rows x
  row_crossed r r' is is' same x =
      ⊎_elim
      (λ (none : value_weight c.rows x ≡ 0).
      let nothing : weight_at r.column x ≡ 0 = omega (arith, none, is.within x) in
      omega (arith, ap (λ (n : ℕ). n * value_weight c'.rows x) nothing, ap (λ (n : ℕ). weight_at r'.column x * n) none))
      (λ (heavy : 0 < value_weight c.rows x).
      crossed c.secrets (column_in (denominator c) c r) (denominator c) (value_weight c.rows) (weight_at r.column) (value_weight c'.rows) (weight_at r'.column)
      (over_some c are) is.cells (as_first r r' is' same) x ((are.listed x).1 heavy))
      (eq-zero-or-pos (value_weight c.rows x))

  -- ---- weights of the first prior that, p times and times a factor at each value, are those of the second, q times

  module _ (p q : ℕ) (factor : ℕ → ℕ) (prior : (x : ℕ) → value_weight c.rows x * (p * factor x) ≡ value_weight c'.rows x * q) where
    abbrev pub AreReweighed : Row → Row → Type 0
    AreReweighed r r' = (x : ℕ) → weight_at r.column x * (p * factor x) ≡ weight_at r'.column x * q

    row_reweighed : (r r' : Row) → IsRowOf c r → IsRowOf c' r' → HaveOneColumn r r' → AreReweighed r r'
    row_reweighed r r' is is' same x =
        ⊎_elim
        (λ (none : value_weight c'.rows x ≡ 0).
        let first : weight_at r.column x ≡ 0 =
        ⊎_elim (λ (nothing : value_weight c.rows x ≡ 0). omega (arith, nothing, is.within x))
        (λ (heavy : 0 < value_weight c.rows x). absurd (omega (arith, none, still_secret c c' are are' one.secrets x heavy))) (eq-zero-or-pos (value_weight c.rows x)) in
        let second : weight_at r'.column x ≡ 0 = omega (arith, none, is'.within x) in
        omega (arith, ap (λ (n : ℕ). n * (p * factor x)) first, ap (λ (n : ℕ). n * q) second))
        (λ (heavy : 0 < value_weight c'.rows x).
        cancel (value_weight c'.rows x) (weight_at r.column x * (p * factor x)) (weight_at r'.column x * q) heavy
        (carried (value_weight c.rows x) (weight_at r.column x) (value_weight c'.rows x) (weight_at r'.column x) (p * factor x) (row_crossed r r' is is' same x)
        (prior x)))
        (eq-zero-or-pos (value_weight c'.rows x))
      where
        carried : (v w v' w' f : ℕ) → w * v' ≡ w' * v → v * f ≡ v' * q → v' * (w * f) ≡ v' * (w' * q)
        carried v w v' w' f r s = omega (arith, ap (λ (n : ℕ). n * f) r, ap (λ (n : ℕ). w' * n) s)

    rows_reweighed : (rs rs' : List Row) → Each (IsRowOf c) rs → Each (IsRowOf c') rs'
        → map (column_in (denominator c) c) rs ≡ map (column_in (denominator c') c') rs' → AllZip AreReweighed rs rs'
    rows_reweighed [] [] is is' same = tt
    rows_reweighed [] (r' ∷ rs') is is' same = absurd (cc)
    rows_reweighed (r ∷ rs) [] is is' same = absurd (cc)
    rows_reweighed (r ∷ rs) (r' ∷ rs') is is' same =
        let first : HaveOneColumn r r' = cc in
        let others : map (column_in (denominator c) c) rs ≡ map (column_in (denominator c') c') rs' = cc in
        (row_reweighed r r' is.0 is'.0 first, rows_reweighed rs rs' is.1 is'.1 others)

    -- so its rows, in some order, are those of the second
    pub all_reweighed : (rows : List Row) × IsPermutation c.rows rows × AllZip AreReweighed rows c'.rows
    all_reweighed =
        let (rows, order, same) = reordered (column_in (denominator c) c) c.rows (map (column_in (denominator c') c') c'.rows) one.columns in (
          rows,
          order,
          rows_reweighed rows c'.rows
              (recursion_from_All (IsRowOf c) rows (All-permutation (IsRowOf c) c.rows rows order (rows_are c are)))
              (recursion_from_All (IsRowOf c') c'.rows (rows_are c' are')) same,
        )
