-- Runs from a store end in stores of the same variables, and the columns after them name such stores.
use Rattle.std.proofs.Common.{◌≡◌, ℕ, zero, suc, ◌<◌, ◌==◌, ◌&&◌, Bool, true, false, cond, List, [], ◌∷◌, All, map, length, Option, None, Some, Result, Ok, Err, refl, subst, arith}
use Rattle.std.specs.Prelude.{if◌then◌else◌, flat_map}
use Rattle.std.specs.Cmp.Lexicographic.{pointwise}
use Rattle.std.specs.List.{AllByRecursion as Each, AllZip}
use Rattle.std.proofs.lemmas.Bool.{eqb-true}
use Rattle.std.proofs.lemmas.List.Elements.{All-head, All-tail, All-from_recursion, recursion_from_All}
use Rattle.std.proofs.lemmas.List.Quantifiers.{position-Some}
use Rattle.kf_value.specs.Stores.{stores}
use Rattle.kf_value.specs.Types.{TypeTree}
use Rattle.kf_value.specs.Values.{ValueTree, is_equal, truth}
use Rattle.kf_value.proofs.ListLemmas.{each_any, each_flat_map, each_map, each_weaker}
use Rattle.kf_column.specs.declared.entry.Entry.{Entry}
use Rattle.kf_column.specs.Columns.{IsColumn, weight_at}
use Rattle.kf_column.specs.Shapes.{IsBelow}
use Rattle.kf_column.specs.Traces.{Row}
use Rattle.kf_column.proofs.Weights.{weight_at-cons, weight_at_head}
use Rattle.kf_core.specs.Choices.{total}
use Rattle.kf_core.specs.Dxs.{DxTree}
use Rattle.kf_core.specs.Joint.{Cell, cell_of, cells, weight_of}
use Rattle.kf_core.specs.Ready.{carried_cells}
use Rattle.kf_core.specs.Rows.{AreRowsOf}
use Rattle.kf_core.specs.Runs.{Halted, LoopBound, Run, Tried, all_runs, assigned, branched, chain, choice_run, declared, guarded, joined, leaks, looped, place, replaced, runs, stay, stopped, store_number, tried}
use Rattle.kf_core.specs.Sts.{StTree, StTrees, Skip, Assign, Observe, If, While, no_sts, more_sts}
use Rattle.kf_core.proofs.Sums.{adds}
use Rattle.kf_core.specs.Each.{moved, onward}
use Rattle.kf_core.specs.Leaks.{silent, shown}
use Rattle.kf_push.proofs.Carrying.{Matrix}
use Rattle.kf_push.proofs.CellWeights.{at_both, weighs, weight_is}

-- what has a number is a store
pub numbered : (ts : List TypeTree) (s : List ValueTree) (m : ℕ) → store_number ts s ≡ Some m → m < length (stores ts)
numbered ts s m is = (position-Some (pointwise is_equal s) (stores ts) m [] is).0

module _ (ts : List TypeTree) where
  -- it ends in a store, or at a fault
  abbrev pub In : Result ℕ Halted → Type 0
  In (Ok m) = m < length (stores ts)
  In (Err f) = Unit {0}

  abbrev pub AllIn : List Run → Type 0
  AllIn rs = Each (λ r. In r.end) rs

  -- from each store
  abbrev pub Keep : (ℕ → List Run) → Type 0
  Keep from = (n : ℕ) → n < length (stores ts) → AllIn (from n)

  joined_in : (r : Run) (qs : List Run) → AllIn qs → AllIn (map (joined r) qs)
  joined_in r qs h = each_map (λ q. In q.end) (joined r) qs h

  onward_in : (next : ℕ → List Run) → Keep next → (r : Run) (x : Result ℕ Halted) → In x → In r.end → AllIn (onward next r x)
  onward_in next all r (Ok m) h own = joined_in r (next m) (all m h)
  onward_in next all r (Err f) h own = (own, tt)

  pub chain_in : (next : ℕ → List Run) → Keep next → (rs : List Run) → AllIn rs → AllIn (chain rs next)
  chain_in next all rs h =
      each_flat_map (λ r. In r.end) (λ r. onward next r r.end) rs
      (each_weaker (λ r. In r.end) (λ r. AllIn (onward next r r.end)) (λ r s. onward_in next all r r.end s s) rs h)

  branched_in : (leak : ValueTree → List ValueTree) (n : ℕ) (next : ValueTree → List Run) → ((v : ValueTree) → AllIn (next v)) → (g : Tried) → AllIn (branched leak n next g)
  branched_in leak n next all (Ok ws) =
      each_flat_map (λ r. In r.end) (λ u. map (joined (choice_run leak n (total ws) u)) (next u.value)) ws
      (each_any (λ u. AllIn (map (joined (choice_run leak n (total ws) u)) (next u.value))) (λ u. joined_in (choice_run leak n (total ws) u) (next u.value) (all u.value)) ws)
  branched_in leak n next all (Err f) = (tt, tt)

  stay_in : Keep stay
  stay_in n low = (low, tt)

  side_in : (b : Bool) (xs ys : List Run) → AllIn xs → AllIn ys → AllIn (if b then xs else ys)
  side_in true xs ys h g = h
  side_in false xs ys h g = g

  module _ (guard : ℕ → Tried) where
    guarded_in : (taken left : ℕ → List Run) → Keep taken → Keep left → Keep (guarded guard taken left)
    guarded_in taken left h g n low =
        branched_in shown n (λ v. if truth v then taken n else left n) (λ v. side_in (truth v) (taken n) (left n) (h n low) (g n low)) (guard n)

    looped_in : (turns at : ℕ) (body : ℕ → List Run) → Keep body → Keep (looped turns guard at body)
    looped_in zero at body h = guarded_in (λ m. stopped LoopBound at) stay (λ m low. (tt, tt)) stay_in
    looped_in (suc j) at body h =
        guarded_in (λ m. chain (body m) (looped j guard at body)) stay
        (λ m low. chain_in (looped j guard at body) (looped_in j at body h) (body m) (h m low)) stay_in

  moved_in : (at i : ℕ) (v : ValueTree) (n : ℕ) (x : Option ℕ) → replaced ts i v n ≡ x → AllIn (moved at x)
  moved_in at i v n (Some m) is = (numbered ts _ m is, tt)
  moved_in at i v n None is = (tt, tt)

  -- whatever was there, an assignment ends in a store
  pub assigned_in : (leak : ValueTree → List ValueTree) (i : ℕ) (d : DxTree) (n : ℕ) → AllIn (assigned leak ts i d n)
  assigned_in leak i d n =
      branched_in leak n (λ v. moved (place d) (replaced ts i v n)) (λ v. moved_in (place d) i v n (replaced ts i v n) refl) (tried ts d n)

  module _ (turns : ℕ) where
    mutual
      runs_in : (x : StTree) → Keep (runs ts turns x)
      runs_in Skip = stay_in
      runs_in (Assign i d visible) = λ n low. assigned_in (leaks visible) i d n
      runs_in (Observe d) = λ n low. branched_in shown n (λ v. stay n) (λ v. stay_in n low) (tried ts d n)
      runs_in (If d xs ys) = guarded_in (tried ts d) (all_runs ts turns xs) (all_runs ts turns ys) (all_in xs) (all_in ys)
      runs_in (While d xs) = looped_in (tried ts d) turns (place d) (all_runs ts turns xs) (all_in xs)

      pub all_in : (xs : StTrees) → Keep (all_runs ts turns xs)
      all_in no_sts = stay_in
      all_in (more_sts x xs) = λ n low. chain_in (all_runs ts turns xs) (all_in xs) (runs ts turns x n) (runs_in x n low)

  declared_keep : (i : ℕ) (ds : List DxTree) → Keep (declared ts i ds)
  declared_keep i [] = stay_in
  declared_keep i (d ∷ ds) = λ n low. chain_in (declared ts (suc i) ds) (declared_keep (suc i) ds) (assigned silent ts i d n) (assigned_in silent i d n)

  -- the declarations end in stores, from wherever they begin, where there is one of them
  pub declared_in : (i : ℕ) (d : DxTree) (ds : List DxTree) (n : ℕ) → AllIn (declared ts i (d ∷ ds) n)
  declared_in i d ds n = chain_in (declared ts (suc i) ds) (declared_keep (suc i) ds) (assigned silent ts i d n) (assigned_in silent i d n)

-- ---- cells and columns

module _ (size : ℕ) where
  abbrev pub CellsBelow : List Cell → Type 0
  CellsBelow cs = Each (λ c. c.value < size) cs

  -- some weight lies on none but these
  here_below : (b : Bool) (c : Cell) (x : ℕ) → (c.value == x) ≡ b → c.value < size → 0 < cond b c.weight 0 → x < size
  here_below true c x same low some = subst (λ n. n < size) (eqb-true c.value x same) low
  here_below false c x same low some = absurd (omega (arith, some))

  test_below : (b : Bool) (c : Cell) (t : List ValueTree) (x : ℕ) → pointwise is_equal c.trace t ≡ b → c.value < size → 0 < cond (b && (c.value == x)) c.weight 0 → x < size
  test_below true c t x same low some = here_below (c.value == x) c x refl low some
  test_below false c t x same low some = absurd (omega (arith, some))

  zero_or : (n : ℕ) (P : Type 0) → (0 < n → P) → (n ≡ 0 → P) → P
  zero_or zero P some none = none refl
  zero_or (suc n) P some none = some (omega arith)

  weighed_below : (t : List ValueTree) (x : ℕ) (cs : List Cell) → CellsBelow cs → 0 < adds (weighs (at_both t x)) cs → x < size
  weighed_below t x [] below some = absurd (omega (arith, some))
  weighed_below t x (c ∷ cs) below some =
      let rest = weighed_below t x cs below.1 in
      zero_or (weighs (at_both t x) c) (x < size) (test_below (pointwise is_equal c.trace t) c t x refl below.0) (λ none. rest (omega (arith, some, none)))

  entries_below : (es : List Entry) → All (λ (e : Entry). 0 < e.weight) es → ((x : ℕ) → 0 < weight_at es x → x < size) → Each (λ (e : Entry). e.value < size) es
  entries_below [] positive all = tt
  entries_below (e ∷ es) positive all = (
    all e.value (omega (arith, weight_at_head e es e.value refl, All-head (λ (e : Entry). 0 < e.weight) e es positive)),
    entries_below es (All-tail (λ (e : Entry). 0 < e.weight) e es positive) (λ x some. all x (omega (arith, weight_at-cons e es x, some))),
  )

  -- a column with the weights of such cells
  pub column_below : (cs : List Cell) (t : List ValueTree) (column : List Entry) → CellsBelow cs → IsColumn column
      → ((x : ℕ) → weight_at column x ≡ weight_of cs t x) → IsBelow size column
  column_below cs t column below is weights =
      All-from_recursion (λ (e : Entry). e.value < size) column
      (entries_below column is.positive (λ x some. weighed_below t x cs below (omega (arith, some, weights x, weight_is cs t x))))

  rows_below : (cs : List Cell) → CellsBelow cs → (rows : List Row) → All (λ (r : Row). IsColumn r.column) rows
      → All (λ (r : Row). (x : ℕ) → weight_at r.column x ≡ weight_of cs r.trace x) rows → Each (λ (r : Row). IsBelow size r.column) rows
  rows_below cs below [] are weights = tt
  rows_below cs below (r ∷ rows) are weights = (
    column_below cs r.trace r.column below (All-head (λ (r : Row). IsColumn r.column) r rows are)
        (All-head (λ (r : Row). (x : ℕ) → weight_at r.column x ≡ weight_of cs r.trace x) r rows weights),
    rows_below cs below rows (All-tail (λ (r : Row). IsColumn r.column) r rows are)
        (All-tail (λ (r : Row). (x : ℕ) → weight_at r.column x ≡ weight_of cs r.trace x) r rows weights),
  )

module _ (ts : List TypeTree) (number : ℕ → ℕ) (numbers : (n : ℕ) → n < length (stores ts) → number n < length (stores ts)) (w : ℕ) where
  cell_below : (r : Run) (x : Result ℕ Halted) → r.end ≡ x → In ts x → CellsBelow (length (stores ts)) (cell_of number w r)
  cell_below r (Ok n) is low = rw is (numbers n low, tt)
  cell_below r (Err f) is low = rw is tt

  -- the cells of runs that end in stores
  pub cells_below : (rs : List Run) → AllIn ts rs → CellsBelow (length (stores ts)) (cells number w rs)
  cells_below rs h =
      each_flat_map (λ (c : Cell). c.value < length (stores ts)) (cell_of number w) rs
      (each_weaker (λ r. In ts r.end) (λ r. CellsBelow (length (stores ts)) (cell_of number w r)) (λ r s. cell_below r r.end refl s) rs h)

module _ (ts : List TypeTree) (from : ℕ → List Run) (keep : Keep ts from) where
  abbrev size : ℕ
  size = length (stores ts)

  carried_below : (column : List Entry) → IsBelow size column → CellsBelow size (carried_cells from column)
  carried_below column below =
      each_flat_map (λ (c : Cell). c.value < size) (λ (e : Entry). cells (λ n. n) e.weight (from e.value)) column
      (each_weaker (λ (e : Entry). e.value < size) (λ (e : Entry). CellsBelow size (cells (λ n. n) e.weight (from e.value)))
      (λ e low. cells_below ts (λ n. n) (λ n l. l) e.weight (from e.value) (keep e.value low)) column
      (recursion_from_All (λ (e : Entry). e.value < size) column below))

  each_below : (columns : Matrix) (rows : List (List Row)) → All (IsBelow size) columns
      → AllZip (λ column there. AreRowsOf (carried_cells from column) there) columns rows
      → Each (λ (there : List Row). Each (λ (r : Row). IsBelow size r.column) there) rows
  each_below [] [] below each = tt
  each_below [] (there ∷ rows) below each = absurd each
  each_below (c ∷ cs) [] below each = absurd each
  each_below (c ∷ cs) (there ∷ rows) below each = (
    rows_below size (carried_cells from c) (carried_below c (All-head (IsBelow size) c cs below)) there each.0.columns each.0.weights,
    each_below cs rows (All-tail (IsBelow size) c cs below) each.1,
  )

  -- columns of stores become columns of stores
  pub behind_below : (columns : Matrix) (rows : List (List Row)) → All (IsBelow size) columns
      → AllZip (λ column there. AreRowsOf (carried_cells from column) there) columns rows
      → All (IsBelow size) (map (λ (r : Row). r.column) (flat_map (λ there. there) rows))
  behind_below columns rows below each =
      All-from_recursion (IsBelow size) (map (λ (r : Row). r.column) (flat_map (λ there. there) rows))
      (each_map (IsBelow size) (λ (r : Row). r.column) (flat_map (λ there. there) rows)
      (each_flat_map (λ (r : Row). IsBelow size r.column) (λ (there : List Row). there) rows (each_below columns rows below each)))
