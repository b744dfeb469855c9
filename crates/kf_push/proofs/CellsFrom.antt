-- Where cells and rows come from: each trace of some weight is a trace of a run that ends.
use Rattle.std.proofs.Common.{◌≡◌, ℕ, ◌<◌, ◌≤◌, Bool, true, false, cond, List, [], ◌∷◌, Contains, map}
use Rattle.std.proofs.Common.{Result, Ok, Err, IsOk, refl, sym, ap, subst, arith, inl, inr, ⊎_elim}
use Rattle.std.specs.Cmp.Lexicographic.{pointwise}
use Rattle.std.specs.List.{AllByRecursion as Each}
use Rattle.std.specs.List.Sorted.{IsStrictlySortedBy}
use Rattle.std.proofs.lemmas.Bool.{cases_eq}
use Rattle.std.proofs.lemmas.List.Elements.{recursion_from_All, All-from_recursion, All-contains_itself}
use Rattle.kf_value.specs.Values.{is_equal}
use Rattle.kf_value.proofs.ListLemmas.{each_weaker, each_append, each_flat_map, each_both, each_map}
use Rattle.kf_column.specs.declared.entry.Entry.{Entry}
use Rattle.kf_column.specs.Columns.{IsColumn, weight_at}
use Rattle.kf_column.specs.Traces.{Row, trace_order}
use Rattle.kf_column.proofs.AtMostOne.{In}
use Rattle.kf_core.specs.Joint.{Cell, cell_of, cells, weight_of}
use Rattle.kf_core.specs.Ready.{carried_cells}
use Rattle.kf_core.specs.Rows.{AreRowsOf}
use Rattle.kf_core.specs.Runs.{Run, Halted}
use Rattle.kf_core.proofs.OneTable.{in_from_contains, contains_from_in}
use Rattle.kf_core.proofs.Stores.{lists_decide}
use Rattle.kf_core.proofs.Sums.{adds}
use Rattle.kf_core.specs.Each.{HasTrace}
use Rattle.kf_push.proofs.CellWeights.{Trace, weighs, at_trace, run_cells, cells_of_run, trace_weight_is}

pub each_unmap : {X Y : Type 0} (P : Y → Type 0) (f : X → Y) (xs : List X) → Each P (map f xs) → Each (λ x. P (f x)) xs
each_unmap P f [] h = tt
each_unmap P f (x ∷ xs) h = (h.0, each_unmap P f xs h.1)

pub each_in : {X : Type 0} (P : X → Type 0) (xs : List X) (x : X) → Each P xs → In x xs → P x
each_in P [] x h here = absurd here
each_in P (y ∷ ys) x h (inl e) = subst P (sym e) h.0
each_in P (y ∷ ys) x h (inr later) = each_in P ys x h.1 later

-- a sum above 0 has a part above 0
pub positive_part : {X : Type 0} (f : X → ℕ) (xs : List X) → 0 < adds f xs → (x : X) × In x xs × (0 < f x)
positive_part f [] some = absurd (omega (arith, some))
positive_part f (x ∷ xs) some =
    ⊎_elim
    (λ (none : f x ≡ 0). let later = positive_part f xs (omega (arith, none, some)) in (later.0, inr later.1, later.2))
    (λ (here : f x ≡ 0 → ⊥). (x, inl refl, omega (arith, here)))
    (cases_eq (f x) 0)

pub part_within : {X : Type 0} (f : X → ℕ) (xs : List X) (x : X) → In x xs → f x ≤ adds f xs
part_within f [] x here = absurd here
part_within f (y ∷ ys) x (inl e) = let same : f x ≡ f y = ap f e in omega (arith, same)
part_within f (y ∷ ys) x (inr later) = let rest = part_within f ys x later in omega (arith, rest)

pub cond_some : (b : Bool) (n : ℕ) → 0 < cond b n 0 → (b ≡ true) × (0 < n)
cond_some true n some = (refl, some)
cond_some false n some = absurd (omega (arith, some))

pub each_of : {X : Type 0} (P : X → Type 0) (xs : List X) → ((x : X) → In x xs → P x) → Each P xs
each_of P [] h = tt
each_of P (x ∷ xs) h = (h x (inl refl), each_of P xs (λ y here. h y (inr here)))

-- a cell's trace has its weight
pub cell_trace : (cs : List Cell) (d : Cell) → In d cs → 0 < d.weight → HasTrace cs d.trace
cell_trace cs d here some =
    let own : cond (pointwise is_equal d.trace d.trace) d.weight 0 ≡ d.weight = ap (λ b. cond b d.weight 0) ((lists_decide d.trace d.trace).1 refl) in
    let part = part_within (weighs (at_trace d.trace)) cs d here in
    let whole = trace_weight_is cs d.trace in
    omega (arith, own, part, whole, some)

-- ---- traces of runs that end

module _ (from : ℕ → List Run) where
  abbrev pub IsTraceOf : Trace → Type 0
  IsTraceOf t = (n : ℕ) × (r : Run) × Contains (from n) r × IsOk r.end × (r.trace ≡ t)

  run_traced : (n w : ℕ) (r : Run) (x : Result ℕ Halted) → r.end ≡ x → Contains (from n) r → Each (λ d. IsTraceOf d.trace) (run_cells w r x)
  run_traced n w r (Ok m) is has = ((n, r, has, subst IsOk (sym is) refl, refl), tt)
  run_traced n w r (Err f) is has = tt

  runs_traced : (n w : ℕ) → Each (λ d. IsTraceOf d.trace) (cells (λ n. n) w (from n))
  runs_traced n w =
      each_flat_map (λ d. IsTraceOf d.trace) (cell_of (λ n. n) w) (from n)
      (each_weaker (Contains (from n)) (λ r. Each (λ d. IsTraceOf d.trace) (cell_of (λ n. n) w r))
      (λ r has. subst (Each (λ d. IsTraceOf d.trace)) (sym (cells_of_run w r)) (run_traced n w r r.end refl has)) (from n)
      (recursion_from_All (Contains (from n)) (from n) (All-contains_itself (from n))))

  pub cells_traced : (column : List Entry) → Each (λ d. IsTraceOf d.trace) (carried_cells from column)
  cells_traced [] = tt
  cells_traced (e ∷ es) = each_append (λ d. IsTraceOf d.trace) (cells (λ n. n) e.weight (from e.value)) (carried_cells from es) (runs_traced e.value e.weight)
      (cells_traced es)

  pub trace_is : (column : List Entry) (t : Trace) → HasTrace (carried_cells from column) t → IsTraceOf t
  trace_is column t has =
      let d = positive_part (λ (c : Cell). cond (pointwise is_equal c.trace t) c.weight 0) (carried_cells from column)
      (subst (λ n. 0 < n) (trace_weight_is (carried_cells from column) t) has) in
      let same : d.0.trace ≡ t = (lists_decide d.0.trace t).0 (cond_some (pointwise is_equal d.0.trace t) d.0.weight d.2).0 in
      subst IsTraceOf same (each_in (λ (d : Cell). IsTraceOf d.trace) (carried_cells from column) d.0 (cells_traced column) d.1)

-- ---- what holds of each row

abbrev pub traces : List Row → List Trace
traces rows = map (λ r. r.trace) rows

-- its trace has some weight, and its column is what there is at it
abbrev pub IsRowOf : List Cell → Row → Type 0
IsRowOf cs r = HasTrace cs r.trace × IsColumn r.column × ((x : ℕ) → weight_at r.column x ≡ weight_of cs r.trace x)

module _ (cs : List Cell) (rows : List Row) where
  abbrev HasWeights : Row → Type 0
  HasWeights r = (x : ℕ) → weight_at r.column x ≡ weight_of cs r.trace x

  pub rows_told : AreRowsOf cs rows → Each (IsRowOf cs) rows
  rows_told are =
      each_both (λ r. HasTrace cs r.trace) (λ r. IsColumn r.column × HasWeights r) (IsRowOf cs) (λ r a b. (a, b.0, b.1)) rows
      (each_unmap (HasTrace cs) (λ (r : Row). r.trace) rows (each_of (HasTrace cs) (traces rows)
      (λ t here. (are.all t).0 (contains_from_in (traces rows) t here))))
      (each_both (λ r. IsColumn r.column) HasWeights (λ r. IsColumn r.column × HasWeights r) (λ r a b. (a, b)) rows
      (recursion_from_All (λ (r : Row). IsColumn r.column) rows are.columns) (recursion_from_All HasWeights rows are.weights))

  -- rows in order, where each trace of some weight is found
  pub rows_from : IsStrictlySortedBy trace_order (traces rows) → Each (IsRowOf cs) rows → ((t : Trace) → HasTrace cs t → In t (traces rows))
      → AreRowsOf cs rows
  rows_from sorted told found = record {
    ascending = sorted;
    all = λ t. (
      λ h. each_in (HasTrace cs) (traces rows) t
          (each_map (HasTrace cs) (λ (r : Row). r.trace) rows (each_weaker (IsRowOf cs) (λ r. HasTrace cs r.trace) (λ r is. is.0) rows told))
          (in_from_contains (traces rows) t h),
      λ h. contains_from_in (traces rows) t (found t h),
    );
    columns = All-from_recursion (λ (r : Row). IsColumn r.column) rows (each_weaker (IsRowOf cs) (λ r. IsColumn r.column) (λ r is. is.1) rows told);
    weights = All-from_recursion HasWeights rows (each_weaker (IsRowOf cs) HasWeights (λ r is. is.2) rows told);
  }
