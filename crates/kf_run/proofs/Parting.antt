-- The two sides of a guard carry together what was there.
use Rattle.std.proofs.Common.{true≢false, ◌≡◌, ℕ, ◌+◌, ◌*◌, ◌/◌, Bool, true, false, List, [], ◌∷◌, ◌++◌, Ok, Err, All, map, refl, sym, ap, subst, ◌∙◌, arith}
use Rattle.std.specs.Prelude.{if◌then◌else◌, sum_by}
use Rattle.std.specs.Int.{◌∣◌}
use Rattle.std.specs.List.{AllByRecursion as Each, flat_map}
use Rattle.std.proofs.Math.Nat.{mul-one, mul-div_assoc, div-mul_cancel, mul_comm, mul-add, mul-zero}
use Rattle.std.proofs.lemmas.Grind.{flat_map-append}
use Rattle.std.proofs.lemmas.List.Elements.{recursion_from_All}
use Rattle.kf_value.specs.Values.{truth}
use Rattle.kf_column.specs.declared.entry.Entry.{Entry}
use Rattle.kf_column.specs.Joint.{mass}
use Rattle.kf_column.specs.Columns as column
use Rattle.kf_core.specs.Choices.{Weighted, total}
use Rattle.kf_core.specs.Joint.{Cell, cell_of}
use Rattle.kf_core.specs.Runs.{Run, Tried, joined, branched, choice_run, stay}
use Rattle.kf_core.specs.Ready.{IsPushed, carried_cells}
use Rattle.kf_core.proofs.Filled.{Filled}
use Rattle.kf_core.proofs.Sums.{adds, adds_joined, sum_is, each_is}
use Rattle.kf_core.specs.Leaks.{shown}
use Rattle.kf_push.specs.Following.{Goes, Takes, observed, side}
use Rattle.kf_push.proofs.Carrying.{Matrix, pushed_mass}
use Rattle.kf_run.proofs.Sharing.{its_cells}

-- the weight of the cells of these runs
abbrev pub cells_weigh : ℕ → List Run → ℕ
cells_weigh w rs = adds (λ k. k.weight) (its_cells w rs)

cells_joined : (w : ℕ) (rs qs : List Run) → cells_weigh w (rs ++ qs) ≡ cells_weigh w rs + cells_weigh w qs
cells_joined w rs qs = ap (adds (λ (k : Cell). k.weight)) (flat_map-append (cell_of (λ n. n) w) rs qs) ∙ adds_joined (λ (k : Cell). k.weight) (its_cells w rs) (its_cells w qs)

module _ (n w : ℕ) where
  abbrev on_side : Bool → Bool → List Run
  on_side wanted t = if t then (if wanted then stay n else []) else (if wanted then [] else stay n)

  abbrev side_runs : ℕ → Bool → List Weighted → List Run
  side_runs t wanted cs = flat_map (λ c. map (joined (choice_run shown n t c)) (on_side wanted (truth c.value))) cs

  abbrev share : ℕ → Weighted → ℕ
  share t c = c.weight * 1 * w / (t * 1)

  parted : (t : ℕ) (c : Weighted) (b : Bool)
      → cells_weigh w (map (joined (choice_run shown n t c)) (on_side true b)) + cells_weigh w (map (joined (choice_run shown n t c)) (on_side false b)) ≡ share t c
  parted t c true = omega arith
  parted t c false = omega arith

  both_shares : (t : ℕ) (cs : List Weighted) → cells_weigh w (side_runs t true cs) + cells_weigh w (side_runs t false cs) ≡ adds (share t) cs
  both_shares t [] = refl
  both_shares t (c ∷ cs) =
      let one = cells_joined w (map (joined (choice_run shown n t c)) (on_side true (truth c.value))) (side_runs t true cs) in
      let other = cells_joined w (map (joined (choice_run shown n t c)) (on_side false (truth c.value))) (side_runs t false cs) in
      omega (arith, one, other, parted t c (truth c.value), both_shares t cs)

  share_is : (t : ℕ) (c : Weighted) → t ∣ w → share t c ≡ w / t * c.weight
  share_is t c divides =
      ap (λ m. m * w / (t * 1)) (mul-one c.weight) ∙ ap (λ m. c.weight * w / m) (mul-one t) ∙ mul-div_assoc t c.weight divides ∙ mul_comm c.weight (w / t)

  shares_add : (q : ℕ) (cs : List Weighted) → adds (λ (c : Weighted). q * c.weight) cs ≡ q * adds (λ (c : Weighted). c.weight) cs
  shares_add q [] = sym (mul-zero q)
  shares_add q (c ∷ cs) = ap (λ m. q * c.weight + m) (shares_add q cs) ∙ sym (mul-add q c.weight (adds (λ (c : Weighted). c.weight) cs))

  whole_shares : (t : ℕ) (cs : List Weighted) → t ≡ total cs → t ∣ w → adds (share t) cs ≡ w
  whole_shares t cs sum divides =
      each_is (share t) (λ c. w / t * c.weight) (λ c. share_is t c divides) cs
      ∙ shares_add (w / t) cs
      ∙ ap (λ m. w / t * m) (sym (sum ∙ sum_is (λ (c : Weighted). c.weight) cs))
      ∙ div-mul_cancel t divides

  -- from one store
  both_of : (g : Tried) → Filled g → Each (Takes w) (branched shown n (λ v. stay n) g)
      → cells_weigh w (branched shown n (λ v. on_side true (truth v)) g) + cells_weigh w (branched shown n (λ v. on_side false (truth v)) g) ≡ w
  both_of (Ok []) filled takes = absurd filled
  both_of (Ok (c ∷ cs)) filled takes =
      let t = total (c ∷ cs) in
      let divides : t ∣ w = subst (λ (m : ℕ). m ∣ w) (mul-one t) takes.0.divides in
      both_shares t (c ∷ cs) ∙ whole_shares t (c ∷ cs) refl divides
  both_of (Err f) filled takes = absurd (true≢false (sym takes.0.ends))

module _ (tries : ℕ → Tried) (filled : (n : ℕ) → Filled (tries n)) where
  abbrev goes_on : Entry → Type 0
  goes_on e = All (Takes e.weight) (observed tries e.value)

  abbrev carried_weight : Bool → List Entry → ℕ
  carried_weight wanted column = adds (λ (k : Cell). k.weight) (carried_cells (side wanted tries) column)

  column_both : (column : List Entry) → Each goes_on column → carried_weight true column + carried_weight false column ≡ adds (λ e. e.weight) column
  column_both [] goes = refl
  column_both (e ∷ es) goes =
      let here = both_of e.value e.weight (tries e.value) (filled e.value) (recursion_from_All (Takes e.weight) (observed tries e.value) goes.0) in
      let one = adds_joined (λ (k : Cell). k.weight) (its_cells e.weight (side true tries e.value)) (carried_cells (side true tries) es) in
      let other = adds_joined (λ (k : Cell). k.weight) (its_cells e.weight (side false tries e.value)) (carried_cells (side false tries) es) in
      omega (arith, here, one, other, column_both es goes.1)

  abbrev pub carried_sum : Bool → List Entry → ℕ
  carried_sum wanted column = sum_by (λ cell. cell.weight) (carried_cells (side wanted tries) column)

  columns_both : (columns : Matrix) → Each (λ column. All goes_on column) columns → adds (carried_sum true) columns + adds (carried_sum false) columns ≡ adds column.total columns
  columns_both [] goes = refl
  columns_both (c ∷ cs) goes =
      let here = column_both c (recursion_from_All goes_on c goes.0) in
      let one = sum_is (λ (k : Cell). k.weight) (carried_cells (side true tries) c) in
      let other = sum_is (λ (k : Cell). k.weight) (carried_cells (side false tries) c) in
      let all = sum_is (λ (e : Entry). e.weight) c in
      omega (arith, here, one, other, all, columns_both cs goes.1)

  -- both sides together
  pub both_mass : (columns taken left : Matrix) → Goes (observed tries) columns → IsPushed (side true tries) columns taken → IsPushed (side false tries) columns left
      → mass taken + mass left ≡ mass columns
  both_mass columns taken left goes p q =
      let one = pushed_mass (side true tries) columns taken p ∙ sum_is (carried_sum true) columns in
      let other = pushed_mass (side false tries) columns left q ∙ sum_is (carried_sum false) columns in
      let both = columns_both columns (recursion_from_All (λ column. All goes_on column) columns goes) in
      let all : mass columns ≡ adds column.total columns = sum_is column.total columns in
      omega (arith, one, other, both, all)
