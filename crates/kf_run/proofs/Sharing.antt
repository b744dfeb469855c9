-- The weight of a column's stores, shared out along ways.
use Rattle.std.proofs.Common.{◌≡◌, ℕ, ◌+◌, ◌*◌, ◌/◌, ◌<◌, ◌≤◌, ◌==◌, Bool, true, false, cond, List, [], ◌∷◌, ◌++◌, Option, Some, None, Ok, Err, All, IsOk, map, get_or, take, length, refl, sym, ap, subst, ◌∙◌, arith, append-nil, mul-pos, div-one, one-mul, if◌then◌else◌}
use Rattle.std.specs.Prelude.{◌&&◌, slice_get}
use Rattle.std.specs.Int.{◌∣◌}
use Rattle.std.specs.Cmp.Lexicographic.{pointwise}
use Rattle.std.specs.List.{AllByRecursion as Each, flat_map}
use Rattle.std.proofs.Math.Nat.{mul-one, mul-add, mul-div_assoc, mul-div_cancel', mul_comm, dvd-mul_right}
use Rattle.std.proofs.lemmas.Grind.{flat_map-append}
use Rattle.std.proofs.lemmas.List.{take_all, take_more}
use Rattle.std.proofs.lemmas.List.Elements.{All-from_recursion, recursion_from_All}
use Rattle.std.proofs.lemmas.List.Sums.{sum_by-cons, sum_by-append}
use Rattle.std.proofs.lemmas.Nat.Gcd.{dvd_trans}
use Rattle.kf_value.specs.Forms.{HasKind}
use Rattle.kf_value.specs.Kinds.{TruthKind}
use Rattle.kf_value.specs.Shapes.{shape_types}
use Rattle.kf_value.specs.Values.{ValueTree, Truth, Whole, Tuple, Set, is_equal, truth}
use Rattle.kf_value.specs.declared.shape.Shape.{Shape}
use Rattle.kf_value.proofs.ListLemmas.{each_any, each_append, each_flat_map, each_weaker}
use Rattle.kf_column.specs.declared.entry.Entry.{Entry}
use Rattle.kf_column.specs.Columns.{total as column_total}
use Rattle.kf_core.specs.Choices.{Weighted, total}
use Rattle.kf_core.specs.Dxs.{DxTree}
use Rattle.kf_core.specs.Joint.{Cell, cells, cell_of, weight_of}
use Rattle.kf_core.specs.Programs.{ProgramTree}
use Rattle.kf_core.specs.Ready.{carried_cells}
use Rattle.kf_core.specs.Runs.{Run, Tried, assigned, copied, joined, branched, choice_run, place as stop_place, replaced, stay, tried}
use Rattle.kf_core.proofs.Filled.{moved_some}
use Rattle.kf_core.proofs.Measures.{Full}
use Rattle.kf_core.proofs.Sums.{adds, adds_joined, second_positive, sum_is}
use Rattle.kf_core.specs.Each.{moved}
use Rattle.kf_core.specs.Leaks.{silent, shown}
use Rattle.kf_eval.specs.Choices.{weighted_trees}
use Rattle.kf_eval.specs.declared.choice.Choice.{Choice}
use Rattle.kf_support.specs.Moves.{store_behind}
use Rattle.kf_push.specs.Following.{Takes, observed, side}
use Rattle.kf_eval.specs.Memos.{IsChosen, IsKeptAt, kept}
use Rattle.kf_eval.specs.declared.memo.Memo.{Memo}
use Rattle.kf_run.specs.Following.{shown_to}
use Rattle.kf_run.specs.declared.ways.Leak.{Leak}
use Rattle.kf_run.specs.Ways.{Way, Adds, IsShared, along, held, leaked, way_to, way_total, moves, sides, shows}
use Rattle.kf_run.proofs.RowsTold.{Trace, cell_value, value_adds}

-- ---- ways added up

abbrev pub held_in : Trace → ℕ → Way → ℕ
held_in t x w = cond (pointwise is_equal w.trace t && (w.to == x)) w.weight 0

pub held_is : (t : Trace) (x : ℕ) (ways : List Way) → held t x ways ≡ adds (held_in t x) ways
held_is t x ways = sum_is (held_in t x) ways

pub held_joined : (t : Trace) (x : ℕ) (us vs : List Way) → held t x (us ++ vs) ≡ held t x us + held t x vs
held_joined t x us vs = sum_by-append (held_in t x) us vs

module _ (from : ℕ → List Run) where
  carried_joined : (es fs : List Entry) (t : Trace) (x : ℕ)
      → weight_of (carried_cells from (es ++ fs)) t x ≡ weight_of (carried_cells from es) t x + weight_of (carried_cells from fs) t x
  carried_joined es fs t x =
      let one = carried_cells from es in
      let other = carried_cells from fs in
      let all = carried_cells from (es ++ fs) in
      let both : all ≡ one ++ other = flat_map-append (λ e. cells (λ n. n) e.weight (from e.value)) es fs in
      value_adds all t x ∙ ap (adds (cell_value t x)) both ∙ adds_joined (cell_value t x) one other
      ∙ sym (λ i. value_adds one t x i + value_adds other t x i)

  pub shared_none : IsShared from [] []
  shared_none = record { weigh = λ t x. refl; fits = omega arith; positive = tt }

  shared_both : (es fs : List Entry) (us vs : List Way) → IsShared from es us → IsShared from fs vs → IsShared from (es ++ fs) (us ++ vs)
  shared_both es fs us vs one other =
      let all = sum_by-append (λ (e : Entry). e.weight) es fs in
      let ways = sum_by-append (λ (w : Way). w.weight) us vs in
      record {
        weigh = λ t x. held_joined t x us vs ∙ (λ i. one.weigh t x i + other.weigh t x i) ∙ sym (carried_joined es fs t x);
        fits = omega (arith, all, ways, one.fits, other.fits);
        positive = each_append (λ (w : Way). 0 < w.weight) us vs one.positive other.positive;
      }

  -- the next store of a column
  pub shared_next : (items column : List Entry) → items ≡ column → (i : ℕ) (d : Entry) → i < length items → (old now : List Way)
      → IsShared from (take i column) old → Adds from (get_or items i d ∷ []) old now → IsShared from (take (i + 1) column) now
  shared_next items column same i d within old now had adds =
      let e = get_or items i d in
      let grown : take (i + 1) items ≡ take i items ++ e ∷ [] = take_more items i d within in
      subst (λ l. IsShared from l now) (subst (λ l. take i l ++ e ∷ [] ≡ take (i + 1) l) same (sym grown))
      (subst (IsShared from (take i column ++ e ∷ [])) (sym adds.is) (shared_both (take i column) (e ∷ []) old adds.more had adds.shared))

  -- and all of them
  pub shared_all : (items column : List Entry) → items ≡ column → (i : ℕ) → length items ≤ i → (now : List Way) → IsShared from (take i column) now → IsShared from column now
  shared_all items column same i past now had = subst (λ l. IsShared from l now) (take_all i column (subst (λ l. length l ≤ i) same past)) had

-- ---- one choice

abbrev pub its_cells : ℕ → List Run → List Cell
its_cells w rs = cells (λ n. n) w rs

module _ (leak : ValueTree → Trace) (n t w : ℕ) (next : ValueTree → List Run) (go : Weighted → List Way) where
  -- a choice weighs what its ways weigh
  abbrev pub GoesAs : Weighted → Type 0
  GoesAs c = (u : Trace) (x : ℕ) → adds (held_in u x) (go c) ≡ adds (cell_value u x) (its_cells w (map (joined (choice_run leak n t c)) (next c.value)))

  pub all_go : (u : Trace) (x : ℕ) (cs : List Weighted) → Each GoesAs cs
      → adds (held_in u x) (flat_map go cs) ≡ adds (cell_value u x) (its_cells w (flat_map (λ c. map (joined (choice_run leak n t c)) (next c.value)) cs))
  all_go u x [] each = refl
  all_go u x (c ∷ cs) each =
      let here = map (joined (choice_run leak n t c)) (next c.value) in
      let there = flat_map (λ c. map (joined (choice_run leak n t c)) (next c.value)) cs in
      adds_joined (held_in u x) (go c) (flat_map go cs)
      ∙ (λ i. each.0 u x i + all_go u x cs each.1 i)
      ∙ sym (ap (adds (cell_value u x)) (flat_map-append (cell_of (λ n. n) w) here there) ∙ adds_joined (cell_value u x) (its_cells w here) (its_cells w there))

module _ (t w : ℕ) (divides : t ∣ w) where
  share_is : (c : Weighted) → w / t * c.weight ≡ c.weight * 1 * w / (t * 1)
  share_is c = sym (ap (λ m. m * w / (t * 1)) (mul-one c.weight) ∙ ap (λ m. c.weight * w / m) (mul-one t) ∙ mul-div_assoc t c.weight divides ∙ mul_comm c.weight (w / t))

  one_as : (leak : ValueTree → Trace) (n m : ℕ) (trace : Trace) (c : Weighted) → trace ≡ leak c.value ++ [] → (u : Trace) (x : ℕ)
      → adds (held_in u x) (way_to trace (w / t * c.weight) (Some m)) ≡ adds (cell_value u x) (its_cells w (map (joined (choice_run leak n t c)) (stay m)))
  one_as leak n m trace c leaks u x = λ i. cond (pointwise is_equal (leaks i) u && (m == x)) (share_is c i) 0 + 0

  pub moved_as : (leak : ValueTree → Trace) (n at : ℕ) (trace : Trace) (c : Weighted) (o : Option ℕ) → trace ≡ leak c.value ++ [] → (u : Trace) (x : ℕ)
      → adds (held_in u x) (way_to trace (w / t * c.weight) o) ≡ adds (cell_value u x) (its_cells w (map (joined (choice_run leak n t c)) (moved at o)))
  moved_as leak n at trace c (Some m) leaks = one_as leak n m trace c leaks
  moved_as leak n at trace c None leaks = λ u x. refl

  pub side_as : (n : ℕ) (c : Weighted) (truth wanted : Bool) → Truth truth ≡ c.value → (u : Trace) (x : ℕ)
      → adds (held_in u x) (way_to (Truth wanted ∷ []) (w / t * c.weight) (if truth then (if wanted then Some n else None) else (if wanted then None else Some n)))
      ≡ adds (cell_value u x) (its_cells w (map (joined (choice_run shown n t c)) (if truth then (if wanted then stay n else []) else (if wanted then [] else stay n))))
  side_as n c true true is = one_as shown n n (Truth true ∷ []) c (ap (λ v. v ∷ []) is)
  side_as n c true false is = λ u x. refl
  side_as n c false true is = λ u x. refl
  side_as n c false false is = one_as shown n n (Truth false ∷ []) c (ap (λ v. v ∷ []) is)

-- ---- what divides

module _ (leak : ValueTree → Trace) (n t w : ℕ) (next : ValueTree → List Run) (full : (v : ValueTree) → Full (next v)) where
  first_divides : (c : Weighted) (rs more : List Run) → Full rs → Each (Takes w) (map (joined (choice_run leak n t c)) rs ++ more) → t ∣ w
  first_divides c [] more some each = absurd some
  first_divides c (r ∷ rs) more some each = dvd_trans t (dvd-mul_right t r.scale) each.0.divides

  -- the weight that goes along the runs of choices can be shared out among these
  pub choices_divide : (g : Tried) (cs : List Weighted) → g ≡ Ok cs → t ≡ total cs → 1 ≤ t → All (Takes w) (branched leak n next g) → t ∣ w
  choices_divide g cs chosen sum some all =
      at cs sum (recursion_from_All (Takes w) (flat_map (λ c. map (joined (choice_run leak n t c)) (next c.value)) cs)
      (subst (λ k. All (Takes w) (flat_map (λ c. map (joined (choice_run leak n k c)) (next c.value)) cs)) (sym sum) (subst (λ (g : Tried). All (Takes w) (branched leak n next g)) chosen all)))
    where
      at : (cs : List Weighted) → t ≡ total cs → Each (Takes w) (flat_map (λ c. map (joined (choice_run leak n t c)) (next c.value)) cs) → t ∣ w
      at [] sum each = absurd (omega (arith, sum, some))
      at (c ∷ cs) sum each = first_divides c (next c.value) (flat_map (λ c. map (joined (choice_run leak n t c)) (next c.value)) cs) (full c.value) each

-- where weight can go along the runs of a distribution, it has no fault
pub clear : (leak : ValueTree → Trace) (n w : ℕ) (next : ValueTree → List Run) (g : Tried) → All (Takes w) (branched leak n next g) → IsOk g
clear leak n w next (Ok cs) takes = refl
clear leak n w next (Err f) takes = (recursion_from_All (Takes w) (branched leak n next (Err f)) takes).0.ends

-- ---- the ways of all choices

abbrev pub ways_weigh : List Way → ℕ
ways_weigh ways = adds (λ way. way.weight) ways

way_weighs : (trace : Trace) (w : ℕ) (o : Option ℕ) → ways_weigh (way_to trace w o) ≤ w
way_weighs trace w (Some m) = omega arith
way_weighs trace w None = omega arith

way_some : (trace : Trace) (w : ℕ) (o : Option ℕ) → 0 < w → Each (λ (way : Way). 0 < way.weight) (way_to trace w o)
way_some trace w (Some m) some = (some, tt)
way_some trace w None some = tt

product_some : (m n : ℕ) → 0 < m → 0 < n → 0 < m * n
product_some m n some other = mul-pos some other

module _ (share : ℕ) (trace : Weighted → Trace) (to : Weighted → Option ℕ) where
  abbrev going : Weighted → List Way
  going c = way_to (trace c) (share * c.weight) (to c)

  -- the ways of choices weigh no more than these
  going_within : (cs : List Weighted) → ways_weigh (flat_map going cs) ≤ share * adds (λ (c : Weighted). c.weight) cs
  going_within [] = omega arith
  going_within (c ∷ cs) =
      let both : share * (c.weight + adds (λ (c : Weighted). c.weight) cs) ≡ share * c.weight + share * adds (λ (c : Weighted). c.weight) cs = mul-add share c.weight (adds (λ (c : Weighted). c.weight) cs) in
      omega (arith, both, adds_joined (λ (way : Way). way.weight) (going c) (flat_map going cs), way_weighs (trace c) (share * c.weight) (to c), going_within cs)

  going_some : 0 < share → (cs : List Weighted) → Each (λ c. 0 < c.weight) cs → Each (λ (way : Way). 0 < way.weight) (flat_map going cs)
  going_some some cs each =
      each_flat_map (λ (way : Way). 0 < way.weight) going cs
      (each_weaker (λ c. 0 < c.weight) (λ c. Each (λ (way : Way). 0 < way.weight) (going c)) (λ c h. way_some (trace c) (share * c.weight) (to c) (product_some share c.weight some h)) cs each)

module _ (shape : Shape) (d : DxTree) (e : Entry) (choice : Choice) (is : IsChosen shape d (e.value, choice)) (some : 0 < e.weight) where
  abbrev cs : List Weighted
  cs = weighted_trees choice

  abbrev tries : ℕ → Tried
  tries = tried (shape_types shape) d

  abbrev share : ℕ
  share = e.weight / choice.total

  some_total : 1 ≤ total cs
  some_total = subst (λ n. 1 ≤ n) is.total_is is.some

  module _ (divides : choice.total ∣ e.weight) where
    pub share_some : 0 < share
    share_some = second_positive choice.total share (omega (arith, mul-div_cancel' choice.total divides, some))

    pub share_fits : share * total cs ≤ e.weight
    share_fits = omega (arith, mul-div_cancel' choice.total divides, mul_comm choice.total share, ap (λ n. share * n) is.total_is)

    -- the ways of a store's choices, each at its share
    pub are_shared : (leak : ValueTree → Trace) (next : ValueTree → List Run) (trace : Weighted → Trace) (to : Weighted → Option ℕ) (from : ℕ → List Run)
        → from e.value ≡ branched leak e.value next (tries e.value)
        → Each (GoesAs leak e.value choice.total e.weight next (λ c. way_to (trace c) (share * c.weight) (to c))) cs
        → IsShared from (e ∷ []) (flat_map (λ c. way_to (trace c) (share * c.weight) (to c)) cs)
    are_shared leak next trace to from runs each =
        let go : Weighted → List Way = λ c. way_to (trace c) (share * c.weight) (to c) in
        let ways = flat_map go cs in
        let chosen : from e.value ≡ flat_map (λ c. map (joined (choice_run leak e.value choice.total c)) (next c.value)) cs =
        runs ∙ ap (branched leak e.value next) is.chosen ∙ ap (λ k. flat_map (λ c. map (joined (choice_run leak e.value k c)) (next c.value)) cs) (sym is.total_is) in
        let one : carried_cells from (e ∷ []) ≡ its_cells e.weight (flat_map (λ c. map (joined (choice_run leak e.value choice.total c)) (next c.value)) cs) =
        append-nil (its_cells e.weight (from e.value)) ∙ ap (its_cells e.weight) chosen in
        record {
          weigh = λ u x. held_is u x ways ∙ all_go leak e.value choice.total e.weight next go u x cs each ∙ sym (value_adds (carried_cells from (e ∷ [])) u x ∙ ap (adds (cell_value u x)) one);
          fits =
              omega (
                arith,
                sum_is (λ (w : Way). w.weight) ways,
                going_within share trace to cs,
                share_fits,
                sum_is (λ (c : Weighted). c.weight) cs,
                ap (λ n. share * n) (sum_is (λ (c : Weighted). c.weight) cs),
              );
          positive = going_some share trace to share_some cs (recursion_from_All (λ c. 0 < c.weight) cs is.weigh);
        }

  -- ---- an assignment

  module _ (i : ℕ) (takes : All (Takes e.weight) (assigned silent (shape_types shape) i d e.value)) where
    abbrev moving : ValueTree → List Run
    moving v = moved (stop_place d) (replaced (shape_types shape) i v e.value)

    pub moves_divide : choice.total ∣ e.weight
    moves_divide = choices_divide silent e.value choice.total e.weight moving (λ v. moved_some (stop_place d) (replaced (shape_types shape) i v e.value)) (tries e.value) cs is.chosen is.total_is is.some takes

    pub moves_shared : IsShared (assigned silent (shape_types shape) i d) (e ∷ []) (flat_map (moves (shape_types shape) i e.value share) cs)
    moves_shared =
        are_shared moves_divide silent moving (λ c. []) (λ c. replaced (shape_types shape) i c.value e.value) (assigned silent (shape_types shape) i d) refl
        (each_any (GoesAs silent e.value choice.total e.weight moving (λ c. way_to [] (share * c.weight) (replaced (shape_types shape) i c.value e.value)))
        (λ c. moved_as choice.total e.weight moves_divide silent e.value (stop_place d) [] c (replaced (shape_types shape) i c.value e.value) refl) cs)

  -- ---- a value that is leaked

  module _ (into : Option ℕ) (takes : All (Takes e.weight) (shown_to (shape_types shape) into d e.value)) where
    abbrev showing : ValueTree → List Run
    showing v = moved (stop_place d) (store_behind (shape_types shape) into e.value v)

    pub shows_divide : choice.total ∣ e.weight
    shows_divide = choices_divide shown e.value choice.total e.weight showing (λ v. moved_some (stop_place d) (store_behind (shape_types shape) into e.value v)) (tries e.value) cs is.chosen is.total_is is.some takes

    pub shows_shared : IsShared (shown_to (shape_types shape) into d) (e ∷ []) (flat_map (shows (shape_types shape) into e.value share) cs)
    shows_shared =
        are_shared shows_divide shown showing (λ c. c.value ∷ []) (λ c. store_behind (shape_types shape) into e.value c.value) (shown_to (shape_types shape) into d) refl
        (each_any (GoesAs shown e.value choice.total e.weight showing (λ c. way_to (c.value ∷ []) (share * c.weight) (store_behind (shape_types shape) into e.value c.value)))
        (λ c. moved_as choice.total e.weight shows_divide shown e.value (stop_place d) (c.value ∷ []) c (store_behind (shape_types shape) into e.value c.value) refl) cs)

  -- ---- a side of a guard

  module _ (takes : All (Takes e.weight) (observed tries e.value)) where
    pub sides_divide : choice.total ∣ e.weight
    sides_divide = choices_divide shown e.value choice.total e.weight (λ v. stay e.value) (λ v. tt) (tries e.value) cs is.chosen is.total_is is.some takes

    module _ (wanted : Bool) (kinded : All (λ c. HasKind c.value TruthKind) cs) where
      abbrev siding : ValueTree → List Run
      siding v = if truth v then (if wanted then stay e.value else []) else (if wanted then [] else stay e.value)

      abbrev sides_to : Weighted → Option ℕ
      sides_to c = if truth c.value then (if wanted then Some e.value else None) else (if wanted then None else Some e.value)

      is_truth : (v : ValueTree) → HasKind v TruthKind → Truth (truth v) ≡ v
      is_truth (Truth b) h = refl
      is_truth (Whole i) h = absurd h
      is_truth (Tuple vs) h = absurd h
      is_truth (Set vs) h = absurd h

      pub sides_shared : IsShared (side wanted tries) (e ∷ []) (flat_map (sides wanted e.value share) cs)
      sides_shared =
          are_shared sides_divide shown siding (λ c. Truth wanted ∷ []) sides_to (side wanted tries) refl
          (each_weaker (λ (c : Weighted). HasKind c.value TruthKind) (GoesAs shown e.value choice.total e.weight siding (λ c. way_to (Truth wanted ∷ []) (share * c.weight) (sides_to c)))
          (λ c kind. side_as choice.total e.weight sides_divide e.value c (truth c.value) wanted (is_truth c.value kind)) cs (recursion_from_All (λ (c : Weighted). HasKind c.value TruthKind) cs kinded))

-- ---- carried copies

pub copy_shared : (p : ProgramTree) (e : Entry) → 0 < e.weight → IsShared (λ n. stay (copied p n)) (e ∷ []) (record { trace = []; to = copied p e.value; weight = e.weight } ∷ [])
copy_shared p e some =
    let from : ℕ → List Run = λ n. stay (copied p n) in
    record {
      weigh = λ u x. held_is u x (record { trace = []; to = copied p e.value; weight = e.weight } ∷ []) ∙ (λ i. cond (pointwise is_equal [] u && (copied p e.value == x)) (whole i) 0 + 0) ∙ sym (value_adds (carried_cells from (e ∷ [])) u x);
      fits = omega arith;
      positive = (some, tt);
    }
  where
    whole : e.weight ≡ 1 * e.weight / 1
    whole = sym (div-one (1 * e.weight) ∙ one-mul e.weight)

-- ---- what fits

pub along_positive : (trace : Trace) (es : List Entry) → Each (λ (w : Way). 0 < w.weight) (map (along trace) es) → Each (λ (e : Entry). 0 < e.weight) es
along_positive trace [] all = tt
along_positive trace (e ∷ es) all = (all.0, along_positive trace es all.1)

pub along_weighs : (trace : Trace) (es : List Entry) → way_total (map (along trace) es) ≡ column_total es
along_weighs trace [] = refl
along_weighs trace (e ∷ es) =
    omega (arith, along_weighs trace es, sum_by-cons (λ (w : Way). w.weight) (along trace e) (map (along trace) es), sum_by-cons (λ (e : Entry). e.weight) e es)

module _ (from : ℕ → List Run) (column : List Entry) (trace : Trace) (es : List Entry) (shared : IsShared from column (map (along trace) es)) where
  pub entries_positive : All (λ e. 0 < e.weight) es
  entries_positive = All-from_recursion (λ (e : Entry). 0 < e.weight) es (along_positive trace es shared.positive)

  pub entries_fit : (bound : ℕ) → column_total column < bound → column_total es < bound
  entries_fit bound fits = omega (arith, shared.fits, along_weighs trace es, fits)

pub leaks_positive : (ls : List Leak) → Each (λ (w : Way). 0 < w.weight) (map leaked ls) → Each (λ (l : Leak). 0 < l.weight) ls
leaks_positive [] all = tt
leaks_positive (l ∷ ls) all = (all.0, leaks_positive ls all.1)

-- ---- a store of a column

module _ (items column : List Entry) (same : items ≡ column) (i : ℕ) (within : i < length items) (d : Entry) where
  pub at_entry : (P : Entry → Type 0) → All P column → P (get_or items i d)
  at_entry P all = subst (All P) (sym same) all i d within

-- ---- what a memo keeps

pub chosen_at : {shape : Shape} {d : DxTree} {store : ℕ} {m : Memo} {place : ℕ} {choice : Choice} → IsKeptAt shape d store m place → slice_get (kept m) place ≡ Some choice → IsChosen shape d (store, choice)
chosen_at {shape} {d} {store} {m} {place} {choice} is there =
    let same : is.choice ≡ choice = let known = is.there in cc in
    subst (λ (c : Choice). IsChosen shape d (store, c)) same is.chosen
