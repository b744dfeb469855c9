-- A row's column gathers the cells of its trace: what is added up over the column is what is added up over the cells.
use Rattle.std.proofs.Common.{◌≡◌, ℕ, zero, suc, ◌+◌, ◌<◌, ◌≤◌, ◌==◌, ◌&&◌, Bool, true, false, cond, List}
use Rattle.std.proofs.Common.{[], ◌∷◌, refl, sym, ap, subst, ◌∙◌, arith, ◌⊎◌, inl, inr, ⊎_elim, eq-eqb, zero-add}
use Rattle.std.specs.Prelude.{filter}
use Rattle.std.specs.Cmp.Lexicographic.{pointwise}
use Rattle.std.specs.List.{AllByRecursion as Each}
use Rattle.std.proofs.lemmas.Bool.{eqb-true, ne_eqb, cases_eq}
use Rattle.kf_value.specs.Values.{is_equal}
use Rattle.kf_value.proofs.ListLemmas.{each_weaker, each_both}
use Rattle.kf_column.specs.declared.entry.Entry.{Entry}
use Rattle.kf_column.specs.Columns.{weight_at}
use Rattle.kf_column.proofs.Weights.{Above, weight_at_other}
use Rattle.kf_core.specs.Joint.{Cell, weight_of}
use Rattle.kf_core.proofs.Measures.{Measure}
use Rattle.kf_core.proofs.Sums.{adds, adds_same, adds_nothing, each_is}
use Rattle.kf_push.proofs.CellWeights.{Trace, weight_is}
use Rattle.kf_push.proofs.MergedWeights.{entries_hold}

-- ---- sums of sums

module _ {X Y : Type 0} (f : X → Y → ℕ) where
  plus_rows : (y : Y) (ys : List Y) (xs : List X) → adds (λ x. adds (f x) (y ∷ ys)) xs ≡ adds (λ x. f x y) xs + adds (λ x. adds (f x) ys) xs
  plus_rows y ys [] = refl
  plus_rows y ys (x ∷ xs) = let others = plus_rows y ys xs in omega (arith, others)

  pub adds_swap : (xs : List X) (ys : List Y) → adds (λ x. adds (f x) ys) xs ≡ adds (λ y. adds (λ x. f x y) xs) ys
  adds_swap xs [] = sym (adds_nothing xs)
  adds_swap xs (y ∷ ys) = plus_rows y ys xs ∙ ap (λ n. adds (λ x. f x y) xs + n) (adds_swap xs ys)

module _ {X : Type 0} (q : X → Bool) where
  filtered_at : (f : X → ℕ) (b : Bool) (x : X) (ys : List X) → adds f (cond b (x ∷ ys) ys) ≡ cond b (f x) 0 + adds f ys
  filtered_at f true x ys = refl
  filtered_at f false x ys = omega arith

  pub adds_filtered : (f : X → ℕ) (xs : List X) → adds f (filter q xs) ≡ adds (λ x. cond (q x) (f x) 0) xs
  adds_filtered f [] = refl
  adds_filtered f (x ∷ xs) = filtered_at f (q x) x (filter q xs) ∙ ap (λ n. cond (q x) (f x) 0 + n) (adds_filtered f xs)

  each_at : (P : X → Type 0) (b : Bool) (x : X) (ys : List X) → P x → Each P ys → Each P (cond b (x ∷ ys) ys)
  each_at P true x ys here h = (here, h)
  each_at P false x ys here h = h

  pub each_filtered : (P : X → Type 0) (xs : List X) → Each P xs → Each P (filter q xs)
  each_filtered P [] h = tt
  each_filtered P (x ∷ xs) h = each_at P (q x) x (filter q xs) h.0 (each_filtered P xs h.1)

-- ---- cells and a column that gathers them

-- the weight of the cells with a value
abbrev pub at_value : ℕ → List Cell → ℕ
at_value y ds = adds (λ d. cond (d.value == y) d.weight 0) ds

own_part : (ds : List Cell) → Each (λ d. d.weight ≤ at_value d.value ds) ds
own_part [] = tt
own_part (d ∷ ds) =
    let own : cond (d.value == d.value) d.weight 0 ≡ d.weight = ap (λ b. cond b d.weight 0) (eq-eqb d.value d.value refl) in (
      omega (arith, own),
      each_weaker (λ c. c.weight ≤ at_value c.value ds) (λ c. c.weight ≤ at_value c.value (d ∷ ds)) (λ c h. omega (arith, h)) ds (own_part ds),
    )

-- a value that a column names stands there once
none_later : (v k low : ℕ) (column : List Entry) → Above low column → v < low → adds (λ e. cond (v == e.value) k 0) column ≡ 0
none_later v k low [] above below = refl
none_later v k low (e ∷ es) above below =
    let here : cond (v == e.value) k 0 ≡ 0 = ap (λ b. cond b k 0) (ne_eqb v e.value (λ same. omega (arith, same, below, above.0))) in
    let others = none_later v k (e.value + 1) es above.2 (omega (arith, below, above.0)) in
    omega (arith, here, others)

once : (v k low : ℕ) (column : List Entry) → Above low column → 0 < weight_at column v → adds (λ e. cond (v == e.value) k 0) column ≡ k
once v k low [] above some = absurd (omega (arith, some))
once v k low (e ∷ es) above some =
    ⊎_elim
    (λ (same : v ≡ e.value).
    let here : cond (v == e.value) k 0 ≡ k = ap (λ b. cond b k 0) (eq-eqb v e.value same) in
    let others = none_later v k (e.value + 1) es above.2 (omega (arith, same)) in
    omega (arith, here, others))
    (λ (other : v ≡ e.value → ⊥).
    let here : cond (v == e.value) k 0 ≡ 0 = ap (λ b. cond b k 0) (ne_eqb v e.value other) in
    let left : weight_at (e ∷ es) v ≡ weight_at es v = weight_at_other e es v (λ same. other (sym same)) in
    let others = once v k (e.value + 1) es above.2 (omega (arith, left, some)) in
    omega (arith, here, others))
    (cases_eq v e.value)

-- each entry has all the weight that its column gives to its value
own_weight : (low : ℕ) (column : List Entry) → Above low column → Each (λ e. weight_at column e.value ≡ e.weight) column
own_weight low column above = entries_hold (λ x w. weight_at column x ≡ w) low column above (λ x. inr refl)

pub all_none : (b : Bool) (k : ℕ) → k ≡ 0 → cond b k 0 ≡ 0
all_none true k none = none
all_none false k none = refl

and_cond : (a b : Bool) (n : ℕ) → cond (a && b) n 0 ≡ cond a (cond b n 0) 0
and_cond true b n = refl
and_cond false b n = refl

module _ (M : Measure) where
  abbrev pub cell_value : Cell → ℕ
  cell_value d = M.value d.value d.weight

  abbrev pub CellHolds : Cell → Type 0
  CellHolds d = M.holds d.value d.weight

  pub value_none : (n w : ℕ) → w ≡ 0 → M.holds n w → M.value n w ≡ 0
  value_none n zero none h = let both : M.value n 0 ≡ M.value n 0 + M.value n 0 = M.linear n 0 0 h h in omega (arith, both)
  value_none n (suc w) none h = absurd (omega (arith, none))

  -- the cells with this value have none, or it holds of all their weight
  abbrev Tally : ℕ → List Cell → Type 0
  Tally v ds =
      ((at_value v ds ≡ 0) × (adds (λ d. cond (d.value == v) (cell_value d) 0) ds ≡ 0))
      ⊎ (M.holds v (at_value v ds) × (M.value v (at_value v ds) ≡ adds (λ d. cond (d.value == v) (cell_value d) 0) ds))

  more : (v w k : ℕ) (n m : ℕ) → M.holds v w → M.value v w ≡ k → ((n ≡ 0) × (m ≡ 0)) ⊎ (M.holds v n × (M.value v n ≡ m))
      → ((w + n ≡ 0) × (k + m ≡ 0)) ⊎ (M.holds v (w + n) × (M.value v (w + n) ≡ k + m))
  more v w k n m h is (inl none) =
      let same : w ≡ w + n = omega (arith, none.0) in
      inr (subst (M.holds v) same h, ap (M.value v) (sym same) ∙ is ∙ omega (arith, none.1))
  more v w k n m h is (inr some) = inr (M.closed v w n h some.0, M.linear v w n h some.0 ∙ (λ i. is i + some.1 i))

  unchanged : (v n m : ℕ) → ((n ≡ 0) × (m ≡ 0)) ⊎ (M.holds v n × (M.value v n ≡ m))
      → ((0 + n ≡ 0) × (0 + m ≡ 0)) ⊎ (M.holds v (0 + n) × (M.value v (0 + n) ≡ 0 + m))
  unchanged v n m (inl none) = inl (omega (arith, none.0), omega (arith, none.1))
  unchanged v n m (inr some) = inr (subst (M.holds v) (sym (zero-add n)) some.0, ap (M.value v) (zero-add n) ∙ some.1 ∙ sym (zero-add m))

  tally_by : (v : ℕ) (d : Cell) (ds : List Cell) (b : Bool) → (d.value == v) ≡ b → CellHolds d → Tally v ds
      → ((cond b d.weight 0 + at_value v ds ≡ 0) × (cond b (cell_value d) 0 + adds (λ d. cond (d.value == v) (cell_value d) 0) ds ≡ 0))
      ⊎ (M.holds v (cond b d.weight 0 + at_value v ds) × (M.value v (cond b d.weight 0 + at_value v ds)
      ≡ cond b (cell_value d) 0 + adds (λ d. cond (d.value == v) (cell_value d) 0) ds))
  tally_by v d ds true is h t =
      let same : d.value ≡ v = eqb-true d.value v is in
      more v d.weight (cell_value d) (at_value v ds) (adds (λ d. cond (d.value == v) (cell_value d) 0) ds) (subst (λ (n : ℕ). M.holds n d.weight) same h)
      (ap (λ (n : ℕ). M.value n d.weight) (sym same)) t
  tally_by v d ds false is h t = unchanged v (at_value v ds) (adds (λ d. cond (d.value == v) (cell_value d) 0) ds) t

  tally : (v : ℕ) (ds : List Cell) → Each CellHolds ds → Tally v ds
  tally v [] h = inl (refl, refl)
  tally v (d ∷ ds) h = tally_by v d ds (d.value == v) refl h.0 (tally v ds h.1)

  told : (v w : ℕ) (ds : List Cell) → 0 < w → at_value v ds ≡ w → Tally v ds
      → M.holds v w × (M.value v w ≡ adds (λ d. cond (d.value == v) (cell_value d) 0) ds)
  told v w ds some is (inl none) = absurd (omega (arith, some, is, none.0))
  told v w ds some is (inr t) = (subst (M.holds v) is t.0, ap (M.value v) (sym is) ∙ t.1)

  module _ (ds : List Cell) (h : Each CellHolds ds) (column : List Entry) (above : Above 0 column) (weights : (y : ℕ)
      → weight_at column y ≡ at_value y ds) where
    each_told : (low : ℕ) (es : List Entry) → Above low es → Each (λ e. weight_at column e.value ≡ e.weight) es
        → Each (λ e. M.holds e.value e.weight × (M.value e.value e.weight ≡ adds (λ d. cond (d.value == e.value) (cell_value d) 0) ds)) es
    each_told low [] above own = tt
    each_told low (e ∷ es) above own =
        (told e.value e.weight ds above.1 (sym (weights e.value) ∙ own.0) (tally e.value ds h), each_told (e.value + 1) es above.2 own.1)

    all_told : Each (λ e. M.holds e.value e.weight × (M.value e.value e.weight ≡ adds (λ d. cond (d.value == e.value) (cell_value d) 0) ds)) column
    all_told = each_told 0 column above (own_weight 0 column above)

    pub gathered_hold : Each (λ e. M.holds e.value e.weight) column
    gathered_hold =
        each_weaker (λ e. M.holds e.value e.weight × (M.value e.value e.weight ≡ adds (λ d. cond (d.value == e.value) (cell_value d) 0) ds))
        (λ e. M.holds e.value e.weight)
        (λ e t. t.0) column all_told

    whole_once : (d : Cell) → CellHolds d → d.weight ≤ at_value d.value ds → adds (λ e. cond (d.value == e.value) (cell_value d) 0) column ≡ cell_value d
    whole_once d holds part =
        ⊎_elim
        (λ (none : d.weight ≡ 0).
        let nothing : cell_value d ≡ 0 = value_none d.value d.weight none holds in
        each_is (λ e. cond (d.value == e.value) (cell_value d) 0) (λ e. 0) (λ e. all_none (d.value == e.value) (cell_value d) nothing) column
        ∙ sym (adds_nothing column) ∙ sym nothing)
        (λ (some : d.weight ≡ 0 → ⊥).
        let w = weights d.value in
        once d.value (cell_value d) 0 column above (omega (arith, w, some, part)))
        (cases_eq d.weight 0)

    pub gathered_value : adds cell_value ds ≡ adds (λ e. M.value e.value e.weight) column
    gathered_value =
        sym (adds_same (λ d. adds (λ e. cond (d.value == e.value) (cell_value d) 0) column) cell_value ds
        (each_both CellHolds (λ d. d.weight ≤ at_value d.value ds)
        (λ d. adds (λ e. cond (d.value == e.value) (cell_value d) 0) column ≡ cell_value d) whole_once ds h (own_part ds)))
        ∙ adds_swap (λ d e. cond (d.value == e.value) (cell_value d) 0) ds column
        ∙ sym (adds_same (λ e. M.value e.value e.weight) (λ e. adds (λ d. cond (d.value == e.value) (cell_value d) 0) ds) column
        (each_weaker (λ e. M.holds e.value e.weight × (M.value e.value e.weight ≡ adds (λ d. cond (d.value == e.value) (cell_value d) 0) ds))
        (λ e. M.value e.value e.weight ≡ adds (λ d. cond (d.value == e.value) (cell_value d) 0) ds) (λ e t. t.1) column all_told))

  -- ---- the cells of one trace

  module _ (cs : List Cell) (h : Each CellHolds cs) (t : Trace) (column : List Entry) (above : Above 0 column) (weights : (y : ℕ)
      → weight_at column y ≡ weight_of cs t y) where
    abbrev mine : List Cell
    mine = filter (λ d. pointwise is_equal d.trace t) cs

    mine_weigh : (y : ℕ) → weight_at column y ≡ at_value y mine
    mine_weigh y =
        weights y ∙ weight_is cs t y
        ∙ each_is (λ d. cond (pointwise is_equal d.trace t && (d.value == y)) d.weight 0)
        (λ d. cond (pointwise is_equal d.trace t) (cond (d.value == y) d.weight 0) 0)
        (λ d. and_cond (pointwise is_equal d.trace t) (d.value == y) d.weight) cs
        ∙ sym (adds_filtered (λ d. pointwise is_equal d.trace t) (λ d. cond (d.value == y) d.weight 0) cs)

    mine_hold : Each CellHolds mine
    mine_hold = each_filtered (λ d. pointwise is_equal d.trace t) CellHolds cs h

    pub trace_hold : Each (λ e. M.holds e.value e.weight) column
    trace_hold = gathered_hold mine mine_hold column above mine_weigh

    pub trace_value : adds (λ d. cond (pointwise is_equal d.trace t) (cell_value d) 0) cs ≡ adds (λ e. M.value e.value e.weight) column
    trace_value = sym (adds_filtered (λ d. pointwise is_equal d.trace t) cell_value cs) ∙ gathered_value mine mine_hold column above mine_weigh
