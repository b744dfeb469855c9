-- A certificate has one mark at most, and each has one: its rules can be decided.
use Rattle.std.proofs.Common.{◌≡◌, ◌⊎◌, inl, inr, ⊎_elim, ℕ, zero, suc, ◌+◌, ◌*◌, ◌<◌, ◌≤◌, List, [], ◌∷◌, All, Bool, true, false, length, get_or, refl, sym, ◌∙◌, subst, arith}
use Rattle.std.specs.Prelude.{◌≢◌, Result}
use Rattle.std.specs.List.{list_all}
use Rattle.std.proofs.Math.IntN.{ℤ, pos, ◌*ℤ◌}
use Rattle.std.proofs.lemmas.Bool.{cases_eq, cases_lt}
use Rattle.std.proofs.lemmas.Int.{ints, by_lt_z}
use Rattle.std.proofs.lemmas.List.Elements.{All-nil, All-cons, All-head, All-tail, All-get_or}
use lib.Signed.{◌<ℤ◌, ◌≤ℤ◌}
use Rattle.kf_frac.specs.Fractions.{limit}
use Rattle.kf_value.specs.Numbers.{target_size}
use Rattle.kf_column.specs.declared.entry.Entry.{Entry}
use Rattle.kf_column.specs.Columns.{weight_at}
use Rattle.kf_column.specs.Hypers.{Inner}
use Rattle.kf_column.specs.Shapes.{IsBelow}
use Rattle.kf_column.proofs.Weights.{weight_at_other}
use Rattle.kf_gain.specs.Gains.{Table, TableTree}
use Rattle.kf_gain.specs.Tables.{is_value_text}
use Rattle.kf_gain.specs.Vulnerabilities.{IsPosterior}
use Rattle.kf_gain.proofs.Reports.{some_report, one_report}
use Rattle.kf_json.specs.Rules.{are_distinct}
use Rattle.kf_simplex.specs.Base.{total}
use Rattle.kf_simplex.proofs.Sums.{total_all_zero}
use Rattle.kf_refine.specs.Refinements.{HyperTree, Fraction, count, joint, IsShaped, CarriesWeights, Separates}
use Rattle.kf_refine.specs.Views.{IsProper}
use Rattle.kf_cert.specs.Certificates.{NamedTable, Yes, Named, No, matrix_of}
use Rattle.kf_cert.specs.declared.cert.CertAction.{CertAction}
use Rattle.kf_frac.specs.Rules.{Unless}
use Rattle.kf_cert.specs.Marks.{MarkedByRules, IsInRange, denominator, over_one, value_texts, NamesValues, width, StandsFor}
use Rattle.kf_cert.specs.Rows.{SumToOne}
use Rattle.kf_cert.specs.Views.{IsSoundTable}
use Rattle.kf_cert.specs.Laws.{OneMark, SomeMark, IsSeparating}
use Rattle.kf_cert.specs.declared.mark.Mark.{Mark}
use Rattle.kf_cert.specs.declared.mark.CheckError.{CheckError}
use Rattle.kf_cert.proofs.Numbering.{table_made, one_table, table_acts}

-- ---- one mark at most

module _ {R : Type 0} where
  -- two answers of a rule agree, where those of what comes next do
  unless_one : (holds : Type 0) (broken : R) (next : R → Type 0) → ((r q : R) → next r → next q → r ≡ q)
      → (r q : R) → Unless holds broken next r → Unless holds broken next q → r ≡ q
  unless_one holds broken next one r q (inl (not, is)) (inl (other, same)) = is ∙ sym same
  unless_one holds broken next one r q (inl (not, is)) (inr (h, rest)) = absurd (not h)
  unless_one holds broken next one r q (inr (h, rest)) (inl (not, is)) = absurd (not h)
  unless_one holds broken next one r q (inr (h, rest)) (inr (k, more)) = one r q rest more

  last_one : (last r q : R) → r ≡ last → q ≡ last → r ≡ q
  last_one last r q is same = is ∙ sym same

one_by_rules : (a b : HyperTree) (rows : List (List Fraction)) (r q : Result Mark CheckError) → MarkedByRules a b rows r → MarkedByRules a b rows q → r ≡ q
one_by_rules a b rows r q = unless_one _ _ _ (unless_one _ _ _ (unless_one _ _ _ (unless_one _ _ _ (last_one _)))) r q

pub one_mark : OneMark
one_mark a b (Yes rows) r q = unless_one _ _ _ (one_by_rules a b rows) r q
one_mark a b (Named t) r q = unless_one _ _ _ (one_by_rules a b (matrix_of t)) r q
one_mark a b (No t) r q = unless_one _ _ _ (unless_one _ _ _ (unless_one _ _ _ (last_one _))) r q

-- ---- what can be decided

abbrev Decided : Type 0 → Type 0
Decided A = A ⊎ (A → ⊥)

decide_both : {A B : Type 0} → Decided A → Decided B → Decided (A × B)
decide_both (inl a) (inl b) = inl (a, b)
decide_both (inl a) (inr never) = inr (λ both. never both.1)
decide_both (inr never) b = inr (λ both. never both.0)

decide_true : (b : Bool) → Decided (b ≡ true)
decide_true true = inl refl
decide_true false = inr (λ e. cc)

decide_le : (m n : ℕ) → Decided (m ≤ n)
decide_le m n =
    ⊎_elim
    (λ (more : n < m). inr (λ (less : m ≤ n). omega (arith, more, less)))
    (λ (less : m ≤ n). inl less)
    (cases_lt n m)

decide_less_z : (y z : ℤ) → Decided (y <ℤ z)
decide_less_z y z = by_lt_z y z (λ (less : y <ℤ z). inl less) (λ (more : z ≤ℤ y). inr (λ (less : y <ℤ z). omega (arith, ints, more, less)))

decide_le_z : (y z : ℤ) → Decided (y ≤ℤ z)
decide_le_z y z = by_lt_z z y (λ (more : z <ℤ y). inr (λ (less : y ≤ℤ z). omega (arith, ints, more, less))) (λ (less : y ≤ℤ z). inl less)

decide_same_z : (y z : ℤ) → Decided (y ≡ z)
decide_same_z y z =
    by_lt_z y z (λ (less : y <ℤ z). inr (λ (same : y ≡ z). omega (arith, ints, less, same)))
    (λ (more : z ≤ℤ y). by_lt_z z y (λ (less : z <ℤ y). inr (λ (same : y ≡ z). omega (arith, ints, less, same)))
    (λ (less : y ≤ℤ z). inl (omega (arith, ints, less, more))))

decide_all : {X : Type 0} (P : X → Type 0) → ((x : X) → Decided (P x)) → (xs : List X) → Decided (All P xs)
decide_all P each [] = inl (All-nil P)
decide_all P each (x ∷ xs) = by (each x) (decide_all P each xs)
  where
    by : Decided (P x) → Decided (All P xs) → Decided (All P (x ∷ xs))
    by (inl here) (inl rest) = inl (All-cons P x xs here rest)
    by (inl here) (inr never) = inr (λ all. never (All-tail P x xs all))
    by (inr never) rest = inr (λ all. never (All-head P x xs all))

decide_below : (n : ℕ) (P : ℕ → Type 0) → ((i : ℕ) → Decided (P i)) → Decided ((i : ℕ) → i < n → P i)
decide_below zero P each = inl (λ i below. absurd (omega (arith, below)))
decide_below (suc n) P each = by (each n) (decide_below n P each)
  where
    by : Decided (P n) → Decided ((i : ℕ) → i < n → P i) → Decided ((i : ℕ) → i < suc n → P i)
    by (inl last) (inl before) =
        inl
        (λ (i : ℕ) (below : i < suc n). ⊎_elim
        (λ (early : i < n). before i early)
        (λ (late : n ≤ i). let same : n ≡ i = omega (arith, below, late) in subst P same last)
        (cases_lt i n))
    by (inl last) (inr never) = inr (λ all. never (λ i below. all i (omega (arith, below))))
    by (inr never) before = inr (λ all. never (all n (omega arith)))

-- ---- the rules on a matrix

decide_shape : (m n : ℕ) (rows : List (List Fraction)) → Decided (IsShaped m n rows)
decide_shape m n rows = by (cases_eq (length rows) m) (decide_all (λ row. length row ≡ n) (λ row. cases_eq (length row) n) rows)
  where
    by : Decided (length rows ≡ m) → Decided (All (λ row. length row ≡ n) rows) → Decided (IsShaped m n rows)
    by (inl many) (inl each) = inl (record { many = many; each = each })
    by (inl many) (inr never) = inr (λ shape. never shape.each)
    by (inr never) each = inr (λ shape. never shape.many)

decide_range : (rows : List (List Fraction)) → Decided (IsInRange rows)
decide_range rows =
    decide_all (λ row. All (λ f. (pos 0 ≤ℤ f.num) × (f.num ≤ℤ pos f.den)) row)
    (λ row. decide_all (λ f. (pos 0 ≤ℤ f.num) × (f.num ≤ℤ pos f.den))
    (λ f. decide_both (decide_le_z (pos 0) f.num) (decide_le_z f.num (pos f.den))) row) rows

decide_sums : (m n : ℕ) (rows : List (List Fraction)) → Decided (SumToOne m n rows)
decide_sums m n rows = decide_below m (λ i. total n (over_one rows i) ≡ pos (denominator rows)) (λ i. decide_same_z _ _)

-- a value past the target's has no weight
pub no_weight : (size x : ℕ) (column : List Entry) → IsBelow size column → size ≤ x → weight_at column x ≡ 0
no_weight size x [] below past = refl
no_weight size x (e ∷ es) below past =
    let first = All-head (λ (e : Entry). e.value < size) e es below in
    weight_at_other e es x (λ same. omega (arith, first, past, same)) ∙ no_weight size x es (All-tail (λ (e : Entry). e.value < size) e es below) past

no_joint : (h : HyperTree) (x i : ℕ) → IsProper h → i < count h → target_size h.target ≤ x → joint h x i ≡ 0
no_joint h x i proper inside past =
    let inner : Inner = get_or h.inners i (record { entries = []; total = 0 }) in
    let below = All-get_or (λ (i : Inner). IsBelow (target_size h.target) i.entries) h.inners i (record { entries = []; total = 0 }) inside proper.within in
    nothing (weight_at inner.entries x) _ (no_weight (target_size h.target) x inner.entries below past)
  where
    nothing : (w k : ℕ) → w ≡ 0 → w * k ≡ 0
    nothing w k none = rw none (omega arith)

module _ (a b : HyperTree) (d : ℕ) (r : ℕ → ℕ → ℤ) (is_a : IsProper a) (is_b : IsProper b) where
  abbrev carried : ℕ → ℕ → Type 0
  carried x j = pos b.scale *ℤ total (count a) (λ i. pos (joint a x i) *ℤ r i j) ≡ pos (a.scale * d) *ℤ pos (joint b x j)

  bound : ℕ
  bound = target_size a.target + target_size b.target

  carried_past : (x j : ℕ) → j < count b → bound ≤ x → carried x j
  unfolding bound
  carried_past x j inside past =
      let none : joint b x j ≡ 0 = no_joint b x j is_b inside (omega (arith, past)) in
      let sum : total (count a) (λ i. pos (joint a x i) *ℤ r i j) ≡ pos 0 =
      total_all_zero (count a) (λ i. pos (joint a x i) *ℤ r i j)
      (λ (i : ℕ) (l : i < count a). rw (no_joint a x i is_a l (omega (arith, past))) (omega (arith, ints))) in
      rw (none, sum) (omega (arith, ints))

  decide_cells : Decided (CarriesWeights a b d r)
  decide_cells =
      by (decide_below bound (λ x. (j : ℕ) → j < count b → carried x j) (λ x. decide_below (count b) (λ j. carried x j) (λ j. decide_same_z _ _)))
    where
      by : Decided ((x : ℕ) → x < bound → (j : ℕ) → j < count b → carried x j) → Decided (CarriesWeights a b d r)
      by (inl early) =
          inl
          (λ (x j : ℕ) (inside : j < count b). ⊎_elim
          (λ (below : x < bound). early x below j inside)
          (λ (past : bound ≤ x). carried_past x j inside past)
          (cases_lt x bound))
      by (inr never) = inr (λ all. never (λ x below j inside. all x j inside))

-- ---- the rules on a gain table

decide_values : (a : HyperTree) (t : NamedTable) → Decided (NamesValues a.target t)
decide_values a t =
    decide_all (λ (n : CertAction). (list_all (is_value_text a.target) (value_texts n) ≡ true) × (are_distinct (value_texts n) ≡ true))
    (λ n. decide_both (decide_true _) (decide_true _)) t.actions

module _ (a b : HyperTree) where
  decide_separates : (table : TableTree) → table.actions ≢ [] → Decided (Separates table a b)
  decide_separates table some =
      let y : (z : ℤ) × IsPosterior (Table table) a.inners z = (some_report (Table table) a.inners some).1 in
      let z : (z : ℤ) × IsPosterior (Table table) b.inners z = (some_report (Table table) b.inners some).1 in
      by y.0 z.0 y.1 z.1 (decide_less_z (y.0 *ℤ pos b.scale) (z.0 *ℤ pos a.scale))
    where
      by : (y z : ℤ) → IsPosterior (Table table) a.inners y → IsPosterior (Table table) b.inners z → Decided ((y *ℤ pos b.scale) <ℤ (z *ℤ pos a.scale))
          → Decided (Separates table a b)
      by y z of_a of_b (inl below) = inl (record { of_a = y; of_b = z; is_of_a = of_a; is_of_b = of_b; below = below })
      by y z of_a of_b (inr never) =
          inr
          (λ (s : Separates table a b).
          let same_a : s.of_a ≡ y = (one_report (Table table) a.inners s.of_a y).1 s.is_of_a of_a in
          let same_b : s.of_b ≡ z = (one_report (Table table) b.inners s.of_b z).1 s.is_of_b of_b in
          never (subst (λ (u : ℤ). (u *ℤ pos b.scale) <ℤ (z *ℤ pos a.scale)) same_a
          (subst (λ (u : ℤ). (s.of_a *ℤ pos b.scale) <ℤ (u *ℤ pos a.scale)) same_b s.below)))

  decide_order : (t : NamedTable) → NamesValues a.target t → IsSoundTable t → Decided (IsSeparating a b t)
  decide_order t known sound = let made = table_made a.target t known in by made.0 made.1 (decide_separates made.0 (table_acts a.target t made.0 made.1 sound.some))
    where
      by : (table : TableTree) → StandsFor a.target t table → Decided (Separates table a b) → Decided (IsSeparating a b t)
      by table stands (inl is) = inl (table, stands, is)
      by table stands (inr never) = inr (other table stands never)
        where
          other : (table : TableTree) → StandsFor a.target t table → (Separates table a b → ⊥) → IsSeparating a b t → ⊥
          other table stands never (u, also, is) = never (subst (λ (w : TableTree). Separates w a b) (one_table a.target t u table also stands) is)

-- ---- a mark

module _ {R : Type 0} (holds : Type 0) (broken : R) (next : R → Type 0) where
  -- a rule that is decided has an answer, where what comes next has one
  some_unless : Decided holds → (holds → (r : R) × next r) → (r : R) × Unless holds broken next r
  some_unless (inl h) some = let after = some h in (after.0, inr (h, after.1))
  some_unless (inr never) some = (broken, inl (never, refl))

some_by_rules : (a b : HyperTree) (rows : List (List Fraction)) → IsProper a → IsProper b → (r : Result Mark CheckError) × MarkedByRules a b rows r
some_by_rules a b rows is_a is_b =
    some_unless _ _ _ (decide_range rows) (λ range.
    some_unless _ _ _ (decide_le (a.scale * denominator rows) limit) (λ fits.
    some_unless _ _ _ (decide_sums (count a) (count b) rows) (λ sum.
    some_unless _ _ _ (decide_cells a b (denominator rows) (over_one rows) is_a is_b) (λ cell. (_, refl)))))

pub some_mark : SomeMark
some_mark a b (Yes rows) is_a is_b same sound =
    some_unless _ _ _ (decide_shape (count a) (count b) rows) (λ shape. some_by_rules a b rows is_a is_b)
some_mark a b (Named t) is_a is_b same sound =
    some_unless _ _ _ (decide_both (cases_eq t.rows (count a)) (cases_eq t.columns (count b))) (λ sizes. some_by_rules a b (matrix_of t) is_a is_b)
some_mark a b (No t) is_a is_b same sound =
    some_unless _ _ _ (decide_values a t) (λ known.
    some_unless _ _ _ (decide_both (decide_le (a.scale * width t) limit) (decide_le (b.scale * width t) limit)) (λ fits.
    some_unless _ _ _ (decide_order a b t known sound) (λ order. (_, refl))))
