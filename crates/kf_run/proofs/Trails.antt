-- Every program has one trail: at each place there is one number of beliefs.
use Rattle.std.proofs.Common.{◌≡◌, ℕ, zero, suc, List, [], ◌∷◌, Some, map, take, length, slice_get, refl, sym, ap, subst, ◌∙◌, arith}
use Rattle.kf_column.specs.Hypers.{Inner, IsHyper}
use Rattle.kf_column.specs.Laws.{SomeHyper, AtMostOneHyper}
use Rattle.kf_column.specs.Traces.{Row}
use Rattle.kf_core.specs.Joint.{Cell, cells}
use Rattle.kf_core.specs.JointLaws.{RowsExist, RowsAreOne}
use Rattle.kf_core.specs.Programs.{ProgramTree}
use Rattle.kf_core.specs.Pushing.{HasBeliefs}
use Rattle.kf_core.specs.Runs.{all_runs, declared, copied}
use Rattle.kf_core.specs.Scale.{scale_of}
use Rattle.kf_core.specs.Sts.{sts}
use Rattle.kf_run.specs.Laws.{SomeTrail, OnlyOneTrail}
use Rattle.kf_push.proofs.Carrying.{Runner, Matrix, some_behind, one_behind, behind_columns}

module _ (some_hyper : SomeHyper) (from : Runner) (columns : Matrix) where
  some_beliefs : (count : ℕ) × HasBeliefs from columns count
  some_beliefs =
      let b = some_behind from columns in
      let h = some_hyper b.0 (behind_columns from columns b.0 b.1) in
      (length h.0, record { behind = b.0; are_behind = b.1; inners = h.0; is_hyper = h.1; counted = refl })

module _ (one_hyper : AtMostOneHyper) (from : Runner) (columns : Matrix) where
  one_belief : (j k : ℕ) → HasBeliefs from columns j → HasBeliefs from columns k → j ≡ k
  one_belief j k a b =
      let same : a.behind ≡ b.behind = one_behind from columns a.behind b.behind a.are_behind b.are_behind in
      let inners : a.inners ≡ b.inners = one_hyper b.behind a.inners b.inners (subst (λ (c : Matrix). IsHyper c a.inners) same a.is_hyper) b.is_hyper in
      a.counted ∙ ap (λ (is : List Inner). length is) inners ∙ sym b.counted

-- ---- a number at each place

-- the numbers of a list are what they should be at their places
abbrev AreCounts : (ℕ → ℕ → Type 0) → List ℕ → Type 0
AreCounts Is counts = (j count : ℕ) → slice_get counts j ≡ Some count → Is j count

same_count : (Is : ℕ → ℕ → Type 0) (j m n : ℕ) → Is j m → Some m ≡ Some n → Is j n
same_count Is j m n is same = let e : m ≡ n = cc in subst (λ (k : ℕ). Is j k) e is

none_counted : (Is : ℕ → ℕ → Type 0) → AreCounts Is []
none_counted Is j count at = absurd (cc)

more_counted : (Is : ℕ → ℕ → Type 0) (m : ℕ) (counts : List ℕ) → Is 0 m → AreCounts (λ j. Is (suc j)) counts → AreCounts Is (m ∷ counts)
more_counted Is m counts is are zero count at = same_count Is 0 m count is at
more_counted Is m counts is are (suc j) count at = are j count at

some_counts : (Is : ℕ → ℕ → Type 0) → ((j : ℕ) → (count : ℕ) × Is j count) → (k : ℕ) → (counts : List ℕ) × (length counts ≡ k) × AreCounts Is counts
some_counts Is some zero = ([], refl, none_counted Is)
some_counts Is some (suc k) =
    let first = some 0 in
    let others = some_counts (λ j. Is (suc j)) (λ j. some (suc j)) k in
    (first.0 ∷ others.0, ap suc others.1, more_counted Is first.0 others.0 first.1 others.2)

one_counts : (Is : ℕ → ℕ → Type 0) → ((j m n : ℕ) → Is j m → Is j n → m ≡ n) → (xs ys : List ℕ) → length xs ≡ length ys
    → AreCounts Is xs → AreCounts Is ys → xs ≡ ys
one_counts Is one [] [] long p q = refl
one_counts Is one [] (y ∷ ys) long p q = absurd (omega (arith, long))
one_counts Is one (x ∷ xs) [] long p q = absurd (omega (arith, long))
one_counts Is one (x ∷ xs) (y ∷ ys) long p q =
    let first : x ≡ y = one 0 x y (p 0 x refl) (q 0 y refl) in
    let others : xs ≡ ys = one_counts (λ j. Is (suc j)) (λ j. one (suc j)) xs ys (omega (arith, long)) (λ j count at. p (suc j) count at) (λ j count at. q (suc j) count at) in
    λ k. first k ∷ others k

-- ---- trails

module _ (turns : ℕ) (p : ProgramTree) where
  abbrev begun : List Cell
  begun = cells (copied p) (scale_of turns p) (declared p.types 0 p.decls 0)

  abbrev so_far : ℕ → Runner
  so_far i = all_runs p.types turns (sts (take i p.body))

  abbrev Believes : Matrix → ℕ → ℕ → Type 0
  Believes start i count = HasBeliefs (so_far i) start count

pub some_trail : RowsExist → SomeHyper → SomeTrail
some_trail rows_exist some_hyper turns p =
    let rows = rows_exist (begun turns p) in
    let start : Matrix = map (λ (r : Row). r.column) rows.0 in
    let counts = some_counts (Believes turns p start) (λ i. some_beliefs some_hyper (so_far turns p i) start) (suc (length p.body)) in
    (counts.0, record { rows = rows.0; are_rows = rows.1; long = counts.1; each = counts.2 })

pub one_trail : RowsAreOne → AtMostOneHyper → OnlyOneTrail
one_trail one_rows one_hyper turns p counts others a b =
    let rows : a.rows ≡ b.rows = one_rows (begun turns p) a.rows b.rows a.are_rows b.are_rows in
    let start : Matrix = map (λ (r : Row). r.column) b.rows in
    let same : map (λ (r : Row). r.column) a.rows ≡ start = ap (map (λ (r : Row). r.column)) rows in
    one_counts (Believes turns p start) (λ i m n x y. one_belief one_hyper (so_far turns p i) start m n x y) counts others (a.long ∙ sym b.long)
    (λ i count at. subst (λ (m : Matrix). Believes turns p m i count) same (a.each i count at))
    b.each
