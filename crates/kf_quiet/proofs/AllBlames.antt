-- Every program has blames, and only one list of them.
use Rattle.std.proofs.Common.{◌≡◌, ℕ, suc, zero, List, [], ◌∷◌, ◌++◌, Some, length, slice_get, refl, sym, ap, subst, ◌∙◌, arith}
use Rattle.kf_core.specs.Joint.{Cell, joint_of}
use Rattle.kf_core.specs.JointLaws.{HypersAreOne, HypersExist}
use Rattle.kf_core.specs.Programs.{ProgramTree}
use Rattle.kf_gain.specs.Gains.{Bayes}
use Rattle.kf_gain.specs.Laws.{OneReport, SomeReport}
use Rattle.kf_gain.specs.Vulnerabilities.{IsPosterior}
use Rattle.kf_column.specs.Hypers.{Inner}
use Rattle.kf_quiet.specs.Blames.{AreBlames}
use Rattle.kf_quiet.specs.Laws.{OnlyOneBlames, SomeBlames, SomeQuiet}
use Rattle.kf_silent.specs.Quiet.{quiet_joint}
use Rattle.kf_quiet.proofs.Blames.{AreFirst, first_all, first_more, first_one}
use Rattle.kf_quiet.specs.Summaries.{SummaryTree, IsSummary}

module _ (hypers : HypersExist) where
  pub some_quiet : SomeQuiet
  some_quiet turns p from to = hypers (quiet_joint turns p from to)

  module _ (reports : SomeReport) where
    some_blame : (joint : List Cell) → (b : SummaryTree) × IsSummary Bayes joint b
    some_blame joint =
        let h = hypers joint in
        let z = (reports Bayes h.0 tt).1 in
        (record { inners = length h.0; posterior = z.0 }, record { inners = h.0; is_hyper = h.1; counted = refl; posterior = z.1 })

    some_first : (turns : ℕ) (p : ProgramTree) (count : ℕ) → (blames : List SummaryTree) × AreFirst turns p count blames
    some_first turns p zero = let b = some_blame (joint_of turns p) in (b.0 ∷ [], first_one turns p b.0 b.1)
    some_first turns p (suc count) =
        let had = some_first turns p count in
        let b = some_blame (quiet_joint turns p count (suc count)) in
        (had.0 ++ b.0 ∷ [], first_more turns p count had.0 b.0 had.1 b.1)

    pub some_blames : SomeBlames
    some_blames turns p = let b = some_first turns p (length p.body) in (b.0, first_all turns p (length p.body) b.0 refl b.1)

-- lists that are as long, and read alike, are one
same_read : {X : Type 0} (xs ys : List X) → length xs ≡ length ys
    → ((k : ℕ) (x y : X) → slice_get xs k ≡ Some x → slice_get ys k ≡ Some y → x ≡ y) → xs ≡ ys
same_read [] [] long read = refl
same_read [] (y ∷ ys) long read = absurd (omega (arith, long))
same_read (x ∷ xs) [] long read = absurd (omega (arith, long))
same_read (x ∷ xs) (y ∷ ys) long read =
    let first = read 0 x y refl refl in
    let others = same_read xs ys (omega (arith, long)) (λ k u v a b. read (suc k) u v a b) in
    λ i. first i ∷ others i

module _ (hypers : HypersAreOne) (reports : OneReport) where
  same_inners : (a b : SummaryTree) (inners others : List Inner) → inners ≡ others → a.inners ≡ length inners → b.inners ≡ length others
      → IsPosterior Bayes inners a.posterior → IsPosterior Bayes others b.posterior → a ≡ b
  same_inners a b inners others same count number is was =
      let counts : a.inners ≡ b.inners = count ∙ (ap length same ∙ sym number) in
      let bayes : a.posterior ≡ b.posterior = (reports Bayes others a.posterior b.posterior).1 (subst (λ (l : List Inner). IsPosterior Bayes l a.posterior) same is) was in
      λ i. record { inners = counts i; posterior = bayes i }

  one_blame : (joint : List Cell) (a b : SummaryTree) → IsSummary Bayes joint a → IsSummary Bayes joint b → a ≡ b
  one_blame joint a b is was =
      same_inners a b is.inners was.inners (hypers joint is.inners was.inners is.is_hyper was.is_hyper) is.counted was.counted is.posterior was.posterior

  one_read : (turns : ℕ) (p : ProgramTree) (blames others : List SummaryTree) → AreBlames turns p blames → AreBlames turns p others
      → (k : ℕ) (a b : SummaryTree) → slice_get blames k ≡ Some a → slice_get others k ≡ Some b → a ≡ b
  one_read turns p blames others are were zero a b h k = one_blame (joint_of turns p) a b (are.whole a h) (were.whole b k)
  one_read turns p blames others are were (suc i) a b h k =
      one_blame (quiet_joint turns p i (suc i)) a b (are.without i a h) (were.without i b k)

  pub only_one_blames : OnlyOneBlames
  only_one_blames turns p blames others are were =
      same_read blames others (are.long ∙ sym were.long) (one_read turns p blames others are were)
