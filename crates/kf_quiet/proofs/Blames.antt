-- Blames, told one after the other.
use Rattle.std.proofs.Common.{◌≡◌, ℕ, ℤ, suc, zero, List, [], ◌∷◌, ◌++◌, Some, length, slice_get, ⊎_elim, refl, sym, ap, subst, ◌∙◌, arith}
use Rattle.std.proofs.lemmas.Bool.{cases_eq}
use Rattle.std.proofs.lemmas.List.{length-append}
use Rattle.std.proofs.lemmas.Option.{slice_get_within}
use Rattle.kf_column.specs.Hypers.{Inner}
use Rattle.kf_core.specs.Joint.{Cell, joint_of}
use Rattle.kf_core.specs.Programs.{ProgramTree}
use Rattle.kf_core.specs.Rows.{IsHyperOf}
use Rattle.kf_frac.specs.Parts.{IsFraction}
use Rattle.kf_gain.specs.Gains.{Bayes}
use Rattle.kf_gain.specs.Vulnerabilities.{IsPosterior}
use Rattle.kf_silent.specs.Quiet.{quiet_joint}
use Rattle.kf_quiet.specs.Blames.{AreBlames}
use Rattle.kf_quiet.specs.Views.{ShowBlames, ShowsBlame, ShowsBlameOf}
use Rattle.kf_quiet.specs.declared.blame.Blame.{Blame}
use Rattle.kf_quiet.specs.Summaries.{SummaryTree, IsSummary}

-- those of the program and of the first statements, so many
pub record AreFirst (turns : ℕ) (p : ProgramTree) (count : ℕ) (blames : List SummaryTree) : Type 0 where
  pub long : length blames ≡ suc count
  pub whole : (b : SummaryTree) → slice_get blames 0 ≡ Some b → IsSummary Bayes (joint_of turns p) b
  pub without : (i : ℕ) (b : SummaryTree) → slice_get blames (suc i) ≡ Some b → IsSummary Bayes (quiet_joint turns p i (suc i)) b

same_some : {X : Type 0} (x y : X) → Some x ≡ Some y → x ≡ y
same_some x y h = cc

-- what is read of a list and one more
get_more : {X : Type 0} (xs : List X) (x y : X) (k : ℕ) → slice_get (xs ++ x ∷ []) k ≡ Some y → (k ≡ length xs → x ≡ y) × ((k ≡ length xs → ⊥) → slice_get xs k ≡ Some y)
get_more [] x y zero h = (λ e. same_some x y h, λ other. absurd (other refl))
get_more [] x y (suc k) h = absurd (let within = slice_get_within (x ∷ []) (suc k) y h in omega (arith, within))
get_more (w ∷ ws) x y zero h = (λ e. absurd (omega (arith, e)), λ other. h)
get_more (w ∷ ws) x y (suc k) h =
    let rest = get_more ws x y k h in
    (λ e. rest.0 (omega (arith, e)), λ other. rest.1 (λ e. other (omega (arith, e))))

module _ (turns : ℕ) (p : ProgramTree) where
  pub first_one : (b : SummaryTree) → IsSummary Bayes (joint_of turns p) b → AreFirst turns p 0 (b ∷ [])
  first_one b is = record {
    long = refl;
    whole = λ c h. subst (IsSummary Bayes (joint_of turns p)) (same_some b c h) is;
    without = λ i c h. absurd (let within = slice_get_within (b ∷ []) (suc i) c h in omega (arith, within));
  }

  pub first_more : (count : ℕ) (blames : List SummaryTree) (b : SummaryTree) → AreFirst turns p count blames
      → IsSummary Bayes (quiet_joint turns p count (suc count)) b → AreFirst turns p (suc count) (blames ++ b ∷ [])
  first_more count blames b had is = record {
    long = omega (arith, length-append blames (b ∷ []), had.long);
    whole = λ c h. had.whole c ((get_more blames b c 0 h).1 (λ e. absurd (omega (arith, e, had.long))));
    without = λ i c h.
        let told = get_more blames b c (suc i) h in
        ⊎_elim
        (λ (last : i ≡ count).
        subst (λ (k : ℕ). IsSummary Bayes (quiet_joint turns p k (suc k)) c) (sym last)
        (subst (IsSummary Bayes (quiet_joint turns p count (suc count))) (told.0 (omega (arith, last, had.long))) is))
        (λ (other : i ≡ count → ⊥). had.without i c (told.1 (λ e. other (omega (arith, e, had.long)))))
        (cases_eq i count);
  }

  pub first_all : (count : ℕ) (blames : List SummaryTree) → count ≡ length p.body → AreFirst turns p count blames → AreBlames turns p blames
  first_all count blames all had = record { long = had.long ∙ ap suc all; whole = had.whole; without = had.without }

pub show_more : (scale : ℕ) (trees : List SummaryTree) (blames : List Blame) (t : SummaryTree) (b : Blame) → ShowBlames scale trees blames
    → ShowsBlame scale t b → ShowBlames scale (trees ++ t ∷ []) (blames ++ b ∷ [])
show_more scale [] [] t b h one = (one, tt)
show_more scale [] (c ∷ cs) t b h one = absurd h
show_more scale (u ∷ us) [] t b h one = absurd h
show_more scale (u ∷ us) (c ∷ cs) t b h one = (h.0, show_more scale us cs t b h.1 one)

-- what is counted of a joint's hyper is its blame
pub shows_hyper : (joint : List Cell) (scale over : ℕ) (inners : List Inner) (b : Blame) → IsHyperOf joint inners → over ≡ scale
    → b.inners ≡ length inners → ((z : ℤ) × IsPosterior Bayes inners z × IsFraction b.bayes z over) → ShowsBlameOf joint scale b
shows_hyper joint scale over inners b is same counted bayes = record {
  tree = record { inners = length inners; posterior = bayes.0 };
  is = record { inners = inners; is_hyper = is; counted = refl; posterior = bayes.1 };
  shows = record { inners = counted; bayes = subst (IsFraction b.bayes bayes.0) same bayes.2 };
}
