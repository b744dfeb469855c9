-- The lines of blames' own fractions are those of the numbers that they have.
use Rattle.std.proofs.Common.{◌≡◌, ℕ, ◌+◌, ◌-◌, ◌<◌, List, [], ◌∷◌, ◌++◌, codes, drop, get_or, length, take, refl, ◌∙◌, arith}
use Rattle.std.proofs.lemmas.List.{take_rest}
use Rattle.std.specs.Fmt.{decimal}
use Rattle.std.specs.List.{flat_map, enumerate_from}
use Rattle.kf_quiet.specs.Views.{ShowBlames, ShowsBlame}
use Rattle.kf_quiet.specs.declared.blame.Blame.{Blame}
use Rattle.kf_quiet.specs.Summaries.{SummaryTree}
use Rattle.kf_text.specs.BlameTexts.{blame_text}
use Rattle.kf_text.specs.Parts.{blame_line, without_line}
use Rattle.kf_text.specs.BlameViews.{own_blame_line, own_blame_text, own_without_line}
use Rattle.kf_text.specs.Texts.{line}
use Rattle.kf_text.proofs.Printing.{same_text}

module _ (scale : ℕ) where
  one_blame : (name : List ℕ) (t : SummaryTree) (b : Blame) → ShowsBlame scale t b → own_blame_line name b ≡ blame_line scale name t
  one_blame name t b show =
      let inners = show.inners in
      let bayes = same_text b.bayes t.posterior scale show.bayes in
      λ i. line (name ++ (codes " inners " ++ (decimal (inners i) ++ (codes " bayes " ++ bayes i))))

  all_without : (n : ℕ) (trees : List SummaryTree) (blames : List Blame) → ShowBlames scale trees blames
      → flat_map own_without_line (enumerate_from n blames) ≡ flat_map (without_line scale) (enumerate_from n trees)
  all_without n [] [] show = refl
  all_without n [] (b ∷ bs) show = absurd show
  all_without n (t ∷ ts) [] show = absurd show
  all_without n (t ∷ ts) (b ∷ bs) show =
      let first = one_blame (codes "without " ++ decimal n) t b show.0 in
      let others = all_without (n + 1) ts bs show.1 in
      λ i. first i ++ others i

  pub same_blames : (trees : List SummaryTree) (blames : List Blame) → ShowBlames scale trees blames → own_blame_text blames ≡ blame_text scale trees
  same_blames [] [] show = refl
  same_blames [] (b ∷ bs) show = absurd show
  same_blames (t ∷ ts) [] show = absurd show
  same_blames (t ∷ ts) (b ∷ bs) show =
      let first = one_blame (codes "all") t b show.0 in
      let others = all_without 0 ts bs show.1 in
      λ i. first i ++ others i

-- the line of the whole program, and then those of its statements
pub all_printed : (blames : List Blame) (all : Blame) (start first whole : List ℕ) → 0 < length blames → all ≡ get_or blames 0 all → start ≡ []
    → first ≡ start ++ own_blame_line (codes "all") all
    → whole ≡ first ++ flat_map own_without_line (enumerate_from 0 (take (length blames - 1) (drop 1 blames))) → whole ≡ own_blame_text blames
all_printed [] all start first whole some is none one grown = absurd (omega (arith, some))
all_printed (b ∷ bs) all start first whole some is none one grown =
    let head : first ≡ own_blame_line (codes "all") b = one ∙ (λ i. none i ++ own_blame_line (codes "all") (is i)) in
    grown ∙ (λ i. head i ++ flat_map own_without_line (enumerate_from 0 (take_rest (b ∷ bs) 1 i)))
