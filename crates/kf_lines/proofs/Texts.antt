-- The lines of summaries' own fractions are those of the numbers that they have.
use Rattle.std.proofs.Common.{◌≡◌, ℕ, List, [], ◌∷◌, ◌++◌, codes, flat_map, refl, ◌∙◌}
use Rattle.std.specs.Fmt.{decimal}
use Rattle.kf_lines.specs.LineTexts.{line_text, lines_text}
use Rattle.kf_lines.specs.Summaries.{LineTree, LinesTree}
use Rattle.kf_lines.specs.Views.{ShowLines, ShowsSummary, own_line, own_lines, own_text_of, place_text}
use Rattle.kf_lines.specs.declared.summary.Line.{Line}
use Rattle.kf_lines.specs.declared.summary.Summary.{Summary}
use Rattle.kf_text.specs.BlameTexts.{summary_line}
use Rattle.kf_text.specs.Texts.{line}
use Rattle.kf_text.proofs.Printing.{same_text}
use Rattle.kf_quiet.specs.Summaries.{SummaryTree}

module _ (bytes : List ℕ) (whole : ℕ) where
  one_summary : (name : List ℕ) (t : SummaryTree) (s : Summary) → ShowsSummary whole t s → own_line name s ≡ summary_line (codes " posterior ") whole name t
  one_summary name t s show =
      let inners = show.inners in
      let posterior = same_text s.posterior t.posterior whole show.posterior in
      λ i. line (name ++ (codes " inners " ++ (decimal (inners i) ++ (codes " posterior " ++ posterior i))))

  all_lines : (trees : List LineTree) (ls : List Line) → ShowLines whole trees ls → flat_map (own_text_of bytes) ls ≡ flat_map (line_text bytes whole) trees
  all_lines [] [] show = refl
  all_lines [] (l ∷ ls) show = absurd show
  all_lines (t ∷ ts) [] show = absurd show
  all_lines (t ∷ ts) (l ∷ ls) show =
      let place : own_text_of bytes l ≡ own_line (place_text bytes t.at) l.left = λ i. own_line (place_text bytes (show.0.at i)) l.left in
      let first = place ∙ one_summary (place_text bytes t.at) t.left l.left show.0.left in
      let others = all_lines ts ls show.1 in
      λ i. first i ++ others i

  pub same_lines : (t : LinesTree) (s : Summary) (ls : List Line) → ShowsSummary whole t.all s → ShowLines whole t.lines ls → own_lines bytes s ls ≡ lines_text bytes whole t
  same_lines t s ls all show =
      let first = one_summary (codes "all") t.all s all in
      let others = all_lines t.lines ls show in
      λ i. first i ++ others i
