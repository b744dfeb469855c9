use Rattle.std.proofs.Common.{◌≡◌, ◌++◌, ◌∙◌, List, ℕ, codes, rules, append_assoc}
use Rattle.std.specs.Fmt.{decimal}
use Rattle.kf_text.specs.Texts.{line}
use Rattle.kf_text.specs.Views.{own_text}
use Rattle.kf_text.proofs.Printing.{same_text}
use Rattle.kf_text.proofs.attack.reach_text.Goals as goal

-- the lines of a number of tries and of two fractions
abbrev lines : ℕ → List ℕ → List ℕ → List ℕ
lines tries posterior before = line (codes "tries " ++ decimal tries) ++ (line (codes "posterior " ++ posterior) ++ line (codes "before " ++ before))

pub returns : goal.returns
returns c scale tree show =
    let r = c.args.r.now in
    let own : c.print_fraction-2.new.out.items ≡ lines r.tries (own_text r.posterior) (own_text r.before) = search (rules, append_assoc) in
    let tries = show.tries in
    let posterior = same_text r.posterior tree.posterior scale show.posterior in
    let before = same_text r.before tree.before scale show.before in
    own ∙ (λ i. lines (tries i) (posterior i) (before i))
