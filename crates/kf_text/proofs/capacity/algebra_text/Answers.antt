use Rattle.std.proofs.Common.{◌≡◌, ◌++◌, ◌∙◌, List, ℕ, pos, codes, length, rules, append_assoc}
use Rattle.std.specs.Fmt.{decimal}
use Rattle.kf_capacity.specs.Grids.{GridTree, capacity_of}
use Rattle.kf_capacity.specs.Views.{grid_tree}
use Rattle.kf_text.specs.CapacityViews.{own_algebra_lines}
use Rattle.kf_text.specs.Texts.{line}
use Rattle.kf_text.proofs.Printing.{same_text}
use Rattle.kf_text.proofs.capacity.algebra_text.Goals as goal

-- the lines of a size and of three capacities
abbrev lines : GridTree → List ℕ → List ℕ → List ℕ → List ℕ
lines g first second both =
    line (codes "rows " ++ decimal g.rows)
    ++ (line (codes "columns " ++ decimal (length g.columns))
    ++ (line (codes "first " ++ first) ++ (line (codes "second " ++ second) ++ line (codes "both " ++ both))))

pub returns-clause-parts : goal.returns-clause-parts
returns-clause-parts c = search (rules, append_assoc)

pub returns-clause-numbers : goal.returns-clause-numbers
returns-clause-numbers c a b is_first is_second is_both =
    let g = grid_tree c.args.g.now in
    let own : c.print_fraction-3.new.out.items ≡ own_algebra_lines g c.args.first c.args.second c.args.both = search (rules, append_assoc) in
    let first = same_text c.args.first (pos (capacity_of a)) a.over is_first in
    let second = same_text c.args.second (pos (capacity_of b)) b.over is_second in
    let both = same_text c.args.both (pos (capacity_of g)) g.over is_both in
    own ∙ (λ i. lines g (first i) (second i) (both i))
