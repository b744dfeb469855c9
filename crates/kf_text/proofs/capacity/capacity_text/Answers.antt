use Rattle.std.proofs.Common.{◌≡◌, ◌++◌, ◌∙◌, List, ℕ, pos, ap, codes, rules}
use Rattle.kf_capacity.specs.Grids.{capacity_of}
use Rattle.kf_text.specs.CapacityViews.{own_capacity_line}
use Rattle.kf_text.specs.Texts.{line}
use Rattle.kf_text.proofs.Printing.{same_text}
use Rattle.kf_text.proofs.capacity.capacity_text.Goals as goal

pub returns-clause-numbers : goal.returns-clause-numbers
returns-clause-numbers c g is =
    let own : c.print_fraction.new.out.items ≡ own_capacity_line c.args.f = search rules in
    own ∙ ap (λ (text : List ℕ). line (codes "capacity " ++ text)) (same_text c.args.f (pos (capacity_of g)) g.over is)
