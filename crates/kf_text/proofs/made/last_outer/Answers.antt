use Rattle.std.proofs.Common.{◌-◌, pos, ap, ◌∙◌, []}
use Rattle.kf_frac.specs.Fractions.{reduced_num, reduced_den}
use Rattle.kf_column.specs.Hypers.{Inner}
use Rattle.kf_hyper.specs.Views.{inner_at, inners_of, scale_of}
use Rattle.kf_text.proofs.Summaries.{last_at, some_inner}
use Rattle.kf_text.proofs.made.last_outer.Goals as goal

pub returns-clause-num : goal.returns-clause-num
returns-clause-num c =
    let h = c.args.hyper.now in
    let none : Inner = record { entries = []; total = 0 } in
    let last = ap (λ n. (inner_at h (n - 1)).total) c.count-count.ensures ∙ last_at (inners_of h) none (some_inner (inners_of h) (scale_of h) h.shape.some h.shape.whole) in
    c.outer.ensures.num ∙ ap (λ t. reduced_num (pos t) (scale_of h)) last

pub returns-clause-den : goal.returns-clause-den
returns-clause-den c =
    let h = c.args.hyper.now in
    let none : Inner = record { entries = []; total = 0 } in
    let last = ap (λ n. (inner_at h (n - 1)).total) c.count-count.ensures ∙ last_at (inners_of h) none (some_inner (inners_of h) (scale_of h) h.shape.some h.shape.whole) in
    c.outer.ensures.den ∙ ap (λ t. reduced_den (pos t) (scale_of h)) last
