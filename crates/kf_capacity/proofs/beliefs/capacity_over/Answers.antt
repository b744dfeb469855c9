use Rattle.std.proofs.Common.{◌≡◌, pos, to_z, sym, subst, ap, ◌∙◌, arith, ℕ, IfSome}
use Rattle.std.specs.Int.{w128}
use Rattle.std.proofs.lemmas.Int.{ints}
use Rattle.kf_frac.specs.Parts.{IsFraction}
use Rattle.kf_hyper.specs.Views.{inners_of}
use Rattle.kf_capacity.specs.Beliefs.{IsWholeIn, belief_capacity}
use Rattle.kf_capacity.proofs.Inners.{whole_in, capacity_made}
use Rattle.kf_capacity.proofs.beliefs.capacity_over.Goals as goal

pub returns : goal.returns
returns c =
    let inners = inners_of c.args.h.now in
    let n = c.in_ok-n.n in
    let sum = c.in_ok-sum.sum in
    let same : to_z w128 sum ≡ pos sum = omega (arith, ints, c.in_ok-sum.ensures.narrow) in
    subst (λ o. IfSome o (λ f. (m : ℕ) × IsWholeIn inners m × IsFraction f (pos (belief_capacity m inners)) m)) (sym c.ok.ensures.value)
    (capacity_made c.make.result inners (to_z w128 sum) n
    (whole_in inners c.args.average.now c.requires c.is_column.ensures n c.in_ok-n.ensures.positive c.in_ok-n.ensures.multiple c.in_ok-n.ensures.narrow)
    (same ∙ ap pos c.in_ok-sum.ensures.is) c.make.ensures.num c.make.ensures.den)
