use Rattle.kf_order.proofs.Ordering.{is_antisymmetric}
use Rattle.kf_order.proofs.Refining.{refinement_leaks_no_more}
use Rattle.kf_order.proofs.laws.refinement_laws.Goals as goal

pub returns : goal.returns
returns c = record {
  no_more = refinement_leaks_no_more;
  reflexive = c.refine_laws.ensures.reflexive;
  transitive = c.refine_laws.ensures.transitive;
  antisymmetric = is_antisymmetric;
}
