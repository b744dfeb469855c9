use Rattle.kf_core.specs.Sts.{sts}
use Rattle.kf_push.proofs.Carrying.{some_behind, one_behind}
use Rattle.kf_push.proofs.Merging.{blocks_chain, merging_commutes}
use Rattle.kf_push.proofs.Statements.{blocks_split}
use Rattle.kf_push.proofs.laws.merge_law.Goals as goal

pub returns : goal.returns
returns c = record {
  splits = λ ts turns xs. blocks_split ts turns (sts xs);
  some = some_behind;
  only = one_behind;
  chain = blocks_chain c.run_laws.ensures.sequence;
  commutes = merging_commutes;
}
