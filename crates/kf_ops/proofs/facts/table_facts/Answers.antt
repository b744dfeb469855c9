use Rattle.kf_ops.proofs.Sound.{words_differ, levels, arities, codes_differ, at_number}
use Rattle.kf_ops.proofs.facts.table_facts.Goals as goal

pub returns : goal.returns
returns c = record {
  words = words_differ;
  levels = levels;
  arities = arities;
  codes = codes_differ;
  rows = at_number;
}
