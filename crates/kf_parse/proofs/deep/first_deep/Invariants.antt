use Rattle.std.proofs.Common.{◌≡◌, ◌≤◌, ◌+◌, drop}
use Rattle.kf_parse.specs.Depth.{open_brackets}
use Rattle.kf_parse.proofs.FirstDeep.{deep_from}
use Rattle.kf_parse.proofs.deep.first_deep.Given as goal

abbrev pub invariant-loop-token : goal.invariant-loop-token
invariant-loop-token l = record {
  low : l.open.brackets + l.open.ofs ≤ 64;
  left : deep_from l.open (drop l.token-index l.tokens) ≡ deep_from (open_brackets 0) l.tokens;
}
