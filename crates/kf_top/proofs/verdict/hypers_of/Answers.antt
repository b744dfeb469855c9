use Rattle.std.proofs.Common.{refl, sym}
use Rattle.kf_support.specs.Cleared.{turns_of}
use Rattle.kf_top.proofs.Verdicts.{is_hyper_tree}
use Rattle.kf_top.proofs.verdict.hypers_of.Goals as goal

pub returns : goal.returns
returns c =
    let pair = c.args.pair.now in
    let turns = turns_of pair.first in
    let a = c.in_ok-a.ensures in
    let b = c.in_ok-b.ensures in
    record {
      first = is_hyper_tree turns pair.first refl c.in_ok-a.a a.hyper a.scale a.target;
      second = is_hyper_tree turns pair.second (sym c.requires) c.in_ok-b.b b.hyper b.scale b.target;
    }
