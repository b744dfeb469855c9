use Rattle.std.proofs.Common.{refl}
use Rattle.kf_hyper.specs.Views.{inners_of, scale_of}
use Rattle.kf_refine.specs.Views.{hyper_tree}
use Rattle.kf_support.specs.Cleared.{turns_of}
use Rattle.kf_top.proofs.Reach.{reach_prints}
use Rattle.kf_top.proofs.Verdicts.{is_hyper_tree}
use Rattle.kf_top.proofs.attack.reach.Goals as goal

pub returns-clause-answer : goal.returns-clause-answer
returns-clause-answer c =
    let cleared = c.args.cleared.now in
    let hyper = c.in_ok-hyper.hyper in
    let is = c.in_ok-hyper.ensures in
    let wanted = c.wanted in
    let reach = c.in_ok-reach.ensures in (
      hyper_tree hyper,
      is_hyper_tree (turns_of cleared) cleared refl hyper is.hyper is.scale is.target,
      reach_prints c.args.num c.args.den c.requires.some c.requires.part wanted.result.num wanted.result.den wanted.ensures.is.num wanted.ensures.is.den
          (scale_of hyper) (inners_of hyper) reach.0 c.in_ok-bytes.bytes.items reach.1 (c.in_ok-bytes.ensures (scale_of hyper) reach.0 reach.2),
    )
