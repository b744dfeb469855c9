-- Blocks chain, and merging commutes with running.
use Rattle.std.proofs.Common.{sym, subst}
use Rattle.kf_core.specs.Pushing.{AreBehind}
use Rattle.kf_core.specs.Ready.{DivideAlong}
use Rattle.kf_core.specs.Runs.{all_runs}
use Rattle.kf_core.specs.Sts.{sts}
use Rattle.kf_core.specs.SupportLaws.{RunsChain}
use Rattle.kf_push.specs.Merging.{BlocksChain, MergingCommutes}
use Rattle.kf_push.proofs.Carrying.{Runner, chained, commutes}
use Rattle.kf_push.proofs.Statements.{blocks_split}

pub blocks_chain : RunsChain → BlocksChain
blocks_chain runs ts turns xs ys columns between behind are ready b c =
    subst (λ (f : Runner). AreBehind f columns behind) (λ i n. sym (runs ts turns xs ys n) i)
    (chained (all_runs ts turns (sts xs)) (all_runs ts turns (sts ys)) columns between behind (blocks_split ts turns (sts xs)) are
    (subst (λ (f : Runner). DivideAlong f columns) (λ i n. runs ts turns xs ys n i) ready.divides) b c)

pub merging_commutes : MergingCommutes
merging_commutes ts turns xs columns merged behind others are ready m b c =
    commutes (all_runs ts turns (sts xs)) columns merged behind others are ready.divides m b c
