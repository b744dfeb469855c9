use Rattle.std.proofs.Common.{take}
use Rattle.kf_cert.proofs.RowShares.{IsMissing}
use Rattle.kf_cert.proofs.matrix_rules.shares.sum_to_one.Given as goal

abbrev pub invariant-loop-share : goal.invariant-loop-share
invariant-loop-share l = IsMissing l.rows l.over (take l.share-index l.shares) l.missing.items
