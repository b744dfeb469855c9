use Rattle.std.proofs.Common.{◌<◌, ◌≤◌, length, pos, unwrap_or, sym, ap, arith}
use Rattle.kf_cert.proofs.Idle.{some_idle, none_idle}
use Rattle.kf_cert.proofs.gain_rules.sums.some_sum.Goals as goal

pub returns-then-len-count-clause-reached : goal.returns-then-len-count-clause-reached
returns-then-len-count-clause-reached c =
    let sums = c.args.sums.now.entries in
    let few : length sums < c.args.count = omega (arith, c.if-len-count.true, c.len.ensures.len) in
    let r = some_idle c.args.count sums c.len.ensures.ordered few in (r.0, r.1, ap (λ o. unwrap_or o (pos 0)) (sym r.2))

pub returns-else-len-count-clause-idle : goal.returns-else-len-count-clause-idle
returns-else-len-count-clause-idle c =
    let sums = c.args.sums.now.entries in
    let many : c.args.count ≤ length sums = omega (arith, c.if-len-count.false, c.len.ensures.len) in
    λ k under none. absurd (none_idle c.args.count sums c.len.ensures.ordered c.requires.below many k under none)
