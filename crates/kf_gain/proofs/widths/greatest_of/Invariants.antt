use Rattle.std.proofs.Common.{◌≡◌, map, max, drop}
use Rattle.kf_gain.specs.Vulnerabilities.{greatest}
use Rattle.kf_gain.proofs.widths.greatest_of.Given as goal

abbrev pub invariant-loop-entry : goal.invariant-loop-entry
invariant-loop-entry l = max l.most (greatest (map (λ e. e.gain) (drop l.entry-index l.gains))) ≡ max l.fn.most (greatest (map (λ e. e.gain) l.gains))
