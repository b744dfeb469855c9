-- Inners have exactly one report's numbers.
use Rattle.std.proofs.Common.{◌≡◌, ◌*◌, refl, sym, ◌∙◌}
use Rattle.kf_gain.specs.Gains.{over_of}
use Rattle.kf_gain.specs.Laws.{SomeReport, OneReport}
use Rattle.kf_report.specs.Laws.{SomeLeakage, OneLeakage}

pub some_leakage : SomeReport → SomeLeakage
some_leakage law g scale inners some =
    let both = law g inners some in (
      record { prior = both.0.0; posterior = both.1.0; whole = scale * over_of g },
      record { prior = both.0.1; posterior = both.1.1; whole = refl },
    )

pub one_leakage : OneReport → OneLeakage
one_leakage law g scale inners k l first second =
    let prior : k.prior ≡ l.prior = (law g inners k.prior l.prior).0 first.prior second.prior in
    let posterior : k.posterior ≡ l.posterior = (law g inners k.posterior l.posterior).1 first.posterior second.posterior in
    let whole : k.whole ≡ l.whole = first.whole ∙ sym second.whole in
    λ i. record { prior = prior i; posterior = posterior i; whole = whole i }
