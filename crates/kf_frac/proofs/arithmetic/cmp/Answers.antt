use Rattle.std.proofs.Common.{◌∙◌}
use Rattle.kf_frac.proofs.Signs.{rising, falling}
use Rattle.kf_frac.proofs.arithmetic.cmp.Goals as goal
use Rattle.kf_frac.specs.Parts.{value_of}

pub returns-in-true-true : goal.returns-in-true-true
returns-in-true-true c =
    let a = rw (c.in-true-true.is-0) at c.times-a_negative.ensures.value in
    let b = rw (c.in-true-true.is-1) at c.times-b_negative.ensures.value in
    c.compare.ensures ∙ falling (value_of c.times-a_negative.result.1) (value_of c.times-b_negative.result.1) a b

pub returns-in-false-false : goal.returns-in-false-false
returns-in-false-false c =
    let a = rw (c.in-false-false.is-0) at c.times-a_negative.ensures.value in
    let b = rw (c.in-false-false.is-1) at c.times-b_negative.ensures.value in
    c.compare-in-false-false.ensures ∙ rising (value_of c.times-a_negative.result.1) (value_of c.times-b_negative.result.1) a b
