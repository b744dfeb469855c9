use Rattle.std.proofs.Common.{ap, ◌∙◌}
use Rattle.std.proofs.lemmas.Nat.Gcd.{IsGcd-from_mod, IsGcd-from_zero}
use Rattle.kf_frac.specs.Divisors.{gcd_of}
use Rattle.kf_frac.proofs.CommonDivisors.{gcd_is, gcd_is_the}
use Rattle.kf_frac.proofs.divisors.wide_gcd.Goals as goal

pub returns-in-Ok-Ok : goal.returns-in-Ok-Ok
returns-in-Ok-Ok c =
    let narrow = c.from.ensures ∙ c.narrow_gcd.ensures ∙ ap (λ n. gcd_of n c.in-Ok-Ok.y) c.in-Ok-Ok.ensures.1 ∙ ap (gcd_of c.loop-y.x) c.in-Ok-Ok.ensures'.1 in
    narrow ∙ gcd_is_the c.args.x c.args.y _ (c.loop-y.invariant _ (gcd_is c.loop-y.x c.loop-y.y))

pub loop-y-preserved : goal.loop-y-preserved
loop-y-preserved c = λ g h. c.loop-y.invariant g (IsGcd-from_mod c.loop-y.x c.loop-y.y g h)

pub returns : goal.returns
returns c =
    gcd_is_the c.args.x c.args.y c.loop-y.x
    (c.loop-y.invariant c.loop-y.x (IsGcd-from_zero c.loop-y.x c.loop-y.y c.loop-y-test.false))
