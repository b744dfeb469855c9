use Rattle.std.proofs.Common.{◌≡◌, ℕ, ◌<◌, drop, map, length, get_or, set, refl, sym, ◌∙◌, ap, subst, arith}
use Rattle.std.proofs.lemmas.List.{get_or-map, length-map}
use Rattle.kf_column.specs.Columns.{weight_at}
use Rattle.kf_frac.specs.Divisors.{gcd_of}
use Rattle.kf_hyper.proofs.InPlace.{mapped_more, still_there}
use Rattle.kf_hyper.proofs.Rising.{rises}
use Rattle.kf_capacity.specs.declared.divided.DividedSecret.{DividedSecret}
use Rattle.kf_capacity.specs.Divided.{shared}
use Rattle.kf_capacity.proofs.Walking.{ahead_first, ahead_here, ahead_more}
use Rattle.kf_capacity.proofs.divided.shared.Goals as goal

pub loop-i-init : goal.loop-i-init
loop-i-init c =
    let names = map (λ (s : DividedSecret). s.value) c.args.secrets.items in
    record { part = refl; ahead = ahead_first c.args.entries.now 0 names (rises names c.requires.ascending) }

pub loop-i-preserved : goal.loop-i-preserved
loop-i-preserved c =
    let es = c.args.entries.now in
    let all = c.args.secrets.items in
    let now = c.loop-i.secrets.items in
    let i = c.loop-i.i in
    let s : DividedSecret = c.index_mut-secret.result.now in
    let rest = drop c.loop-i.from es in
    let names = map (λ (s : DividedSecret). s.value) all in
    let within : i < length all = omega (arith, c.len-i-end.ensures, c.loop-i-test.true) in
    let many : i < length names = omega (arith, length-map all (λ (s : DividedSecret). s.value), within) in
    let name : s.value ≡ get_or names i 0 =
    ap (λ (s : DividedSecret). s.value) (c.index_mut-secret.ensures.value ∙ still_there (shared es) all now i s within c.loop-i.invariant.part)
    ∙ sym (get_or-map (λ (s : DividedSecret). s.value) all i s 0 within) in
    let weight : c.weight_from-next.result.1 ≡ weight_at es s.value =
    c.weight_from-next.ensures.weight
    ∙ subst (λ (x : ℕ). weight_at rest x ≡ weight_at es x) (sym name) (ahead_here es rest 0 names i many c.loop-i.invariant.ahead) in
    record {
      part = ap (λ (n : ℕ). set now i (record { value = s.value; whole = s.whole; divisor = n }))
          (c.common-secret.ensures ∙ ap (λ (n : ℕ). gcd_of s.divisor n) weight)
          ∙ ap (λ (t : DividedSecret). set now i (shared es t)) c.index_mut-secret.ensures.value
          ∙ mapped_more (shared es) all now i s within c.loop-i.invariant.part;
      ahead = ahead_more es rest (drop c.weight_from-next.result.0 es) names i many
          (λ x less. c.weight_from-next.ensures.after x (omega (arith, less, name))) c.loop-i.invariant.ahead;
    }
