use Rattle.std.proofs.Common.{◌≡◌, ℕ, ◌*◌, ◌/◌, ◌<◌, ◌≤◌, List, drop, map, length, get_or, sym, ◌∙◌, ap, subst, arith}
use Rattle.std.proofs.lemmas.List.{get_or-map, length-map}
use Rattle.kf_frac.specs.Fractions.{limit}
use Rattle.kf_column.specs.Columns.{weight_at}
use Rattle.kf_hyper.proofs.Rising.{rises}
use Rattle.kf_capacity.specs.declared.scales.SecretScale.{SecretScale}
use Rattle.kf_capacity.specs.Divided.{number_in}
use Rattle.kf_capacity.proofs.Pieces.{more_made}
use Rattle.kf_capacity.proofs.Walking.{ahead_first, ahead_here, ahead_more}
use Rattle.kf_capacity.proofs.scales.scaled_column.Goals as goal

pub loop-scale-init : goal.loop-scale-init
loop-scale-init c =
    let names = map (λ (s : SecretScale). s.value) c.args.scales.now in
    record { same = c.in_ok-numbers.ensures.items; ahead = ahead_first c.args.entries.now 0 names (rises names c.requires.ascending) }

pub scaled_weight-requires-clause-fits : goal.scaled_weight-requires-clause-fits
scaled_weight-requires-clause-fits c =
    let es = c.args.entries.now in
    let all = c.args.scales.now in
    let i = c.loop-scale.scale-index in
    let d : SecretScale = record { value = 0; divisor = 0; factor = 0 } in
    let s : SecretScale = get_or all i d in
    let rest = drop c.loop-scale.from es in
    let names = map (λ (s : SecretScale). s.value) all in
    let within : i < length all = omega (arith, c.loop-scale-test.true) in
    let many : i < length names = omega (arith, length-map all (λ (s : SecretScale). s.value), within) in
    let name : s.value ≡ get_or names i 0 = sym (get_or-map (λ (s : SecretScale). s.value) all i d 0 within) in
    let weight : c.weight_from-next.result.1 ≡ weight_at es s.value =
    c.weight_from-next.ensures.weight
    ∙ subst (λ (x : ℕ). weight_at rest x ≡ weight_at es x) (sym name) (ahead_here es rest 0 names i many c.loop-scale.invariant.ahead) in
    subst (λ (w : ℕ). w / s.divisor * s.factor ≤ limit) (sym weight) (c.requires.fits i d within)

pub loop-scale-preserved : goal.loop-scale-preserved
loop-scale-preserved c =
    let es = c.args.entries.now in
    let all = c.args.scales.now in
    let i = c.loop-scale.scale-index in
    let d : SecretScale = record { value = 0; divisor = 0; factor = 0 } in
    let s : SecretScale = get_or all i d in
    let rest = drop c.loop-scale.from es in
    let names = map (λ (s : SecretScale). s.value) all in
    let within : i < length all = omega (arith, c.loop-scale-test.true) in
    let many : i < length names = omega (arith, length-map all (λ (s : SecretScale). s.value), within) in
    let name : s.value ≡ get_or names i 0 = sym (get_or-map (λ (s : SecretScale). s.value) all i d 0 within) in
    let weight : c.weight_from-next.result.1 ≡ weight_at es s.value =
    c.weight_from-next.ensures.weight
    ∙ subst (λ (x : ℕ). weight_at rest x ≡ weight_at es x) (sym name) (ahead_here es rest 0 names i many c.loop-scale.invariant.ahead) in
    let here : c.scaled_weight.result ≡ number_in es s = c.scaled_weight.ensures ∙ ap (λ (w : ℕ). w / s.divisor * s.factor) weight in
    let made = more_made (number_in es) all i d c.loop-scale.numbers.items c.scaled_weight.result within c.loop-scale.invariant.same here in
    record {
      same = ◌∙◌ {A = List ℕ} c.in_ok-push.ensures.items made;
      ahead = ahead_more es rest (drop c.weight_from-next.result.0 es) names i many
          (λ x less. c.weight_from-next.ensures.after x (omega (arith, less, name))) c.loop-scale.invariant.ahead;
    }
