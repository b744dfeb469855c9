use Rattle.std.proofs.Common.{◌≡◌, ℕ, ◌<◌, List, length, get_or, refl, sym, ◌∙◌, ap, arith}
use Rattle.std.proofs.lemmas.List.{get_or-map, length-map}
use Rattle.kf_column.specs.declared.entry.Entry.{Entry}
use Rattle.kf_column.specs.Traces.{value_weight}
use Rattle.kf_hyper.proofs.Searching.{weight_found}
use Rattle.kf_channel.specs.Views.{rows_of, secrets_of}
use Rattle.kf_capacity.specs.declared.divided.DividedSecret.{DividedSecret}
use Rattle.kf_capacity.specs.Divided.{undivided}
use Rattle.kf_capacity.proofs.Pieces.{more_made}
use Rattle.kf_capacity.proofs.divided.undivided_secrets.Goals as goal

pub loop-entry-preserved : goal.loop-entry-preserved
loop-entry-preserved c =
    let rows = rows_of c.args.c.now in
    let xs = secrets_of c.args.c.now in
    let es = c.secrets-entries.result.now in
    let i = c.loop-entry.entry-index in
    let d : Entry = record { value = 0; weight = 0 } in
    let e : Entry = get_or es i d in
    let within : i < length es = omega (arith, c.loop-entry-test.true) in
    let many : i < length xs = omega (arith, ap length c.secrets-entries.ensures.listed, length-map es (λ (e : Entry). e.value), within) in
    let name : e.value ≡ get_or xs i 0 =
    sym (get_or-map (λ (e : Entry). e.value) es i d 0 within) ∙ ap (λ (l : List ℕ). get_or l i 0) c.secrets-entries.ensures.listed in
    let weight : e.weight ≡ value_weight rows (get_or xs i 0) =
    sym (weight_found es e.value i d c.secrets-entries.ensures.column within refl) ∙ sym (c.secrets-entries.ensures.whole e.value)
    ∙ ap (value_weight rows) name in
    let made : DividedSecret = record { value = e.value; whole = e.weight; divisor = e.weight } in
    let here : made ≡ undivided rows (get_or xs i 0) = λ k. record { value = name k; whole = weight k; divisor = weight k } in
    let more = more_made (undivided rows) xs i 0 c.loop-entry.secrets.items made many c.loop-entry.invariant here in
    ◌∙◌ {A = List DividedSecret} c.in_ok-push.ensures.items more
