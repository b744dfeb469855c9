use Rattle.std.proofs.Common.{◌<◌, ◌-◌, ap, sym, ◌∙◌, length, arith}
use Rattle.kf_value.specs.Values.{order}
use Rattle.kf_value.specs.Views.{value_tree}
use Rattle.kf_eval.proofs.Placing.{less_is, put_last}
use Rattle.kf_eval.proofs.weighted.ends_before.Goals as goal

pub returns-in-Some : goal.returns-in-Some
returns-in-Some c = λ before w is.
    let items = c.args.items.now in
    let some : 0 < length items = c.in-Some.ensures.item.3.0 in
    let less = ap (λ v. order (value_tree c.in-Some.last.now.value) v) is ∙ (sym c.compare.ensures ∙ less_is c.compare.result (sym c.is_lt.ensures ∙ before)) in
    put_last w items c.requires.ascending (length items - 1) c.in-Some.last.now (omega (arith, some)) (sym c.in-Some.ensures.value) less
