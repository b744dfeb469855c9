use Rattle.std.proofs.Common.{◌≡◌, ◌++◌, map, slice_get, Some, sym, ap, ◌∙◌, arith}
use Rattle.std.proofs.lemmas.Result.{on_ok_weaker}
use Rattle.kf_value.specs.Targets.{shown, target_values}
use Rattle.kf_value.specs.TypeViews.{item_of}
use Rattle.kf_value.specs.Views.{items_of}
use Rattle.kf_value.proofs.LastItem.{values_there, only_value, as_many_values}
use Rattle.kf_value.proofs.Printing.{target_text_is, shown_many}
use Rattle.kf_value.proofs.prints.write_target.Goals as goal

pub returns-then-items-eq1 : goal.returns-then-items-eq1
returns-then-items-eq1 c =
    let there = values_there c.args.target.now.items c.args.n c.requires in
    let listed : slice_get (target_values (map item_of c.as_slice-items.result.now)) c.args.n ≡ Some there.0 = rw c.as_slice-items.ensures there.1 in
    let only = only_value c.as_slice-items.result.now c.index-items-0.result c.args.n there.0 (omega arith) listed in
    let shows = target_text_is (items_of c.args.target.now) c.args.n there.0 there.1 ∙ ap shown only.1 in
    record { printed = on_ok_weaker c.write_nth.result (λ told. told only.0 only.2 ∙ ap (λ z. c.args.out.now.items ++ z) (sym shows)) c.write_nth.ensures }

pub returns-else-items-eq1 : goal.returns-else-items-eq1
returns-else-items-eq1 c =
    let there = values_there c.args.target.now.items c.args.n c.requires in
    let listed : slice_get (target_values (map item_of c.as_slice-items.result.now)) c.args.n ≡ Some there.0 = rw c.as_slice-items.ensures there.1 in
    let many = as_many_values c.as_slice-items.result.now c.args.n there.0 listed in
    let shows = target_text_is (items_of c.args.target.now) c.args.n there.0 there.1 ∙ shown_many there.0 (λ one. omega arith) in
    record { printed = on_ok_weaker c.write_in_parentheses.result (λ told. told there.0 listed ∙ ap (λ z. c.args.out.now.items ++ z) (sym shows)) c.write_in_parentheses.ensures }
