use Rattle.std.proofs.Common.{arith}
use Rattle.std.proofs.lemmas.Result.{on_ok_weaker}
use Rattle.kf_value.proofs.LastItem.{as_many_values, closed_tuple}
use Rattle.kf_value.proofs.prints.write_in_parentheses.Goals as goal

pub returns : goal.returns
returns c = on_ok_weaker c.write_items.result (λ told vs found.
    let many = as_many_values c.args.items.now c.args.n vs found in
    let some = c.requires.some in
    closed_tuple vs c.args.out.now.items c.push.new.self.items c.write_items.new.out.items (omega arith) c.in_ok-push.ensures.items (told vs found)) c.write_items.ensures
