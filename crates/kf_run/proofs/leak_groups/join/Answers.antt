use Rattle.std.proofs.Common.{refl, rules}
use Rattle.std.proofs.lemmas.Fn.{always_returns_same}
use Rattle.kf_value.specs.Values.{order}
use Rattle.kf_value.specs.Views.{value_tree}
use Rattle.kf_run.specs.Groups.{value_in}
use Rattle.kf_run.proofs.Groups.{begun, joined}
use Rattle.kf_run.proofs.Rows.{entry_of}
use Rattle.kf_run.proofs.leak_groups.join.Goals as goal

pub returns-in_ok-push-in-Ok : goal.returns-in_ok-push-in-Ok
returns-in_ok-push-in-Ok c = λ yes ways groups.
    let v = value_tree c.args.leak.now.value in
    let found = c.in-Ok.ensures.position (λ g. order (value_in g) v) (always_returns_same _ _ _ (λ a r g called. search rules)) in
    joined ways c.args.groups.now.items groups (entry_of c.args.leak.now) v c.deref.result.now c.in-Ok.place (record { value = c.index_mut.result.now.value; entries = c.push.new.self }) c.index_mut.result.now
    c.deref.ensures.value c.in-Ok.ensures.bound found c.index_mut.ensures.value c.in_ok-push-in-Ok.ensures.items refl

pub returns-in_ok-insert-in-Err : goal.returns-in_ok-insert-in-Err
returns-in_ok-insert-in-Err c = λ yes ways groups.
    let v = value_tree c.args.leak.now.value in
    let found = c.in-Err.ensures.position (λ g. order (value_in g) v) (always_returns_same _ _ _ (λ a r g called. search rules)) in
    begun ways c.args.groups.now.items groups (entry_of c.args.leak.now) v c.deref.result.now c.insert.new.self.items c.in-Err.place _
    c.deref.ensures.value c.in-Err.ensures.bound found (search rules) refl c.in_ok-insert-in-Err.ensures.items
