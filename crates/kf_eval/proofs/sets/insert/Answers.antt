use Rattle.std.proofs.Common.{sym}
use Rattle.kf_eval.proofs.Inserting.{inserted_items}
use Rattle.kf_eval.proofs.sets.insert.Goals as goal

pub returns-in_ok-insert : goal.returns-in_ok-insert
returns-in_ok-insert c =
    inserted_items c.deref.result.now c.args.set.now.items c.insert.new.self.items c.args.value c.in-Some.place c.deref.ensures.value c.in_ok-insert.ensures.items c.in-Some.ensures.whole

pub returns-in_default : goal.returns-in_default
returns-in_default c = rw (← c.deref.ensures.value) (sym c.in_default.ensures.whole)
