use Rattle.kf_support.proofs.Settling.{joins_last, follows_last}
use Rattle.kf_support.proofs.ways.add_last.Goals as goal

pub returns-in_ok-push-in-Some : goal.returns-in_ok-push-in-Some
returns-in_ok-push-in-Some c = record {
  way = joins_last c.args.store c.args.scale c.args.reached.now.items c.pop.new.self.items c.push.new.self.items c.in-Some.last c.in-Some.old c.in-Some.ensures.items c.requires.reached.1.1
      c.common.result c.if-last-store.true c.common.ensures c.in_ok-push-in-Some.ensures.items;
}

pub returns-in_ok-push-in-Some-3 : goal.returns-in_ok-push-in-Some-3
returns-in_ok-push-in-Some-3 c = record {
  way = follows_last c.args.store c.args.scale c.args.reached.now.items c.pop.new.self.items c.push-else-last-store-2.new.self.items c.in-Some.last c.in-Some.old c.in-Some.ensures.items c.requires.reached.1.1
      c.push-else-last-store.new.self.items c.if-last-store.false c.requires.last c.in_ok-push-in-Some-2.ensures.items c.in_ok-push-in-Some-3.ensures.items;
}
