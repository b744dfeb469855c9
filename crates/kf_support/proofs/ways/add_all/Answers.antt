use Rattle.std.proofs.Common.{ℕ, [], ◌+◌, ap, ◌∙◌, arith}
use Rattle.kf_support.specs.Carried.{with_all}
use Rattle.kf_support.proofs.Adding.{wider}
use Rattle.kf_support.proofs.Settling.{ways_joined, all_beside}
use Rattle.kf_support.proofs.ways.add_all.Goals as goal

pub settled-requires : goal.settled-requires
settled-requires c =
    let a : ℕ = c.requires.one.0 in
    let b : ℕ = c.requires.other.0 in
    let one = wider a (a + b) c.args.one.items (omega arith) c.requires.one.1.0 in
    let other = wider b (a + b) c.args.other.items (omega arith) c.requires.other.1.0 in
    record { ways = rw c.in_ok-append.ensures.items (a + b, ways_joined (a + b) c.args.one.items c.args.other.items one other) }

pub returns : goal.returns
returns c = record { all = c.in_ok-reached.ensures.settled ∙ (ap (with_all []) c.in_ok-append.ensures.items ∙ all_beside c.args.one.items c.args.other.items c.requires.one.1.1) }
