use Rattle.std.proofs.Common.{◌≡◌, ℕ, arith, ap, rules, length, take, ◌++◌, length-take, length-append}
use Rattle.std.specs.List.{Contains}
use Rattle.std.proofs.lemmas.Grind.{common_steps}
use Rattle.std.proofs.lemmas.Bool.Decides.{nat_tests}
use Rattle.kf_io.specs.Sinks.{SinkState, room_left}
use Rattle.kf_io.proofs.Rooms.{certain_none, certain_most, certain_after}
use Rattle.kf_io.proofs.mem_sink.MemSinkSink.write.Goals as goal
use Rattle.kf_io.proofs.mem_sink.MemSinkSink.write.Goals.{then-contains-via-then-contains, then-contains-via-else-contains+then-not-is_empty, then-left-eq0, else-left-eq0}

pub returns-then-contains-clause-certain : goal.returns-then-contains-clause-certain
returns-then-contains-clause-certain c some fits =
    elim c.then-contains.branch [
      | then-contains-via-then-contains w ↦
          let listed : Contains c.args.self.now.fail c.args.self.now.calls = search rules in
          absurd (omega (arith, certain_none c.args.self.now listed))
      | then-contains-via-else-contains+then-not-is_empty w ↦
          let full : room_left c.args.self.now ≡ 0 = grind (arith, common_steps, nat_tests) in
          absurd (omega (arith, certain_most c.args.self.now, full))
    ]

pub returns-clause-left : goal.returns-clause-left
returns-clause-left c =
    let now : SinkState = record { bytes = c.extend_from_slice.new.self.items; room = c.self.inside.room; piece = c.self.inside.piece; fail = c.self.inside.fail; calls = c.saturating_add-self-inside.result; faults = c.self.inside.faults } in
    certain_after c.args.self.now now c.min-count.result (ap (λ (s : SinkState). s.fail) c.self.view_is)
    (let same : c.self.inside.calls ≡ c.args.self.now.calls = ap (λ (s : SinkState). s.calls) c.self.view_is in omega arith)
    (let room : c.self.inside.room ≡ c.args.self.now.room = ap (λ (s : SinkState). s.room) c.self.view_is in
    let held : length c.self.inside.bytes.items ≡ length c.args.self.now.bytes = ap (λ (s : SinkState). length s.bytes) c.self.view_is in
    let grown : c.extend_from_slice.new.self.items ≡ c.self.inside.bytes.items ++ take c.min-count.result c.args.bytes.now = search rules in
    omega (arith, ap length grown, length-append {A = ℕ}, length-take {A = ℕ}))
