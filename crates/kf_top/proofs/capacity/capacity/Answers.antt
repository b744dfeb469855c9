use Rattle.std.proofs.Common.{◌≡◌, Bool, List, map, Ok, true≢false, inl, refl, sym, ap, ◌∙◌}
use Rattle.std.specs.List.{list_all}
use Rattle.std.proofs.lemmas.List.Folds.{list_all-map}
use Rattle.kf_value.specs.Targets.{Item}
use Rattle.kf_value.specs.TypeViews.{item_of}
use Rattle.kf_value.specs.declared.target_item.TargetItem.{TargetItem}
use Rattle.kf_capacity.specs.Grids.{channel_grid}
use Rattle.kf_channel.specs.Channels.{all_initial}
use Rattle.kf_core.specs.declared.program.Program.{Program}
use Rattle.kf_load.specs.Views.{program_in}
use Rattle.kf_support.specs.Cleared.{program_of, turns_of}
use Rattle.kf_top.specs.Answer.{initial}
use Rattle.kf_top.proofs.Capacities.{capacity_prints, has_channel, no_channel}
use Rattle.kf_top.proofs.capacity.capacity.Goals as goal

-- what the test says of the program's target
tested : (q program : Program) (items : List TargetItem) (b : Bool) → q ≡ program → items ≡ q.target.items → b ≡ list_all (λ i. i.initial) items
    → all_initial (map item_of program.target.items) ≡ b
tested q program items b same are is =
    list_all-map (λ (i : Item). i.initial) item_of program.target.items
    ∙ ap (λ (r : Program). list_all (λ i. i.initial) r.target.items) (sym same)
    ∙ ap (list_all (λ i. i.initial)) (sym are)
    ∙ sym is

pub returns-then-not-is_initial-clause-answer : goal.returns-then-not-is_initial-clause-answer
returns-then-not-is_initial-clause-answer c =
    let p = program_in c.args.cleared.now in
    let is = tested c.program.result.now (program_of c.args.cleared.now) c.as_slice.result.now c.is_initial.result c.program.ensures c.as_slice.ensures c.is_initial.ensures in
    inl (no_channel p p.target refl (is ∙ c.if-not-is_initial.true))

pub returns-in_ok-bytes-in-Some-clause-answer : goal.returns-in_ok-bytes-in-Some-clause-answer
returns-in_ok-bytes-in-Some-clause-answer c =
    let cleared = c.args.cleared.now in
    let p = program_in cleared in
    let is = tested c.program.result.now (program_of cleared) c.as_slice.result.now c.is_initial.result c.program.ensures c.as_slice.ensures c.is_initial.ensures in
    let read : Ok p ≡ initial p = has_channel p p.target refl (λ no'. true≢false (sym (is ∙ c.if-not-is_initial.false) ∙ no')) in
    let told = rw c.in-Some.is at c.in_ok-capacity.ensures in
    capacity_prints (turns_of cleared) p told.0 (read, told.1) told.2.0 c.in_ok-bytes-in-Some.bytes.items
    (c.in_ok-bytes-in-Some.ensures.numbers (channel_grid told.0) told.2.1)
