use Rattle.std.proofs.Common.{◌≡◌, ℕ, ◌+◌, ◌<◌, [], length, map, drop, get_or, slice_get, ap, sym, ◌∙◌, subst, arith}
use Rattle.std.proofs.lemmas.List.{get_or_default}
use Rattle.std.proofs.lemmas.List.Elements.{All-map}
use Rattle.std.proofs.lemmas.Option.{get_or_from_slice_get}
use Rattle.std.specs.List.Sorted.{IsStrictlySortedBy}
use Rattle.kf_value.specs.Numbers.{target_size}
use Rattle.kf_value.specs.Targets.{target_values}
use Rattle.kf_value.specs.TypeViews.{item_of}
use Rattle.kf_value.specs.Views.{value_trees}
use Rattle.kf_value.proofs.ListLemmas.{left_step, left_end}
use Rattle.kf_column.specs.Traces.{trace_order}
use Rattle.kf_channel.specs.Views.{target_of, secrets_of}
use Rattle.kf_capacity.specs.Compositions.{secret_values}
use Rattle.kf_capacity.specs.Views.{channel_tree}
use Rattle.kf_capacity.proofs.Named.{mapped_more, mapped_all}
use Rattle.kf_capacity.proofs.TraceOrder.{secrets_ascend}
use Rattle.kf_capacity.proofs.places.secret_lists.Goals as goal

pub loop-i-preserved : goal.loop-i-preserved
loop-i-preserved c =
    let d = c.args.d.now in
    let i = c.loop-i.i in
    let read = λ (x : ℕ). get_or (target_values (target_of d)) x [] in
    let items : map item_of c.as_slice-items.result.now ≡ target_of d = ap (map item_of) c.as_slice-items.ensures ∙ c.target.ensures in
    let within : i < length (secrets_of d) = omega (arith, c.rows-i-end.ensures.count, c.loop-i-test.true) in
    let next = left_step read (secrets_of d) i c.secret.result within (c.secret.ensures.kept ∙ get_or_default (secrets_of d) i 0 c.secret.result within) in
    let value : read c.secret.result ≡ value_trees c.in_ok-values_at.field-0 =
    get_or_from_slice_get (target_values (target_of d)) c.secret.result (value_trees c.in_ok-values_at.field-0) []
    (ap (λ is. slice_get (target_values is) c.secret.result) (sym items) ∙ c.in_ok-values_at.ensures) in
    rw (c.in_ok-push.ensures.items)
    (mapped_more value_trees c.loop-i.lists.items c.in_ok-values_at.field-0 (read c.secret.result) (map read (drop (i + 1) (secrets_of d)))
    (secret_values (channel_tree d)) value (rw next at c.loop-i.invariant))

pub returns-clause-ascending : goal.returns-clause-ascending
returns-clause-ascending c =
    let d = c.args.d.now in
    let read = λ (x : ℕ). get_or (target_values (target_of d)) x [] in
    let none = left_end read (secrets_of d) c.loop-i.i (omega (arith, c.rows-i-end.ensures.count, c.loop-i-test.false)) in
    let whole = mapped_all value_trees c.loop-i.lists.items (map read (drop c.loop-i.i (secrets_of d))) (secret_values (channel_tree d))
    none c.loop-i.invariant in
    let below = All-map (λ x. x < target_size (target_of d)) (λ e. e.value) d.secrets d.channel.within in
    subst (IsStrictlySortedBy trace_order) (sym whole) (secrets_ascend (target_of d) (secrets_of d) c.rows-i-end.ensures.ascending below)
