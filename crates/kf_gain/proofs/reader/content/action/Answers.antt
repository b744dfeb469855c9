use Rattle.std.proofs.Common.{rules, ◌∙◌, ap, codes}
use Rattle.serde_json.specs.View.{view}
use Rattle.kf_value.specs.Views.{items_of}
use Rattle.kf_json.specs.Json.{text_of}
use Rattle.kf_gain.proofs.Entries.{action_read}
use Rattle.kf_json.proofs.Viewing.{seen_at}
use Rattle.kf_gain.proofs.reader.content.action.Goals as goal
use Rattle.std.proofs.lemmas.List.Sorted.{IsNonDecreasingBy-from_sort_by_key}
use borrow.Author.Tests.{tests}
use Rattle.kf_gain.specs.declared.table.GainEntry.{GainEntry}

pub returns-clause-ok : goal.returns-clause-ok
returns-clause-ok c =
    action_read (items_of c.args.target.now) (view c.args.value.now) c.in_ok-entries.entries.items c.sort_unstable_by_key.new.self.items _ c.in_ok-entries.ensures.ok c.sort_unstable_by_key.ensures.permutation
    (IsNonDecreasingBy-from_sort_by_key (λ (e : GainEntry). e.value) c.sort_unstable_by_key.new.self.items c.sort_unstable_by_key.ensures.sorted (λ a r q k. search (rules, tests)))
    (c.new.ensures ∙ c.in_ok-from_str.ensures.ok ∙ c.text.ensures ∙ ap text_of (seen_at (codes "name") (view c.args.value.now) _ c.get.ensures)) c.new-2.ensures
