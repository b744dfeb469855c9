use Rattle.std.proofs.Common.{◌≡◌, map}
use Rattle.std.specs.BTreeSet.{contains}
use Rattle.std.specs.Vec.Iter.{into_iter_items}
use Rattle.kf_json.specs.Rules.{are_distinct}
use Rattle.kf_json.proofs.Distinct.{fresh, text_cmp, text_eq}
use Rattle.kf_json.proofs.texts.are_distinct.Given as goal

abbrev pub invariant-loop-text : goal.invariant-loop-text
invariant-loop-text l = fresh text_eq (contains text_cmp l.seen) (into_iter_items l.text-iterator) ≡ are_distinct (map (λ t. t.now) l.fn.texts.items)
