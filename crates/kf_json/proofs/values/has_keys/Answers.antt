use Rattle.std.proofs.Common.{rules, refl, is_some}
use borrow.Author.Tests.{tests}
use Rattle.std.proofs.lemmas.Bool.{eq-eqb, ne_eqb}
use Rattle.std.proofs.lemmas.Iterator.{YieldsList-from_slice}
use Rattle.serde_json.specs.View.{view}
use Rattle.serde_json.specs.Find.{get}
use Rattle.kf_json.proofs.Viewing.{all_seen, has_keys_found, has_keys_many}
use Rattle.kf_json.proofs.values.has_keys.Goals as goal

pub returns-then-len-keys : goal.returns-then-len-keys
returns-then-len-keys c = has_keys_found _ _ _ _ c.in-Some.ensures c.len.ensures.len _ (eq-eqb _ _ c.if-len-keys.true)
    (all_seen (λ k. k.now) (λ k. is_some (get k (view c.args.value.now))) _ _ _ _ _ c.all.ensures.ran (YieldsList-from_slice _ c.iter.ensures.rest) refl (λ x b q k. search (rules, tests)))

pub returns-else-len-keys : goal.returns-else-len-keys
returns-else-len-keys c = has_keys_many _ _ _ _ c.in-Some.ensures c.len.ensures.len (ne_eqb _ _ c.if-len-keys.false)
