use Rattle.std.proofs.Common.{rules, refl}
use borrow.Author.Tests.{tests}
use Rattle.std.proofs.lemmas.Iterator.{YieldsList-from_slice}
use Rattle.kf_json.proofs.Viewing.{all_seen}
use Rattle.kf_cert.specs.Order as order
use Rattle.kf_cert.specs.Views.{entry_tree}
use Rattle.kf_cert.proofs.places.are_inside.Goals as goal

pub returns : goal.returns
returns c =
    all_seen entry_tree (order.is_inside c.args.rows c.args.columns) _ _ _ _ _ c.all.ensures.ran (YieldsList-from_slice _ c.iter.ensures.rest) refl
    (λ x b q k. search (rules, tests))
