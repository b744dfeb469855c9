use Rattle.std.proofs.Common.{rules, ◌≡◌, ◌<◌, ◌-◌, None, length, take, ◌∙◌, subst}
use Rattle.std.proofs.lemmas.List.Elements.{All-take}
use Rattle.kf_value.specs.Types.{count}
use Rattle.kf_value.specs.Sizes.{fault_of}
use Rattle.kf_value.specs.TypeViews.{item_of}
use Rattle.kf_value.proofs.Items.{item_type}
use Rattle.kf_value.proofs.LastItem.{front_and_last, front_below, last_value, left_is, last_written, none_written}
use Rattle.kf_value.proofs.prints.+write_items.Goals as goal

pub returns-in_default : goal.returns-in_default
returns-in_default t c = λ vs found. none_written c.args.items.now c.args.n vs c.args.end.now c.args.out.now.items c.in_default.len_below found

pub write_items-requires : goal.write_items-requires
write_items-requires t c =
    let items = c.args.items.now in
    let front = take (length items - 1) items in
    let is = front_and_last items c.last-item.result c.in-len1-up.len_at_least c.last-item.is in
    let size = c.from-size.ensures ∙ c.known_size.ensures.exact in
    let some = subst (λ s. 0 < s) c.known_size.ensures.exact c.known_size.ensures.some in (
      search rules,
      (
        All-take (λ i. fault_of (item_of i).ty ≡ None) (length items - 1) items c.requires.sized,
        rw size (front_below items front c.last-item.result c.args.n is some c.requires.below),
      ),
    )

pub returns : goal.returns
returns t c = λ vs found.
    let items = c.args.items.now in
    let front = take (length items - 1) items in
    let is = front_and_last items c.last-item.result c.in-len1-up.len_at_least c.last-item.is in
    let size = c.from-size.ensures ∙ c.known_size.ensures.exact in
    let some = subst (λ s. 0 < s) c.known_size.ensures.exact c.known_size.ensures.some in
    let sized = All-take (λ i. fault_of (item_of i).ty ≡ None) (length items - 1) items c.requires.sized in
    let parts = last_value items front c.last-item.result c.args.n is some c.requires.below sized vs found in
    let before = c.in_ok-write_items.ensures parts.others (rw size parts.before) in
    let written = c.in_ok-write_nth.ensures parts.value (rw (size, left_is c.args.n (count (item_type c.last-item.result))) parts.has) in
    last_written vs parts.others parts.value c.args.end.now c.args.out.now.items c.write_items.new.out.items c.write_nth.new.out.items c.extend_from_slice.new.self.items
    parts.whole before written c.in_ok-extend_from_slice.ensures.items
