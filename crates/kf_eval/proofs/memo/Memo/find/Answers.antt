use Rattle.std.proofs.Common.{rules, ◌≡◌, ◌<◌, ap, ◌∙◌, refl, ◌++◌, ◌∷◌, [], slice_get, set, length, arith}
use Rattle.kf_value.specs.Shapes.{shape_sizes}
use Rattle.kf_value.specs.Views.{value_tree}
use Rattle.kf_core.specs.Views.{dx_shape, dx_tree}
use Rattle.kf_eval.specs.Memos.{number_in}
use Rattle.kf_eval.specs.Reads.{span}
use Rattle.kf_eval.proofs.Chosen.{first_set, surely_chosen}
use Rattle.kf_eval.proofs.Remembering.{kept_at, kept_within, number_within, pushed_last, remembers, some_places}
use Rattle.kf_eval.proofs.memo.Memo.find.Goals as goal

pub chosen_in-requires-clause-kinded : goal.chosen_in-requires-clause-kinded
chosen_in-requires-clause-kinded c = c.requires.kinded

pub chosen_in-requires-2-clause-kinded : goal.chosen_in-requires-2-clause-kinded
chosen_in-requires-2-clause-kinded c = c.requires.kinded

pub number_at-number-requires-clause-within : goal.number_at-number-requires-clause-within
number_at-number-requires-clause-within c = rw c.deref.ensures.value c.requires.memo.within

pub returns-then-known-gt0-clause-memo : goal.returns-then-known-gt0-clause-memo
returns-then-known-gt0-clause-memo c = c.requires.memo

pub returns-then-is_empty-clause-found : goal.returns-then-is_empty-clause-found
returns-then-is_empty-clause-found c =
    record {
      choice = c.in_ok-choice.choice;
      there = ap (λ items. slice_get items 0) (c.in_ok-push.ensures.items ∙ ap (λ items. items ++ c.in_ok-choice.choice ∷ []) c.clear.ensures.items);
      chosen = c.in_ok-choice.ensures.choice;
    }

pub returns-then-known-gt0-clause-found : goal.returns-then-known-gt0-clause-found
returns-then-known-gt0-clause-found c =
    let memo = c.args.self.now in
    let number = c.number_at-number in
    let is : number.result ≡ number_in c.args.shape.now memo.slots.items c.args.store = rw c.deref.ensures.value at number.ensures.number in
    let below : number.result < span (shape_sizes c.args.shape.now) memo.slots.items = rw c.deref.ensures.value at number.ensures.below in
    let some : 0 < length memo.places.items = omega (arith, some_places memo.places.len c.is_empty.result c.is_empty.ensures c.if-is_empty.false, memo.places.ok.0) in
    let within = number_within c.args.shape.now (dx_tree c.args.dist.now) memo c.requires.memo c.args.store number.result is some below in
    kept_at c.args.shape.now (dx_tree c.args.dist.now) memo c.requires.memo c.args.store number.result is c.requires.store within c.index-known.result.now c.index-known.ensures
    c.if-known-gt0.true

pub returns-then-known-gt0-clause-within : goal.returns-then-known-gt0-clause-within
returns-then-known-gt0-clause-within c =
    let memo = c.args.self.now in
    let number = c.number_at-number in
    let is : number.result ≡ number_in c.args.shape.now memo.slots.items c.args.store = rw c.deref.ensures.value at number.ensures.number in
    let below : number.result < span (shape_sizes c.args.shape.now) memo.slots.items = rw c.deref.ensures.value at number.ensures.below in
    let some : 0 < length memo.places.items = omega (arith, some_places memo.places.len c.is_empty.result c.is_empty.ensures c.if-is_empty.false, memo.places.ok.0) in
    let within = number_within c.args.shape.now (dx_tree c.args.dist.now) memo c.requires.memo c.args.store number.result is some below in
    kept_within c.args.shape.now (dx_tree c.args.dist.now) memo c.requires.memo c.args.store number.result is c.requires.store within c.index-known.result.now c.index-known.ensures
    c.if-known-gt0.true

pub returns-clause-memo : goal.returns-clause-memo
returns-clause-memo c =
    let memo = c.args.self.now in
    let number = c.number_at-number in
    let is : number.result ≡ number_in c.args.shape.now memo.slots.items c.args.store = rw c.deref.ensures.value at number.ensures.number in
    let below : number.result < span (shape_sizes c.args.shape.now) memo.slots.items = rw c.deref.ensures.value at number.ensures.below in
    let some : 0 < length memo.places.items = omega (arith, some_places memo.places.len c.is_empty.result c.is_empty.ensures c.if-is_empty.false, memo.places.ok.0) in
    let within = number_within c.args.shape.now (dx_tree c.args.dist.now) memo c.requires.memo c.args.store number.result is some below in
    remembers c.store_laws.ensures.at_digits c.store_laws.ensures.digits_fit c.args.shape.now (dx_tree c.args.dist.now) memo _ c.requires.memo c.args.store c.requires.store
    c.in_ok-choice-2.choice c.in_ok-choice-2.ensures.choice refl c.in_ok-push-2.ensures.items (rw is at within)
    (ap (λ n. set memo.places.items n c.len.result) is
    ∙ ap (set memo.places.items (number_in c.args.shape.now memo.slots.items c.args.store)) (c.len.ensures ∙ c.push-2.new.self.ok.0))

pub returns-clause-found : goal.returns-clause-found
returns-clause-found c =
    record {
      choice = c.in_ok-choice-2.choice;
      there = pushed_last c.args.self.now.choices.items c.push-2.new.self.items c.in_ok-choice-2.choice c.len-2.result c.in_ok-push-2.ensures.items (c.len-2.ensures ∙ c.push-2.new.self.ok.0);
      chosen = c.in_ok-choice-2.ensures.choice;
    }

pub returns-then-not-is_empty-clause-found : goal.returns-then-not-is_empty-clause-found
returns-then-not-is_empty-clause-found c =
    let cs = c.args.self.now.choices in
    let some : 0 < length cs.items = omega (arith, some_places cs.len c.is_empty-in-Some.result c.is_empty-in-Some.ensures (search rules), cs.ok.0) in
    let dist = c.args.dist.now in
    record {
      choice = c.become_sure.new.self;
      there = first_set cs.items c.become_sure.new.self some;
      chosen = surely_chosen c.args.shape.now dist.at (dx_shape dist.node) c.args.store c.become_sure.new.self (value_tree c.in-Some.value) c.in_ok-become_sure.ensures.items
          c.requires.store c.in-Some.ensures.chosen c.in_ok-become_sure.ensures.total c.in-Some.ensures.kind c.requires.kinded;
    }
