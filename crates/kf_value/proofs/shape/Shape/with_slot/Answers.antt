use Rattle.std.proofs.Common.{◌≡◌, sym, subst}
use Rattle.kf_value.specs.Sizes.{HasNumber}
use Rattle.kf_value.specs.TypeViews.{type_tree}
use Rattle.kf_value.specs.Shapes.{shape_types}
use Rattle.kf_value.specs.Views.{type_items, value_tree}
use Rattle.kf_value.proofs.Digits.{sized_at, size_at, store_changed}
use Rattle.kf_value.proofs.Replacing.{variable_type}
use Rattle.kf_value.proofs.shape.Shape.with_slot.Goals as goal

pub number-requires-clause-sized : goal.number-requires-clause-sized
number-requires-clause-sized c =
    let at = variable_type c.as_slice.result.now (type_items c.args.self.now.types) c.args.i c.index-as_slice-i.result c.as_slice.ensures c.requires.variable c.index-as_slice-i.is in
    sized_at (shape_types c.args.self.now) c.args.i (type_tree c.index-as_slice-i.result) c.args.self.now.sized at

pub with_digit-requires-clause-digit : goal.with_digit-requires-clause-digit
with_digit-requires-clause-digit c =
    let at = variable_type c.as_slice.result.now (type_items c.args.self.now.types) c.args.i c.index-as_slice-i.result c.as_slice.ensures c.requires.variable c.index-as_slice-i.is in
    rw (size_at (shape_types c.args.self.now) c.args.i (type_tree c.index-as_slice-i.result) at) c.in-Some.ensures.below

pub returns-in_default-clause-out_of_range : goal.returns-in_default-clause-out_of_range
returns-in_default-clause-out_of_range c = λ t found.
    let at = variable_type c.as_slice.result.now (type_items c.args.self.now.types) c.args.i c.index-as_slice-i.result c.as_slice.ensures c.requires.variable c.index-as_slice-i.is in
    let same : type_tree c.index-as_slice-i.result ≡ t = cc (at, found) in
    λ n has. c.in_default.ensures.place n (subst (λ u. HasNumber u (value_tree c.args.v.now) n) (sym same) has)

pub returns-clause-changed : goal.returns-clause-changed
returns-clause-changed c =
    let at = variable_type c.as_slice.result.now (type_items c.args.self.now.types) c.args.i c.index-as_slice-i.result c.as_slice.ensures c.requires.variable c.index-as_slice-i.is in
    store_changed (shape_types c.args.self.now) c.args.store c.with_digit.result c.args.i c.in-Some.n (type_tree c.index-as_slice-i.result) (value_tree c.args.v.now)
    at c.in-Some.ensures.place c.with_digit.ensures.below c.with_digit.ensures.digits

pub returns-clause-digits : goal.returns-clause-digits
returns-clause-digits c = λ t found.
    let at = variable_type c.as_slice.result.now (type_items c.args.self.now.types) c.args.i c.index-as_slice-i.result c.as_slice.ensures c.requires.variable c.index-as_slice-i.is in
    let same : type_tree c.index-as_slice-i.result ≡ t = cc (at, found) in
    (c.in-Some.n, subst (λ u. HasNumber u (value_tree c.args.v.now) c.in-Some.n) same c.in-Some.ensures.place, c.with_digit.ensures.digits)
