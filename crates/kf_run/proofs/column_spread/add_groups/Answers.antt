use Rattle.std.proofs.Common.{◌≡◌, ◌^◌, ◌∙◌, [], ◌∷◌, ◌++◌, ap, arith, length, map, subst, sym}
use Rattle.std.specs.List.{AllByRecursion as Each, flat_map}
use Rattle.std.specs.Vec.Iter.{into_iter_items}
use Rattle.std.proofs.lemmas.List.{nil_from_length}
use Rattle.kf_run.specs.Groups.{Ascend, value_in, ways_in}
use Rattle.kf_run.specs.Ways.{along}
use Rattle.kf_run.proofs.Groups.{later_groups}
use Rattle.kf_run.proofs.Rows.{GoesOn, all_rows, first_fits, first_positive, goes_more, goes_start, some_total}
use Rattle.kf_run.proofs.column_spread.add_groups.Goals as goal

pub loop-group-init : goal.loop-group-init
loop-group-init c =
    let gives = c.into_iter-group-iterator.ensures.into_iter_gives in
    record {
      on = subst (λ gs. GoesOn (flat_map ways_in c.args.groups.items) (flat_map ways_in gs) c.args.list.now.items c.args.list.now.items) (sym gives.0)
          (goes_start (flat_map ways_in c.args.groups.items) c.args.list.now.items c.requires.positive);
      ascend = subst Ascend (sym gives.0) c.requires.ascend;
      full = subst (Each (λ g. g.entries.items ≡ [] → ⊥)) (sym gives.0) c.requires.full;
      long = gives.1 ∙ c.args.groups.ok.0 ∙ ap length (sym gives.0);
    }

pub gathered-column-requires-clause-some : goal.gathered-column-requires-clause-some
gathered-column-requires-clause-some c =
    let g = c.in-Some.group in
    let whole = flat_map ways_in c.args.groups.items in
    let rest = into_iter_items c.next.new.self in
    let on = subst (λ gs. GoesOn whole (flat_map ways_in gs) c.args.list.now.items c.loop-group.list.items) c.in-Some.ensures.steps.0 c.loop-group.invariant.on in
    let es = c.shrink_to_fit.new.self.items in
    let splits = ap (λ l. map (along (value_in g ∷ [])) l ++ flat_map ways_in rest) (sym c.shrink_to_fit.ensures.items) in
    some_total es (λ none. (subst (Each (λ h. h.entries.items ≡ [] → ⊥)) c.in-Some.ensures.steps.0 c.loop-group.invariant.full).0 (sym c.shrink_to_fit.ensures.items ∙ none))
    (first_positive whole (flat_map ways_in (g ∷ rest)) (flat_map ways_in rest) c.args.list.now.items c.loop-group.list.items on (value_in g ∷ []) es splits)

pub gathered-column-requires-clause-positive : goal.gathered-column-requires-clause-positive
gathered-column-requires-clause-positive c =
    let g = c.in-Some.group in
    let whole = flat_map ways_in c.args.groups.items in
    let rest = into_iter_items c.next.new.self in
    let on = subst (λ gs. GoesOn whole (flat_map ways_in gs) c.args.list.now.items c.loop-group.list.items) c.in-Some.ensures.steps.0 c.loop-group.invariant.on in
    let es = c.shrink_to_fit.new.self.items in
    let splits = ap (λ l. map (along (value_in g ∷ [])) l ++ flat_map ways_in rest) (sym c.shrink_to_fit.ensures.items) in
    first_positive whole (flat_map ways_in (g ∷ rest)) (flat_map ways_in rest) c.args.list.now.items c.loop-group.list.items on (value_in g ∷ []) es splits

pub gathered-column-requires-clause-fits : goal.gathered-column-requires-clause-fits
gathered-column-requires-clause-fits c =
    let g = c.in-Some.group in
    let whole = flat_map ways_in c.args.groups.items in
    let rest = into_iter_items c.next.new.self in
    let on = subst (λ gs. GoesOn whole (flat_map ways_in gs) c.args.list.now.items c.loop-group.list.items) c.in-Some.ensures.steps.0 c.loop-group.invariant.on in
    let es = c.shrink_to_fit.new.self.items in
    let splits = ap (λ l. map (along (value_in g ∷ [])) l ++ flat_map ways_in rest) (sym c.shrink_to_fit.ensures.items) in
    first_fits whole (flat_map ways_in (g ∷ rest)) (flat_map ways_in rest) c.args.list.now.items c.loop-group.list.items on (value_in g ∷ []) es splits (2 ^ 128) c.requires.fits

pub loop-group-preserved : goal.loop-group-preserved
loop-group-preserved c =
    let g = c.in-Some.group in
    let whole = flat_map ways_in c.args.groups.items in
    let rest = into_iter_items c.next.new.self in
    let on = subst (λ gs. GoesOn whole (flat_map ways_in gs) c.args.list.now.items c.loop-group.list.items) c.in-Some.ensures.steps.0 c.loop-group.invariant.on in
    let es = c.shrink_to_fit.new.self.items in
    let splits = ap (λ l. map (along (value_in g ∷ [])) l ++ flat_map ways_in rest) (sym c.shrink_to_fit.ensures.items) in
    let up = subst Ascend c.in-Some.ensures.steps.0 c.loop-group.invariant.ascend in
    record {
      on = goes_more whole (flat_map ways_in (g ∷ rest)) (flat_map ways_in rest) c.args.list.now.items c.loop-group.list.items on (value_in g ∷ []) es splits
          c.gathered-column.result c.push.new.self.items (later_groups (value_in g) rest up.0)
          c.gathered-column.ensures.weights c.gathered-column.ensures.total c.is_column.ensures c.gathered-column.ensures.below c.in_ok-push.ensures.items;
      ascend = up.1;
      full = (subst (Each (λ h. h.entries.items ≡ [] → ⊥)) c.in-Some.ensures.steps.0 c.loop-group.invariant.full).1;
      long = omega (arith, ap length c.in-Some.ensures.steps.0, c.in-Some.ensures.steps.1, c.loop-group.invariant.long);
    }

pub returns : goal.returns
returns c = λ from size column ways same shared low.
    let whole = flat_map ways_in c.args.groups.items in
    let none = nil_from_length (into_iter_items c.loop-group.group-iterator) (sym c.loop-group.invariant.long ∙ c.in-None.ensures.steps.0) in
    let on = subst (λ gs. GoesOn whole (flat_map ways_in gs) c.args.list.now.items c.loop-group.list.items) none c.loop-group.invariant.on in
    all_rows from size column ways whole c.args.list.now.items c.loop-group.list.items same on shared low
