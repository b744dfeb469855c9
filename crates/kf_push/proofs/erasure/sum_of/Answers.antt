use Rattle.std.proofs.Common.{◌≡◌, ◌+◌, ◌<◌, ◌==◌, List, ◌++◌, sum_by, if◌then◌else◌, All, ap, subst, sym, ◌∙◌, arith}
use Rattle.std.proofs.lemmas.List.{take_all}
use Rattle.std.proofs.lemmas.List.Elements.{All-append}
use Rattle.std.proofs.lemmas.List.Sums.{sum_by_more, sum_by-append}
use Rattle.kf_column.specs.declared.entry.Entry.{Entry}
use Rattle.kf_column.specs.Columns.{IsColumn, weight_at, total}
use Rattle.kf_column.specs.Shapes.{IsBelow}
use Rattle.kf_column.proofs.Scaling.{total_positive}
use Rattle.kf_push.proofs.erasure.sum_of.Goals as goal

pub loop-column-preserved : goal.loop-column-preserved
loop-column-preserved c =
    let columns = c.as_slice-columns.result.now in
    let i = c.loop-column.column-index in
    let column = c.column-item-in-loop-column.result in
    let inside = c.loop-column-test.true in
    let is = c.column-item-in-loop-column.is in
    let old = c.loop-column.entries.items in
    let new = c.extend_from_slice.new.self.items in
    let had = c.loop-column.invariant in
    let made : new ≡ old ++ column = c.in_ok-extend_from_slice.ensures.items ∙ ap (λ es. old ++ es) (c.as_slice.ensures ∙ c.entries.ensures.kept) in
    let proper : IsColumn column = subst IsColumn c.entries.ensures.kept c.entries.ensures.column in
    let more : total new ≡ total old + total column = ap total made ∙ sum_by-append (λ (e : Entry). e.weight) old column in
    record {
      weights = λ x.
          omega (
            arith,
            had.weights x,
            ap (λ (es : List Entry). weight_at es x) made,
            sum_by-append (λ (e : Entry). if e.value == x then e.weight else 0) old column,
            sum_by_more (λ (d : List Entry). weight_at d x) columns i column inside,
            ap (λ (d : List Entry). weight_at d x) is,
          );
      totals = omega (arith, had.totals, more, sum_by_more total columns i column inside, ap total is);
      some = λ later. omega (arith, more, total_positive column proper);
      positive = rw made (All-append (λ (e : Entry). 0 < e.weight) old column had.positive proper.positive);
      below = λ size below.
          let here = subst (IsBelow size) (sym is) (below i column inside) in
          rw made (All-append (λ (e : Entry). e.value < size) old column (had.below size below) here);
    }

pub returns-clause-weights : goal.returns-clause-weights
returns-clause-weights c = λ x.
    let kept = c.as_slice-columns.ensures ∙ c.columns.ensures.kept in
    let all = take_all c.loop-column.column-index c.as_slice-columns.result.now c.loop-column-test.false ∙ kept in
    c.gathered.ensures.weights (λ v. v == x) ∙ c.loop-column.invariant.weights x ∙ ap (sum_by (λ (d : List Entry). weight_at d x)) all

pub returns-clause-below : goal.returns-clause-below
returns-clause-below c = λ size below.
    let kept = c.as_slice-columns.ensures ∙ c.columns.ensures.kept in
    c.gathered.ensures.below size (c.loop-column.invariant.below size (subst (All (IsBelow size)) (sym kept) below))
