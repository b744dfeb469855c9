use Rattle.std.proofs.Common.{◌≡◌, ℕ, ◌+◌, ◌<◌, List, [], ◌∷◌, ◌++◌, All, ap, drop, get_or, length, subst, sym, take, ◌∙◌, arith}
use Rattle.std.proofs.lemmas.List.{take_more}
use Rattle.std.proofs.lemmas.List.Elements.{All-append, All-cons, All-nil}
use Rattle.std.proofs.lemmas.List.Sums.{sum_by-append, sum_by_more}
use Rattle.kf_column.specs.declared.entry.Entry.{Entry}
use Rattle.kf_column.specs.Columns.{total}
use Rattle.kf_column.specs.Joint.{mass}
use Rattle.kf_column.specs.Shapes.{IsBelow}
use Rattle.kf_core.specs.Pushing.{AreBehind}
use Rattle.kf_core.specs.Ready.{IsReady}
use Rattle.kf_core.specs.Runs.{Run}
use Rattle.kf_push.specs.Meanings.{runs_between, store_count}
use Rattle.kf_silent.specs.Quiet.{hushed}
use Rattle.kf_silent.proofs.QuietBlock.{behind_more, ready_one}
use Rattle.kf_quiet.proofs.quiet.hush_all.Goals as goal

abbrev Matrix : Type 0
Matrix = List (List Entry)

pub hush_one-requires-clause-ready : goal.hush_one-requires-clause-ready
hush_one-requires-clause-ready g c =
    let m = g.P.Pusher.meaning c.args.p.now in
    let columns = c.args.columns.now.columns in
    let i = c.loop-column.column-index in
    let all : c.as_slice-column-items.result.now ≡ columns = c.as_slice-column-items.ensures ∙ c.columns.ensures.kept in
    let inside = subst (λ (cs : Matrix). i < length cs) all c.loop-column-test.true in
    let is : c.column-item.result ≡ get_or columns i c.column-item.result =
    subst (λ (cs : Matrix). c.column-item.result ≡ get_or cs i c.column-item.result) all c.column-item.is in
    subst (λ (column : List Entry). IsReady m.program.types m.turns (drop c.args.from m.program.body) (column ∷ [])) (sym is)
    (ready_one c.run_laws.ensures.block m.program.types m.turns (drop c.args.from m.program.body) columns c.are_columns.ensures.are c.requires.ready i
    c.column-item.result inside)

pub loop-column-preserved : goal.loop-column-preserved
loop-column-preserved g c =
    let m = g.P.Pusher.meaning c.args.p.now in
    let columns = c.args.columns.now.columns in
    let i = c.loop-column.column-index in
    let all : c.as_slice-column-items.result.now ≡ columns = c.as_slice-column-items.ensures ∙ c.columns.ensures.kept in
    let inside = subst (λ (cs : Matrix). i < length cs) all c.loop-column-test.true in
    let is : c.column-item.result ≡ get_or columns i c.column-item.result =
    subst (λ (cs : Matrix). c.column-item.result ≡ get_or cs i c.column-item.result) all c.column-item.is in
    let more : take (i + 1) columns ≡ take i columns ++ c.column-item.result ∷ [] =
    take_more columns i c.column-item.result inside ∙ ap (λ (d : List Entry). take i columns ++ d ∷ []) (sym is) in
    let quiet : ℕ → List Run = λ n. hushed (runs_between m c.args.from c.args.to n) in
    let before = c.loop-column.list.items in
    let erased = c.in_ok-hush_one.field-0 in
    let put : c.push.new.self.items ≡ before ++ erased ∷ [] = c.in_ok-push.ensures.items in
    let had = c.loop-column.invariant in
    let new = c.in_ok-hush_one.ensures in
    record {
      behind =
          let both = behind_more quiet (take i columns) c.column-item.result before (erased ∷ []) had.behind new.behind in
          subst (λ (front : Matrix). AreBehind quiet front c.push.new.self.items) (sym more)
          (subst (AreBehind quiet (take i columns ++ c.column-item.result ∷ [])) (sym put) both);
      below =
          subst (All (IsBelow (store_count m))) (sym put)
          (All-append (IsBelow (store_count m)) before (erased ∷ []) had.below
          (All-cons (IsBelow (store_count m)) erased [] new.below (All-nil (IsBelow (store_count m)))));
      mass =
          let sum = sum_by-append total before (erased ∷ []) in
          omega (arith, ap mass put, sum, had.mass, new.total, ap total is, sum_by_more total columns i c.column-item.result inside);
    }
