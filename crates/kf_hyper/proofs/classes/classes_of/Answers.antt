use Rattle.std.proofs.Common.{rules, arith}
use Rattle.std.proofs.lemmas.List.MinMax.{ranks_by}
use Rattle.std.proofs.lemmas.List.Sorted.{answers_always}
use Rattle.kf_hyper.specs.declared.class.Class.{Class}
use Rattle.kf_column.proofs.Gathering.{list_total}
use Rattle.kf_hyper.proofs.Joining.{before, classes_permuted, totals_sum}
use Rattle.kf_hyper.proofs.classes.classes_of.Goals as goal

pub join_equals-requires : goal.join_equals-requires
join_equals-requires c =
    let sorted = c.sort_unstable_by.new.self.items in
    let are = classes_permuted c.args.columns.items c.in_ok-classes.classes.items sorted c.sort_unstable_by.ensures.permutation c.in_ok-classes.ensures in
    record {
      fits = omega (arith, totals_sum c.args.columns.items sorted are, c.requires.fits);
      sorted = c.sort_unstable_by.ensures.sorted before (ranks_by list_total (λ (a : Class). a.inner)) (answers_always _ _ _ (λ f a r g called. search rules));
    }

pub returns-clause-classes : goal.returns-clause-classes
returns-clause-classes c =
    c.join_equals.ensures.kept c.args.columns.items
    (classes_permuted c.args.columns.items c.in_ok-classes.classes.items c.sort_unstable_by.new.self.items c.sort_unstable_by.ensures.permutation c.in_ok-classes.ensures)
