use Rattle.std.proofs.Common.{refl}
use Rattle.kf_hyper.specs.Views.{inners_of}
use Rattle.kf_gain.proofs.Adding.{averaged, is_average}
use Rattle.kf_gain.proofs.widths.width.Goals as goal

pub returns-in-Bayes : goal.returns-in-Bayes
returns-in-Bayes c = rw c.in-Bayes.is (record { average = (averaged (inners_of c.args.h.now)).sum; is_average = is_average (inners_of c.args.h.now); is = refl })

pub returns-in-Tries : goal.returns-in-Tries
returns-in-Tries c = rw c.in-Tries.is (record { average = (averaged (inners_of c.args.h.now)).sum; is_average = is_average (inners_of c.args.h.now); is = refl })

pub returns-in-Table : goal.returns-in-Table
returns-in-Table c = rw c.in-Table.is (record { average = (averaged (inners_of c.args.h.now)).sum; is_average = is_average (inners_of c.args.h.now); is = c.table_width.ensures })
