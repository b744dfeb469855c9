use Rattle.std.proofs.Common.{List}
use Rattle.std.proofs.lemmas.Result.{IfOk-weaker}
use Rattle.kf_column.specs.declared.entry.Entry.{Entry}
use Rattle.kf_gain.specs.Gains.{Bayes, Tries}
use Rattle.kf_attack.specs.Inners.{IsShownBest}
use Rattle.kf_attack.proofs.Taking.{once_shown}
use Rattle.kf_attack.proofs.best.attack.Goals as goal

pub returns-in-Bayes : goal.returns-in-Bayes
returns-in-Bayes c =
    let entries : List Entry = c.args.entries.now in
    rw c.in-Bayes.is (IfOk-weaker c.likeliest.result (IsShownBest (Tries 1) entries) (IsShownBest Bayes entries) (once_shown entries) c.likeliest.ensures)
