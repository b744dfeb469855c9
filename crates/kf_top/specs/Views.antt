-- For bodies: what the code's values show.
use Rattle.std.specs.Prelude.{ℕ}
use Rattle.kf_top.specs.Answer.{Shown}
use Rattle.kf_top.specs.declared.refusal.Done.{Done}
use Rattle.kf_top.specs.declared.about.AboutOne.{AboutOne}
use Rattle.kf_top.specs.declared.about.AboutOne.TheVariants as one
use Rattle.kf_top.specs.declared.about.AboutTwo.{AboutTwo}
use Rattle.kf_top.specs.declared.about.AboutTwo.TheVariants as two
use Rattle.kf_top.specs.CapacityViews.{way_of}
use Rattle.kf_words.specs.Jobs.{gain_of}
use Rattle.kf_words.specs.Task as task

abbrev pub shown : Done → Shown
shown done = record { yes = done.yes; bytes = done.bytes.items }

abbrev pub command_of : AboutOne → task.Command
command_of one.Hyper = task.Hyper
command_of one.Traces = task.Traces
command_of one.Channel = task.Channel
command_of one.Trail = task.Trail
command_of (one.Leak gain) = task.Leak (gain_of gain.now)
command_of (one.Attack gain) = task.Attack (gain_of gain.now)
command_of (one.Reach num den) = task.Reach num den
command_of one.Capacity = task.Capacity
command_of (one.Quiet from to) = task.Quiet from to
command_of one.Blame = task.Blame

abbrev pub command_on_two : AboutTwo → task.Command
command_on_two (two.Refine json) = task.Refine json
command_on_two (two.Check cert) = task.Check cert.now
command_on_two (two.Compose way) = task.Compose (way_of way)

-- how many statements a program must have at its top level, for what is asked about it
abbrev pub least_of : AboutOne → ℕ
least_of (one.Quiet from to) = to
least_of question = 0
