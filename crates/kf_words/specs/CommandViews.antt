-- For bodies: what the code's values show of the arguments and of the table of commands.
use Rattle.std.specs.Prelude.{ℕ, List, [], map, Option, Some, option_map, option_and_then, Bool, false, codes, ◌∷◌, None, take}
use Rattle.std.specs.Option.{option_map_or}
use Rattle.std.specs.Str.{bytes_eq}
use Rattle.kf_gain.specs.Gains.{GainOf}
use Rattle.kf_words.specs.Arguments as spec
use Rattle.kf_words.specs.Numbers.{block_of, probability_of, threshold_of}
use Rattle.kf_words.specs.Task as task
use Rattle.kf_words.specs.OfWords as of_words
use Rattle.kf_words.specs.declared.arguments.Arguments.{Arguments}
use Rattle.kf_words.specs.declared.commands.CommandWord.{CommandWord}
use Rattle.kf_words.specs.declared.commands.CommandWord.TheVariants as word
use Rattle.kf_words.specs.declared.commands.CommandRow.{CommandRow}
use Rattle.kf_words.specs.declared.commands.OneFile.{OneFile}
use Rattle.kf_words.specs.declared.commands.Presence.{Presence}
use Rattle.kf_words.specs.declared.commands.Presence.TheVariants as presence
use Rattle.kf_words.specs.declared.commands.OneFile.TheVariants as one
use Rattle.kf_words.specs.declared.commands.TwoFiles.{TwoFiles}
use Rattle.kf_words.specs.declared.commands.TwoFiles.TheVariants as two
use Rattle.kf_words.specs.declared.commands.UnderGain.{UnderGain}
use Rattle.kf_words.specs.declared.commands.UnderGain.TheVariants as under
use Rattle.kf_words.specs.declared.commands.WithPair.{WithPair}
use Rattle.kf_words.specs.declared.commands.WithPair.TheVariants as pair
use Rattle.kf_words.specs.Arguments.{option_rule}
use Rattle.clap.specs.Words.{Row, first_of, Rule}
use Rattle.clap.specs.declared.builder.action.ArgAction.TheVariants.{SetTrue}
use Rattle.clap.specs.Kinds.{Kinds}

abbrev pub arguments_meant : Arguments → spec.Arguments
arguments_meant a = record {
  values = map (λ v. v.now) a.values.now;
  gain = option_map (λ v. v.now) a.gain;
  turns = option_map (λ v. v.now) a.turns;
  json = a.json;
}

-- how many values stand after a command's word
abbrev pub values_of : CommandWord → ℕ
values_of (word.OneFile command) = 1
values_of (word.TwoFiles command) = 2
values_of (word.UnderGain command) = 1
values_of (word.WithPair pair.Choice) = 3
values_of (word.WithPair pair.Reach) = 2
values_of (word.WithPair pair.Quiet) = 2
values_of word.Make = 1
values_of word.Refine = 2
values_of word.Check = 3

-- commands on files and nothing else
abbrev pub on_one : OneFile → task.Command
on_one one.Hyper = task.Hyper
on_one one.Traces = task.Traces
on_one one.Channel = task.Channel
on_one one.Trail = task.Trail
on_one one.Capacity = task.Capacity
on_one one.Blame = task.Blame

abbrev pub on_two : TwoFiles → task.Command
on_two two.Cascade = task.Compose task.Cascade
on_two two.Parallel = task.Compose task.Parallel
on_two two.Covers = task.Covers

-- commands under a gain
abbrev pub on_gain : UnderGain → GainOf (List ℕ) → task.Command
on_gain under.Leak g = task.Leak g
on_gain under.Attack g = task.Attack g
on_gain under.Lines g = task.Lines g

-- commands whose last value is a pair of numbers
abbrev pub pair_task : WithPair → List (List ℕ) → Option (ℕ → task.Task)
pair_task pair.Choice words =
    option_map (λ p. task.on_files (task.Compose (task.Choice p.0 p.1)) (take 2 words)) (option_and_then probability_of (of_words.last_of words))
pair_task pair.Reach words =
    option_map (λ p. task.on_files (task.Reach p.0 p.1) (take 1 words)) (option_and_then threshold_of (of_words.last_of words))
pair_task pair.Quiet words =
    option_map (λ p. task.on_files (task.Quiet p.0 p.1) (take 1 words)) (option_and_then block_of (of_words.last_of words))

-- which task a command's word asks for, by the values after it and the options
abbrev pub task_meant : CommandWord → List (List ℕ) → spec.Arguments → Option (ℕ → task.Task)
task_meant (word.OneFile command) names arguments = Some (task.on_files (on_one command) names)
task_meant (word.TwoFiles command) names arguments = Some (task.on_files (on_two command) names)
task_meant (word.UnderGain command) names arguments =
    option_map (λ g. task.on_files (on_gain command g) names) (task.gain_or_bayes arguments.gain)
task_meant (word.WithPair command) words arguments = pair_task command words
task_meant word.Make words arguments =
    option_map (λ n. task.on_files (task.Make n) []) (option_and_then task.observations_of (of_words.first_of words))
task_meant word.Refine names arguments = Some (task.on_files (task.Refine arguments.json) names)
task_meant word.Check names arguments =
    option_map (λ cert. task.on_files (task.Check cert) (of_words.others_of names)) (of_words.first_of names)

abbrev pub presence_meant : Presence → task.Presence
presence_meant presence.Absent = task.Absent
presence_meant presence.Optional = task.Optional
presence_meant presence.Required = task.Required

abbrev pub row_meant : CommandRow → task.CommandRow
row_meant row = record {
  values = row.values;
  gain = presence_meant row.gain;
  takes_json = row.takes_json;
  task = task_meant row.command;
}

-- a flag that was used reads as `true`
abbrev pub is_set : List ℕ → List Row → Bool
is_set flag rows = option_map_or (λ text. bytes_eq text (codes "true")) (first_of flag rows) false

-- a flag of this name
abbrev pub flag_rule : List ℕ → Rule
flag_rule name = record (option_rule name) { action = Some SetTrue }

-- the arguments, where the words have no fault
abbrev pub unless_faulty : Kinds → spec.Arguments → Option spec.Arguments
unless_faulty faults arguments = elim faults [ [] ↦ Some arguments | fault ∷ others ↦ None ]
