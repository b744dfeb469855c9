-- Believed: the arguments that a list of words has, by the definition that `clap` gives of this program's command line.
use Rattle.std.specs.Prelude.{ℕ, List, [], ◌∷◌, Bool, false, Option, None, Some, codes, unwrap_or}
use Rattle.std.specs.Option.{option_map_or}
use Rattle.std.specs.Str.{bytes_eq}
use Rattle.clap.specs.Lexer.{usize_max}
use Rattle.clap.specs.Words.{App, Row, Rule, all_of, fault_of, first_of, matches_of, new_app, new_rule, with_rule}
use Rattle.clap.specs.declared.builder.action.ArgAction.TheVariants.{SetTrue}

-- the words that are neither options nor their values, any number of them
abbrev pub words_rule : Rule
words_rule = record (new_rule (codes "words")) { range = Some (record { start_inclusive = 0; end_inclusive = usize_max }) }

-- an option of this name, with its value
abbrev pub option_rule : List ℕ → Rule
option_rule name = record (new_rule name) { long = Some name }

-- this program's command line: words, `--gain VALUE`, `--turns VALUE` and `--json`
abbrev pub command_line : App
command_line =
    with_rule (with_rule (with_rule (with_rule (new_app (codes "kuifje")) words_rule)
    (option_rule (codes "gain"))) (option_rule (codes "turns"))) (record (option_rule (codes "json")) { action = Some SetTrue })

-- the arguments: the values, which are neither options nor their values, and the options
pub record Arguments : Type 0 where
  pub values : List (List ℕ)
  pub gain : Option (List ℕ)
  pub turns : Option (List ℕ)
  pub json : Bool

-- the arguments, from what `clap` found for each of its rules; a flag that was used reads as `true`
abbrev pub arguments_in : List Row → Arguments
arguments_in rows = record {
  values = unwrap_or (all_of (codes "words") rows) [];
  gain = first_of (codes "gain") rows;
  turns = first_of (codes "turns") rows;
  json = option_map_or (λ text. bytes_eq text (codes "true")) (first_of (codes "json") rows) false;
}

-- the arguments of a list of words, where these have no fault; the first of them, the program's name, isn't looked at
unfoldable pub arguments_of : List (List ℕ) → Option Arguments
arguments_of words =
    elim (fault_of command_line words) [ [] ↦ Some (arguments_in (matches_of command_line words)) | fault ∷ faults ↦ None ]
