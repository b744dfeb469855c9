-- What is read of words, from what `clap` finds among them.
use Rattle.std.proofs.Common.{◌≡◌, ◌∙◌, ℕ, Bool, List, [], ◌∷◌, false, None, Some, Option, codes, refl, sym, ap, ap₂, map}
use Rattle.std.specs.Borrow.{Bor}
use Rattle.std.specs.Prelude.{option_map, unwrap_or}
use Rattle.std.specs.Option.{option_map_or, IsSomeAnd, UnwrapsOrElse}
use Rattle.std.specs.Str.{bytes_eq}
use Rattle.clap.specs.Lexer.{usize_max}
use Rattle.clap.specs.Words.{IsAmong, Row, Rule, fault_of, first_value, matches_of, new_rule, rows_of, rule_of}
use Rattle.clap.specs.Kinds.{Kinds}
use Rattle.clap.specs.declared.builder.action.ArgAction.TheVariants.{SetTrue}
use Rattle.clap.specs.declared.builder.arg.Arg.{Arg}
use Rattle.clap.specs.declared.builder.range.ValueRange.{ValueRange}
use Rattle.clap.specs.declared.error.kind.ErrorKind.{ErrorKind}
use Rattle.clap.specs.declared.parser.matches.Found.{Found}
use Rattle.clap.proofs.WalkLemmas.{first_value-rows}
use Rattle.kf_words.specs.Arguments.{command_line, arguments_of, arguments_in, words_rule, option_rule}
use Rattle.kf_words.specs.CommandViews.{flag_rule, is_set, unless_faulty}

-- a flag's first value tells whether it was used
pub is_set_by : (flag : List ℕ) (f : Found) (value : Option (List ℕ)) → value ≡ first_value f flag
    → option_map_or (λ text. bytes_eq text (codes "true")) value false ≡ is_set flag (rows_of f)
is_set_by flag f value e = ap (λ v. option_map_or (λ text. bytes_eq text (codes "true")) v false) (e ∙ first_value-rows f flag)

-- where there is no entry there are no values
pub values_or_none : (found : Option (Bor (List (Bor (List ℕ))))) (IsNone : Bor (List (Bor (List ℕ))) → Type 0) (values : Bor (List (Bor (List ℕ)))) → UnwrapsOrElse found IsNone values
    → ((none : Bor (List (Bor (List ℕ)))) → IsNone none → none.now ≡ []) → map (λ v. v.now) values.now ≡ unwrap_or (option_map (λ s. map (λ v. v.now) s.now) found) []
values_or_none None IsNone values is none = ap (map (λ v. v.now)) (none values is)
values_or_none (Some s) IsNone values is none = ap (λ (x : Bor (List (Bor (List ℕ)))). map (λ v. v.now) x.now) is

-- ---- the command line

abbrev any_number : ValueRange
any_number = record { start_inclusive = 0; end_inclusive = usize_max }

the_range : (range : Option ValueRange) → IsSomeAnd range (λ r. r ≡ any_number) → range ≡ Some any_number
the_range (Some r) is = ap Some is
the_range None is = absurd is

-- the argument of the words may have any number of them
pub words_are : (a b : Arg) → rule_of a ≡ new_rule (codes "words") → b ≡ record a { num_vals = b.num_vals } → IsSomeAnd b.num_vals (λ r. r ≡ any_number) → rule_of b ≡ words_rule
words_are a b rule is range = ap rule_of is ∙ ap₂ (λ (r : Rule) (n : Option ValueRange). record r { range = n }) rule (the_range b.num_vals range)

-- an argument with a long name is an option, and a flag where it is set by its name alone
pub option_is : (a b : Arg) (name : Bor (List ℕ)) → rule_of a ≡ new_rule name.now → b ≡ record a { long = Some name } → rule_of b ≡ option_rule name.now
option_is a b name rule is = ap rule_of is ∙ ap (λ (r : Rule). record r { long = Some name.now }) rule

pub flag_is : (a b : Arg) (name : List ℕ) → rule_of a ≡ option_rule name → b ≡ record a { action = Some SetTrue } → rule_of b ≡ flag_rule name
flag_is a b name rule is = ap rule_of is ∙ ap (λ (r : Rule). record r { action = Some SetTrue }) rule

abbrev pub is_global : Arg → Bool
is_global a = a.global

-- ---- whole lists of words

module _ (words : List (List ℕ)) where
  pub taken : (rows : List Row) → fault_of command_line words ≡ [] → rows ≡ matches_of command_line words → arguments_of words ≡ Some (arguments_in rows)
  unfolding arguments_of
  taken rows none is = ap₂ unless_faulty none (ap arguments_in (sym is))

  pub refused : (k : ErrorKind) → IsAmong k (fault_of command_line words) → arguments_of words ≡ None
  unfolding arguments_of
  refused k among = some_fault (fault_of command_line words) among
    where
      some_fault : (kinds : Kinds) → IsAmong k kinds → unless_faulty kinds (arguments_in (matches_of command_line words)) ≡ None
      some_fault [] among = absurd among
      some_fault (kind ∷ kinds) among = refl
