-- For bodies: what the steps of reading a gain table give.
use Rattle.std.specs.Prelude.{◌≡◌, ◌↔◌, List, map, Contains, true, Option, Some, Result, Err, IsOkAnd, MatchOption}
use Rattle.std.specs.List.Sorted.{IsStrictlyIncreasing}
use Rattle.serde_json.specs.Data.{Data}
use Rattle.kf_value.specs.Targets.{Item}
use Rattle.kf_value.specs.Numbers.{IsNumberOf}
use Rattle.kf_gain.specs.declared.table.GainEntry.{GainEntry}
use Rattle.kf_gain.specs.declared.table.Action.{Action}
use Rattle.kf_json.specs.Rules.{are_distinct}
use Rattle.kf_gain.specs.Tables.{name_at, named, value_texts, Names, IsAction, IsTableOf}
use Rattle.kf_gain.specs.declared.error.TableError.{TableError}
use Rattle.kf_gain.specs.Gains.{TableTree}
use Rattle.kf_json.specs.Json.{at_place, text_of, whole_of}

-- the entry of a gain: the number of its value, and the gain
pub record IsEntry (items : List Item) (g : Data) (e : GainEntry) : Type 0 where
  pub value : IsNumberOf items (text_of (at_place 0 g)) (Some e.value)
  pub gain : e.gain ≡ whole_of (at_place 1 g)

-- an action as it is read: its entries have exactly the gains that it names, and they ascend where it names no value twice
pub record IsRead (items : List Item) (action : Data) (a : Action) : Type 0 where
  pub name : a.name ≡ text_of (name_at action)
  pub gains : (e : GainEntry) → Contains a.gains e ↔ Names items (named action) e
  pub ascending : are_distinct (value_texts action) ≡ true → IsStrictlyIncreasing (map (λ e. e.value) a.gains)

-- an action: its name, and exactly the gains that it names, in the order of their values
abbrev pub IsActionIn : List Item → Data → Action → Type 0
IsActionIn items action a = IsAction items (text_of (name_at action)) (named action) a

-- the answer for a JSON value: the first rule that it breaks, or its table
abbrev pub IsAnswerFor : List Item → Data → Option TableError → Result TableTree TableError → Type 0
IsAnswerFor items d fault r = MatchOption fault (IsOkAnd r (IsTableOf items d)) (λ e. r ≡ Err e)
