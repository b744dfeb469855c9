-- Believed: gain tables as JSON files: which bytes are one, what it says, and the first rule that other bytes break.
use Rattle.std.specs.Prelude.{◌≡◌, ℕ, ◌<◌, ◌↔◌, ◌&&◌, ◌==◌, nat_le, ℤ, pos, int_le, unsigned_abs, List, [], ◌∷◌, map, length, Contains, Bool, not, None, Some, Result, Err, IsOkAnd, MatchOption, codes, bytes_eq}
use Rattle.std.specs.List.{AllZip, list_all, list_any}
use Rattle.std.specs.List.Sorted.{IsStrictlyIncreasing}
use Rattle.serde_json.specs.Data.{Data}
use Rattle.kf_value.specs.Targets.{Item, target_values, target_value_text, shown}
use Rattle.kf_gain.specs.declared.table.Action.{Action}
use Rattle.kf_gain.specs.declared.table.GainEntry.{GainEntry}
use Rattle.kf_gain.specs.declared.error.TableError.{TableError}
use Rattle.kf_gain.specs.declared.error.TableError.TheVariants as broken
use Rattle.kf_gain.specs.Gains.{TableTree}
use Rattle.kf_json.specs.Rules.{is_name, are_distinct, first_broken}
use Rattle.kf_json.specs.Json.{json_of, has_keys, at_key, is_list, members, at_place, is_text, text_of, is_the_text, is_whole, whole_of}

-- ---- what stands where in a table

abbrev pub over_at : Data → Data
over_at d = at_key (codes "over") d

abbrev pub rest_at : Data → Data
rest_at d = at_key (codes "rest") d

abbrev pub actions_at : Data → Data
actions_at d = at_key (codes "actions") d

abbrev pub name_at : Data → Data
name_at action = at_key (codes "name") action

abbrev pub gains_at : Data → Data
gains_at action = at_key (codes "gains") action

-- an action's gains, each with the text of its value
abbrev pub named : Data → List (List ℕ × ℤ)
named action = map (λ g. (text_of (at_place 0 g), whole_of (at_place 1 g))) (members (gains_at action))

-- the texts of the values that an action names
abbrev pub value_texts : Data → List (List ℕ)
value_texts action = map (λ g. text_of (at_place 0 g)) (members (gains_at action))

-- ---- what stands in a table

-- an object with exactly these keys
abbrev pub is_action : Data → Bool
is_action a = has_keys (codes "gains" ∷ codes "name" ∷ []) a

-- a list of a text and a whole number
abbrev pub is_gain : Data → Bool
is_gain g = is_list g && (length (members g) == 2) && is_text (at_place 0 g) && is_whole (at_place 1 g)

-- at most 1,000,000,000 in absolute value
abbrev pub is_narrow : ℤ → Bool
is_narrow z = nat_le (unsigned_abs z) 1000000000

-- no number of a table is wider
abbrev pub narrow : Data → Bool
narrow d = is_narrow (whole_of (over_at d)) && is_narrow (whole_of (rest_at d))
    && list_all (λ a. list_all (λ g. is_narrow (whole_of (at_place 1 g))) (members (gains_at a))) (members (actions_at d))

-- some value of the target prints as this text
abbrev pub is_value_text : List Item → List ℕ → Bool
is_value_text items bytes = list_any (λ vs. bytes_eq (shown vs) bytes) (target_values items)

-- ---- the rules in their order, each over the whole value with the answer where it is broken; a later one presupposes those before it

-- those on the file alone: an object with exactly these keys; its format; `over` and `rest`, of which `over` is at least 1; a list of
-- actions; their names; a list of gains in each; no number is too wide; there is an action
abbrev pub form_rules : Data → List (Bool × TableError)
form_rules d =
    (has_keys (codes "actions" ∷ codes "format" ∷ codes "over" ∷ codes "rest" ∷ []) d, broken.Form 1)
    ∷ (is_the_text (codes "kuifje-gain-1") (at_key (codes "format") d), broken.Form 2)
    ∷ (is_whole (over_at d) && is_whole (rest_at d) && int_le (pos 1) (whole_of (over_at d)), broken.Form 3)
    ∷ (is_list (actions_at d) && list_all is_action (members (actions_at d)), broken.Form 4)
    ∷ (list_all (λ a. is_name (name_at a)) (members (actions_at d)), broken.Form 5)
    ∷ (list_all (λ a. is_list (gains_at a) && list_all is_gain (members (gains_at a))) (members (actions_at d)), broken.Form 6)
    ∷ (narrow d, broken.Wide) ∷ (not (length (members (actions_at d)) == 0), broken.Empty) ∷ []

-- those on the values that it names: each text is one of a value's; no action names a value twice, and no two actions have one name; a
-- value has one text
abbrev pub value_rules : List Item → Data → List (Bool × TableError)
value_rules items d =
    let names = map (λ a. text_of (name_at a)) (members (actions_at d)) in
    (list_all (λ a. list_all (is_value_text items) (value_texts a)) (members (actions_at d)), broken.Unknown)
    ∷ (list_all (λ a. are_distinct (value_texts a)) (members (actions_at d)) && are_distinct names, broken.Twice) ∷ []

-- ---- what a table says

-- a value of the target, whose text has this gain among these, each with the text of its value
abbrev pub Names : List Item → List (List ℕ × ℤ) → GainEntry → Type 0
Names items gains e = (e.value < length (target_values items)) × Contains gains (target_value_text items e.value, e.gain)

-- an action of this name, with exactly these gains, in the order of their values
pub record IsAction (items : List Item) (called : List ℕ) (named : List (List ℕ × ℤ)) (a : Action) : Type 0 where
  pub name : a.name ≡ called
  pub ascending : IsStrictlyIncreasing (map (λ e. e.value) a.gains)
  pub gains : (e : GainEntry) → Contains a.gains e ↔ Names items named e

-- a table: its numbers, and all actions in the file's order
pub record IsTableOf (items : List Item) (d : Data) (t : TableTree) : Type 0 where
  pub over : pos t.over ≡ whole_of (over_at d)
  pub rest : t.rest ≡ whole_of (rest_at d)
  pub actions : AllZip (λ a. IsAction items (text_of (name_at a)) (named a)) (members (actions_at d)) t.actions

-- the answer for a file's bytes, read for a target of these items: the first rule that their value breaks, or its table
abbrev pub IsTable : List Item → List ℕ → Result TableTree TableError → Type 0
IsTable items bytes r = elim (json_of bytes) [
  | None ↦ r ≡ Err broken.Json
  | Some d ↦
      let broken_rule = first_broken (form_rules d) (first_broken (value_rules items d) None) in
      MatchOption broken_rule (IsOkAnd r (IsTableOf items d)) (λ e. r ≡ Err e)
]
