-- For bodies: the rules of gain tables one by one.
use Rattle.std.specs.Prelude.{◌&&◌, ◌==◌, pos, int_le, ℕ, List, [], ◌∷◌, map, length, Bool, not, Option, None, codes}
use Rattle.std.specs.List.{list_all}
use Rattle.serde_json.specs.Data.{Data}
use Rattle.kf_value.specs.Targets.{Item}
use Rattle.kf_gain.specs.Tables.{over_at, rest_at, actions_at, name_at, gains_at, value_texts, is_action, is_gain, is_value_text, form_rules, value_rules}
use Rattle.kf_gain.specs.declared.error.TableError.{TableError}
use Rattle.kf_json.specs.Rules.{is_name, are_distinct, first_broken}
use Rattle.kf_json.specs.Json.{has_keys, at_key, is_list, members, is_the_text, is_whole, text_of, whole_of}

-- Form 1: an object with exactly these keys
abbrev pub form_1 : Data → Bool
form_1 d = has_keys (codes "actions" ∷ codes "format" ∷ codes "over" ∷ codes "rest" ∷ []) d

-- Form 2: the format is this one
abbrev pub form_2 : Data → Bool
form_2 d = is_the_text (codes "kuifje-gain-1") (at_key (codes "format") d)

-- Form 3: `over` and `rest` are whole numbers, and `over` is at least 1
abbrev pub form_3 : Data → Bool
form_3 d = is_whole (over_at d) && is_whole (rest_at d) && int_le (pos 1) (whole_of (over_at d))

-- Form 4: the actions are a list of such
abbrev pub form_4 : Data → Bool
form_4 d = is_list (actions_at d) && list_all is_action (members (actions_at d))

-- Form 5: each action's name is a name
abbrev pub form_5 : Data → Bool
form_5 d = list_all (λ a. is_name (name_at a)) (members (actions_at d))

-- a list of such
abbrev pub are_gains : Data → Bool
are_gains gs = is_list gs && list_all is_gain (members gs)

-- Form 6: each action's gains are gains
abbrev pub form_6 : Data → Bool
form_6 d = list_all (λ a. are_gains (gains_at a)) (members (actions_at d))

-- Empty is broken where there is no action
abbrev pub some_action : Data → Bool
some_action d = not (length (members (actions_at d)) == 0)

-- Unknown is broken where some text is none of these
abbrev pub all_known : List Item → Data → Bool
all_known items d = list_all (λ a. list_all (is_value_text items) (value_texts a)) (members (actions_at d))

-- the names of all actions
abbrev pub action_names : Data → List (List ℕ)
action_names d = map (λ a. text_of (name_at a)) (members (actions_at d))

-- Twice is broken where an action names a value twice, or two actions have one name; a value has one text
abbrev pub all_once : Data → Bool
all_once d = list_all (λ a. are_distinct (value_texts a)) (members (actions_at d)) && are_distinct (action_names d)

-- the first rule that a value breaks, those on the file alone before those on the values that it names
abbrev pub fault_in : List Item → Data → Option TableError
fault_in items d = first_broken (form_rules d) (first_broken (value_rules items d) None)
