-- For bodies: a gain table whose values are named by their texts, and the table that it stands for, action by action.
use Rattle.std.specs.Prelude.{◌≡◌, ℕ, ℤ, ◌*◌, ◌<◌, ◌≤◌, max, length, Contains, List, map, Some, true}
use Rattle.std.specs.List.{list_all}
use Rattle.kf_frac.specs.Fractions.{limit}
use Rattle.kf_json.specs.Rules.{are_distinct}
use Rattle.kf_value.specs.Numbers.{IsNumberOf}
use Rattle.kf_value.specs.Targets.{Item, target_values, target_value_text}
use Rattle.kf_gain.specs.declared.gain.GainFault.{GainFault}
use Rattle.kf_gain.specs.declared.gain.GainFault.TheVariants as fault
use Rattle.kf_gain.specs.declared.table.Action.{Action}
use Rattle.kf_gain.specs.declared.table.GainEntry.{GainEntry}
use Rattle.kf_gain.specs.Gains.{TableTree}
use Rattle.kf_gain.specs.Tables.{is_value_text, IsAction}
use Rattle.kf_gain.specs.Vulnerabilities.{greatest, gains_of}
use Rattle.kf_cert.specs.declared.cert.CertAction.{CertAction}
use Rattle.kf_cert.specs.declared.cert.CertEntry.{CertEntry}
use Rattle.kf_cert.specs.declared.mark.CheckError.{CheckError}
use Rattle.kf_cert.specs.declared.mark.CheckError.TheVariants as error
use Rattle.kf_cert.specs.Marks.{value_texts}

-- the texts of the values that gains name
abbrev pub texts_of : List CertEntry → List (List ℕ)
texts_of gains = map (λ e. e.value) gains

-- the gain at the number of the value that has the text
pub record IsEntryOf (target : List Item) (g : CertEntry) (e : GainEntry) : Type 0 where
  pub value : IsNumberOf target g.value (Some e.value)
  pub gain : e.gain ≡ g.gain

-- an action names only values of the target, and each at most once
abbrev pub NamesOnce : List Item → CertAction → Type 0
NamesOnce target named = (list_all (is_value_text target) (value_texts named) ≡ true) × (are_distinct (value_texts named) ≡ true)

-- the greatest absolute values of gains
abbrev pub greatest_named : CertAction → ℕ
greatest_named named = greatest (map (λ e. e.gain) named.gains)

abbrev pub greatest_numbered : Action → ℕ
greatest_numbered a = greatest (map (λ e. e.gain) a.gains)

-- the gains that an action names, each with the text of its value
abbrev pub named_pairs : CertAction → List (List ℕ × ℤ)
named_pairs named = map (λ e. (e.value, e.gain)) named.gains

-- an action names this value, with this gain
abbrev pub NamesGain : List Item → CertAction → GainEntry → Type 0
NamesGain target named e =
    (e.value < length (target_values target)) × ((g : CertEntry) × Contains named.gains g
    × (g.value ≡ target_value_text target e.value) × (g.gain ≡ e.gain))

-- an action by the numbers of its values, in their order
abbrev pub IsNumbered : List Item → CertAction → Action → Type 0
IsNumbered target named a = IsAction target named.name (named_pairs named) a

-- the action that is made of a named one
pub record IsMade (target : List Item) (named : CertAction) (a : Action) : Type 0 where
  pub numbered : IsNumbered target named a
  pub once : NamesOnce target named
  pub greatest : greatest_numbered a ≡ greatest_named named

-- how wide a table is
abbrev pub table_width : TableTree → ℕ
table_width t = max t.over (2 * greatest (gains_of t))

-- neither of two scales passes the limit once it is multiplied by the width
abbrev pub AreNarrow : ℕ → ℕ → TableTree → Type 0
AreNarrow scale other t = (scale * table_width t ≤ limit) × (other * table_width t ≤ limit)

-- what a fault of a vulnerability is in the check
abbrev pub BecomesFault : GainFault → CheckError → Type 0
BecomesFault fault.Wide e = e ≡ error.Wide
BecomesFault fault.Mem e = e ≡ error.Mem
