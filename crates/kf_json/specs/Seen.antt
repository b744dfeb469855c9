-- For bodies: what a look-up into a JSON value found.
use Rattle.std.specs.Prelude.{Option, unwrap_or, option_map}
use denote.Ref.{Bor}
use Rattle.serde_json.specs.Data.{Data, null}
use Rattle.serde_json.specs.View.{view}
use Rattle.serde_json.specs.declared.value.Value.{Value}

-- what was found; `null` where nothing was
abbrev pub seen : Option (Bor Value) → Data
seen found = unwrap_or (option_map (λ v. view v.now) found) null
