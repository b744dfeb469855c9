-- For bodies: What contracts see of the known names.
use Rattle.std.specs.Prelude.{Bool, List, map, string_bytes}
use Rattle.kf_value.specs.Views.{kind_tree}
use Rattle.kf_check.specs.declared.names.Names.{Names}
use Rattle.kf_check.specs.Kinds.{Known}

-- the variables in the order of their declarations
abbrev pub known_in : Names → List Known
known_in n = map (λ e. record { name = string_bytes e.0; kind = kind_tree e.1.kind }) n.variables.entries

-- whether each of them is visible
abbrev pub flags_in : Names → List Bool
flags_in n = map (λ e. e.1.visible) n.variables.entries
