-- For bodies: what the parser builds, as what is kept of expressions.
use Rattle.std.specs.Prelude.{List, Vec, map}
use Rattle.std.specs.Option.{option_map}
use Rattle.std.specs.declared.alloc.Global.{Global}
use Rattle.kf_ast.specs.Views.{expr_tree}
use Rattle.kf_parse.specs.declared.kept.Built.{Built}
use Rattle.kf_parse.specs.declared.kept.BuiltList.{BuiltList}
use Rattle.kf_parse.specs.declared.kept.Trimmed.{Trimmed}
use Rattle.kf_parse.specs.Trimmed as t
use Rattle.kf_parse.specs.Trimmed.{Cut, Cuts}

abbrev pub cut_of : Built → Cut
cut_of b = record { nodes = b.nodes; at = b.at; kept = option_map expr_tree b.expr }

abbrev pub cuts_of : BuiltList → Cuts
cuts_of b = record { nodes = b.nodes; kept = option_map (λ v. map expr_tree v.items) b.items }

-- what holds expressions, by the view of what it is
abbrev pub trimmed_of : {X A : Type 0} → (X → A) → Trimmed X → t.Trimmed A
trimmed_of view x = record { value = view x.value; long = x.long }

-- a list by the view of each
abbrev pub all_of : {X A : Type 0} → (X → A) → Vec X Global → List A
all_of view v = map view v.items
