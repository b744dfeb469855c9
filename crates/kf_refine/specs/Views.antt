-- For bodies: what contracts see of hypers, matrices and verdicts.
use Rattle.std.specs.Prelude.{ℕ, List, [], map, slice_index_or}
use Rattle.kf_frac.specs.Views.{num_of, den_of}
use Rattle.kf_frac.specs.declared.frac.Frac.{Frac}
use Rattle.kf_value.specs.Numbers.{target_size}
use Rattle.kf_column.specs.Shapes.{IsShape}
use Rattle.kf_hyper.specs.Views.{inners_of, scale_of, target_of}
use Rattle.kf_hyper.specs.declared.hyper.Hyper.{Hyper}
use Rattle.kf_gain.specs.declared.table.Action.{Action}
use Rattle.kf_gain.specs.Views.{table_tree}
use Rattle.kf_refine.specs.declared.verdict.Matrix.{Matrix}
use Rattle.kf_refine.specs.declared.verdict.Verdict.{Verdict}
use Rattle.kf_refine.specs.declared.verdict.Verdict.TheVariants as verdict
use Rattle.kf_refine.specs.Refinements.{HyperTree, Fraction}
use Rattle.kf_refine.specs.Verdicts.{VerdictTree, Yes, No}

-- the j-th action, from 0
abbrev pub action_at : List Action → ℕ → Action
action_at actions j = slice_index_or actions j (record { name = []; gains = [] })

abbrev pub hyper_tree : Hyper → HyperTree
hyper_tree h = record { target = target_of h; scale = scale_of h; inners = inners_of h }

-- what every hyper keeps
abbrev pub IsProper : HyperTree → Type 0
IsProper h = IsShape (target_size h.target) h.scale h.inners

abbrev pub fraction_of : Frac → Fraction
fraction_of f = record { num = num_of f; den = den_of f }

abbrev pub matrix_tree : Matrix → List (List Fraction)
matrix_tree m = map (λ row. map fraction_of row) m.rows

abbrev pub verdict_tree : Verdict → VerdictTree
verdict_tree (verdict.Yes m) = Yes (matrix_tree m)
verdict_tree (verdict.No t) = No (table_tree t)
