use Rattle.std.proofs.Common.{List, [], map, sym, subst, length, refl, arith}
use Rattle.std.proofs.lemmas.Option.{IfSome_then, slice_get_read}
use Rattle.kf_value.specs.Kinds.{KindTree}
use Rattle.kf_core.specs.Dxs.{DxTree}
use Rattle.kf_core.specs.Views.{dx_tree, st_tree, program_tree}
use Rattle.kf_core.specs.Sts.{Observe}
use Rattle.kf_core.specs.Checked.{DistKinded, IsSound, AreSound, observe}
use Rattle.kf_core.proofs.Wider.{checked_body}
use Rattle.kf_eval.specs.Kinds.{shape_kinds}
use Rattle.kf_layer_tests.proofs.Ways.{sound_at}
use Rattle.kf_layer_tests.proofs.tests.programs.first_observed.Goals as goal

module _ (ks : List KindTree) where
  observed_dist : (d : DxTree) → IsSound ks (Observe d) → (k : KindTree) × DistKinded ks d k
  observed_dist d (observe {k = k} h) = (k, h)

pub returns : goal.returns
returns c =
    let program = c.args.program.now in
    let ks = shape_kinds program.shape in
    let items = c.as_slice.result.now in
    let sound = subst (λ ss. AreSound ks (map st_tree ss)) (sym c.as_slice.ensures) (checked_body (program_tree program) c.requires) in
    let here = slice_get_read items (length items) 0 c.first-item.result refl (omega (arith, c.in-len1-up.len_at_least)) c.first-item.is in
    let first = sound_at ks items 0 c.first-item.result sound here in
    IfSome_then c.observed_by.result c.observed_by.ensures (λ d is. observed_dist ks (dx_tree d.now) (subst (IsSound ks) is first))
