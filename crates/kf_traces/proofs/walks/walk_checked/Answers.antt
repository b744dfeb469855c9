use Rattle.std.proofs.Common.{◌≡◌, List, [], ap, ◌∙◌, subst, map, arith}
use Rattle.std.specs.Prelude.{IfOk}
use Rattle.kf_core.specs.Views.{program_tree}
use Rattle.kf_core.proofs.SoundParts.{decl_kinded, whole_sound}
use Rattle.kf_traces.specs.Traced.{Traced, copy_all, program_traced}
use Rattle.kf_traces.specs.Views.{traced_of}
use Rattle.kf_traces.proofs.WalkingPrograms as programs
use Rattle.kf_traces.proofs.walks.walk_checked.Goals as goal

pub loop-i-init : goal.loop-i-init
loop-i-init c = programs.decls_start c.args.program.now c.args.turns c.args.scale (traced_of c.in_ok-state.state) c.in_ok-state.ensures c.requires.narrow

pub assigned-requires : goal.assigned-requires
assigned-requires c = record {
  variable = programs.decl_within c.args.program.now c.requires.checked c.as_slice-decls.result.now c.loop-i.i c.as_slice-decls.ensures (omega arith);
  kinded = decl_kinded c.args.program.now c.requires.checked c.as_slice-decls.result.now c.loop-i.i c.index-decls-i.result c.as_slice-decls.ensures (omega arith) c.index-decls-i.is;
  memo = c.in_ok-memo.ensures;
  fits = c.loop-i.invariant.fits;
}

pub loop-i-preserved : goal.loop-i-preserved
loop-i-preserved c =
    programs.decl_done c.args.program.now c.args.turns (program_traced c.args.turns c.args.scale (program_tree c.args.program.now)) c.loop-i.i (traced_of c.loop-i.state) c.loop-i.invariant c.as_slice-decls.result.now c.index-decls-i.result c.as_slice-decls.ensures (omega arith) c.index-decls-i.is
    (traced_of c.in_ok-state-2.state) c.in_ok-state-2.ensures.assigned c.in_ok-state-2.ensures.fits

pub walk_all-requires-clause-sound : goal.walk_all-requires-clause-sound
walk_all-requires-clause-sound c = whole_sound c.args.program.now c.requires.checked c.as_slice-2.result.now c.as_slice-2.ensures

pub walk_all-requires-clause-fits : goal.walk_all-requires-clause-fits
walk_all-requires-clause-fits c = c.in_ok-stores.ensures.fits

pub returns-clause-states : goal.returns-clause-states
returns-clause-states c =
    let s = traced_of c.loop-i.state in
    let start : Traced = record { trace = s.trace; stores = c.in_ok-stores.stores.items } in
    let whole = programs.body_is c.args.program.now c.args.turns (program_traced c.args.turns c.args.scale (program_tree c.args.program.now)) c.loop-i.i s c.loop-i.invariant c.as_slice-decls.result.now c.as_slice-decls.ensures (omega arith) c.as_slice-2.result.now c.as_slice-2.ensures start
    (ap (λ es. record { trace = s.trace; stores = es }) (c.in_ok-stores.ensures.copied ∙ ap (copy_all (program_tree c.args.program.now) []) c.as_slice.ensures.value)) in
    subst (λ (xs : List Traced). IfOk c.walk_all.result (λ ss. map traced_of ss.items ≡ xs)) whole c.walk_all.ensures.walked

pub returns-clause-fits : goal.returns-clause-fits
returns-clause-fits c = c.walk_all.ensures.fits
