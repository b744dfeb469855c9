use Rattle.std.proofs.Common.{◌<◌, ◌≤◌, ◌∙◌, ap, sym, refl, arith, length, Vec, Global}
use Rattle.kf_hyper.specs.declared.class.Class.{Class}
use Rattle.std.specs.Ordering.{is_eq}
use Rattle.kf_hyper.proofs.Joining.{not_begun, turn_same, turn_other, kept_classes, now_ascending, pair_fits}
use Rattle.kf_hyper.proofs.classes.join_equals.Goals as goal
use Rattle.kf_hyper.proofs.classes.join_equals.Goals.{then-is_eq, else-is_eq}

pub loop-i-init : goal.loop-i-init
loop-i-init c = not_begun c.args.classes.now.items

pub overflow_add-index_mut : goal.overflow_add-index_mut
overflow_add-index_mut c =
    let within : c.loop-i.i < length c.args.classes.now.items = omega (arith, c.len-i-end.ensures, c.loop-i-test.true) in
    let fits =
    pair_fits c.args.classes.now.items c.loop-i.classes.items c.loop-i.classes.items c.loop-i.last c.loop-i.i 0 c.index_mut.result.now c.index-then-is_eq.result.now
    c.loop-i.invariant within c.index_mut.ensures.value c.index-then-is_eq.ensures in
    omega (arith, fits, c.requires.fits)

pub loop-i-preserved : goal.loop-i-preserved
loop-i-preserved c =
    let within : c.loop-i.i < length c.args.classes.now.items = omega (arith, c.len-i-end.ensures, c.loop-i-test.true) in
    let test = ap is_eq (sym c.compare.ensures) ∙ sym c.is_eq.ensures in
    elim c.if-is_eq.branch [
      | then-is_eq w ↦ turn_same c.args.classes.now.items c.loop-i.classes.items c.if-is_eq.classes.items c.loop-i.last c.loop-i.i c.if-is_eq.last
          c.index-in-loop-i.result.now c.index.result.now c.loop-i.invariant within c.index-in-loop-i.ensures c.index.ensures
          w.index_mut.result.now w.index-then-is_eq.result.now _ (test ∙ w.if-is_eq.true) w.index_mut.ensures.value w.index-then-is_eq.ensures
          refl refl refl (ap (λ (v : Vec Class Global). v.items) w.classes-is) w.last-is
      | else-is_eq w ↦ turn_other c.args.classes.now.items c.loop-i.classes.items c.if-is_eq.classes.items c.loop-i.last c.loop-i.i c.if-is_eq.last
          c.index-in-loop-i.result.now c.index.result.now c.loop-i.invariant within c.index-in-loop-i.ensures c.index.ensures
          (test ∙ w.if-is_eq.false) (ap (λ (v : Vec Class Global). v.items) w.classes-is ∙ w.swap.ensures.items) w.last-is
    ]

pub overflow_add-last-2 : goal.overflow_add-last-2
overflow_add-last-2 c = omega (arith, c.loop-i.invariant.near, c.len-i-end.ensures, c.len-i-end.type_inv)

pub returns-clause-kept : goal.returns-clause-kept
returns-clause-kept c =
    let past : length c.args.classes.now.items ≤ c.loop-i.i = omega (arith, c.len-i-end.ensures, c.loop-i-test.false) in
    rw c.truncate.ensures.items (kept_classes c.args.classes.now.items c.loop-i.classes.items c.loop-i.last c.loop-i.i c.loop-i.invariant past)

pub returns-clause-ordered : goal.returns-clause-ordered
returns-clause-ordered c =
    let past : length c.args.classes.now.items ≤ c.loop-i.i = omega (arith, c.len-i-end.ensures, c.loop-i-test.false) in
    rw c.truncate.ensures.items (now_ascending c.args.classes.now.items c.loop-i.classes.items c.loop-i.last c.loop-i.i c.loop-i.invariant past c.requires.sorted)
