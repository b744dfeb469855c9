use Rattle.std.proofs.Common.{rules, ◌≡◌, ◌-◌, ◌+◌, ◌<◌, ◌≤◌, ℕ, suc, true, false, List, [], ◌∷◌, All, map, ap, arith, get_or, length, sym, refl, ◌∙◌, subst}
use Rattle.std.specs.Prelude.{IfOk}
use Rattle.kf_value.specs.Shapes.{shape_size, shape_types}
use Rattle.kf_value.proofs.ListLemmas.{left_step, left_end}
use Rattle.kf_column.specs.declared.entry.Entry.{Entry}
use Rattle.kf_column.specs.Joint.{IsJoint, Joint, mass}
use Rattle.kf_column.specs.Shapes.{IsBelow}
use Rattle.kf_column.proofs.Beliefs.{merged_below}
use Rattle.kf_core.specs.declared.st.St.{the_lemmas}
use Rattle.kf_core.specs.Pushing.{AreBehind}
use Rattle.kf_core.specs.Runs.{place, runs, tried}
use Rattle.kf_core.specs.Views.{dx_tree, st_tree, st_items}
use Rattle.kf_core.proofs.Solid.{dist_filled}
use Rattle.kf_core.proofs.SoundParts as sound
use Rattle.kf_eval.specs.Kinds.{shape_kinds}
use Rattle.kf_push.specs.Following.{Goes, side}
use Rattle.kf_silent.specs.Quiet.{hushed}
use Rattle.kf_push.proofs.Carrying.{Runner, Matrix, pushed_again, pushed_stay}
use Rattle.kf_silent.specs.Silent.{within}
use Rattle.kf_run.specs.Going.{CanGo, HasGone}
use Rattle.kf_run.specs.Silence.{silent_at}
use Rattle.kf_run.proofs.Blocks.{statement_carries}
use Rattle.kf_run.proofs.Forms as form
use Rattle.kf_run.proofs.Silencing as silencing
use Rattle.kf_run.proofs.Turns as loop
use Rattle.kf_run.proofs.pushes.+push.Goals as goal
use Rattle.kf_run.proofs.pushes.+push.Goals.{push_all-in-Skip, push_all-in_default+in_ok-now-in_default}

-- ---- statements, one after the other

pub push_all-loop-at-init : goal.push_all-loop-at-init
push_all-loop-at-init t c =
    silencing.silent_start c.args.shape.now c.args.turns (silent_at c.args.silent) c.args.columns 0 (map st_tree c.args.statements.now)
    c.requires.sound c.requires.merged c.requires.can

pub push_all-push_one-requires : goal.push_all-push_one-requires
push_all-push_one-requires t c =
    let here = left_step st_tree c.args.statements.now c.loop-at.at c.index-statements-at.result (omega arith) c.index-statements-at.is in
    let before = rw here at c.loop-at.invariant in (
      search (rules, the_lemmas),
      (
        silencing.next_sound c.args.shape.now c.args.turns _ _ _ _ _ _ _ before,
        silencing.next_can c.args.shape.now c.args.turns _ _ _ _ _ _ _ before (silent_at c.within-here.result) c.within-here.ensures,
      ),
    )

pub push_all-loop-at-preserved : goal.push_all-loop-at-preserved
push_all-loop-at-preserved t c =
    let here = left_step st_tree c.args.statements.now c.loop-at.at c.index-statements-at.result (omega arith) c.index-statements-at.is in
    let before = rw here at c.loop-at.invariant in
    elim c.match-statement.branch [
      | push_all-in-Skip w ↦
          let skips = form.skip_runs c.args.shape.now c.args.turns c.index-statements-at.result (within (silent_at c.args.silent) c.loop-at.at) w.in-Skip.is in
          rw w.now-is (silencing.silent_skip c.args.shape.now c.args.turns _ _ _ _ _ _ c.loop-at.now skips before)
      | push_all-in_default+in_ok-now-in_default w ↦
          rw w.now-is (silencing.silent_step c.args.shape.now c.args.turns _ _ _ _ _ _ _ before (silent_at w.within-here.result) w.within-here.ensures w.in_ok-now-in_default.now
          w.in_ok-now-in_default.ensures (pushed_again _ c.loop-at.now.columns w.in_ok-now-in_default.now.columns w.in_ok-now-in_default.ensures.pushed))
    ]

pub push_all-returns : goal.push_all-returns
push_all-returns t c =
    silencing.silent_end c.args.shape.now c.args.turns _ _ _ _ _ c.loop-at.now
    (left_end st_tree c.args.statements.now c.loop-at.at (omega arith)) c.loop-at.invariant

-- ---- loops

pub push_loop-loop-turn-init : goal.push_loop-loop-turn-init
push_loop-loop-turn-init t c =
    loop.turns_begin (shape_size c.args.shape.now) (tried (shape_types c.args.shape.now) (dx_tree c.args.test.now)) (place (dx_tree c.args.test.now)) c.args.turns
    (silencing.all c.args.shape.now c.args.turns (silent_at c.args.silent) 0 (map st_tree c.args.body.now)) c.args.columns.now
    (dist_filled (shape_types c.args.shape.now) (dx_tree c.args.test.now) c.requires.kinded)
    (silencing.all_carries c.args.shape.now c.args.turns (silent_at c.args.silent) 0 (map st_tree c.args.body.now) c.requires.sound) c.requires.can
    (c.args.turns - 0) c.in_ok-asking.asking c.none_of-none.result (omega arith) c.in_ok-asking.ensures c.none_of-none.ensures

pub push_loop-returns-then-is_empty : goal.push_loop-returns-then-is_empty
push_loop-returns-then-is_empty t c = loop.none_asks _ _ _ _ _ _ _ _ _ c.loop-turn.invariant (search rules)

pub push_loop-asked-requires-clause-below : goal.push_loop-asked-requires-clause-below
push_loop-asked-requires-clause-below t c = c.loop-turn.invariant.on.can.below

pub push_loop-asked-requires-clause-goes : goal.push_loop-asked-requires-clause-goes
push_loop-asked-requires-clause-goes t c = loop.asks_again _ _ _ _ _ _ _ _ _ c.loop-turn.invariant

pub push_loop-asked-requires-clause-scale : goal.push_loop-asked-requires-clause-scale
push_loop-asked-requires-clause-scale t c = loop.one_scale _ _ _ _ _ _ _ _ _ c.loop-turn.invariant

pub push_loop-asked-requires-clause-fits : goal.push_loop-asked-requires-clause-fits
push_loop-asked-requires-clause-fits t c = loop.both_fit _ _ _ _ _ _ _ _ _ c.loop-turn.invariant

pub push_loop-push_all-requires : goal.push_loop-push_all-requires
push_loop-push_all-requires t c =
    let later : c.args.turns - c.loop-turn._turn ≡ suc (c.args.turns - (c.loop-turn._turn + 1)) = omega arith in
    let told = c.in_ok-sides.ensures in (
      search (rules, the_lemmas),
      (
        c.requires.sound,
        (
          pushed_again (side true (tried (shape_types c.args.shape.now) (dx_tree c.args.test.now))) c.loop-turn.now.taken.columns
              c.in_ok-sides.sides.taken.columns told.1.to_taken,
          loop.takes_turn _ _ _ _ _ _ _ _ _ c.loop-turn.invariant c.in_ok-sides.sides.taken told.0 told.1 _ later,
        ),
      ),
    )

pub push_loop-loop-turn-preserved : goal.push_loop-loop-turn-preserved
push_loop-loop-turn-preserved t c =
    let later : c.args.turns - c.loop-turn._turn ≡ suc (c.args.turns - (c.loop-turn._turn + 1)) = omega arith in
    let told = c.in_ok-sides.ensures in
    loop.turns_on _ _ _ _ _ _ _ _ _ c.loop-turn.invariant c.in_ok-sides.sides.taken told.0 told.1 _ later
    c.in_ok-sides.sides.left c.in_ok-taken.taken told.2 told.3 c.in_ok-taken.ensures

pub push_loop-asked-requires-2-clause-below : goal.push_loop-asked-requires-2-clause-below
push_loop-asked-requires-2-clause-below t c = c.loop-turn.invariant.on.can.below

pub push_loop-asked-requires-2-clause-goes : goal.push_loop-asked-requires-2-clause-goes
push_loop-asked-requires-2-clause-goes t c = loop.asks_again _ _ _ _ _ _ _ _ _ c.loop-turn.invariant

pub push_loop-asked-requires-2-clause-scale : goal.push_loop-asked-requires-2-clause-scale
push_loop-asked-requires-2-clause-scale t c = loop.one_scale _ _ _ _ _ _ _ _ _ c.loop-turn.invariant

pub push_loop-asked-requires-2-clause-fits : goal.push_loop-asked-requires-2-clause-fits
push_loop-asked-requires-2-clause-fits t c = loop.both_fit _ _ _ _ _ _ _ _ _ c.loop-turn.invariant

pub push_loop-returns : goal.push_loop-returns
push_loop-returns t c =
    let last : c.args.turns - c.loop-turn._turn ≡ 0 = omega arith in
    let told = c.in_ok-last.ensures in
    loop.turns_end _ _ _ _ _ _ _ _ _ c.loop-turn.invariant c.in_ok-last.last.taken told.0 told.1 last c.in_ok-last.last.left told.2 told.3

-- ---- a statement, silent or seen

pub push_one-hush-requires : goal.push_one-hush-requires
push_one-hush-requires t c = (
  search (rules, the_lemmas),
  (
    c.requires.sound,
    silencing.seen_can c.args.shape.now c.args.turns (silent_at c.args.silent) (st_tree c.args.statement.now) c.args.columns.now c.requires.can,
  ),
)

pub push_one-push_seen-requires : goal.push_one-push_seen-requires
push_one-push_seen-requires t c =
    (search (rules, the_lemmas), (sym c.is_itself.ensures ∙ c.if-is_itself.false, (c.requires.sound, c.requires.can)))

pub push_one-returns-then-is_itself : goal.push_one-returns-then-is_itself
push_one-returns-then-is_itself t c =
    subst (λ (from : Runner). IfOk c.hush.result (HasGone from (shape_size c.args.shape.now) c.args.columns.now))
    (silencing.itself_is c.args.shape.now c.args.turns (silent_at c.args.silent) (st_tree c.args.statement.now) (sym c.is_itself.ensures ∙ c.if-is_itself.true))
    c.hush.ensures

-- ---- one column after the other

pub hush_one-push_seen-requires : goal.hush_one-push_seen-requires
hush_one-push_seen-requires t c =
    let from = runs (shape_types c.args.shape.now) c.args.turns (st_tree c.args.statement.now) in
    let lone = silencing.copied_alone c.in_ok-one.ensures c.in_ok-copy.ensures in
    let can = subst (CanGo from (shape_size c.args.shape.now)) (sym lone) c.requires.can in (
      search (rules, the_lemmas),
      (refl, (c.requires.sound, silencing.none_can c.args.shape.now c.args.turns (st_tree c.args.statement.now) c.in_ok-one.one can)),
    )

pub hush_one-sum_of-requires : goal.hush_one-sum_of-requires
hush_one-sum_of-requires t c =
    let from = runs (shape_types c.args.shape.now) c.args.turns (st_tree c.args.statement.now) in
    let size = shape_size c.args.shape.now in
    let carries = statement_carries c.args.shape.now c.args.turns (st_tree c.args.statement.now) c.requires.sound in
    let lone = silencing.copied_alone c.in_ok-one.ensures c.in_ok-copy.ensures in
    let can = subst (CanGo from size) (sym lone) c.requires.can in
    let gone = silencing.none_gone c.args.shape.now c.args.turns (st_tree c.args.statement.now) c.in_ok-one.one c.in_ok-after.after c.in_ok-after.ensures in
    record { some = silencing.some_left from size carries c.args.scale c.args.column.now c.in_ok-one.one c.in_ok-after.after lone can gone }

pub hush_one-returns-clause-behind : goal.hush_one-returns-clause-behind
hush_one-returns-clause-behind t c =
    let from = runs (shape_types c.args.shape.now) c.args.turns (st_tree c.args.statement.now) in
    let size = shape_size c.args.shape.now in
    let carries = statement_carries c.args.shape.now c.args.turns (st_tree c.args.statement.now) c.requires.sound in
    let lone = silencing.copied_alone c.in_ok-one.ensures c.in_ok-copy.ensures in
    let can = subst (CanGo from size) (sym lone) c.requires.can in
    let gone = silencing.none_gone c.args.shape.now c.args.turns (st_tree c.args.statement.now) c.in_ok-one.one c.in_ok-after.after c.in_ok-after.ensures in
    silencing.summed_behind from size carries c.args.scale c.args.column.now c.in_ok-one.one c.in_ok-after.after lone can gone c.in_ok-sum.sum
    c.is_column.ensures c.in_ok-sum.ensures.weights

pub hush_one-returns-clause-below : goal.hush_one-returns-clause-below
hush_one-returns-clause-below t c =
    let gone = silencing.none_gone c.args.shape.now c.args.turns (st_tree c.args.statement.now) c.in_ok-one.one c.in_ok-after.after c.in_ok-after.ensures in
    c.in_ok-sum.ensures.below (shape_size c.args.shape.now) gone.below

pub hush_one-returns-clause-total : goal.hush_one-returns-clause-total
hush_one-returns-clause-total t c =
    let from = runs (shape_types c.args.shape.now) c.args.turns (st_tree c.args.statement.now) in
    let size = shape_size c.args.shape.now in
    let carries = statement_carries c.args.shape.now c.args.turns (st_tree c.args.statement.now) c.requires.sound in
    let lone = silencing.copied_alone c.in_ok-one.ensures c.in_ok-copy.ensures in
    let can = subst (CanGo from size) (sym lone) c.requires.can in
    let gone = silencing.none_gone c.args.shape.now c.args.turns (st_tree c.args.statement.now) c.in_ok-one.one c.in_ok-after.after c.in_ok-after.ensures in
    silencing.summed_total from size carries c.args.scale c.args.column.now c.in_ok-one.one c.in_ok-after.after lone can gone c.in_ok-sum.sum c.in_ok-sum.ensures.total

pub hush-loop-column-init : goal.hush-loop-column-init
hush-loop-column-init t c =
    subst (silencing.Hushed (runs (shape_types c.args.shape.now) c.args.turns (st_tree c.args.statement.now)) (shape_size c.args.shape.now)
    c.args.columns.now.columns 0) (sym c.new-list.ensures.items)
    (silencing.hushed_none (runs (shape_types c.args.shape.now) c.args.turns (st_tree c.args.statement.now)) (shape_size c.args.shape.now)
    c.args.columns.now.columns)

pub hush-hush_one-requires : goal.hush-hush_one-requires
hush-hush_one-requires t c =
    let from = runs (shape_types c.args.shape.now) c.args.turns (st_tree c.args.statement.now) in
    let columns = c.args.columns.now.columns in
    let i = c.loop-column.column-index in
    let all : c.as_slice-column-items.result.now ≡ columns = c.as_slice-column-items.ensures ∙ c.columns.ensures.kept in
    let inside = subst (λ (cs : Matrix). i < length cs) all c.loop-column-test.true in
    let is : c.column-item.result ≡ get_or columns i c.column-item.result =
    subst (λ (cs : Matrix). c.column-item.result ≡ get_or cs i c.column-item.result) all c.column-item.is in
    let had : ◌≡◌ {A = ℕ × List Entry} (c.args.columns.now.scale, get_or columns i c.column-item.result) (c.scale.result, c.column-item.result) =
    λ j. (sym c.scale.ensures.kept j, sym is j) in
    let can = silencing.one_can from (shape_size c.args.shape.now) c.args.columns.now c.requires.can i c.column-item.result inside in (
      search (rules, the_lemmas),
      (
        c.requires.sound,
        (
          subst (λ (h : ℕ × List Entry). CanGo from (shape_size c.args.shape.now) (record { scale = h.0; columns = h.1 ∷ [] })) had can,
          subst (λ (h : ℕ × List Entry). IsJoint (record { scale = h.0; columns = h.1 ∷ [] })) had
              (record { some = c.columns.ensures.joint.some; narrow = c.columns.ensures.joint.narrow; fits = can.fits }),
        ),
      ),
    )

pub hush-loop-column-preserved : goal.hush-loop-column-preserved
hush-loop-column-preserved t c =
    let from = runs (shape_types c.args.shape.now) c.args.turns (st_tree c.args.statement.now) in
    let columns = c.args.columns.now.columns in
    let i = c.loop-column.column-index in
    let all : c.as_slice-column-items.result.now ≡ columns = c.as_slice-column-items.ensures ∙ c.columns.ensures.kept in
    let inside = subst (λ (cs : Matrix). i < length cs) all c.loop-column-test.true in
    let is : c.column-item.result ≡ get_or columns i c.column-item.result =
    subst (λ (cs : Matrix). c.column-item.result ≡ get_or cs i c.column-item.result) all c.column-item.is in
    let new = c.in_ok-sum.ensures in
    silencing.hushed_more from (shape_size c.args.shape.now) columns i c.column-item.result c.in_ok-sum.sum c.loop-column.list.items c.push.new.self.items
    inside is c.loop-column.invariant new.behind new.below new.total c.in_ok-push.ensures.items

pub hush-new-hushed-requires : goal.hush-new-hushed-requires
hush-new-hushed-requires t c =
    let from = runs (shape_types c.args.shape.now) c.args.turns (st_tree c.args.statement.now) in
    let columns = c.args.columns.now.columns in
    let all : c.as_slice-column-items.result.now ≡ columns = c.as_slice-column-items.ensures ∙ c.columns.ensures.kept in
    let past = subst (λ (cs : Matrix). length cs ≤ c.loop-column.column-index) all c.loop-column-test.false in
    let last = silencing.hushed_all from (shape_size c.args.shape.now) columns c.loop-column.column-index c.loop-column.list.items past
    c.loop-column.invariant in
    let weighs = silencing.all_weigh from (shape_size c.args.shape.now) columns c.loop-column.list.items last in
    record {
      some = subst (λ (n : ℕ). 0 < n) (sym c.scale-2.ensures.kept) c.columns.ensures.joint.some;
      narrow = omega (arith, c.scale-2.ensures.kept, c.columns.ensures.joint.narrow);
      fits = omega (arith, weighs, c.scale-2.ensures.kept, c.requires.can.fits, ap mass c.new.ensures);
    }

pub hush-returns : goal.hush-returns
hush-returns t c =
    let from = runs (shape_types c.args.shape.now) c.args.turns (st_tree c.args.statement.now) in
    let size = shape_size c.args.shape.now in
    let columns = c.args.columns.now.columns in
    let all : c.as_slice-column-items.result.now ≡ columns = c.as_slice-column-items.ensures ∙ c.columns.ensures.kept in
    let past = subst (λ (cs : Matrix). length cs ≤ c.loop-column.column-index) all c.loop-column-test.false in
    let last = silencing.hushed_all from size columns c.loop-column.column-index c.loop-column.list.items past c.loop-column.invariant in
    let put : c.new-hushed.result.columns ≡ c.loop-column.list.items = ap (λ (j : Joint). j.columns) c.new-hushed.ensures ∙ c.new.ensures in
    silencing.hushed_gone from size c.args.columns.now c.new-hushed.result c.in_ok-after.after
    (ap (λ (j : Joint). j.scale) c.new-hushed.ensures ∙ c.scale-2.ensures.kept)
    (subst (AreBehind (λ n. hushed (from n)) columns) (sym put) (silencing.all_behind from size columns c.loop-column.list.items last))
    (subst (All (IsBelow size)) (sym put) last.below) c.in_ok-after.ensures.merged c.in_ok-after.ensures.scale

-- ---- each form of statement

pub push_seen-assignment-requires-clause-variable : goal.push_seen-assignment-requires-clause-variable
push_seen-assignment-requires-clause-variable t c =
    let known = sound.assign_parts (shape_kinds c.args.shape.now) c.args.statement.now c.requires.sound c.in-Assign.slot c.in-Assign.dist c.in-Assign.shown c.in-Assign.is in
    sound.variable_within c.args.shape.now c.in-Assign.slot c.from.result known.0 c.from.ensures known.1.0

pub push_seen-assignment-requires-clause-kinded : goal.push_seen-assignment-requires-clause-kinded
push_seen-assignment-requires-clause-kinded t c =
    let known = sound.assign_parts (shape_kinds c.args.shape.now) c.args.statement.now c.requires.sound c.in-Assign.slot c.in-Assign.dist c.in-Assign.shown c.in-Assign.is in
    (known.0, known.1.1)

pub push_seen-assignment-requires-clause-goes : goal.push_seen-assignment-requires-clause-goes
push_seen-assignment-requires-clause-goes t c =
    subst (λ f. Goes f c.args.columns.now.columns) (sym (form.assign_runs c.args.shape.now c.args.turns c.args.statement.now (silent_at c.args.silent) c.requires.seen
    c.in-Assign.slot c.from.result c.in-Assign.dist c.in-Assign.shown c.in-Assign.is c.from.ensures)) c.requires.can.goes

pub push_seen-show-requires-clause-kinded : goal.push_seen-show-requires-clause-kinded
push_seen-show-requires-clause-kinded t c = sound.observe_parts (shape_kinds c.args.shape.now) c.args.statement.now c.requires.sound c.in-Observe.dist
    c.in-Observe.is

pub push_seen-show-requires-clause-goes : goal.push_seen-show-requires-clause-goes
push_seen-show-requires-clause-goes t c =
    subst (λ f. Goes f c.args.columns.now.columns) (sym (form.observe_runs c.args.shape.now c.args.turns c.args.statement.now (silent_at c.args.silent) c.requires.seen
    c.in-Observe.dist c.in-Observe.is)) c.requires.can.goes

pub push_seen-returns-in_ok-after-in-Skip : goal.push_seen-returns-in_ok-after-in-Skip
push_seen-returns-in_ok-after-in-Skip t c =
    let after = c.in_ok-after-in-Skip.after in
    let can = c.requires.can in
    subst (λ f. HasGone f (shape_size c.args.shape.now) c.args.columns.now after)
    (form.skip_runs c.args.shape.now c.args.turns c.args.statement.now (silent_at c.args.silent) c.in-Skip.is)
    (record {
      pushed = pushed_stay c.args.columns.now.columns after.columns can.are c.in_ok-after-in-Skip.ensures.merged;
      scale = c.in_ok-after-in-Skip.ensures.scale;
      below =
          merged_below (shape_size c.args.shape.now) c.args.columns.now.columns after.columns can.are c.in_ok-after-in-Skip.ensures.merged can.below;
    })

pub push_seen-returns-in_ok-after-in-Assign : goal.push_seen-returns-in_ok-after-in-Assign
push_seen-returns-in_ok-after-in-Assign t c =
    subst (λ f. HasGone f (shape_size c.args.shape.now) c.args.columns.now c.in_ok-after-in-Assign.after)
    (form.assign_runs c.args.shape.now c.args.turns c.args.statement.now (silent_at c.args.silent) c.requires.seen
    c.in-Assign.slot c.from.result c.in-Assign.dist c.in-Assign.shown c.in-Assign.is c.from.ensures)
    (record { pushed = c.in_ok-after-in-Assign.ensures.pushed; scale = c.in_ok-after-in-Assign.ensures.scale; below = c.in_ok-after-in-Assign.ensures.below })

pub push_seen-returns-in_ok-after-in-Observe : goal.push_seen-returns-in_ok-after-in-Observe
push_seen-returns-in_ok-after-in-Observe t c =
    subst (λ f. HasGone f (shape_size c.args.shape.now) c.args.columns.now c.in_ok-after-in-Observe.after)
    (form.observe_runs c.args.shape.now c.args.turns c.args.statement.now (silent_at c.args.silent) c.requires.seen c.in-Observe.dist c.in-Observe.is)
    (record {
      pushed = c.in_ok-after-in-Observe.ensures.pushed;
      scale = c.in_ok-after-in-Observe.ensures.scale;
      below = c.in_ok-after-in-Observe.ensures.below;
    })

pub push_seen-push_loop-requires : goal.push_seen-push_loop-requires
push_seen-push_loop-requires t c =
    let ks = shape_kinds c.args.shape.now in
    let same = form.while_runs c.args.shape.now c.args.turns c.args.statement.now (silent_at c.args.silent) c.requires.seen
    c.in-While.test c.in-While.body c.in-While.is c.as_slice-in-While.result.now c.as_slice-in-While.ensures (silent_at c.within-in_body.result)
    c.within-in_body.ensures in (
      search (rules, the_lemmas),
      (
        sound.while_guard ks c.args.statement.now c.requires.sound c.in-While.test c.in-While.body c.in-While.is,
        (
          sound.body_sound ks c.args.statement.now c.requires.sound c.in-While.test c.in-While.body c.in-While.is c.as_slice-in-While.result.now
              c.as_slice-in-While.ensures,
          subst (λ (from : Runner). CanGo from (shape_size c.args.shape.now) c.args.columns.now) (sym same) c.requires.can,
        ),
      ),
    )

pub push_seen-returns-in-While : goal.push_seen-returns-in-While
push_seen-returns-in-While t c =
    subst (λ (from : Runner). IfOk c.push_loop.result (HasGone from (shape_size c.args.shape.now) c.args.columns.now))
    (form.while_runs c.args.shape.now c.args.turns c.args.statement.now (silent_at c.args.silent) c.requires.seen
    c.in-While.test c.in-While.body c.in-While.is c.as_slice-in-While.result.now c.as_slice-in-While.ensures (silent_at c.within-in_body.result)
    c.within-in_body.ensures) c.push_loop.ensures

pub push_seen-guard-requires-clause-kinded : goal.push_seen-guard-requires-clause-kinded
push_seen-guard-requires-clause-kinded t c = sound.if_guard (shape_kinds c.args.shape.now) c.args.statement.now c.requires.sound c.in-If.test c.in-If.yes
    c.in-If.no c.in-If.is

pub push_seen-guard-requires-clause-goes : goal.push_seen-guard-requires-clause-goes
push_seen-guard-requires-clause-goes t c =
    form.asks_guard c.args.shape.now c.args.turns c.args.statement.now (silent_at c.args.silent) c.requires.seen
    c.requires.sound c.in-If.test c.in-If.yes c.in-If.no c.in-If.is (st_items c.in-If.yes) (st_items c.in-If.no) refl refl (within (silent_at c.args.silent) 0) (within (silent_at c.args.silent) 1) (λ path. refl) (λ path. refl)
    c.args.columns.now c.requires.can

pub push_seen-push_all-requires : goal.push_seen-push_all-requires
push_seen-push_all-requires t c =
    let sides = c.in_ok-sides-in-If.ensures in (
      search (rules, the_lemmas),
      (
        sound.yes_sound (shape_kinds c.args.shape.now) c.args.statement.now c.requires.sound c.in-If.test c.in-If.yes c.in-If.no c.in-If.is
            c.as_slice.result.now c.as_slice.ensures,
        (
          pushed_again (side true (tried (shape_types c.args.shape.now) (dx_tree c.in-If.test))) c.args.columns.now.columns
              c.in_ok-sides-in-If.sides.taken.columns sides.to_taken,
          form.takes_yes c.args.shape.now c.args.turns c.args.statement.now (silent_at c.args.silent) c.requires.seen
              c.requires.sound c.in-If.test c.in-If.yes c.in-If.no c.in-If.is c.as_slice.result.now (st_items c.in-If.no) c.as_slice.ensures refl (silent_at c.within-in_yes.result) (within (silent_at c.args.silent) 1) c.within-in_yes.ensures (λ path. refl)
              c.args.columns.now c.requires.can c.in_ok-sides-in-If.sides.taken c.in_ok-sides-in-If.sides.left sides,
        ),
      ),
    )

pub push_seen-push_all-requires-in-If : goal.push_seen-push_all-requires-in-If
push_seen-push_all-requires-in-If t c =
    let sides = c.in_ok-sides-in-If.ensures in (
      search (rules, the_lemmas),
      (
        sound.no_sound (shape_kinds c.args.shape.now) c.args.statement.now c.requires.sound c.in-If.test c.in-If.yes c.in-If.no c.in-If.is
            c.as_slice-in-If.result.now c.as_slice-in-If.ensures,
        (
          pushed_again (side false (tried (shape_types c.args.shape.now) (dx_tree c.in-If.test))) c.args.columns.now.columns
              c.in_ok-sides-in-If.sides.left.columns sides.to_left,
          form.takes_no c.args.shape.now c.args.turns c.args.statement.now (silent_at c.args.silent) c.requires.seen
              c.requires.sound c.in-If.test c.in-If.yes c.in-If.no c.in-If.is c.as_slice.result.now c.as_slice-in-If.result.now c.as_slice.ensures c.as_slice-in-If.ensures (silent_at c.within-in_yes.result) (silent_at c.within-in_no.result) c.within-in_yes.ensures c.within-in_no.ensures
              c.args.columns.now c.requires.can c.in_ok-sides-in-If.sides.taken c.in_ok-sides-in-If.sides.left sides,
        ),
      ),
    )

pub push_seen-merge_both-requires-clause-fits : goal.push_seen-merge_both-requires-clause-fits
push_seen-merge_both-requires-clause-fits t c =
    let sides = c.in_ok-sides-in-If.ensures in
    form.both_fit c.args.shape.now c.args.turns c.args.statement.now (silent_at c.args.silent) c.requires.seen
    c.requires.sound c.in-If.test c.in-If.yes c.in-If.no c.in-If.is c.as_slice.result.now c.as_slice-in-If.result.now c.as_slice.ensures c.as_slice-in-If.ensures (silent_at c.within-in_yes.result) (silent_at c.within-in_no.result) c.within-in_yes.ensures c.within-in_no.ensures
    c.args.columns.now c.requires.can c.in_ok-sides-in-If.sides.taken c.in_ok-sides-in-If.sides.left sides
    c.in_ok-one-in-If.one c.in_ok-other-in-If.other c.in_ok-one-in-If.ensures c.in_ok-other-in-If.ensures

pub push_seen-returns-in_ok-after-in-If : goal.push_seen-returns-in_ok-after-in-If
push_seen-returns-in_ok-after-in-If t c =
    let sides = c.in_ok-sides-in-If.ensures in
    form.both_gone c.args.shape.now c.args.turns c.args.statement.now (silent_at c.args.silent) c.requires.seen
    c.requires.sound c.in-If.test c.in-If.yes c.in-If.no c.in-If.is c.as_slice.result.now c.as_slice-in-If.result.now c.as_slice.ensures c.as_slice-in-If.ensures (silent_at c.within-in_yes.result) (silent_at c.within-in_no.result) c.within-in_yes.ensures c.within-in_no.ensures
    c.args.columns.now c.requires.can c.in_ok-sides-in-If.sides.taken c.in_ok-sides-in-If.sides.left sides
    c.in_ok-one-in-If.one c.in_ok-other-in-If.other c.in_ok-one-in-If.ensures c.in_ok-other-in-If.ensures c.in_ok-after-in-If.after
    c.in_ok-after-in-If.ensures.merged c.in_ok-after-in-If.ensures.scale
