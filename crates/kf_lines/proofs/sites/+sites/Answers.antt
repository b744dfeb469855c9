use Rattle.std.proofs.Common.{map, ◌∙◌, arith}
use Rattle.std.proofs.lemmas.Result.{on_ok_weaker}
use Rattle.kf_lines.specs.Views.{site_of}
use Rattle.kf_lines.proofs.Walking.{block_last, block_step, if_added, while_added}
use Rattle.kf_lines.proofs.sites.+sites.Goals as goal

pub add_sites-returns-in_ok-other-in-If : goal.add_sites-returns-in_ok-other-in-If
add_sites-returns-in_ok-other-in-If t c =
    on_ok_weaker c.add_block-in-If.result
    (λ last. if_added c.args.path.now c.args.stmt.now c.args.st.now (map site_of c.args.out.now.items) (map site_of c.add_own.new.out.items) c.in_ok-add_own.ensures
    c.in-If.guard c.in-If.yes c.in-If.no c.in-If.is c.in-If-st.guard c.in-If-st.taken c.in-If-st.left c.in-If-st.is
    c.as_slice.result.now c.as_slice-in-If-2.result.now c.as_slice.ensures c.as_slice-in-If-2.ensures
    c.as_slice-in-If.result.now c.as_slice-in-If-3.result.now c.as_slice-in-If.ensures c.as_slice-in-If-3.ensures
    c.deref.result.now c.deref-in-If.result.now (c.deref.ensures.value ∙ c.in_ok-first-in-If.ensures) (c.deref-in-If.ensures.value ∙ c.in_ok-other-in-If.ensures)
    (map site_of c.add_block.new.out.items) (map site_of c.add_block-in-If.new.out.items) c.in_ok-add_block-in-If.ensures last)
    c.add_block-in-If.ensures

pub add_sites-returns-in_ok-within-in-While : goal.add_sites-returns-in_ok-within-in-While
add_sites-returns-in_ok-within-in-While t c =
    on_ok_weaker c.add_block-in-While.result
    (λ last. while_added c.args.path.now c.args.stmt.now c.args.st.now (map site_of c.args.out.now.items) (map site_of c.add_own.new.out.items) c.in_ok-add_own.ensures
    c.in-While.guard c.in-While.body c.in-While.is c.in-While-st.guard c.in-While-st.again c.in-While-st.is
    c.as_slice-in-While.result.now c.as_slice-in-While.ensures c.as_slice-in-While-2.result.now c.as_slice-in-While-2.ensures
    c.deref-in-While.result.now (c.deref-in-While.ensures.value ∙ c.in_ok-within-in-While.ensures) (map site_of c.add_block-in-While.new.out.items) last)
    c.add_block-in-While.ensures

pub add_block-loop-i-preserved : goal.add_block-loop-i-preserved
add_block-loop-i-preserved t c =
    block_step c.args.path.now c.deref.result.now c.loop-i.i c.args.stmts.now c.args.sts.now c.index-stmts-i.result c.index-sts-i.result
    (omega (arith, c.loop-i-test.true, c.min-i-end.ensures)) (omega (arith, c.loop-i-test.true, c.min-i-end.ensures)) c.index-stmts-i.is c.index-sts-i.is
    (c.deref.ensures.value ∙ c.in_ok-within.ensures) (map site_of c.loop-i.out.items) (map site_of c.add_sites.new.out.items) _ c.in_ok-add_sites.ensures c.loop-i.invariant

pub add_block-returns : goal.add_block-returns
add_block-returns t c =
    block_last c.args.path.now c.loop-i.i c.args.stmts.now c.args.sts.now (map site_of c.loop-i.out.items) _ (omega (arith, c.loop-i-test.false, c.min-i-end.ensures))
    c.loop-i.invariant
