use Rattle.std.proofs.Common.{◌≡◌, ℕ, All, rules, refl, sym, subst, get_or, true≢false}
use Rattle.std.proofs.lemmas.List.{get_or_default}
use Rattle.kf_cert.specs.declared.matrix_rules.shares.Share.{Share}
use Rattle.kf_cert.proofs.RowShares.{missing_start, missing_more, too_much, nothing_missing, sums_nothing}
use Rattle.kf_cert.proofs.matrix_rules.shares.sum_to_one.Goals as goal

abbrev none : Share
none = record { row = 0; column = 0; amount = 0 }

pub returns-then-share-before : goal.returns-then-share-before
returns-then-share-before c = (
  λ is. absurd (true≢false (sym is)),
  λ sums.
      absurd (too_much c.args.rows c.args.over c.args.shares.now c.loop-share.missing.items c.loop-share.share-index (get_or c.args.shares.now c.loop-share.share-index none) c.loop-share-test.true
      (get_or_default c.args.shares.now c.loop-share.share-index none _ c.loop-share-test.true) c.loop-share.invariant (c.requires c.loop-share.share-index none c.loop-share-test.true)
      c.index-before.result.now c.index-before.ensures c.if-share-before.true sums),
)

pub loop-share-init : goal.loop-share-init
loop-share-init c = missing_start c.args.rows c.args.over c.in_ok-missing.missing.items (search rules)

pub loop-share-preserved : goal.loop-share-preserved
loop-share-preserved c =
    missing_more c.args.rows c.args.over c.args.shares.now c.loop-share.missing.items c.loop-share.share-index (get_or c.args.shares.now c.loop-share.share-index none) c.loop-share-test.true
    (get_or_default c.args.shares.now c.loop-share.share-index none _ c.loop-share-test.true) c.loop-share.invariant (c.requires c.loop-share.share-index none c.loop-share-test.true)
    c.index-before.result.now c.index-before.ensures c.if-share-before.false _ refl

pub returns : goal.returns
returns c =
    let all = nothing_missing c.args.rows c.args.over c.args.shares.now c.loop-share.missing.items c.loop-share.share-index c.loop-share-test.false c.loop-share.invariant in
    let none = sums_nothing c.args.rows c.args.over c.args.shares.now c.loop-share.missing.items c.loop-share.share-index c.loop-share-test.false c.loop-share.invariant in (
      λ is. all (subst (All (λ (n : ℕ). n ≡ 0)) c.as_slice.ensures.value (c.are_zero.ensures.0 is)),
      λ sums. c.are_zero.ensures.1 (subst (All (λ (n : ℕ). n ≡ 0)) (sym c.as_slice.ensures.value) (none sums)),
    )
