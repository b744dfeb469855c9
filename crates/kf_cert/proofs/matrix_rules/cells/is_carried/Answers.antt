use Rattle.std.proofs.Common.{◌≡◌, ◌*◌, ◌^◌, ◌<◌, ℕ, All, arith, List, [], refl, sym, ◌∙◌, ap, subst, get_or}
use Rattle.kf_column.specs.declared.entry.Entry.{Entry}
use Rattle.kf_column.specs.Hypers.{Inner}
use Rattle.kf_hyper.specs.Views.{inners_of, scale_of}
use Rattle.kf_column.proofs.Scaling.{product_positive}
use Rattle.kf_refine.specs.Refinements.{joint}
use Rattle.kf_refine.specs.Views.{hyper_tree}
use Rattle.kf_cert.specs.Cells.{column_weight, share_weight, total_at}
use Rattle.kf_cert.proofs.Inners.{is_inner, times_some, joint_within}
use Rattle.kf_cert.proofs.Matching.{carried_told, told_carried, match_read}
use Rattle.kf_cert.proofs.matrix_rules.cells.is_carried.Goals as goal

pub column_sums-requires : goal.column_sums-requires
column_sums-requires c = record {
  inside = c.in_column.ensures.each _ c.requires.inside;
  fits = omega (arith, c.in_column.ensures.sums (λ s. total_at (hyper_tree c.args.a.now) s.row * s.amount), c.requires.fits);
}

pub are_equal-requires : goal.are_equal-requires
are_equal-requires c =
    let none : Inner = record { entries = []; total = 0 } in
    let inner : Inner = get_or (inners_of c.args.b.now) c.args.j none in
    let others : c.as_slice-entries.result.now ≡ inner.entries = c.as_slice-entries.ensures ∙ c.entries.ensures.kept ∙ c.inner.ensures.kept in
    subst (All (λ e. c.multiple.result * e.weight < 2 ^ 128)) (sym others)
    (λ k d within. omega (arith, joint_within (inners_of c.args.b.now) _ _ c.scale-2.ensures.shape c.args.j none c.requires.inner k d within, ap (λ n. n * (get_or inner.entries k d).weight) c.multiple.ensures, c.scale-2.ensures.shape.narrow))

pub returns : goal.returns
returns c =
    let a = hyper_tree c.args.a.now in
    let b = hyper_tree c.args.b.now in
    let shares = c.args.shares.now in
    let column = c.in_column.result.now in
    let none : Inner = record { entries = []; total = 0 } in
    let inner : Inner = get_or (inners_of c.args.b.now) c.args.j none in
    let entries : List Entry = c.in_ok-sums.sums.items in
    let items : c.as_slice.result.now ≡ entries = c.as_slice.ensures.value in
    let others : c.as_slice-entries.result.now ≡ inner.entries = c.as_slice-entries.ensures ∙ c.entries.ensures.kept ∙ c.inner.ensures.kept in
    let whole : c.scale.result * c.args.over ≡ scale_of c.args.a.now * c.args.over = ap (λ n. n * c.args.over) c.scale.ensures.kept in
    let sums : (x : ℕ) → share_weight a column x ≡ column_weight a shares c.args.j x = λ x. c.in_column.ensures.sums (λ s. joint a x s.row * s.amount) in (
      λ yes.
          carried_told a b c.args.over shares column c.args.j entries c.in_ok-sums.ensures sums inner refl
          (match_read c.scale-2.ensures.kept items whole c.multiple.ensures others (c.are_equal.ensures.0 yes)),
      λ carried.
          c.are_equal.ensures.1 (match_read (sym c.scale-2.ensures.kept) (sym items) (sym whole) (sym c.multiple.ensures) (sym others)
          (told_carried a b c.args.over shares column c.args.j entries c.in_ok-sums.ensures sums inner refl
          (is_inner (inners_of c.args.b.now) _ _ c.scale-2.ensures.shape c.args.j none c.requires.inner).column c.scale-2.ensures.shape.some
          (product_positive (scale_of c.args.a.now) c.args.over c.scale.ensures.shape.some c.requires.some)
          (times_some (inners_of c.args.b.now) _ _ c.scale-2.ensures.shape c.args.j none c.requires.inner) carried)),
    )
