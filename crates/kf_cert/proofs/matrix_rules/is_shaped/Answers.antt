use Rattle.std.proofs.Common.{◌≡◌, refl, sym, ◌∙◌, ap, true≢false, length}
use Rattle.std.proofs.lemmas.List.{length-map}
use Rattle.kf_refine.specs.Views.{fraction_of}
use Rattle.kf_cert.specs.Rows.{row_tree}
use Rattle.kf_cert.proofs.Each.{all_seen, seen_here}
use Rattle.kf_cert.proofs.matrix_rules.is_shaped.Goals as goal

pub returns-then-as_slice-width : goal.returns-then-as_slice-width
returns-then-as_slice-width c = (
  λ yes. absurd (true≢false (sym yes)),
  λ shaped.
      let here = seen_here row_tree (λ row. length row ≡ c.args.width) c.args.rows.now c.loop-row.row-index c.row-item.result c.loop-row-test.true c.row-item.is shaped.each in
      absurd (c.if-as_slice-width.true (ap length c.as_slice.ensures ∙ sym (length-map c.row-item.result fraction_of) ∙ here)),
)

pub returns : goal.returns
returns c = (
  λ yes. record {
    many = length-map c.args.rows.now row_tree ∙ c.if-rows-count.false;
    each = all_seen row_tree (λ row. length row ≡ c.args.width) c.args.rows.now c.loop-row.row-index c.loop-row-test.false c.loop-row.invariant;
  },
  λ shaped. refl,
)
