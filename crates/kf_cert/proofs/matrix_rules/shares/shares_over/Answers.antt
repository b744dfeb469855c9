use Rattle.std.proofs.Common.{◌<◌, ◌^◌, ◌∷◌, [], ◌++◌, ◌∙◌, ap, map, refl}
use Rattle.kf_cert.specs.Rows.{IsWithin, share_of}
use Rattle.kf_cert.specs.Views.{entry_tree}
use Rattle.kf_cert.proofs.Each.{seen_here}
use Rattle.kf_cert.proofs.Pieces.{piece_added}
use Rattle.kf_cert.proofs.matrix_rules.shares.shares_over.Goals as goal

pub share_over-requires : goal.share_over-requires
share_over-requires c = record {
  row = seen_here entry_tree (λ e. e.row < 2 ^ 64) c.args.entries.now c.loop-entry.entry-index c.entry-item.result c.loop-entry-test.true c.entry-item.is c.requires.rows;
  column = seen_here entry_tree (λ e. e.column < 2 ^ 64) c.args.entries.now c.loop-entry.entry-index c.entry-item.result c.loop-entry-test.true c.entry-item.is c.requires.columns;
  within = seen_here entry_tree (λ e. IsWithin e.value) c.args.entries.now c.loop-entry.entry-index c.entry-item.result c.loop-entry-test.true c.entry-item.is c.requires.within;
}

pub loop-entry-preserved : goal.loop-entry-preserved
loop-entry-preserved c =
    piece_added (λ i es. map (share_of c.args.over) (map entry_tree es)) (λ i e. share_of c.args.over (entry_tree e) ∷ []) (λ i e es. refl)
    c.args.entries.now c.loop-entry.entry-index c.entry-item.result c.loop-entry.made.items c.push.new.self.items _ c.loop-entry-test.true c.entry-item.is
    (c.in_ok-push.ensures.items ∙ ap (λ s. c.loop-entry.made.items ++ s ∷ []) c.share_over.ensures) c.loop-entry.invariant
