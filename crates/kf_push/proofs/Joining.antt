-- Lists of columns put together: what is merged before is merged after, in any order.
use Rattle.std.proofs.Common.{◌≡◌, ◌+◌, List, ◌++◌, All, arith}
use Rattle.std.specs.Prelude.{if◌then◌else◌}
use Rattle.std.proofs.lemmas.List.Elements.{All-append}
use Rattle.std.proofs.lemmas.List.Sums.{sum_by-append}
use Rattle.kf_column.specs.declared.entry.Entry.{Entry}
use Rattle.kf_column.specs.Columns.{IsColumn, total, proportional}
use Rattle.kf_column.specs.Hypers.{IsInner, class_total}
use Rattle.kf_column.specs.Merged.{AreMerged}
use Rattle.kf_column.proofs.Beliefs.{merged_totals, merged_columns, totals_tell}
use Rattle.kf_push.proofs.Carrying.{Matrix}

pub both_columns : (one other : Matrix) → All IsColumn one → All IsColumn other → All IsColumn (one ++ other)
both_columns one other are were = All-append IsColumn one other are were

pub both_totals : (one other : Matrix) (inner : List Entry) → class_total (one ++ other) inner ≡ class_total one inner + class_total other inner
both_totals one other inner = sum_by-append (λ c. if proportional c inner then total c else 0) one other

-- lists whose classes have the same totals are merged into the same columns
pub merged_alike : (columns others merged : Matrix) → All IsColumn columns → All IsColumn others
    → ((inner : List Entry) → IsInner inner → class_total columns inner ≡ class_total others inner) → AreMerged columns merged → AreMerged others merged
merged_alike columns others merged are were totals m =
    record { inners = m.inners; is_hyper = (totals_tell columns others are were totals m.inners).0 m.is_hyper; sums = m.sums }

-- what is merged with the one part may as well be merged with the other
pub merged_across : (a b c ac bc merged : Matrix) → All IsColumn a → All IsColumn b → All IsColumn c
    → AreMerged (a ++ c) ac → AreMerged (b ++ c) bc → AreMerged (a ++ bc) merged → AreMerged (ac ++ b) merged
merged_across a b c ac bc merged of_a of_b of_c m k whole =
    let of_ac = both_columns a c of_a of_c in
    let of_bc = both_columns b c of_b of_c in
    merged_alike (a ++ bc) (ac ++ b) merged
    (both_columns a bc of_a (merged_columns (b ++ c) bc of_bc k)) (both_columns ac b (merged_columns (a ++ c) ac of_ac m) of_b)
    (λ inner is.
    omega (
      arith,
      both_totals a bc inner,
      both_totals ac b inner,
      merged_totals (a ++ c) ac of_ac m inner is,
      merged_totals (b ++ c) bc of_bc k inner is,
      both_totals a c inner,
      both_totals b c inner,
    )) whole

-- and their order is of no account
pub merged_turned : (a b merged : Matrix) → All IsColumn a → All IsColumn b → AreMerged (a ++ b) merged → AreMerged (b ++ a) merged
merged_turned a b merged of_a of_b m =
    merged_alike (a ++ b) (b ++ a) merged (both_columns a b of_a of_b) (both_columns b a of_b of_a)
    (λ inner is. omega (arith, both_totals a b inner, both_totals b a inner)) m
