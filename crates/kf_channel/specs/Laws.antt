-- For bodies: laws of channel matrices.
use Rattle.std.specs.Prelude.{◌≡◌, ℕ, ◌<◌, List, All, pos, sum_by}
use Prim.Native.Nat.{◌∣◌}
use Rattle.kf_frac.specs.Fractions.{reduced_den, parts_of}
use Rattle.kf_column.specs.Columns.{weight_at}
use Rattle.kf_column.specs.Traces.{Row, value_weight, share_at}
use Rattle.kf_channel.specs.Channels.{AreSecrets}

-- the shares of a value in all traces, in lowest terms and over any common denominator, sum to 1
abbrev pub RowsSumToOne : Type 0
RowsSumToOne = (rows : List Row) (x n : ℕ) → 0 < value_weight rows x
    → All (λ row. reduced_den (pos (weight_at row.column x)) (value_weight rows x) ∣ n) rows
    → sum_by (λ row. parts_of n (share_at rows row x).part (share_at rows row x).whole) rows ≡ n

-- rows have secrets
abbrev pub SomeSecrets : Type 0
SomeSecrets = (rows : List Row) → (secrets : List ℕ) × AreSecrets rows secrets
