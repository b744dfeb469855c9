-- A channel's cells in whole numbers: the weight of a secret, times its cell, is its weight at the trace, over the denominator.
use Rattle.std.proofs.Common.{◌≡◌, ℕ, ◌*◌, ◌/◌, ◌<◌, pos, length, get_or, unsigned_abs}
use Rattle.std.proofs.Common.{ap, subst, sym, ◌∙◌, arith}
use Rattle.std.proofs.Math.Nat.{div-mul_cancel}
use Rattle.std.proofs.lemmas.List.{get_or-map, get_or_default, length-map}
use Rattle.std.proofs.lemmas.List.Elements.{All-get_or}
use Prim.Native.Nat.{◌∣◌}
use Rattle.kf_frac.specs.Divisors.{gcd_of}
use Rattle.kf_frac.specs.Fractions.{reduced_num, reduced_den, parts_of}
use Rattle.kf_frac.proofs.CommonDivisors.{gcd_is}
use Rattle.kf_frac.proofs.LowestTerms.{reduced_num_abs, reduced_den_times}
use Rattle.kf_frac.proofs.Multiples.{common_divided, common_positive}
use Rattle.kf_column.specs.Columns.{weight_at}
use Rattle.kf_column.specs.Traces.{Row, value_weight}
use Rattle.kf_capacity.specs.Dens.{column_dens, dens}
use Rattle.kf_capacity.specs.Grids.{ChannelTree, cell_den, column_in, denominator}
use Rattle.kf_capacity.proofs.Denominators.{AllWeigh, dens_positive}
use Rattle.kf_capacity.proofs.Pieces.{in_pieces}
use Rattle.kf_channel.specs.Channels.{AreSecrets}

-- so many n-ths, as often as the whole is, are the part, n times
part_of : (whole n part : ℕ) → reduced_den (pos part) whole ∣ n → whole * parts_of n part whole ≡ n * part
part_of whole n part divides =
    let g : ℕ = gcd_of part whole in
    let a : ℕ = unsigned_abs (reduced_num (pos part) whole) in
    let d : ℕ = reduced_den (pos part) whole in
    let num : a * g ≡ part = ap (λ (k : ℕ). k * g) (reduced_num_abs (pos part) whole) ∙ div-mul_cancel g (gcd_is part whole).0 in
    let den : d * g ≡ whole = reduced_den_times (pos part) whole in
    let times : (n / d) * d ≡ n = div-mul_cancel d divides in
    ap (λ (k : ℕ). k * (a * (n / d))) (sym den) ∙ cross d g a (n / d) ∙ (λ i. times i * num i)
  where
    cross : (d g a q : ℕ) → d * g * (a * q) ≡ q * d * (a * g)
    cross d g a q = grind arith

module _ (c : ChannelTree) (secrets : AreSecrets c.rows c.secrets) where
  abbrev over : ℕ
  over = denominator c

  pub weigh : AllWeigh c
  weigh i d within = (secrets.listed (get_or c.secrets i d)).0 (i, within, get_or_default c.secrets i (get_or c.secrets i d) d within)

  pub over_some : 0 < over
  over_some = common_positive (dens c c.rows) (dens_positive c weigh)

  module _ (k : ℕ) (d : Row) (within : k < length c.rows) (i : ℕ) (here : i < length c.secrets) where
    abbrev row : Row
    row = get_or c.rows k d

    abbrev secret : ℕ
    secret = get_or c.secrets i 0

    divided : cell_den c row secret ∣ over
    divided =
        subst (λ (n : ℕ). n ∣ over) (get_or-map (cell_den c row) c.secrets i 0 0 here)
        (All-get_or (λ n. n ∣ over) (column_dens c row) i 0 (omega (arith, here, length-map c.secrets (cell_den c row)))
        (in_pieces (λ n. n ∣ over) (column_dens c) c.rows (common_divided (dens c c.rows) (dens_positive c weigh)) k d within))

    pub cell_weighs : value_weight c.rows secret * get_or (column_in over c row) i 0 ≡ over * weight_at row.column secret
    cell_weighs =
        ap (λ (n : ℕ). value_weight c.rows secret * n)
        (get_or-map (λ (x : ℕ). parts_of over (weight_at row.column x) (value_weight c.rows x)) c.secrets i 0 0 here)
        ∙ part_of (value_weight c.rows secret) over (weight_at row.column secret) divided
