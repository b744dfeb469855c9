-- The secrets of a channel have weights, and the channel in whole numbers is a grid.
use Rattle.std.proofs.Common.{◌≡◌, ℕ, ◌*◌, ◌/◌, ◌<◌, ◌≤◌, pos, unsigned_abs, List, All, map, sum_by, length, get_or, refl, sym, ◌∙◌, subst, arith}
use Rattle.std.proofs.Math.Nat.{mul-div_cancel', div-le_of_le-mul}
use Rattle.std.proofs.lemmas.List.{get_or-map, length-map}
use Rattle.std.proofs.lemmas.List.Elements.{All-get_or, All-from_get_or, All-map, All-weaker}
use Rattle.std.proofs.lemmas.List.Sums.{get_or-le-sum_by}
use Prim.Native.Nat.{◌∣◌}
use Rattle.kf_frac.specs.Divisors.{gcd_of}
use Rattle.kf_frac.specs.Fractions.{limit, reduced_num, reduced_den, parts_of}
use Rattle.kf_frac.proofs.CommonDivisors.{gcd_is}
use Rattle.kf_frac.proofs.LowestTerms.{reduced_num_abs, reduced_den_is}
use Rattle.kf_frac.proofs.Multiples.{common_positive, common_divided}
use Rattle.kf_column.specs.declared.entry.Entry.{Entry}
use Rattle.kf_column.specs.Columns.{weight_at, values}
use Rattle.kf_column.specs.Traces.{Row, value_weight}
use Rattle.kf_hyper.proofs.Searching.{weight_found}
use Rattle.kf_channel.specs.declared.channel.Channel.{Channel}
use Rattle.kf_channel.specs.Laws.{RowsSumToOne}
use Rattle.kf_channel.specs.Shapes.{IsChannel}
use Rattle.kf_channel.specs.Views.{rows_of}
use Rattle.kf_capacity.specs.Dens.{column_dens, dens}
use Rattle.kf_capacity.specs.Grids.{ChannelTree, cell, cell_den, denominator, column_in, channel_grid}
use Rattle.kf_capacity.specs.Shapes.{IsStochastic, IsGrid}
use Rattle.kf_capacity.specs.Views.{channel_tree}
use Rattle.kf_capacity.proofs.Denominators.{AllWeigh, dens_positive}
use Rattle.kf_capacity.proofs.Pieces.{in_pieces, sum_of_made}

-- each secret of a channel has a weight
secrets_weigh : (size : ℕ) (rows : List Row) (secrets : List Entry) → IsChannel size rows secrets
    → All (λ x. 0 < value_weight rows x) (values secrets)
secrets_weigh size rows secrets is =
    All-from_get_or (λ x. 0 < value_weight rows x) (values secrets) 0
    (λ i within.
    let d : Entry = record { value = 0; weight = 0 } in
    let inside : i < length secrets = simp length-map at within in
    let here : get_or (values secrets) i 0 ≡ (get_or secrets i d).value = get_or-map (λ (e : Entry). e.value) secrets i d 0 inside in
    let found = weight_found secrets (get_or secrets i d).value i d is.column inside refl in
    subst (λ (x : ℕ). 0 < value_weight rows x) (sym here)
    (omega (arith, is.whole (get_or secrets i d).value, found, is.column.positive i d inside)))

pub channel_weighs : (c : Channel) → AllWeigh (channel_tree c)
channel_weighs c = secrets_weigh _ (rows_of c) c.secrets c.channel

pub some_denominator : (c : Channel) → 0 < denominator (channel_tree c)
some_denominator c =
    let tree : ChannelTree = channel_tree c in
    common_positive (dens tree tree.rows) (dens_positive tree (channel_weighs c))

-- ---- cells

-- a part of a whole in lowest terms is one still
pub part_fits : (part whole : ℕ) → part ≤ whole → unsigned_abs (reduced_num (pos part) whole) ≤ reduced_den (pos part) whole
part_fits part whole within =
    let g : ℕ = gcd_of part whole in
    let times : g * (whole / g) ≡ whole = mul-div_cancel' g (gcd_is part whole).1 in
    let below : part ≤ g * (whole / g) = omega (arith, times, within) in
    rw (reduced_num_abs (pos part) whole, reduced_den_is (pos part) whole) (div-le_of_le-mul g below)

-- a cell is at most 1
pub cell_fits : (c : ChannelTree) (x j : ℕ) (none : Row) → j < length c.rows
    → (let share = cell c (get_or c.rows j none) x in share.part ≤ share.whole)
cell_fits c x j none within = get_or-le-sum_by (λ (r : Row). weight_at r.column x) c.rows j none within

-- ---- the grid

module _ (c : ChannelTree) (weigh : AllWeigh c) (i : ℕ) (within : i < length c.secrets) where
  abbrev secret : ℕ
  secret = get_or c.secrets i 0

  some : 0 < value_weight c.rows secret
  some = All-get_or (λ x. 0 < value_weight c.rows x) c.secrets i 0 within weigh

  -- the denominators of its cells divide that of the channel
  pub cells_divide : All (λ row. reduced_den (pos (weight_at row.column secret)) (value_weight c.rows secret) ∣ denominator c) c.rows
  cells_divide =
      All-weaker (λ (row : Row). All (λ d. d ∣ denominator c) (column_dens c row)) (λ (row : Row). cell_den c row secret ∣ denominator c)
      (λ row all.
      subst (λ (d : ℕ). d ∣ denominator c) (get_or-map (cell_den c row) c.secrets i 0 0 within)
      (All-get_or (λ d. d ∣ denominator c) (column_dens c row) i 0 (simp length-map within) all))
      c.rows (in_pieces (λ d. d ∣ denominator c) (column_dens c) c.rows (common_divided (dens c c.rows) (dens_positive c weigh)))

  -- its numbers sum to the denominator
  summed : RowsSumToOne → sum_by (λ column. get_or column i 0) (map (column_in (denominator c) c) c.rows) ≡ denominator c
  summed sums =
      let part : Row → ℕ = λ row. parts_of (denominator c) (cell c row secret).part (cell c row secret).whole in
      sum_of_made (λ (column : List ℕ). get_or column i 0) (column_in (denominator c) c) part
      (λ row. get_or-map (λ (x : ℕ). parts_of (denominator c) (cell c row x).part (cell c row x).whole) c.secrets i 0 0 within) c.rows
      ∙ sums c.rows secret (denominator c) some cells_divide

-- of any channel tree whose secrets have weights
pub grid_stochastic : RowsSumToOne → (c : ChannelTree) → AllWeigh c → IsStochastic (channel_grid c)
grid_stochastic sums c weigh = record {
  some = common_positive (dens c c.rows) (dens_positive c weigh);
  long = All-map (λ (column : List ℕ). length column ≡ length c.secrets) (column_in (denominator c) c) c.rows
      (λ k d within. length-map c.secrets (λ (x : ℕ). parts_of (denominator c) (cell c (get_or c.rows k d) x).part (cell c (get_or c.rows k d) x).whole));
  sums = λ i within. summed c weigh i within sums;
}

-- and of a channel, where the denominator is within the limit
pub channel_is_grid : RowsSumToOne → (c : Channel) → denominator (channel_tree c) ≤ limit → IsGrid (channel_grid (channel_tree c))
channel_is_grid sums c narrow = record { stochastic = grid_stochastic sums (channel_tree c) (channel_weighs c); narrow = narrow }
