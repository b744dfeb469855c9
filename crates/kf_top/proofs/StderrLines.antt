-- Lines, piece by piece.
use Rattle.std.proofs.Common.{◌≡◌, ℕ, List, [], ◌++◌, codes, arith}
use Rattle.std.specs.Fmt.{decimal}
use Rattle.std.proofs.lemmas.Grind.{common_steps}
use Rattle.kf_load.specs.Steps.{message}
use Rattle.kf_load.specs.Stops.{placed}

pub bad_line : (name word l c : List ℕ) (line column : ℕ) → l ≡ decimal line → c ≡ decimal column
    → codes "kuifje: " ++ (name ++ (codes ":" ++ (l ++ (codes ":" ++ (c ++ (codes ": " ++ (word ++ (codes "\n" ++ [])))))))) ≡ message name (placed line column word)
bad_line name word l c line column p q = rw (p, q) (grind (arith, common_steps))

pub cells_line : (digits : List ℕ) (cells : ℕ) → digits ≡ decimal cells
    → codes "kuifje: tableau has " ++ (digits ++ (codes " cells\n" ++ [])) ≡ message [] (codes "tableau has " ++ (decimal cells ++ codes " cells"))
cells_line digits cells p = rw p (grind (arith, common_steps))

pub channel_cells_line : (digits : List ℕ) (cells : ℕ) → digits ≡ decimal cells
    → codes "kuifje: channel has " ++ (digits ++ (codes " cells\n" ++ [])) ≡ message [] (codes "channel has " ++ (decimal cells ++ codes " cells"))
channel_cells_line digits cells p = rw p (grind (arith, common_steps))

pub pivots_line : (digits : List ℕ) (pivots : ℕ) → digits ≡ decimal pivots
    → codes "kuifje: tableau passes 2^62 after " ++ (digits ++ (codes " pivots\n" ++ []))
    ≡ message [] (codes "tableau passes 2^62 after " ++ (decimal pivots ++ codes " pivots"))
pivots_line digits pivots p = rw p (grind (arith, common_steps))

pub stores_line : (name digits : List ℕ) (stores : ℕ) → digits ≡ decimal stores
    → codes "kuifje: " ++ (name ++ (codes ": " ++ (digits ++ (codes " stores\n" ++ [])))) ≡ message name (codes ": " ++ (decimal stores ++ codes " stores"))
stores_line name digits stores p = rw p (grind (arith, common_steps))

pub statements_line : (name digits : List ℕ) (statements : ℕ) → digits ≡ decimal statements
    → codes "kuifje: " ++ (name ++ (codes ": " ++ (digits ++ (codes " statements\n" ++ [])))) ≡ message name (codes ": " ++ (decimal statements ++ codes " statements"))
statements_line name digits statements p = rw p (grind (arith, common_steps))
