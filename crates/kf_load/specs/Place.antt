-- Believed: where a byte of a text stands.
use Rattle.std.specs.Prelude.{ℕ, ◌+◌, ◌==◌, Bool, not, List, length, take, reverse}
use Rattle.std.specs.List.{filter, take_while}

abbrev pub is_line_feed : ℕ → Bool
is_line_feed b = b == 10

-- the line of a byte: one more than the line feeds before it
abbrev pub line_at : List ℕ → ℕ → ℕ
line_at bytes at = length (filter is_line_feed (take at bytes)) + 1

-- its column: one more than the bytes after the last line feed before it, or than all bytes before it
abbrev pub column_at : List ℕ → ℕ → ℕ
column_at bytes at = length (take_while (λ b. not (is_line_feed b)) (reverse (take at bytes))) + 1
