-- A line may be added in front of lines or behind them.
use Rattle.std.proofs.Common.{◌≡◌, ◌+◌, ℕ, zero, suc, List, ◌++◌, append-nil, append_assoc, add-one, sym, ap, ◌∙◌}
use Rattle.kf_make.specs.Making.{make_source}
use Rattle.kf_make.specs.Made.{make_lines, make_head, make_line}

line_behind : (k : ℕ) → make_lines k ++ make_line ≡ make_lines (suc k)
line_behind zero = sym (append-nil make_line)
line_behind (suc k) = append_assoc make_line (make_lines k) make_line ∙ ap (λ text. make_line ++ text) (line_behind k)

-- one line more is the source of one observation more
pub one_more : (k : ℕ) (text longer : List ℕ) → text ≡ make_source k → longer ≡ text ++ make_line → longer ≡ make_source (k + 1)
one_more k text longer e f =
    rw (add-one k) (f ∙ ap (λ x. x ++ make_line) e ∙ append_assoc make_head (make_lines k) make_line ∙ ap (λ x. make_head ++ x) (line_behind k))
