-- Believed: which operator a token stands for, by where it stands. All of it is read from the operator table.
use Rattle.std.specs.Prelude.{◌≡◌, ◌≤◌, ℕ, slice_get, List, [], codes}
use Rattle.std.specs.Option.{option_map_or}
use Rattle.kf_ops.specs.Rows.{operators}
use Rattle.kf_ops.specs.Places.{number_of}
use Rattle.kf_ops.specs.declared.row.Op.{Op}
use Rattle.kf_ops.specs.declared.row.Op.TheVariants as op
use Rattle.kf_lex.specs.declared.token.Tok.{Tok}
use Rattle.kf_lex.specs.Lexemes.{Spells}

-- how tightly an operator binds, as its row of the table says
abbrev pub level_of : Op → ℕ
level_of op = option_map_or (λ row. row.level) (slice_get operators (number_of op)) 0

-- how many arguments it takes
abbrev pub arity_of : Op → ℕ
arity_of op = option_map_or (λ row. row.arity) (slice_get operators (number_of op)) 0

-- its word
abbrev pub word_of : Op → List ℕ
word_of op = option_map_or (λ row. row.word) (slice_get operators (number_of op)) []

-- how it is written before an operand: as its word, but for the minus, whose word in the table is `~`
abbrev pub prefix_word : Op → List ℕ
prefix_word op.Negate = codes "-"
prefix_word op = word_of op

-- the token is this operator between two operands
pub record IsBetween (k : Tok) (op : Op) : Type 0 where
  pub spelled : Spells k (word_of op)
  pub two : arity_of op ≡ 2
  pub low : level_of op ≤ 7

-- the token is this operator before its operand
pub record IsBefore (k : Tok) (op : Op) : Type 0 where
  pub spelled : Spells k (prefix_word op)
  pub one : arity_of op ≡ 1
  pub low : level_of op ≤ 7

-- the token is this operator before its arguments in parentheses
pub record IsCalling (k : Tok) (op : Op) : Type 0 where
  pub spelled : Spells k (word_of op)
  pub high : level_of op ≡ 8
