-- For bodies: the words of operators, and the operator whose word a token spells.
use denote.Enum.Bare.{sameb}
use Rattle.std.specs.Prelude.{List, [], ◌∷◌, Option, Some, None, if◌then◌else◌, ℕ}
use Rattle.std.specs.Map.{lookup}
use Rattle.std.specs.Option.{option_and_then}
use Rattle.std.specs.Str.{bytes_eq}
use Rattle.kf_ops.specs.Rows.{Row, operators}
use Rattle.kf_ops.specs.declared.row.Op.{Op}
use Rattle.kf_ops.specs.contracts.row.Op.{the_type as op_type}
use Rattle.kf_lex.specs.contracts.token.Word.{the_type}
use Rattle.kf_lex.specs.declared.token.Tok.{Tok}
use Rattle.kf_lex.specs.declared.token.Tok.TheVariants as tok
use Rattle.kf_lex.specs.declared.token.Word.{Word}
use Rattle.kf_lex.specs.Words.{operator_words, sign_text, own_words}
use mathlib.Core.List.{foldr}

-- the word of an operator, where it is written with letters
abbrev pub word_of : Op → Option Word
word_of o = lookup (λ code. sameb op_type code o) operator_words

-- the operator of the first row with these letters
abbrev pub operator_with : List Row → List ℕ → Option Op
operator_with rows text = foldr (λ (row : Row) later. if bytes_eq row.word text then Some row.code else later) None rows

-- the operator that the list pairs with the word
abbrev pub op_in : List (Op × Word) → Word → Option Op
op_in [] w = None
op_in (pair ∷ pairs) w = if sameb the_type pair.1 w then Some pair.0 else op_in pairs w

abbrev pub op_of : Word → Option Op
op_of w = op_in operator_words w

-- the operator whose row has the token's text
abbrev pub operator_of : Tok → Option Op
operator_of tok.Name = None
operator_of (tok.Number n) = None
operator_of (tok.Word w) = op_of w
operator_of (tok.Sign s) = operator_with operators (sign_text s)

-- the word that the list pairs with the operator
abbrev pub word_in : List (Op × Word) → Op → Option Word
word_in pairs o = lookup (λ code. sameb op_type code o) pairs

-- the word of that operator
abbrev pub operator_word : List ℕ → Option Word
operator_word text = option_and_then word_of (operator_with operators text)

-- the reserved word with these letters that is no operator
abbrev pub own_word : List ℕ → Option Word
own_word text = lookup (λ letters. bytes_eq letters text) own_words
