-- Believed: how signs and reserved words are written. All of it is ASCII.
use denote.Enum.Bare.{sameb}
use Rattle.std.specs.Prelude.{ℕ, List, [], ◌∷◌, Option, find, codes}
use Rattle.std.specs.Map.{lookup}
use Rattle.std.specs.Option.{option_and_then, option_or}
use Rattle.std.specs.Str.{bytes_eq}
use Rattle.kf_ops.specs.Rows.{operators}
use Rattle.kf_ops.specs.contracts.row.Op.{the_type}
use Rattle.kf_ops.specs.declared.row.Op.{Op}
use Rattle.kf_ops.specs.declared.row.Op.TheVariants as op
use Rattle.kf_lex.specs.declared.token.Sign.{Sign}
use Rattle.kf_lex.specs.declared.token.Sign.TheVariants as sign
use Rattle.kf_lex.specs.declared.token.Word.{Word}
use Rattle.kf_lex.specs.declared.token.Word.TheVariants as word

-- the bytes of each sign
abbrev pub sign_text : Sign → List ℕ
sign_text sign.Assign = codes ":="
sign_text sign.Colon = codes ":"
sign_text sign.Semi = codes ";"
sign_text sign.Comma = codes ","
sign_text sign.ParenOpen = codes "("
sign_text sign.ParenClose = codes ")"
sign_text sign.BraceOpen = codes "{"
sign_text sign.BraceClose = codes "}"
sign_text sign.Range = codes ".."
sign_text sign.Dot = codes "."
sign_text sign.Slash = codes "/"
sign_text sign.Equal = codes "="
sign_text sign.NotEqual = codes "!="
sign_text sign.AtMost = codes "<="
sign_text sign.Less = codes "<"
sign_text sign.AtLeast = codes ">="
sign_text sign.Greater = codes ">"
sign_text sign.Plus = codes "+"
sign_text sign.Minus = codes "-"
sign_text sign.Star = codes "*"

-- the reserved words that are no operators, each with its letters
abbrev pub own_words : List (List ℕ × Word)
own_words =
    (codes "var", word.VarWord) ∷ (codes "vis", word.VisWord) ∷ (codes "bool", word.BoolWord)
    ∷ (codes "set", word.SetWord) ∷ (codes "of", word.OfWord) ∷ (codes "about", word.AboutWord)
    ∷ (codes "old", word.OldWord) ∷ (codes "skip", word.SkipWord) ∷ (codes "observe", word.ObserveWord)
    ∷ (codes "if", word.IfWord) ∷ (codes "else", word.ElseWord) ∷ (codes "while", word.WhileWord)
    ∷ (codes "uniform", word.UniformWord) ∷ (codes "choose", word.ChooseWord) ∷ (codes "flip", word.FlipWord)
    ∷ (codes "true", word.TrueWord) ∷ (codes "false", word.FalseWord) ∷ []

-- the operators that are written with letters, each with its word; the letters themselves stand in the operator's row
abbrev pub operator_words : List (Op × Word)
operator_words =
    (op.Or, word.OrWord) ∷ (op.And, word.AndWord) ∷ (op.Not, word.NotWord) ∷ (op.Elem, word.InWord)
    ∷ (op.Union, word.UnionWord) ∷ (op.Without, word.LessWord) ∷ (op.Div, word.DivWord) ∷ (op.Mod, word.ModWord)
    ∷ (op.Inter, word.InterWord) ∷ (op.Size, word.SizeWord) ∷ (op.Cond, word.CondWord) ∷ (op.Xor, word.XorWord)
    ∷ (op.Implies, word.ImpliesWord) ∷ (op.Subset, word.SubsetWord) ∷ (op.Min, word.MinWord) ∷ (op.Max, word.MaxWord)
    ∷ (op.Abs, word.AbsWord) ∷ []

-- the reserved word with these letters, if there is one: one that is no operator, or that of the operator of the first row with them
unfoldable pub reserved : List ℕ → Option Word
reserved text =
    option_or (lookup (λ letters. bytes_eq letters text) own_words)
    (option_and_then (λ row. lookup (λ code. sameb the_type code row.code) operator_words) (find (λ row. bytes_eq row.word text) operators))
