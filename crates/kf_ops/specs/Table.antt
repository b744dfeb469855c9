-- For bodies: the row of a word, and what a sound table is.
use Rattle.std.specs.Prelude.{◌≡◌, ◌≢◌, ◌<◌, ◌≤◌, ℕ, Bool, slice_get, List, Option, Some, None, length, map, take, drop}
use Rattle.std.specs.List.{All, AllPairs, AllWithin, HoldsAt}
use Rattle.std.specs.Str.{bytes_eq}
use Rattle.kf_ops.specs.Rows.{Row}
use Rattle.kf_ops.specs.Places.{number_of}
use Rattle.kf_ops.specs.declared.row.Op.{Op}
use Rattle.kf_ops.specs.declared.row.Pat.TheVariants as pat

-- this row has this word
abbrev pub HasWord : List ℕ → Row → Type 0
HasWord word row = row.word ≡ word

-- the same as a test
abbrev pub has_word : List ℕ → Row → Bool
has_word word row = bytes_eq row.word word

-- the row at this place has the word, and no earlier row has it
pub record IsFirstWith (table : List Row) (word : List ℕ) (place : ℕ) : Type 0 where
  pub within : place < length table
  pub here : HoldsAt (HasWord word) table place
  pub before : AllWithin (λ row. ¬ HasWord word row) table 0 place

-- the answer to a search for a word: the place of its first row, or none where no row has it
abbrev pub IsPlaceOf : List Row → List ℕ → Option ℕ → Type 0
IsPlaceOf table word None = All (λ row. ¬ HasWord word row) table
IsPlaceOf table word (Some place) = IsFirstWith table word place

-- the words of a table, in the order of its rows
abbrev pub words_of : List Row → List (List ℕ)
words_of table = map (λ row. row.word) table

-- its operators, in the order of its rows
abbrev pub codes_of : List Row → List Op
codes_of table = map (λ row. row.code) table

-- no two rows have the same word
abbrev pub HasDistinctWords : List Row → Type 0
HasDistinctWords table = AllPairs (λ word other. word ≢ other) (words_of table)

-- no two rows have the same operator
abbrev pub HasDistinctCodes : List Row → Type 0
HasDistinctCodes table = AllPairs (λ code other. code ≢ other) (codes_of table)

-- the level is one of eight
abbrev pub HasLevel : Row → Type 0
HasLevel row = (1 ≤ row.level) × (row.level ≤ 8)

-- the first arguments, as many as the arity, are there, and no others
pub record HasArity (row : Row) : Type 0 where
  pub within : row.arity ≤ length row.args
  pub taken : All (λ arg. arg ≢ pat.Nothing) (take row.arity row.args)
  pub rest : All (λ arg. arg ≡ pat.Nothing) (drop row.arity row.args)

-- the row of each operator stands at the operator's number
abbrev pub HasRowAtNumber : List Row → Type 0
HasRowAtNumber table = (code : Op) → slice_get (codes_of table) (number_of code) ≡ Some code
