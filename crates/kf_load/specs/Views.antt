-- For bodies: what the code's values show.
use Rattle.std.specs.Prelude.{List, ℕ, Vec, [], ◌∷◌, ◌+◌, length, not, reverse}
use Rattle.std.specs.declared.alloc.Global.{Global}
use Rattle.std.specs.List.{filter, take_while}
use Rattle.kf_ast.specs.Views.{source_tree}
use Rattle.kf_core.specs.Programs.{ProgramTree}
use Rattle.kf_core.specs.Views.{program_tree}
use Rattle.kf_support.specs.declared.cleared.Cleared.{Cleared}
use Rattle.kf_support.specs.Cleared.{program_of}
use Rattle.kf_load.specs.Texts as load
use Rattle.kf_load.specs.declared.clear.Pair.{Pair}
use Rattle.kf_load.specs.declared.clear.Texts.{Texts}
use Rattle.kf_load.specs.declared.text.Text.{Text}
use Rattle.kf_load.specs.Place.{is_line_feed}

abbrev pub bytes_in : Vec ℕ Global → List ℕ
bytes_in v = v.items

-- a file's text, by its name
abbrev pub text_of : List ℕ → Text → load.Text
text_of name t = record { name = name; bytes = t.bytes.items; source = source_tree t.source; program = program_tree t.program }

-- the program of a cleared one
abbrev pub program_in : Cleared → ProgramTree
program_in cleared = program_tree (program_of cleared)

-- the programs of two cleared ones
abbrev pub programs_in : Pair → List ProgramTree
programs_in pair = program_in pair.first ∷ program_in pair.second ∷ []

-- the texts of two files of these names
abbrev pub texts_in : List ℕ → List ℕ → Texts → List load.Text
texts_in first second texts = text_of first texts.first ∷ text_of second texts.second ∷ []

-- one more than the line feeds among bytes: the line after them
abbrev pub line_after : List ℕ → ℕ
line_after bytes = length (filter is_line_feed bytes) + 1

-- one more than the bytes after the last line feed among them, or than all bytes: the column after them
abbrev pub column_after : List ℕ → ℕ
column_after bytes = length (take_while (λ b. not (is_line_feed b)) (reverse bytes)) + 1
