-- For bodies: which tokens begin a declaration or a statement.
use Rattle.std.specs.Prelude.{Bool, true, false, ℕ, List, length, slice_get}
use Rattle.std.specs.Option.{option_map_or}
use Rattle.kf_lex.specs.declared.token.Tok.{Tok}
use Rattle.kf_lex.specs.declared.token.Tok.TheVariants as t
use Rattle.kf_lex.specs.declared.token.Word.TheVariants as w
use Rattle.kf_lex.specs.declared.token.Token.{Token}
use Rattle.kf_ast.specs.Sources.{SourceTree}
use Rattle.kf_parse.specs.Programs.{IsProgram}

abbrev pub begins_declaration : Tok → Bool
begins_declaration (t.Word w.VarWord) = true
begins_declaration (t.Word w.VisWord) = true
begins_declaration _ = false

abbrev pub begins_statement : Tok → Bool
begins_statement t.Name = true
begins_statement (t.Word w.SkipWord) = true
begins_statement (t.Word w.ObserveWord) = true
begins_statement (t.Word w.IfWord) = true
begins_statement (t.Word w.WhileWord) = true
begins_statement _ = false

-- the byte place of the first of these tokens, or the end of the source
abbrev pub place_in : List ℕ → List Token → ℕ
place_in src ts = option_map_or (λ (o : Token). o.start) (slice_get ts 0) (length src)

-- the tokens are those of no program
abbrev pub IsNoProgram : List ℕ → List Token → Type 0
IsNoProgram src ts = (tree : SourceTree) → IsProgram src ts tree → ⊥
