-- A text with its full source, and one whose stores are few.
use Rattle.std.proofs.Common.{◌≡◌, ◌<◌, ◌≤◌, le-leb, ℕ, List, ◌++◌, codes, if◌then◌else◌, Ok, Err, refl, sym, ap, subst, ◌∙◌}
use Rattle.std.specs.Fmt.{decimal}
use Rattle.std.proofs.lemmas.Bool.{lt-leb}
use Rattle.kf_ast.specs.Sources.{SourceTree}
use Rattle.kf_ast.specs.Views.{source_tree}
use Rattle.kf_check.specs.Translation.{Typed}
use Rattle.kf_core.specs.Views.{program_tree}
use Rattle.kf_load.specs.Steps.{Refused, refusal}
use Rattle.kf_load.specs.Stops.{IsProper}
use Rattle.kf_load.specs.Texts as load
use Rattle.kf_load.specs.Views.{text_of}
use Rattle.kf_load.specs.declared.text.Text.{Text}
use Rattle.kf_prior.specs.FullSources.{initial_stores}
use Rattle.kf_prior.specs.Laws.{IsFull}
use Rattle.kf_top.specs.Outcome.{few_stores}
use Rattle.kf_top.specs.Stops.{full_tree}

-- the program of a text with its full source is that of a full source
pub is_full : (name : List ℕ) (text full : Text) → IsProper text → IsProper full → source_tree full.source ≡ full_tree (text_of name text) → IsFull (program_tree full.program)
is_full name text full proper proper_too same = record {
  types = (program_tree text.program).types;
  tree = source_tree text.source;
  program = program_tree text.program;
  built = proper.built;
  typed = proper.typed;
  are_types = refl;
  full = subst (λ (tree : SourceTree). Typed tree (program_tree full.program)) same proper_too.typed;
}

abbrev many_stores : List ℕ → ℕ → Refused
many_stores name count = refusal 8 name (codes ": " ++ (decimal count ++ codes " stores"))

-- a text whose stores are few, and one whose stores are too many
pub has_few : (t : load.Text) → initial_stores t.program.types t.source ≤ 4096 → Ok t ≡ few_stores t
has_few t few =
    ap (λ b. if b then Ok t else Err (many_stores t.name (initial_stores t.program.types t.source))) (sym (le-leb (initial_stores t.program.types t.source) 4096 few))

pub has_many : (t : load.Text) (count : ℕ) → count ≡ initial_stores t.program.types t.source → 4096 < count → Err (many_stores t.name count) ≡ few_stores t
has_many t count is many =
    ap (λ (n : ℕ). Err (many_stores t.name n)) is
    ∙ ap (λ b. if b then Ok t else Err (many_stores t.name (initial_stores t.program.types t.source)))
    (sym (lt-leb (initial_stores t.program.types t.source) 4096 (subst (λ (n : ℕ). 4096 < n) is many)))
