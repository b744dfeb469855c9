-- Believed by a caller from C: the words and the files that a caller's bytes are.
use Rattle.std.specs.Prelude.{ℕ, ◌≤◌, List, All, length, map, slice_range, IsUtf8}
use Rattle.kf_io.specs.declared.lists.FileEntry.{FileEntry}
use Rattle.kf_call.specs.declared.spans.Span.{Span}
use Rattle.kf_call.specs.declared.spans.FileSpans.{FileSpans}

-- the bytes of a span
abbrev pub piece : List ℕ → Span → List ℕ
piece bytes span = slice_range bytes span.from span.end

-- the span lies within the bytes
pub record IsWithin (bytes : List ℕ) (span : Span) : Type 0 where
  pub order : span.from ≤ span.end
  pub end : span.end ≤ length bytes

-- the span is a text
pub record IsText (bytes : List ℕ) (span : Span) : Type 0 where
  pub within : IsWithin bytes span
  pub utf8 : IsUtf8 (piece bytes span)

-- the file lies within the bytes, and its name is a text
pub record IsFile (bytes : List ℕ) (file : FileSpans) : Type 0 where
  pub name : IsText bytes file.name
  pub contents : IsWithin bytes file.contents

abbrev pub AreTexts : List ℕ → List Span → Type 0
AreTexts bytes spans = All (IsText bytes) spans

abbrev pub AreFiles : List ℕ → List FileSpans → Type 0
AreFiles bytes files = All (IsFile bytes) files

-- the spans are words and files
pub record IsCall (bytes : List ℕ) (words : List Span) (files : List FileSpans) : Type 0 where
  pub words_are : AreTexts bytes words
  pub files_are : AreFiles bytes files

abbrev pub words_in : List ℕ → List Span → List (List ℕ)
words_in bytes words = map (piece bytes) words

abbrev pub file_in : List ℕ → FileSpans → FileEntry
file_in bytes file = record { name = piece bytes file.name; bytes = piece bytes file.contents }

abbrev pub files_in : List ℕ → List FileSpans → List FileEntry
files_in bytes files = map (file_in bytes) files
