-- Believed by a caller from C: what the files of a call hold, by name.
use Rattle.std.specs.Prelude.{◌≡◌, ℕ, List, None, find}
use Rattle.std.specs.Option.{option_map_or}
use Rattle.std.specs.declared.option.Option.{Option}
use Rattle.kf_io.specs.Entries as entries
use Rattle.kf_io.specs.declared.lists.FileEntry.{FileEntry}

-- the first file of this name
abbrev pub file_named : List FileEntry → List ℕ → Option FileEntry
file_named files name = find (entries.has_name name) files

-- no file has this name
abbrev pub IsMissing : List FileEntry → List ℕ → Type 0
IsMissing files name = file_named files name ≡ None

-- the bytes of the first file of this name; where no file has it, those that a missing file might hold
abbrev pub contents_of : List FileEntry → List ℕ → List ℕ → List ℕ
contents_of files missing name = option_map_or (λ file. file.bytes) (file_named files name) missing

-- For bodies: the files of a call with their counts of faults, and what a missing file might hold
pub record FilesState : Type 0 where
  pub files : entries.FilesState
  pub missing : List ℕ
