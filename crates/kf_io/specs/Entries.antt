-- For bodies: files in memory, by name, and the state of those whose reads may fail.
use Rattle.std.specs.Prelude.{◌≡◌, ◌≢◌, ◌⊎◌, ℕ, Bool, List, [], None, length, position, replicate, slice_index, Contains}
use Rattle.std.specs.List.{find}
use Rattle.std.specs.Option.{option_map_or}
use Rattle.std.specs.Str.{bytes_eq}
use Rattle.kf_io.specs.declared.lists.FileEntry.{FileEntry}
use Rattle.kf_io.specs.Counts.{raised}

-- whether a file has this name
abbrev pub has_name : List ℕ → FileEntry → Bool
has_name name file = bytes_eq file.name name

-- the bytes of the first file of this name, and none where there is no such file
abbrev pub bytes_of : List FileEntry → List ℕ → List ℕ
bytes_of files name = option_map_or (λ file. file.bytes) (find (has_name name) files) []

-- the count of the first file of this name, and for all other names together the last one
abbrev pub count_of : List FileEntry → List ℕ → ℕ → List ℕ → ℕ
count_of files counts other name =
    option_map_or (λ place. slice_index counts place) (position (has_name name) files) other

-- files whose reads never fail
pub record SureState : Type 0 where
  pub files : List FileEntry
  -- the most bytes that one read gives
  pub piece : ℕ

-- files whose reads may fail
pub record FilesState : Type 0 where
  pub files : List FileEntry
  -- the most bytes that one read gives
  pub piece : ℕ
  -- the numbers of the calls that fail
  pub fail : List ℕ
  -- the number of the next call
  pub calls : ℕ
  -- how often a read of each file has failed, and a read of any other name
  pub counts : List ℕ
  pub other : ℕ

-- files before the first call
abbrev pub fresh_files : List FileEntry → ℕ → List ℕ → FilesState
fresh_files files piece fail =
    record { files = files; piece = piece; fail = fail; calls = 0; counts = replicate (length files) 0; other = 0 }

-- a read fails where its number is listed, or no file has the name
abbrev pub ReadFails : FilesState → List ℕ → Type 0
ReadFails s name = Contains s.fail s.calls ⊎ (position (has_name name) s.files ≡ None)

-- how often a read of this name has failed
abbrev pub faults_of : FilesState → List ℕ → ℕ
faults_of s = count_of s.files s.counts s.other

-- a fault raises the count of its name alone
pub record RaisesOne (before now : FilesState) (name : List ℕ) : Type 0 where
  pub kept : now ≡ record before { calls = raised before.calls; counts = now.counts; other = now.other }
  pub one : faults_of now name ≡ raised (faults_of before name)
  pub others : (n : List ℕ) → position (has_name n) before.files ≢ position (has_name name) before.files
      → faults_of now n ≡ faults_of before n
