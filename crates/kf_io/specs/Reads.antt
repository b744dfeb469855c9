-- For bodies: what a read gives of a file whose bytes are told.
use Rattle.std.specs.Prelude.{◌≡◌, ℕ, ◌+◌, ◌<◌, ◌≤◌, List, [], ◌++◌, length, take, drop, Vec, Result, Ok, Err}
use Rattle.std.specs.declared.alloc.Global.{Global}
use Rattle.kf_io.specs.declared.errors.ReadError.{ReadError}
use Rattle.kf_io.specs.declared.errors.ReadError.TheVariants as error

-- a read at `at` put k of the file's bytes into the buffer, and none only where the file has none there
pub record Gives (file : List ℕ) (at k : ℕ) (buf : List ℕ) : Type 0 where
  pub bytes : drop at file ≡ take k buf ++ drop (at + k) file
  pub end : k ≡ 0 → 0 < length buf → drop at file ≡ []

-- the file begins with these bytes
abbrev pub IsFront : List ℕ → List ℕ → Type 0
IsFront file bytes = file ≡ bytes ++ drop (length bytes) file

-- the answer to reading a file whole, where no read of it fails
abbrev pub IsWhole : List ℕ → Result (Vec ℕ Global) ReadError → Type 0
IsWhole file (Ok bytes) = (bytes.items ≡ file) × (length file ≤ 1048576)
IsWhole file (Err error.TooLong) = 1048576 < length file
IsWhole file (Err error.Mem) = Unit {0}
IsWhole file (Err error.Failed) = ⊥
