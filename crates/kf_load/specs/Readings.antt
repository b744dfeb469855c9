-- Believed: which readings a call over files may have had.
use Rattle.std.specs.Prelude.{◌≡◌, ℕ, List, IsTrue, is_some}
use Rattle.std.specs.declared.option.Option.{Option}
use Rattle.std.specs.Option.{ForSome, MatchOption}
use Rattle.kf_io.specs.Faults.{Rose}
use Rattle.kf_load.specs.Texts.{File}

-- of a file: its bytes, which are those that files tell, or a failed read, which raised the file's count
abbrev pub WasRead : Option (List ℕ → List ℕ) → (List ℕ → ℕ) → (List ℕ → ℕ) → File → Type 0
WasRead told before now file =
    MatchOption file.reading (Rose (before file.name) (now file.name)) (λ bytes. ForSome told (λ contents. bytes ≡ contents file.name))

-- no read of the file failed
abbrev pub IsRead : File → Type 0
IsRead file = IsTrue (is_some file.reading)
