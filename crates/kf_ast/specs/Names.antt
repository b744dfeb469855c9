-- Believed: a name where it stands.
use Rattle.std.specs.Prelude.{ℕ, List}

pub data NameTree : Type 0 where
  -- its text and its place
  name : List ℕ → ℕ → NameTree
