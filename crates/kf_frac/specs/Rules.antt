-- Believed: rules one after the other, each with the answer where it is broken.
use Rattle.std.specs.Prelude.{◌≡◌, ◌⊎◌}

-- a rule with the answer where it is broken, and what comes next where it holds
abbrev pub Unless : {R : Type 0} → Type 0 → R → (R → Type 0) → R → Type 0
Unless holds broken next r = ((holds → ⊥) × (r ≡ broken)) ⊎ (holds × next r)
