-- What holds of what `lines` comes to for a text, and of what every other command comes to for programs, holds of what each command comes to.
use Rattle.std.proofs.Common.{◌≡◌, ℕ, List, [], ◌∷◌, length, Err, refl, arith}
use Rattle.kf_gain.specs.Gains.{GainOf}
use Rattle.kf_load.specs.Steps.{After, Gives, Step}
use Rattle.kf_load.specs.Texts.{File, TextOf}
use Rattle.kf_top.specs.Answer.{Shown, usage}
use Rattle.kf_top.specs.Outcome.{FilesOutcome, LinesUnder, ProgramsOutcome}
use Rattle.kf_words.specs.Task.{Command, Lines}

pub each_command : (P : Step Shown → Type 0) (turns : ℕ) (tables : List File) (command : Command) (programs : List File)
    → (((word : GainOf (List ℕ)) → command ≡ Lines word → ⊥) → P (ProgramsOutcome command turns programs tables))
    → ((word : GainOf (List ℕ)) (file : File) → command ≡ Lines word → programs ≡ file ∷ [] → P (After (TextOf file) (LinesUnder word turns tables)))
    → ((word : GainOf (List ℕ)) → command ≡ Lines word → (length programs ≡ 1 → ⊥) → P (Gives (Err usage)))
    → P (FilesOutcome command turns programs tables)
each_command P turns tables (Lines word) [] on_programs on_text unnamed = unnamed word refl (λ one. omega (arith, one))
each_command P turns tables (Lines word) (file ∷ []) on_programs on_text unnamed = on_text word file refl refl
each_command P turns tables (Lines word) (f ∷ g ∷ files) on_programs on_text unnamed = unnamed word refl (λ one. omega (arith, one))
each_command P turns tables command programs on_programs on_text unnamed = on_programs (λ word is. absurd (cc))
