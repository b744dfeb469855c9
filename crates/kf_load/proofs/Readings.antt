-- A file that is too long has some reading that is.
use Rattle.std.proofs.Common.{◌≡◌, ◌<◌, ◌+◌, ℕ, List, length, replicate, codes, Option, None, Some, Err, arith, refl, sym, subst}
use Rattle.std.specs.Option.{ForSome}
use Rattle.std.proofs.lemmas.List.{length-replicate}
use Rattle.kf_load.specs.Steps.{refusal}
use Rattle.kf_load.specs.Stops.{ReadingFor, Told}
use Rattle.kf_load.specs.declared.refusal.Stop.{Stop}
use Rattle.kf_load.proofs.Faults.{is_long_file}
use Rattle.kf_load.specs.Refusals.{bytes_read}

-- bytes that files may tell, and of which there are too many
pub record IsTooLong (told : Option (List ℕ → List ℕ)) (name bytes : List ℕ) : Type 0 where
  pub told_so : Told told name bytes
  pub long : 1048576 < length bytes

-- there are lists of every length
long_list : (n : ℕ) → (bytes : List ℕ) × (n < length bytes)
long_list n = (replicate (n + 1) 0, subst (λ (m : ℕ). n < m) (sym (length-replicate (n + 1) 0)) (omega arith))

too_long : (n : ℕ) (name : List ℕ) → (bytes : List ℕ) × Told None name bytes × (n < length bytes)
too_long n name = let some = long_list n in (some.0, λ contents e. absurd (cc), some.1)

pub some_too_long : (told : Option (List ℕ → List ℕ)) (name : List ℕ) → ForSome told (λ contents. 1048576 < length (contents name)) → (bytes : List ℕ) × IsTooLong told name bytes
some_too_long None name h = let some = too_long 1048576 name in (some.0, record { told_so = some.1; long = some.2 })
some_too_long (Some contents) name h = (contents name, record { told_so = λ other e. (cc); long = h contents refl })

pub long_reading : (told : Option (List ℕ → List ℕ)) (before now : List ℕ → ℕ) (s : Stop) (name : List ℕ) → ForSome told (λ contents. 1048576 < length (contents name))
    → (reading : Option (List ℕ)) × ReadingFor told before now s name reading × (Err (refusal 11 name (codes ": longer than 1048576 bytes")) ≡ bytes_read name reading)
long_reading told before now s name h =
    let some = some_too_long told name h in
    (Some some.0, record { read = some.1.told_so; fails = tt }, is_long_file name some.0 some.1.long)
