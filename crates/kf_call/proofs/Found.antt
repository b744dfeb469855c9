-- What a read gives of a file that is there.
use Rattle.std.proofs.Common.{◌≡◌, ◌≢◌, ℕ, ◌<◌, inr, Bool, Result, Ok, Err, IfOk, IsErr, List, [], length, position, None, Some, Option, refl, sym, ◌∙◌, subst, ⊎_elim, arith}
use Rattle.std.proofs.lemmas.Bool.Decides.{nat_tests}
use Rattle.std.proofs.lemmas.List.Folds.{find_at}
use Rattle.std.proofs.lemmas.Option.{slice_get_cases}
use Rattle.std.specs.List.{find, position_or_len}
use Rattle.std.specs.Option.{option_map_or}
use Rattle.kf_io.specs.Entries.{FilesState, ReadFails, has_name, bytes_of}
use Rattle.kf_io.specs.Reads.{Gives}
use Rattle.kf_io.specs.declared.lists.FileEntry.{FileEntry}
use Rattle.kf_call.specs.Contents.{contents_of}

module _ {X : Type 0} (p : X → Bool) (xs : List X) where
  inside : (place : ℕ) → position p xs ≡ Some place → position_or_len p xs < length xs
  inside place is = grind (arith, nat_tests)

  -- what isn't found has no place
  no_place : (o : Option ℕ) → position p xs ≡ o → find p xs ≡ None → position p xs ≡ None
  no_place None is none = is
  no_place (Some place) is none =
      let here = inside place is in
      absurd (⊎_elim (λ first. let none_is = sym none ∙ find_at p xs ∙ first.2 in cc) (λ past. omega (arith, past.0, here))
      (slice_get_cases xs (position_or_len p xs)).1)

module _ (files : List FileEntry) (missing name : List ℕ) (there : position (has_name name) files ≢ None) where
  by_found : (o : Option FileEntry) → find (has_name name) files ≡ o
      → option_map_or (λ (f : FileEntry). f.bytes) o [] ≡ option_map_or (λ (f : FileEntry). f.bytes) o missing
  by_found None none = absurd (there (no_place (has_name name) files (position (has_name name) files) refl none))
  by_found (Some file) is = refl

  -- where the name has a file, it makes no difference what a missing one might hold
  pub gives_same : (at k : ℕ) (buf : List ℕ) → Gives (bytes_of files name) at k buf → Gives (contents_of files missing name) at k buf
  gives_same at k buf gives = subst (λ bytes. Gives bytes at k buf) (by_found (find (has_name name) files) refl) gives

-- what a read gives of the caller's files
pub given_same : {E : Type 0} (s : FilesState) (missing name : List ℕ) (at : ℕ) (buf : List ℕ) (r : Result ℕ E)
    → (ReadFails s name → IsErr r) → IfOk r (λ k. Gives (bytes_of s.files name) at k buf) → IfOk r (λ k. Gives (contents_of s.files missing name) at k buf)
given_same s missing name at buf (Ok k) fails gives = gives_same s.files missing name (λ none. let no = fails (inr none) in absurd (cc)) at k buf gives
given_same s missing name at buf (Err e) fails gives = tt
