-- The file whose place a look-up finds is the one that its name stands for.
use Rattle.std.proofs.Common.{◌≡◌, ℕ, ◌<◌, ◌≤◌, Bool, List, [], length, get_or, position, None, Some, refl, sym, ◌∙◌, ap, subst, arith, drop, slice_get}
use Rattle.std.proofs.lemmas.List.Folds.{find_at}
use Rattle.std.proofs.lemmas.List.{drop_all}
use Rattle.std.proofs.lemmas.Bool.Decides.{nat_tests}
use Rattle.std.proofs.lemmas.Option.{slice_get_past, slice_get_read}
use Rattle.std.specs.Option.{option_map_or}
use Rattle.std.specs.declared.option.Option.{Option}
use Rattle.std.specs.List.{find, position_or_len}
use Rattle.kf_io.specs.Entries.{has_name, bytes_of}
use Rattle.kf_io.specs.Reads.{Gives}
use Rattle.kf_io.specs.declared.lists.FileEntry.{FileEntry}

module _ {X : Type 0} (p : X → Bool) (xs : List X) where
  at_place : (place : ℕ) → Some place ≡ position p xs → place ≡ position_or_len p xs
  at_place place here = grind (arith, nat_tests)

  inside : (place : ℕ) → Some place ≡ position p xs → position_or_len p xs < length xs
  inside place here = grind (arith, nat_tests)

  found : (place : ℕ) (x : X) → Some place ≡ position p xs → x ≡ get_or xs place x → find p xs ≡ Some x
  found place x here is =
      let same = at_place place here in
      let within = inside place here in
      find_at p xs ∙ ap (λ i. slice_get xs i) (sym same) ∙ slice_get_read xs (length xs) place x refl (omega arith) is

  not_found : None ≡ position p xs → find p xs ≡ None
  not_found none =
      let past : length xs ≤ position_or_len p xs = grind (arith, nat_tests) in
      find_at p xs ∙ slice_get_past xs (position_or_len p xs) past

module _ (files : List FileEntry) (name : List ℕ) where
  bytes_by : (o : Option FileEntry) → find (has_name name) files ≡ o → bytes_of files name ≡ option_map_or (λ (f : FileEntry). f.bytes) o []
  bytes_by o is = ap (λ o. option_map_or (λ (f : FileEntry). f.bytes) o []) is

  -- what a read gives of the file at the place, it gives of the name
  pub gives_found : (place : ℕ) (file : FileEntry) (at k : ℕ) (buf : List ℕ)
      → Some place ≡ position (has_name name) files → file ≡ get_or files place file → Gives file.bytes at k buf → Gives (bytes_of files name) at k buf
  gives_found place file at k buf here is gives =
      subst (λ bytes. Gives bytes at k buf) (sym (bytes_by (Some file) (found (has_name name) files place file here is))) gives

  -- a name that no file has stands for no bytes
  pub gives_none : (at : ℕ) (buf : List ℕ) → None ≡ position (has_name name) files → Gives (bytes_of files name) at 0 buf
  gives_none at buf none =
      subst (λ bytes. Gives bytes at 0 buf) (sym (bytes_by None (not_found (has_name name) files none)))
      (record { bytes = ap (λ (n : ℕ). drop {A = ℕ} n []) (omega arith); end = λ zero some. drop_all at [] (omega arith) })
