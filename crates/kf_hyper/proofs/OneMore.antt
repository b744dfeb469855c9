-- What a loop over columns has made, with the column that it makes of the next.
use Rattle.std.proofs.Common.{◌≡◌, ℕ, ◌+◌, ◌<◌, List, [], ◌∷◌, ◌++◌, map, length, take, get_or, sym, ◌∙◌, ap, arith}
use Rattle.std.proofs.lemmas.List.{map-append, take_more}
use Rattle.std.proofs.lemmas.List.Sums.{sum_by_push}
use Rattle.kf_hyper.specs.declared.column.Column.{Column}
use Rattle.kf_column.specs.Columns.{total}
use Rattle.kf_column.specs.Joint.{mass}

module _ (columns list : List Column) (i : ℕ) (column made : Column) (inside : i < length columns) (is : column ≡ get_or columns i column) where
  read_more : take (i + 1) columns ≡ take i columns ++ column ∷ []
  read_more = take_more columns i column inside ∙ ap (λ (c : Column). take i columns ++ c ∷ []) (sym is)

  pub mapped_push : {A : Type 0} (f g : Column → A) → map f list ≡ map g (take i columns) → f made ≡ g column → map f (list ++ made ∷ []) ≡ map g (take (i + 1) columns)
  mapped_push {A} f g so_far same =
      map-append f list (made ∷ []) ∙ ap (λ (xs : List A). xs ++ f made ∷ []) so_far ∙ ap (λ (x : A). map g (take i columns) ++ x ∷ []) same
      ∙ sym (map-append g (take i columns) (column ∷ [])) ∙ ap (map g) (sym read_more)

  pub mass_push : mass list ≡ mass (take i columns) → total made ≡ total column → mass (list ++ made ∷ []) ≡ mass (take (i + 1) columns)
  mass_push so_far same = omega (arith, so_far, same, sum_by_push total list made, sum_by_push total (take i columns) column, ap mass read_more)
