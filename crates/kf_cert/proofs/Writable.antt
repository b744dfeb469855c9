-- A verdict of the program can be read back: its fractions are in lowest terms, and its table has its bounds.
use Rattle.std.proofs.Common.{List, [], ◌∷◌, map, sym}
use Rattle.std.specs.Prelude.{All}
use Rattle.std.proofs.lemmas.List.Elements.{All-nil, All-cons}
use Rattle.kf_frac.specs.declared.frac.Frac.{Frac}
use Rattle.kf_frac.proofs.LowestTerms.{reduced_num_same, reduced_den_same}
use Rattle.kf_value.specs.Targets.{Item}
use Rattle.kf_cert.specs.Shapes.{IsWritable}
use Rattle.kf_refine.specs.Views.{fraction_of, verdict_tree}
use Rattle.kf_refine.specs.declared.verdict.Verdict.{Verdict}
use Rattle.kf_refine.specs.declared.verdict.Verdict.TheVariants as verdict
use Rattle.kf_cert.specs.Views.{IsLowest, HasSmall, IsPrintable}

lowest : (f : Frac) → IsLowest (fraction_of f)
lowest f = record {
  positive = f.positive;
  num = sym (reduced_num_same f.num f.den f.reduced);
  den = sym (reduced_den_same f.num f.den f.reduced);
  narrow_num = f.num_fits;
  narrow_den = f.den_fits;
}

lowest_row : (row : List Frac) → All IsLowest (map fraction_of row)
lowest_row [] = All-nil IsLowest
lowest_row (f ∷ row) = All-cons IsLowest (fraction_of f) (map fraction_of row) (lowest f) (lowest_row row)

lowest_rows : (rows : List (List Frac)) → All (All IsLowest) (map (map fraction_of) rows)
lowest_rows [] = All-nil (All IsLowest)
lowest_rows (row ∷ rows) = All-cons (All IsLowest) (map fraction_of row) (map (map fraction_of) rows) (lowest_row row) (lowest_rows rows)

pub printable : (target : List Item) (v : Verdict) → IsWritable target (verdict_tree v) → HasSmall (verdict_tree v) → IsPrintable target (verdict_tree v)
printable target (verdict.Yes m) can small = record { lowest = lowest_rows m.rows; small = small }
printable target (verdict.No t) can small = (t.shape, can)
