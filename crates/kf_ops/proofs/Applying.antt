-- From a place of the table and fitting arguments to the operator's answer.
use Rattle.std.proofs.Common.{◌≡◌, ℕ, zero, suc, ◌<◌, ◌≤◌, List, [], ◌∷◌, length, map, take, get_or, slice_get, Some, Result, Ok, Err, IfOk, refl, sym, ap, ◌∙◌, subst, arith}
use Rattle.std.specs.List.{All, AllByRecursion as Each}
use Rattle.std.specs.Option.{option_map}
use Rattle.std.proofs.lemmas.List.{length-map}
use Rattle.std.proofs.lemmas.List.Elements.{All-from_recursion, recursion_from_All}
use Rattle.std.proofs.lemmas.Option.{get_or_from_slice_get, slice_get-map}
use Rattle.kf_value.specs.Kinds.{KindTree}
use Rattle.kf_value.specs.Values.{ValueTree}
use Rattle.kf_value.specs.Forms.{IsWellFormed}
use Rattle.kf_value.specs.Views.{value_tree}
use Rattle.kf_value.specs.declared.value.Value.{Value}
use Rattle.kf_value.proofs.ListLemmas.{each_at}
use Rattle.kf_ops.specs.Answers.{Answers}
use Rattle.kf_ops.specs.Fitting.{EachFits, Fits, FitsRow, FitsWell}
use Rattle.kf_ops.specs.Places.{IsRow}
use Rattle.kf_ops.specs.Laws.{KeepsKinds}
use Rattle.kf_ops.specs.Rows.{Row, operators}
use Rattle.kf_ops.specs.Table.{codes_of}
use Rattle.kf_ops.specs.Views.{row_of, rows_of}
use Rattle.kf_ops.specs.Values.{Fault, applied}
use Rattle.kf_ops.specs.declared.fault.OpFault.{OpFault}
use Rattle.kf_ops.specs.declared.row.Op.{Op}
use Rattle.kf_ops.specs.declared.row.OpRow.{OpRow}
use Rattle.kf_ops.specs.declared.row.Pat.{Pat}
use Rattle.kf_ops.proofs.Keeping.{keep_kinds}
use Rattle.kf_ops.proofs.Sound.{TakesSome, take_some}

-- ---- the row at a place

read_row : (table : List OpRow) (place : ℕ) (d : OpRow) → place < length table → slice_get (rows_of table) place ≡ Some (row_of (get_or table place d))
read_row [] place d within = absurd (omega arith)
read_row (x ∷ xs) zero d within = refl
read_row (x ∷ xs) (suc place) d within = read_row xs place d (omega arith)

-- the operator of a row is listed at the row's place
pub code_listed : (codes : List Op) (place : ℕ) (d : Op) → codes_of operators ≡ codes → (r : Row) → IsRow place r → r.code ≡ get_or codes place d
code_listed codes place d same r here =
    let there : slice_get codes place ≡ Some r.code =
    ap (λ cs. slice_get cs place) (sym same) ∙ (slice_get-map (λ (o : Row). o.code) operators place ∙ ap (option_map (λ (o : Row). o.code)) here) in
    sym (get_or_from_slice_get codes place r.code d there)

pub row_at : (table : List OpRow) (place number : ℕ) (d : OpRow) → rows_of table ≡ operators → place ≡ number → place < length operators
    → IsRow number (row_of (get_or table place d))
row_at table place number d same is within =
    let inside : place < length table = subst (λ n. place < n) (sym (ap length same) ∙ length-map table row_of) within in
    ap (slice_get operators) (sym is) ∙ (ap (λ rows. slice_get rows place) (sym same) ∙ read_row table place d inside)

-- ---- fitting arguments

as_many : (k : KindTree) (ps : List Pat) (vs : List ValueTree) → EachFits k ps vs → length vs ≡ length ps
as_many k [] [] h = refl
as_many k [] (v ∷ vs) h = absurd h
as_many k (p ∷ ps) [] h = absurd h
as_many k (p ∷ ps) (v ∷ vs) h = ap suc (as_many k ps vs h.1)

well_formed : (k : KindTree) (ps : List Pat) (vs : List ValueTree) → EachFits k ps vs → Each IsWellFormed vs
well_formed k [] [] h = tt
well_formed k [] (v ∷ vs) h = absurd h
well_formed k (p ∷ ps) [] h = absurd h
well_formed k (p ∷ ps) (v ∷ vs) h = (h.0.1, well_formed k ps vs h.1)

module _ (place : ℕ) (args : List Value) (fits : FitsRow place (map value_tree args)) where
  pub some_few : (1 ≤ length args) × (length args ≤ 3)
  some_few =
      let row = fits.row in
      let some = each_at TakesSome operators place row (recursion_from_All TakesSome operators take_some) fits.here in
      let many = sym (length-map args value_tree) ∙ as_many fits.kind (take row.arity row.args) (map value_tree args) fits.fits in
      subst (λ n. (1 ≤ n) × (n ≤ 3)) (sym many) some

  pub all_formed : All IsWellFormed (map value_tree args)
  all_formed =
      let row = fits.row in
      All-from_recursion IsWellFormed (map value_tree args) (well_formed fits.kind (take row.arity row.args) (map value_tree args) fits.fits)

-- ---- the answer

answered : (k : KindTree) (p : Pat) (result : Result Value OpFault) (defined : Result ValueTree Fault) → Answers result defined
    → IfOk defined (FitsWell k p) → IfOk result (λ v. FitsWell k p (value_tree v))
answered k p (Ok v) defined h fits = subst (λ d. IfOk d (FitsWell k p)) h fits
answered k p (Err e) defined h fits = tt

pub answer_fits : (place : ℕ) (code : Op) (args : List ValueTree) (result : Result Value OpFault) → ((r : Row) → IsRow place r → r.code ≡ code)
    → Answers result (applied code args) → (r : Row) (k : KindTree) → IsRow place r → Fits k r args → IfOk result (λ v. FitsWell k r.result (value_tree v))
answer_fits place code args result is answers r k here fits =
    let keeps = each_at KeepsKinds operators place r keep_kinds here in
    answered k r.result result (applied code args) answers (subst (λ c. IfOk (applied c args) (FitsWell k r.result)) (is r here) (keeps k args fits))
