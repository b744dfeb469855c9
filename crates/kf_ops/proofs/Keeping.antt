-- From fitting arguments comes a value that fits the row's result.
use Rattle.std.proofs.Common.{ℤ, pos, ◌+ℤ◌, ◌-ℤ◌, ◌*ℤ◌, neg_ℤ, Bool, true, false, not, List, [], ◌∷◌, IfOk, Result, Ok, Err}
use Rattle.std.specs.Int.{int_div_euclid, int_rem_euclid}
use Rattle.std.specs.Prelude.{if◌then◌else◌, unsigned_abs}
use Rattle.std.specs.Ordering.{int_eq}
use Rattle.std.specs.List.{AllByRecursion as Each, filter}
use Rattle.std.specs.List.Sorted.{IsStrictlySortedBy}
use Rattle.kf_value.specs.Kinds.{KindTree}
use Rattle.kf_value.specs.Forms.{HasKind, AllHaveKind, IsWellFormed, EachWellFormed}
use Rattle.kf_value.specs.Values.{ValueTree, ValueTrees, Truth, Whole, Tuple, Set, no_value, more_values, parts, parts_list, order, elements, truth, whole}
use Rattle.kf_value.proofs.Ascending.{formed_set}
use Rattle.kf_value.proofs.ListLemmas.{each_weaker}
use Rattle.kf_ops.specs.Rows.{operators}
use Rattle.kf_ops.specs.Fitting.{EachFits, FitsWell}
use Rattle.kf_ops.specs.Laws.{KeepsKinds}
use Rattle.kf_ops.specs.Values.{applied, row_value, narrow, is_i64, is_in, Fault, DivZero, ArithWide}
use Rattle.kf_ops.specs.Sets.{either}
use Rattle.kf_ops.specs.declared.row.Op.{Op}
use Rattle.kf_ops.specs.declared.row.Op.TheVariants as op
use Rattle.kf_ops.specs.declared.row.Pat.{Pat}
use Rattle.kf_ops.specs.declared.row.Pat.TheVariants as pat
use Rattle.kf_ops.proofs.Readings.{elements_ascend}
use Rattle.kf_ops.proofs.SetLaws.{each_filter, sorted_either, sorted_filter}
use Rattle.kf_ops.proofs.Ascending.{each_either}
use Rattle.kf_ops.proofs.EachRow.{arg_at, each_row, row_at}

-- ---- arguments one by one

module _ (k : KindTree) (result : Pat) (code : Op) where
  abbrev Gives : ValueTree → ValueTree → ValueTree → Type 0
  Gives a b c = IfOk (row_value code a b c) (FitsWell k result)

  one : (p : Pat) → ((a : ValueTree) → FitsWell k p a → Gives a a a) → (args : List ValueTree) → EachFits k (p ∷ []) args
      → IfOk (applied code args) (FitsWell k result)
  one p gives [] fits = absurd fits
  one p gives (a ∷ []) fits = gives a fits.0
  one p gives (a ∷ b ∷ others) fits = absurd fits.1

  two : (p q : Pat) → ((a b : ValueTree) → FitsWell k p a → FitsWell k q b → Gives a b a) → (args : List ValueTree) → EachFits k (p ∷ q ∷ []) args
      → IfOk (applied code args) (FitsWell k result)
  two p q gives [] fits = absurd fits
  two p q gives (a ∷ []) fits = absurd fits.1
  two p q gives (a ∷ b ∷ []) fits = gives a b fits.0 fits.1.0
  two p q gives (a ∷ b ∷ c ∷ others) fits = absurd fits.1.1

  three : (p q r : Pat) → ((a b c : ValueTree) → FitsWell k p a → FitsWell k q b → FitsWell k r c → Gives a b c) → (args : List ValueTree)
      → EachFits k (p ∷ q ∷ r ∷ []) args → IfOk (applied code args) (FitsWell k result)
  three p q r gives [] fits = absurd fits
  three p q r gives (a ∷ []) fits = absurd fits.1
  three p q r gives (a ∷ b ∷ []) fits = absurd fits.1.1
  three p q r gives (a ∷ b ∷ c ∷ []) fits = gives a b c fits.0 fits.1.0 fits.1.1.0
  three p q r gives (a ∷ b ∷ c ∷ d ∷ others) fits = absurd fits.1.1.1

-- ---- what each kind of row gives

whole_fits : (b : Bool) (k : KindTree) (z : ℤ) → IfOk (if b then Ok (Whole z) else Err ArithWide) (FitsWell k pat.Int)
whole_fits true k z = (tt, tt)
whole_fits false k z = tt

divided_fits : (b : Bool) (k : KindTree) (r : Result ValueTree Fault) → IfOk r (FitsWell k pat.Int)
    → IfOk (if b then Err DivZero else r) (FitsWell k pat.Int)
divided_fits true k r h = tt
divided_fits false k r h = h

abbrev Elements : KindTree → List ValueTree → Type 0
Elements k us = Each (λ u. HasKind u k × IsWellFormed u) us

listed : (k : KindTree) (vs : ValueTrees) → AllHaveKind vs k → EachWellFormed vs → Elements k (parts_list vs)
listed k no_value kinds forms = tt
listed k (more_values v vs) kinds forms = ((kinds.0, forms.0), listed k vs kinds.1 forms.1)

elements_fit : (k : KindTree) (v : ValueTree) → FitsWell k pat.SetOfAny v → Elements k (elements v)
elements_fit k (Truth b) h = absurd h.0
elements_fit k (Whole i) h = absurd h.0
elements_fit k (Tuple vs) h = absurd h.0
elements_fit k (Set vs) h = listed k vs h.0 h.1.1

have_kind : (k : KindTree) (us : List ValueTree) → Elements k us → AllHaveKind (parts us) k
have_kind k [] h = tt
have_kind k (u ∷ us) h = (h.0.0, have_kind k us h.1)

set_fits : (k : KindTree) (us : List ValueTree) → IsStrictlySortedBy order us → Elements k us → FitsWell k pat.SetOfAny (Set (parts us))
set_fits k us ascends h =
    (have_kind k us h, formed_set us ascends (each_weaker (λ u. HasKind u k × IsWellFormed u) IsWellFormed (λ u both. both.1) us h))

chosen_fits : (b : Bool) (k : KindTree) (v w : ValueTree) → FitsWell k pat.Any v → FitsWell k pat.Any w → FitsWell k pat.Any (if b then v else w)
chosen_fits true k v w hv hw = hv
chosen_fits false k v w hv hw = hw

filter_fits : (k : KindTree) (test : ValueTree → Bool) (v : ValueTree) → FitsWell k pat.SetOfAny v
    → FitsWell k pat.SetOfAny (Set (parts (filter test (elements v))))
filter_fits k test v h =
    set_fits k (filter test (elements v)) (sorted_filter test (elements v) (elements_ascend v h.1))
    (each_filter test (λ u. HasKind u k × IsWellFormed u) (elements v) (elements_fit k v h))

either_fits : (k : KindTree) (v w : ValueTree) → FitsWell k pat.SetOfAny v → FitsWell k pat.SetOfAny w
    → FitsWell k pat.SetOfAny (Set (parts (either (elements v) (elements w))))
either_fits k v w hv hw =
    set_fits k (either (elements v) (elements w)) (sorted_either (elements v) (elements w) (elements_ascend w hw.1))
    (each_either (λ u. HasKind u k × IsWellFormed u) (elements v) (elements w) (elements_fit k v hv) (elements_fit k w hw))

-- ---- the rows

wholes : (code : Op) → ((k : KindTree) (a b : ValueTree) → IfOk (row_value code a b a) (FitsWell k pat.Int)) → (k : KindTree)
    (args : List ValueTree) → EachFits k (pat.Int ∷ pat.Int ∷ []) args → IfOk (applied code args) (FitsWell k pat.Int)
wholes code gives k = two k pat.Int code pat.Int pat.Int (λ a b ha hb. gives k a b)

-- those with no line of their own give a Boolean or a whole number of two arguments
keeps : (code : Op) → KeepsKinds (row_at code)
keeps op.Not = λ k. one k pat.Bool op.Not pat.Bool (λ a ha. (tt, tt))
keeps op.Add = wholes op.Add (λ k a b. whole_fits (is_i64 (whole a +ℤ whole b)) k (whole a +ℤ whole b))
keeps op.Subtract = wholes op.Subtract (λ k a b. whole_fits (is_i64 (whole a -ℤ whole b)) k (whole a -ℤ whole b))
keeps op.Union = λ k. two k pat.SetOfAny op.Union pat.SetOfAny pat.SetOfAny (λ a b ha hb. either_fits k a b ha hb)
keeps op.Without = λ k. two k pat.SetOfAny op.Without pat.SetOfAny pat.SetOfAny (λ a b ha hb. filter_fits k (λ v. not (is_in v (elements b))) a ha)
keeps op.Multiply = wholes op.Multiply (λ k a b. whole_fits (is_i64 (whole a *ℤ whole b)) k (whole a *ℤ whole b))
keeps op.Div = wholes op.Div (λ k a b.
    divided_fits (int_eq (whole b) (pos 0)) k (narrow (int_div_euclid (whole a) (whole b)))
    (whole_fits (is_i64 (int_div_euclid (whole a) (whole b))) k (int_div_euclid (whole a) (whole b))))
keeps op.Mod = wholes op.Mod (λ k a b. divided_fits (int_eq (whole b) (pos 0)) k (Ok (Whole (int_rem_euclid (whole a) (whole b)))) (tt, tt))
keeps op.Inter = λ k. two k pat.SetOfAny op.Inter pat.SetOfAny pat.SetOfAny (λ a b ha hb. filter_fits k (λ v. is_in v (elements b)) a ha)
keeps op.Negate = λ k. one k pat.Int op.Negate pat.Int (λ a ha. whole_fits (is_i64 (neg_ℤ (whole a))) k (neg_ℤ (whole a)))
keeps op.Size = λ k. one k pat.Int op.Size pat.SetOfAny (λ a ha. (tt, tt))
keeps op.Cond = λ k. three k pat.Any op.Cond pat.Bool pat.Any pat.Any (λ a b c ha hb hc. chosen_fits (truth a) k b c hb hc)
keeps op.Abs = λ k. one k pat.Int op.Abs pat.Int (λ a ha. whole_fits (is_i64 (pos (unsigned_abs (whole a)))) k (pos (unsigned_abs (whole a))))
keeps code = λ k. two k (row_at code).result code (arg_at code 0) (arg_at code 1) (λ a b ha hb. (tt, tt))

pub keep_kinds : Each KeepsKinds operators
keep_kinds = each_row KeepsKinds keeps
