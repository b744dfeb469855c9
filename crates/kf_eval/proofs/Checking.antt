-- What a checked expression asks of its parts, and what its parts' values give.
use Rattle.std.proofs.Common.{◌≡◌, ◌≢◌, ℕ, ◌<◌, true, false, List, [], ◌∷◌, ◌++◌, length, map, take, drop, get_or, slice_get, Some, IfOk, MatchResult, IsErrAnd, Result, Ok, Err, refl, sym, ap, ◌∙◌, subst, arith, Box, Global}
use Rattle.std.specs.List.{AllByRecursion as Each}
use Rattle.std.specs.Option.{option_map}
use Rattle.std.proofs.lemmas.List.{append_assoc, append-nil, length-map, map-append}
use Rattle.std.proofs.lemmas.Option.{slice_get_within, get_or_from_slice_get}
use Rattle.kf_value.specs.Values.{ValueTree, Truth, truth}
use Rattle.kf_value.specs.Forms.{IsWellFormed, HasKind}
use Rattle.kf_value.specs.Kinds.{KindTree, TupleKind, kind_parts, kind_of}
use Rattle.kf_value.specs.Types.{product}
use Rattle.kf_value.specs.Shapes.{shape_types, shape_sizes}
use Rattle.kf_value.specs.Stores.{stores}
use Rattle.kf_value.specs.Numbers.{IsStore}
use Rattle.kf_value.specs.Views.{value_tree}
use Rattle.kf_value.specs.declared.shape.Shape.{Shape}
use Rattle.kf_value.specs.declared.mem.Mem.{Mem}
use Rattle.kf_value.specs.declared.value.Value.{Value}
use Rattle.kf_value.proofs.ListLemmas.{each_at, left_step, mapped_read}
use Rattle.kf_ops.specs.Answers.{Answers as OpAnswers}
use Rattle.kf_ops.specs.Fitting.{FitsRow}
use Rattle.kf_ops.specs.Places.{IsRow, pattern_kind}
use Rattle.kf_ops.specs.Rows.{Row, operators}
use Rattle.kf_ops.specs.Values.{Fault, DivZero, ArithWide, applied}
use Rattle.kf_ops.specs.declared.fault.OpFault.{OpFault}
use Rattle.kf_ops.specs.declared.fault.OpFault.TheVariants as fault
use Rattle.kf_ops.specs.declared.row.Op.{Op}
use Rattle.kf_ops.specs.declared.row.Op.TheVariants as op
use Rattle.kf_ops.proofs.EachRow.{each_row, row_at}
use Rattle.kf_core.specs.Runs.{store_at}
use Rattle.kf_core.specs.Exs.{ExTree, Const, Slot, Apply, Tuple, SetOf, Part}
use Rattle.kf_core.specs.Views.{exs_list, ex_items, ex_tree}
use Rattle.kf_core.specs.Results.{then_ok}
use Rattle.kf_core.specs.Evaluation.{Evaluated, ev, evs, all_values, operated, operator_at}
use Rattle.kf_core.specs.Checked.{Kinded, EachKinded, AllKinded, truth as truth_kinded, whole, slot, apply, tuple, set, part, none, more, no_more, and_more}
use Rattle.kf_core.specs.Laws.{AreOfKinds, GivesKind, KeepsKinds, StoresHaveKinds}
use Rattle.kf_core.specs.declared.ex.Ex.{Ex}
use Rattle.kf_core.specs.declared.ex.ExList.{ExList}
use Rattle.kf_core.specs.declared.ex.Ex.TheVariants as ex
use Rattle.kf_core.proofs.Keeping.{EachGives, all_given, fitting, joined, kinded_length}
use Rattle.kf_core.proofs.Trees.{ex_tree-Slot, ex_tree-Part, ex_tree-Apply}
use Rattle.kf_eval.specs.Answers.{Answers, IsFaultOf, at_all, error_of}
use Rattle.kf_eval.specs.declared.fault.EvalError.{EvalError}
use Rattle.kf_eval.specs.declared.fault.EvalError.TheVariants as error
use Rattle.kf_eval.specs.Kinds.{shape_kinds, IsKinded, AreKinded, HasPart}
use Rattle.kf_core.proofs.Stores.{store_is}
use Rattle.kf_core.specs.Each.{at_row, exs}

-- ---- parts of a checked expression

exs_list-exs : (xs : List ExTree) → exs_list (exs xs) ≡ xs
exs_list-exs [] = refl
exs_list-exs (x ∷ xs) = ap (λ ys. x ∷ ys) (exs_list-exs xs)

-- an operator at arguments of the kinds that its row takes
pub record CallsRow (ks : List KindTree) (place : ℕ) (xs : List ExTree) : Type 0 where
  pub row : Row
  pub here : IsRow place row
  pub any : KindTree
  pub args : EachKinded ks xs (map (pattern_kind any) (take row.arity row.args))

module _ (ks : List KindTree) where
  abbrev Inner : ExTree → KindTree → Type 0
  Inner (Const v) k = Unit {0}
  Inner (Slot i) k = slice_get ks i ≡ Some k
  Inner (Apply place xs) k = CallsRow ks place (exs_list xs)
  Inner (Tuple xs) k = AreKinded ks (exs_list xs)
  Inner (SetOf xs) k = AreKinded ks (exs_list xs)
  Inner (Part x n) k = (js : List KindTree) × Kinded ks x (TupleKind (kind_parts js)) × (slice_get js n ≡ Some k)

  pub each_kinded : {xs : List ExTree} {js : List KindTree} → EachKinded ks xs js → AreKinded ks xs
  each_kinded none = tt
  each_kinded (more x xs) = ((_, x), each_kinded xs)

  all_kinded : {xs : List ExTree} {k : KindTree} → AllKinded ks xs k → AreKinded ks xs
  all_kinded no_more = tt
  all_kinded (and_more x xs) = ((_, x), all_kinded xs)

  inner : {x : ExTree} {k : KindTree} → Kinded ks x k → Inner x k
  inner (truth_kinded b) = tt
  inner (whole n) = tt
  inner (slot i at) = at
  inner (apply place r any {xs} here args) = subst (CallsRow ks place) (sym (exs_list-exs xs)) (record { row = r; here = here; any = any; args = args })
  inner (tuple {xs} {js} args long) = subst (AreKinded ks) (sym (exs_list-exs xs)) (each_kinded args)
  inner (set {xs} {k} args some) = subst (AreKinded ks) (sym (exs_list-exs xs)) (all_kinded args)
  inner (part {x} n js {k} of at) = (js, of, at)

  pub calls_row : (place : ℕ) (xs : List ExTree) → IsKinded ks (Apply place (exs xs)) → CallsRow ks place xs
  calls_row place xs h = subst (CallsRow ks place) (exs_list-exs xs) (inner h.1)

  pub parts_kinded : (xs : List ExTree) → IsKinded ks (Tuple (exs xs)) → AreKinded ks xs
  parts_kinded xs h = subst (AreKinded ks) (exs_list-exs xs) (inner h.1)

  pub members_kinded : (xs : List ExTree) → IsKinded ks (SetOf (exs xs)) → AreKinded ks xs
  members_kinded xs h = subst (AreKinded ks) (exs_list-exs xs) (inner h.1)

-- ---- how many arguments an operator has

abbrev pub Needs : Op → ℕ → Type 0
Needs op.Or n = n ≡ 2
Needs op.And n = n ≡ 2
Needs op.Cond n = n ≡ 3
Needs op.Equal n = n ≡ 2
Needs op.NotEqual n = n ≡ 2
Needs op.Elem n = n ≡ 2
Needs code n = Unit {0}

need : (code : Op) → Needs (row_at code).code (length (take (row_at code).arity (row_at code).args))
need op.Or = refl
need op.And = refl
need op.Cond = refl
need op.Equal = refl
need op.NotEqual = refl
need op.Elem = refl
need _ = tt

row_needs : Each (λ r. Needs r.code (length (take r.arity r.args))) operators
row_needs = each_row (λ r. Needs r.code (length (take r.arity r.args))) need

module _ (ks : List KindTree) (place : ℕ) (xs : List ExTree) (calls : CallsRow ks place xs) where
  pub row_within : place < length operators
  row_within = slice_get_within operators place calls.row calls.here

  pub code_of : (code : Op) → operator_at place ≡ Some code → calls.row.code ≡ code
  code_of code is = let here : operator_at place ≡ Some calls.row.code = ap (option_map (λ r. r.code)) calls.here in cc (here, is)

  pub needed : (code : Op) → operator_at place ≡ Some code → Needs code (length xs)
  needed code is =
      let ps = take calls.row.arity calls.row.args in
      let long : length xs ≡ length ps = kinded_length calls.args ∙ length-map ps (pattern_kind calls.any) in
      subst (λ c. Needs c (length xs)) (code_of code is)
      (subst (Needs calls.row.code) (sym long) (each_at (λ r. Needs r.code (length (take r.arity r.args))) operators place calls.row row_needs calls.here))

-- a call's own arguments
module _ (ks : List KindTree) (place : ℕ) (args : List Ex) (kinded : IsKinded ks (Apply place (exs (map ex_tree args)))) where
  pub arguments_kinded : AreKinded ks (map ex_tree args)
  arguments_kinded = each_kinded ks (calls_row ks place (map ex_tree args) kinded).args

  -- as many as the operator takes
  pub called : (code : Op) → operator_at place ≡ Some code → Needs code (length args) × AreKinded ks (map ex_tree args)
  called code is =
      (subst (Needs code) (length-map args ex_tree) (needed ks place (map ex_tree args) (calls_row ks place (map ex_tree args) kinded) code is), arguments_kinded)

pub plain : (code : Op) (es : List Evaluated) → code ≢ op.Or → code ≢ op.And → code ≢ op.Cond → operated code es ≡ then_ok (all_values es) (applied code)
plain op.Or es a b c = absurd (a refl)
plain op.And es a b c = absurd (b refl)
plain op.Cond es a b c = absurd (c refl)
plain _ es a b c = refl

-- ---- kinds of values

module _ (keeps : KeepsKinds) (ks : List KindTree) (s : List ValueTree) (are : AreOfKinds ks s) where
  each_gives : {xs : List ExTree} {js : List KindTree} → EachKinded ks xs js → EachGives (evs s (exs xs)) js
  each_gives none = tt
  each_gives (more {x} {xs} {j} {js} h hs) = (keeps ks s x j are h, each_gives hs)

  given_value : (x : ExTree) (k : KindTree) (v : ValueTree) → Kinded ks x k → ev s x ≡ Ok v → HasKind v k × IsWellFormed v
  given_value x k v h is = subst (λ (e : Evaluated). GivesKind k e) is (keeps ks s x k are h)

  pub fits_row : (place : ℕ) (xs : List ExTree) (vs : List ValueTree) → CallsRow ks place xs → all_values (evs s (exs xs)) ≡ Ok vs → FitsRow place vs
  fits_row place xs vs calls is =
      let js = map (pattern_kind calls.any) (take calls.row.arity calls.row.args) in
      fitting place calls.row calls.any vs calls.here
      (subst (λ (r : Result (List ValueTree) Fault). IfOk r (AreOfKinds js)) is (all_given (evs s (exs xs)) js (each_gives calls.args)))

  pub has_part : (e of : Ex) (b : Box Ex Global) (n : ℕ) (v : ValueTree) → e ≡ ex.Part b n → of ≡ b.value → IsKinded ks (ex_tree e) → ev s (ex_tree of) ≡ Ok v → HasPart v n
  has_part e of b n v is same h known =
      let shown = subst (IsKinded ks) (ap ex_tree is ∙ ex_tree-Part b n) h in
      let inside = inner ks shown.1 in
      let there = subst (λ (x : Ex). ev s (ex_tree x) ≡ Ok v) same known in
      (inside.0, shown.0, (given_value (ex_tree b.value) (TupleKind (kind_parts inside.0)) v inside.1 there).0, inside.2)

pub store_kinds : StoresHaveKinds → (shape : Shape) (n : ℕ) → n < product (shape_sizes shape) → AreOfKinds (shape_kinds shape) (store_at (shape_types shape) n)
store_kinds stores shape n below = stores (shape_types shape) n (store_at (shape_types shape) n) shape.formed (store_is (shape_types shape) n below)

-- ---- variables

-- an operator's call as it is taken apart
pub apply_tree : (e : Ex) (row n : ℕ) (args : ExList) (xs : List Ex) → e ≡ ex.Apply row args → n ≡ row → xs ≡ ex_items args
    → Apply n (exs (map ex_tree xs)) ≡ ex_tree e
apply_tree e row n args xs is same items =
    ap (λ (k : ℕ). Apply k (exs (map ex_tree xs))) same ∙ ap (λ (ys : List Ex). Apply row (exs (map ex_tree ys))) items
    ∙ sym (ap ex_tree is ∙ ex_tree-Apply row args)

pub call_kinded : (ks : List KindTree) (e : Ex) (row n : ℕ) (args : ExList) (xs : List Ex) → e ≡ ex.Apply row args → n ≡ row → xs ≡ ex_items args → IsKinded ks (ex_tree e)
    → IsKinded ks (Apply n (exs (map ex_tree xs)))
call_kinded ks e row n args xs is same items h = subst (IsKinded ks) (sym (apply_tree e row n args xs is same items)) h

pub slot_within : (shape : Shape) (e : Ex) (i n : ℕ) → e ≡ ex.Slot i → n ≡ i → IsKinded (shape_kinds shape) (ex_tree e) → n < length (shape_types shape)
slot_within shape e i n is same h =
    let shown = subst (IsKinded (shape_kinds shape)) (ap ex_tree is ∙ ex_tree-Slot i) h in
    let inside = slice_get_within (shape_kinds shape) i shown.0 (inner (shape_kinds shape) shown.1) in
    let long = length-map (shape_types shape) kind_of in
    omega arith

pub slot_value : (s : List ValueTree) (e : Ex) (i n : ℕ) (v : ValueTree) → e ≡ ex.Slot i → n ≡ i → slice_get s n ≡ Some v → ev s (ex_tree e) ≡ Ok v
slot_value s e i n v is same at =
    ap (ev s) (ap ex_tree is ∙ ex_tree-Slot i) ∙ ap (λ w. Ok w) (get_or_from_slice_get s i v (Truth false) (ap (slice_get s) (sym same) ∙ at))

pub slot_answers : (s : List ValueTree) (e : Ex) (i n : ℕ) (found : Result Value Mem) (result : Result Value EvalError) → e ≡ ex.Slot i → n ≡ i
    → IfOk found (λ v. slice_get s n ≡ Some (value_tree v)) → MatchResult found (λ v. result ≡ Ok v) (λ m. IsErrAnd result (λ e. e ≡ error.Mem)) → Answers result (ev s (ex_tree e))
slot_answers s e i n (Ok v) result is same at held = rw held (slot_value s e i n (value_tree v) is same at)
slot_answers s e i n (Err m) (Ok v) is same at held = absurd held
slot_answers s e i n (Err m) (Err fault) is same at held = rw held tt

-- ---- operators that decide

module _ (s : List ValueTree) where
  pub or_first : (args : List Ex) (x : Ex) (v : ValueTree) → length args ≡ 2 → x ≡ get_or args 0 x → ev s (ex_tree x) ≡ Ok v → truth v ≡ true
      → operated op.Or (evs s (exs (map ex_tree args))) ≡ Ok v
  or_first [] x v long at is holds = absurd (omega arith)
  or_first (a ∷ []) x v long at is holds = absurd (omega arith)
  or_first (a ∷ b ∷ []) x v long at is holds =
      let here : ev s (ex_tree a) ≡ Ok v = ap (λ y. ev s (ex_tree y)) (sym at) ∙ is in
      rw (here, holds) refl
  or_first (a ∷ b ∷ c ∷ args) x v long at is holds = absurd (omega arith)

  pub and_first : (args : List Ex) (x : Ex) (v : ValueTree) → length args ≡ 2 → x ≡ get_or args 0 x → ev s (ex_tree x) ≡ Ok v → truth v ≡ false
      → operated op.And (evs s (exs (map ex_tree args))) ≡ Ok v
  and_first [] x v long at is holds = absurd (omega arith)
  and_first (a ∷ []) x v long at is holds = absurd (omega arith)
  and_first (a ∷ b ∷ []) x v long at is holds =
      let here : ev s (ex_tree a) ≡ Ok v = ap (λ y. ev s (ex_tree y)) (sym at) ∙ is in
      rw (here, holds) refl
  and_first (a ∷ b ∷ c ∷ args) x v long at is holds = absurd (omega arith)

  pub cond_second : (args : List Ex) (x y : Ex) (v : ValueTree) → length args ≡ 3 → x ≡ get_or args 0 x → y ≡ get_or args 1 y → ev s (ex_tree x) ≡ Ok v
      → truth v ≡ true → operated op.Cond (evs s (exs (map ex_tree args))) ≡ ev s (ex_tree y)
  cond_second [] x y v long at next is holds = absurd (omega arith)
  cond_second (a ∷ []) x y v long at next is holds = absurd (omega arith)
  cond_second (a ∷ b ∷ []) x y v long at next is holds = absurd (omega arith)
  cond_second (a ∷ b ∷ c ∷ []) x y v long at next is holds =
      let here : ev s (ex_tree a) ≡ Ok v = ap (λ z. ev s (ex_tree z)) (sym at) ∙ is in
      rw (here, holds) (ap (λ z. ev s (ex_tree z)) (sym next))
  cond_second (a ∷ b ∷ c ∷ d ∷ args) x y v long at next is holds = absurd (omega arith)

-- ---- faults

pub fault_of_op : (defined : Evaluated) (f : OpFault) → OpAnswers (Err f) defined → IsFaultOf defined (error_of f)
fault_of_op defined fault.DivZero h = h
fault_of_op defined fault.ArithWide h = h
fault_of_op defined fault.Mem h = tt

pub fault_on : {A B : Type 0} (go : Result A Fault → Result B Fault) → ((f : Fault) → go (Err f) ≡ Err f) → (e : Result A Fault) (err : EvalError) → IsFaultOf e err
    → IsFaultOf (go e) err
fault_on go stays e error.DivZero h = ap go h ∙ stays DivZero
fault_on go stays e error.ArithWide h = ap go h ∙ stays ArithWide
fault_on go stays e error.Mem h = tt

-- an operator that needs all its arguments
pub needs_all : (row : ℕ) (code : Op) (es : List Evaluated) → operator_at row ≡ Some code → code ≢ op.Or → code ≢ op.And → code ≢ op.Cond
    → at_row (operator_at row) es ≡ at_all (operator_at row) es
needs_all row code es is no_or no_and no_cond = ap (λ o. at_row o es) is ∙ plain code es no_or no_and no_cond ∙ ap (λ o. at_all o es) (sym is)

module _ (ks : List KindTree) (s : List ValueTree) (place : ℕ) (xs : List ExTree) (calls : CallsRow ks place xs) where
  listed_row : at_all (operator_at place) (evs s (exs xs)) ≡ then_ok (all_values (evs s (exs xs))) (applied calls.row.code)
  listed_row = ap (λ o. at_all o (evs s (exs xs))) (ap (option_map (λ r. r.code)) calls.here)

  -- a fault of an argument is the operator's
  pub row_stops : (err : EvalError) → IsFaultOf (all_values (evs s (exs xs))) err → IsFaultOf (at_all (operator_at place) (evs s (exs xs))) err
  row_stops err h =
      subst (λ (e : Evaluated). IsFaultOf e err) (sym listed_row) (fault_on (λ r. then_ok r (applied calls.row.code)) (λ f. refl) (all_values (evs s (exs xs))) err h)

  module _ (vs : List ValueTree) (known : all_values (evs s (exs xs)) ≡ Ok vs) where
    applied_row : at_all (operator_at place) (evs s (exs xs)) ≡ applied calls.row.code vs
    applied_row = listed_row ∙ ap (λ r. then_ok r (applied calls.row.code)) known

    pub row_answers : (read : List ValueTree) (result : Result Value EvalError) → read ≡ vs → ((r : Row) → IsRow place r → Answers result (applied r.code read))
        → Answers result (at_all (operator_at place) (evs s (exs xs)))
    row_answers read result same gives =
        let defined = applied_row ∙ ap (applied calls.row.code) (sym same) in
        subst (λ (e : Evaluated). Answers result e) (sym defined) (gives calls.row calls.here)

-- ---- one argument, or two

pub nth_kinded : (ks : List KindTree) (args : List Ex) (k : ℕ) (x : Ex) → AreKinded ks (map ex_tree args) → k < length args → x ≡ get_or args k x → IsKinded ks (ex_tree x)
nth_kinded ks args k x are within is = each_at (IsKinded ks) (map ex_tree args) k (ex_tree x) are (mapped_read ex_tree args k x within is)

module _ (s : List ValueTree) where
  pub first_stops : (args : List Ex) (x : Ex) (err : EvalError) → 0 < length args → x ≡ get_or args 0 x → IsFaultOf (ev s (ex_tree x)) err
      → IsFaultOf (all_values (evs s (exs (map ex_tree args)))) err
  first_stops [] x err some is h = absurd (omega arith)
  first_stops (a ∷ args) x err some is h =
      fault_on (λ e. all_values (e ∷ evs s (exs (map ex_tree args)))) (λ f. refl) (ev s (ex_tree a)) err (subst (λ y. IsFaultOf (ev s (ex_tree y)) err) is h)

  pub one_value : (args : List Ex) (x : Ex) (v : ValueTree) → length args ≡ 1 → x ≡ get_or args 0 x → ev s (ex_tree x) ≡ Ok v
      → all_values (evs s (exs (map ex_tree args))) ≡ Ok (v ∷ [])
  one_value [] x v long is known = absurd (omega arith)
  one_value (a ∷ []) x v long is known = ap (λ e. all_values (e ∷ [])) (ap (λ y. ev s (ex_tree y)) (sym is) ∙ known)
  one_value (a ∷ b ∷ args) x v long is known = absurd (omega arith)

  module _ (x y : Ex) (v : ValueTree) (known : ev s (ex_tree x) ≡ Ok v) where
    pub second_stops : (args : List Ex) (err : EvalError) → length args ≡ 2 → x ≡ get_or args 0 x → y ≡ get_or args 1 y → IsFaultOf (ev s (ex_tree y)) err
        → IsFaultOf (all_values (evs s (exs (map ex_tree args)))) err
    second_stops [] err long is next h = absurd (omega arith)
    second_stops (a ∷ []) err long is next h = absurd (omega arith)
    second_stops (a ∷ b ∷ []) err long is next h =
        let first : ev s (ex_tree a) ≡ Ok v = ap (λ z. ev s (ex_tree z)) (sym is) ∙ known in
        rw first
        (fault_on (λ e. all_values (Ok v ∷ e ∷ [])) (λ f. refl) (ev s (ex_tree b)) err (subst (λ z. IsFaultOf (ev s (ex_tree z)) err) next h))
    second_stops (a ∷ b ∷ c ∷ args) err long is next h = absurd (omega arith)

    pub two_values : (args : List Ex) (w : ValueTree) → length args ≡ 2 → x ≡ get_or args 0 x → y ≡ get_or args 1 y → ev s (ex_tree y) ≡ Ok w
        → all_values (evs s (exs (map ex_tree args))) ≡ Ok (v ∷ w ∷ [])
    two_values [] w long is next same = absurd (omega arith)
    two_values (a ∷ []) w long is next same = absurd (omega arith)
    two_values (a ∷ b ∷ []) w long is next same =
        let first : ev s (ex_tree a) ≡ Ok v = ap (λ z. ev s (ex_tree z)) (sym is) ∙ known in
        let second : ev s (ex_tree b) ≡ Ok w = ap (λ z. ev s (ex_tree z)) (sym next) ∙ same in
        rw (first, second) refl
    two_values (a ∷ b ∷ c ∷ args) w long is next same = absurd (omega arith)

-- ---- values from left to right

abbrev pub onto : List ValueTree → Result (List ValueTree) Fault → Result (List ValueTree) Fault
onto vs (Ok ws) = Ok (vs ++ ws)
onto vs (Err f) = Err f

onto-none : (r : Result (List ValueTree) Fault) → onto [] r ≡ r
onto-none (Ok ws) = refl
onto-none (Err f) = refl

onto-next : (vs : List ValueTree) (v : ValueTree) (r : Result (List ValueTree) Fault) → onto (vs ++ v ∷ []) r ≡ onto vs (joined (Ok v) r)
onto-next vs v (Ok ws) = ap (λ us. Ok us) (append_assoc vs (v ∷ []) ws)
onto-next vs v (Err f) = refl

module _ (ks : List KindTree) (s : List ValueTree) where
  abbrev pub list_ev : List ExTree → Result (List ValueTree) Fault
  list_ev xs = all_values (evs s (exs xs))

  -- the values that are done, and the expressions that are left
  pub record ValuesSoFar (all left : List ExTree) (done : List Value) : Type 0 where
    pub kinded : AreKinded ks left
    pub whole : onto (map value_tree done) (list_ev left) ≡ list_ev all

  pub values_start : (all : List ExTree) (done : List Value) → done ≡ [] → AreKinded ks all → ValuesSoFar all all done
  values_start all done empty kinded = rw empty (record { kinded = kinded; whole = onto-none (list_ev all) })

  pub values_step : (all : List ExTree) (x : ExTree) (left : List ExTree) (done next : List Value) (v : Value) → ValuesSoFar all (x ∷ left) done
      → ev s x ≡ Ok (value_tree v) → next ≡ done ++ v ∷ [] → ValuesSoFar all left next
  values_step all x left done next v so_far is grown = record {
    kinded = so_far.kinded.1;
    whole =
        let mapped : map value_tree next ≡ map value_tree done ++ value_tree v ∷ [] = ap (map value_tree) grown ∙ map-append value_tree done (v ∷ []) in
        ap (λ vs. onto vs (list_ev left)) mapped
        ∙ (onto-next (map value_tree done) (value_tree v) (list_ev left)
        ∙ (ap (λ e. onto (map value_tree done) (joined e (list_ev left))) (sym is) ∙ so_far.whole));
  }

  pub values_fault : (all : List ExTree) (x : ExTree) (left : List ExTree) (done : List Value) (err : EvalError) → ValuesSoFar all (x ∷ left) done
      → IsFaultOf (ev s x) err → IsFaultOf (list_ev all) err
  values_fault all x left done err so_far h =
      subst (λ (r : Result (List ValueTree) Fault). IsFaultOf r err) so_far.whole (fault_on (λ e. onto (map value_tree done) (joined e (list_ev left))) (λ f. refl) (ev s x) err h)

  pub values_end : (all : List ExTree) (done : List Value) → ValuesSoFar all [] done → list_ev all ≡ Ok (map value_tree done)
  values_end all done so_far = sym so_far.whole ∙ ap (λ vs. Ok vs) (append-nil (map value_tree done))

pub item_kinded : (ks : List KindTree) (s : List ValueTree) (all : List ExTree) (items : List Ex) (i : ℕ) (x : Ex) (done : List Value) → i < length items → x ≡ get_or items i x
    → ValuesSoFar ks s all (map ex_tree (drop i items)) done → IsKinded ks (ex_tree x)
item_kinded ks s all items i x done within at so_far = let here = left_step ex_tree items i x within at in let next = rw here at so_far in next.kinded.0

-- ---- the answer

-- in terms of any list of values that is the store's
pub at_store : (shape : Shape) (n : ℕ) (s : List ValueTree) → IsStore (shape_types shape) n s → (P : List ValueTree → Type 0) → P (store_at (shape_types shape) n) → P s
at_store shape n s is P h = subst P (get_or_from_slice_get (stores (shape_types shape)) n s [] is) h

pub answer_kind : (keeps : KeepsKinds) (ks : List KindTree) (s : List ValueTree) → AreOfKinds ks s → (x : ExTree) (k : KindTree) (r : Result Value EvalError) → Kinded ks x k
    → Answers r (ev s x) → IfOk r (λ v. HasKind (value_tree v) k × IsWellFormed (value_tree v))
answer_kind keeps ks s are x k (Ok v) kinded answers = given_value keeps ks s are x k (value_tree v) kinded answers
answer_kind keeps ks s are x k (Err e) kinded answers = tt
