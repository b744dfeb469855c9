-- A checked expression has a fault or a well-formed value of its kind.
use Rattle.std.proofs.Common.{◌≡◌, ◌≤◌, ℕ, zero, suc, Bool, true, false, List, [], ◌∷◌, length, map, take, get_or, slice_get, Some, Result, Ok, Err, refl, sym, ap, subst}
use Rattle.std.specs.Prelude.{if◌then◌else◌, IfOk}
use Rattle.std.specs.List.{All, AllByRecursion as Each}
use Rattle.std.proofs.lemmas.List.Elements.{recursion_from_All}
use Rattle.std.specs.Option.{option_map}
use Rattle.kf_value.specs.Values.{ValueTree, Truth, Whole, Tuple, Set, parts, parts_list, truth}
use Rattle.kf_value.specs.Forms.{IsWellFormed, HasKind, HaveKinds}
use Rattle.kf_value.specs.Kinds.{KindTree, TruthKind, TupleKind, SetKind, kind_parts}
use Rattle.kf_value.proofs.ListLemmas.{each_at, each_weaker}
use Rattle.kf_value.proofs.Orders.{parts-parts_list}
use Rattle.kf_value.proofs.Trees.{parts_list-parts}
use Rattle.kf_ops.specs.Rows.{Row, operators}
use Rattle.kf_ops.specs.Fitting.{FitsPattern, EachFits, FitsRow}
use Rattle.kf_ops.specs.Places.{IsRow, pattern_kind}
use Rattle.kf_ops.specs.Laws.{KeepsKinds as RowKeepsKinds}
use Rattle.kf_ops.specs.Values.{Fault, applied}
use Rattle.kf_ops.specs.declared.row.Op.{Op}
use Rattle.kf_ops.specs.declared.row.Op.TheVariants as op
use Rattle.kf_ops.specs.declared.row.Pat.{Pat}
use Rattle.kf_ops.specs.declared.row.Pat.TheVariants as pat
use Rattle.kf_ops.proofs.EachRow.{each_row, row_at}
use Rattle.kf_core.specs.Exs.{ExTree}
use Rattle.kf_core.specs.Results.{then_ok}
use Rattle.kf_core.specs.Evaluation.{Evaluated, ev, evs, all_values, operated, operator_at, set_of, part_of}
use Rattle.kf_core.specs.Checked.{Kinded, EachKinded, AllKinded, truth as truth_kinded, whole, slot, apply, tuple, set, part, none, more, no_more, and_more}
use Rattle.kf_core.specs.Laws.{AreOfKinds, GivesKind}
use Rattle.kf_core.proofs.StoreKinds.{all_have_kind, each_well_formed}
use Rattle.kf_core.proofs.SetLiterals.{each_set_of, set_of_ascends}
use Rattle.kf_core.specs.Each.{at_row, exs}

-- ---- a value among others

pub at_kind : (vs : List ValueTree) (ks : List KindTree) (i : ℕ) (k : KindTree) (d : ValueTree) → AreOfKinds ks vs → slice_get ks i ≡ Some k
    → HasKind (get_or vs i d) k × IsWellFormed (get_or vs i d)
at_kind vs [] i k d are at = (cc)
at_kind [] (j ∷ ks) i k d are at = absurd are.kinds
at_kind (v ∷ vs) (j ∷ ks) zero k d are at =
    let same : j ≡ k = (cc) in
    (subst (HasKind v) same are.kinds.0, are.formed.0)
at_kind (v ∷ vs) (j ∷ ks) (suc i) k d are at = at_kind vs ks i k d (record { kinds = are.kinds.1; formed = are.formed.1 }) at

part_kind : (v : ValueTree) (js : List KindTree) (n : ℕ) (k : KindTree) → HasKind v (TupleKind (kind_parts js)) → IsWellFormed v → slice_get js n ≡ Some k
    → HasKind (part_of n v) k × IsWellFormed (part_of n v)
part_kind (Truth b) js n k h formed at = absurd h
part_kind (Whole i) js n k h formed at = absurd h
part_kind (Tuple vs) js n k h formed at =
    let same = parts-parts_list vs in
    at_kind (parts_list vs) js n k (Truth false) (record { kinds = rw same h; formed = rw same formed.1 }) at
part_kind (Set vs) js n k h formed at = absurd h

pub kinds_length : (vs : List ValueTree) (ks : List KindTree) → HaveKinds (parts vs) (kind_parts ks) → length vs ≡ length ks
kinds_length [] [] h = refl
kinds_length [] (k ∷ ks) h = absurd h
kinds_length (v ∷ vs) [] h = absurd h
kinds_length (v ∷ vs) (k ∷ ks) h = ap suc (kinds_length vs ks h.1)

-- ---- results one by one

abbrev pub EachGives : List Evaluated → List KindTree → Type 0
EachGives [] [] = Unit {0}
EachGives (e ∷ es) (k ∷ ks) = GivesKind k e × EachGives es ks
EachGives es ks = ⊥

-- a fault, or values of these kinds
abbrev ListGiven : Result (List ValueTree) Fault → List KindTree → Type 0
ListGiven r ks = IfOk r (AreOfKinds ks)

-- a value before others
abbrev pub joined : Evaluated → Result (List ValueTree) Fault → Result (List ValueTree) Fault
joined e others = then_ok e (λ v. then_ok others (λ vs. Ok (v ∷ vs)))

joined_given : (e : Evaluated) (r : Result (List ValueTree) Fault) (k : KindTree) (ks : List KindTree) → GivesKind k e → ListGiven r ks → ListGiven (joined e r) (k ∷ ks)
joined_given (Ok v) (Ok vs) k ks h hs = record { kinds = (h.0, hs.kinds); formed = (h.1, hs.formed) }
joined_given (Ok v) (Err f) k ks h hs = tt
joined_given (Err f) r k ks h hs = tt

pub all_given : (es : List Evaluated) (ks : List KindTree) → EachGives es ks → ListGiven (all_values es) ks
all_given [] [] h = record { kinds = tt; formed = tt }
all_given [] (k ∷ ks) h = absurd h
all_given (e ∷ es) [] h = absurd h
all_given (e ∷ es) (k ∷ ks) h = joined_given e (all_values es) k ks h.0 (all_given es ks h.1)

joined_alike : (e : Evaluated) (r : Result (List ValueTree) Fault) (k : KindTree) → GivesKind k e → IfOk r (Each (λ v. HasKind v k × IsWellFormed v))
    → IfOk (joined e r) (Each (λ v. HasKind v k × IsWellFormed v))
joined_alike (Ok v) (Ok vs) k h hs = (h, hs)
joined_alike (Ok v) (Err f) k h hs = tt
joined_alike (Err f) r k h hs = tt

all_alike : (es : List Evaluated) (k : KindTree) → Each (GivesKind k) es → IfOk (all_values es) (Each (λ v. HasKind v k × IsWellFormed v))
all_alike [] k h = tt
all_alike (e ∷ es) k h = joined_alike e (all_values es) k h.0 (all_alike es k h.1)

-- the next step, where the results before it are values
module _ {A : Type 0} (P : A → Type 0) (k : KindTree) (next : A → Evaluated) (keeps : (x : A) → P x → GivesKind k (next x)) where
  after_given : (r : Result A Fault) → IfOk r P → GivesKind k (then_ok r next)
  after_given (Ok x) h = keeps x h
  after_given (Err f) h = tt

-- ---- the operators

-- there is an argument for this pattern
abbrev IsThere : Pat → Type 0
IsThere pat.Nothing = ⊥
IsThere p = Unit {0}

fits_pattern : (any : KindTree) (p : Pat) (v : ValueTree) → IsThere p → HasKind v (pattern_kind any p) → FitsPattern any p v
fits_pattern any pat.Nothing v there h = there
fits_pattern any pat.Bool v there h = h
fits_pattern any pat.Int v there h = h
fits_pattern any pat.Any v there h = h
fits_pattern any pat.SetOfAny v there h = h

fitting_kind : (any : KindTree) (p : Pat) (v : ValueTree) → FitsPattern any p v → HasKind v (pattern_kind any p)
fitting_kind any pat.Nothing v h = absurd h
fitting_kind any pat.Bool v h = h
fitting_kind any pat.Int v h = h
fitting_kind any pat.Any v h = h
fitting_kind any pat.SetOfAny v h = h

fitting_result : (any : KindTree) (p : Pat) (e : Evaluated) → IfOk e (λ v. FitsPattern any p v × IsWellFormed v) → GivesKind (pattern_kind any p) e
fitting_result any p (Ok v) h = (fitting_kind any p v h.0, h.1)
fitting_result any p (Err f) h = tt

each_fits : (any : KindTree) (ps : List Pat) (vs : List ValueTree) → Each IsThere ps → AreOfKinds (map (pattern_kind any) ps) vs → EachFits any ps vs
each_fits any [] [] there are = tt
each_fits any [] (v ∷ vs) there are = absurd are.kinds
each_fits any (p ∷ ps) [] there are = absurd are.kinds
each_fits any (p ∷ ps) (v ∷ vs) there are =
    ((fits_pattern any p v there.0 are.kinds.0, are.formed.0), each_fits any ps vs there.1 (record { kinds = are.kinds.1; formed = are.formed.1 }))

-- the results of a row's arguments give a result of its kind
abbrev RowKeeps : Row → Type 0
RowKeeps r = (any : KindTree) (es : List Evaluated) → EachGives es (map (pattern_kind any) (take r.arity r.args)) → GivesKind (pattern_kind any r.result) (operated r.code es)

record Carries (r : Row) : Type 0 where
  there : Each IsThere (take r.arity r.args)
  keeps : RowKeepsKinds r → RowKeeps r

-- an operator that evaluates all its arguments
carries : (r : Row) → Each IsThere (take r.arity r.args) → ((es : List Evaluated) → operated r.code es ≡ then_ok (all_values es) (applied r.code)) → Carries r
carries r there plain = record {
  there = there;
  keeps = λ keeps any es h.
      let ps = take r.arity r.args in
      let go = after_given (AreOfKinds (map (pattern_kind any) ps)) (pattern_kind any r.result) (applied r.code)
      (λ vs are. fitting_result any r.result (applied r.code vs) (keeps any vs (each_fits any ps vs there are)))
      (all_values es) (all_given es (map (pattern_kind any) ps) h) in
      subst (GivesKind (pattern_kind any r.result)) (sym (plain es)) go;
}

chosen : (b : Bool) (k : KindTree) (first second : Evaluated) → GivesKind k first → GivesKind k second → GivesKind k (if b then first else second)
chosen true k first second hf hs = hf
chosen false k first second hf hs = hs

-- a test and what it decides between
decided : (k : KindTree) (test : Evaluated) (first second : ValueTree → Evaluated) → GivesKind TruthKind test
    → ((v : ValueTree) → HasKind v TruthKind × IsWellFormed v → GivesKind k (first v)) → ((v : ValueTree) → HasKind v TruthKind × IsWellFormed v → GivesKind k (second v))
    → GivesKind k (then_ok test (λ v. if truth v then first v else second v))
decided k test first second h hf hs =
    after_given (λ v. HasKind v TruthKind × IsWellFormed v) k (λ v. if truth v then first v else second v)
    (λ v hv. chosen (truth v) k (first v) (second v) (hf v hv) (hs v hv)) test h

or_keeps : (es : List Evaluated) → EachGives es (TruthKind ∷ TruthKind ∷ []) → GivesKind TruthKind (operated op.Or es)
or_keeps [] h = absurd h
or_keeps (a ∷ []) h = absurd h.1
or_keeps (a ∷ b ∷ []) h = decided TruthKind a (λ v. Ok v) (λ v. b) h.0 (λ v hv. hv) (λ v hv. h.1.0)
or_keeps (a ∷ b ∷ c ∷ es) h = absurd h.1.1

and_keeps : (es : List Evaluated) → EachGives es (TruthKind ∷ TruthKind ∷ []) → GivesKind TruthKind (operated op.And es)
and_keeps [] h = absurd h
and_keeps (a ∷ []) h = absurd h.1
and_keeps (a ∷ b ∷ []) h = decided TruthKind a (λ v. b) (λ v. Ok v) h.0 (λ v hv. h.1.0) (λ v hv. hv)
and_keeps (a ∷ b ∷ c ∷ es) h = absurd h.1.1

cond_keeps : (k : KindTree) (es : List Evaluated) → EachGives es (TruthKind ∷ k ∷ k ∷ []) → GivesKind k (operated op.Cond es)
cond_keeps k [] h = absurd h
cond_keeps k (a ∷ []) h = absurd h.1
cond_keeps k (a ∷ b ∷ []) h = absurd h.1.1
cond_keeps k (a ∷ b ∷ c ∷ []) h = decided k a (λ v. b) (λ v. c) h.0 (λ v hv. h.1.0) (λ v hv. h.1.1.0)
cond_keeps k (a ∷ b ∷ c ∷ d ∷ es) h = absurd h.1.1.1

one : Unit {0} × Unit {0}
one = (tt, tt)

two : Unit {0} × (Unit {0} × Unit {0})
two = (tt, (tt, tt))

-- those with no line of their own take two arguments, and all of them are evaluated
carry : (code : Op) → Carries (row_at code)
carry op.Or = record { there = two; keeps = λ keeps any. or_keeps }
carry op.And = record { there = two; keeps = λ keeps any. and_keeps }
carry op.Cond = record { there = (tt, two); keeps = λ keeps. cond_keeps }
carry op.Not = carries _ one (λ es. refl)
carry op.Negate = carries _ one (λ es. refl)
carry op.Size = carries _ one (λ es. refl)
carry op.Abs = carries _ one (λ es. refl)
carry _ = carries _ two (λ es. refl)

rows_carry : Each Carries operators
rows_carry = each_row Carries carry

-- evaluated arguments of an operator fit its row
pub fitting : (place : ℕ) (r : Row) (any : KindTree) (vs : List ValueTree) → IsRow place r → AreOfKinds (map (pattern_kind any) (take r.arity r.args)) vs → FitsRow place vs
fitting place r any vs here are = record {
  row = r;
  here = here;
  kind = any;
  fits = each_fits any (take r.arity r.args) vs (each_at Carries operators place r rows_carry here).there are;
}

-- ---- expressions

pub kinded_length : {ks : List KindTree} {xs : List ExTree} {js : List KindTree} → EachKinded ks xs js → length xs ≡ length js
kinded_length none = refl
kinded_length (more x xs) = ap suc (kinded_length xs)

module _ (rows : All RowKeepsKinds operators) (ks : List KindTree) (s : List ValueTree) (are : AreOfKinds ks s) where
  row_keeps : (place : ℕ) (r : Row) (any : KindTree) (es : List Evaluated) → IsRow place r → EachGives es (map (pattern_kind any) (take r.arity r.args))
      → GivesKind (pattern_kind any r.result) (at_row (operator_at place) es)
  row_keeps place r any es here h =
      let code : operator_at place ≡ Some r.code = ap (option_map (λ o. o.code)) here in
      subst (λ o. GivesKind (pattern_kind any r.result) (at_row o es)) (sym code)
      ((each_at Carries operators place r rows_carry here).keeps (each_at RowKeepsKinds operators place r (recursion_from_All RowKeepsKinds operators rows) here) any es h)

  tuple_keeps : (js : List KindTree) (vs : List ValueTree) → 2 ≤ length js → AreOfKinds js vs → GivesKind (TupleKind (kind_parts js)) (Ok (Tuple (parts vs)))
  tuple_keeps js vs long h = (h.kinds, (rw (parts_list-parts vs, kinds_length vs js h.kinds) long, h.formed))

  set_keeps : (k : KindTree) (vs : List ValueTree) → Each (λ v. HasKind v k × IsWellFormed v) vs → GivesKind (SetKind k) (Ok (Set (parts (set_of vs))))
  set_keeps k vs h =
      let members = each_set_of (λ v. HasKind v k × IsWellFormed v) vs h in (
        all_have_kind k (set_of vs) (each_weaker (λ v. HasKind v k × IsWellFormed v) (λ v. HasKind v k) (λ v both. both.0) (set_of vs) members),
        (
          rw (parts_list-parts (set_of vs)) (set_of_ascends vs),
          each_well_formed (set_of vs) (each_weaker (λ v. HasKind v k × IsWellFormed v) IsWellFormed (λ v both. both.1) (set_of vs) members),
        ),
      )

  mutual
    pub keeps : {x : ExTree} {k : KindTree} → Kinded ks x k → GivesKind k (ev s x)
    keeps (truth_kinded b) = (tt, tt)
    keeps (whole n) = (tt, tt)
    keeps (slot i at) = at_kind s ks i _ (Truth false) are at
    keeps (apply place r any {xs} here args) = row_keeps place r any (evs s (exs xs)) here (each_keeps args)
    keeps (tuple {xs} {js} args long) =
        let enough : 2 ≤ length js = rw (← kinded_length args) long in
        after_given (AreOfKinds js) (TupleKind (kind_parts js)) (λ vs. Ok (Tuple (parts vs))) (λ vs h. tuple_keeps js vs enough h)
        (all_values (evs s (exs xs))) (all_given (evs s (exs xs)) js (each_keeps args))
    keeps (set {xs} {k} args some) =
        after_given (Each (λ v. HasKind v k × IsWellFormed v)) (SetKind k) (λ vs. Ok (Set (parts (set_of vs)))) (set_keeps k)
        (all_values (evs s (exs xs))) (all_alike (evs s (exs xs)) k (all_keep args))
    keeps (part {x} n js {k} of at) =
        after_given (λ v. HasKind v (TupleKind (kind_parts js)) × IsWellFormed v) k (λ v. Ok (part_of n v)) (λ v h. part_kind v js n k h.0 h.1 at) (ev s x) (keeps of)

    pub each_keeps : {xs : List ExTree} {js : List KindTree} → EachKinded ks xs js → EachGives (evs s (exs xs)) js
    each_keeps none = tt
    each_keeps (more x xs) = (keeps x, each_keeps xs)

    pub all_keep : {xs : List ExTree} {k : KindTree} → AllKinded ks xs k → Each (GivesKind k) (evs s (exs xs))
    all_keep no_more = tt
    all_keep (and_more x xs) = (keeps x, all_keep xs)
