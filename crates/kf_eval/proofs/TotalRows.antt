-- Which operators have a value at all arguments, and that the expressions made of these have one in each store.
use Rattle.std.proofs.Common.{◌≡◌, ◌<◌, ◌≤◌, ℕ, pos, Bool, true, false, not, ◌&&◌, ◌||◌, List, [], ◌∷◌, slice_get, length, Option, Some, None, Result, Ok, Err, IsOk, inl, inr, refl, sym, ap, ◌∙◌, subst, arith, if◌then◌else◌}
use Rattle.std.specs.List.{AllByRecursion as Each}
use Rattle.std.specs.Option.{option_map}
use Rattle.std.specs.Ordering.{int_eq}
use Rattle.std.proofs.lemmas.Bool.{and_parts, or_cases, not-true}
use Rattle.std.proofs.lemmas.Option.{slice_get-map}
use Rattle.kf_value.specs.Values.{ValueTree, truth, whole}
use Rattle.kf_value.proofs.ListLemmas.{each_at}
use Rattle.kf_ops.specs.Rows.{Row, operators}
use Rattle.kf_ops.specs.Values.{Fault, DivZero, row_value, applied}
use Rattle.kf_ops.specs.Views.{row_of, rows_of}
use Rattle.kf_ops.specs.declared.row.Op.{Op}
use Rattle.kf_ops.specs.declared.row.Op.TheVariants as op
use Rattle.kf_ops.specs.declared.row.OpRow.{OpRow}
use Rattle.kf_ops.proofs.EachRow.{each_row, row_at}
use Rattle.kf_core.specs.Choices.{once, gathered, lowest, with_value}
use Rattle.kf_core.specs.Dxs.{dx_at}
use Rattle.kf_core.specs.Evaluation.{Evaluated, ev, evs, all_values, operated, operator_at}
use Rattle.kf_core.specs.Exs.{ExTree, ExTrees, Const, Slot, Apply, Tuple, SetOf, Part, no_exs, more_exs}
use Rattle.kf_core.specs.declared.dx.DxNode.{DxNode}
use Rattle.kf_core.specs.declared.dx.DxNode.TheVariants as d
use Rattle.kf_core.specs.declared.ex.Ex.{Ex}
use Rattle.kf_core.specs.Results.{then_ok}
use Rattle.kf_core.specs.Runs.{store_at, tried}
use Rattle.kf_core.specs.Views.{dx_shape, ex_tree}
use Rattle.kf_core.proofs.Plain.{sure_choice}
use Rattle.kf_core.specs.Each.{at_row, placed_at, exs}
use Rattle.kf_eval.specs.Totals.{divides, has_divisor, is_total, has_value, have_values, IsAlwaysSure}

-- ---- the code's row

pub row_found : (table : List OpRow) (place : ℕ) (found : Option OpRow) → rows_of table ≡ operators → slice_get table place ≡ found → slice_get operators place ≡ option_map row_of found
row_found table place found same here = ap (λ rows. slice_get rows place) (sym same) ∙ (slice_get-map row_of table place ∙ ap (option_map row_of) here)

module _ (o : Option Row) (xs : ExTrees) where
  pub no_row : o ≡ None → false ≡ is_total o xs
  no_row is = ap (λ p. is_total p xs) (sym is)

  module _ (row : Row) (is : o ≡ Some row) where
    opened : is_total o xs ≡ (not row.wide && (not row.div_zero || has_divisor xs))
    opened = ap (λ p. is_total p xs) is

    pub wide_row : row.wide ≡ true → not row.wide ≡ is_total o xs
    wide_row wide = ap not wide ∙ sym (opened ∙ ap (λ b. not b && (not row.div_zero || has_divisor xs)) wide)

    narrow_row : row.wide ≡ false → is_total o xs ≡ (not row.div_zero || has_divisor xs)
    narrow_row narrow = opened ∙ ap (λ b. not b && (not row.div_zero || has_divisor xs)) narrow

    pub plain_row : row.wide ≡ false → row.div_zero ≡ false → not row.div_zero ≡ is_total o xs
    plain_row narrow plain = ap not plain ∙ sym (narrow_row narrow ∙ ap (λ b. not b || has_divisor xs) plain)

    pub divided_row : row.wide ≡ false → row.div_zero ≡ true → has_divisor xs ≡ is_total o xs
    divided_row narrow divides = sym (narrow_row narrow ∙ ap (λ b. not b || has_divisor xs) divides)

-- ---- two arguments, and no others

pub few_arguments : (xs : List ExTree) → length xs < 2 → false ≡ has_divisor (exs xs)
few_arguments [] h = refl
few_arguments (x ∷ []) h = refl
few_arguments (x ∷ y ∷ xs) h = absurd (omega (arith, h))

pub many_arguments : (xs : List ExTree) → 3 ≤ length xs → false ≡ has_divisor (exs xs)
many_arguments [] h = refl
many_arguments (x ∷ []) h = refl
many_arguments (x ∷ y ∷ []) h = absurd (omega (arith, h))
many_arguments (x ∷ y ∷ z ∷ xs) h = refl

-- ---- operators

by_divisor : (r : Result ValueTree Fault) (t : Bool) → not t ≡ true → IsOk r → IsOk (if t then Err DivZero else r)
by_divisor r true h is = absurd (cc)
by_divisor r false h is = is

-- an operator without faults has a value
never_fails : (code : Op) (a b c : ValueTree) → (row_at code).wide ≡ false → (row_at code).div_zero ≡ false → IsOk (row_value code a b c)
never_fails op.Add a b c w z = absurd (cc)
never_fails op.Subtract a b c w z = absurd (cc)
never_fails op.Multiply a b c w z = absurd (cc)
never_fails op.Div a b c w z = absurd (cc)
never_fails op.Mod a b c w z = absurd (cc)
never_fails op.Negate a b c w z = absurd (cc)
never_fails op.Abs a b c w z = absurd (cc)
never_fails _ a b c w z = refl

-- one that fails only where its divisor is 0 has a value at another divisor
divided_value : (code : Op) (a b c : ValueTree) → (row_at code).wide ≡ false → not (int_eq (whole b) (pos 0)) ≡ true → IsOk (row_value code a b c)
divided_value op.Add a b c w d = absurd (cc)
divided_value op.Subtract a b c w d = absurd (cc)
divided_value op.Multiply a b c w d = absurd (cc)
divided_value op.Div a b c w d = absurd (cc)
divided_value op.Mod a b c w d = by_divisor _ (int_eq (whole b) (pos 0)) d refl
divided_value op.Negate a b c w d = absurd (cc)
divided_value op.Abs a b c w d = absurd (cc)
divided_value _ a b c w d = refl

-- ---- the same of lists of values

never_fails_at : (code : Op) (vs : List ValueTree) → (row_at code).wide ≡ false → (row_at code).div_zero ≡ false → IsOk (applied code vs)
never_fails_at code [] w z = refl
never_fails_at code (a ∷ []) w z = never_fails code a a a w z
never_fails_at code (a ∷ b ∷ []) w z = never_fails code a b a w z
never_fails_at code (a ∷ b ∷ c ∷ vs) w z = never_fails code a b c w z

one_more : (r : Result (List ValueTree) Fault) (v : ValueTree) (f : List ValueTree → Evaluated)
    → then_ok {B = ValueTree} r (λ vs. f (v ∷ vs)) ≡ then_ok {B = ValueTree} (then_ok {B = List ValueTree} r (λ vs. Ok (v ∷ vs))) f
one_more (Ok vs) v f = refl
one_more (Err g) v f = refl

at_values : (es : List Evaluated) (f : List ValueTree → Evaluated) → Each IsOk es → ((vs : List ValueTree) → IsOk (f vs)) → IsOk (then_ok (all_values es) f)
at_values [] f h all = all []
at_values (Ok v ∷ es) f h all = subst IsOk (one_more (all_values es) v f) (at_values es (λ vs. f (v ∷ vs)) h.1 (λ vs. all (v ∷ vs)))
at_values (Err g ∷ es) f h all = absurd (cc (h.0))

either_ok : (t : Bool) (e f : Evaluated) → IsOk e → IsOk f → IsOk (if t then e else f)
either_ok true e f h k = h
either_ok false e f h k = k

-- ---- operators at arguments that have values

operated_ok : (code : Op) (es : List Evaluated) → (row_at code).wide ≡ false → (row_at code).div_zero ≡ false → Each IsOk es → IsOk (operated code es)
operated_ok op.Or (Ok a ∷ b ∷ []) w z h = either_ok (truth a) (Ok a) b refl h.1.0
operated_ok op.And (Ok a ∷ b ∷ []) w z h = either_ok (truth a) b (Ok a) h.1.0 refl
operated_ok op.Cond (Ok a ∷ b ∷ c ∷ []) w z h = either_ok (truth a) b c h.1.0 h.1.1.0
operated_ok op.Or (Err f ∷ b ∷ []) w z h = absurd (cc (h.0))
operated_ok op.And (Err f ∷ b ∷ []) w z h = absurd (cc (h.0))
operated_ok op.Cond (Err f ∷ b ∷ c ∷ []) w z h = absurd (cc (h.0))
operated_ok code es w z h = at_values es (applied code) h (λ vs. never_fails_at code vs w z)

divided_ok : (code : Op) (e : Evaluated) (v : ValueTree) → (row_at code).wide ≡ false → not (int_eq (whole v) (pos 0)) ≡ true → IsOk e → IsOk (operated code (e ∷ Ok v ∷ []))
divided_ok op.Or (Ok a) v w d h = either_ok (truth a) (Ok a) (Ok v) refl refl
divided_ok op.And (Ok a) v w d h = either_ok (truth a) (Ok v) (Ok a) refl refl
divided_ok code (Ok a) v w d h = divided_value code a v a w d
divided_ok code (Err f) v w d h = absurd (cc h)

-- what it takes for an operator to have a value, where its row says which faults it has
record Totals (row : Row) (code : Op) : Type 0 where
  pub plain : row.wide ≡ false → row.div_zero ≡ false → (es : List Evaluated) → Each IsOk es → IsOk (operated code es)
  pub divided : row.wide ≡ false → (e : Evaluated) (v : ValueTree) → not (int_eq (whole v) (pos 0)) ≡ true → IsOk e → IsOk (operated code (e ∷ Ok v ∷ []))

code_is : (code : Op) → (row_at code).code ≡ code
code_is op.Or = refl
code_is _ = refl

each_totals : Each (λ row. Totals row row.code) operators
each_totals = each_row (λ row. Totals row row.code)
    (λ code. subst (Totals (row_at code)) (sym (code_is code)) (record {
      plain = λ w z es. operated_ok code es w z;
      divided = λ w e v. divided_ok code e v w;
    }))

-- ---- expressions

then_is_ok : (e : Evaluated) (f : ValueTree → Evaluated) → IsOk e → ((v : ValueTree) → IsOk (f v)) → IsOk (then_ok e f)
then_is_ok (Ok v) f h all = all v
then_is_ok (Err g) f h all = absurd (cc h)

module _ (s : List ValueTree) where
  divisor_ok : (row : Row) (xs : ExTrees) → Totals row row.code → row.wide ≡ false → has_divisor xs ≡ true → Each IsOk (evs s xs) → IsOk (operated row.code (evs s xs))
  divisor_ok row (more_exs x (more_exs (Const v) no_exs)) totals narrow d all = totals.divided narrow (ev s x) v d all.0
  divisor_ok row (more_exs x (more_exs y no_exs)) totals narrow d all = absurd (cc d)
  divisor_ok row (more_exs x (more_exs y (more_exs z xs))) totals narrow d all = absurd (cc d)
  divisor_ok row (more_exs x no_exs) totals narrow d all = absurd (cc d)
  divisor_ok row no_exs totals narrow d all = absurd (cc d)

  row_ok : (place : ℕ) (o : Option Row) (xs : ExTrees) → slice_get operators place ≡ o → is_total o xs ≡ true → Each IsOk (evs s xs) → IsOk (at_row (operator_at place) (evs s xs))
  row_ok place None xs here h all = absurd (cc h)
  row_ok place (Some row) xs here h all =
      let totals = each_at (λ (r : Row). Totals r r.code) operators place row each_totals here in
      let parts = and_parts (not row.wide) (not row.div_zero || has_divisor xs) h in
      let narrow = not-true row.wide parts.0 in
      let at_code : IsOk (operated row.code (evs s xs)) = elim (or_cases (not row.div_zero) (has_divisor xs) parts.1) [
        | inl z ↦ totals.plain narrow (not-true row.div_zero z) (evs s xs) all
        | inr d ↦ divisor_ok row xs totals narrow d all
      ] in
      subst (λ (p : Option Row). IsOk (at_row (option_map (λ r. r.code) p) (evs s xs))) (sym here) at_code

  mutual
    value_ok : (x : ExTree) → has_value x ≡ true → IsOk (ev s x)
    value_ok (Const v) h = refl
    value_ok (Slot i) h = refl
    value_ok (Apply place xs) h =
        let parts = and_parts (is_total (slice_get operators place) xs) (have_values xs) h in
        row_ok place (slice_get operators place) xs refl parts.0 (values_ok xs parts.1)
    value_ok (Tuple xs) h = at_values (evs s xs) _ (values_ok xs h) (λ vs. refl)
    value_ok (SetOf xs) h = at_values (evs s xs) _ (values_ok xs h) (λ vs. refl)
    value_ok (Part x k) h = then_is_ok (ev s x) _ (value_ok x h) (λ v. refl)

    values_ok : (xs : ExTrees) → have_values xs ≡ true → Each IsOk (evs s xs)
    values_ok no_exs h = tt
    values_ok (more_exs x xs) h = let parts = and_parts (has_value x) (have_values xs) h in (value_ok x parts.0, values_ok xs parts.1)

-- ---- distributions

one_choice : (at : ℕ) (e : Evaluated) → IsOk e
    → (v : ValueTree) × (placed_at at (then_ok (with_value e (λ v. Ok (once v ∷ []))) (λ ws. Ok (lowest (gathered ws)))) ≡ Ok (once v ∷ []))
one_choice at (Ok v) h = (v, ap (λ ws. Ok ws) (sure_choice v))
one_choice at (Err f) h = absurd (cc h)

pub always_sure : (at : ℕ) (node : DxNode) (x : Ex) → node ≡ d.Sure x → has_value (ex_tree x) ≡ true → IsAlwaysSure (dx_at at (dx_shape node))
always_sure at node x is h ts n =
    subst (λ (m : DxNode). (v : ValueTree) × (tried ts (dx_at at (dx_shape m)) n ≡ Ok (once v ∷ []))) (sym is)
    (one_choice at (ev (store_at ts n) (ex_tree x)) (value_ok (store_at ts n) (ex_tree x) h))
