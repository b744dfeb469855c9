-- What each form of distribution answers, from what its expressions answer.
use Rattle.std.proofs.Common.{◌≡◌, ℕ, zero, suc, ℤ, pos, negsuc, ◌+◌, ◌-◌, ◌*◌, ◌/◌, ◌^◌, ◌<◌, ◌≤◌, ◌+ℤ◌, ◌-ℤ◌, ◌<ℤ◌, ◌≤ℤ◌, Bool, true, false, List, [], ◌∷◌, ◌++◌, length, map, Ok, Err, refl, sym, ap, subst, ◌∙◌, arith}
use Rattle.std.specs.Prelude.{◌==◌, Option, Some, None, IfOk, IfSome, int_lt, unsigned_abs, nat_lt, if◌then◌else◌}
use Rattle.std.specs.List.{All, range_with_len}
use Rattle.std.specs.List.Sorted.{IsStrictlySortedBy}
use Rattle.std.proofs.Math.Nat.{div-le_self}
use Rattle.std.proofs.lemmas.Bool.Decides.{nat_tests}
use Rattle.std.proofs.lemmas.Int.{ints}
use Rattle.std.proofs.lemmas.List.{append_assoc, append-nil, map-append, length-map}
use Rattle.std.proofs.lemmas.List.Elements.{recursion_from_All}
use Rattle.std.proofs.lemmas.List.FromFn.{length-range_with_len, map-range_with_len_more}
use Rattle.std.proofs.lemmas.List.Sums.{sum_by-cons}
use Rattle.kf_value.specs.Values.{ValueTree, Truth, Whole, Tuple, Set, parts, order, whole, elements}
use Rattle.kf_value.specs.Forms.{IsWellFormed, HasKind}
use Rattle.kf_value.specs.Kinds.{KindTree, WholeKind}
use Rattle.kf_value.specs.Types.{Range, values, counted}
use Rattle.kf_value.specs.Views.{value_tree, value_trees}
use Rattle.kf_value.specs.declared.value.Value.{Value}
use Rattle.kf_value.specs.declared.value.Value.TheVariants as value
use Rattle.kf_value.specs.declared.value.ValueList.{ValueList}
use Rattle.kf_value.proofs.Ascending.{values_ascend}
use Rattle.kf_value.proofs.Trees.{parts_list-parts, value_tree-Int, value_tree-Set}
use Rattle.kf_ops.specs.Values.{Fault, DivZero, ArithWide}
use Rattle.kf_core.specs.Checked.{Kinded, CasesKinded, DistKinded, more}
use Rattle.kf_core.specs.ChoiceLaws.{ChoicesKeepKinds}
use Rattle.kf_core.specs.Laws.{AreOfKinds}
use Rattle.kf_core.specs.Choices as core
use Rattle.kf_core.specs.Results.{then_ok}
use Rattle.kf_core.specs.Choices.{Chosen, ChoiceFault, Arithmetic, NoWeight, NegativeWeight, RangeLong, with_value, once, some_of, each_from, weighed, case_listed, gathered, common_factor, lowest, choices, total}
use Rattle.kf_core.specs.Dxs.{DxCaseTree, DxShape, DxTree, case_of, dx_at, Sure, UniformSet, UniformRange, Choose}
use Rattle.kf_core.specs.Evaluation.{Evaluated, ev}
use Rattle.kf_core.specs.Exs.{ExTree}
use Rattle.kf_core.specs.Views.{dx_shape, ex_tree}
use Rattle.kf_core.specs.declared.dx.DxNode.{DxNode}
use Rattle.kf_core.specs.declared.dx.DxNode.TheVariants as dx
use Rattle.kf_core.specs.declared.ex.Ex.{Ex}
use Rattle.kf_core.proofs.Gcds.{over}
use Rattle.kf_core.proofs.Plain.{plain_choices, sure_choice}
use Rattle.kf_core.specs.Each.{cases_listed}
use Rattle.kf_eval.specs.Answers.{IsFaultOf}
use Rattle.kf_eval.specs.Choices.{choice_error, weighted_tree, IsChoiceFaultOf}
use Rattle.kf_eval.specs.Gathering.{added}
use Rattle.kf_eval.specs.declared.choice.ChoiceError.{ChoiceError}
use Rattle.kf_eval.specs.declared.choice.ChoiceError.TheVariants as choice
use Rattle.kf_eval.specs.declared.choice.Weighted.{Weighted}
use Rattle.kf_eval.specs.declared.fault.EvalError.{EvalError}
use Rattle.kf_eval.specs.declared.fault.EvalError.TheVariants as error
use Rattle.kf_eval.proofs.Adding.{ArePositive, Gathers, gathers_none, gathers_more, gathered_is, none_gathered, added_total}
use Rattle.kf_eval.proofs.Placing.{trees}

-- ---- numbers as the code compares them

above_zero : (z : ℤ) → pos 0 ≤ℤ z → (z ≡ pos 0 → ⊥) → pos 0 <ℤ z
above_zero (pos zero) h some = absurd (some refl)
above_zero (pos (suc n)) h some = omega (arith, ints)
above_zero (negsuc n) h some = absurd (omega (arith, ints, h))

module _ (a z : ℤ) (same : a ≡ z) where
  pub reads_positive : int_lt a (pos 0) ≡ false → (z ≡ pos 0 → ⊥) → pos 0 <ℤ z
  reads_positive h some = let above : pos 0 ≤ℤ a = grind (arith, ints) in above_zero z (subst (λ x. pos 0 ≤ℤ x) same above) some

module _ (a b x y : ℤ) (first : a ≡ x) (last : b ≡ y) where
  pub reads_less : int_lt b a ≡ true → y <ℤ x
  reads_less h = let less : b <ℤ a = grind (arith, ints) in rw (← first, ← last) less

  at_most : int_lt b a ≡ false → a ≤ℤ b
  at_most h = grind (arith, ints)

  pub reads_short : (n : ℕ) → n ≡ unsigned_abs (a -ℤ b) → int_lt b a ≡ false → n < 65536 → (y -ℤ x) <ℤ pos 65536
  reads_short n is h short = let below = at_most h in let near : (b -ℤ a) <ℤ pos 65536 = omega (arith, ints) in rw (← first, ← last) near

  pub reads_span : (n : ℕ) → n ≡ unsigned_abs (a -ℤ b) → int_lt b a ≡ false → a +ℤ pos (n + 1 - 1) ≡ y
  reads_span n is h = let below = at_most h in let there : a +ℤ pos (n + 1 - 1) ≡ b = omega (arith, ints) in there ∙ last

pub whole_is : (v : ValueTree) → HasKind v WholeKind → v ≡ Whole (whole v)
whole_is (Truth b) h = absurd h
whole_is (Whole z) h = refl
whole_is (Tuple vs) h = absurd h
whole_is (Set vs) h = absurd h

-- how many there are, by a test for none
pub some_counted : (n : ℕ) (b : Bool) → b ≡ (n == 0) → b ≡ false → 1 ≤ n
some_counted zero b e f = (cc)
some_counted (suc n) b e f = omega arith

pub none_counted : (n : ℕ) (b : Bool) → b ≡ (n == 0) → b ≡ true → n ≡ 0
none_counted n b e t = grind (arith, nat_tests)

-- ---- faults

-- a step that leaves an expression's fault as it is
pub fault_on : (go : Evaluated → Chosen) → ((f : Fault) → go (Err f) ≡ Err (Arithmetic f)) → (e : Evaluated) (err : EvalError) → IsFaultOf e err
    → IsChoiceFaultOf (go e) (choice_error err)
fault_on go stays e error.DivZero h = ap go h ∙ stays DivZero
fault_on go stays e error.ArithWide h = ap go h ∙ stays ArithWide
fault_on go stays e error.Mem h = tt

-- a step that leaves a distribution's fault as it is
pub chosen_fault_on : (go : Chosen → Chosen) → ((f : ChoiceFault) → go (Err f) ≡ Err f) → (r : Chosen) (err : ChoiceError) → IsChoiceFaultOf r err → IsChoiceFaultOf (go r) err
chosen_fault_on go stays r choice.DivZero h = ap go h ∙ stays (Arithmetic DivZero)
chosen_fault_on go stays r choice.ArithWide h = ap go h ∙ stays (Arithmetic ArithWide)
chosen_fault_on go stays r choice.NoWeight h = ap go h ∙ stays NoWeight
chosen_fault_on go stays r choice.NegativeWeight h = ap go h ∙ stays NegativeWeight
chosen_fault_on go stays r choice.RangeLong h = ap go h ∙ stays RangeLong
chosen_fault_on go stays r choice.Mem h = tt

abbrev pub finished : Chosen → Chosen
finished r = then_ok r (λ ws. Ok (lowest (gathered ws)))

-- the weights are the defined ones, and few enough to be summed
abbrev pub AreWeightsOf : Chosen → List Weighted → Type 0
AreWeightsOf defined ws = (defined ≡ Ok (trees ws)) × (total (trees ws) < 2 ^ 127)

-- ---- each value once

pub once_pushed : (vs : List ValueTree) (before after : List Weighted) (v : Value) → trees before ≡ map once vs → after ≡ before ++ record { value = v; weight = 1 } ∷ []
    → trees after ≡ map once (vs ++ value_tree v ∷ [])
once_pushed vs before after v same grown =
    let last : Weighted = record { value = v; weight = 1 } in
    ap trees grown
    ∙ (map-append weighted_tree before (last ∷ [])
    ∙ (ap (λ ws. ws ++ once (value_tree v) ∷ []) same ∙ sym (map-append once vs (value_tree v ∷ []))))

total_once : (vs : List ValueTree) → total (map once vs) ≡ length vs
total_once [] = refl
total_once (v ∷ vs) = omega (arith, sum_by-cons (λ w. w.weight) (once v) (map once vs), total_once vs)

some_there : (vs : List ValueTree) → 1 ≤ length vs → some_of (map once vs) ≡ Ok (map once vs)
some_there [] some = absurd (omega arith)
some_there (v ∷ vs) some = refl

pub once_weights : (vs : List ValueTree) (ws : List Weighted) → IsStrictlySortedBy order vs → 1 ≤ length vs → length vs < 2 ^ 127 → trees ws ≡ map once vs
    → AreWeightsOf (finished (some_of (map once vs))) ws
once_weights vs ws ascends some few same =
    let small : total (trees ws) ≡ length vs = ap total same ∙ total_once vs in
    (ap finished (some_there vs some) ∙ (ap (λ us. Ok us) (plain_choices vs ascends some) ∙ ap (λ us. Ok us) (sym same)), omega (arith, small, few))

sure_chosen : (s : List ValueTree) (x : ExTree) (v : ValueTree) → ev s x ≡ Ok v → choices s (Sure x) ≡ Ok (once v ∷ [])
sure_chosen s x v known = ap (λ (e : Evaluated). finished (with_value e (λ u. Ok (once u ∷ [])))) known ∙ ap (λ us. Ok us) (sure_choice v)

-- the value of an expression, where there is one, is all that is chosen
abbrev pub SurelyChosen : Chosen → Option Value → Type 0
SurelyChosen defined o = IfSome o (λ v. defined ≡ Ok (once (value_tree v) ∷ []))

pub sure_told : (s : List ValueTree) (node : DxNode) (x : Ex) (o : Option Value) → node ≡ dx.Sure x → IfSome o (λ v. ev s (ex_tree x) ≡ Ok (value_tree v))
    → SurelyChosen (choices s (dx_shape node)) o
sure_told s node x None is told = tt
sure_told s node x (Some v) is told = ap (λ n. choices s (dx_shape n)) is ∙ sure_chosen s (ex_tree x) (value_tree v) told

pub sure_weights : (s : List ValueTree) (x : ExTree) (v : Value) (before after : List Weighted) → ev s x ≡ Ok (value_tree v) → before ≡ []
    → after ≡ before ++ record { value = v; weight = 1 } ∷ [] → AreWeightsOf (choices s (Sure x)) after
sure_weights s x v before after known empty grown =
    let same : trees after ≡ once (value_tree v) ∷ [] = once_pushed [] before after v (ap trees empty) grown in
    let small : total (trees after) ≡ 1 = ap total same ∙ total_once (value_tree v ∷ []) in
    (sure_chosen s x (value_tree v) known ∙ ap (λ us. Ok us) (sym same), omega (arith, small))

-- ---- the elements of a set

module _ (v : Value) (vs : ValueList) (is : v ≡ value.Set vs) where
  shown : value_tree v ≡ Set (parts (value_trees vs))
  shown = ap value_tree is ∙ value_tree-Set vs

  pub set_elements : elements (value_tree v) ≡ value_trees vs
  set_elements = ap elements shown ∙ parts_list-parts (value_trees vs)

  pub set_ascends : IsWellFormed (value_tree v) → IsStrictlySortedBy order (value_trees vs)
  set_ascends formed = let here = subst IsWellFormed shown formed in subst (IsStrictlySortedBy order) (parts_list-parts (value_trees vs)) here.0

  pub set_chosen : (s : List ValueTree) (x : ExTree) → ev s x ≡ Ok (value_tree v) → choices s (UniformSet x) ≡ finished (some_of (map once (value_trees vs)))
  set_chosen s x known =
      ap (λ (e : Evaluated). finished (with_value e (λ u. some_of (map once (elements u))))) known ∙ ap (λ us. finished (some_of (map once us))) set_elements

-- ---- whole numbers from one to another

abbrev pub numbers_from : ℤ → ℕ → List ValueTree
numbers_from a n = map (λ k. Whole (a +ℤ pos k)) (range_with_len 0 n)

pub numbers_more : (a : ℤ) (n : ℕ) → numbers_from a (n + 1) ≡ numbers_from a n ++ Whole (a +ℤ pos n) ∷ []
numbers_more a n = map-range_with_len_more (λ k. Whole (a +ℤ pos k)) 0 n n (omega arith)

pub number_pushed : (a : ℤ) (n : ℕ) (before after : List Weighted) (i : ℤ) → i ≡ a +ℤ pos n → trees before ≡ map once (numbers_from a n)
    → after ≡ before ++ record { value = value.Int i; weight = 1 } ∷ [] → trees after ≡ map once (numbers_from a (n + 1))
number_pushed a n before after i is same grown =
    once_pushed (numbers_from a n) before after (value.Int i) same grown
    ∙ (ap (λ v. map once (numbers_from a n ++ v ∷ [])) (value_tree-Int i ∙ ap Whole is) ∙ ap (map once) (sym (numbers_more a n)))

pub numbers_are : (a b : ℤ) → values (Range a b) ≡ numbers_from a (counted (b -ℤ a))
unfolding values
numbers_are a b = refl

counted_short : (z : ℤ) → z <ℤ pos 65536 → nat_lt 65536 (counted z) ≡ false
counted_short (pos n) h = let short : n < 65536 = omega (arith, ints, h) in grind (arith, nat_tests)
counted_short (negsuc n) h = refl

counted_none : (z : ℤ) → z <ℤ pos 0 → counted z ≡ 0
counted_none (pos n) h = absurd (omega (arith, ints, h))
counted_none (negsuc n) h = refl

pub from_none : (a b : ℤ) → b <ℤ a → finished (each_from a b) ≡ Err NoWeight
from_none a b h =
    let none : counted (b -ℤ a) ≡ 0 = counted_none (b -ℤ a) (omega (arith, ints, h)) in
    let short = counted_short (b -ℤ a) (omega (arith, ints, h)) in
    ap (λ long. finished (if long then Err RangeLong else some_of (map once (values (Range a b))))) short
    ∙ ap (λ vs. finished (some_of (map once vs))) (numbers_are a b ∙ ap (numbers_from a) none)

pub from_short : (a b : ℤ) → (b -ℤ a) <ℤ pos 65536 → finished (each_from a b) ≡ finished (some_of (map once (values (Range a b))))
from_short a b h = ap (λ long. finished (if long then Err RangeLong else some_of (map once (values (Range a b))))) (counted_short (b -ℤ a) h)

pub range_chosen : (s : List ValueTree) (x y : ExTree) (v w : ValueTree) → ev s x ≡ Ok v → ev s y ≡ Ok w → choices s (UniformRange x y) ≡ finished (each_from (whole v) (whole w))
range_chosen s x y v w first last =
    ap (λ (e : Evaluated). finished (with_value e (λ a. with_value (ev s y) (λ b. each_from (whole a) (whole b))))) first
    ∙ ap (λ (e : Evaluated). finished (with_value e (λ b. each_from (whole v) (whole b)))) last

pub number_weights : (a : ℤ) (n : ℕ) (ws : List Weighted) → 1 ≤ n → n < 2 ^ 32 → trees ws ≡ map once (numbers_from a n)
    → AreWeightsOf (finished (some_of (map once (values (Range a (a +ℤ pos (n - 1))))))) ws
number_weights a n ws some few same =
    let last = a +ℤ pos (n - 1) in
    let span : last -ℤ a ≡ pos (n - 1) = omega (arith, ints) in
    let long : counted (last -ℤ a) ≡ n = ap counted span ∙ omega (arith, some) in
    let listed : values (Range a last) ≡ numbers_from a n = numbers_are a last ∙ ap (numbers_from a) long in
    let size_is : length (values (Range a last)) ≡ n = ap length listed ∙ (length-map (range_with_len 0 n) (λ k. Whole (a +ℤ pos k)) ∙ length-range_with_len 0 n) in
    once_weights (values (Range a last)) ws (values_ascend (Range a last)) (omega (arith, size_is, some)) (omega (arith, size_is, few)) (same ∙ ap (map once) (sym listed))

-- ---- cases

pub weighed_some : (e : Evaluated) (v : ValueTree) (z : ℤ) → e ≡ Ok v → pos 0 <ℤ z → weighed e z ≡ Ok (record { value = v; weight = unsigned_abs z } ∷ [])
weighed_some e v (pos zero) known h = absurd (omega (arith, ints, h))
weighed_some e v (pos (suc n)) known h =
    ap (λ (r : Evaluated). with_value r (λ u. Ok (record { value = u; weight = n + 1 } ∷ []))) known ∙ ap (λ (m : ℕ). Ok (record { value = v; weight = m } ∷ [])) (omega arith)
weighed_some e v (negsuc n) known h = absurd (omega (arith, ints, h))

pub weighed_fault : (e : Evaluated) (z : ℤ) (err : EvalError) → IsFaultOf e err → pos 0 <ℤ z → IsChoiceFaultOf (weighed e z) (choice_error err)
weighed_fault e (pos zero) err h some = absurd (omega (arith, ints, some))
weighed_fault e (pos (suc n)) err h some = fault_on (λ r. with_value r (λ u. Ok (record { value = u; weight = n + 1 } ∷ []))) (λ f. refl) e err h
weighed_fault e (negsuc n) err h some = absurd (omega (arith, ints, some))

pub case_parts : {ks : List KindTree} {x y : ExTree} {cs : List DxCaseTree} {k : KindTree} → CasesKinded ks (case_of x y ∷ cs) k → Kinded ks x k × Kinded ks y WholeKind × CasesKinded ks cs k
case_parts (more h g others) = (h, g, others)

onto_next : (done ws : List core.Weighted) (r : Chosen)
    → then_ok r (λ us. Ok ((done ++ ws) ++ us)) ≡ then_ok (then_ok r (λ others. Ok (ws ++ others))) (λ us. Ok (done ++ us))
onto_next done ws (Ok us) = ap (λ vs. Ok vs) (append_assoc done ws us)
onto_next done ws (Err f) = refl

onto_same : (done : List core.Weighted) (r : Chosen)
    → then_ok r (λ us. Ok (done ++ us)) ≡ then_ok (then_ok r (λ others. Ok ([] ++ others))) (λ us. Ok (done ++ us))
onto_same done (Ok us) = refl
onto_same done (Err f) = refl

onto_none : (r : Chosen) → then_ok r (λ us. Ok ([] ++ us)) ≡ r
onto_none (Ok us) = refl
onto_none (Err f) = refl

total_over : (g : ℕ) (ws : List core.Weighted) → total (over g ws) ≤ total ws
total_over g [] = omega arith
total_over g (w ∷ ws) =
    omega (arith, total_over g ws, div-le_self w.weight g, sum_by-cons (λ u. u.weight) w ws, sum_by-cons (λ u. u.weight) (record { value = w.value; weight = w.weight / g }) (over g ws))

each_last : (w : core.Weighted) (ws : List core.Weighted) → 0 < w.weight → ArePositive ws → ArePositive (ws ++ w ∷ [])
each_last w [] some h = (some, tt)
each_last w (u ∷ ws) some h = (h.0, each_last w ws some h.1)

module _ (ks : List KindTree) (s : List ValueTree) where
  -- the cases that are left, and what is gathered from those that are done
  pub record CasesSoFar (all left : List DxCaseTree) (items : List core.Weighted) (n : ℕ) : Type 0 where
    pub kind : KindTree
    pub kinded : CasesKinded ks left kind
    pub done : List core.Weighted
    pub listed : then_ok (cases_listed s left) (λ us. Ok (done ++ us)) ≡ cases_listed s all
    pub positive : ArePositive done
    pub gathers : Gathers done items
    pub bound : total items ≤ n * 2 ^ 63

  pub cases_start : (all : List DxCaseTree) (items : List Weighted) → items ≡ [] → ((k : KindTree) × CasesKinded ks all k) → CasesSoFar all all (trees items) 0
  cases_start all items empty kinded =
      rw empty (record { kind = kinded.0; kinded = kinded.1; done = []; listed = onto_none (cases_listed s all); positive = tt; gathers = gathers_none; bound = omega arith })

  module _ (all left : List DxCaseTree) (x y : ExTree) (items : List core.Weighted) (n : ℕ) (before : CasesSoFar all (case_of x y ∷ left) items n) where
    listed_next : (ws : List core.Weighted) → case_listed s (case_of x y) ≡ Ok ws
        → then_ok (then_ok (cases_listed s left) (λ others. Ok (ws ++ others))) (λ us. Ok (before.done ++ us)) ≡ cases_listed s all
    listed_next ws known =
        ap (λ e. then_ok (then_ok e (λ vs. then_ok (cases_listed s left) (λ others. Ok (vs ++ others)))) (λ us. Ok (before.done ++ us))) (sym known) ∙ before.listed

    pub cases_pass : case_listed s (case_of x y) ≡ Ok [] → CasesSoFar all left items (n + 1)
    cases_pass known = record {
      kind = before.kind;
      kinded = (case_parts before.kinded).2;
      done = before.done;
      listed = onto_same before.done (cases_listed s left) ∙ listed_next [] known;
      positive = before.positive;
      gathers = before.gathers;
      bound = omega (arith, before.bound);
    }

    pub cases_add : (w : core.Weighted) (next : List core.Weighted) → case_listed s (case_of x y) ≡ Ok (w ∷ []) → 0 < w.weight → w.weight < 2 ^ 63 → next ≡ added w items
        → CasesSoFar all left next (n + 1)
    cases_add w next known some small grown = rw grown (record {
      kind = before.kind;
      kinded = (case_parts before.kinded).2;
      done = before.done ++ w ∷ [];
      listed = onto_next before.done (w ∷ []) (cases_listed s left) ∙ listed_next (w ∷ []) known;
      positive = each_last w before.done some before.positive;
      gathers = gathers_more w before.done items some before.gathers;
      bound = omega (arith, before.bound, added_total w items, small);
    })

    pub cases_fault : (err : ChoiceError) → IsChoiceFaultOf (case_listed s (case_of x y)) err → IsChoiceFaultOf (choices s (Choose all)) err
    cases_fault err h =
        subst (λ (r : Chosen). IsChoiceFaultOf (finished (then_ok r some_of)) err) before.listed
        (chosen_fault_on
        (λ e. finished (then_ok (then_ok (then_ok e (λ vs. then_ok (cases_listed s left) (λ others. Ok (vs ++ others)))) (λ us. Ok (before.done ++ us))) some_of))
        (λ f. refl) (case_listed s (case_of x y)) err h)

  module _ (all : List DxCaseTree) (items : List core.Weighted) (n : ℕ) (at_end : CasesSoFar all [] items n) where
    all_listed : cases_listed s all ≡ Ok at_end.done
    all_listed = sym at_end.listed ∙ ap (λ us. Ok us) (append-nil at_end.done)

    chosen : (done : List core.Weighted) → cases_listed s all ≡ Ok done → choices s (Choose all) ≡ finished (some_of done)
    chosen done is = ap (λ r. finished (then_ok r some_of)) is

    no_choice : (done : List core.Weighted) → ArePositive done → Gathers done [] → finished (some_of done) ≡ Err NoWeight
    no_choice [] h is = refl
    no_choice (w ∷ ws) h is = absurd (none_gathered w ws h.0 is)

    pub cases_none : items ≡ [] → choices s (Choose all) ≡ Err NoWeight
    cases_none empty = chosen at_end.done all_listed ∙ no_choice at_end.done at_end.positive (subst (Gathers at_end.done) empty at_end.gathers)

    some_choice : (done : List core.Weighted) → Gathers done items → 1 ≤ length items → finished (some_of done) ≡ Ok (lowest items)
    some_choice [] is some = let empty : length items ≡ 0 = ap length (gathered_is [] items is) in absurd (omega (arith, empty, some))
    some_choice (w ∷ ws) is some = ap (λ us. Ok (lowest us)) (sym (gathered_is (w ∷ ws) items is))

    pub cases_weights : (ws : List Weighted) → 1 ≤ length items → n < 2 ^ 64 → trees ws ≡ lowest items → AreWeightsOf (choices s (Choose all)) ws
    cases_weights ws some few same =
        let less : total (trees ws) ≤ total items = rw same (total_over (common_factor items) items) in
        (chosen at_end.done all_listed ∙ (some_choice at_end.done at_end.gathers some ∙ ap (λ us. Ok us) (sym same)), omega (arith, less, at_end.bound, few))

-- ---- kinds

abbrev pub shape_in : DxTree → DxShape
shape_in (dx_at at d) = d

-- each choice of a checked distribution is of its kind, and there is one
pub are_kinded : ChoicesKeepKinds → (ks : List KindTree) (s : List ValueTree) → AreOfKinds ks s → (d : DxTree) (k : KindTree) (ws : List core.Weighted) → DistKinded ks d k
    → choices s (shape_in d) ≡ Ok ws → (1 ≤ length ws) × All (λ w. HasKind w.value k × IsWellFormed w.value) ws
are_kinded keeps ks s are (dx_at at d) k ws kinded known =
    subst (λ (r : Chosen). IfOk r (λ us. (1 ≤ length us) × All (λ w. HasKind w.value k × IsWellFormed w.value) us)) known (keeps ks s at d k are kinded)

pub sure_kinded : ChoicesKeepKinds → (ks : List KindTree) (s : List ValueTree) → AreOfKinds ks s → (d : DxTree) (k : KindTree) (o : Option Value) → DistKinded ks d k
    → SurelyChosen (choices s (shape_in d)) o → IfSome o (λ v. HasKind (value_tree v) k × IsWellFormed (value_tree v))
sure_kinded keeps ks s are d k None kinded told = tt
sure_kinded keeps ks s are d k (Some v) kinded told =
    let ws = once (value_tree v) ∷ [] in
    (recursion_from_All (λ w. HasKind w.value k × IsWellFormed w.value) ws (are_kinded keeps ks s are d k ws kinded told).1).0
