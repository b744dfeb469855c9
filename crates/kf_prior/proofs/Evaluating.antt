-- Literals evaluate to their values, and a uniform distribution over a type chooses each value of it once.
use Rattle.std.specs.Prelude.{nat_lt, if◌then◌else◌}
use Rattle.std.proofs.Common.{◌≡◌, ℕ, suc, ℤ, pos, negsuc, ◌-ℤ◌, ◌≤◌, true, false, List, [], ◌∷◌, length, map, Ok, Err, refl, ap, ◌∙◌, arith}
use Rattle.std.specs.List.{AllByRecursion as Each}
use Rattle.std.specs.List.Sorted.{IsStrictlySortedBy}
use Rattle.std.specs.Ordering.{is_eq}
use Rattle.std.proofs.lemmas.Bool.Decides.{nat_tests}
use Rattle.std.proofs.lemmas.Int.{ints}
use Rattle.std.proofs.lemmas.List.{length-map}
use Rattle.kf_value.specs.Values.{ValueTree, Whole, Set, parts, elements, order, is_equal}
use Rattle.kf_value.specs.Values as value
use Rattle.kf_value.specs.Types.{TypeTree, TypeTrees, Boolean, Range, TupleOf, no_type, more_types, values, counted}
use Rattle.kf_value.specs.Types as type
use Rattle.kf_value.specs.Sizes.{HasSize, well_formed}
use Rattle.kf_value.proofs.Ascending.{length-values, values_ascend}
use Rattle.kf_value.proofs.ListLemmas.{each_weaker}
use Rattle.kf_value.proofs.Orders.{order-itself}
use Rattle.kf_value.proofs.Trees.{parts_list-parts}
use Rattle.kf_ops.specs.Values.{ArithWide, is_i64}
use Rattle.kf_ops.specs.Sets.{without}
use Rattle.kf_ast.specs.Exprs.{ExprTree, exprs}
use Rattle.kf_ast.specs.Exprs as written
use Rattle.kf_core.specs.Evaluation.{all_values, ev, evs}
use Rattle.kf_core.specs.Dxs.{DxTree, dx_at}
use Rattle.kf_core.specs.Results.{then_ok}
use Rattle.kf_ast.specs.Dists.{dist_at, UniformSet, UniformRange}
use Rattle.kf_core.specs.Choices.{once, some_of, choices, lowest, gathered}
use Rattle.kf_core.proofs.Plain.{plain_choices, set_of_sorted}
use Rattle.kf_check.specs.Translation.{ex_of, exs_of, dx_of}
use Rattle.kf_prior.specs.FullSources.{literal, only, part_literals, parts_of, set_literal, whole_literal, uniform_over}
use Rattle.kf_prior.specs.Literals.{IsShort, HasLiteral, HaveLiterals, least_of}
use Rattle.kf_prior.proofs.Literal.{range_few, range_short, some_values, values_literals}

module _ (names : List (List ℕ)) (s : List ValueTree) where
  -- what is written evaluates to this
  abbrev Gives : ExprTree → ValueTree → Type 0
  Gives x v = ev s (ex_of names x) ≡ Ok v

  abbrev Given : List ExprTree → List ValueTree → Type 0
  Given xs vs = all_values (evs s (exs_of names (exprs xs))) ≡ Ok vs

  narrow_low : (n : ℕ) → n ≤ 999999 → is_i64 (negsuc n) ≡ true
  narrow_low n low = grind (arith, nat_tests)

  whole_given : (at : ℕ) (z : ℤ) → IsShort z → Gives (whole_literal at z) (Whole z)
  whole_given at (pos n) short = refl
  whole_given at (negsuc n) short =
      let low : n ≤ 999999 = let h = short.low in omega (arith, ints, h) in
      ap (λ b. if b then Ok (Whole (negsuc n)) else Err ArithWide) (narrow_low n low)

  given_more : (x : ExprTree) (xs : List ExprTree) (v : ValueTree) (vs : List ValueTree) → Gives x v → Given xs vs → Given (x ∷ xs) (v ∷ vs)
  given_more x xs v vs h g = rw (h, g) refl

  only_given : (at : ℕ) (x : ExprTree) (v : ValueTree) → Gives x v → Gives (only at x) (Set (parts (v ∷ [])))
  only_given at x v h = rw h refl

  is_itself : (v : ValueTree) → is_equal v v ≡ true
  is_itself v = ap is_eq (order-itself v)

  nothing_left : (v : ValueTree) → without (v ∷ []) (v ∷ []) ≡ []
  nothing_left v = rw (is_itself v) refl

  set_given : (at : ℕ) (least : ExprTree) (w : ValueTree) (xs : List ExprTree) (vs : List ValueTree) → Gives least w → Given xs vs → length xs ≡ length vs
      → IsStrictlySortedBy order vs → Gives (set_literal at least xs) (Set (parts vs))
  set_given at least w [] [] l g long sorted = rw (only_given at least w l, nothing_left w) refl
  set_given at least w [] (v ∷ vs) l g long sorted = absurd (omega arith)
  set_given at least w (x ∷ xs) vs l g long sorted = rw (g, set_of_sorted vs sorted) refl

  length-parts : (at : ℕ) (ts : TypeTrees) (vs : List ValueTree) → HaveLiterals ts vs → length (part_literals at ts vs) ≡ length vs
  length-parts at no_type [] h = refl
  length-parts at no_type (v ∷ vs) h = absurd h
  length-parts at (more_types t ts) [] h = absurd h
  length-parts at (more_types t ts) (v ∷ vs) h = ap suc (length-parts at ts vs h.1)

  all_given : (f : ValueTree → ExprTree) (vs : List ValueTree) → Each (λ v. Gives (f v) v) vs → Given (map f vs) vs
  all_given f [] h = refl
  all_given f (v ∷ vs) h = given_more (f v) (map f vs) v vs h.0 (all_given f vs h.1)

  mutual
    pub literal_given : (at : ℕ) (t : TypeTree) (v : ValueTree) → HasLiteral t v → Gives (literal at t v) v
    literal_given at Boolean v h = rw (h.1) refl
    literal_given at (Range lo hi) v h = rw (h.1) (whole_given at h.0 h.2)
    literal_given at (TupleOf ts) v h =
        let same : parts_of v ≡ h.0 = ap parts_of h.1 ∙ parts_list-parts h.0 in
        let given = parts_given at ts h.0 h.3 in
        rw (same, given, h.1) refl
    literal_given at (type.SetOf base) v h =
        let same : elements v ≡ h.0 = ap elements h.1 ∙ parts_list-parts h.0 in
        let least = literal_given at base (least_of base) h.4 in
        let given = all_given (literal at base) h.0
        (each_weaker (HasLiteral base) (λ u. Gives (literal at base u) u) (literal_given at base) h.0 h.5) in
        rw (same, h.1) (set_given at (literal at base (least_of base)) (least_of base) (map (literal at base) h.0) h.0 least given (length-map h.0 (literal at base)) h.2)

    parts_given : (at : ℕ) (ts : TypeTrees) (vs : List ValueTree) → HaveLiterals ts vs → Given (part_literals at ts vs) vs
    parts_given at no_type [] h = refl
    parts_given at no_type (v ∷ vs) h = absurd h
    parts_given at (more_types t ts) [] h = absurd h
    parts_given at (more_types t ts) (v ∷ vs) h = given_more (literal at t v) (part_literals at ts vs) v vs (literal_given at t v h.0) (parts_given at ts vs h.1)

-- ---- each value once

-- the distribution chooses each value of the type, each as likely as the others
abbrev pub ChoosesAll : TypeTree → DxTree → Type 0
ChoosesAll t (dx_at at d) = (s : List ValueTree) → choices s d ≡ Ok (map once (values t))

some_listed : (vs : List ValueTree) → 1 ≤ length vs → some_of (map once vs) ≡ Ok (map once vs)
some_listed [] some = absurd (omega arith)
some_listed (v ∷ vs) some = refl

module _ (names : List (List ℕ)) (at : ℕ) where
  chosen : (t : TypeTree) → HasSize t → then_ok (some_of (map once (values t))) (λ ws. Ok (lowest (gathered ws))) ≡ Ok (map once (values t))
  chosen t sized =
      let some = some_values t sized in
      let long = length-values t in
      rw (some_listed (values t) (omega arith)) (ap Ok (plain_choices (values t) (values_ascend t) (omega arith)))

  listed_chosen : (t : TypeTree) → HasSize t → well_formed t ≡ true
      → ChoosesAll t (dx_of names (dist_at at (UniformSet (written.expr_at at (written.SetOf (exprs (map (literal at t) (values t))))))))
  listed_chosen t sized formed s =
      let given = all_given names s (literal at t) (values t)
      (each_weaker (HasLiteral t) (λ v. Gives names s (literal at t v) v) (literal_given names s at t) (values t) (values_literals t sized formed)) in
      rw (given, set_of_sorted (values t) (values_ascend t), parts_list-parts (values t)) (chosen t sized)

  short_enough : (n : ℕ) → n ≤ 65536 → nat_lt 65536 n ≡ false
  short_enough n few = grind (arith, nat_tests)

  range_chosen : (lo hi : ℤ) → HasSize (Range lo hi) → ChoosesAll (Range lo hi) (dx_of names (dist_at at (UniformRange (whole_literal at lo) (whole_literal at hi))))
  range_chosen lo hi sized s =
      let short = range_short lo hi sized in
      let few = short_enough (counted (hi -ℤ lo)) (range_few lo hi sized) in
      rw (whole_given names s at lo short.0, whole_given names s at hi short.1, few) (chosen (Range lo hi) sized)

  pub uniform_chosen : (t : TypeTree) → HasSize t → well_formed t ≡ true → ChoosesAll t (dx_of names (uniform_over at t))
  uniform_chosen Boolean sized formed = listed_chosen Boolean sized formed
  uniform_chosen (Range lo hi) sized formed = range_chosen lo hi sized
  uniform_chosen (TupleOf ts) sized formed = listed_chosen (TupleOf ts) sized formed
  uniform_chosen (type.SetOf base) sized formed = listed_chosen (type.SetOf base) sized formed
