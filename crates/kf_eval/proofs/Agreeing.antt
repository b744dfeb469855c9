-- What an expression and a distribution give depends on the variables alone that they read.
use Rattle.std.proofs.Common.{◌≡◌, ℕ, ◌||◌, Bool, true, false, List, [], ◌∷◌, ◌++◌, map, get_or, Ok, refl, ap, ◌∙◌}
use Rattle.std.specs.List.{list_any}
use Rattle.std.proofs.lemmas.Bool.{eq-eqb}
use Rattle.kf_value.specs.Values.{ValueTree, Truth, Tuple as TupleValue, Set, parts, elements, whole}
use Rattle.kf_core.specs.Results.{then_ok}
use Rattle.kf_core.specs.Exs.{ExTree, ExTrees, Const, Slot, Apply, Tuple, SetOf, Part, no_exs, more_exs}
use Rattle.kf_core.specs.Dxs.{DxCaseTree, case_of, DxShape, Sure, UniformSet, UniformRange, Choose, Flip}
use Rattle.kf_core.specs.Evaluation.{ev, evs, all_values, operator_at, part_of, set_of}
use Rattle.kf_core.specs.Choices.{choices, listed, case_listed, gathered, lowest, with_value, weighed, once, some_of, each_from}
use Rattle.kf_core.specs.Each.{at_row, cases_listed}
use Rattle.kf_eval.specs.Reads.{reads, some_reads, case_reads, dist_reads}

either_left : (a b : Bool) → a ≡ true → (a || b) ≡ true
either_left true b h = refl
either_left false b h = absurd (cc)

either_right : (a b : Bool) → b ≡ true → (a || b) ≡ true
either_right true b h = refl
either_right false b h = h

module _ (s t : List ValueTree) where
  -- the two lists have the same values where the test holds
  abbrev pub Agree : (ℕ → Bool) → Type 0
  Agree read = (i : ℕ) → read i ≡ true → get_or s i (Truth false) ≡ get_or t i (Truth false)

  mutual
    pub same_value : (x : ExTree) → Agree (λ i. reads i x) → ev s x ≡ ev t x
    same_value (Const v) agree = refl
    same_value (Slot i) agree = ap (λ v. Ok v) (agree i (eq-eqb i i refl))
    same_value (Apply row xs) agree = ap (at_row (operator_at row)) (same_values xs agree)
    same_value (Tuple xs) agree = ap (λ es. then_ok (all_values es) (λ vs. Ok (TupleValue (parts vs)))) (same_values xs agree)
    same_value (SetOf xs) agree = ap (λ es. then_ok (all_values es) (λ vs. Ok (Set (parts (set_of vs))))) (same_values xs agree)
    same_value (Part x k) agree = ap (λ e. then_ok e (λ v. Ok (part_of k v))) (same_value x agree)

    same_values : (xs : ExTrees) → Agree (λ i. some_reads i xs) → evs s xs ≡ evs t xs
    same_values no_exs agree = refl
    same_values (more_exs x xs) agree =
        ap (λ e. e ∷ evs s xs) (same_value x (λ i h. agree i (either_left (reads i x) (some_reads i xs) h)))
        ∙ ap (λ es. ev t x ∷ es) (same_values xs (λ i h. agree i (either_right (reads i x) (some_reads i xs) h)))

  same_case : (c : DxCaseTree) → Agree (λ i. case_reads i c) → case_listed s c ≡ case_listed t c
  same_case (case_of x y) agree =
      ap (λ e. with_value e (λ w. weighed (ev s x) (whole w))) (same_value y (λ i h. agree i (either_right (reads i x) (reads i y) h)))
      ∙ ap (λ e. with_value (ev t y) (λ w. weighed e (whole w))) (same_value x (λ i h. agree i (either_left (reads i x) (reads i y) h)))

  same_cases : (cs : List DxCaseTree) → Agree (λ i. list_any (case_reads i) cs) → cases_listed s cs ≡ cases_listed t cs
  same_cases [] agree = refl
  same_cases (c ∷ cs) agree =
      ap (λ e. then_ok e (λ ws. then_ok (cases_listed s cs) (λ others. Ok (ws ++ others)))) (same_case c (λ i h. agree i (either_left (case_reads i c) (list_any (case_reads i) cs) h)))
      ∙ ap (λ e. then_ok (case_listed t c) (λ ws. then_ok e (λ others. Ok (ws ++ others)))) (same_cases cs (λ i h. agree i (either_right (case_reads i c) (list_any (case_reads i) cs) h)))

  same_listed : (d : DxShape) → Agree (λ i. dist_reads i d) → listed s d ≡ listed t d
  same_listed (Sure x) agree = ap (λ e. with_value e (λ v. Ok (once v ∷ []))) (same_value x agree)
  same_listed (UniformSet x) agree = ap (λ e. with_value e (λ v. some_of (map once (elements v)))) (same_value x agree)
  same_listed (UniformRange x y) agree =
      ap (λ e. with_value e (λ a. with_value (ev s y) (λ b. each_from (whole a) (whole b)))) (same_value x (λ i h. agree i (either_left (reads i x) (reads i y) h)))
      ∙ ap (λ e. with_value (ev t x) (λ a. with_value e (λ b. each_from (whole a) (whole b)))) (same_value y (λ i h. agree i (either_right (reads i x) (reads i y) h)))
  same_listed (Choose cs) agree = ap (λ e. then_ok e some_of) (same_cases cs agree)
  same_listed (Flip num den) agree = refl

  -- so it chooses the same in both
  pub same_choices : (d : DxShape) → Agree (λ i. dist_reads i d) → choices s d ≡ choices t d
  same_choices d agree = ap (λ e. then_ok e (λ ws. Ok (lowest (gathered ws)))) (same_listed d agree)
