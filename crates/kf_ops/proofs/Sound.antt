-- What holds of the operators, by tests that compute.
use Rattle.std.proofs.Common.{◌≡◌, ℕ, ◌≤◌, ◌+◌, Bool, true, false, Some, List, length, take, drop, refl, ltb, not, sym, ap, ◌∙◌, arith}
use Rattle.std.specs.Bool.{Decides}
use Rattle.std.specs.Prelude.{◌&&◌, nat_eq, slice_get}
use Rattle.std.specs.List.{All, list_all}
use Rattle.std.specs.Ordering.{on}
use Rattle.std.proofs.lemmas.Bool.Decides.{Decides-by_and, Decides-and, Decides-ltb, Decides-eqb, Decides-like, Decides-not}
use Rattle.std.proofs.lemmas.Map.Made.{IsDistinct-from_count, AllPairs-from_IsDistinct}
use Rattle.std.proofs.lemmas.Slice.Eq.{bytes_eq-Decides}
use Rattle.std.proofs.lemmas.Cmp.{nat_list_eq_equiv, nat_eq_equiv, on_equiv}
use Rattle.kf_ops.specs.Rows.{Row, operators}
use Rattle.kf_ops.specs.Table.{HasArity, HasDistinctCodes, HasDistinctWords, HasLevel, HasRowAtNumber, codes_of, words_of}
use Rattle.kf_ops.specs.Places.{number_of}
use Rattle.kf_ops.specs.declared.row.Op.{Op}
use Rattle.kf_ops.specs.declared.row.Op.TheVariants as op
use Rattle.kf_ops.specs.declared.row.Pat.{Pat}
use Rattle.kf_ops.specs.declared.row.Pat.TheVariants as pat

-- what each member passes in a test that computes
all_pass : {X : Type 0} (test : X → Bool) (P : X → Type 0) → ((x : X) → Decides (test x) (P x)) → (xs : List X)
    → Decides (list_all test xs) (All P xs)
all_pass test P each = Decides-by_and test P (list_all test) each refl (λ _ _. refl)

pub words_differ : HasDistinctWords operators
words_differ =
    AllPairs-from_IsDistinct bytes_eq-Decides (words_of operators)
    (IsDistinct-from_count nat_list_eq_equiv (words_of operators) refl)

abbrev has_level : Row → Bool
has_level row = ltb 0 row.level && ltb row.level 9

level_decided : (row : Row) → Decides (has_level row) (HasLevel row)
level_decided row =
    Decides-like (has_level row) (λ h. (omega arith, omega arith)) (λ h. (omega arith, omega arith))
    (Decides-and _ _ (Decides-ltb 0 row.level) (Decides-ltb row.level 9))

-- how many arguments a row takes
abbrev pub taken_by : Row → ℕ
taken_by row = length (take row.arity row.args)

abbrev takes_some : Row → Bool
takes_some row = ltb 0 (taken_by row) && ltb (taken_by row) 4

abbrev pub TakesSome : Row → Type 0
TakesSome row = (1 ≤ taken_by row) × (taken_by row ≤ 3)

some_decided : (row : Row) → Decides (takes_some row) (TakesSome row)
some_decided row =
    Decides-like (takes_some row) (λ h. (omega arith, omega arith)) (λ h. (omega arith, omega arith))
    (Decides-and _ _ (Decides-ltb 0 (taken_by row)) (Decides-ltb (taken_by row) 4))

pub take_some : All TakesSome operators
take_some = (all_pass takes_some TakesSome some_decided operators).0 refl

pub levels : All HasLevel operators
levels = (all_pass has_level HasLevel level_decided operators).0 refl

abbrev is_nothing : Pat → Bool
is_nothing pat.Nothing = true
is_nothing _ = false

nothing_decided : (p : Pat) → Decides (is_nothing p) (p ≡ pat.Nothing)
nothing_decided pat.Nothing = (λ t. refl, λ e. refl)
nothing_decided pat.Bool = (λ t. (cc), λ e. (cc))
nothing_decided pat.Int = (λ t. (cc), λ e. (cc))
nothing_decided pat.Any = (λ t. (cc), λ e. (cc))
nothing_decided pat.SetOfAny = (λ t. (cc), λ e. (cc))

abbrev has_arity : Row → Bool
has_arity row =
    ltb row.arity (length row.args + 1)
    && (list_all (λ p. not (is_nothing p)) (take row.arity row.args) && list_all is_nothing (drop row.arity row.args))

arity_decided : (row : Row) → Decides (has_arity row) (HasArity row)
arity_decided row =
    let something = λ (p : Pat). Decides-not (is_nothing p) (nothing_decided p) in
    let taken = all_pass (λ p. not (is_nothing p)) (λ p. ¬ (p ≡ pat.Nothing)) something (take row.arity row.args) in
    let rest = all_pass is_nothing (λ p. p ≡ pat.Nothing) nothing_decided (drop row.arity row.args) in
    let within = Decides-ltb row.arity (length row.args + 1) in
    Decides-like (has_arity row)
    (λ h. record { within = omega arith; taken = h.1.0; rest = h.1.1 })
    (λ (h : HasArity row). (omega arith, (h.taken, h.rest)))
    (Decides-and _ _ within (Decides-and _ _ taken rest))

pub arities : All HasArity operators
arities = (all_pass has_arity HasArity arity_decided operators).0 refl

pub at_number : HasRowAtNumber operators
at_number op.Or = refl
at_number _ = refl

one_number : (a b : Op) → number_of a ≡ number_of b → a ≡ b
one_number a b same =
    let joined : Some a ≡ Some b = sym (at_number a) ∙ ap (slice_get (codes_of operators)) same ∙ at_number b in
    cc

code_decided : (a b : Op) → Decides (on number_of nat_eq a b) (a ≡ b)
code_decided a b = Decides-like (on number_of nat_eq a b) (one_number a b) (ap number_of) (Decides-eqb (number_of a) (number_of b))

pub codes_differ : HasDistinctCodes operators
codes_differ =
    AllPairs-from_IsDistinct code_decided (codes_of operators)
    (IsDistinct-from_count (on_equiv number_of nat_eq_equiv) (codes_of operators) refl)
