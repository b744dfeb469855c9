-- Two systems that agree have one end of their runs, and one result besides want of memory.
use Rattle.std.proofs.Common.{◌≡◌, ◌≢◌, ℕ, zero, suc, ◌+◌, ◌<◌, ◌≤◌, refl, sym, ap, ◌∙◌, subst, arith, ⊎_elim}
use Rattle.std.proofs.Common.{unsigned_abs, List, [], ◌∷◌, length, Result, Ok, Err}
use Rattle.std.proofs.Math.IntN.{ℤ, pos, ◌*ℤ◌}
use Rattle.std.proofs.Math.Nat.{one-dvd}
use Rattle.std.proofs.lemmas.Int.{ints}
use Rattle.std.proofs.lemmas.List.{ext_get_or}
use lib.Signed.{◌<ℤ◌}
use Rattle.std.proofs.Props.{props}
use mathlib.Core.HLevel.{is_prop→PathP}
use Rattle.kf_frac.specs.declared.frac.Frac.{Frac}
use Rattle.kf_frac.specs.Divisors.{gcd_of}
use Rattle.kf_frac.specs.Fractions.{limit as greatest_part}
use Rattle.kf_frac.specs.Views.{num_of, den_of}
use Rattle.kf_frac.proofs.Ring.{ring}
use Rattle.kf_frac.proofs.CommonDivisors.{gcd_is_the}
use Rattle.kf_frac.proofs.LowestTerms.{reduced_num_same, reduced_den_same}
use Rattle.kf_frac.proofs.Scaling.{same_num, same_den}
use Rattle.kf_simplex.specs.declared.outcome.Outcome.{Outcome}
use Rattle.kf_simplex.specs.declared.outcome.Outcome.TheVariants as outcome
use Rattle.kf_simplex.specs.declared.outcome.SimplexError.{SimplexError}
use Rattle.kf_simplex.specs.declared.outcome.SimplexError.TheVariants as error
use Rattle.kf_simplex.specs.Systems.{LinearSystem, right_column}
use Rattle.kf_simplex.specs.Tableaus.{Tableau}
use Rattle.kf_simplex.specs.Runs.{Cause, wide, solution, multipliers, budget, EndsAt}
use Rattle.kf_simplex.specs.Answers.{IsAnswer, IsSolutionOf, AreMultipliersOf, num_at, den_at}
use Rattle.kf_simplex.specs.Laws.{SameTableau, OneEnd, OneResult}
use Rattle.kf_simplex.proofs.Agreeing.{agrees_in_ends, agrees_in_answers, agrees_both_ways}
use Rattle.kf_simplex.proofs.EndsOnce.{one_answer}
use Rattle.kf_simplex.proofs.Endings.{good_end}
use Rattle.kf_simplex.proofs.Outcomes.{den_positive}
use Rattle.kf_simplex.proofs.RunFacts.{IsGood}
use Rattle.kf_simplex.proofs.Signs.{cancel}
use Rattle.kf_simplex.proofs.SomeAnswer.{basic_row}

pub one_end : OneEnd
one_end s u limit p q t w c d h y a b = one_answer s limit p q t w c d y a (agrees_in_ends u s limit q w d (agrees_both_ways s u h) b)

-- ---- fractions and lists of them are told by their parts

same_frac : (a b : Frac) → num_of a ≡ num_of b → den_of a ≡ den_of b → a ≡ b
same_frac a b n d = λ i. record {
  num = n i;
  den = d i;
  positive = is_prop→PathP (λ j. 0 < d j) (λ j. hlevel props) a.positive b.positive i;
  num_fits = is_prop→PathP (λ j. unsigned_abs (n j) ≤ greatest_part) (λ j. hlevel props) a.num_fits b.num_fits i;
  den_fits = is_prop→PathP (λ j. d j ≤ greatest_part) (λ j. hlevel props) a.den_fits b.den_fits i;
  reduced = is_prop→PathP (λ j. gcd_of (unsigned_abs (n j)) (d j) ≡ 1) (λ j. hlevel props) a.reduced b.reduced i;
}

same_fracs : (xs ys : List Frac) → length xs ≡ length ys → ((j : ℕ) → j < length xs → num_at xs j ≡ num_at ys j)
    → ((j : ℕ) → j < length xs → den_at xs j ≡ den_at ys j) → xs ≡ ys
same_fracs [] [] l n d = refl
same_fracs [] (y ∷ ys) l n d = absurd (omega arith)
same_fracs (x ∷ xs) [] l n d = absurd (omega arith)
same_fracs (x ∷ xs) (y ∷ ys) l n d =
    let first : x ≡ y = same_frac x y (n 0 (omega arith)) (d 0 (omega arith)) in
    let rest : xs ≡ ys = same_fracs xs ys (omega arith) (λ (j : ℕ) (m : j < length xs). n (suc j) (omega arith))
    (λ (j : ℕ) (m : j < length xs). d (suc j) (omega arith)) in
    cc

lowest : (xs : List Frac) (j : ℕ) → gcd_of (unsigned_abs (num_at xs j)) (den_at xs j) ≡ 1
lowest [] j = sym (gcd_is_the 0 1 1 (one-dvd 0, one-dvd 1, (λ d h k. k)))
lowest (x ∷ xs) zero = x.reduced
lowest (x ∷ xs) (suc j) = lowest xs j

-- fractions in lowest terms that are equal by cross products
same_parts : (xs ys : List Frac) (j : ℕ) → num_at xs j *ℤ pos (den_at ys j) ≡ num_at ys j *ℤ pos (den_at xs j)
    → (num_at xs j ≡ num_at ys j) × (den_at xs j ≡ den_at ys j)
same_parts xs ys j e = (
  sym (reduced_num_same (num_at xs j) (den_at xs j) (lowest xs j))
      ∙ same_num (num_at xs j) (num_at ys j) (den_at xs j) (den_at ys j) (den_positive xs j) (den_positive ys j) e
      ∙ reduced_num_same (num_at ys j) (den_at ys j) (lowest ys j),
  sym (reduced_den_same (num_at xs j) (den_at xs j) (lowest xs j))
      ∙ same_den (num_at xs j) (num_at ys j) (den_at xs j) (den_at ys j) (den_positive xs j) (den_positive ys j) e
      ∙ reduced_den_same (num_at ys j) (den_at ys j) (lowest ys j),
)

-- ---- one tableau has one solution and one list of multipliers

cross : (entry right x y : ℤ) (d e : ℕ) → pos 0 <ℤ entry → x *ℤ entry ≡ right *ℤ pos d → y *ℤ entry ≡ right *ℤ pos e → x *ℤ pos e ≡ y *ℤ pos d
cross entry right x y d e p a b =
    cancel (x *ℤ pos e) (y *ℤ pos d) entry p
    (turn entry x (pos e)
    ∙ ap (λ (z : ℤ). z *ℤ pos e) a
    ∙ swap right (pos d) (pos e)
    ∙ ap (λ (z : ℤ). z *ℤ pos d) (sym b)
    ∙ sym (turn entry y (pos d)))
  where
    turn : (a b c : ℤ) → a *ℤ (b *ℤ c) ≡ b *ℤ a *ℤ c
    turn a b c = simp ring

    swap : (a b c : ℤ) → a *ℤ b *ℤ c ≡ a *ℤ c *ℤ b
    swap a b c = simp ring

module _ (s : LinearSystem) (t w : Tableau) (g : IsGood s t) (same : SameTableau s t w) where
  one_value : (xs ys : List Frac) → IsSolutionOf s t xs → IsSolutionOf s w ys → (j : ℕ) → j < s.unknowns
      → num_at xs j *ℤ pos (den_at ys j) ≡ num_at ys j *ℤ pos (den_at xs j)
  one_value xs ys a b j l =
      ⊎_elim
      (λ (found : (i : ℕ) × (i < s.equations) × (t.basis i ≡ j)).
      let at_t : t.basis found.0 ≡ j = found.2 in
      let at_w : w.basis found.0 ≡ j = sym (same.basis found.0 found.1) ∙ found.2 in
      let entry : t.rows found.0 j ≡ w.rows found.0 j = same.rows found.0 j found.1 (omega arith) in
      let right : t.rows found.0 (right_column s) ≡ w.rows found.0 (right_column s) = same.rows found.0 (right_column s) found.1 (omega arith) in
      cross (t.rows found.0 j) (t.rows found.0 (right_column s)) (num_at xs j) (num_at ys j) (den_at xs j) (den_at ys j)
      (subst (λ (c : ℕ). pos 0 <ℤ t.rows found.0 c) at_t (g.tableau.rows found.0 found.1).positive)
      (basic t xs a found.0 found.1 j l at_t)
      (rw (entry, right) (basic w ys b found.0 found.1 j l at_w)))
      (λ (none : (i : ℕ) → i < s.equations → t.basis i ≡ j → ⊥).
      rw (a.not_basic j l none, b.not_basic j l (λ i m e. none i m (same.basis i m ∙ e))) (omega (arith, ints)))
      (basic_row t.basis s.equations j)
    where
      basic : (t : Tableau) (xs : List Frac) → IsSolutionOf s t xs → (i : ℕ) → i < s.equations → (j : ℕ) → j < s.unknowns → t.basis i ≡ j
          → num_at xs j *ℤ t.rows i j ≡ t.rows i (right_column s) *ℤ pos (den_at xs j)
      basic t xs a i l j m e =
          subst (λ (c : ℕ). num_at xs c *ℤ t.rows i c ≡ t.rows i (right_column s) *ℤ pos (den_at xs c)) e
          (a.basic i l (subst (λ (c : ℕ). c < s.unknowns) (sym e) m))

  one_solution : (xs ys : List Frac) → IsSolutionOf s t xs → IsSolutionOf s w ys → xs ≡ ys
  one_solution xs ys a b =
      same_fracs xs ys (a.len ∙ sym b.len)
      (λ j l. (same_parts xs ys j (one_value xs ys a b j (subst (λ (n : ℕ). j < n) a.len l))).0)
      (λ j l. (same_parts xs ys j (one_value xs ys a b j (subst (λ (n : ℕ). j < n) a.len l))).1)

  one_multipliers : (xs ys : List ℤ) → AreMultipliersOf s t xs → AreMultipliersOf s w ys → xs ≡ ys
  one_multipliers xs ys a b =
      ext_get_or (pos 0) xs ys (a.len ∙ sym b.len)
      (λ k l. let m : k < s.equations = subst (λ (n : ℕ). k < n) a.len l in a.entries k m ∙ same.objective (s.unknowns + k) (omega arith) ∙ sym (b.entries k m))

-- ---- the result of an end

abbrev Gives : LinearSystem → Cause → ℕ → Tableau → Result Outcome SimplexError → Type 0
Gives s wide p t r = r ≡ Err (error.Wide p)
Gives s solution p t r = (xs : List Frac) × (r ≡ Ok (outcome.Solution xs)) × IsSolutionOf s t xs
Gives s multipliers p t r = (ys : List ℤ) × (r ≡ Ok (outcome.Multipliers ys)) × AreMultipliersOf s t ys
Gives s budget p t r = r ≡ Err error.Budget

abbrev IsGiven : LinearSystem → ℕ → Result Outcome SimplexError → Type 0
IsGiven s limit r = (p : ℕ) × (t : Tableau) × (c : Cause) × EndsAt s limit p t c × Gives s c p t r

given : (s : LinearSystem) (limit : ℕ) (r : Result Outcome SimplexError) → r ≢ Err error.Mem → IsAnswer s limit r → IsGiven s limit r
given s limit (Ok (outcome.Solution xs)) n a = (a.0, a.1, solution, a.2, (xs, refl, a.3))
given s limit (Ok (outcome.Multipliers ys)) n a = (a.0, a.1, multipliers, a.2, (ys, refl, a.3))
given s limit (Err (error.Wide p)) n a = (p, a.0, wide, a.1, refl)
given s limit (Err error.Budget) n a = (limit, a.0, budget, a.1, refl)
given s limit (Err error.Mem) n a = absurd (n refl)

one_given : (s : LinearSystem) (c : Cause) (p : ℕ) (t w : Tableau) (a b : Result Outcome SimplexError) → IsGood s t → SameTableau s t w
    → Gives s c p t a → Gives s c p w b → a ≡ b
one_given s wide p t w a b g same x y = x ∙ sym y
one_given s solution p t w a b g same x y = x.1 ∙ ap (λ (z : List Frac). Ok (outcome.Solution z)) (one_solution s t w g same x.0 y.0 x.2 y.2) ∙ sym y.1
one_given s multipliers p t w a b g same x y = x.1 ∙ ap (λ (z : List ℤ). Ok (outcome.Multipliers z)) (one_multipliers s t w g same x.0 y.0 x.2 y.2) ∙ sym y.1
one_given s budget p t w a b g same x y = x ∙ sym y

pub one_result : OneResult
one_result s u limit a b h y na nb ia ib =
    let x = given s limit a na ia in
    let z = given s limit b nb (agrees_in_answers u s limit b (agrees_both_ways s u h) ib) in
    let one = one_answer s limit x.0 z.0 x.1 z.1 x.2 z.2 y x.3 z.3 in
    one_given s x.2 x.0 x.1 z.1 a b (good_end s limit x.0 x.1 x.2 y x.3) one.1 x.4
    (subst (λ (c : Cause). Gives s c x.0 z.1 b) (sym one.2) (subst (λ (q : ℕ). Gives s z.2 q z.1 b) (sym one.0) z.4))
