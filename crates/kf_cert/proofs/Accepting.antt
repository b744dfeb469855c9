-- What is accepted proves, and a matrix or a table that proves is accepted.
use Rattle.std.proofs.Common.{◌≡◌, ◌⊎◌, inl, inr, ⊎_elim, ℕ, zero, suc, ◌*◌, ◌<◌, ◌≤◌, List, All, refl, sym, ap, ◌∙◌, subst, arith}
use Rattle.std.specs.Prelude.{Ok, Err, Result}
use Rattle.std.proofs.Math.IntN.{ℤ, pos, ◌*ℤ◌}
use Rattle.std.proofs.lemmas.Bool.{cases_lt}
use Rattle.std.proofs.lemmas.Int.{ints}
use lib.Signed.{◌<ℤ◌, ◌≤ℤ◌}
use Rattle.kf_frac.specs.Fractions.{limit}
use Rattle.kf_frac.proofs.Ring.{ring}
use Rattle.kf_simplex.specs.Base.{total}
use Rattle.kf_simplex.proofs.Signs.{product_monotone, product_not_negative, factor_not_negative, cancel, cancel_le}
use Rattle.kf_simplex.proofs.Sums.{total-ext, total-scale, total-scale_right, total_not_negative}
use Rattle.kf_refine.specs.Refinements.{HyperTree, Fraction, count, entry, joint, IsShaped, CarriesWeights, Carries}
use Rattle.kf_cert.specs.Certificates.{Yes, Named, No, matrix_of}
use Rattle.kf_cert.specs.Marks.{IsInRange, MarkedByRules, denominator, over_one}
use Rattle.kf_cert.specs.Rows.{SumToOne}
use Rattle.kf_cert.specs.declared.mark.Mark.{Mark}
use Rattle.kf_cert.specs.declared.mark.Mark.TheVariants.{Accepted, Rejected}
use Rattle.kf_cert.specs.declared.mark.Rule.{Rule}
use Rattle.kf_cert.specs.declared.mark.Rule.TheVariants as rule
use Rattle.kf_cert.specs.declared.mark.CheckError.{CheckError}
use Rattle.kf_cert.specs.declared.mark.CheckError.TheVariants as error
use Rattle.kf_cert.specs.Laws.{AcceptedShows, CarryingAccepted, NamedAccepted, SeparatingAccepted}
use Rattle.kf_cert.proofs.Denominators.{at_entry, from_entries, denominator_positive, over_one_is}
use Rattle.kf_cert.proofs.NamedRows.{sized_shape, matrix_has}

-- ---- what is accepted proves

-- a rule holds where the answer isn't the one for its breach
held : {R : Type 0} {r broken : R} {A B : Type 0} → (r ≡ broken → ⊥) → ((A → ⊥) × (r ≡ broken)) ⊎ (A × B) → A × B
held other (inl (not, is)) = absurd (other is)
held other (inr both) = both

module _ (a b : HyperTree) (rows : List (List Fraction)) (sound : All (λ row. All (λ f. 0 < f.den) row) rows) where
  not_below : (z : ℤ) (q : ℕ) → pos 0 ≤ℤ z → pos 0 ≤ℤ (z *ℤ pos q)
  not_below z q some = product_not_negative z (pos q) some (omega (arith, ints))

  accepted_carries : IsShaped (count a) (count b) rows → IsInRange rows → SumToOne (count a) (count b) rows
      → CarriesWeights a b (denominator rows) (over_one rows) → Carries a b rows
  accepted_carries shape range sum cell = record {
    shape = shape;
    over = denominator rows;
    number = over_one rows;
    is_over = record {
      positive = denominator_positive rows sound;
      fractions = λ i j l k. at_entry (λ f. 0 < f.den) (count a) (count b) rows shape sound i j l k;
      numbers = λ i j l k. over_one_is rows sound (count a) (count b) i j shape l k;
    };
    stochastic = record {
      not_negative = λ i j l k.
          not_below (entry rows i j).num _ (at_entry (λ f. (pos 0 ≤ℤ f.num) × (f.num ≤ℤ pos f.den)) (count a) (count b) rows shape range i j l k).0;
      rows = sum;
    };
    carries = cell;
  }

-- being accepted is neither being rejected nor too wide
pub not_rejected : (x : Rule) → ◌≡◌ {A = Result Mark CheckError} (Ok Accepted) (Ok (Rejected x)) → ⊥
not_rejected x e = cc

pub not_wide : ◌≡◌ {A = Result Mark CheckError} (Ok Accepted) (Err error.Wide) → ⊥
not_wide e = cc

rules_show : (a b : HyperTree) (rows : List (List Fraction)) → All (λ row. All (λ f. 0 < f.den) row) rows → IsShaped (count a) (count b) rows
    → MarkedByRules a b rows (Ok Accepted) → Carries a b rows
rules_show a b rows sound shape marked =
    let range = held (not_rejected rule.Range) marked in
    let fits = held not_wide range.1 in
    let sum = held (not_rejected rule.Sum) fits.1 in
    let cell = held (not_rejected rule.Cell) sum.1 in
    accepted_carries a b rows sound shape range.0 sum.0 cell.0

pub accepted_shows : AcceptedShows
accepted_shows a b (Yes rows) is_a is_b sound marked =
    let shape = held (not_rejected rule.Shape) marked in
    rules_show a b rows sound shape.0 shape.1
accepted_shows a b (Named t) is_a is_b sound marked =
    let shape = held (not_rejected rule.Shape) marked in
    let shaped : IsShaped (count a) (count b) (matrix_of t) = sized_shape (count a) (count b) t shape.0.0 shape.0.1 in
    rules_show a b (matrix_of t) (matrix_has (λ f. 0 < f.den) (omega arith) t sound.positive) shaped shape.1
accepted_shows a b (No t) is_a is_b sound marked =
    let values = held (not_rejected rule.Value) marked in
    let fits = held not_wide values.1 in
    let order = held (not_rejected rule.Order) fits.1 in
    (values.0, order.0)

-- ---- a matrix that proves is accepted

module _ (over den d : ℕ) (num number one : ℤ) (some_den : 0 < den) (of_number : number *ℤ pos den ≡ num *ℤ pos over)
    (of_one : one *ℤ pos den ≡ num *ℤ pos d) where
  -- an entry over one denominator and over the other
  across : pos over *ℤ one ≡ number *ℤ pos d
  across =
      let h = simp ring at (ap (λ (z : ℤ). pos d *ℤ z) of_number) in
      let k = simp ring at (ap (λ (z : ℤ). pos over *ℤ z) of_one) in
      cancel (pos over *ℤ one) (number *ℤ pos d) (pos den) (omega (arith, ints, some_den)) (simp ring (omega (arith, ints)))

module _ (over den : ℕ) (num number : ℤ) (some_over : 0 < over) (of_number : number *ℤ pos den ≡ num *ℤ pos over) where
  num_not_negative : pos 0 ≤ℤ number → pos 0 ≤ℤ num
  num_not_negative some =
      let h = product_not_negative number (pos den) some (omega (arith, ints)) in
      factor_not_negative (pos over) num (omega (arith, ints, some_over)) (omega (arith, ints, h, of_number))

  num_at_most : number ≤ℤ pos over → num ≤ℤ pos den
  num_at_most less =
      let h = product_monotone number (pos over) (pos den) (omega (arith, ints)) less in
      cancel_le num (pos den) (pos over) (omega (arith, ints, some_over)) (omega (arith, ints, h, of_number))

-- one of some numbers that aren't negative is at most their sum
member_at_most : (n : ℕ) (f : ℕ → ℤ) → ((k : ℕ) → k < n → pos 0 ≤ℤ f k) → (j : ℕ) → j < n → f j ≤ℤ total n f
member_at_most zero f some j l = absurd (omega (arith, l))
member_at_most (suc n) f some j l =
    let before : (k : ℕ) → k < n → pos 0 ≤ℤ f k = λ (k : ℕ) (l : k < n). some k (omega (arith, l)) in
    let last = some n (omega arith) in
    let sum = total_not_negative n f before in
    ⊎_elim
    (λ (early : j < n). let h = member_at_most n f before j early in omega (arith, ints, h, last))
    (λ (late : n ≤ j). let same : j ≡ n = omega (arith, l, late) in rw same (omega (arith, ints, sum)))
    (cases_lt j n)

module _ (a b : HyperTree) (rows : List (List Fraction)) (is : Carries a b rows) where
  m : ℕ
  m = count a

  n : ℕ
  n = count b

  d : ℕ
  d = denominator rows

  sound : All (λ row. All (λ f. 0 < f.den) row) rows
  unfolding m n
  sound = from_entries (λ f. 0 < f.den) m n rows is.shape is.is_over.fractions

  pub in_range : IsInRange rows
  in_range = from_entries (λ f. (pos 0 ≤ℤ f.num) × (f.num ≤ℤ pos f.den)) (count a) (count b) rows is.shape
      (λ i j l k.
      let some = is.is_over.positive in
      let same = is.is_over.numbers i j l k in
      let most = member_at_most (count b) (is.number i) (λ (j : ℕ) (k : j < count b). is.stochastic.not_negative i j l k) j k in (
        num_not_negative is.over (entry rows i j).den (entry rows i j).num (is.number i j) some same (is.stochastic.not_negative i j l k),
        num_at_most is.over (entry rows i j).den (entry rows i j).num (is.number i j) some same (subst (λ (z : ℤ). is.number i j ≤ℤ z) (is.stochastic.rows i l) most),
      ))

  over_both : (i j : ℕ) → i < count a → j < count b → pos is.over *ℤ over_one rows i j ≡ is.number i j *ℤ pos d
  unfolding d
  over_both i j l k =
      across is.over (entry rows i j).den d (entry rows i j).num (is.number i j) (over_one rows i j) (is.is_over.fractions i j l k)
      (is.is_over.numbers i j l k) (over_one_is rows sound (count a) (count b) i j is.shape l k)

  some_over : pos 0 <ℤ pos is.over
  some_over = omega (arith, ints, is.is_over.positive)

  pub sums : SumToOne (count a) (count b) rows
  unfolding d
  sums i l =
      cancel (total (count b) (over_one rows i)) (pos d) (pos is.over) some_over
      (sym (total-scale (count b) (pos is.over) (over_one rows i))
      ∙ total-ext (count b) (λ j. pos is.over *ℤ over_one rows i j) (λ j. is.number i j *ℤ pos d) (λ (j : ℕ) (k : j < count b). over_both i j l k)
      ∙ total-scale_right (count b) (pos d) (is.number i)
      ∙ ap (λ (z : ℤ). z *ℤ pos d) (is.stochastic.rows i l))

  pub cells : CarriesWeights a b (denominator rows) (over_one rows)
  unfolding d
  cells x j k =
      let w : ℕ → ℤ = λ i. pos (joint a x i) in
      let sum : pos is.over *ℤ total (count a) (λ i. w i *ℤ over_one rows i j) ≡ total (count a) (λ i. w i *ℤ is.number i j) *ℤ pos d =
      sym (total-scale (count a) (pos is.over) (λ i. w i *ℤ over_one rows i j))
      ∙ total-ext (count a) (λ i. pos is.over *ℤ (w i *ℤ over_one rows i j)) (λ i. w i *ℤ is.number i j *ℤ pos d)
      (λ (i : ℕ) (l : i < count a). moved (pos is.over) (w i) (over_one rows i j) (is.number i j) (pos d) (over_both i j l k))
      ∙ total-scale_right (count a) (pos d) (λ i. w i *ℤ is.number i j) in
      carried (pos is.over) (pos b.scale) (pos a.scale) (pos d) (total (count a) (λ i. w i *ℤ over_one rows i j)) (total (count a) (λ i. w i *ℤ is.number i j))
      (pos (joint b x j)) some_over sum (is.carries x j k ∙ ap (λ (z : ℤ). z *ℤ pos (joint b x j)) (product a.scale is.over)) ∙ ap (λ (z : ℤ). z *ℤ pos (joint b x j)) (sym (product a.scale d))
    where
      product : (u v : ℕ) → pos (u * v) ≡ pos u *ℤ pos v
      product u v = omega (arith, ints)

      moved : (o w u v e : ℤ) → o *ℤ u ≡ v *ℤ e → o *ℤ (w *ℤ u) ≡ w *ℤ v *ℤ e
      moved o w u v e same = simp ring (let h = simp ring at (ap (λ (z : ℤ). w *ℤ z) same) in omega (arith, ints))

      carried : (o t s e ones numbers w : ℤ) → pos 0 <ℤ o → o *ℤ ones ≡ numbers *ℤ e → t *ℤ numbers ≡ s *ℤ o *ℤ w → t *ℤ ones ≡ s *ℤ e *ℤ w
      carried o t s e ones numbers w some sum same =
          let h = simp ring at (ap (λ (z : ℤ). t *ℤ z) sum) in
          let k = simp ring at (ap (λ (z : ℤ). e *ℤ z) same) in
          cancel (t *ℤ ones) (s *ℤ e *ℤ w) o some (simp ring (omega (arith, ints)))

carrying_rules : (a b : HyperTree) (rows : List (List Fraction)) → Carries a b rows → a.scale * denominator rows ≤ limit → MarkedByRules a b rows (Ok Accepted)
carrying_rules a b rows is fits = inr (in_range a b rows is, inr (fits, inr (sums a b rows is, inr (cells a b rows is, refl))))

pub carrying_accepted : CarryingAccepted
carrying_accepted a b rows is_a is_b is fits = inr (is.shape, carrying_rules a b rows is fits)

pub named_accepted : NamedAccepted
named_accepted a b t rows columns is fits = inr ((rows, columns), carrying_rules a b (matrix_of t) is fits)

pub separating_accepted : SeparatingAccepted
separating_accepted a b t names is first second = inr (names, inr ((first, second), inr (is, refl)))

-- the rules accept it, or the check is too wide
pub carrying_marked : (a b : HyperTree) (rows : List (List Fraction)) → Carries a b rows → MarkedByRules a b rows (Ok Accepted) ⊎ MarkedByRules a b rows (Err error.Wide)
carrying_marked a b rows is =
    ⊎_elim
    (λ (wide : limit < a.scale * denominator rows).
    inr (inr (in_range a b rows is, inl (λ (fits : a.scale * denominator rows ≤ limit). omega (arith, wide, fits), refl))))
    (λ (fits : a.scale * denominator rows ≤ limit). inl (carrying_rules a b rows is fits))
    (cases_lt limit (a.scale * denominator rows))
