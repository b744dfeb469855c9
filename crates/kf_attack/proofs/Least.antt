-- Along the gains of the tries: the least number of them that comes to what is wanted.
use Rattle.std.proofs.Common.{◌≡◌, ℕ, ◌+◌, ◌-◌, ◌*◌, ◌<◌, ◌≤◌, List, length, get_or, take, sym, ◌∙◌, ap, subst, arith, suc, ⊎_elim, true, false}
use Rattle.std.specs.Prelude.{pos, IsTrue}
use Rattle.std.proofs.Math.Nat.{mul-le-mul_left, eq-zero-or-pos}
use Rattle.std.proofs.lemmas.Bool.{cases_lt}
use Rattle.kf_frac.specs.Parts.{IsFraction}
use Rattle.kf_column.proofs.Scaling.{product_positive}
use Rattle.kf_gain.proofs.Falling.{all, front, front_taken, front_less}
use Rattle.kf_attack.specs.declared.reach.Reach.{Reach}
use Rattle.kf_attack.specs.Positions.{IsLeast, tree_of}
use Rattle.kf_attack.specs.Views.{ShowsReach}
use Rattle.kf_attack.proofs.Positions.{front_next, front_all}

pub not_enough : (m n : ℕ) → (m ≤ n → IsTrue false) → n < m
not_enough m n short = ⊎_elim (λ (less : n < m). less) (λ (more : m ≤ n). let never : false ≡ true = short more in (cc)) (cases_lt n m)

-- so many tries, with what they and one fewer gain, where one fewer doesn't come to num / den of the scale
pub record Tried (scale num den : ℕ) (gains : List ℕ) (tries before posterior : ℕ) : Type 0 where
  pub posterior_is : posterior ≡ front tries gains
  pub before_is : before ≡ front (tries - 1) gains
  pub short : before * den < num * scale

module _ (scale num den : ℕ) (gains : List ℕ) (whole : all gains ≡ scale) (tries before posterior : ℕ) (had : Tried scale num den gains tries before posterior) where
  pub posterior_within : posterior ≤ scale
  posterior_within = omega (arith, had.posterior_is, front_less tries gains, whole)

  pub next_within : posterior + get_or gains tries 0 ≤ scale
  next_within = omega (arith, had.posterior_is, front_next tries gains, front_less (suc tries) gains, whole)

  -- with all tries the whole scale is reached
  all_tried : num ≤ den → posterior * den < num * scale → length gains ≤ tries → ⊥
  all_tried part short past =
      let same : posterior ≡ scale = omega (arith, had.posterior_is, front_all tries gains past, whole) in
      omega (arith, short, ap (λ (n : ℕ). n * den) same, mul-le-mul_left scale part)

  pub more_to_try : num ≤ den → posterior * den < num * scale → tries < length gains
  more_to_try part short = ⊎_elim (λ (more : tries < length gains). more) (λ (past : length gains ≤ tries). absurd (all_tried part short past)) (cases_lt tries (length gains))

  pub tried_next : posterior * den < num * scale → Tried scale num den gains (tries + 1) posterior (posterior + get_or gains tries 0)
  tried_next short =
      let next : suc tries ≡ tries + 1 = omega arith in
      let last : tries ≡ tries + 1 - 1 = omega arith in
      record {
        posterior_is = omega (arith, had.posterior_is, front_next tries gains, ap (λ (k : ℕ). front k gains) next);
        before_is = had.posterior_is ∙ ap (λ (k : ℕ). front k gains) last;
        short = short;
      }

  reached_is : posterior ≡ all (take tries gains)
  reached_is = had.posterior_is ∙ sym (front_taken tries gains)

  short_is : before ≡ all (take (tries - 1) gains)
  short_is = had.before_is ∙ sym (front_taken (tries - 1) gains)

  pub tried_least : 0 < num → 0 < scale → num * scale ≤ posterior * den → IsLeast scale num den gains tries
  tried_least some positive enough = record {
    some =
        ⊎_elim
        (λ (none : tries ≡ 0).
        let nothing : posterior ≡ 0 = omega (arith, had.posterior_is, ap (λ (k : ℕ). front k gains) none) in
        absurd (omega (arith, enough, ap (λ (n : ℕ). n * den) nothing, product_positive num scale some positive)))
        (λ (tried : 0 < tries). omega (arith, tried)) (eq-zero-or-pos tries);
    enough = omega (arith, enough, ap (λ (n : ℕ). n * den) reached_is);
    short = omega (arith, had.short, ap (λ (n : ℕ). n * den) short_is);
  }

  pub tried_shows : (r : Reach) → r.tries ≡ tries → IsFraction r.posterior (pos posterior) scale → IsFraction r.before (pos before) scale → ShowsReach scale (tree_of gains tries) r
  tried_shows r same shown shown_before = record {
    tries = same;
    posterior = subst (λ (n : ℕ). IsFraction r.posterior (pos n) scale) reached_is shown;
    before = subst (λ (n : ℕ). IsFraction r.before (pos n) scale) short_is shown_before;
  }
