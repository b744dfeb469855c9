-- The entries of the values from one on, each with what is sought at its value.
use Rattle.std.proofs.Common.{◌≡◌, ◌<◌, ◌≤◌, ◌+◌, ℕ, zero, suc, ℤ, List, [], ◌∷◌, map, Contains, Option, None, Some, refl, sym, ap, ◌∙◌, subst, arith, ⊎_elim}
use Rattle.std.specs.Prelude.{◌↔◌}
use Rattle.std.proofs.lemmas.Bool.{cases_eq, cases_lt}
use Rattle.kf_hyper.proofs.Rising.{Rises, rises_less}
use Rattle.kf_gain.specs.declared.table.GainEntry.{GainEntry}
use Rattle.kf_gain.proofs.Entries.{contains_cases, contains_first, contains_later, contains_none}

abbrev pub Sought : (ℕ → Option ℤ) → ℕ → ℕ → GainEntry → Type 0
Sought seek low n e = (low ≤ e.value) × (e.value < low + n) × (seek e.value ≡ Some e.gain)

pub record Found (seek : ℕ → Option ℤ) (low n : ℕ) : Type 0 where
  pub entries : List GainEntry
  pub rising : Rises low (map (λ e. e.value) entries)
  pub all : (e : GainEntry) → Contains entries e ↔ Sought seek low n e

found_none : (seek : ℕ → Option ℤ) (low : ℕ) → Found seek low zero
found_none seek low = record { entries = []; rising = tt; all = λ e. (λ h. absurd (contains_none e h), λ h. empty e h) }
  where
    empty : (e : GainEntry) → Sought seek low zero e → Contains [] e
    empty e (from, to, is) = absurd (omega (arith, from, to))

module _ (seek : ℕ → Option ℤ) (low n : ℕ) (f : Found seek (low + 1) n) where
  wider : (e : GainEntry) → Sought seek (low + 1) n e → Sought seek low (suc n) e
  wider e (from, to, is) = (omega (arith, from), omega (arith, to), is)

  past : (e : GainEntry) → Sought seek low (suc n) e → (low ≡ e.value → ⊥) → Sought seek (low + 1) n e
  past e (from, to, is) apart =
      ⊎_elim
      (λ (h : low < e.value). (omega (arith, h), omega (arith, to), is))
      (λ (h : e.value ≤ low). absurd (apart (omega (arith, from, h))))
      (cases_lt low e.value)

  missed : seek low ≡ None → Found seek low (suc n)
  missed none = record {
    entries = f.entries;
    rising = rises_less low (low + 1) (map (λ e. e.value) f.entries) (omega arith) f.rising;
    all = λ e. (λ h. wider e ((f.all e).0 h), λ h. (f.all e).1 (past e h (λ same. other e h same)));
  }
    where
      other : (e : GainEntry) → Sought seek low (suc n) e → low ≡ e.value → ⊥
      other e (from, to, is) same = let both : None ≡ Some e.gain = sym none ∙ (ap seek same ∙ is) in absurd (cc)

  met : (z : ℤ) → seek low ≡ Some z → Found seek low (suc n)
  met z some = record {
    entries = first ∷ f.entries;
    rising = (omega arith, f.rising);
    all = λ e. (λ h. there e h, λ h. back e h);
  }
    where
      first : GainEntry
      first = record { value = low; gain = z }

      there : (e : GainEntry) → Contains (first ∷ f.entries) e → Sought seek low (suc n) e
      there e h =
          ⊎_elim
          (λ (same : first ≡ e). subst (Sought seek low (suc n)) same (omega arith, omega arith, some))
          (λ (later : Contains f.entries e). wider e ((f.all e).0 later))
          (contains_cases first f.entries e h)

      same_gain : (e : GainEntry) → Sought seek low (suc n) e → low ≡ e.value → z ≡ e.gain
      same_gain e (from, to, is) same = let both : Some z ≡ Some e.gain = sym some ∙ (ap seek same ∙ is) in cc

      back : (e : GainEntry) → Sought seek low (suc n) e → Contains (first ∷ f.entries) e
      back e h =
          ⊎_elim
          (λ (same : low ≡ e.value). let gain = same_gain e h same in contains_first first f.entries e (λ i. record { value = same i; gain = gain i }))
          (λ (apart : low ≡ e.value → ⊥). contains_later first f.entries e ((f.all e).1 (past e h apart)))
          (cases_eq low e.value)

  found_step : (o : Option ℤ) → seek low ≡ o → Found seek low (suc n)
  found_step None is = missed is
  found_step (Some z) is = met z is

pub found : (seek : ℕ → Option ℤ) (low n : ℕ) → Found seek low n
found seek low zero = found_none seek low
found seek low (suc n) = found_step seek low n (found seek (low + 1) n) (seek low) refl
