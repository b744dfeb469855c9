-- The gain of an action at a value, by search: an action's values ascend.
use Rattle.std.proofs.Common.{◌≡◌, ℕ, ◌+◌, ◌<◌, ◌≤◌, List, [], ◌∷◌, Bool, map, refl, sym, ◌∙◌, ap, arith, suc, zero, length, get_or, eq-eqb, if◌then◌else◌}
use Rattle.std.specs.Prelude.{ℤ}
use Rattle.std.specs.Ordering.{nat_cmp}
use Rattle.std.specs.declared.cmp.Ordering.TheVariants.{Less, Greater}
use Rattle.std.specs.List.Sorted.{IsStrictlyIncreasing}
use Rattle.std.proofs.lemmas.Bool.{ne_eqb}
use Rattle.kf_hyper.proofs.Rising.{Rises, rises, from_low, missing_by}
use Rattle.kf_gain.specs.declared.table.GainEntry.{GainEntry}
use Rattle.kf_gain.specs.Gains.{gain_at}

abbrev pub Ascends : ℕ → List GainEntry → Type 0
Ascends low gains = Rises low (map (λ (e : GainEntry). e.value) gains)

at_head : (rest : ℤ) (e : GainEntry) (es : List GainEntry) (x : ℕ) → e.value ≡ x → gain_at rest (e ∷ es) x ≡ e.gain
at_head rest e es x same = ap (λ (b : Bool). if b then e.gain else gain_at rest es x) (eq-eqb e.value x same)

past_head : (rest : ℤ) (e : GainEntry) (es : List GainEntry) (x : ℕ) → (e.value ≡ x → ⊥) → gain_at rest (e ∷ es) x ≡ gain_at rest es x
past_head rest e es x apart = ap (λ (b : Bool). if b then e.gain else gain_at rest es x) (ne_eqb e.value x apart)

found : (rest : ℤ) (low : ℕ) (gains : List GainEntry) → Ascends low gains → (k : ℕ) (d : GainEntry) → k < length gains → gain_at rest gains (get_or gains k d).value ≡ (get_or gains k d).gain
found rest low [] up k d within = absurd (omega (arith, within))
found rest low (e ∷ es) up zero d within = at_head rest e es e.value refl
found rest low (e ∷ es) (from, up) (suc k) d within =
    past_head rest e es (get_or es k d).value (λ same. omega (arith, same, from_low (λ (e : GainEntry). e.value) (e.value + 1) es up k d (omega (arith, within)))) ∙ found rest (e.value + 1) es up k d (omega (arith, within))

pub gain_found : (rest : ℤ) (gains : List GainEntry) (x k : ℕ) (d : GainEntry) → IsStrictlyIncreasing (map (λ (e : GainEntry). e.value) gains) → k < length gains → (get_or gains k d).value ≡ x
    → (get_or gains k d).gain ≡ gain_at rest gains x
gain_found rest gains x k d ascending within same =
    sym (found rest 0 gains (rises (map (λ (e : GainEntry). e.value) gains) ascending) k d within) ∙ ap (gain_at rest gains) same

gain_missing : (rest : ℤ) (gains : List GainEntry) (x : ℕ) → ((k : ℕ) (d : GainEntry) → k < length gains → (get_or gains k d).value ≡ x → ⊥) → gain_at rest gains x ≡ rest
gain_missing rest [] x apart = refl
gain_missing rest (e ∷ es) x apart =
    past_head rest e es x (apart 0 e (omega arith)) ∙ gain_missing rest es x (λ k d within. apart (suc k) d (omega (arith, within)))

-- at a value that a search finds greater or less than each, an action gains the rest
pub missed : (rest : ℤ) (gains : List GainEntry) (x gap : ℕ) → ((k : ℕ) (d : GainEntry) → 0 ≤ k → k < gap → nat_cmp (get_or gains k d).value x ≡ Less)
    → ((k : ℕ) (d : GainEntry) → gap ≤ k → k < length gains → nat_cmp (get_or gains k d).value x ≡ Greater) → rest ≡ gain_at rest gains x
missed rest gains x gap below above = sym (gain_missing rest gains x (missing_by (λ (e : GainEntry). e.value) gains x gap below above))
