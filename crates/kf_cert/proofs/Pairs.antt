-- An action's gains as pairs of the text of a value and a gain: the same are named by the pairs as by the entries.
use Rattle.std.proofs.Common.{◌≡◌, ℕ, ℤ, List, [], ◌∷◌, map, Contains, refl, ap, subst, ⊎_elim}
use Rattle.kf_value.specs.Targets.{Item, target_value_text}
use Rattle.kf_gain.specs.declared.table.GainEntry.{GainEntry}
use Rattle.kf_gain.specs.Tables.{Names}
use Rattle.kf_gain.proofs.Entries.{contains_cases, contains_first, contains_later, contains_none}
use Rattle.kf_cert.specs.declared.cert.CertAction.{CertAction}
use Rattle.kf_cert.specs.declared.cert.CertEntry.{CertEntry}
use Rattle.kf_cert.specs.Naming.{NamesGain, named_pairs}

-- a member of what a list is made into
pub from_map : {X Y : Type 0} (f : X → Y) (xs : List X) (y : Y) → Contains (map f xs) y → (x : X) × Contains xs x × (f x ≡ y)
from_map f [] y h = absurd (contains_none y h)
from_map f (x ∷ xs) y h =
    ⊎_elim
    (λ (same : f x ≡ y). (x, contains_first x xs x refl, same))
    (λ (later : Contains (map f xs) y). let r = from_map f xs y later in (r.0, contains_later x xs r.0 r.1, r.2))
    (contains_cases (f x) (map f xs) y h)

pub to_map : {X Y : Type 0} (f : X → Y) (xs : List X) (x : X) → Contains xs x → Contains (map f xs) (f x)
to_map f [] x h = absurd (contains_none x h)
to_map f (y ∷ xs) x h =
    ⊎_elim
    (λ (same : y ≡ x). contains_first (f y) (map f xs) (f x) (ap f same))
    (λ (later : Contains xs x). contains_later (f y) (map f xs) (f x) (to_map f xs x later))
    (contains_cases y xs x h)

module _ (target : List Item) (named : CertAction) (e : GainEntry) where
  abbrev pair : CertEntry → List ℕ × ℤ
  pair g = (g.value, g.gain)

  abbrev wanted : List ℕ × ℤ
  wanted = (target_value_text target e.value, e.gain)

  pub named_by_pair : NamesGain target named e → Names target (named_pairs named) e
  named_by_pair (below, (g, here, text, gain)) =
      let same : pair g ≡ wanted = λ i. (text i, gain i) in
      (below, subst (λ (p : List ℕ × ℤ). Contains (named_pairs named) p) same (to_map pair named.gains g here))

  pub named_by_entry : Names target (named_pairs named) e → NamesGain target named e
  named_by_entry (below, there) =
      let g = from_map pair named.gains wanted there in
      (below, (g.0, g.1, ap (λ (p : List ℕ × ℤ). p.0) g.2, ap (λ (p : List ℕ × ℤ). p.1) g.2))
