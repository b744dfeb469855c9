-- Declared variables by their names, and items that stand in a target.
use Rattle.std.proofs.Common.{◌≡◌, ℕ, suc, zero, Bool, true, false, List, [], ◌∷◌, slice_get, Some, refl, sym, ap, ◌∙◌, arith, ◌⊎◌, inl, inr, Contains}
use Rattle.std.proofs.lemmas.Option.{slice_get-get_or, slice_get_within, get_or_from_slice_get}
use Rattle.kf_value.specs.Kinds.{KindTree, kind_of}
use Rattle.kf_value.specs.Types.{TypeTree}
use Rattle.kf_ast.specs.Names.{name}
use Rattle.kf_ast.specs.Sources.{ItemTree, item}
use Rattle.kf_check.specs.Kinds.{Known}
use Rattle.kf_check.specs.Translation.{names_of}
use Rattle.kf_check.specs.Sources.{Variable, known_of}
use Rattle.kf_check.proofs.Kinding.{Differ, slice_get-some}
use Rattle.kf_check.proofs.LawsChoices.{same_text}
use Rattle.kf_check.proofs.LawsKinds.{Finding, finding}
use Rattle.kf_check.specs.Variables.{IsKnown, IsUnknown}

-- ---- what stands in a list

pub in_at : {A : Type 0} (xs : List A) (x : A) → Contains xs x → (i : ℕ) × (slice_get xs i ≡ Some x)
in_at xs x h = (h.0, slice_get-get_or xs h.0 x h.1 ∙ ap Some h.2)

pub at_in : {A : Type 0} (xs : List A) (x : A) (i : ℕ) → slice_get xs i ≡ Some x → Contains xs x
at_in xs x i h = (i, slice_get_within xs i x h, get_or_from_slice_get xs i x x h)

-- the variable of a name, or that there is none
abbrev pub Declared : List Variable → List ℕ → Type 0
Declared vs n = ((i : ℕ) × (t : TypeTree) × (slice_get vs i ≡ Some (record { name = n; type = t }))) ⊎ IsUnknown (known_of vs) n

pub known_at : (vs : List Variable) (n : List ℕ) (i : ℕ) (t : TypeTree) → slice_get vs i ≡ Some (record { name = n; type = t }) → IsKnown (known_of vs) n i (kind_of t)
known_at vs n i t h = slice_get-some (λ v. record { name = v.name; kind = kind_of v.type }) vs i (record { name = n; type = t }) h

-- the declared variable of a known one
pub declared_at : (vs : List Variable) (n : List ℕ) (i : ℕ) (k : KindTree) → IsKnown (known_of vs) n i k → (t : TypeTree) × (slice_get vs i ≡ Some (record { name = n; type = t }))
declared_at [] n i k h = absurd (cc)
declared_at (v ∷ vs) n zero k h = (v.type, ap (λ m. Some (record { name = m; type = v.type })) (some_name h))
  where
    some_name : {u w : Known} → Some u ≡ Some w → u.name ≡ w.name
    some_name {u} {w} e = let same : u ≡ w = cc in ap (λ v. v.name) same
declared_at (v ∷ vs) n (suc i) k h = declared_at vs n i k h

pub declared_or_not : (vs : List Variable) (n : List ℕ) → Declared vs n
declared_or_not vs n = by (finding (known_of vs) n)
  where
    by : Finding (known_of vs) n → Declared vs n
    by (inl h) = let found = declared_at vs n h.0 h.1 h.2 in inl (h.0, found.0, found.1)
    by (inr u) = inr u

pub one_type : (vs : List Variable) → Differ (names_of vs) → (n : List ℕ) (i j : ℕ) (t u : TypeTree) → slice_get vs i ≡ Some (record { name = n; type = t }) → slice_get vs j ≡ Some (record { name = n; type = u }) → t ≡ u
one_type vs apart n i j t u h g =
    let same : i ≡ j = apart n i j (slice_get-some (λ v. v.name) vs i (record { name = n; type = t }) h) (slice_get-some (λ v. v.name) vs j (record { name = n; type = u }) g) in
    some_type (sym h ∙ ap (slice_get vs) same ∙ g)
  where
    some_type : {v w : Variable} → Some v ≡ Some w → v.type ≡ w.type
    some_type {v} {w} e = let same : v ≡ w = cc in ap (λ u. u.type) same

-- the item stands in the target already, at some place
abbrev pub Stands : List ItemTree → Bool → List ℕ → Type 0
Stands stood old n = (at : ℕ) × Contains stood (item old (name n at))

same_truth : (a b : Bool) → Dec (a ≡ b)
same_truth true true = yes refl
same_truth false false = yes refl
same_truth true false = no (λ e. cc)
same_truth false true = no (λ e. cc)

first_stands : (i : ItemTree) (stood : List ItemTree) (old : Bool) (n : List ℕ) → Dec ((at : ℕ) × (i ≡ item old (name n at)))
first_stands (item new (name m at)) stood old n = by (same_truth new old) (same_text m n)
  where
    by : Dec (new ≡ old) → Dec (m ≡ n) → Dec ((at' : ℕ) × (item new (name m at) ≡ item old (name n at')))
    by (yes e) (yes f) = yes (at, (cc))
    by (yes e) (no c) = no (λ h. c (let same : item new (name m at) ≡ item old (name n h.0) = h.1 in cc))
    by (no c) f = no (λ h. c (let same : item new (name m at) ≡ item old (name n h.0) = h.1 in cc))

pub standing : (stood : List ItemTree) (old : Bool) (n : List ℕ) → Dec (Stands stood old n)
standing [] old n = no (λ h. let within = h.1.1 in omega arith)
standing (i ∷ stood) old n = by (first_stands i stood old n) (standing stood old n)
  where
    later : (at k : ℕ) → slice_get (i ∷ stood) k ≡ Some (item old (name n at)) → ((at' : ℕ) × (i ≡ item old (name n at')) → ⊥) → (Stands stood old n → ⊥) → ⊥
    later at zero h c d = c (at, (cc))
    later at (suc k) h c d = d (at, at_in stood (item old (name n at)) k h)

    by : Dec ((at : ℕ) × (i ≡ item old (name n at))) → Dec (Stands stood old n) → Dec (Stands (i ∷ stood) old n)
    by (yes h) d = yes (h.0, at_in (i ∷ stood) (item old (name n h.0)) 0 (ap Some h.1))
    by (no c) (yes h) = yes (h.0, let found = in_at stood (item old (name n h.0)) h.1 in at_in (i ∷ stood) (item old (name n h.0)) (suc found.0) found.1)
    by (no c) (no d) = no (λ h. let found = in_at (i ∷ stood) (item old (name n h.0)) h.1 in later h.0 found.0 found.1 c d)
