-- Names among known variables, and lists of kinds as parts of a tuple.
use Rattle.std.proofs.Common.{◌≡◌, ℕ, suc, zero, List, [], ◌∷◌, slice_get, Some, refl, sym, ap, ◌∙◌, ◌⊎◌, inl, inr}
use Rattle.std.proofs.lemmas.List.Elements.{All-head, All-tail, All-nil, All-cons}
use Rattle.kf_value.specs.Kinds.{KindTree, KindTrees, no_kind, more_kinds, kind_parts}
use Rattle.kf_check.specs.Kinds.{Known}
use Rattle.kf_check.specs.Picks.{names_in}
use Rattle.kf_check.proofs.Kinding.{Differ, slice_get-some}
use Rattle.kf_check.proofs.LawsChoices.{same_text}
use Rattle.kf_check.specs.Variables.{IsKnown, IsUnknown}

-- ---- names

-- the variable of a name, or that there is none
abbrev pub Finding : List Known → List ℕ → Type 0
Finding known n = ((i : ℕ) × (k : KindTree) × IsKnown known n i k) ⊎ IsUnknown known n

pub finding : (known : List Known) (n : List ℕ) → Finding known n
finding [] n = inr (All-nil (λ v. v.name ≡ n → ⊥))
finding (v ∷ vs) n = by (same_text v.name n) (finding vs n)
  where
    by : Dec (v.name ≡ n) → Finding vs n → Finding (v ∷ vs) n
    by (yes e) f = inl (0, v.kind, ap (λ m. Some (record { name = m; kind = v.kind })) e)
    by (no d) (inl h) = inl (suc h.0, h.1, h.2)
    by (no d) (inr h) = inr (All-cons (λ w. w.name ≡ n → ⊥) v vs d h)

pub not_unknown : (known : List Known) (n : List ℕ) (i : ℕ) (k : KindTree) → IsKnown known n i k → IsUnknown known n → ⊥
not_unknown [] n i k h u = (cc)
not_unknown (v ∷ vs) n zero k h u = All-head (λ w. w.name ≡ n → ⊥) v vs u (let same : v ≡ record { name = n; kind = k } = cc in ap (λ w. w.name) same)
not_unknown (v ∷ vs) n (suc i) k h u = not_unknown vs n i k h (All-tail (λ w. w.name ≡ n → ⊥) v vs u)

pub one_known : (known : List Known) → Differ (names_in known) → (n : List ℕ) (i j : ℕ) (k l : KindTree) → IsKnown known n i k → IsKnown known n j l → k ≡ l
one_known known apart n i j k l h g =
    let same : i ≡ j = apart n i j (slice_get-some (λ v. v.name) known i (record { name = n; kind = k }) h) (slice_get-some (λ v. v.name) known j (record { name = n; kind = l }) g) in
    some_kind (sym h ∙ ap (slice_get known) same ∙ g)
  where
    some_kind : {v w : Known} → Some v ≡ Some w → v.kind ≡ w.kind
    some_kind {v} {w} e = let same : v ≡ w = cc in ap (λ u. u.kind) same

-- ---- tuples

pub kind_list : KindTrees → List KindTree
kind_list no_kind = []
kind_list (more_kinds k ks) = k ∷ kind_list ks

pub kind_list-kind_parts : (ks : List KindTree) → kind_list (kind_parts ks) ≡ ks
unfolding kind_list
kind_list-kind_parts [] = refl
kind_list-kind_parts (k ∷ ks) = ap (λ js. k ∷ js) (kind_list-kind_parts ks)

pub kind_parts-kind_list : (ks : KindTrees) → kind_parts (kind_list ks) ≡ ks
unfolding kind_list
kind_parts-kind_list no_kind = refl
kind_parts-kind_list (more_kinds k ks) = ap (λ js. more_kinds k js) (kind_parts-kind_list ks)
