-- A set is in another where nothing of it is missing there.
use Rattle.std.proofs.Common.{◌≡◌, ◌↔◌, ⊎_elim, inl, inr, Bool, true, false, List, [], ◌∷◌, ◌++◌, refl, sym, ap, ◌∙◌, subst}
use Rattle.std.specs.Prelude.{cond, not, ◌&&◌, ◌==◌}
use Rattle.std.specs.declared.cmp.Ordering.{Ordering}
use Rattle.std.specs.declared.cmp.Ordering.TheVariants.{Less, Equal, Greater}
use Rattle.std.specs.Ordering.{ordering_index}
use Rattle.std.specs.List.Sorted.{IsStrictlySortedBy}
use Rattle.kf_value.specs.Values.{ValueTree, order}
use Rattle.kf_value.specs.Laws.{IsIn}
use Rattle.kf_ops.specs.Merging.{IsNext, is_kept}
use Rattle.kf_ops.specs.Values.{is_in}
use Rattle.kf_ops.specs.declared.sets.Kept.TheVariants as kept
use Rattle.kf_ops.proofs.Merging.{alone, stepped}
use Rattle.kf_ops.proofs.SetLaws.{holds}
use Rattle.kf_ops.specs.Sets.{are_in, without}

abbrev none_left : List ValueTree → Bool
none_left [] = true
none_left (v ∷ vs) = false

none_by_first : (b rest : Bool) (v : ValueTree) (us : List ValueTree) → rest ≡ none_left us → (b && rest) ≡ none_left (cond (not b) (v ∷ us) us)
none_by_first true rest v us h = h
none_by_first false rest v us h = refl

in_where_none_left : (vs ws : List ValueTree) → are_in vs ws ≡ none_left (without vs ws)
in_where_none_left [] ws = refl
in_where_none_left (v ∷ vs) ws = none_by_first (is_in v ws) (are_in vs ws) v (without vs ws) (in_where_none_left vs ws)

none_passed : (side : Ordering) (v : ValueTree) (us : List ValueTree) → false ≡ (ordering_index side == 0) → alone (is_kept kept.First side) v ++ us ≡ us
none_passed Less v us h = absurd (let no : false ≡ true = h in cc)
none_passed Equal v us h = refl
none_passed Greater v us h = refl

one_missing : (side : Ordering) (v : ValueTree) (us : List ValueTree) → true ≡ (ordering_index side == 0) → none_left (alone (is_kept kept.First side) v ++ us) ≡ false
one_missing Less v us h = refl
one_missing Equal v us h = absurd (let no : true ≡ false = h in cc)
one_missing Greater v us h = absurd (let no : true ≡ false = h in cc)

-- a pass over two lists, us and xs, of which vs and ws are left
module _ (us xs : List ValueTree) {vs ws vs' ws' : List ValueTree} {v : ValueTree} {side : Ordering} (next : IsNext vs ws side v vs' ws')
    (first : IsStrictlySortedBy order vs) (second : IsStrictlySortedBy order ws) (same : without vs ws ≡ without us xs) where
  -- the next value stands in the first list alone
  pub is_missing : true ≡ (ordering_index side == 0) → false ≡ are_in us xs
  is_missing less =
      let step = stepped kept.First next first second in
      sym (in_where_none_left us xs ∙ (ap none_left (sym same ∙ step.whole) ∙ one_missing side v (without vs' ws') less))

  -- or it doesn't, and then what is missing is missing behind it
  pub is_passed : false ≡ (ordering_index side == 0) → IsStrictlySortedBy order vs' × (IsStrictlySortedBy order ws' × (without vs' ws' ≡ without us xs))
  is_passed other =
      let step = stepped kept.First next first second in
      (step.first, (step.second, sym (none_passed side v (without vs' ws') other) ∙ (sym step.whole ∙ same)))

pub none_missing : (us xs vs ws : List ValueTree) → vs ≡ [] → without vs ws ≡ without us xs → true ≡ are_in us xs
none_missing us xs vs ws none same = sym (in_where_none_left us xs ∙ ap none_left (sym same ∙ ap (λ zs. without zs ws) none))

module _ (v : ValueTree) (vs ws : List ValueTree) where
  abbrev AllIn : List ValueTree → Type 0
  AllIn us = (u : ValueTree) → IsIn u us → IsIn u ws

  all_by_first : (b rest : Bool) → (b ≡ true) ↔ IsIn v ws → (rest ≡ true) ↔ AllIn vs → ((b && rest) ≡ true) ↔ AllIn (v ∷ vs)
  all_by_first true rest first h = (
    λ all u. ⊎_elim (λ (e : u ≡ v). subst (λ x. IsIn x ws) (sym e) (first.0 refl)) (λ (t : IsIn u vs). h.0 all u t),
    λ each. h.1 (λ u t. each u (inr t)),
  )
  all_by_first false rest first h = (λ all. absurd (cc), λ each. first.1 (each v (inl refl)))

-- each value of the first list is in the second
pub all_in : (vs ws : List ValueTree) → (are_in vs ws ≡ true) ↔ ((v : ValueTree) → IsIn v vs → IsIn v ws)
all_in [] ws = (λ h v is. absurd is, λ h. refl)
all_in (v ∷ vs) ws = all_by_first v vs ws (is_in v ws) (are_in vs ws) (holds v ws) (all_in vs ws)
