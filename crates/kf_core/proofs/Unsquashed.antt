-- That a program is checked can be settled: where it is only said to be, the facts are at hand again.
use Rattle.std.proofs.Common.{◌≡◌, ℕ, ◌+◌, Bool, List, [], ◌∷◌, length, map, take, slice_get, Option, Some, None, true, refl, ap, ◌∙◌, subst, sym}
use Rattle.std.proofs.Math.Bool.{Bool-discrete}
use Rattle.std.proofs.Math.Logic.{∥∥₁_map}
use Rattle.kf_value.specs.Kinds.{KindTree, TruthKind, kind_of}
use Rattle.kf_value.specs.Targets.{Item}
use Rattle.kf_core.specs.Dxs.{DxTree}
use Rattle.kf_core.specs.Sts.{StTree, StTrees, Skip, Assign, Observe, If, While, no_sts, more_sts, sts}
use Rattle.kf_core.specs.Views.{sts_list}
use Rattle.kf_core.specs.Programs.{ProgramTree}
use Rattle.kf_core.specs.Checked.{DistKinded, IsSound, AreSound, declared_kinds, IsReadFrom, IsChecked}
use Rattle.kf_core.specs.Checked as rule
use Rattle.kf_core.proofs.Settled.{again, as_well, both, same_number, at_most, same_option, same_type}
use Rattle.kf_core.proofs.DistsFound.{dist_kinded, dist_of_some}

-- ---- statements

sts-sts_list : (xs : StTrees) → sts (sts_list xs) ≡ xs
sts-sts_list no_sts = refl
sts-sts_list (more_sts x xs) = ap (more_sts x) (sts-sts_list xs)

sts_list-sts : (xs : List StTree) → sts_list (sts xs) ≡ xs
sts_list-sts [] = refl
sts_list-sts (x ∷ xs) = ap (λ ys. x ∷ ys) (sts_list-sts xs)

module _ (ks : List KindTree) where
  -- what is asked of the parts of a statement
  abbrev Parts : StTree → Type 0
  Parts Skip = Unit {0}
  Parts (Assign slot d visible) = (k : KindTree) × (slice_get ks slot ≡ Some k) × DistKinded ks d k
  Parts (Observe d) = (k : KindTree) × DistKinded ks d k
  Parts (If d xs ys) = DistKinded ks d TruthKind × AreSound ks (sts_list xs) × AreSound ks (sts_list ys)
  Parts (While d xs) = DistKinded ks d TruthKind × AreSound ks (sts_list xs)

  parts_of : {x : StTree} → IsSound ks x → Parts x
  parts_of rule.skip = tt
  parts_of (rule.assign slot {k = k} here h) = (k, here, h)
  parts_of (rule.observe {k = k} h) = (k, h)
  parts_of (rule.if_else {xs = xs} {ys = ys} h hs gs) = (h, subst (AreSound ks) (sym (sts_list-sts xs)) hs, subst (AreSound ks) (sym (sts_list-sts ys)) gs)
  parts_of (rule.while {xs = xs} h hs) = (h, subst (AreSound ks) (sym (sts_list-sts xs)) hs)

  if_of : (d : DxTree) (xs ys : StTrees) → DistKinded ks d TruthKind → AreSound ks (sts_list xs) → AreSound ks (sts_list ys) → IsSound ks (If d xs ys)
  if_of d xs ys h hs gs = subst (λ zs. IsSound ks (If d xs zs)) (sts-sts_list ys) (subst (λ zs. IsSound ks (If d zs (sts (sts_list ys)))) (sts-sts_list xs) (rule.if_else h hs gs))

  while_of : (d : DxTree) (xs : StTrees) → DistKinded ks d TruthKind → AreSound ks (sts_list xs) → IsSound ks (While d xs)
  while_of d xs h hs = subst (λ zs. IsSound ks (While d zs)) (sts-sts_list xs) (rule.while h hs)

  assign_parts : (slot : ℕ) (d : DxTree) (visible : Bool) (o : Option KindTree) → slice_get ks slot ≡ o → Dec (Parts (Assign slot d visible))
  assign_parts slot d visible None e = no (λ p. let clash : None ≡ Some p.0 = sym e ∙ p.1 in cc)
  assign_parts slot d visible (Some k) e = as_well (dist_kinded ks d k) (λ h. (k, e, h)) (λ p. let same : Some k ≡ Some p.0 = sym e ∙ p.1 in subst (DistKinded ks d) (let inner : k ≡ p.0 = cc in sym inner) p.2)

  head_sound : {x : StTree} {xs : List StTree} → AreSound ks (x ∷ xs) → IsSound ks x
  head_sound (rule.more h hs) = h

  tail_sound : {x : StTree} {xs : List StTree} → AreSound ks (x ∷ xs) → AreSound ks xs
  tail_sound (rule.more h hs) = hs

  mutual
    sound : (x : StTree) → Dec (IsSound ks x)
    sound Skip = yes rule.skip
    sound (Assign slot d visible) = as_well (assign_parts slot d visible (slice_get ks slot) refl) (λ p. rule.assign slot p.1 p.2) parts_of
    sound (Observe d) = as_well (dist_of_some ks d) (λ p. rule.observe p.1) parts_of
    sound (If d xs ys) = both (dist_kinded ks d TruthKind)
        (both (all_sound xs) (all_sound ys) (λ hs gs. (hs, gs)) (λ (p : AreSound ks (sts_list xs) × AreSound ks (sts_list ys)). p.0) (λ p. p.1))
        (λ h p. if_of d xs ys h p.0 p.1) (λ s. (parts_of s).0) (λ s. let p : Parts (If d xs ys) = parts_of s in (p.1, p.2))
    sound (While d xs) = both (dist_kinded ks d TruthKind) (all_sound xs) (λ h hs. while_of d xs h hs) (λ s. (parts_of s).0) (λ s. (parts_of s).1)

    all_sound : (xs : StTrees) → Dec (AreSound ks (sts_list xs))
    all_sound no_sts = yes rule.none
    all_sound (more_sts x xs) = both (sound x) (all_sound xs) (λ h hs. rule.more h hs) head_sound tail_sound

  body_sound : (xs : List StTree) → Dec (AreSound ks xs)
  body_sound xs = as_well (all_sound (sts xs)) (subst (AreSound ks) (sts_list-sts xs)) (subst (AreSound ks) (sym (sts_list-sts xs)))

-- ---- programs

read_again : (p : ProgramTree) (item : Item) (slot : ℕ) → ∥ IsReadFrom p item slot ∥₁ → IsReadFrom p item slot
read_again p item slot t = record {
  type_is = again (same_option same_type (slice_get p.types slot) (Some item.ty)) (∥∥₁_map t (λ r. r.type_is));
  carried = (
    (λ h. again (at_most (length p.decls) slot) (∥∥₁_map t (λ r. r.carried.0 h))),
    (λ h. again (Bool-discrete item.initial true) (∥∥₁_map t (λ r. r.carried.1 h))),
  );
}

-- a program that is only said to be checked is checked
pub checked_again : (p : ProgramTree) → ∥ IsChecked p ∥₁ → IsChecked p
checked_again p t = record {
  counted = again (same_number (length p.decls + length p.copies) (length p.types)) (∥∥₁_map t (λ c. c.counted));
  declared = λ i d ty at_decl at_type. again (dist_kinded (map kind_of (take i p.types)) d (kind_of ty)) (∥∥₁_map t (λ c. c.declared i d ty at_decl at_type));
  copied = λ j c here. (
    again (at_most _ _) (∥∥₁_map t (λ h. (h.copied j c here).0)),
    again (same_option same_type (slice_get p.types (length p.decls + j)) (slice_get p.types c)) (∥∥₁_map t (λ h. (h.copied j c here).1)),
  );
  sound = again (body_sound (declared_kinds p) p.body) (∥∥₁_map t (λ c. c.sound));
  targeted = again (same_number (length p.target) (length p.target_slots)) (∥∥₁_map t (λ c. c.targeted));
  read = λ j slot item here there. read_again p item slot (∥∥₁_map t (λ c. c.read j slot item here there));
  apart = λ j k slot here there. again (same_number j k) (∥∥₁_map t (λ c. c.apart j k slot here there));
}
