-- What holds of a target that breaks no rule: its types have sizes and are well formed, and its values are counted.
use Rattle.std.proofs.Common.{◌≡◌, ℕ, suc, zero, ◌*◌, ◌^◌, ◌+◌, ◌≤◌, Bool, true, false, ◌&&◌, List, [], ◌∷◌, ◌++◌, map, slice_get, Some, None, Ok, refl, sym, ap, ◌∙◌, subst, arith}
use Rattle.std.specs.List.{All, list_all}
use Rattle.std.proofs.lemmas.List.{map-append}
use Rattle.std.proofs.lemmas.List.Elements.{All-nil, All-cons}
use Rattle.std.proofs.lemmas.Option.{slice_get_within, get_or_from_slice_get}
use Rattle.kf_value.specs.declared.target_item.TargetItem.{TargetItem}
use Rattle.kf_value.specs.Types.{TypeTree, count, product}
use Rattle.kf_value.specs.Sizes.{HasSize, fault_of, well_formed}
use Rattle.kf_value.specs.Targets.{Item}
use Rattle.kf_value.specs.Numbers.{target_size}
use Rattle.kf_value.specs.TypeViews.{item_of}
use Rattle.kf_ast.specs.Sources.{ItemTree}
use Rattle.kf_check.specs.Sources.{Variable, types_of, JudgesItems}
use Rattle.kf_check.specs.Translation.{AreItems}
use Rattle.kf_check.specs.Translation as becomes
use Rattle.kf_check.specs.Variables.{AreDeclared, AreCopied}
use Rattle.kf_check.specs.SourceAnswers.{as_items}
use Rattle.kf_check.proofs.Kinding.{slice_get-some}
use Rattle.kf_check.proofs.Declared.{variables_differ}
use Rattle.kf_check.proofs.DeclFacts.{facts_of}
use Rattle.kf_check.proofs.ItemTurns.{product-append}
use Rattle.kf_check.proofs.TargetSizes.{target_low, chosen-none, copies_bounded}

-- what a target of these items is built by
pub record Suits (xs : List TargetItem) : Type 0 where
  pub formed : list_all (λ i. well_formed (item_of i).ty) xs ≡ true
  pub sized : All (λ i. fault_of (item_of i).ty ≡ None) xs
  pub fits : target_size (map item_of xs) ≤ 2 ^ 63

pub all_at : {X : Type 0} (P : X → Type 0) (xs : List X) (i : ℕ) (x : X) → All P xs → slice_get xs i ≡ Some x → P x
all_at P xs i x h at = subst P (get_or_from_slice_get xs i x x at) (h i x (slice_get_within xs i x at))

and_parts : (a b : Bool) → (a && b) ≡ true → (a ≡ true) × (b ≡ true)
and_parts true b h = (refl, h)
and_parts false b h = absurd (cc)

pub formed_at : (ts : List TypeTree) (i : ℕ) (t : TypeTree) → list_all well_formed ts ≡ true → slice_get ts i ≡ Some t → well_formed t ≡ true
formed_at [] i t h at = (cc)
formed_at (u ∷ ts) zero t h at = let both = and_parts (well_formed u) (list_all well_formed ts) h in let same : u ≡ t = cc in subst (λ v. well_formed v ≡ true) same both.0
formed_at (u ∷ ts) (suc i) t h at = formed_at ts i t (and_parts (well_formed u) (list_all well_formed ts) h).1 at

-- each item is one of the variables
abbrev pub AreOf : List Variable → List Item → Type 0
AreOf vs [] = Unit {0}
AreOf vs (i ∷ is) = ((j : ℕ) × (slice_get (types_of vs) j ≡ Some i.ty)) × AreOf vs is

items_of_variables : {vs : List Variable} {k : ℕ} {items : List ItemTree} {cs : List ℕ} {is : List Item} {slots : List ℕ} → AreItems vs k items cs is slots → AreOf vs is
items_of_variables becomes.none = tt
items_of_variables {vs} (becomes.final at i {n} {t} found are) = ((i, slice_get-some (λ v. v.type) vs i (record { name = n; type = t }) found), items_of_variables are)
items_of_variables {vs} (becomes.initial at i {n} {t} found are) = ((i, slice_get-some (λ v. v.type) vs i (record { name = n; type = t }) found), items_of_variables are)

items_sized : (vs : List Variable) (xs : List TargetItem) → All HasSize (types_of vs) → AreOf vs (map item_of xs) → All (λ i. fault_of (item_of i).ty ≡ None) xs
items_sized vs [] sized h = All-nil (λ i. fault_of (item_of i).ty ≡ None)
items_sized vs (x ∷ xs) sized h = All-cons (λ i. fault_of (item_of i).ty ≡ None) x xs (all_at HasSize (types_of vs) h.0.0 (item_of x).ty sized h.0.1) (items_sized vs xs sized h.1)

items_formed : (vs : List Variable) (xs : List TargetItem) → list_all well_formed (types_of vs) ≡ true → AreOf vs (map item_of xs) → list_all (λ i. well_formed (item_of i).ty) xs ≡ true
items_formed vs [] formed h = refl
items_formed vs (x ∷ xs) formed h = rw (formed_at (types_of vs) h.0.0 (item_of x).ty formed h.0.1, items_formed vs xs formed h.1) refl

joined_product : (ts us : List TypeTree) → product (map count (ts ++ us)) ≡ product (map count ts) * product (map count us)
joined_product ts us = ap product (map-append count ts us) ∙ product-append (map count ts) (map count us)

-- ---- a target of items

pub items_suit : (vs : List Variable) → AreDeclared vs → (items : List ItemTree) (cs : List ℕ) (slots : List ℕ) (types : List TypeTree) (xs : List TargetItem) (us : List TypeTree) → JudgesItems vs [] (types_of vs) items (Ok us) → AreItems vs 0 items cs (map item_of xs) slots
    → AreCopied vs cs types → Suits xs
items_suit vs declared items cs slots types xs us j are copied =
    let facts = facts_of vs declared in
    let apart = variables_differ vs declared.0 declared.2 in
    let bounded = copies_bounded vs apart are [] (types_of vs) us j types copied (facts.few, facts.fits) in
    let low = target_low vs apart facts.valued are [] (types_of vs) us j (λ i. false) (λ i v at passes. absurd (cc)) types copied in
    record {
      formed = items_formed vs xs facts.formed (items_of_variables are);
      sized = items_sized vs xs facts.sized (items_of_variables are);
      fits = fit (product (map count (types_of vs))) (target_size (map item_of xs)) (product (map count types)) (subst (λ c. c * target_size (map item_of xs) ≤ product (map count (types_of vs)) * product (map count types)) (chosen-none (map count (types_of vs))) low) (joined_product (types_of vs) types) bounded.1;
    }
  where
    fit : (a b c : ℕ) → 1 * b ≤ a * c → product (map count (types_of vs ++ types)) ≡ a * c → product (map count (types_of vs ++ types)) ≤ 2 ^ 63 → b ≤ 2 ^ 63
    fit a b c low same bound = omega arith

-- ---- the target that is all variables

size_of_all : (vs : List Variable) → target_size (as_items vs) ≡ product (map count (types_of vs))
size_of_all [] = refl
size_of_all (v ∷ vs) = ap (λ n. count v.type * n) (size_of_all vs)

all_of_variables : (vs ws : List Variable) (k : ℕ) → ((i : ℕ) (v : Variable) → slice_get ws i ≡ Some v → slice_get vs (k + i) ≡ Some v) → AreOf vs (as_items ws)
all_of_variables vs [] k same = tt
all_of_variables vs (w ∷ ws) k same = (
  (k, (let zeroth : k + 0 ≡ k = omega arith in ap (slice_get (types_of vs)) (sym zeroth)) ∙ slice_get-some (λ v. v.type) vs (k + 0) w (same 0 w refl)),
  all_of_variables vs ws (suc k) (λ i v h. (let shift : suc k + i ≡ k + suc i = omega arith in ap (slice_get vs) shift) ∙ same (suc i) v h),
)

pub all_suit : (vs : List Variable) → AreDeclared vs → (xs : List TargetItem) → map item_of xs ≡ as_items vs → Suits xs
all_suit vs declared xs same =
    let facts = facts_of vs declared in
    let of = subst (AreOf vs) (sym same) (all_of_variables vs vs 0 (λ i v h. (let zeroth : 0 + i ≡ i = omega arith in ap (slice_get vs) zeroth) ∙ h)) in
    record {
      formed = items_formed vs xs facts.formed of;
      sized = items_sized vs xs facts.sized of;
      fits = rw (same, size_of_all vs) facts.fits;
    }
