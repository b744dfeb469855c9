-- A target has at most as many values as there are stores: its items are different variables.
use Rattle.std.specs.Prelude.{◌||◌}
use Rattle.std.proofs.Common.{◌≡◌, ℕ, suc, zero, ◌*◌, ◌^◌, ◌<◌, ◌≤◌, Bool, true, false, List, [], ◌∷◌, ◌++◌, map, length, slice_get, Option, Some, Ok, refl, sym, ap, ◌∙◌, subst, arith, append_assoc, append-nil, length-append, inl, inr, ◌⊎◌}
use Rattle.std.specs.List.{All}
use Rattle.std.proofs.Math.Nat.{mul-le-mul_left, mul_assoc}
use Rattle.std.proofs.lemmas.List.Elements.{All-head, All-tail, All-map, Contains-append_right}
use Rattle.kf_value.specs.Types.{TypeTree, count, product}
use Rattle.kf_value.specs.Targets.{Item}
use Rattle.kf_value.specs.Numbers.{target_size}
use Rattle.kf_ast.specs.Names.{name}
use Rattle.kf_ast.specs.Sources.{ItemTree, item}
use Rattle.kf_check.specs.Sources.{Variable, types_of, JudgesItems}
use Rattle.kf_check.specs.Translation.{AreItems, names_of}
use Rattle.kf_check.specs.Translation as becomes
use Rattle.kf_check.specs.SourceAnswers.{Stands}
use Rattle.kf_check.specs.Variables.{AreCopied}
use Rattle.kf_check.proofs.Kinding.{Differ, slice_get-some, same_ok}
use Rattle.kf_check.proofs.LawsItems.{in_at, one_type}
use Rattle.kf_check.proofs.DeclTurns.{product_grows}

-- ---- the product of some of the sizes

abbrev pub factor : Bool → ℕ → ℕ
factor true n = n
factor false n = 1

-- the product of the sizes at places that pass the test
abbrev pub chosen : (ℕ → Bool) → List ℕ → ℕ
chosen p [] = 1
chosen p (n ∷ ns) = factor (p 0) n * chosen (λ i. p (suc i)) ns

pub chosen-none : (ns : List ℕ) → chosen (λ i. false) ns ≡ 1
chosen-none [] = refl
chosen-none (n ∷ ns) = ap (λ m. 1 * m) (chosen-none ns)

chosen-same : (p q : ℕ → Bool) (ns : List ℕ) → ((i : ℕ) → p i ≡ q i) → chosen p ns ≡ chosen q ns
chosen-same p q [] same = refl
chosen-same p q (n ∷ ns) same = ap (λ b. factor b n * chosen (λ i. p (suc i)) ns) (same 0) ∙ ap (λ m. factor (q 0) n * m) (chosen-same (λ i. p (suc i)) (λ i. q (suc i)) ns (λ i. same (suc i)))

factor_low : (b : Bool) (n : ℕ) → 0 < n → factor b n ≤ n
factor_low true n h = omega arith
factor_low false n h = omega arith

times_low : (a b c d : ℕ) → a ≤ b → c ≤ d → a * c ≤ b * d
times_low a b c d h g = grind (arith, mul-le-mul_left a g, mul-le-mul_left d h)

chosen-low : (p : ℕ → Bool) (ns : List ℕ) → All (λ n. 0 < n) ns → chosen p ns ≤ product ns
chosen-low p [] h = omega arith
chosen-low p (n ∷ ns) h =
    times_low (factor (p 0) n) n (chosen (λ i. p (suc i)) ns) (product ns) (factor_low (p 0) n (All-head (λ m. 0 < m) n ns h)) (chosen-low (λ i. p (suc i)) ns (All-tail (λ m. 0 < m) n ns h))

same_place : ℕ → ℕ → Bool
same_place zero zero = true
same_place zero (suc j) = false
same_place (suc i) zero = false
same_place (suc i) (suc j) = same_place i j

-- the places that pass, and this one
abbrev with_place : ℕ → (ℕ → Bool) → ℕ → Bool
with_place i p j = same_place i j || p j

chosen-more : (ns : List ℕ) (p : ℕ → Bool) (i n : ℕ) → slice_get ns i ≡ Some n → p i ≡ false → chosen (with_place i p) ns ≡ chosen p ns * n
unfolding same_place
chosen-more [] p i n h new = (cc)
chosen-more (m ∷ ns) p zero n h new =
    let here : m ≡ n = cc in
    let rest = chosen (λ i. p (suc i)) ns in
    let plain : n * rest ≡ (1 * rest) * n = grind arith in
    ap (λ k. k * rest) here ∙ plain ∙ ap (λ b. (factor b m * rest) * n) (sym new)
chosen-more (m ∷ ns) p (suc i) n h new =
    ap (λ k. factor (p 0) m * k) (chosen-more ns (λ j. p (suc j)) i n h new) ∙ sym (mul_assoc (factor (p 0) m) (chosen (λ j. p (suc j)) ns) n)

same_place-true : (i j : ℕ) → same_place i j ≡ true → i ≡ j
unfolding same_place
same_place-true zero zero h = refl
same_place-true zero (suc j) h = (cc)
same_place-true (suc i) zero h = (cc)
same_place-true (suc i) (suc j) h = ap suc (same_place-true i j h)

either_true : (a b : Bool) → (a || b) ≡ true → (a ≡ true) ⊎ (b ≡ true)
either_true true b h = inl refl
either_true false b h = inr h

-- ---- the target

-- the item stands also where another stands before these
stands_behind : (i : ItemTree) (stood : List ItemTree) (old : Bool) (n : List ℕ) → Stands stood old n → Stands (i ∷ stood) old n
stands_behind i stood old n h = (h.0, Contains-append_right (i ∷ []) stood (item old (name n h.0)) h.1)

stands_first : (stood : List ItemTree) (old : Bool) (n : List ℕ) (at : ℕ) → Stands (item old (name n at) ∷ stood) old n
stands_first stood old n at = (at, (0, omega arith, refl))

pub no_types : (types : List TypeTree) → ◌≡◌ {A = List (Option TypeTree)} (map Some types) [] → types ≡ []
no_types [] h = refl
no_types (t ∷ ts) h = (cc)

pub first_copied : (o : Option TypeTree) (os : List (Option TypeTree)) (t : TypeTree) (types : List TypeTree) → map Some types ≡ o ∷ os → o ≡ Some t → (rest : List TypeTree) × (types ≡ t ∷ rest) × (map Some rest ≡ os)
first_copied o os t [] h g = (cc)
first_copied o os t (u ∷ types) h g = let same : Some u ≡ Some t = (let first : Some u ≡ o = cc in first ∙ g) in let here : u ≡ t = cc in (types, ap (λ v. v ∷ types) here, (cc))

-- where there are so many variables and stores, the copies of the items behind are counted among them
abbrev pub IsBounded : List TypeTree → Type 0
IsBounded ts = (length ts ≤ 32) × (product (map count ts) ≤ 2 ^ 63)

module _ (vs : List Variable) (apart : Differ (names_of vs)) where
  pub copies_bounded : {items : List ItemTree} {k : ℕ} {cs : List ℕ} {is : List Item} {slots : List ℕ} → AreItems vs k items cs is slots → (stood : List ItemTree) (ts us : List TypeTree) → JudgesItems vs stood ts items (Ok us)
      → (types : List TypeTree) → AreCopied vs cs types → IsBounded ts → IsBounded (ts ++ types)
  copies_bounded becomes.none stood ts us j types copied h = rw (no_types types copied, append-nil ts) h
  copies_bounded (becomes.final at i {n} found are) stood ts us j types copied h =
      let same : j.0 ≡ ts = same_ok j.0 ts j.1.2.2 in
      subst (λ ws. IsBounded (ws ++ types)) same (copies_bounded are (item false (name n at) ∷ stood) j.0 us j.2 types copied (subst IsBounded (sym same) h))
  copies_bounded (becomes.initial at' i' {n} {t = t'} {cs = cs} found are) stood ts us j types copied h =
      let t = j.1.0 in
      let first = in_at vs (record { name = n; type = t }) j.1.1 in
      let few = j.1.2.2.1.1.0 in
      let narrow = j.1.2.2.1.2.0 in
      let same : t' ≡ t = one_type vs apart n i' first.0 t' t found first.1 in
      let parts = first_copied (slice_get (types_of vs) i') (map (slice_get (types_of vs)) cs) t types copied (slice_get-some (λ v. v.type) vs i' (record { name = n; type = t' }) found ∙ ap (λ u. Some u) same) in
      let longer = length-append ts (t ∷ []) in
      let more : j.0 ≡ ts ++ t ∷ [] = same_ok j.0 (ts ++ t ∷ []) j.1.2.2.2 in
      let bounded : IsBounded (ts ++ t ∷ []) = (omega arith, rw (product_grows ts t) (omega arith)) in
      subst IsBounded (append_assoc ts (t ∷ []) parts.0 ∙ ap (λ us. ts ++ us) (sym parts.1)) (subst (λ ws. IsBounded (ws ++ parts.0)) more (copies_bounded are (item true (name n at') ∷ stood) j.0 us j.2 parts.0 parts.2 (subst IsBounded (sym more) bounded)))

  -- the types behind the items are those before, and those of the carried copies
  pub types_behind : {items : List ItemTree} {k : ℕ} {cs : List ℕ} {is : List Item} {slots : List ℕ} → AreItems vs k items cs is slots → (stood : List ItemTree) (ts us : List TypeTree) → JudgesItems vs stood ts items (Ok us)
      → (types : List TypeTree) × (us ≡ ts ++ types) × AreCopied vs cs types
  types_behind becomes.none stood ts us j = ([], same_ok us ts j ∙ sym (append-nil ts), refl)
  types_behind (becomes.final at i {n} found are) stood ts us j = let rest = types_behind are (item false (name n at) ∷ stood) j.0 us j.2 in (rest.0, rest.1 ∙ ap (λ vs. vs ++ rest.0) (same_ok j.0 ts j.1.2.2), rest.2)
  types_behind (becomes.initial at i {n} {t = t'} {cs = cs} found are) stood ts us j =
      let t = j.1.0 in
      let rest = types_behind are (item true (name n at) ∷ stood) j.0 us j.2 in
      let first = in_at vs (record { name = n; type = t }) j.1.1 in
      let same : t' ≡ t = one_type vs apart n i first.0 t' t found first.1 in
      let here : Some t ≡ slice_get (types_of vs) i = sym (slice_get-some (λ v. v.type) vs i (record { name = n; type = t' }) found ∙ ap (λ u. Some u) same) in (
        t ∷ rest.0,
        rest.1 ∙ ap (λ us. us ++ rest.0) (same_ok j.0 (ts ++ t ∷ []) j.1.2.2.2) ∙ append_assoc ts (t ∷ []) rest.0,
        ap (λ o. o ∷ map Some rest.0) here ∙ ap (λ os. slice_get (types_of vs) i ∷ os) rest.2,
      )

  module _ (valued : All (λ t. 0 < count t) (types_of vs)) where
    abbrev pub sizes : List ℕ
    sizes = map count (types_of vs)

    -- the places that pass are those of items that stand already
    abbrev pub IsSeen : List ItemTree → (ℕ → Bool) → Type 0
    IsSeen stood p = (i : ℕ) (v : Variable) → slice_get vs i ≡ Some v → p i ≡ true → Stands stood false v.name

    not_true : (b : Bool) → (b ≡ true → ⊥) → b ≡ false
    not_true true h = absurd (h refl)
    not_true false h = refl

    pub target_low : {items : List ItemTree} {k : ℕ} {cs : List ℕ} {is : List Item} {slots : List ℕ} → AreItems vs k items cs is slots → (stood : List ItemTree) (ts us : List TypeTree) → JudgesItems vs stood ts items (Ok us)
        → (p : ℕ → Bool) → IsSeen stood p → (types : List TypeTree) → AreCopied vs cs types → chosen p sizes * target_size is ≤ product sizes * product (map count types)
    target_low becomes.none stood ts us j p seen types copied =
        let low = chosen-low p (map count (types_of vs)) (All-map (λ n. 0 < n) count (types_of vs) valued) in
        rw (no_types types copied) (omega arith)
    target_low (becomes.final at i' {n} {t} {is = is} found are) stood ts us j p seen types copied =
        let new = j.1.2.1.0 in
        let fresh : p i' ≡ false = not_true (p i') (λ h. (let there = seen i' (record { name = n; type = t }) found h in new there.0 there.1)) in
        let here : slice_get (map count (types_of vs)) i' ≡ Some (count t) = slice_get-some count (types_of vs) i' t (slice_get-some (λ v. v.type) vs i' (record { name = n; type = t }) found) in
        let more = chosen-more (map count (types_of vs)) p i' (count t) here fresh in
        let again : IsSeen (item false (name n at) ∷ stood) (with_place i' p) = λ m v at_m passes.
        by m v at_m (either_true (same_place i' m) (p m) passes) in
        let rest = target_low are (item false (name n at) ∷ stood) j.0 us j.2 (with_place i' p) again types copied in
        let regroup : chosen p (map count (types_of vs)) * (count t * target_size is) ≡ (chosen p (map count (types_of vs)) * count t) * target_size is = sym (mul_assoc (chosen p (map count (types_of vs))) (count t) (target_size is)) in
        rw regroup (subst (λ q. q * target_size is ≤ product (map count (types_of vs)) * product (map count types)) more rest)
      where
        by : (m : ℕ) (v : Variable) → slice_get vs m ≡ Some v → (same_place i' m ≡ true) ⊎ (p m ≡ true) → Stands (item false (name n at) ∷ stood) false v.name
        by m v at_m (inl h) =
            let same : i' ≡ m = same_place-true i' m h in
            let both : Some (record { name = n; type = t }) ≡ Some v = sym found ∙ (ap (slice_get vs) same ∙ at_m) in
            let ours : record { name = n; type = t } ≡ v = cc in
            subst (λ w. Stands (item false (name n at) ∷ stood) false w.name) ours (stands_first stood false n at)
        by m v at_m (inr h) = stands_behind (item false (name n at)) stood false v.name (seen m v at_m h)
    target_low (becomes.initial at i' {n} {t = t'} {cs = cs} {is = is} found are) stood ts us j p seen types copied =
        let parts = first_copied (slice_get (types_of vs) i') (map (slice_get (types_of vs)) cs) t' types copied (slice_get-some (λ v. v.type) vs i' (record { name = n; type = t' }) found) in
        let rest = target_low are (item true (name n at) ∷ stood) j.0 us j.2 p (λ m v at_m passes. stands_behind (item true (name n at)) stood false v.name (seen m v at_m passes)) parts.0 parts.2 in
        let more = mul-le-mul_left (count t') rest in
        rw (parts.1) (regroup (chosen p (map count (types_of vs))) (count t') (target_size is) (product (map count (types_of vs))) (product (map count parts.0)) more)
      where
        regroup : (a b c d e : ℕ) → b * (a * c) ≤ b * (d * e) → a * (b * c) ≤ d * (b * e)
        regroup a b c d e h = grind arith
