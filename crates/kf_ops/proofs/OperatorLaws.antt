-- What each operator gives, in the words of its subject.
use Rattle.std.proofs.Common.{◌≡◌, ◌≢◌, ◌⊎◌, ◌↔◌, ⊎_elim, inl, inr, cond, suc, ◌^◌, ◌<◌, Bool, true, false, not, ◌&&◌, ◌||◌, T, ℤ, pos, negsuc, ◌+ℤ◌, ◌-ℤ◌, ◌*ℤ◌, neg_ℤ, ◌≤ℤ◌, ◌<ℤ◌, int_lt, int_le, List, [], ◌∷◌, length, Result, Ok, Err, refl, sym, ap, ◌∙◌, subst, arith}
use Rattle.std.specs.Prelude.{if◌then◌else◌}
use Rattle.std.specs.Int.{int_div_euclid, int_rem_euclid}
use Rattle.std.specs.Int.Signed.{lt_z_yes, le_z_yes}
use Rattle.std.specs.Ordering.{int_eq}
use Rattle.std.proofs.lemmas.Bool.{or_cases, or_left, or_right}
use Rattle.std.proofs.lemmas.Bool.Decides.{Decides-ltb, Decides-int_eq}
use Rattle.std.proofs.lemmas.Int.{ints}
use Rattle.kf_value.specs.Values.{ValueTree, Truth, Whole, Set, parts, parts_list, is_equal}
use Rattle.kf_value.specs.Laws.{IsIn}
use Rattle.kf_value.proofs.Trees.{parts_list-parts}
use Rattle.kf_ops.specs.Laws.{Gives, GivesOfTwo, IsNarrow, IsPicked, MakesSets, PicksOfTwo, Tells}
use Rattle.kf_ops.specs.Values.{Fault, DivZero, ArithWide, applied, is_i64, is_in, narrow}
use Rattle.kf_ops.specs.declared.row.Op.{Op}
use Rattle.kf_ops.specs.declared.row.Op.TheVariants as op
use Rattle.kf_ops.proofs.SetLaws.{equal_values, holds, not_both, not_from, union_law, without_law, both_law}
use Rattle.kf_ops.proofs.Subsets.{all_in}
use Rattle.kf_ops.specs.Sets.{are_in, without, both, either}

-- ---- Booleans

abbrev Given : ValueTree → Result ValueTree Fault
Given v = Ok v

told_true : (b : Bool) → Given (Truth b) ≡ Ok (Truth true) → b ≡ true
told_true true h = refl
told_true false h = absurd (cc)

tells : (b : Bool) (P : Type 0) → (b ≡ true) ↔ P → (Given (Truth b) ≡ Ok (Truth true)) ↔ P
tells b P h = (λ e. h.0 (told_true b e), λ p. ap (λ x. Given (Truth x)) (h.1 p))

either_holds : (a b : Bool) → ((a || b) ≡ true) ↔ ((a ≡ true) ⊎ (b ≡ true))
either_holds a b = (or_cases a b, ⊎_elim (or_left a b) (or_right a b))

both_hold : (a b : Bool) → ((a && b) ≡ true) ↔ ((a ≡ true) × (b ≡ true))
both_hold true b = (λ h. (refl, h), λ h. h.1)
both_hold false b = (λ h. absurd (cc), λ h. let first : false ≡ true = h.0 in absurd (cc))

not_holds : (a : Bool) → (not a ≡ true) ↔ (a ≡ false)
not_holds true = (λ h. absurd (cc), λ h. absurd (cc))
not_holds false = (λ h. refl, λ h. refl)

pub or_true : (a b : Bool) → Tells op.Or (Truth a ∷ Truth b ∷ []) ((a ≡ true) ⊎ (b ≡ true))
or_true a b = tells (a || b) ((a ≡ true) ⊎ (b ≡ true)) (either_holds a b)

pub and_true : (a b : Bool) → Tells op.And (Truth a ∷ Truth b ∷ []) ((a ≡ true) × (b ≡ true))
and_true a b = tells (a && b) ((a ≡ true) × (b ≡ true)) (both_hold a b)

pub not_true : (a : Bool) → Tells op.Not (Truth a ∷ []) (a ≡ false)
not_true a = tells (not a) (a ≡ false) (not_holds a)

exactly_one : (a b : Bool) → ((if a then not b else b) ≡ true) ↔ (a ≢ b)
exactly_one true true = (λ h. absurd (cc), λ differ. absurd (differ refl))
exactly_one true false = (λ h e. (cc), λ differ. refl)
exactly_one false true = (λ h e. (cc), λ differ. refl)
exactly_one false false = (λ h. absurd (cc), λ differ. absurd (differ refl))

follows : (a b : Bool) → ((b || not a) ≡ true) ↔ (a ≡ true → b ≡ true)
follows true true = (λ h e. refl, λ f. refl)
follows true false = (λ h. absurd (cc), λ f. f refl)
follows false true = (λ h e. refl, λ f. refl)
follows false false = (λ h e. absurd (cc), λ f. refl)

pub xor_true : (a b : Bool) → Tells op.Xor (Truth a ∷ Truth b ∷ []) (a ≢ b)
xor_true a b = tells (if a then not b else b) (a ≢ b) (exactly_one a b)

pub implies_true : (a b : Bool) → Tells op.Implies (Truth a ∷ Truth b ∷ []) (a ≡ true → b ≡ true)
implies_true a b = tells (b || not a) (a ≡ true → b ≡ true) (follows a b)

-- ---- equality and order

pub equal_true : (v w : ValueTree) → Tells op.Equal (v ∷ w ∷ []) (v ≡ w)
equal_true v w = tells (is_equal v w) (v ≡ w) (equal_values v w)

pub unequal_true : (v w : ValueTree) → Tells op.NotEqual (v ∷ w ∷ []) (v ≢ w)
unequal_true v w =
    tells (not (is_equal v w)) (v ≢ w)
    (λ h e. not_both (is_equal v w) h ((equal_values v w).1 e), λ differ. not_from (is_equal v w) (λ t. differ ((equal_values v w).0 t)))

holds_so : (b : Bool) → T b → b ≡ true
holds_so true h = refl
holds_so false h = absurd h

so_holds : (b : Bool) → b ≡ true → T b
so_holds b h = subst T (sym h) tt

less : (i j : ℤ) → (int_lt i j ≡ true) ↔ (i <ℤ j)
less i j = (λ h. lt_z_yes (so_holds (int_lt i j) h), λ h. holds_so (int_lt i j) h.lt)

at_most : (i j : ℤ) → (int_le i j ≡ true) ↔ (i ≤ℤ j)
at_most i j = (λ h. le_z_yes (so_holds (int_le i j) h), λ h. holds_so (int_le i j) h.le)

pub less_true : (i j : ℤ) → Tells op.Less (Whole i ∷ Whole j ∷ []) (i <ℤ j)
less_true i j = tells (int_lt i j) (i <ℤ j) (less i j)

pub at_most_true : (i j : ℤ) → Tells op.AtMost (Whole i ∷ Whole j ∷ []) (i ≤ℤ j)
at_most_true i j = tells (int_le i j) (i ≤ℤ j) (at_most i j)

pub greater_true : (i j : ℤ) → Tells op.Greater (Whole i ∷ Whole j ∷ []) (j <ℤ i)
greater_true i j = tells (int_lt j i) (j <ℤ i) (less j i)

pub at_least_true : (i j : ℤ) → Tells op.AtLeast (Whole i ∷ Whole j ∷ []) (j ≤ℤ i)
at_least_true i j = tells (int_le j i) (j ≤ℤ i) (at_most j i)

-- ---- sets

pub element_true : (v : ValueTree) (ws : List ValueTree) → Tells op.Elem (v ∷ Set (parts ws) ∷ []) (IsIn v ws)
element_true v ws =
    tells (is_in v (parts_list (parts ws))) (IsIn v ws)
    (subst (λ us. (is_in v us ≡ true) ↔ IsIn v ws) (sym (parts_list-parts ws)) (holds v ws))

made : (operation : List ValueTree → List ValueTree → List ValueTree) (vs ws : List ValueTree)
    → Given (Set (parts (operation (parts_list (parts vs)) (parts_list (parts ws))))) ≡ Given (Set (parts (operation vs ws)))
made operation vs ws =
    ap (λ us. Given (Set (parts (operation us (parts_list (parts ws)))))) (parts_list-parts vs)
    ∙ ap (λ us. Given (Set (parts (operation vs us)))) (parts_list-parts ws)

pub union_made : MakesSets op.Union (λ v vs ws. IsIn v vs ⊎ IsIn v ws)
union_made vs ws hv hw = (either vs ws, made either vs ws, union_law vs ws hv hw)

pub difference_made : MakesSets op.Without (λ v vs ws. IsIn v vs × (IsIn v ws → ⊥))
difference_made vs ws hv hw = (without vs ws, made without vs ws, without_law vs ws hv hw)

pub intersection_made : MakesSets op.Inter (λ v vs ws. IsIn v vs × IsIn v ws)
intersection_made vs ws hv hw = (both vs ws, made both vs ws, both_law vs ws hv hw)

pub elements_counted : (vs : List ValueTree) → applied op.Size (Set (parts vs) ∷ []) ≡ Ok (Whole (pos (length vs)))
elements_counted vs = ap (λ us. Given (Whole (pos (length us)))) (parts_list-parts vs)

pub subset_true : (vs ws : List ValueTree) → Tells op.Subset (Set (parts vs) ∷ Set (parts ws) ∷ []) ((v : ValueTree) → IsIn v vs → IsIn v ws)
subset_true vs ws =
    let listed : are_in (parts_list (parts vs)) (parts_list (parts ws)) ≡ are_in vs ws =
    ap (λ us. are_in us (parts_list (parts ws))) (parts_list-parts vs) ∙ ap (are_in vs) (parts_list-parts ws) in
    tells (are_in (parts_list (parts vs)) (parts_list (parts ws))) ((v : ValueTree) → IsIn v vs → IsIn v ws)
    (subst (λ b. (b ≡ true) ↔ ((v : ValueTree) → IsIn v vs → IsIn v ws)) (sym listed) (all_in vs ws))

-- ---- whole numbers

pub narrow_told : (z : ℤ) → (is_i64 z ≡ true) ↔ IsNarrow z
narrow_told (pos n) = (
  λ h. let small : n < 2 ^ 63 = (Decides-ltb n (2 ^ 63)).0 h in (omega (arith, ints), omega (arith, ints)),
  λ h. let high = h.1 in let small : n < 2 ^ 63 = omega (arith, ints) in (Decides-ltb n (2 ^ 63)).1 small,
)
narrow_told (negsuc n) = (
  λ h. let small : n < 2 ^ 63 = (Decides-ltb n (2 ^ 63)).0 h in (omega (arith, ints), omega (arith, ints)),
  λ h. let low = h.0 in let small : n < 2 ^ 63 = omega (arith, ints) in (Decides-ltb n (2 ^ 63)).1 small,
)

gives : (b : Bool) (z : ℤ) → (b ≡ true) ↔ IsNarrow z → Gives (if b then Ok (Whole z) else Err ArithWide) z
gives true z h = record { told = λ within. refl; refused = λ beyond. absurd (beyond (h.0 refl)) }
gives false z h = record { told = λ within. let wrong : false ≡ true = h.1 within in absurd (cc); refused = λ beyond. refl }

narrow_gives : (z : ℤ) → Gives (narrow z) z
narrow_gives z = gives (is_i64 z) z (narrow_told z)

pub added : GivesOfTwo op.Add (λ i j. i +ℤ j)
added i j = narrow_gives (i +ℤ j)

pub subtracted : GivesOfTwo op.Subtract (λ i j. i -ℤ j)
subtracted i j = narrow_gives (i -ℤ j)

pub multiplied : GivesOfTwo op.Multiply (λ i j. i *ℤ j)
multiplied i j = narrow_gives (i *ℤ j)

pub negated : (i : ℤ) → Gives (applied op.Negate (Whole i ∷ [])) (neg_ℤ i)
negated i = narrow_gives (neg_ℤ i)

divided : (b : Bool) (j : ℤ) (result : Result ValueTree Fault) → (b ≡ true → j ≡ pos 0) → j ≢ pos 0 → result ≡ (if b then Err DivZero else result)
divided true j result zero some = absurd (some (zero refl))
divided false j result zero some = refl

pub quotient : (i j : ℤ) → j ≢ pos 0 → Gives (applied op.Div (Whole i ∷ Whole j ∷ [])) (int_div_euclid i j)
quotient i j some =
    subst (λ r. Gives r (int_div_euclid i j)) (divided (int_eq j (pos 0)) j (narrow (int_div_euclid i j)) (Decides-int_eq j (pos 0)).0 some)
    (narrow_gives (int_div_euclid i j))

pub remainder : (i j : ℤ) → j ≢ pos 0 → applied op.Mod (Whole i ∷ Whole j ∷ []) ≡ Ok (Whole (int_rem_euclid i j))
remainder i j some = sym (divided (int_eq j (pos 0)) j (Given (Whole (int_rem_euclid i j))) (Decides-int_eq j (pos 0)).0 some)

picked : {R : ℤ → ℤ → Type 0} (code : Op) (i j : ℤ) (b : Bool) (p q : ℤ) → applied code (Whole i ∷ Whole j ∷ []) ≡ Ok (Whole (cond b p q))
    → (b ≡ true → IsPicked R i j p) → (b ≡ false → IsPicked R i j q)
    → (z : ℤ) × (applied code (Whole i ∷ Whole j ∷ []) ≡ Ok (Whole z)) × IsPicked R i j z
picked code i j true p q is first second = (p, is, first refl)
picked code i j false p q is first second = (q, is, second refl)

below : (i j : ℤ) → int_lt i j ≡ true → i ≤ℤ j
below i j h = let l = (less i j).0 h in omega (arith, ints)

not_below : (i j : ℤ) → int_lt i j ≡ false → j ≤ℤ i
not_below i j h = let no : (i <ℤ j → ⊥) = λ l. (let yes = (less i j).1 l in cc) in omega (arith, ints)

itself : (i : ℤ) → i ≤ℤ i
itself i = omega (arith, ints)

pub lesser : PicksOfTwo op.Min (λ z i. z ≤ℤ i)
lesser i j =
    picked op.Min i j (int_lt j i) j i refl
    (λ h. record { one = inr refl; first = below j i h; second = itself j })
    (λ h. record { one = inl refl; first = itself i; second = not_below j i h })

pub greater : PicksOfTwo op.Max (λ z i. i ≤ℤ z)
greater i j =
    picked op.Max i j (int_lt j i) i j refl
    (λ h. record { one = inl refl; first = itself i; second = below j i h })
    (λ h. record { one = inr refl; first = not_below j i h; second = itself j })

pub absolute : (i : ℤ) → pos 0 ≤ℤ i → Gives (applied op.Abs (Whole i ∷ [])) i
absolute (pos n) h = narrow_gives (pos n)
absolute (negsuc n) h = absurd (let low = h in omega (arith, ints))

pub absolute_below : (i : ℤ) → i <ℤ pos 0 → Gives (applied op.Abs (Whole i ∷ [])) (neg_ℤ i)
absolute_below (pos n) h = absurd (let low = h in omega (arith, ints))
absolute_below (negsuc n) h = narrow_gives (pos (suc n))
