-- Ways in the order of their stores, and that their order doesn't matter.
use Rattle.std.proofs.Common.{Bool, true, false, nat_lt, ltb-true, ◌≡◌, ℕ, suc, ◌+◌, ◌<◌, ◌≤◌, ◌^◌, List, [], ◌∷◌, ◌++◌, length, get_or, Option, Some, None, refl, sym, ap, subst, ◌∙◌, arith, ◌↔◌, ◌⊎◌, inl, inr, cond, append_assoc, append-nil}
use Rattle.std.specs.List.{AllByRecursion as Each, AllAdjacentBelow, IsAllAdjacentAnswer}
use Rattle.std.specs.List.Sorted.{IsPermutation, IsNonDecreasingBy}
use Rattle.std.specs.Int.{◌∣◌}
use Rattle.std.specs.Ordering.{nat_cmp, match_ordering, is_eq}
use Rattle.std.specs.declared.cmp.Ordering.{Ordering}
use Rattle.std.specs.declared.cmp.Ordering.TheVariants.{Equal, Greater}
use Rattle.std.specs.Map.{lookup}
use Rattle.std.specs.BTreeMap.{insert_entry, is_at}
use Rattle.std.specs.Cmp.{nat_cmp_is}
use Rattle.std.proofs.lemmas.List.Elements.{All-head, All-tail, recursion_from_All, All-from_recursion}
use Rattle.std.proofs.lemmas.List.Sorted.{All-permutation, IsPermutation-sym}
use Rattle.std.proofs.lemmas.Nat.Gcd.{dvd_antisymm, dvd_refl}
use Rattle.kf_frac.specs.Divisors.{lcm_of}
use Rattle.kf_frac.specs.Laws.{IsLcm}
use Rattle.kf_frac.proofs.CommonMultiples.{lcm_is}
use Rattle.kf_core.proofs.Scales.{lcm_divides}
use Rattle.kf_value.proofs.ListLemmas.{each_append, each_weaker}
use Rattle.kf_support.specs.Answers.{AreWays, AreReached, Ascend, ways_to}
use Rattle.kf_support.specs.Carried.{Reached, capped, met, with_way, with_ways, with_all}
use Rattle.kf_support.proofs.Dividing.{bound, below_or_not, lcm_splits, capped_same, is_capped}
use Rattle.kf_support.proofs.Placing.{through, back, Good, Nice, Fits, each_adds, adds, way_good, all_good, all_fit}
use Rattle.kf_support.proofs.Adding.{IsWay, IsScale, way_added, all_added}

-- ---- a way to a store behind all others

module _ (n : ℕ) where
  look_past : (front rest : Reached) → Each (λ e. e.0 < n) front → lookup (is_at (nat_cmp n)) (front ++ rest) ≡ lookup (is_at (nat_cmp n)) rest
  look_past [] rest h = refl
  look_past (e ∷ es) rest h =
      ap (λ (r : Ordering). cond (is_eq r) (Some e.1) (lookup (is_at (nat_cmp n)) (es ++ rest))) (sym (nat_cmp_is n e.0 Greater h.0)) ∙ look_past es rest h.1

  place_past : (front rest : Reached) (v : ℕ) → Each (λ e. e.0 < n) front → insert_entry nat_cmp (front ++ rest) n v ≡ front ++ insert_entry nat_cmp rest n v
  place_past [] rest v h = refl
  place_past (e ∷ es) rest v h =
      ap (λ (r : Ordering). match_ordering r ((n, v) ∷ e ∷ (es ++ rest)) ((e.0, v) ∷ (es ++ rest)) (e ∷ insert_entry nat_cmp (es ++ rest) n v)) (sym (nat_cmp_is n e.0 Greater h.0))
      ∙ ap (λ (fs : Reached). e ∷ fs) (place_past es rest v h.1)

  module _ (s : ℕ) where
    way_past : (front rest : Reached) → Each (λ e. e.0 < n) front → with_way (front ++ rest) n s ≡ front ++ with_way rest n s
    way_past front rest h =
        ap (λ (o : Option ℕ). insert_entry nat_cmp (front ++ rest) n (met o s)) (look_past front rest h) ∙ place_past front rest (met (lookup (is_at (nat_cmp n)) rest) s) h

    pub way_last : (es : Reached) → Each (λ e. e.0 < n) es → with_way es n s ≡ es ++ (n, s) ∷ []
    way_last es h = ap (λ fs. with_way fs n s) (sym (append-nil es)) ∙ way_past es [] h

    pub way_again : (front : Reached) (old : ℕ) → Each (λ e. e.0 < n) front → with_way (front ++ (n, old) ∷ []) n s ≡ front ++ (n, capped (lcm_of old s)) ∷ []
    way_again front old h =
        way_past front ((n, old) ∷ []) h
        ∙ ap (λ (r : Ordering). front ++ match_ordering r ((n, met (cond (is_eq r) (Some old) None) s) ∷ (n, old) ∷ []) ((n, met (cond (is_eq r) (Some old) None) s) ∷ []) ((n, old) ∷ (n, met (cond (is_eq r) (Some old) None) s) ∷ []))
        (sym (nat_cmp_is n n Equal refl))

-- ---- ways that ascend already

ascending_from : (k : ℕ) (front es : Reached) → Each (λ e. e.0 < k) front → Each (λ e. k ≤ e.0) es → Ascend es → with_all front es ≡ front ++ es
ascending_from k front [] low high up = sym (append-nil front)
ascending_from k front (f ∷ es) low high up =
    let below : Each (λ (e : ℕ × ℕ). e.0 < f.0) front = each_weaker (λ (e : ℕ × ℕ). e.0 < k) (λ (e : ℕ × ℕ). e.0 < f.0) (λ e h. let q : k ≤ f.0 = high.0 in omega (arith, h, q)) front low in
    let upto : Each (λ (e : ℕ × ℕ). e.0 < suc f.0) (front ++ f ∷ []) =
    each_append (λ (e : ℕ × ℕ). e.0 < suc f.0) front (f ∷ []) (each_weaker (λ (e : ℕ × ℕ). e.0 < f.0) (λ (e : ℕ × ℕ). e.0 < suc f.0) (λ e h. omega (arith, h)) front below) (omega arith, tt) in
    let above : Each (λ (e : ℕ × ℕ). suc f.0 ≤ e.0) es = each_weaker (λ (e : ℕ × ℕ). f.0 < e.0) (λ (e : ℕ × ℕ). suc f.0 ≤ e.0) (λ e h. omega (arith, h)) es up.0 in
    ap (λ fs. with_all fs es) (way_last f.0 f.1 front below) ∙ (ascending_from (suc f.0) (front ++ f ∷ []) es upto above up.1 ∙ append_assoc front (f ∷ []) es)

each_of : {X : Type 0} (P : X → Type 0) → ((x : X) → P x) → (xs : List X) → Each P xs
each_of P holds [] = tt
each_of P holds (x ∷ xs) = (holds x, each_of P holds xs)

pub ascending : (es : Reached) → Ascend es → with_all [] es ≡ es
ascending es up = ascending_from 0 [] es tt (each_of (λ (e : ℕ × ℕ). 0 ≤ e.0) (λ e. omega arith) es) up

pub all_behind : (es fs gs : Reached) → with_all es (fs ++ gs) ≡ with_all (with_all es fs) gs
all_behind es [] gs = refl
all_behind es (f ∷ fs) gs = all_behind (with_way es f.0 f.1) fs gs

-- ways beside those that ascend
pub all_beside : (es fs : Reached) → Ascend es → with_all [] (es ++ fs) ≡ with_all es fs
all_beside es fs up = all_behind [] es fs ∙ ap (λ gs. with_all gs fs) (ascending es up)

pub ways_as : (es : Reached) (ns : List ℕ) (s : ℕ) → with_all es (ways_to ns s) ≡ with_ways es ns s
ways_as es [] s = refl
ways_as es (n ∷ ns) s = ways_as (with_way es n s) ns s

-- ways behind those that are made already
pub made_more : (made : Reached) (ns : List ℕ) (s : ℕ) → with_all [] (made ++ ways_to ns s) ≡ with_ways (with_all [] made) ns s
made_more made ns s = all_behind [] made (ways_to ns s) ∙ ways_as (with_all [] made) ns s

pub ways_joined : (size : ℕ) (es fs : Reached) → AreWays size es → AreWays size fs → AreWays size (es ++ fs)
ways_joined size es fs ways others = All-from_recursion (IsWay size) (es ++ fs) (each_append (IsWay size) es fs (recursion_from_All (IsWay size) es ways) (recursion_from_All (IsWay size) fs others))

pub one_more_way : (size n s : ℕ) (es : Reached) → n < size → IsScale s → AreWays size es → AreWays size (es ++ (n, s) ∷ [])
one_more_way size n s es below is ways = ways_joined size es ((n, s) ∷ []) ways (All-from_recursion (IsWay size) ((n, s) ∷ []) ((below, is), tt))

-- ---- two lists that tell the same

nice_never : Nice (λ n v. ⊥)
nice_never = record { joins = λ n a b s. (λ h. (h, h), λ h. h.0); caps = λ n a s. (λ h. h, λ h. h) }

nice_other : (m : ℕ) → Nice (λ n v. n ≡ m → ⊥)
nice_other m = record { joins = λ n a b s. (λ h. (h, h), λ h. h.0); caps = λ n a s. (λ h. h, λ h. h) }

nice_above : (m : ℕ) (Q : ℕ → ℕ → Type 0) → Nice Q → Nice (λ n v. m < n → Q n v)
nice_above m Q nice = record {
  joins = λ n a b s. (λ h. (λ l. ((nice.joins n a b s).0 (h l)).0, λ l. ((nice.joins n a b s).0 (h l)).1), λ h l. (nice.joins n a b s).1 (h.0 l, h.1 l));
  caps = λ n a s. (λ h l. (nice.caps n a s).0 (h l), λ h l. (nice.caps n a s).1 (h l));
}

nice_at : (m k : ℕ) → 0 < k → k < bound → Nice (λ n v. n ≡ m → v ∣ k)
nice_at m k p low = record {
  joins = λ n a b s. (λ h. (λ l. ((lcm_splits k p a b s).0 (h l)).0, λ l. ((lcm_splits k p a b s).0 (h l)).1), λ h l. (lcm_splits k p a b s).1 (h.0 l, h.1 l));
  caps = λ n a s. (λ h l. (capped_same k p low a s).0 (h l), λ h l. (capped_same k p low a s).1 (h l));
}

abbrev pub Alike : Reached → Reached → Type 1
Alike es fs = (Q : ℕ → ℕ → Type 0) → Nice Q → Fits Q es ↔ Fits Q fs

not_before : (e f : ℕ × ℕ) (es fs : Reached) → Each (λ g. f.0 < g.0) fs → Alike (e ∷ es) (f ∷ fs) → f.0 ≤ e.0
not_before e f es fs up same = at (below_or_not e.0 f.0)
  where
    at : (e.0 < f.0) ⊎ (f.0 ≤ e.0) → f.0 ≤ e.0
    at (inr h) = h
    at (inl h) =
        let none : Fits (λ n v. n ≡ e.0 → ⊥) (f ∷ fs) =
        (λ l. omega (arith, h, l), each_weaker (λ (g : ℕ × ℕ). f.0 < g.0) (λ (g : ℕ × ℕ). g.0 ≡ e.0 → ⊥) (λ g q l. omega (arith, h, q, l)) fs up) in
        absurd (((same (λ n v. n ≡ e.0 → ⊥) (nice_other e.0)).1 none).0 refl)

-- at its first store a list tells the scale
first_tells : (m k : ℕ) (e : ℕ × ℕ) (es : Reached) → e.0 ≡ m → Each (λ g. e.0 < g.0) es → Fits (λ n v. n ≡ m → v ∣ k) (e ∷ es) ↔ (e.1 ∣ k)
first_tells m k e es is up = (
  λ h. h.0 is,
  λ d. (λ l. d, each_weaker (λ (g : ℕ × ℕ). e.0 < g.0) (λ (g : ℕ × ℕ). g.0 ≡ m → g.1 ∣ k) (λ g q l. absurd (omega (arith, q, l, is))) es up),
)

-- of what is above its first store a list tells what its others tell
others_tell : (m : ℕ) (Q : ℕ → ℕ → Type 0) (e : ℕ × ℕ) (es : Reached) → e.0 ≡ m → Each (λ g. e.0 < g.0) es → Fits (λ n v. m < n → Q n v) (e ∷ es) ↔ Fits Q es
others_tell m Q e es is up = (λ h. opened es up h.1, λ h. (λ l. absurd (omega (arith, l, is)), each_weaker (λ (g : ℕ × ℕ). Q g.0 g.1) (λ (g : ℕ × ℕ). m < g.0 → Q g.0 g.1) (λ g q l. q) es h))
  where
    opened : (gs : Reached) → Each (λ g. e.0 < g.0) gs → Fits (λ n v. m < n → Q n v) gs → Fits Q gs
    opened [] u h = tt
    opened (g ∷ gs) u h = (h.0 (let q : e.0 < g.0 = u.0 in omega (arith, q, is)), opened gs u.1 h.1)

told_alone : (n : ℕ) → n ≤ bound → capped n ≡ n
unfolding bound
told_alone n h = omega (arith, h)

pub one_list : (es fs : Reached) → Good es → Good fs → Each (λ e. e.1 ≤ bound) es → Each (λ e. e.1 ≤ bound) fs → Alike es fs → es ≡ fs
one_list [] [] g h a b same = refl
one_list [] (f ∷ fs) g h a b same = absurd ((same (λ n v. ⊥) nice_never).0 tt).0
one_list (e ∷ es) [] g h a b same = absurd ((same (λ n v. ⊥) nice_never).1 tt).0
one_list (e ∷ es) (f ∷ fs) g h a b same =
    let low = not_before e f es fs h.1 same in
    let high = not_before f e fs es g.1 (λ Q nice. back (same Q nice)) in
    let first : f.0 ≡ e.0 = omega (arith, low, high) in
    let scale : e.1 ≡ f.1 =
    is_capped e.1 f.1 g.0 a.0 h.0
    (λ k p small. through (back (first_tells e.0 k e es refl g.1)) (through (same (λ n v. n ≡ e.0 → v ∣ k) (nice_at e.0 k p small)) (first_tells e.0 k f fs first h.1)))
    ∙ told_alone f.1 b.0 in
    let rest : es ≡ fs =
    one_list es fs g.2 h.2 a.1 b.1
    (λ Q nice. through (back (others_tell e.0 Q e es refl g.1)) (through (same (λ n v. e.0 < n → Q n v) (nice_above e.0 Q nice)) (others_tell e.0 Q f fs first h.1))) in
    λ i. (sym first i, scale i) ∷ rest i

-- ---- ways in another order

positive : (size : ℕ) (es : Reached) → AreWays size es → Each (λ e. 0 < e.1) es
positive size es ways = each_weaker (IsWay size) (λ (e : ℕ × ℕ). 0 < e.1) (λ e h. let q : 1 ≤ e.1 = h.1.0 in omega (arith, q)) es (recursion_from_All (IsWay size) es ways)

told : (size : ℕ) (es : Reached) → AreWays size es → Each (λ e. e.1 ≤ bound) es
unfolding bound
told size es ways = each_weaker (IsWay size) (λ (e : ℕ × ℕ). e.1 ≤ 2 ^ 127) (λ e h. h.1.1) es (recursion_from_All (IsWay size) es ways)

good_ascends : (es : Reached) → Good es → Ascend es
good_ascends [] good = tt
good_ascends (e ∷ es) good = (good.1, good_ascends es good.2)

pub ascends_good : (size : ℕ) (es : Reached) → AreReached size es → Good es
ascends_good size [] h = tt
ascends_good size (e ∷ es) h = (let q = (All-head (IsWay size) e es h.0).1.0 in omega (arith, q), h.1.0, ascends_good size es (All-tail (IsWay size) e es h.0, h.1.1))

no_way : (size : ℕ) → AreWays size []
no_way size = All-from_recursion (IsWay size) [] tt

-- what ways lead to
pub all_reached : (size : ℕ) (es : Reached) → AreWays size es → AreReached size (with_all [] es)
all_reached size es ways = (all_added size [] es (no_way size) ways, good_ascends (with_all [] es) (all_good [] es tt (positive size es ways)))

pub settled_reached : (size : ℕ) (ways reached : Reached) → AreWays size ways → reached ≡ with_all [] ways → AreReached size reached
settled_reached size ways reached are is = subst (AreReached size) (sym is) (all_reached size ways are)

pub settled_again : (size : ℕ) (ways : Reached) → AreWays size ways → with_all [] (with_all [] ways) ≡ with_all [] ways
settled_again size ways are = ascending (with_all [] ways) (all_reached size ways are).1

pub both_reached : (size : ℕ) (one other both : Reached) → AreReached size one → AreReached size other → both ≡ with_all one other → AreReached size both
both_reached size one other both h k is = settled_reached size (one ++ other) both (ways_joined size one other h.0 k.0) (is ∙ sym (all_beside one other h.1))

pub in_any_order : (size : ℕ) (es fs : Reached) → AreWays size es → IsPermutation es fs → with_all [] fs ≡ with_all [] es
in_any_order size es fs ways moved =
    let others : AreWays size fs = All-permutation (IsWay size) es fs moved ways in
    one_list (with_all [] fs) (with_all [] es) (all_good [] fs tt (positive size fs others)) (all_good [] es tt (positive size es ways))
    (told size (with_all [] fs) (all_reached size fs others).0) (told size (with_all [] es) (all_reached size es ways).0)
    (λ Q nice. through (all_fit Q nice [] fs tt (positive size fs others)) (through (same Q) (back (all_fit Q nice [] es tt (positive size es ways)))))
  where
    same : (Q : ℕ → ℕ → Type 0) → (Fits Q [] × Fits Q fs) ↔ (Fits Q [] × Fits Q es)
    same Q = (
      λ h. (tt, recursion_from_All (λ (e : ℕ × ℕ). Q e.0 e.1) es (All-permutation (λ (e : ℕ × ℕ). Q e.0 e.1) fs es (IsPermutation-sym es fs moved) (All-from_recursion (λ (e : ℕ × ℕ). Q e.0 e.1) fs h.1))),
      λ h. (tt, recursion_from_All (λ (e : ℕ × ℕ). Q e.0 e.1) fs (All-permutation (λ (e : ℕ × ℕ). Q e.0 e.1) es fs moved (All-from_recursion (λ (e : ℕ × ℕ). Q e.0 e.1) es h.1))),
    )

-- ---- ways side by side

same_multiple : (n : ℕ) → 1 ≤ n → lcm_of n n ≡ n
same_multiple n some =
    let is : IsLcm n n (lcm_of n n) = lcm_is n n some some in
    dvd_antisymm (lcm_divides n n (lcm_of n n) n is (dvd_refl n) (dvd_refl n)) is.left

pub same_scales : (a b : ℕ) → 1 ≤ a → a ≡ b → capped a ≡ capped (lcm_of a b)
same_scales a b some same = ap capped (sym (same_multiple a some) ∙ ap (lcm_of a) same)

abbrev pub Climb : Reached → Type 0
Climb [] = Unit {0}
Climb (e ∷ es) = Each (λ f. e.0 ≤ f.0) es × Climb es

first_least : (x : ℕ × ℕ) (es : Reached) → ((j : ℕ) (d : ℕ × ℕ) → j < length es → x.0 ≤ (get_or es j d).0) → Each (λ e. x.0 ≤ e.0) es
first_least x [] h = tt
first_least x (e ∷ es) h = (h 0 e (omega arith), first_least x es (λ j d within. h (suc j) d (omega (arith, within))))

pub climbs : (es : Reached) → IsNonDecreasingBy (λ e. e.0) es → Climb es
climbs [] h = tt
climbs (e ∷ es) h = (
  first_least e es (λ j d within. h 0 (suc j) d (omega arith) (omega (arith, within))),
  climbs es (λ i j d le within. h (suc i) (suc j) d (omega (arith, le)) (omega (arith, within))),
)

pub adjacent_ascend : (es : Reached) (r : Bool) → IsAllAdjacentAnswer (λ (x y : ℕ × ℕ) (b : Bool). b ≡ nat_lt x.0 y.0) es r → r ≡ true → Ascend es
adjacent_ascend es false h is = absurd (cc)
adjacent_ascend es true h is = from es h
  where
    later : (e f : ℕ × ℕ) (es : Reached) (k : ℕ) (d : ℕ × ℕ) → true ≡ nat_lt (get_or (e ∷ f ∷ es) (suc k) d).0 (get_or (e ∷ f ∷ es) (suc k + 1) d).0
        → true ≡ nat_lt (get_or (f ∷ es) k d).0 (get_or (f ∷ es) (k + 1) d).0
    later e f es k d h =
        let at : suc k + 1 ≡ suc (k + 1) = omega arith in
        subst (λ j. true ≡ nat_lt (get_or (e ∷ f ∷ es) (suc k) d).0 (get_or (e ∷ f ∷ es) j d).0) at h

    from : (es : Reached) → AllAdjacentBelow (λ (x y : ℕ × ℕ). true ≡ nat_lt x.0 y.0) es (length es) → Ascend es
    from [] h = tt
    from (e ∷ []) h = (tt, tt)
    from (e ∷ f ∷ es) h =
        let low : e.0 < f.0 = ltb-true e.0 f.0 (sym (h 0 e (omega arith))) in
        let rest = from (f ∷ es) (λ k d within. later e f es k d (h (suc k) d (omega (arith, within)))) in
        ((low, each_weaker (λ (g : ℕ × ℕ). f.0 < g.0) (λ (g : ℕ × ℕ). e.0 < g.0) (λ g q. omega (arith, low, q)) es rest.0), rest)

-- what stands before the last
before_last : (front : Reached) (e : ℕ × ℕ) → Ascend (front ++ e ∷ []) → Each (λ f. f.0 < e.0) front
before_last [] e up = tt
before_last (f ∷ front) e up = (each_last front up.0, before_last front e up.1)
  where
    each_last : (gs : Reached) → Each (λ g. f.0 < g.0) (gs ++ e ∷ []) → f.0 < e.0
    each_last [] h = h.0
    each_last (g ∷ gs) h = each_last gs h.1

last_of : (P : ℕ × ℕ → Type 0) (front : Reached) (e : ℕ × ℕ) → Each P (front ++ e ∷ []) → P e
last_of P [] e h = h.0
last_of P (f ∷ front) e h = last_of P front e h.1

module _ (n s : ℕ) (es front now : Reached) (last old : ℕ) (is : es ≡ front ++ (last, old) ∷ []) (up : Ascend es) where
  open_up : Ascend (front ++ (last, old) ∷ [])
  open_up = subst Ascend is up

  pub joins_last : (v : ℕ) → last ≡ n → v ≡ capped (lcm_of old s) → now ≡ front ++ (n, v) ∷ [] → now ≡ with_way es n s
  joins_last v same value made =
      let below : Each (λ (e : ℕ × ℕ). e.0 < n) front = subst (λ k. Each (λ (e : ℕ × ℕ). e.0 < k) front) same (before_last front (last, old) open_up) in
      made ∙ (ap (λ k. front ++ (n, k) ∷ []) value ∙ (sym (way_again n s front old below) ∙ (ap (λ k. with_way (front ++ (k, old) ∷ []) n s) (sym same) ∙ ap (λ fs. with_way fs n s) (sym is))))

  pub follows_last : (mid : Reached) → (last ≡ n → ⊥) → Each (λ e. e.0 ≤ n) es → mid ≡ front ++ (last, old) ∷ [] → now ≡ mid ++ (n, s) ∷ [] → now ≡ with_way es n s
  follows_last mid other upto back made =
      let most : last ≤ n = last_of (λ (e : ℕ × ℕ). e.0 ≤ n) front (last, old) (subst (λ fs. Each (λ (e : ℕ × ℕ). e.0 ≤ n) fs) is upto) in
      let low : last < n = omega (arith, most, other) in
      let below : Each (λ (e : ℕ × ℕ). e.0 < n) front = each_weaker (λ (e : ℕ × ℕ). e.0 < last) (λ (e : ℕ × ℕ). e.0 < n) (λ e h. omega (arith, h, low)) front (before_last front (last, old) open_up) in
      let all : Each (λ (e : ℕ × ℕ). e.0 < n) es = subst (λ fs. Each (λ (e : ℕ × ℕ). e.0 < n) fs) (sym is) (each_append (λ (e : ℕ × ℕ). e.0 < n) front ((last, old) ∷ []) below (low, tt)) in
      made ∙ (ap (λ fs. fs ++ (n, s) ∷ []) (back ∙ sym is) ∙ sym (way_last n s es all))

-- the ways that are left, none to a store before those that are reached
pub record Joins (left whole now : Reached) : Type 0 where
  pub all : with_all now left ≡ whole
  pub size : ℕ
  pub reached : AreReached size now
  pub rest : AreWays size left
  pub climb : Climb left
  pub top : ℕ
  pub below : Each (λ e. e.0 ≤ top) now
  pub above : Each (λ e. top ≤ e.0) left

pub joins_start : (ways none : Reached) (size : ℕ) → none ≡ [] → AreWays size ways → IsNonDecreasingBy (λ e. e.0) ways → Joins ways (with_all [] ways) none
joins_start ways none size empty are order = rw empty (record {
  all = refl;
  size = size;
  reached = (no_way size, tt);
  rest = are;
  climb = climbs ways order;
  top = 0;
  below = tt;
  above = each_of (λ (e : ℕ × ℕ). 0 ≤ e.0) (λ e. omega arith) ways;
})

module _ (e : ℕ × ℕ) (es left whole now : Reached) (next : left ≡ e ∷ es) (had : Joins left whole now) where
  pub here : Joins (e ∷ es) whole now
  here = subst (λ fs. Joins fs whole now) next had

  pub join_reached : AreReached here.size now
  join_reached = here.reached

  pub join_some : 1 ≤ e.1
  join_some = (All-head (IsWay here.size) e es here.rest).1.0

  pub join_last : Each (λ f. f.0 ≤ e.0) now
  join_last = each_weaker (λ (f : ℕ × ℕ). f.0 ≤ here.top) (λ (f : ℕ × ℕ). f.0 ≤ e.0) (λ f h. let q = here.above.0 in omega (arith, h, q)) now here.below

  pub joins_step : (after : Reached) → after ≡ with_way now e.0 e.1 → Joins es whole after
  joins_step after is =
      let way = All-head (IsWay here.size) e es here.rest in
      let good = ascends_good here.size now here.reached in
      let q : 0 < e.1 = let h : 1 ≤ e.1 = way.1.0 in omega (arith, h) in
      rw is (record {
        all = here.all;
        size = here.size;
        reached = (way_added here.size e.0 e.1 now way.0 way.1 here.reached.0, good_ascends (with_way now e.0 e.1) (way_good e.0 e.1 q now good));
        rest = All-tail (IsWay here.size) e es here.rest;
        climb = here.climb.1;
        top = e.0;
        below = each_adds e.0 e.1 (λ k. k ≤ e.0) (omega arith) (adds e.0 e.1 now good) join_last;
        above = here.climb.0;
      })
