-- The number of a store's values at distinct places, digit by digit, and how far it goes.
use Rattle.std.proofs.Common.{◌≡◌, ℕ, ◌+◌, ◌*◌, ◌<◌, ◌≤◌, ◌==◌, zero, suc, List, [], ◌∷◌, ◌++◌, false, All, refl, sym, ◌∙◌, ap, arith, length, get_or, take, add-one, ⊎_elim}
use Rattle.std.specs.List.{IsDistinct, AllByRecursion}
use Rattle.std.proofs.Math.Nat.{eq-zero-or-pos, mul_assoc, mul_comm, mul-zero, mul-le-mul_left, mul-le-mul_right}
use Rattle.std.proofs.Math.Seq.{take-suc}
use Rattle.std.proofs.lemmas.List.{map-append, length-map}
use Rattle.std.proofs.lemmas.Bool.Decides.{nat_tests}
use Rattle.std.proofs.lemmas.List.Elements.{All-head, All-tail, All-take}
use Rattle.kf_value.specs.Types.{product}
use Rattle.kf_value.specs.Numbers.{digits, mixed_radix}
use Rattle.kf_column.specs.Projection.{at_places, projected}

-- ---- one digit more

product_push : (ss : List ℕ) (s : ℕ) → product (ss ++ s ∷ []) ≡ product ss * s
product_push [] s = omega arith
product_push (t ∷ ss) s = ap (λ (n : ℕ). t * n) (product_push ss s) ∙ sym (mul_assoc t (product ss) s)

radix_push : (ss ds : List ℕ) (s d : ℕ) → length ss ≡ length ds → mixed_radix (ss ++ s ∷ []) (ds ++ d ∷ []) ≡ mixed_radix ss ds * s + d
radix_push [] [] s d same = omega arith
radix_push [] (e ∷ ds) s d same = absurd (omega (arith, same))
radix_push (t ∷ ss) [] s d same = absurd (omega (arith, same))
radix_push (t ∷ ss) (e ∷ ds) s d same =
    let rest : mixed_radix (ss ++ s ∷ []) (ds ++ d ∷ []) ≡ mixed_radix ss ds * s + d = radix_push ss ds s d (omega (arith, same)) in
    let grown : e * product (ss ++ s ∷ []) ≡ e * product ss * s = ap (λ (n : ℕ). e * n) (product_push ss s) ∙ sym (mul_assoc e (product ss) s) in
    regroup (e * product (ss ++ s ∷ [])) (e * product ss) (mixed_radix (ss ++ s ∷ []) (ds ++ d ∷ [])) (mixed_radix ss ds) s d grown rest
  where
    regroup : (p q r m s d : ℕ) → p ≡ q * s → r ≡ m * s + d → p + r ≡ (q + m) * s + d
    regroup p q r m s d e f = omega (arith, e, f)

module _ (places : List ℕ) (k i : ℕ) (within : k < length places) (is : i ≡ get_or places k i) where
  one_more : (ns : List ℕ) → at_places (take (k + 1) places) ns ≡ at_places (take k places) ns ++ get_or ns i 0 ∷ []
  one_more ns =
      ap (λ (n : ℕ). at_places (take n places) ns) (add-one k) ∙ ap (λ (l : List ℕ). at_places l ns) (take-suc places k i within)
      ∙ map-append (λ (j : ℕ). get_or ns j 0) (take k places) (get_or places k i ∷ [])
      ∙ ap (λ (j : ℕ). at_places (take k places) ns ++ get_or ns j 0 ∷ []) (sym is)

  module _ (sizes : List ℕ) (store : ℕ) where
    pub number_more : projected sizes (take (k + 1) places) store ≡ projected sizes (take k places) store * get_or sizes i 0 + get_or (digits sizes store) i 0
    number_more =
        let ss : List ℕ = at_places (take k places) sizes in
        let ds : List ℕ = at_places (take k places) (digits sizes store) in
        let as_long : length ss ≡ length ds = length-map (take k places) (λ (j : ℕ). get_or sizes j 0) ∙ sym (length-map (take k places) (λ (j : ℕ). get_or (digits sizes store) j 0)) in
        ap (λ (l : List ℕ). mixed_radix l (at_places (take (k + 1) places) (digits sizes store))) (one_more sizes)
        ∙ ap (λ (l : List ℕ). mixed_radix (ss ++ get_or sizes i 0 ∷ []) l) (one_more (digits sizes store))
        ∙ radix_push ss ds (get_or sizes i 0) (get_or (digits sizes store) i 0) as_long

    pub number_room : (n : ℕ) → n < product (at_places (take k places) sizes) → n * get_or sizes i 0 ≤ product (at_places (take (k + 1) places) sizes)
    number_room n low =
        let grown : product (at_places (take (k + 1) places) sizes) ≡ product (at_places (take k places) sizes) * get_or sizes i 0 =
        ap product (one_more sizes) ∙ product_push (at_places (take k places) sizes) (get_or sizes i 0) in
        let room : n * get_or sizes i 0 ≤ product (at_places (take k places) sizes) * get_or sizes i 0 = mul-le-mul_right (get_or sizes i 0) (omega arith) in
        omega (arith, grown, room)

    pub number_below : (n d : ℕ) → n < product (at_places (take k places) sizes) → d < get_or sizes i 0 → n * get_or sizes i 0 + d < product (at_places (take (k + 1) places) sizes)
    number_below n d low digit =
        let grown : product (at_places (take (k + 1) places) sizes) ≡ product (at_places (take k places) sizes) * get_or sizes i 0 =
        ap product (one_more sizes) ∙ product_push (at_places (take k places) sizes) (get_or sizes i 0) in
        let room : (n + 1) * get_or sizes i 0 ≤ product (at_places (take k places) sizes) * get_or sizes i 0 = mul-le-mul_right (get_or sizes i 0) (omega arith) in
        omega (arith, grown, room, digit)

-- ---- distinct places together have no more values than all

abbrev without : List ℕ → ℕ → List ℕ
without [] i = []
without (s ∷ ss) zero = 1 ∷ ss
without (s ∷ ss) (suc i) = s ∷ without ss i

product_without : (ss : List ℕ) (i : ℕ) → i < length ss → product ss ≡ get_or ss i 0 * product (without ss i)
product_without [] i within = absurd (omega arith)
product_without (s ∷ ss) zero within = omega arith
product_without (s ∷ ss) (suc i) within =
    let rest : product ss ≡ get_or ss i 0 * product (without ss i) = product_without ss i (omega arith) in
    ap (λ (n : ℕ). s * n) rest ∙ sym (mul_assoc s (get_or ss i 0) (product (without ss i)))
    ∙ ap (λ (n : ℕ). n * product (without ss i)) (mul_comm s (get_or ss i 0)) ∙ mul_assoc (get_or ss i 0) s (product (without ss i))

length-without : (ss : List ℕ) (i : ℕ) → length (without ss i) ≡ length ss
length-without [] i = refl
length-without (s ∷ ss) zero = refl
length-without (s ∷ ss) (suc i) = ap suc (length-without ss i)

get_or-without : (ss : List ℕ) (i j : ℕ) → (i ≡ j → ⊥) → get_or (without ss i) j 0 ≡ get_or ss j 0
get_or-without [] i j apart = refl
get_or-without (s ∷ ss) zero zero apart = absurd (apart refl)
get_or-without (s ∷ ss) zero (suc j) apart = refl
get_or-without (s ∷ ss) (suc i) zero apart = refl
get_or-without (s ∷ ss) (suc i) (suc j) apart = get_or-without ss i j (λ same. apart (ap suc same))

unequal : (i j : ℕ) → (i == j) ≡ false → i ≡ j → ⊥
unequal i j differ same = grind (arith, nat_tests)

at_others : (ss : List ℕ) (i : ℕ) (places : List ℕ) → AllByRecursion (λ (j : ℕ). (i == j) ≡ false) places → at_places places (without ss i) ≡ at_places places ss
at_others ss i [] apart = refl
at_others ss i (j ∷ places) apart =
    let first : get_or (without ss i) j 0 ≡ get_or ss j 0 = get_or-without ss i j (unequal i j apart.0) in
    let rest : at_places places (without ss i) ≡ at_places places ss = at_others ss i places apart.1 in
    λ k. first k ∷ rest k

pub distinct_product : (ss places : List ℕ) → 0 < product ss → All (λ (i : ℕ). i < length ss) places → IsDistinct (λ (i j : ℕ). i == j) places → product (at_places places ss) ≤ product ss
unfolding IsDistinct
distinct_product ss [] some within apart = omega (arith, some)
distinct_product ss (i ∷ places) some within apart =
    let here : i < length ss = All-head (λ (i : ℕ). i < length ss) i places within in
    let shared : product ss ≡ get_or ss i 0 * product (without ss i) = product_without ss i here in
    let left : 0 < product (without ss i) =
    ⊎_elim (λ (h : product (without ss i) ≡ 0). absurd (omega (arith, some, shared, ap (λ (n : ℕ). get_or ss i 0 * n) h, mul-zero (get_or ss i 0)))) (λ (h : 0 < product (without ss i)). h)
    (eq-zero-or-pos (product (without ss i))) in
    let others : All (λ (j : ℕ). j < length (without ss i)) places = rw length-without (All-tail (λ (i : ℕ). i < length ss) i places within) in
    let rest : product (at_places places (without ss i)) ≤ product (without ss i) = distinct_product (without ss i) places left others apart.1 in
    let same : product (at_places places (without ss i)) ≡ product (at_places places ss) = ap product (at_others ss i places apart.0) in
    let grown : get_or ss i 0 * product (at_places places (without ss i)) ≤ get_or ss i 0 * product (without ss i) = mul-le-mul_left (get_or ss i 0) rest in
    omega (arith, grown, shared, ap (λ (n : ℕ). get_or ss i 0 * n) same)

-- the first of some distinct places are distinct
apart_take : (i k : ℕ) (places : List ℕ) → AllByRecursion (λ (j : ℕ). (i == j) ≡ false) places → AllByRecursion (λ (j : ℕ). (i == j) ≡ false) (take k places)
apart_take i zero places apart = tt
apart_take i (suc k) [] apart = tt
apart_take i (suc k) (j ∷ places) apart = (apart.0, apart_take i k places apart.1)

distinct_take : (k : ℕ) (places : List ℕ) → IsDistinct (λ (i j : ℕ). i == j) places → IsDistinct (λ (i j : ℕ). i == j) (take k places)
unfolding IsDistinct
distinct_take zero places apart = tt
distinct_take (suc k) [] apart = tt
distinct_take (suc k) (i ∷ places) apart = (apart_take i k places apart.0, distinct_take k places apart.1)

-- no number at the first places passes that of all stores
pub first_product : (ss places : List ℕ) (k : ℕ) → 0 < product ss → All (λ (i : ℕ). i < length ss) places → IsDistinct (λ (i j : ℕ). i == j) places → product (at_places (take k places) ss) ≤ product ss
first_product ss places k some within apart = distinct_product ss (take k places) some (All-take (λ (i : ℕ). i < length ss) k places within) (distinct_take k places apart)
