-- The sizes of types: what the code multiplies against what is defined.
use Rattle.std.specs.Prelude.{nat_le, IfOk, if◌then◌else◌}
use Rattle.std.proofs.Common.{◌≡◌, ℕ, ℤ, ◌-◌, ◌*◌, ◌^◌, ◌<◌, ◌≤◌, ◌-ℤ◌, min, Bool, true, false, List, [], ◌∷◌, map, Option, None, Some, Result, Ok, Err, refl, sym, ap, ◌∙◌, ⊎_elim, arith}
use Rattle.std.proofs.Math.Nat.{mul-le-mul_left, mul-le-mul_right, mul_assoc}
use Rattle.std.proofs.lemmas.Nat.{pow_pos}
use Rattle.std.proofs.lemmas.Bool.{cases_lt, cond_both, leb-true}
use Rattle.std.proofs.lemmas.Int.{ints}
use Rattle.std.proofs.lemmas.Bool.Decides.{nat_tests}
use Rattle.kf_value.specs.declared.ty.TyFault.{TyFault}
use Rattle.kf_value.specs.declared.ty.TyFault.TheVariants.{BadRange, TooManyValues}
use Rattle.kf_value.specs.Types.{TypeTree, TypeTrees, Boolean, Range, TupleOf, SetOf, no_type, more_types, type_parts, count, counts, product, in_bounds, counted}
use Rattle.kf_value.specs.Sizes.{fault_within, first_fault, first_of, crowded, crowded_after, size_within, capped_product, HasSize}
use Rattle.kf_value.proofs.Trees.{counts-type_parts}

-- ---- a type without a fault has a value

pub crowded_after-None : (inner : Option TyFault) (limit : ℕ) (t : TypeTree) → crowded_after inner limit t ≡ None → inner ≡ None
crowded_after-None None limit t h = refl
crowded_after-None (Some fault) limit t h = (cc)

pub first_of-None : (a b : Option TyFault) → first_of a b ≡ None → (a ≡ None) × (b ≡ None)
first_of-None None b h = (refl, h)
first_of-None (Some fault) b h = (cc)

in_bounds_upright : (lo hi : ℤ) → in_bounds lo hi ≡ true → 0 < counted (hi -ℤ lo)
in_bounds_upright lo hi h = grind (arith, ints)

range_has_values : (ok : Bool) (lo hi : ℤ) (limit : ℕ) → in_bounds lo hi ≡ ok
    → (if ok then crowded limit (counted (hi -ℤ lo)) else Some BadRange) ≡ None → 0 < counted (hi -ℤ lo)
range_has_values false lo hi limit is h = (cc)
range_has_values true lo hi limit is h = in_bounds_upright lo hi is

pub product_some : (a b : ℕ) → 0 < a → 0 < b → 0 < a * b
product_some a b ha hb = let grown : a * 1 ≤ a * b = mul-le-mul_left a hb in omega arith

mutual
  pub some_values : (limit : ℕ) (t : TypeTree) → fault_within limit t ≡ None → 0 < count t
  some_values limit Boolean h = omega arith
  some_values limit (Range lo hi) h = range_has_values (in_bounds lo hi) lo hi limit refl h
  some_values limit (TupleOf ts) h = each_some_values ts (crowded_after-None (first_fault ts) limit (TupleOf ts) h)
  some_values limit (SetOf base) h = pow_pos (count base)

  pub each_some_values : (ts : TypeTrees) → first_fault ts ≡ None → 0 < product (counts ts)
  each_some_values no_type h = omega arith
  each_some_values (more_types t ts) h =
      let inner = first_of-None (fault_within 65536 t) (first_fault ts) h in
      product_some (count t) (product (counts ts)) (some_values 65536 t inner.0) (each_some_values ts inner.1)

-- ---- products that are held as far as they fit

pub min_saturates : (a p m : ℕ) → 0 < p → min (min a m * p) m ≡ min (a * p) m
min_saturates a p m some =
    ⊎_elim
    (λ (low : m < a). let grown : m * 1 ≤ m * p = mul-le-mul_left m some in
    let more : m * p ≤ a * p = mul-le-mul_right p (omega arith) in
    let held : min a m ≡ m = omega arith in rw held (omega arith))
    (λ (low : a ≤ m). let held : min a m ≡ a = omega arith in rw held refl)
    (cases_lt m a)

-- a size, or the fault that stands in its way
abbrev pub held : Option TyFault → ℕ → Result ℕ TyFault
held o n = elim o [ None ↦ Ok n | Some fault ↦ Err fault ]

-- the answer for what is left, times what is known
abbrev pub capped_after : ℕ → List TypeTree → Result ℕ TyFault
capped_after n ts = held (first_fault (type_parts ts)) (min (n * product (map count ts)) (2 ^ 32 - 1))

pub capped_start : (ts : List TypeTree) → capped_after 1 ts ≡ capped_product ts
capped_start ts =
    let one : 1 * product (map count ts) ≡ product (map count ts) = omega arith in
    ap (λ n. held (first_fault (type_parts ts)) (min n (2 ^ 32 - 1))) one

pub capped_end : (n : ℕ) → n < 2 ^ 32 → Ok n ≡ capped_after n []
capped_end n small = let fits : n ≡ min (n * 1) 4294967295 = omega arith in ap (λ m. Ok m) fits

capped_more : (n size rest : ℕ) (later : Option TyFault) → (later ≡ None → 0 < rest)
    → held later (min (n * (size * rest)) (2 ^ 32 - 1)) ≡ held later (min (min (n * size) (2 ^ 32 - 1) * rest) (2 ^ 32 - 1))
capped_more n size rest None some =
    ap (λ m. Ok m) (sym (min_saturates (n * size) rest (2 ^ 32 - 1) (some refl) ∙ ap (λ m. min m (2 ^ 32 - 1)) (mul_assoc n size rest)))
capped_more n size rest (Some fault) some = refl

-- a size is that of a type without a fault
held-Ok : (o : Option TyFault) (n size : ℕ) → Ok size ≡ held o n → (o ≡ None) × (size ≡ n)
held-Ok None n size h = (refl, (cc))
held-Ok (Some fault) n size h = (cc)

pub sized : (limit : ℕ) (t : TypeTree) (size : ℕ) → Ok size ≡ size_within limit t → (fault_within limit t ≡ None) × (size ≡ count t)
sized limit t size h = held-Ok (fault_within limit t) (count t) size h

pub rest_some : (ts : List TypeTree) → first_fault (type_parts ts) ≡ None → 0 < product (map count ts)
rest_some ts h = rw (counts-type_parts ts) at (each_some_values (type_parts ts) h)

pub capped_step : (n : ℕ) (t : TypeTree) (ts : List TypeTree) (size : ℕ) → Ok size ≡ size_within 65536 t
    → capped_after n (t ∷ ts) ≡ capped_after (min (n * size) (2 ^ 32 - 1)) ts
capped_step n t ts size is =
    let known = sized 65536 t size is in
    let rest = product (map count ts) in
    let later = first_fault (type_parts ts) in
    ap (λ o. held (first_of o later) (min (n * (count t * rest)) (2 ^ 32 - 1))) known.0
    ∙ (capped_more n (count t) rest later (rest_some ts) ∙ ap (λ s. held later (min (min (n * s) (2 ^ 32 - 1) * rest) (2 ^ 32 - 1))) (sym known.1))

-- ---- a tuple's size against the limit

pub judged : (b : Bool) (n : ℕ) → ◌≡◌ {A = Result ℕ TyFault} (if b then Ok n else Err TooManyValues) (held (if b then None else Some TooManyValues) n)
judged true n = refl
judged false n = refl

judged_capped : (n limit : ℕ) → limit ≤ 65536
    → ◌≡◌ {A = Result ℕ TyFault} (if nat_le (min n (2 ^ 32 - 1)) limit then Ok (min n (2 ^ 32 - 1)) else Err TooManyValues)
    (if nat_le n limit then Ok n else Err TooManyValues)
judged_capped n limit low = grind (arith, nat_tests)

pub judged_tuple : (limit size : ℕ) (ts : List TypeTree) → limit ≤ 65536 → Ok size ≡ capped_product ts
    → (if nat_le size limit then Ok size else Err TooManyValues) ≡ size_within limit (TupleOf (type_parts ts))
judged_tuple limit size ts low h =
    let most = product (map count ts) in
    let known = held-Ok (first_fault (type_parts ts)) (min most (2 ^ 32 - 1)) size h in
    let same = counts-type_parts ts in
    ap (λ s. if nat_le s limit then Ok s else Err TooManyValues) known.1
    ∙ (judged_capped most limit low
    ∙ (judged (nat_le most limit) most
    ∙ (ap (λ ns. held (crowded limit (product ns)) (product ns)) (sym same)
    ∙ ap (λ o. held (crowded_after o limit (TupleOf (type_parts ts))) (product (counts (type_parts ts)))) (sym known.0))))

-- ---- what a type without a fault has

crowded_by : (b : Bool) (limit n : ℕ) → nat_le n limit ≡ b → (if b then None else Some TooManyValues) ≡ None → n ≤ limit
crowded_by true limit n is h = grind (arith, nat_tests)
crowded_by false limit n is h = (cc)

crowded-None : (limit n : ℕ) → crowded limit n ≡ None → n ≤ limit
crowded-None limit n h = crowded_by (nat_le n limit) limit n refl h

crowded_from : (limit n : ℕ) → n ≤ limit → crowded limit n ≡ None
crowded_from limit n low = let fits : nat_le n limit ≡ true = grind (arith, nat_tests) in ap (λ b. if b then None else Some TooManyValues) fits

range_few : (ok : Bool) (limit n : ℕ) → (if ok then crowded limit n else Some BadRange) ≡ None → n ≤ limit
range_few true limit n h = crowded-None limit n h
range_few false limit n h = (cc)

range_looser : (ok : Bool) (low high n : ℕ) → low ≤ high → (if ok then crowded low n else Some BadRange) ≡ None → (if ok then crowded high n else Some BadRange) ≡ None
range_looser true low high n le h = let few = crowded-None low n h in crowded_from high n (omega arith)
range_looser false low high n le h = h

after_few : (inner : Option TyFault) (limit : ℕ) (t : TypeTree) → crowded_after inner limit t ≡ None → count t ≤ limit
after_few None limit t h = crowded-None limit (count t) h
after_few (Some fault) limit t h = (cc)

after_looser : (inner : Option TyFault) (low high : ℕ) (t : TypeTree) → low ≤ high → crowded_after inner low t ≡ None → crowded_after inner high t ≡ None
after_looser None low high t le h = let few = crowded-None low (count t) h in crowded_from high (count t) (omega arith)
after_looser (Some fault) low high t le h = h

pub few_values : (limit : ℕ) (t : TypeTree) → fault_within limit t ≡ None → count t ≤ limit
few_values limit Boolean h = crowded-None limit 2 h
few_values limit (Range lo hi) h = range_few (in_bounds lo hi) limit (count (Range lo hi)) h
few_values limit (TupleOf ts) h = after_few (first_fault ts) limit (TupleOf ts) h
few_values limit (SetOf base) h = after_few (fault_within 16 base) limit (SetOf base) h

pub looser : (low high : ℕ) (t : TypeTree) → low ≤ high → fault_within low t ≡ None → fault_within high t ≡ None
looser low high Boolean le h = let few = crowded-None low 2 h in crowded_from high 2 (omega arith)
looser low high (Range lo hi) le h = range_looser (in_bounds lo hi) low high (count (Range lo hi)) le h
looser low high (TupleOf ts) le h = after_looser (first_fault ts) low high (TupleOf ts) le h
looser low high (SetOf base) le h = after_looser (fault_within 16 base) low high (SetOf base) le h

pub tuple_sized : (ts : List TypeTree) → HasSize (TupleOf (type_parts ts)) → (first_fault (type_parts ts) ≡ None) × (product (map count ts) ≤ 65536)
tuple_sized ts h =
    let few : product (counts (type_parts ts)) ≤ 65536 = few_values 65536 (TupleOf (type_parts ts)) h in
    (crowded_after-None (first_fault (type_parts ts)) 65536 (TupleOf (type_parts ts)) h, rw (counts-type_parts ts) at few)

pub base_sized : (base : TypeTree) → HasSize (SetOf base) → HasSize base × (count base ≤ 16)
base_sized base h =
    let inner = crowded_after-None (fault_within 16 base) 65536 (SetOf base) h in
    (looser 16 65536 base (omega arith) inner, few_values 16 base inner)

pub known_fits : (t : TypeTree) (n : ℕ) → HasSize t → Ok n ≡ size_within 65536 t → (n ≡ count t) × (0 < n) × (n ≤ 65536)
known_fits t n sized_t h =
    let known = sized 65536 t n h in
    (known.1, rw (known.1) (some_values 65536 t sized_t), rw (known.1) (few_values 65536 t sized_t))

pub known_product_fits : (ts : List TypeTree) (n : ℕ) → HasSize (TupleOf (type_parts ts)) → Ok n ≡ capped_product ts → n ≡ product (map count ts)
known_product_fits ts n sized_ts h =
    let known = held-Ok (first_fault (type_parts ts)) (min (product (map count ts)) (2 ^ 32 - 1)) n h in
    let few = (tuple_sized ts sized_ts).1 in
    let same = known.1 in
    omega arith

pub two_fit : (s t : TypeTree) → HasSize s → HasSize t → count s * (count t * 1) ≤ 2 ^ 63
two_fit s t sized_s sized_t =
    let few_s : count s ≤ 65536 = few_values 65536 s sized_s in
    let few_t : count t * 1 ≤ 65536 = let few = few_values 65536 t sized_t in omega arith in
    let first : count s * (count t * 1) ≤ 65536 * (count t * 1) = mul-le-mul_right (count t * 1) few_s in
    omega arith

-- what is judged is at most the limit
pub at_most_few : (limit n : ℕ) (r : Result ℕ TyFault) → r ≡ (if nat_le n limit then Ok n else Err TooManyValues) → IfOk r (λ m. m ≤ limit)
at_most_few limit n r is =
    rw is (cond_both (nat_le n limit) (Ok n) (Err TooManyValues) (λ x. IfOk x (λ m. m ≤ limit)) (λ t. leb-true n limit t) (λ t. tt))
