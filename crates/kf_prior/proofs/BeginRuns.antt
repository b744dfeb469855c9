-- The declarations of a full source lead to each initial store once, in ascending order, all equally likely.
use Rattle.std.proofs.Common.{◌≡◌, ℕ, zero, suc, ◌+◌, ◌*◌, ◌<◌, List, [], ◌∷◌, ◌++◌, length, map, get_or, slice_get, Some, Ok, append-nil, refl, sym, ap, subst, ◌∙◌, arith, append_assoc}
use Rattle.std.specs.Prelude.{slice_set}
use Rattle.std.specs.List.{range_with_len, flat_map}
use Rattle.std.proofs.lemmas.Grind.{flat_map-append}
use Rattle.std.proofs.lemmas.List.{map-append, length-append}
use Rattle.std.proofs.lemmas.List.Sums.{sum_by-cons}
use Rattle.std.proofs.lemmas.Option.{slice_get-get_or}
use Rattle.kf_frac.proofs.CommonMultiples.{product_positive}
use Rattle.kf_value.specs.Stores.{stores}
use Rattle.kf_value.specs.Types.{TypeTree, values, count}
use Rattle.kf_value.specs.Values.{ValueTree}
use Rattle.kf_value.specs.Numbers.{IsStore}
use Rattle.kf_value.proofs.Ascending.{length-values}
use Rattle.kf_value.proofs.Places.{combination_at}
use Rattle.kf_core.specs.Choices.{Weighted, once, total}
use Rattle.kf_core.specs.Dxs.{DxTree}
use Rattle.kf_core.specs.Runs.{Run, tried, place, joined, chain, choice_run, branched, replaced, declared, store_at, store_number}
use Rattle.kf_core.proofs.Stores.{length-store, store_is, store_of, store_number_is}
use Rattle.kf_core.specs.Each.{moved, onward}
use Rattle.kf_core.specs.Leaks.{silent}
use Rattle.kf_prior.proofs.PriorStores.{size, both_stores}

-- ---- lists of numbers

pub ranges : {X : Type 0} (f g : ℕ → X) (a b n : ℕ) → ((j : ℕ) → f (a + j) ≡ g (b + j)) → map f (range_with_len a n) ≡ map g (range_with_len b n)
ranges f g a b zero same = refl
ranges f g a b (suc n) same =
    let first : a ≡ a + 0 = omega arith in
    let second : b + 0 ≡ b = omega arith in
    let here : f a ≡ g b = ap f first ∙ same 0 ∙ ap g second in
    let rest = ranges f g (a + 1) (b + 1) n (λ j. (let left : a + 1 + j ≡ a + suc j = omega arith in ap f left) ∙ same (suc j) ∙ (let right : b + suc j ≡ b + 1 + j = omega arith in ap g right)) in
    λ i. here i ∷ rest i

range_parts : (a m n : ℕ) → range_with_len a (m + n) ≡ range_with_len a m ++ range_with_len (a + m) n
range_parts a zero n = (let same : a ≡ a + 0 = omega arith in let none : 0 + n ≡ n = omega arith in λ i. range_with_len (same i) (none i))
range_parts a (suc m) n =
    let more : suc m + n ≡ suc (m + n) = omega arith in
    let moved_on : a + 1 + m ≡ a + suc m = omega arith in
    ap (range_with_len a) more ∙ ap (λ l. a ∷ l) (range_parts (a + 1) m n ∙ ap (λ b. range_with_len (a + 1) m ++ range_with_len b n) moved_on)

-- ---- a store with one value set

set_behind : (xs zs : List ValueTree) (z v : ValueTree) → slice_set (xs ++ z ∷ zs) (length xs) v ≡ xs ++ v ∷ zs
set_behind [] zs z v = refl
set_behind (x ∷ xs) zs z v = ap (λ l. x ∷ l) (set_behind xs zs z v)

-- ---- the runs

-- a run that leaks nothing, of weight 1 over a scale
abbrev pub plain : ℕ → ℕ → Run
plain scale n = record { trace = []; end = Ok n; weight = 1; scale = scale }

plain_joined : (a b n m : ℕ) → joined (plain a n) (plain b m) ≡ plain (a * b) m
plain_joined a b n m = refl

once_total : (us : List ValueTree) → total (map once us) ≡ length us
once_total [] = refl
once_total (u ∷ us) = sum_by-cons (λ (w : Weighted). w.weight) (once u) (map once us) ∙ (let more : 1 + total (map once us) ≡ suc (length us) = omega (arith, once_total us) in more)

-- what is chained is chained one after the other
chain_parts : (rs qs : List Run) (next : ℕ → List Run) → chain (rs ++ qs) next ≡ chain rs next ++ chain qs next
chain_parts rs qs next = flat_map-append (λ r. onward next r r.end) rs qs

joined_plain : (a n : ℕ) (f : ℕ → Run) (g : ℕ → Run) → ((j : ℕ) → joined (plain a n) (f j) ≡ g j) → (l : List ℕ) → map (joined (plain a n)) (map f l) ≡ map g l
joined_plain a n f g same [] = refl
joined_plain a n f g same (j ∷ l) = λ i. same j i ∷ joined_plain a n f g same l i

-- ---- one store

single : (t : TypeTree) (k : ℕ) (v : ValueTree) → slice_get (values t) k ≡ Some v → IsStore (t ∷ []) k (v ∷ [])
unfolding stores
single t k v at = (let same : k ≡ k * 1 + 0 = omega arith in combination_at (values t) [] k 0 k v [] same at refl)

placed : (fronts rest : List TypeTree) (t : TypeTree) (x k : ℕ) (s zs : List ValueTree) (v : ValueTree) → IsStore fronts x s → slice_get (values t) k ≡ Some v → IsStore rest 0 zs
    → IsStore (fronts ++ (t ∷ rest)) ((x * count t + k) * size rest) (s ++ (v ∷ zs))
placed fronts rest t x k s zs v here at behind =
    let number : x * size (t ∷ rest) + (k * size rest + 0) ≡ (x * count t + k) * size rest = omega arith in
    subst (λ n. IsStore (fronts ++ (t ∷ rest)) n (s ++ (v ∷ zs))) number
    (both_stores fronts (t ∷ rest) x (k * size rest + 0) s (v ∷ zs) here (both_stores (t ∷ []) rest k 0 (v ∷ []) zs (single t k v at) behind))

-- the first variables and one more
longer_store : (fronts : List TypeTree) (t : TypeTree) (x k : ℕ) (s : List ValueTree) (v : ValueTree) → IsStore fronts x s → slice_get (values t) k ≡ Some v → IsStore (fronts ++ t ∷ []) (x * count t + k) (s ++ v ∷ [])
longer_store fronts t x k s v here at =
    let number : x * size (t ∷ []) + k ≡ x * count t + k = omega arith in
    subst (λ n. IsStore (fronts ++ t ∷ []) n (s ++ v ∷ [])) number (both_stores fronts (t ∷ []) x k s (v ∷ []) here (single t k v at))

-- the number of the store where the next variable takes its k-th value
module _ (fronts rest all : List TypeTree) (t : TypeTree) (whole : all ≡ fronts ++ (t ∷ rest)) (some : 0 < count t) (more : 0 < size rest) (x : ℕ) (s : List ValueTree) (here : IsStore fronts x s) where
  replaced_is : (k : ℕ) (v : ValueTree) → slice_get (values t) k ≡ Some v → replaced all (length fronts) v (x * (count t * size rest)) ≡ Some ((x * count t + k) * size rest)
  replaced_is k v at =
      let zs = store_at rest 0 in
      let behind : IsStore rest 0 zs = store_is rest 0 more in
      let z = get_or (values t) 0 v in
      let first : slice_get (values t) 0 ≡ Some z = slice_get-get_or (values t) 0 v (omega (arith, some, length-values t)) in
      let number : (x * count t + 0) * size rest ≡ x * (count t * size rest) = omega arith in
      let start : IsStore all (x * (count t * size rest)) (s ++ (z ∷ zs)) =
      subst (λ us. IsStore us (x * (count t * size rest)) (s ++ (z ∷ zs))) (sym whole)
      (subst (λ n. IsStore (fronts ++ (t ∷ rest)) n (s ++ (z ∷ zs))) number (placed fronts rest t x 0 s zs z here first behind)) in
      let set : slice_set (store_at all (x * (count t * size rest))) (length fronts) v ≡ s ++ (v ∷ zs) =
      (λ i. slice_set (store_of all (x * (count t * size rest)) (s ++ (z ∷ zs)) start i) (sym (length-store fronts x s here) i) v) ∙ set_behind s zs z v in
      ap (store_number all) set
      ∙ store_number_is all ((x * count t + k) * size rest) (s ++ (v ∷ zs))
      (subst (λ us. IsStore us ((x * count t + k) * size rest) (s ++ (v ∷ zs))) (sym whole) (placed fronts rest t x k s zs v here at behind))

-- ---- all declarations

-- each distribution chooses every value of its type alike, from any store
abbrev pub AreUniform : List TypeTree → List TypeTree → List DxTree → Type 0
AreUniform all [] [] = Unit {0}
AreUniform all [] (d ∷ ds) = ⊥
AreUniform all (t ∷ us) [] = ⊥
AreUniform all (t ∷ us) (d ∷ ds) = (((n : ℕ) → tried all d n ≡ Ok (map once (values t))) × (0 < count t)) × AreUniform all us ds

-- the runs to the stores whose first variables have their x-th values
abbrev leads : List TypeTree → List TypeTree → ℕ → List Run
leads us others x = map (λ j. plain (size us) ((x * size us + j) * size others)) (range_with_len 0 (size us))

module _ (all others fronts us : List TypeTree) (t : TypeTree) (whole : all ≡ fronts ++ (t ∷ (us ++ others))) (some : 0 < count t) (more : 0 < size (us ++ others)) (x : ℕ) (s : List ValueTree) (here : IsStore fronts x s)
    (c at : ℕ) (next : ℕ → List Run)
    (later : (y : ℕ) (r : List ValueTree) → IsStore (fronts ++ t ∷ []) y r → next (y * size (us ++ others)) ≡ leads us others y) where
  abbrev start : ℕ
  start = x * (count t * size (us ++ others))

  abbrev goes : Weighted → List Run
  goes w = map (joined (choice_run silent start c w)) (moved at (replaced all (length fronts) w.value start))

  abbrev run_at : ℕ → Run
  run_at j = plain (c * size us) ((x * (count t * size us) + j) * size others)

  one_goes : (k : ℕ) (v : ValueTree) → slice_get (values t) k ≡ Some v → goes (once v) ≡ plain c ((x * count t + k) * size (us ++ others)) ∷ []
  one_goes k v is =
      let scale : c * 1 ≡ c = omega arith in
      ap (λ o. map (joined (plain c start)) (moved at o)) (replaced_is fronts (us ++ others) all t whole some more x s here k v is)
      ∙ ap (λ b. plain b ((x * count t + k) * size (us ++ others)) ∷ []) scale

  one_leads : (k : ℕ) (v : ValueTree) → slice_get (values t) k ≡ Some v → chain (goes (once v)) next ≡ map run_at (range_with_len (k * size us) (size us))
  one_leads k v is =
      let y = x * count t + k in
      let m = y * size (us ++ others) in
      ap (λ rs. chain rs next) (one_goes k v is)
      ∙ append-nil (map (joined (plain c m)) (next m))
      ∙ ap (map (joined (plain c m))) (later y (s ++ v ∷ []) (longer_store fronts t x k s v here is))
      ∙ joined_plain c m (λ j. plain (size us) ((y * size us + j) * size others)) (λ j. plain (c * size us) ((y * size us + j) * size others)) (λ j. refl) (range_with_len 0 (size us))
      ∙ ranges (λ j. plain (c * size us) ((y * size us + j) * size others)) run_at 0 (k * size us) (size us)
      (λ j. ap (plain (c * size us)) (same_place x (count t) k (size us) j (size others)))
    where
      same_place : (x n k m j o : ℕ) → ((x * n + k) * m + (0 + j)) * o ≡ (x * (n * m) + (k * m + j)) * o
      same_place x n k m j o = omega arith

  suffix_leads : (vs : List ValueTree) (k : ℕ) → ((l : ℕ) (v : ValueTree) → slice_get vs l ≡ Some v → slice_get (values t) (k + l) ≡ Some v)
      → chain (flat_map goes (map once vs)) next ≡ map run_at (range_with_len (k * size us) (length vs * size us))
  suffix_leads [] k are = (let none : 0 ≡ 0 * size us = omega arith in ap (λ n. map run_at (range_with_len (k * size us) n)) none)
  suffix_leads (v ∷ vs) k are =
      let first : slice_get (values t) k ≡ Some v = (let start_at : k ≡ k + 0 = omega arith in ap (slice_get (values t)) start_at) ∙ are 0 v refl in
      let rest = suffix_leads vs (k + 1) (λ l u h. (let shift : k + 1 + l ≡ k + suc l = omega arith in ap (slice_get (values t)) shift) ∙ are (suc l) u h) in
      let m = size us in
      let place : (k + 1) * m ≡ k * m + m = omega arith in
      let long : suc (length vs) * m ≡ m + length vs * m = omega arith in
      chain_parts (goes (once v)) (flat_map goes (map once vs)) next
      ∙ (λ i. one_leads k v first i ++ rest i)
      ∙ ap (λ b. map run_at (range_with_len (k * m) m) ++ map run_at (range_with_len b (length vs * m))) place
      ∙ sym (map-append run_at (range_with_len (k * m) m) (range_with_len (k * m + m) (length vs * m)))
      ∙ ap (map run_at) (sym (range_parts (k * m) m (length vs * m)))
      ∙ ap (λ n. map run_at (range_with_len (k * m) n)) (sym long)

  all_lead : chain (flat_map goes (map once (values t))) next ≡ map run_at (range_with_len 0 (count t * size us))
  all_lead =
      let start_at : 0 * size us ≡ 0 = omega arith in
      suffix_leads (values t) 0 (λ l v h. (let same : 0 + l ≡ l = omega arith in ap (slice_get (values t)) same) ∙ h)
      ∙ (λ i. map run_at (range_with_len (start_at i) (length-values t i * size us)))

pub sizes_positive : (all us : List TypeTree) (ds : List DxTree) (others : List TypeTree) → AreUniform all us ds → 0 < size others → 0 < size (us ++ others)
sizes_positive all [] [] others uniform some = some
sizes_positive all [] (d ∷ ds) others uniform some = absurd uniform
sizes_positive all (t ∷ us) [] others uniform some = absurd uniform
sizes_positive all (t ∷ us) (d ∷ ds) others uniform some = product_positive (count t) (size (us ++ others)) uniform.0.1 (sizes_positive all us ds others uniform.1 some)

pub begins_from : (all others us : List TypeTree) (ds : List DxTree) (fronts : List TypeTree) (x : ℕ) (s : List ValueTree) → AreUniform all us ds → 0 < size others → all ≡ fronts ++ (us ++ others) → IsStore fronts x s
    → declared all (length fronts) ds (x * size (us ++ others)) ≡ leads us others x
begins_from all others [] [] fronts x s uniform some whole here = (let number : x * size others ≡ (x * 1 + 0) * size others = omega arith in ap (λ n. plain 1 n ∷ []) number)
begins_from all others [] (d ∷ ds) fronts x s uniform some whole here = absurd uniform
begins_from all others (t ∷ us) [] fronts x s uniform some whole here = absurd uniform
begins_from all others (t ∷ us) (d ∷ ds) fronts x s uniform some whole here =
    let behind = us ++ others in
    let n = x * (count t * size behind) in
    let next : ℕ → List Run = declared all (suc (length fronts)) ds in
    let c = total (map once (values t)) in
    let more = sizes_positive all us ds others uniform.1 some in
    let longer : length (fronts ++ t ∷ []) ≡ suc (length fronts) = omega (arith, length-append fronts (t ∷ [])) in
    let further : all ≡ (fronts ++ t ∷ []) ++ behind = whole ∙ sym (append_assoc fronts (t ∷ []) behind) in
    let scale : c ≡ count t = once_total (values t) ∙ length-values t in
    ap (λ g. chain (branched silent n (λ v. moved (place d) (replaced all (length fronts) v n)) g) next) (uniform.0.0 n)
    ∙ all_lead all others fronts us t whole uniform.0.1 more x s here c (place d) next
    (λ y r h. ap (λ k. declared all k ds (y * size behind)) (sym longer) ∙ begins_from all others us ds (fronts ++ t ∷ []) y r uniform.1 some further h)
    ∙ ap (λ b. map (λ j. plain (b * size us) ((x * (count t * size us) + j) * size others)) (range_with_len 0 (count t * size us))) scale
