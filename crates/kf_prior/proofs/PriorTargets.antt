-- A full program's target number tells the initial store of its run, whatever the statements do.
use Rattle.std.proofs.Common.{◌≡◌, ℕ, suc, ◌+◌, ◌*◌, ◌/◌, ◌<◌, false, List, [], ◌∷◌, ◌++◌, length, map, take, drop, get_or, Option, Some, None, Result, Ok, Err, sym, ap, subst, ◌∙◌, arith, append-nil}
use Rattle.std.specs.Option.{unwrap_or}
use Rattle.std.specs.List.{AllByRecursion as Each, range_with_len}
use Rattle.std.proofs.Math.Seq.{drop-append_seam, take-append_seam}
use Rattle.std.proofs.lemmas.List.{map-append}
use Rattle.std.proofs.lemmas.Nat.{div-mul-add}
use Rattle.std.proofs.lemmas.Option.{slice_get_within}
use Rattle.kf_value.specs.Types.{TypeTree, count, product}
use Rattle.kf_value.specs.Values.{ValueTree, Truth}
use Rattle.kf_value.specs.Stores.{stores}
use Rattle.kf_value.specs.Numbers.{IsStore}
use Rattle.kf_value.proofs.ListLemmas.{each_weaker}
use Rattle.kf_core.specs.Checked.{IsChecked}
use Rattle.kf_core.specs.Joint.{target_number, target_values_at}
use Rattle.kf_core.specs.Programs.{ProgramTree}
use Rattle.kf_core.specs.Runs.{Halted, store_at, store_number, carried}
use Rattle.kf_core.proofs.Stores.{length-stores, length-store, store_is, store_of, store_number_is}
use Rattle.kf_prior.specs.Priors.{initial_count, begun}
use Rattle.kf_prior.proofs.PriorCells.{runs_from, Fits, AllFit}
use Rattle.kf_prior.proofs.PriorStays.{Same, body_stays}
use Rattle.kf_prior.proofs.PriorStores.{size, both_stores, IsParted, parted, reads}

-- a program whose target is each variable before the statements, and then each behind them
pub record IsPaired (p : ProgramTree) (ts : List TypeTree) : Type 0 where
  pub long : length ts ≡ length p.decls
  pub types : p.types ≡ ts ++ ts
  pub copies : p.copies ≡ range_with_len 0 (length p.decls)
  pub slots : p.target_slots ≡ range_with_len (length p.decls) (length p.decls) ++ range_with_len 0 (length p.decls)
  pub about : map (λ i. i.ty) p.target ≡ ts ++ ts
  pub checked : IsChecked p

abbrev number_from : ℕ → Option ℕ → ℕ
number_from n found = unwrap_or found n

-- what a target value is given: the prior's weight of its initial store, times their number
abbrev pub by_prior : ℕ → List ℕ → ℕ → ℕ
by_prior stores prior z = get_or prior (z / stores) 0 * stores

module _ (p : ProgramTree) (ts : List TypeTree) (is : IsPaired p ts) where
  abbrev n : ℕ
  n = length p.decls

  front_types : take n p.types ≡ ts
  front_types = (λ i. take (sym is.long i) (is.types i)) ∙ take-append_seam ts ts

  pub back_types : drop n p.types ≡ ts
  back_types = (λ i. drop (sym is.long i) (is.types i)) ∙ drop-append_seam ts ts

  pub count_is : initial_count p ≡ size ts
  count_is = ap size front_types

  -- a store has as many values as there are variables
  store_long : (x : ℕ) (s : List ValueTree) → IsStore ts x s → length s ≡ n
  store_long x s at = length-store ts x s at ∙ is.long

  both_at : (x y : ℕ) (s r : List ValueTree) → IsStore ts x s → IsStore ts y r → IsStore p.types (x * size ts + y) (s ++ r)
  both_at x y s r h g = subst (λ us. IsStore us (x * size ts + y) (s ++ r)) (sym is.types) (both_stores ts ts x y s r h g)

  -- ---- where the statements begin

  carried_is : (s r : List ValueTree) → length s ≡ n → carried p (s ++ r) ≡ s ++ s
  carried_is s r long =
      let declared : take n (s ++ r) ≡ s = ap (λ k. take k (s ++ r)) (sym long) ∙ take-append_seam s r in
      let copies : map (λ c. get_or (s ++ r) c (Truth false)) p.copies ≡ s =
      ap (map (λ c. get_or (s ++ r) c (Truth false))) (is.copies ∙ ap (range_with_len 0) (sym long)) ∙ reads [] s r in
      λ i. declared i ++ copies i

  begun_is : (x : ℕ) (s : List ValueTree) → IsStore ts x s → begun p x ≡ x * size ts + x
  begun_is x s at =
      let within : x < length (stores ts) = slice_get_within (stores ts) x s at in
      let some : 0 < size ts = omega (arith, within, length-stores ts) in
      let r = store_at ts 0 in
      let place : x * product (map count (drop n p.types)) ≡ x * size ts + 0 = ap (λ us. x * size us) back_types ∙ omega arith in
      let here : store_at p.types (x * product (map count (drop n p.types))) ≡ s ++ r =
      ap (store_at p.types) place ∙ store_of p.types (x * size ts + 0) (s ++ r) (both_at x 0 s r at (store_is ts 0 some)) in
      let number : store_number p.types (carried p (store_at p.types (x * product (map count (drop n p.types))))) ≡ Some (x * size ts + x) =
      ap (λ w. store_number p.types (carried p w)) here
      ∙ ap (store_number p.types) (carried_is s r (store_long x s at))
      ∙ store_number_is p.types (x * size ts + x) (s ++ s) (both_at x x s s at at) in
      ap (number_from (x * product (map count (drop n p.types)))) number

  begun_store : (x : ℕ) (s : List ValueTree) → IsStore ts x s → IsStore p.types (begun p x) (s ++ s)
  begun_store x s at = subst (λ m. IsStore p.types m (s ++ s)) (sym (begun_is x s at)) (both_at x x s s at at)

  -- ---- where they end

  module _ (m : ℕ) (within : m < length (stores p.types)) where
    abbrev w : List ValueTree
    w = store_at p.types m

    parts : IsParted ts ts w
    parts = parted ts ts m w (subst (λ us. IsStore us m w) is.types (store_is p.types m (omega (arith, within, length-stores p.types))))

    back_is : drop n w ≡ parts.back
    back_is =
        ap (drop n) parts.whole ∙ ap (λ k. drop k (parts.front ++ parts.back)) (sym (store_long parts.first parts.front parts.of_first)) ∙ drop-append_seam parts.front parts.back

    values_are : target_values_at p m ≡ parts.back ++ parts.front
    values_are =
        let read : ℕ → ValueTree = λ slot. get_or w slot (Truth false) in
        let front_long = store_long parts.first parts.front parts.of_first in
        let back_long = store_long parts.second parts.back parts.of_second in
        let copies : map read (range_with_len n n) ≡ parts.back =
        (λ i. map (λ slot. get_or ((parts.whole ∙ ap (λ l. parts.front ++ l) (sym (append-nil parts.back))) i) slot (Truth false)) (range_with_len (sym front_long i) (sym back_long i)))
        ∙ reads parts.front parts.back [] in
        let finals : map read (range_with_len 0 n) ≡ parts.front =
        (λ i. map (λ slot. get_or (parts.whole i) slot (Truth false)) (range_with_len 0 (sym front_long i))) ∙ reads [] parts.front parts.back in
        ap (map read) is.slots ∙ map-append read (range_with_len n n) (range_with_len 0 n) ∙ (λ i. copies i ++ finals i)

    -- the initial store's number, and then that of the store behind
    number_is : (x : ℕ) → IsStore ts x parts.back → target_number p m ≡ x * size ts + parts.first
    number_is x at =
        let number : store_number (map (λ i. i.ty) p.target) (target_values_at p m) ≡ Some (x * size ts + parts.first) =
        (λ i. store_number (is.about i) (values_are i))
        ∙ store_number_is (ts ++ ts) (x * size ts + parts.first) (parts.back ++ parts.front) (both_stores ts ts x parts.first parts.back parts.front at parts.of_first) in
        ap (number_from 0) number

    front_below : parts.first < size ts
    front_below = omega (arith, slice_get_within (stores ts) parts.first parts.front parts.of_first, length-stores ts)

  -- the target value tells the initial store
  abbrev Tells : ℕ → Result ℕ Halted → Type 0
  Tells x (Ok m) = target_number p m / initial_count p ≡ x
  Tells x (Err h) = Unit {0}

  tells : (x : ℕ) (s : List ValueTree) (e : Result ℕ Halted) → IsStore ts x s → Same p.types n (begun p x) e → Tells x e
  tells x s (Err h) at kept = tt
  tells x s (Ok m) at kept =
      let begins : drop n (store_at p.types (begun p x)) ≡ s =
      ap (drop n) (store_of p.types (begun p x) (s ++ s) (begun_store x s at))
      ∙ ap (λ k. drop k (s ++ s)) (sym (store_long x s at)) ∙ drop-append_seam s s in
      let back : (parts m kept.0).back ≡ s = sym (back_is m kept.0) ∙ kept.1 ∙ begins in
      (λ i. number_is m kept.0 x (subst (IsStore ts x) (sym back) at) i / count_is i) ∙ div-mul-add x (size ts) (parts m kept.0).first (front_below m kept.0)

  module _ (turns : ℕ) where
    all_tell : (x : ℕ) → x < initial_count p → Each (λ r. Tells x r.end) (runs_from turns p x)
    all_tell x below =
        let s = store_at ts x in
        let at : IsStore ts x s = store_is ts x (omega (arith, below, count_is)) in
        let there = slice_get_within (stores p.types) (begun p x) (s ++ s) (begun_store x s at) in
        each_weaker (λ r. Same p.types n (begun p x) r.end) (λ r. Tells x r.end) (λ r kept. tells x s r.end at kept) (runs_from turns p x) (body_stays p turns is.checked (begun p x) there)

    module _ (prior : List ℕ) where
      abbrev given : ℕ → ℕ
      given = by_prior (initial_count p) prior

      fits : (x w' : ℕ) (e : Result ℕ Halted) → w' ≡ get_or prior x 0 → Tells x e → Fits (target_number p) (initial_count p) given w' e
      fits x w' (Ok m) same told = ap (λ y. get_or prior y 0 * initial_count p) told ∙ ap (λ v. v * initial_count p) (sym same)
      fits x w' (Err h) same told = tt

      all_fit : (ws : List ℕ) (x : ℕ) → x + length ws ≡ initial_count p → ((k : ℕ) → k < length ws → get_or ws k 0 ≡ get_or prior (x + k) 0) → AllFit turns p given x ws
      all_fit [] x long same = tt
      all_fit (v ∷ ws) x long same =
          let first : v ≡ get_or prior x 0 = same 0 (omega arith) ∙ (let zero_more : x + 0 ≡ x = omega arith in ap (λ y. get_or prior y 0) zero_more) in (
            each_weaker (λ r. Tells x r.end) (λ r. Fits (target_number p) (initial_count p) given v r.end) (λ r told. fits x v r.end first told) (runs_from turns p x) (all_tell x (omega (arith, long))),
            all_fit ws (x + 1) (omega (arith, long)) (λ k below. same (suc k) (omega (arith, below)) ∙ (let moved : x + suc k ≡ x + 1 + k = omega arith in ap (λ y. get_or prior y 0) moved)),
          )

      pub prior_fits : length prior ≡ initial_count p → AllFit turns p (by_prior (initial_count p) prior) 0 prior
      prior_fits long = all_fit prior 0 (omega (arith, long)) (λ k below. (let start : k ≡ 0 + k = omega arith in ap (λ y. get_or prior y 0) start))
