-- The statements of a checked program leave the carried copies as they are.
use Rattle.std.proofs.Common.{◌≡◌, ℕ, zero, suc, ◌<◌, Bool, true, false, List, [], length, map, take, drop, Option, Some, None, Result, Ok, Err, refl, sym, ap, ◌∙◌, arith}
use Rattle.std.specs.Prelude.{if◌then◌else◌}
use Rattle.std.specs.List.{AllByRecursion as Each}
use Rattle.std.specs.Cmp.Lexicographic.{pointwise}
use Rattle.std.proofs.lemmas.List.{drop-set-lt, length-map, length-take}
use Rattle.std.proofs.lemmas.List.Quantifiers.{position-Some}
use Rattle.std.proofs.lemmas.Option.{slice_get_within}
use Rattle.kf_value.specs.Types.{TypeTree}
use Rattle.kf_value.specs.Kinds.{kind_of}
use Rattle.kf_value.specs.Values.{ValueTree, truth, is_equal}
use Rattle.kf_value.specs.Stores.{stores}
use Rattle.kf_value.proofs.ListLemmas.{each_any, each_flat_map, each_map, each_weaker}
use Rattle.kf_core.specs.Checked.{IsChecked, IsSound, AreSound, declared_kinds, skip, assign, observe, if_else, while, none, more}
use Rattle.kf_core.specs.Choices.{total}
use Rattle.kf_core.specs.Dxs.{DxTree}
use Rattle.kf_core.specs.Programs.{ProgramTree}
use Rattle.kf_core.specs.Sts.{StTree, sts}
use Rattle.kf_core.specs.Runs.{Run, Halted, Tried, LoopBound, store_at, store_number, replaced, tried, place, joined, chain, choice_run, branched, stay, stopped, leaks, assigned, guarded, looped, runs, all_runs}
use Rattle.kf_core.proofs.Stores.{lists_decide}
use Rattle.kf_core.specs.Each.{moved, onward}
use Rattle.kf_core.specs.Leaks.{shown}

-- what has a number is the store with that number
pub numbered : (ts : List TypeTree) (s : List ValueTree) (m : ℕ) → store_number ts s ≡ Some m → (m < length (stores ts)) × (store_at ts m ≡ s)
numbered ts s m is =
    let found = position-Some (pointwise is_equal s) (stores ts) m [] is in
    (found.0, sym ((lists_decide s (store_at ts m)).0 found.1))

module _ (ts : List TypeTree) (k : ℕ) where
  -- a store, with the same values from place k on
  abbrev pub Same : ℕ → Result ℕ Halted → Type 0
  Same n (Ok m) = (m < length (stores ts)) × (drop k (store_at ts m) ≡ drop k (store_at ts n))
  Same n (Err f) = Unit {0}

  abbrev pub Stays : ℕ → List Run → Type 0
  Stays n rs = Each (λ r. Same n r.end) rs

  -- from each store
  abbrev pub AllStay : (ℕ → List Run) → Type 0
  AllStay from = (n : ℕ) → n < length (stores ts) → Stays n (from n)

  same_more : (m n : ℕ) (e : Result ℕ Halted) → drop k (store_at ts m) ≡ drop k (store_at ts n) → Same m e → Same n e
  same_more m n (Ok l) same h = (h.0, h.1 ∙ same)
  same_more m n (Err f) same h = tt

  joined_stays : (n : ℕ) (r : Run) (qs : List Run) → Stays n qs → Stays n (map (joined r) qs)
  joined_stays n r qs h = each_map (λ q. Same n q.end) (joined r) qs h

  module _ (next : ℕ → List Run) (all : AllStay next) where
    onward_stays : (n : ℕ) (r : Run) (x : Result ℕ Halted) → Same n x → Same n r.end → Stays n (onward next r x)
    onward_stays n r (Ok m) h own = joined_stays n r (next m) (each_weaker (λ q. Same m q.end) (λ q. Same n q.end) (λ q. same_more m n q.end h.1) (next m) (all m h.0))
    onward_stays n r (Err f) h own = (own, tt)

    chain_stays : (n : ℕ) (rs : List Run) → Stays n rs → Stays n (chain rs next)
    chain_stays n rs h =
        each_flat_map (λ r. Same n r.end) (λ r. onward next r r.end) rs
        (each_weaker (λ r. Same n r.end) (λ r. Stays n (onward next r r.end)) (λ r s. onward_stays n r r.end s s) rs h)

  branched_stays : (leak : ValueTree → List ValueTree) (n : ℕ) (next : ValueTree → List Run) → ((v : ValueTree) → Stays n (next v)) → (g : Tried) → Stays n (branched leak n next g)
  branched_stays leak n next all (Ok ws) =
      each_flat_map (λ r. Same n r.end) (λ u. map (joined (choice_run leak n (total ws) u)) (next u.value)) ws
      (each_any (λ u. Stays n (map (joined (choice_run leak n (total ws) u)) (next u.value))) (λ u. joined_stays n (choice_run leak n (total ws) u) (next u.value) (all u.value)) ws)
  branched_stays leak n next all (Err f) = (tt, tt)

  stay_stays : AllStay stay
  stay_stays n within = ((within, refl), tt)

  side_stays : (b : Bool) (n : ℕ) (xs ys : List Run) → Stays n xs → Stays n ys → Stays n (if b then xs else ys)
  side_stays true n xs ys h g = h
  side_stays false n xs ys h g = g

  module _ (guard : ℕ → Tried) where
    guarded_stays : (taken left : ℕ → List Run) → AllStay taken → AllStay left → AllStay (guarded guard taken left)
    guarded_stays taken left h g n within =
        branched_stays shown n (λ v. if truth v then taken n else left n) (λ v. side_stays (truth v) n (taken n) (left n) (h n within) (g n within)) (guard n)

    looped_stays : (turns at : ℕ) (body : ℕ → List Run) → AllStay body → AllStay (looped turns guard at body)
    looped_stays zero at body h = guarded_stays (λ m. stopped LoopBound at) stay (λ m within. (tt, tt)) stay_stays
    looped_stays (suc j) at body h =
        guarded_stays (λ m. chain (body m) (looped j guard at body)) stay
        (λ m within. chain_stays (looped j guard at body) (looped_stays j at body h) m (body m) (h m within)) stay_stays

  -- an assignment to a variable before place k
  moved_stays : (at i : ℕ) (v : ValueTree) (n : ℕ) (x : Option ℕ) → i < k → replaced ts i v n ≡ x → Stays n (moved at x)
  moved_stays at i v n (Some m) below is =
      let found = numbered ts _ m is in
      ((found.0, ap (drop k) found.1 ∙ drop-set-lt k (store_at ts n) i v below), tt)
  moved_stays at i v n None below is = (tt, tt)

  assigned_stays : (leak : ValueTree → List ValueTree) (i : ℕ) (d : DxTree) → i < k → AllStay (assigned leak ts i d)
  assigned_stays leak i d below n within =
      branched_stays leak n (λ v. moved (place d) (replaced ts i v n)) (λ v. moved_stays (place d) i v n (replaced ts i v n) below refl) (tried ts d n)

module _ (p : ProgramTree) (turns : ℕ) where
  abbrev declared_ones : ℕ
  declared_ones = length p.decls

  below_declared : (i : ℕ) → i < length (declared_kinds p) → i < declared_ones
  below_declared i within =
      omega (arith, within, length-map (take declared_ones p.types) kind_of, length-take declared_ones p.types)

  mutual
    stays : {x : StTree} → IsSound (declared_kinds p) x → AllStay p.types declared_ones (runs p.types turns x)
    stays skip = stay_stays p.types declared_ones
    stays (assign slot {d} {shown = visible} at kinded) =
        assigned_stays p.types declared_ones (leaks visible) slot d (below_declared slot (slice_get_within (declared_kinds p) slot _ at))
    stays (observe {d} kinded) = λ n within. branched_stays p.types declared_ones shown n (λ v. stay n) (λ v. stay_stays p.types declared_ones n within) (tried p.types d n)
    stays (if_else {d} {xs} {ys} kinded one other) =
        guarded_stays p.types declared_ones (tried p.types d) (all_runs p.types turns (sts xs)) (all_runs p.types turns (sts ys)) (all_stay one) (all_stay other)
    stays (while {d} {xs} kinded body) = looped_stays p.types declared_ones (tried p.types d) turns (place d) (all_runs p.types turns (sts xs)) (all_stay body)

    all_stay : {xs : List StTree} → AreSound (declared_kinds p) xs → AllStay p.types declared_ones (all_runs p.types turns (sts xs))
    all_stay none = stay_stays p.types declared_ones
    all_stay (more {x} {xs} one others) =
        λ n within. chain_stays p.types declared_ones (all_runs p.types turns (sts xs)) (all_stay others) n (runs p.types turns x n) (stays one n within)

  -- the statements keep the values of all copies
  pub body_stays : IsChecked p → AllStay p.types declared_ones (all_runs p.types turns (sts p.body))
  body_stays checked = all_stay checked.sound
