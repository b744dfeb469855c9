-- Runs whose stores are numbered anew where they end: it is all that runs which stay at the new number add.
use Rattle.std.proofs.Common.{◌≡◌, ℕ, List, [], ◌∷◌, ◌++◌, map, Result, Ok, Err, refl, sym, ap, ◌∙◌, append-nil}
use Rattle.std.specs.List.{AllByRecursion as Each}
use Rattle.std.specs.Int.{◌∣◌}
use Rattle.std.proofs.Math.Nat.{mul-one}
use Rattle.std.proofs.lemmas.List.{map-append}
use Rattle.kf_value.proofs.ListLemmas.{each_map}
use Rattle.kf_core.specs.Joint.{cell_of, cells}
use Rattle.kf_core.specs.Runs.{Run, Halted, joined, chain, stay}
use Rattle.kf_core.specs.Each.{onward}

abbrev pub renamed_end : (ℕ → ℕ) → Result ℕ Halted → Result ℕ Halted
renamed_end f (Ok n) = Ok (f n)
renamed_end f (Err e) = Err e

-- the run with the store in which it ends numbered anew
abbrev pub renamed : (ℕ → ℕ) → Run → Run
renamed f r = record { trace = r.trace; end = renamed_end f r.end; weight = r.weight; scale = r.scale }

module _ (f : ℕ → ℕ) where
  stayed : (r : Run) (x : Result ℕ Halted) → r.end ≡ x → onward (λ m. stay (f m)) r x ≡ renamed f r ∷ []
  stayed r (Ok n) is =
      let traces = append-nil r.trace in
      let ends = ap (renamed_end f) (sym is) in
      let weights = mul-one r.weight in
      let scales = mul-one r.scale in
      λ i. record { trace = traces i; end = ends i; weight = weights i; scale = scales i } ∷ []
  stayed r (Err e) is = let ends = is ∙ ap (renamed_end f) (sym is) in λ i. record { trace = r.trace; end = ends i; weight = r.weight; scale = r.scale } ∷ []

  pub chain_stays : (rs : List Run) → chain rs (λ m. stay (f m)) ≡ map (renamed f) rs
  chain_stays [] = refl
  chain_stays (r ∷ rs) = let head = stayed r r.end refl in let tail = chain_stays rs in λ i. head i ++ tail i

  -- what goes on from new numbers goes on from the old ones, read anew
  module _ (next : ℕ → List Run) where
    onward_renamed : (r : Run) (x : Result ℕ Halted) → r.end ≡ x → onward next (renamed f r) (renamed_end f x) ≡ onward (λ m. next (f m)) r x
    onward_renamed r (Ok n) is = refl
    onward_renamed r (Err e) is =
        let ends = ap (renamed_end f) is ∙ sym is in λ i. record { trace = r.trace; end = ends i; weight = r.weight; scale = r.scale } ∷ []

    pub chain_renamed : (rs : List Run) → chain (map (renamed f) rs) next ≡ chain rs (λ m. next (f m))
    chain_renamed [] = refl
    chain_renamed (r ∷ rs) = let head = onward_renamed r r.end refl in let tail = chain_renamed rs in λ i. head i ++ tail i

    map_joined : (r : Run) (qs : List Run) → map (renamed f) (map (joined r) qs) ≡ map (joined r) (map (renamed f) qs)
    map_joined r [] = refl
    map_joined r (q ∷ qs) = ap (λ ps. renamed f (joined r q) ∷ ps) (map_joined r qs)

    renamed_onward : (r : Run) (x : Result ℕ Halted) → r.end ≡ x → map (renamed f) (onward next r x) ≡ onward (λ m. map (renamed f) (next m)) r x
    renamed_onward r (Ok n) is = map_joined r (next n)
    renamed_onward r (Err e) is =
        let ends = ap (renamed_end f) is ∙ sym is in λ i. record { trace = r.trace; end = ends i; weight = r.weight; scale = r.scale } ∷ []

    -- what ends behind both is numbered anew behind the second
    pub renamed_chain : (rs : List Run) → map (renamed f) (chain rs next) ≡ chain rs (λ m. map (renamed f) (next m))
    renamed_chain [] = refl
    renamed_chain (r ∷ rs) =
        let head = renamed_onward r r.end refl in
        let tail = renamed_chain rs in
        map-append (renamed f) (onward next r r.end) (chain rs next) ∙ (λ i. head i ++ tail i)

  module _ (whole : ℕ) where
    one_cell : (r : Run) (x : Result ℕ Halted) → r.end ≡ x → cell_of (λ n. n) whole (renamed f r) ≡ cell_of f whole r
    one_cell r (Ok n) is = rw is refl
    one_cell r (Err e) is = rw is refl

    -- their cells are those that name each store anew
    pub cells_renamed : (rs : List Run) → cells (λ n. n) whole (map (renamed f) rs) ≡ cells f whole rs
    cells_renamed [] = refl
    cells_renamed (r ∷ rs) = let head = one_cell r r.end refl in let tail = cells_renamed rs in λ i. head i ++ tail i

    pub renamed_divide : (rs : List Run) → Each (λ r. r.scale ∣ whole) rs → Each (λ r. r.scale ∣ whole) (map (renamed f) rs)
    renamed_divide rs h = each_map (λ r. r.scale ∣ whole) (renamed f) rs h

-- where each keeps its number nothing changes
same_run : (r : Run) (x : Result ℕ Halted) → r.end ≡ x → renamed (λ n. n) r ≡ r
same_run r (Ok n) is = let ends = ap (renamed_end (λ n. n)) is ∙ sym is in λ i. record { trace = r.trace; end = ends i; weight = r.weight; scale = r.scale }
same_run r (Err e) is = let ends = ap (renamed_end (λ n. n)) is ∙ sym is in λ i. record { trace = r.trace; end = ends i; weight = r.weight; scale = r.scale }

same_runs : (rs : List Run) → map (renamed (λ n. n)) rs ≡ rs
same_runs [] = refl
same_runs (r ∷ rs) = let head = same_run r r.end refl in let tail = same_runs rs in λ i. head i ∷ tail i

-- nothing happens behind the runs
pub chain_same : (rs : List Run) → chain rs stay ≡ rs
chain_same rs = chain_stays (λ n. n) rs ∙ same_runs rs
