-- The runs of a block and then another are the runs of the first, each gone on by those of the second.
use Rattle.std.proofs.Common.{◌≡◌, ℕ, List, [], ◌∷◌, ◌++◌, map, Ok, Err, refl, sym, ap, ◌∙◌, append_assoc, append-nil}
use Rattle.std.proofs.Math.Nat.{mul_assoc, one-mul}
use Rattle.std.proofs.lemmas.Grind.{flat_map-append}
use Rattle.std.proofs.lemmas.List.{map-append}
use Rattle.kf_core.specs.Sts.{sts}
use Rattle.kf_core.specs.Runs.{Run, joined, chain, stay, runs, all_runs}
use Rattle.kf_core.specs.SupportLaws.{RunsChain}
use Rattle.kf_core.proofs.RunEnds.{End}
use Rattle.kf_core.specs.Each.{onward}

-- ---- one run and another

joined_joined : (r q p : Run) → joined (joined r q) p ≡ joined r (joined q p)
joined_joined r q p =
    let traces = append_assoc r.trace q.trace p.trace in
    let weights = mul_assoc r.weight q.weight p.weight in
    let scales = mul_assoc r.scale q.scale p.scale in
    λ i. record { trace = traces i; end = p.end; weight = weights i; scale = scales i }

-- the run that stays
abbrev still : ℕ → Run
still n = record { trace = []; end = Ok n; weight = 1; scale = 1 }

still_joined : (n : ℕ) (q : Run) → joined (still n) q ≡ q
still_joined n q =
    let weights = one-mul q.weight in
    let scales = one-mul q.scale in
    λ i. record { trace = q.trace; end = q.end; weight = weights i; scale = scales i }

map_joined : (r q : Run) (ps : List Run) → map (joined (joined r q)) ps ≡ map (joined r) (map (joined q) ps)
map_joined r q [] = refl
map_joined r q (p ∷ ps) = let head = joined_joined r q p in let tail = map_joined r q ps in λ i. head i ∷ tail i

map_still : (n : ℕ) (qs : List Run) → map (joined (still n)) qs ≡ qs
map_still n [] = refl
map_still n (q ∷ qs) = let head = still_joined n q in let tail = map_still n qs in λ i. head i ∷ tail i

-- ---- chains

chain_stay : (n : ℕ) (next : ℕ → List Run) → chain (stay n) next ≡ next n
chain_stay n next = append-nil (map (joined (still n)) (next n)) ∙ map_still n (next n)

module _ (g : ℕ → List Run) where
  onward_joined : (r q : Run) (x : End) → onward g (joined r q) x ≡ map (joined r) (onward g q x)
  onward_joined r q (Ok n) = map_joined r q (g n)
  onward_joined r q (Err f) = refl

  chain_joined : (r : Run) (qs : List Run) → chain (map (joined r) qs) g ≡ map (joined r) (chain qs g)
  chain_joined r [] = refl
  chain_joined r (q ∷ qs) =
      let head = onward_joined r q q.end in
      let tail = chain_joined r qs in
      (λ i. head i ++ tail i) ∙ sym (map-append (joined r) (onward g q q.end) (chain qs g))

  chain_append : (rs qs : List Run) → chain (rs ++ qs) g ≡ chain rs g ++ chain qs g
  chain_append rs qs = flat_map-append (λ r. onward g r r.end) rs qs

  module _ (f : ℕ → List Run) where
    onward_chain : (r : Run) (x : End) → r.end ≡ x → chain (onward f r x) g ≡ onward (λ n. chain (f n) g) r x
    onward_chain r (Ok n) is = chain_joined r (f n)
    onward_chain r (Err e) is = append-nil (onward g r r.end) ∙ ap (onward g r) is

    pub chain_chain : (rs : List Run) → chain (chain rs f) g ≡ chain rs (λ n. chain (f n) g)
    chain_chain [] = refl
    chain_chain (r ∷ rs) =
        let head = onward_chain r r.end refl in
        let tail = chain_chain rs in
        chain_append (onward f r r.end) (chain rs f) ∙ (λ i. head i ++ tail i)

pub runs_chain : RunsChain
runs_chain ts turns [] ys n = sym (chain_stay n (all_runs ts turns (sts ys)))
runs_chain ts turns (x ∷ xs) ys n =
    (λ i. chain (runs ts turns x n) (λ m. runs_chain ts turns xs ys m i))
    ∙ sym (chain_chain (all_runs ts turns (sts ys)) (all_runs ts turns (sts xs)) (runs ts turns x n))
