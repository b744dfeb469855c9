-- Runs one after another: a run that stays changes nothing, and of three it is all one which two are joined first.
use Rattle.std.proofs.Common.{◌≡◌, ℕ, List, [], ◌∷◌, ◌++◌, map, Result, Ok, Err, refl, sym, ap, ◌∙◌, append_assoc, append-nil}
use Rattle.std.proofs.Math.Nat.{mul_assoc, one-mul}
use Rattle.std.proofs.lemmas.Grind.{flat_map-append}
use Rattle.std.proofs.lemmas.List.{map-append}
use Rattle.kf_core.specs.Runs.{Run, Halted, chain, joined, stay}
use Rattle.kf_core.specs.Each.{onward}
use Rattle.kf_push.proofs.Carrying.{Runner}

-- ---- a run that stays

still_joined : (n : ℕ) (qs : List Run) → map (joined (record { trace = []; end = Ok n; weight = 1; scale = 1 })) qs ≡ qs
still_joined n [] = refl
still_joined n (q ∷ qs) =
    let weights = one-mul q.weight in
    let scales = one-mul q.scale in
    let others = still_joined n qs in
    λ i. record { trace = q.trace; end = q.end; weight = weights i; scale = scales i } ∷ others i

pub stay_chain : (n : ℕ) (next : Runner) → chain (stay n) next ≡ next n
stay_chain n next = append-nil (map (joined (record { trace = []; end = Ok n; weight = 1; scale = 1 })) (next n)) ∙ still_joined n (next n)

-- ---- three of them

module _ (r : Run) where
  joined_through : (q : Run) (ps : List Run) → map (joined (joined r q)) ps ≡ map (joined r) (map (joined q) ps)
  joined_through q [] = refl
  joined_through q (p ∷ ps) =
      let traces = append_assoc r.trace q.trace p.trace in
      let weights = mul_assoc r.weight q.weight p.weight in
      let scales = mul_assoc r.scale q.scale p.scale in
      let others = joined_through q ps in
      λ i. record { trace = traces i; end = p.end; weight = weights i; scale = scales i } ∷ others i

  module _ (last : Runner) where
    onward_joined : (q : Run) (x : Result ℕ Halted) → onward last (joined r q) x ≡ map (joined r) (onward last q x)
    onward_joined q (Ok n) = joined_through q (last n)
    onward_joined q (Err f) = refl

    chain_joined : (qs : List Run) → chain (map (joined r) qs) last ≡ map (joined r) (chain qs last)
    chain_joined [] = refl
    chain_joined (q ∷ qs) =
        let first = onward_joined q q.end in
        let others = chain_joined qs in
        (λ i. first i ++ others i) ∙ sym (map-append (joined r) (onward last q q.end) (chain qs last))

module _ (next last : Runner) where
  onward_chain : (r : Run) (x : Result ℕ Halted) → r.end ≡ x → chain (onward next r x) last ≡ onward (λ n. chain (next n) last) r x
  onward_chain r (Ok n) is = chain_joined r last (next n)
  onward_chain r (Err f) is = append-nil (onward last r r.end) ∙ ap (onward last r) is

  pub chain_chain : (rs : List Run) → chain (chain rs next) last ≡ chain rs (λ n. chain (next n) last)
  chain_chain [] = refl
  chain_chain (r ∷ rs) =
      let first = onward_chain r r.end refl in
      let others = chain_chain rs in
      flat_map-append (λ q. onward last q q.end) (onward next r r.end) (chain rs next) ∙ (λ i. first i ++ others i)
