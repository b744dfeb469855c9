-- Measures of weight on stores.
use Rattle.std.proofs.Common.{◌≡◌, ℕ, ◌+◌, [], ◌∷◌, refl, sym, ap, subst, arith}
use Rattle.std.specs.Ordering.{nat_cmp, match_ordering}
use Rattle.std.specs.declared.cmp.Ordering.{Ordering}
use Rattle.std.specs.declared.cmp.Ordering.TheVariants.{Less, Equal, Greater}
use Rattle.std.specs.List.{AllByRecursion as Each}
use Rattle.std.proofs.lemmas.Cmp.{ranked}
use Rattle.kf_core.proofs.Measures.{Measure}
use Rattle.kf_core.proofs.Sums.{adds}
use Rattle.kf_traces.specs.Traced.{Weights, with_weight}

abbrev pub Within : Measure → Weights → Type 0
Within M es = Each (λ e. M.holds e.0 e.1) es

abbrev pub measure : Measure → Weights → ℕ
measure M es = adds (λ e. M.value e.0 e.1) es

-- ---- more weight on a store

module _ (M : Measure) (n w : ℕ) (h : M.holds n w) where
  abbrev pub Grown : Weights → Weights → Type 0
  Grown es fs = Within M fs × (measure M fs ≡ measure M es + M.value n w)

  grown_at : (e : ℕ × ℕ) (es : Weights) (r : Ordering) → r ≡ nat_cmp n e.0 → Within M (e ∷ es) → Grown es (with_weight es n w)
      → Grown (e ∷ es) (match_ordering r ((n, w) ∷ e ∷ es) ((e.0, e.1 + w) ∷ es) (e ∷ with_weight es n w))
  grown_at e es Less is within later = ((h, within), omega arith)
  grown_at e es Equal is within later =
      let same : n ≡ e.0 = ranked n e.0 Equal is in
      let there : M.holds e.0 w = subst (λ (m : ℕ). M.holds m w) same h in
      let one : M.value e.0 (e.1 + w) ≡ M.value e.0 e.1 + M.value e.0 w = M.linear e.0 e.1 w within.0 there in
      let two : M.value e.0 w ≡ M.value n w = ap (λ m. M.value m w) (sym same) in
      ((M.closed e.0 e.1 w within.0 there, within.1), omega (arith, one, two))
  grown_at e es Greater is within later = ((within.0, later.0), omega (arith, later.1))

  pub grown : (es : Weights) → Within M es → Grown es (with_weight es n w)
  grown [] within = ((h, tt), omega arith)
  grown (e ∷ es) within = grown_at e es (nat_cmp n e.0) refl within (grown es within.1)
