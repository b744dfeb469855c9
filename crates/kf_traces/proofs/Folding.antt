-- That the order in which weights are put on stores doesn't matter, and what becomes of those that are put in order.
use Rattle.std.proofs.Common.{◌≡◌, ℕ, zero, suc, ◌+◌, ◌^◌, ◌<◌, [], ◌∷◌, ◌++◌, length, get_or, set, refl, sym, ap, ◌∙◌, arith, ◌⊎◌, inl, inr, ⊎_elim}
use Rattle.std.specs.declared.cmp.Ordering.{Ordering}
use Rattle.std.specs.declared.cmp.Ordering.TheVariants.{Less, Equal, Greater}
use Rattle.std.specs.Ordering.{nat_cmp, match_ordering}
use Rattle.std.specs.Cmp.{nat_cmp_is}
use Rattle.std.specs.List.Sorted.{IsPermutation}
use Rattle.std.proofs.lemmas.Cmp.{ranked}
use Rattle.std.proofs.lemmas.List.Edits.{swap_is}
use Rattle.std.proofs.lemmas.List.Sorted.{IsPermutation-keeps}
use Rattle.std.proofs.lemmas.List.Sums.{sum_by-append, sum_by-cons}
use Rattle.kf_traces.specs.Laws.{sum_of}
use Rattle.kf_traces.specs.Traced.{Weights, with_weight}
use Rattle.kf_traces.specs.Folded.{folded}
use Rattle.kf_traces.proofs.Locating.{weight_sum}

-- ---- where a weight goes

abbrev at : ℕ → ℕ → ℕ × ℕ → Weights → Ordering → Weights
at n w e es r = match_ordering r ((n, w) ∷ e ∷ es) ((e.0, e.1 + w) ∷ es) (e ∷ with_weight es n w)

module _ (n w : ℕ) (e : ℕ × ℕ) (es : Weights) where
  pub ahead : n < e.0 → with_weight (e ∷ es) n w ≡ (n, w) ∷ e ∷ es
  ahead h = ap (at n w e es) (sym (nat_cmp_is n e.0 Less h))

  pub there : n ≡ e.0 → with_weight (e ∷ es) n w ≡ (e.0, e.1 + w) ∷ es
  there h = ap (at n w e es) (sym (nat_cmp_is n e.0 Equal h))

  pub past : e.0 < n → with_weight (e ∷ es) n w ≡ e ∷ with_weight es n w
  past h = ap (at n w e es) (sym (nat_cmp_is n e.0 Greater h))

orderings : (r : Ordering) → (r ≡ Less) ⊎ ((r ≡ Equal) ⊎ (r ≡ Greater))
orderings Less = inl refl
orderings Equal = inr (inl refl)
orderings Greater = inr (inr refl)

pub by_order : {P : Type 0} (n m : ℕ) → (n < m → P) → (n ≡ m → P) → (m < n → P) → P
by_order n m less same more =
    ⊎_elim (λ r. less (ranked n m Less (sym r))) (⊎_elim (λ r. same (ranked n m Equal (sym r))) (λ r. more (ranked n m Greater (sym r)))) (orderings (nat_cmp n m))

-- ---- two weights

module _ (n w v : ℕ) where
  pub both : (es : Weights) → with_weight (with_weight es n w) n v ≡ with_weight es n (w + v)
  both [] = there n v (n, w) [] refl
  both (e ∷ es) =
      by_order n e.0
      (λ h. ap (λ fs. with_weight fs n v) (ahead n w e es h) ∙ there n v (n, w) (e ∷ es) refl ∙ sym (ahead n (w + v) e es h))
      (λ h. ap (λ fs. with_weight fs n v) (there n w e es h) ∙ there n v (e.0, e.1 + w) es h ∙ ap (λ k. (e.0, k) ∷ es) (omega arith) ∙ sym (there n (w + v) e es h))
      (λ h. ap (λ fs. with_weight fs n v) (past n w e es h) ∙ past n v e (with_weight es n w) h ∙ ap (λ fs. e ∷ fs) (both es) ∙ sym (past n (w + v) e es h))

module _ (n w m v : ℕ) (low : n < m) where
  first_ahead : (e : ℕ × ℕ) (es : Weights) → n < e.0 → with_weight (with_weight (e ∷ es) m v) n w ≡ (n, w) ∷ with_weight (e ∷ es) m v
  first_ahead e es h =
      by_order m e.0
      (λ k. rw (ahead m v e es k) (ahead n w (m, v) (e ∷ es) low))
      (λ k. rw (there m v e es k) (ahead n w (e.0, e.1 + v) es h))
      (λ k. rw (past m v e es k) (ahead n w e (with_weight es m v) h))

  lower : (es : Weights) → with_weight (with_weight es n w) m v ≡ with_weight (with_weight es m v) n w
  lower [] = past m v (n, w) [] low ∙ sym (ahead n w (m, v) [] low)
  lower (e ∷ es) =
      by_order n e.0
      (λ h. ap (λ fs. with_weight fs m v) (ahead n w e es h) ∙ past m v (n, w) (e ∷ es) low ∙ sym (first_ahead e es h))
      (λ h. ap (λ fs. with_weight fs m v) (there n w e es h) ∙ past m v (e.0, e.1 + w) es (omega (arith, h, low)) ∙ sym (there n w e (with_weight es m v) h)
      ∙ ap (λ fs. with_weight fs n w) (sym (past m v e es (omega (arith, h, low)))))
      (λ h. ap (λ fs. with_weight fs m v) (past n w e es h) ∙ past m v e (with_weight es n w) (omega (arith, h, low)) ∙ ap (λ fs. e ∷ fs) (lower es) ∙ sym (past n w e (with_weight es m v) h)
      ∙ ap (λ fs. with_weight fs n w) (sym (past m v e es (omega (arith, h, low)))))

-- in either order they come to the same
pub commutes : (es : Weights) (n w m v : ℕ) → with_weight (with_weight es n w) m v ≡ with_weight (with_weight es m v) n w
commutes es n w m v =
    by_order n m
    (λ h. lower n w m v h es)
    (λ h. ap (λ k. with_weight (with_weight es n w) k v) (sym h) ∙ both n w v es ∙ ap (with_weight es n) (omega arith) ∙ sym (both n v w es) ∙ ap (λ k. with_weight (with_weight es k v) n w) h)
    (λ h. sym (lower m v n w h es))

-- ---- weights in another order

-- the first weight and a later one change places
first_later : (es : Weights) (x : ℕ × ℕ) (l : Weights) (j : ℕ) (d : ℕ × ℕ) → j < length l → folded es (get_or l j d ∷ set l j x) ≡ folded es (x ∷ l)
first_later es x [] j d within = absurd (omega arith)
first_later es x (y ∷ l) zero d within = ap (λ fs. folded fs l) (commutes es y.0 y.1 x.0 x.1)
first_later es x (z ∷ l) (suc j) d within =
    let y = get_or l j d in
    ap (λ fs. folded fs (set l j x)) (commutes es y.0 y.1 z.0 z.1) ∙ first_later (with_weight es z.0 z.1) x l j d (omega (arith, within)) ∙ ap (λ fs. folded fs l) (commutes es z.0 z.1 x.0 x.1)

exchanged : (es l : Weights) (i j : ℕ) (d : ℕ × ℕ) → i < length l → j < length l → folded es (set (set l i (get_or l j d)) j (get_or l i d)) ≡ folded es l
exchanged es [] i j d low high = absurd (omega arith)
exchanged es (x ∷ l) zero zero d low high = refl
exchanged es (x ∷ l) zero (suc j) d low high = first_later es x l j d (omega (arith, high))
exchanged es (x ∷ l) (suc i) zero d low high = first_later es x l i d (omega (arith, low))
exchanged es (x ∷ l) (suc i) (suc j) d low high = exchanged (with_weight es x.0 x.1) l i j d (omega (arith, low)) (omega (arith, high))

-- the order of weights doesn't matter
pub in_any_order : (ws sorted : Weights) → IsPermutation ws sorted → folded [] sorted ≡ folded [] ws
in_any_order ws sorted moved =
    IsPermutation-keeps ws (λ (l : Weights). folded [] l ≡ folded [] ws) refl
    (λ l i j low high is. ap (folded []) (sym (swap_is l i j (0, 0) low high)) ∙ exchanged [] l i j (0, 0) low high ∙ is) sorted moved

-- ---- weights that are put on again

-- a weight may come before all others, or after them
pub one_later : (es ws : Weights) (n w : ℕ) → folded (with_weight es n w) ws ≡ with_weight (folded es ws) n w
one_later es [] n w = refl
one_later es (f ∷ fs) n w = ap (λ gs. folded gs fs) (commutes es n w f.0 f.1) ∙ one_later (with_weight es f.0 f.1) fs n w

one_inside : (es ws : Weights) (n w : ℕ) → folded es (with_weight ws n w) ≡ with_weight (folded es ws) n w
one_inside es [] n w = refl
one_inside es (f ∷ fs) n w =
    by_order n f.0
    (λ h. ap (folded es) (ahead n w f fs h) ∙ one_later es (f ∷ fs) n w)
    (λ h. ap (folded es) (there n w f fs h) ∙ ap (λ gs. folded gs fs) (sym (both f.0 f.1 w es) ∙ ap (λ k. with_weight (with_weight es f.0 f.1) k w) (sym h)) ∙ one_later (with_weight es f.0 f.1) fs n w)
    (λ h. ap (folded es) (past n w f fs h) ∙ one_inside (with_weight es f.0 f.1) fs n w)

pub all_inside : (es ws vs : Weights) → folded es (folded ws vs) ≡ folded (folded es ws) vs
all_inside es ws [] = refl
all_inside es ws (f ∷ fs) = all_inside es (with_weight ws f.0 f.1) fs ∙ ap (λ gs. folded gs fs) (one_inside es ws f.0 f.1)

-- weights that are put on again come to the same
pub again : (ws now : Weights) → now ≡ folded [] ws → folded [] now ≡ folded [] ws
again ws now is = ap (folded []) is ∙ all_inside [] [] ws

-- one more weight
pub one_more : (es ws : Weights) (n w : ℕ) → folded es (ws ++ (n, w) ∷ []) ≡ with_weight (folded es ws) n w
one_more es [] n w = refl
one_more es (f ∷ fs) n w = one_more (with_weight es f.0 f.1) fs n w

-- ---- all weight together

pub folded_sum : (es ws : Weights) → sum_of (folded es ws) ≡ sum_of es + sum_of ws
folded_sum es [] = omega arith
folded_sum es (f ∷ fs) = omega (arith, folded_sum (with_weight es f.0 f.1) fs, weight_sum f.0 f.1 es, sum_by-cons (λ (e : ℕ × ℕ). e.1) f fs)

-- there was room for one more
pub room_left : (ws after es : Weights) (n w : ℕ) → folded [] ws ≡ es → after ≡ ws ++ (n, w) ∷ [] → sum_of es + w < 2 ^ 127 → sum_of after < 2 ^ 127
room_left ws after es n w same pushed within =
    let whole : sum_of (folded [] ws) ≡ sum_of es = ap sum_of same in
    let all : sum_of after ≡ sum_of (ws ++ (n, w) ∷ []) = ap sum_of pushed in
    let apart : sum_of (ws ++ (n, w) ∷ []) ≡ sum_of ws + sum_of ((n, w) ∷ []) = sum_by-append (λ (e : ℕ × ℕ). e.1) ws ((n, w) ∷ []) in
    omega (arith, whole, all, apart, folded_sum [] ws, sum_by-cons (λ (e : ℕ × ℕ). e.1) (n, w) [], within)
