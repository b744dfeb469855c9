-- Weights on stores that never fall, those on the same store added up one after the other.
use Rattle.std.proofs.Common.{◌≡◌, ℕ, ◌+◌, ◌<◌, ◌≤◌, ◌==◌, zero, suc, [], ◌∷◌, ◌++◌, Bool, true, false, nat_lt, ltb-true, refl, sym, ◌∙◌, ap, subst, arith, eq-eqb, length, get_or, take, drop, drop-cons, if◌then◌else◌, ⊎_elim, append_assoc}
use Rattle.std.specs.List.{AllByRecursion as Each, AllAdjacentBelow, IsAllAdjacentAnswer}
use Rattle.std.specs.List.Sorted.{IsNonDecreasingBy}
use Rattle.std.proofs.lemmas.Bool.{cases_eq, ne_eqb}
use Rattle.std.proofs.lemmas.List.{take_more, get_or_default, drop_all}
use Rattle.std.proofs.lemmas.List.Sums.{sum_by-cons, sum_by-append}
use Rattle.kf_value.proofs.ListLemmas.{each_append, each_weaker}
use Rattle.kf_support.specs.Answers.{Ascend}
use Rattle.kf_traces.specs.Laws.{sum_of}
use Rattle.kf_traces.specs.Traced.{Weights, with_weight}
use Rattle.kf_traces.specs.Folded.{folded}
use Rattle.kf_traces.proofs.Folding.{past, there}

abbrev pub nothing : ℕ × ℕ
nothing = (0, 0)

-- the weights behind a first one, each added to the one before where it is on the same store
abbrev pub joined : ℕ × ℕ → Weights → Weights
joined first [] = first ∷ []
joined first (e ∷ es) = if e.0 == first.0 then joined (first.0, first.1 + e.1) es else first ∷ joined e es

-- what is done, and what the rest will be joined to
abbrev pub half_joined : ℕ → ℕ → Weights → Weights
half_joined last i es = take last es ++ joined (get_or es last nothing) (drop i es)

split : {P : Type 0} (e first : ℕ × ℕ) → (e.0 ≡ first.0 → P) → ((e.0 ≡ first.0 → ⊥) → P) → P
split e first same other = ⊎_elim same other (cases_eq e.0 first.0)

join_same : (first e : ℕ × ℕ) (es : Weights) → e.0 ≡ first.0 → joined first (e ∷ es) ≡ joined (first.0, first.1 + e.1) es
join_same first e es same = rw (eq-eqb e.0 first.0 same) refl

join_other : (first e : ℕ × ℕ) (es : Weights) → (e.0 ≡ first.0 → ⊥) → joined first (e ∷ es) ≡ first ∷ joined e es
join_other first e es other = rw (ne_eqb e.0 first.0 other) refl

-- ---- all weight together

joined_sum : (first : ℕ × ℕ) (es : Weights) → sum_of (joined first es) ≡ sum_of (first ∷ es)
joined_sum first [] = refl
joined_sum first (e ∷ es) =
    let one = sum_by-cons (λ (e : ℕ × ℕ). e.1) first (e ∷ es) in
    let two = sum_by-cons (λ (e : ℕ × ℕ). e.1) e es in
    split e first
    (λ same. let sum : sum_of (joined first (e ∷ es)) ≡ sum_of (joined (first.0, first.1 + e.1) es) = ap sum_of (join_same first e es same) in
    omega (arith, sum, joined_sum (first.0, first.1 + e.1) es, sum_by-cons (λ (e : ℕ × ℕ). e.1) (first.0, first.1 + e.1) es, one, two))
    (λ other. let sum : sum_of (joined first (e ∷ es)) ≡ sum_of (first ∷ joined e es) = ap sum_of (join_other first e es other) in
    omega (arith, sum, joined_sum e es, sum_by-cons (λ (e : ℕ × ℕ). e.1) first (joined e es), one))

module _ (start es : Weights) (last i : ℕ) (some : 0 < length start) (all : half_joined last i es ≡ half_joined 0 1 start) where
  half_sum : sum_of (half_joined 0 1 start) ≡ sum_of start
  half_sum = by start some
    where
      by : (start : Weights) → 0 < length start → sum_of (half_joined 0 1 start) ≡ sum_of start
      by [] some = absurd (omega (arith, some))
      by (first ∷ rest) some = joined_sum first rest

  -- the next weight fits where all do
  pub pair_fits : (first e : ℕ × ℕ) → first ≡ get_or es last first → e ≡ get_or es i e → last < i → i < length es → first.1 + e.1 ≤ sum_of start
  pair_fits first e first_is e_is before within =
      let apart : sum_of (half_joined last i es) ≡ sum_of (take last es) + sum_of (joined (get_or es last nothing) (drop i es)) = sum_by-append (λ (e : ℕ × ℕ). e.1) (take last es) (joined (get_or es last nothing) (drop i es)) in
      let front : sum_of (joined (get_or es last nothing) (drop i es)) ≡ sum_of (get_or es last nothing ∷ drop i es) = joined_sum (get_or es last nothing) (drop i es) in
      let one = sum_by-cons (λ (e : ℕ × ℕ). e.1) (get_or es last nothing) (drop i es) in
      let head : sum_of (drop i es) ≡ sum_of (e ∷ drop (suc i) es) = ap sum_of (drop-cons es i e within) ∙ ap (λ (e : ℕ × ℕ). sum_of (e ∷ drop (suc i) es)) (sym e_is) in
      let two = sum_by-cons (λ (e : ℕ × ℕ). e.1) e (drop (suc i) es) in
      let same : first ≡ get_or es last nothing = first_is ∙ get_or_default es last first nothing (omega (arith, before, within)) in
      omega (arith, apart, front, one, head, two, ap (λ (e : ℕ × ℕ). e.1) same, ap sum_of all, half_sum)

-- ---- stores that never fall

abbrev pub Climb : Weights → Type 0
Climb [] = Unit {0}
Climb (e ∷ es) = Each (λ f. e.0 ≤ f.0) es × Climb es

first_least : (x : ℕ × ℕ) (es : Weights) → ((j : ℕ) (d : ℕ × ℕ) → j < length es → x.0 ≤ (get_or es j d).0) → Each (λ e. x.0 ≤ e.0) es
first_least x [] h = tt
first_least x (e ∷ es) h = (h 0 e (omega arith), first_least x es (λ j d within. h (suc j) d (omega (arith, within))))

climbs : (es : Weights) → IsNonDecreasingBy (λ e. e.0) es → Climb es
climbs [] h = tt
climbs (e ∷ es) h = (
  first_least e es (λ j d within. h 0 (suc j) d (omega arith) (omega (arith, within))),
  climbs es (λ i j d le within. h (suc i) (suc j) d (omega (arith, le)) (omega (arith, within))),
)

-- a weight passes the stores before its own
weight_past : (n w : ℕ) (front rest : Weights) → Each (λ e. e.0 < n) front → with_weight (front ++ rest) n w ≡ front ++ with_weight rest n w
weight_past n w [] rest h = refl
weight_past n w (e ∷ es) rest h = past n w e (es ++ rest) h.0 ∙ ap (λ fs. e ∷ fs) (weight_past n w es rest h.1)

-- where stores never fall, joined neighbours are all weights, put on their stores
joined_behind : (front : Weights) (first : ℕ × ℕ) (es : Weights) → Each (λ e. e.0 < first.0) front → Climb (first ∷ es) → folded (front ++ first ∷ []) es ≡ front ++ joined first es
joined_behind front first [] low up = refl
joined_behind front first (e ∷ es) low up =
    split e first
    (λ same. ap (λ fs. folded fs es) (weight_past e.0 e.1 front (first ∷ []) (subst (λ (k : ℕ). Each (λ (e : ℕ × ℕ). e.0 < k) front) (sym same) low) ∙ ap (λ fs. front ++ fs) (there e.0 e.1 first [] same))
    ∙ joined_behind front (first.0, first.1 + e.1) es low (up.0.1, up.1.1)
    ∙ ap (λ fs. front ++ fs) (sym (join_same first e es same)))
    (λ other. let over : first.0 < e.0 = let from = up.0.0 in omega (arith, from, other) in
    let below : Each (λ (f : ℕ × ℕ). f.0 < e.0) front = each_weaker (λ (f : ℕ × ℕ). f.0 < first.0) (λ (f : ℕ × ℕ). f.0 < e.0) (λ f h. omega (arith, h, over)) front low in
    ap (λ fs. folded fs es) (weight_past e.0 e.1 front (first ∷ []) below ∙ ap (λ fs. front ++ fs) (past e.0 e.1 first [] over) ∙ sym (append_assoc front (first ∷ []) (e ∷ [])))
    ∙ joined_behind (front ++ first ∷ []) e es (each_append (λ (f : ℕ × ℕ). f.0 < e.0) front (first ∷ []) below (over, tt)) up.1
    ∙ append_assoc front (first ∷ []) (joined e es)
    ∙ ap (λ fs. front ++ fs) (sym (join_other first e es other)))

pub joined_is : (first : ℕ × ℕ) (es : Weights) → Climb (first ∷ es) → joined first es ≡ folded [] (first ∷ es)
joined_is first es up = sym (joined_behind [] first es tt up)

-- ---- stores that ascend

ascend_climb : (es : Weights) → Ascend es → Climb es
ascend_climb [] up = tt
ascend_climb (e ∷ es) up = (each_weaker (λ (f : ℕ × ℕ). e.0 < f.0) (λ (f : ℕ × ℕ). e.0 ≤ f.0) (λ f h. omega (arith, h)) es up.0, ascend_climb es up.1)

joined_none : (first : ℕ × ℕ) (es : Weights) → Ascend (first ∷ es) → joined first es ≡ first ∷ es
joined_none first [] up = refl
joined_none first (e ∷ es) up = join_other first e es (λ same. let low = up.0.0 in omega (arith, low, same)) ∙ ap (λ fs. first ∷ fs) (joined_none e es up.1)

pub ascending : (es : Weights) → Ascend es → folded [] es ≡ es
ascending [] up = refl
ascending (first ∷ es) up = sym (joined_is first es (ascend_climb (first ∷ es) up)) ∙ joined_none first es up

pub adjacent_ascend : (es : Weights) (r : Bool) → IsAllAdjacentAnswer (λ (x y : ℕ × ℕ) (b : Bool). b ≡ nat_lt x.0 y.0) es r → r ≡ true → Ascend es
adjacent_ascend es false h is = absurd (cc)
adjacent_ascend es true h is = from es h
  where
    later : (e f : ℕ × ℕ) (es : Weights) (k : ℕ) (d : ℕ × ℕ) → true ≡ nat_lt (get_or (e ∷ f ∷ es) (suc k) d).0 (get_or (e ∷ f ∷ es) (suc k + 1) d).0
        → true ≡ nat_lt (get_or (f ∷ es) k d).0 (get_or (f ∷ es) (k + 1) d).0
    later e f es k d h =
        let at : suc k + 1 ≡ suc (k + 1) = omega arith in
        subst (λ j. true ≡ nat_lt (get_or (e ∷ f ∷ es) (suc k) d).0 (get_or (e ∷ f ∷ es) j d).0) at h

    from : (es : Weights) → AllAdjacentBelow (λ (x y : ℕ × ℕ). true ≡ nat_lt x.0 y.0) es (length es) → Ascend es
    from [] h = tt
    from (e ∷ []) h = (tt, tt)
    from (e ∷ f ∷ es) h =
        let low : e.0 < f.0 = ltb-true e.0 f.0 (sym (h 0 e (omega arith))) in
        let rest = from (f ∷ es) (λ k d within. later e f es k d (h (suc k) d (omega (arith, within)))) in
        ((low, each_weaker (λ (g : ℕ × ℕ). f.0 < g.0) (λ (g : ℕ × ℕ). e.0 < g.0) (λ g q. omega (arith, low, q)) es rest.0), rest)

-- ---- where nothing is left

all_joined : (last i : ℕ) (es : Weights) → last < length es → length es ≤ i → half_joined last i es ≡ take (last + 1) es
all_joined last i es within past = ap (λ (l : Weights). take last es ++ joined (get_or es last nothing) l) (drop_all i es past) ∙ sym (take_more es last nothing within)

no_more : (n : ℕ) (es : Weights) → length es ≡ 0 → take n es ≡ []
no_more zero [] none = refl
no_more (suc n) [] none = refl
no_more n (e ∷ es) none = absurd (omega (arith, none))

pub added_up : (start es : Weights) (last i : ℕ) → length es ≡ length start → (0 < length start → last < length es) → length es ≤ i → half_joined last i es ≡ half_joined 0 1 start → IsNonDecreasingBy (λ e. e.0) start
    → take (last + 1) es ≡ folded [] start
added_up [] es last i long within past all up = no_more (last + 1) es long
added_up (first ∷ rest) es last i long within past all up = sym (all_joined last i es (within (omega arith)) past) ∙ all ∙ joined_is first rest (climbs (first ∷ rest) up)
