-- Two hypers have a list of kept values.
use Rattle.std.proofs.Common.{◌≡◌, ℕ, zero, suc, ◌+◌, ◌-◌, ◌*◌, ◌/◌, ◌<◌, ◌≤◌, refl, sym, ap, ◌∙◌, subst, arith, ⊎_elim, inl, inr, List, [], ◌∷◌, All, if◌then◌else◌}
use Rattle.std.specs.Prelude.{nat_lt}
use Rattle.std.proofs.lemmas.Bool.{cases_lt, cases_eq, le-ltb}
use Rattle.std.proofs.lemmas.List.{get_or_past}
use Rattle.std.proofs.lemmas.List.Elements.{All-head, All-tail}
use Rattle.std.proofs.lemmas.List.Sums.{sum_by-cons}
use Rattle.kf_value.specs.Numbers.{target_size}
use Rattle.kf_column.specs.declared.entry.Entry.{Entry}
use Rattle.kf_column.specs.Columns.{weight_at, total}
use Rattle.kf_column.specs.Hypers.{Inner}
use Rattle.kf_column.specs.Averages.{joint_weight, average_weight}
use Rattle.kf_column.specs.Shapes.{IsBelow}
use Rattle.kf_column.proofs.AtMostOne.{In}
use Rattle.kf_hyper.proofs.Rising.{Rises, increasing, rises_less}
use Rattle.kf_column.proofs.Weights.{weight_at_other}
use Rattle.kf_refine.specs.Refinements.{HyperTree, count, joint}
use Rattle.kf_refine.specs.Equations.{HasWeight, weight_in, InRatio, AreKept}
use Rattle.kf_refine.specs.Views.{IsProper}
use Rattle.kf_refine.proofs.OneSystem.{in_list, has_member}
use Rattle.kf_refine.proofs.SomeTargets.{Decided, decided_by, decided_both, decided_not, decided_if}

-- ---- what is decided below a number

pub decided_below : (n : ℕ) (P : ℕ → Type 0) → ((k : ℕ) → Decided (P k)) → Decided ((k : ℕ) → k < n → P k)
decided_below zero P decide = inl (λ k l. absurd (omega arith))
decided_below (suc n) P decide =
    decided_by
    (λ (both : ((k : ℕ) → k < n → P k) × P n). λ (k : ℕ) (l : k < suc n).
    ⊎_elim (λ (m : k < n). both.0 k m) (λ (m : n ≤ k). let e : n ≡ k = omega arith in subst P e both.1) (cases_lt k n))
    (λ (all : (k : ℕ) → k < suc n → P k). ((λ k l. all k (omega arith)), all n (omega arith)))
    (decided_both (decided_below n P decide) (decide n))

-- the numbers from low on, so many, at which a decided fact holds
record Holding (P : ℕ → Type 0) (low n : ℕ) : Type 0 where
  xs : List ℕ
  rises : Rises low xs
  sound : (x : ℕ) → In x xs → P x
  complete : (x : ℕ) → low ≤ x → x < low + n → P x → In x xs

module _ (P : ℕ → Type 0) where
  with_first : (low n : ℕ) → P low → Holding P (low + 1) n → Holding P low (suc n)
  with_first low n first rest = record {
    xs = low ∷ rest.xs;
    rises = (omega arith, rest.rises);
    sound = λ x here. ⊎_elim (λ (e : x ≡ low). subst P (sym e) first) (λ (h : In x rest.xs). rest.sound x h) here;
    complete = λ x from below holds.
        ⊎_elim (λ (e : x ≡ low). inl e) (λ (d : x ≡ low → ⊥). inr (rest.complete x (omega arith) (omega arith) holds)) (cases_eq x low);
  }

  without_first : (low n : ℕ) → (P low → ⊥) → Holding P (low + 1) n → Holding P low (suc n)
  without_first low n none rest = record {
    xs = rest.xs;
    rises = rises_less low (low + 1) rest.xs (omega arith) rest.rises;
    sound = rest.sound;
    complete = λ x from below holds.
        ⊎_elim (λ (e : x ≡ low). absurd (none (subst P e holds))) (λ (d : x ≡ low → ⊥). rest.complete x (omega arith) (omega arith) holds) (cases_eq x low);
  }

  holding : ((k : ℕ) → Decided (P k)) → (low n : ℕ) → Holding P low n
  holding decide low zero = record { xs = []; rises = tt; sound = λ x here. absurd here; complete = λ x from below holds. absurd (omega arith) }
  holding decide low (suc n) =
      let rest = holding decide (low + 1) n in
      ⊎_elim (λ (h : P low). with_first low n h rest) (λ (none : P low → ⊥). without_first low n none rest) (decide low)

-- ---- where there is weight

-- a value that a column doesn't name has no weight there
outside_column : (size : ℕ) (column : List Entry) (x : ℕ) → IsBelow size column → size ≤ x → weight_at column x ≡ 0
outside_column size [] x below past = refl
outside_column size (e ∷ es) x below past =
    let here : e.value < size = All-head (λ (e : Entry). e.value < size) e es below in
    weight_at_other e es x (λ same. omega (arith, here, past, same))
    ∙ outside_column size es x (All-tail (λ (e : Entry). e.value < size) e es below) past

outside_inners : (size : ℕ) (inners : List Inner) (x : ℕ) → All (λ (i : Inner). IsBelow size i.entries) inners → size ≤ x → average_weight inners x ≡ 0
outside_inners size [] x within past = refl
outside_inners size (i ∷ inners) x within past =
    let here : weight_at i.entries x ≡ 0 = outside_column size i.entries x (All-head (λ (i : Inner). IsBelow size i.entries) i inners within) past in
    let first : joint_weight x i ≡ 0 = ap (λ (w : ℕ). w * (i.total / total i.entries)) here ∙ omega arith in
    let rest : average_weight inners x ≡ 0 = outside_inners size inners x (All-tail (λ (i : Inner). IsBelow size i.entries) i inners within) past in
    omega (arith, sum_by-cons (joint_weight x) i inners, first, rest)

module _ (a b : HyperTree) where
  abbrev pub bound : ℕ
  bound = target_size a.target + target_size b.target

  -- values of weight are below a bound
  pub weight_below : (x : ℕ) → IsProper a → IsProper b → HasWeight a b x → x < bound
  weight_below x p q some =
      ⊎_elim (λ (l : x < bound). l)
      (λ (past : bound ≤ x).
      absurd (omega (arith, some, outside_inners (target_size a.target) a.inners x p.within (omega arith), outside_inners (target_size b.target) b.inners x q.within (omega arith))))
      (cases_lt x bound)

  pub has_weight : (x : ℕ) → Decided (HasWeight a b x)
  has_weight x = ⊎_elim (λ (l : HasWeight a b x). inl l) (λ (none : average_weight a.inners x + average_weight b.inners x ≤ 0). inr (λ l. omega (arith, none, l)))
      (cases_lt 0 (average_weight a.inners x + average_weight b.inners x))

  -- no weight past the last inner
  no_inner : (h : HyperTree) (x i : ℕ) → count h ≤ i → joint h x i ≡ 0
  no_inner h x i past = ap (joint_weight x) (get_or_past h.inners i (record { entries = []; total = 0 }) past)

  other : (v w : ℕ) (k : ℕ) → count a ≤ k → w ≡ 0 → (if nat_lt k (count a) then v else w) ≡ 0
  other v w k past none = rw (le-ltb k (count a) past) none

  past_last : (x k : ℕ) → count a + count b ≤ k → weight_in a b x k ≡ 0
  past_last x k past = other (joint a x k) (joint b x (k - count a)) k (omega arith) (no_inner b x (k - count a) (omega arith))

-- two families that are 0 from n on stand in one ratio, or they don't
decided_ratio : (f g : ℕ → ℕ) (n : ℕ) → ((k : ℕ) → n ≤ k → f k ≡ 0) → ((k : ℕ) → n ≤ k → g k ≡ 0)
    → Decided ((k l : ℕ) → f k * g l ≡ f l * g k)
decided_ratio f g n f_past g_past =
    decided_by whole (λ (all : (k l : ℕ) → f k * g l ≡ f l * g k). λ k kl l ll. all k l)
    (decided_below n (λ (k : ℕ). (l : ℕ) → l < n → f k * g l ≡ f l * g k)
    (λ k. decided_below n (λ (l : ℕ). f k * g l ≡ f l * g k) (λ l. cases_eq (f k * g l) (f l * g k))))
  where
    none : (w x y z : ℕ) → w ≡ 0 → z ≡ 0 → w * x ≡ y * z
    none w x y z p q = rw (p, q) (omega arith)

    whole : ((k : ℕ) → k < n → (l : ℕ) → l < n → f k * g l ≡ f l * g k) → (k l : ℕ) → f k * g l ≡ f l * g k
    whole part k l =
        ⊎_elim
        (λ (kl : k < n). ⊎_elim
        (λ (ll : l < n). part k kl l ll)
        (λ (past : n ≤ l). sym (none (f l) (g k) (f k) (g l) (f_past l past) (g_past l past)))
        (cases_lt l n))
        (λ (past : n ≤ k). none (f k) (g l) (f l) (g k) (f_past k past) (g_past k past))
        (cases_lt k n)

-- ---- the kept values

module _ (a b : HyperTree) where
  in_ratio : (x y : ℕ) → Decided (InRatio a b x y)
  in_ratio x y = decided_ratio (weight_in a b x) (weight_in a b y) (count a + count b) (past_last a b x) (past_last a b y)

  abbrev IsFirst : ℕ → Type 0
  IsFirst x = HasWeight a b x × ((y : ℕ) → y < x → HasWeight a b y → InRatio a b x y → ⊥)

  is_first : (x : ℕ) → Decided (IsFirst x)
  is_first x =
      decided_both (has_weight a b x)
      (decided_below x (λ (y : ℕ). HasWeight a b y → InRatio a b x y → ⊥) (λ y. decided_if (has_weight a b y) (decided_not (in_ratio x y))))

  pub some_kept : IsProper a → IsProper b → (xs : List ℕ) × AreKept a b xs
  some_kept p q =
      let all = holding IsFirst is_first 0 (bound a b) in (
        all.xs,
        record {
          ascending = increasing 0 all.xs all.rises;
          kept = λ x. (
            (λ has. all.sound x (in_list all.xs x has)),
            (λ first. has_member all.xs x (all.complete x (omega arith) (let l = weight_below a b x p q first.0 in omega arith) first)),
          );
        },
      )
