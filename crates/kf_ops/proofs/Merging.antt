-- One step of a pass over two ascending lists, and what is left to do after it.
use Rattle.std.proofs.Common.{◌≡◌, ◌-◌, ◌≤◌, suc, not, Bool, List, [], ◌∷◌, ◌++◌, length, map, take, drop, get_or, refl, sym, ap, ◌∙◌, subst, append_assoc, arith}
use Rattle.std.proofs.Math.Seq.{take-length}
use Rattle.std.specs.Prelude.{if◌then◌else◌}
use Rattle.std.specs.declared.cmp.Ordering.{Ordering}
use Rattle.std.specs.declared.cmp.Ordering.TheVariants.{Less, Equal, Greater}
use Rattle.std.specs.List.Sorted.{IsStrictlySortedBy}
use Rattle.kf_value.specs.Values.{ValueTree, order}
use Rattle.kf_value.specs.Views.{value_tree}
use Rattle.kf_value.specs.declared.value.Value.{Value}
use Rattle.kf_value.proofs.Orders.{same}
use Rattle.kf_value.proofs.Sorting.{sorted-head, sorted-tail}
use Rattle.kf_ops.specs.Merging.{IsNext, last_first, last_second, in_first, in_both, in_second, is_kept, kept_of}
use Rattle.kf_ops.specs.declared.sets.Kept.{Kept}
use Rattle.kf_ops.specs.declared.sets.Kept.TheVariants as kept
use Rattle.kf_ops.proofs.Ascending.{Below, below_lower, turned_greater, either-first, either-second, either-both, filtered-first, filtered-second, filtered-both}

-- ---- the next value

-- what a pattern reads at the front of a slice
pub headed : (xs : List Value) (x : Value) → 1 ≤ length xs → x ≡ get_or xs 0 x
    → map value_tree xs ≡ value_tree x ∷ map value_tree (take (length xs - 1) (drop 1 xs))
headed [] x some is = absurd (omega arith)
headed (y ∷ xs) x some is =
    let count : suc (length xs) - 1 ≡ length xs = omega arith in
    let rest : take (suc (length xs) - 1) xs ≡ xs = rw count (take-length xs) in
    rw (is, rest) refl

pub no_items : (xs : List Value) → length xs ≡ 0 → map value_tree xs ≡ []
no_items [] none = refl
no_items (x ∷ xs) none = absurd (omega arith)

module _ {vs ws vs' ws' : List ValueTree} {v w : ValueTree} (first : vs ≡ v ∷ vs') (second : ws ≡ w ∷ ws') where
  pub next_less : order v w ≡ Less → IsNext vs ws Less v vs' ws
  next_less h = rw (first, second) (in_first v w vs' ws' h)

  pub next_equal : order v w ≡ Equal → IsNext vs ws Equal v vs' ws'
  next_equal h = rw (first, second) (in_both v w vs' ws' h)

  pub next_greater : order v w ≡ Greater → IsNext vs ws Greater w vs ws'
  next_greater h = rw (first, second) (in_second v w vs' ws' h)

pub next_first : {vs ws vs' : List ValueTree} {v : ValueTree} → vs ≡ v ∷ vs' → ws ≡ [] → IsNext vs ws Less v vs' ws
next_first {vs' = vs'} {v = v} first none = rw (first, none) (last_first v vs')

pub next_second : {vs ws ws' : List ValueTree} {w : ValueTree} → vs ≡ [] → ws ≡ w ∷ ws' → IsNext vs ws Greater w vs ws'
next_second {ws' = ws'} {w = w} none second = rw (none, second) (last_second w ws')

-- ---- the step

abbrev Ascends : List ValueTree → Type 0
Ascends vs = IsStrictlySortedBy order vs

-- the value alone, if it is kept
abbrev pub alone : Bool → ValueTree → List ValueTree
alone b v = if b then v ∷ [] else []

pub record Stepped (k : Kept) (vs ws : List ValueTree) (side : Ordering) (v : ValueTree) (vs' ws' : List ValueTree) : Type 0 where
  pub first : Ascends vs'
  pub second : Ascends ws'
  pub whole : kept_of k vs ws ≡ alone (is_kept k side) v ++ kept_of k vs' ws'

whole_first : (k : Kept) (v : ValueTree) (vs ws : List ValueTree) → Below v vs → Below v ws
    → kept_of k (v ∷ vs) ws ≡ alone (is_kept k Less) v ++ kept_of k vs ws
whole_first kept.Either v vs ws hv hw = either-first v vs ws hv hw
whole_first kept.First v vs ws hv hw = filtered-first not v vs ws hw
whole_first kept.Both v vs ws hv hw = filtered-first (λ b. b) v vs ws hw

whole_both : (k : Kept) (v w : ValueTree) (vs ws : List ValueTree) → order v w ≡ Equal → Below w vs
    → kept_of k (v ∷ vs) (w ∷ ws) ≡ alone (is_kept k Equal) v ++ kept_of k vs ws
whole_both kept.Either v w vs ws e h = either-both v w vs ws e h
whole_both kept.First v w vs ws e h = filtered-both not v w vs ws e h
whole_both kept.Both v w vs ws e h = filtered-both (λ b. b) v w vs ws e h

whole_second : (k : Kept) (w : ValueTree) (vs ws : List ValueTree) → Below w vs
    → kept_of k vs (w ∷ ws) ≡ alone (is_kept k Greater) w ++ kept_of k vs ws
whole_second kept.Either w vs ws h = either-second w vs ws h
whole_second kept.First w vs ws h = filtered-second not w vs ws h
whole_second kept.Both w vs ws h = filtered-second (λ b. b) w vs ws h

below_same : (v w : ValueTree) (vs : List ValueTree) → order v w ≡ Equal → Below v vs → Below w vs
below_same v w vs e h = subst (λ u. Below u vs) (same v w e) h

pub stepped : (k : Kept) {vs ws : List ValueTree} {side : Ordering} {v : ValueTree} {vs' ws' : List ValueTree}
    → IsNext vs ws side v vs' ws' → Ascends vs → Ascends ws → Stepped k vs ws side v vs' ws'
stepped k (last_first v vs) av aw = record {
  first = sorted-tail order v vs av;
  second = aw;
  whole = whole_first k v vs [] (sorted-head order v vs av) tt;
}
stepped k (last_second w ws) av aw = record {
  first = av;
  second = sorted-tail order w ws aw;
  whole = whole_second k w [] ws tt;
}
stepped k (in_first v w vs ws less) av aw = record {
  first = sorted-tail order v vs av;
  second = aw;
  whole = whole_first k v vs (w ∷ ws) (sorted-head order v vs av) (less, below_lower v w ws less (sorted-head order w ws aw));
}
stepped k (in_both v w vs ws e) av aw = record {
  first = sorted-tail order v vs av;
  second = sorted-tail order w ws aw;
  whole = whole_both k v w vs ws e (below_same v w vs e (sorted-head order v vs av));
}
stepped k (in_second v w vs ws more) av aw =
    let less = turned_greater v w more in
    record {
      first = av;
      second = sorted-tail order w ws aw;
      whole = whole_second k w (v ∷ vs) ws (less, below_lower w v vs less (sorted-head order v vs av));
    }

-- the same with what was merged before
pub merged_on : (k : Kept) {vs ws : List ValueTree} {side : Ordering} {v : ValueTree} {vs' ws' : List ValueTree} (out : List ValueTree) {out' all : List ValueTree} {b : Bool}
    → IsNext vs ws side v vs' ws' → Ascends vs → Ascends ws → b ≡ is_kept k side → out' ≡ out ++ alone b v → out ++ kept_of k vs ws ≡ all
    → Ascends vs' × (Ascends ws' × (out' ++ kept_of k vs' ws' ≡ all))
merged_on k {side = side} {v = v} {vs' = vs'} {ws' = ws'} out next av aw test grown whole =
    let step = stepped k next av aw in
    (step.first, (step.second, rw (grown, test) (append_assoc out (alone (is_kept k side) v) (kept_of k vs' ws') ∙ (ap (λ us. out ++ us) (sym step.whole) ∙ whole))))
