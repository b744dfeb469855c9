-- Two tuples that are written out, compared part by part.
use Rattle.std.proofs.Common.{◌≡◌, true, false, List, [], ◌∷◌, ◌&&◌, Bool, length, map, get_or, Ok, refl, sym, ap, ◌∙◌, subst, arith}
use Rattle.std.specs.declared.cmp.Ordering.{Ordering}
use Rattle.std.specs.declared.cmp.Ordering.TheVariants.{Less, Equal, Greater}
use Rattle.std.specs.Ordering.{is_eq, ordering_then}
use Rattle.kf_value.specs.Kinds.{KindTree}
use Rattle.kf_value.specs.Values.{ValueTree, is_equal, order, parts}
use Rattle.kf_value.specs.Values as value
use Rattle.kf_core.specs.Evaluation.{Evaluated, all_values, ev, evs}
use Rattle.kf_core.specs.Exs.{ExTree}
use Rattle.kf_core.specs.Results.{then_ok}
use Rattle.kf_core.specs.Views.{ex_items, ex_tree}
use Rattle.kf_core.specs.declared.ex.Ex.{Ex}
use Rattle.kf_core.specs.declared.ex.Ex.TheVariants as ex
use Rattle.kf_core.specs.declared.ex.ExList.{ExList}
use Rattle.kf_core.proofs.Trees.{ex_tree-Tuple}
use Rattle.kf_core.specs.Each.{exs}
use Rattle.kf_eval.specs.Answers.{Compares}
use Rattle.kf_eval.specs.Kinds.{AreKinded, IsKinded}
use Rattle.kf_eval.proofs.Checking.{parts_kinded}

-- the parts of a tuple that is written out
pub written_kinded : (ks : List KindTree) (x : Ex) (of : ExList) (items : List Ex) → x ≡ ex.Tuple of → items ≡ ex_items of → IsKinded ks (ex_tree x)
    → AreKinded ks (map ex_tree items)
written_kinded ks x of items is same h =
    rw same (parts_kinded ks (map ex_tree (ex_items of)) (subst (IsKinded ks) (ap ex_tree is ∙ ex_tree-Tuple of) h))

both : (same : Bool) (o l : Ordering) → (same && is_eq (ordering_then o l)) ≡ ((same && is_eq o) && is_eq l)
both false o l = refl
both true Less l = refl
both true Equal l = refl
both true Greater l = refl

and_true : (b : Bool) → (b && true) ≡ b
and_true true = refl
and_true false = refl

module _ (s : List ValueTree) where
  -- both lists have values, and this says whether tuples of these are equal
  pub record PartsCompare (xs ys : List ExTree) (same : Bool) : Type 0 where
    pub left : List ValueTree
    pub right : List ValueTree
    pub first : all_values (evs s (exs xs)) ≡ Ok left
    pub second : all_values (evs s (exs ys)) ≡ Ok right
    pub told : same ≡ is_equal (value.Tuple (parts left)) (value.Tuple (parts right))

  pub one_more : (x : ExTree) (xs : List ExTree) (v : ValueTree) (vs : List ValueTree) → ev s x ≡ Ok v → all_values (evs s (exs xs)) ≡ Ok vs
      → all_values (evs s (exs (x ∷ xs))) ≡ Ok (v ∷ vs)
  one_more x xs v vs is known =
      ap (λ (e : Evaluated). then_ok e (λ u. then_ok (all_values (evs s (exs xs))) (λ us. Ok (u ∷ us)))) is ∙ ap (λ r. then_ok r (λ us. Ok (v ∷ us))) known

  tuple_value : (x : Ex) (of : ExList) (items : List Ex) (vs : List ValueTree) → x ≡ ex.Tuple of → items ≡ ex_items of
      → all_values (evs s (exs (map ex_tree items))) ≡ Ok vs → ev s (ex_tree x) ≡ Ok (value.Tuple (parts vs))
  tuple_value x of items vs is same known =
      ap (ev s) (ap ex_tree is ∙ ex_tree-Tuple of)
      ∙ ap (λ r. then_ok r (λ us. Ok (value.Tuple (parts us)))) (ap (λ us. all_values (evs s (exs (map ex_tree us)))) (sym same) ∙ known)

  pub two_evaluated : (args : List Ex) (x y : Ex) (v w : ValueTree) → length args ≡ 2 → x ≡ get_or args 0 x → y ≡ get_or args 1 y → ev s (ex_tree x) ≡ Ok v
      → ev s (ex_tree y) ≡ Ok w → evs s (exs (map ex_tree args)) ≡ Ok v ∷ Ok w ∷ []
  two_evaluated [] x y v w long is next first second = absurd (omega arith)
  two_evaluated (a ∷ []) x y v w long is next first second = absurd (omega arith)
  two_evaluated (a ∷ b ∷ []) x y v w long is next first second =
      ap (λ (e : Evaluated). e ∷ ev s (ex_tree b) ∷ []) (ap (λ z. ev s (ex_tree z)) (sym is) ∙ first)
      ∙ ap (λ (e : Evaluated). Ok v ∷ e ∷ []) (ap (λ z. ev s (ex_tree z)) (sym next) ∙ second)
  two_evaluated (a ∷ b ∷ c ∷ args) x y v w long is next first second = absurd (omega arith)

  pub tuples_compare : (args : List Ex) (x y : Ex) (left right : ExList) (xs ys : List Ex) (same : Bool) → length args ≡ 2 → x ≡ get_or args 0 x → y ≡ get_or args 1 y
      → x ≡ ex.Tuple left → y ≡ ex.Tuple right → xs ≡ ex_items left → ys ≡ ex_items right → PartsCompare (map ex_tree xs) (map ex_tree ys) same
      → Compares (evs s (exs (map ex_tree args))) same
  tuples_compare args x y left right xs ys same long is next is_left is_right read_left read_right told = record {
    left = value.Tuple (parts told.left);
    right = value.Tuple (parts told.right);
    values =
        two_evaluated args x y (value.Tuple (parts told.left)) (value.Tuple (parts told.right)) long is next (tuple_value x left xs told.left is_left read_left told.first)
        (tuple_value y right ys told.right is_right read_right told.second);
    told = told.told;
  }

  module _ (ks : List KindTree) (xs ys : List ExTree) where
    -- the parts that are left, and whether those so far are equal
    pub record PairsSoFar (left_xs left_ys : List ExTree) (same : Bool) : Type 0 where
      pub first_kinded : AreKinded ks left_xs
      pub second_kinded : AreKinded ks left_ys
      pub whole : (vs ws : List ValueTree) → all_values (evs s (exs left_xs)) ≡ Ok vs → all_values (evs s (exs left_ys)) ≡ Ok ws
          → PartsCompare xs ys (same && is_equal (value.Tuple (parts vs)) (value.Tuple (parts ws)))

    pub pairs_start : AreKinded ks xs → AreKinded ks ys → PairsSoFar xs ys true
    pairs_start first second = record {
      first_kinded = first;
      second_kinded = second;
      whole = λ vs ws f g. record { left = vs; right = ws; first = f; second = g; told = refl };
    }

    pub pairs_step : (x y : ExTree) (left_xs left_ys : List ExTree) (same next : Bool) (v w : ValueTree) → PairsSoFar (x ∷ left_xs) (y ∷ left_ys) same → ev s x ≡ Ok v
        → ev s y ≡ Ok w → next ≡ (same && is_eq (order v w)) → PairsSoFar left_xs left_ys next
    pairs_step x y left_xs left_ys same next v w so_far first second is = record {
      first_kinded = so_far.first_kinded.1;
      second_kinded = so_far.second_kinded.1;
      whole = λ vs ws f g.
          let rest = is_equal (value.Tuple (parts vs)) (value.Tuple (parts ws)) in
          let parted = both same (order v w) (order (value.Tuple (parts vs)) (value.Tuple (parts ws))) in
          subst (PartsCompare xs ys) (parted ∙ ap (λ b. b && rest) (sym is))
          (so_far.whole (v ∷ vs) (w ∷ ws) (one_more x left_xs v vs first f) (one_more y left_ys w ws second g));
    }

    pub pairs_end : (same : Bool) → PairsSoFar [] [] same → PartsCompare xs ys same
    pairs_end same so_far = subst (PartsCompare xs ys) (and_true same) (so_far.whole [] [] refl refl)
