-- A value that is looked for among the members of a set that is written out.
use Rattle.std.proofs.Common.{◌≡◌, true, false, List, [], ◌∷◌, ◌||◌, Bool, length, map, get_or, Ok, refl, sym, ap, ◌∙◌, subst}
use Rattle.std.specs.declared.cmp.Ordering.{Ordering}
use Rattle.std.specs.declared.cmp.Ordering.TheVariants.{Less, Equal, Greater}
use Rattle.std.specs.Ordering.{is_eq, match_ordering}
use Rattle.kf_value.specs.Kinds.{KindTree}
use Rattle.kf_value.specs.Values.{ValueTree, Truth, is_equal, order, parts}
use Rattle.kf_value.specs.Values as value
use Rattle.kf_value.proofs.Orders.{same}
use Rattle.kf_value.proofs.Trees.{parts_list-parts}
use Rattle.kf_ops.specs.Values.{inserted, is_in}
use Rattle.kf_ops.specs.declared.row.Op.TheVariants as op
use Rattle.kf_core.specs.Evaluation.{all_values, ev, evs, operated, set_of}
use Rattle.kf_core.specs.Exs.{ExTree}
use Rattle.kf_core.specs.Results.{then_ok}
use Rattle.kf_core.specs.Views.{ex_items, ex_tree}
use Rattle.kf_core.specs.declared.ex.Ex.{Ex}
use Rattle.kf_core.specs.declared.ex.Ex.TheVariants as ex
use Rattle.kf_core.specs.declared.ex.ExList.{ExList}
use Rattle.kf_core.proofs.Trees.{ex_tree-SetOf}
use Rattle.kf_core.specs.Each.{exs}
use Rattle.kf_eval.specs.Kinds.{AreKinded, IsKinded}
use Rattle.kf_eval.proofs.Checking.{members_kinded}
use Rattle.kf_eval.proofs.Comparing.{one_more, two_evaluated}

-- the members of a set that is written out
pub listed_kinded : (ks : List KindTree) (x : Ex) (of : ExList) (items : List Ex) → x ≡ ex.SetOf of → items ≡ ex_items of → IsKinded ks (ex_tree x)
    → AreKinded ks (map ex_tree items)
listed_kinded ks x of items is same h =
    rw same (members_kinded ks (map ex_tree (ex_items of)) (subst (IsKinded ks) (ap ex_tree is ∙ ex_tree-SetOf of) h))

or_twice : (a b : Bool) → (a || b) ≡ (a || (a || b))
or_twice true b = refl
or_twice false b = refl

or_swap : (a b c : Bool) → (a || (b || c)) ≡ (b || (a || c))
or_swap true true c = refl
or_swap true false c = refl
or_swap false b c = refl

or_assoc : (a b c : Bool) → (a || (b || c)) ≡ ((a || b) || c)
or_assoc true b c = refl
or_assoc false b c = refl

or_false : (a : Bool) → (a || false) ≡ a
or_false true = refl
or_false false = refl

module _ (v : ValueTree) where
  placed : (w u : ValueTree) (us others : List ValueTree) → is_in v others ≡ (is_equal v w || is_in v us) → (o : Ordering) → order w u ≡ o
      → is_in v (match_ordering o (w ∷ u ∷ us) (u ∷ us) (u ∷ others)) ≡ (is_equal v w || is_in v (u ∷ us))
  placed w u us others later Less is = refl
  placed w u us others later Equal is = rw (same w u is) (or_twice (is_equal v u) (is_in v us))
  placed w u us others later Greater is = ap (λ b. is_equal v u || b) later ∙ or_swap (is_equal v u) (is_equal v w) (is_in v us)

  in_inserted : (w : ValueTree) (us : List ValueTree) → is_in v (inserted w us) ≡ (is_equal v w || is_in v us)
  in_inserted w [] = refl
  in_inserted w (u ∷ us) = placed w u us (inserted w us) (in_inserted w us) (order w u) refl

  -- a set has the members that are listed
  in_set : (vs : List ValueTree) → is_in v (set_of vs) ≡ is_in v vs
  in_set [] = refl
  in_set (w ∷ vs) = in_inserted w (set_of vs) ∙ ap (λ b. is_equal v w || b) (in_set vs)

module _ (s : List ValueTree) (v : ValueTree) where
  -- all members have values, and this says whether the value is one of these
  pub record IsListed (xs : List ExTree) (found : Bool) : Type 0 where
    pub members : List ValueTree
    pub known : all_values (evs s (exs xs)) ≡ Ok members
    pub told : found ≡ is_in v members

  pub set_tells : (args : List Ex) (x y : Ex) (of : ExList) (items : List Ex) (found : Bool) → length args ≡ 2 → x ≡ get_or args 0 x → y ≡ get_or args 1 y
      → ev s (ex_tree x) ≡ Ok v → y ≡ ex.SetOf of → items ≡ ex_items of → IsListed (map ex_tree items) found
      → operated op.Elem (evs s (exs (map ex_tree args))) ≡ Ok (Truth found)
  set_tells args x y of items found long is next first shape read told =
      let set = value.Set (parts (set_of told.members)) in
      let known : ev s (ex_tree y) ≡ Ok set =
      ap (ev s) (ap ex_tree shape ∙ ex_tree-SetOf of)
      ∙ ap (λ r. then_ok r (λ us. Ok (value.Set (parts (set_of us))))) (ap (λ us. all_values (evs s (exs (map ex_tree us)))) (sym read) ∙ told.known) in
      ap (operated op.Elem) (two_evaluated s args x y v set long is next first known)
      ∙ ap (λ b. Ok (Truth b)) (ap (is_in v) (parts_list-parts (set_of told.members)) ∙ in_set v told.members ∙ sym told.told)

  module _ (ks : List KindTree) (xs : List ExTree) where
    -- the members that are left, and whether the value is one of those so far
    pub record MembersSoFar (left : List ExTree) (found : Bool) : Type 0 where
      pub kinded : AreKinded ks left
      pub whole : (vs : List ValueTree) → all_values (evs s (exs left)) ≡ Ok vs → IsListed xs (found || is_in v vs)

    pub members_start : AreKinded ks xs → MembersSoFar xs false
    members_start kinded = record { kinded = kinded; whole = λ vs is. record { members = vs; known = is; told = refl } }

    pub members_step : (x : ExTree) (left : List ExTree) (found next : Bool) (w : ValueTree) → MembersSoFar (x ∷ left) found → ev s x ≡ Ok w
        → next ≡ (found || is_eq (order v w)) → MembersSoFar left next
    members_step x left found next w so_far known is = record {
      kinded = so_far.kinded.1;
      whole = λ vs rest.
          subst (IsListed xs) (or_assoc found (is_equal v w) (is_in v vs) ∙ ap (λ b. b || is_in v vs) (sym is)) (so_far.whole (w ∷ vs) (one_more s x left w vs known rest));
    }

    pub members_end : (found : Bool) → MembersSoFar [] found → IsListed xs found
    members_end found so_far = subst (IsListed xs) (or_false found) (so_far.whole [] refl)
