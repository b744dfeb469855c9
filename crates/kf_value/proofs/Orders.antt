-- The order of values is total: it flips, it is equal at equal values alone, and it goes on from value to value.
use Rattle.std.proofs.Common.{◌≡◌, ℤ, ◌<ℤ◌, Bool, true, false, List, [], ◌∷◌, map, reverse, refl, sym, ap, ◌∙◌, inl, inr, ◌⊎◌, ⊎_elim}
use Rattle.std.proofs.lemmas.List.{reverse-reverse}
use Rattle.std.proofs.lemmas.Cmp.{int_cmp_total}
use Rattle.std.specs.Cmp.{int_ranks, IsTotalOrder}
use Rattle.std.specs.declared.cmp.Ordering.{Ordering}
use Rattle.std.specs.declared.cmp.Ordering.TheVariants.{Less, Equal, Greater}
use Rattle.std.specs.Ordering.{ordering_then, ordering_reverse, bool_cmp, int_cmp, MatchOrdering}
use Rattle.std.specs.List.{AllByRecursion as Each}
use Rattle.kf_value.specs.Values.{ValueTree, ValueTrees, Truth, Whole, Tuple, Set, no_value, more_values, parts, parts_list, order, orders, lexicographic}
use Rattle.kf_value.proofs.ListLemmas.{map-reverse, each_reverse}

-- two lists by their first difference
abbrev pub lists_order : List ValueTree → List ValueTree → Ordering
lists_order xs ys = lexicographic (map order xs) ys

pub orders-list : (vs : ValueTrees) → orders vs ≡ map order (parts_list vs)
orders-list no_value = refl
orders-list (more_values v vs) = ap (λ os. order v ∷ os) (orders-list vs)

pub parts-parts_list : (vs : ValueTrees) → parts (parts_list vs) ≡ vs
parts-parts_list no_value = refl
parts-parts_list (more_values v vs) = ap (more_values v) (parts-parts_list vs)

pub tuples_order : (vs ws : ValueTrees) → order (Tuple vs) (Tuple ws) ≡ lists_order (parts_list vs) (parts_list ws)
tuples_order vs ws = ap (λ os. lexicographic os (parts_list ws)) (orders-list vs)

pub sets_order : (vs ws : ValueTrees) → order (Set vs) (Set ws) ≡ lists_order (reverse (parts_list vs)) (reverse (parts_list ws))
sets_order vs ws =
    ap (λ os. lexicographic (reverse os) (reverse (parts_list ws))) (orders-list vs)
    ∙ ap (λ os. lexicographic os (reverse (parts_list ws))) (sym (map-reverse order (parts_list vs)))

-- ---- the order of two values flips

then-reverse : (o p : Ordering) → ordering_then (ordering_reverse o) (ordering_reverse p) ≡ ordering_reverse (ordering_then o p)
then-reverse Less p = refl
then-reverse Equal p = refl
then-reverse Greater p = refl

abbrev Flips : ValueTree → Type 0
Flips x = (y : ValueTree) → order x y ≡ ordering_reverse (order y x)

lists_flip : (xs : List ValueTree) → Each Flips xs → (ys : List ValueTree) → lists_order xs ys ≡ ordering_reverse (lists_order ys xs)
lists_flip [] each [] = refl
lists_flip [] each (y ∷ ys) = refl
lists_flip (x ∷ xs) each [] = refl
lists_flip (x ∷ xs) each (y ∷ ys) =
    ap (λ o. ordering_then o (lists_order xs ys)) (each.0 y)
    ∙ (ap (λ o. ordering_then (ordering_reverse (order y x)) o) (lists_flip xs each.1 ys)
    ∙ then-reverse (order y x) (lists_order ys xs))

truths_flip : (b c : Bool) → bool_cmp b c ≡ ordering_reverse (bool_cmp c b)
truths_flip false false = refl
truths_flip false true = refl
truths_flip true false = refl
truths_flip true true = refl

mutual
  pub flip : (x y : ValueTree) → order x y ≡ ordering_reverse (order y x)
  flip (Truth b) (Truth c) = truths_flip b c
  flip (Truth b) (Whole j) = refl
  flip (Truth b) (Tuple ws) = refl
  flip (Truth b) (Set ws) = refl
  flip (Whole i) (Truth c) = refl
  flip (Whole i) (Whole j) = int_cmp_total.antisymm i j
  flip (Whole i) (Tuple ws) = refl
  flip (Whole i) (Set ws) = refl
  flip (Tuple vs) (Truth c) = refl
  flip (Tuple vs) (Whole j) = refl
  flip (Tuple vs) (Tuple ws) =
      tuples_order vs ws ∙ (lists_flip (parts_list vs) (each_flip vs) (parts_list ws) ∙ ap ordering_reverse (sym (tuples_order ws vs)))
  flip (Tuple vs) (Set ws) = refl
  flip (Set vs) (Truth c) = refl
  flip (Set vs) (Whole j) = refl
  flip (Set vs) (Tuple ws) = refl
  flip (Set vs) (Set ws) =
      sets_order vs ws
      ∙ (lists_flip (reverse (parts_list vs)) (each_reverse Flips (parts_list vs) (each_flip vs)) (reverse (parts_list ws))
      ∙ ap ordering_reverse (sym (sets_order ws vs)))

  each_flip : (vs : ValueTrees) → Each Flips (parts_list vs)
  each_flip no_value = tt
  each_flip (more_values v vs) = (flip v, each_flip vs)

reversed_itself : (o : Ordering) → o ≡ ordering_reverse o → o ≡ Equal
reversed_itself Less h = (cc)
reversed_itself Equal h = refl
reversed_itself Greater h = (cc)

-- a value is equal to itself
pub order-itself : (x : ValueTree) → order x x ≡ Equal
order-itself x = reversed_itself (order x x) (flip x x)

less_one_way : (o p : Ordering) → o ≡ ordering_reverse p → o ≡ Less → p ≡ Less → ⊥
less_one_way o p h ol pl = (cc)

pub not_both_less : (x y : ValueTree) → order x y ≡ Less → order y x ≡ Less → ⊥
not_both_less x y xy yx = less_one_way (order x y) (order y x) (flip x y) xy yx

-- ---- only equal values are equal

then-Equal : (o p : Ordering) → ordering_then o p ≡ Equal → (o ≡ Equal) × (p ≡ Equal)
then-Equal Less p h = (cc)
then-Equal Equal p h = (refl, h)
then-Equal Greater p h = (cc)

abbrev Exact : ValueTree → Type 0
Exact x = (y : ValueTree) → order x y ≡ Equal → x ≡ y

lists_same : (xs : List ValueTree) → Each Exact xs → (ys : List ValueTree) → lists_order xs ys ≡ Equal → xs ≡ ys
lists_same [] each [] h = refl
lists_same [] each (y ∷ ys) h = (cc)
lists_same (x ∷ xs) each [] h = (cc)
lists_same (x ∷ xs) each (y ∷ ys) h =
    let both = then-Equal (order x y) (lists_order xs ys) h in
    let first = each.0 y both.0 in
    let rest = lists_same xs each.1 ys both.1 in
    cc (first, rest)

truths_same : (b c : Bool) → bool_cmp b c ≡ Equal → Truth b ≡ Truth c
truths_same false false h = refl
truths_same false true h = (cc)
truths_same true false h = (cc)
truths_same true true h = refl

ranked_same : (o : Ordering) (i j : ℤ) → MatchOrdering o (i <ℤ j) (i ≡ j) (j <ℤ i) → o ≡ Equal → i ≡ j
ranked_same Less i j h e = (cc)
ranked_same Equal i j h e = h
ranked_same Greater i j h e = (cc)

parts_same : (vs ws : ValueTrees) → parts_list vs ≡ parts_list ws → vs ≡ ws
parts_same vs ws h = sym (parts-parts_list vs) ∙ (ap parts h ∙ parts-parts_list ws)

reverse_same : (xs ys : List ValueTree) → reverse xs ≡ reverse ys → xs ≡ ys
reverse_same xs ys h = sym (reverse-reverse xs) ∙ (ap reverse h ∙ reverse-reverse ys)

mutual
  pub same : (x y : ValueTree) → order x y ≡ Equal → x ≡ y
  same (Truth b) (Truth c) h = truths_same b c h
  same (Truth b) (Whole j) h = (cc)
  same (Truth b) (Tuple ws) h = (cc)
  same (Truth b) (Set ws) h = (cc)
  same (Whole i) (Truth c) h = (cc)
  same (Whole i) (Whole j) h = ap Whole (ranked_same (int_cmp i j) i j (int_ranks i j) h)
  same (Whole i) (Tuple ws) h = (cc)
  same (Whole i) (Set ws) h = (cc)
  same (Tuple vs) (Truth c) h = (cc)
  same (Tuple vs) (Whole j) h = (cc)
  same (Tuple vs) (Tuple ws) h =
      ap Tuple (parts_same vs ws (lists_same (parts_list vs) (each_same vs) (parts_list ws) (sym (tuples_order vs ws) ∙ h)))
  same (Tuple vs) (Set ws) h = (cc)
  same (Set vs) (Truth c) h = (cc)
  same (Set vs) (Whole j) h = (cc)
  same (Set vs) (Tuple ws) h = (cc)
  same (Set vs) (Set ws) h =
      ap Set (parts_same vs ws (reverse_same (parts_list vs) (parts_list ws)
      (lists_same (reverse (parts_list vs)) (each_reverse Exact (parts_list vs) (each_same vs)) (reverse (parts_list ws)) (sym (sets_order vs ws) ∙ h))))

  each_same : (vs : ValueTrees) → Each Exact (parts_list vs)
  each_same no_value = tt
  each_same (more_values v vs) = (same v, each_same vs)

-- ---- the order goes on from value to value

pub then-Less : (o p : Ordering) → ordering_then o p ≡ Less → (o ≡ Less) ⊎ ((o ≡ Equal) × (p ≡ Less))
then-Less Less p h = inl refl
then-Less Equal p h = inr (refl, h)
then-Less Greater p h = (cc)

abbrev GoesOn : ValueTree → Type 0
GoesOn x = (y z : ValueTree) → order x y ≡ Less → order y z ≡ Less → order x z ≡ Less

pub first_less : (o p : Ordering) → o ≡ Less → ordering_then o p ≡ Less
first_less o p h = ap (λ q. ordering_then q p) h

pub then_less : (o p : Ordering) → o ≡ Equal → p ≡ Less → ordering_then o p ≡ Less
then_less o p e h = ap (λ q. ordering_then q p) e ∙ h

lists_go_on : (xs : List ValueTree) → Each GoesOn xs → (ys zs : List ValueTree)
    → lists_order xs ys ≡ Less → lists_order ys zs ≡ Less → lists_order xs zs ≡ Less
lists_go_on [] each [] zs h k = (cc)
lists_go_on [] each (y ∷ ys) [] h k = (cc)
lists_go_on [] each (y ∷ ys) (z ∷ zs) h k = refl
lists_go_on (x ∷ xs) each [] zs h k = (cc)
lists_go_on (x ∷ xs) each (y ∷ ys) [] h k = (cc)
lists_go_on (x ∷ xs) each (y ∷ ys) (z ∷ zs) h k =
    ⊎_elim
    (λ (xy : order x y ≡ Less).
    ⊎_elim
    (λ (yz : order y z ≡ Less). first_less (order x z) (lists_order xs zs) (each.0 y z xy yz))
    (λ (rest : (order y z ≡ Equal) × (lists_order ys zs ≡ Less)).
    first_less (order x z) (lists_order xs zs) (sym (ap (order x) (same y z rest.0)) ∙ xy))
    (then-Less (order y z) (lists_order ys zs) k))
    (λ (first : (order x y ≡ Equal) × (lists_order xs ys ≡ Less)).
    let xz : order x z ≡ order y z = ap (λ v. order v z) (same x y first.0) in
    ⊎_elim
    (λ (yz : order y z ≡ Less). first_less (order x z) (lists_order xs zs) (xz ∙ yz))
    (λ (rest : (order y z ≡ Equal) × (lists_order ys zs ≡ Less)).
    then_less (order x z) (lists_order xs zs) (xz ∙ rest.0) (lists_go_on xs each.1 ys zs first.1 rest.1))
    (then-Less (order y z) (lists_order ys zs) k))
    (then-Less (order x y) (lists_order xs ys) h)

truths_go_on : (a b c : Bool) → bool_cmp a b ≡ Less → bool_cmp b c ≡ Less → bool_cmp a c ≡ Less
truths_go_on false false c h k = (cc)
truths_go_on false true false h k = (cc)
truths_go_on false true true h k = (cc)
truths_go_on true false c h k = (cc)
truths_go_on true true c h k = (cc)

mutual
  pub goes_on : (x y z : ValueTree) → order x y ≡ Less → order y z ≡ Less → order x z ≡ Less
  goes_on (Truth a) (Truth b) (Truth c) h k = truths_go_on a b c h k
  goes_on (Truth a) (Whole j) (Truth c) h k = (cc)
  goes_on (Truth a) (Tuple ws) (Truth c) h k = (cc)
  goes_on (Truth a) (Set ws) (Truth c) h k = (cc)
  goes_on (Truth a) y (Whole l) h k = refl
  goes_on (Truth a) y (Tuple us) h k = refl
  goes_on (Truth a) y (Set us) h k = refl
  goes_on (Whole i) (Truth b) z h k = (cc)
  goes_on (Whole i) (Whole j) (Truth c) h k = (cc)
  goes_on (Whole i) (Whole j) (Whole l) h k = int_cmp_total.trans i j l h k
  goes_on (Whole i) (Tuple ws) (Truth c) h k = (cc)
  goes_on (Whole i) (Tuple ws) (Whole l) h k = (cc)
  goes_on (Whole i) (Set ws) (Truth c) h k = (cc)
  goes_on (Whole i) (Set ws) (Whole l) h k = (cc)
  goes_on (Whole i) y (Tuple us) h k = refl
  goes_on (Whole i) y (Set us) h k = refl
  goes_on (Tuple vs) (Truth b) z h k = (cc)
  goes_on (Tuple vs) (Whole j) z h k = (cc)
  goes_on (Tuple vs) (Tuple ws) (Truth c) h k = (cc)
  goes_on (Tuple vs) (Tuple ws) (Whole l) h k = (cc)
  goes_on (Tuple vs) (Tuple ws) (Tuple us) h k =
      tuples_order vs us
      ∙ lists_go_on (parts_list vs) (each_goes_on vs) (parts_list ws) (parts_list us) (sym (tuples_order vs ws) ∙ h) (sym (tuples_order ws us) ∙ k)
  goes_on (Tuple vs) (Set ws) (Truth c) h k = (cc)
  goes_on (Tuple vs) (Set ws) (Whole l) h k = (cc)
  goes_on (Tuple vs) (Set ws) (Tuple us) h k = (cc)
  goes_on (Tuple vs) y (Set us) h k = refl
  goes_on (Set vs) (Truth b) z h k = (cc)
  goes_on (Set vs) (Whole j) z h k = (cc)
  goes_on (Set vs) (Tuple ws) z h k = (cc)
  goes_on (Set vs) (Set ws) (Truth c) h k = (cc)
  goes_on (Set vs) (Set ws) (Whole l) h k = (cc)
  goes_on (Set vs) (Set ws) (Tuple us) h k = (cc)
  goes_on (Set vs) (Set ws) (Set us) h k =
      sets_order vs us
      ∙ lists_go_on (reverse (parts_list vs)) (each_reverse GoesOn (parts_list vs) (each_goes_on vs)) (reverse (parts_list ws)) (reverse (parts_list us))
      (sym (sets_order vs ws) ∙ h) (sym (sets_order ws us) ∙ k)

  each_goes_on : (vs : ValueTrees) → Each GoesOn (parts_list vs)
  each_goes_on no_value = tt
  each_goes_on (more_values v vs) = (goes_on v, each_goes_on vs)

-- the laws of the order, in the library's words
pub order_total : IsTotalOrder order
order_total = record { antisymm = flip; trans = goes_on; congr = λ x y z h. ap (λ v. order v z) (same x y h) }
