-- The turns of the loops that compare lists of values.
use Rattle.std.proofs.Common.{◌≡◌, ℕ, zero, suc, ◌+◌, ◌-◌, ◌<◌, min, true, false, not, ◌==◌, List, [], ◌∷◌, length, map, reverse, drop, get_or, refl, sym, ◌∙◌, arith}
use Rattle.std.specs.Cmp.{nat_cmp_is, ranks}
use Rattle.std.proofs.lemmas.List.{drop_more, get_or-reverse, length-reverse}
use Rattle.kf_value.proofs.ListLemmas.{map-reverse}
use Rattle.std.specs.declared.cmp.Ordering.{Ordering}
use Rattle.std.specs.declared.cmp.Ordering.TheVariants.{Less, Equal, Greater}
use Rattle.std.specs.Ordering.{ordering_then, ordering_index, nat_cmp, MatchOrdering}
use Rattle.kf_value.specs.declared.value.Value.{Value}
use Rattle.kf_value.specs.Values.{ValueTree, Tuple, Set, parts, order, lexicographic}
use Rattle.kf_value.specs.Views.{value_tree}
use Rattle.kf_value.proofs.Trees.{orders-parts, parts_list-parts}

suc_ranks : (o : Ordering) (m n : ℕ) → MatchOrdering o (m < n) (m ≡ n) (n < m)
    → MatchOrdering o (suc m < suc n) (suc m ≡ suc n) (suc n < suc m)
suc_ranks Less m n less = omega arith
suc_ranks Equal m n equal = omega arith
suc_ranks Greater m n greater = omega arith

nat_cmp_suc : (m n : ℕ) → nat_cmp m n ≡ nat_cmp (suc m) (suc n)
nat_cmp_suc m n = nat_cmp_is (suc m) (suc n) (nat_cmp m n) (suc_ranks (nat_cmp m n) m n (ranks m n))

-- the answer for two lists
abbrev pub compared : List Value → List Value → Ordering
compared xs ys = lexicographic (map order (map value_tree xs)) (map value_tree ys)

-- two lists of which one is used up
pub compared-end : (xs ys : List Value) (i : ℕ) → i ≡ min (length xs) (length ys)
    → compared (drop i xs) (drop i ys) ≡ nat_cmp (length xs) (length ys)
compared-end [] [] zero used = refl
compared-end [] (y ∷ ys) zero used = nat_cmp_is 0 (suc (length ys)) Less (omega arith)
compared-end (x ∷ xs) [] zero used = nat_cmp_is (suc (length xs)) 0 Greater (omega arith)
compared-end (x ∷ xs) (y ∷ ys) zero used = absurd (omega arith)
compared-end [] ys (suc i) used = absurd (omega arith)
compared-end (x ∷ xs) [] (suc i) used = absurd (omega arith)
compared-end (x ∷ xs) (y ∷ ys) (suc i) used = compared-end xs ys i (omega arith) ∙ nat_cmp_suc (length xs) (length ys)

pub compared_reversed-end : (xs ys : List Value) (i : ℕ) → i ≡ min (length xs) (length ys)
    → compared (drop i (reverse xs)) (drop i (reverse ys)) ≡ nat_cmp (length xs) (length ys)
compared_reversed-end xs ys i used =
    compared-end (reverse xs) (reverse ys) i (rw (length-reverse xs, length-reverse ys) used) ∙ rw (length-reverse xs, length-reverse ys) refl

pub drop_reversed : (xs : List Value) (i : ℕ) (x : Value) → i < length xs → x ≡ get_or xs (length xs - 1 - i) x
    → drop i (reverse xs) ≡ x ∷ drop (i + 1) (reverse xs)
drop_reversed xs i x within read =
    let within' : i < length (reverse xs) = rw length-reverse within in
    let here : get_or (reverse xs) i x ≡ x = get_or-reverse xs i x within ∙ sym read in
    rw (drop_more (reverse xs) i x within', here) refl

pub reversed_step : (xs ys : List Value) (i : ℕ) (x y : Value)
    → i < length xs → i < length ys → x ≡ get_or xs (length xs - 1 - i) x → y ≡ get_or ys (length ys - 1 - i) y
    → compared (drop i (reverse xs)) (drop i (reverse ys))
    ≡ ordering_then (order (value_tree x) (value_tree y)) (compared (drop (i + 1) (reverse xs)) (drop (i + 1) (reverse ys)))
reversed_step xs ys i x y in_xs in_ys x-read y-read = rw (drop_reversed xs i x in_xs x-read, drop_reversed ys i y in_ys y-read) refl

-- a found difference decides, and without one the rest does
pub decided : (found rest : Ordering) → not (ordering_index found == 1) ≡ true → found ≡ ordering_then found rest
decided Less rest h = refl
decided Equal rest h = (cc)
decided Greater rest h = refl

pub undecided : (found rest : Ordering) → not (ordering_index found == 1) ≡ false → ordering_then found rest ≡ rest
undecided Less rest h = (cc)
undecided Equal rest h = refl
undecided Greater rest h = (cc)

-- the answers for two tuples and for two sets
pub tuples_compared : (xs ys : List ValueTree) → order (Tuple (parts xs)) (Tuple (parts ys)) ≡ lexicographic (map order xs) ys
tuples_compared xs ys = rw (orders-parts xs, parts_list-parts ys) refl

pub sets_compared : (xs ys : List ValueTree) → order (Set (parts xs)) (Set (parts ys)) ≡ lexicographic (map order (reverse xs)) (reverse ys)
sets_compared xs ys = rw (orders-parts xs, parts_list-parts ys, map-reverse order xs) refl
