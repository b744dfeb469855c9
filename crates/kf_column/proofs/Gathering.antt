-- The order of inners.
use Rattle.std.proofs.Common.{◌≡◌, ℕ, List, [], ◌∷◌, Bool, true, false, refl, nat_cmp, nat_lt, ◌==◌, cond}
use Rattle.std.specs.declared.cmp.Ordering.{Ordering}
use Rattle.std.specs.declared.cmp.Ordering.TheVariants.{Less, Equal, Greater}
use Rattle.std.specs.Ordering.{ordering_then}
use Rattle.std.specs.Cmp.{IsTotalOrder, then_total, on_total, nat_cmp_total}
use Rattle.std.proofs.lemmas.Bool.{eqb-true}
use Rattle.std.specs.Cmp.Lexicographic.{lists_total}
use Rattle.kf_column.specs.declared.entry.Entry.{Entry}
use Rattle.kf_column.specs.Hypers.{entry_order}
use Rattle.kf_column.specs.Shapes.{list_order}

then_equal : (a b : Ordering) → ordering_then a b ≡ Equal → (a ≡ Equal) × (b ≡ Equal)
then_equal Less b e = absurd (cc)
then_equal Equal b e = (refl, e)
then_equal Greater b e = absurd (cc)

cond_equal : (s t : Bool) → cond s Less (cond t Equal Greater) ≡ Equal → t ≡ true
cond_equal true t e = absurd (cc)
cond_equal false true e = refl
cond_equal false false e = absurd (cc)

pub nat_equal : (x y : ℕ) → nat_cmp x y ≡ Equal → x ≡ y
nat_equal x y e = eqb-true x y (cond_equal (nat_lt x y) (x == y) e)

entry_equal : (a b : Entry) → entry_order a b ≡ Equal → a ≡ b
entry_equal a b e =
    let both = then_equal (nat_cmp a.value b.value) (nat_cmp a.weight b.weight) e in
    let v = nat_equal a.value b.value both.0 in
    let w = nat_equal a.weight b.weight both.1 in
    λ i. record { value = v i; weight = w i }

-- lists that compare as equal are the same
pub same_list : (u v : List Entry) → list_order u v ≡ Equal → u ≡ v
same_list [] [] e = refl
same_list [] (y ∷ ys) e = absurd (cc)
same_list (x ∷ xs) [] e = absurd (cc)
same_list (x ∷ xs) (y ∷ ys) e =
    let both = then_equal (entry_order x y) (list_order xs ys) e in
    let x_is = entry_equal x y both.0 in
    let rest = same_list xs ys both.1 in
    λ i. x_is i ∷ rest i

pub list_total : IsTotalOrder list_order
list_total = lists_total (then_total (on_total (λ (e : Entry). e.value) nat_cmp_total) (on_total (λ (e : Entry). e.weight) nat_cmp_total))
