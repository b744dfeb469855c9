-- The rules of types, as the code meets them.
use Rattle.std.proofs.Common.{◌≡◌, ℕ, ℤ, ◌*◌, ◌-◌, ◌%◌, ◌^◌, ◌<◌, ◌≤◌, ◌-ℤ◌, min, true, false, List, [], ◌∷◌, ◌++◌, length, map, get_or, take, zero, suc, Ok, Err, Result, refl, sym, ap, ◌∙◌, subst, ⊎_elim, inl, inr, true≢false, arith}
use Rattle.std.proofs.Math.Nat.{mul-le-mul_left, mul-le-mul_right, pow-le-pow_right}
use Rattle.std.proofs.lemmas.Bool.{cases_lt}
use Rattle.std.proofs.lemmas.List.{map-append}
use Rattle.kf_value.specs.declared.ty.Ty.{Ty}
use Rattle.kf_value.specs.Types.{TypeTree, Range, TupleOf, SetOf, type_parts, count, counted, product, in_bounds}
use Rattle.kf_value.specs.TypeViews.{type_tree}
use Rattle.kf_value.proofs.Trees.{counts-type_parts}
use Rattle.kf_ast.specs.TypeForms.{TypeForm, type_at, types}
use Rattle.kf_ast.specs.Views.{type_form}
use Rattle.kf_ast.specs.TypeForms as form
use Rattle.kf_ast.specs.declared.ty_tree.TyTree.{TyTree}
use Rattle.kf_check.specs.declared.errors.TypeError.{TypeError}
use Rattle.kf_check.specs.declared.errors.TypeError.TheVariants as broken
use Rattle.kf_check.specs.Types.{greatest_size, Sized, JudgesType, JudgesTypes}
use Rattle.kf_check.proofs.DeclTurns.{product_grows}
use Rattle.kf_check.proofs.Each.{Each, around}
use Rattle.kf_check.proofs.Each as each
use Rattle.kf_check.specs.Variables.{greatest_base}

-- a written type is this type
abbrev pub IsType : TyTree → Ty → Type 0
IsType x t = JudgesType greatest_size (type_form x) (Ok (type_tree t))

pub types_judged : {xs : List TyTree} {ts : List Ty} → Each IsType xs ts → JudgesTypes (types (map type_form xs)) (Ok (map type_tree ts))
types_judged each.none = refl
types_judged (each.more {y = t} {ys = ts} h hs) = (type_tree t, h, (map type_tree ts, types_judged hs, refl))

first_broken : {ps : List TyTree} {ts : List Ty} (x : TyTree) (rest : List TyTree) (e : TypeError) → Each IsType ps ts → JudgesType greatest_size (type_form x) (Err e)
    → JudgesTypes (types (map type_form (ps ++ x ∷ rest))) (Err e)
first_broken x rest e each.none h = inl h
first_broken x rest e (each.more {y = t} r rs) h = inr (type_tree t, r, inl (first_broken x rest e rs h))

pub types_broken : (xs : List TyTree) (ts : List Ty) (i : ℕ) (x : TyTree) (e : TypeError) → i < length xs → x ≡ get_or xs i x → Each IsType (take i xs) ts
    → JudgesType greatest_size (type_form x) (Err e) → JudgesTypes (types (map type_form xs)) (Err e)
types_broken xs ts i x e within read before h =
    let P : List TyTree → Type 0 = λ ys. JudgesTypes (types (map type_form ys)) (Err e) in
    subst P (sym (around xs i x within read)) (first_broken x _ e before h)

tuple_count : (ts : List TypeTree) → count (TupleOf (type_parts ts)) ≡ product (map count ts)
tuple_count ts = ap product (counts-type_parts ts)

-- a range whose bounds are read from their bits
pub shown_range : (x : TypeForm) (at : ℕ) (lo hi low high : ℤ) → x ≡ type_at at (form.Range lo hi) → low ≡ lo → high ≡ hi → x ≡ type_at at (form.Range low high)
shown_range x at lo hi low high shown l h = cc

module _ (limit : ℕ) (x : TypeForm) (at : ℕ) where
  as_shown : (y : TypeForm) → x ≡ y → (r : Result TypeTree TypeError) → JudgesType limit y r → JudgesType limit x r
  as_shown y shown r h = subst (λ z. JudgesType limit z r) (sym shown) h

  large_here : (t : TypeTree) (n : ℕ) → n ≡ count t → limit < n → Sized limit at t (Err (broken.TypeTooLarge at))
  large_here t n is large = (λ u g. (let low = g.0 in omega arith), refl)

  pub range_broken : (lo hi : ℤ) → x ≡ type_at at (form.Range lo hi) → in_bounds lo hi ≡ false → JudgesType limit x (Err (broken.BadRange at))
  range_broken lo hi shown outside = as_shown (type_at at (form.Range lo hi)) shown _ (inl (λ y h. true≢false (sym h.0 ∙ outside), refl))

  pub range_large : (lo hi : ℤ) → x ≡ type_at at (form.Range lo hi) → in_bounds lo hi ≡ true → (n : ℕ) → n ≡ counted (hi -ℤ lo) → limit < n
      → JudgesType limit x (Err (broken.TypeTooLarge at))
  range_large lo hi shown inside n is large = as_shown (type_at at (form.Range lo hi)) shown _ (inr (Range lo hi, (inside, refl), large_here (Range lo hi) n is large))

  pub range_judged : (lo hi : ℤ) → x ≡ type_at at (form.Range lo hi) → in_bounds lo hi ≡ true → (n : ℕ) → n ≡ counted (hi -ℤ lo) → n ≤ limit
      → JudgesType limit x (Ok (Range lo hi))
  range_judged lo hi shown inside n is few = as_shown (type_at at (form.Range lo hi)) shown _ (Range lo hi, (inside, refl), (rw is at few, refl))

  module _ (xs items : List TyTree) (shown : x ≡ type_at at (form.TupleOf (types (map type_form items)))) (same : xs ≡ items) where
    shown_parts : x ≡ type_at at (form.TupleOf (types (map type_form xs)))
    shown_parts = shown ∙ ap (λ ys. type_at at (form.TupleOf (types (map type_form ys)))) (sym same)

    pub tuple_broken : (e : TypeError) → JudgesTypes (types (map type_form xs)) (Err e) → JudgesType limit x (Err e)
    tuple_broken e h = as_shown (type_at at (form.TupleOf (types (map type_form xs)))) shown_parts _ (inl h)

    pub tuple_large : (ts : List TypeTree) (n : ℕ) → JudgesTypes (types (map type_form xs)) (Ok ts) → n ≡ min (product (map count ts)) (2 ^ 32 - 1) → limit < n
        → JudgesType limit x (Err (broken.TypeTooLarge at))
    tuple_large ts n h is large =
        let many : limit < count (TupleOf (type_parts ts)) = omega (arith, tuple_count ts) in
        as_shown (type_at at (form.TupleOf (types (map type_form xs)))) shown_parts _ (inr (ts, h, large_here (TupleOf (type_parts ts)) (count (TupleOf (type_parts ts))) refl many))

    pub tuple_judged : (ts : List TypeTree) (n : ℕ) → JudgesTypes (types (map type_form xs)) (Ok ts) → n ≡ min (product (map count ts)) (2 ^ 32 - 1) → n ≤ limit → limit ≤ 65536
        → JudgesType limit x (Ok (TupleOf (type_parts ts)))
    tuple_judged ts n h is few low =
        let fits : count (TupleOf (type_parts ts)) ≤ limit = omega (arith, tuple_count ts) in
        as_shown (type_at at (form.TupleOf (types (map type_form xs)))) shown_parts _ (ts, h, (fits, refl))

  module _ (base : TypeForm) (shown : x ≡ type_at at (form.SetOf base)) where
    pub set_broken : (e : TypeError) → JudgesType greatest_base base (Err e) → JudgesType limit x (Err e)
    set_broken e h = as_shown (type_at at (form.SetOf base)) shown _ (inl h)

    pub set_large : (t : TypeTree) (n : ℕ) → JudgesType greatest_base base (Ok t) → n ≡ 2 ^ count t → limit < n → JudgesType limit x (Err (broken.TypeTooLarge at))
    set_large t n h is large = as_shown (type_at at (form.SetOf base)) shown _ (inr (t, h, large_here (SetOf t) n is large))

    pub set_judged : (t : TypeTree) (n : ℕ) → JudgesType greatest_base base (Ok t) → n ≡ 2 ^ count t → n ≤ limit → JudgesType limit x (Ok (SetOf t))
    set_judged t n h is few = as_shown (type_at at (form.SetOf base)) shown _ (t, h, (rw is at few, refl))

pub tuple_size : (ts : List TypeTree) (n limit : ℕ) → n ≡ min (product (map count ts)) (2 ^ 32 - 1) → n ≤ limit → limit ≤ 65536 → n ≡ count (TupleOf (type_parts ts))
tuple_size ts n limit is few low =
    let exact : n ≡ product (map count ts) = omega arith in
    exact ∙ sym (tuple_count ts)

-- ---- products that are held as far as they fit

saturates_some : (a p m : ℕ) → 0 < p → min (min a m * p) m ≡ min (a * p) m
saturates_some a p m some =
    ⊎_elim
    (λ (low : m < a). let grown : m * 1 ≤ m * p = mul-le-mul_left m some in
    let more : m * p ≤ a * p = mul-le-mul_right p (omega arith) in
    let held : min a m ≡ m = omega arith in rw held (omega arith))
    (λ (low : a ≤ m). let held : min a m ≡ a = omega arith in rw held refl)
    (cases_lt m a)

min_saturates : (a p m : ℕ) → min (min a m * p) m ≡ min (a * p) m
min_saturates a zero m = omega arith
min_saturates a (suc p) m = saturates_some a (suc p) m (omega arith)

pub product_turn : (ts : List Ty) (t : Ty) (held size : ℕ) → held ≡ min (product (map count (map type_tree ts))) (2 ^ 32 - 1) → size ≡ count (type_tree t)
    → min (held * size) (2 ^ 32 - 1) ≡ min (product (map count (map type_tree (ts ++ t ∷ [])))) (2 ^ 32 - 1)
product_turn ts t held size before is =
    let most = product (map count (map type_tree ts)) in
    ap (λ h. min (h * size) (2 ^ 32 - 1)) before
    ∙ (min_saturates most size (2 ^ 32 - 1)
    ∙ (ap (λ s. min (most * s) (2 ^ 32 - 1)) is ∙ ap (λ p. min p (2 ^ 32 - 1)) (sym (ap (λ us. product (map count us)) (map-append type_tree ts (t ∷ [])) ∙ product_grows (map type_tree ts) (type_tree t)))))

-- a shift of 1 within 32 bits
pub shifted : (n m : ℕ) → n ≤ 16 → n ≡ m → (1 * 2 ^ n) % 4294967296 ≡ 2 ^ m
shifted n m low same =
    let small : 2 ^ n ≤ 2 ^ 16 = pow-le-pow_right (omega arith) low in
    let one : (1 * 2 ^ n) % 4294967296 ≡ 2 ^ n = omega arith in
    one ∙ ap (λ k. 2 ^ k) same
