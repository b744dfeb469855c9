-- Two hypers have one list of kept values, and their weights in whole numbers are one.
use Rattle.std.proofs.Common.{◌≡◌, ◌≢◌, ℕ, zero, suc, ◌+◌, ◌-◌, ◌*◌, ◌/◌, ◌<◌, ◌≤◌, ◌==◌, sym, ap, ◌∙◌, subst, arith, ⊎_elim, inl, inr, List, [], ◌∷◌, length, Contains, if◌then◌else◌, slice_index}
use Rattle.std.specs.Int.{◌∣◌}
use Rattle.std.proofs.Math.IntN.{pos}
use Rattle.std.proofs.Math.Nat.{dvd-mul_right, dvd-mul_left, dvd_of_mul-dvd-mul_left, mul-div_cancel', mul-div_cancel_left}
use Rattle.std.proofs.lemmas.Bool.{cases_lt, cases_eq}
use Rattle.std.proofs.lemmas.List.Elements.{Contains-get_or}
use Rattle.std.specs.List.Sorted.{IsStrictlyIncreasing}
use Rattle.kf_frac.specs.Divisors.{gcd_of}
use Rattle.kf_frac.proofs.CommonDivisors.{gcd_is, gcd_positive, gcd_swap, gcd_multiples}
use Rattle.kf_frac.proofs.CommonMultiples.{product_positive}
use Rattle.kf_column.proofs.AtMostOne.{In, Ordered, same_lists}
use Rattle.kf_hyper.proofs.Rising.{Rises, rises}
use Rattle.kf_simplex.specs.Systems.{LinearSystem, IsSystem, right_column}
use Rattle.kf_simplex.specs.Laws.{SameNumbers}
use Rattle.kf_refine.specs.Refinements.{HyperTree, count, joint}
use Rattle.kf_refine.specs.Equations.{AreKept, AreWhole, AreEquations}

-- ---- the kept values

not_both : (x y : ℕ) → x < y → y < x → ⊥
not_both x y p q = absurd (omega arith)

past_low : (low : ℕ) (xs : List ℕ) → Rises low xs → (y : ℕ) → In y xs → low ≤ y
past_low low [] up y here = absurd here
past_low low (x ∷ xs) (from, rest) y here =
    ⊎_elim (λ (e : y ≡ x). omega (arith, e, from)) (λ (h : In y xs). omega (arith, from, past_low (x + 1) xs rest y h)) here

ordered : (low : ℕ) (xs : List ℕ) → Rises low xs → Ordered (λ (x y : ℕ). x < y) not_both xs
ordered low [] up = tt
ordered low (x ∷ xs) (from, rest) = ((λ y here. omega (arith, past_low (x + 1) xs rest y here)), ordered (x + 1) xs rest)

pub in_list : (xs : List ℕ) (x : ℕ) → Contains xs x → In x xs
in_list [] x has = absurd (omega (arith, has.1))
in_list (y ∷ ys) x (zero, within, is) = inl (sym is)
in_list (y ∷ ys) x (suc k, within, is) = inr (in_list ys x (k, omega arith, is))

pub has_member : (xs : List ℕ) (x : ℕ) → In x xs → Contains xs x
has_member [] x here = absurd here
has_member (y ∷ ys) x here =
    ⊎_elim (λ (e : x ≡ y). (zero, omega arith, sym e)) (λ (h : In x ys). let c = has_member ys x h in (suc c.0, omega (arith, c.1), c.2)) here

-- ascending lists with the same members are the same
one_list : (xs ys : List ℕ) → IsStrictlyIncreasing xs → IsStrictlyIncreasing ys → ((x : ℕ) → Contains xs x → Contains ys x)
    → ((x : ℕ) → Contains ys x → Contains xs x) → xs ≡ ys
one_list xs ys p q sub sup =
    same_lists (λ (x y : ℕ). x < y) not_both xs ys (ordered 0 xs (rises xs p)) (ordered 0 ys (rises ys q))
    (λ x here. in_list ys x (sub x (has_member xs x here))) (λ x here. in_list xs x (sup x (has_member ys x here)))

pub one_kept : (a b : HyperTree) (xs ys : List ℕ) → AreKept a b xs → AreKept a b ys → xs ≡ ys
one_kept a b xs ys p q =
    one_list xs ys p.ascending q.ascending (λ x has. (q.kept x).1 ((p.kept x).0 has)) (λ x has. (p.kept x).1 ((q.kept x).0 has))

-- ---- their whole weights

cancelled : (g a b : ℕ) → 0 < g → g * a ≡ g * b → a ≡ b
cancelled g a b some e = sym (mul-div_cancel_left a some) ∙ ap (λ (n : ℕ). n / g) e ∙ mul-div_cancel_left b some

-- the share of p in p and q divides what is q times over
pub shared : (p q x y : ℕ) → 0 < q → p * x ≡ q * y → (p / gcd_of p q) ∣ y
shared p q x y some e =
    let g : ℕ = gcd_of p q in
    let is = gcd_is p q in
    let whole : g * (p / g) ≡ p = mul-div_cancel' g is.0 in
    let of_q : p ∣ (y * q) = subst (λ (n : ℕ). p ∣ n) (e ∙ omega arith) (dvd-mul_right p x) in
    let both : p ∣ gcd_of (y * p) (y * q) = (gcd_is (y * p) (y * q)).2 p (dvd-mul_left p y) of_q in
    let times : p ∣ (g * y) = subst (λ (n : ℕ). p ∣ n) (gcd_multiples y p q ∙ omega arith) both in
    dvd_of_mul-dvd-mul_left {k = g} (p / g) {n = y} (gcd_positive p q some) (subst (λ (n : ℕ). n ∣ (g * y)) (sym whole) times)

pub all_of : (p g : ℕ) → g ∣ p → p / g ≡ 1 → p ≡ g
all_of p g divides one = sym (mul-div_cancel' g divides) ∙ ap (λ (n : ℕ). g * n) one ∙ omega arith

-- over one scale, two multiples of one weight
crossed : (s o f p g j x y : ℕ) → 0 < s → o * s * x ≡ f * j → p * s * y ≡ g * j → (g * o) * x ≡ (f * p) * y
crossed s o f p g j x y some d e =
    cancelled s ((g * o) * x) ((f * p) * y) some
    (turn s g o x ∙ ap (λ (n : ℕ). g * n) d ∙ swap g f j ∙ ap (λ (n : ℕ). f * n) (sym e) ∙ sym (turn s f p y))
  where
    turn : (s g o x : ℕ) → s * ((g * o) * x) ≡ g * (o * s * x)
    turn s g o x = omega arith

    swap : (g f j : ℕ) → g * (f * j) ≡ f * (g * j)
    swap g f j = omega arith

-- two families of weights agree at the kept values
pub record Agree (m : ℕ) (xs : List ℕ) (u w : ℕ → ℕ → ℕ) : Type 0 where
  pub same : (x i : ℕ) → Contains xs x → i < m → u x i ≡ w x i

module _ (a b : HyperTree) (xs : List ℕ) (u v w z : ℕ → ℕ → ℕ) (of_a : 0 < a.scale) (of_b : 0 < b.scale)
    (h : AreWhole a b xs u v) (k : AreWhole a b xs w z) where
  abbrev here : ℕ
  here = k.factor * h.over

  abbrev there : ℕ
  there = h.factor * k.over

  with_a : (x i : ℕ) → Contains xs x → i < count a → here * u x i ≡ there * w x i
  with_a x i has l = crossed a.scale h.over h.factor k.over k.factor (joint a x i) (u x i) (w x i) of_a (h.of_a x i has l) (k.of_a x i has l)

  with_b : (x j : ℕ) → Contains xs x → j < count b → here * v x j ≡ there * z x j
  with_b x j has l = crossed b.scale h.over h.factor k.over k.factor (joint b x j) (v x j) (z x j) of_b (h.of_b x j has l) (k.of_b x j has l)

  some_here : 0 < here
  some_here = product_positive k.factor h.over k.some_factor h.some_over

  some_there : 0 < there
  some_there = product_positive h.factor k.over h.some_factor k.some_over

  first_share : here / gcd_of here there ≡ 1
  first_share =
      k.no_common_factor (here / gcd_of here there)
      (λ x i has l. shared here there (u x i) (w x i) some_there (with_a x i has l))
      (λ x j has l. shared here there (v x j) (z x j) some_there (with_b x j has l))

  second_share : there / gcd_of there here ≡ 1
  second_share =
      h.no_common_factor (there / gcd_of there here)
      (λ x i has l. shared there here (w x i) (u x i) some_here (sym (with_a x i has l)))
      (λ x j has l. shared there here (z x j) (v x j) some_here (sym (with_b x j has l)))

  same_times : here ≡ there
  same_times =
      all_of here (gcd_of here there) (gcd_is here there).0 first_share
      ∙ gcd_swap here there
      ∙ sym (all_of there (gcd_of there here) (gcd_is there here).0 second_share)

  pub one_whole : Agree (count a) xs u w × Agree (count b) xs v z
  one_whole = (
    record { same = λ x i has l. cancelled here (u x i) (w x i) some_here (with_a x i has l ∙ ap (λ (n : ℕ). n * w x i) (sym same_times)) },
    record { same = λ x j has l. cancelled here (v x j) (z x j) some_here (with_b x j has l ∙ ap (λ (n : ℕ). n * z x j) (sym same_times)) },
  )

-- ---- the system

-- a number below so many rows of n places is one of them
pub record Place (rows n k : ℕ) : Type 0 where
  pub row : ℕ
  pub column : ℕ
  pub inside : row < rows
  pub within : column < n
  pub is : k ≡ row * n + column

pub place : (rows n k : ℕ) → k < rows * n → Place rows n k
place zero n k l = absurd (omega arith)
place (suc rows) n k l =
    ⊎_elim
    (λ (before : k < rows * n).
    let p = place rows n k before in
    let inside = p.inside in
    record { row = p.row; column = p.column; inside = omega arith; within = p.within; is = p.is })
    (λ (last : rows * n ≤ k).
    record { row = rows; column = k - rows * n; inside = omega arith; within = omega arith; is = omega arith })
    (cases_lt k (rows * n))

-- a system spells these weights out, for m and n inners
pub record Spells (m n : ℕ) (values : List ℕ) (u v : ℕ → ℕ → ℕ) (s : LinearSystem) : Type 0 where
  pub system : IsSystem s
  pub unknowns : s.unknowns ≡ m * n
  pub equations : s.equations ≡ length values * n + m
  pub weight : (q j i l : ℕ) → q < length values → j < n → i < m → l < n
      → s.number (q * n + j) (i * n + l) ≡ (if j == l then pos (u (slice_index values q) i) else pos 0)
  pub sum : (q j : ℕ) → q < length values → j < n → s.number (q * n + j) (right_column s) ≡ pos (v (slice_index values q) j)
  pub entry : (p i l : ℕ) → p < m → i < m → l < n → s.number (length values * n + p) (i * n + l) ≡ (if p == i then pos 1 else pos 0)
  pub one : (p : ℕ) → p < m → s.number (length values * n + p) (right_column s) ≡ pos 1

pub spells : (a b : HyperTree) (s : LinearSystem) (h : AreEquations a b s) → Spells (count a) (count b) h.values h.u h.v s
spells a b s h = record {
  system = h.system;
  unknowns = h.unknowns;
  equations = h.equations;
  weight = h.weight;
  sum = h.sum;
  entry = h.entry;
  one = h.one;
}

pub member : (xs : List ℕ) (q : ℕ) → q < length xs → Contains xs (slice_index xs q)
member xs q l = Contains-get_or xs q 0 l

module _ (m n : ℕ) (xs : List ℕ) (u v w z : ℕ → ℕ → ℕ) (s t : LinearSystem) (h : Spells m n xs u v s) (k : Spells m n xs w z t)
    (of_a : Agree m xs u w) (of_b : Agree n xs v z) where
  abbrev SameAt : ℕ → ℕ → Type 0
  SameAt e c = s.number e c ≡ t.number e c

  -- at an unknown
  at_weight : (q j i l : ℕ) → q < length xs → j < n → i < m → l < n → SameAt (q * n + j) (i * n + l)
  at_weight q j i l ql jl il ll =
      h.weight q j i l ql jl il ll
      ∙ ap (λ (x : ℕ). if j == l then pos x else pos 0) (of_a.same (slice_index xs q) i (member xs q ql) il)
      ∙ sym (k.weight q j i l ql jl il ll)

  at_entry : (p i l : ℕ) → p < m → i < m → l < n → SameAt (length xs * n + p) (i * n + l)
  at_entry p i l pl il ll = h.entry p i l pl il ll ∙ sym (k.entry p i l pl il ll)

  unknown : (e c : ℕ) → e < length xs * n + m → c < m * n → SameAt e c
  unknown e c el cl =
      let c' : Place m n c = place m n c cl in
      ⊎_elim
      (λ (before : e < length xs * n).
      let e' : Place (length xs) n e = place (length xs) n e before in
      subst (λ (e : ℕ). SameAt e c) (sym e'.is) (subst (λ (c : ℕ). SameAt (e'.row * n + e'.column) c) (sym c'.is)
      (at_weight e'.row e'.column c'.row c'.column e'.inside e'.within c'.inside c'.within)))
      (λ (last : length xs * n ≤ e).
      let is : e ≡ length xs * n + (e - length xs * n) = omega arith in
      subst (λ (e : ℕ). SameAt e c) (sym is) (subst (λ (c : ℕ). SameAt (length xs * n + (e - length xs * n)) c) (sym c'.is)
      (at_entry (e - length xs * n) c'.row c'.column (omega arith) c'.inside c'.within)))
      (cases_lt e (length xs * n))

  same_unknowns : s.unknowns ≡ t.unknowns
  same_unknowns = h.unknowns ∙ sym k.unknowns

  same_equations : s.equations ≡ t.equations
  same_equations = h.equations ∙ sym k.equations

  -- at the right side
  same_right : right_column s ≡ right_column t
  same_right = λ i. same_unknowns i + same_equations i

  at_sum : (q j : ℕ) → q < length xs → j < n → SameAt (q * n + j) (right_column s)
  at_sum q j ql jl =
      h.sum q j ql jl
      ∙ ap pos (of_b.same (slice_index xs q) j (member xs q ql) jl)
      ∙ sym (k.sum q j ql jl)
      ∙ ap (t.number (q * n + j)) (sym same_right)

  at_one : (p : ℕ) → p < m → SameAt (length xs * n + p) (right_column s)
  at_one p pl = h.one p pl ∙ sym (k.one p pl) ∙ ap (t.number (length xs * n + p)) (sym same_right)

  right : (e : ℕ) → e < length xs * n + m → SameAt e (right_column s)
  right e el =
      ⊎_elim
      (λ (before : e < length xs * n).
      let e' : Place (length xs) n e = place (length xs) n e before in
      subst (λ (e : ℕ). SameAt e (right_column s)) (sym e'.is) (at_sum e'.row e'.column e'.inside e'.within))
      (λ (last : length xs * n ≤ e).
      let is : e ≡ length xs * n + (e - length xs * n) = omega arith in
      subst (λ (e : ℕ). SameAt e (right_column s)) (sym is) (at_one (e - length xs * n) (omega arith)))
      (cases_lt e (length xs * n))

  -- at an artificial column
  artificial : (e x : ℕ) → e < s.equations → x < s.equations → SameAt e (s.unknowns + x)
  artificial e x el xl =
      let el' : e < t.equations = subst (λ (y : ℕ). e < y) same_equations el in
      let xl' : x < t.equations = subst (λ (y : ℕ). x < y) same_equations xl in
      let moved : t.number e (t.unknowns + x) ≡ t.number e (s.unknowns + x) = ap (λ (y : ℕ). t.number e (y + x)) (sym same_unknowns) in
      ⊎_elim
      (λ (same : e ≡ x).
      subst (λ (y : ℕ). SameAt e (s.unknowns + y)) same
      (h.system.same e el ∙ sym (k.system.same e el') ∙ ap (λ (y : ℕ). t.number e (y + e)) (sym same_unknowns)))
      (λ (d : e ≢ x). h.system.other e x el xl d ∙ sym (k.system.other e x el' xl' d) ∙ moved)
      (cases_eq e x)

  each : (e c : ℕ) → e < s.equations → c ≤ right_column s → SameAt e c
  each e c el cl =
      let el' : e < length xs * n + m = subst (λ (y : ℕ). e < y) h.equations el in
      ⊎_elim
      (λ (before : c < s.unknowns). unknown e c el' (subst (λ (y : ℕ). c < y) h.unknowns before))
      (λ (past : s.unknowns ≤ c). ⊎_elim
      (λ (inside : c < right_column s).
      let is : c ≡ s.unknowns + (c - s.unknowns) = omega arith in
      subst (λ (c : ℕ). SameAt e c) (sym is) (artificial e (c - s.unknowns) el (omega arith)))
      (λ (last : right_column s ≤ c).
      let is : c ≡ right_column s = omega arith in
      subst (λ (c : ℕ). SameAt e c) (sym is) (right e el'))
      (cases_lt c (right_column s)))
      (cases_lt c s.unknowns)

  same_numbers : SameNumbers s t
  same_numbers = record { unknowns = same_unknowns; equations = same_equations; number = each }

-- so only one system
pub one_system : (a b : HyperTree) (s t : LinearSystem) → 0 < a.scale → 0 < b.scale → AreEquations a b s → AreEquations a b t → SameNumbers s t
one_system a b s t of_a of_b h k =
    let values : h.values ≡ k.values = one_kept a b h.values k.values h.are_kept k.are_kept in
    let whole : AreWhole a b h.values k.u k.v = subst (λ (xs : List ℕ). AreWhole a b xs k.u k.v) (sym values) k.are_whole in
    let agree = one_whole a b h.values h.u h.v k.u k.v of_a of_b h.are_whole whole in
    let other : Spells (count a) (count b) h.values k.u k.v t =
    subst (λ (xs : List ℕ). Spells (count a) (count b) xs k.u k.v t) (sym values) (spells a b t k) in
    same_numbers (count a) (count b) h.values h.u h.v k.u k.v s t (spells a b s h) other agree.0 agree.1
