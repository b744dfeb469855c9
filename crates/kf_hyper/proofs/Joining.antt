-- Classes of one inner, which stand side by side, joined to one class.
use Rattle.std.proofs.Common.{◌≡◌, ℕ, ◌+◌, ◌-◌, ◌<◌, ◌≤◌, List, [], ◌∷◌, ◌++◌, Bool, true, false, All, map, sum_by, refl, sym, ◌∙◌, ap, subst, arith, add-one, suc, length, get_or, set, take, drop, drop-cons, append_assoc, if◌then◌else◌, ⊎_elim, ◌⊎◌, inl, inr}
use mathlib.Core.HLevel.{is_prop→PathP}
use Rattle.std.proofs.Props.{props}
use Rattle.std.specs.Ordering.{is_eq, is_lt, ordering_reverse}
use Rattle.std.specs.Int.{◌∣◌}
use Rattle.std.specs.List.{AllByRecursion, swap}
use Rattle.std.specs.List.Sorted.{IsSortedBy, IsStrictlySortedBy, IsPermutation}
use Rattle.std.specs.declared.cmp.Ordering.{Ordering}
use Rattle.std.specs.declared.cmp.Ordering.TheVariants.{Less, Equal, Greater}
use Rattle.std.proofs.Math.Nat.{dvd-add}
use Rattle.std.proofs.lemmas.Bool.{cases_eq}
use Rattle.std.proofs.lemmas.List.{take_more, take-set, take-set-le, drop-set-lt, get_or-set_same, get_or-set_other, length-set, get_or_default, drop_all}
use Rattle.std.proofs.lemmas.List.Edits.{swap_is, length-swap}
use Rattle.std.proofs.lemmas.List.MinMax.{ranks_by}
use Rattle.std.proofs.lemmas.List.Sorted.{sorted_far, IsPermutation-map, All-permutation, sum_by-IsPermutation}
use Rattle.std.proofs.lemmas.List.Sums.{sum_by-cons, sum_by-append}
use Rattle.std.proofs.lemmas.List.Elements.{All-head, All-tail, All-cons}
use Rattle.kf_column.specs.declared.entry.Entry.{Entry}
use Rattle.kf_hyper.specs.declared.class.Class.{Class}
use Rattle.kf_column.specs.Columns.{total, proportional}
use Rattle.kf_column.specs.Hypers.{IsInner}
use Rattle.kf_column.specs.Joint.{mass}
use Rattle.kf_column.specs.Shapes.{IsBelow, list_order}
use Rattle.kf_column.specs.Classes.{ClassesOf, AreAscending}
use Rattle.kf_hyper.specs.ClassViews.{class_of}
use Rattle.kf_column.proofs.Gathering.{same_list, list_total}
use Rattle.kf_column.proofs.Inserting.{orderings}
use Rattle.kf_column.proofs.Proportions.{bool_cases}
use Rattle.kf_column.proofs.Steps.{if_adds}

abbrev Pair : Type 0
Pair = List Entry × ℕ

abbrev pub nothing : Class
nothing = record { inner = []; whole = 0; total = 0; summed = refl }

-- a class with so much more
abbrev pub heavier : Class → ℕ → Class
heavier c more = record { inner = c.inner; whole = c.whole; total = c.total + more; summed = c.summed }

abbrev pub is_same : Class → Class → Bool
is_same a b = is_eq (list_order a.inner b.inner)

-- the classes behind a first one, each added to the one before where it has the same inner
abbrev pub joined : Class → List Class → List Class
joined first [] = first ∷ []
joined first (c ∷ cs) = if is_same c first then joined (heavier first c.total) cs else first ∷ joined c cs

-- what is done, and what the rest will be joined to
abbrev pub half_joined : ℕ → ℕ → List Class → List Class
half_joined last i cs = take last cs ++ joined (get_or cs last nothing) (drop i cs)

-- ---- one turn

module _ (cs : List Class) (last i : ℕ) (first c : Class) (first_is : first ≡ get_or cs last first) (c_is : c ≡ get_or cs i c) (before : last < i) (within : i < length cs) where
  early : last < length cs
  early = omega (arith, before, within)

  head : get_or cs last nothing ≡ first
  head = get_or_default cs last nothing first early ∙ sym first_is

  rest : drop i cs ≡ c ∷ drop (i + 1) cs
  rest = rw add-one (drop-cons cs i c within ∙ ap (λ (d : Class). d ∷ drop (suc i) cs) (sym c_is))

  -- a class of the same inner is added
  pub join_same : is_same c first ≡ true → half_joined last (i + 1) (set cs last (heavier first c.total)) ≡ half_joined last i cs
  join_same same =
      let new : List Class = set cs last (heavier first c.total) in
      let front : take last new ≡ take last cs = take-set cs last (heavier first c.total) in
      let one : get_or new last nothing ≡ heavier first c.total = get_or-set_same cs last (heavier first c.total) nothing early in
      let behind : drop (i + 1) new ≡ drop (i + 1) cs = drop-set-lt (i + 1) cs last (heavier first c.total) (omega (arith, before)) in
      let turn : joined first (c ∷ drop (i + 1) cs) ≡ joined (heavier first c.total) (drop (i + 1) cs) = rw same refl in
      (λ k. front k ++ joined (one k) (behind k)) ∙ ap (λ (l : List Class). take last cs ++ l) (sym turn) ∙ sym (λ k. take last cs ++ joined (head k) (rest k))

  -- one of another inner is put behind
  pub join_other : is_same c first ≡ false → half_joined (last + 1) (i + 1) (swap cs (last + 1) i) ≡ half_joined last i cs
  join_other other =
      let a : ℕ = last + 1 in
      let x : Class = get_or cs i c in
      let y : Class = get_or cs a c in
      let once : List Class = set cs a x in
      let new : List Class = swap cs a i in
      let new_is : new ≡ set once i y = sym (swap_is cs a i c (omega (arith, before, within)) within) in
      let front : take a new ≡ take last cs ++ first ∷ [] =
      ap (take a) new_is ∙ take-set-le a once i y (omega (arith, before)) ∙ take-set cs a x
      ∙ take_more cs last first early ∙ ap (λ (d : Class). take last cs ++ d ∷ []) (sym first_is) in
      let one : get_or new a nothing ≡ c =
      ap (λ (l : List Class). get_or l a nothing) new_is
      ∙ ⊎_elim
      (λ (e : a ≡ i). subst (λ (n : ℕ). get_or (set once i y) n nothing ≡ c) (sym e) (get_or-set_same once i y nothing (rw length-set within) ∙ ap (λ (n : ℕ). get_or cs n c) e ∙ sym c_is))
      (λ (e : a ≡ i → ⊥). get_or-set_other once i a y nothing e ∙ get_or-set_same cs a x nothing (omega (arith, before, within)) ∙ sym c_is)
      (cases_eq a i) in
      let behind : drop (i + 1) new ≡ drop (i + 1) cs =
      ap (drop (i + 1)) new_is ∙ drop-set-lt (i + 1) once i y (omega arith) ∙ drop-set-lt (i + 1) cs a x (omega (arith, before)) in
      let turn : joined first (c ∷ drop (i + 1) cs) ≡ first ∷ joined c (drop (i + 1) cs) = rw other refl in
      (λ k. front k ++ joined (one k) (behind k)) ∙ append_assoc (take last cs) (first ∷ []) (joined c (drop (i + 1) cs))
      ∙ ap (λ (l : List Class). take last cs ++ l) (sym turn) ∙ sym (λ k. take last cs ++ joined (head k) (rest k))

-- where nothing is left, what is done is all
pub all_joined : (last i : ℕ) (cs : List Class) → last < length cs → length cs ≤ i → half_joined last i cs ≡ take (last + 1) cs
all_joined last i cs within past = ap (λ (l : List Class). take last cs ++ joined (get_or cs last nothing) l) (drop_all i cs past) ∙ sym (take_more cs last nothing within)

-- ---- what joining keeps

equal_is : (o : Ordering) → is_eq o ≡ true → o ≡ Equal
equal_is Less h = absurd (cc)
equal_is Equal h = refl
equal_is Greater h = absurd (cc)

split : {P : Type 0} (c first : Class) → (c.inner ≡ first.inner → is_same c first ≡ true → P) → (is_same c first ≡ false → P) → P
split c first same other =
    ⊎_elim (λ (h : is_same c first ≡ true). same (same_list c.inner first.inner (equal_is (list_order c.inner first.inner) h)) h) other (bool_cases (is_same c first))

same_first : (first c : Class) (cs : List Class) → is_same c first ≡ true → joined first (c ∷ cs) ≡ joined (heavier first c.total) cs
same_first first c cs same = rw same refl

other_first : (first c : Class) (cs : List Class) → is_same c first ≡ false → joined first (c ∷ cs) ≡ first ∷ joined c cs
other_first first c cs other = rw other refl

module _ (f : List Entry → ℕ → ℕ) (adds : (k : List Entry) (a b : ℕ) → f k (a + b) ≡ f k a + f k b) where
  abbrev all_of : List Class → ℕ
  all_of cs = sum_by (λ (p : Pair). f p.0 p.1) (map class_of cs)

  all_of-cons : (c : Class) (cs : List Class) → all_of (c ∷ cs) ≡ f c.inner c.total + all_of cs
  all_of-cons c cs = sum_by-cons (λ (p : Pair). f p.0 p.1) (class_of c) (map class_of cs)

  -- a sum over the classes stays
  pub joined_sums : (first : Class) (cs : List Class) → all_of (joined first cs) ≡ all_of (first ∷ cs)
  joined_sums first [] = refl
  joined_sums first (c ∷ cs) =
      split c first
      (λ same is. let at_first : f c.inner c.total ≡ f first.inner c.total = ap (λ (k : List Entry). f k c.total) same in
      ap all_of (same_first first c cs is) ∙ joined_sums (heavier first c.total) cs
      ∙ omega (arith, all_of-cons (heavier first c.total) cs, all_of-cons first (c ∷ cs), all_of-cons c cs, adds first.inner first.total c.total, at_first))
      (λ other. ap all_of (other_first first c cs other) ∙ omega (arith, all_of-cons first (joined c cs), all_of-cons first (c ∷ cs), joined_sums c cs))

module _ (P : Pair → Type 0) (adds : (k : List Entry) (a b : ℕ) → P (k, a) → P (k, b) → P (k, a + b)) where
  -- what holds of each class holds of each that they are joined to
  pub joined_all : (first : Class) (cs : List Class) → P (class_of first) → All P (map class_of cs) → All P (map class_of (joined first cs))
  joined_all first [] here all = All-cons P (class_of first) [] here all
  joined_all first (c ∷ cs) here all =
      let next : P (class_of c) = All-head P (class_of c) (map class_of cs) all in
      let left : All P (map class_of cs) = All-tail P (class_of c) (map class_of cs) all in
      split c first
      (λ same is. subst (λ (l : List Class). All P (map class_of l)) (sym (same_first first c cs is))
      (joined_all (heavier first c.total) cs (adds first.inner first.total c.total here (subst (λ (k : List Entry). P (k, c.total)) same next)) left))
      (λ other. subst (λ (l : List Class). All P (map class_of l)) (sym (other_first first c cs other)) (All-cons P (class_of first) (map class_of (joined c cs)) here (joined_all c cs next left)))

total_shown : (cs : List Class) → sum_by (λ (c : Class). c.total) cs ≡ sum_by (λ (p : Pair). p.1) (map class_of cs)
total_shown [] = refl
total_shown (c ∷ cs) = sum_by-cons (λ (c : Class). c.total) c cs ∙ ap (λ (n : ℕ). c.total + n) (total_shown cs) ∙ sym (sum_by-cons (λ (p : Pair). p.1) (class_of c) (map class_of cs))

total_kept : (first : Class) (cs : List Class) → sum_by (λ (c : Class). c.total) (joined first cs) ≡ sum_by (λ (c : Class). c.total) (first ∷ cs)
total_kept first cs = total_shown (joined first cs) ∙ joined_sums (λ (k : List Entry) (n : ℕ). n) (λ k a b. refl) first cs ∙ sym (total_shown (first ∷ cs))

-- they are classes of the same columns
pub joined_classes : (columns : List (List Entry)) (first : Class) (cs : List Class) → ClassesOf columns (map class_of (first ∷ cs)) → ClassesOf columns (map class_of (joined first cs))
joined_classes columns first cs had =
    let each : (P : Pair → Type 0) → ((k : List Entry) (a b : ℕ) → P (k, a) → P (k, b) → P (k, a + b)) → All P (map class_of (first ∷ cs)) → All P (map class_of (joined first cs)) =
    λ P adds all. joined_all P adds first cs (All-head P (class_of first) (map class_of cs) all) (All-tail P (class_of first) (map class_of cs) all) in
    record {
      reduced = had.reduced;
      inners = each (λ (p : Pair). IsInner p.0) (λ k a b h g. h) had.inners;
      used = each (λ (p : Pair). 0 < p.1) (λ k a b h g. omega (arith, h)) had.used;
      whole = each (λ (p : Pair). total p.0 ∣ p.1) (λ k a b h g. dvd-add (total k) h g) had.whole;
      totals = λ inner is.
          joined_sums (λ (k : List Entry) (n : ℕ). if proportional k inner then n else 0) (λ k a b. if_adds (proportional k inner) a b) first cs ∙ had.totals inner is;
      mass = joined_sums (λ (k : List Entry) (n : ℕ). n) (λ k a b. refl) first cs ∙ had.mass;
      within = λ size below. each (λ (p : Pair). IsBelow size p.0) (λ k a b h g. h) (had.within size below);
    }

-- and so they are in any order
pub classes_permuted : (columns : List (List Entry)) (cs ds : List Class) → IsPermutation cs ds → ClassesOf columns (map class_of cs) → ClassesOf columns (map class_of ds)
classes_permuted columns cs ds same had =
    let pairs : IsPermutation (map class_of cs) (map class_of ds) = IsPermutation-map class_of cs ds same in
    let each : (P : Pair → Type 0) → All P (map class_of cs) → All P (map class_of ds) = λ P all. All-permutation P (map class_of cs) (map class_of ds) pairs all in
    let sum : (f : Pair → ℕ) → sum_by f (map class_of ds) ≡ sum_by f (map class_of cs) = λ f. sum_by-IsPermutation f (map class_of cs) (map class_of ds) pairs in
    record {
      reduced = had.reduced;
      inners = each (λ (p : Pair). IsInner p.0) had.inners;
      used = each (λ (p : Pair). 0 < p.1) had.used;
      whole = each (λ (p : Pair). total p.0 ∣ p.1) had.whole;
      totals = λ inner is. sum (λ (p : Pair). if proportional p.0 inner then p.1 else 0) ∙ had.totals inner is;
      mass = sum (λ (p : Pair). p.1) ∙ had.mass;
      within = λ size below. each (λ (p : Pair). IsBelow size p.0) (had.within size below);
    }

-- their totals sum to all weights
pub totals_sum : (columns : List (List Entry)) (cs : List Class) → ClassesOf columns (map class_of cs) → sum_by (λ (c : Class). c.total) cs ≡ mass columns
totals_sum columns cs had = total_shown cs ∙ had.mass

-- ---- the order

-- the second isn't before the first
abbrev Upto : List Entry → List Entry → Type 0
Upto u v = is_lt (list_order v u) ≡ false

abbrev Stairs : List Entry → List Class → Type 0
Stairs low [] = Unit {0}
Stairs low (c ∷ cs) = Upto low c.inner × Stairs c.inner cs

turned : (u v : List Entry) (o : Ordering) → list_order u v ≡ o → list_order v u ≡ ordering_reverse o
turned u v o h = list_total.antisymm v u ∙ ap ordering_reverse h

upto_cases : (u v : List Entry) → Upto u v → (list_order u v ≡ Less) ⊎ (list_order u v ≡ Equal)
upto_cases u v upto =
    ⊎_elim (λ (h : list_order u v ≡ Less). inl h)
    (⊎_elim (λ (h : list_order u v ≡ Equal). inr h)
    (λ (h : list_order u v ≡ Greater). let back : true ≡ false = sym (ap is_lt (turned u v Greater h)) ∙ upto in absurd (cc)))
    (orderings (list_order u v))

less_upto : (u v w : List Entry) → list_order u v ≡ Less → Upto v w → list_order u w ≡ Less
less_upto u v w less upto =
    ⊎_elim (λ (h : list_order v w ≡ Less). list_total.trans u v w less h) (λ (h : list_order v w ≡ Equal). subst (λ (l : List Entry). list_order u l ≡ Less) (same_list v w h) less) (upto_cases v w upto)

strictly : (u v : List Entry) → Upto u v → is_eq (list_order v u) ≡ false → list_order u v ≡ Less
strictly u v upto other =
    ⊎_elim (λ (h : list_order u v ≡ Less). h) (λ (h : list_order u v ≡ Equal). let back : true ≡ false = sym (ap is_eq (turned u v Equal h)) ∙ other in absurd (cc)) (upto_cases u v upto)

abbrev inners_of : List Class → List (List Entry)
inners_of cs = map (λ (p : Pair). p.0) (map class_of cs)

all_after : (low : List Entry) (c : Class) (cs : List Class) → list_order low c.inner ≡ Less → Stairs c.inner cs → AllByRecursion (λ (k : List Entry). list_order low k ≡ Less) (inners_of (joined c cs))
all_after low c [] less stairs = (less, tt)
all_after low c (d ∷ ds) less (upto, stairs) =
    split d c
    (λ same is. subst (λ (l : List Class). AllByRecursion (λ (k : List Entry). list_order low k ≡ Less) (inners_of l)) (sym (same_first c d ds is))
    (all_after low (heavier c d.total) ds less (subst (λ (k : List Entry). Stairs k ds) same stairs)))
    (λ other. subst (λ (l : List Class). AllByRecursion (λ (k : List Entry). list_order low k ≡ Less) (inners_of l)) (sym (other_first c d ds other))
    (less, all_after low d ds (less_upto low c.inner d.inner less upto) stairs))

pub joined_ascending : (first : Class) (cs : List Class) → Stairs first.inner cs → AreAscending (map class_of (joined first cs))
unfolding IsStrictlySortedBy
joined_ascending first [] stairs = (tt, tt)
joined_ascending first (c ∷ cs) (upto, stairs) =
    split c first
    (λ same is. subst (λ (l : List Class). AreAscending (map class_of l)) (sym (same_first first c cs is)) (joined_ascending (heavier first c.total) cs (subst (λ (k : List Entry). Stairs k cs) same stairs)))
    (λ other. subst (λ (l : List Class). AreAscending (map class_of l)) (sym (other_first first c cs other))
    (all_after first.inner c cs (strictly first.inner c.inner upto other) stairs, joined_ascending c cs stairs))

-- the test by which classes are sorted
abbrev pub before : Class → Class → Bool
before a b = is_lt (list_order a.inner b.inner)

stairs : (low : Class) (cs : List Class) → ((i j : ℕ) (d : Class) → i ≤ j → j < length (low ∷ cs) → before (get_or (low ∷ cs) j d) (get_or (low ∷ cs) i d) ≡ false) → Stairs low.inner cs
stairs low [] rises = tt
stairs low (c ∷ cs) rises = (rises 0 1 low (omega arith) (omega arith), stairs c cs (λ i j d order within. rises (suc i) (suc j) d (omega (arith, order)) (omega (arith, within))))

none_ascends : AreAscending []
unfolding IsStrictlySortedBy
none_ascends = tt

-- ---- all turns

same_class : (a b : Class) → a.inner ≡ b.inner → a.whole ≡ b.whole → a.total ≡ b.total → a ≡ b
same_class a b inner whole all = λ i. record {
  inner = inner i;
  whole = whole i;
  total = all i;
  summed = is_prop→PathP (λ j. whole j ≡ total (inner j)) (λ j. hlevel props) a.summed b.summed i;
}

-- so far, the classes up to `last` are joined, and those from `i` on are as at the start
pub record HalfJoined (start : List Class) (last i : ℕ) (cs : List Class) : Type 0 where
  pub before : last < i
  pub near : last ≤ length start - 1
  pub as_long : length cs ≡ length start
  pub joined : half_joined last i cs ≡ half_joined 0 1 start

pub not_begun : (start : List Class) → HalfJoined start 0 1 start
not_begun start = record { before = omega arith; near = omega arith; as_long = refl; joined = refl }

module _ (start cs now : List Class) (last i then' : ℕ) (first c : Class) (had : HalfJoined start last i cs) (within : i < length start) (first_is : first ≡ get_or cs last first) (c_is : c ≡ get_or cs i c) where
  inside : i < length cs
  inside = rw had.as_long within

  -- `others` and `d` are read once more
  pub turn_same : (others d new : Class) → is_same c first ≡ true → others ≡ get_or cs last others → d ≡ get_or cs i d → new.inner ≡ others.inner → new.whole ≡ others.whole → new.total ≡ others.total + d.total
      → now ≡ set cs last new → then' ≡ last → HalfJoined start then' (i + 1) now
  turn_same others d new same others_is d_is inner whole all put at' =
      let one : others ≡ first = others_is ∙ get_or_default cs last others first (omega (arith, had.before, inside)) ∙ sym first_is in
      let two : d ≡ c = d_is ∙ get_or_default cs i d c inside ∙ sym c_is in
      let new_is : new ≡ heavier first c.total =
      same_class new (heavier first c.total) (inner ∙ ap (λ (x : Class). x.inner) one) (whole ∙ ap (λ (x : Class). x.whole) one) (all ∙ (λ k. (one k).total + (two k).total)) in
      let now_is : now ≡ set cs last (heavier first c.total) = put ∙ ap (set cs last) new_is in
      record {
        before = omega (arith, at', had.before);
        near = omega (arith, at', had.near);
        as_long = ap length now_is ∙ length-set cs last (heavier first c.total) ∙ had.as_long;
        joined = (λ k. half_joined (at' k) (i + 1) (now_is k)) ∙ join_same cs last i first c first_is c_is had.before inside same ∙ had.joined;
      }

  pub turn_other : is_same c first ≡ false → now ≡ swap cs (last + 1) i → then' ≡ last + 1 → HalfJoined start then' (i + 1) now
  turn_other other put at' = record {
    before = omega (arith, at', had.before);
    near = omega (arith, at', had.before, within);
    as_long = ap length put ∙ length-swap cs (last + 1) i ∙ had.as_long;
    joined = (λ k. half_joined (at' k) (i + 1) (put k)) ∙ join_other cs last i first c first_is c_is had.before inside other ∙ had.joined;
  }

  half_total : sum_by (λ (c : Class). c.total) (half_joined 0 1 start) ≡ sum_by (λ (c : Class). c.total) start
  half_total = by start (omega (arith, within))
    where
      by : (s : List Class) → 0 < length s → sum_by (λ (c : Class). c.total) (half_joined 0 1 s) ≡ sum_by (λ (c : Class). c.total) s
      by [] some = absurd (omega (arith, some))
      by (x ∷ xs) some = total_kept x xs

  -- the next total fits where all do
  pub pair_fits : first.total + c.total ≤ sum_by (λ (c : Class). c.total) start
  pair_fits =
      let one : get_or cs last nothing ≡ first = get_or_default cs last nothing first (omega (arith, had.before, inside)) ∙ sym first_is in
      let two : drop i cs ≡ c ∷ drop (suc i) cs = drop-cons cs i c inside ∙ ap (λ (d : Class). d ∷ drop (suc i) cs) (sym c_is) in
      let all : List Class → ℕ = sum_by (λ (c : Class). c.total) in
      omega (
        arith,
        sum_by-append (λ (c : Class). c.total) (take last cs) (joined (get_or cs last nothing) (drop i cs)),
        total_kept (get_or cs last nothing) (drop i cs),
        sum_by-cons (λ (c : Class). c.total) (get_or cs last nothing) (drop i cs),
        ap (λ (x : Class). x.total) one,
        ap all two,
        sum_by-cons (λ (c : Class). c.total) c (drop (suc i) cs),
        ap all had.joined,
        half_total,
      )

module _ (start cs : List Class) (last i : ℕ) (had : HalfJoined start last i cs) (past : length start ≤ i) where
  -- what is left of a list that isn't empty
  done : (first : Class) (rest : List Class) → start ≡ first ∷ rest → take (last + 1) cs ≡ joined first rest
  done first rest is =
      let long : length start ≡ length (first ∷ rest) = ap length is in
      sym (all_joined last i cs (omega (arith, had.as_long, had.near, long)) (omega (arith, had.as_long, past))) ∙ had.joined ∙ ap (half_joined 0 1) is

  nothing_done : start ≡ [] → take (last + 1) cs ≡ []
  nothing_done is = take_none cs (had.as_long ∙ ap length is)
    where
      take_none : (cs : List Class) → length cs ≡ 0 → take (last + 1) cs ≡ []
      take_none [] none = rw add-one refl
      take_none (c ∷ cs) none = absurd (omega (arith, none))

  pub kept_classes : (columns : List (List Entry)) → ClassesOf columns (map class_of start) → ClassesOf columns (map class_of (take (last + 1) cs))
  kept_classes columns had' = by start refl
    where
      by : (s : List Class) → start ≡ s → ClassesOf columns (map class_of (take (last + 1) cs))
      by [] is = subst (λ (l : List Class). ClassesOf columns (map class_of l)) (is ∙ sym (nothing_done is)) had'
      by (first ∷ rest) is =
          subst (λ (l : List Class). ClassesOf columns (map class_of l)) (sym (done first rest is)) (joined_classes columns first rest (subst (λ (l : List Class). ClassesOf columns (map class_of l)) is had'))

  pub now_ascending : IsSortedBy before start → AreAscending (map class_of (take (last + 1) cs))
  now_ascending sorted = by start refl
    where
      by : (s : List Class) → start ≡ s → AreAscending (map class_of (take (last + 1) cs))
      by [] is = subst (λ (l : List Class). AreAscending (map class_of l)) (sym (nothing_done is)) none_ascends
      by (first ∷ rest) is =
          subst (λ (l : List Class). AreAscending (map class_of l)) (sym (done first rest is))
          (joined_ascending first rest (stairs first rest (sorted_far before (ranks_by list_total (λ (c : Class). c.inner)) (first ∷ rest) (subst (IsSortedBy before) is sorted))))
